-- A function at arguments, taken apart; and the steps of a walk along them.
use Rattle.std.proofs.Common.{max, ◌≡◌, ◌<◌, ◌≤◌, ◌+◌, ◌++◌, ℕ, refl, sym, ap, subst, arith, List, [], ◌∷◌, length}
use Rattle.std.specs.List.{AllByRecursion}
use Rattle.core_rules.specs.declared.Flag.{Flag}
use Rattle.core_rules.specs.Term.{Term, App, size}
use Rattle.core_rules.specs.Signature.{Signature}
use Rattle.core_rules.specs.Substitution.{over as traversed}
use Rattle.core_rules.specs.InScope.{InScope, any_meta}
use Rattle.term_pool.specs.Pool.{Pool}
use Rattle.term_pool.specs.Placed.{filled, filled_var}
use Rattle.kernel_rules.specs.Outcome.{Gives, Refuses}
use Rattle.core_kernel.specs.declared.error.KernelError.{KernelError}
use Rattle.core_kernel.specs.declared.spine.Argument.{Argument}
use Rattle.core_kernel.specs.Answers.{RefusedBy}
use Rattle.core_kernel.specs.declared.checker.Checker.{Checker}
use Rattle.core_kernel.specs.declared.spine.Spine as S
use Rattle.core_kernel.specs.Checker.{Over, Grows, Keeps, Infers, Checks, IsReady, IsTerm, ShowsParts, signature_of, term_of}
use Rattle.core_kernel.specs.Spine.{IsSpine, unwound}
use Rattle.core_kernel.proofs.Checking.{app-no_function, app-gives, is_term_kept, term_kept}
use Rattle.core_kernel.proofs.Filling.{filled_more}

-- a function that is itself at an argument
pub unwound-push : (f : ℕ → Term) (h : Term) (xs : List Argument) (a : Argument) → unwound f h (xs ++ a ∷ []) ≡ unwound f (App a.flag h (f a.term)) xs
unwound-push f h [] a = refl
unwound-push f h (b ∷ xs) a = ap (λ t. App b.flag t (f b.term)) (unwound-push f h xs a)

module _ (g : Signature Term) (n : ℕ) (f : ℕ → Term) where
  pub scope-head : (h : Term) (xs : List Argument) → InScope g any_meta n (unwound f h xs) → InScope g any_meta n h
  scope-head h [] s = s
  scope-head h (a ∷ xs) s = scope-head h xs s.0

  pub scope-arguments : (h : Term) (xs : List Argument) → InScope g any_meta n (unwound f h xs) → AllByRecursion (λ (a : Argument). InScope g any_meta n (f a.term)) xs
  scope-arguments h [] s = tt
  scope-arguments h (a ∷ xs) s = (s.1, scope-arguments h xs s.0)

-- the size of the greatest argument
abbrev pub most : (ℕ → Term) → List Argument → ℕ
most f [] = 0
most f (a ∷ xs) = max (size (f a.term)) (most f xs)

module _ (f : ℕ → Term) where
  pub size-head : (h : Term) (xs : List Argument) → size h ≤ size (unwound f h xs)
  size-head h [] = omega arith
  size-head h (a ∷ xs) = omega (arith, size-head h xs)

  pub size-arguments : (h : Term) (xs : List Argument) (n : ℕ) → size (unwound f h xs) ≤ n → AllByRecursion (λ (a : Argument). size (f a.term) < n) xs
  size-arguments h [] n l = tt
  size-arguments h (a ∷ xs) n l = (omega (arith, l), size-arguments h xs n (omega (arith, l)))

  pub size-head-below : (h : Term) (xs : List Argument) → 0 < length xs → size h < size (unwound f h xs)
  size-head-below h [] l = absurd (omega (arith, l))
  size-head-below h (a ∷ xs) l = omega (arith, size-head h xs)

  most-within : (n : ℕ) (xs : List Argument) → AllByRecursion (λ (a : Argument). size (f a.term) < n + 1) xs → most f xs ≤ n
  most-within n [] a = omega arith
  most-within n (x ∷ xs) a = let r = most-within n xs a.1 in omega (arith, r, a.0)

-- what is known of a function that was taken apart
module _ (x : Checker) (b : Flag) (fun arg : ℕ) (s : S.Spine) (i : IsSpine x.pool.now b fun arg s) (t : IsTerm x fun) (u : IsTerm x arg) where
  spine-scope : InScope (signature_of x) any_meta (length x.context.now.items) (unwound (term_of x) (term_of x s.head) s.arguments.items)
  spine-scope = subst (λ w. InScope (signature_of x) any_meta (length x.context.now.items) w) i.is (t.scope, u.scope)

  pub head-term : IsTerm x s.head
  head-term = record { within = i.head; scope = scope-head (signature_of x) (length x.context.now.items) (term_of x) (term_of x s.head) s.arguments.items spine-scope }

  pub argument-terms : AllByRecursion (λ (a : Argument). IsTerm x a.term) s.arguments.items
  argument-terms = both s.arguments.items i.arguments (scope-arguments (signature_of x) (length x.context.now.items) (term_of x) (term_of x s.head) s.arguments.items spine-scope)
    where
      both : (xs : List Argument) → AllByRecursion (λ (a : Argument). a.term < length x.pool.now.trees) xs → AllByRecursion (λ (a : Argument). InScope (signature_of x) any_meta (length x.context.now.items) (term_of x a.term)) xs → AllByRecursion (λ (a : Argument). IsTerm x a.term) xs
      both [] l k = tt
      both (a ∷ xs) l k = (record { within = l.0; scope = k.0 }, both xs l.1 k.1)

  spine-size : size (unwound (term_of x) (term_of x s.head) s.arguments.items) ≡ 1 + size (term_of x fun) + size (term_of x arg)
  spine-size = sym (ap size i.is)

  pub head-smaller : size (term_of x s.head) ≤ size (term_of x fun) + size (term_of x arg)
  head-smaller = let l = size-head-below (term_of x) (term_of x s.head) s.arguments.items i.some in omega (arith, l, spine-size)

  pub most-smaller : most (term_of x) s.arguments.items ≤ size (term_of x fun) + size (term_of x arg)
  most-smaller =
      let n : ℕ = size (term_of x fun) + size (term_of x arg) in
      most-within (term_of x) n s.arguments.items (size-arguments (term_of x) (term_of x s.head) s.arguments.items (n + 1) (omega (arith, spine-size)))

-- a refusal of a function is that of the function at more arguments
pub refused-unwound : (o : Over) (f : ℕ → Term) (h : Term) (xs : List Argument) (p : Pool) (e : KernelError) → RefusedBy p (λ r. Infers o h (Refuses r)) e → RefusedBy p (λ r. Infers o (unwound f h xs) (Refuses r)) e
refused-unwound o f h [] p e k = k
refused-unwound o f h (a ∷ xs) p e k = app-no_function o a.flag (unwound f h xs) (f a.term) p e (refused-unwound o f h xs p e k)

-- the step: the function at the next argument has the codomain, under one argument more
pub next-typed : (o : Over) (b : Flag) (h u a s v : Term) (r : List Term) → Infers o h (Gives a) → ShowsParts o b a (Gives (s, traversed (filled_var r) 1 v)) → Checks o u s (Gives tt) → Infers o (App b h u) (Gives (filled (u ∷ r) v))
next-typed o b h u a s v r typed parts checked = let w : Term × Term = (s, traversed (filled_var r) 1 v) in app-gives o b h u a typed w parts checked (filled (u ∷ r) v) (sym (filled_more r v u))

-- the arguments after a call
module _ {x y : Checker} (r : IsReady x) (g : Grows x y) (k : Keeps x y) where
  pub arguments_kept : (xs : List Argument) → AllByRecursion (λ (a : Argument). IsTerm x a.term) xs → AllByRecursion (λ (a : Argument). IsTerm y a.term) xs
  arguments_kept [] h = tt
  arguments_kept (a ∷ xs) h = (is_term_kept r g k a.term h.0, arguments_kept xs h.1)

  pub unwound_kept : (h : Term) (xs : List Argument) → AllByRecursion (λ (a : Argument). IsTerm x a.term) xs → unwound (term_of y) h xs ≡ unwound (term_of x) h xs
  unwound_kept h [] l = refl
  unwound_kept h (a ∷ xs) l = let e = term_kept r g k a.term l.0.within in let f = unwound_kept h xs l.1 in cc (e, f)

  pub most_kept : (xs : List Argument) → AllByRecursion (λ (a : Argument). IsTerm x a.term) xs → most (term_of y) xs ≡ most (term_of x) xs
  most_kept [] l = refl
  most_kept (a ∷ xs) l = let e = term_kept r g k a.term l.0.within in let f = most_kept xs l.1 in cc (e, f)
