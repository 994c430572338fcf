-- Argument lists whose items are held last first: their sizes, scope and environment.
use Rattle.std.proofs.Common.{max, ◌≡◌, ◌<◌, ◌≤◌, ℕ, zero, suc, sym, ap, subst, ◌∙◌, arith, List, [], ◌∷◌, length, map}
use Rattle.std.specs.Prelude.{slice_get, Some, reverse}
use Rattle.std.specs.List.{AllByRecursion}
use Rattle.std.proofs.lemmas.List.{reverse-reverse}
use Rattle.el_base.proofs.Lists.{map-reverse}
use Rattle.el_base.proofs.Throughout.{all-from_reversed}
use Rattle.core_rules.specs.Term.{Term, Terms, from_list, size, size_all}
use Rattle.core_rules.specs.Signature.{Signature}
use Rattle.core_rules.specs.InScope.{InScope, AllInScope, any_meta}
use Rattle.core_kernel.specs.declared.checker.Checker.{Checker}
use Rattle.core_kernel.specs.Checker.{IsTerm, signature_of, term_of}

-- the size of the greatest
abbrev pub most_of : (ℕ → Term) → List ℕ → ℕ
most_of f [] = 0
most_of f (t ∷ ts) = max (size (f t)) (most_of f ts)

pub most-at : (f : ℕ → Term) (ts : List ℕ) (i t : ℕ) → slice_get ts i ≡ Some t → size (f t) ≤ most_of f ts
most-at f [] i t g = absurd cc
most-at f (x ∷ ts) zero t g = let e : x ≡ t = cc g in let s : size (f x) ≡ size (f t) = ap (λ y. size (f y)) e in omega (arith, s)
most-at f (x ∷ ts) (suc i) t g = let r = most-at f ts i t g in omega (arith, r)

below-all : (n : ℕ) (us : List Term) → size_all (from_list us) ≤ n → AllByRecursion (λ u. size u ≤ n) us
below-all n [] l = tt
below-all n (u ∷ us) l = (omega (arith, l), below-all n us (omega (arith, l)))

most-below : (f : ℕ → Term) (n : ℕ) (ts : List ℕ) → AllByRecursion (λ u. size u ≤ n) (map f ts) → most_of f ts ≤ n
most-below f n [] a = omega arith
most-below f n (t ∷ ts) a = let r = most-below f n ts a.1 in omega (arith, r, a.0)

pub most-items : (f : ℕ → Term) (ts : List ℕ) (xs : Terms) → from_list (reverse (map f ts)) ≡ xs → most_of f ts ≤ size_all xs
most-items f ts xs e =
    let n : ℕ = size_all xs in
    let b : size_all (from_list (reverse (map f ts))) ≤ n = let s = ap size_all e in omega (arith, s) in
    most-below f n ts (all-from_reversed (λ u. size u ≤ n) (map f ts) [] (below-all n (reverse (map f ts)) b)).0

scoped-all : (g : Signature Term) (n : ℕ) (us : List Term) → AllInScope g any_meta n (from_list us) → AllByRecursion (InScope g any_meta n) us
scoped-all g n [] a = tt
scoped-all g n (u ∷ us) a = (a.0, scoped-all g n us a.1)

pub scoped-items : (g : Signature Term) (n : ℕ) (us : List Term) (xs : Terms) → from_list (reverse us) ≡ xs → AllInScope g any_meta n xs → AllByRecursion (InScope g any_meta n) us
scoped-items g n us xs e a = (all-from_reversed (InScope g any_meta n) us [] (scoped-all g n (reverse us) (subst (AllInScope g any_meta n) (sym e) a))).0

-- ids whose terms are in scope
pub terms-all : (x : Checker) (ts : List ℕ) (xs : Terms) → AllByRecursion (λ i. i < length x.pool.now.trees) ts → from_list (reverse (map (term_of x) ts)) ≡ xs → AllInScope (signature_of x) any_meta (length x.context.now.items) xs → AllByRecursion (IsTerm x) ts
terms-all x ts xs within e scope = both ts within (scoped-items (signature_of x) (length x.context.now.items) (map (term_of x) ts) xs e scope)
  where
    both : (ids : List ℕ) → AllByRecursion (λ i. i < length x.pool.now.trees) ids → AllByRecursion (InScope (signature_of x) any_meta (length x.context.now.items)) (map (term_of x) ids) → AllByRecursion (IsTerm x) ids
    both [] l k = tt
    both (i ∷ ids) l k = (record { within = l.0; scope = k.0 }, both ids l.1 k.1)

-- ids of items, turned over
pub turned : (f : ℕ → Term) (ids ts : List ℕ) → ts ≡ reverse ids → reverse (map f ts) ≡ map f ids
turned f ids ts e = ap (λ xs. reverse (map f xs)) e ∙ (ap reverse (map-reverse f ids) ∙ reverse-reverse (map f ids))

pub turned-is : (f : ℕ → Term) (ids ts : List ℕ) (xs : Terms) → ts ≡ reverse ids → from_list (map f ids) ≡ xs → from_list (reverse (map f ts)) ≡ xs
turned-is f ids ts xs e h = ap from_list (turned f ids ts e) ∙ h
