-- Binders that are entered one after the other.
use Rattle.std.proofs.Common.{◌≡◌, ◌<◌, ℕ, max, List, [], ◌∷◌, ◌++◌, append_assoc, length, refl, sym, ap, subst, ◌∙◌}
use Rattle.std.proofs.lemmas.List.{append-nil}
use Rattle.core_rules.specs.declared.Flag.{Flag}
use Rattle.core_rules.specs.Term.{Term, Lam, Pi}
use Rattle.core_rules.specs.Substitution.{shift}
use Rattle.core_rules.specs.Signature.{Entry}
use Rattle.term_pool.specs.Pool.{Pool}
use Rattle.kernel_rules.specs.Outcome.{Outcome, Gives, Refuses}
use Rattle.el_outside.specs.declared.place.Pos.{Pos}
use Rattle.resolved_tree.specs.declared.resolved.ResolvedName.{ResolvedName}
use Rattle.written_rules.specs.Refusals.{Refusal}
use Rattle.written_rules.specs.Asking.{Reads, ◌>>=◌, gives}
use Rattle.written_rules.specs.Rules.{Values, Checks, Types, binding, known, function_wanted, agrees, typed_lambda, untyped_lambda, grouped}
use Rattle.written_rules.specs.Expressions.{ids}
use Rattle.elab_machine.specs.declared.writer.Writer.{Writer}
use Rattle.elab_machine.specs.declared.error.WrittenError.{WrittenError}
use Rattle.elab_machine.specs.Answers.{RefusedBy}
use Rattle.elab_machine.specs.Binders.{in_lambdas, in_functions}
use Rattle.elab_machine.specs.Writer.{IsReady, Grows, Keeps, Enters, IsEntered, IsFurther, Over, Read, term_of, values_of}
use Rattle.elab_machine.proofs.Kept.{ready_kept, values_kept, term_kept}
use Rattle.elab_machine.proofs.Reading.{read-next, read-last, refused-first, refused-next}

pub Enters-refl : (x : Writer) → IsReady x → Enters x x
Enters-refl x r = record { signature = refl; limits = refl; more = []; values = sym (append-nil x.values.now.items); ready = r }

pub Enters-trans : {x y z : Writer} → Enters x y → Enters y z → Enters x z
Enters-trans {x} {y} {z} h k = record {
  signature = k.signature ∙ h.signature;
  limits = k.limits ∙ h.limits;
  more = h.more ++ k.more;
  values = k.values ∙ (ap (λ vs. vs ++ k.more) h.values ∙ append_assoc x.values.now.items h.more k.more);
  ready = k.ready;
}

-- after a call that enters nothing
pub enters_kept : {x y z : Writer} → Enters x y → Grows y z → Keeps y z → Enters x z
enters_kept h g k = record { signature = k.signature ∙ h.signature; limits = k.limits ∙ h.limits; more = h.more; values = k.values ∙ h.values; ready = ready_kept h.ready g k }

pub kept_enters : {x y z : Writer} → Keeps x y → Enters y z → Enters x z
kept_enters k h = record { signature = h.signature ∙ k.signature; limits = h.limits ∙ k.limits; more = h.more; values = h.values ∙ ap (λ vs. vs ++ h.more) k.values; ready = h.ready }

-- what is entered after a call is entered before it
pub entered_before : {x y z : Writer} (r : IsReady x) (g : Grows x y) (k : Keeps x y) (n a : ℕ) (more : List ResolvedName) (t : ℕ) → a < length x.pool.now.trees → IsEntered y z n a more t → IsEntered x z n a more t
entered_before {x} {y} {z} r g k n a more t l h =
    let e : term_of y a ≡ term_of x a = term_kept r g k a l in
    record {
      enters = kept_enters k h.enters;
      values = h.values ∙ (ap (λ u. binding n u (values_of y)) e ∙ ap (binding n (term_of x a)) (values_kept r g k));
      within = h.within;
      ty = subst (λ (u : Term). IsFurther more u (term_of z t)) e h.ty;
    }

-- ---- names of a group

-- the type of the names that are left counts only if there is one
module _ (o : Over) (f : Flag) (more : List ResolvedName) (a t : Term) (n : ℕ) (vs : Values) (h : IsFurther more a t) where
  pub grouped-further : (e : Types) (r : Outcome Refusal (Term × ℕ)) → Read o (grouped f (ids more) (known t n) e vs) r → Read o (grouped f (ids more) (known (shift a 0 1) n) e vs) r
  grouped-further e r k = of more h k
    where
      of : (xs : List ResolvedName) → IsFurther xs a t → Read o (grouped f (ids xs) (known t n) e vs) r → Read o (grouped f (ids xs) (known (shift a 0 1) n) e vs) r
      of [] i l = l
      of (x ∷ xs) i l = subst (λ (u : Term). Read o (grouped f (ids (x ∷ xs)) (known u n) e vs) r) i l

  pub typed-further : (p : Pos) (e : Checks) (b : Term) (r : Outcome Refusal Term) → Read o (typed_lambda p f (ids more) (known t n) e vs b) r → Read o (typed_lambda p f (ids more) (known (shift a 0 1) n) e vs b) r
  typed-further p e b r k = of more h k
    where
      of : (xs : List ResolvedName) → IsFurther xs a t → Read o (typed_lambda p f (ids xs) (known t n) e vs b) r → Read o (typed_lambda p f (ids xs) (known (shift a 0 1) n) e vs b) r
      of [] i l = l
      of (x ∷ xs) i l = subst (λ (u : Term). Read o (typed_lambda p f (ids (x ∷ xs)) (known u n) e vs b) r) i l

module _ (o : Over) (f : Flag) (x : ℕ) (xs : List ℕ) (a : Term) (n : ℕ) (vs : Values) where
  abbrev pub this : Entry Term
  this = record { name = x; flag = f; ty = a }

  -- of a function type
  module _ (e : Types) where
    pub grouped-next : (A : Types) → Read o (A vs) (Gives (a, n)) → (r : Outcome Refusal (Term × ℕ)) → Read o (grouped f xs (known (shift a 0 1) n) e (binding x a vs)) r → Read o (grouped f (x ∷ xs) A e vs) (in_functions (this ∷ []) n r)
    grouped-next A s (Gives c) h = read-next o (A vs) _ (a, n) (in_functions (this ∷ []) n (Gives c)) s (read-last o (grouped f xs (known (shift a 0 1) n) e (binding x a vs)) (λ (c : Term × ℕ). (Pi f x a c.0, max n c.1)) (Gives c) h)
    grouped-next A s (Refuses d) h = read-next o (A vs) _ (a, n) (in_functions (this ∷ []) n (Refuses d)) s (read-last o (grouped f xs (known (shift a 0 1) n) e (binding x a vs)) (λ (c : Term × ℕ). (Pi f x a c.0, max n c.1)) (Refuses d) h)

  -- of a lambda, which is checked at a function type
  module _ (p : Pos) (b : Term) (A : Types) where
    abbrev pub after_type : Checks → Term × Term → Term × ℕ → Reads Term
    after_type e w t = agrees p t.0 w.0 >>= (λ o. typed_lambda p f xs (known (shift t.0 0 1) t.1) e (binding x t.0 vs) w.1 >>= (λ u. gives (Lam f x t.0 u)))

    abbrev pub after_function : Checks → Term × Term → Reads Term
    after_function e w = A vs >>= after_type e w

    pub typed-no_function : (e : Checks) (q : Pool) (d : WrittenError) → RefusedBy q (λ r. Read o (function_wanted p f b) (Refuses r)) d → RefusedBy q (λ r. Read o (typed_lambda p f (x ∷ xs) A e vs b) (Refuses r)) d
    typed-no_function e q d h = refused-first o (function_wanted p f b) (after_function e) q d h

    module _ (w : Term × Term) (s : Read o (function_wanted p f b) (Gives w)) where
      pub typed-no_type : (e : Checks) (q : Pool) (d : WrittenError) → RefusedBy q (λ r. Read o (A vs) (Refuses r)) d → RefusedBy q (λ r. Read o (typed_lambda p f (x ∷ xs) A e vs b) (Refuses r)) d
      typed-no_type e q d h = refused-next o (function_wanted p f b) (after_function e) w s q d (refused-first o (A vs) (after_type e w) q d h)

      module _ (t : Read o (A vs) (Gives (a, n))) where
        pub typed-other : (e : Checks) (q : Pool) (d : WrittenError) → RefusedBy q (λ r. Read o (agrees p a w.0) (Refuses r)) d → RefusedBy q (λ r. Read o (typed_lambda p f (x ∷ xs) A e vs b) (Refuses r)) d
        typed-other e q d h =
            refused-next o (function_wanted p f b) (after_function e) w s q d (refused-next o (A vs) (after_type e w) (a, n) t q d (refused-first o (agrees p a w.0) _ q d h))

        pub typed-next : Read o (agrees p a w.0) (Gives tt) → (e : Checks) (r : Outcome Refusal Term) → Read o (typed_lambda p f xs (known (shift a 0 1) n) e (binding x a vs) w.1) r
            → Read o (typed_lambda p f (x ∷ xs) A e vs b) (in_lambdas (this ∷ []) r)
        typed-next c e r h =
            read-next o (function_wanted p f b) (after_function e) w (in_lambdas (this ∷ []) r) s (read-next o (A vs) (after_type e w) (a, n) (in_lambdas (this ∷ []) r) t
            (read-next o (agrees p a w.0) _ tt (in_lambdas (this ∷ []) r) c (last r h)))
          where
            last : (r : Outcome Refusal Term) → Read o (typed_lambda p f xs (known (shift a 0 1) n) e (binding x a vs) w.1) r → Read o (typed_lambda p f xs (known (shift a 0 1) n) e (binding x a vs) w.1 >>= (λ u. gives (Lam f x a u))) (in_lambdas (this ∷ []) r)
            last (Gives u) h = read-last o _ (λ u. Lam f x a u) (Gives u) h
            last (Refuses d) h = read-last o _ (λ u. Lam f x a u) (Refuses d) h

-- a lambda without a type
pub untyped-next : (o : Over) (p : Pos) (f : Flag) (x : ℕ) (vs : Values) (b : Term) (w : Term × Term) → Read o (function_wanted p f b) (Gives w) → (e : Checks) (r : Outcome Refusal Term) → Read o (e (binding x w.0 vs) w.1) r
    → Read o (untyped_lambda p f x e vs b) (in_lambdas (record { name = x; flag = f; ty = w.0 } ∷ []) r)
untyped-next o p f x vs b w s e (Gives u) h = read-next o (function_wanted p f b) _ w _ s (read-last o (e (binding x w.0 vs) w.1) (λ u. Lam f x w.0 u) (Gives u) h)
untyped-next o p f x vs b w s e (Refuses d) h = read-next o (function_wanted p f b) _ w _ s (read-last o (e (binding x w.0 vs) w.1) (λ u. Lam f x w.0 u) (Refuses d) h)
