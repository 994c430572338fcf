-- Each term in scope has an outcome.
use Rattle.std.proofs.Common.{◌≡◌, ◌<◌, ◌+◌, ℕ, zero, suc, refl, sym, arith, max, List, [], ◌∷◌, length}
use Rattle.std.specs.Prelude.{slice_get, Some}
use Rattle.core_rules.specs.Term.{Term, Terms, Var, Sort, Pi, Lam, App, Def, Fam, Con, Proj, Meta, End, And, to_list, env_of}
use Rattle.core_rules.specs.Substitution.{shift, under, subst as put}
use Rattle.core_rules.specs.Signature.{Telescope, Context, Signature, FamDecl, Postulate, Family, Open, Function, defs, fams, def_type}
use Rattle.core_rules.specs.Elimination.{fam_type, con_type}
use Rattle.core_rules.specs.Typing.{entry, field_env}
use Rattle.core_rules.specs.InScope.{InScope, AllInScope, any_meta}
use Rattle.core_rules.specs.BoundedLaws.{no_solutions}
use Rattle.core_rules.specs.Heads.{Bounded, HeadOf}
use Rattle.core_rules.proofs.Heads.Needed.{head_of_stands, verdict_stands}
use Rattle.core_rules.proofs.Heads.Same.{nothing_acyclic}
use Rattle.kernel_rules.specs.Outcome.{Outcome, Gives, Refuses, ThenAs, Then, goes_on, stops}
use Rattle.kernel_rules.specs.TermReading.{form_shown, spine_shown, sort_level, function_parts, record_params, agreement, sort_of_sort, ShowsForm, ShowsRecord, Agrees, IsTypeBy, ChecksBy, InferOf, IsTypeOf, CheckOf, FitsOf}
use Rattle.kernel_rules.specs.Refusals.{Refusal, MetaLeft}
use Rattle.core_rules.proofs.Scope.Named.{is_con_at, is_field_at}

abbrev pub HasOutcome : {E A : Type 0} → (Outcome E A → Type 0) → Type 0
HasOutcome {E} {A} P = (r : Outcome E A) × P r

then-by : {E F A B : Type 0} (f : E → F) (P : Outcome E A → Type 0) (Q : A → Outcome F B → Type 0) (o : Outcome E A) → P o → ((a : A) → P (Gives a) → HasOutcome (Q a)) → HasOutcome (ThenAs f P Q)
then-by f P Q (Gives a) p k = let q = k a p in (q.0, goes_on a p q.1)
then-by f P Q (Refuses e) p k = (Refuses (f e), stops e p refl)

pub then-outcome : {E F A B : Type 0} {f : E → F} {P : Outcome E A → Type 0} {Q : A → Outcome F B → Type 0} → HasOutcome P → ((a : A) → P (Gives a) → HasOutcome (Q a)) → HasOutcome (ThenAs f P Q)
then-outcome {f = f} {P = P} {Q = Q} p k = then-by f P Q p.0 p.1 k

at_place : {A : Type 0} (xs : List A) (i : ℕ) → i < length xs → (x : A) × (slice_get xs i ≡ Some x)
at_place [] i l = absurd (omega (arith, l))
at_place (x ∷ xs) zero l = (x, refl)
at_place (x ∷ xs) (suc i) l = at_place xs i (omega (arith, l))

-- each declaration among the postulates and functions has a type
typed_defs : (g : Signature Term) (f : ℕ) → f < length (defs g) → (a : Term) × (def_type g f ≡ Some a)
typed_defs [] f l = absurd (omega (arith, l))
typed_defs (Postulate x a ∷ g) zero l = (a, refl)
typed_defs (Postulate x a ∷ g) (suc f) l = typed_defs g f (omega (arith, l))
typed_defs (Open x a ∷ g) zero l = (a, refl)
typed_defs (Open x a ∷ g) (suc f) l = typed_defs g f (omega (arith, l))
typed_defs (Function x a qs T ∷ g) zero l = (a, refl)
typed_defs (Function x a qs T ∷ g) (suc f) l = typed_defs g f (omega (arith, l))
typed_defs (Family d ∷ g) f l = typed_defs g f l

module _ (g : Signature Term) (fuel depth : ℕ) where
  pub seen-outcome : {A : Type 0} (f : Bounded → Outcome Refusal A) (a : Term) → HasOutcome (λ r. (b : Bounded) × HeadOf g no_solutions a fuel b × (r ≡ f b))
  seen-outcome f a = let h = head_of_stands g no_solutions a fuel nothing_acyclic in (f h.0, (h.0, h.1, refl))

  shown-outcome : {A : Type 0} (a : Term) (f : Term → Outcome Refusal A) → HasOutcome (Then (ShowsForm g fuel depth a) (λ t r. r ≡ f t))
  shown-outcome a f = then-outcome (seen-outcome form_shown a) (λ t _. (f t, refl))

  record-outcome : (d : ℕ) (decl : FamDecl Term) (a : Term) → HasOutcome (ShowsRecord g fuel depth d decl a)
  record-outcome d decl a = then-outcome (seen-outcome spine_shown a) (λ p _. (record_params d decl p.0 p.1, refl))

  agrees-outcome : (a b : Term) → HasOutcome (Agrees g fuel depth a b)
  agrees-outcome a b = let v = verdict_stands g no_solutions fuel depth a b nothing_acyclic in (agreement a b v.0, (v.0, v.1, refl))

  type-outcome : (I : Outcome Refusal Term → Type 0) → HasOutcome I → HasOutcome (IsTypeBy g fuel depth I)
  type-outcome I i = then-outcome i (λ a _. shown-outcome a sort_level)

  check-outcome : (I : Outcome Refusal Term → Type 0) (b : Term) → HasOutcome I → HasOutcome (ChecksBy g fuel depth I b)
  check-outcome I b i = then-outcome i (λ a _. agrees-outcome a b)

  mutual
    -- in a context of n entries
    pub infer-outcome : (c : Context Term) (n : ℕ) (t : Term) → length c ≡ n → InScope g any_meta n t → HasOutcome (InferOf g fuel depth c t)
    infer-outcome c n (Var i) m s = let e = at_place c i (omega (arith, m, s)) in (Gives (shift e.0.ty 0 (i + 1)), (e.0, e.1, refl))
    infer-outcome c n (Sort l) m s = (sort_of_sort l, refl)
    infer-outcome c n (Pi b x s t) m h =
        then-outcome (type-outcome (InferOf g fuel depth c s) (infer-outcome c n s m h.0))
        (λ i _. then-outcome (type-outcome (InferOf g fuel depth (entry b x s ∷ c) t) (infer-outcome (entry b x s ∷ c) (n + 1) t (omega (arith, m)) h.1)) (λ j _. (Gives (Sort (max i j)), refl)))
    infer-outcome c n (Lam b x s t) m h =
        then-outcome (type-outcome (InferOf g fuel depth c s) (infer-outcome c n s m h.0))
        (λ i _. then-outcome (infer-outcome (entry b x s ∷ c) (n + 1) t (omega (arith, m)) h.1) (λ u _. (Gives (Pi b x s u), refl)))
    infer-outcome c n (App b t u) m h =
        then-outcome (infer-outcome c n t m h.0)
        (λ a _. then-outcome (shown-outcome a (function_parts b)) (λ w _. then-outcome (check-outcome (InferOf g fuel depth c u) w.0 (infer-outcome c n u m h.1)) (λ o _. (Gives (put w.1 0 u), refl))))
    infer-outcome c n (Def f) m s = let a = typed_defs g f s in (Gives a.0, (a.0, a.1, refl))
    infer-outcome c n (Fam d) m s = let a = at_place (fams g) d s in (Gives (fam_type a.0), (a.0, a.1, refl))
    infer-outcome c n (Con k ts) m h =
        let is = is_con_at g k (length (to_list ts)) h.0 in
        let r : HasOutcome (Then (FitsOf g fuel depth c ts is.0.decl.params []) (λ o q. q ≡ Gives (under (env_of ts) (con_type is.0.fam is.0.decl is.0.con)))) =
        then-outcome (fits-outcome c n ts is.0.decl.params [] m (sym is.1) h.1) (λ o _. (Gives (under (env_of ts) (con_type is.0.fam is.0.decl is.0.con)), refl)) in
        (r.0, (is.0, r.1))
    infer-outcome c n (Proj f t) m h =
        let is = is_field_at g f h.0 in
        let r : HasOutcome (Then (InferOf g fuel depth c t) (λ a. Then (ShowsRecord g fuel depth is.fam is.decl a) (λ ps q. q ≡ Gives (under (field_env g f is ps t) is.entry.ty)))) =
        then-outcome (infer-outcome c n t m h.1) (λ a _. then-outcome (record-outcome is.fam is.decl a) (λ ps _. (Gives (under (field_env g f is ps t) is.entry.ty), refl))) in
        (r.0, (is, r.1))
    infer-outcome c n (Meta i ts) m s = (Refuses (MetaLeft i), refl)

    fits-outcome : (c : Context Term) (n : ℕ) (ts : Terms) (es : Telescope Term) (r : List Term) → length c ≡ n → length (to_list ts) ≡ length es → AllInScope g any_meta n ts → HasOutcome (FitsOf g fuel depth c ts es r)
    fits-outcome c n End [] r m e h = (Gives tt, refl)
    fits-outcome c n End (x ∷ es) r m e h = absurd (omega (arith, e))
    fits-outcome c n (And t ts) [] r m e h = absurd (omega (arith, e))
    fits-outcome c n (And t ts) (x ∷ es) r m e h =
        then-outcome (check-outcome (InferOf g fuel depth c t) (under r x.ty) (infer-outcome c n t m h.0)) (λ o _. fits-outcome c n ts es (t ∷ r) m (omega (arith, e)) h.1)

  pub is_type-outcome : (c : Context Term) (n : ℕ) (t : Term) → length c ≡ n → InScope g any_meta n t → HasOutcome (IsTypeOf g fuel depth c t)
  is_type-outcome c n t m s = type-outcome (InferOf g fuel depth c t) (infer-outcome c n t m s)

  pub checked-outcome : (c : Context Term) (n : ℕ) (t a : Term) → length c ≡ n → InScope g any_meta n t → HasOutcome (CheckOf g fuel depth c t a)
  checked-outcome c n t a m s = check-outcome (InferOf g fuel depth c t) a (infer-outcome c n t m s)
