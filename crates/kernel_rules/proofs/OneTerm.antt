-- A term has one outcome at most.
use Rattle.std.proofs.Common.{◌≡◌, sym, ◌∙◌, ap, subst}
use Rattle.std.specs.Prelude.{ℕ, ◌+◌, max, List, [], ◌∷◌, ◌++◌, slice_get, reverse, take}
use Rattle.core_rules.specs.Term.{Term, Terms, Var, Sort, Pi, Lam, App, Def, Fam, Con, Proj, Meta, End, And, env_of}
use Rattle.core_rules.specs.Substitution.{shift, subst as put, under}
use Rattle.core_rules.specs.Signature.{Entry, Telescope, Context, Signature, FamDecl, ConDecl, fam_decl}
use Rattle.core_rules.specs.Elimination.{con_type, fam_type, projections}
use Rattle.core_rules.specs.Typing.{entry, IsCon, IsField, field_env}
use Rattle.core_rules.proofs.Heads.OneAnswer.{one_some}
use Rattle.core_rules.proofs.Heads.OneVerdict.{head_of_one, conv_of_one}
use Rattle.core_rules.specs.BoundedLaws.{no_solutions}
use Rattle.core_rules.specs.Heads.{Bounded, HeadOf}
use Rattle.kernel_rules.specs.Outcome.{Outcome, Gives, Then}
use Rattle.kernel_rules.specs.TermReading.{form_shown, spine_shown, sort_level, function_parts, record_params, agreement, ShowsForm, ShowsRecord, Agrees, IsTypeBy, ChecksBy, InferOf, IsTypeOf, CheckOf, FitsOf}
use Rattle.kernel_rules.specs.Refusals.{Refusal}
use Rattle.kernel_rules.proofs.Outcome.{IsOne, one-is, one-then}

-- `field_env` with the field's place in plain numbers
abbrev field_terms : Signature Term → ℕ → ℕ → List Term → Term → List Term
field_terms g d i ps t = reverse (ps ++ take i (projections g d t))

module _ (g : Signature Term) (fuel depth : ℕ) where
  -- what a head form shows by f is one
  pub one-seen : {A : Type 0} (f : Bounded → Outcome Refusal A) (a : Term) → IsOne (λ r. (b : Bounded) × HeadOf g no_solutions a fuel b × (r ≡ f b))
  one-seen f a r q x y = x.2 ∙ ap f (head_of_one g no_solutions a fuel x.0 y.0 x.1 y.1) ∙ sym y.2

  pub one-shown : {A : Type 0} (a : Term) (f : Term → Outcome Refusal A) → IsOne (Then (ShowsForm g fuel depth a) (λ t r. r ≡ f t))
  one-shown a f = one-then (one-seen form_shown a) (λ t. one-is (f t))

  pub one-record : (d : ℕ) (decl : FamDecl Term) (a : Term) → IsOne (ShowsRecord g fuel depth d decl a)
  one-record d decl a = one-then (one-seen spine_shown a) (λ p. one-is (record_params d decl p.0 p.1))

  pub one-agrees : (a b : Term) → IsOne (Agrees g fuel depth a b)
  one-agrees a b r q x y = x.2 ∙ ap (agreement a b) (conv_of_one g no_solutions fuel depth a b x.0 y.0 x.1 y.1) ∙ sym y.2

  pub one-type : (I : Outcome Refusal Term → Type 0) → IsOne I → IsOne (IsTypeBy g fuel depth I)
  one-type I i = one-then i (λ a. one-shown a sort_level)

  pub one-check : (I : Outcome Refusal Term → Type 0) (b : Term) → IsOne I → IsOne (ChecksBy g fuel depth I b)
  one-check I b i = one-then i (λ a. one-agrees a b)

  -- what a place fixes
  pub record SameCon {k : ℕ} (is js : IsCon g k) : Type 0 where
    pub fam : is.fam ≡ js.fam
    pub decl : is.decl ≡ js.decl
    pub con : is.con ≡ js.con

  same-con : {k : ℕ} (is js : IsCon g k) → SameCon is js
  same-con is js =
      let place = one_some (sym is.place ∙ js.place) in
      let fam : is.fam ≡ js.fam = ap (λ p. p.0) place in
      let decl : is.decl ≡ js.decl = one_some (sym is.is_decl ∙ ap (fam_decl g) fam ∙ js.is_decl) in
      let at : is.at ≡ js.at = ap (λ p. p.1) place in
      record { fam = fam; decl = decl; con = one_some (sym is.is_con ∙ ap (λ d. slice_get d.cons is.at) decl ∙ ap (slice_get js.decl.cons) at ∙ js.is_con) }

  pub record SameField {f : ℕ} (is js : IsField g f) : Type 0 where
    pub fam : is.fam ≡ js.fam
    pub at : is.at ≡ js.at
    pub decl : is.decl ≡ js.decl
    pub entry : is.entry ≡ js.entry

  same-field : {f : ℕ} (is js : IsField g f) → SameField is js
  same-field is js =
      let place = one_some (sym is.place ∙ js.place) in
      let fam : is.fam ≡ js.fam = ap (λ p. p.0) place in
      let decl : is.decl ≡ js.decl = one_some (sym is.is_decl ∙ ap (fam_decl g) fam ∙ js.is_decl) in
      let at : is.at ≡ js.at = ap (λ p. p.1) place in
      record { fam = fam; at = at; decl = decl; entry = one_some (sym is.is_entry ∙ ap (λ d. slice_get d.fields is.at) decl ∙ ap (slice_get js.decl.fields) at ∙ js.is_entry) }

  mutual
    pub one_infer : (c : Context Term) (t : Term) → IsOne (InferOf g fuel depth c t)
    one_infer c (Var i) r q x y = x.2 ∙ ap (λ (e : Entry Term). Gives (shift e.ty 0 (i + 1))) (one_some (sym x.1 ∙ y.1)) ∙ sym y.2
    one_infer c (Sort n) r q x y = x ∙ sym y
    one_infer c (Pi b x s t) r q y z =
        one-then (one-type (InferOf g fuel depth c s) (one_infer c s))
        (λ m. one-then (one-type (InferOf g fuel depth (entry b x s ∷ c) t) (one_infer (entry b x s ∷ c) t)) (λ n. one-is (Gives (Sort (max m n))))) r q y z
    one_infer c (Lam b x s t) r q y z =
        one-then (one-type (InferOf g fuel depth c s) (one_infer c s)) (λ m. one-then (one_infer (entry b x s ∷ c) t) (λ u. one-is (Gives (Pi b x s u)))) r q y z
    one_infer c (App b t u) r q y z =
        one-then (one_infer c t) (λ a. one-then (one-shown a (function_parts b)) (λ p. one-then (one-check (InferOf g fuel depth c u) p.0 (one_infer c u)) (λ o. one-is (Gives (put p.1 0 u))))) r q y z
    one_infer c (Def f) r q x y = x.2 ∙ ap Gives (one_some (sym x.1 ∙ y.1)) ∙ sym y.2
    one_infer c (Fam d) r q x y = x.2 ∙ ap (λ (e : FamDecl Term). Gives (fam_type e)) (one_some (sym x.1 ∙ y.1)) ∙ sym y.2
    one_infer c (Con k ps) r q x y =
        let same = same-con x.0 y.0 in
        let P : (d : ℕ) (e : FamDecl Term) (k : ConDecl Term) → Outcome Refusal Term → Type 0 = λ d e k. Then (FitsOf g fuel depth c ps e.params []) (λ o q. q ≡ Gives (under (env_of ps) (con_type d e k))) in
        let moved : P y.0.fam y.0.decl y.0.con r = subst (λ d. P d y.0.decl y.0.con r) same.fam (subst (λ e. P x.0.fam e y.0.con r) same.decl (subst (λ k. P x.0.fam x.0.decl k r) same.con x.1)) in
        one-then (one_fits c ps y.0.decl.params []) (λ o. one-is (Gives (under (env_of ps) (con_type y.0.fam y.0.decl y.0.con)))) r q moved y.1
    one_infer c (Proj f t) r q x y =
        let same = same-field x.0 y.0 in
        let P : (d i : ℕ) (e : FamDecl Term) (z : Entry Term) → Outcome Refusal Term → Type 0 =
        λ d i e z. Then (InferOf g fuel depth c t) (λ a. Then (ShowsRecord g fuel depth d e a) (λ ps q. q ≡ Gives (under (field_terms g d i ps t) z.ty))) in
        let moved : P y.0.fam y.0.at y.0.decl y.0.entry r =
        subst (λ d. P d y.0.at y.0.decl y.0.entry r) same.fam (subst (λ i. P x.0.fam i y.0.decl y.0.entry r) same.at (subst (λ e. P x.0.fam x.0.at e y.0.entry r) same.decl (subst (λ z. P x.0.fam x.0.at x.0.decl z r) same.entry x.1))) in
        one-then (one_infer c t) (λ a. one-then (one-record y.0.fam y.0.decl a) (λ ps. one-is (Gives (under (field_env g f y.0 ps t) y.0.entry.ty)))) r q moved y.1
    one_infer c (Meta m ts) r q x y = x ∙ sym y

    one_fits : (c : Context Term) (ts : Terms) (es : Telescope Term) (e : List Term) → IsOne (FitsOf g fuel depth c ts es e)
    one_fits c End [] e r q x y = x ∙ sym y
    one_fits c End (z ∷ es) e r q x y = absurd x
    one_fits c (And t ts) [] e r q x y = absurd x
    one_fits c (And t ts) (z ∷ es) e r q x y = one-then (one-check (InferOf g fuel depth c t) (under e z.ty) (one_infer c t)) (λ o. one_fits c ts es (t ∷ e)) r q x y

  pub one-is_type : (c : Context Term) (t : Term) → IsOne (IsTypeOf g fuel depth c t)
  one-is_type c t = one-type (InferOf g fuel depth c t) (one_infer c t)

  pub one-checked : (c : Context Term) (t a : Term) → IsOne (CheckOf g fuel depth c t a)
  one-checked c t a = one-check (InferOf g fuel depth c t) a (one_infer c t)
