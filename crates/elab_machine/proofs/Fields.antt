-- A projection, by the need of the type of its term.
use Rattle.std.proofs.Common.{◌≡◌, ℕ, Bool, true, false, refl, sym, ap, subst, ◌∙◌, arith}
use Rattle.std.specs.Prelude.{List, [], ◌∷◌, map, take, eqb, cond, Option, Some, None, option_map, Result, Ok, Err}
use Rattle.core_rules.specs.declared.Flag.TheVariants as flag
use Rattle.core_rules.specs.Term.{Term, Var, Sort, Pi, Lam, App, Def, Fam, Con, Proj, Meta}
use Rattle.core_rules.specs.Signature.{Signature}
use Rattle.core_rules.specs.Elimination.{Elim, elims}
use Rattle.core_rules.specs.Typing.{IsField, field_env}
use Rattle.core_rules.specs.Substitution.{under}
use Rattle.core_rules.specs.Heads.{Answer, Form, Blocked, Bounded, Within, Out, HeadOf}
use Rattle.core_rules.specs.BoundedLaws.{no_solutions}
use Rattle.term_pool.specs.Pool.{Pool, tree}
use Rattle.kernel_rules.specs.Outcome.{Outcome, Gives, Refuses}
use Rattle.kernel_rules.specs.TermReading.{arguments_for}
use Rattle.el_outside.specs.declared.place.Pos.{Pos}
use Rattle.need_rules.specs.Needs.{Need, OwnField, Field, Insert, Project, NotAFunction, NotARecord, NoSuchName, Waits, NeedOf, need, need_within, own_field, project}
use Rattle.implicit_insert.specs.declared.need.Need as R
use Rattle.implicit_insert.specs.declared.need.Need.TheVariants as V
use Rattle.implicit_insert.specs.Answers.{Answers, Blank, IsOf}
use Rattle.written_rules.specs.Refusals.{Refusal, at, OutOfFuel}
use Rattle.written_rules.specs.Rules.{Values, Checks, Found, one_argument, projected, left_out}
use Rattle.elab_machine.specs.declared.error.WrittenError.{WrittenError}
use Rattle.elab_machine.specs.Answers.{RefusedBy}
use Rattle.elab_machine.specs.Spine.{one_step, at_field, found_at, params_by, AnswersProjection, AnswersStep}
use Rattle.elab_machine.specs.declared.spine.Step as T
use Rattle.term_pool.specs.Placed.{filled}
use Rattle.elab_machine.proofs.Filling.{filled_none}
use Rattle.elab_machine.specs.Writer.{Over, Read}
use Rattle.elab_machine.proofs.Needs.{holds}

err_is : {A : Type 0} {d e : WrittenError} → ◌≡◌ {A = Result A WrittenError} (Err d) (Err e) → d ≡ e
err_is i = cc i

ok_is : {A : Type 0} {a b : A} → ◌≡◌ {A = Result A WrittenError} (Ok a) (Ok b) → a ≡ b
ok_is i = cc i

module _ {E : Type 0} (g : Signature Term) (e : E) (f : ℕ) where
  project-holds : (t : Term) (o : Option OwnField) → ◌≡◌ {A = Need E} (project t o) (holds e (project t o))
  project-holds t None = refl
  project-holds t (Some d) = refl

  pub field-holds : (w : Answer) → need g w (Field f) ≡ holds e (need g w (Field f))
  field-holds (Form (Pi flag.Explicit x a b) []) = refl
  field-holds (Form (Pi flag.Implicit x a b) []) = refl
  field-holds (Form (Pi flag.Explicit x a b) (d ∷ es)) = refl
  field-holds (Form (Pi flag.Implicit x a b) (d ∷ es)) = refl
  field-holds (Form (Fam d) es) = project-holds (elims (Fam d) es) (own_field g d es f)
  field-holds (Form (Var i) es) = refl
  field-holds (Form (Sort n) es) = refl
  field-holds (Form (Lam b x a t) es) = refl
  field-holds (Form (App b t u) es) = refl
  field-holds (Form (Def k) es) = refl
  field-holds (Form (Con k ps) es) = refl
  field-holds (Form (Proj k t) es) = refl
  field-holds (Form (Meta m ts) es) = refl
  field-holds (Blocked m h es) = refl

-- what a need that is a projection projects is the field itself
module _ (g : Signature Term) (f : ℕ) (is : IsField g f) where
  abbrev pub at_params : List Term → OwnField
  at_params ps = record { field = f; fam = is.fam; at = is.at; params = ps; ty = is.entry.ty }

  at_own : (b : Bool) (o : Option (List Term)) (w : OwnField) → cond b (option_map at_params o) None ≡ Some w → w ≡ at_params w.params
  at_own true (Some ps) w e = let h : at_params ps ≡ w = cc e in sym h ∙ ap (λ (v : OwnField). at_params v.params) h
  at_own true None w e = absurd cc
  at_own false o w e = absurd cc

  own_is : (d : ℕ) (es : List Elim) (w : OwnField) → own_field g d es f ≡ Some w → w ≡ at_params w.params
  own_is d es w e =
      let k : own_field g d es f ≡ cond (eqb is.fam d) (option_map at_params (arguments_for is.decl.params es)) None = rw (is.place, is.is_decl, is.is_entry) refl in
      at_own (eqb is.fam d) (arguments_for is.decl.params es) w (sym k ∙ e)

  projects : (t : Term) (o : Option OwnField) (w : OwnField) → ◌≡◌ {A = Need Blank} (Project w) (project t o) → o ≡ Some w
  projects t None w e = absurd cc
  projects t (Some d) w e = let h : w ≡ d = cc e in ap Some (sym h)

  need_own : (v : Answer) (w : OwnField) → ◌≡◌ {A = Need Blank} (Project w) (need g v (Field f)) → w ≡ at_params w.params
  need_own (Form (Fam d) es) w e = own_is d es w (projects (elims (Fam d) es) (own_field g d es f) w e)
  need_own (Form (Pi flag.Explicit x a b) []) w e = absurd cc
  need_own (Form (Pi flag.Implicit x a b) []) w e = absurd cc
  need_own (Form (Pi flag.Explicit x a b) (d ∷ es)) w e = absurd cc
  need_own (Form (Pi flag.Implicit x a b) (d ∷ es)) w e = absurd cc
  need_own (Form (Var i) es) w e = absurd cc
  need_own (Form (Sort n) es) w e = absurd cc
  need_own (Form (Lam b x a t) es) w e = absurd cc
  need_own (Form (App b t u) es) w e = absurd cc
  need_own (Form (Def k) es) w e = absurd cc
  need_own (Form (Con k ps) es) w e = absurd cc
  need_own (Form (Proj k t) es) w e = absurd cc
  need_own (Form (Meta m ts) es) w e = absurd cc
  need_own (Blocked m h es) w e = absurd cc

module _ (o : Over) (p q x : Pos) (f : ℕ) (t a : Term) (vs : Values) where
  abbrev pub IsNext : Option (Need Blank) → Type 0
  IsNext d = NeedOf o.signature no_solutions a (Some (Field f)) o.fuel d

  by_head : (b : Bounded) → HeadOf o.signature no_solutions a o.fuel b → (d : Need Blank) → Some d ≡ need_within o.signature (Some (Field f)) b → (r : Outcome Refusal Found)
      → Read o (one_argument o.signature p q vs (found_at t a) (at_field x f) (holds (left_out p) d)) r → Read o (one_step o.signature p q vs (found_at t a) (at_field x f)) r
  by_head (Within w k) h d n r i =
      let same : d ≡ need o.signature w (Field f) = cc n in
      (Within w k, h, subst (λ (c : Need Checks). Read o (one_argument o.signature p q vs (found_at t a) (at_field x f) c) r) (ap (holds (left_out p)) same ∙ sym (field-holds o.signature (left_out p) f w)) i)
  by_head Out h d n r i = absurd cc

  pub field-by : (d : Need Blank) → IsNext (Some d) → (r : Outcome Refusal Found) → Read o (one_argument o.signature p q vs (found_at t a) (at_field x f) (holds (left_out p) d)) r → Read o (one_step o.signature p q vs (found_at t a) (at_field x f)) r
  field-by d n r i = by_head n.head n.is d n.need r i

  out_by : (b : Bounded) → HeadOf o.signature no_solutions a o.fuel b → ◌≡◌ {A = Option (Need Blank)} None (need_within o.signature (Some (Field f)) b) → Read o (one_step o.signature p q vs (found_at t a) (at_field x f)) (Refuses (at p OutOfFuel))
  out_by (Within w k) h n = absurd cc
  out_by Out h n = (Out, h, refl)

  own_by : (is : IsField o.signature f) (b : Bounded) (w : OwnField) → ◌≡◌ {A = Option (Need Blank)} (Some (Project w)) (need_within o.signature (Some (Field f)) b) → w ≡ at_params o.signature f is w.params
  own_by is (Within v k) w n = need_own o.signature f is v w (cc n)
  own_by is Out w n = absurd cc

  -- a projection
  pub projection-by : (is : IsField o.signature f) (w : OwnField) → IsNext (Some (Project w)) → Read o (one_step o.signature p q vs (found_at t a) (at_field x f)) (Gives (found_at (Proj f t) (under (field_env o.signature f is w.params t) is.entry.ty)))
  projection-by is w n =
      field-by (Project w) n _ (ap (λ (v : OwnField). Gives (projected o.signature (found_at t a) v)) (sym (own_by is n.head w n.need)))

  -- a need that is none is refused
  pub no_projection : (new : Pool) (r : R.Need) (e : WrittenError) → Answers (λ d. IsNext (Some d)) (IsNext None) new r → params_by p q x r ≡ Err e → RefusedBy new (λ r. Read o (one_step o.signature p q vs (found_at t a) (at_field x f)) (Refuses r)) e
  no_projection new (V.Project d ids) e h i = absurd cc
  no_projection new (V.Insert s u) e h i = subst (RefusedBy new (λ r. Read o (one_step o.signature p q vs (found_at t a) (at_field x f)) (Refuses r))) (err_is i) (tt, field-by (Insert h.dom h.cod) h.is _ refl)
  no_projection new (V.NotAFunction s) e h i = subst (RefusedBy new (λ r. Read o (one_step o.signature p q vs (found_at t a) (at_field x f)) (Refuses r))) (err_is i) (h.id.within, field-by (NotAFunction h.ty) h.is _ (rw h.id.is refl))
  no_projection new (V.NotARecord s) e h i = subst (RefusedBy new (λ r. Read o (one_step o.signature p q vs (found_at t a) (at_field x f)) (Refuses r))) (err_is i) (h.id.within, field-by (NotARecord h.ty) h.is _ (rw h.id.is refl))
  no_projection new V.NoSuchName e h i = subst (RefusedBy new (λ r. Read o (one_step o.signature p q vs (found_at t a) (at_field x f)) (Refuses r))) (err_is i) (tt, field-by NoSuchName h _ refl)
  no_projection new (V.Blocked m) e h i = subst (RefusedBy new (λ r. Read o (one_step o.signature p q vs (found_at t a) (at_field x f)) (Refuses r))) (err_is i) (tt, field-by (Waits m) h _ refl)
  no_projection new V.OutOfFuel e h i = subst (RefusedBy new (λ r. Read o (one_step o.signature p q vs (found_at t a) (at_field x f)) (Refuses r))) (err_is i) (tt, out_by h.head h.is h.need)
  no_projection new V.End e h i = subst (RefusedBy new (λ r. Read o (one_step o.signature p q vs (found_at t a) (at_field x f)) (Refuses r))) (err_is i) tt
  no_projection new (V.Explicit s u) e h i = subst (RefusedBy new (λ r. Read o (one_step o.signature p q vs (found_at t a) (at_field x f)) (Refuses r))) (err_is i) tt
  no_projection new (V.Given s u) e h i = subst (RefusedBy new (λ r. Read o (one_step o.signature p q vs (found_at t a) (at_field x f)) (Refuses r))) (err_is i) tt
  no_projection new V.NoMemory e h i = subst (RefusedBy new (λ r. Read o (one_step o.signature p q vs (found_at t a) (at_field x f)) (Refuses r))) (err_is i) tt

  -- the record whose parameters a need gives
  pub its_record : (new : Pool) (r : R.Need) (ids : List ℕ) → Answers (λ d. IsNext (Some d)) (IsNext None) new r → params_by p q x r ≡ Ok ids → (d : ℕ) × IsOf (λ (w : OwnField). IsNext (Some (Project w))) new d ids
  its_record new (V.Project d ks) ids h i = (d, subst (λ (xs : List ℕ). IsOf (λ (w : OwnField). IsNext (Some (Project w))) new d xs) (ok_is i) h)
  its_record new (V.Insert s u) ids h i = absurd cc
  its_record new (V.NotAFunction s) ids h i = absurd cc
  its_record new (V.NotARecord s) ids h i = absurd cc
  its_record new V.NoSuchName ids h i = absurd cc
  its_record new (V.Blocked m) ids h i = absurd cc
  its_record new V.OutOfFuel ids h i = absurd cc
  its_record new V.End ids h i = absurd cc
  its_record new (V.Explicit s u) ids h i = absurd cc
  its_record new (V.Given s u) ids h i = absurd cc
  its_record new V.NoMemory ids h i = absurd cc

-- a term whose type stands under no arguments
pub step_whole : (p : Pool) (ts : List ℕ) (K : Outcome Refusal Found → Type 0) (r : Result T.Step WrittenError) → AnswersProjection p K r → AnswersStep p ts K r
step_whole p ts K (Err e) h = h
step_whole p ts K (Ok w) h =
    let none : take w.used (w.arg ∷ ts) ≡ [] = ap (λ (n : ℕ). take n (w.arg ∷ ts)) h.3 in
    let ty : filled (map (tree p) (take w.used (w.arg ∷ ts))) (tree p w.ty) ≡ tree p w.ty = ap (λ (us : List ℕ). filled (map (tree p) us) (tree p w.ty)) none ∙ filled_none (tree p w.ty) in
    record {
      term = h.0;
      arg = h.1;
      ty = h.2;
      used = let u : w.used ≡ 0 = h.3 in omega (arith, u);
      is = subst (λ (a : Term). K (Gives (found_at (tree p w.term) a))) (sym ty) h.4;
    }
