-- What stands next in a left side, by what the type shows.
use Rattle.std.proofs.Common.{◌≡◌, ℕ, List, [], ◌∷◌, refl, ap, sym, ◌∙◌}
use Rattle.std.specs.Prelude.{Bool, true, false, cond, eqb, Option, Some, None, option_map}
use Rattle.core_rules.specs.declared.Flag.{Flag}
use Rattle.core_rules.specs.declared.Flag.TheVariants.{Explicit, Implicit}
use Rattle.core_rules.specs.Term.{Term, Var, Sort, Pi, Lam, App, Def, Fam, Con, Proj, Meta}
use Rattle.core_rules.specs.Elimination.{Elim, elims}
use Rattle.core_rules.specs.Heads.{Answer, Form, Blocked}
use Rattle.core_rules.specs.Signature.{Signature}
use Rattle.core_rules.specs.Typing.{IsField}
use Rattle.core_rules.proofs.Heads.OneAnswer.{one_some}
use Rattle.kernel_rules.specs.Outcome.{Refuses}
use Rattle.kernel_rules.specs.TermReading.{arguments_for}
use Rattle.need_rules.specs.Needs.{Next, Need, OwnField, misplaced, need, own_field, project}
use Rattle.need_rules.specs.Needs as needs
use Rattle.el_outside.specs.declared.place.Pos.{Pos}
use Rattle.lhs_rules.specs.Asking.{Is, Reads, gives}
use Rattle.lhs_rules.specs.Spots.{Left, projected}
use Rattle.lhs_rules.specs.Rules.{PatternMeaning, braces_of, elim_by_need, field_type, misfit, pattern_inserted, pattern_taken}
use Rattle.lhs_rules.specs.Patterns.{inside}
use Rattle.lhs_elab.specs.declared.due.Due.TheVariants as D
use Rattle.lhs_elab.specs.Dues.{due_of, written_of}
use Rattle.lhs_elab.specs.Walking.{own_at}

module _ (g : Signature Term) (f : ℕ) (q : Pos) (l : Left) (again : Left → Reads Left) where
  abbrev by : Answer → Next PatternMeaning → Need PatternMeaning → Reads Left
  by w n x = elim_by_need g f (record { pos = q; next = n }) l w again x

  abbrev no : Next PatternMeaning → Reads Left
  no n = Is (Refuses (misfit q q n))

  misplaced-refused : (w : Answer) (t : Term) (n : Next PatternMeaning) → by w n (misplaced t n) ≡ no n
  misplaced-refused w t (needs.Plain p) = refl
  misplaced-refused w t (needs.Braces p) = refl
  misplaced-refused w t (needs.Named y p) = refl
  misplaced-refused w t (needs.Field h) = refl

  family-refused : (d : ℕ) (es : List Elim) (n : Next PatternMeaning) → ((h : ℕ) → n ≡ needs.Field h → own_field g d es h ≡ None) → by (Form (Fam d) es) n (need g (Form (Fam d) es) n) ≡ no n
  family-refused d es (needs.Plain p) o = refl
  family-refused d es (needs.Braces p) o = refl
  family-refused d es (needs.Named y p) o = refl
  family-refused d es (needs.Field h) o = ap (λ (v : Option OwnField). by (Form (Fam d) es) (needs.Field h) (project (elims (Fam d) es) v)) (o h refl)

  -- no function type, and no record that has the field
  pub other-refused : (w : Answer) (n : Next PatternMeaning) → ((b : Flag) (x : ℕ) (a t : Term) → w ≡ Form (Pi b x a t) [] → ⊥) → ((h : ℕ) → n ≡ needs.Field h → own_at g w h ≡ None) → by w n (need g w n) ≡ no n
  other-refused (Form (Pi Explicit x a t) []) n no_pi o = absurd (no_pi Explicit x a t refl)
  other-refused (Form (Pi Implicit x a t) []) n no_pi o = absurd (no_pi Implicit x a t refl)
  other-refused (Form (Pi Explicit x a t) (e ∷ es)) n no_pi o = misplaced-refused (Form (Pi Explicit x a t) (e ∷ es)) (elims (Pi Explicit x a t) (e ∷ es)) n
  other-refused (Form (Pi Implicit x a t) (e ∷ es)) n no_pi o = misplaced-refused (Form (Pi Implicit x a t) (e ∷ es)) (elims (Pi Implicit x a t) (e ∷ es)) n
  other-refused (Form (Fam d) es) n no_pi o = family-refused d es n o
  other-refused (Form (Var i) es) n no_pi o = misplaced-refused (Form (Var i) es) (elims (Var i) es) n
  other-refused (Form (Sort i) es) n no_pi o = misplaced-refused (Form (Sort i) es) (elims (Sort i) es) n
  other-refused (Form (Lam b x a t) es) n no_pi o = misplaced-refused (Form (Lam b x a t) es) (elims (Lam b x a t) es) n
  other-refused (Form (App b t u) es) n no_pi o = misplaced-refused (Form (App b t u) es) (elims (App b t u) es) n
  other-refused (Form (Def d) es) n no_pi o = misplaced-refused (Form (Def d) es) (elims (Def d) es) n
  other-refused (Form (Con k ps) es) n no_pi o = misplaced-refused (Form (Con k ps) es) (elims (Con k ps) es) n
  other-refused (Form (Proj h t) es) n no_pi o = misplaced-refused (Form (Proj h t) es) (elims (Proj h t) es) n
  other-refused (Form (Meta m ts) es) n no_pi o = misplaced-refused (Form (Meta m ts) es) (elims (Meta m ts) es) n
  other-refused (Blocked m h es) n no_pi o = refl

  -- a field of the record
  pub own-projected : (w : Answer) (h : ℕ) (is : OwnField) → own_at g w h ≡ Some is → by w (needs.Field h) (need g w (needs.Field h)) ≡ gives (projected l is.field (field_type g f l is))
  own-projected (Form (Fam d) es) h is e = ap (λ (v : Option OwnField). by (Form (Fam d) es) (needs.Field h) (project (elims (Fam d) es) v)) e
  own-projected (Form (Pi b x a t) es) h is e = absurd (cc e)
  own-projected (Form (Var i) es) h is e = absurd (cc e)
  own-projected (Form (Sort i) es) h is e = absurd (cc e)
  own-projected (Form (Lam b x a t) es) h is e = absurd (cc e)
  own-projected (Form (App b t u) es) h is e = absurd (cc e)
  own-projected (Form (Def d) es) h is e = absurd (cc e)
  own-projected (Form (Con k ps) es) h is e = absurd (cc e)
  own-projected (Form (Proj k t) es) h is e = absurd (cc e)
  own-projected (Form (Meta m ts) es) h is e = absurd (cc e)
  own-projected (Blocked m t es) h is e = absurd (cc e)

  -- ---- a function type

  module _ (x : ℕ) (a t : Term) where
    abbrev fun : Flag → Answer
    fun b = Form (Pi b x a t) []

    named-takes : (v : Bool) (y : ℕ) (p : PatternMeaning) → cond v D.Takes D.Inserts ≡ D.Takes → by (fun Implicit) (needs.Named y p) (cond v (needs.Given p a t) (needs.Insert a t)) ≡ pattern_taken l Implicit (fun Implicit) a t (braces_of (needs.Named y p)) p
    named-takes true y p e = refl
    named-takes false y p e = absurd (cc e)

    named-inserts : (v : Bool) (y : ℕ) (p : PatternMeaning) → cond v D.Takes D.Inserts ≡ D.Inserts → by (fun Implicit) (needs.Named y p) (cond v (needs.Given p a t) (needs.Insert a t)) ≡ again (pattern_inserted l (fun Implicit) a t)
    named-inserts true y p e = absurd (cc e)
    named-inserts false y p e = refl

    named-never : (v : Bool) → cond v D.Takes D.Inserts ≡ D.Refuses → ⊥
    named-never true e = absurd (cc e)
    named-never false e = absurd (cc e)

    pub due-takes : (b : Flag) (n : Next PatternMeaning) → due_of b x (written_of n) ≡ D.Takes → by (fun b) n (need g (fun b) n) ≡ pattern_taken l b (fun b) a t (braces_of n) (inside (record { pos = q; next = n }))
    due-takes Explicit (needs.Plain p) e = refl
    due-takes Explicit (needs.Braces p) e = absurd (cc e)
    due-takes Explicit (needs.Named y p) e = absurd (cc e)
    due-takes Explicit (needs.Field h) e = absurd (cc e)
    due-takes Implicit (needs.Plain p) e = absurd (cc e)
    due-takes Implicit (needs.Braces p) e = refl
    due-takes Implicit (needs.Named y p) e = named-takes (eqb y x) y p e
    due-takes Implicit (needs.Field h) e = absurd (cc e)

    pub due-inserts : (b : Flag) (n : Next PatternMeaning) → due_of b x (written_of n) ≡ D.Inserts → by (fun b) n (need g (fun b) n) ≡ again (pattern_inserted l (fun b) a t)
    due-inserts Explicit (needs.Plain p) e = absurd (cc e)
    due-inserts Explicit (needs.Braces p) e = absurd (cc e)
    due-inserts Explicit (needs.Named y p) e = absurd (cc e)
    due-inserts Explicit (needs.Field h) e = absurd (cc e)
    due-inserts Implicit (needs.Plain p) e = refl
    due-inserts Implicit (needs.Braces p) e = absurd (cc e)
    due-inserts Implicit (needs.Named y p) e = named-inserts (eqb y x) y p e
    due-inserts Implicit (needs.Field h) e = refl

    pub due-refuses : (b : Flag) (n : Next PatternMeaning) → due_of b x (written_of n) ≡ D.Refuses → by (fun b) n (need g (fun b) n) ≡ no n
    due-refuses Explicit (needs.Plain p) e = absurd (cc e)
    due-refuses Explicit (needs.Braces p) e = refl
    due-refuses Explicit (needs.Named y p) e = refl
    due-refuses Explicit (needs.Field h) e = refl
    due-refuses Implicit (needs.Plain p) e = absurd (cc e)
    due-refuses Implicit (needs.Braces p) e = absurd (cc e)
    due-refuses Implicit (needs.Named y p) e = absurd (named-never (eqb y x) e)
    due-refuses Implicit (needs.Field h) e = absurd (cc e)

-- ---- the field of a record that a head form is

module _ (g : Signature Term) (f : ℕ) (is : IsField g f) where
  abbrev pub at_params : List Term → OwnField
  at_params ps = record { field = f; fam = is.fam; at = is.at; params = ps; ty = is.entry.ty }

  pub own-as : (d : ℕ) (es : List Elim) → own_field g d es f ≡ cond (eqb is.fam d) (option_map at_params (arguments_for is.decl.params es)) None
  own-as d es = rw (is.place, is.is_decl, is.is_entry) refl

  mapped : (b : Bool) (o : Option (List Term)) (own : OwnField) → cond b (option_map at_params o) None ≡ Some own → own ≡ at_params own.params
  mapped true (Some ps) own e = let h : at_params ps ≡ own = one_some e in sym h ∙ ap (λ (w : OwnField). at_params w.params) h
  mapped true None own e = absurd (cc e)
  mapped false o own e = absurd (cc e)

  -- it is the field that there is
  pub own-parts : (d : ℕ) (es : List Elim) (own : OwnField) → own_field g d es f ≡ Some own → own ≡ at_params own.params
  own-parts d es own e = mapped (eqb is.fam d) (arguments_for is.decl.params es) own (sym (own-as d es) ∙ e)
