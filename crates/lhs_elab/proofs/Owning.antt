-- The field that a head form's record has as its own, in code.
use Rattle.std.proofs.Common.{◌≡◌, ◌<◌, ℕ, List, [], length, map, refl, ap, sym, ◌∙◌, Result, Ok, Err}
use Rattle.std.specs.Prelude.{Bool, Option, Some, None, IfOk, IfSome, cond, eqb, option_map}
use Rattle.std.specs.List.{AllByRecursion}
use Rattle.std.specs.declared.vec.Vec.{Vec}
use Rattle.std.proofs.lemmas.Bool.{ne_eqb}
use Rattle.core_rules.proofs.Heads.Sound.{eqb_same}
use Rattle.core_rules.specs.declared.Flag.{Flag}
use Rattle.core_rules.specs.Term.{Term, Var, Sort, Pi, Lam, App, Def, Fam, Con, Proj, Meta}
use Rattle.core_rules.specs.Elimination.{Elim}
use Rattle.core_rules.specs.Heads.{Answer, Form, Blocked}
use Rattle.core_rules.specs.Signature.{Signature, field_place}
use Rattle.core_rules.specs.Substitution.{under}
use Rattle.core_rules.specs.Typing.{IsField, field_env}
use Rattle.kernel_rules.specs.TermReading.{arguments_for}
use Rattle.kernel_rules.specs.Outcome.{Refuses}
use Rattle.need_rules.specs.Needs.{Next, OwnField, need, own_field}
use Rattle.need_rules.specs.Needs as needs
use Rattle.term_pool.specs.Pool.{Pool, tree}
use Rattle.lhs_rules.specs.Asking.{Is, Reads, gives}
use Rattle.lhs_rules.specs.Rules.{ElimMeaning, PatternMeaning, elim_by_need, field_type, misfit}
use Rattle.lhs_rules.specs.Spots.{Left, left_term, projected}
use Rattle.lhs_elab.specs.Dues.{field_in}
use Rattle.lhs_elab.specs.Walking.{IsOwn, needed_read, own_at}
use Rattle.lhs_elab.proofs.Walks.{at_params, other-refused, own-as, own-parts, own-projected}

module _ (g : Signature Term) (h : ℕ) where
  pub own-none : ((d : ℕ) (es : List Elim) → own_field g d es h ≡ None) → (w : Answer) → own_at g w h ≡ None
  own-none o (Form (Fam d) es) = o d es
  own-none o (Form (Pi b x a t) es) = refl
  own-none o (Form (Var i) es) = refl
  own-none o (Form (Sort i) es) = refl
  own-none o (Form (Lam b x a t) es) = refl
  own-none o (Form (App b t u) es) = refl
  own-none o (Form (Def d) es) = refl
  own-none o (Form (Con k ps) es) = refl
  own-none o (Form (Proj k t) es) = refl
  own-none o (Form (Meta m ts) es) = refl
  own-none o (Blocked m t es) = refl

  pub own-other : (w : Answer) → ((d : ℕ) (es : List Elim) → w ≡ Form (Fam d) es → ⊥) → own_at g w h ≡ None
  own-other (Form (Fam d) es) o = absurd (o d es refl)
  own-other (Form (Pi b x a t) es) o = refl
  own-other (Form (Var i) es) o = refl
  own-other (Form (Sort i) es) o = refl
  own-other (Form (Lam b x a t) es) o = refl
  own-other (Form (App b t u) es) o = refl
  own-other (Form (Def d) es) o = refl
  own-other (Form (Con k ps) es) o = refl
  own-other (Form (Proj k t) es) o = refl
  own-other (Form (Meta m ts) es) o = refl
  own-other (Blocked m t es) o = refl

  pub no-field : field_place g h ≡ None → (d : ℕ) (es : List Elim) → own_field g d es h ≡ None
  no-field e d es = rw e refl

module _ (g : Signature Term) (d : ℕ) (es : List Elim) (f : ℕ) (is : IsField g f) where
  abbrev chosen : Bool → Option OwnField
  chosen b = cond b (option_map (at_params g f is) (arguments_for is.decl.params es)) None

  pub other-record : (is.fam ≡ d → ⊥) → own_field g d es f ≡ None
  other-record n = own-as g f is d es ∙ ap chosen (ne_eqb is.fam d n)

  its-record : is.fam ≡ d → own_field g d es f ≡ option_map (at_params g f is) (arguments_for is.decl.params es)
  its-record e = own-as g f is d es ∙ ap chosen (ap (λ (i : ℕ). eqb i d) e ∙ eqb_same d)

  module _ {G : Type 0} (p : Pool) (e : is.fam ≡ d) (w : Option OwnField) (n : w ≡ own_field g d es f) where
    by-params : (o : Option (Vec ℕ G)) → option_map (λ v. map (tree p) v.items) o ≡ arguments_for is.decl.params es → IfSome o (λ v. AllByRecursion (λ i. i < length p.trees) v.items) → IsOwn p w o
    by-params None h b = n ∙ (its-record e ∙ ap (option_map (at_params g f is)) (sym h))
    by-params (Some v) h b = (at_params g f is (map (tree p) v.items), n ∙ (its-record e ∙ ap (option_map (at_params g f is)) (sym h)), refl, b)

    all-below : (o : Option (Vec ℕ G)) (P : ℕ → Type 0) → P (length p.trees) → IfSome o (λ v. (n : ℕ) → P n → AllByRecursion (λ i. i < n) v.items) → IfSome o (λ v. AllByRecursion (λ i. i < length p.trees) v.items)
    all-below None P x h = tt
    all-below (Some v) P x h = h (length p.trees) x

    pub own-is : {X : Type 0} (r : Result (Option (Vec ℕ G)) X) (P : ℕ → Type 0) (u : (ℕ → Term) → Option (List Term)) → P (length p.trees) → u (tree p) ≡ arguments_for is.decl.params es
        → IfOk r (λ o. (k : ℕ → Term) → option_map (λ v. map k v.items) o ≡ u k) → IfOk r (λ o. IfSome o (λ v. (n : ℕ) → P n → AllByRecursion (λ i. i < n) v.items)) → IfOk r (IsOwn p w)
    own-is (Err x) P u a b h k = tt
    own-is (Ok o) P u a b h k = by-params o (h (tree p) ∙ b) (all-below o P a k)

-- ---- the field's type

field-next : {E : Type 0} (n : Next E) (h : ℕ) → field_in n ≡ Some h → n ≡ needs.Field h
field-next (needs.Plain e) h x = absurd (cc x)
field-next (needs.Braces e) h x = absurd (cc x)
field-next (needs.Named y e) h x = absurd (cc x)
field-next (needs.Field k) h x = let e : k ≡ h = cc x in ap needs.Field e

module _ (g : Signature Term) (h : ℕ) (is : IsField g h) where
  parts-at : (w : Answer) (own : OwnField) → own_at g w h ≡ Some own → own ≡ at_params g h is own.params
  parts-at (Form (Fam d) es) own e = own-parts g h is d es own e
  parts-at (Form (Pi b x a t) es) own e = absurd (cc e)
  parts-at (Form (Var i) es) own e = absurd (cc e)
  parts-at (Form (Sort i) es) own e = absurd (cc e)
  parts-at (Form (Lam b x a t) es) own e = absurd (cc e)
  parts-at (Form (App b t u) es) own e = absurd (cc e)
  parts-at (Form (Def d) es) own e = absurd (cc e)
  parts-at (Form (Con k ps) es) own e = absurd (cc e)
  parts-at (Form (Proj k t) es) own e = absurd (cc e)
  parts-at (Form (Meta m ts) es) own e = absurd (cc e)
  parts-at (Blocked m t es) own e = absurd (cc e)

  -- what stands next is the projection, and the field is that of the record
  pub field-taken : (f : ℕ) (m : ElimMeaning) (l : Left) (w : Answer) (own : OwnField) (ps : List Term) (again : Left → Reads Left) → field_in m.next ≡ Some h → own_at g w h ≡ Some own → own.params ≡ ps
      → needed_read g f m l w again ≡ gives (projected l h (under (field_env g h is ps (left_term f l)) is.entry.ty))
  field-taken f m l w own ps again n e b =
      ap (λ (x : Next PatternMeaning). elim_by_need g f (record { pos = m.pos; next = x }) l w again (need g w x)) (field-next m.next h n)
      ∙ (own-projected g f m.pos l again w h own e
      ∙ ap gives (ap (λ (o : OwnField). projected l o.field (field_type g f l o)) (parts-at w own e) ∙ ap (λ (us : List Term). projected l h (under (field_env g h is us (left_term f l)) is.entry.ty)) b))

-- what stands next is refused, where the type is no function type and there is no such field
pub nothing-taken : (g : Signature Term) (f : ℕ) (m : ElimMeaning) (l : Left) (w : Answer) (again : Left → Reads Left) → ((b : Flag) (x : ℕ) (a t : Term) → w ≡ Form (Pi b x a t) [] → ⊥)
    → ((h : ℕ) → field_in m.next ≡ Some h → own_at g w h ≡ None) → needed_read g f m l w again ≡ Is (Refuses (misfit m.pos m.pos m.next))
nothing-taken g f m l w again no_pi o = other-refused g f m.pos l again w m.next no_pi (λ h e. o h (ap field_in e))
