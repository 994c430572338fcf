-- What a type needs of the next argument of a spine, and where no argument is left.
use Rattle.std.specs.Prelude.{◌≡◌, ℕ, eqb, cond, List, slice_get, Option, Some, None, option_map, option_and_then}
use Rattle.core_rules.specs.declared.Flag.TheVariants as flag
use Rattle.core_rules.specs.Term.{Term, Pi, Fam}
use Rattle.core_rules.specs.InScope.{IsAcyclic}
use Rattle.core_rules.specs.Signature.{Signature, fam_decl, field_place}
use Rattle.core_rules.specs.Elimination.{Elim, elims}
use Rattle.core_rules.specs.Heads.{Solutions, Answer, Form, Blocked, Bounded, Within, Out, HeadOf}
use Rattle.core_rules.specs.BoundedLaws.{ExactlyOne}
use Rattle.kernel_rules.specs.TermReading.{arguments_for}

-- an argument, which holds an E unless it is a projection: `e`, `{e}`, `{x = e}`, `.f`
pub data Next (E : Type 0) : Type 0 where
  Plain : E → Next E
  Braces : E → Next E
  Named : ℕ → E → Next E
  Field : ℕ → Next E

-- a field of a record at its parameters: the record and the field's place there, the parameters, and the field's type, which stands
-- under these and the fields before it
pub record OwnField : Type 0 where
  pub field : ℕ
  pub fam : ℕ
  pub at : ℕ
  pub params : List Term
  pub ty : Term

-- Explicit and Given: the argument is checked at the domain, and the codomain stands under its variable. Insert: an implicit argument of
-- this domain and codomain stands first, which the source does not write. End: no argument is left, and none is inserted. Waits: the
-- type's head form waits for a metavariable
pub data Need (E : Type 0) : Type 0 where
  Explicit : E → Term → Term → Need E
  Given : E → Term → Term → Need E
  Insert : Term → Term → Need E
  Project : OwnField → Need E
  End : Need E
  NotAFunction : Term → Need E
  NotARecord : Term → Need E
  NoSuchName : Need E
  Waits : ℕ → Need E

-- field f, where record d at the eliminations es is its record at all its parameters
abbrev pub own_field : Signature Term → ℕ → List Elim → ℕ → Option OwnField
own_field g d es f =
    option_and_then (λ p. option_and_then (λ decl. option_and_then (λ e.
    cond (eqb p.0 d) (option_map (λ ps. record { field = f; fam = p.0; at = p.1; params = ps; ty = e.ty }) (arguments_for decl.params es)) None)
    (slice_get decl.fields p.1)) (fam_decl g p.0)) (field_place g f)

abbrev pub project : {E : Type 0} → Term → Option OwnField → Need E
project t None = NotARecord t
project t (Some f) = Project f

-- an argument for which the type, whose head form is t, has no place
abbrev pub misplaced : {E : Type 0} → Term → Next E → Need E
misplaced t (Plain e) = NotAFunction t
misplaced t (Braces e) = NoSuchName
misplaced t (Named y e) = NoSuchName
misplaced t (Field f) = NotARecord t

abbrev pub explicit_need : {E : Type 0} → Term → Term → Term → Next E → Need E
explicit_need t a b (Plain e) = Explicit e a b
explicit_need t a b x = misplaced t x

-- by the name of the binder
abbrev pub implicit_need : {E : Type 0} → ℕ → Term → Term → Next E → Need E
implicit_need x a b (Plain e) = Insert a b
implicit_need x a b (Braces e) = Given e a b
implicit_need x a b (Named y e) = cond (eqb y x) (Given e a b) (Insert a b)
implicit_need x a b (Field f) = Insert a b

abbrev pub family_need : {E : Type 0} → Signature Term → ℕ → List Elim → Next E → Need E
family_need g d es (Field f) = project (elims (Fam d) es) (own_field g d es f)
family_need g d es x = misplaced (elims (Fam d) es) x

-- by the head form of the type, where an argument is left
abbrev pub need : {E : Type 0} → Signature Term → Answer → Next E → Need E
need g (Form (Pi flag.Explicit x a b) List.[]) n = explicit_need (Pi flag.Explicit x a b) a b n
need g (Form (Pi flag.Implicit x a b) List.[]) n = implicit_need x a b n
need g (Form (Fam d) es) n = family_need g d es n
need g (Form h es) n = misplaced (elims h es) n
need g (Blocked m h es) n = Waits m

-- where none is left: at an implicit function type an argument is inserted
abbrev pub need_at_end : {E : Type 0} → Answer → Need E
need_at_end (Form (Pi flag.Implicit x a b) List.[]) = Insert a b
need_at_end (Form h es) = End
need_at_end (Blocked m h es) = Waits m

abbrev pub need_of : {E : Type 0} → Signature Term → Answer → Option (Next E) → Need E
need_of g w None = need_at_end w
need_of g w (Some n) = need g w n

-- none where the fuel does not suffice
abbrev pub need_within : {E : Type 0} → Signature Term → Option (Next E) → Bounded → Option (Need E)
need_within g n (Within w k) = Some (need_of g w n)
need_within g n Out = None

-- what a spine of type t needs for what stands next, if anything does; none where the fuel does not suffice for the head form of t
pub record NeedOf {E : Type 0} (g : Signature Term) (s : Solutions) (t : Term) (next : Option (Next E)) (fuel : ℕ) (r : Option (Need E)) : Type 0 where
  pub head : Bounded
  pub is : HeadOf g s t fuel head
  pub need : r ≡ need_within g next head

-- there is exactly one answer, whichever metavariables are solved and whatever arguments hold
abbrev pub ExactlyOneNeed : Type 0 → Type 0
ExactlyOneNeed E = (g : Signature Term) (s : Solutions) (t : Term) (next : Option (Next E)) (fuel : ℕ) → IsAcyclic s → ExactlyOne (NeedOf g s t next fuel)
