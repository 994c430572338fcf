-- When an answer in code is what a spine needs next.
use Rattle.std.specs.Prelude.{◌≡◌, ℕ, ◌<◌, List, map, length, Option, Some, None}
use Rattle.std.specs.List.{AllByRecursion}
use Rattle.std.specs.declared.vec.Vec.{Vec}
use Rattle.core_rules.specs.Term.{Term}
use Rattle.core_rules.specs.Signature.{Signature}
use Rattle.core_rules.specs.Heads.{Solutions}
use Rattle.term_pool.specs.Pool.{Pool, tree, StandsFor}
use Rattle.need_rules.specs.Needs.{Need, OwnField, Explicit, Given, Insert, Project, End, NotAFunction, NotARecord, NoSuchName, Waits, NeedOf}
use Rattle.need_rules.specs.Needs as needs
use Rattle.implicit_insert.specs.declared.need.Next.{Next}
use Rattle.implicit_insert.specs.declared.need.Next.TheVariants as N
use Rattle.implicit_insert.specs.declared.need.Need as R
use Rattle.implicit_insert.specs.declared.need.Need.TheVariants as V

-- nothing is said of what an argument holds
abbrev pub Blank : Type 0
Blank = Unit {0}

abbrev pub next_in : Next → Option (needs.Next Blank)
next_in N.Nothing = None
next_in N.Plain = Some (needs.Plain tt)
next_in N.Braces = Some (needs.Braces tt)
next_in (N.Named x) = Some (needs.Named x tt)
next_in (N.Field f) = Some (needs.Field f)

-- ids a and b of the pool are the domain and the codomain of the need v
pub record AreParts (P : Need Blank → Type 0) (v : Term → Term → Need Blank) (p : Pool) (a b : ℕ) : Type 0 where
  pub dom : Term
  pub cod : Term
  pub is : P (v dom cod)
  pub dom_id : StandsFor p a dom
  pub cod_id : StandsFor p b cod

-- id a of the pool is the head form that the need v shows
pub record IsShown (P : Need Blank → Type 0) (v : Term → Need Blank) (p : Pool) (a : ℕ) : Type 0 where
  pub ty : Term
  pub is : P (v ty)
  pub id : StandsFor p a ty

-- these ids are the parameters of the record d, whose field it is
pub record IsOf (P : OwnField → Type 0) (p : Pool) (d : ℕ) (ids : List ℕ) : Type 0 where
  pub field : OwnField
  pub is : P field
  pub fam : field.fam ≡ d
  pub params : field.params ≡ map (tree p) ids
  pub below : AllByRecursion (λ i. i < length p.trees) ids

abbrev pub Answers : (Need Blank → Type 0) → Type 0 → Pool → R.Need → Type 0
Answers P O p (V.Explicit a b) = AreParts P (Explicit tt) p a b
Answers P O p (V.Given a b) = AreParts P (Given tt) p a b
Answers P O p (V.Insert a b) = AreParts P Insert p a b
Answers P O p (V.Project d ids) = IsOf (λ f. P (Project f)) p d ids
Answers P O p V.End = P End
Answers P O p (V.NotAFunction a) = IsShown P NotAFunction p a
Answers P O p (V.NotARecord a) = IsShown P NotARecord p a
Answers P O p V.NoSuchName = P NoSuchName
Answers P O p (V.Blocked m) = P (Waits m)
Answers P O p V.OutOfFuel = O
Answers P O p V.NoMemory = Unit {0}

-- the answer is the need v
abbrev pub IsAt : Need Blank → Pool → R.Need → Type 0
IsAt v p r = Answers (λ w. w ≡ v) ⊥ p r

-- the answer is the need o, where there is one
abbrev pub IsTaken : Option (Need Blank) → Pool → Option R.Need → Type 0
IsTaken o p None = o ≡ None
IsTaken o p (Some r) = Answers (λ w. o ≡ Some w) ⊥ p r

-- these are the parameters of a field's record, where the field is d's own
abbrev pub IsOwn : {G : Type 0} → Pool → ℕ → Option OwnField → Option (Vec ℕ G) → Type 0
IsOwn p d o None = o ≡ None
IsOwn p d o (Some v) = IsOf (λ f. o ≡ Some f) p d v.items

-- the answer is what a spine of type t needs next; that the fuel does not suffice; or out of memory
abbrev pub IsNeed : Signature Term → Solutions → Term → Next → ℕ → Pool → R.Need → Type 0
IsNeed g s t next fuel p r = Answers (λ v. NeedOf g s t (next_in next) fuel (Some v)) (NeedOf {E = Blank} g s t (next_in next) fuel None) p r
