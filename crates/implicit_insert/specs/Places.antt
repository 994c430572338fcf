-- Which head forms have a place for what stands next, case by case as the code looks at them.
use Rattle.std.specs.Prelude.{ℕ, List, [], eqb, cond, Option, Some, None, option_map}
use Rattle.core_rules.specs.declared.Flag.{Flag}
use Rattle.core_rules.specs.declared.Flag.TheVariants as flag
use Rattle.core_rules.specs.Term.{Term, Pi, Fam}
use Rattle.core_rules.specs.Signature.{Signature}
use Rattle.core_rules.specs.Elimination.{Elim}
use Rattle.need_rules.specs.Needs.{Next, Plain, Braces, Named, Field, Need, Explicit, Given, Insert, Project, End, own_field, misplaced}

module _ {E : Type 0} where
  -- a function type
  abbrev pub by_function : Flag → ℕ → Term → Term → Option (Next E) → Option (Need E)
  by_function flag.Explicit x a t (Some (Plain e)) = Some (Explicit e a t)
  by_function flag.Explicit x a t n = None
  by_function flag.Implicit x a t (Some (Braces e)) = Some (Given e a t)
  by_function flag.Implicit x a t (Some (Named y e)) = Some (cond (eqb y x) (Given e a t) (Insert a t))
  by_function flag.Implicit x a t n = Some (Insert a t)

  -- family d at the eliminations es
  abbrev pub by_family : Signature Term → ℕ → List Elim → Option (Next E) → Option (Need E)
  by_family g d es (Some (Field k)) = option_map Project (own_field g d es k)
  by_family g d es n = None

  abbrev pub takes : Signature Term → Option (Next E) → Term → List Elim → Option (Need E)
  takes g n (Pi b x a t) [] = by_function b x a t n
  takes g n (Fam d) es = by_family g d es n
  takes g n h es = None

  -- any other head form, whose term is t
  abbrev pub other : Term → Option (Next E) → Need E
  other t None = End
  other t (Some n) = misplaced t n
