-- The family that a head form shows, in code.
use Rattle.std.specs.Prelude.{ℕ, ◌≡◌, ◌<◌, length, map, take, drop, Option, Some, None}
use Rattle.std.specs.List.{AllByRecursion}
use Rattle.core_rules.specs.Term.{Term}
use Rattle.core_rules.specs.Signature.{Signature, fam_decl, con_decl}
use Rattle.kernel_rules.specs.Outcome.{Outcome, Gives, Refuses}
use Rattle.lhs_rules.specs.Refusals.{Refusal}
use Rattle.term_pool.specs.Pool.{Pool, tree}
use Rattle.lhs_rules.specs.Families as R
use Rattle.lhs_elab.specs.declared.families.AtFamily.{AtFamily}

pub record IsAt (p : Pool) (g : Signature Term) (r : R.AtFamily) (a : AtFamily) : Type 0 where
  pub fam : r.fam ≡ a.fam
  pub decl : fam_decl g a.fam ≡ Some r.decl
  pub params : r.params ≡ take a.params (map (tree p) a.args.items)
  pub indices : r.indices ≡ drop a.params (map (tree p) a.args.items)
  pub below : AllByRecursion (λ i. i < length p.trees) a.args.items

-- o is the family that code has found, if it has found one
abbrev pub IsFamily : Pool → Signature Term → Option R.AtFamily → Option AtFamily → Type 0
IsFamily p g o None = o ≡ None
IsFamily p g o (Some a) = (r : R.AtFamily) × (o ≡ Some r) × IsAt p g r a

-- P holds of the constructor k at the family that code has found
abbrev pub IsAtCon : Pool → Signature Term → ℕ → AtFamily → (R.AtCon → Type 0) → Type 0
IsAtCon p g k a P = (r : R.AtCon) × IsAt p g r.at a × (con_decl g k ≡ Some r.con) × P r

-- o is the family for which constructor k can be put, if it can be put for what code has found
abbrev pub IsForCon : Pool → Signature Term → ℕ → Option R.AtCon → Option AtFamily → Type 0
IsForCon p g k o None = o ≡ None
IsForCon p g k o (Some a) = IsAtCon p g k a (λ r. o ≡ Some r)

-- P holds of the family that code has found
abbrev pub IsData : Pool → Signature Term → AtFamily → (R.AtFamily → Type 0) → Type 0
IsData p g a P = (r : R.AtFamily) × IsAt p g r a × P r

-- o is the data type that code has found, or the refusal e, if it has found none
abbrev pub IsDataOr : Pool → Signature Term → Outcome Refusal R.AtFamily → Refusal → Option AtFamily → Type 0
IsDataOr p g o e None = o ≡ Refuses e
IsDataOr p g o e (Some a) = IsData p g a (λ r. o ≡ Gives r)
