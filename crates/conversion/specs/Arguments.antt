-- The arguments of two spines as parts, and the projections of a term as arguments.
use Rattle.std.specs.Prelude.{◌≡◌, ◌≢◌, ℕ, List, [], length, map, cond, Option, Some, None}
use Rattle.std.specs.declared.vec.Vec.{Vec}
use Rattle.core_rules.specs.declared.Flag.{Flag}
use Rattle.core_rules.specs.declared.Flag.TheVariants.{Explicit}
use Rattle.core_rules.specs.Term.{Term, Proj}
use Rattle.core_rules.specs.Elimination.{Elim, Arg, Field}
use Rattle.core_rules.specs.Bounded.{Part, Pair, same_flag}
use Rattle.weak_head.specs.declared.elim.Elim as E
use Rattle.weak_head.specs.declared.elim.Elim.TheVariants as V
use Rattle.weak_head.specs.Elims.{AreArgs, args_of, spine_in}

-- two arguments of one flag
abbrev pub argument_part : Elim → Elim → Option Part
argument_part (Arg b u) (Arg c v) = cond (same_flag b c) (Some (Pair [] u v)) None
argument_part (Arg b u) (Field k) = None
argument_part (Field k) e = None

abbrev pub flag_of : E.Elim → Flag
flag_of (V.Arg b u) = b
flag_of (V.Field k) = Explicit

-- the eliminations xs are the projections of t to these fields, with the flags of ys
pub record IsProjected (f : ℕ → Term) (fields : List ℕ) (t : Term) (ys xs : List E.Elim) : Type 0 where
  pub args : AreArgs (spine_in f xs)
  pub terms : args_of (spine_in f xs) ≡ map (λ k. Proj k t) fields
  pub flags : map flag_of xs ≡ map flag_of ys

-- they are none where their numbers differ
abbrev pub AreLike : {A : Type 0} → (ℕ → Term) → List ℕ → Term → List E.Elim → Option (Vec E.Elim A) → Type 0
AreLike f fields t ys None = length fields ≢ length ys
AreLike f fields t ys (Some v) = IsProjected f fields t ys v.items
