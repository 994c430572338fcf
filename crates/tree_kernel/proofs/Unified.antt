-- What the unifier of the product answers is what it says to those who split.
use Rattle.std.proofs.Common.{ℕ, List}
use Rattle.core_rules.specs.Term.{Term}
use Rattle.core_rules.specs.Substitution.{replace}
use Rattle.core_rules.specs.Signature.{Context, Signature}
use Rattle.core_rules.specs.Mapped.{telescope_map}
use Rattle.core_rules.specs.BoundedLaws.{no_solutions}
use Rattle.core_rules.specs.Unification.{Equation}
use Rattle.unify_rules.specs.Unifier.{UnifyOf}
use Rattle.term_pool.specs.Pool.{Pool}
use Rattle.index_unify.specs.Unified.{ByOutcome, IsAnswered, IsUnified}
use Rattle.index_unify.specs.declared.unified.Unified as N
use Rattle.index_unify.specs.declared.unified.Unified.TheVariants.{Solved, Refuted, Stuck, OutOfFuel, OutOfDepth, NoMemory}
use Rattle.tree_kernel.specs.Reading.{UnifiesAs}
use Rattle.tree_kernel.specs.Branches.{SaysUnified}
use Rattle.tree_kernel.proofs.Unsolved.{unifies-as}

module _ (g : Signature Term) (fuel depth : ℕ) (c : Context Term) (es : List Equation) (p : Pool) where
  pub says : (w : N.Unified) → IsUnified (UnifyOf g no_solutions fuel depth c es) p (telescope_map (replace no_solutions) c) w
      → IsAnswered (ByOutcome (UnifyOf g no_solutions fuel depth c es) (telescope_map (replace no_solutions) c)) p w
      → SaysUnified p (UnifiesAs g fuel depth c es) w
  says (Solved b) h k = (h.stands, (k.0, unifies-as g fuel depth c es _ k.1))
  says (Refuted r) h k = unifies-as g fuel depth c es _ k
  says (Stuck t u) h k = unifies-as g fuel depth c es _ k
  says OutOfFuel h k = unifies-as g fuel depth c es _ k
  says OutOfDepth h k = unifies-as g fuel depth c es _ k
  says NoMemory h k = tt
