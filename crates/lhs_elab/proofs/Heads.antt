-- What a type shows, by the head form that code has found.
use Rattle.std.proofs.Common.{◌≡◌, ℕ, length, subst}
use Rattle.std.specs.Prelude.{Option}
use Rattle.core_rules.specs.Term.{Term}
use Rattle.core_rules.specs.Signature.{Signature}
use Rattle.core_rules.specs.Heads.{Solutions, Within, HeadOf}
use Rattle.term_pool.specs.Pool.{Pool, tree}
use Rattle.weak_head.specs.States.{AppliedBelow, answer_in}
use Rattle.weak_head.specs.Answers.{IsReduced}
use Rattle.weak_head.specs.declared.answer.Reduced as R
use Rattle.weak_head.specs.declared.answer.Reduced.TheVariants as RV
use Rattle.weak_head.specs.declared.state.Applied as A

pub found-as : (g : Signature Term) (s : Solutions) (a : Term) (fuel : ℕ) (p : Pool) (v : R.Reduced) (m : Option ℕ) (t : A.Applied) (n : ℕ) → v ≡ RV.Found m t n → IsReduced g s a fuel p v
    → AppliedBelow (length p.trees) t × HeadOf g s a fuel (Within (answer_in (tree p) m t) n)
found-as g s a fuel p v m t n e r = subst (λ (w : R.Reduced). IsReduced g s a fuel p w) e r
