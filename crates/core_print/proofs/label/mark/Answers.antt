use Rattle.std.proofs.Common.{ℕ, ◌∷◌, List, subst, arith, set, true}
use Rattle.core_print.specs.Labels.{Marks, primed}
use Rattle.core_print.proofs.Marking.{marks_more}
use Rattle.core_print.proofs.label.mark.Goals as goal

pub returns-in-Some-clause-marks : goal.returns-in-Some-clause-marks
returns-in-Some-clause-marks c = λ ns m.
    subst (λ (t : List ℕ). Marks (primed t c.args.name.now.primes ∷ ns) c.args.text.now (set c.args.marks.now.items c.in-Some.k true)) c.base_text-other.ensures
    (marks_more ns c.args.text.now (primed c.base_text-other.result.now c.args.name.now.primes) c.args.marks.now.items c.in-Some.k (omega (arith, c.in-Some.ensures.some.0)) c.in-Some.ensures.some.1 m)
