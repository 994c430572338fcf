use Rattle.std.proofs.Common.{◌∷◌, [], length, length-append, get_or, false, arith, ap, ◌∙◌, List, Bool}
use Rattle.core_print.proofs.Marking.{unset_push, none_marked}
use Rattle.core_print.proofs.label.unmarked.Goals as goal

pub loop-place-preserved : goal.loop-place-preserved
loop-place-preserved c =
    let e = c.in_ok-push.ensures.items in
    record {
      length = omega (arith, ap length e, length-append c.loop-place.marks.items (false ∷ []), c.loop-place.invariant.length);
      unset = λ k. ap (λ (xs : List Bool). get_or xs k false) e ∙ unset_push c.loop-place.marks.items c.loop-place.invariant.unset k;
    }

pub returns-clause-marks : goal.returns-clause-marks
returns-clause-marks c = λ x. none_marked x c.loop-place.marks.items (λ k l. c.loop-place.invariant.unset k)
