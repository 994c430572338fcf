use Rattle.std.specs.Prelude.{◌<◌, ◌∷◌, [], length, ◌-◌, take}
use Rattle.std.specs.List.{AllByRecursion}
use Rattle.std.proofs.Common.{arith, ap, subst, ◌∙◌, length-append}
use Rattle.el_base.proofs.Throughout.{all-front, all-last}
use Rattle.unify_rules.specs.Joined.{value_of}
use Rattle.index_unify.specs.State.{solutions_of}
use Rattle.index_unify.specs.declared.equation.Solution.{Solution}
use Rattle.conversion.proofs.Slices.{unrolled_back}
use Rattle.index_unify.proofs.Waits.{other_value}
use Rattle.index_unify.proofs.order.value_of.Goals as goal

pub returns-then-last-var-clause-among : goal.returns-then-last-var-clause-among
returns-then-last-var-clause-among c = λ n a.
    let left = c.loop-left.left.now in
    let s = c.last-item.result in
    all-last (λ (s : Solution). s.value < n) (take (length left - 1) left) s (subst (AllByRecursion (λ (s : Solution). s.value < n)) (unrolled_back left s c.in-len1-up.len_at_least c.last-item.is) (c.loop-left.invariant.among n a))

pub loop-left-preserved : goal.loop-left-preserved
loop-left-preserved c =
    let left = c.loop-left.left.now in
    let s = c.last-item.result in
    let e = unrolled_back left s c.in-len1-up.len_at_least c.last-item.is in
    record {
      among = λ n a. all-front (λ (s : Solution). s.value < n) (take (length left - 1) left) s (subst (AllByRecursion (λ (s : Solution). s.value < n)) e (c.loop-left.invariant.among n a));
      is = λ p. c.loop-left.invariant.is p ∙ (ap (λ ss. value_of (solutions_of p ss) c.args.var) e ∙ other_value p (take (length left - 1) left) s c.args.var c.if-last-var.false);
      few = omega (arith, c.loop-left.invariant.few, ap length e, length-append (take (length left - 1) left) (s ∷ []));
    }
