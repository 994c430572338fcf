use Rattle.std.proofs.Common.{◌<◌, Some, map, ap, sym, ◌∙◌, subst, arith}
use Rattle.std.specs.List.{AllByRecursion}
use Rattle.el_base.proofs.Throughout.{all-push}
use Rattle.weak_head.specs.declared.elim.Elim.TheVariants as V
use Rattle.weak_head.proofs.Spines.{gathered_arg, gathered_field, gathered_all, below_at, in_reach, none_of}
use Rattle.weak_head.proofs.spine.arguments.Goals as goal
use Rattle.weak_head.proofs.spine.arguments.Goals.{in-Arg+in_ok-push, in_default-elim}

pub loop-elim-smaller : goal.loop-elim-smaller
loop-elim-smaller c = let h = in_reach c.args.spine.now.items c.loop-elim.n c.in-Some.elim c.in-Some.ensures.is in omega (arith, h)

pub loop-elim-preserved : goal.loop-elim-preserved
loop-elim-preserved c = record {
  is = λ f. elim c.match-elim.branch [
    | in-Arg+in_ok-push w ↦ ap (λ v. map f v.items) w.all-is ∙ gathered_arg f c.args.spine.now.items c.loop-elim.n w.in-Arg.flag w.in-Arg.arg c.loop-elim.all.items w.push.new.self.items (ap Some (sym w.in-Arg.is) ∙ c.in-Some.ensures.is) (c.loop-elim.invariant.is f) w.in_ok-push.ensures.items
    | in_default-elim w ↦ ap (λ v. map f v.items) w.all-is ∙ gathered_field f c.args.spine.now.items c.loop-elim.n w.in_default-elim.field-0 c.loop-elim.all.items (ap Some (sym w.in_default-elim.is) ∙ c.in-Some.ensures.is) (c.loop-elim.invariant.is f)
  ];
  below = λ k h. elim c.match-elim.branch [
    | in-Arg+in_ok-push w ↦ subst (λ v. AllByRecursion (λ i. i < k) v.items) (sym w.all-is) (subst (AllByRecursion (λ i. i < k)) (sym w.in_ok-push.ensures.items) (all-push (λ i. i < k) c.loop-elim.all.items w.in-Arg.arg (c.loop-elim.invariant.below k h) (below_at k c.args.spine.now.items c.loop-elim.n (V.Arg w.in-Arg.flag w.in-Arg.arg) (ap Some (sym w.in-Arg.is) ∙ c.in-Some.ensures.is) h)))
    | in_default-elim w ↦ subst (λ v. AllByRecursion (λ i. i < k) v.items) (sym w.all-is) (c.loop-elim.invariant.below k h)
  ];
  within = let h = in_reach c.args.spine.now.items c.loop-elim.n c.in-Some.elim c.in-Some.ensures.is in omega (arith, h);
}

pub returns-clause-is : goal.returns-clause-is
returns-clause-is c = λ f. c.loop-elim.invariant.is f ∙ gathered_all f c.args.spine.now.items c.loop-elim.n (sym (none_of c.elim_at.result c.in_default.not-Some) ∙ c.elim_at.ensures.is)
