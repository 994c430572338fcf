use Rattle.std.proofs.Common.{Some, ap, sym, ◌∙◌, arith}
use Rattle.weak_head.specs.declared.elim.Elim.TheVariants as V
use Rattle.weak_head.proofs.Spines.{field_at, args_next, args_end, in_reach, none_of}
use Rattle.weak_head.proofs.spine.first_field.Goals as goal

pub returns-in-Field-clause-is : goal.returns-in-Field-clause-is
returns-in-Field-clause-is c = λ f. field_at f c.args.spine.now.items c.loop-elim.n c.in-Field.field (ap Some (sym c.in-Field.is) ∙ c.in-Some.ensures.is) (c.loop-elim.invariant.args f)

pub loop-elim-smaller : goal.loop-elim-smaller
loop-elim-smaller c = let h = in_reach c.args.spine.now.items c.loop-elim.n c.in-Some.elim c.in-Some.ensures.is in omega (arith, h)

pub loop-elim-preserved : goal.loop-elim-preserved
loop-elim-preserved c = record {
  args = λ f. args_next f c.args.spine.now.items c.loop-elim.n (V.Arg c.in_default-elim.field-0 c.in_default-elim.field-1) (ap Some (sym c.in_default-elim.is) ∙ c.in-Some.ensures.is) tt (c.loop-elim.invariant.args f);
  within = let h = in_reach c.args.spine.now.items c.loop-elim.n c.in-Some.elim c.in-Some.ensures.is in omega (arith, h);
}

pub returns-clause-is : goal.returns-clause-is
returns-clause-is c = λ f. args_end f c.args.spine.now.items c.loop-elim.n (sym (none_of c.elim_at.result c.in_default.not-Some) ∙ c.elim_at.ensures.is) (c.loop-elim.invariant.args f)
