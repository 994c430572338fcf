use Rattle.std.proofs.Common.{◌-◌, ◌++◌, length, map, take, drop, ap, sym, ◌∙◌, subst}
use Rattle.core_rules.specs.Term.{Proj}
use Rattle.el_base.proofs.Throughout.{all-push}
use Rattle.term_pool.specs.Pool.{tree}
use Rattle.term_pool.specs.Growth.{Extends-trans, Extends-tree}
use Rattle.weak_head.specs.declared.elim.Elim.TheVariants as V
use Rattle.weak_head.specs.Elims.{AllBelow, Below, AreArgs, args_of, spine_in}
use Rattle.conversion.specs.Arguments.{flag_of}
use Rattle.conversion.proofs.Slices.{unrolled, unrolled_back}
use Rattle.conversion.proofs.Stays.{spine_more, spine_stays}
use Rattle.conversion.proofs.Projected.{more_args, more_terms, more_flags, one_less}
use Rattle.conversion.proofs.arguments.projected.Goals as goal

pub loop-xs-preserved : goal.loop-xs-preserved
loop-xs-preserved c =
    let i = c.loop-xs.invariant in
    let p = c.args.pool.now in
    let q = c.loop-xs.pool in
    let r = c.add.new.self in
    let xs = c.loop-xs.xs.now in
    let fs = c.loop-xs.left.now in
    let made = c.loop-xs.made.items in
    let g = c.in_ok-arg.ensures.extends in
    let x = unrolled xs c.x-item.result c.in-len1-up.len_at_least c.x-item.is in
    let y = unrolled_back fs c.field-item.result c.in-len1-up-left.len_at_least c.field-item.is in
    let e = c.in_ok-push.ensures.items in
    let stay = spine_stays g made i.below in
    let is = c.in_ok-arg.ensures.stands.is ∙ ap (Proj c.field-item.result) (Extends-tree c.args.of i.extends c.requires) in
    record {
      extends = Extends-trans i.extends g;
      below = subst (AllBelow (length r.trees)) (sym e) (all-push (Below (length r.trees)) made (V.Arg c.flag_of.result c.in_ok-arg.arg) (spine_more g made i.below) c.in_ok-arg.ensures.stands.within);
      args = subst (λ l. AreArgs (spine_in (tree r) l)) (sym e) (more_args (tree q) (tree r) made c.flag_of.result c.in_ok-arg.arg stay i.args);
      terms = ap (λ l. map (λ k. Proj k (tree p c.args.of)) (take (length fs - 1) fs) ++ args_of (spine_in (tree r) l)) e
          ∙ more_terms (tree q) (tree r) (tree p c.args.of) (take (length fs - 1) fs) made c.field-item.result c.flag_of.result c.in_ok-arg.arg stay is
          ∙ ap (λ l. map (λ k. Proj k (tree p c.args.of)) l ++ args_of (spine_in (tree q) made)) (sym y) ∙ i.terms;
      flags = ap (λ l. map flag_of l ++ map flag_of (take (length xs - 1) (drop 1 xs))) e
          ∙ more_flags made (take (length xs - 1) (drop 1 xs)) c.x-item.result c.flag_of.result c.in_ok-arg.arg c.flag_of.ensures
          ∙ ap (λ l. map flag_of made ++ map flag_of l) (sym x) ∙ i.flags;
      lengths = one_less fs xs (take (length fs - 1) fs) (take (length xs - 1) (drop 1 xs)) c.field-item.result c.x-item.result (length c.args.fields.now) (length c.args.like.now) y x i.lengths;
    }
