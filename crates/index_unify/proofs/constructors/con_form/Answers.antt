use Rattle.std.proofs.Common.{◌<◌, length, sym, ◌∙◌, subst, ap, arith}
use Rattle.el_base.proofs.Throughout.{all-push}
use Rattle.core_rules.specs.Unification.{con_spine}
use Rattle.term_pool.specs.Pool.{tree}
use Rattle.index_unify.specs.declared.constructors.Argument.{Argument}
use Rattle.index_unify.specs.Constructors.{AllArguments, arguments_in}
use Rattle.index_unify.proofs.Spines.{spine_step}
use Rattle.index_unify.proofs.constructors.con_form.Goals as goal

pub loop-flag-preserved : goal.loop-flag-preserved
loop-flag-preserved c =
    let p = c.args.pool.now in
    let f = tree p in
    let a : Argument = record { flag = c.in-App.flag; arg = c.in-App.arg } in
    record {
      within = omega (arith, c.in-App.ensures.below.0, c.loop-flag.invariant.within);
      is = ap (λ xs. con_spine (f c.in-App.fun) (arguments_in f xs)) c.in_ok-push.ensures.items ∙ (sym (spine_step f (f c.loop-flag.head) (f c.in-App.fun) c.loop-flag.args.items a c.in-App.ensures.is) ∙ c.loop-flag.invariant.is);
      below =
          subst (AllArguments (λ i. i < length p.trees)) (sym c.in_ok-push.ensures.items)
          (all-push (λ b. b.arg < length p.trees) c.loop-flag.args.items a c.loop-flag.invariant.below (omega (arith, c.in-App.ensures.below.1, c.loop-flag.invariant.within)));
    }
