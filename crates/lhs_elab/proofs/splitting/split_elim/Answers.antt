use Rattle.std.proofs.Common.{ap, sym, ◌∙◌}
use Rattle.core_rules.specs.Term.{Term}
use Rattle.core_rules.specs.Elimination.{Arg}
use Rattle.term_pool.specs.Pool.{tree}
use Rattle.weak_head.specs.Elims.{elim_in}
use Rattle.weak_head.specs.declared.elim.Elim as E
use Rattle.lhs_elab.specs.Moving.{moved_by, taken_into}
use Rattle.lhs_elab.proofs.splitting.split_elim.Goals as goal

pub returns-in_ok-there-in-Arg-clause-is : goal.returns-in_ok-there-in-Arg-clause-is
returns-in_ok-there-in-Arg-clause-is c =
    let p = c.args.pool.now in
    let r = c.moved.new.pool in
    c.argument.ensures.is (tree r)
    ∙ (ap (λ (t : Term). record { it = Arg c.in-Arg.flag t; outer = c.args.kept }) c.in_ok-there-in-Arg.ensures.is.is ∙ ap (λ (e : E.Elim). taken_into (moved_by (tree p) c.args.by.now) c.args.count c.args.kept (record { it = elim_in (tree p) e; outer = c.args.outer })) (sym c.in-Arg.is))
