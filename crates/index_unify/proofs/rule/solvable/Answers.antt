use Rattle.std.specs.Prelude.{map}
use Rattle.term_pool.specs.Pool.{tree}
use Rattle.index_unify.proofs.Walks.{told-false}
use Rattle.index_unify.proofs.Chosens.{solvable}
use Rattle.index_unify.proofs.rule.solvable.Goals as goal

pub returns : goal.returns
returns c =
    let p = c.args.pool.now in
    solvable (map (tree p) c.args.types.now) (tree p c.args.t) (tree p c.args.by) c.in-Var.var c.in-Var.ensures.is (told-false c.in_ok-depends_on.field-0 c.if-branch.false c.in_ok-depends_on.ensures)
