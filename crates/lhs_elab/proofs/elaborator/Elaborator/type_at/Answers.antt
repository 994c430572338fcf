use Rattle.std.proofs.Common.{ℕ, sym, subst}
use Rattle.core_rules.specs.Signature.{Entry}
use Rattle.term_pool.specs.Pool.{tree, StandsFor}
use Rattle.index_unify.specs.Unified.{context_in}
use Rattle.lhs_rules.specs.Spots.{type_at}
use Rattle.lhs_elab.specs.Lefts.{spot_in}
use Rattle.lhs_elab.proofs.Placing.{var-type, value-type}
use Rattle.lhs_elab.proofs.elaborator.Elaborator.type_at.Goals as goal

pub returns-in-Var-clause-is : goal.returns-in-Var-clause-is
returns-in-Var-clause-is g c =
    let x = c.args.self.now in
    subst (λ (e : Entry ℕ). StandsFor x.pool.now e.ty (type_at (context_in x.pool.now x.left.now.context.items) (spot_in (tree x.pool.now) c.args.spot))) (sym c.entry.view_is)
    (var-type x.pool.now x.left.now.context.items c.args.spot c.in-Var.level c.index-entry.result.now c.in-Var.is c.requires.ready.left.context c.requires.spot c.index-entry.ensures)

pub returns-in_ok-by-in-Value-clause-is : goal.returns-in_ok-by-in-Value-clause-is
returns-in_ok-by-in-Value-clause-is g c =
    let x = c.args.self.now in
    value-type x.pool.now c.shift.new.pool x.left.now.context.items c.args.spot c.in-Value.placed c.in_ok-by-in-Value.by c.in-Value.is c.in_ok-by-in-Value.ensures c.shift.result c.shift.ensures.is
