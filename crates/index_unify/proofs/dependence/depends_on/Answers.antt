use Rattle.std.specs.Prelude.{map}
use Rattle.std.proofs.lemmas.Result.{IfOk-weaker}
use Rattle.term_pool.specs.Pool.{tree}
use Rattle.index_unify.specs.Walk.{Tells, Reaches}
use Rattle.index_unify.specs.Dependence.{Edge, Goal, is_target, DependsOn}
use Rattle.index_unify.proofs.Walks.{tells}
use Rattle.index_unify.proofs.Dependences.{from_walk, to_walk}
use Rattle.index_unify.proofs.dependence.depends_on.Goals as goal

pub returns : goal.returns
returns c =
    let p = c.args.pool.now in
    let ts = map (tree p) c.args.types.now in
    let h = is_target c.args.target in
    IfOk-weaker c.reaches.result (Tells (Reaches (Edge ts) (Goal h) (tree p c.args.t, 0))) (Tells (DependsOn ts h (tree p c.args.t)))
    (λ b. tells (from_walk ts h (tree p c.args.t)) (to_walk ts h (tree p c.args.t)) b) c.reaches.ensures
