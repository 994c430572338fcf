use Rattle.std.proofs.lemmas.Result.{IfOk-weaker}
use Rattle.core_rules.specs.Unification.{UnderCon}
use Rattle.term_pool.specs.Pool.{tree}
use Rattle.index_unify.specs.Walk.{Tells, Reaches}
use Rattle.index_unify.specs.Constructors.{ToArgument, HasArgument}
use Rattle.index_unify.proofs.Walks.{tells}
use Rattle.index_unify.proofs.Spines.{from_walk, to_walk}
use Rattle.index_unify.proofs.cycle.is_under_con.Goals as goal

pub returns : goal.returns
returns c =
    let t = tree c.args.pool.now c.args.t in
    IfOk-weaker c.reaches.result (Tells (Reaches ToArgument (HasArgument c.args.var) (t, 0))) (Tells (UnderCon c.args.var t))
    (λ b. tells (from_walk c.args.var t) (to_walk c.args.var) b) c.reaches.ensures
