use Rattle.std.specs.Prelude.{◌≡◌, length}
use Rattle.term_pool.specs.Pool.{Extends}
use Rattle.core_terms.specs.Signature.{signature_in}
use Rattle.core_terms.specs.Solutions.{solved_in}
use Rattle.index_unify.specs.Unified.{context_in, equations_in}
use Rattle.index_unify.specs.State.{AllSettled, StateBelow, state_in}
use Rattle.index_unify.proofs.Turned.{Leads, turns_from}
use Rattle.index_unify.proofs.unifying.run.Given as goal

abbrev pub invariant-loop-equation : goal.invariant-loop-equation
invariant-loop-equation g l =
    let p = l.fn.pool in
    let s = solved_in p (g.S.Solutions.solution l.sol) in
    record {
      extends : Extends p l.pool;
      below : StateBelow (length l.pool.trees) l.state;
      count : length l.state.types.items ≡ length l.context;
      settled : AllSettled s l.pool l.state.equations.items;
      leads : Leads (signature_in p l.sig) s l.limits.fuel l.limits.depth (context_in p l.context) (equations_in p l.equations) (state_in l.pool l.state);
    }

abbrev pub decreases-loop-equation : goal.decreases-loop-equation
decreases-loop-equation g l = turns_from l.fn.pool l.sig (g.S.Solutions.solution l.sol) l.limits.fuel l.limits.depth (state_in l.pool l.state)
