use Rattle.std.proofs.Common.{reverse}
use Rattle.core_rules.specs.Bounded as B
use Rattle.core_rules.specs.Bounded.{ConvOf}
use Rattle.term_pool.specs.Pool.{Extends, tree}
use Rattle.core_terms.specs.Signature.{signature_in}
use Rattle.core_terms.specs.Solutions.{solved_in}
use Rattle.conversion.specs.Pending.{items, weigh, InTurn, Going}
use Rattle.conversion.proofs.comparing.compare.Given as goal

abbrev pub invariant-loop-work : goal.invariant-loop-work
invariant-loop-work g l =
    let G = signature_in l.fn.pool l.sig in
    let s = solved_in l.fn.pool (g.S.Solutions.solution l.sol) in
    let ws = reverse l.progress.pending.items in
    record {
      extends : Extends l.fn.pool l.pool;
      going : Going G s l.limits.fuel l.pool l.progress.path.items l.progress.kept ws;
      leads : (v : B.Verdict) → InTurn G s l.limits.fuel (items l.pool l.progress.path.items ws) v → ConvOf G s l.limits.fuel l.limits.depth (tree l.fn.pool l.fn.t) (tree l.fn.pool l.fn.u) v;
    }

abbrev pub decreases-loop-work : goal.decreases-loop-work
decreases-loop-work g l = weigh (reverse l.progress.pending.items)
