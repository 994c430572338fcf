use Rattle.std.proofs.Common.{Bool, ◌||◌, sym, ap, ◌∙◌, arith}
use Rattle.term_pool.specs.Pool.{tree}
use Rattle.core_print.specs.Walks.{occurs_in_what, occurs_in_parts}
use Rattle.core_print.proofs.Walking.{occurs_past}
use Rattle.core_print.proofs.walk.look.Goals as goal

pub returns-else-reach-part-clause-found : goal.returns-else-reach-part-clause-found
returns-else-reach-part-clause-found c =
    let p = c.args.pool.now in
    let i = c.args.part.now.under in
    sym (ap (λ (b : Bool). b || occurs_in_parts p c.args.pending.now.items) (ap (occurs_in_what p i) c.in-Whole.is ∙ occurs_past i (tree p c.in-Whole.t) (omega (arith, c.if-reach-part.false, c.reach.ensures))))
