use Rattle.std.proofs.Common.{refl}
use Rattle.term_pool.specs.Pool.{tree}
use Rattle.term_pool.specs.Growth.{Extends-refl}
use Rattle.lhs_elab.proofs.Moves.{moved-is}
use Rattle.lhs_elab.proofs.moving.brought.Goals as goal

pub returns-clause-is : goal.returns-clause-is
returns-clause-is c =
    let p = c.args.pool.now in
    moved-is p p c.under.new.pool c.under-2.new.pool c.args.by.now c.as_slice.result.now c.as_slice-2.result.now (tree p c.args.t) c.args.t c.in_ok-opened.opened c.under-2.result
    (Extends-refl p) c.in_ok-opened.ensures.extends c.requires.by c.as_slice.ensures.value c.as_slice-2.ensures.value refl c.in_ok-opened.ensures.is.is c.under-2.ensures.is
