use Rattle.std.specs.Prelude.{IfOk}
use Rattle.std.proofs.Common.{subst}
use Rattle.core_terms.specs.Signature.{signature_in}
use Rattle.term_pool.specs.Pool.{tree}
use Rattle.weak_head.specs.Elims.{spine_in}
use Rattle.implicit_insert.specs.Answers.{IsAt, IsTaken, next_in}
use Rattle.implicit_insert.specs.Places.{takes}
use Rattle.implicit_insert.proofs.Needs.{other_is}
use Rattle.implicit_insert.proofs.table.need_at.Goals as goal

pub returns-clause-is : goal.returns-clause-is
returns-clause-is c =
    let p = c.args.pool.now in
    let g = signature_in p c.args.sig.now in
    let n = next_in c.args.next.now in
    let h = tree p c.args.form.now.head in
    let es = spine_in (tree p) c.args.form.now.spine.items in
    let e = subst (IsTaken (takes g n h es) p) c.in_default.is c.in_ok-need.ensures in
    subst (λ v. IfOk c.other_need.result (IsAt v c.other_need.new.pool)) (other_is g n h es e) c.other_need.ensures.is
