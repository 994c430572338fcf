use Rattle.std.proofs.Common.{sym, ◌∙◌, ap}
use Rattle.std.proofs.lemmas.Result.{IfOk-weaker}
use Rattle.index_unify.specs.Constructors.{Scans, con_form_in, ToArgument, HasArgument}
use Rattle.index_unify.specs.Walk.{Visits}
use Rattle.term_pool.specs.Pool.{tree}
use Rattle.index_unify.proofs.Spines.{scanned}
use Rattle.index_unify.proofs.cycle.UnderConstructorsWalk.visit.Goals as goal

pub returns : goal.returns
returns c =
    let p = c.args.pool.now in
    let form = sym c.in_ok-form.ensures.is ∙ ap (con_form_in (tree p)) c.in-Some.is in
    IfOk-weaker c.scan.result (λ b. Scans p c.args.self.now.var c.as_slice.result.now c.args.queue.now b c.scan.new.queue) (λ b. Visits ToArgument (HasArgument c.args.self.now.var) p (c.args.t, c.args._under) c.args.queue.now b c.scan.new.queue)
    (λ b s. scanned p c.args.t c.args._under c.in-Some.form.con c.args.self.now.var c.in-Some.form.args.items form c.args.queue.now c.scan.new.queue b (rw c.as_slice.ensures.value at s)) c.scan.ensures
