use Rattle.std.proofs.Common.{◌∙◌, ◌++◌, ◌∷◌, [], List, ap}
use Rattle.std.proofs.lemmas.Result.{err_from_is_err_and}
use Rattle.tree_kernel.specs.Nodes.{ReadsNode}
use Rattle.tree_kernel.specs.declared.job.Job as J
use Rattle.tree_kernel.specs.declared.job.Job.TheVariants as JV
use Rattle.tree_kernel.proofs.Reading.{Grows-refl, Grows-trans, ready_kept}
use Rattle.tree_kernel.proofs.Stacking.{parts-fall, waits-first, first-is, waits-refused, waits-next}
use Rattle.tree_kernel.proofs.reader.Reader.read.Goals as goal

pub loop-job-init : goal.loop-job-init
loop-job-init c =
    let x = c.args.self.now in
    let w = c.args.node in
    record {
      grows = Grows-refl x;
      waits = waits-first x w c.push.new.self.items
          (c.in_ok-push.ensures.items ∙ ap (λ (js : List J.Job). js ++ JV.Node w ∷ []) c.new-waiting.ensures.items) c.requires.node;
    }

pub step-requires-clause-ready : goal.step-requires-clause-ready
step-requires-clause-ready c = ready_kept c.requires.ready c.loop-job.invariant.grows

pub step-requires-clause-job : goal.step-requires-clause-job
step-requires-clause-job c =
    let x = c.args.self.now in
    let y = c.loop-job.self in
    let i = c.loop-job.invariant in
    first-is c.requires.ready i.grows (Grows-refl y) (ReadsNode x c.args.node c.args.node.tree.now) c.loop-job.waiting.items c.pop.new.self.items c.in-Some.job
    c.in-Some.ensures.items i.waits

pub returns-in_err-rest-clause-is : goal.returns-in_err-rest-clause-is
returns-in_err-rest-clause-is c =
    let v = err_from_is_err_and c.from_residual-in_err-rest.result c.from_residual-in_err-rest.ensures.1 in
    let x = c.args.self.now in
    let i = c.loop-job.invariant in
    rw (v.1, v.2) (waits-refused c.requires.ready i.grows c.in_err-rest.ensures.grows (ReadsNode x c.args.node c.args.node.tree.now) c.loop-job.waiting.items
    c.pop.new.self.items c.in-Some.job c.in-Some.ensures.items i.waits c.in_err-rest.field-0.0
    c.in_err-rest.ensures.is)

pub loop-job-smaller : goal.loop-job-smaller
loop-job-smaller c = parts-fall c.loop-job.waiting.items c.pop.new.self.items c.put_back.new.waiting.items c.in-Some.job c.in_ok-rest.rest
    c.in-Some.ensures.items c.in_ok-put_back.ensures c.in_ok-rest.ensures.fewer

pub loop-job-preserved : goal.loop-job-preserved
loop-job-preserved c =
    let x = c.args.self.now in
    let i = c.loop-job.invariant in
    let k = c.in_ok-rest.ensures in
    record {
      grows = Grows-trans i.grows k.grows;
      waits = waits-next c.requires.ready i.grows k.grows (ReadsNode x c.args.node c.args.node.tree.now) c.loop-job.waiting.items c.pop.new.self.items
          c.in-Some.job c.in-Some.ensures.items i.waits c.in_ok-rest.rest c.put_back.new.waiting.items c.in_ok-put_back.ensures k.is.0 k.is.1;
    }
