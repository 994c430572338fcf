use Rattle.std.proofs.Common.{◌∙◌}
use Rattle.term_pool.specs.Pool.{tree}
use Rattle.elab_machine.specs.Labels.{is_once, labelled}
use Rattle.elab_machine.proofs.Recorded.{all-named}
use Rattle.elab_machine.proofs.writer.Writer.has_fields.Goals as goal

pub returns : goal.returns
returns c =
    let p = c.args.self.now.pool.now in
    c.are_fields.ensures ∙ all-named (tree p) (λ n. is_once (labelled c.args.labels.now n)) c.args.count c.fields_in.result.now _ (c.fields_in.ensures.is p)
