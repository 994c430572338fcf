use Rattle.std.proofs.Common.{◌≡◌, ap, sym, ◌∙◌}
use Rattle.std.specs.Prelude.{reverse, slice_get, Some, option_map}
use Rattle.el_base.proofs.Throughout.{all-at, all-reverse}
use Rattle.elab_machine.specs.Spine.{found_of}
use Rattle.elab_machine.specs.Writer.{IsValue, value_in}
use Rattle.elab_machine.proofs.Starts.{value-at}
use Rattle.elab_machine.proofs.writer.Writer.variable.Goals as goal

pub raised-requires : goal.raised-requires
raised-requires c =
    let x = c.args.self.now in
    let vs = x.values.now.items in
    let at : Some c.in-Some.value ≡ slice_get (reverse vs) c.args.index = sym c.in-Some.is ∙ c.value_at.ensures ∙ ap (λ vs. slice_get (reverse vs) c.args.index) c.as_slice.ensures.value in
    record { value = all-at (IsValue x.pool.now x.inside) (reverse vs) c.args.index c.in-Some.value (all-reverse (IsValue x.pool.now x.inside) vs c.requires.ready.values) (sym at) }

pub returns-clause-is : goal.returns-clause-is
returns-clause-is c =
    let x = c.args.self.now in
    let p = x.pool.now in
    let vs = x.values.now.items in
    let v = c.in-Some.value in
    let at : Some v ≡ slice_get (reverse vs) c.args.index = sym c.in-Some.is ∙ c.value_at.ensures ∙ ap (λ vs. slice_get (reverse vs) c.args.index) c.as_slice.ensures.value in
    (found_of (value_in p x.inside v), ap (option_map found_of) (value-at p x.inside c.args.index vs (Some v) at), c.in_ok-raised.ensures.is)
