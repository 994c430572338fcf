use Rattle.std.proofs.Common.{◌∙◌, sym, ap, arith}
use Rattle.el_outside.specs.Place.{pos}
use Rattle.file_load.proofs.Loading.{reached}
use Rattle.file_load.proofs.stages.place_of.Goals as goal

pub returns : goal.returns
returns c = c.pos-2.ensures ∙ sym (c.walk.invariant ∙ ap pos (reached c.args.byte c.walk.cursor.place c.walk.cursor.chars (omega (arith, c.walk-test.false, c.at.ensures))))
