use Rattle.std.proofs.Common.{sym, ◌∙◌, arith}
use Rattle.core_print.specs.Views.{world_of}
use Rattle.core_print.proofs.Viewing.{no_def, some_def}
use Rattle.core_print.proofs.view.View.def_text.Goals as goal

pub returns-then-number-defs : goal.returns-then-number-defs
returns-then-number-defs c = sym (no_def (world_of c.args.self.now) c.args.def (omega (arith, c.if-number-defs.true, c.number.ensures, c.defs.ensures)))

pub returns : goal.returns
returns c = c.name.ensures ∙ sym (some_def (world_of c.args.self.now) c.args.def c.def.result.now c.def.ensures)
