use Rattle.std.proofs.Common.{map, string_bytes}
use Rattle.command_line.proofs.Parts.{values_given}
use Rattle.command_line.proofs.ask.read_words.Goals as goal

pub read_limits-limits-requires : goal.read_limits-limits-requires
read_limits-limits-requires c = values_given (map string_bytes c.args.words.now) _ c.in-Ok.ensures.parts
