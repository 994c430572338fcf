use Rattle.std.proofs.Common.{length, map, string_bytes}
use Rattle.command_line.specs.Ask.{ask_of}
use Rattle.command_line.proofs.Seen.{Stands}
use Rattle.command_line.proofs.rule.is_accepted.Given as goal

abbrev pub invariant-loop-rest : goal.invariant-loop-rest
invariant-loop-rest l = Stands (map string_bytes l.rest) l.next l.seen (ask_of (map string_bytes l.words))

abbrev pub decreases-loop-rest : goal.decreases-loop-rest
decreases-loop-rest l = length l.rest
