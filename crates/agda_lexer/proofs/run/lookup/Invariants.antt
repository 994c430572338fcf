use Rattle.std.proofs.Common.{◌≡◌, length, map}
use Rattle.agda_lexer.specs.Fixed.{fixed_kind}
use Rattle.agda_lexer.specs.Runs.{lookup}
use Rattle.agda_lexer.proofs.run.lookup.Given as goal

abbrev pub invariant-loop-table : goal.invariant-loop-table
invariant-loop-table l = lookup (map (λ k. (k.0.now, fixed_kind k.1)) l.table) l.word ≡ lookup (map (λ k. (k.0.now, fixed_kind k.1)) l.initial.table) l.word

abbrev pub decreases-loop-table : goal.decreases-loop-table
decreases-loop-table l = length l.table
