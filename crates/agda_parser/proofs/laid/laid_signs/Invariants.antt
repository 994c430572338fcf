use Rattle.std.proofs.Common.{◌≡◌, take, map}
use Rattle.agda_parser.specs.Laid.{laid_sign}
use Rattle.agda_parser.proofs.laid.laid_signs.Given as goal

abbrev pub invariant-loop-sign : goal.invariant-loop-sign
invariant-loop-sign l = l.signs.items ≡ map (laid_sign l.tokens) (take l.sign-index l.laid)
