use Rattle.std.proofs.Common.{◌≡◌, take, map}
use Rattle.expr_parser.specs.Token.{sign_of}
use Rattle.expr_parser.proofs.token.signs_of.Given as goal

abbrev pub invariant-loop-token : goal.invariant-loop-token
invariant-loop-token l = l.signs.items ≡ map sign_of (take l.token-index l.tokens)
