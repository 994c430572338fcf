-- One expression, and nothing behind it.
use Rattle.std.proofs.Common.{◌≡◌, ℕ, ◌≤◌, List, [], length, Ok, refl}
use Rattle.source_tree.specs.declared.expr.Expr.{Expr}
use Rattle.agda_grammar.specs.Nesting.{Depth, shallow, nesting, behind, limit}
use Rattle.agda_grammar.specs.Signs.{Input}
use Rattle.agda_grammar.specs.Grammar.{Derivation, then, tree}
use Rattle.expr_parser.specs.Syntax.{expr, whole_expr}
use Rattle.parse_laws.specs.Parser.{at_end}
use Rattle.parse_laws.proofs.Limit as count
use Rattle.parse_laws.proofs.Good.{Good, ended_good, ended_ends}
use Rattle.expr_parser.proofs.Steps.{As}
use Rattle.expr_parser.proofs.Rules.{expr_good}
use Rattle.expr_parser.proofs.Complete.{Stops, size, read}

end_stops : Stops []
end_stops = record { arg = refl; arrow = refl }

module _ (text : List ℕ) where
  pub expr_whole : (n : ℕ) → Good (As then (tree text)) (whole_expr text) 0 n
  unfolding whole_expr
  expr_whole n = ended_good (As then (tree text)) (expr text) 0 n (expr_good text n)

  pub expr_ends : (n : ℕ) (ts : Input) (x : Expr) (rest : Input) → whole_expr text n ts ≡ Ok (x, rest) → rest ≡ []
  unfolding whole_expr
  expr_ends n = ended_ends (expr text n)

  pub expr_read : (n : ℕ) (d : Derivation) → size d ≤ n → whole_expr text n (then d []) ≡ Ok (tree text d, [])
  unfolding whole_expr at_end
  expr_read n d le = rw (read text n d [] le end_stops) refl

-- no more signs stand before the first that is nested too deep than there are
pub none_deep : (d : Depth) (i : Input) → shallow d i ≤ length i
none_deep = count.none_deep (λ d s. nesting d s.kind) (λ d s. behind d s.kind) limit
