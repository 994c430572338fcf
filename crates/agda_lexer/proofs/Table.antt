-- The table of the code is that of the definition.
use Rattle.std.proofs.Common.{◌≡◌, ℕ, List, map, Some, None, Ok, Result, refl, ap, ◌∙◌}
use Rattle.std.specs.Char.{encode_utf8}
use Rattle.agda_lexer.specs.declared.run.TheConstants.{FIXED_RUNS}
use Rattle.agda_lexer.specs.declared.token.TokenKind.{TokenKind}
use Rattle.agda_lexer.specs.declared.token.LexKind.{LexKind}
use Rattle.agda_lexer.specs.Fixed.{fixed_kind}
use Rattle.agda_lexer.specs.Runs.{lookup, fixed_runs, or_level, or_name, set_level, run_kind}

table_is : map (λ k. (k.0.now, fixed_kind k.1)) FIXED_RUNS ≡ fixed_runs
unfolding encode_utf8
table_is = refl

pub found_is : (word bytes : List ℕ) (kind : TokenKind) → bytes ≡ word → Some kind ≡ lookup (map (λ k. (k.0.now, fixed_kind k.1)) FIXED_RUNS) bytes → Ok kind ≡ run_kind word
unfolding run_kind
found_is word bytes kind same e = ap (or_level word) (e ∙ ap (λ (t : List (List ℕ × TokenKind)). lookup t bytes) table_is ∙ ap (lookup fixed_runs) same)

pub not_found : (word bytes : List ℕ) (r : Result TokenKind LexKind) → bytes ≡ word → None ≡ lookup (map (λ k. (k.0.now, fixed_kind k.1)) FIXED_RUNS) bytes → r ≡ or_name word (set_level word) → r ≡ run_kind word
unfolding run_kind
not_found word bytes r same e name = name ∙ ap (or_level word) (e ∙ ap (λ (t : List (List ℕ × TokenKind)). lookup t bytes) table_is ∙ ap (lookup fixed_runs) same)
