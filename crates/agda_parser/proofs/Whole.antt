-- One file, and nothing behind it.
use Rattle.std.proofs.Common.{◌≡◌, ℕ, List, [], Ok}
use Rattle.source_tree.specs.declared.decl.File.{File}
use Rattle.agda_grammar.specs.Signs.{Input}
use Rattle.agda_parser.specs.DeclarationSyntax.{file, whole_file}
use Rattle.parse_laws.proofs.Good.{ended_ends}

module _ (text : List ℕ) where
  pub file_ends : (n : ℕ) (ts : Input) (x : File) (rest : Input) → whole_file text n ts ≡ Ok (x, rest) → rest ≡ []
  unfolding whole_file
  file_ends n = ended_ends (file text n)
