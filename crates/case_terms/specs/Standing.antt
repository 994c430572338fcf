-- That the ids of entries, constructors, trees and branches are those of a pool.
use Rattle.std.specs.Prelude.{ℕ, ◌<◌, length}
use Rattle.core_rules.specs.Signature.{Tree, NoCon, Telescope, ConDecl}
use Rattle.core_rules.specs.Mapped.{AllConBranches, AllTree, AllCon, AllEntries, AllDecl}
use Rattle.term_pool.specs.Pool.{Pool}
use Rattle.core_terms.specs.Signature.{decl_of}
use Rattle.core_terms.specs.TreeView.{way_of}
use Rattle.core_terms.specs.declared.signature.CoreDecl.{CoreDecl}
use Rattle.core_terms.specs.declared.tree.ConBranch.{ConBranch}

abbrev pub EntriesIn : Pool → Telescope ℕ → Type 0
EntriesIn p es = AllEntries (λ i. i < length p.trees) es

abbrev pub ConIn : Pool → ConDecl ℕ → Type 0
ConIn p c = AllCon (λ i. i < length p.trees) c

abbrev pub DeclIn : Pool → CoreDecl → Type 0
DeclIn p d = AllDecl (λ i. i < length p.trees) (decl_of d)

abbrev pub TreeIn : Pool → Tree ℕ → Type 0
TreeIn p T = AllTree (λ i. i < length p.trees) T

abbrev pub BranchIn : Pool → ConBranch → Type 0
BranchIn p b = AllConBranches (λ i. i < length p.trees) (way_of b.con b.way NoCon)
