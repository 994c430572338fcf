use Rattle.tree_kernel.proofs.Accepted.{decl-derivable}
use Rattle.tree_kernel.proofs.laws.accepted_decl_is_derivable.Goals as goal

pub returns : goal.returns
returns c = λ g fuel depth d r s i h. decl-derivable g fuel depth r c.accepted_tree_is_typed.ensures d s i h
