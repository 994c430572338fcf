-- What the laws say.
use Rattle.std.specs.Prelude.{◌≡◌}
use Rattle.source_tree.specs.declared.decl.Decl.{Decl}
use Rattle.resolved_tree.specs.declared.resolved.Resolved.{Resolved}
use Rattle.scope_check.specs.Answers.{Checked}
use Rattle.scope_table.specs.Known.{Known}
use Rattle.scope_check.specs.Resolves.{Resolves}

-- the declaration has an answer behind k, and no other
pub record OneCase (k : Known) (d : Decl) : Type 0 where
  pub answer : Checked (Resolved × Known)
  pub holds : Resolves k d answer
  pub only : (other : Checked (Resolved × Known)) → Resolves k d other → other ≡ answer
