-- Which patterns hold `()`, at any depth, and which clauses are ended.
use Rattle.std.specs.Prelude.{Bool, true, false, ◌||◌, is_some}
use Rattle.std.specs.List.{list_any}
use Rattle.resolved_tree.specs.declared.resolved.ResolvedPattern.{ResolvedPattern, fold-ResolvedPattern}
use Rattle.resolved_tree.specs.declared.resolved.ResolvedPattern.TheOpen.{ResolvedPattern-F}
use Rattle.resolved_tree.specs.declared.resolved.ResolvedClause.{ResolvedClause}

abbrev pub absurd_step : ResolvedPattern-F Bool → Bool
absurd_step (ResolvedPattern-F.Implicit p q) = q
absurd_step (ResolvedPattern-F.Named p x q) = q
absurd_step (ResolvedPattern-F.Project p h) = false
absurd_step (ResolvedPattern-F.Variable x) = false
absurd_step (ResolvedPattern-F.Con p k qs) = list_any (λ b. b) qs
absurd_step (ResolvedPattern-F.Underscore p) = false
absurd_step (ResolvedPattern-F.Absurd p) = true
absurd_step (ResolvedPattern-F.Dotted p e) = false

-- also in braces
unfoldable pub is_absurd : ResolvedPattern → Bool
is_absurd q = fold-ResolvedPattern Bool absurd_step q

-- a clause has a right side or a pattern `()`
abbrev pub is_ended : ResolvedClause → Bool
is_ended q = is_some q.right || list_any is_absurd q.patterns
