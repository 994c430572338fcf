-- The variables around with those of binders inside of them.
use Rattle.std.proofs.Common.{List, ℕ, reverse, refl}
use Rattle.source_tree.specs.declared.place.Name.{Name}
use Rattle.scope_table.specs.Known.{Inside}
use Rattle.scope_table.proofs.Inside.{inside-refl, inside-push, inside-trans}
use Rattle.scope_check.specs.Exprs.{under, texts}

pub inside-under : (ls : List (List ℕ)) (xs : List Name) → Inside ls (under ls xs)
inside-under ls xs = record { more = reverse (texts xs); is = refl }

pub ruleset inside = (inside-refl, inside-push, inside-under, inside-trans)
