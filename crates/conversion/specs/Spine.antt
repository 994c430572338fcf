-- A projection in code with the eliminations before and after it.
use Rattle.std.specs.Prelude.{ℕ}
use Rattle.core_rules.specs.Term.{Term}
use Rattle.core_rules.specs.Bounded.{Cut}
use Rattle.weak_head.specs.Elims.{spine_in, AllBelow}
use Rattle.conversion.specs.declared.spine.Cut as C

-- where f gives the trees of ids
abbrev pub cut_in : (ℕ → Term) → C.Cut → Cut
cut_in f c = record { before = spine_in f c.before.now; field = c.field; after = spine_in f c.after.now }

abbrev pub CutBelow : ℕ → C.Cut → Type 0
CutBelow n c = AllBelow n c.before.now × AllBelow n c.after.now
