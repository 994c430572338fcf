-- The nodes that are left behind terms, counted down one term after another.
use Rattle.std.specs.Prelude.{◌≡◌, ℕ, ◌-◌, cond, nat_lt, ◌||◌, List, [], ◌∷◌, Option, Some, None, Result, Ok, Err}
use Rattle.std.specs.Option.{option_and_then}
use Rattle.core_rules.specs.Term.{Term, size}
use Rattle.el_outside.specs.declared.place.Pos.{Pos}
use Rattle.session_text.specs.declared.error.LoadKind.TheVariants as kind
use Rattle.file_load.specs.declared.stop.Stop.{Stop}
use Rattle.file_load.specs.declared.stop.Stop.TheVariants as stop
use Rattle.file_load.specs.Passes.{error_at}
use Rattle.file_load.specs.Sizes.{is_deep}

-- where n nodes are left, those left behind one term
abbrev pub room_behind : ℕ → Term → Option ℕ
room_behind n t = cond (nat_lt n (size t) || is_deep t) None (Some (n - size t))

-- and behind terms; None where there is not room for all of them, or one is too deep
abbrev pub room : ℕ → List Term → Option ℕ
room n [] = Some n
room n (t ∷ ts) = option_and_then (λ m. room m ts) (room_behind n t)

-- there was room
abbrev pub IsMeasured : Pos → Option ℕ → Result (Unit {0}) Stop → Type 0
IsMeasured p (Some n) r = r ≡ Ok tt
IsMeasured p None r = r ≡ Err (stop.Error (error_at p kind.TooLarge))
