-- What the words of a command line ask for.
use Rattle.std.specs.Prelude.{◌≤◌, ◌&&◌, ℕ, Bool, List, [], ◌∷◌, Option, Some, None, option_map, option_and_then, codes, if◌then◌else◌}
use Rattle.std.specs.Str.{bytes_eq}
use Rattle.command_line.specs.declared.ask.Ask.{Ask}
use Rattle.term_pool.specs.declared.limits.Limits.{Limits}
use Rattle.command_line.specs.declared.ask.Mode.{Mode}
use Rattle.command_line.specs.declared.ask.Mode.TheVariants.{Check, Session, Gen}
use Rattle.command_line.specs.declared.limit.Limit.TheVariants.{Fuel, Depth, Order}
use Rattle.command_line.specs.declared.rule.Next.TheVariants.{Word}
use Rattle.command_line.specs.Limit.{limit_of}
use Rattle.command_line.specs.Number.{is_number_in, value}
use Rattle.command_line.specs.Rule.{Parts, nothing, read}

abbrev pub is_seed : List ℕ → Bool
is_seed = is_number_in 0 18446744073709551615

abbrev pub is_count : List ℕ → Bool
is_count = is_number_in 0 2000

-- the mode and its words
abbrev pub mode_of : List (List ℕ) → Option Mode
mode_of (mode ∷ []) = if bytes_eq mode (codes "session") then Some Session else None
mode_of (mode ∷ name ∷ []) = if bytes_eq mode (codes "check") then Some (Check name) else None
mode_of (mode ∷ seed ∷ count ∷ []) =
    if bytes_eq mode (codes "gen") && is_seed seed && is_count count then Some (Gen (value seed) (value count)) else None
mode_of _ = None

abbrev pub limits_of : Parts → Limits
limits_of p = record { fuel = limit_of Fuel p.fuel; depth = limit_of Depth p.depth; order = limit_of Order p.order }

-- the limits are in their ranges
pub record AreInRange (limits : Limits) : Type 0 where
  pub fuel_least : 1 ≤ limits.fuel
  pub fuel_most : limits.fuel ≤ 1000000
  pub depth_least : 1 ≤ limits.depth
  pub depth_most : limits.depth ≤ 2000

abbrev pub ask_with : Parts → Mode → Ask
ask_with p mode = record { mode = mode; limits = limits_of p }

abbrev pub ask_from : Parts → Option Ask
ask_from p = option_map (ask_with p) (mode_of p.left)

-- the words after the program's name, each as its bytes
abbrev pub ask_of : List (List ℕ) → Option Ask
ask_of words = option_and_then ask_from (read words Word nothing)
