-- The options, each of which sets a limit.
use Rattle.std.specs.Prelude.{ℕ, Bool, List, Option, Some, None, codes, if◌then◌else◌}
use Rattle.std.specs.Str.{bytes_eq}
use Rattle.command_line.specs.declared.limit.Limit.{Limit}
use Rattle.command_line.specs.declared.limit.Limit.TheVariants.{Fuel, Depth, Order}
use Rattle.command_line.specs.Number.{is_number_in, value}

-- the option of this name
abbrev pub limit_named : List ℕ → Option Limit
limit_named name =
    if bytes_eq name (codes "--fuel") then Some Fuel
    else (if bytes_eq name (codes "--depth") then Some Depth
    else (if bytes_eq name (codes "--order") then Some Order else None))

abbrev pub least : Limit → ℕ
least Fuel = 1
least Depth = 1
least Order = 0

abbrev pub most : Limit → ℕ
most Fuel = 1000000
most Depth = 2000
most Order = 18446744073709551615

abbrev pub default : Limit → ℕ
default Fuel = 100000
default Depth = 1000
default Order = 0

-- the text is a value that the option takes
abbrev pub is_value : Limit → List ℕ → Bool
is_value limit text = is_number_in (least limit) (most limit) text

-- the limit, where the option was given with this value or was left out
abbrev pub limit_of : Limit → Option (List ℕ) → ℕ
limit_of limit None = default limit
limit_of limit (Some text) = value text
