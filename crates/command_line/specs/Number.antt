-- The numbers of the command line.
use Rattle.std.specs.Prelude.{◌&&◌, ◌^◌, ℕ, Bool, List, length, nat_le, nat_lt, Option, Some, None, if◌then◌else◌}
use Rattle.std.specs.Char.{is_ascii_digit}
use Rattle.std.specs.List.{list_all}
use Rattle.std.specs.Str.Parse.{digits_value}

-- one to twenty decimal digits
abbrev pub is_number : List ℕ → Bool
is_number text = nat_le 1 (length text) && nat_le (length text) 20 && list_all is_ascii_digit text

-- the number that digits write
abbrev pub value : List ℕ → ℕ
value text = digits_value 10 text

-- the number of a text that writes one below 2^64
abbrev pub number_of : List ℕ → Option ℕ
number_of text = if is_number text && nat_lt (value text) (2 ^ 64) then Some (value text) else None

-- the text writes a number from `least` to `most`
abbrev pub is_number_in : ℕ → ℕ → List ℕ → Bool
is_number_in least most text = is_number text && nat_le least (value text) && nat_le (value text) most
