-- The numbers of the command line, as `parse` reads them.
use Rattle.std.proofs.Common.{◌≡◌, ◌^◌, ◌&&◌, ℕ, Bool, true, false, List, length, None, Err, refl, rules, ltb-true, leb-true, nat_lt}
use Rattle.std.specs.Char.{is_ascii_digit}
use Rattle.std.specs.List.{list_all}
use Rattle.std.specs.Str.Parse.{ParsesUnsigned, digits_value}
use Rattle.std.proofs.lemmas.Str.Parse.{IsNumeralModel, IsDigitsTest, numerals_by_value, parse_digits}
use Rattle.command_line.specs.Number.{is_number, number_of, value}

tells : IsDigitsTest (λ ds. list_all is_ascii_digit ds ≡ true)
tells = search rules

own : IsNumeralModel (λ ds. list_all is_ascii_digit ds ≡ true) (digits_value 10)
own = numerals_by_value _ tells

pub both : (a b : Bool) → (a && b) ≡ true → (a ≡ true) × (b ≡ true)
both true b e = (refl, e)
both false b e = cc

pub too_large : {E : Type 0} (text : List ℕ) (e : E) → is_number text ≡ true → ParsesUnsigned 64 10 text (Err e) → None ≡ number_of text
too_large text e numeral failed = go (nat_lt (value text) (2 ^ 64)) refl
  where
    go : (b : Bool) → nat_lt (value text) (2 ^ 64) ≡ b → None ≡ number_of text
    go true below =
        let outer = both _ _ numeral in
        let inner = both _ _ outer.0 in
        absurd (parse_digits own 64 text (Err e) failed outer.1 (leb-true 1 (length text) inner.0, ltb-true _ _ below))
    go false above = rw (numeral, above) refl
