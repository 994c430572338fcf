-- The characters of a text that stand apart, those of runs, and those of a line.
use Rattle.std.specs.Prelude.{ℕ, Bool, not, ◌||◌, ◌==◌}
use Rattle.el_outside.specs.Runs.{is_white}
use Rattle.agda_lexer.specs.declared.scan.Class.{Class}
use Rattle.agda_lexer.specs.declared.scan.Class.TheVariants as class

-- ( ) { } . ; @ "
abbrev pub is_special : ℕ → Bool
is_special c = c == 40 || c == 41 || c == 123 || c == 125 || c == 46 || c == 59 || c == 64 || c == 34

abbrev pub is_in : Class → ℕ → Bool
is_in class.Run c = not (is_white c || is_special c)
is_in class.White c = is_white c
is_in class.Line c = not (c == 10)
