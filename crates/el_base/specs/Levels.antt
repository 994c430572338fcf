-- The greatest level of a universe.
use Rattle.std.specs.Prelude.{ℕ}

abbrev pub level_limit : ℕ
level_limit = 1000000
