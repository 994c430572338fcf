-- Which calls of an object are to fail, and how many calls and faults there were.
use Rattle.std.specs.Prelude.{ℕ, Bool, List, if◌then◌else◌, ◌==◌}
use Rattle.std.specs.List.{list_any}
use Rattle.el_outside.specs.Causes.{one_more}

-- calls are counted from 1
pub record Plan : Type 0 where
  pub fails : List ℕ
  pub calls : ℕ
  pub faults : ℕ

abbrev pub fresh : List ℕ → Plan
fresh fails = record { fails = fails; calls = 0; faults = 0 }

-- whether the next call fails, and the plan after that call
abbrev pub fails_next : Plan → Bool
fails_next p = list_any (λ n. n == one_more p.calls) p.fails

abbrev pub after_call : Plan → Plan
after_call p = record { fails = p.fails; calls = one_more p.calls; faults = if fails_next p then one_more p.faults else p.faults }
