-- What a call answers, of what reading the signs gave: all of them, or those up to the first that is nested too deep.
use Rattle.std.specs.Prelude.{ℕ, ◌+◌, ◌-◌, ◌≤◌, if◌then◌else◌, nat_eq, List, length, drop, Result, Ok, Err}
use Rattle.agda_grammar.specs.declared.sign.Sign.{Sign}
use Rattle.expr_parser.specs.declared.stop.Stop.{Stop}
use Rattle.expr_parser.specs.declared.stop.Stop.TheVariants as stop
use Rattle.agda_grammar.specs.declared.error.ParseError.{ParseError}
use Rattle.agda_grammar.specs.declared.error.ParseError.TheVariants.{Bad, NoMemory}
use Rattle.agda_grammar.specs.declared.error.ParseKind.{ParseKind}
use Rattle.agda_grammar.specs.declared.error.ParseKind.TheVariants.{Unexpected, TooNested}
use Rattle.agda_grammar.specs.Reading.{place_at, end_pos}

-- where so many signs are left
abbrev pub refusal_at : List ℕ → List Sign → ℕ → ParseKind → ParseError
refusal_at text i left kind = Bad (place_at (end_pos text) (drop (length i - left) i)) kind

-- no more signs are left than these
abbrev pub LeftUpTo : {A : Type 0} → ℕ → Result A Stop → Type 0
LeftUpTo m (Ok x) = Unit {0}
LeftUpTo m (Err (stop.Unexpected n)) = n ≤ m
LeftUpTo m (Err stop.NoMemory) = Unit {0}

-- all of the signs were read
abbrev pub whole_answer : {A : Type 0} → List ℕ → List Sign → Result A Stop → Result A ParseError
whole_answer text i (Ok x) = Ok x
whole_answer text i (Err (stop.Unexpected n)) = Err (refusal_at text i n Unexpected)
whole_answer text i (Err stop.NoMemory) = Err NoMemory

-- those up to the first that is nested too deep were read, before which there are so many
abbrev pub front_refusal : List ℕ → List Sign → ℕ → Result (Unit {0}) Stop → ParseError
front_refusal text i count (Ok u) = refusal_at text i (length i - count) TooNested
front_refusal text i count (Err (stop.Unexpected n)) = if nat_eq n 0 then refusal_at text i (length i - count) TooNested else refusal_at text i (length i - (count + 1) + n) Unexpected
front_refusal text i count (Err stop.NoMemory) = NoMemory
