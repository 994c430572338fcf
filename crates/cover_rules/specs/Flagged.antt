-- Arguments that have the flags of a telescope, and a constructor of a record that has eta at such arguments.
use Rattle.std.specs.Prelude.{ℕ, ◌&&◌, eqb, cond, List, [], ◌∷◌, Option, Some, None, option_map, option_and_then}
use Rattle.core_rules.specs.Term.{Term}
use Rattle.core_rules.specs.Signature.{Telescope, Signature, con_place, con_decl, fam_decl}
use Rattle.core_rules.specs.Elimination.{Elim, Arg}
use Rattle.core_rules.specs.Bounded.{same_flag, RecordValue}

-- the arguments of es, where they are as many as the entries and have their flags
abbrev pub flagged : Telescope Term → List Elim → Option (List Term)
flagged [] [] = Some []
flagged (e ∷ c) (Arg b u ∷ es) = cond (same_flag e.flag b) (option_map (λ us. u ∷ us) (flagged c es)) None
flagged _ _ = None

-- constructor k under es as a value of a record that has eta, with all its fields at their flags
abbrev pub flagged_value : Signature Term → ℕ → List Elim → Option RecordValue
flagged_value g k es =
    option_and_then (λ p. option_and_then (λ d. option_and_then (λ c.
    cond (d.eta && eqb p.1 0) (option_map (λ us. record { fam = p.0; values = us }) (flagged c.args es)) None)
    (con_decl g k)) (fam_decl g p.0)) (con_place g k)
