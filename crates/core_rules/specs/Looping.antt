-- A function that calls itself without end, and a family over its values: terms that are the same convert although no fuel reaches a head form.
use Rattle.std.specs.Prelude.{ℕ, suc, [], ◌∷◌}
use Rattle.core_rules.specs.declared.Flag.TheVariants.{Explicit}
use Rattle.core_rules.specs.Term.{Term, Var, Sort, Pi, App, Def}
use Rattle.core_rules.specs.Signature.{Tree, Leaf, Intro, Postulate, Family, Function, Signature}
use Rattle.core_rules.specs.Examples.{nat}
use Rattle.core_rules.specs.Addition.{nat_type, zero_term, suc_term}
use Rattle.core_rules.specs.Heads.{Answer, Heads}
use Rattle.core_rules.specs.Bounded.{Yes, OutOfFuel, ConvOf}
use Rattle.core_rules.specs.BoundedLaws.{no_solutions}

-- loop n
abbrev pub loop_term : Term → Term
loop_term t = App Explicit (Def 0) t

-- loop n = loop n
abbrev pub loop_tree : Tree Term
loop_tree = Intro (Leaf (loop_term (Var 0)) 0)

-- Nat, loop : Nat → Nat and P : Nat → Set
abbrev pub looping : Signature Term
looping = Family nat ∷ Function 3 (Pi Explicit 0 nat_type nat_type) [] loop_tree ∷ Postulate 4 (Pi Explicit 0 nat_type (Sort 0)) ∷ []

-- P (loop n)
abbrev pub over_loop : Term → Term
over_loop t = App Explicit (Def 1) (loop_term t)

-- loop n has no head form, in however many steps
abbrev pub LoopHasNoHead : Type 0
LoopHasNoHead = (t : Term) (w : Answer) (n : ℕ) → Heads looping no_solutions (loop_term t) [] w n → ⊥

-- P (loop zero) converts with itself at the least depth and without fuel
abbrev pub SameWithoutFuel : Type 0
SameWithoutFuel = ConvOf looping no_solutions 0 1 (over_loop zero_term) (over_loop zero_term) Yes

-- P (loop zero) against P (loop (suc zero)) is out of fuel, whatever the fuel
abbrev pub OthersOutOfFuel : Type 0
OthersOutOfFuel = (fuel depth : ℕ) → ConvOf looping no_solutions fuel (suc (suc depth)) (over_loop zero_term) (over_loop (suc_term zero_term)) OutOfFuel
