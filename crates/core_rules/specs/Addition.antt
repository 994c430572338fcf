-- The natural numbers and addition by its case tree, and what steps terms with them take.
use Rattle.std.specs.Prelude.{[], ◌∷◌}
use Rattle.core_rules.specs.declared.Flag.TheVariants.{Explicit}
use Rattle.core_rules.specs.Term.{Term, Var, Pi, Lam, App, Def, Fam, Con, End}
use Rattle.core_rules.specs.Signature.{Branch, Tree, Leaf, Intro, Split, NoCon, Goes, Family, Function, Signature}
use Rattle.core_rules.specs.Typing.{entry}
use Rattle.core_rules.specs.Elimination.{Arg}
use Rattle.core_rules.specs.Examples.{nat}
use Rattle.core_rules.specs.Heads.{Form, Heads}
use Rattle.core_rules.specs.BoundedLaws.{no_solutions}

-- Nat is the one family, with the constructors 0 and 1
abbrev pub nat_type : Term
nat_type = Fam 0

abbrev pub zero_term : Term
zero_term = Con 0 End

abbrev pub suc_term : Term → Term
suc_term t = App Explicit (Con 1 End) t

-- plus is the one function
abbrev pub plus_term : Term → Term → Term
plus_term t u = App Explicit (App Explicit (Def 0) t) u

-- plus m n is split at m, variable 1. At zero n alone is left, and it is the answer
abbrev pub at_zero : Branch Term
at_zero = record { context = entry Explicit 0 nat_type ∷ []; values = Var 0 ∷ []; keep = 0 ∷ [] }

-- at suc k the variables are k, which is 1, and n, which is 0
abbrev pub at_suc : Branch Term
at_suc = record { context = entry Explicit 0 nat_type ∷ entry Explicit 0 nat_type ∷ []; values = Var 0 ∷ Var 1 ∷ []; keep = 0 ∷ 1 ∷ [] }

abbrev pub plus_tree : Tree Term
plus_tree = Intro (Intro (Split 1
    (Goes 0 at_zero (Leaf (Var 0) 0)
    (Goes 1 at_suc (Leaf (suc_term (plus_term (Var 1) (Var 0))) 1)
    NoCon))))

abbrev pub addition : Signature Term
addition = Family nat ∷ Function 3 (Pi Explicit 0 nat_type (Pi Explicit 0 nat_type nat_type)) [] plus_tree ∷ []

-- λ x → plus x x
abbrev pub doubling : Term
doubling = Lam Explicit 0 nat_type (plus_term (Var 0) (Var 0))

-- plus (suc zero) zero comes to suc (plus zero zero) in one step: the split finds suc zero a form already, and the leaf unfolds
abbrev pub PlusInOneStep : Type 0
PlusInOneStep = Heads addition no_solutions (plus_term (suc_term zero_term) zero_term) [] (Form (Con 1 End) (Arg Explicit (plus_term zero_term zero_term) ∷ [])) 1

-- (λ x → plus x x) (plus zero zero) comes to zero in four steps: the beta step, that of plus zero zero as the value of the split, the leaf, and that of plus zero zero as the body
abbrev pub SharedTermInFourSteps : Type 0
SharedTermInFourSteps = Heads addition no_solutions (App Explicit doubling (plus_term zero_term zero_term)) [] (Form zero_term []) 4
