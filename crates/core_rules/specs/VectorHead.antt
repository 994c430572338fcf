-- The first item of a vector that has one: a case tree whose split solves one constructor's index equation and refutes the other's.
use Rattle.std.specs.Prelude.{[], ◌∷◌}
use Rattle.core_rules.specs.declared.Flag.TheVariants.{Explicit}
use Rattle.core_rules.specs.Term.{Term, Var, Pi, App, Def, Fam}
use Rattle.core_rules.specs.Signature.{Branch, Tree, Leaf, Intro, Split, NoCon, Refuted, Goes, Family, Open, Signature}
use Rattle.core_rules.specs.Typing.{entry}
use Rattle.core_rules.specs.Examples.{nat, vec}
use Rattle.core_rules.specs.Addition.{nat_type, suc_term}
use Rattle.core_rules.specs.TypedTree.{TypedTree}

abbrev pub vector : Term → Term
vector n = App Explicit (App Explicit (Fam 1) nat_type) n

-- (n : Nat) → Vec Nat (suc n) → Nat
abbrev pub first_type : Term
first_type = Pi Explicit 0 nat_type (Pi Explicit 1 (vector (suc_term (Var 0))) nat_type)

-- at cons m x xs, where m is n, the variables are n, x and xs
abbrev pub at_cons : Branch Term
at_cons = record {
  context = entry Explicit 0 nat_type ∷ entry Explicit 8 nat_type ∷ entry Explicit 9 (vector (Var 1)) ∷ [];
  values = Var 0 ∷ Var 1 ∷ Var 2 ∷ Var 2 ∷ [];
  keep = 0 ∷ 1 ∷ 3 ∷ [];
}

abbrev pub first_tree : Tree Term
first_tree = Intro (Intro (Split 0 (Refuted 2 (Goes 3 at_cons (Leaf (Var 1) 0) NoCon))))

abbrev pub vectors : Signature Term
vectors = Family nat ∷ Family vec ∷ Open 3 first_type ∷ []

abbrev pub FirstTyped : Type 0
FirstTyped = TypedTree vectors [] first_tree first_type (Def 0)
