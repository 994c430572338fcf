-- Readings counted by hand, with the plainest unifier.
use Rattle.std.specs.Prelude.{Some, [], ◌∷◌, length, reverse}
use Rattle.core_rules.specs.Term.{Term, Sort, Pi}
use Rattle.core_rules.specs.declared.Flag.TheVariants.{Explicit}
use Rattle.core_rules.specs.Signature.{ConDecl, Intro, Absurd, Family, Function, numbers}
use Rattle.core_rules.specs.TypedTree.{vars}
use Rattle.core_rules.specs.Examples.{nat, data_type}
use Rattle.core_rules.specs.Typing.{entry}
use Rattle.kernel_rules.specs.Refusals.{TooBig, BadTree}
use Rattle.core_rules.specs.Addition.{nat_type, plus_tree}
use Rattle.kernel_rules.specs.Outcome.{Gives, Refuses}
use Rattle.core_rules.specs.UnifierAnswers.{UnifiedBy, StuckAt, Answers, answers}
use Rattle.kernel_rules.specs.FamilyReading.{FamilyOf}
use Rattle.kernel_rules.specs.DeclReading.{DeclOf}
use Rattle.kernel_rules.specs.DeclLaws.{Unifiers}

-- without equations each variable stays; any equation is one that no rule applies to
abbrev pub plain : Answers
plain c [] = UnifiedBy [] (record { context = reverse c; values = vars 0 (length c); keep = numbers 0 (length c) })
plain c (e ∷ es) = StuckAt e.left e.right

abbrev pub PlainUnifies : Type 0
PlainUnifies = Unifiers (λ g. answers plain)

-- with no fuel
abbrev pub NatAccepted : Type 0
NatAccepted = FamilyOf [] 0 0 nat (Gives tt)

-- plus by its case tree, with no fuel and to the depth of one comparison
abbrev pub AdditionAccepted : Type 0
AdditionAccepted = DeclOf (λ g. answers plain) (Family nat ∷ []) 0 1 (Function 3 (Pi Explicit 0 nat_type (Pi Explicit 0 nat_type nat_type)) [] plus_tree) (Gives tt)

-- data Box : Set, with box : Set → Box
abbrev pub box_con : ConDecl Term
box_con = record { name = Some 1; args = entry Explicit 2 (Sort 0) ∷ []; indices = [] }

abbrev pub BoxTooBig : Type 0
BoxTooBig = FamilyOf [] 0 0 (data_type 0 [] [] (box_con ∷ [])) (Refuses TooBig)

-- a function from Nat to Nat whose tree splits its argument and refutes each constructor
abbrev pub AbsurdRefused : Type 0
AbsurdRefused = DeclOf (λ g. answers plain) (Family nat ∷ []) 0 1 (Function 3 (Pi Explicit 0 nat_type nat_type) [] (Intro (Absurd 0))) (Refuses BadTree)
