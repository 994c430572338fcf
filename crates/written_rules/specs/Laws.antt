-- The statements of the laws of the written rules.
use Rattle.std.specs.Prelude.{ℕ}
use Rattle.std.specs.List.{AllByRecursion}
use Rattle.core_rules.specs.Term.{Term}
use Rattle.core_rules.specs.Signature.{Signature, Solved}
use Rattle.core_rules.specs.InScope.{InScope, SignatureInScope, any_meta}
use Rattle.core_rules.specs.BoundedLaws.{ExactlyOne}
use Rattle.kernel_rules.specs.Outcome.{Gives}
use Rattle.el_outside.specs.declared.place.Pos.{Pos}
use Rattle.resolved_tree.specs.declared.resolved.ResolvedExpr.{ResolvedExpr}
use Rattle.written_rules.specs.Rules.{Values}
use Rattle.written_rules.specs.Expressions.{WrittenOf, WrittenTypeOf, WrittenDotOf}

-- of any expression, in scope or not, and whatever its variables stand for: at a type, as a type, and in a dotted pattern
abbrev pub ExactlyOneWritten : Type 0
ExactlyOneWritten = (g : Signature Term) (fuel depth : ℕ) (p : Pos) (vs : Values) (e : ResolvedExpr) (a t : Term)
    → ExactlyOne (WrittenOf g fuel depth vs e a) × ExactlyOne (WrittenTypeOf g fuel depth vs e) × ExactlyOne (WrittenDotOf g fuel depth p vs e a t)

-- the values of variables and their types are in scope in a context of n entries
abbrev pub ValuesInScope : Signature Term → ℕ → Values → Type 0
ValuesInScope g n vs = AllByRecursion (λ (v : Solved Term). InScope g any_meta n v.value × InScope g any_meta n v.ty) vs

-- what is accepted is in scope where the values and the wanted type are, also where the expression names what is not there
abbrev pub AcceptedInScope : Type 0
AcceptedInScope = (g : Signature Term) (fuel depth n : ℕ) (vs : Values) (e : ResolvedExpr) (a t : Term) → SignatureInScope g any_meta → ValuesInScope g n vs → InScope g any_meta n a
    → WrittenOf g fuel depth vs e a (Gives t) → InScope g any_meta n t

abbrev pub AcceptedTypeInScope : Type 0
AcceptedTypeInScope = (g : Signature Term) (fuel depth n : ℕ) (vs : Values) (e : ResolvedExpr) (t : Term) (l : ℕ) → SignatureInScope g any_meta → ValuesInScope g n vs
    → WrittenTypeOf g fuel depth vs e (Gives (t, l)) → InScope g any_meta n t
