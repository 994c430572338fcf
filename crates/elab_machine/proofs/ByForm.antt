-- How an expression is read, by its form.
use Rattle.std.proofs.Common.{◌≡◌, sym, ap, subst, ◌∙◌}
use Rattle.std.specs.Prelude.{ℕ, List, Option, Some, None, Result}
use Rattle.core_rules.specs.Term.{Term}
use Rattle.core_rules.specs.Signature.{Signature}
use Rattle.term_pool.specs.Pool.{Pool}
use Rattle.el_outside.specs.declared.place.Pos.{Pos}
use Rattle.written_rules.specs.Rules.{Values, Checks, Types, Name, ArgMeaning, type_checked, name_checked, name_typed, other_checked, no_type}
use Rattle.written_rules.specs.Expressions.{ExprMeaning, a_type, an_application}
use Rattle.elab_machine.specs.declared.error.WrittenError.{WrittenError}
use Rattle.elab_machine.specs.declared.binders.Typed as T
use Rattle.elab_machine.specs.Answers.{AnswersTerm}
use Rattle.elab_machine.specs.Binders.{AnswersTyped}
use Rattle.elab_machine.specs.Writer.{Over, Read}

pub checked_as : (o : Over) (vs : Values) (b : Term) (p : Pool) (r : Result ℕ WrittenError) (k l : Checks) → ◌≡◌ {A = Checks} k l → AnswersTerm p (Read o (l vs b)) r → AnswersTerm p (Read o (k vs b)) r
checked_as o vs b p r k l e h = subst (λ (m : Checks). AnswersTerm p (Read o (m vs b)) r) (sym e) h

pub typed_as : (o : Over) (vs : Values) (p : Pool) (r : Result T.Typed WrittenError) (k l : Types) → ◌≡◌ {A = Types} k l → AnswersTyped p (Read o (l vs)) r → AnswersTyped p (Read o (k vs)) r
typed_as o vs p r k l e h = subst (λ (m : Types). AnswersTyped p (Read o (m vs)) r) (sym e) h

-- a type by its form, at a type
pub type_checks : (m : ExprMeaning) (p : Pos) (e : Types) → m ≡ a_type p e → ◌≡◌ {A = Checks} m.checks (type_checked p m.types)
type_checks m p e h = ap (λ (n : ExprMeaning). n.checks) h ∙ ap (type_checked p) (sym (ap (λ (n : ExprMeaning). n.types) h))

-- an application of a name, and of what is none
module _ (g : Signature Term) (p q s : Pos) (n : Option Name) (xs : List ArgMeaning) (m : ExprMeaning) (h : m ≡ an_application g p s n xs) (at_q : s ≡ q) where
  pub named_checks : (x : Name) → n ≡ Some x → ◌≡◌ {A = Checks} m.checks (name_checked g p q x xs)
  named_checks x e = ap (λ (k : ExprMeaning). k.checks) h ∙ (ap (λ (o : Option Name). (an_application g p s o xs).checks) e ∙ ap (λ (r : Pos). name_checked g p r x xs) at_q)

  pub named_types : (x : Name) → n ≡ Some x → ◌≡◌ {A = Types} m.types (name_typed g p q x xs)
  named_types x e = ap (λ (k : ExprMeaning). k.types) h ∙ (ap (λ (o : Option Name). (an_application g p s o xs).types) e ∙ ap (λ (r : Pos). name_typed g p r x xs) at_q)

  pub other_checks : n ≡ None → ◌≡◌ {A = Checks} m.checks (other_checked p q)
  other_checks e = ap (λ (k : ExprMeaning). k.checks) h ∙ (ap (λ (o : Option Name). (an_application g p s o xs).checks) e ∙ ap (λ (r : Pos). other_checked p r) at_q)

  pub other_types : n ≡ None → ◌≡◌ {A = Types} m.types (no_type p)
  other_types e = ap (λ (k : ExprMeaning). k.types) h ∙ ap (λ (o : Option Name). (an_application g p s o xs).types) e
