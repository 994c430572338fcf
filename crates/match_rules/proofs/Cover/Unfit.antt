-- Calls that do not fit: a constructor's argument of the other flag, and a projection that no branch is for.
use Rattle.std.specs.Prelude.{◌≡◌, ◌≢◌, ℕ, false, eqb, List, [], ◌∷◌, length, Option, Some, None, refl}
use Rattle.std.proofs.Common.{sym, subst as transport, ◌∙◌, ap, arith}
use Rattle.std.proofs.lemmas.Grind.{common_steps}
use Rattle.core_rules.specs.declared.Flag.TheVariants.{Explicit, Implicit}
use Rattle.core_rules.specs.Term.{Term, App, Con, Proj, Var, End}
use Rattle.core_rules.specs.Signature.{Signature, Tree, Leaf, CoBranches, OnField, NoField, ConDecl, co_branch}
use Rattle.core_rules.specs.Elimination.{Arg, Field, args}
use Rattle.core_rules.specs.Heads as H
use Rattle.core_rules.specs.Examples.{suc_con}
use Rattle.core_rules.specs.TreeExamples.{turn_tree}
use Rattle.match_rules.specs.AdditionClauses.{plus_branches, plus_covered, addition_by_clauses}
use Rattle.match_rules.specs.Matching as M
use Rattle.match_rules.specs.Matching.{HasHead, Fits, FitsBranch}
use Rattle.core_rules.proofs.Heads.OneAnswer.{one_some}

module _ (t u : Term) where
  head : HasHead addition_by_clauses (App Implicit (Con 1 End) t) 1 (Arg Implicit t ∷ [])
  head = record { params = End; steps = 0; heads = H.argument (H.form refl) }

  no_arguments : (us : List Term) → length us ≡ 1 → Arg Implicit t ∷ [] ≡ args suc_con.args us → ⊥
  no_arguments [] l a = absurd (omega (arith, l))
  no_arguments (v ∷ []) l a = absurd cc
  no_arguments (v ∷ w ∷ us) l a = absurd (omega (arith, l))

  no_branch : (con : ConDecl Term) (us : List Term) → suc_con ≡ con → length us ≡ length con.args → Arg Implicit t ∷ [] ≡ args con.args us → ⊥
  no_branch con us p l a = no_arguments us (l ∙ sym (ap (λ c. length c.args) p)) (transport (λ c. Arg Implicit t ∷ [] ≡ args c.args us) (sym p) a)

  none_entered : FitsBranch addition_by_clauses plus_branches 0 1 (Arg Implicit t ∷ []) (App Implicit (Con 1 End) t ∷ []) (Arg Explicit u ∷ []) → ⊥
  none_entered (M.goes con us b T d l a c s f) = no_branch con us (one_some d) l a

  pub other_flag_unfit : Fits addition_by_clauses plus_covered [] (Arg Explicit (App Implicit (Con 1 End) t) ∷ Arg Explicit u ∷ []) → ⊥
  other_flag_unfit (M.intro (M.split f)) = none_entered (f 1 (Arg Implicit t ∷ []) head)

abbrev turned : CoBranches Term
turned = OnField 0 (Leaf (Proj 1 (Var 0)) 0) (OnField 1 (Leaf (Proj 0 (Var 0)) 1) NoField)

no_branch_for : (f : ℕ) (T : Tree Term) → f ≢ 0 → f ≢ 1 → co_branch turned f ≡ Some T → ⊥
no_branch_for f T n m e =
    let no : eqb 0 f ≡ false = grind (arith, common_steps) in
    let nor : eqb 1 f ≡ false = grind (arith, common_steps) in
    none_some (rw (no, nor) at e)
  where
    none_some : ◌≡◌ {A = Option (Tree Term)} None (Some T) → ⊥
    none_some h = cc h

pub other_field_unfit : (g : Signature Term) (a b p : Term) (f : ℕ) → f ≢ 0 → f ≢ 1 → Fits g turn_tree [] (Arg Explicit a ∷ Arg Explicit b ∷ Arg Explicit p ∷ Field f ∷ []) → ⊥
other_field_unfit g a b p f n m (M.intro (M.intro (M.intro (M.cosplit {T = T} e h)))) = no_branch_for f T n m e
