-- What is answered to questions about small terms.
use Rattle.std.proofs.Common.{ℕ, suc, [], ◌∷◌, refl, arith, inl}
use Rattle.core_rules.specs.declared.Flag.{Flag}
use Rattle.core_rules.specs.Term.{Term, App}
use Rattle.core_rules.specs.Signature.{Signature}
use Rattle.core_rules.specs.Elimination.{Arg}
use Rattle.core_rules.specs.Heads as H
use Rattle.core_rules.specs.Heads.{Form, Within, HeadOf, IsForm}
use Rattle.core_rules.specs.Bounded.{Yes, ConvOf}
use Rattle.core_rules.specs.BoundedLaws.{no_solutions}
use Rattle.core_rules.proofs.Heads.Same.{nothing_acyclic}

module _ (g : Signature Term) (fuel : ℕ) where
  -- a form is its own head form
  pub form_told : (t : Term) → IsForm g t [] → HeadOf g no_solutions t fuel (Within (Form t []) 0)
  form_told t f = (H.form f, omega arith)

  -- so is one at an argument
  pub applied_told : (b : Flag) (t u : Term) → IsForm g t (Arg b u ∷ []) → HeadOf g no_solutions (App b t u) fuel (Within (Form t (Arg b u ∷ [])) 0)
  applied_told b t u f = (H.argument (H.form f), omega arith)

  -- and one at two
  pub twice_told : (b c : Flag) (t u v : Term) → IsForm g t (Arg b u ∷ Arg c v ∷ []) → HeadOf g no_solutions (App c (App b t u) v) fuel (Within (Form t (Arg b u ∷ Arg c v ∷ [])) 0)
  twice_told b c t u v f = (H.argument (H.argument (H.form f)), omega arith)

  -- a term is convertible with itself
  pub itself_told : (d : ℕ) (t : Term) → ConvOf g no_solutions fuel (suc d) t t Yes
  itself_told d t = inl (record { acyclic = nothing_acyclic; same = refl }, refl)
