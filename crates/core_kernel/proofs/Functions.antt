-- What a function type shows that stands under arguments.
use Rattle.std.proofs.Common.{◌≡◌, ℕ, refl, subst, arith, List, [], true, false}
use Rattle.core_rules.specs.declared.Flag.{Flag}
use Rattle.core_rules.specs.Term.{Term, Pi}
use Rattle.core_rules.specs.Substitution.{over as traversed}
use Rattle.core_rules.specs.Signature.{Signature}
use Rattle.core_rules.specs.Heads.{Form, Within, form}
use Rattle.core_rules.specs.Bounded.{same_flag}
use Rattle.term_pool.specs.Placed.{filled, filled_var}
use Rattle.kernel_rules.specs.Outcome.{Gives, Refuses, goes_on}
use Rattle.kernel_rules.specs.Refusals.{NotAFunction}
use Rattle.kernel_rules.specs.TermReading.{ShowsForm, ShowsFunction}
use Rattle.core_kernel.specs.Checker.{Over, ShowsParts}
use Rattle.core_kernel.proofs.Nodes.{of_flag, of_other_flag}

module _ (g : Signature Term) (fuel depth : ℕ) where
  -- a function type is its own head form, in no step
  pub pi-shows : (d : Flag) (x : ℕ) (s v : Term) → ShowsForm g fuel depth (Pi d x s v) (Gives (Pi d x s v))
  pi-shows d x s v = (Within (Form (Pi d x s v) []) 0, (form tt, omega arith), refl)

  module _ (b d : Flag) (x : ℕ) (s v : Term) (r : List Term) where
    pub pi-parts : same_flag b d ≡ true → ShowsFunction g fuel depth b (filled r (Pi d x s v)) (Gives (filled r s, traversed (filled_var r) 1 v))
    pi-parts e = goes_on (Pi d x (filled r s) (traversed (filled_var r) 1 v)) (pi-shows d x (filled r s) (traversed (filled_var r) 1 v)) (of_flag b d x (filled r s) (traversed (filled_var r) 1 v) e)

    pub pi-other : same_flag b d ≡ false → ShowsFunction g fuel depth b (filled r (Pi d x s v)) (Refuses (NotAFunction (filled r (Pi d x s v))))
    pi-other e = goes_on (Pi d x (filled r s) (traversed (filled_var r) 1 v)) (pi-shows d x (filled r s) (traversed (filled_var r) 1 v)) (of_other_flag b d x (filled r s) (traversed (filled_var r) 1 v) e)

-- equal parts
pub parts_as : (o : Over) (b : Flag) (a : Term) {s s' v v' : Term} → s ≡ s' → v ≡ v' → ShowsParts o b a (Gives (s, v)) → ShowsParts o b a (Gives (s', v'))
parts_as o b a {s} {s'} {v} {v'} e f h = subst (λ t. ShowsParts o b a (Gives (t, v'))) e (subst (λ t. ShowsParts o b a (Gives (s, t))) f h)
