-- A value put for a variable that stays, by a shift and a substitution.
use Rattle.std.specs.Prelude.{◌≡◌, ℕ, ◌+◌, ltb, cond}
use Rattle.std.proofs.Common.{arith}
use Rattle.std.proofs.lemmas.Grind.{common_steps}
use Rattle.core_rules.specs.Term.{Term}
use Rattle.core_rules.specs.Substitution.{shift, shift_var, subst, subst_var}
use Rattle.core_rules.specs.Unification.{put, put_var}
use Rattle.core_rules.proofs.Substitution.Traversal.{over-over}

put_at : (x : ℕ) (u : Term) (d i : ℕ) → subst_var x u d (cond (ltb i (x + 1 + d)) i (i + 1)) ≡ put_var x u d i
put_at x u d i = grind (arith, common_steps)

pub put_is : (x : ℕ) (u t : Term) → subst (shift t (x + 1) 1) x u ≡ put x u t
put_is x u t = over-over (subst_var x u) (shift_var (x + 1) 1) (put_var x u) (λ d i. put_at x u d i) 0 t
