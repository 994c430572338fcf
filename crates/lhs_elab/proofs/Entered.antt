-- A constructor is put for a variable, over what there was at first.
use Rattle.std.proofs.Common.{◌≡◌, ℕ, refl, subst}
use Rattle.core_rules.specs.Signature.{ConDecl, Telescope}
use Rattle.core_rules.specs.Term.{Term}
use Rattle.core_rules.specs.TypedTree.{Splitting}
use Rattle.el_outside.specs.declared.place.Pos.{Pos}
use Rattle.kernel_rules.specs.Outcome.{Outcome}
use Rattle.lhs_rules.specs.Refusals.{Refusal}
use Rattle.lhs_rules.specs.Spots.{AtVar, Left}
use Rattle.lhs_elab.specs.declared.left.Spot.{Spot as CodeSpot}
use Rattle.lhs_elab.specs.declared.left.Spot.TheVariants as S
use Rattle.lhs_elab.specs.Constructors.{con_put}
use Rattle.lhs_elab.specs.Elaborator.{Over, Comes}
use Rattle.lhs_elab.specs.Lefts.{spot_in}

pub no-variable : (f : ℕ → Term) (s : CodeSpot) → ((i : ℕ) → s ≡ S.Var i → ⊥) → (i : ℕ) → spot_in f s ≡ AtVar i → ⊥
no-variable f (S.Var j) n i e = n j refl
no-variable f (S.Value v) n i e = absurd (cc e)
no-variable f S.Con n i e = absurd (cc e)

pub put-as : (o n : Over) (p : Pos) (k : ℕ) (c d : ConDecl Term) (es : Telescope Term) (hidden i : ℕ) (s : Splitting) (l m : Left) → o ≡ n → c ≡ d → l ≡ m → (r : Outcome Refusal Left)
    → Comes o (con_put p k c es hidden i s l) r → Comes n (con_put p k d es hidden i s m) r
put-as o n p k c d es hidden i s l m a b e r h =
    subst (λ (v : Over). Comes v (con_put p k d es hidden i s m) r) a (subst (λ (x : ConDecl Term). Comes o (con_put p k x es hidden i s m) r) b (subst (λ (x : Left). Comes o (con_put p k c es hidden i s x) r) e h))
