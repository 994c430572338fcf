-- What a function type shows to an intro.
use Rattle.std.proofs.Common.{◌≡◌, ℕ, refl}
use Rattle.core_rules.specs.Term.{Term}
use Rattle.core_rules.specs.declared.Flag.{Flag}
use Rattle.term_pool.specs.Pool.{node_tree}
use Rattle.term_pool.specs.declared.node.Node.{Node}
use Rattle.term_pool.specs.declared.node.Node.TheVariants as N
use Rattle.kernel_rules.specs.Outcome.{Outcome, Refuses}
use Rattle.kernel_rules.specs.Refusals.{DeclRefusal, BadTree}
use Rattle.kernel_rules.specs.TreeReading.{PiAt, pi_shown}

pub not-pi : (f : ℕ → Term) (n : Node) → ((b : Flag) (x s t : ℕ) → n ≡ N.Pi b x s t → ⊥)
    → ◌≡◌ {A = Outcome DeclRefusal PiAt} (Refuses BadTree) (pi_shown (node_tree f n))
not-pi f (N.Var i) h = refl
not-pi f (N.Sort k) h = refl
not-pi f (N.Pi b x s t) h = absurd (h b x s t refl)
not-pi f (N.Lam b x s t) h = refl
not-pi f (N.App b t u) h = refl
not-pi f (N.Def k) h = refl
not-pi f (N.Fam k) h = refl
not-pi f (N.Con k a) h = refl
not-pi f (N.Proj k t) h = refl
not-pi f (N.Meta m a) h = refl
