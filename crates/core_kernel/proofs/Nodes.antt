-- What a head form shows, by its outermost node.
use Rattle.std.proofs.Common.{◌≡◌, ℕ, true, false, refl}
use Rattle.core_rules.specs.declared.Flag.{Flag}
use Rattle.core_rules.specs.Term.{Term, Pi}
use Rattle.core_rules.specs.Bounded.{same_flag}
use Rattle.term_pool.specs.Pool.{node_tree}
use Rattle.term_pool.specs.declared.node.Node.{Node}
use Rattle.term_pool.specs.declared.node.Node.TheVariants as N
use Rattle.kernel_rules.specs.Outcome.{Gives, Refuses}
use Rattle.kernel_rules.specs.Refusals.{NotAType, NotAFunction}
use Rattle.kernel_rules.specs.TermReading.{sort_level, function_parts}

-- a node that is no sort
pub no_sort : (f : ℕ → Term) (n : Node) → ((l : ℕ) → n ≡ N.Sort l → ⊥) → Refuses (NotAType (node_tree f n)) ≡ sort_level (node_tree f n)
no_sort f (N.Sort l) h = absurd (h l refl)
no_sort f (N.Var i) h = refl
no_sort f (N.Pi b x s t) h = refl
no_sort f (N.Lam b x s t) h = refl
no_sort f (N.App b t u) h = refl
no_sort f (N.Def k) h = refl
no_sort f (N.Fam k) h = refl
no_sort f (N.Con k a) h = refl
no_sort f (N.Proj k t) h = refl
no_sort f (N.Meta m a) h = refl

-- a node that is no function type
pub no_function : (f : ℕ → Term) (b : Flag) (n : Node) → ((c : Flag) (x s t : ℕ) → n ≡ N.Pi c x s t → ⊥) → Refuses (NotAFunction (node_tree f n)) ≡ function_parts b (node_tree f n)
no_function f b (N.Pi c x s t) h = absurd (h c x s t refl)
no_function f b (N.Sort l) h = refl
no_function f b (N.Var i) h = refl
no_function f b (N.Lam c x s t) h = refl
no_function f b (N.App c t u) h = refl
no_function f b (N.Def k) h = refl
no_function f b (N.Fam k) h = refl
no_function f b (N.Con k a) h = refl
no_function f b (N.Proj k t) h = refl
no_function f b (N.Meta m a) h = refl

-- a function type of the flag, and one of the other
pub of_flag : (b c : Flag) (x : ℕ) (s t : Term) → same_flag b c ≡ true → Gives (s, t) ≡ function_parts b (Pi c x s t)
of_flag b c x s t e = rw e refl

pub of_other_flag : (b c : Flag) (x : ℕ) (s t : Term) → same_flag b c ≡ false → Refuses (NotAFunction (Pi c x s t)) ≡ function_parts b (Pi c x s t)
of_other_flag b c x s t e = rw e refl
