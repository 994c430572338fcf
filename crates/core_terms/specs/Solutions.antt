-- What solutions are over a pool, and what a term is with them put in.
use Rattle.std.specs.Prelude.{◌≡◌, ℕ, ◌<◌, length, Option, Some, None, option_map, is_some, Bool, false, refl}
use Rattle.std.proofs.Common.{ap, arith}
use Rattle.core_rules.specs.Term.{Term}
use Rattle.core_rules.specs.Substitution.{replace}
use Rattle.core_rules.specs.BoundedLaws.{IsFull}
use Rattle.term_pool.specs.declared.node.Node.{Node}
use Rattle.term_pool.specs.declared.node.Node.TheVariants as N
use Rattle.term_pool.specs.Pool.{Pool, tree, Extends}
use Rattle.term_pool.specs.Growth.{Extends-length, Extends-tree, Extends-StandsFor}
use Rattle.term_pool.specs.Table.{Results, found}

-- the solution of each metavariable as a tree
abbrev pub solved_in : Pool → (ℕ → Option ℕ) → ℕ → Option Term
solved_in p f m = option_map (tree p) (f m)

-- each solution stands in the pool
pub record AreIn (p : Pool) (f : ℕ → Option ℕ) : Type 0 where
  pub within : (m i : ℕ) → f m ≡ Some i → i < length p.trees

-- id r stands for t with solved metavariables replaced, in the solutions too. Acyclic solutions have exactly one full set of
-- solutions, each with what the others solve replaced in it
pub record IsInstance (p : Pool) (s : ℕ → Option Term) (t : Term) (r : ℕ) : Type 0 where
  pub within : r < length p.trees
  pub is : (f : ℕ → Option Term) → IsFull s f → tree p r ≡ replace f t

-- each result is an instance of its node
pub record AreInstances (s : ℕ → Option Term) (m : Results) (p : Pool) : Type 0 where
  pub at : (t r : ℕ) → found m t 0 ≡ Some r → (t < length p.trees) × IsInstance p s (tree p t) r

-- what a node is made of, where f gives solutions
abbrev pub solution_or : ℕ → Option ℕ → ℕ
solution_or a None = a
solution_or a (Some i) = i

abbrev pub wanted : (ℕ → Option ℕ) → Node → Option (ℕ × ℕ)
wanted f (N.Meta m a) = Some (a, solution_or a (f m))
wanted f (N.Pi b x s t) = Some (s, t)
wanted f (N.Lam b x s t) = Some (s, t)
wanted f (N.App b t u) = Some (t, u)
wanted f (N.Con k a) = Some (a, a)
wanted f (N.Proj k t) = Some (t, t)
wanted f (N.Var i) = None
wanted f (N.Sort n) = None
wanted f (N.Def k) = None
wanted f (N.Fam k) = None

-- whether it is a solved metavariable
abbrev pub is_solved : (ℕ → Option ℕ) → Node → Bool
is_solved f (N.Meta m a) = is_some (f m)
is_solved f (N.Pi b x s t) = false
is_solved f (N.Lam b x s t) = false
is_solved f (N.App b t u) = false
is_solved f (N.Con k a) = false
is_solved f (N.Proj k t) = false
is_solved f (N.Var i) = false
is_solved f (N.Sort n) = false
is_solved f (N.Def k) = false
is_solved f (N.Fam k) = false

pub AreIn-stays : {p q : Pool} {f : ℕ → Option ℕ} → Extends p q → AreIn p f → AreIn q f
AreIn-stays {p} {q} {f} g h = record { within = λ m i e. omega (arith, Extends-length g, h.within m i e) }

solution-stays : (p q : Pool) (m : ℕ) (f : ℕ → Option ℕ) (o : Option ℕ) → f m ≡ o → Extends p q → AreIn p f → option_map (tree q) o ≡ option_map (tree p) o
solution-stays p q m f None e g h = refl
solution-stays p q m f (Some i) e g h = ap Some (Extends-tree i g (h.within m i e))

-- as the pool grows the solutions stay
pub solved_in-stays : (p q : Pool) (f : ℕ → Option ℕ) → Extends p q → AreIn p f → ◌≡◌ {A = ℕ → Option Term} (solved_in q f) (solved_in p f)
solved_in-stays p q f g h = λ i m. solution-stays p q m f (f m) refl g h i

pub IsInstance-stays : {p q : Pool} {s : ℕ → Option Term} {t : Term} {r : ℕ} → Extends p q → IsInstance p s t r → IsInstance q s t r
IsInstance-stays {p} {q} {s} {t} {r} g h = record {
  within = omega (arith, Extends-length g, h.within);
  is = λ f x. (Extends-StandsFor g (record { within = h.within; is = h.is f x })).is;
}
