-- How far a change of the variables of a term has come, whose pending nodes stand in a list.
use Rattle.std.specs.Prelude.{◌≡◌, ℕ, ◌+◌, ◌*◌, ◌<◌, ◌⊎◌, List, [], ◌∷◌, length, Some, zero, suc}
use Rattle.std.specs.List.{AllByRecursion}
use Rattle.core_rules.specs.Term.{Term, Var}
use Rattle.core_rules.specs.Substitution.{over}
use Rattle.term_pool.specs.declared.node.Node.{Node}
use Rattle.term_pool.specs.declared.node.Parts.TheVariants.{Two}
use Rattle.term_pool.specs.declared.change.Task.{Task}
use Rattle.term_pool.specs.declared.change.Task.TheVariants.{Make, Join}
use Rattle.term_pool.specs.Node.{parts_of}
use Rattle.term_pool.specs.Pool.{Pool, tree, node_tree, Below, StandsFor}
use Rattle.term_pool.specs.Table.{Results, found, Has}

-- the change f leaves the first n variables as they are, beside those of the binders
abbrev pub Keeps : (ℕ → ℕ → Term) → ℕ → Type 0
Keeps f n = (d i : ℕ) → i < d + n → f d i ≡ Var i

-- each result is what the change f makes of its node under its binders
pub record Fits (f : ℕ → ℕ → Term) (m : Results) (p : Pool) : Type 0 where
  pub at : (t d r : ℕ) → found m t d ≡ Some r → (t < length p.trees) × StandsFor p r (over f d (tree p t))

-- n is the node of t, with the parts a and b; and e binders stand around b where d stand around t
pub record Joins (p : Pool) (t d : ℕ) (n : Node) (a b e : ℕ) : Type 0 where
  pub within : t < length p.trees
  pub below : Below (tree p) t n
  pub is : tree p t ≡ node_tree (tree p) n
  pub binds : ℕ
  pub parts : parts_of n ≡ Two a b binds
  pub under : e ≡ d + binds

abbrev pub IsTask : Pool → Task → Type 0
IsTask p (Make t d) = t < length p.trees
IsTask p (Join t d n a b e) = Joins p t d n a b e

-- the node that a task is about, and the binders around it
abbrev pub key : Task → ℕ × ℕ
key (Make t d) = (t, d)
key (Join t d n a b e) = (t, d)

-- the result of t under d binders is there, or comes by one of the tasks
abbrev pub Comes : Results → List Task → ℕ → ℕ → Type 0
Comes m [] t d = Has m t d
Comes m (w ∷ ws) t d = (key w ≡ (t, d)) ⊎ Comes m ws t d

-- the tasks ws bring what w needs
abbrev pub PartsCome : Results → List Task → Task → Type 0
PartsCome m ws (Make t d) = Unit {0}
PartsCome m ws (Join t d n a b e) = Comes m ws a d × Comes m ws b e

-- each task has what it needs once those after it in the list are done
abbrev pub AllPartsCome : Results → List Task → Type 0
AllPartsCome m [] = Unit {0}
AllPartsCome m (w ∷ ws) = PartsCome m ws w × AllPartsCome m ws

pub record State (f : ℕ → ℕ → Term) (p : Pool) (m : Results) (ws : List Task) : Type 0 where
  pub fits : Fits f m p
  pub tasks : AllByRecursion (IsTask p) ws
  pub parts : AllPartsCome m ws

-- a bound on the turns that a node takes, whose parts lie below it
abbrev pub turns : ℕ → ℕ
turns zero = 1
turns (suc t) = 2 + 2 * turns t

-- a bound on the turns that a task takes, with those that it makes
abbrev pub weight : Task → ℕ
weight (Make t d) = turns t
weight (Join t d n a b e) = 1

abbrev pub weigh : List Task → ℕ
weigh [] = 0
weigh (w ∷ ws) = weight w + weigh ws

-- one turn of a change: nothing that comes is lost, and less is left to do
pub record Turn (f : ℕ → ℕ → Term) (p : Pool) (m : Results) (ws : List Task) (q : Pool) (n : Results) (vs : List Task) : Type 0 where
  pub state : State f q n vs
  pub comes : (t d : ℕ) → Comes m ws t d → Comes n vs t d
  pub less : weigh vs < weigh ws
