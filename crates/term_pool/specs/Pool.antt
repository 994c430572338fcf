-- What a pool is to its callers: the tree that each id stands for. An argument list is a tree too.
use Rattle.std.specs.Prelude.{◌≡◌, ℕ, ◌<◌, ◌≤◌, ◌^◌, List, [], ◌∷◌, ◌++◌, length, get_or, take, map, Option, Some, None, refl}
use Rattle.std.specs.Coded.{Coded, code_by, coded_list}
use Rattle.core_rules.specs.Term.{Term, Terms, Var, Sort, Pi, Lam, App, Def, Fam, Con, Proj, Meta, End, And, from_list, nameless}
use Rattle.core_rules.specs.Stored.{coded_term}
use Rattle.term_pool.specs.declared.node.Node.{Node}
use Rattle.term_pool.specs.declared.node.Node.TheVariants as N
use Rattle.term_pool.specs.declared.measures.Known.{Known}
use Rattle.term_pool.specs.Lists.{list, items, IsList}
use Rattle.term_pool.specs.Measures.{IsMeasured, nothing_known}

pub record Pool : Type 0 where
  -- what each id stands for
  pub trees : List Term

abbrev pub coded_pool : Coded Pool
coded_pool = code_by (List Term) (coded_list coded_term) (λ p. p.trees) (λ t. record { trees = t }) (λ _. refl)

-- the tree of id t among these
abbrev pub tree_of : List Term → ℕ → Term
tree_of ts t = get_or ts t (Sort 0)

-- the tree of id t
abbrev pub tree : Pool → ℕ → Term
tree p t = get_or p.trees t (Sort 0)

-- the items of the argument list a
abbrev pub args : Pool → ℕ → Terms
args p a = items (tree p a)

-- the trees of these ids as an argument list
abbrev pub list_of : Pool → List ℕ → Term
list_of p ids = list (from_list (map (tree p) ids))

-- the tree of a node, where f gives those of its parts
abbrev pub node_tree : (ℕ → Term) → Node → Term
node_tree f (N.Var i) = Var i
node_tree f (N.Sort n) = Sort n
node_tree f (N.Pi b x s t) = Pi b x (f s) (f t)
node_tree f (N.Lam b x s t) = Lam b x (f s) (f t)
node_tree f (N.App b t u) = App b (f t) (f u)
node_tree f (N.Def k) = Def k
node_tree f (N.Fam k) = Fam k
node_tree f (N.Con k a) = Con k (items (f a))
node_tree f (N.Proj k t) = Proj k (f t)
node_tree f (N.Meta m a) = Meta m (items (f a))

-- a is an argument list with a number below n
pub record IsArgs (f : ℕ → Term) (n a : ℕ) : Type 0 where
  pub within : a < n
  pub list : IsList (f a)

-- the parts of a node are ids below n
abbrev pub Below : (ℕ → Term) → ℕ → Node → Type 0
Below f n (N.Var i) = Unit {0}
Below f n (N.Sort k) = Unit {0}
Below f n (N.Pi b x s t) = (s < n) × (t < n)
Below f n (N.Lam b x s t) = (s < n) × (t < n)
Below f n (N.App b t u) = (t < n) × (u < n)
Below f n (N.Def k) = Unit {0}
Below f n (N.Fam k) = Unit {0}
Below f n (N.Con k a) = IsArgs f n a
Below f n (N.Proj k t) = t < n
Below f n (N.Meta m a) = IsArgs f n a

-- the item t and the list b are what the list a begins with, and the rest of it
pub record IsCell (p : Pool) (a t b : ℕ) : Type 0 where
  pub is : args p a ≡ And (tree p t) (args p b)
  pub item : t < length p.trees
  pub rest : IsArgs (tree p) a b

abbrev pub IsFirst : Pool → ℕ → Option (ℕ × ℕ) → Type 0
IsFirst p a None = args p a ≡ End
IsFirst p a (Some r) = IsCell p a r.0 r.1

-- q has all that p has, at the same ids
pub record Extends (p q : Pool) : Type 0 where
  pub trees : take (length p.trees) q.trees ≡ p.trees

-- id r stands in p for the term t
pub record StandsFor (p : Pool) (r : ℕ) (t : Term) : Type 0 where
  pub within : r < length p.trees
  pub is : tree p r ≡ t

-- n is the node at number i of the trees us
pub record IsAt (us : List Term) (i : ℕ) (n : Node) : Type 0 where
  pub below : Below (tree_of us) i n
  pub is : tree_of us i ≡ node_tree (tree_of us) n

-- the trees of nodes that come after those of the trees ts
abbrev pub trees_after : List Term → List Node → List Term
trees_after ts [] = ts
trees_after ts (n ∷ ns) = trees_after (ts ++ node_tree (tree_of ts) n ∷ []) ns

-- the parts of each of the nodes stand before it
abbrev pub AllFollow : List Term → List Node → Type 0
AllFollow ts [] = Unit {0}
AllFollow ts (n ∷ ns) = Below (tree_of ts) (length ts) n × AllFollow (ts ++ node_tree (tree_of ts) n ∷ []) ns

-- the pool that has these nodes
abbrev pub seen : List Node → Pool
seen ns = record { trees = trees_after [] ns }

-- k tells of the tree at number i of the trees us: its measures, and the id of the same term without names
pub record IsKnown (us : List Term) (i : ℕ) (k : Known) : Type 0 where
  pub measured : IsMeasured (tree_of us i) k.measures
  pub within : k.class ≤ i
  pub class : tree_of us k.class ≡ nameless (tree_of us i)

-- what is known is true of each of the trees
pub record AreKnown (us : List Term) (ks : List Known) : Type 0 where
  pub at : (i : ℕ) → i < length ks → IsKnown us i (get_or ks i nothing_known)

-- c is the id of the term t without names, where this is another term
abbrev pub ClassOf : Pool → Term → Option ℕ → Type 0
ClassOf p t None = nameless t ≡ t
ClassOf p t (Some c) = StandsFor p c (nameless t)

-- nodes, with what is known of each, are those of a pool
pub record ArePool (ns : List Node) (ks : List Known) : Type 0 where
  pub follow : AllFollow [] ns
  pub few : length ns ≤ 2 ^ 27
  pub count : length ks ≡ length ns
  pub known : AreKnown (trees_after [] ns) ks

abbrev pub no_terms : Pool
no_terms = record { trees = [] }

-- p cut to its first n ids
abbrev pub cut_to : ℕ → Pool → Pool
cut_to n p = record { trees = take n p.trees }
