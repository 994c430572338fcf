-- A node without names over parts without names, and a node as the pool grows.
use Rattle.std.specs.Prelude.{◌≡◌, ℕ, ◌<◌, ◌≤◌, length}
use Rattle.std.proofs.Common.{sym, ap, ◌∙◌, arith, subst}
use Rattle.core_rules.specs.Term.{Term, nameless, nameless_all}
use Rattle.term_pool.specs.declared.node.Node.{Node}
use Rattle.term_pool.specs.declared.node.Node.TheVariants as N
use Rattle.term_pool.specs.declared.node.Parts.TheVariants.{Two}
use Rattle.term_pool.specs.Lists.{items, IsList}
use Rattle.term_pool.specs.Node.{parts_of, with_two, without_name}
use Rattle.term_pool.specs.Pool.{Pool, tree, node_tree, IsArgs, Below, Extends}
use Rattle.term_pool.specs.Growth.{Extends-length, Extends-tree}
use Rattle.term_pool.proofs.Trees.{node_tree-same}
use Rattle.term_pool.proofs.Measured.{IsList-nameless, nameless-items}

module _ (g : ℕ → Term) (m s t k s' t' : ℕ) (ls : s' < m) (lt : t' < m) (es : g s' ≡ nameless (g s)) (et : g t' ≡ nameless (g t)) where
  plain_args : (a : ℕ) → IsArgs g m a → a ≡ s → IsArgs g m s'
  plain_args a h e = record { within = ls; list = subst IsList (ap (λ i. nameless (g i)) e ∙ sym es) (IsList-nameless (g a) h.list) }

  plain_items : (a : ℕ) → a ≡ s → items (g s') ≡ nameless_all (items (g a))
  plain_items a e = ap items (es ∙ ap (λ i. nameless (g i)) (sym e)) ∙ nameless-items (g a)

  pub plain_below : (n : Node) → parts_of n ≡ Two s t k → Below g m n → Below g m (without_name (with_two s' t' n))
  plain_below (N.Pi b x u v) e l = (ls, lt)
  plain_below (N.Lam b x u v) e l = (ls, lt)
  plain_below (N.App b u v) e l = (ls, lt)
  plain_below (N.Con c a) e l = let p : a ≡ s = cc in plain_args a l p
  plain_below (N.Proj c u) e l = ls
  plain_below (N.Meta c a) e l = let p : a ≡ s = cc in plain_args a l p
  plain_below (N.Var i) e l = absurd cc
  plain_below (N.Sort i) e l = absurd cc
  plain_below (N.Def i) e l = absurd cc
  plain_below (N.Fam i) e l = absurd cc

  pub plain_tree : (n : Node) → parts_of n ≡ Two s t k → node_tree g (without_name (with_two s' t' n)) ≡ nameless (node_tree g n)
  plain_tree (N.Pi b x u v) e = cc
  plain_tree (N.Lam b x u v) e = cc
  plain_tree (N.App b u v) e = cc
  plain_tree (N.Con c a) e = let p : a ≡ s = cc in cc (plain_items a p)
  plain_tree (N.Proj c u) e = cc
  plain_tree (N.Meta c a) e = let p : a ≡ s = cc in cc (plain_items a p)
  plain_tree (N.Var i) e = absurd cc
  plain_tree (N.Sort i) e = absurd cc
  plain_tree (N.Def i) e = absurd cc
  plain_tree (N.Fam i) e = absurd cc

module _ (p q : Pool) (g : Extends p q) where
  more : (i : ℕ) → i < length p.trees → i < length q.trees
  more i l = omega (arith, Extends-length g)

  IsArgs-grows : (a : ℕ) → IsArgs (tree p) (length p.trees) a → IsArgs (tree q) (length q.trees) a
  IsArgs-grows a h = record { within = more a h.within; list = subst IsList (sym (Extends-tree a g h.within)) h.list }

  pub Below-grows : (n : Node) → Below (tree p) (length p.trees) n → Below (tree q) (length q.trees) n
  Below-grows (N.Pi b x s t) h = (more s h.0, more t h.1)
  Below-grows (N.Lam b x s t) h = (more s h.0, more t h.1)
  Below-grows (N.App b s t) h = (more s h.0, more t h.1)
  Below-grows (N.Con k a) h = IsArgs-grows a h
  Below-grows (N.Proj k t) h = more t h
  Below-grows (N.Meta m a) h = IsArgs-grows a h
  Below-grows (N.Var i) h = tt
  Below-grows (N.Sort i) h = tt
  Below-grows (N.Def i) h = tt
  Below-grows (N.Fam i) h = tt

  pub node_tree-grows : (n : Node) → Below (tree p) (length p.trees) n → node_tree (tree p) n ≡ node_tree (tree q) n
  node_tree-grows n h = node_tree-same (tree p) (tree q) (length p.trees) (λ i l. sym (Extends-tree i g l)) n h

module _ (f : ℕ → Term) (m n : ℕ) (l : m ≤ n) where
  pub Below-higher : (x : Node) → Below f m x → Below f n x
  Below-higher (N.Pi b x s t) h = (omega arith, omega arith)
  Below-higher (N.Lam b x s t) h = (omega arith, omega arith)
  Below-higher (N.App b s t) h = (omega arith, omega arith)
  Below-higher (N.Con k a) h = record { within = omega (arith, h.within); list = h.list }
  Below-higher (N.Proj k t) h = omega arith
  Below-higher (N.Meta k a) h = record { within = omega (arith, h.within); list = h.list }
  Below-higher (N.Var i) h = tt
  Below-higher (N.Sort i) h = tt
  Below-higher (N.Def i) h = tt
  Below-higher (N.Fam i) h = tt
