-- How the trees of a pool follow from its nodes.
use Rattle.std.specs.Prelude.{◌≡◌, ℕ, ◌+◌, ◌<◌, ◌≤◌, List, [], ◌∷◌, ◌++◌, length, get_or, take}
use Rattle.std.proofs.Common.{zero, suc, refl, sym, ap, ◌∙◌, arith, length-append, add-zero, subst}
use Rattle.std.proofs.Math.Seq.{get_or-append_seam, take-append_seam, take-length}
use Rattle.std.proofs.lemmas.List.{get_or_append_left}
use Rattle.std.proofs.lemmas.Grind.{common_steps}
use Rattle.core_rules.specs.Term.{Term, Sort}
use Rattle.term_pool.specs.declared.node.Node.{Node}
use Rattle.term_pool.specs.declared.node.Node.TheVariants as N
use Rattle.term_pool.specs.Lists.{IsList}
use Rattle.term_pool.specs.Pool.{tree_of, node_tree, IsArgs, Below, IsAt, trees_after, AllFollow}

-- ---- a node's tree is that of its parts

module _ (f g : ℕ → Term) (k : ℕ) (e : (i : ℕ) → i < k → f i ≡ g i) where
  pub node_tree-same : (n : Node) → Below f k n → node_tree f n ≡ node_tree g n
  node_tree-same (N.Var i) h = refl
  node_tree-same (N.Sort n) h = refl
  node_tree-same (N.Pi b x s t) h = cc (e s h.0, e t h.1)
  node_tree-same (N.Lam b x s t) h = cc (e s h.0, e t h.1)
  node_tree-same (N.App b t u) h = cc (e t h.0, e u h.1)
  node_tree-same (N.Def n) h = refl
  node_tree-same (N.Fam n) h = refl
  node_tree-same (N.Con c a) h = cc (e a h.within)
  node_tree-same (N.Proj c t) h = cc (e t h)
  node_tree-same (N.Meta m a) h = cc (e a h.within)

  IsArgs-same : (a : ℕ) → IsArgs f k a → IsArgs g k a
  IsArgs-same a h = record { within = h.within; list = subst IsList (e a h.within) h.list }

  pub Below-same : (n : Node) → Below f k n → Below g k n
  Below-same (N.Var i) h = h
  Below-same (N.Sort n) h = h
  Below-same (N.Pi b x s t) h = h
  Below-same (N.Lam b x s t) h = h
  Below-same (N.App b t u) h = h
  Below-same (N.Def n) h = h
  Below-same (N.Fam n) h = h
  Below-same (N.Con c a) h = IsArgs-same a h
  Below-same (N.Proj c t) h = h
  Below-same (N.Meta m a) h = IsArgs-same a h

-- ---- the trees of a list of nodes

pub trees_after-push : (ts : List Term) (ks : List Node) (k : Node) → trees_after ts (ks ++ k ∷ []) ≡ trees_after ts ks ++ node_tree (tree_of (trees_after ts ks)) k ∷ []
trees_after-push ts [] k = refl
trees_after-push ts (m ∷ ks) k = trees_after-push (ts ++ node_tree (tree_of ts) m ∷ []) ks k

trees_after-append : (ts : List Term) (ks ms : List Node) → trees_after ts (ks ++ ms) ≡ trees_after (trees_after ts ks) ms
trees_after-append ts [] ms = refl
trees_after-append ts (k ∷ ks) ms = trees_after-append (ts ++ node_tree (tree_of ts) k ∷ []) ks ms

length-trees_after : (ts : List Term) (ks : List Node) → length (trees_after ts ks) ≡ length ts + length ks
length-trees_after ts [] = omega arith
length-trees_after ts (k ∷ ks) =
    let v = node_tree (tree_of ts) k in
    let h = length-trees_after (ts ++ v ∷ []) ks in
    omega (arith, h, length-append ts (v ∷ []))

pub length-trees : (ks : List Node) → length (trees_after [] ks) ≡ length ks
length-trees ks = omega (arith, length-trees_after [] ks)

-- the first trees stay
pub trees_after-first : (ts : List Term) (ks : List Node) (i : ℕ) → i < length ts → get_or (trees_after ts ks) i (Sort 0) ≡ get_or ts i (Sort 0)
trees_after-first ts [] i h = refl
trees_after-first ts (k ∷ ks) i h =
    let more = node_tree (tree_of ts) k ∷ [] in
    let l : i < length (ts ++ more) = omega (arith, length-append ts more) in
    trees_after-first (ts ++ more) ks i l ∙ get_or_append_left ts more (Sort 0) i h

trees_after-take : (ts : List Term) (ks : List Node) → take (length ts) (trees_after ts ks) ≡ ts
trees_after-take ts [] = take-length ts
trees_after-take ts (k ∷ ks) =
    let v = node_tree (tree_of ts) k in
    let h = trees_after-take (ts ++ v ∷ []) ks in
    let l : length ts ≤ length (ts ++ v ∷ []) = omega (arith, length-append ts (v ∷ [])) in
    sym (take_le (length ts) (length (ts ++ v ∷ [])) (trees_after ts (k ∷ ks)) l) ∙ ap (take (length ts)) h ∙ take-append_seam ts (v ∷ [])
  where
    take_le : (a b : ℕ) (xs : List Term) → a ≤ b → take a (take b xs) ≡ take a xs
    take_le a b xs l = grind (arith, common_steps)

-- the first nodes give the first trees
pub trees-first : (ks ms : List Node) → take (length ks) (trees_after [] (ks ++ ms)) ≡ trees_after [] ks
trees-first ks ms =
    let l : length (trees_after [] ks) ≡ length ks = length-trees ks in
    rw (trees_after-append [] ks ms, ← l) (trees_after-take (trees_after [] ks) ms)

-- ---- what holds of each node

pub AllFollow-first : (ts : List Term) (ks ms : List Node) → AllFollow ts (ks ++ ms) → AllFollow ts ks
AllFollow-first ts [] ms h = tt
AllFollow-first ts (k ∷ ks) ms h = (h.0, AllFollow-first (ts ++ node_tree (tree_of ts) k ∷ []) ks ms h.1)

pub AllFollow-push : (ts : List Term) (ks : List Node) (k : Node) → AllFollow ts ks → Below (tree_of (trees_after ts ks)) (length (trees_after ts ks)) k → AllFollow ts (ks ++ k ∷ [])
AllFollow-push ts [] k h b = (b, tt)
AllFollow-push ts (m ∷ ks) k h b = (h.0, AllFollow-push (ts ++ node_tree (tree_of ts) m ∷ []) ks k h.1 b)

at_first : (ts : List Term) (k : Node) (ks : List Node) → Below (tree_of ts) (length ts) k → IsAt (trees_after ts (k ∷ ks)) (length ts) k
at_first ts k ks h =
    let us = trees_after ts (k ∷ ks) in
    let v = node_tree (tree_of ts) k in
    let n : length ts < length (ts ++ v ∷ []) = omega (arith, length-append ts (v ∷ [])) in
    let same : (i : ℕ) → i < length ts → tree_of ts i ≡ tree_of us i = λ i l. sym (trees_after-first ts (k ∷ ks) i l) in
    let here : tree_of us (length ts) ≡ v = trees_after-first (ts ++ v ∷ []) ks (length ts) n ∙ get_or-append_seam ts v [] (Sort 0) in
    record {
      below = Below-same (tree_of ts) (tree_of us) (length ts) same k h;
      is = here ∙ node_tree-same (tree_of ts) (tree_of us) (length ts) same k h;
    }

at_each : (ts : List Term) (ks : List Node) (j : ℕ) (d : Node) → AllFollow ts ks → j < length ks → IsAt (trees_after ts ks) (length ts + j) (get_or ks j d)
at_each ts [] j d h l = absurd (omega arith)
at_each ts (k ∷ ks) zero d h l = rw add-zero (at_first ts k ks h.0)
at_each ts (k ∷ ks) (suc j) d h l =
    let v = node_tree (tree_of ts) k in
    let e : length (ts ++ v ∷ []) + j ≡ length ts + suc j = omega (arith, length-append ts (v ∷ [])) in
    subst (λ i. IsAt (trees_after ts (k ∷ ks)) i (get_or ks j d)) e (at_each (ts ++ v ∷ []) ks j d h.1 (omega arith))

pub is_at : (ks : List Node) (j : ℕ) (d : Node) → AllFollow [] ks → j < length ks → IsAt (trees_after [] ks) j (get_or ks j d)
is_at ks j d h l = let e : 0 + j ≡ j = omega arith in subst (λ i. IsAt (trees_after [] ks) i (get_or ks j d)) e (at_each [] ks j d h l)
