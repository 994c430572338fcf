-- A set of nodes in the order of insertion: what an insert leaves, and that the same nodes come from inserting each again.
use Rattle.std.specs.Prelude.{◌≡◌, ◌⊎◌, ℕ, ◌+◌, ◌<◌, ◌≤◌, Bool, true, false, cond, List, [], ◌∷◌, ◌++◌, length, get_or, slice_get, take, Some, zero, suc}
use Rattle.std.specs.List.{IsDistinct, list_any}
use Rattle.std.proofs.Common.{refl, sym, ap, ap₂, ◌∙◌, subst, inl, inr, eqb-true, eq-eqb, arith}
use Rattle.std.proofs.lemmas.Bool.{and_parts, and_from, cases_order, false≢true}
use Rattle.std.proofs.lemmas.Option.{slice_get_within, get_or_from_slice_get}
use Rattle.std.proofs.lemmas.List.{take_more}
use Rattle.std.proofs.lemmas.Map.Keys.{apart_from_distinct}
use Rattle.indexmap.specs.IndexSet.{insert_key}
use Rattle.core_rules.specs.Term.{Term}
use Rattle.core_rules.specs.declared.Flag.{Flag}
use Rattle.core_rules.specs.declared.Flag.TheVariants.{Explicit, Implicit}
use Rattle.core_rules.specs.contracts.FlagPartialEq.TheImpl as flag
use Rattle.term_pool.specs.declared.node.Node.{Node}
use Rattle.term_pool.specs.declared.node.Node.TheVariants as N
use Rattle.term_pool.specs.contracts.node.NodePartialEq.TheImpl as node
use Rattle.term_pool.specs.Lists.{items, list_one}
use Rattle.term_pool.specs.Pool.{Pool, tree, node_tree, Below, IsArgs, AllFollow, Extends, StandsFor, seen}
use Rattle.term_pool.specs.Growth.{Extends-refl, Extends-tree}
use Rattle.term_pool.proofs.Trees.{is_at, length-trees, node_tree-same}
use Rattle.term_pool.proofs.Seen.{seen-at, pushed, pushed-Extends}

abbrev pub node_eq : Node → Node → Bool
node_eq = node.eq-value.it

flag_same : (b c : Flag) → flag.eq-value.it b c ≡ true → b ≡ c
flag_same Explicit Explicit e = refl
flag_same Implicit Implicit e = refl
flag_same Explicit Implicit e = cc
flag_same Implicit Explicit e = cc

-- the derived `==` tells nodes apart
node_same : (a b : Node) → node_eq a b ≡ true → a ≡ b
node_same (N.Var i) (N.Var j) e = ap N.Var (eqb-true i j e)
node_same (N.Sort i) (N.Sort j) e = ap N.Sort (eqb-true i j e)
node_same (N.Def i) (N.Def j) e = ap N.Def (eqb-true i j e)
node_same (N.Fam i) (N.Fam j) e = ap N.Fam (eqb-true i j e)
node_same (N.App b s t) (N.App c s' t') e =
    let h = and_parts _ _ e in
    let k = and_parts _ _ h.1 in
    cc (flag_same b c h.0, eqb-true s s' k.0, eqb-true t t' k.1)
node_same (N.Pi b x s t) (N.Pi c y s' t') e =
    let h = and_parts _ _ e in
    let k = and_parts _ _ h.1 in
    let l = and_parts _ _ k.1 in
    cc (flag_same b c h.0, eqb-true x y k.0, eqb-true s s' l.0, eqb-true t t' l.1)
node_same (N.Lam b x s t) (N.Lam c y s' t') e =
    let h = and_parts _ _ e in
    let k = and_parts _ _ h.1 in
    let l = and_parts _ _ k.1 in
    cc (flag_same b c h.0, eqb-true x y k.0, eqb-true s s' l.0, eqb-true t t' l.1)
node_same (N.Con k a) (N.Con l b) e = let h = and_parts _ _ e in cc (eqb-true k l h.0, eqb-true a b h.1)
node_same (N.Proj k a) (N.Proj l b) e = let h = and_parts _ _ e in cc (eqb-true k l h.0, eqb-true a b h.1)
node_same (N.Meta k a) (N.Meta l b) e = let h = and_parts _ _ e in cc (eqb-true k l h.0, eqb-true a b h.1)
node_same _ _ e = cc

-- an insert leaves the nodes, or puts the new one last
pub grown : (ks ms : List Node) (k : Node) → ms ≡ insert_key node_eq ks k → (ms ≡ ks) ⊎ (ms ≡ ks ++ k ∷ [])
grown ks ms k e = by_test (list_any (node_eq k) ks) refl
  where
    by_test : (b : Bool) → list_any (node_eq k) ks ≡ b → (ms ≡ ks) ⊎ (ms ≡ ks ++ k ∷ [])
    by_test true h = inl (e ∙ ap (λ b. cond b ks (ks ++ k ∷ [])) h)
    by_test false h = inr (e ∙ ap (λ b. cond b ks (ks ++ k ∷ [])) h)

-- what `add` says of the pool with the nodes ms
pub record Adds (p : Pool) (n : Node) (t : ℕ) (ms : List Node) : Type 0 where
  pub follow : AllFollow [] ms
  pub extends : Extends p (seen ms)
  pub stands : StandsFor (seen ms) t (node_tree (tree p) n)

module _ (ks ms : List Node) (t : ℕ) (k j : Node) (h : AllFollow [] ks) (e : ms ≡ insert_key node_eq ks k) (at : slice_get ms t ≡ Some j) (same : node_eq k j ≡ true) where
  pub adds : Below (tree (seen ks)) (length (seen ks).trees) k → Adds (seen ks) k t ms
  adds b = by_nodes (grown ks ms k e)
    where
      stands : AllFollow [] ms → Extends (seen ks) (seen ms) → StandsFor (seen ms) t (node_tree (tree (seen ks)) k)
      stands i x =
          let l : t < length (seen ms).trees = omega (arith, length-trees ms, slice_get_within ms t j at) in
          let here : k ≡ get_or ms t k = node_same k j same ∙ sym (get_or_from_slice_get ms t j k at) in
          record {
            within = l;
            is = (seen-at ms (seen ms) t t k refl i l refl here).is ∙ sym (node_tree-same (tree (seen ks)) (tree (seen ms)) (length (seen ks).trees) (λ j m. sym (Extends-tree j x m)) k b);
          }

      all : AllFollow [] ms → Extends (seen ks) (seen ms) → Adds (seen ks) k t ms
      all i x = record { follow = i; extends = x; stands = stands i x }

      by_nodes : (ms ≡ ks) ⊎ (ms ≡ ks ++ k ∷ []) → Adds (seen ks) k t ms
      by_nodes (inl d) = all (subst (AllFollow []) (sym d) h) (subst (λ xs. Extends (seen ks) (seen xs)) (sym d) (Extends-refl (seen ks)))
      by_nodes (inr d) = all (subst (AllFollow []) (sym d) (pushed ks k h b)) (subst (λ xs. Extends (seen ks) (seen xs)) (sym d) (pushed-Extends ks k))

-- ---- a second set with the same nodes

none_of : (f : Node → Bool) (d : Node) (xs : List Node) (i : ℕ) → i ≤ length xs → ((j : ℕ) → j < i → f (get_or xs j d) ≡ false) → list_any f (take i xs) ≡ false
none_of f d xs zero l h = refl
none_of f d [] (suc i) l h = absurd (omega arith)
none_of f d (x ∷ xs) (suc i) l h =
    let first : f x ≡ false = h 0 (omega arith) in
    let rest = none_of f d xs i (omega arith) (λ j m. h (suc j) (omega arith)) in
    cc

pub inserted-next : (ks : List Node) (i : ℕ) (k : Node) → IsDistinct node_eq ks → i < length ks → k ≡ get_or ks i k → insert_key node_eq (take i ks) k ≡ take (i + 1) ks
inserted-next ks i k d l e =
    ap (λ b. cond b (take i ks) (take i ks ++ k ∷ [])) (none_of (node_eq k) k ks i (omega arith) earlier)
    ∙ (ap (λ x. take i ks ++ x ∷ []) e ∙ sym (take_more ks i k l))
  where
    earlier : (j : ℕ) → j < i → node_eq k (get_or ks j k) ≡ false
    earlier j m = by_test (node_eq k (get_or ks j k)) refl
      where
        by_test : (b : Bool) → node_eq k (get_or ks j k) ≡ b → node_eq k (get_or ks j k) ≡ false
        by_test false h = h
        by_test true h =
            let s = node_same k (get_or ks j k) h in
            let apart = apart_from_distinct node_eq ks j i k d m l in
            absurd (false≢true (sym apart ∙ (ap₂ node_eq (sym s) (sym e ∙ s) ∙ h)))

-- ---- one id for each tree

flag_refl : (b : Flag) → flag.eq-value.it b b ≡ true
flag_refl Explicit = refl
flag_refl Implicit = refl

node_refl : (n : Node) → node_eq n n ≡ true
node_refl (N.Var i) = eq-eqb i i refl
node_refl (N.Sort i) = eq-eqb i i refl
node_refl (N.Def i) = eq-eqb i i refl
node_refl (N.Fam i) = eq-eqb i i refl
node_refl (N.Pi b x s t) = and_from _ _ (flag_refl b) (and_from _ _ (eq-eqb x x refl) (and_from _ _ (eq-eqb s s refl) (eq-eqb t t refl)))
node_refl (N.Lam b x s t) = and_from _ _ (flag_refl b) (and_from _ _ (eq-eqb x x refl) (and_from _ _ (eq-eqb s s refl) (eq-eqb t t refl)))
node_refl (N.App b s t) = and_from _ _ (flag_refl b) (and_from _ _ (eq-eqb s s refl) (eq-eqb t t refl))
node_refl (N.Con k a) = and_from _ _ (eq-eqb k k refl) (eq-eqb a a refl)
node_refl (N.Proj k a) = and_from _ _ (eq-eqb k k refl) (eq-eqb a a refl)
node_refl (N.Meta k a) = and_from _ _ (eq-eqb k k refl) (eq-eqb a a refl)

-- nodes of one tree are one, where their parts with one tree are
module _ (f : ℕ → Term) (t u : ℕ) (one : (i j : ℕ) → i < t → j < u → f i ≡ f j → i ≡ j) where
  args_one : (a b : ℕ) → IsArgs f t a → IsArgs f u b → items (f a) ≡ items (f b) → a ≡ b
  args_one a b h k e = one a b h.within k.within (list_one (f a) (f b) h.list k.list e)

  nodes_one : (x y : Node) → Below f t x → Below f u y → node_tree f x ≡ node_tree f y → x ≡ y
  nodes_one (N.Var i) (N.Var j) h k e = cc
  nodes_one (N.Sort i) (N.Sort j) h k e = cc
  nodes_one (N.Def i) (N.Def j) h k e = cc
  nodes_one (N.Fam i) (N.Fam j) h k e = cc
  nodes_one (N.Pi b x a s) (N.Pi c y a' s') h k e =
      let d : f a ≡ f a' = cc in
      let d' : f s ≡ f s' = cc in
      cc (one a a' h.0 k.0 d, one s s' h.1 k.1 d')
  nodes_one (N.Lam b x a s) (N.Lam c y a' s') h k e =
      let d : f a ≡ f a' = cc in
      let d' : f s ≡ f s' = cc in
      cc (one a a' h.0 k.0 d, one s s' h.1 k.1 d')
  nodes_one (N.App b a s) (N.App c a' s') h k e =
      let d : f a ≡ f a' = cc in
      let d' : f s ≡ f s' = cc in
      cc (one a a' h.0 k.0 d, one s s' h.1 k.1 d')
  nodes_one (N.Con m a) (N.Con n b) h k e = let d : items (f a) ≡ items (f b) = cc in cc (args_one a b h k d)
  nodes_one (N.Proj m a) (N.Proj n b) h k e = let d : f a ≡ f b = cc in cc (one a b h k d)
  nodes_one (N.Meta m a) (N.Meta n b) h k e = let d : items (f a) ≡ items (f b) = cc in cc (args_one a b h k d)
  nodes_one _ _ h k e = cc

module _ (ks : List Node) (o : Node) (h : AllFollow [] ks) (d : IsDistinct node_eq ks) where
  apart : (t u : ℕ) → t < u → u < length ks → get_or ks t o ≡ get_or ks u o → ⊥
  apart t u l b e =
      let x = apart_from_distinct node_eq ks t u o d l b in
      false≢true (sym x ∙ (ap (λ y. node_eq y (get_or ks u o)) e ∙ node_refl (get_or ks u o)))

  one_below : (n t u : ℕ) → t < n → t < length ks → u < length ks → tree (seen ks) t ≡ tree (seen ks) u → t ≡ u
  one_below zero t u l a b e = absurd (omega arith)
  one_below (suc n) t u l a b e = by_order (λ i j x y k. one_below n i j (omega arith) (omega arith) (omega arith) k) (cases_order t u)
    where
      same : ((i j : ℕ) → i < t → j < u → tree (seen ks) i ≡ tree (seen ks) j → i ≡ j) → get_or ks t o ≡ get_or ks u o
      same one =
          let x = is_at ks t o h a in
          let y = is_at ks u o h b in
          nodes_one (tree (seen ks)) t u one (get_or ks t o) (get_or ks u o) x.below y.below (sym x.is ∙ (e ∙ y.is))

      by_order : ((i j : ℕ) → i < t → j < u → tree (seen ks) i ≡ tree (seen ks) j → i ≡ j) → (t ≡ u) ⊎ ((t < u) ⊎ (u < t)) → t ≡ u
      by_order one (inl x) = x
      by_order one (inr (inl x)) = absurd (apart t u x b (same one))
      by_order one (inr (inr x)) = absurd (apart u t x a (sym (same one)))

  -- ids with one tree are one
  one_id : (t u : ℕ) → t < length ks → u < length ks → tree (seen ks) t ≡ tree (seen ks) u → t ≡ u
  one_id t u a b e = one_below (suc t) t u (omega arith) a b e

pub one_in : (ks : List Node) (p : Pool) (t u : ℕ) → seen ks ≡ p → AllFollow [] ks → IsDistinct node_eq ks → t < length p.trees → u < length p.trees → tree p t ≡ tree p u → t ≡ u
one_in ks p t u e h d =
    subst (λ q. t < length q.trees → u < length q.trees → tree q t ≡ tree q u → t ≡ u) e
    (λ a b k. one_id ks (N.Var 0) h d t u (omega (arith, a, length-trees ks)) (omega (arith, b, length-trees ks)) k)
