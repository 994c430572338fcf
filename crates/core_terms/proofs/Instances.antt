-- What is made of a node when solutions are put in.
use Rattle.std.specs.Prelude.{◌≡◌, ℕ, ◌<◌, List, [], ◌∷◌, length, Bool, true, false, ◌||◌, Option, Some, None, is_some, option_map, refl}
use Rattle.std.proofs.Common.{sym, ap, ap₂, ◌∙◌, arith, subst, ⊎_elim}
use Rattle.core_rules.specs.Term.{Term, Terms, Var, Sort, Pi, Lam, App, Def, Fam, Con, Proj, Meta, End, And, env_of, to_list, from_list}
use Rattle.core_rules.specs.Substitution.{replace, replace_all, put_solution, under}
use Rattle.core_rules.specs.InScope.{IsAcyclic}
use Rattle.core_rules.specs.Bounded.{full}
use Rattle.core_rules.specs.BoundedLaws.{IsFull}
use Rattle.core_rules.proofs.Heads.FullSolutions.{full_is_full}
use Rattle.term_pool.specs.declared.node.Node.{Node}
use Rattle.term_pool.specs.declared.node.Node.TheVariants as N
use Rattle.term_pool.specs.Lists.{list, items, IsList, items_list}
use Rattle.term_pool.specs.Measures.{has_meta, has_meta_in}
use Rattle.term_pool.specs.Node.{with_two}
use Rattle.term_pool.specs.Pool.{Pool, tree, args, node_tree, IsArgs, Below, Extends}
use Rattle.term_pool.specs.Growth.{Extends-length, Extends-tree}
use Rattle.term_pool.specs.Table.{Results, Puts}
use Rattle.core_terms.specs.Solutions.{solved_in, AreIn, IsInstance, AreInstances, IsInstance-stays, solution_or, wanted, is_solved}

replace_list : (f : ℕ → Option Term) (ts : Terms) → replace f (list ts) ≡ list (replace_all f ts)
replace_list f End = refl
replace_list f (And t ts) = cc (replace_list f ts)

replace_is : (f : ℕ → Option Term) (t : Term) → IsList t → replace f t ≡ list (replace_all f (items t))
replace_is f t h = ap (replace f) h ∙ replace_list f (items t)

pub replace_items : (f : ℕ → Option Term) (t : Term) → IsList t → items (replace f t) ≡ replace_all f (items t)
replace_items f t h = ap items (replace_is f t h) ∙ items_list (replace_all f (items t))

pub IsList-replace : (f : ℕ → Option Term) (t : Term) → IsList t → IsList (replace f t)
IsList-replace f t h = replace_is f t h ∙ ap list (sym (replace_items f t h))

neither : (a b : Bool) → (a || b) ≡ false → (a ≡ false) × (b ≡ false)
neither false false e = (refl, refl)
neither true b e = absurd cc
neither false true e = absurd cc

mutual
  pub replace_none : (f : ℕ → Option Term) (t : Term) → has_meta t ≡ false → replace f t ≡ t
  replace_none f (Var i) e = refl
  replace_none f (Sort n) e = refl
  replace_none f (Pi b x a t) e = let h = neither (has_meta a) (has_meta t) e in cc (replace_none f a h.0, replace_none f t h.1)
  replace_none f (Lam b x a t) e = let h = neither (has_meta a) (has_meta t) e in cc (replace_none f a h.0, replace_none f t h.1)
  replace_none f (App b t u) e = let h = neither (has_meta t) (has_meta u) e in cc (replace_none f t h.0, replace_none f u h.1)
  replace_none f (Def k) e = refl
  replace_none f (Fam k) e = refl
  replace_none f (Con k ts) e = cc (replace_none_in f ts e)
  replace_none f (Proj k t) e = cc (replace_none f t e)
  replace_none f (Meta m ts) e = absurd cc

  replace_none_in : (f : ℕ → Option Term) (ts : Terms) → has_meta_in ts ≡ false → replace_all f ts ≡ ts
  replace_none_in f End e = refl
  replace_none_in f (And t ts) e = let h = neither (has_meta t) (has_meta_in ts) e in cc (replace_none f t h.0, replace_none_in f ts h.1)

pub instance_none : (p : Pool) (s : ℕ → Option Term) (t : ℕ) → t < length p.trees → has_meta (tree p t) ≡ false → IsInstance p s (tree p t) t
instance_none p s t l e = record { within = l; is = λ f x. sym (replace_none f (tree p t) e) }

leaf_replaced : (g : ℕ → Term) (h : ℕ → Option ℕ) (f : ℕ → Option Term) (n : Node) → wanted h n ≡ None → replace f (node_tree g n) ≡ node_tree g n
leaf_replaced g h f (N.Var i) e = refl
leaf_replaced g h f (N.Sort i) e = refl
leaf_replaced g h f (N.Def i) e = refl
leaf_replaced g h f (N.Fam i) e = refl
leaf_replaced g h f (N.Pi b x s t) e = absurd cc
leaf_replaced g h f (N.Lam b x s t) e = absurd cc
leaf_replaced g h f (N.App b s t) e = absurd cc
leaf_replaced g h f (N.Con k a) e = absurd cc
leaf_replaced g h f (N.Proj k t) e = absurd cc
leaf_replaced g h f (N.Meta m a) e = absurd cc

pub instance_leaf : (p : Pool) (s : ℕ → Option Term) (h : ℕ → Option ℕ) (t : ℕ) (n : Node) → t < length p.trees → tree p t ≡ node_tree (tree p) n → wanted h n ≡ None → IsInstance p s (tree p t) t
instance_leaf p s h t n l e w = record { within = l; is = λ f x. e ∙ (sym (leaf_replaced (tree p) h f n w) ∙ ap (replace f) (sym e)) }

-- ---- where it stands in the table

pub instance_put : {s : ℕ → Option Term} {m n : Results} {p q : Pool} {t r : ℕ} → Extends p q → AreInstances s m p → t < length p.trees → IsInstance q s (tree p t) r → Puts m t 0 r n → AreInstances s n q
instance_put {s} {m} {n} {p} {q} {t} {r} g k l h u = record {
  at = λ i x e. ⊎_elim
      (λ same. old i x (k.at i x (sym same ∙ e)))
      (λ new. let r-is : r ≡ x = cc (new.2, e) in
      subst (λ i. (i < length q.trees) × IsInstance q s (tree q i) x) (sym new.0)
      (subst (λ x. (t < length q.trees) × IsInstance q s (tree q t) x) r-is
      (omega (arith, Extends-length g), subst (λ u. IsInstance q s u r) (sym (Extends-tree t g l)) h)))
      (u.elsewhere i 0);
}
  where
    old : (i x : ℕ) → (i < length p.trees) × IsInstance p s (tree p i) x → (i < length q.trees) × IsInstance q s (tree q i) x
    old i x a = (omega (arith, Extends-length g, a.0), subst (λ u. IsInstance q s u x) (sym (Extends-tree i g a.0)) (IsInstance-stays g a.1))

-- ---- a node with the instances of its parts

abbrev first_of : Option (ℕ × ℕ) → ℕ
first_of None = 0
first_of (Some p) = p.0

abbrev second_of : Option (ℕ × ℕ) → ℕ
second_of None = 0
second_of (Some p) = p.1

some_both : (a b c d : ℕ) → ◌≡◌ {A = Option (ℕ × ℕ)} (Some (a, b)) (Some (c, d)) → (a ≡ c) × (b ≡ d)
some_both a b c d e = (ap first_of e, ap second_of e)

no_some : (o : Option ℕ) → o ≡ None → is_some o ≡ true → ⊥
no_some None z k = absurd cc
no_some (Some x) z k = absurd cc

module _ (p : Pool) (h : ℕ → Option ℕ) (i j a b : ℕ) where
  -- what is wanted stands in the pool
  pub wanted_within : (n : Node) → AreIn p h → Below (tree p) (length p.trees) n → wanted h n ≡ Some (i, j) → (i < length p.trees) × (j < length p.trees)
  wanted_within (N.Pi c x s t) y l e = let d = some_both s t i j e in (rw (← d.0) l.0, rw (← d.1) l.1)
  wanted_within (N.Lam c x s t) y l e = let d = some_both s t i j e in (rw (← d.0) l.0, rw (← d.1) l.1)
  wanted_within (N.App c s t) y l e = let d = some_both s t i j e in (rw (← d.0) l.0, rw (← d.1) l.1)
  wanted_within (N.Con k s) y l e = let d = some_both s s i j e in (rw (← d.0) l.within, rw (← d.1) l.within)
  wanted_within (N.Proj k s) y l e = let d = some_both s s i j e in (rw (← d.0) l, rw (← d.1) l)
  wanted_within (N.Meta m s) y l e = let d = some_both s (solution_or s (h m)) i j e in (rw (← d.0) l.within, second (h m) refl d.1)
    where
      second : (o : Option ℕ) → h m ≡ o → solution_or s (h m) ≡ j → j < length p.trees
      second None k d = subst (λ x. x < length p.trees) (sym (ap (solution_or s) k) ∙ d) l.within
      second (Some x) k d = subst (λ x. x < length p.trees) (sym (ap (solution_or s) k) ∙ d) (y.within m x k)
  wanted_within (N.Var x) y l e = absurd cc
  wanted_within (N.Sort x) y l e = absurd cc
  wanted_within (N.Def x) y l e = absurd cc
  wanted_within (N.Fam x) y l e = absurd cc

  module _ (s : ℕ → Option Term) (first : IsInstance p s (tree p i) a) (second : IsInstance p s (tree p j) b) (y : IsAcyclic s) where
    made_args : (c : ℕ) → IsArgs (tree p) (length p.trees) c → c ≡ i → IsArgs (tree p) (length p.trees) a
    made_args c l e = record {
      within = first.within;
      list = subst IsList (ap (λ k. replace (full s y) (tree p k)) e ∙ sym (first.is (full s y) (full_is_full s y))) (IsList-replace (full s y) (tree p c) l.list);
    }

    pub below_instance : (n : Node) → wanted h n ≡ Some (i, j) → Below (tree p) (length p.trees) n → Below (tree p) (length p.trees) (with_two a b n)
    below_instance (N.Pi c x u v) e l = (first.within, second.within)
    below_instance (N.Lam c x u v) e l = (first.within, second.within)
    below_instance (N.App c u v) e l = (first.within, second.within)
    below_instance (N.Con k c) e l = made_args c l (some_both c c i j e).0
    below_instance (N.Proj k c) e l = first.within
    below_instance (N.Meta m c) e l = made_args c l (some_both c (solution_or c (h m)) i j e).0
    below_instance (N.Var x) e l = absurd cc
    below_instance (N.Sort x) e l = absurd cc
    below_instance (N.Def x) e l = absurd cc
    below_instance (N.Fam x) e l = absurd cc

    pub args_instance : (n : Node) → is_solved h n ≡ true → wanted h n ≡ Some (i, j) → Below (tree p) (length p.trees) n → IsArgs (tree p) (length p.trees) a
    args_instance (N.Meta m c) k e l = made_args c l (some_both c (solution_or c (h m)) i j e).0
    args_instance (N.Pi c x u v) k e l = absurd cc
    args_instance (N.Lam c x u v) k e l = absurd cc
    args_instance (N.App c u v) k e l = absurd cc
    args_instance (N.Con m c) k e l = absurd cc
    args_instance (N.Proj m c) k e l = absurd cc
    args_instance (N.Var x) k e l = absurd cc
    args_instance (N.Sort x) k e l = absurd cc
    args_instance (N.Def x) k e l = absurd cc
    args_instance (N.Fam x) k e l = absurd cc

  module _ (s : ℕ → Option Term) (si : s ≡ solved_in p h) (f : ℕ → Option Term) (x : IsFull s f) (ea : tree p a ≡ replace f (tree p i)) (eb : tree p b ≡ replace f (tree p j)) where
    made_items : (c : ℕ) → IsArgs (tree p) (length p.trees) c → c ≡ i → items (tree p a) ≡ replace_all f (items (tree p c))
    made_items c l e = ap items (ea ∙ ap (λ k. replace f (tree p k)) (sym e)) ∙ replace_items f (tree p c) l.list

    at_none : (m : ℕ) → h m ≡ None → f m ≡ None
    at_none m e = x.unsolved m (ap (λ k. k m) si ∙ ap (option_map (tree p)) e)

    at_some : (m k : ℕ) → h m ≡ Some k → f m ≡ Some (replace f (tree p k))
    at_some m k e = x.solved m (tree p k) (ap (λ k. k m) si ∙ ap (option_map (tree p)) e)

    at_first : (c : ℕ) → c ≡ i → tree p a ≡ replace f (tree p c)
    at_first c e = ea ∙ ap (λ k. replace f (tree p k)) (sym e)

    at_second : (c : ℕ) → c ≡ j → tree p b ≡ replace f (tree p c)
    at_second c e = eb ∙ ap (λ k. replace f (tree p k)) (sym e)

    pub joined_tree : (n : Node) → is_solved h n ≡ false → wanted h n ≡ Some (i, j) → Below (tree p) (length p.trees) n → node_tree (tree p) (with_two a b n) ≡ replace f (node_tree (tree p) n)
    joined_tree (N.Pi c y u v) k e l = let d = some_both u v i j e in ap₂ (Pi c y) (at_first u d.0) (at_second v d.1)
    joined_tree (N.Lam c y u v) k e l = let d = some_both u v i j e in ap₂ (Lam c y) (at_first u d.0) (at_second v d.1)
    joined_tree (N.App c u v) k e l = let d = some_both u v i j e in ap₂ (App c) (at_first u d.0) (at_second v d.1)
    joined_tree (N.Con m c) k e l = ap (Con m) (made_items c l (some_both c c i j e).0)
    joined_tree (N.Proj m c) k e l = ap (Proj m) (at_first c (some_both c c i j e).0)
    joined_tree (N.Meta m c) k e l = ap (Meta m) (made_items c l (some_both c (solution_or c (h m)) i j e).0) ∙ sym (ap (put_solution m (replace_all f (items (tree p c)))) (at_none m (none (h m) k)))
      where
        none : (o : Option ℕ) → is_some o ≡ false → o ≡ None
        none None k = refl
        none (Some z) k = absurd cc
    joined_tree (N.Var y) k e l = absurd cc
    joined_tree (N.Sort y) k e l = absurd cc
    joined_tree (N.Def y) k e l = absurd cc
    joined_tree (N.Fam y) k e l = absurd cc

    pub solved_tree : (n : Node) → is_solved h n ≡ true → wanted h n ≡ Some (i, j) → Below (tree p) (length p.trees) n → under (env_of (args p a)) (tree p b) ≡ replace f (node_tree (tree p) n)
    solved_tree (N.Meta m c) k e l = let d = some_both c (solution_or c (h m)) i j e in by_solution (h m) refl d.1 k (made_items c l d.0)
      where
        by_solution : (o : Option ℕ) → h m ≡ o → solution_or c (h m) ≡ j → is_some (h m) ≡ true → items (tree p a) ≡ replace_all f (items (tree p c)) → under (env_of (args p a)) (tree p b) ≡ put_solution m (replace_all f (items (tree p c))) (f m)
        by_solution None z d k w = absurd (no_some (h m) z k)
        by_solution (Some q) z v k w =
            let d : q ≡ j = sym (ap (solution_or c) z) ∙ v in
            ap (λ ts. under (env_of ts) (tree p b)) w
            ∙ (ap (under (env_of (replace_all f (items (tree p c))))) (eb ∙ ap (λ k. replace f (tree p k)) (sym d))
            ∙ sym (ap (put_solution m (replace_all f (items (tree p c)))) (at_some m q z)))
    solved_tree (N.Pi c y u v) k e l = absurd cc
    solved_tree (N.Lam c y u v) k e l = absurd cc
    solved_tree (N.App c u v) k e l = absurd cc
    solved_tree (N.Con m c) k e l = absurd cc
    solved_tree (N.Proj m c) k e l = absurd cc
    solved_tree (N.Var y) k e l = absurd cc
    solved_tree (N.Sort y) k e l = absurd cc
    solved_tree (N.Def y) k e l = absurd cc
    solved_tree (N.Fam y) k e l = absurd cc

pub to_from : (ts : List Term) → to_list (from_list ts) ≡ ts
to_from [] = refl
to_from (t ∷ ts) = cc (to_from ts)
