-- What one visit of the walk through parts and types opens.
use Rattle.std.specs.Prelude.{◌≡◌, ℕ, ◌+◌, ◌-◌, ◌<◌, ◌≤◌, ◌⊎◌, Bool, true, false, List, [], ◌∷◌, ◌++◌, length, get_or, map, refl, zero, suc}
use Rattle.std.specs.List.{AllByRecursion}
use Rattle.std.proofs.Common.{sym, ap, ap₂, ◌∙◌, subst, inl, inr, arith}
use Rattle.core_rules.specs.Term.{Term, Var, Pi, Lam, App, Con, Proj, Meta}
use Rattle.core_rules.specs.Substitution.{value_at}
use Rattle.term_pool.specs.declared.node.Node.{Node}
use Rattle.term_pool.specs.declared.node.Node.TheVariants as N
use Rattle.term_pool.specs.declared.node.Parts.TheVariants.{Variable, Alone, Two}
use Rattle.term_pool.specs.Lists.{items}
use Rattle.term_pool.specs.Node.{parts_of}
use Rattle.term_pool.specs.Pool.{Pool, tree, node_tree, Below}
use Rattle.term_pool.specs.Reach.{reach}
use Rattle.index_unify.specs.Queue.{Item, Among, Adds}
use Rattle.index_unify.specs.Walk.{Place, place_in, Leads, IsNext, Opens}
use Rattle.index_unify.specs.Dependence.{Part, pi_domain, pi_codomain, lam_domain, lam_body, app_fun, app_arg, con_params, proj_of, meta_args, Edge, to_part, to_type, Goal, met}
use Rattle.index_unify.proofs.Queues.{Further, added, added-has, further-more, further-among}

-- an edge from x to z, by its two kinds
pub record ByPart (ts : List Term) (x z : Place) : Type 0 where
  pub part : Term
  pub binds : ℕ
  pub reaches : x.1 < reach x.0
  pub is_part : Part x.0 part binds
  pub is : z ≡ (part, x.1 + binds)

pub record ByType (ts : List Term) (x z : Place) : Type 0 where
  pub index : ℕ
  pub var : x.0 ≡ Var index
  pub free : x.1 ≤ index
  pub within : index - x.1 < length ts
  pub is : z ≡ (value_at ts (index - x.1), 0)

edge_cases : (ts : List Term) {x z : Place} → Edge ts x z → ByPart ts x z ⊎ ByType ts x z
edge_cases ts (to_part {u = u} {k = k} l p) = inl (record { part = u; binds = k; reaches = l; is_part = p; is = refl })
edge_cases ts (to_type {i = i} l k) = inr (record { index = i; var = refl; free = l; within = k; is = refl })

pub record IsMet (h : ℕ → Bool) (x : Place) : Type 0 where
  pub index : ℕ
  pub var : x.0 ≡ Var index
  pub free : x.1 ≤ index
  pub wanted : h (index - x.1) ≡ true

goal_cases : (h : ℕ → Bool) {x : Place} → Goal h x → IsMet h x
goal_cases h (met {i = i} l e) = record { index = i; var = refl; free = l; wanted = e }

nothing : {X : Type 0} (xs : List X) → xs ++ [] ≡ xs
nothing [] = refl
nothing (x ∷ xs) = ap (λ r. x ∷ r) (nothing xs)

pub length_map : {X Y : Type 0} (f : X → Y) (xs : List X) → length (map f xs) ≡ length xs
length_map f [] = refl
length_map f (x ∷ xs) = let e = length_map f xs in omega arith

pub value_map : (p : Pool) (ids : List ℕ) (i o : ℕ) → i < length ids → value_at (map (tree p) ids) i ≡ tree p (get_or ids i o)
value_map p [] i o l = absurd (omega arith)
value_map p (x ∷ ids) zero o l = refl
value_map p (x ∷ ids) (suc i) o l = value_map p ids i o (omega arith)

all_get : (P : ℕ → Type 0) (ids : List ℕ) (i o : ℕ) → i < length ids → AllByRecursion P ids → P (get_or ids i o)
all_get P [] i o l a = absurd (omega arith)
all_get P (x ∷ ids) zero o l a = a.0
all_get P (x ∷ ids) (suc i) o l a = all_get P ids i o (omega arith) a.1

-- the node of a variable
pub var_tree : (f : ℕ → Term) (n : Node) (i : ℕ) → parts_of n ≡ Variable i → node_tree f n ≡ Var i
var_tree f (N.Var j) i e = cc e
var_tree f (N.Sort j) i e = absurd cc
var_tree f (N.Pi b x s u) i e = absurd cc
var_tree f (N.Lam b x s u) i e = absurd cc
var_tree f (N.App b s u) i e = absurd cc
var_tree f (N.Def k) i e = absurd cc
var_tree f (N.Fam k) i e = absurd cc
var_tree f (N.Con k s) i e = absurd cc
var_tree f (N.Proj k s) i e = absurd cc
var_tree f (N.Meta m s) i e = absurd cc

module _ (ts : List Term) (h : ℕ → Bool) (p : Pool) (t d : ℕ) where
  abbrev Quiet : Type 0
  Quiet = (z : Place) → Edge ts (place_in p (t, d)) z → ⊥

  opens-none : (xs : List Item) → Quiet → Opens (Edge ts) p (t, d) xs xs
  opens-none xs q = record { more = []; is = sym (nothing xs); leads = λ z e. absurd (q z e); only = tt }

  opens-by : (xs ys : List Item) → Further (IsNext (Edge ts) p (t, d)) xs ys → Leads (Edge ts) p ys (t, d) → Opens (Edge ts) p (t, d) xs ys
  opens-by xs ys f l = record { more = f.more; is = f.is; leads = l; only = f.have }

  -- ---- no variable of the context stands in it

  var-reach : (i : ℕ) → tree p t ≡ Var i → reach (tree p t) ≡ i + 1
  var-reach i e = ap reach e

  pub quiet-goal : reach (tree p t) ≤ d → Goal h (place_in p (t, d)) → ⊥
  quiet-goal l g = let m = goal_cases h g in let e = var-reach m.index m.var in absurd (omega (arith, l, e, m.free))

  pub quiet-opens : (xs : List Item) → reach (tree p t) ≤ d → Opens (Edge ts) p (t, d) xs xs
  quiet-opens xs l = opens-none xs (λ z e. by (edge_cases ts e))
    where
      by : {z : Place} → ByPart ts (place_in p (t, d)) z ⊎ ByType ts (place_in p (t, d)) z → ⊥
      by (inl b) = absurd (omega (arith, l, b.reaches))
      by (inr b) = let e = var-reach b.index b.var in absurd (omega (arith, l, e, b.free))

  -- ---- without parts

  module _ (n : Node) (is : tree p t ≡ node_tree (tree p) n) where
    alone-var : (i : ℕ) → parts_of n ≡ Alone → tree p t ≡ Var i → ⊥
    alone-var i a e = by n a (sym is ∙ e)
      where
        by : (n : Node) → parts_of n ≡ Alone → node_tree (tree p) n ≡ Var i → ⊥
        by (N.Var j) a e = cc
        by (N.Sort j) a e = cc
        by (N.Pi b x s u) a e = cc
        by (N.Lam b x s u) a e = cc
        by (N.App b s u) a e = cc
        by (N.Def k) a e = cc
        by (N.Fam k) a e = cc
        by (N.Con k s) a e = cc
        by (N.Proj k s) a e = cc
        by (N.Meta m s) a e = cc

    alone-part : (u : Term) (k : ℕ) → parts_of n ≡ Alone → Part (tree p t) u k → ⊥
    alone-part u k a q = by n a (subst (λ w. Part w u k) is q)
      where
        by : (n : Node) → parts_of n ≡ Alone → Part (node_tree (tree p) n) u k → ⊥
        by (N.Var j) a q = elim q [ ]
        by (N.Sort j) a q = elim q [ ]
        by (N.Pi b x s u) a q = absurd cc
        by (N.Lam b x s u) a q = absurd cc
        by (N.App b s u) a q = absurd cc
        by (N.Def k) a q = elim q [ ]
        by (N.Fam k) a q = elim q [ ]
        by (N.Con k s) a q = absurd cc
        by (N.Proj k s) a q = absurd cc
        by (N.Meta m s) a q = absurd cc

    pub alone-goal : parts_of n ≡ Alone → Goal h (place_in p (t, d)) → ⊥
    alone-goal a g = let m = goal_cases h g in alone-var m.index a m.var

    pub alone-opens : (xs : List Item) → parts_of n ≡ Alone → Opens (Edge ts) p (t, d) xs xs
    alone-opens xs a = opens-none xs (λ z e. by (edge_cases ts e))
      where
        by : {z : Place} → ByPart ts (place_in p (t, d)) z ⊎ ByType ts (place_in p (t, d)) z → ⊥
        by (inl b) = alone-part b.part b.binds a b.is_part
        by (inr b) = alone-var b.index a b.var

    -- ---- with parts

    module _ (a b m : ℕ) (parts : parts_of n ≡ Two a b m) (below : Below (tree p) t n) (within : t < length p.trees) where
      abbrev Parts : Term → ℕ → Type 0
      Parts u k = ((u ≡ tree p a) × (k ≡ 0)) ⊎ ((u ≡ tree p b) × (k ≡ m))

      first-is : (x y i j k : ℕ) → Two x y i ≡ Two a b j → x ≡ a
      first-is x y i j k e = cc e

      part-is : (n : Node) → parts_of n ≡ Two a b m → Below (tree p) t n → (u : Term) (k : ℕ) → Part (node_tree (tree p) n) u k → Parts u k
      part-is (N.Pi c x i j) e l u k pi_domain = inl (cc e, refl)
      part-is (N.Pi c x i j) e l u k pi_codomain = inr (cc e, cc e)
      part-is (N.Lam c x i j) e l u k lam_domain = inl (cc e, refl)
      part-is (N.Lam c x i j) e l u k lam_body = inr (cc e, cc e)
      part-is (N.App c i j) e l u k app_fun = inl (cc e, refl)
      part-is (N.App c i j) e l u k app_arg = inr (cc e, cc e)
      part-is (N.Con c i) e l u k con_params = inl (sym l.list ∙ (cc e), refl)
      part-is (N.Proj c i) e l u k proj_of = inl (cc e, refl)
      part-is (N.Meta c i) e l u k meta_args = inl (sym l.list ∙ (cc e), refl)
      part-is (N.Var i) e l u k q = absurd cc
      part-is (N.Sort i) e l u k q = absurd cc
      part-is (N.Def i) e l u k q = absurd cc
      part-is (N.Fam i) e l u k q = absurd cc

      is-first : (n : Node) → parts_of n ≡ Two a b m → Below (tree p) t n → (a < t) × Part (node_tree (tree p) n) (tree p a) 0
      is-first (N.Pi c x i j) e l = let h : i ≡ a = cc e in (subst (λ k. k < t) h l.0, subst (λ k. Part (Pi c x (tree p i) (tree p j)) (tree p k) 0) h pi_domain)
      is-first (N.Lam c x i j) e l = let h : i ≡ a = cc e in (subst (λ k. k < t) h l.0, subst (λ k. Part (Lam c x (tree p i) (tree p j)) (tree p k) 0) h lam_domain)
      is-first (N.App c i j) e l = let h : i ≡ a = cc e in (subst (λ k. k < t) h l.0, subst (λ k. Part (App c (tree p i) (tree p j)) (tree p k) 0) h app_fun)
      is-first (N.Con c i) e l = let h : i ≡ a = cc e in (subst (λ k. k < t) h l.within, subst (λ k. Part (Con c (items (tree p i))) (tree p k) 0) h (subst (λ u. Part (Con c (items (tree p i))) u 0) (sym l.list) con_params))
      is-first (N.Proj c i) e l = let h : i ≡ a = cc e in (subst (λ k. k < t) h l, subst (λ k. Part (Proj c (tree p i)) (tree p k) 0) h proj_of)
      is-first (N.Meta c i) e l = let h : i ≡ a = cc e in (subst (λ k. k < t) h l.within, subst (λ k. Part (Meta c (items (tree p i))) (tree p k) 0) h (subst (λ u. Part (Meta c (items (tree p i))) u 0) (sym l.list) meta_args))
      is-first (N.Var i) e l = absurd cc
      is-first (N.Sort i) e l = absurd cc
      is-first (N.Def i) e l = absurd cc
      is-first (N.Fam i) e l = absurd cc

      is-second : (n : Node) → parts_of n ≡ Two a b m → Below (tree p) t n → (b < t) × Part (node_tree (tree p) n) (tree p b) m
      is-second (N.Pi c x i j) e l = let h : j ≡ b = cc e in let g : 1 ≡ m = cc e in (subst (λ k. k < t) h l.1, subst (λ k. Part (Pi c x (tree p i) (tree p j)) (tree p k) m) h (subst (λ k. Part (Pi c x (tree p i) (tree p j)) (tree p j) k) g pi_codomain))
      is-second (N.Lam c x i j) e l = let h : j ≡ b = cc e in let g : 1 ≡ m = cc e in (subst (λ k. k < t) h l.1, subst (λ k. Part (Lam c x (tree p i) (tree p j)) (tree p k) m) h (subst (λ k. Part (Lam c x (tree p i) (tree p j)) (tree p j) k) g lam_body))
      is-second (N.App c i j) e l = let h : j ≡ b = cc e in let g : 0 ≡ m = cc e in (subst (λ k. k < t) h l.1, subst (λ k. Part (App c (tree p i) (tree p j)) (tree p k) m) h (subst (λ k. Part (App c (tree p i) (tree p j)) (tree p j) k) g app_arg))
      is-second (N.Con c i) e l = let h : i ≡ b = cc e in let g : 0 ≡ m = cc e in (subst (λ k. k < t) h l.within, subst (λ k. Part (Con c (items (tree p i))) (tree p k) m) h (subst (λ k. Part (Con c (items (tree p i))) (tree p i) k) g (subst (λ u. Part (Con c (items (tree p i))) u 0) (sym l.list) con_params)))
      is-second (N.Proj c i) e l = let h : i ≡ b = cc e in let g : 0 ≡ m = cc e in (subst (λ k. k < t) h l, subst (λ k. Part (Proj c (tree p i)) (tree p k) m) h (subst (λ k. Part (Proj c (tree p i)) (tree p i) k) g proj_of))
      is-second (N.Meta c i) e l = let h : i ≡ b = cc e in let g : 0 ≡ m = cc e in (subst (λ k. k < t) h l.within, subst (λ k. Part (Meta c (items (tree p i))) (tree p k) m) h (subst (λ k. Part (Meta c (items (tree p i))) (tree p i) k) g (subst (λ u. Part (Meta c (items (tree p i))) u 0) (sym l.list) meta_args)))
      is-second (N.Var i) e l = absurd cc
      is-second (N.Sort i) e l = absurd cc
      is-second (N.Def i) e l = absurd cc
      is-second (N.Fam i) e l = absurd cc

      is-no_var : (n : Node) (i : ℕ) → parts_of n ≡ Two a b m → node_tree (tree p) n ≡ Var i → ⊥
      is-no_var (N.Pi c x i j) y e f = cc f
      is-no_var (N.Lam c x i j) y e f = cc f
      is-no_var (N.App c i j) y e f = cc f
      is-no_var (N.Con c i) y e f = cc f
      is-no_var (N.Proj c i) y e f = cc f
      is-no_var (N.Meta c i) y e f = cc f
      is-no_var (N.Var i) y e f = cc e
      is-no_var (N.Sort i) y e f = cc e
      is-no_var (N.Def i) y e f = cc e
      is-no_var (N.Fam i) y e f = cc e

      pub parts-goal : Goal h (place_in p (t, d)) → ⊥
      parts-goal g = let y = goal_cases h g in is-no_var n y.index parts (sym is ∙ y.var)

      pub parts-opens : (xs ys zs : List Item) (e : ℕ) → d < reach (tree p t) → e ≡ d + m → Adds xs (a, d) ys → Adds ys (b, e) zs → Opens (Edge ts) p (t, d) xs zs
      parts-opens xs ys zs e l k f g = opens-by xs zs both (λ z y. by (edge_cases ts y))
        where
          P : Item → Type 0
          P = IsNext (Edge ts) p (t, d)

          next-first : P (a, d)
          next-first = let q = is-first n parts below in
              (omega (arith, q.0, within), subst (λ i. Edge ts (tree p t, d) (tree p a, i)) (omega arith) (to_part l (subst (λ w. Part w (tree p a) 0) (sym is) q.1)))

          next-second : P (b, e)
          next-second = let q = is-second n parts below in
              (omega (arith, q.0, within), subst (λ i. Edge ts (tree p t, d) (tree p b, i)) (sym k) (to_part l (subst (λ w. Part w (tree p b) m) (sym is) q.1)))

          second : Further P ys zs
          second = added P ys zs (b, e) next-second g

          both : Further P xs zs
          both = further-more P xs ys zs (added P xs ys (a, d) next-first f) second

          at-parts : {z : Place} (q : ByPart ts (place_in p (t, d)) z) → Parts q.part q.binds → (y : Item) × Among zs y × (place_in p y ≡ z)
          at-parts q (inl r) = ((a, d), further-among P ys zs (a, d) second (added-has xs ys (a, d) f), ap₂ (λ u i. (u, i)) (sym r.0) (let j = r.1 in omega (arith, j)) ∙ sym q.is)
          at-parts q (inr r) = ((b, e), added-has ys zs (b, e) g, ap₂ (λ u i. (u, i)) (sym r.0) (let j = r.1 in omega (arith, j, k)) ∙ sym q.is)

          by : {z : Place} → ByPart ts (place_in p (t, d)) z ⊎ ByType ts (place_in p (t, d)) z → (y : Item) × Among zs y × (place_in p y ≡ z)
          by (inl q) = at-parts q (part-is n parts below q.part q.binds (subst (λ w. Part w q.part q.binds) is q.is_part))
          by (inr q) = absurd (is-no_var n q.index parts (sym is ∙ q.var))

  -- ---- a variable

  module _ (i : ℕ) (is : tree p t ≡ Var i) where
    pub var-goal : d ≤ i → h (i - d) ≡ true → Goal h (place_in p (t, d))
    var-goal l e = subst (λ w. Goal h (w, d)) (sym is) (met l e)

    same-index : (j : ℕ) → tree p t ≡ Var j → j ≡ i
    same-index j e = let k : Var j ≡ Var i = sym e ∙ is in cc k

    no-part : (w : Term) (u : Term) (k : ℕ) → w ≡ Var i → Part w u k → ⊥
    no-part w u k e q = by (subst (λ w. Part w u k) e q)
      where
        by : Part (Var i) u k → ⊥
        by q = elim q [ ]

    pub var-other : h (i - d) ≡ false → Goal h (place_in p (t, d)) → ⊥
    var-other f g = let m = goal_cases h g in
        let e : h (i - d) ≡ true = subst (λ j. h (j - d) ≡ true) (same-index m.index m.var) m.wanted in
        let k : true ≡ false = sym e ∙ f in cc k

    pub var-opens : (ids : List ℕ) (o : ℕ) (xs ys : List Item) → ts ≡ map (tree p) ids → AllByRecursion (λ i. i < length p.trees) ids → d ≤ i → i - d < length ids → Adds xs (get_or ids (i - d) o, 0) ys
        → Opens (Edge ts) p (t, d) xs ys
    var-opens ids o xs ys same all l k a = opens-by xs ys (added P xs ys (get_or ids (i - d) o, 0) next a) (λ z e. by (edge_cases ts e))
      where
        P : Item → Type 0
        P = IsNext (Edge ts) p (t, d)

        has-type : value_at ts (i - d) ≡ tree p (get_or ids (i - d) o)
        has-type = ap (λ r. value_at r (i - d)) same ∙ value_map p ids (i - d) o k

        few : i - d < length ts
        few = let e = ap length same in let f = length_map (tree p) ids in omega (arith, k, e, f)

        next : P (get_or ids (i - d) o, 0)
        next = (all_get (λ i. i < length p.trees) ids (i - d) o k all, subst (λ u. Edge ts (tree p t, d) (u, 0)) has-type (subst (λ w. Edge ts (w, d) (value_at ts (i - d), 0)) (sym is) (to_type l few)))

        by : {z : Place} → ByPart ts (place_in p (t, d)) z ⊎ ByType ts (place_in p (t, d)) z → (y : Item) × Among ys y × (place_in p y ≡ z)
        by (inl b) = absurd (no-part (tree p t) b.part b.binds is b.is_part)
        by (inr b) = ((get_or ids (i - d) o, 0), added-has xs ys (get_or ids (i - d) o, 0) a, ap (λ u. (u, 0)) (sym has-type) ∙ (ap (λ j. (value_at ts (j - d), 0)) (sym (same-index b.index b.var)) ∙ sym b.is))

    pub var-free : (xs : List Item) → length ts ≤ i - d → Opens (Edge ts) p (t, d) xs xs
    var-free xs l = opens-none xs (λ z e. by (edge_cases ts e))
      where
        by : {z : Place} → ByPart ts (place_in p (t, d)) z ⊎ ByType ts (place_in p (t, d)) z → ⊥
        by (inl b) = no-part (tree p t) b.part b.binds is b.is_part
        by (inr b) = let s = same-index b.index b.var in absurd (omega (arith, l, b.within, s))
