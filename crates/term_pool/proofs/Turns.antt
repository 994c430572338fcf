-- One turn of a change of variables, over a pool, a table of results and a list of tasks.
use Rattle.std.specs.Prelude.{◌≡◌, ℕ, ◌+◌, ◌<◌, ◌≤◌, List, [], ◌∷◌, ◌++◌, length, Option, Some, None, IsSome}
use Rattle.std.specs.List.{AllByRecursion}
use Rattle.std.proofs.Common.{zero, suc, refl, sym, ap, ◌∙◌, arith, subst, inl, inr, ⊎_elim, add-zero, append_assoc}
use Rattle.core_rules.specs.Term.{Term, Terms, Var, Sort, Pi, Lam, App, Def, Fam, Con, Proj, Meta, End, And}
use Rattle.core_rules.specs.Substitution.{over, over_all}
use Rattle.term_pool.specs.declared.node.Node.{Node}
use Rattle.term_pool.specs.declared.node.Node.TheVariants as N
use Rattle.term_pool.specs.declared.node.Parts.TheVariants.{Variable, Alone, Two}
use Rattle.term_pool.specs.declared.change.Task.{Task}
use Rattle.term_pool.specs.declared.change.Task.TheVariants.{Make, Join}
use Rattle.term_pool.specs.Lists.{items, IsList, IsList-over, over_items}
use Rattle.term_pool.specs.Reach.{reach, reach_all}
use Rattle.term_pool.specs.Node.{parts_of, with_two}
use Rattle.term_pool.specs.Pool.{Pool, tree, node_tree, IsArgs, Below, Extends, StandsFor}
use Rattle.term_pool.specs.Growth.{Extends-refl, Extends-length, Extends-tree, Extends-StandsFor}
use Rattle.term_pool.specs.Table.{Results, found, Has, Puts}
use Rattle.term_pool.specs.Change.{Keeps, Fits, Joins, IsTask, key, Comes, PartsCome, AllPartsCome, State, turns, weight, weigh, Turn}
use Rattle.term_pool.proofs.Trees.{node_tree-same, Below-same}

-- ---- the parts of a node

module _ (g : ℕ → Term) where
  pub variable_tree : (n : Node) (i : ℕ) → parts_of n ≡ Variable i → node_tree g n ≡ Var i
  variable_tree (N.Var j) i e = cc
  variable_tree (N.Sort j) i e = cc
  variable_tree (N.Pi b x s t) i e = cc
  variable_tree (N.Lam b x s t) i e = cc
  variable_tree (N.App b t u) i e = cc
  variable_tree (N.Def k) i e = cc
  variable_tree (N.Fam k) i e = cc
  variable_tree (N.Con k a) i e = cc
  variable_tree (N.Proj k t) i e = cc
  variable_tree (N.Meta m a) i e = cc

  pub over_alone : (f : ℕ → ℕ → Term) (d : ℕ) (n : Node) → parts_of n ≡ Alone → over f d (node_tree g n) ≡ node_tree g n
  over_alone f d (N.Sort j) e = refl
  over_alone f d (N.Def k) e = refl
  over_alone f d (N.Fam k) e = refl
  over_alone f d (N.Var j) e = cc
  over_alone f d (N.Pi b x s t) e = cc
  over_alone f d (N.Lam b x s t) e = cc
  over_alone f d (N.App b t u) e = cc
  over_alone f d (N.Con k a) e = cc
  over_alone f d (N.Proj k t) e = cc
  over_alone f d (N.Meta m a) e = cc

  module _ (m : ℕ) (s t k : ℕ) where
    pub below_two : (n : Node) → parts_of n ≡ Two s t k → Below g m n → (s < m) × (t < m)
    below_two (N.Pi b x u v) e h = let p : u ≡ s = cc in let q : v ≡ t = cc in (rw (← p) h.0, rw (← q) h.1)
    below_two (N.Lam b x u v) e h = let p : u ≡ s = cc in let q : v ≡ t = cc in (rw (← p) h.0, rw (← q) h.1)
    below_two (N.App b u v) e h = let p : u ≡ s = cc in let q : v ≡ t = cc in (rw (← p) h.0, rw (← q) h.1)
    below_two (N.Con c a) e h = let p : a ≡ s = cc in let q : a ≡ t = cc in (rw (← p) h.within, rw (← q) h.within)
    below_two (N.Proj c u) e h = let p : u ≡ s = cc in let q : u ≡ t = cc in (rw (← p) h, rw (← q) h)
    below_two (N.Meta c a) e h = let p : a ≡ s = cc in let q : a ≡ t = cc in (rw (← p) h.within, rw (← q) h.within)
    below_two (N.Var i) e h = absurd cc
    below_two (N.Sort i) e h = absurd cc
    below_two (N.Def i) e h = absurd cc
    below_two (N.Fam i) e h = absurd cc

    -- the node with changed parts, whose trees h gives
    module _ (f : ℕ → ℕ → Term) (d : ℕ) (h : ℕ → Term) (s' t' : ℕ) (ks : h s' ≡ over f d (g s)) (kt : h t' ≡ over f (d + k) (g t)) where
      changed_items : (a : ℕ) → IsArgs g m a → a ≡ s → items (h s') ≡ over_all f d (items (g a))
      changed_items a l e = ap items (ks ∙ ap (λ i. over f d (g i)) (sym e)) ∙ over_items f d (g a) l.list

      pub over_two : (n : Node) → parts_of n ≡ Two s t k → Below g m n → node_tree h (with_two s' t' n) ≡ over f d (node_tree g n)
      over_two (N.Pi b x u v) e l = cc
      over_two (N.Lam b x u v) e l = cc
      over_two (N.App b u v) e l = cc (add-zero d)
      over_two (N.Con c a) e l = let p : a ≡ s = cc in cc (changed_items a l p)
      over_two (N.Proj c u) e l = cc
      over_two (N.Meta c a) e l = let p : a ≡ s = cc in cc (changed_items a l p)
      over_two (N.Var i) e l = absurd cc
      over_two (N.Sort i) e l = absurd cc
      over_two (N.Def i) e l = absurd cc
      over_two (N.Fam i) e l = absurd cc

      module _ (m' : ℕ) (ls : s' < m') (lt : t' < m') where
        changed_args : (a : ℕ) → IsArgs g m a → a ≡ s → IsArgs h m' s'
        changed_args a l e = record { within = ls; list = subst IsList (ap (λ i. over f d (g i)) e ∙ sym ks) (IsList-over f d (g a) l.list) }

        pub below_with_two : (n : Node) → parts_of n ≡ Two s t k → Below g m n → Below h m' (with_two s' t' n)
        below_with_two (N.Pi b x u v) e l = (ls, lt)
        below_with_two (N.Lam b x u v) e l = (ls, lt)
        below_with_two (N.App b u v) e l = (ls, lt)
        below_with_two (N.Con c a) e l = let p : a ≡ s = cc in changed_args a l p
        below_with_two (N.Proj c u) e l = ls
        below_with_two (N.Meta c a) e l = let p : a ≡ s = cc in changed_args a l p
        below_with_two (N.Var i) e l = absurd cc
        below_with_two (N.Sort i) e l = absurd cc
        below_with_two (N.Def i) e l = absurd cc
        below_with_two (N.Fam i) e l = absurd cc

turns-grow : (a b : ℕ) → a ≤ b → turns a ≤ turns b
turns-grow zero zero l = omega arith
turns-grow zero (suc b) l = omega arith
turns-grow (suc a) zero l = absurd (omega arith)
turns-grow (suc a) (suc b) l = omega (arith, turns-grow a b (omega arith))

turns-pos : (t : ℕ) → 0 < turns t
turns-pos zero = omega arith
turns-pos (suc t) = omega arith

turns_two : (a b t : ℕ) → a < t → b < t → 1 + turns a + turns b < turns t
turns_two a b zero l k = absurd (omega arith)
turns_two a b (suc t) l k = omega (arith, turns-grow a t (omega arith), turns-grow b t (omega arith))

-- ---- what a change leaves

mutual
  pub over_kept : (f : ℕ → ℕ → Term) (n d : ℕ) (t : Term) → Keeps f n → reach t ≤ d + n → over f d t ≡ t
  over_kept f n d (Var i) k l = k d i (omega arith)
  over_kept f n d (Sort j) k l = refl
  over_kept f n d (Pi b x a t) k l = cc (over_kept f n d a k (omega arith), over_kept f n (d + 1) t k (omega arith))
  over_kept f n d (Lam b x a t) k l = cc (over_kept f n d a k (omega arith), over_kept f n (d + 1) t k (omega arith))
  over_kept f n d (App b t u) k l = cc (over_kept f n d t k (omega arith), over_kept f n d u k (omega arith))
  over_kept f n d (Def j) k l = refl
  over_kept f n d (Fam j) k l = refl
  over_kept f n d (Con j ts) k l = cc (over_all_kept f n d ts k l)
  over_kept f n d (Proj j t) k l = cc (over_kept f n d t k l)
  over_kept f n d (Meta j ts) k l = cc (over_all_kept f n d ts k l)

  over_all_kept : (f : ℕ → ℕ → Term) (n d : ℕ) (ts : Terms) → Keeps f n → reach_all ts ≤ d + n → over_all f d ts ≡ ts
  over_all_kept f n d End k l = refl
  over_all_kept f n d (And t ts) k l = cc (over_kept f n d t k (omega arith), over_all_kept f n d ts k (omega arith))

-- ---- lists of facts

module _ {A : Type 0} (P : A → Type 0) where
  all_first : (xs ys : List A) → AllByRecursion P (xs ++ ys) → AllByRecursion P xs
  all_first [] ys h = tt
  all_first (x ∷ xs) ys h = (h.0, all_first xs ys h.1)

  pub all_append : (xs ys : List A) → AllByRecursion P xs → AllByRecursion P ys → AllByRecursion P (xs ++ ys)
  all_append [] ys h k = k
  all_append (x ∷ xs) ys h k = (h.0, all_append xs ys h.1 k)

  pub all_last : (xs : List A) (y : A) → AllByRecursion P (xs ++ y ∷ []) → P y
  all_last [] y h = h.0
  all_last (x ∷ xs) y h = all_last xs y h.1

pub three-pushes : {A : Type 0} (xs ys zs us : List A) (a b c : A) → ys ≡ xs ++ a ∷ [] → zs ≡ ys ++ b ∷ [] → us ≡ zs ++ c ∷ [] → us ≡ xs ++ a ∷ b ∷ c ∷ []
three-pushes xs ys zs us a b c h k l = l ∙ rw (k, h) (simp append_assoc)

-- ---- tables

IsSome-is : {A : Type 0} (o : Option A) (x : A) → o ≡ Some x → IsSome o
IsSome-is o x e = rw e refl

pub None-not-some : {A : Type 0} (o : Option A) → o ≡ None → IsSome o → ⊥
None-not-some o e h = cc

pub Puts-Has : {m n : Results} {t d r : ℕ} → Puts m t d r n → Has n t d
Puts-Has {m} {n} {t} {d} {r} h = IsSome-is (found n t d) r h.here

pub Puts-grows : {m n : Results} {t d r : ℕ} → Puts m t d r n → (i j : ℕ) → Has m i j → Has n i j
Puts-grows {m} {n} {t} {d} {r} h i j k = ⊎_elim (λ e. subst IsSome (sym e) k) (λ e. IsSome-is (found n i j) r e.2) (h.elsewhere i j)

-- a result that stands for what the change makes may be put into the table
Puts-Fits : {f : ℕ → ℕ → Term} {m n : Results} {p q : Pool} {t d r : ℕ} → Extends p q → Fits f m p → t < length p.trees → StandsFor q r (over f d (tree p t)) → Puts m t d r n → Fits f n q
Puts-Fits {f} {m} {n} {p} {q} {t} {d} {r} g k l s u = record {
  at = λ i j x e. ⊎_elim
      (λ same. old i j x (k.at i j x (sym same ∙ e)))
      (λ new. let r-is : r ≡ x = cc (new.2, e) in
      subst (λ i. (i < length q.trees) × StandsFor q x (over f j (tree q i))) (sym new.0)
      (subst (λ j. (t < length q.trees) × StandsFor q x (over f j (tree q t))) (sym new.1)
      (subst (λ x. (t < length q.trees) × StandsFor q x (over f d (tree q t))) r-is
      (omega (arith, Extends-length g), subst (λ u. StandsFor q r (over f d u)) (sym (Extends-tree t g l)) s))))
      (u.elsewhere i j);
}
  where
    old : (i j x : ℕ) → (i < length p.trees) × StandsFor p x (over f j (tree p i)) → (i < length q.trees) × StandsFor q x (over f j (tree q i))
    old i j x a = (omega (arith, Extends-length g, a.0), subst (λ u. StandsFor q x (over f j u)) (sym (Extends-tree i g a.0)) (Extends-StandsFor g a.1))

-- a result stands for what the change makes of the term as it was
pub result_there : (f : ℕ → ℕ → Term) (p q : Pool) (m : Results) (t d r : ℕ) → Extends p q → Fits f m q → t < length p.trees → found m t d ≡ Some r → StandsFor q r (over f d (tree p t))
result_there f p q m t d r g fits l e = subst (λ u. StandsFor q r (over f d u)) (Extends-tree t g l) (fits.at t d r e).1

-- ---- tasks as the pool grows

Joins-stays : {p q : Pool} {t d : ℕ} {n : Node} {a b e : ℕ} → Extends p q → Joins p t d n a b e → Joins q t d n a b e
Joins-stays {p} {q} {t} {d} {n} {a} {b} {e} g h =
    let same : (i : ℕ) → i < t → tree p i ≡ tree q i = λ i l. sym (Extends-tree i g (omega (arith, l, h.within))) in
    record {
      within = omega (arith, Extends-length g, h.within);
      below = Below-same (tree p) (tree q) t same n h.below;
      is = Extends-tree t g h.within ∙ (h.is ∙ node_tree-same (tree p) (tree q) t same n h.below);
      binds = h.binds;
      parts = h.parts;
      under = h.under;
    }

IsTask-stays : {p q : Pool} (w : Task) → Extends p q → IsTask p w → IsTask q w
IsTask-stays {p} {q} (Make t d) g h = omega (arith, Extends-length g, h)
IsTask-stays {p} {q} (Join t d n a b e) g h = Joins-stays g h

tasks-stay : {p q : Pool} (ws : List Task) → Extends p q → AllByRecursion (IsTask p) ws → AllByRecursion (IsTask q) ws
tasks-stay {p} {q} [] g h = tt
tasks-stay {p} {q} (w ∷ ws) g h = (IsTask-stays w g h.0, tasks-stay ws g h.1)

weight-pos : (w : Task) → 0 < weight w
weight-pos (Make t d) = turns-pos t
weight-pos (Join t d n a b e) = omega arith

weigh-append : (ws vs : List Task) → weigh (ws ++ vs) ≡ weigh ws + weigh vs
weigh-append [] vs = omega arith
weigh-append (w ∷ ws) vs = omega (arith, weigh-append ws vs)

-- ---- what comes

module _ (m n : Results) (grows : (i j : ℕ) → Has m i j → Has n i j) where
  Comes-grows : (ws : List Task) (t d : ℕ) → Comes m ws t d → Comes n ws t d
  Comes-grows [] t d h = grows t d h
  Comes-grows (w ∷ ws) t d h = ⊎_elim (λ e. inl e) (λ k. inr (Comes-grows ws t d k)) h

  PartsCome-grows : (ws : List Task) (w : Task) → PartsCome m ws w → PartsCome n ws w
  PartsCome-grows ws (Make t d) h = tt
  PartsCome-grows ws (Join t d x a b e) h = (Comes-grows ws a d h.0, Comes-grows ws b e h.1)

  AllPartsCome-grows : (ws : List Task) → AllPartsCome m ws → AllPartsCome n ws
  AllPartsCome-grows [] h = tt
  AllPartsCome-grows (w ∷ ws) h = (PartsCome-grows ws w h.0, AllPartsCome-grows ws h.1)

-- a task whose result is there may go
module _ (m : Results) (w : Task) (done : Has m (key w).0 (key w).1) where
  Comes-drop : (ws : List Task) (t d : ℕ) → Comes m (ws ++ w ∷ []) t d → Comes m ws t d
  Comes-drop [] t d h = ⊎_elim (λ e. subst (λ (k : ℕ × ℕ). Has m k.0 k.1) e done) (λ k. k) h
  Comes-drop (v ∷ ws) t d h = ⊎_elim (λ e. inl e) (λ k. inr (Comes-drop ws t d k)) h

  PartsCome-drop : (ws : List Task) (v : Task) → PartsCome m (ws ++ w ∷ []) v → PartsCome m ws v
  PartsCome-drop ws (Make t d) h = tt
  PartsCome-drop ws (Join t d x a b e) h = (Comes-drop ws a d h.0, Comes-drop ws b e h.1)

  AllPartsCome-drop : (ws : List Task) → AllPartsCome m (ws ++ w ∷ []) → AllPartsCome m ws
  AllPartsCome-drop [] h = tt
  AllPartsCome-drop (v ∷ ws) h = (PartsCome-drop ws v h.0, AllPartsCome-drop ws h.1)

-- a node may wait for its parts
module _ (m : Results) (t d : ℕ) (n : Node) (a b e : ℕ) where
  abbrev opened : List Task
  opened = Join t d n a b e ∷ Make b e ∷ Make a d ∷ []

  Comes-open : (ws : List Task) (i j : ℕ) → Comes m (ws ++ Make t d ∷ []) i j → Comes m (ws ++ opened) i j
  Comes-open [] i j h = ⊎_elim (λ e. inl e) (λ k. inr (inr (inr k))) h
  Comes-open (w ∷ ws) i j h = ⊎_elim (λ e. inl e) (λ k. inr (Comes-open ws i j k)) h

  PartsCome-open : (ws : List Task) (w : Task) → PartsCome m (ws ++ Make t d ∷ []) w → PartsCome m (ws ++ opened) w
  PartsCome-open ws (Make i j) h = tt
  PartsCome-open ws (Join i j x k l o) h = (Comes-open ws k j h.0, Comes-open ws l o h.1)

  AllPartsCome-open : (ws : List Task) → AllPartsCome m (ws ++ Make t d ∷ []) → AllPartsCome m (ws ++ opened)
  AllPartsCome-open [] h = ((inr (inl refl), inl refl), (tt, (tt, tt)))
  AllPartsCome-open (w ∷ ws) h = (PartsCome-open ws w h.0, AllPartsCome-open ws h.1)

  -- a node that is the last to wait has its parts
  pub parts_there : (ws : List Task) → AllPartsCome m (ws ++ Join t d n a b e ∷ []) → Has m a d × Has m b e
  parts_there [] h = h.0
  parts_there (w ∷ ws) h = parts_there ws h.1

-- ---- turns

-- the node with the results of its parts may be added, and stands for what the change makes
module _ (f : ℕ → ℕ → Term) (p : Pool) (m : Results) (t d a b e a' b' : ℕ) (n : Node) (fits : Fits f m p) (h : Joins p t d n a b e) (ka : found m a d ≡ Some a') (kb : found m b e ≡ Some b') where
  first_is : tree p a' ≡ over f d (tree p a)
  first_is = (fits.at a d a' ka).1.is

  second_is : tree p b' ≡ over f (d + h.binds) (tree p b)
  second_is = (fits.at b e b' kb).1.is ∙ ap (λ j. over f j (tree p b)) h.under

  pub below_made : Below (tree p) (length p.trees) (with_two a' b' n)
  below_made = below_with_two (tree p) t a b h.binds f d (tree p) a' b' first_is second_is (length p.trees) (fits.at a d a' ka).1.within (fits.at b e b' kb).1.within n h.parts h.below

  pub made-join : (q : Pool) (r : ℕ) → StandsFor q r (node_tree (tree p) (with_two a' b' n)) → StandsFor q r (over f d (tree p t))
  made-join q r s = subst (StandsFor q r) (over_two (tree p) t a b h.binds f d (tree p) a' b' first_is second_is n h.parts h.below ∙ ap (over f d) (sym h.is)) s

-- what is known of a node that is the last to wait
pub join_state : (f : ℕ → ℕ → Term) (p : Pool) (m : Results) (ws : List Task) (w : Task) (t d : ℕ) (n : Node) (a b e : ℕ) → w ≡ Join t d n a b e → State f p m (ws ++ w ∷ [])
    → Joins p t d n a b e × (Has m a d × Has m b e)
join_state f p m ws w t d n a b e k h =
    let s : State f p m (ws ++ Join t d n a b e ∷ []) = subst (λ v. State f p m (ws ++ v ∷ [])) k h in
    (all_last (IsTask p) ws (Join t d n a b e) s.tasks, parts_there m t d n a b e ws s.parts)

pub made-alone : (f : ℕ → ℕ → Term) (p : Pool) (t d : ℕ) (n : Node) → t < length p.trees → tree p t ≡ node_tree (tree p) n → parts_of n ≡ Alone → StandsFor p t (over f d (tree p t))
made-alone f p t d n l is e = record { within = l; is = is ∙ sym (over_alone (tree p) f d n e) ∙ ap (over f d) (sym is) }

pub made-variable : (f : ℕ → ℕ → Term) (p q : Pool) (t d i r : ℕ) (n : Node) → tree p t ≡ node_tree (tree p) n → parts_of n ≡ Variable i → StandsFor q r (f d i) → StandsFor q r (over f d (tree p t))
made-variable f p q t d i r n is e s = subst (λ u. StandsFor q r (over f d u)) (sym (is ∙ variable_tree (tree p) n i e)) s

-- a term that reaches no variable that the change concerns
pub made-kept : (f : ℕ → ℕ → Term) (n : ℕ) (p : Pool) (t d : ℕ) → t < length p.trees → Keeps f n → reach (tree p t) ≤ d + n → StandsFor p t (over f d (tree p t))
made-kept f n p t d l k r = record { within = l; is = sym (over_kept f n d (tree p t) k r) }

-- the last task goes
module _ (f : ℕ → ℕ → Term) (p : Pool) (m : Results) (ws : List Task) (w : Task) (h : State f p m (ws ++ w ∷ [])) where
  dropped : (q : Pool) (n : Results) → Extends p q → ((i j : ℕ) → Has m i j → Has n i j) → Fits f n q → Has n (key w).0 (key w).1 → Turn f p m (ws ++ w ∷ []) q n ws
  dropped q n g grows fits done =
      let first : AllByRecursion (IsTask p) ws = all_first (IsTask p) ws (w ∷ []) h.tasks in
      record {
        state = record {
          fits = fits;
          tasks = tasks-stay ws g first;
          parts = AllPartsCome-drop n w done ws (AllPartsCome-grows m n grows (ws ++ w ∷ []) h.parts);
        };
        comes = λ t d k. Comes-drop n w done ws t d (Comes-grows m n grows (ws ++ w ∷ []) t d k);
        less = omega (arith, weigh-append ws (w ∷ []), weight-pos w);
      }

  pub found-turn : Has m (key w).0 (key w).1 → Turn f p m (ws ++ w ∷ []) p m ws
  found-turn done = dropped p m (Extends-refl p) (λ i j k. k) h.fits done

  pub put-turn : (q : Pool) (n : Results) (t d r : ℕ) → key w ≡ (t, d) → Extends p q → t < length p.trees → StandsFor q r (over f d (tree p t)) → Puts m t d r n → Turn f p m (ws ++ w ∷ []) q n ws
  put-turn q n t d r e g l s u =
      dropped q n g (Puts-grows u) (Puts-Fits g h.fits l s u) (subst (λ (k : ℕ × ℕ). Has n k.0 k.1) (sym e) (Puts-Has u))

pub open-turn : (f : ℕ → ℕ → Term) (p : Pool) (m : Results) (ws : List Task) (t d : ℕ) (n : Node) (a b e k : ℕ) → State f p m (ws ++ Make t d ∷ []) → Below (tree p) t n → tree p t ≡ node_tree (tree p) n
    → parts_of n ≡ Two a b k → e ≡ d + k → Turn f p m (ws ++ Make t d ∷ []) p m (ws ++ opened m t d n a b e)
open-turn f p m ws t d n a b e k h below is parts under =
    let l : t < length p.trees = all_last (IsTask p) ws (Make t d) h.tasks in
    let two = below_two (tree p) t a b k n parts below in
    let join : Joins p t d n a b e = record { within = l; below = below; is = is; binds = k; parts = parts; under = under } in
    record {
      state = record {
        fits = h.fits;
        tasks = all_append (IsTask p) ws (opened m t d n a b e) (all_first (IsTask p) ws (Make t d ∷ []) h.tasks) (join, (omega (arith, two.1), (omega (arith, two.0), tt)));
        parts = AllPartsCome-open m t d n a b e ws h.parts;
      };
      comes = λ i j c. Comes-open m t d n a b e ws i j c;
      less = omega (arith, weigh-append ws (Make t d ∷ []), weigh-append ws (opened m t d n a b e), turns_two a b t two.0 two.1);
    }
