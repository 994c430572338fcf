-- Variables that wait for their place in a branch, by marks, and the order in which they are placed.
use Rattle.std.specs.Prelude.{◌≡◌, ◌≢◌, ℕ, ◌+◌, ◌-◌, ◌<◌, ◌≤◌, Bool, true, false, ◌&&◌, not, eqb, cond, List, [], ◌∷◌, ◌++◌, length, map, reverse, set, Option, Some, None, option_map, is_some, refl, zero, suc}
use Rattle.std.specs.List.{AllByRecursion}
use mathlib.Core.List.{reverse_aux}
use Rattle.std.proofs.Common.{sym, ap, ap₂, ◌∙◌, subst, arith, eqb-true, get_or-set_other, get_or-set_same, length-append}
use Rattle.std.proofs.lemmas.Grind.{common_steps}
use Rattle.std.proofs.lemmas.List.{append_assoc}
use Rattle.el_base.proofs.Lists.{reverse_push}
use Rattle.core_rules.specs.Term.{Term, Sort, occurs}
use Rattle.core_rules.specs.Substitution.{value_at}
use Rattle.core_rules.specs.Unification as U
use Rattle.core_rules.specs.Unification.{Depends, stands, through}
use Rattle.unify_rules.specs.Joined.{value_of, where_none, unsolved, without, has_none, first_ready, reverse_onto, order}
use Rattle.term_pool.specs.Pool.{Pool, tree}
use Rattle.index_unify.specs.declared.equation.Solution.{Solution}
use Rattle.index_unify.specs.Dependence.{DependsOn}
use Rattle.index_unify.specs.Order.{marked, waiting}
use Rattle.index_unify.specs.State.{solution_in, solutions_of}

-- ---- marks

marked_push : (ws : List Bool) (b : Bool) (n : ℕ) → n < length ws → marked (ws ++ b ∷ []) n ≡ marked ws n
marked_push [] b n l = absurd (omega arith)
marked_push (w ∷ ws) b zero l = refl
marked_push (w ∷ ws) b (suc n) l = marked_push ws b n (omega arith)

marked_last : (ws : List Bool) (b : Bool) → marked (ws ++ b ∷ []) (length ws) ≡ b
marked_last [] b = refl
marked_last (w ∷ ws) b = marked_last ws b

waiting_push : (ws : List Bool) (b : Bool) (n : ℕ) → n ≤ length ws → waiting (ws ++ b ∷ []) n ≡ waiting ws n
waiting_push ws b zero l = refl
waiting_push ws b (suc n) l = ap₂ (λ m r. cond m (n ∷ r) r) (marked_push ws b n (omega arith)) (waiting_push ws b n (omega arith))

abbrev pub none : {A : Type 0} → Option A → Bool
none None = true
none (Some a) = false

where_is : (o : Option Term) (n : ℕ) (r : List ℕ) → cond (none o) (n ∷ r) r ≡ where_none o n r
where_is None n r = refl
where_is (Some t) n r = refl

pub unsolved_next : (ss : List U.Solution) (ws vs : List Bool) (n : ℕ) (b : Bool) → length ws ≡ n → vs ≡ ws ++ b ∷ [] → b ≡ none (value_of ss n) → waiting ws n ≡ unsolved ss n → waiting vs (n + 1) ≡ unsolved ss (n + 1)
unsolved_next ss ws vs n b l e h w =
    let s : n + 1 ≡ suc n = omega arith in
    let m : marked (ws ++ b ∷ []) n ≡ none (value_of ss n) = ap (marked (ws ++ b ∷ [])) (sym l) ∙ (marked_last ws b ∙ h) in
    let r : waiting (ws ++ b ∷ []) n ≡ unsolved ss n = waiting_push ws b n (omega arith) ∙ w in
    subst (λ k. waiting vs k ≡ unsolved ss k) (sym s)
    (ap (λ zs. waiting zs (suc n)) e ∙ (ap₂ (λ m r. cond m (n ∷ r) r) m r ∙ where_is (value_of ss n) n (unsolved ss n)))

-- ---- one is placed

same_or : (m : Bool) (n v : ℕ) (r s : List ℕ) → eqb n v ≡ true → r ≡ without v s → r ≡ without v (cond m (n ∷ s) s)
same_or true n v r s e h = h ∙ ap (λ b. cond b (without v s) (n ∷ without v s)) (sym e)
same_or false n v r s e h = h

other_or : (m : Bool) (n v : ℕ) (r s : List ℕ) → eqb n v ≡ false → r ≡ without v s → cond m (n ∷ r) r ≡ without v (cond m (n ∷ s) s)
other_or true n v r s e h = ap (λ r. n ∷ r) h ∙ ap (λ b. cond b (without v s) (n ∷ without v s)) (sym e)
other_or false n v r s e h = h

refl_eqb : (n v : ℕ) → n ≡ v → eqb n v ≡ true
refl_eqb n v q = grind (arith, common_steps)

next_without : (ws : List Bool) (v n : ℕ) (b : Bool) → v < length ws → eqb n v ≡ b → waiting (set ws v false) n ≡ without v (waiting ws n) → waiting (set ws v false) (suc n) ≡ without v (waiting ws (suc n))
next_without ws v n true l e h =
    let i : n ≡ v = eqb-true n v e in
    let m : marked (set ws v false) n ≡ false = ap (marked (set ws v false)) i ∙ get_or-set_same ws v false false l in
    ap (λ m. cond m (n ∷ waiting (set ws v false) n) (waiting (set ws v false) n)) m ∙ same_or (marked ws n) n v (waiting (set ws v false) n) (waiting ws n) e h
next_without ws v n false l e h =
    let i : n ≢ v = λ q. (let c : true ≡ false = sym (refl_eqb n v q) ∙ e in cc c) in
    ap (λ m. cond m (n ∷ waiting (set ws v false) n) (waiting (set ws v false) n)) (get_or-set_other ws v n false false i) ∙ other_or (marked ws n) n v (waiting (set ws v false) n) (waiting ws n) e h

pub waiting_without : (ws : List Bool) (v n : ℕ) → v < length ws → waiting (set ws v false) n ≡ without v (waiting ws n)
waiting_without ws v zero l = refl
waiting_without ws v (suc n) l = next_without ws v n (eqb n v) l refl (waiting_without ws v n l)

-- ---- those that do not wait for another

beyond : (ws : List Bool) (x : ℕ) → marked ws x ≡ true → x < length ws
beyond [] x e = absurd cc
beyond (w ∷ ws) zero e = omega arith
beyond (w ∷ ws) (suc x) e = let l = beyond ws x e in omega (arith, l)

module _ (ws : List Bool) (t : Term) where
  abbrev Waits : Type 0
  Waits = DependsOn [] (λ i. marked ws i) t

  no_sort : {n x : ℕ} → Depends [] (Sort n) x → ⊥
  no_sort (stands o) = absurd cc
  no_sort (through y o d) = absurd cc

  stands_in : {x : ℕ} → Depends [] t x → occurs x t ≡ true
  stands_in (stands o) = o
  stands_in (through y o d) = absurd (no_sort d)

  one_none : (n : ℕ) (m : Bool) (o : Bool) (r : List ℕ) → occurs n t ≡ o → (m ≡ true → o ≡ true → ⊥) → has_none r t ≡ true → has_none (cond m (n ∷ r) r) t ≡ true
  one_none n false o r e h k = k
  one_none n true true r e h k = absurd (h refl refl)
  one_none n true false r e h k = ap (λ b. not b && has_none r t) e ∙ k

  pub ready : (n : ℕ) → (Waits → ⊥) → has_none (waiting ws n) t ≡ true
  ready zero h = refl
  ready (suc n) h = one_none n (marked ws n) (occurs n t) (waiting ws n) refl (λ m o. h (record { var = n; wanted = m; depends = stands o })) (ready n h)

  and_false : (b : Bool) → b && false ≡ false
  and_false true = refl
  and_false false = refl

  further : (n : ℕ) (m : Bool) → has_none (waiting ws n) t ≡ false → has_none (cond m (n ∷ waiting ws n) (waiting ws n)) t ≡ false
  further n false h = h
  further n true h = ap (λ b. not (occurs n t) && b) h ∙ and_false (not (occurs n t))

  at_last : (x n : ℕ) (b : Bool) → eqb x n ≡ b → x < suc n → marked ws x ≡ true → occurs x t ≡ true → (x < n → has_none (waiting ws n) t ≡ false) → has_none (waiting ws (suc n)) t ≡ false
  at_last x n true e l m o h =
      let i : x ≡ n = eqb-true x n e in
      let k : marked ws n ≡ true = subst (λ j. marked ws j ≡ true) i m in
      let p : occurs n t ≡ true = subst (λ j. occurs j t ≡ true) i o in
      ap (λ m. has_none (cond m (n ∷ waiting ws n) (waiting ws n)) t) k ∙ ap (λ b. not b && has_none (waiting ws n) t) p
  at_last x n false e l m o h = let d : x < n = below_other x n e l in further n (marked ws n) (h d)
    where
      below_other : (x n : ℕ) → eqb x n ≡ false → x < suc n → x < n
      below_other x n e l = grind (arith, common_steps)

  not_yet : (x n : ℕ) → x < n → marked ws x ≡ true → occurs x t ≡ true → has_none (waiting ws n) t ≡ false
  not_yet x zero l m o = absurd (omega arith)
  not_yet x (suc n) l m o = at_last x n (eqb x n) refl l m o (λ k. not_yet x n k m o)

  pub not_ready : (n : ℕ) → n ≡ length ws → Waits → has_none (waiting ws n) t ≡ false
  not_ready n e d = not_yet d.var n (let l = beyond ws d.var d.wanted in omega (arith, l, e)) d.wanted (stands_in d.depends)

-- ---- the first of them

module _ (ts : List Term) (w : List ℕ) (ws : List Bool) (n : ℕ) where
  pub not_waiting : marked ws n ≡ false → first_ready ts w (waiting ws (n + 1)) ≡ first_ready ts w (waiting ws n)
  not_waiting m = let s : n + 1 ≡ suc n = omega arith in
      subst (λ k. first_ready ts w (waiting ws k) ≡ first_ready ts w (waiting ws n)) (sym s) (ap (λ m. first_ready ts w (cond m (n ∷ waiting ws n) (waiting ws n))) m)

  at_next : marked ws n ≡ true → first_ready ts w (waiting ws (n + 1)) ≡ cond (has_none w (value_at ts n)) (Some n) (first_ready ts w (waiting ws n))
  at_next m = let s : n + 1 ≡ suc n = omega arith in
      subst (λ k. first_ready ts w (waiting ws k) ≡ cond (has_none w (value_at ts n)) (Some n) (first_ready ts w (waiting ws n))) (sym s) (ap (λ m. first_ready ts w (cond m (n ∷ waiting ws n) (waiting ws n))) m)

  pub waits_on : marked ws n ≡ true → has_none w (value_at ts n) ≡ false → first_ready ts w (waiting ws (n + 1)) ≡ first_ready ts w (waiting ws n)
  waits_on m h = at_next m ∙ ap (λ b. cond b (Some n) (first_ready ts w (waiting ws n))) h

  pub is_ready : marked ws n ≡ true → has_none w (value_at ts n) ≡ true → first_ready ts w (waiting ws (n + 1)) ≡ Some n
  is_ready m h = at_next m ∙ ap (λ b. cond b (Some n) (first_ready ts w (waiting ws n))) h

-- ---- the order

pub order_next : (n m : ℕ) (ts : List Term) (w ks : List ℕ) (i : ℕ) → n ≡ m + 1 → first_ready ts w w ≡ Some i → order n ts w ks ≡ order m ts (without i w) (i ∷ ks)
order_next n m ts w ks i l e = let s : n ≡ suc m = omega arith in ap (λ n. order n ts w ks) s ∙ rw e refl

pub order_stops : (n : ℕ) (ts : List Term) (w ks : List ℕ) → first_ready ts w w ≡ None → order n ts w ks ≡ reverse_onto w ks
order_stops zero ts w ks e = refl
order_stops (suc n) ts w ks e = rw e refl

onto_is : (w ks : List ℕ) → reverse_aux w ks ≡ reverse_onto w ks
onto_is [] ks = refl
onto_is (i ∷ w) ks = onto_is w (i ∷ ks)

reversed_on : (ps w ks : List ℕ) → reverse_aux (ps ++ w) ks ≡ reverse_onto w (reverse_aux ps ks)
reversed_on [] w ks = onto_is w ks
reversed_on (p ∷ ps) w ks = reversed_on ps w (p ∷ ks)

pub placed_last : (ps w : List ℕ) → reverse (ps ++ w) ≡ reverse_onto w (reverse ps)
placed_last ps w = reversed_on ps w []

-- ---- values

pub solutions_push : (p : Pool) (ss : List Solution) (s : Solution) → solutions_of p (ss ++ s ∷ []) ≡ solution_in (tree p) s ∷ solutions_of p ss
solutions_push p ss s = ap (map (solution_in (tree p))) (reverse_push ss s)

-- ---- those that wait are variables of the context

one_below : (n m : ℕ) (b : Bool) (r : List ℕ) → n < m → AllByRecursion (λ i. i < m) r → AllByRecursion (λ i. i < m) (cond b (n ∷ r) r)
one_below n m true r l a = (l, a)
one_below n m false r l a = a

pub waiting_below : (ws : List Bool) (n m : ℕ) → n ≤ m → AllByRecursion (λ i. i < m) (waiting ws n)
waiting_below ws zero m l = tt
waiting_below ws (suc n) m l = one_below n m (marked ws n) (waiting ws n) (omega arith) (waiting_below ws n m (omega arith))

-- ---- those that are left, and the first that is ready, by their marks

pub rest_skips : (ws : List Bool) (ps qs : List ℕ) (n m : ℕ) → m ≡ n + 1 → marked ws n ≡ false → ps ++ waiting ws m ≡ qs → ps ++ waiting ws n ≡ qs
rest_skips ws ps qs n m e f h = let s : m ≡ suc n = omega arith in sym (ap (λ k. ps ++ waiting ws k) s ∙ ap (λ b. ps ++ cond b (n ∷ waiting ws n) (waiting ws n)) f) ∙ h

pub rest_takes : (ws : List Bool) (ps rs qs : List ℕ) (n m : ℕ) → m ≡ n + 1 → marked ws n ≡ true → rs ≡ ps ++ n ∷ [] → ps ++ waiting ws m ≡ qs → rs ++ waiting ws n ≡ qs
rest_takes ws ps rs qs n m e f d h =
    let s : m ≡ suc n = omega arith in
    ap (λ r. r ++ waiting ws n) d ∙ (append_assoc ps (n ∷ []) (waiting ws n) ∙ (sym (ap (λ k. ps ++ waiting ws k) s ∙ ap (λ b. ps ++ cond b (n ∷ waiting ws n) (waiting ws n)) f) ∙ h))

pub rest_done : (ws : List Bool) (ps qs : List ℕ) (n : ℕ) → n ≤ 0 → ps ++ waiting ws n ≡ qs → ps ≡ qs
rest_done ws ps qs n l h = let z : n ≡ 0 = omega arith in sym (nothing ps) ∙ (sym (ap (λ k. ps ++ waiting ws k) z) ∙ h)
  where
    nothing : {X : Type 0} (xs : List X) → xs ++ [] ≡ xs
    nothing [] = refl
    nothing (x ∷ xs) = ap (λ r. x ∷ r) (nothing xs)

pub pushed_length : {X : Type 0} (xs ys : List X) (x : X) (n : ℕ) → ys ≡ xs ++ x ∷ [] → length xs ≡ n → length ys ≡ n + 1
pushed_length xs ys x n e l = ap length e ∙ (length-append xs (x ∷ []) ∙ ap (λ k. k + 1) l)

module _ (ts : List Term) (ws : List Bool) (count n m : ℕ) (r : Option ℕ) (e : m ≡ n + 1) (i : r ≡ first_ready ts (waiting ws count) (waiting ws m)) where
  at_further : r ≡ first_ready ts (waiting ws count) (waiting ws (n + 1))
  at_further = i ∙ ap (λ k. first_ready ts (waiting ws count) (waiting ws k)) e

  pub passes_unmarked : marked ws n ≡ false → r ≡ first_ready ts (waiting ws count) (waiting ws n)
  passes_unmarked f = at_further ∙ not_waiting ts (waiting ws count) ws n f

  pub passes_waiting : count ≡ length ws → marked ws n ≡ true → DependsOn [] (λ i. marked ws i) (value_at ts n) → r ≡ first_ready ts (waiting ws count) (waiting ws n)
  passes_waiting l f d = at_further ∙ waits_on ts (waiting ws count) ws n f (not_ready ws (value_at ts n) count l d)

  pub found_ready : marked ws n ≡ true → (DependsOn [] (λ i. marked ws i) (value_at ts n) → ⊥) → Some n ≡ r
  found_ready f d = sym (at_further ∙ is_ready ts (waiting ws count) ws n f (ready ws (value_at ts n) count d))

-- the last solution is not that of another variable
pub other_value : (p : Pool) (ss : List Solution) (s : Solution) (x : ℕ) → (s.var ≡ x → ⊥) → value_of (solutions_of p (ss ++ s ∷ [])) x ≡ value_of (solutions_of p ss) x
other_value p ss s x n = ap (λ S. value_of S x) (solutions_push p ss s) ∙ by (eqb s.var x) refl
  where
    by : (b : Bool) → eqb s.var x ≡ b → cond b (Some (tree p s.value)) (value_of (solutions_of p ss) x) ≡ value_of (solutions_of p ss) x
    by true e = absurd (n (eqb-true s.var x e))
    by false e = refl

-- whether there is a value, by the id of it
pub none_from : (f : ℕ → Term) (r : Option ℕ) (b : Bool) (o : Option Term) → is_some r ≡ not b → option_map f r ≡ o → b ≡ none o
none_from f None true o h e = ap none e
none_from f None false o h e = absurd cc
none_from f (Some a) true o h e = absurd cc
none_from f (Some a) false o h e = ap none e

-- ---- one turn of placing

module _ (ts : List Term) (ws : List Bool) (ps all : List ℕ) (count turn : ℕ) (h : order (count - turn) ts (waiting ws count) (reverse ps) ≡ all) where
  pub placed_next : (vs : List Bool) (qs : List ℕ) (v : ℕ) → turn < count → v < length ws → Some v ≡ first_ready ts (waiting ws count) (waiting ws count) → vs ≡ set ws v false → qs ≡ ps ++ v ∷ [] → order (count - (turn + 1)) ts (waiting vs count) (reverse qs) ≡ all
  placed_next vs qs v l k f e d =
      let m = count - (turn + 1) in
      let n : count - turn ≡ m + 1 = omega (arith, l) in
      ap₂ (λ ws ps. order m ts (waiting ws count) (reverse ps)) e d
      ∙ (ap₂ (order m ts) (waiting_without ws v count k) (reverse_push ps v) ∙ (sym (order_next (count - turn) m ts (waiting ws count) (reverse ps) v n (sym f)) ∙ h))

  pub placed_stops : None ≡ first_ready ts (waiting ws count) (waiting ws count) → reverse_onto (waiting ws count) (reverse ps) ≡ all
  placed_stops f = sym (order_stops (count - turn) ts (waiting ws count) (reverse ps) (sym f)) ∙ h

  pub placed_all : count - turn ≡ 0 → reverse_onto (waiting ws count) (reverse ps) ≡ all
  placed_all e = ap (λ n. order n ts (waiting ws count) (reverse ps)) (sym e) ∙ h

pub marks_stay : (ws : List Bool) (v n : ℕ) → n ≡ length ws → n ≡ length (set ws v false)
marks_stay ws v n e = grind (arith, common_steps)
