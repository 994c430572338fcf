-- With acyclic solutions each term has its head form within the fuel, or makes more steps than the fuel.
use Rattle.std.specs.Prelude.{◌≡◌, ◌⊎◌, ℕ, ◌+◌, ◌-◌, ◌<◌, ◌≤◌, Bool, true, false, List, [], ◌∷◌, refl, Option, Some, None, zero, suc}
use Rattle.std.specs.Option.{option_map_or}
use Rattle.std.proofs.Common.{sym, arith, subst as transport, inl, inr}
use Rattle.core_rules.specs.declared.Flag.{Flag}
use Rattle.core_rules.specs.Term.{Term, Terms, Var, Sort, Pi, Lam, App, Def, Fam, Con, Proj, Meta}
use Rattle.core_rules.specs.Substitution.{subst, under, value_at}
use Rattle.core_rules.specs.Signature.{Branch, Tree, Leaf, Intro, Cosplit, Split, RecordSplit, Absurd, ConBranches, co_branch, Signature, tree_of}
use Rattle.core_rules.specs.Elimination.{Elim, Arg, Field, elims, projections}
use Rattle.core_rules.specs.Run.{spread, kept}
use Rattle.core_rules.specs.InScope.{IsAcyclic}
use Rattle.core_rules.specs.Heads.{Solutions, Answer, Form, Blocked, Taken, taken, Choice, Enters, Stays, Waits, choice, Heads, form, argument, projection, beta, project, unsolved, call, Follows, leaf, intro, cosplit, split, record_split, stuck, After, enters, stays, waits}
use Rattle.core_rules.specs.Bounded.{same_flag}
use Rattle.core_rules.specs.Steps as M
use Rattle.core_rules.specs.Steps.{Makes, MakesIn}
use Rattle.core_rules.specs.Bounded.{full}
use Rattle.core_rules.proofs.Heads.Next.{same_flag-true, same_flag-false}
use Rattle.core_rules.proofs.Heads.Sound.{entered, by_full_con}
use Rattle.core_rules.proofs.Heads.Resolve.{NotSolved, resolve}
use Rattle.core_rules.proofs.Heads.FullSolutions.{full_is_full}
use Rattle.core_rules.proofs.Heads.Weight.{tree_size, con_size, co_branch_size, con_branch_size, weight, full_weight, spine_weight, at_spine, Light, light_value, light_more, light_spread, light_kept, light_projections, total, light_total, form_args, heads_bare, no_heavier}

module _ (g : Signature Term) (s : Solutions) (a : IsAcyclic s) where
  abbrev F : Solutions
  F = full s a

  -- an answer within the fuel, or more steps
  abbrev EndsTerm : ℕ → Term → List Elim → Type 0
  EndsTerm fuel t es = ((w : Answer) × (n : ℕ) × Heads g s t es w n × (n ≤ fuel)) ⊎ Makes g s t es (suc fuel)

  abbrev EndsTree : ℕ → Term → List Elim → Tree Term → List Term → List Elim → Type 0
  EndsTree fuel h all T r es = ((w : Answer) × (n : ℕ) × Follows g s h all T r es w n × (n ≤ fuel)) ⊎ MakesIn g s T r es (suc fuel)

  -- with this fuel, at every term and tree
  record EndsWith (fuel : ℕ) : Type 0 where
    term : (t : Term) (es : List Elim) → EndsTerm fuel t es
    tree : (h : Term) (all : List Elim) (T : Tree Term) (r : List Term) (es : List Elim) → EndsTree fuel h all T r es

  -- with this fuel, at every term and tree of a weight below n
  record EndsBelow (fuel n : ℕ) : Type 0 where
    term : (t : Term) (es : List Elim) → at_spine g F t es < n → EndsTerm fuel t es
    tree : (h : Term) (all : List Elim) (T : Tree Term) (r : List Term) (es : List Elim) (b : ℕ) → Light g F b r → spine_weight g F es ≤ b → b + tree_size T < n → EndsTree fuel h all T r es

  -- one step more
  step_term : (fuel : ℕ) → ((k : ℕ) → k < fuel → EndsWith k) → (t u : Term) (es ds : List Elim) → ((w : Answer) (n : ℕ) → Heads g s u ds w n → Heads g s t es w (suc n)) → ((n : ℕ) → Makes g s u ds n → Makes g s t es (suc n)) → EndsTerm fuel t es
  step_term zero rec t u es ds x y = inr (y 0 M.none)
  step_term (suc fuel) rec t u es ds x y = by_rest ((rec fuel (omega arith)).term u ds)
    where
      by_rest : EndsTerm fuel u ds → EndsTerm (suc fuel) t es
      by_rest (inl h) = inl (h.0, suc h.1, x h.0 h.1 h.2, let l = h.3 in omega (arith, l))
      by_rest (inr m) = inr (y (suc fuel) m)

  step_leaf : (fuel : ℕ) → ((k : ℕ) → k < fuel → EndsWith k) → (h : Term) (all : List Elim) (t : Term) (i : ℕ) (r : List Term) (es : List Elim) → EndsTree fuel h all (Leaf t i) r es
  step_leaf zero rec h all t i r es = inr (M.leaf M.none)
  step_leaf (suc fuel) rec h all t i r es = by_rest ((rec fuel (omega arith)).term (under r t) es)
    where
      by_rest : EndsTerm fuel (under r t) es → EndsTree (suc fuel) h all (Leaf t i) r es
      by_rest (inl x) = inl (x.0, suc x.1, leaf x.2, let l = x.3 in omega (arith, l))
      by_rest (inr m) = inr (M.leaf m)

  -- a move that takes no step
  same_term : (fuel : ℕ) (t u : Term) (es ds : List Elim) → ((w : Answer) (n : ℕ) → Heads g s u ds w n → Heads g s t es w n) → ((n : ℕ) → Makes g s u ds n → Makes g s t es n) → EndsTerm fuel u ds → EndsTerm fuel t es
  same_term fuel t u es ds x y (inl h) = inl (h.0, h.1, x h.0 h.1 h.2, h.3)
  same_term fuel t u es ds x y (inr m) = inr (y (suc fuel) m)

  same_tree : (fuel : ℕ) (h : Term) (all : List Elim) (T S : Tree Term) (r q : List Term) (es ds : List Elim) → ((w : Answer) (n : ℕ) → Follows g s h all S q ds w n → Follows g s h all T r es w n) → ((n : ℕ) → MakesIn g s S q ds n → MakesIn g s T r es n) → EndsTree fuel h all S q ds → EndsTree fuel h all T r es
  same_tree fuel h all T S r q es ds x y (inl e) = inl (e.0, e.1, x e.0 e.1 e.2, e.3)
  same_tree fuel h all T S r q es ds x y (inr m) = inr (y (suc fuel) m)

  ended : (fuel : ℕ) (t : Term) (es : List Elim) (w : Answer) → Heads g s t es w 0 → EndsTerm fuel t es
  ended fuel t es w d = inl (w, 0, d, omega arith)

  stayed : (fuel : ℕ) (h : Term) (all : List Elim) (T : Tree Term) (r : List Term) (es : List Elim) → Follows g s h all T r es (Form h all) 0 → EndsTree fuel h all T r es
  stayed fuel h all T r es d = inl (Form h all, 0, d, omega arith)

  module _ (fuel : ℕ) (rec : (k : ℕ) → k < fuel → EndsWith k) (n : ℕ) (low : EndsBelow fuel n) where
    at_lambda : (b : Flag) (x : ℕ) (c : Term) (t : Term) (d : Flag) (u : Term) (es : List Elim) (o : Bool) → same_flag b d ≡ o → EndsTerm fuel (Lam b x c t) (Arg d u ∷ es)
    at_lambda b x c t d u es true e = step_term fuel rec (Lam b x c t) (subst t 0 u) (Arg d u ∷ es) es (λ w n h. beta (same_flag-true b d e) h) (λ n m. M.beta (same_flag-true b d e) m)
    at_lambda b x c t d u es false e = ended fuel (Lam b x c t) (Arg d u ∷ es) (Form (Lam b x c t) (Arg d u ∷ es)) (form (same_flag-false b d e))

    at_con : (k : ℕ) (ps : Terms) (es : List Elim) (o : Option Taken) → taken g k [] es ≡ o → EndsTerm fuel (Con k ps) es
    at_con k ps es None e = ended fuel (Con k ps) es (Form (Con k ps) es) (form e)
    at_con k ps es (Some p) e = step_term fuel rec (Con k ps) p.value es p.rest (λ w n h. project e h) (λ n m. M.project e m)

    at_def : (i : ℕ) (es : List Elim) (o : Option (Tree Term)) → tree_of g i ≡ o → 1 + option_map_or tree_size o 0 + spine_weight g F es ≤ n → EndsTerm fuel (Def i) es
    at_def i es None e h = ended fuel (Def i) es (Form (Def i) es) (form e)
    at_def i es (Some T) e h = by_tree (low.tree (Def i) es T [] es (spine_weight g F es) tt (omega arith) (omega (arith, h)))
      where
        by_tree : EndsTree fuel (Def i) es T [] es → EndsTerm fuel (Def i) es
        by_tree (inl x) = inl (x.0, x.1, call e x.2, x.3)
        by_tree (inr m) = inr (M.call e m)

    at_term : (t : Term) (es : List Elim) → NotSolved s t → at_spine g F t es ≤ n → EndsTerm fuel t es
    at_term (Var i) es p h = ended fuel (Var i) es (Form (Var i) es) (form tt)
    at_term (Sort i) es p h = ended fuel (Sort i) es (Form (Sort i) es) (form tt)
    at_term (Pi b x c t) es p h = ended fuel (Pi b x c t) es (Form (Pi b x c t) es) (form tt)
    at_term (Lam b x c t) [] p h = ended fuel (Lam b x c t) [] (Form (Lam b x c t) []) (form tt)
    at_term (Lam b x c t) (Arg d u ∷ es) p h = at_lambda b x c t d u es (same_flag b d) refl
    at_term (Lam b x c t) (Field i ∷ es) p h = ended fuel (Lam b x c t) (Field i ∷ es) (Form (Lam b x c t) (Field i ∷ es)) (form tt)
    at_term (App b t u) es p h = same_term fuel (App b t u) t es (Arg b u ∷ es) (λ w n d. argument d) (λ n m. M.argument m) (low.term t (Arg b u ∷ es) (omega (arith, h)))
    at_term (Def i) es p h = at_def i es (tree_of g i) refl h
    at_term (Fam d) es p h = ended fuel (Fam d) es (Form (Fam d) es) (form tt)
    at_term (Con k ps) es p h = at_con k ps es (taken g k [] es) refl
    at_term (Proj i t) es p h = same_term fuel (Proj i t) t es (Field i ∷ es) (λ w n d. projection d) (λ n m. M.projection m) (low.term t (Field i ∷ es) (omega (arith, h)))
    at_term (Meta m ts) es p h = ended fuel (Meta m ts) es (Blocked m (Meta m ts) es) (unsolved p)

    any_term : (t : Term) (es : List Elim) → at_spine g F t es ≤ n → EndsTerm fuel t es
    any_term t es h =
        let r = resolve g s F (full_is_full s a) a t in
        same_term fuel t r.term es es (λ w n d. r.heads es w n d) (λ n m. r.makes es n m)
        (at_term r.term es r.not_solved (transport (λ u. weight g u + spine_weight g F es ≤ n) (sym r.same) h))

    -- a split whose value has its head form
    module _ (h : Term) (all : List Elim) (k : ℕ) (bs : ConBranches Term) (r : List Term) (es : List Elim) (b : ℕ) (p : Light g F b r) (q : spine_weight g F es ≤ b) (l : b + con_size bs < n) where
      go_on : (v : Answer) (m : ℕ) → Heads g s (value_at r k) [] v m → (c : Branch Term) (T : Tree Term) (us : List Term) → choice g bs v ≡ Enters c T us → (j : ℕ) → m + j ≡ fuel → EndsTree j h all T (kept c (spread k us r)) es → EndsTree fuel h all (Split k bs) r es
      go_on v m d c T us e j o (inl x) =
          inl (x.0, m + x.1, split d (transport (λ z. After g s h all k r es z x.0 x.1) (sym e) (enters x.2)), let y = x.3 in omega (arith, o, y))
      go_on v m d c T us e j o (inr x) = inr (transport (MakesIn g s (Split k bs) r es) (omega (arith, o)) (M.branch d e x))

      -- the value took no step, and its arguments weigh no more than it
      at_once : (v : Answer) → Heads g s (value_at r k) [] v 0 → (c : Branch Term) (T : Tree Term) (us : List Term) → choice g bs v ≡ Enters c T us → EndsTree fuel h all (Split k bs) r es
      at_once (Blocked m h' ds) d c T us e = absurd cc
      at_once (Form h' ds) d c T us e =
          let y = entered g bs (Form h' ds) c T us e in
          let heavy = no_heavier g F s (full_is_full s a) d refl in
          let value : full_weight g F (value_at r k) ≤ b = light_value g F b k r p in
          let args = form_args g F b h' ds y.con (heads_bare g F d) (omega (arith, heavy, value)) (by_full_con g (elims h' ds) y.con y.full).0 in
          let env = light_kept g F b c (spread k us r) (light_spread g F b k us r (transport (Light g F b) y.is args) p) in
          let size = con_branch_size bs y.con.con c T y.branch in
          go_on (Form h' ds) 0 d c T us e fuel (omega arith) (low.tree h all T (kept c (spread k us r)) es b env q (omega (arith, size, l)))

      by_choice : (v : Answer) (m : ℕ) → Heads g s (value_at r k) [] v m → m ≤ fuel → (o : Choice) → choice g bs v ≡ o → EndsTree fuel h all (Split k bs) r es
      by_choice v m d i Stays e = inl (Form h all, m + 0, split d (transport (λ z. After g s h all k r es z (Form h all) 0) (sym e) stays), omega (arith, i))
      by_choice v m d i (Waits j) e = inl (Blocked j h all, m + 0, split d (transport (λ z. After g s h all k r es z (Blocked j h all) 0) (sym e) waits), omega (arith, i))
      by_choice v zero d i (Enters c T us) e = at_once v d c T us e
      by_choice v (suc m) d i (Enters c T us) e = go_on v (suc m) d c T us e (fuel - suc m) (omega (arith, i)) ((rec (fuel - suc m) (omega (arith, i))).tree h all T (kept c (spread k us r)) es)

      by_value : EndsTerm fuel (value_at r k) [] → EndsTree fuel h all (Split k bs) r es
      by_value (inl x) = by_choice x.0 x.1 x.2 x.3 (choice g bs x.0) refl
      by_value (inr m) = inr (M.value m)

    any_tree : (h : Term) (all : List Elim) (T : Tree Term) (r : List Term) (es : List Elim) (b : ℕ) → Light g F b r → spine_weight g F es ≤ b → b + tree_size T ≤ n → EndsTree fuel h all T r es
    any_tree h all (Leaf t i) r es b p q l = step_leaf fuel rec h all t i r es
    any_tree h all (Intro T) r [] b p q l = stayed fuel h all (Intro T) r [] (stuck tt)
    any_tree h all (Intro T) r (Arg c u ∷ es) b p q l =
        same_tree fuel h all (Intro T) T r (u ∷ r) (Arg c u ∷ es) es (λ w n d. intro d) (λ n m. M.intro m) (low.tree h all T (u ∷ r) es b (omega (arith, q), p) (omega (arith, q)) (omega (arith, l)))
    any_tree h all (Intro T) r (Field i ∷ es) b p q l = stayed fuel h all (Intro T) r (Field i ∷ es) (stuck tt)
    any_tree h all (Cosplit bs) r [] b p q l = stayed fuel h all (Cosplit bs) r [] (stuck tt)
    any_tree h all (Cosplit bs) r (Arg c u ∷ es) b p q l = stayed fuel h all (Cosplit bs) r (Arg c u ∷ es) (stuck tt)
    any_tree h all (Cosplit bs) r (Field i ∷ es) b p q l = by_branch (co_branch bs i) refl
      where
        by_branch : (o : Option (Tree Term)) → co_branch bs i ≡ o → EndsTree fuel h all (Cosplit bs) r (Field i ∷ es)
        by_branch None e = stayed fuel h all (Cosplit bs) r (Field i ∷ es) (stuck e)
        by_branch (Some T) e =
            let size = co_branch_size bs i T e in
            same_tree fuel h all (Cosplit bs) T r r (Field i ∷ es) es (λ w n d. cosplit e d) (λ n m. M.cosplit e m) (low.tree h all T r es b p (omega (arith, q)) (omega (arith, l, size)))
    any_tree h all (Split k bs) r es b p q l =
        let value : full_weight g F (value_at r k) ≤ b = light_value g F b k r p in
        by_value h all k bs r es b p q (omega (arith, l)) (low.term (value_at r k) [] (omega (arith, l, value)))
    any_tree h all (RecordSplit k d T) r es b p q l =
        let value : full_weight g F (value_at r k) ≤ b = light_value g F b k r p in
        let us = projections g d (value_at r k) in
        same_tree fuel h all (RecordSplit k d T) T r (spread k us r) es es (λ w n d. record_split d) (λ n m. M.record_split m)
        (low.tree h all T (spread k us r) es (b + 2) (light_spread g F (b + 2) k us r (light_projections g F b d (value_at r k) value) (light_more g F b (b + 2) (omega arith) r p)) (omega (arith, q)) (omega (arith, l)))
    any_tree h all (Absurd k) r es b p q l = stayed fuel h all (Absurd k) r es (stuck tt)

  module _ (fuel : ℕ) (rec : (k : ℕ) → k < fuel → EndsWith k) where
    every_weight : (n : ℕ) → EndsBelow fuel n
    every_weight zero = record { term = λ t es h. absurd (omega (arith, h)); tree = λ h all T r es b p q l. absurd (omega (arith, l)) }
    every_weight (suc n) = record {
      term = λ t es h. any_term fuel rec n (every_weight n) t es (omega (arith, h));
      tree = λ h all T r es b p q l. any_tree fuel rec n (every_weight n) h all T r es b p q (omega (arith, l));
    }

    this_fuel : EndsWith fuel
    this_fuel = record {
      term = λ t es. (every_weight (suc (at_spine g F t es))).term t es (omega arith);
      tree = λ h all T r es.
          let b = total g F r + spine_weight g F es in
          (every_weight (suc (b + tree_size T))).tree h all T r es b (light_more g F (total g F r) b (omega arith) r (light_total g F r)) (omega arith) (omega arith);
    }

  fuels : (k fuel : ℕ) → fuel < k → EndsWith fuel
  fuels zero fuel h = absurd (omega (arith, h))
  fuels (suc k) fuel h = this_fuel fuel (λ j i. fuels k j (omega (arith, h, i)))

  pub ends : (fuel : ℕ) (t : Term) (es : List Elim) → EndsTerm fuel t es
  ends fuel t es = (fuels (suc fuel) fuel (omega arith)).term t es
