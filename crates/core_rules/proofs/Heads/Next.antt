-- Each term under eliminations, each tree node and each choice has exactly one thing that comes next.
use Rattle.std.proofs.Common.{◌≡◌, ℕ, suc, ◌≢◌, Bool, true, false, cond, List, [], ◌∷◌, Option, Some, None, refl, sym, subst as transport, subst₂, arith}
use Rattle.std.specs.Prelude.{◌↔◌}
use Rattle.core_rules.specs.declared.Flag.{Flag}
use Rattle.core_rules.specs.declared.Flag.TheVariants.{Explicit, Implicit}
use Rattle.core_rules.specs.Term.{Term, Var, Sort, Pi, Lam, App, Def, Fam, Con, Proj, Meta}
use Rattle.core_rules.specs.Substitution.{subst}
use Rattle.core_rules.specs.Signature.{Tree, Leaf, Intro, Cosplit, Split, RecordSplit, Absurd, co_branch, Signature, tree_of}
use Rattle.core_rules.specs.Elimination.{Elim, Arg, Field}
use Rattle.core_rules.specs.Heads.{Solutions, Answer, Form, Blocked, Taken, taken, Choice, Enters, Stays, Waits, IsForm, IsStuck, Heads, form, argument, projection, beta, project, replaced, unsolved, call, Follows, leaf, intro, cosplit, split, record_split, stuck, After, enters, stays, waits}
use Rattle.core_rules.specs.Bounded.{same_flag}
use Rattle.core_rules.specs.BoundedLaws.{Ends, Becomes, at_constructor, at_function, at_metavariable, next, HeadsBy, at_field, next_node, FollowsBy, AfterBy}

pub same_flag-true : (b c : Flag) → same_flag b c ≡ true → b ≡ c
same_flag-true Explicit Explicit e = refl
same_flag-true Implicit Implicit e = refl
same_flag-true Explicit Implicit e = absurd cc
same_flag-true Implicit Explicit e = absurd cc

pub same_flag-refl : (b : Flag) → same_flag b b ≡ true
same_flag-refl Explicit = refl
same_flag-refl Implicit = refl

pub same_flag-false : (b c : Flag) → same_flag b c ≡ false → b ≢ c
same_flag-false b c e h = let x : same_flag b c ≡ true = transport (λ d. same_flag b d ≡ true) h (same_flag-refl b) in let y : ⊥ = cc in y

-- that this answer in this many steps is what comes next
module _ (g : Signature Term) (s : Solutions) where
  form_next : (t : Term) (es : List Elim) → IsForm g t es → HeadsBy g s t es (next g s t es) (Form t es) 0
  form_next (Var i) es p = (refl, refl)
  form_next (Sort n) es p = (refl, refl)
  form_next (Pi b x a t) es p = (refl, refl)
  form_next (Lam b x a t) [] p = (refl, refl)
  form_next (Lam b x a t) (Arg c u ∷ es) p = by_flag (same_flag b c) refl
    where
      by_flag : (o : Bool) → same_flag b c ≡ o → HeadsBy g s (Lam b x a t) (Arg c u ∷ es) (cond o (Becomes 1 (subst t 0 u) es) (Ends (Form (Lam b x a t) (Arg c u ∷ es)))) (Form (Lam b x a t) (Arg c u ∷ es)) 0
      by_flag true e = absurd (p (same_flag-true b c e))
      by_flag false e = (refl, refl)
  form_next (Lam b x a t) (Field f ∷ es) p = (refl, refl)
  form_next (App b t u) es p = absurd p
  form_next (Def f) es p = transport (λ o. HeadsBy g s (Def f) es (at_function (Def f) es o) (Form (Def f) es) 0) (sym p) (refl, refl)
  form_next (Fam d) es p = (refl, refl)
  form_next (Con c ps) es p = transport (λ o. HeadsBy g s (Con c ps) es (at_constructor (Con c ps) es o) (Form (Con c ps) es) 0) (sym p) (refl, refl)
  form_next (Proj f t) es p = absurd p
  form_next (Meta m ts) es p = absurd p

  heads_next : {t : Term} {es : List Elim} {w : Answer} {n : ℕ} → Heads g s t es w n → HeadsBy g s t es (next g s t es) w n
  heads_next {t} {es} (form p) = form_next t es p
  heads_next (argument {n = n} d) = (n, d, omega arith)
  heads_next (projection {n = n} d) = (n, d, omega arith)
  heads_next {w = w} (beta {b = b} {c = c} {x = x} {a = a} {t = t} {u = u} {es = es} {n = n} e d) =
      let f : same_flag b c ≡ true = transport (λ c. same_flag b c ≡ true) e (same_flag-refl b) in
      transport (λ o. HeadsBy g s (Lam b x a t) (Arg c u ∷ es) (cond o (Becomes 1 (subst t 0 u) es) (Ends (Form (Lam b x a t) (Arg c u ∷ es)))) w (suc n)) (sym f) (n, d, omega arith)
  heads_next {w = w} (project {k = k} {ps = ps} {es = es} {n = n} e d) =
      transport (λ o. HeadsBy g s (Con k ps) es (at_constructor (Con k ps) es o) w (suc n)) (sym e) (n, d, omega arith)
  heads_next {w = w} {n = n} (replaced {m = m} {ts = ts} {es = es} e d) =
      transport (λ o. HeadsBy g s (Meta m ts) es (at_metavariable m ts es o) w n) (sym e) (n, d, omega arith)
  heads_next (unsolved {m = m} {ts = ts} {es = es} e) =
      transport (λ o. HeadsBy g s (Meta m ts) es (at_metavariable m ts es o) (Blocked m (Meta m ts) es) 0) (sym e) (refl, refl)
  heads_next {w = w} {n = n} (call {f = f} {es = es} e d) =
      transport (λ o. HeadsBy g s (Def f) es (at_function (Def f) es o) w n) (sym e) d

  one_more : {t : Term} {es : List Elim} {w : Answer} {n m : ℕ} → n ≡ m → Heads g s t es w m → Heads g s t es w n
  one_more {t} {es} {w} e d = transport (λ k. Heads g s t es w k) (sym e) d

  done : {t : Term} {es : List Elim} {v w : Answer} {n : ℕ} → Heads g s t es v 0 → (w ≡ v) × (n ≡ 0) → Heads g s t es w n
  done {t} {es} d h = subst₂ (λ w n. Heads g s t es w n) (sym h.0) (sym h.1) d

  next_heads : (t : Term) (es : List Elim) (w : Answer) (n : ℕ) → HeadsBy g s t es (next g s t es) w n → Heads g s t es w n
  next_heads (Var i) es w n h = done (form tt) h
  next_heads (Sort i) es w n h = done (form tt) h
  next_heads (Pi b x a t) es w n h = done (form tt) h
  next_heads (Lam b x a t) [] w n h = done (form tt) h
  next_heads (Lam b x a t) (Arg c u ∷ es) w n h = by_flag (same_flag b c) refl h
    where
      by_flag : (o : Bool) → same_flag b c ≡ o → HeadsBy g s (Lam b x a t) (Arg c u ∷ es) (cond o (Becomes 1 (subst t 0 u) es) (Ends (Form (Lam b x a t) (Arg c u ∷ es)))) w n → Heads g s (Lam b x a t) (Arg c u ∷ es) w n
      by_flag true e h = one_more (omega (arith, h.2)) (beta (same_flag-true b c e) h.1)
      by_flag false e h = done (form (same_flag-false b c e)) h
  next_heads (Lam b x a t) (Field f ∷ es) w n h = done (form tt) h
  next_heads (App b t u) es w n h = one_more (omega (arith, h.2)) (argument h.1)
  next_heads (Def f) es w n h = by_tree (tree_of g f) refl h
    where
      by_tree : (o : Option (Tree Term)) → tree_of g f ≡ o → HeadsBy g s (Def f) es (at_function (Def f) es o) w n → Heads g s (Def f) es w n
      by_tree None e h = done (form e) h
      by_tree (Some T) e h = call e h
  next_heads (Fam d) es w n h = done (form tt) h
  next_heads (Con c ps) es w n h = by_value (taken g c [] es) refl h
    where
      by_value : (o : Option Taken) → taken g c [] es ≡ o → HeadsBy g s (Con c ps) es (at_constructor (Con c ps) es o) w n → Heads g s (Con c ps) es w n
      by_value None e h = done (form e) h
      by_value (Some p) e h = one_more (omega (arith, h.2)) (project e h.1)
  next_heads (Proj f t) es w n h = one_more (omega (arith, h.2)) (projection h.1)
  next_heads (Meta m ts) es w n h = by_solution (s m) refl h
    where
      by_solution : (o : Option Term) → s m ≡ o → HeadsBy g s (Meta m ts) es (at_metavariable m ts es o) w n → Heads g s (Meta m ts) es w n
      by_solution None e h = done (unsolved e) h
      by_solution (Some t) e h = one_more (omega (arith, h.2)) (replaced e h.1)

  pub heads_by_next : (t : Term) (es : List Elim) (w : Answer) (n : ℕ) → Heads g s t es w n ↔ HeadsBy g s t es (next g s t es) w n
  heads_by_next t es w n = (heads_next, next_heads t es w n)

  -- the same at a tree node
  module _ (h : Term) (all : List Elim) where
    stuck_next : (T : Tree Term) (r : List Term) (es : List Elim) → IsStuck T es → FollowsBy g s h all r es (next_node g T r es) (Form h all) 0
    stuck_next (Leaf t i) r es p = absurd p
    stuck_next (Intro T) r [] p = (refl, refl)
    stuck_next (Intro T) r (Arg b u ∷ es) p = absurd p
    stuck_next (Intro T) r (Field f ∷ es) p = (refl, refl)
    stuck_next (Cosplit bs) r [] p = (refl, refl)
    stuck_next (Cosplit bs) r (Arg b u ∷ es) p = (refl, refl)
    stuck_next (Cosplit bs) r (Field f ∷ es) p = transport (λ o. FollowsBy g s h all r (Field f ∷ es) (at_field o r es) (Form h all) 0) (sym p) (refl, refl)
    stuck_next (Split k bs) r es p = absurd p
    stuck_next (RecordSplit k d T) r es p = absurd p
    stuck_next (Absurd k) r es p = (refl, refl)

    follows_next : {T : Tree Term} {r : List Term} {es : List Elim} {w : Answer} {n : ℕ} → Follows g s h all T r es w n → FollowsBy g s h all r es (next_node g T r es) w n
    follows_next (leaf {n = n} d) = (n, d, omega arith)
    follows_next (intro d) = d
    follows_next {w = w} {n = n} (cosplit {f = f} {es = es} {r = r} e d) = transport (λ o. FollowsBy g s h all r (Field f ∷ es) (at_field o r es) w n) (sym e) d
    follows_next (split {v = v} {m = m} {n = n} d a) = (v, m, n, d, a, refl)
    follows_next (record_split d) = d
    follows_next {T} {r} {es} (stuck p) = stuck_next T r es p

    stays_so : {T : Tree Term} {r : List Term} {es : List Elim} {w : Answer} {n : ℕ} → IsStuck T es → (w ≡ Form h all) × (n ≡ 0) → Follows g s h all T r es w n
    stays_so {T} {r} {es} p e = subst₂ (λ w n. Follows g s h all T r es w n) (sym e.0) (sym e.1) (stuck p)

    next_follows : (T : Tree Term) (r : List Term) (es : List Elim) (w : Answer) (n : ℕ) → FollowsBy g s h all r es (next_node g T r es) w n → Follows g s h all T r es w n
    next_follows (Leaf t i) r es w n e = transport (λ k. Follows g s h all (Leaf t i) r es w k) (omega (arith, e.2)) (leaf e.1)
    next_follows (Intro T) r [] w n e = stays_so tt e
    next_follows (Intro T) r (Arg b u ∷ es) w n e = intro e
    next_follows (Intro T) r (Field f ∷ es) w n e = stays_so tt e
    next_follows (Cosplit bs) r [] w n e = stays_so tt e
    next_follows (Cosplit bs) r (Arg b u ∷ es) w n e = stays_so tt e
    next_follows (Cosplit bs) r (Field f ∷ es) w n e = by_branch (co_branch bs f) refl e
      where
        by_branch : (o : Option (Tree Term)) → co_branch bs f ≡ o → FollowsBy g s h all r (Field f ∷ es) (at_field o r es) w n → Follows g s h all (Cosplit bs) r (Field f ∷ es) w n
        by_branch None p e = stays_so p e
        by_branch (Some T) p e = cosplit p e
    next_follows (Split k bs) r es w n e = transport (λ j. Follows g s h all (Split k bs) r es w j) (sym e.5) (split e.3 e.4)
    next_follows (RecordSplit k d T) r es w n e = record_split e
    next_follows (Absurd k) r es w n e = stays_so tt e

    pub follows_by_next : (T : Tree Term) (r : List Term) (es : List Elim) (w : Answer) (n : ℕ) → Follows g s h all T r es w n ↔ FollowsBy g s h all r es (next_node g T r es) w n
    follows_by_next T r es w n = (follows_next, next_follows T r es w n)

    after_next : {k : ℕ} {r : List Term} {es : List Elim} {c : Choice} {w : Answer} {n : ℕ} → After g s h all k r es c w n → AfterBy g s h all k r es c w n
    after_next (enters d) = d
    after_next stays = (refl, refl)
    after_next waits = (refl, refl)

    next_after : (k : ℕ) (r : List Term) (es : List Elim) (c : Choice) (w : Answer) (n : ℕ) → AfterBy g s h all k r es c w n → After g s h all k r es c w n
    next_after k r es (Enters b T us) w n e = enters e
    next_after k r es Stays w n e = subst₂ (λ w n. After g s h all k r es Stays w n) (sym e.0) (sym e.1) stays
    next_after k r es (Waits m) w n e = subst₂ (λ w n. After g s h all k r es (Waits m) w n) (sym e.0) (sym e.1) waits

    pub after_by_next : (k : ℕ) (r : List Term) (es : List Elim) (c : Choice) (w : Answer) (n : ℕ) → After g s h all k r es c w n ↔ AfterBy g s h all k r es c w n
    after_by_next k r es c w n = (after_next, next_after k r es c w n)
