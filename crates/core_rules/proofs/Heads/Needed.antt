-- The steps that can be made are needed, and each bounded head form and each verdict stands.
use Rattle.std.specs.Prelude.{◌≡◌, ◌⊎◌, ℕ, ◌≤◌, List, [], ◌∷◌, refl, Some, zero, suc}
use Rattle.std.proofs.Common.{sym, ◌∙◌, arith, subst as transport, inl, inr}
use Rattle.core_rules.specs.Term.{Term, Def}
use Rattle.core_rules.specs.Substitution.{put_solution}
use Rattle.core_rules.specs.Signature.{Branch, Tree, Signature}
use Rattle.core_rules.specs.Elimination.{Elim}
use Rattle.core_rules.specs.Run.{spread, kept}
use Rattle.core_rules.specs.InScope.{IsAcyclic}
use Rattle.core_rules.specs.Heads.{Solutions, Answer, Choice, Enters, choice, Heads, form, argument, projection, beta, project, replaced, unsolved, call, Follows, leaf, intro, cosplit, split, record_split, stuck, After, enters, stays, waits, Bounded, Within, Out, HeadOf}
use Rattle.core_rules.specs.Bounded.{Verdict, Yes, No, OutOfFuel, OutOfDepth, WaitsFor, Part, Pair, Decision, Now, Parts, decide, below, InOrder, Decided, AreSame, ByHeads, ConvOf}
use Rattle.core_rules.specs.Steps as M
use Rattle.core_rules.specs.Steps.{Makes, MakesIn}
use Rattle.core_rules.proofs.Heads.OneAnswer.{one_some, Agree, heads_one}
use Rattle.core_rules.proofs.Heads.Ends.{ends}
use Rattle.core_rules.proofs.Heads.Same.{are_same_or}

-- a split that enters a branch follows it
entered_follows : {g : Signature Term} {s : Solutions} {h : Term} {all es : List Elim} {k : ℕ} {r us : List Term} {c : Choice} {w : Answer} {n : ℕ} {b : Branch Term} {T : Tree Term} → c ≡ Enters b T us → After g s h all k r es c w n → Follows g s h all T (kept b (spread k us r)) es w n
entered_follows {g} {s} {h} {all} {es} {k} {r} {us} {w = w} {n = n} {b = b} {T = T} e (enters {us = vs} {b = c} {T = S} d) =
    let x : vs ≡ us = cc in
    let y : S ≡ T = cc in
    let z : c ≡ b = cc in
    transport (λ T. Follows g s h all T (kept b (spread k us r)) es w n) y
    (transport (λ b. Follows g s h all S (kept b (spread k us r)) es w n) z
    (transport (λ us. Follows g s h all S (kept c (spread k us r)) es w n) x d))
entered_follows e stays = absurd cc
entered_follows e waits = absurd cc

mutual
  pub makes_needed : {g : Signature Term} {s : Solutions} {t : Term} {es : List Elim} {w : Answer} {k n : ℕ} → Makes g s t es k → Heads g s t es w n → k ≤ n
  makes_needed M.none d = omega arith
  makes_needed (M.argument m) (argument d) = makes_needed m d
  makes_needed (M.argument m) (form p) = absurd p
  makes_needed (M.projection m) (projection d) = makes_needed m d
  makes_needed (M.projection m) (form p) = absurd p
  makes_needed (M.beta e m) (beta f d) = let h = makes_needed m d in omega (arith, h)
  makes_needed (M.beta e m) (form p) = absurd (p e)
  makes_needed {g} {s} {w = w} (M.project e m) (project {n = n} f d) = let h = makes_needed m (transport (λ p. Heads g s p.value p.rest w n) (one_some (sym f ∙ e)) d) in omega (arith, h)
  makes_needed (M.project e m) (form p) = let x : ⊥ = cc in absurd x
  makes_needed {g} {s} {es = es} {w = w} {n = n} (M.replaced {m = i} {ts = ts} e m) (replaced f d) = makes_needed m (transport (λ t. Heads g s (put_solution i ts (Some t)) es w n) (one_some (sym f ∙ e)) d)
  makes_needed (M.replaced e m) (unsolved f) = let x : ⊥ = cc in absurd x
  makes_needed (M.replaced e m) (form p) = absurd p
  makes_needed {g} {s} {es = es} {w = w} {n = n} (M.call {f = i} e m) (call f d) = in_needed m (transport (λ T. Follows g s (Def i) es T [] es w n) (one_some (sym f ∙ e)) d)
  makes_needed (M.call e m) (form p) = let x : ⊥ = cc in absurd x

  in_needed : {g : Signature Term} {s : Solutions} {h : Term} {all es : List Elim} {T : Tree Term} {r : List Term} {w : Answer} {k n : ℕ} → MakesIn g s T r es k → Follows g s h all T r es w n → k ≤ n
  in_needed (M.leaf m) (leaf d) = let h = makes_needed m d in omega (arith, h)
  in_needed (M.leaf m) (stuck p) = absurd p
  in_needed (M.intro m) (intro d) = in_needed m d
  in_needed (M.intro m) (stuck p) = absurd p
  in_needed {g} {s} {h} {all} {w = w} {n = n} (M.cosplit {r = r} {es = es} e m) (cosplit f d) = in_needed m (transport (λ T. Follows g s h all T r es w n) (one_some (sym f ∙ e)) d)
  in_needed (M.cosplit e m) (stuck p) = let x : ⊥ = cc in absurd x
  in_needed (M.value m) (split d c) = let h = makes_needed m d in omega (arith, h)
  in_needed (M.value m) (stuck p) = absurd p
  in_needed {g} {s} {h} {all} {es} {r = r} {w = w} (M.branch {k = k} {bs = bs} {v = v} d e m) (split {v = v'} {n = n} d' c) =
      let o : Agree _ _ _ _ = heads_one d d' in
      let j = in_needed m (entered_follows e (transport (λ v. After g s h all k r es (choice g bs v) w n) (sym o.0) c)) in
      let i = o.1 in
      omega (arith, i, j)
  in_needed (M.branch d e m) (stuck p) = absurd p
  in_needed (M.record_split m) (record_split d) = in_needed m d
  in_needed (M.record_split m) (stuck p) = absurd p

pub out_makes_more : (g : Signature Term) (s : Solutions) (t : Term) (fuel : ℕ) → IsAcyclic s → HeadOf g s t fuel Out → Makes g s t [] (suc fuel)
out_makes_more g s t fuel a h = by_end (ends g s a fuel t [])
  where
    by_end : ((w : Answer) × (n : ℕ) × Heads g s t [] w n × (n ≤ fuel)) ⊎ Makes g s t [] (suc fuel) → Makes g s t [] (suc fuel)
    by_end (inl x) = let l = x.3 in let k = h x.0 x.1 x.2 in absurd (omega (arith, l, k))
    by_end (inr m) = m

pub head_of_stands : (g : Signature Term) (s : Solutions) (t : Term) (fuel : ℕ) → IsAcyclic s → (b : Bounded) × HeadOf g s t fuel b
head_of_stands g s t fuel a = by_end (ends g s a fuel t [])
  where
    by_end : ((w : Answer) × (n : ℕ) × Heads g s t [] w n × (n ≤ fuel)) ⊎ Makes g s t [] (suc fuel) → (b : Bounded) × HeadOf g s t fuel b
    by_end (inl x) = (Within x.0 x.1, (x.2, x.3))
    by_end (inr m) = (Out, λ w n d. makes_needed m d)

module _ (V : Term → Term → Verdict → Type 0) (v : (t u : Term) → (q : Verdict) × V t u q) where
  in_order_stands : (ps : List Part) → (q : Verdict) × InOrder V ps q
  in_order_stands [] = (Yes, refl)
  in_order_stands (Pair xs t u ∷ ps) = by_first (v t u).0 (v t u).1 (in_order_stands ps)
    where
      by_first : (q : Verdict) → V t u q → (p : Verdict) × InOrder V ps p → (q : Verdict) × InOrder V (Pair xs t u ∷ ps) q
      by_first Yes h r = (r.0, inl (h, r.1))
      by_first (No t' u' ys) h r = (below xs (No t' u' ys), inr (No t' u' ys, h, λ e. cc, refl))
      by_first OutOfFuel h r = (below xs OutOfFuel, inr (OutOfFuel, h, λ e. cc, refl))
      by_first OutOfDepth h r = (below xs OutOfDepth, inr (OutOfDepth, h, λ e. cc, refl))
      by_first (WaitsFor m) h r = (below xs (WaitsFor m), inr (WaitsFor m, h, λ e. cc, refl))

  decided_stands : (D : Decision) → (q : Verdict) × Decided V D q
  decided_stands (Now q) = (q, refl)
  decided_stands (Parts ps) = in_order_stands ps

by_heads_stands : (g : Signature Term) (s : Solutions) (fuel : ℕ) (V : Term → Term → Verdict → Type 0) → ((t u : Term) → (q : Verdict) × V t u q) → (t u : Term) → IsAcyclic s → (q : Verdict) × ByHeads g s fuel V t u q
by_heads_stands g s fuel V v t u a =
    let b = head_of_stands g s t fuel a in
    let c = head_of_stands g s u fuel a in
    let d = decided_stands V v (decide g b.0 c.0) in
    (d.0, record { left = b.0; right = c.0; is_left = b.1; is_right = c.1; decided = d.1 })

pub verdict_stands : (g : Signature Term) (s : Solutions) (fuel depth : ℕ) (t u : Term) → IsAcyclic s → (q : Verdict) × ConvOf g s fuel depth t u q
verdict_stands g s fuel zero t u a = (OutOfDepth, refl)
verdict_stands g s fuel (suc depth) t u a = by_same (are_same_or s a t u) (by_heads_stands g s fuel (ConvOf g s fuel depth) (λ t u. verdict_stands g s fuel depth t u a) t u a)
  where
    by_same : AreSame s t u ⊎ (AreSame s t u → ⊥) → (q : Verdict) × ByHeads g s fuel (ConvOf g s fuel depth) t u q → (q : Verdict) × ConvOf g s fuel (suc depth) t u q
    by_same (inl e) h = (Yes, inl (e, refl))
    by_same (inr n) h = (h.0, inr (n, h.1))
