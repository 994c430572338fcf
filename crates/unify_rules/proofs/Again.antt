-- A head form is its own head form, in no more steps, so that two terms have the verdict of their head forms.
use Rattle.std.specs.Prelude.{◌≡◌, ◌⊎◌, ℕ, ◌+◌, ◌≤◌, List, [], ◌∷◌, ◌++◌, refl, zero, suc}
use Rattle.std.proofs.Common.{sym, subst as transport, subst₂, arith, inl, inr, append-nil}
use Rattle.core_rules.specs.Term.{Term, App, Def, Proj}
use Rattle.core_rules.specs.Signature.{Tree, Signature}
use Rattle.core_rules.specs.Elimination.{Elim, Arg, Field, elims}
use Rattle.core_rules.specs.Heads.{Solutions, Answer, Form, Blocked, Choice, Heads, form, argument, projection, beta, project, replaced, unsolved, call, Follows, leaf, intro, cosplit, split, record_split, stuck, After, enters, stays, waits, Within, HeadOf}
use Rattle.core_rules.specs.Bounded.{Verdict, decide, Decided, AreSame, ConvOf}
use Rattle.core_rules.specs.BoundedLaws.{shown}
use Rattle.core_rules.proofs.Heads.OneVerdict.{head_of_one}
use Rattle.unify_rules.proofs.SameHeads.{shown_same}

abbrev head_of : Answer → Term
head_of (Form h es) = h
head_of (Blocked m h es) = h

abbrev spine_of : Answer → List Elim
spine_of (Form h es) = es
spine_of (Blocked m h es) = es

module _ (g : Signature Term) (s : Solutions) where
  abbrev Again : Answer → ℕ → Type 0
  Again w n = (m : ℕ) × Heads g s (head_of w) (spine_of w) w m × (m ≤ n)

  abbrev Same : Answer → Term → List Elim → Type 0
  Same w h all = (head_of w ≡ h) × (spine_of w ≡ all)

  more : (w : Answer) (n k : ℕ) → Again w n → n ≤ k → Again w k
  more w n k a l = (a.0, a.1, let m = a.2 in omega (arith, l, m))

  either : (w : Answer) (n k : ℕ) (h : Term) (all : List Elim) → n ≤ k → Again w n ⊎ Same w h all → Again w k ⊎ Same w h all
  either w n k h all l (inl a) = inl (more w n k a l)
  either w n k h all l (inr e) = inr e

  called : (w : Answer) (n : ℕ) (h : Term) (es : List Elim) → Heads g s h es w n → Again w n ⊎ Same w h es → Again w n
  called w n h es d (inl a) = a
  called w n h es d (inr e) = (n, subst₂ (λ h es. Heads g s h es w n) (sym e.0) (sym e.1) d, omega arith)

  mutual
    heads_again : {t : Term} {es : List Elim} {w : Answer} {n : ℕ} → Heads g s t es w n → Again w n
    heads_again (form p) = (0, form p, omega arith)
    heads_again (argument d) = heads_again d
    heads_again (projection d) = heads_again d
    heads_again {w = w} (beta {n = n} e d) = more w n (suc n) (heads_again d) (omega arith)
    heads_again {w = w} (project {n = n} e d) = more w n (suc n) (heads_again d) (omega arith)
    heads_again (replaced e d) = heads_again d
    heads_again (unsolved e) = (0, unsolved e, omega arith)
    heads_again {es = es} {w = w} {n = n} (call {f = f} e d) = called w n (Def f) es (call e d) (follows_again d)

    follows_again : {h : Term} {all es : List Elim} {T : Tree Term} {r : List Term} {w : Answer} {n : ℕ} → Follows g s h all T r es w n → Again w n ⊎ Same w h all
    follows_again {w = w} (leaf {n = n} d) = inl (more w n (suc n) (heads_again d) (omega arith))
    follows_again (intro d) = follows_again d
    follows_again (cosplit e d) = follows_again d
    follows_again {h} {all} {w = w} (split {m = m} {n = n} d a) = either w n (m + n) h all (omega arith) (after_again a)
    follows_again (record_split d) = follows_again d
    follows_again (stuck q) = inr (refl, refl)

    after_again : {h : Term} {all es : List Elim} {k : ℕ} {r : List Term} {c : Choice} {w : Answer} {n : ℕ} → After g s h all k r es c w n → Again w n ⊎ Same w h all
    after_again (enters d) = follows_again d
    after_again stays = inr (refl, refl)
    after_again waits = inr (refl, refl)

  wound : (h : Term) (es ds : List Elim) (w : Answer) (n : ℕ) → Heads g s h (es ++ ds) w n → Heads g s (elims h es) ds w n
  wound h [] ds w n d = d
  wound h (Arg b u ∷ es) ds w n d = wound (App b h u) es ds w n (argument d)
  wound h (Field f ∷ es) ds w n d = wound (Proj f h) es ds w n (projection d)

  at_shown : (w : Answer) (n : ℕ) → Heads g s (head_of w) (spine_of w) w n → Heads g s (shown w) [] w n
  at_shown (Form h es) n d = wound h es [] (Form h es) n (transport (λ es'. Heads g s h es' (Form h es) n) (sym (append-nil es)) d)
  at_shown (Blocked m h es) n d = wound h es [] (Blocked m h es) n (transport (λ es'. Heads g s h es' (Blocked m h es) n) (sym (append-nil es)) d)

  head_again : (fuel : ℕ) (t : Term) (w : Answer) (n : ℕ) → HeadOf g s t fuel (Within w n) → (m : ℕ) × HeadOf g s (shown w) fuel (Within w m)
  head_again fuel t w n h = let a = heads_again h.0 in (a.0, (at_shown w a.0 a.1, let l = a.2 in let k = h.1 in omega (arith, l, k)))

  -- steps do not count in a decision
  decided : (V : Term → Term → Verdict → Type 0) (q : Verdict) (v w : Answer) (n m k l : ℕ) → Decided V (decide g (Within v n) (Within w m)) q → Decided V (decide g (Within v k) (Within w l)) q
  decided V q (Form h es) (Form h' ds) n m k l d = d
  decided V q (Form h es) (Blocked i h' ds) n m k l d = d
  decided V q (Blocked i h es) w n m k l d = d

  -- terms that are not the same, with one pair of head forms, have one verdict
  carried : (fuel depth : ℕ) (t u t' u' : Term) (v w : Answer) (n m k l : ℕ) (q : Verdict) → HeadOf g s t fuel (Within v n) → HeadOf g s u fuel (Within w m) → HeadOf g s t' fuel (Within v k) → HeadOf g s u' fuel (Within w l)
      → (AreSame s t u → ⊥) → (AreSame s t' u' → ⊥) → ConvOf g s fuel depth t u q → ConvOf g s fuel depth t' u' q
  carried fuel zero t u t' u' v w n m k l q a b c d x y h = h
  carried fuel (suc depth) t u t' u' v w n m k l q a b c d x y (inl h) = absurd (x h.0)
  carried fuel (suc depth) t u t' u' v w n m k l q a b c d x y (inr h) =
      let i = h.1 in
      let e = head_of_one g s t fuel i.left (Within v n) i.is_left a in
      let f = head_of_one g s u fuel i.right (Within w m) i.is_right b in
      inr (
        y,
        record {
          left = Within v k;
          right = Within w l;
          is_left = c;
          is_right = d;
          decided = decided (ConvOf g s fuel depth) q v w n m k l (subst₂ (λ x y. Decided (ConvOf g s fuel depth) (decide g x y) q) e f i.decided);
        },
      )

pub verdict_again : (g : Signature Term) (s : Solutions) (fuel depth : ℕ) (t u : Term) (v w : Answer) (n m : ℕ) (q : Verdict) → HeadOf g s t fuel (Within v n) → HeadOf g s u fuel (Within w m)
    → (AreSame s (shown v) (shown w) → ⊥) → (ConvOf g s fuel depth t u q → ConvOf g s fuel depth (shown v) (shown w) q) × (ConvOf g s fuel depth (shown v) (shown w) q → ConvOf g s fuel depth t u q)
verdict_again g s fuel depth t u v w n m q a b y =
    let c = head_again g s fuel t v n a in
    let d = head_again g s fuel u w m b in
    let x : AreSame s t u → ⊥ = λ h. y (shown_same g s fuel t u v w n m a b h) in
    ((λ h. carried g s fuel depth t u (shown v) (shown w) v w n m c.0 d.0 q a b c.1 d.1 x y h), (λ h. carried g s fuel depth (shown v) (shown w) t u v w c.0 d.0 n m q c.1 d.1 a b y x h))
