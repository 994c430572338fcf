-- Unification ends: fewer variables are left, or the first difference is nearer, or there are fewer equations before it.
use Rattle.std.specs.Prelude.{◌≡◌, ◌≢◌, ℕ, ◌<◌, ◌≤◌, List, [], ◌∷◌, ◌++◌, length, refl, zero, suc}
use Rattle.std.proofs.Common.{subst as transport, arith, inl, inr}
use Rattle.core_rules.specs.Term.{Term}
use Rattle.core_rules.specs.Signature.{Signature}
use Rattle.core_rules.specs.InScope.{IsAcyclic}
use Rattle.core_rules.specs.Heads.{Answer, Bounded, Within, Out, HeadOf}
use Rattle.core_rules.specs.Bounded as B
use Rattle.core_rules.specs.Bounded.{Verdict, Yes, No, WaitsFor, decide, below, InOrder, Decided, ConvOf}
use Rattle.core_rules.specs.BoundedLaws.{no_solutions, shown}
use Rattle.core_rules.specs.Unification.{Equation, eq, Solution, State, St}
use Rattle.core_rules.proofs.Heads.Needed.{head_of_stands, verdict_stands}
use Rattle.core_rules.proofs.Heads.OneVerdict.{conv_of_deeper}
use Rattle.unify_rules.specs.Unifier.{Outcome, OutOfFuel, OutOfDepth, Rule, Delete, Solve, Inject, Ends, SameCon, same_con, Applies, solves, injects, conflicts, cycles, sticks, Ruled, Answers, Goes, Turn, done, out_left, out_right, turn, Unify, answers, goes}
use Rattle.unify_rules.specs.Joined.{without}
use Rattle.unify_rules.proofs.Members.{Member, without-keeps, without-falls}
use Rattle.unify_rules.proofs.HeadsOnly.{heads_only, heads_head, only_shown}
use Rattle.unify_rules.proofs.Fewer.{Within as Among, AllWithin, only-append, inject_only, can_be, puts-only, all_within}
use Rattle.unify_rules.proofs.Only.{only-weaker}
use Rattle.unify_rules.proofs.Decide.{parts_from, rule_stands}
use Rattle.unify_rules.proofs.Nearer.{inject_decided}
use Rattle.unify_rules.proofs.OneOutcome.{unify_one}

no_cycles : IsAcyclic no_solutions
no_cycles = record { rank = λ m. 0; falls = λ m t e. absurd cc }

-- a difference, or a blocked part
abbrev pub Differs : Verdict → Type 0
Differs Yes = ⊥
Differs (No t u xs) = Unit {0}
Differs B.OutOfFuel = ⊥
Differs B.OutOfDepth = ⊥
Differs (WaitsFor m) = Unit {0}

differs_below : (xs : List ℕ) (q : Verdict) → Differs (below xs q) → Differs q
differs_below xs Yes d = d
differs_below xs (No t u ys) d = tt
differs_below xs B.OutOfFuel d = d
differs_below xs B.OutOfDepth d = d
differs_below xs (WaitsFor m) d = tt

no_depth : (q : Verdict) → Differs q → q ≢ B.OutOfDepth
no_depth q d e = transport Differs e d

module _ (g : Signature Term) (fuel depth : ℕ) where
  -- the verdict at some depth
  abbrev V : ℕ → Term → Term → Verdict → Type 0
  V d = ConvOf g no_solutions fuel d

  abbrev pub Ended : State → Type 0
  Ended s = (o : Outcome) × (n : ℕ) × Unify g fuel depth s o n

  stops : {s : State} {o : Outcome} → Turn g fuel depth s (Answers o) → Ended s
  stops {o = o} a = (o, 0, answers a)

  moves : {s s' : State} → Turn g fuel depth s (Goes s') → Ended s' → Ended s
  moves a e = (e.0, suc e.1, goes a e.2)

  -- an equation found convertible is deleted, unless a head form is out of fuel
  deletes_by : (d : ℕ) → d ≤ depth → (ts : List Term) (t u : Term) (es : List Equation) (ss : List Solution) → V d t u Yes → Ended (St ts es ss) → Ended (St ts (eq t u ∷ es) ss)
  deletes_by d l ts t u es ss h r =
      let b = head_of_stands g no_solutions t fuel no_cycles in
      let c = head_of_stands g no_solutions u fuel no_cycles in
      by b.0 c.0 b.1 c.1 (conv_of_deeper g no_solutions fuel d depth t u Yes l (λ e. cc) h)
    where
      by : (b c : Bounded) → HeadOf g no_solutions t fuel b → HeadOf g no_solutions u fuel c → V depth t u Yes → Ended (St ts (eq t u ∷ es) ss)
      by Out c x y f = stops (out_left x)
      by (Within v n) Out x y f = stops (out_right x y)
      by (Within v n) (Within w m) x y f = moves (turn Yes Delete x y f refl refl) r

  -- a rule for a difference
  ruled : (ts : List Term) (v w : Term) (q : Verdict) (r : Rule) → Differs q → Applies ts v w r → Ruled ts v w q r
  ruled ts v w Yes r d a = absurd d
  ruled ts v w (No t u xs) r d a = a
  ruled ts v w B.OutOfFuel r d a = absurd d
  ruled ts v w B.OutOfDepth r d a = absurd d
  ruled ts v w (WaitsFor m) r d a = a

  -- equations whose variables are among fewer than n have an answer
  abbrev Fewer : ℕ → Type 0
  Fewer n = (ts : List Term) (es : List Equation) (ss : List Solution) (js : List ℕ) → length js < n → AllWithin js es → Ended (St ts es ss)

  module _ (n : ℕ) (fewer : Fewer n) (ts : List Term) (ss : List Solution) (js : List ℕ) (few : length js ≤ n) where
    -- an equation that differs at depth d has an answer
    abbrev Near : ℕ → Type 0
    Near d = (t u : Term) (es : List Equation) (q : Verdict) → Differs q → V d t u q → AllWithin js (eq t u ∷ es) → Ended (St ts (eq t u ∷ es) ss)

    -- the equations that inject puts in front: those found convertible are deleted, down to the first that is not
    through_parts : (d : ℕ) → d ≤ depth → Near d → (qs es : List Equation) (q : Verdict) → Differs q → InOrder (V d) (parts_from qs) q → AllWithin js qs → AllWithin js es → Ended (St ts (qs ++ es) ss)
    through_parts d l near [] es q x h a b = absurd (transport Differs h x)
    through_parts d l near (e ∷ qs) es q x (inl h) a b = deletes_by d l ts e.left e.right (qs ++ es) ss h.0 (through_parts d l near qs es q x h.1 a.1 b)
    through_parts d l near (e ∷ qs) es q x (inr h) a b =
        near e.left e.right (qs ++ es) h.0 (differs_below [] h.0 (transport Differs h.3 x)) h.1 (a.0, only-append (λ i. Member i js) qs es a.1 b)

    module _ (d : ℕ) (l : suc d ≤ depth) (near : Near d) (t u : Term) (es : List Equation) (q : Verdict) (x : Differs q) (h : V depth t u q) (a : AllWithin js (eq t u ∷ es)) where
      by_rule : (v w : Answer) (k m : ℕ) → HeadOf g no_solutions t fuel (Within v k) → HeadOf g no_solutions u fuel (Within w m) → Decided (V d) (decide g (Within v k) (Within w m)) q
          → Among js (shown v) → Among js (shown w) → {r : Rule} → Applies ts (shown v) (shown w) r → Ended (St ts (eq t u ∷ es) ss)
      by_rule v w k m y z e i j (solves {x = n'} {v = c} p) =
          let s = can_be (λ i. Member i js) (shown v) (shown w) n' c p i j in
          let f = without-falls n' js s.has in
          let val = only-weaker (λ i. Member i js × (i ≡ n' → ⊥)) (λ i. Member i (without n' js)) (λ i o. without-keeps n' i js o.0 o.1) 0 c s.value in
          moves (turn q (Solve n' c) y z h (ruled ts (shown v) (shown w) q (Solve n' c) x (solves p)) refl)
          (fewer _ _ _ (without n' js) (omega (arith, f)) (puts-only (λ i. Member i js) (λ i. Member i (without n' js)) n' c (λ z. val) (λ i o ne. without-keeps n' i js o ne) es a.1))
      by_rule v w k m y z e i j (injects {qs = qs} (same_con {k = c} {xs = xs} {ys = ys} p o r)) =
          let s : SameCon (shown v) (shown w) qs = same_con p o r in
          moves (turn q (Inject qs) y z h (ruled ts (shown v) (shown w) q (Inject qs) x (injects s)) refl)
          (through_parts d (omega arith) near qs es q x (inject_decided g (V d) q v w k m c xs ys qs (heads_head g y.0) (heads_head g z.0) p o r e) (inject_only (λ i. Member i js) (shown v) (shown w) qs s i j) a.1)
      by_rule v w k m y z e i j (conflicts p) = stops (turn q _ y z h (ruled ts (shown v) (shown w) q _ x (conflicts p)) refl)
      by_rule v w k m y z e i j (cycles p) = stops (turn q _ y z h (ruled ts (shown v) (shown w) q _ x (cycles p)) refl)
      by_rule v w k m y z e i j (sticks p) = stops (turn q _ y z h (ruled ts (shown v) (shown w) q _ x (sticks p)) refl)

      by_heads : (b c : Bounded) → HeadOf g no_solutions t fuel b → HeadOf g no_solutions u fuel c → Decided (V d) (decide g b c) q → Ended (St ts (eq t u ∷ es) ss)
      by_heads Out c y z e = absurd (transport Differs e x)
      by_heads (Within v k) Out y z e = absurd (transport Differs e x)
      by_heads (Within v k) (Within w m) y z e =
          let P = λ (i : ℕ). Member i js in
          by_rule v w k m y z e (only_shown P v (heads_only P g y.0 a.0.0 tt)) (only_shown P w (heads_only P g z.0 a.0.1 tt)) (rule_stands ts (shown v) (shown w)).1

    near : (d : ℕ) → d ≤ depth → Near d
    near zero l t u es q x h a = absurd (no_depth q x h)
    near (suc d) l t u es q x (inl h) a = absurd (transport Differs h.1 x)
    near (suc d) l t u es q x (inr h) a =
        let b = h.1 in
        by_heads d l (near d (omega arith)) t u es q x (conv_of_deeper g no_solutions fuel (suc d) depth t u q l (no_depth q x) (inr h)) a b.left b.right b.is_left b.is_right b.decided

    -- by the verdict on the first equation
    by_verdict : (t u : Term) (es : List Equation) → AllWithin js (eq t u ∷ es) → Ended (St ts es ss) → (v w : Answer) (k m : ℕ) → HeadOf g no_solutions t fuel (Within v k) → HeadOf g no_solutions u fuel (Within w m) → (q : Verdict) → V depth t u q → Ended (St ts (eq t u ∷ es) ss)
    by_verdict t u es a r v w k m y z Yes h = deletes_by depth (omega arith) ts t u es ss h r
    by_verdict t u es a r v w k m y z B.OutOfFuel h = stops (turn B.OutOfFuel (Ends OutOfFuel) y z h refl refl)
    by_verdict t u es a r v w k m y z B.OutOfDepth h = stops (turn B.OutOfDepth (Ends OutOfDepth) y z h refl refl)
    by_verdict t u es a r v w k m y z (No t' u' xs) h = near depth (omega arith) t u es (No t' u' xs) tt h a
    by_verdict t u es a r v w k m y z (WaitsFor i) h = near depth (omega arith) t u es (WaitsFor i) tt h a

    by_bounded : (t u : Term) (es : List Equation) → AllWithin js (eq t u ∷ es) → Ended (St ts es ss) → (b c : Bounded) → HeadOf g no_solutions t fuel b → HeadOf g no_solutions u fuel c → Ended (St ts (eq t u ∷ es) ss)
    by_bounded t u es a r Out c y z = stops (out_left y)
    by_bounded t u es a r (Within v k) Out y z = stops (out_right y z)
    by_bounded t u es a r (Within v k) (Within w m) y z = let q = verdict_stands g no_solutions fuel depth t u no_cycles in by_verdict t u es a r v w k m y z q.0 q.1

    ends : (es : List Equation) → AllWithin js es → Ended (St ts es ss)
    ends [] a = stops done
    ends (e ∷ es) a =
        let b = head_of_stands g no_solutions e.left fuel no_cycles in
        let c = head_of_stands g no_solutions e.right fuel no_cycles in
        by_bounded e.left e.right es a (ends es a.1) b.0 c.0 b.1 c.1

  fewer : (n : ℕ) → Fewer n
  fewer zero ts es ss js l a = absurd (omega arith)
  fewer (suc n) ts es ss js l a = ends n (fewer n) ts ss js (omega arith) es a

  -- each state has an answer
  pub unify_stands : (s : State) → Ended s
  unify_stands (St ts es ss) = let a = all_within es in fewer (suc (length a.0)) ts es ss a.0 (omega arith) a.1

  -- how many turns go on: a measure of a loop
  pub turns_left : State → ℕ
  turns_left s = (unify_stands s).1

  pub turn_falls : (s s' : State) → Turn g fuel depth s (Goes s') → turns_left s' < turns_left s
  unfolding turns_left
  turn_falls s s' a =
      let x = unify_stands s in
      let y = unify_stands s' in
      let e = unify_one g fuel depth x.2 (goes a y.2) in
      let f : x.1 ≡ suc y.1 = e.1 in
      omega arith
