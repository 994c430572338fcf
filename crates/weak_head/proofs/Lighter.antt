-- A number that falls with each move that takes no step. It counts with solutions put in.
use Rattle.std.specs.Prelude.{◌≡◌, ℕ, zero, suc, ◌+◌, ◌-◌, ◌*◌, ◌<◌, ◌≤◌, max, true, false, cond, List, [], ◌∷◌, Option, Some, None, refl}
use Rattle.std.proofs.Common.{arith, sym, ap, ◌∙◌, subst as transport}
use Rattle.std.specs.Option.{option_map_or}
use Rattle.core_rules.specs.Term.{Term, Var, Sort, Pi, Lam, App, Def, Fam, Con, Proj, Meta}
use Rattle.core_rules.specs.Substitution.{value_at, subst}
use Rattle.core_rules.specs.Signature.{Tree, Leaf, Intro, Cosplit, Split, RecordSplit, Absurd, Signature, tree_of, co_branch}
use Rattle.core_rules.specs.Elimination.{Elim, Arg, Field, elims, projections}
use Rattle.core_rules.specs.Run.{ConApp, con_app, spread, kept}
use Rattle.core_rules.proofs.Heads.OneAnswer.{one_some}
use Rattle.core_rules.specs.Heads.{Solutions, Answer, Form, Blocked, taken, Choice, Enters, Stays, Waits, choice}
use Rattle.core_rules.specs.Bounded.{same_flag}
use Rattle.core_rules.specs.BoundedLaws.{Ends, Becomes, next, at_field, next_node, at_constructor, at_function, at_metavariable, IsFull}
use Rattle.core_rules.proofs.Heads.Resolve.{NotSolved}
use Rattle.core_rules.proofs.Heads.Replaced.{put_image}
use Rattle.core_rules.proofs.Heads.Sound.{entered, by_full_con}
use Rattle.core_rules.proofs.Heads.Weight.{tree_size, con_size, co_branch_size, con_branch_size, weight, full_weight, spine_weight, at_spine, answer_weight, Light, light_value, light_more, light_spread, light_kept, light_projections}
use Rattle.weak_head.specs.Pending.{Now, AtTerm, AtTree, AtAnswer, AtStep, Frame, Run, On, Ended, Due, by_next, by_node, by_choice, move, Comes, here, by}

-- more than all that can be done without a step where the weight is n
abbrev pub turns : ℕ → ℕ
turns zero = 1
turns (suc n) = 2 + 2 * turns n

turns_pos : (n : ℕ) → 1 ≤ turns n
turns_pos zero = omega arith
turns_pos (suc n) = omega arith

turns_more : (n d : ℕ) → turns n ≤ turns (n + d)
turns_more n zero = let e : n + 0 ≡ n = omega arith in transport (λ k. turns n ≤ turns k) (sym e) (omega arith)
turns_more n (suc d) = let h = turns_more n d in let e : n + suc d ≡ suc (n + d) = omega arith in transport (λ k. turns n ≤ turns k) (sym e) (let i : turns n ≤ 2 + 2 * turns (n + d) = omega (arith, h) in i)

turns_le : (n m : ℕ) → n ≤ m → turns n ≤ turns m
turns_le n m h = let e : n + (m - n) ≡ m = omega arith in transport (λ k. turns n ≤ turns k) e (turns_more n (m - n))

turns_lt : (n m : ℕ) → n < m → 2 + 2 * turns n ≤ turns m
turns_lt n m h = let x = turns_le (suc n) m (omega arith) in omega (arith, x)

module _ (g : Signature Term) (f : Solutions) where
  abbrev pub heaviest : List Term → ℕ
  heaviest [] = 0
  heaviest (t ∷ ts) = max (full_weight g f t) (heaviest ts)

  light_heaviest : (ts : List Term) (b : ℕ) → heaviest ts ≤ b → Light g f b ts
  light_heaviest [] b h = tt
  light_heaviest (t ∷ ts) b h = (omega arith, light_heaviest ts b (omega arith))

  heaviest_light : (ts : List Term) (b : ℕ) → Light g f b ts → heaviest ts ≤ b
  heaviest_light [] b h = omega arith
  heaviest_light (t ∷ ts) b h = let x = heaviest_light ts b h.1 in omega (arith, x, h.0)

  -- what a call at a node of its tree has
  abbrev pub bound : List Term → List Elim → ℕ
  bound r es = max (heaviest r) (spine_weight g f es)

  -- of the splits that wait, where the value of the innermost weighs a
  abbrev pub frames_turns : List Frame → ℕ → ℕ
  frames_turns [] a = 0
  frames_turns (x ∷ fs) a = turns (max (bound x.values x.rest) a + con_size x.branches) + frames_turns fs (at_spine g f x.head x.all)

  abbrev pub now_turns : Now → List Frame → ℕ
  now_turns (AtTerm t es) fs = 1 + turns (at_spine g f t es) + frames_turns fs (at_spine g f t es)
  now_turns (AtTree h all T r es) fs = turns (bound r es + tree_size T) + frames_turns fs (at_spine g f h all)
  now_turns (AtAnswer w) fs = 1 + frames_turns fs (answer_weight g f w)
  now_turns (AtStep u es) fs = 0

  abbrev pub run_turns : Run → ℕ
  run_turns (On x fs) = suc (now_turns x fs)
  run_turns (Ended w) = 0
  run_turns (Due u es fs) = 0

  frames_more : (fs : List Frame) (a b : ℕ) → a ≤ b → frames_turns fs a ≤ frames_turns fs b
  frames_more [] a b h = omega arith
  frames_more (x ∷ fs) a b h =
      let i = turns_le (max (bound x.values x.rest) a + con_size x.branches) (max (bound x.values x.rest) b + con_size x.branches) (omega arith) in
      omega (arith, i)

  -- a lighter term, or an answer that weighs no more
  lighter_term : (t u : Term) (es ds : List Elim) (fs : List Frame) → at_spine g f u ds < at_spine g f t es → now_turns (AtTerm u ds) fs < now_turns (AtTerm t es) fs
  lighter_term t u es ds fs h =
      let x = turns_lt (at_spine g f u ds) (at_spine g f t es) h in
      let y = frames_more fs (at_spine g f u ds) (at_spine g f t es) (omega (arith, h)) in
      omega (arith, x, y)

  form_ends : (t : Term) (es : List Elim) (fs : List Frame) → now_turns (AtAnswer (Form t es)) fs < now_turns (AtTerm t es) fs
  form_ends t es fs = let x = turns_pos (at_spine g f t es) in omega (arith, x)

  blocked_ends : (m : ℕ) (t : Term) (es : List Elim) (fs : List Frame) → now_turns (AtAnswer (Blocked m t es)) fs < now_turns (AtTerm t es) fs
  blocked_ends m t es fs = let x = turns_pos (at_spine g f t es) in omega (arith, x)

  step_due : (u : Term) (ds : List Elim) (t : Term) (es : List Elim) (fs : List Frame) → now_turns (AtStep u ds) fs < now_turns (AtTerm t es) fs
  step_due u ds t es fs = omega arith

  calls : (i : ℕ) (es : List Elim) (T : Tree Term) (fs : List Frame) → tree_of g i ≡ Some T → now_turns (AtTree (Def i) es T [] es) fs < now_turns (AtTerm (Def i) es) fs
  calls i es T fs e =
      let w : weight g (Def i) ≡ 1 + tree_size T = ap (λ o. 1 + option_map_or tree_size o 0) e in
      let x = turns_lt (bound [] es + tree_size T) (at_spine g f (Def i) es) (omega (arith, w)) in
      omega (arith, x)

  -- the arguments of an application that weighs no more than b
  abbrev Inside : ℕ → Term → Type 0
  Inside b (App c t u) = (full_weight g f u ≤ b) × Inside b t
  Inside b _ = Unit {0}

  inside_light : (b : ℕ) (t : Term) → full_weight g f t ≤ b → Inside b t
  inside_light b (App c t u) h = (omega (arith, h), inside_light b t (omega (arith, h)))
  inside_light b (Var i) h = tt
  inside_light b (Sort n) h = tt
  inside_light b (Pi c x a t) h = tt
  inside_light b (Lam c x a t) h = tt
  inside_light b (Def i) h = tt
  inside_light b (Fam i) h = tt
  inside_light b (Con k ps) h = tt
  inside_light b (Proj i t) h = tt
  inside_light b (Meta m ts) h = tt

  inside_elims : (b : ℕ) (t : Term) (es : List Elim) → Inside b t → spine_weight g f es ≤ b → Inside b (elims t es)
  inside_elims b t [] p h = p
  inside_elims b t (Arg c u ∷ es) p h = inside_elims b (App c t u) es (omega (arith, h), p) (omega (arith, h))
  inside_elims b t (Field i ∷ es) p h = inside_elims b (Proj i t) es tt (omega (arith, h))

  con_args : (b : ℕ) (t : Term) (us : List Term) (c : ConApp) → con_app t us ≡ Some c → Inside b t → Light g f b us → Light g f b c.args
  con_args b (App a t u) us c e p q = con_args b t (u ∷ us) c e p.1 (p.0, q)
  con_args b (Con k ps) us c e p q = transport (λ c. Light g f b c.args) (one_some e) q
  con_args b (Var i) us c e p q = absurd cc
  con_args b (Sort n) us c e p q = absurd cc
  con_args b (Pi a x s t) us c e p q = absurd cc
  con_args b (Lam a x s t) us c e p q = absurd cc
  con_args b (Def i) us c e p q = absurd cc
  con_args b (Fam i) us c e p q = absurd cc
  con_args b (Proj i t) us c e p q = absurd cc
  con_args b (Meta m ts) us c e p q = absurd cc

  answer_args : (b : ℕ) (h : Term) (es : List Elim) (c : ConApp) → at_spine g f h es ≤ b → con_app (elims h es) [] ≡ Some c → Light g f b c.args
  answer_args b h es c l e = con_args b (elims h es) [] c e (inside_elims b h es (inside_light b h (omega (arith, l))) (omega (arith, l))) tt

  module _ (s : Solutions) where
    by_term : (t : Term) (es : List Elim) (fs : List Frame) → NotSolved s t → run_turns (by_next t es fs (next g s t es)) < suc (now_turns (AtTerm t es) fs)
    by_term (Var i) es fs p = let x = form_ends (Var i) es fs in omega (arith, x)
    by_term (Sort n) es fs p = let x = form_ends (Sort n) es fs in omega (arith, x)
    by_term (Pi b x a t) es fs p = let x = form_ends (Pi b x a t) es fs in omega (arith, x)
    by_term (Lam b x a t) [] fs p = let x = form_ends (Lam b x a t) [] fs in omega (arith, x)
    by_term (Lam b x a t) (Arg c u ∷ es) fs p =
        elim (same_flag b c) as (λ o. run_turns (by_next (Lam b x a t) (Arg c u ∷ es) fs (cond o (Becomes 1 (subst t 0 u) es) (Ends (Form (Lam b x a t) (Arg c u ∷ es))))) < suc (now_turns (AtTerm (Lam b x a t) (Arg c u ∷ es)) fs)) [
          | true ↦ let x = step_due (subst t 0 u) es (Lam b x a t) (Arg c u ∷ es) fs in omega (arith, x)
          | false ↦ let x = form_ends (Lam b x a t) (Arg c u ∷ es) fs in omega (arith, x)
        ]
    by_term (Lam b x a t) (Field i ∷ es) fs p = let x = form_ends (Lam b x a t) (Field i ∷ es) fs in omega (arith, x)
    by_term (App b t u) es fs p = let x = lighter_term (App b t u) t es (Arg b u ∷ es) fs (omega arith) in omega (arith, x)
    by_term (Def i) es fs p = by_tree (tree_of g i) refl
      where
        by_tree : (o : Option (Tree Term)) → tree_of g i ≡ o → run_turns (by_next (Def i) es fs (at_function (Def i) es o)) < suc (now_turns (AtTerm (Def i) es) fs)
        by_tree None e = let x = form_ends (Def i) es fs in omega (arith, x)
        by_tree (Some T) e = let x = calls i es T fs e in omega (arith, x)
    by_term (Fam d) es fs p = let x = form_ends (Fam d) es fs in omega (arith, x)
    by_term (Con k ps) es fs p = by_value (taken g k [] es)
      where
        by_value : (o : _) → run_turns (by_next (Con k ps) es fs (at_constructor (Con k ps) es o)) < suc (now_turns (AtTerm (Con k ps) es) fs)
        by_value None = let x = form_ends (Con k ps) es fs in omega (arith, x)
        by_value (Some q) = let x = step_due q.value q.rest (Con k ps) es fs in omega (arith, x)
    by_term (Proj i t) es fs p = let x = lighter_term (Proj i t) t es (Field i ∷ es) fs (omega arith) in omega (arith, x)
    by_term (Meta m ts) es fs p =
        transport (λ o. run_turns (by_next (Meta m ts) es fs (at_metavariable m ts es o)) < suc (now_turns (AtTerm (Meta m ts) es) fs)) (sym p) (let x = blocked_ends m (Meta m ts) es fs in omega (arith, x))

    -- a call that goes on at another node, or stays
    lighter_tree : (h : Term) (all : List Elim) (T U : Tree Term) (r q : List Term) (es ds : List Elim) (fs : List Frame) → bound q ds + tree_size U < bound r es + tree_size T → now_turns (AtTree h all U q ds) fs < now_turns (AtTree h all T r es) fs
    lighter_tree h all T U r q es ds fs l = let x = turns_lt (bound q ds + tree_size U) (bound r es + tree_size T) l in omega (arith, x)

    size_pos : (T : Tree Term) → 1 ≤ tree_size T
    size_pos (Leaf t i) = omega arith
    size_pos (Intro T) = omega arith
    size_pos (Cosplit bs) = omega arith
    size_pos (Split k bs) = omega arith
    size_pos (RecordSplit k d T) = omega arith
    size_pos (Absurd k) = omega arith

    stays_there : (h : Term) (all : List Elim) (T : Tree Term) (r : List Term) (es : List Elim) (fs : List Frame) → now_turns (AtAnswer (Form h all)) fs < now_turns (AtTree h all T r es) fs
    stays_there h all T r es fs = let p = size_pos T in let x = turns_lt 0 (bound r es + tree_size T) (omega (arith, p)) in omega (arith, x)

    by_tree : (h : Term) (all : List Elim) (T : Tree Term) (r : List Term) (es : List Elim) (fs : List Frame) → run_turns (by_node h all r es fs (next_node g T r es)) < suc (now_turns (AtTree h all T r es) fs)
    by_tree h all (Leaf t i) r es fs = let x = turns_pos (bound r es + 1) in omega (arith, x)
    by_tree h all (Intro T) r [] fs = let x = stays_there h all (Intro T) r [] fs in omega (arith, x)
    by_tree h all (Intro T) r (Arg b u ∷ es) fs = let x = lighter_tree h all (Intro T) T r (u ∷ r) (Arg b u ∷ es) es fs (omega arith) in omega (arith, x)
    by_tree h all (Intro T) r (Field i ∷ es) fs = let x = stays_there h all (Intro T) r (Field i ∷ es) fs in omega (arith, x)
    by_tree h all (Cosplit bs) r [] fs = let x = stays_there h all (Cosplit bs) r [] fs in omega (arith, x)
    by_tree h all (Cosplit bs) r (Arg b u ∷ es) fs = let x = stays_there h all (Cosplit bs) r (Arg b u ∷ es) fs in omega (arith, x)
    by_tree h all (Cosplit bs) r (Field i ∷ es) fs = by_branch (co_branch bs i) refl
      where
        by_branch : (o : Option (Tree Term)) → co_branch bs i ≡ o → run_turns (by_node h all r (Field i ∷ es) fs (at_field o r es)) < suc (now_turns (AtTree h all (Cosplit bs) r (Field i ∷ es)) fs)
        by_branch None e = let x = stays_there h all (Cosplit bs) r (Field i ∷ es) fs in omega (arith, x)
        by_branch (Some T) e =
            let z = co_branch_size bs i T e in
            let x = lighter_tree h all (Cosplit bs) T r r (Field i ∷ es) es fs (omega (arith, z)) in omega (arith, x)
    by_tree h all (Split k bs) r es fs =
        let b = bound r es in
        let v : full_weight g f (value_at r k) ≤ b = light_value g f b k r (light_heaviest r b (omega arith)) in
        let e : spine_weight g f [] ≡ 0 = refl in
        let x = turns_le (full_weight g f (value_at r k) + 0) (b + con_size bs) (omega (arith, v)) in
        let y = turns_le (max b (full_weight g f (value_at r k) + 0) + con_size bs) (b + con_size bs) (omega (arith, v)) in
        let z = turns_lt (b + con_size bs) (b + (1 + con_size bs)) (omega arith) in
        omega (arith, x, y, z)
    by_tree h all (RecordSplit k d T) r es fs =
        let b = bound r es in
        let v : full_weight g f (value_at r k) ≤ b = light_value g f b k r (light_heaviest r b (omega arith)) in
        let us = projections g d (value_at r k) in
        let l = light_spread g f (b + 2) k us r (light_projections g f b d (value_at r k) v) (light_more g f b (b + 2) (omega arith) r (light_heaviest r b (omega arith))) in
        let w = heaviest_light (spread k us r) (b + 2) l in
        let x = lighter_tree h all (RecordSplit k d T) T r (spread k us r) es es fs (omega (arith, w)) in
        omega (arith, x)
    by_tree h all (Absurd k) r es fs = let x = stays_there h all (Absurd k) r es fs in omega (arith, x)

    -- back at the innermost split
    by_answer : (x : Frame) (fs : List Frame) (w : Answer) (o : Choice) → choice g x.branches w ≡ o → run_turns (by_choice x fs o) < suc (now_turns (AtAnswer w) (x ∷ fs))
    by_answer x fs w Stays e = let y = turns_pos (max (bound x.values x.rest) (answer_weight g f w) + con_size x.branches) in omega (arith, y)
    by_answer x fs w (Waits m) e = let y = turns_pos (max (bound x.values x.rest) (answer_weight g f w) + con_size x.branches) in omega (arith, y)
    by_answer x fs (Blocked m h ds) (Enters b T us) e = absurd cc
    by_answer x fs (Form h ds) (Enters b T us) e =
        let c = max (bound x.values x.rest) (at_spine g f h ds) in
        let y = entered g x.branches (Form h ds) b T us e in
        let args = answer_args c h ds y.con (omega arith) (by_full_con g (elims h ds) y.con y.full).0 in
        let env = light_kept g f c b (spread x.place us x.values) (light_spread g f c x.place us x.values (transport (Light g f c) y.is args) (light_heaviest x.values c (omega arith))) in
        let size = con_branch_size x.branches y.con.con b T y.branch in
        let q = kept b (spread x.place us x.values) in
        let w = heaviest_light q c env in
        let z = turns_le (bound q x.rest + tree_size T) (c + con_size x.branches) (omega (arith, w, size)) in
        omega (arith, z)

    -- what is looked at is no metavariable that is solved
    abbrev pub IsPlain : Now → Type 0
    IsPlain (AtTerm t es) = NotSolved s t
    IsPlain (AtAnswer w) = Unit {0}
    IsPlain (AtTree h all T r es) = Unit {0}
    IsPlain (AtStep u es) = Unit {0}

    pub move_lighter : (x : Now) (fs : List Frame) → IsPlain x → run_turns (move g s x fs) < suc (now_turns x fs)
    move_lighter (AtTerm t es) fs p = by_term t es fs p
    move_lighter (AtTree h all T r es) fs p = by_tree h all T r es fs
    move_lighter (AtAnswer w) [] p = omega arith
    move_lighter (AtAnswer w) (x ∷ fs) p = by_answer x fs w (choice g x.branches w) refl
    move_lighter (AtStep u es) fs p = omega arith

    -- replacing a solved metavariable changes no weight
    pub comes_weight : (x : IsFull s f) {t u : Term} → Comes s t u → full_weight g f u ≡ full_weight g f t
    comes_weight x here = refl
    comes_weight x (by m ts t u e c) = comes_weight x c ∙ ap (weight g) (put_image f g s x m ts t e)
