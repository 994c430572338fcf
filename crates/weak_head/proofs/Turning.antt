-- A turn of the loop: it keeps what is to come, it is lighter, and heads stay bare.
use Rattle.std.specs.Prelude.{◌≡◌, ℕ, suc, ◌+◌, ◌<◌, ◌≤◌, true, false, cond, List, [], ◌∷◌, length, Option, Some, None, refl}
use Rattle.std.proofs.Common.{arith, sym, ap, ◌∙◌, subst, subst₂}
use Rattle.core_rules.specs.Term.{Term, Var, Sort, Pi, Lam, App, Def, Fam, Con, Proj, Meta}
use Rattle.core_rules.specs.Substitution.{subst as subst_term}
use Rattle.core_rules.specs.Signature.{Tree, Leaf, Intro, Cosplit, Split, RecordSplit, Absurd, Signature, tree_of, co_branch}
use Rattle.core_rules.specs.Elimination.{Elim, Arg, Field}
use Rattle.core_rules.specs.InScope.{IsAcyclic}
use Rattle.core_rules.specs.Heads.{Solutions, Answer, Form, Heads, taken, Choice, Enters, Stays, Waits, choice, HeadOf, Within, Out}
use Rattle.core_rules.specs.Bounded.{same_flag}
use Rattle.core_rules.specs.BoundedLaws.{Becomes, Ends, next, next_node, at_field, at_constructor, at_function, at_metavariable, IsFull}
use Rattle.core_rules.proofs.Heads.Resolve.{NotSolved}
use Rattle.term_pool.specs.Pool.{Pool, Extends}
use Rattle.core_terms.specs.Signature.{Stands, signature_in}
use Rattle.core_terms.specs.Solutions.{AreIn, solved_in, solved_in-stays}
use Rattle.core_terms.proofs.SignatureGrowth.{signature_in-extends}
use Rattle.weak_head.specs.Meanings.{Leads, Means, Whole, RunMeans, Settles}
use Rattle.weak_head.specs.Pending.{Now, AtTerm, AtTree, AtAnswer, AtStep, Frame, Run, Ended, Due, by_next, by_node, by_choice, move, Rests, IsTurn, IsBare, NowBare, FramesBare, RunBare}
use Rattle.weak_head.proofs.Leads.{leads_on, whole_leads, move_leads, comes_leads, ends, runs_out, goes_on}
use Rattle.weak_head.proofs.Lighter.{run_turns, now_turns, frames_turns, turns, move_lighter, comes_weight}
use Rattle.weak_head.proofs.Ranks.{put_in, full_among}
use Rattle.weak_head.proofs.Resolving.{among}
use Rattle.core_rules.proofs.Heads.Weight.{full_weight, spine_weight}

module _ (g : Signature Term) (s : Solutions) where
  term_bare : (t : Term) (es : List Elim) (fs : List Frame) → FramesBare fs → RunBare (by_next t es fs (next g s t es))
  term_bare (Var i) es fs h = (tt, h)
  term_bare (Sort n) es fs h = (tt, h)
  term_bare (Pi b x a t) es fs h = (tt, h)
  term_bare (Lam b x a t) [] fs h = (tt, h)
  term_bare (Lam b x a t) (Arg c u ∷ es) fs h =
      elim (same_flag b c) as (λ o. RunBare (by_next (Lam b x a t) (Arg c u ∷ es) fs (cond o (Becomes 1 (subst_term t 0 u) es) (Ends (Form (Lam b x a t) (Arg c u ∷ es)))))) [ true ↦ (tt, h) | false ↦ (tt, h) ]
  term_bare (Lam b x a t) (Field f ∷ es) fs h = (tt, h)
  term_bare (App b t u) es fs h = (tt, h)
  term_bare (Def f) es fs h = elim (tree_of g f) as (λ o. RunBare (by_next (Def f) es fs (at_function (Def f) es o))) [ None ↦ (tt, h) | Some T ↦ (tt, h) ]
  term_bare (Fam d) es fs h = (tt, h)
  term_bare (Con k ps) es fs h = elim (taken g k [] es) as (λ o. RunBare (by_next (Con k ps) es fs (at_constructor (Con k ps) es o))) [ None ↦ (tt, h) | Some p ↦ (tt, h) ]
  term_bare (Proj f t) es fs h = (tt, h)
  term_bare (Meta m ts) es fs h = elim (s m) as (λ o. RunBare (by_next (Meta m ts) es fs (at_metavariable m ts es o))) [ None ↦ (tt, h) | Some t ↦ (tt, h) ]

  tree_bare : (h : Term) (all : List Elim) (T : Tree Term) (r : List Term) (es : List Elim) (fs : List Frame) → IsBare h → FramesBare fs → RunBare (by_node h all r es fs (next_node g T r es))
  tree_bare h all (Leaf t i) r es fs b k = (tt, k)
  tree_bare h all (Intro T) r [] fs b k = (b, k)
  tree_bare h all (Intro T) r (Arg c u ∷ es) fs b k = (b, k)
  tree_bare h all (Intro T) r (Field i ∷ es) fs b k = (b, k)
  tree_bare h all (Cosplit bs) r [] fs b k = (b, k)
  tree_bare h all (Cosplit bs) r (Arg c u ∷ es) fs b k = (b, k)
  tree_bare h all (Cosplit bs) r (Field i ∷ es) fs b k = elim (co_branch bs i) as (λ o. RunBare (by_node h all r (Field i ∷ es) fs (at_field o r es))) [ None ↦ (b, k) | Some T ↦ (b, k) ]
  tree_bare h all (Split j bs) r es fs b k = (tt, (b, k))
  tree_bare h all (RecordSplit j d T) r es fs b k = (b, k)
  tree_bare h all (Absurd j) r es fs b k = (b, k)

  choice_bare : (f : Frame) (fs : List Frame) (o : Choice) → IsBare f.head → FramesBare fs → RunBare (by_choice f fs o)
  choice_bare f fs (Enters b T us) h k = (h, k)
  choice_bare f fs Stays h k = (h, k)
  choice_bare f fs (Waits m) h k = (h, k)

  move_bare : (x : Now) (fs : List Frame) → NowBare x → FramesBare fs → RunBare (move g s x fs)
  move_bare (AtTerm t es) fs h k = term_bare t es fs k
  move_bare (AtTree h all T r es) fs b k = tree_bare h all T r es fs b k
  move_bare (AtAnswer w) [] h k = h
  move_bare (AtAnswer w) (f ∷ fs) h k = choice_bare f fs (choice g f.branches w) k.0 k.1
  move_bare (AtStep u es) fs h k = k

  pub turn_bare : (x : Now) (fs : List Frame) (r : Run) → IsTurn g s x fs r → NowBare x → FramesBare fs → RunBare r
  turn_bare (AtTerm t es) fs r i h k = subst RunBare (sym i.is) (move_bare i.looked fs (subst NowBare (sym i.looks.2) tt) k)
  turn_bare (AtTree h all T q es) fs r i b k = subst RunBare (sym i.is) (move_bare i.looked fs (subst NowBare (sym i.looks) b) k)
  turn_bare (AtAnswer w) fs r i h k = subst RunBare (sym i.is) (move_bare i.looked fs (subst NowBare (sym i.looks) h) k)
  turn_bare (AtStep u es) fs r i h k = subst RunBare (sym i.is) (move_bare i.looked fs (subst NowBare (sym i.looks) tt) k)

  looked_leads : (x l : Now) (fs : List Frame) (r : Run) → l ≡ x → r ≡ move g s l fs → Settles g s x fs r
  looked_leads x l fs r e i = subst (λ r. Settles g s x fs r) (sym (i ∙ ap (λ l. move g s l fs) e)) (move_leads g s x fs)

  pub turn_leads : (x : Now) (fs : List Frame) (r : Run) → IsTurn g s x fs r → Settles g s x fs r
  turn_leads (AtTerm t es) fs r i =
      let u = i.looks.0 in
      leads_on 0 0 (whole_leads g s fs 0 (comes_leads g s es i.looks.1.comes)) (looked_leads (AtTerm u es) i.looked fs r i.looks.2 i.is)
  turn_leads (AtTree h all T q es) fs r i = looked_leads (AtTree h all T q es) i.looked fs r i.looks i.is
  turn_leads (AtAnswer w) fs r i = looked_leads (AtAnswer w) i.looked fs r i.looks i.is
  turn_leads (AtStep u es) fs r i = looked_leads (AtStep u es) i.looked fs r i.looks i.is

  not_solved : (u : Term) → Rests s u → NotSolved s u
  not_solved (Meta m ts) h = h m ts refl
  not_solved (Var i) h = tt
  not_solved (Sort n) h = tt
  not_solved (Pi b x a t) h = tt
  not_solved (Lam b x a t) h = tt
  not_solved (App b t v) h = tt
  not_solved (Def f) h = tt
  not_solved (Fam d) h = tt
  not_solved (Con k ps) h = tt
  not_solved (Proj f t) h = tt

  module _ (f : Solutions) (full : IsFull s f) where
    pub turn_lighter : (x : Now) (fs : List Frame) (r : Run) → IsTurn g s x fs r → run_turns g f r < suc (now_turns g f x fs)
    turn_lighter (AtTerm t es) fs r i =
        let u = i.looks.0 in
        let m = move_lighter g f s (AtTerm u es) fs (not_solved u i.looks.1.rests) in
        let same : full_weight g f u ≡ full_weight g f t = comes_weight g f s full i.looks.1.comes in
        let e : now_turns g f (AtTerm u es) fs ≡ now_turns g f (AtTerm t es) fs = ap (λ w. 1 + turns (w + spine_weight g f es) + frames_turns g f fs (w + spine_weight g f es)) same in
        let d : run_turns g f r ≡ run_turns g f (move g s (AtTerm u es) fs) = ap (run_turns g f) (i.is ∙ ap (λ l. move g s l fs) i.looks.2) in
        omega (arith, m, e, d)
    turn_lighter (AtTree h all T q es) fs r i =
        let m = move_lighter g f s (AtTree h all T q es) fs tt in
        let d : run_turns g f r ≡ run_turns g f (move g s (AtTree h all T q es) fs) = ap (run_turns g f) (i.is ∙ ap (λ l. move g s l fs) i.looks) in
        omega (arith, m, d)
    turn_lighter (AtAnswer w) fs r i =
        let m = move_lighter g f s (AtAnswer w) fs tt in
        let d : run_turns g f r ≡ run_turns g f (move g s (AtAnswer w) fs) = ap (run_turns g f) (i.is ∙ ap (λ l. move g s l fs) i.looks) in
        omega (arith, m, d)
    turn_lighter (AtStep u es) fs r i =
        let m = move_lighter g f s (AtStep u es) fs tt in
        let d : run_turns g f r ≡ run_turns g f (move g s (AtStep u es) fs) = ap (run_turns g f) (i.is ∙ ap (λ l. move g s l fs) i.looks) in
        omega (arith, m, d)

-- the same signature and solutions as the pool grows
module _ {p q : Pool} (e : Extends p q) (sig : Signature ℕ) (stands : Stands p sig) (f : ℕ → Option ℕ) (known : AreIn p f) where
  pub turn_at : {x : Now} {fs : List Frame} {r : Run} → IsTurn (signature_in q sig) (solved_in q f) x fs r → IsTurn (signature_in p sig) (solved_in p f) x fs r
  turn_at {x} {fs} {r} i = subst₂ (λ g s. IsTurn g s x fs r) (signature_in-extends p q sig e stands) (solved_in-stays p q f e known) i

  pub acyclic_at : IsAcyclic (solved_in p f) → IsAcyclic (solved_in q f)
  acyclic_at a = subst IsAcyclic (sym (solved_in-stays p q f e known)) a

-- what makes the number fall
abbrev pub whole_solutions : Pool → (ℕ → Option ℕ) → Solutions
whole_solutions p f = put_in (length p.trees) (solved_in p f)

pub whole_full : (p : Pool) (f : ℕ → Option ℕ) → AreIn p f → IsAcyclic (solved_in p f) → IsFull (solved_in p f) (whole_solutions p f)
whole_full p f h a = full_among p.trees (solved_in p f) (among p f h) a

-- ---- from one step to the next

module _ (g : Signature Term) (s : Solutions) (t : Term) (used : ℕ) (x : Now) (fs : List Frame) (r : Run)
    (l : Leads (Heads g s t []) used (Whole g s fs (Means g s x))) (k : Settles g s x fs r) where
  led : Leads (Heads g s t []) used (RunMeans g s r)
  led = let e : used + 0 ≡ used = omega arith in subst (λ n. Leads (Heads g s t []) n (RunMeans g s r)) e (leads_on used 0 l k)

  pub answered : (fuel : ℕ) (w : Answer) → r ≡ Ended w → used ≤ fuel → HeadOf g s t fuel (Within w used)
  answered fuel w e h = ends t used fuel w (subst (λ r. Leads (Heads g s t []) used (RunMeans g s r)) e led) h

  pub ran_out : (fuel : ℕ) (u : Term) (es : List Elim) (ds : List Frame) → r ≡ Due u es ds → fuel ≤ used → HeadOf g s t fuel Out
  ran_out fuel u es ds e h = runs_out g s t used fuel u es ds (subst (λ r. Leads (Heads g s t []) used (RunMeans g s r)) e led) h

  pub stepped : (u v : Term) (es es' : List Elim) (ds ds' : List Frame) → r ≡ Due u es ds → v ≡ u → es' ≡ es → ds' ≡ ds → Leads (Heads g s t []) (used + 1) (Whole g s ds' (Means g s (AtTerm v es')))
  stepped u v es es' ds ds' e a b c =
      let here : Leads (Heads g s t []) (used + 1) (Whole g s ds (Means g s (AtTerm u es))) = leads_on used 1 (subst (λ r. Leads (Heads g s t []) used (RunMeans g s r)) e led) (goes_on g s u es ds) in
      subst (λ ds. Leads (Heads g s t []) (used + 1) (Whole g s ds (Means g s (AtTerm v es')))) (sym c)
      (subst₂ (λ u es. Leads (Heads g s t []) (used + 1) (Whole g s ds (Means g s (AtTerm u es)))) (sym a) (sym b) here)

pub settled_at : {p q : Pool} → Extends p q → (sig : Signature ℕ) → Stands p sig → (f : ℕ → Option ℕ) → AreIn p f → (x : Now) (fs : List Frame) (r : Run) → Settles (signature_in q sig) (solved_in q f) x fs r → Settles (signature_in p sig) (solved_in p f) x fs r
settled_at {p} {q} e sig stands f known x fs r k = subst₂ (λ g s. Settles g s x fs r) (signature_in-extends p q sig e stands) (solved_in-stays p q f e known) k
