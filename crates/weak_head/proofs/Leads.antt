-- What a run on its way has still to come to, and that each move keeps it.
use Rattle.std.proofs.Common.{◌≡◌, ℕ, true, false, cond, zero, suc, ◌+◌, ◌≤◌, List, [], ◌∷◌, Some, None, refl, sym, ap, ◌∙◌, subst, arith, add_assoc}
use Rattle.core_rules.specs.Term.{Term, Terms, Var, Sort, Pi, Lam, App, Def, Fam, Con, Proj, Meta}
use Rattle.core_rules.specs.Substitution.{subst as subst_term, put_solution}
use Rattle.core_rules.specs.Signature.{Tree, Signature, tree_of}
use Rattle.core_rules.specs.Elimination.{Elim, Arg, Field}
use Rattle.core_rules.specs.Heads.{Solutions, Answer, Form, taken, Choice, Enters, Stays, Waits, choice, Heads, Follows, After, replaced, HeadOf, Within, Out}
use Rattle.core_rules.specs.BoundedLaws.{Next, Ends, Becomes, Calls, next, HeadsBy, NextNode, Unfolds, GoesOn, Asks, StaysThere, next_node, FollowsBy, AfterBy, at_constructor, at_function, at_metavariable}
use Rattle.core_rules.specs.Bounded.{same_flag}
use Rattle.core_rules.proofs.Heads.Next.{heads_by_next, follows_by_next, after_by_next}
use Rattle.weak_head.specs.Meanings.{Meaning, Leads, Means, Resumes, Whole, RunMeans}
use Rattle.weak_head.specs.Pending.{Now, AtTerm, AtTree, AtAnswer, AtStep, Frame, by_next, by_node, by_choice, move, Comes, here, by}

pub leads_zero : {M : Meaning} {N : Meaning} → ((w : Answer) (n : ℕ) → N w n → M w n) → ((w : Answer) (n : ℕ) → M w n → N w n) → Leads M 0 N
leads_zero {M} {N} f g = record {
  from = λ w n x. let e : n ≡ 0 + n = omega arith in subst (λ k. M w k) e (f w n x);
  only = λ w n x. (n, omega arith, g w n x);
}

pub leads_same : {M : Meaning} → Leads M 0 M
leads_same = leads_zero (λ w n x. x) (λ w n x. x)

pub leads_on : {M : Meaning} {N : Meaning} {P : Meaning} (j k : ℕ) → Leads M j N → Leads N k P → Leads M (j + k) P
leads_on {M} {N} {P} j k a b = record {
  from = λ w n x. subst (λ i. M w i) (sym (add_assoc j k n)) (a.from w (k + n) (b.from w n x));
  only = λ w n x. let y = a.only w n x in let z = b.only w y.0 y.2 in (z.0, omega (arith, y.1, z.1), z.2);
}

module _ (g : Signature Term) (s : Solutions) where
  resumes_leads : {M : Meaning} {N : Meaning} (f : Frame) (k : ℕ) → Leads M k N → Leads (Resumes g s f M) k (Resumes g s f N)
  resumes_leads f k a = record {
    from = λ w n x. record { value = x.value; before = k + x.before; later = x.later; first = a.from x.value x.before x.first; then_on = x.then_on; total = omega (arith, x.total) };
    only = λ w n x. let y = a.only x.value x.before x.first in
        (y.0 + x.later, omega (arith, x.total, y.1), record { value = x.value; before = y.0; later = x.later; first = y.2; then_on = x.then_on; total = refl });
  }

  pub whole_leads : (fs : List Frame) (k : ℕ) {M : Meaning} {N : Meaning} → Leads M k N → Leads (Whole g s fs M) k (Whole g s fs N)
  whole_leads [] k a = a
  whole_leads (f ∷ fs) k {M} {N} a = whole_leads fs k {M = Resumes g s f M} {N = Resumes g s f N} (resumes_leads f k a)

  -- what comes next takes one step at most
  one_step : (t : Term) (es : List Elim) (k : ℕ) (u : Term) (ds : List Elim) → next g s t es ≡ Becomes (suc k) u ds → k ≡ 0
  one_step (Lam b x a t) (Arg c v ∷ es) k u ds e =
      (elim (same_flag b c) as (λ o. cond o (Becomes 1 (subst_term t 0 v) es) (Ends (Form (Lam b x a t) (Arg c v ∷ es))) ≡ Becomes (suc k) u ds → k ≡ 0) [ true ↦ λ e. number e | false ↦ λ e. absurd cc ]) e
    where
      number : {t' : Term} {es' : List Elim} → Becomes 1 t' es' ≡ Becomes (suc k) u ds → k ≡ 0
      number e = let h : 1 ≡ suc k = cc in omega (arith, h)
  one_step (Con i ps) es k u ds e =
      (elim (taken g i [] es) as (λ o. at_constructor (Con i ps) es o ≡ Becomes (suc k) u ds → k ≡ 0) [ None ↦ λ e. absurd cc | Some p ↦ λ e. number e ]) e
    where
      number : {t' : Term} {es' : List Elim} → Becomes 1 t' es' ≡ Becomes (suc k) u ds → k ≡ 0
      number e = let h : 1 ≡ suc k = cc in omega (arith, h)
  one_step (Def f) es k u ds e =
      (elim (tree_of g f) as (λ o. at_function (Def f) es o ≡ Becomes (suc k) u ds → k ≡ 0) [ None ↦ λ e. absurd cc | Some T ↦ λ e. absurd cc ]) e
  one_step (Meta m ts) es k u ds e =
      (elim (s m) as (λ o. at_metavariable m ts es o ≡ Becomes (suc k) u ds → k ≡ 0) [ None ↦ λ e. absurd cc | Some v ↦ λ e. absurd (number e) ]) e
    where
      number : {t' : Term} {es' : List Elim} → Becomes 0 t' es' ≡ Becomes (suc k) u ds → ⊥
      number e = let h : 0 ≡ suc k = cc in omega (arith, h)
  one_step (App b t v) es k u ds e = let h : 0 ≡ suc k = cc in absurd (omega (arith, h))
  one_step (Proj f t) es k u ds e = let h : 0 ≡ suc k = cc in absurd (omega (arith, h))
  one_step (Lam b x a t) [] k u ds e = absurd cc
  one_step (Lam b x a t) (Field f ∷ es) k u ds e = absurd cc
  one_step (Var i) es k u ds e = absurd cc
  one_step (Sort n) es k u ds e = absurd cc
  one_step (Pi b x a t) es k u ds e = absurd cc
  one_step (Fam d) es k u ds e = absurd cc

  -- by the ten kinds of term
  next_leads : (t : Term) (es : List Elim) (fs : List Frame) (o : Next) → next g s t es ≡ o → Leads (Whole g s fs (Means g s (AtTerm t es))) 0 (RunMeans g s (by_next t es fs o))
  next_leads t es fs (Ends v) e = whole_leads fs 0 (leads_zero (λ w n x. (heads_by_next g s t es w n).1 (back w n x)) (λ w n x. forth w n ((heads_by_next g s t es w n).0 x)))
    where
      back : (w : Answer) (n : ℕ) → Means g s (AtAnswer v) w n → HeadsBy g s t es (next g s t es) w n
      back w n x = subst (λ o. HeadsBy g s t es o w n) (sym e) x

      forth : (w : Answer) (n : ℕ) → HeadsBy g s t es (next g s t es) w n → Means g s (AtAnswer v) w n
      forth w n x = subst (λ o. HeadsBy g s t es o w n) e x
  next_leads t es fs (Becomes zero u ds) e = whole_leads fs 0 (leads_zero (λ w n x. (heads_by_next g s t es w n).1 (back w n x)) (λ w n x. forth w n ((heads_by_next g s t es w n).0 x)))
    where
      back : (w : Answer) (n : ℕ) → Heads g s u ds w n → HeadsBy g s t es (next g s t es) w n
      back w n x = subst (λ o. HeadsBy g s t es o w n) (sym e) (n, x, omega arith)

      forth : (w : Answer) (n : ℕ) → HeadsBy g s t es (next g s t es) w n → Heads g s u ds w n
      forth w n x = let y : HeadsBy g s t es (Becomes zero u ds) w n = subst (λ o. HeadsBy g s t es o w n) e x in let j : y.0 ≡ n = omega (arith, y.2) in subst (λ k. Heads g s u ds w k) j y.1
  next_leads t es fs (Becomes (suc k) u ds) e = whole_leads fs 0 (leads_zero (λ w n x. (heads_by_next g s t es w n).1 (back w n x)) (λ w n x. forth w n ((heads_by_next g s t es w n).0 x)))
    where
      z : k ≡ 0
      z = one_step t es k u ds e

      back : (w : Answer) (n : ℕ) → Means g s (AtStep u ds) w n → HeadsBy g s t es (next g s t es) w n
      back w n x = subst (λ o. HeadsBy g s t es o w n) (sym e) (x.0, x.1, omega (arith, x.2, z))

      forth : (w : Answer) (n : ℕ) → HeadsBy g s t es (next g s t es) w n → Means g s (AtStep u ds) w n
      forth w n x = let y : HeadsBy g s t es (Becomes (suc k) u ds) w n = subst (λ o. HeadsBy g s t es o w n) e x in (y.0, y.1, omega (arith, y.2, z))
  next_leads t es fs (Calls T) e = whole_leads fs 0 (leads_zero (λ w n x. (heads_by_next g s t es w n).1 (subst (λ o. HeadsBy g s t es o w n) (sym e) x)) (λ w n x. subst (λ o. HeadsBy g s t es o w n) e ((heads_by_next g s t es w n).0 x)))

  -- by the six forms of tree
  node_alike : (h : Term) (all : List Elim) (T : Tree Term) (r : List Term) (es : List Elim) (o : NextNode) {N : Meaning} → next_node g T r es ≡ o → Leads (λ w n. FollowsBy g s h all r es o w n) 0 N → Leads (λ w n. Follows g s h all T r es w n) 0 N
  node_alike h all T r es o {N} e l = leads_on 0 0 (leads_zero back forth) l
    where
      back : (w : Answer) (n : ℕ) → FollowsBy g s h all r es o w n → Follows g s h all T r es w n
      back w n x = (follows_by_next g s h all T r es w n).1 (subst (λ o. FollowsBy g s h all r es o w n) (sym e) x)

      forth : (w : Answer) (n : ℕ) → Follows g s h all T r es w n → FollowsBy g s h all r es o w n
      forth w n x = subst (λ o. FollowsBy g s h all r es o w n) e ((follows_by_next g s h all T r es w n).0 x)

  node_leads : (h : Term) (all : List Elim) (T : Tree Term) (r : List Term) (es : List Elim) (fs : List Frame) (o : NextNode) → next_node g T r es ≡ o → Leads (Whole g s fs (Means g s (AtTree h all T r es))) 0 (RunMeans g s (by_node h all r es fs o))
  node_leads h all T r es fs (Unfolds t) e = whole_leads fs 0 (node_alike h all T r es (Unfolds t) e (leads_zero (λ w n x. x) (λ w n x. x)))
  node_leads h all T r es fs (GoesOn U q ds) e = whole_leads fs 0 (node_alike h all T r es (GoesOn U q ds) e (leads_zero (λ w n x. x) (λ w n x. x)))
  node_leads h all T r es fs (Asks k bs) e = whole_leads fs 0 (node_alike h all T r es (Asks k bs) e (leads_zero
      (λ w n x. (x.value, x.before, x.later, x.first, x.then_on, x.total))
      (λ w n x. record { value = x.0; before = x.1; later = x.2; first = x.3; then_on = x.4; total = x.5 })))
  node_leads h all T r es fs StaysThere e = whole_leads fs 0 (node_alike h all T r es StaysThere e (leads_zero (λ w n x. x) (λ w n x. x)))

  -- the value of the innermost split has its answer
  back_alike : (f : Frame) (v : Answer) (o : Choice) {N : Meaning} → choice g f.branches v ≡ o → Leads (λ w n. AfterBy g s f.head f.all f.place f.values f.rest o w n) 0 N → Leads (Resumes g s f (Means g s (AtAnswer v))) 0 N
  back_alike f v o {N} e l = leads_on 0 0 (leads_zero back forth) l
    where
      back : (w : Answer) (n : ℕ) → AfterBy g s f.head f.all f.place f.values f.rest o w n → Resumes g s f (Means g s (AtAnswer v)) w n
      back w n x = record { value = v; before = 0; later = n; first = (refl, refl); then_on = subst (λ c. After g s f.head f.all f.place f.values f.rest c w n) (sym e) ((after_by_next g s f.head f.all f.place f.values f.rest o w n).1 x); total = omega arith }

      forth : (w : Answer) (n : ℕ) → Resumes g s f (Means g s (AtAnswer v)) w n → AfterBy g s f.head f.all f.place f.values f.rest o w n
      forth w n x =
          let c : choice g f.branches x.value ≡ o = ap (choice g f.branches) x.first.0 ∙ e in
          let a : After g s f.head f.all f.place f.values f.rest o w x.later = subst (λ c. After g s f.head f.all f.place f.values f.rest c w x.later) c x.then_on in
          let j : x.later ≡ n = omega (arith, x.total, x.first.1) in
          subst (λ i. AfterBy g s f.head f.all f.place f.values f.rest o w i) j ((after_by_next g s f.head f.all f.place f.values f.rest o w x.later).0 a)

  back_leads : (f : Frame) (fs : List Frame) (v : Answer) (o : Choice) → choice g f.branches v ≡ o → Leads (Whole g s (f ∷ fs) (Means g s (AtAnswer v))) 0 (RunMeans g s (by_choice f fs o))
  back_leads f fs v (Enters b T us) e = whole_leads fs 0 (back_alike f v (Enters b T us) e (leads_zero (λ w n x. x) (λ w n x. x)))
  back_leads f fs v Stays e = whole_leads fs 0 (back_alike f v Stays e (leads_zero (λ w n x. x) (λ w n x. x)))
  back_leads f fs v (Waits m) e = whole_leads fs 0 (back_alike f v (Waits m) e (leads_zero (λ w n x. x) (λ w n x. x)))

  pub move_leads : (x : Now) (fs : List Frame) → Leads (Whole g s fs (Means g s x)) 0 (RunMeans g s (move g s x fs))
  move_leads (AtTerm t es) fs = next_leads t es fs (next g s t es) refl
  move_leads (AtTree h all T r es) fs = node_leads h all T r es fs (next_node g T r es) refl
  move_leads (AtAnswer w) [] = leads_same
  move_leads (AtAnswer w) (f ∷ fs) = back_leads f fs w (choice g f.branches w) refl
  move_leads (AtStep u es) fs = leads_same

  -- a solved metavariable at the head is replaced
  replaced_leads : (m : ℕ) (ts : Terms) (t : Term) (es : List Elim) → s m ≡ Some t → Leads (Heads g s (Meta m ts) es) 0 (Heads g s (put_solution m ts (Some t)) es)
  replaced_leads m ts t es e = leads_zero (λ w n x. replaced e x) (λ w n x. forth w n ((heads_by_next g s (Meta m ts) es w n).0 x))
    where
      forth : (w : Answer) (n : ℕ) → HeadsBy g s (Meta m ts) es (at_metavariable m ts es (s m)) w n → Heads g s (put_solution m ts (Some t)) es w n
      forth w n x = let y : HeadsBy g s (Meta m ts) es (at_metavariable m ts es (Some t)) w n = subst (λ o. HeadsBy g s (Meta m ts) es (at_metavariable m ts es o) w n) e x in
          let j : y.0 ≡ n = omega (arith, y.2) in subst (λ k. Heads g s (put_solution m ts (Some t)) es w k) j y.1

  pub comes_leads : {t u : Term} (es : List Elim) → Comes s t u → Leads (Heads g s t es) 0 (Heads g s u es)
  comes_leads es here = leads_same
  comes_leads es (by m ts t u e c) = leads_on 0 0 (replaced_leads m ts t es e) (comes_leads es c)

-- what the bounded head form is, by what the run has still to come to
pub starts : {g : Signature Term} {s : Solutions} (t : Term) → Leads (Heads g s t []) 0 (Whole g s [] (Means g s (AtTerm t [])))
starts t = leads_same

pub ends : {g : Signature Term} {s : Solutions} (t : Term) (used fuel : ℕ) (w : Answer) → Leads (Heads g s t []) used (Means g s (AtAnswer w)) → used ≤ fuel → HeadOf g s t fuel (Within w used)
ends {g} {s} t used fuel w l h = let e : used + 0 ≡ used = omega arith in (subst (λ k. Heads g s t [] w k) e (l.from w 0 (refl, refl)), h)

-- each answer of a run at which a step is due takes a step more
module _ (g : Signature Term) (s : Solutions) where
  due_whole : (fs : List Frame) {M : Meaning} → ((w : Answer) (n : ℕ) → M w n → 1 ≤ n) → (w : Answer) (n : ℕ) → Whole g s fs M w n → 1 ≤ n
  due_whole [] h w n x = h w n x
  due_whole (f ∷ fs) {M} h w n x = due_whole fs {M = Resumes g s f M} (λ v k y. let i = h y.value y.before y.first in omega (arith, i, y.total)) w n x

  pub runs_out : (t : Term) (used fuel : ℕ) (u : Term) (es : List Elim) (fs : List Frame) → Leads (Heads g s t []) used (Whole g s fs (Means g s (AtStep u es))) → fuel ≤ used → HeadOf g s t fuel Out
  runs_out t used fuel u es fs l h = λ w n d. let x = l.only w n d in let i = due_whole fs (λ v k y. omega (arith, y.2)) w x.0 x.2 in omega (arith, x.1, i, h)

  pub goes_on : (u : Term) (es : List Elim) (fs : List Frame) → Leads (Whole g s fs (Means g s (AtStep u es))) 1 (Whole g s fs (Means g s (AtTerm u es)))
  goes_on u es fs = whole_leads g s fs 1 (record { from = λ w n x. (n, x, refl); only = λ w n x. (x.0, x.2, x.1) })
