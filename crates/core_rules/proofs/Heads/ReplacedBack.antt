-- What a term comes to when solved metavariables are replaced in it, it comes to with the solutions.
use Rattle.std.specs.Prelude.{◌≡◌, ℕ, ◌+◌, Bool, true, false, cond, List, [], ◌∷◌, map, refl, Option, Some, None, option_map, suc}
use Rattle.std.proofs.Common.{ap, ap₂, sym, ◌∙◌, arith, subst as transport}
use Rattle.core_rules.specs.Term.{Term, Var, Sort, Pi, Lam, App, Def, Fam, Con, Proj, Meta}
use Rattle.core_rules.specs.Substitution.{subst, under, value_at, put_solution, replace, replace_all}
use Rattle.core_rules.specs.Signature.{Tree, Leaf, Intro, Cosplit, Split, RecordSplit, Absurd, ConBranches, co_branch, Signature, tree_of}
use Rattle.core_rules.specs.Mapped.{tree_map, con_branches_map, branch_map}
use Rattle.core_rules.specs.Elimination.{Elim, Arg, Field, projections}
use Rattle.core_rules.specs.Run.{spread, kept}
use Rattle.core_rules.specs.InScope.{IsAcyclic}
use Rattle.core_rules.specs.Heads.{Solutions, Answer, Form, Blocked, Taken, taken, Choice, Enters, Stays, Waits, choice, IsForm, IsStuck, Heads, form, argument, projection, beta, project, replaced, unsolved, call, Follows, leaf, intro, cosplit, split, record_split, stuck, After, enters, stays, waits}
use Rattle.core_rules.specs.Bounded.{same_flag}
use Rattle.core_rules.specs.BoundedLaws.{Next, Ends, Becomes, Calls, at_constructor, at_function, at_metavariable, next, HeadsBy, NextNode, Unfolds, GoesOn, Asks, StaysThere, at_field, next_node, FollowsBy, no_solutions, replace_elims, replace_answer, IsFull}
use Rattle.core_rules.proofs.Heads.Mapped.{tree_of-map, co_branch-map, fields_of-map}
use Rattle.core_rules.proofs.Heads.Replace.{replace-subst, replace-under, replace-value_at}
use Rattle.core_rules.proofs.Heads.Next.{same_flag-true, same_flag-refl, heads_by_next, follows_by_next}
use Rattle.core_rules.proofs.Heads.Replaced.{image, taken_map, taken-image, choice_map, choice-image, heads_answer, map-kept, map-spread, map-projections}
use Rattle.core_rules.proofs.Heads.Resolve.{NotSolved, resolve}

-- a form and a stuck tree come next to what they are
form_ends : (g : Signature Term) (s : Solutions) (t : Term) (es : List Elim) → IsForm g t es → next g s t es ≡ Ends (Form t es)
form_ends g s (Var i) es p = refl
form_ends g s (Sort n) es p = refl
form_ends g s (Pi b x a t) es p = refl
form_ends g s (Lam b x a t) [] p = refl
form_ends g s (Lam b x a t) (Arg c u ∷ es) p = by_flag (same_flag b c) refl
  where
    by_flag : (o : Bool) → same_flag b c ≡ o → cond o (Becomes 1 (subst t 0 u) es) (Ends (Form (Lam b x a t) (Arg c u ∷ es))) ≡ Ends (Form (Lam b x a t) (Arg c u ∷ es))
    by_flag true e = absurd (p (same_flag-true b c e))
    by_flag false e = refl
form_ends g s (Lam b x a t) (Field f ∷ es) p = refl
form_ends g s (App b t u) es p = absurd p
form_ends g s (Def f) es p = ap (at_function (Def f) es) p
form_ends g s (Fam d) es p = refl
form_ends g s (Con k ps) es p = ap (at_constructor (Con k ps) es) p
form_ends g s (Proj f t) es p = absurd p
form_ends g s (Meta m ts) es p = absurd p

module _ (f : Solutions) where
  abbrev next_map : Next → Next
  next_map (Ends w) = Ends (replace_answer f w)
  next_map (Becomes k t es) = Becomes k (replace f t) (replace_elims f es)
  next_map (Calls T) = Calls (tree_map (replace f) T)

  abbrev node_map : NextNode → NextNode
  node_map (Unfolds t) = Unfolds (replace f t)
  node_map (GoesOn T r es) = GoesOn (tree_map (replace f) T) (map (replace f) r) (replace_elims f es)
  node_map (Asks k bs) = Asks k (con_branches_map (replace f) bs)
  node_map StaysThere = StaysThere

  -- what an equation with an image says
  ends_from : (N : Next) (w : Answer) → next_map N ≡ Ends w → (v : Answer) × (N ≡ Ends v) × (replace_answer f v ≡ w)
  ends_from (Ends v) w e = (v, refl, cc)
  ends_from (Becomes k t es) w e = absurd cc
  ends_from (Calls T) w e = absurd cc

  becomes_from : (N : Next) (k : ℕ) (t : Term) (es : List Elim) → next_map N ≡ Becomes k t es → (u : Term) × (ds : List Elim) × (N ≡ Becomes k u ds) × (replace f u ≡ t) × (replace_elims f ds ≡ es)
  becomes_from (Ends v) k t es e = absurd cc
  becomes_from (Becomes j u ds) k t es e = let x : j ≡ k = cc in (u, ds, ap (λ j. Becomes j u ds) x, cc, cc)
  becomes_from (Calls T) k t es e = absurd cc

  calls_from : (N : Next) (T : Tree Term) → next_map N ≡ Calls T → (S : Tree Term) × (N ≡ Calls S) × (tree_map (replace f) S ≡ T)
  calls_from (Ends v) T e = absurd cc
  calls_from (Becomes j u ds) T e = absurd cc
  calls_from (Calls S) T e = (S, refl, cc)

  unfolds_from : (N : NextNode) (t : Term) → node_map N ≡ Unfolds t → (u : Term) × (N ≡ Unfolds u) × (replace f u ≡ t)
  unfolds_from (Unfolds u) t e = (u, refl, cc)
  unfolds_from (GoesOn T r es) t e = absurd cc
  unfolds_from (Asks k bs) t e = absurd cc
  unfolds_from StaysThere t e = absurd cc

  goes_from : (N : NextNode) (T : Tree Term) (r : List Term) (es : List Elim) → node_map N ≡ GoesOn T r es
      → (S : Tree Term) × (q : List Term) × (ds : List Elim) × (N ≡ GoesOn S q ds) × (tree_map (replace f) S ≡ T) × (map (replace f) q ≡ r) × (replace_elims f ds ≡ es)
  goes_from (Unfolds u) T r es e = absurd cc
  goes_from (GoesOn S q ds) T r es e = (S, q, ds, refl, cc, cc, cc)
  goes_from (Asks k bs) T r es e = absurd cc
  goes_from StaysThere T r es e = absurd cc

  asks_from : (N : NextNode) (k : ℕ) (bs : ConBranches Term) → node_map N ≡ Asks k bs → (cs : ConBranches Term) × (N ≡ Asks k cs) × (con_branches_map (replace f) cs ≡ bs)
  asks_from (Unfolds u) k bs e = absurd cc
  asks_from (GoesOn S q ds) k bs e = absurd cc
  asks_from (Asks j cs) k bs e = let x : j ≡ k = cc in (cs, ap (λ j. Asks j cs) x, cc)
  asks_from StaysThere k bs e = absurd cc

  stays_from : (N : NextNode) → node_map N ≡ StaysThere → N ≡ StaysThere
  stays_from (Unfolds u) e = absurd cc
  stays_from (GoesOn S q ds) e = absurd cc
  stays_from (Asks k bs) e = absurd cc
  stays_from StaysThere e = refl

  module _ (g : Signature Term) (s : Solutions) (x : IsFull s f) where
    next-image : (t : Term) (es : List Elim) → NotSolved s t → next (image f g) no_solutions (replace f t) (replace_elims f es) ≡ next_map (next g s t es)
    next-image (Var i) es p = refl
    next-image (Sort n) es p = refl
    next-image (Pi b y a t) es p = refl
    next-image (Lam b y a t) [] p = refl
    next-image (Lam b y a t) (Arg c u ∷ es) p =
        let L = Lam b y a t in
        ap (λ v. cond (same_flag b c) (Becomes 1 v (replace_elims f es)) (Ends (Form (replace f L) (replace_elims f (Arg c u ∷ es))))) (sym (replace-subst f t 0 u))
        ∙ (elim (same_flag b c) as (λ o. cond o (Becomes 1 (replace f (subst t 0 u)) (replace_elims f es)) (Ends (Form (replace f L) (replace_elims f (Arg c u ∷ es)))) ≡ next_map (cond o (Becomes 1 (subst t 0 u) es) (Ends (Form L (Arg c u ∷ es))))) [ true ↦ refl | false ↦ refl ])
    next-image (Lam b y a t) (Field i ∷ es) p = refl
    next-image (App b t u) es p = refl
    next-image (Def i) es p = ap (at_function (Def i) (replace_elims f es)) (tree_of-map (replace f) g i) ∙ by_tree (tree_of g i)
      where
        by_tree : (o : Option (Tree Term)) → at_function (Def i) (replace_elims f es) (option_map (tree_map (replace f)) o) ≡ next_map (at_function (Def i) es o)
        by_tree None = refl
        by_tree (Some T) = refl
    next-image (Fam d) es p = refl
    next-image (Con k ps) es p = ap (at_constructor (replace f (Con k ps)) (replace_elims f es)) (taken-image f g k [] es) ∙ by_taken (taken g k [] es)
      where
        by_taken : (o : Option Taken) → at_constructor (replace f (Con k ps)) (replace_elims f es) (option_map (taken_map f g) o) ≡ next_map (at_constructor (Con k ps) es o)
        by_taken None = refl
        by_taken (Some q) = refl
    next-image (Proj i t) es p = refl
    next-image (Meta m ts) es p =
        let e = x.unsolved m p in
        ap (λ o. next (image f g) no_solutions (put_solution m (replace_all f ts) o) (replace_elims f es)) e
        ∙ (ap (λ o. Ends (Blocked m (put_solution m (replace_all f ts) o) (replace_elims f es))) (sym e)
        ∙ ap (λ o. next_map (at_metavariable m ts es o)) (sym p))

    node-image : (T : Tree Term) (r : List Term) (es : List Elim) → next_node (image f g) (tree_map (replace f) T) (map (replace f) r) (replace_elims f es) ≡ node_map (next_node g T r es)
    node-image (Leaf t i) r es = ap Unfolds (sym (replace-under f r t))
    node-image (Intro T) r [] = refl
    node-image (Intro T) r (Arg b u ∷ es) = refl
    node-image (Intro T) r (Field i ∷ es) = refl
    node-image (Cosplit bs) r [] = refl
    node-image (Cosplit bs) r (Arg b u ∷ es) = refl
    node-image (Cosplit bs) r (Field i ∷ es) = ap (λ o. at_field o (map (replace f) r) (replace_elims f es)) (co_branch-map (replace f) bs i) ∙ by_branch (co_branch bs i)
      where
        by_branch : (o : Option (Tree Term)) → at_field (option_map (tree_map (replace f)) o) (map (replace f) r) (replace_elims f es) ≡ node_map (at_field o r es)
        by_branch None = refl
        by_branch (Some T) = refl
    node-image (Split k bs) r es = refl
    node-image (RecordSplit k d T) r es =
        ap (λ q. GoesOn (tree_map (replace f) T) q (replace_elims f es))
        (ap (λ us. spread k us (map (replace f) r)) (ap₂ (λ is u. map (λ i. Proj i u) is) (fields_of-map (replace f) g d) (sym (replace-value_at f r k)) ∙ sym (map-projections f g d (value_at r k)))
        ∙ sym (map-spread f k (projections g d (value_at r k)) r))
    node-image (Absurd k) r es = refl

stuck_stays : (g : Signature Term) (T : Tree Term) (r : List Term) (es : List Elim) → IsStuck T es → next_node g T r es ≡ StaysThere
stuck_stays g (Leaf t i) r es p = absurd p
stuck_stays g (Intro T) r [] p = refl
stuck_stays g (Intro T) r (Arg b u ∷ es) p = absurd p
stuck_stays g (Intro T) r (Field i ∷ es) p = refl
stuck_stays g (Cosplit bs) r [] p = refl
stuck_stays g (Cosplit bs) r (Arg b u ∷ es) p = refl
stuck_stays g (Cosplit bs) r (Field i ∷ es) p = ap (λ o. at_field o r es) p
stuck_stays g (Split k bs) r es p = absurd p
stuck_stays g (RecordSplit k d T) r es p = absurd p
stuck_stays g (Absurd k) r es p = refl

module _ (f : Solutions) (g : Signature Term) (s : Solutions) (x : IsFull s f) (a : IsAcyclic s) where
  -- an answer with the solutions, whose image is w
  pub record Back (P : Answer → Type 0) (w : Answer) : Type 0 where
    pub answer : Answer
    pub holds : P answer
    pub is : replace_answer f answer ≡ w

  -- what comes next at a term, from what comes next at its image
  seen : (t : Term) (es : List Elim) (u : Term) (ds : List Elim) → replace f t ≡ u → replace_elims f es ≡ ds → next (image f g) no_solutions u ds ≡ next_map f (next g s (resolve g s f x a t).term es)
  seen t es u ds e k =
      let r = resolve g s f x a t in
      ap₂ (λ u ds. next (image f g) no_solutions u ds) (sym (r.same ∙ e)) (sym k) ∙ next-image f g s x r.term es r.not_solved

  by_next : (t : Term) (es : List Elim) (N : Next) (v : Answer) (n : ℕ) → next g s (resolve g s f x a t).term es ≡ N → HeadsBy g s (resolve g s f x a t).term es N v n → Heads g s t es v n
  by_next t es N v n e h =
      let r = resolve g s f x a t in
      r.heads es v n ((heads_by_next g s r.term es v n).1 (transport (λ N. HeadsBy g s r.term es N v n) (sym e) h))

  ends_back : (t : Term) (es : List Elim) (w : Answer) → next_map f (next g s (resolve g s f x a t).term es) ≡ Ends w → Back (λ v. Heads g s t es v 0) w
  ends_back t es w e = let h = ends_from f (next g s (resolve g s f x a t).term es) w e in record { answer = h.0; holds = by_next t es (Ends h.0) h.0 0 h.1 (refl, refl); is = h.2 }

  becomes_back : (t : Term) (es : List Elim) (k : ℕ) (u : Term) (ds : List Elim) (w : Answer) (n m : ℕ) → m ≡ k + n → next_map f (next g s (resolve g s f x a t).term es) ≡ Becomes k u ds
      → ((t : Term) (es : List Elim) → replace f t ≡ u → replace_elims f es ≡ ds → Back (λ v. Heads g s t es v n) w) → Back (λ v. Heads g s t es v m) w
  becomes_back t es k u ds w n m q e rec =
      let h = becomes_from f (next g s (resolve g s f x a t).term es) k u ds e in
      let b = rec h.0 h.1 h.3 h.4 in
      record { answer = b.answer; holds = by_next t es (Becomes k h.0 h.1) b.answer m h.2 (n, b.holds, q); is = b.is }

  module _ (h : Term) (all : List Elim) where
    seen_node : (T : Tree Term) (r : List Term) (es : List Elim) (S : Tree Term) (q : List Term) (ds : List Elim) → tree_map (replace f) T ≡ S → map (replace f) r ≡ q → replace_elims f es ≡ ds
        → next_node (image f g) S q ds ≡ node_map f (next_node g T r es)
    seen_node T r es S q ds e k l =
        transport (λ S. next_node (image f g) S q ds ≡ node_map f (next_node g T r es)) e
        (transport (λ q. next_node (image f g) (tree_map (replace f) T) q ds ≡ node_map f (next_node g T r es)) k
        (transport (λ ds. next_node (image f g) (tree_map (replace f) T) (map (replace f) r) ds ≡ node_map f (next_node g T r es)) l (node-image f g s x T r es)))

    by_node : (T : Tree Term) (r : List Term) (es : List Elim) (N : NextNode) (v : Answer) (n : ℕ) → next_node g T r es ≡ N → FollowsBy g s h all r es N v n → Follows g s h all T r es v n
    by_node T r es N v n e y = (follows_by_next g s h all T r es v n).1 (transport (λ N. FollowsBy g s h all r es N v n) (sym e) y)

    goes_back : (T : Tree Term) (r : List Term) (es : List Elim) (S : Tree Term) (q : List Term) (ds : List Elim) (w : Answer) (n : ℕ) → node_map f (next_node g T r es) ≡ GoesOn S q ds
        → ((T : Tree Term) (r : List Term) (es : List Elim) → tree_map (replace f) T ≡ S → map (replace f) r ≡ q → replace_elims f es ≡ ds → Back (λ v. Follows g s h all T r es v n) w)
        → Back (λ v. Follows g s h all T r es v n) w
    goes_back T r es S q ds w n e rec =
        let y = goes_from f (next_node g T r es) S q ds e in
        let b = rec y.0 y.1 y.2 y.4 y.5 y.6 in
        record { answer = b.answer; holds = by_node T r es (GoesOn y.0 y.1 y.2) b.answer n y.3 b.holds; is = b.is }

  mutual
    pub heads_back : {u : Term} {ds : List Elim} {w : Answer} {n : ℕ} → Heads (image f g) no_solutions u ds w n → (t : Term) (es : List Elim) → replace f t ≡ u → replace_elims f es ≡ ds → Back (λ v. Heads g s t es v n) w
    heads_back {u} {ds} (form p) t es e k = ends_back t es (Form u ds) (sym (seen t es u ds e k) ∙ form_ends (image f g) no_solutions u ds p)
    heads_back {ds = ds} {w = w} {n = n} (argument {b = b} {t = u} {u = v} d) t es e k =
        becomes_back t es 0 u (Arg b v ∷ ds) w n n (omega arith) (sym (seen t es (App b u v) ds e k)) (λ t es e k. heads_back d t es e k)
    heads_back {ds = ds} {w = w} {n = n} (projection {f = i} {t = u} d) t es e k =
        becomes_back t es 0 u (Field i ∷ ds) w n n (omega arith) (sym (seen t es (Proj i u) ds e k)) (λ t es e k. heads_back d t es e k)
    heads_back {w = w} (beta {b = b} {c = c} {x = y} {a = z} {t = v} {u = u} {es = ds} {n = n} i d) t es e k =
        let o : same_flag b c ≡ true = transport (λ c. same_flag b c ≡ true) i (same_flag-refl b) in
        becomes_back t es 1 (subst v 0 u) ds w n (suc n) (omega arith)
        (sym (seen t es (Lam b y z v) (Arg c u ∷ ds) e k) ∙ ap (λ o. cond o (Becomes 1 (subst v 0 u) ds) (Ends (Form (Lam b y z v) (Arg c u ∷ ds)))) o)
        (λ t es e k. heads_back d t es e k)
    heads_back {ds = ds} {w = w} (project {k = j} {ps = ps} {p = p} {n = n} i d) t es e k =
        becomes_back t es 1 p.value p.rest w n (suc n) (omega arith) (sym (seen t es (Con j ps) ds e k) ∙ ap (at_constructor (Con j ps) ds) i) (λ t es e k. heads_back d t es e k)
    heads_back (replaced i d) t es e k = absurd cc
    heads_back {ds = ds} (unsolved {m = m} {ts = ts} i) t es e k = ends_back t es (Blocked m (Meta m ts) ds) (sym (seen t es (Meta m ts) ds e k))
    heads_back {ds = ds} {w = w} {n = n} (call {f = j} {T = T} i d) t es e k =
        let r = resolve g s f x a t in
        let y = calls_from f (next g s r.term es) T (sym (seen t es (Def j) ds e k) ∙ ap (at_function (Def j) ds) i) in
        let b = follows_back d r.term es y.0 [] es (r.same ∙ e) k y.2 refl k in
        record { answer = b.answer; holds = by_next t es (Calls y.0) b.answer n y.1 b.holds; is = b.is }

    follows_back : {h' : Term} {all' ds : List Elim} {S : Tree Term} {q : List Term} {w : Answer} {n : ℕ} → Follows (image f g) no_solutions h' all' S q ds w n
        → (h : Term) (all : List Elim) (T : Tree Term) (r : List Term) (es : List Elim) → replace f h ≡ h' → replace_elims f all ≡ all' → tree_map (replace f) T ≡ S → map (replace f) r ≡ q → replace_elims f es ≡ ds
        → Back (λ v. Follows g s h all T r es v n) w
    follows_back {ds = ds} {q = q} (leaf {t = u} {i = i} {n = n} d) h all T r es e e' j k l =
        let y = unfolds_from f (next_node g T r es) (under q u) (sym (seen_node h all T r es (Leaf u i) q ds j k l)) in
        let b = heads_back d y.0 es y.2 l in
        record { answer = b.answer; holds = by_node h all T r es (Unfolds y.0) b.answer (suc n) y.1 (n, b.holds, omega arith); is = b.is }
    follows_back {q = q} {w = w} {n = n} (intro {u = u} {b = b} {es = ds} {T = S} d) h all T r es e e' j k l =
        goes_back h all T r es S (u ∷ q) ds w n (sym (seen_node h all T r es (Intro S) q (Arg b u ∷ ds) j k l)) (λ T r es j k l. follows_back d h all T r es e e' j k l)
    follows_back {q = q} {w = w} {n = n} (cosplit {f = i} {es = ds} {bs = bs} {T = S} y d) h all T r es e e' j k l =
        goes_back h all T r es S q ds w n (sym (seen_node h all T r es (Cosplit bs) q (Field i ∷ ds) j k l) ∙ ap (λ o. at_field o q ds) y) (λ T r es j k l. follows_back d h all T r es e e' j k l)
    follows_back {ds = ds} {q = q} {w = w} (split {k = i} {bs = bs} {v = v'} {m = m} {n = n} d c) h all T r es e e' j k l =
        let y = asks_from f (next_node g T r es) i bs (sym (seen_node h all T r es (Split i bs) q ds j k l)) in
        let b = heads_back d (value_at r i) [] (replace-value_at f r i ∙ ap (λ q. value_at q i) k) refl in
        let o : choice_map f g (choice g y.0 b.answer) ≡ choice (image f g) bs v' = sym (choice-image f g y.0 b.answer (heads_answer b.holds)) ∙ ap₂ (choice (image f g)) y.2 b.is in
        let z = after_back c h all r es (choice g y.0 b.answer) e e' k l o in
        record { answer = z.answer; holds = by_node h all T r es (Asks i y.0) z.answer (m + n) y.1 (b.answer, m, n, b.holds, z.holds, refl); is = z.is }
    follows_back {ds = ds} {q = q} {w = w} {n = n} (record_split {k = i} {d = p} {T = S} d) h all T r es e e' j k l =
        goes_back h all T r es S (spread i (projections (image f g) p (value_at q i)) q) ds w n (sym (seen_node h all T r es (RecordSplit i p S) q ds j k l)) (λ T r es j k l. follows_back d h all T r es e e' j k l)
    follows_back {ds = ds} {S = S} {q = q} (stuck p) h all T r es e e' j k l =
        let y = stays_from f (next_node g T r es) (sym (seen_node h all T r es S q ds j k l) ∙ stuck_stays (image f g) S q ds p) in
        record { answer = Form h all; holds = by_node h all T r es StaysThere (Form h all) 0 y (refl, refl); is = ap₂ Form e e' }

    after_back : {h' : Term} {all' ds : List Elim} {i : ℕ} {q : List Term} {c' : Choice} {w : Answer} {n : ℕ} → After (image f g) no_solutions h' all' i q ds c' w n
        → (h : Term) (all : List Elim) (r : List Term) (es : List Elim) (c : Choice) → replace f h ≡ h' → replace_elims f all ≡ all' → map (replace f) r ≡ q → replace_elims f es ≡ ds → choice_map f g c ≡ c'
        → Back (λ v. After g s h all i r es c v n) w
    after_back {i = i} {q = q} (enters {us = vs} {b = b'} {T = S} d) h all r es (Enters b T us) e e' k l o =
        let p : branch_map (replace f) b ≡ b' = cc in
        let t : tree_map (replace f) T ≡ S = cc in
        let v : map (replace f) us ≡ vs = cc in
        let m : map (replace f) (kept b (spread i us r)) ≡ kept b' (spread i vs q) = map-kept f b (spread i us r) ∙ ap₂ kept p (map-spread f i us r ∙ ap₂ (spread i) v k) in
        let y = follows_back d h all T (kept b (spread i us r)) es e e' t m l in
        record { answer = y.answer; holds = enters y.holds; is = y.is }
    after_back (enters d) h all r es Stays e e' k l o = absurd cc
    after_back (enters d) h all r es (Waits m) e e' k l o = absurd cc
    after_back stays h all r es (Enters b T us) e e' k l o = absurd cc
    after_back stays h all r es Stays e e' k l o = record { answer = Form h all; holds = stays; is = ap₂ Form e e' }
    after_back stays h all r es (Waits m) e e' k l o = absurd cc
    after_back (waits {m = m}) h all r es (Enters b T us) e e' k l o = absurd cc
    after_back (waits {m = m}) h all r es Stays e e' k l o = absurd cc
    after_back (waits {m = m}) h all r es (Waits j) e e' k l o =
        let y : j ≡ m = cc in
        record { answer = Blocked j h all; holds = waits; is = ap (λ j. Blocked j (replace f h) (replace_elims f all)) y ∙ ap₂ (Blocked m) e e' }
