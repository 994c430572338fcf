-- A term under eliminations has one head form and one number of steps.
use Rattle.std.proofs.Common.{◌≡◌, ℕ, suc, ◌+◌, List, [], Option, Some, None, refl, sym, ap, ap₂, ◌∙◌, subst as transport}
use Rattle.core_rules.specs.Term.{Term, Def}
use Rattle.core_rules.specs.Substitution.{put_solution}
use Rattle.core_rules.specs.Signature.{Branch, Tree, ConBranches, con_branch, Signature}
use Rattle.core_rules.specs.Run.{ConApp, full_con}
use Rattle.core_rules.specs.Elimination.{Elim, elims}
use Rattle.core_rules.specs.Heads.{Solutions, Answer, Form, Blocked, Choice, Waits, enter, branch_at, choice, IsForm, IsStuck, Heads, form, argument, projection, beta, project, replaced, unsolved, call, Follows, leaf, intro, cosplit, split, record_split, stuck, After, enters, stays, waits}

-- the same answer and number
abbrev pub Agree : Answer → ℕ → Answer → ℕ → Type 0
Agree v n w m = (v ≡ w) × (n ≡ m)

pub one_some : {A : Type 0} {x y : A} → Some x ≡ Some y → x ≡ y
one_some e = cc

more : {v w : Answer} {n m : ℕ} → Agree v n w m → Agree v (suc n) w (suc m)
more e = (e.0, ap suc e.1)

form_one : {g : Signature Term} {s : Solutions} {h : Term} {es : List Elim} {w : Answer} {m : ℕ} → IsForm g h es → Heads g s h es w m → Agree (Form h es) 0 w m
form_one p (form _) = (refl, refl)
form_one p (argument d) = absurd p
form_one p (projection d) = absurd p
form_one p (beta e d) = absurd (p e)
form_one p (project e d) = let x : ⊥ = cc in absurd x
form_one p (replaced e d) = absurd p
form_one p (unsolved e) = absurd p
form_one p (call e d) = let x : ⊥ = cc in absurd x

stuck_one : {g : Signature Term} {s : Solutions} {h : Term} {all es : List Elim} {T : Tree Term} {r : List Term} {w : Answer} {m : ℕ} → IsStuck T es → Follows g s h all T r es w m → Agree (Form h all) 0 w m
stuck_one p (stuck _) = (refl, refl)
stuck_one p (leaf d) = absurd p
stuck_one p (intro d) = absurd p
stuck_one p (cosplit e d) = let x : ⊥ = cc in absurd x
stuck_one p (split d a) = absurd p
stuck_one p (record_split d) = absurd p

mutual
  pub heads_one : {g : Signature Term} {s : Solutions} {t : Term} {es : List Elim} {v w : Answer} {n m : ℕ} → Heads g s t es v n → Heads g s t es w m → Agree v n w m
  heads_one (form p) e = form_one p e
  heads_one (argument d) (argument e) = heads_one d e
  heads_one (argument d) (form p) = absurd p
  heads_one (projection d) (projection e) = heads_one d e
  heads_one (projection d) (form p) = absurd p
  heads_one (beta e d) (beta f k) = more (heads_one d k)
  heads_one (beta e d) (form p) = absurd (p e)
  heads_one {g} {s} {w = w} (project e d) (project {n = n} f k) = more (heads_one d (transport (λ p. Heads g s p.value p.rest w n) (one_some (sym f ∙ e)) k))
  heads_one (project e d) (form p) = let x : ⊥ = cc in absurd x
  heads_one {g} {s} {es = es} {w = w} {m = m} (replaced {m = i} {ts = ts} e d) (replaced f k) = heads_one d (transport (λ t. Heads g s (put_solution i ts (Some t)) es w m) (one_some (sym f ∙ e)) k)
  heads_one (replaced e d) (unsolved f) = let x : ⊥ = cc in absurd x
  heads_one (replaced e d) (form p) = absurd p
  heads_one (unsolved e) (unsolved f) = (refl, refl)
  heads_one (unsolved e) (replaced f k) = let x : ⊥ = cc in absurd x
  heads_one (unsolved e) (form p) = absurd p
  heads_one {g} {s} {es = es} {w = w} {m = m} (call {f = i} e d) (call f k) = follows_one d (transport (λ T. Follows g s (Def i) es T [] es w m) (one_some (sym f ∙ e)) k)
  heads_one (call e d) (form p) = let x : ⊥ = cc in absurd x

  pub follows_one : {g : Signature Term} {s : Solutions} {h : Term} {all es : List Elim} {T : Tree Term} {r : List Term} {v w : Answer} {n m : ℕ} → Follows g s h all T r es v n → Follows g s h all T r es w m → Agree v n w m
  follows_one (stuck p) e = stuck_one p e
  follows_one (leaf d) (leaf e) = more (heads_one d e)
  follows_one (leaf d) (stuck p) = absurd p
  follows_one (intro d) (intro e) = follows_one d e
  follows_one (intro d) (stuck p) = absurd p
  follows_one {g} {s} {h} {all} {w = w} {m = m} (cosplit {es = es} {r = r} e d) (cosplit f k) = follows_one d (transport (λ T. Follows g s h all T r es w m) (one_some (sym f ∙ e)) k)
  follows_one (cosplit e d) (stuck p) = let x : ⊥ = cc in absurd x
  follows_one {g} {s} {h} {all} {es} {r = r} {w = w} (split {k = k} {bs = bs} d a) (split {n = n} d' a') =
      let x : Agree _ _ _ _ = heads_one d d' in
      let y : Agree _ _ w n = after_one a (transport (λ v. After g s h all k r es (choice g bs v) w n) (sym x.0) a') in
      (y.0, ap₂ ◌+◌ x.1 y.1)
  follows_one (split d a) (stuck p) = absurd p
  follows_one (record_split d) (record_split e) = follows_one d e
  follows_one (record_split d) (stuck p) = absurd p

  pub after_one : {g : Signature Term} {s : Solutions} {h : Term} {all es : List Elim} {k : ℕ} {r : List Term} {c : Choice} {v w : Answer} {n m : ℕ} → After g s h all k r es c v n → After g s h all k r es c w m → Agree v n w m
  after_one (enters d) (enters e) = follows_one d e
  after_one stays stays = (refl, refl)
  after_one waits waits = (refl, refl)

-- a metavariable for which an answer waits has no solution
abbrev IsOpen : Solutions → Answer → Type 0
IsOpen s (Form h es) = Unit {0}
IsOpen s (Blocked m h es) = s m ≡ None

abbrev ChoiceIsOpen : Solutions → Choice → Type 0
ChoiceIsOpen s (Waits m) = s m ≡ None
ChoiceIsOpen s _ = Unit {0}

branch_open : (s : Solutions) (bs : ConBranches Term) (o : Option ConApp) → ChoiceIsOpen s (branch_at bs o)
branch_open s bs None = tt
branch_open s bs (Some c) = entered (con_branch bs c.con)
  where
    entered : (o : Option (Branch Term × Tree Term)) → ChoiceIsOpen s (enter c.args o)
    entered None = tt
    entered (Some p) = tt

choice_open : (g : Signature Term) (s : Solutions) (bs : ConBranches Term) (v : Answer) → IsOpen s v → ChoiceIsOpen s (choice g bs v)
choice_open g s bs (Blocked m h es) p = p
choice_open g s bs (Form h es) p = branch_open s bs (full_con g (elims h es))

mutual
  heads_open : {g : Signature Term} {s : Solutions} {t : Term} {es : List Elim} {w : Answer} {n : ℕ} → Heads g s t es w n → IsOpen s w
  heads_open (form p) = tt
  heads_open (argument d) = heads_open d
  heads_open (projection d) = heads_open d
  heads_open (beta e d) = heads_open d
  heads_open (project e d) = heads_open d
  heads_open (replaced e d) = heads_open d
  heads_open (unsolved e) = e
  heads_open (call e d) = follows_open d

  follows_open : {g : Signature Term} {s : Solutions} {h : Term} {all es : List Elim} {T : Tree Term} {r : List Term} {w : Answer} {n : ℕ} → Follows g s h all T r es w n → IsOpen s w
  follows_open (leaf d) = heads_open d
  follows_open (intro d) = follows_open d
  follows_open (cosplit e d) = follows_open d
  follows_open {g} {s} (split {bs = bs} {v = v} d a) = after_open a (choice_open g s bs v (heads_open d))
  follows_open (record_split d) = follows_open d
  follows_open (stuck p) = tt

  after_open : {g : Signature Term} {s : Solutions} {h : Term} {all es : List Elim} {k : ℕ} {r : List Term} {c : Choice} {w : Answer} {n : ℕ} → After g s h all k r es c w n → ChoiceIsOpen s c → IsOpen s w
  after_open (enters d) p = follows_open d
  after_open stays p = tt
  after_open waits p = p

pub heads_blocked : {g : Signature Term} {s : Solutions} {t h : Term} {es ds : List Elim} {m n : ℕ} → Heads g s t es (Blocked m h ds) n → s m ≡ None
heads_blocked d = heads_open d
