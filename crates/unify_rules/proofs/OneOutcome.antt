-- The unifier has one answer.
use Rattle.std.specs.Prelude.{◌≡◌, ℕ, ◌<◌, ◌⊎◌, Bool, true, false, ◌||◌, eqb, suc, List, [], ◌∷◌, Some, refl}
use Rattle.std.proofs.Common.{ap, ap₂, sym, ◌∙◌, subst as transport, arith, inl, inr}
use Rattle.core_rules.specs.Term.{Term, Var, Sort, Pi, Lam, App, Def, Fam, Con, Proj, Meta, occurs}
use Rattle.core_rules.specs.Signature.{Signature}
use Rattle.core_rules.specs.Elimination.{Elim, Arg, Field}
use Rattle.core_rules.specs.Heads.{Answer, Within, Out, HeadOf}
use Rattle.core_rules.specs.Bounded as B
use Rattle.core_rules.specs.Bounded.{Verdict, Yes, No, WaitsFor}
use Rattle.core_rules.specs.BoundedLaws.{no_solutions, shown}
use Rattle.core_rules.specs.Unification.{Equation, eq, State, CanSolve, con_spine, Pairs, no_pair, pair, UnderCon, inside, InOne, it, deeper, later}
use Rattle.core_rules.proofs.Heads.OneAnswer.{one_some}
use Rattle.core_rules.proofs.Heads.Sound.{eqb_same}
use Rattle.core_rules.proofs.Heads.OneVerdict.{head_of_one, conv_of_one}
use Rattle.unify_rules.specs.Unifier.{Outcome, Conflict, Cycle, Rule, Solve, Inject, Ends, Chosen, left_one, right_one, SameCon, same_con, OtherCon, other_con, Cycles, cycles_left, cycles_right, Applies, solves, injects, conflicts, cycles, sticks, Ruled, Next, Answers, Goes, after, Turn, done, out_left, out_right, turn, Unify, answers, goes}

-- the equations of the arguments
abbrev pub argument_equations : List Elim → List Elim → List Equation
argument_equations (Arg b t ∷ es) (Arg c u ∷ ds) = eq t u ∷ argument_equations es ds
argument_equations _ _ = []

pub pairs_are : {xs ys : List Elim} {qs : List Equation} → Pairs xs ys qs → qs ≡ argument_equations xs ys
pairs_are no_pair = refl
pairs_are (pair {t = t} {u = u} p) = ap (λ l. eq t u ∷ l) (pairs_are p)

pairs_one : {xs ys : List Elim} {qs rs : List Equation} → Pairs xs ys qs → Pairs xs ys rs → qs ≡ rs
pairs_one p q = pairs_are p ∙ sym (pairs_are q)

con_one : (t : Term) (p q : ℕ × List Elim) → con_spine t [] ≡ Some p → con_spine t [] ≡ Some q → (p.0 ≡ q.0) × (p.1 ≡ q.1)
con_one t p q a b = let e : p ≡ q = cc in (ap (λ z. z.0) e, ap (λ z. z.1) e)

under_no_var : {x y : ℕ} → UnderCon x (Var y) → ⊥
under_no_var (inside e a) = cc

same_one : {t u : Term} {qs rs : List Equation} → SameCon t u qs → SameCon t u rs → qs ≡ rs
same_one {t} {u} {qs} {rs} (same_con {k = c} {xs = xs} {ys = ys} a b p) (same_con {k = c'} {xs = xs'} {ys = ys'} a' b' p') =
    let e : xs' ≡ xs = (con_one t (c', xs') (c, xs) a' a).1 in let f : ys' ≡ ys = (con_one u (c', ys') (c, ys) b' b).1 in pairs_one p (transport (λ z. Pairs z ys rs) e (transport (λ z. Pairs xs' z rs) f p'))

same_other : {t u : Term} {qs : List Equation} {c d : ℕ} → SameCon t u qs → OtherCon t u c d → ⊥
same_other {t} {u} {c = c} {d = d} (same_con {k = k} {xs = xs} {ys = ys} a b p) (other_con {xs = xs'} {ys = ys'} a' b' n) = n ((con_one t (c, xs') (k, xs) a' a).0 ∙ (con_one u (k, ys) (d, ys') b b').0)

other_one : {t u : Term} {a b c d : ℕ} → OtherCon t u a b → OtherCon t u c d → Conflict a b ≡ Conflict c d
other_one {t} {u} {a} {b} {c} {d} (other_con {xs = xs} {ys = ys} p q n) (other_con {xs = xs'} {ys = ys'} p' q' n') = ap₂ Conflict (con_one t (a, xs) (c, xs') p p').0 (con_one u (b, ys) (d, ys') q q').0

chosen_one : {ts : List Term} {t u v w : Term} {x y : ℕ} → Chosen ts t u x v → Chosen ts t u y w → Solve x v ≡ Solve y w
chosen_one (left_one h l) (left_one k m) = refl
chosen_one (left_one {x = x} h l) (right_one {y = y} k m) = let a : x < y = l y refl k in let b : y < x = m x refl h in absurd (omega arith)
chosen_one (right_one h l) (right_one k m) = refl
chosen_one (right_one {y = y} h l) (left_one {x = x} k m) = let a : y < x = l x refl k in let b : x < y = m y refl h in absurd (omega arith)

chosen_same : {ts : List Term} {t u v : Term} {x : ℕ} {qs : List Equation} → Chosen ts t u x v → SameCon t u qs → ⊥
chosen_same (left_one h l) (same_con a b p) = cc
chosen_same (right_one h l) (same_con a b p) = cc

chosen_other : {ts : List Term} {t u v : Term} {x c d : ℕ} → Chosen ts t u x v → OtherCon t u c d → ⊥
chosen_other (left_one h l) (other_con a b p) = cc
chosen_other (right_one h l) (other_con a b p) = cc

-- what stands in a term under constructors occurs in it
pub or_left : (a b : Bool) → a ≡ true → a || b ≡ true
or_left true b e = refl
or_left false b e = absurd cc

pub or_right : (a b : Bool) → b ≡ true → a || b ≡ true
or_right true b e = refl
or_right false b e = e

pub or_true : (a b : Bool) → a || b ≡ true → (a ≡ true) ⊎ (b ≡ true)
or_true true b e = inl refl
or_true false b e = inr e

-- x occurs in one of the eliminations
abbrev occurs_one : ℕ → List Elim → Bool
occurs_one x [] = false
occurs_one x (Arg b u ∷ es) = occurs x u || occurs_one x es
occurs_one x (Field f ∷ es) = occurs_one x es

spine_occurs : (x : ℕ) (t : Term) (es : List Elim) (k : ℕ) (ds : List Elim) → con_spine t es ≡ Some (k, ds) → occurs_one x ds ≡ true → (occurs x t ≡ true) ⊎ (occurs_one x es ≡ true)
spine_occurs x (Con i ps) es k ds e h = let f : es ≡ ds = ap (λ p. p.1) (one_some e) in inr (ap (occurs_one x) f ∙ h)
spine_occurs x (App b t u) es k ds e h = by_rest (spine_occurs x t (Arg b u ∷ es) k ds e h)
  where
    by_arg : (occurs x u ≡ true) ⊎ (occurs_one x es ≡ true) → (occurs x t || occurs x u ≡ true) ⊎ (occurs_one x es ≡ true)
    by_arg (inl a) = inl (or_right (occurs x t) (occurs x u) a)
    by_arg (inr a) = inr a

    by_rest : (occurs x t ≡ true) ⊎ (occurs x u || occurs_one x es ≡ true) → (occurs x t || occurs x u ≡ true) ⊎ (occurs_one x es ≡ true)
    by_rest (inl a) = inl (or_left (occurs x t) (occurs x u) a)
    by_rest (inr a) = by_arg (or_true (occurs x u) (occurs_one x es) a)
spine_occurs x (Var i) es k ds e h = absurd cc
spine_occurs x (Sort i) es k ds e h = absurd cc
spine_occurs x (Pi b y a t) es k ds e h = absurd cc
spine_occurs x (Lam b y a t) es k ds e h = absurd cc
spine_occurs x (Def i) es k ds e h = absurd cc
spine_occurs x (Fam i) es k ds e h = absurd cc
spine_occurs x (Proj i t) es k ds e h = absurd cc
spine_occurs x (Meta i ps) es k ds e h = absurd cc

mutual
  under_occurs : {x : ℕ} {t : Term} → UnderCon x t → occurs x t ≡ true
  under_occurs {x} {t} (inside {k = k} {es = es} e a) = by_spine (spine_occurs x t [] k es e (one_occurs a))
    where
      by_spine : (occurs x t ≡ true) ⊎ (false ≡ true) → occurs x t ≡ true
      by_spine (inl h) = h
      by_spine (inr h) = absurd cc

  one_occurs : {x : ℕ} {es : List Elim} → InOne x es → occurs_one x es ≡ true
  one_occurs {x} (it {es = es}) = or_left (eqb x x) (occurs_one x es) (eqb_same x)
  one_occurs {x} (deeper {t = t} {es = es} h) = or_left (occurs x t) (occurs_one x es) (under_occurs h)
  one_occurs {x} (later {e = Arg b u} {es = es} h) = or_right (occurs x u) (occurs_one x es) (one_occurs h)
  one_occurs {x} (later {e = Field f} {es = es} h) = one_occurs h

under_solve : {ts : List Term} {x : ℕ} {t : Term} → UnderCon x t → CanSolve ts x t → ⊥
under_solve h c = let e = under_occurs h in let f = c.absent in cc

chosen_cycle : {ts : List Term} {t u v : Term} {x y : ℕ} → Chosen ts t u x v → Cycles t u y → ⊥
chosen_cycle (left_one h l) (cycles_left k) = under_solve k h
chosen_cycle (left_one h l) (cycles_right k) = under_no_var k
chosen_cycle (right_one h l) (cycles_left k) = under_no_var k
chosen_cycle (right_one h l) (cycles_right k) = under_solve k h

same_cycle : {t u : Term} {y : ℕ} {qs : List Equation} → SameCon t u qs → Cycles t u y → ⊥
same_cycle (same_con a b p) (cycles_left k) = cc
same_cycle (same_con a b p) (cycles_right k) = cc

other_cycle : {t u : Term} {y c d : ℕ} → OtherCon t u c d → Cycles t u y → ⊥
other_cycle (other_con a b p) (cycles_left k) = cc
other_cycle (other_con a b p) (cycles_right k) = cc

cycle_one : {t u : Term} {x y : ℕ} → Cycles t u x → Cycles t u y → x ≡ y
cycle_one (cycles_left k) (cycles_left h) = refl
cycle_one (cycles_left k) (cycles_right h) = absurd (under_no_var k)
cycle_one (cycles_right k) (cycles_left h) = absurd (under_no_var k)
cycle_one (cycles_right k) (cycles_right h) = refl

applies_one : {ts : List Term} {t u : Term} {r s : Rule} → Applies ts t u r → Applies ts t u s → r ≡ s
applies_one (solves a) (solves b) = chosen_one a b
applies_one (solves a) (injects b) = absurd (chosen_same a b)
applies_one (solves a) (conflicts b) = absurd (chosen_other a b)
applies_one (solves a) (cycles b) = absurd (chosen_cycle a b)
applies_one (solves {x = x} {v = v} a) (sticks n) = absurd (n.no_solve x v a)
applies_one (injects a) (solves b) = absurd (chosen_same b a)
applies_one (injects a) (injects b) = ap Inject (same_one a b)
applies_one (injects a) (conflicts b) = absurd (same_other a b)
applies_one (injects a) (cycles b) = absurd (same_cycle a b)
applies_one (injects {qs = qs} a) (sticks n) = absurd (n.no_inject qs a)
applies_one (conflicts a) (solves b) = absurd (chosen_other b a)
applies_one (conflicts a) (injects b) = absurd (same_other b a)
applies_one (conflicts a) (conflicts b) = ap Ends (other_one a b)
applies_one (conflicts a) (cycles b) = absurd (other_cycle a b)
applies_one (conflicts {j = c} {k = d} a) (sticks n) = absurd (n.no_conflict c d a)
applies_one (cycles a) (solves b) = absurd (chosen_cycle b a)
applies_one (cycles a) (injects b) = absurd (same_cycle b a)
applies_one (cycles a) (conflicts b) = absurd (other_cycle b a)
applies_one (cycles a) (cycles b) = ap (λ x. Ends (Cycle x)) (cycle_one a b)
applies_one (cycles {x = x} a) (sticks n) = absurd (n.no_cycle x a)
applies_one (sticks n) (solves {x = x} {v = v} a) = absurd (n.no_solve x v a)
applies_one (sticks n) (injects {qs = qs} a) = absurd (n.no_inject qs a)
applies_one (sticks n) (conflicts {j = c} {k = d} a) = absurd (n.no_conflict c d a)
applies_one (sticks n) (cycles {x = x} a) = absurd (n.no_cycle x a)
applies_one (sticks n) (sticks m) = refl

ruled_one : (ts : List Term) (t u : Term) (q : Verdict) (r s : Rule) → Ruled ts t u q r → Ruled ts t u q s → r ≡ s
ruled_one ts t u Yes r s a b = a ∙ sym b
ruled_one ts t u B.OutOfFuel r s a b = a ∙ sym b
ruled_one ts t u B.OutOfDepth r s a b = a ∙ sym b
ruled_one ts t u (No v w xs) r s a b = applies_one a b
ruled_one ts t u (WaitsFor m) r s a b = applies_one a b

module _ (g : Signature Term) (fuel depth : ℕ) where
  within : {t : Term} {v w : Answer} {n m : ℕ} → HeadOf g no_solutions t fuel (Within v n) → HeadOf g no_solutions t fuel (Within w m) → v ≡ w
  within {t} {v} {w} {n} {m} a b = let e : Within v n ≡ Within w m = head_of_one g no_solutions t fuel (Within v n) (Within w m) a b in cc

  not_out : {t : Term} {v : Answer} {n : ℕ} → HeadOf g no_solutions t fuel (Within v n) → HeadOf g no_solutions t fuel Out → ⊥
  not_out {t} {v} {n} a b = let e : Within v n ≡ Out = head_of_one g no_solutions t fuel (Within v n) Out a b in cc

  turn_one : {s : State} {x y : Next} → Turn g fuel depth s x → Turn g fuel depth s y → x ≡ y
  turn_one done done = refl
  turn_one (out_left a) (out_left b) = refl
  turn_one (out_left a) (out_right b c) = absurd (not_out b a)
  turn_one (out_left a) (turn q r b c d e f) = absurd (not_out b a)
  turn_one (out_right b c) (out_left a) = absurd (not_out b a)
  turn_one (out_right a b) (out_right c d) = refl
  turn_one (out_right x y) (turn q r a b c d e) = absurd (not_out b y)
  turn_one (turn q r b c d e f) (out_left a) = absurd (not_out b a)
  turn_one (turn q r a b c d e) (out_right x y) = absurd (not_out b y)
  turn_one (turn {ts = ts} {t = t} {u = u} {es = es} {ss = ss} {v = v} {w = w} q r a b c d f) (turn {v = v'} {w = w'} q' r' a' b' c' d' f') =
      let e : v' ≡ v = within a' a in
      let i : w' ≡ w = within b' b in
      let j : q' ≡ q = conv_of_one g no_solutions fuel depth t u q' q c' c in
      let d₁ : Ruled ts (shown v') (shown w') q r' = transport (λ z. Ruled ts (shown v') (shown w') z r') j d' in
      let d₂ : Ruled ts (shown v) (shown w) q r' = transport (λ z. Ruled ts (shown v) (shown z) q r') i (transport (λ z. Ruled ts (shown z) (shown w') q r') e d₁) in
      let n : r ≡ r' = ruled_one ts (shown v) (shown w) q r r' d d₂ in
      f ∙ (ap (λ z. after z ts es ss) n ∙ sym f')

  pub unify_one : {s : State} {o p : Outcome} {n m : ℕ} → Unify g fuel depth s o n → Unify g fuel depth s p m → (o ≡ p) × (n ≡ m)
  unify_one (answers {o = o} a) (answers {o = p} b) = let e : Answers o ≡ Answers p = turn_one a b in (cc, refl)
  unify_one (answers {o = o} a) (goes {s' = s'} b c) = let e : Answers o ≡ Goes s' = turn_one a b in absurd cc
  unify_one (goes {s' = s'} b c) (answers {o = o} a) = let e : Answers o ≡ Goes s' = turn_one a b in absurd cc
  unify_one {p = p} (goes {s' = x} a b) (goes {s' = y} {n = n} c d) =
      let e : Goes x ≡ Goes y = turn_one a c in
      let f : y ≡ x = cc in
      let h = unify_one b (transport (λ z. Unify g fuel depth z p n) f d) in
      (h.0, ap suc h.1)
