-- After inject, the first equation that is not found convertible has its verdict at one depth less.
use Rattle.std.specs.Prelude.{◌≡◌, ℕ, eqb, cond, List, [], ◌∷◌, ◌++◌, Option, Some, None, refl}
use Rattle.std.proofs.Common.{ap, sym, ◌∙◌, subst as transport, append-nil}
use Rattle.core_rules.specs.Term.{Term, Terms, Var, Sort, Pi, Lam, App, Def, Fam, Con, Proj, Meta}
use Rattle.core_rules.specs.Signature.{Signature}
use Rattle.core_rules.specs.Elimination.{Elim, Arg, Field, elims}
use Rattle.core_rules.specs.Heads.{Answer, Form, Blocked, Within}
use Rattle.core_rules.specs.Bounded.{Verdict, No, Part, Decision, Now, argument_parts, cut_more, last_field, RecordValue, record_value, con_kind, parts_or, by_field, by_kind, decide, InOrder, Decided}
use Rattle.core_rules.specs.BoundedLaws.{shown}
use Rattle.core_rules.specs.Unification.{Equation, con_spine, Pairs, no_pair, pair}
use Rattle.core_rules.proofs.Heads.OneAnswer.{one_some}
use Rattle.core_rules.proofs.Heads.Sound.{eqb_same}
use Rattle.unify_rules.proofs.HeadsOnly.{IsHead, HasHead}
use Rattle.unify_rules.proofs.Decide.{parts_from, pairs-parts}

-- a form that is constructor k at these arguments
record IsCon (w : Answer) (k : ℕ) (xs : List Elim) : Type 0 where
  params : Terms
  is : w ≡ Form (Con k params) xs

spine_elims : (h : Term) (es ds : List Elim) (k : ℕ) (xs : List Elim) → con_spine (elims h es) ds ≡ Some (k, xs) → con_spine h (es ++ ds) ≡ Some (k, xs)
spine_elims h [] ds k xs e = e
spine_elims h (Arg b u ∷ es) ds k xs e = spine_elims (App b h u) es ds k xs e
spine_elims h (Field f ∷ es) ds k xs e = absurd (let x : None ≡ Some (k, xs) = spine_elims (Proj f h) es ds k xs e in cc)

head_con : (h : Term) (es : List Elim) (k : ℕ) (xs : List Elim) → IsHead h → con_spine h (es ++ []) ≡ Some (k, xs) → IsCon (Form h es) k xs
head_con (Con i ps) es k xs p e =
    let f : (i, es ++ []) ≡ (k, xs) = one_some e in
    let a : i ≡ k = ap (λ z. z.0) f in
    let b : es ≡ xs = sym (append-nil es) ∙ ap (λ z. z.1) f in
    record { params = ps; is = λ j. Form (Con (a j) ps) (b j) }
head_con (App b t u) es k xs p e = absurd p
head_con (Proj f t) es k xs p e = absurd p
head_con (Var i) es k xs p e = absurd cc
head_con (Sort i) es k xs p e = absurd cc
head_con (Pi b x a t) es k xs p e = absurd cc
head_con (Lam b x a t) es k xs p e = absurd cc
head_con (Def i) es k xs p e = absurd cc
head_con (Fam i) es k xs p e = absurd cc
head_con (Meta i ts) es k xs p e = absurd cc

blocked_con : (m : ℕ) (h : Term) (es : List Elim) (k : ℕ) (xs : List Elim) → HasHead (Blocked m h es) → con_spine h (es ++ []) ≡ Some (k, xs) → ⊥
blocked_con m (Con i ps) es k xs p e = p
blocked_con m (App b t u) es k xs p e = p
blocked_con m (Proj f t) es k xs p e = p
blocked_con m (Var i) es k xs p e = cc
blocked_con m (Sort i) es k xs p e = cc
blocked_con m (Pi b x a t) es k xs p e = cc
blocked_con m (Lam b x a t) es k xs p e = cc
blocked_con m (Def i) es k xs p e = cc
blocked_con m (Fam i) es k xs p e = cc
blocked_con m (Meta i ts) es k xs p e = cc

is_con : (w : Answer) (k : ℕ) (xs : List Elim) → HasHead w → con_spine (shown w) [] ≡ Some (k, xs) → IsCon w k xs
is_con (Form h es) k xs p e = head_con h es k xs p (spine_elims h es [] k xs e)
is_con (Blocked m h es) k xs p e = absurd (blocked_con m h es k xs p (spine_elims h es [] k xs e))

no_field_left : {xs ys : List Elim} {qs : List Equation} → Pairs xs ys qs → last_field xs ≡ None
no_field_left no_pair = refl
no_field_left (pair {b = b} {t = t} {es = es} p) = ap (cut_more (Arg b t) es) (no_field_left p)

no_field_right : {xs ys : List Elim} {qs : List Equation} → Pairs xs ys qs → last_field ys ≡ None
no_field_right no_pair = refl
no_field_right (pair {b = b} {u = u} {ds = ds} p) = ap (cut_more (Arg b u) ds) (no_field_right p)

module _ (g : Signature Term) (V : Term → Term → Verdict → Type 0) (q : Verdict) where
  kinds : (x : Decision) (h : Term) (es : List Elim) (h' : Term) (ds : List Elim) (o p : Option RecordValue) → Decided V (by_kind g x h es h' ds (con_kind o) (con_kind p)) q → Decided V (by_field x h es h' ds (last_field es) (last_field ds)) q
  kinds x h es h' ds None None d = d
  kinds x h es h' ds None (Some v) d = d
  kinds x h es h' ds (Some v) None d = d
  kinds x h es h' ds (Some v) (Some w) d = d

  same_test : (k : ℕ) (x : Decision) (o : Option (List Part)) (ps : List Part) → o ≡ Some ps → Decided V (cond (eqb k k) (parts_or x o) x) q → InOrder V ps q
  same_test k x o ps e d = transport (λ o. Decided V (parts_or x o) q) e (transport (λ b. Decided V (cond b (parts_or x o) x) q) (eqb_same k) d)

  at_cons : (k : ℕ) (ps ps' : Terms) (xs ys : List Elim) (qs : List Equation) (n m : ℕ) → Pairs xs ys qs → Decided V (decide g (Within (Form (Con k ps) xs) n) (Within (Form (Con k ps') ys) m)) q → InOrder V (parts_from qs) q
  at_cons k ps ps' xs ys qs n m p d =
      let x : Decision = Now (No (elims (Con k ps) xs) (elims (Con k ps') ys) []) in
      let e = kinds x (Con k ps) xs (Con k ps') ys (record_value g k xs) (record_value g k ys) d in
      let f = transport (λ o. Decided V (by_field x (Con k ps) xs (Con k ps') ys None o) q) (no_field_right p) (transport (λ o. Decided V (by_field x (Con k ps) xs (Con k ps') ys o (last_field ys)) q) (no_field_left p) e) in
      same_test k x (argument_parts xs ys) (parts_from qs) (pairs-parts p) f

  -- two head forms of one constructor are compared by the equations of their arguments
  pub inject_decided : (v w : Answer) (n m k : ℕ) (xs ys : List Elim) (qs : List Equation) → HasHead v → HasHead w → con_spine (shown v) [] ≡ Some (k, xs) → con_spine (shown w) [] ≡ Some (k, ys) → Pairs xs ys qs
      → Decided V (decide g (Within v n) (Within w m)) q → InOrder V (parts_from qs) q
  inject_decided v w n m k xs ys qs a b e f p d =
      let x = is_con v k xs a e in
      let y = is_con w k ys b f in
      at_cons k x.params y.params xs ys qs n m p
      (transport (λ w. Decided V (decide g (Within (Form (Con k x.params) xs) n) (Within w m)) q) y.is (transport (λ v. Decided V (decide g (Within v n) (Within w m)) q) x.is d))
