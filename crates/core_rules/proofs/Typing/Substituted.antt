-- Conversion and typing are kept by a change that puts for each variable a term of its type, over a signature whose families have their shape.
use Rattle.std.specs.Prelude.{◌≡◌, ℕ, ◌+◌, ◌-◌, ltb, false, List, [], ◌∷◌, slice_get, Some, refl, zero, suc}
use Rattle.std.proofs.Common.{sym, ◌∙◌, arith, zero-add}
use Rattle.std.proofs.lemmas.Grind.{common_steps}
use Rattle.core_rules.specs.Term.{Term, Var}
use Rattle.core_rules.specs.Substitution.{over, shift, subst as put, subst_var, under, env_var}
use Rattle.core_rules.specs.Signature.{Signature, Entry, Context}
use Rattle.core_rules.specs.Conversion as C
use Rattle.core_rules.specs.Conversion.{Conv}
use Rattle.core_rules.specs.Typing as T
use Rattle.core_rules.specs.Typing.{Typing, Fits, entry}
use Rattle.core_rules.specs.InScope.{SignatureInScope, FamiliesHaveShape}
use Rattle.core_rules.specs.Laws.{IsLifted}
use Rattle.core_rules.proofs.Substitution.Lifted.{over-shift, shift_twice, shift_none, subst_shifted}
use Rattle.core_rules.proofs.Substitution.Changes.{subst_lifted, env_lifted}
use Rattle.core_rules.proofs.Substitution.Exchange.{under-shift}
use Rattle.core_rules.proofs.Typing.Closed.{def-closed, fam-closed, closed-over}
use Rattle.core_rules.proofs.Conversion.Changed.{conv-over}
use Rattle.core_rules.proofs.Conversion.Shifted.{conv-subst_by}
use Rattle.core_rules.proofs.Run.Moved.{run-changed}
use Rattle.core_rules.proofs.Typing.Changed.{typing-over}
use Rattle.core_rules.proofs.Typing.Weakened.{typing-inserted}

module _ (g : Signature Term) (shapes : FamiliesHaveShape g) where
  pub conv-change : (f : ℕ → ℕ → Term) → IsLifted f → (d : ℕ) (t u : Term) → Conv g t u → Conv g (over f d t) (over f d u)
  conv-change f l d t u h = conv-over f l g (λ d T es u k. run-changed g shapes f l d T es u k) d h

  -- substitution in convertible terms
  pub conv-subst : (at : ℕ) (t t' u u' : Term) → Conv g t t' → Conv g u u' → Conv g (put t at u) (put t' at u')
  conv-subst at t t' u u' h k = C.then (conv-change (subst_var at u) (subst_lifted at u) 0 t t' h) (conv-subst_by t' at k)

  pub conv-under_same : (r : List Term) (t t' : Term) → Conv g t t' → Conv g (under r t) (under r t')
  conv-under_same r t t' h = conv-change (env_var r) (env_lifted r) 0 t t' h

-- under d binders each variable of c gets a term that has its type in c'
abbrev pub Takes : Signature Term → (ℕ → ℕ → Term) → ℕ → Context Term → Context Term → Type 0
Takes g f d c c' = (i : ℕ) (e : Entry Term) → slice_get c i ≡ Some e → Typing g c' (f d i) (over f d (shift e.ty 0 (i + 1)))

module _ (g : Signature Term) (M : ℕ → ℕ → Type 0) (s : SignatureInScope g M) (shapes : FamiliesHaveShape g) (f : ℕ → ℕ → Term) (l : IsLifted f) where
  same_entry : {e e' : Entry Term} → Some e ≡ Some e' → e ≡ e'
  same_entry h = cc h

  weaken : (c : Context Term) (e : Entry Term) (t a : Term) → Typing g c t a → Typing g (e ∷ c) (shift t 0 1) (shift a 0 1)
  weaken c e t a h = typing-inserted g M s [] (e ∷ []) c t a h

  lift-takes : (d : ℕ) (c c' : Context Term) (e : Entry Term) → Takes g f d c c' → Takes g f (d + 1) (e ∷ c) (entry e.flag e.name (over f d e.ty) ∷ c')
  lift-takes d c c' e k zero e' h =
      let new : Entry Term = entry e.flag e.name (over f d e.ty) in
      let v : Typing g (new ∷ c') (Var 0) (shift (over f d e.ty) 0 (0 + 1)) = T.var refl in
      rw (← same_entry h, l.own d) (rw zero-add (rw (over-shift f l 1 d e.ty) (rw zero-add at v)))
  lift-takes d c c' e k (suc j) e' h =
      let p : suc j ≡ j + 1 = omega arith in
      let q : f (d + 1) (suc j) ≡ shift (f d j) 0 1 = rw p (l.later d j) in
      let o : over f (d + 1) (shift e'.ty 0 (suc j + 1)) ≡ shift (over f d (shift e'.ty 0 (j + 1))) 0 1 = rw p (rw (← shift_twice e'.ty (j + 1) 1) (over-shift f l 1 d (shift e'.ty 0 (j + 1)))) in
      rw (q, o) (weaken c' (entry e.flag e.name (over f d e.ty)) (f d j) (over f d (shift e'.ty 0 (j + 1))) (k j e' h))

  pub typing-change : (d : ℕ) (c c' : Context Term) (t a : Term) → Takes g f d c c' → Typing g c t a → Typing g c' (over f d t) (over f d a)
  typing-change d c c' t a k h = typing-over f l g (Takes g f) (λ d t u j. conv-change g shapes f l d t u j)
      (λ d n a e. closed-over f l M d a (def-closed M g s n a e)) (λ d n b e. closed-over f l M d _ (fam-closed M g s n b e))
      (λ d i c c' e k h. k i e h) (λ d c c' e k. lift-takes d c c' e k) d k h

module _ (g : Signature Term) (M : ℕ → ℕ → Type 0) (s : SignatureInScope g M) (shapes : FamiliesHaveShape g) where
  same_type : {e e' : Entry Term} → Some e ≡ Some e' → e ≡ e'
  same_type h = cc h

  takes_first : (c : Context Term) (e : Entry Term) (u : Term) → Typing g c u e.ty → Takes g (subst_var 0 u) 0 (e ∷ c) c
  takes_first c e u h zero e' k = rw (← same_type k) (rw (shift_none u 0, subst_shifted e.ty 0 0 u (omega arith), shift_none e.ty 0) h)
  takes_first c e u h (suc j) e' k =
      let p : subst_var 0 u 0 (suc j) ≡ Var j = grind (arith, common_steps) in
      let o : j + 1 ≡ suc j = omega arith in
      let v : Typing g c (Var j) (shift e'.ty 0 (j + 1)) = T.var k in
      rw (p, subst_shifted e'.ty 0 (suc j) u (omega arith)) (rw o at v)

  pub typing-subst : (c : Context Term) (e : Entry Term) (t a u : Term) → Typing g (e ∷ c) t a → Typing g c u e.ty → Typing g c (put t 0 u) (put a 0 u)
  typing-subst c e t a u h k = typing-change g M s shapes (subst_var 0 u) (subst_lifted 0 u) 0 (e ∷ c) c t a (takes_first c e u k) h

  takes_env : (c es : Context Term) (r : List Term) → Fits g c r es → Takes g (env_var r) 0 es c
  takes_env c es r T.none i e k = absurd cc
  takes_env c es r' (T.more {r = r} {e = x} {t = t} h j) zero e k =
      let p : env_var (t ∷ r) 0 0 ≡ t = shift_none t 0 in
      let o : under (t ∷ r) (shift e.ty 0 (0 + 1)) ≡ under r x.ty = rw (zero-add, ← same_type k) (under-shift (t ∷ r) x.ty 1) in
      rw (p, o) j
  takes_env c es r' (T.more {r = r} {e = x} {t = t} h j) (suc i) e k =
      let q : suc i - 0 ≡ suc i = omega arith in
      let m : i - 0 ≡ i = omega arith in
      let a : ltb (suc i) 0 ≡ false = grind (arith, common_steps) in
      let b : ltb i 0 ≡ false = grind (arith, common_steps) in
      let p : env_var (t ∷ r) 0 (suc i) ≡ env_var r 0 i = rw (a, b, q, m) refl in
      let n : suc i + 1 ≡ suc (i + 1) = omega arith in
      let o : under (t ∷ r) (shift e.ty 0 (suc i + 1)) ≡ under r (shift e.ty 0 (i + 1)) = rw n (under-shift (t ∷ r) e.ty (suc (i + 1)) ∙ sym (under-shift r e.ty (i + 1))) in
      rw (p, o) (takes_env c _ r h i e k)

  pub typing-under : (c es : Context Term) (r : List Term) (t a : Term) → Fits g c r es → Typing g es t a → Typing g c (under r t) (under r a)
  typing-under c es r t a k h = typing-change g M s shapes (env_var r) (env_lifted r) 0 es c t a (takes_env c es r k) h
