-- Environments that fit: the variables themselves, weakening, one under another; and contexts whose types are convertible.
use Rattle.std.specs.Prelude.{◌≡◌, ℕ, ◌+◌, ◌-◌, ◌<◌, Bool, true, false, ltb, cond, List, [], ◌∷◌, ◌++◌, length, map, slice_get, Some, refl, zero, suc}
use Rattle.std.proofs.Common.{ap, sym, ◌∙◌, subst as transport, arith}
use Rattle.std.proofs.lemmas.Grind.{common_steps}
use Rattle.core_rules.specs.Term.{Term, Terms, Var, Sort, Pi, Lam, App, Def, Fam, Con, Proj, Meta, End, And}
use Rattle.core_rules.specs.Substitution.{over, over_all, shift, value_at, env_var, under}
use Rattle.core_rules.specs.Signature.{Signature, Entry, Context}
use Rattle.core_rules.specs.Conversion as C
use Rattle.core_rules.specs.Conversion.{Conv}
use Rattle.core_rules.specs.Typing as T
use Rattle.core_rules.specs.Typing.{Typing, Fits, WellFormed}
use Rattle.core_rules.specs.InScope.{InScope, AllInScope, FamiliesHaveShape, SignatureInScope, any_meta}
use Rattle.core_rules.specs.TypedTree.{vars}
use Rattle.core_rules.specs.Laws as L
use Rattle.core_rules.specs.Laws.{inserted, ConvContext}
use Rattle.core_rules.proofs.Substitution.Traversal.{over_id}
use Rattle.core_rules.proofs.Substitution.Lifted.{shift_variable}
use Rattle.core_rules.proofs.Substitution.Exchange.{shift-under, under-under}
use Rattle.core_rules.proofs.Conversion.Shifted.{conv-shift}
use Rattle.core_rules.proofs.Typing.Scoped.{typing-in_scope}
use Rattle.core_rules.proofs.Typing.Weakened.{typing-inserted}
use Rattle.core_rules.proofs.Typing.Substituted.{typing-under}

-- changes that agree at the variables of a term in scope agree at the term
module _ (g : Signature Term) (M : ℕ → ℕ → Type 0) (f h : ℕ → ℕ → Term) (n : ℕ) (e : (d i : ℕ) → i < d + n → f d i ≡ h d i) where
  deeper : (d : ℕ) (t : Term) → (InScope g M (d + 1 + n) t → over f (d + 1) t ≡ over h (d + 1) t) → InScope g M (d + n + 1) t → over f (d + 1) t ≡ over h (d + 1) t
  deeper d t k s = let p : d + n + 1 ≡ d + 1 + n = omega arith in k (transport (λ n. InScope g M n t) p s)

  mutual
    pub over-agrees : (d : ℕ) (t : Term) → InScope g M (d + n) t → over f d t ≡ over h d t
    over-agrees d (Var i) s = e d i s
    over-agrees d (Sort k) s = refl
    over-agrees d (Pi b x a t) s = cc (over-agrees d a s.0, deeper d t (over-agrees (d + 1) t) s.1)
    over-agrees d (Lam b x a t) s = cc (over-agrees d a s.0, deeper d t (over-agrees (d + 1) t) s.1)
    over-agrees d (App b t u) s = cc (over-agrees d t s.0, over-agrees d u s.1)
    over-agrees d (Def k) s = refl
    over-agrees d (Fam k) s = refl
    over-agrees d (Con k ts) s = ap (Con k) (over_all-agree d ts s.1)
    over-agrees d (Proj k t) s = ap (Proj k) (over-agrees d t s.1)
    over-agrees d (Meta m ts) s = ap (Meta m) (over_all-agree d ts s.1)

    over_all-agree : (d : ℕ) (ts : Terms) → AllInScope g M (d + n) ts → over_all f d ts ≡ over_all h d ts
    over_all-agree d End s = refl
    over_all-agree d (And t ts) s = cc (over-agrees d t s.0, over_all-agree d ts s.1)

value_at-vars : (k n i : ℕ) → i < n → value_at (vars k n) i ≡ Var (k + i)
value_at-vars k zero i h = absurd (omega arith)
value_at-vars k (suc n) zero h = let p : k ≡ k + 0 = omega arith in ap Var p
value_at-vars k (suc n) (suc i) h = let p : k + 1 + i ≡ k + suc i = omega arith in value_at-vars (k + 1) n i (omega arith) ∙ ap Var p

own_var : (n d i : ℕ) → i < d + n → env_var (vars 0 n) d i ≡ Var i
own_var n d i h = by_test (ltb i d) refl
  where
    by_test : (b : Bool) → ltb i d ≡ b → cond b (Var i) (shift (value_at (vars 0 n) (i - d)) 0 d) ≡ Var i
    by_test true e = refl
    by_test false e =
        let l : d < i + 1 = grind (arith, common_steps) in
        let p : 0 + (i - d) + d ≡ i = omega arith in
        ap (λ t. shift t 0 d) (value_at-vars 0 n (i - d) (omega (arith, l, h))) ∙ (shift_variable (0 + (i - d)) d ∙ ap Var p)

-- a term in scope under the variables themselves
pub under-vars : (g : Signature Term) (M : ℕ → ℕ → Type 0) (n : ℕ) (t : Term) → InScope g M n t → under (vars 0 n) t ≡ t
under-vars g M n t s =
    let p : n ≡ 0 + n = omega arith in
    over-agrees g M (env_var (vars 0 n)) (λ d i. Var i) n (own_var n) 0 t (transport (λ n. InScope g M n t) p s)
    ∙ over_id (λ d i. Var i) (λ d i. refl) 0 t

vars-shifted : (k n : ℕ) → map (λ t. shift t 0 1) (vars k n) ≡ vars (k + 1) n
vars-shifted k zero = refl
vars-shifted k (suc n) = cc (shift_variable k 1, vars-shifted (k + 1) n)

module _ (g : Signature Term) (s : SignatureInScope g any_meta) where
  fits-shifted : (from by : ℕ) {b c es : Context Term} {r : List Term} → ((t a : Term) → Typing g b t a → Typing g c (shift t from by) (shift a from by)) → Fits g b r es → Fits g c (map (λ t. shift t from by) r) es
  fits-shifted from by m T.none = T.none
  fits-shifted from by {c = c} m (T.more {r = r} {e = e} {t = t} h k) =
      T.more (fits-shifted from by m h) (transport (Typing g c (shift t from by)) (shift-under r e.ty from by) (m t (under r e.ty) k))

  pub fits-inserted : (inner new c : Context Term) {es : Context Term} {r : List Term} → Fits g (inner ++ c) r es → Fits g (inserted inner new c) (map (λ t. shift t (length inner) (length new)) r) es
  fits-inserted inner new c f = fits-shifted (length inner) (length new) (λ t a h. typing-inserted g any_meta s inner new c t a h) f

  pub fits-under : (shapes : FamiliesHaveShape g) {c d es : Context Term} {r q : List Term} → Fits g c r d → Fits g d q es → Fits g c (map (under r) q) es
  fits-under shapes f T.none = T.none
  fits-under shapes {c = c} {d = d} {r = r} f (T.more {r = q} {e = e} {t = t} h k) =
      T.more (fits-under shapes f h)
      (transport (Typing g c (under r t)) (under-under r q e.ty) (typing-under g any_meta s shapes c d r t (under q e.ty) f k))

  pub fits-own : (c : Context Term) → WellFormed g c → Fits g c (vars 0 (length c)) c
  fits-own c T.empty = T.none
  fits-own c' (T.extended {c = c} {e = e} w h) =
      let n : ℕ = length c in
      let f : Fits g (e ∷ c) (map (λ t. shift t 0 1) (vars 0 n)) c = fits-inserted [] (e ∷ []) c (fits-own c w) in
      let v : Typing g (e ∷ c) (Var 0) (shift e.ty 0 (0 + 1)) = T.var refl in
      let p : under (map (λ t. shift t 0 1) (vars 0 n)) e.ty ≡ shift e.ty 0 (0 + 1) = sym (shift-under (vars 0 n) e.ty 0 1) ∙ ap (λ t. shift t 0 1) (under-vars g any_meta n e.ty (typing-in_scope g h.holds)) in
      transport (λ r. Fits g (e ∷ c) (Var 0 ∷ r) (e ∷ c)) (vars-shifted 0 n) (T.more f (transport (Typing g (e ∷ c) (Var 0)) (sym p) v))

module _ (g : Signature Term) where
  record Converted (d : Context Term) (i : ℕ) (e : Entry Term) : Type 0 where
    entry : Entry Term
    stands : slice_get d i ≡ Some entry
    is : Conv g e.ty entry.ty

  one_entry : {e h : Entry Term} → Some e ≡ Some h → e ≡ h
  one_entry p = cc p

  converted : {c d : Context Term} (i : ℕ) (e : Entry Term) → ConvContext g c d → slice_get c i ≡ Some e → Converted d i e
  converted i e L.empty k = absurd cc
  converted zero e (L.extended {e = x} {h = y} m h) k = record { entry = y; stands = refl; is = transport (λ x. Conv g x.ty y.ty) (one_entry k) h }
  converted (suc i) e (L.extended m h) k = let x = converted i e m k in record { entry = x.entry; stands = x.stands; is = x.is }

  mutual
    pub typing-converted : {c d : Context Term} {t a : Term} → ConvContext g c d → Typing g c t a → Typing g d t a
    typing-converted m (T.var {i = i} {e = e} h) = let x = converted i e m h in T.convert (T.var x.stands) (C.back (conv-shift 0 (i + 1) x.is))
    typing-converted m T.sort = T.sort
    typing-converted m (T.pi h k) = T.pi (typing-converted m h) (typing-converted (L.extended m C.same) k)
    typing-converted m (T.lam h k) = T.lam (typing-converted m h) (typing-converted (L.extended m C.same) k)
    typing-converted m (T.app h k) = T.app (typing-converted m h) (typing-converted m k)
    typing-converted m (T.def h) = T.def h
    typing-converted m (T.fam h) = T.fam h
    typing-converted m (T.con is h) = T.con is (fits-converted m h)
    typing-converted m (T.proj is ps e h) = T.proj is ps e (typing-converted m h)
    typing-converted m (T.convert h k) = T.convert (typing-converted m h) k

    pub fits-converted : {c d es : Context Term} {r : List Term} → ConvContext g c d → Fits g c r es → Fits g d r es
    fits-converted m T.none = T.none
    fits-converted m (T.more h k) = T.more (fits-converted m h) (typing-converted m k)
