-- A head form brings in no variable, and its head is no application.
use Rattle.std.specs.Prelude.{◌≡◌, ℕ, ◌+◌, ◌-◌, ◌<◌, ◌≤◌, ◌⊎◌, Bool, true, false, ◌&&◌, eqb, ltb, cond, List, [], ◌∷◌, ◌++◌, length, map, reverse, take, drop, slice_get, Option, Some, None, option_map, ◌≢◌, refl, zero, suc}
use Rattle.std.specs.List.{AllByRecursion}
use Rattle.std.proofs.Common.{sym, subst as transport, arith, inl, inr}
use Rattle.std.proofs.lemmas.Grind.{common_steps}
use Rattle.std.proofs.lemmas.List.{reverse-append}
use Rattle.core_rules.specs.Term.{Term, Terms, Var, Sort, Pi, Lam, App, Def, Fam, Con, Proj, Meta, End, And}
use Rattle.core_rules.specs.Substitution.{shift, shift_var, subst, subst_var, value_at, env_var, under}
use Rattle.core_rules.specs.Signature.{Branch, Tree, Signature, field_place, fields_of}
use Rattle.core_rules.specs.Elimination.{Elim, Arg, Field, elims, projections}
use Rattle.core_rules.specs.Run.{ConApp, con_app, takes, spread}
use Rattle.core_rules.specs.Heads.{Answer, Form, Blocked, is_first, argument_of, Taken, taken, Choice, Enters, IsForm, Heads, form, argument, projection, beta, project, replaced, unsolved, call, Follows, leaf, intro, cosplit, split, record_split, stuck, After, enters, stays, waits}
use Rattle.core_rules.specs.BoundedLaws.{no_solutions, shown}
use Rattle.core_rules.proofs.Heads.OneAnswer.{one_some}
use Rattle.core_rules.proofs.Heads.Sound.{cond_some, entered, by_full_con}
use Rattle.core_rules.proofs.Run.Records.{goes_on}
use Rattle.unify_rules.proofs.Only.{only, only_all, only-over}

-- every variable
abbrev pub any : ℕ → Type 0
any i = Unit {0}

mutual
  pub only_any : (d : ℕ) (t : Term) → only any d t
  only_any d (Var i) = inr tt
  only_any d (Sort n) = tt
  only_any d (Pi b x s t) = (only_any d s, only_any (d + 1) t)
  only_any d (Lam b x s t) = (only_any d s, only_any (d + 1) t)
  only_any d (App b t u) = (only_any d t, only_any d u)
  only_any d (Def k) = tt
  only_any d (Fam k) = tt
  only_any d (Con k ts) = only_all_any d ts
  only_any d (Proj k t) = only_any d t
  only_any d (Meta k ts) = only_all_any d ts

  only_all_any : (d : ℕ) (ts : Terms) → only_all any d ts
  only_all_any d End = tt
  only_all_any d (And t ts) = (only_any d t, only_all_any d ts)

module _ (P : ℕ → Type 0) where
  abbrev pub Each : List Term → Type 0
  Each ts = AllByRecursion (only P 0) ts

  abbrev pub OnlyElim : Elim → Type 0
  OnlyElim (Arg b u) = only P 0 u
  OnlyElim (Field f) = Unit {0}

  abbrev pub OnlyElims : List Elim → Type 0
  OnlyElims [] = Unit {0}
  OnlyElims (e ∷ es) = OnlyElim e × OnlyElims es

  abbrev pub OnlyAnswer : Answer → Type 0
  OnlyAnswer (Form h es) = only P 0 h × OnlyElims es
  OnlyAnswer (Blocked m h es) = only P 0 h × OnlyElims es

  pub only-elims : (t : Term) (es : List Elim) → only P 0 t → OnlyElims es → only P 0 (elims t es)
  only-elims t [] h k = h
  only-elims t (Arg b u ∷ es) h k = only-elims (App b t u) es (h, k.0) k.1
  only-elims t (Field f ∷ es) h k = only-elims (Proj f t) es h k.1

  pub only_shown : (w : Answer) → OnlyAnswer w → only P 0 (shown w)
  only_shown (Form h es) p = only-elims h es p.0 p.1
  only_shown (Blocked m h es) p = only-elims h es p.0 p.1

  -- a variable that stands under d of the binders
  raised : (by d i : ℕ) → (i < d + 0) ⊎ P (i - (d + 0)) → only P (d + by) (shift_var 0 by d i)
  raised by d i h = at_test (ltb i (0 + d)) refl h
    where
      at_test : (b : Bool) → ltb i (0 + d) ≡ b → (i < d + 0) ⊎ P (i - (d + 0)) → (cond b i (i + by) < d + by) ⊎ P (cond b i (i + by) - (d + by))
      at_test true e k = inl (let l : i < d = grind (arith, common_steps) in omega arith)
      at_test false e (inl l) = absurd (let m : d ≤ i = grind (arith, common_steps) in omega arith)
      at_test false e (inr p) = inr (let m : d ≤ i = grind (arith, common_steps) in let r : i - (d + 0) ≡ i + by - (d + by) = omega arith in transport P r p)

  pub only-shift : (t : Term) (by : ℕ) → only P 0 t → only P by (shift t 0 by)
  only-shift t by h = let r : 0 + by ≡ by = omega arith in transport (λ n. only P n (shift t 0 by)) r (only-over P P (shift_var 0 by) 0 by (raised by) 0 t h)

  put_at : (u : Term) → only P 0 u → (d i : ℕ) → (i < d + 1) ⊎ P (i - (d + 1)) → only P (d + 0) (subst_var 0 u d i)
  put_at u k d i h = at_test (ltb i (0 + d)) (eqb i (0 + d)) refl refl h
    where
      at_test : (b c : Bool) → ltb i (0 + d) ≡ b → eqb i (0 + d) ≡ c → (i < d + 1) ⊎ P (i - (d + 1)) → only P (d + 0) (cond b (Var i) (cond c (shift u 0 d) (Var (i - 1))))
      at_test true c e f h = inl (let l : i < d = grind (arith, common_steps) in omega arith)
      at_test false true e f h = let r : d ≡ d + 0 = omega arith in transport (λ n. only P n (shift u 0 d)) r (only-shift u d k)
      at_test false false e f (inl l) = absurd (let m : d ≤ i = grind (arith, common_steps) in let n : i ≢ d = grind (arith, common_steps) in omega arith)
      at_test false false e f (inr p) = inr (let r : i - (d + 1) ≡ i - 1 - (d + 0) = omega arith in transport P r p)

  only-subst : (t u : Term) → only P 1 t → only P 0 u → only P 0 (subst t 0 u)
  only-subst t u h k = only-over P P (subst_var 0 u) 1 0 (put_at u k) 0 t h

  each_at : (r : List Term) (i : ℕ) → Each r → only P 0 (value_at r i)
  each_at [] i h = tt
  each_at (t ∷ r) zero h = h.0
  each_at (t ∷ r) (suc i) h = each_at r i h.1

  from_env : (r : List Term) → Each r → (d i : ℕ) → (i < d + 0) ⊎ any (i - (d + 0)) → only P (d + 0) (env_var r d i)
  from_env r k d i h = at_test (ltb i d) refl
    where
      at_test : (b : Bool) → ltb i d ≡ b → only P (d + 0) (cond b (Var i) (shift (value_at r (i - d)) 0 d))
      at_test true e = inl (let l : i < d = grind (arith, common_steps) in omega arith)
      at_test false e = let q : d ≡ d + 0 = omega arith in transport (λ n. only P n (shift (value_at r (i - d)) 0 d)) q (only-shift (value_at r (i - d)) d (each_at r (i - d) k))

  pub only-under : (r : List Term) (t : Term) → Each r → only P 0 (under r t)
  only-under r t k = only-over any P (env_var r) 0 0 (from_env r k) 0 t (only_any 0 t)

  each-append : (ts us : List Term) → Each ts → Each us → Each (ts ++ us)
  each-append [] us h k = k
  each-append (t ∷ ts) us h k = (h.0, each-append ts us h.1 k)

  each-reverse : (ts : List Term) → Each ts → Each (reverse ts)
  each-reverse [] h = tt
  each-reverse (t ∷ ts) h = transport Each (sym (reverse-append (t ∷ []) ts)) (each-append (reverse ts) (t ∷ []) (each-reverse ts h.1) (h.0, tt))

  each-take : (k : ℕ) (ts : List Term) → Each ts → Each (take k ts)
  each-take zero ts h = tt
  each-take (suc k) [] h = tt
  each-take (suc k) (t ∷ ts) h = (h.0, each-take k ts h.1)

  each-drop : (k : ℕ) (ts : List Term) → Each ts → Each (drop k ts)
  each-drop zero ts h = h
  each-drop (suc k) [] h = tt
  each-drop (suc k) (t ∷ ts) h = each-drop k ts h.1

  each-spread : (k : ℕ) (us r : List Term) → Each us → Each r → Each (spread k us r)
  each-spread k us r h l = each-append (take k r ++ reverse us) (drop (k + 1) r) (each-append (take k r) (reverse us) (each-take k r l) (each-reverse us h)) (each-drop (k + 1) r l)

  each-kept : (r : List Term) (is : List ℕ) → Each r → Each (map (value_at r) is)
  each-kept r [] h = tt
  each-kept r (i ∷ is) h = (each_at r i h, each-kept r is h)

  each-projections : (fs : List ℕ) (t : Term) → only P 0 t → Each (map (λ f. Proj f t) fs)
  each-projections [] t h = tt
  each-projections (f ∷ fs) t h = (h, each-projections fs t h)

  each_got : (ts : List Term) (i : ℕ) (u : Term) → Each ts → slice_get ts i ≡ Some u → only P 0 u
  each_got [] i u h e = absurd cc
  each_got (t ∷ ts) zero u h e = transport (only P 0) (one_some e) h.0
  each_got (t ∷ ts) (suc i) u h e = each_got ts i u h.1 e

  con_app-only : (t : Term) (us : List Term) (c : ConApp) → con_app t us ≡ Some c → only P 0 t → Each us → Each c.args
  con_app-only (Con k ps) us c e h k' = transport (λ c. Each c.args) (one_some e) k'
  con_app-only (App b t u) us c e h k = con_app-only t (u ∷ us) c e h.0 (h.1, k)
  con_app-only (Var i) us c e h k = absurd cc
  con_app-only (Sort i) us c e h k = absurd cc
  con_app-only (Pi b x a t) us c e h k = absurd cc
  con_app-only (Lam b x a t) us c e h k = absurd cc
  con_app-only (Def i) us c e h k = absurd cc
  con_app-only (Fam i) us c e h k = absurd cc
  con_app-only (Proj i t) us c e h k = absurd cc
  con_app-only (Meta i ts) us c e h k = absurd cc

  module _ (g : Signature Term) where
    argument_only : (k : ℕ) (us : List Term) (f : ℕ) (u : Term) → argument_of g k us f ≡ Some u → Each us → only P 0 u
    argument_only k us f u e h =
        let p = goes_on (λ p. cond (takes g k (length us) && is_first g k p.0) (slice_get us p.1) None) (field_place g f) u e in
        each_got us p.value.1 u h (cond_some (takes g k (length us) && is_first g k p.value.0) (slice_get us p.value.1) u p.holds).1

    taken_only : (k : ℕ) (us : List Term) (es : List Elim) (p : Taken) → taken g k us es ≡ Some p → Each us → OnlyElims es → only P 0 p.value × OnlyElims p.rest
    taken_only k us [] p e h l = absurd cc
    taken_only k us (Arg b u ∷ es) p e h l = taken_only k (us ++ u ∷ []) es p e (each-append us (u ∷ []) h (l.0, tt)) l.1
    taken_only k us (Field f ∷ es) p e h l = by_argument (argument_of g k us f) refl e
      where
        by_argument : (o : Option Term) → argument_of g k us f ≡ o → option_map (λ u. record { value = u; rest = es }) o ≡ Some p → only P 0 p.value × OnlyElims p.rest
        by_argument None a b = absurd cc
        by_argument (Some u) a b = transport (λ p. only P 0 p.value × OnlyElims p.rest) (one_some b) (argument_only k us f u a h, l.1)

    mutual
      pub heads_only : {t : Term} {es : List Elim} {w : Answer} {n : ℕ} → Heads g no_solutions t es w n → only P 0 t → OnlyElims es → OnlyAnswer w
      heads_only (form p) h k = (h, k)
      heads_only (argument d) h k = heads_only d h.0 (h.1, k)
      heads_only (projection d) h k = heads_only d h (tt, k)
      heads_only (beta {t = t} {u = u} e d) h k = heads_only d (only-subst t u h.1 k.0) k.1
      heads_only (project {k = c} {es = es} {p = p} e d) h k = let x = taken_only c [] es p e tt k in heads_only d x.0 x.1
      heads_only (replaced e d) h k = absurd cc
      heads_only (unsolved e) h k = (h, k)
      heads_only (call e d) h k = follows_only d h k tt k

      follows_only : {h : Term} {all es : List Elim} {T : Tree Term} {r : List Term} {w : Answer} {n : ℕ} → Follows g no_solutions h all T r es w n → only P 0 h → OnlyElims all → Each r → OnlyElims es → OnlyAnswer w
      follows_only {r = r} (leaf {t = t} d) x y z k = heads_only d (only-under r t z) k
      follows_only (intro d) x y z k = follows_only d x y (k.0, z) k.1
      follows_only (cosplit e d) x y z k = follows_only d x y z k.1
      follows_only {r = r} (split {k = i} {bs = bs} {v = v} d a) x y z k =
          let p = heads_only d (each_at r i z) tt in
          after_only a x y z k (λ b T us e.
          let c = entered g bs v b T us e in
          transport Each c.is (con_app-only (shown v) [] c.con (by_full_con g (shown v) c.con c.full).0 (only_shown v p) tt))
      follows_only {r = r} (record_split {k = i} {d = f} d) x y z k = follows_only d x y (each-spread i (projections g f (value_at r i)) r (each-projections (fields_of g f) (value_at r i) (each_at r i z)) z) k
      follows_only (stuck q) x y z k = (x, y)

      after_only : {h : Term} {all es : List Elim} {k : ℕ} {r : List Term} {c : Choice} {w : Answer} {n : ℕ} → After g no_solutions h all k r es c w n → only P 0 h → OnlyElims all → Each r → OnlyElims es
          → ((b : Branch Term) (T : Tree Term) (us : List Term) → c ≡ Enters b T us → Each us) → OnlyAnswer w
      after_only {k = i} {r = r} (enters {us = us} {b = b} {T = T} d) x y z k e = follows_only d x y (each-kept (spread i us r) b.keep (each-spread i us r (e b T us refl) z)) k
      after_only stays x y z k e = (x, y)
      after_only waits x y z k e = (x, y)

-- no constructor, application or projection
abbrev NoCon : Term → Type 0
NoCon (Con k ps) = ⊥
NoCon (App b t u) = ⊥
NoCon (Proj f t) = ⊥
NoCon (Var i) = Unit {0}
NoCon (Sort i) = Unit {0}
NoCon (Pi b x a t) = Unit {0}
NoCon (Lam b x a t) = Unit {0}
NoCon (Def i) = Unit {0}
NoCon (Fam i) = Unit {0}
NoCon (Meta i ts) = Unit {0}

-- a constructor or none of these
abbrev pub IsHead : Term → Type 0
IsHead (Con k ps) = Unit {0}
IsHead h = NoCon h

abbrev pub HasHead : Answer → Type 0
HasHead (Form h es) = IsHead h
HasHead (Blocked m h es) = NoCon h

is_head : (h : Term) → NoCon h → IsHead h
is_head (Con k ps) p = absurd p
is_head (App b t u) p = absurd p
is_head (Proj f t) p = absurd p
is_head (Var i) p = tt
is_head (Sort i) p = tt
is_head (Pi b x a t) p = tt
is_head (Lam b x a t) p = tt
is_head (Def i) p = tt
is_head (Fam i) p = tt
is_head (Meta i ts) p = tt

form_head : (g : Signature Term) (h : Term) (es : List Elim) → IsForm g h es → IsHead h
form_head g (Con k ps) es p = tt
form_head g (App b t u) es p = absurd p
form_head g (Proj f t) es p = absurd p
form_head g (Var i) es p = tt
form_head g (Sort i) es p = tt
form_head g (Pi b x a t) es p = tt
form_head g (Lam b x a t) es p = tt
form_head g (Def i) es p = tt
form_head g (Fam i) es p = tt
form_head g (Meta i ts) es p = tt

module _ (g : Signature Term) where
  mutual
    pub heads_head : {t : Term} {es : List Elim} {w : Answer} {n : ℕ} → Heads g no_solutions t es w n → HasHead w
    heads_head (form {h = h} {es = es} p) = form_head g h es p
    heads_head (argument d) = heads_head d
    heads_head (projection d) = heads_head d
    heads_head (beta e d) = heads_head d
    heads_head (project e d) = heads_head d
    heads_head (replaced e d) = absurd cc
    heads_head (unsolved e) = tt
    heads_head (call e d) = follows_head d tt

    follows_head : {h : Term} {all es : List Elim} {T : Tree Term} {r : List Term} {w : Answer} {n : ℕ} → Follows g no_solutions h all T r es w n → NoCon h → HasHead w
    follows_head (leaf d) x = heads_head d
    follows_head (intro d) x = follows_head d x
    follows_head (cosplit e d) x = follows_head d x
    follows_head (split d a) x = after_head a x
    follows_head (record_split d) x = follows_head d x
    follows_head {h} (stuck q) x = is_head h x

    after_head : {h : Term} {all es : List Elim} {k : ℕ} {r : List Term} {c : Choice} {w : Answer} {n : ℕ} → After g no_solutions h all k r es c w n → NoCon h → HasHead w
    after_head (enters d) x = follows_head d x
    after_head {h} stays x = is_head h x
    after_head waits x = x
