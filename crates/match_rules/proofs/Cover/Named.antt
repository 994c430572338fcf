-- Terms that differ in names alone: with changes, and where one comes to a constructor, so does the other.
use Rattle.std.specs.Prelude.{◌≡◌, ℕ, ◌+◌, ◌-◌, Bool, true, false, ◌&&◌, ltb, eqb, cond, List, [], ◌∷◌, ◌++◌, length, map, take, drop, slice_get, Option, Some, None, option_map, option_and_then, refl, zero, suc}
use Rattle.std.proofs.Common.{ap, sym, ◌∙◌, subst as transport}
use mathlib.Core.List.{reverse_aux}
use Rattle.core_rules.specs.declared.Flag.{Flag}
use Rattle.core_rules.specs.Term.{Term, Terms, Var, Sort, Pi, Lam, App, Def, Fam, Con, Proj, Meta, End, And, nameless, nameless_all, IsSameTerm}
use Rattle.core_rules.specs.Substitution.{over, over_all, shift_var, subst, subst_var, env_var, value_at, under}
use Rattle.core_rules.specs.Signature.{Signature, Tree, field_place, fields_of}
use Rattle.core_rules.specs.Elimination.{Elim, Arg, Field, elims}
use Rattle.core_rules.specs.Run.{takes, spread}
use Rattle.core_rules.specs.Conversion as C
use Rattle.core_rules.specs.Conversion.{Conv, ConvAll}
use Rattle.core_rules.specs.Heads.{is_first, argument_of, Taken, taken}
use Rattle.core_rules.proofs.Heads.OneAnswer.{one_some}
use Rattle.match_rules.proofs.Cover.Comes as K
use Rattle.match_rules.proofs.Cover.Comes.{AreArgs, Comes, Goes}

-- the parameters of constructors count for nothing
mutual
  pub data Named : Term → Term → Type 0 where
    var : {i : ℕ} → Named (Var i) (Var i)
    sort : {n : ℕ} → Named (Sort n) (Sort n)
    pi : {b : Flag} {x y : ℕ} {a a' t t' : Term} → Named a a' → Named t t' → Named (Pi b x a t) (Pi b y a' t')
    lam : {b : Flag} {x y : ℕ} {a a' t t' : Term} → Named a a' → Named t t' → Named (Lam b x a t) (Lam b y a' t')
    app : {b : Flag} {t t' u u' : Term} → Named t t' → Named u u' → Named (App b t u) (App b t' u')
    def : {f : ℕ} → Named (Def f) (Def f)
    fam : {d : ℕ} → Named (Fam d) (Fam d)
    con : {k : ℕ} {ps qs : Terms} → Named (Con k ps) (Con k qs)
    proj : {f : ℕ} {t t' : Term} → Named t t' → Named (Proj f t) (Proj f t')
    meta : {m : ℕ} {ts us : Terms} → NamedAll ts us → Named (Meta m ts) (Meta m us)

  pub data NamedAll : Terms → Terms → Type 0 where
    none : NamedAll End End
    more : {t u : Term} {ts us : Terms} → Named t u → NamedAll ts us → NamedAll (And t ts) (And u us)

mutual
  pub named-refl : (t : Term) → Named t t
  named-refl (Var i) = var
  named-refl (Sort n) = sort
  named-refl (Pi b x a t) = pi (named-refl a) (named-refl t)
  named-refl (Lam b x a t) = lam (named-refl a) (named-refl t)
  named-refl (App b t u) = app (named-refl t) (named-refl u)
  named-refl (Def f) = def
  named-refl (Fam d) = fam
  named-refl (Con k ts) = con
  named-refl (Proj f t) = proj (named-refl t)
  named-refl (Meta m ts) = meta (all-refl ts)

  all-refl : (ts : Terms) → NamedAll ts ts
  all-refl End = none
  all-refl (And t ts) = more (named-refl t) (all-refl ts)

mutual
  pub named-sym : {t u : Term} → Named t u → Named u t
  named-sym var = var
  named-sym sort = sort
  named-sym (pi h k) = pi (named-sym h) (named-sym k)
  named-sym (lam h k) = lam (named-sym h) (named-sym k)
  named-sym (app h k) = app (named-sym h) (named-sym k)
  named-sym def = def
  named-sym fam = fam
  named-sym con = con
  named-sym (proj h) = proj (named-sym h)
  named-sym (meta h) = meta (all-sym h)

  all-sym : {ts us : Terms} → NamedAll ts us → NamedAll us ts
  all-sym none = none
  all-sym (more h k) = more (named-sym h) (all-sym k)

mutual
  pub named-trans : {t u v : Term} → Named t u → Named u v → Named t v
  named-trans var var = var
  named-trans sort sort = sort
  named-trans (pi h k) (pi p q) = pi (named-trans h p) (named-trans k q)
  named-trans (lam h k) (lam p q) = lam (named-trans h p) (named-trans k q)
  named-trans (app h k) (app p q) = app (named-trans h p) (named-trans k q)
  named-trans def def = def
  named-trans fam fam = fam
  named-trans con con = con
  named-trans (proj h) (proj p) = proj (named-trans h p)
  named-trans (meta h) (meta p) = meta (all-trans h p)

  all-trans : {ts us vs : Terms} → NamedAll ts us → NamedAll us vs → NamedAll ts vs
  all-trans none none = none
  all-trans (more h k) (more p q) = more (named-trans h p) (all-trans k q)

pub named_eq : {t u : Term} → t ≡ u → Named t u
named_eq {t} e = transport (Named t) e (named-refl t)

mutual
  to_nameless : (t : Term) → Named t (nameless t)
  to_nameless (Var i) = var
  to_nameless (Sort n) = sort
  to_nameless (Pi b x a t) = pi (to_nameless a) (to_nameless t)
  to_nameless (Lam b x a t) = lam (to_nameless a) (to_nameless t)
  to_nameless (App b t u) = app (to_nameless t) (to_nameless u)
  to_nameless (Def f) = def
  to_nameless (Fam d) = fam
  to_nameless (Con k ts) = con
  to_nameless (Proj f t) = proj (to_nameless t)
  to_nameless (Meta m ts) = meta (all_to_nameless ts)

  all_to_nameless : (ts : Terms) → NamedAll ts (nameless_all ts)
  all_to_nameless End = none
  all_to_nameless (And t ts) = more (to_nameless t) (all_to_nameless ts)

pub of_same : (t u : Term) → IsSameTerm t u → Named t u
of_same t u e = named-trans (transport (Named t) e (to_nameless t)) (named-sym (to_nameless u))

module _ (g : Signature Term) where
  mutual
    pub named_conv : {t u : Term} → Named t u → Conv g t u
    named_conv var = C.same
    named_conv sort = C.same
    named_conv (pi h k) = C.pi (named_conv h) (named_conv k)
    named_conv (lam h k) = C.lam (named_conv k)
    named_conv (app h k) = C.app (named_conv h) (named_conv k)
    named_conv def = C.same
    named_conv fam = C.same
    named_conv con = C.con
    named_conv (proj h) = C.proj (named_conv h)
    named_conv (meta h) = C.meta (all_conv h)

    all_conv : {ts us : Terms} → NamedAll ts us → ConvAll g ts us
    all_conv none = C.ends
    all_conv (more h k) = C.both (named_conv h) (all_conv k)

-- changes that are so at each variable
module _ (f h : ℕ → ℕ → Term) (at : (d i : ℕ) → Named (f d i) (h d i)) where
  mutual
    pub named-over : (d : ℕ) {t u : Term} → Named t u → Named (over f d t) (over h d u)
    named-over d (var {i = i}) = at d i
    named-over d sort = sort
    named-over d (pi p q) = pi (named-over d p) (named-over (d + 1) q)
    named-over d (lam p q) = lam (named-over d p) (named-over (d + 1) q)
    named-over d (app p q) = app (named-over d p) (named-over d q)
    named-over d def = def
    named-over d fam = fam
    named-over d con = con
    named-over d (proj p) = proj (named-over d p)
    named-over d (meta p) = meta (all-over d p)

    all-over : (d : ℕ) {ts us : Terms} → NamedAll ts us → NamedAll (over_all f d ts) (over_all h d us)
    all-over d none = none
    all-over d (more p q) = more (named-over d p) (all-over d q)

-- one change
pub named_over : (f : ℕ → ℕ → Term) (d : ℕ) {t u : Term} → Named t u → Named (over f d t) (over f d u)
named_over f d h = named-over f f (λ d i. named-refl (f d i)) d h

by_test : (b : Bool) {t t' u u' : Term} → Named t t' → Named u u' → Named (cond b t u) (cond b t' u')
by_test true h k = h
by_test false h k = k

pub named-subst : {t t' u u' : Term} → Named t t' → Named u u' → Named (subst t 0 u) (subst t' 0 u')
named-subst {u = u} {u' = u'} h k =
    named-over (subst_var 0 u) (subst_var 0 u') (λ d i. by_test (ltb i (0 + d)) var (by_test (eqb i (0 + d)) (named_over (shift_var 0 d) 0 k) var)) 0 h

pub data NamedElims : List Elim → List Elim → Type 0 where
  ends : NamedElims [] []
  argument : {b : Flag} {t u : Term} {es ds : List Elim} → Named t u → NamedElims es ds → NamedElims (Arg b t ∷ es) (Arg b u ∷ ds)
  projection : {f : ℕ} {es ds : List Elim} → NamedElims es ds → NamedElims (Field f ∷ es) (Field f ∷ ds)

pub data NamedEach : List Term → List Term → Type 0 where
  nil : NamedEach [] []
  one : {t u : Term} {ts us : List Term} → Named t u → NamedEach ts us → NamedEach (t ∷ ts) (u ∷ us)

pub elims-refl : (es : List Elim) → NamedElims es es
elims-refl [] = ends
elims-refl (Arg b u ∷ es) = argument (named-refl u) (elims-refl es)
elims-refl (Field f ∷ es) = projection (elims-refl es)

pub named-elims : {t u : Term} (es : List Elim) → Named t u → Named (elims t es) (elims u es)
named-elims [] h = h
named-elims (Arg b v ∷ es) h = named-elims es (app h (named-refl v))
named-elims (Field f ∷ es) h = named-elims es (proj h)

-- terms that are the same one by one
pub each_same_term : (ts us : List Term) → map nameless ts ≡ map nameless us → NamedEach ts us
each_same_term [] [] e = nil
each_same_term [] (u ∷ us) e = absurd cc
each_same_term (t ∷ ts) [] e = absurd cc
each_same_term (t ∷ ts) (u ∷ us) e = let p : (nameless t ≡ nameless u) × (map nameless ts ≡ map nameless us) = (cc e, cc e) in one (of_same t u p.0) (each_same_term ts us p.1)

each-append : {ts us vs ws : List Term} → NamedEach ts us → NamedEach vs ws → NamedEach (ts ++ vs) (us ++ ws)
each-append nil k = k
each-append (one h m) k = one h (each-append m k)

each-take : {ts us : List Term} (k : ℕ) → NamedEach ts us → NamedEach (take k ts) (take k us)
each-take zero m = nil
each-take (suc k) nil = nil
each-take (suc k) (one h m) = one h (each-take k m)

each-drop : {ts us : List Term} (k : ℕ) → NamedEach ts us → NamedEach (drop k ts) (drop k us)
each-drop zero m = m
each-drop (suc k) nil = nil
each-drop (suc k) (one h m) = each-drop k m

each-reverse_onto : {ts us vs ws : List Term} → NamedEach ts us → NamedEach vs ws → NamedEach (reverse_aux ts vs) (reverse_aux us ws)
each-reverse_onto nil k = k
each-reverse_onto (one h m) k = each-reverse_onto m (one h k)

each-spread : {ts us s q : List Term} (k : ℕ) → NamedEach ts us → NamedEach s q → NamedEach (spread k ts s) (spread k us q)
each-spread k u m = each-append (each-append (each-take k m) (each-reverse_onto u nil)) (each-drop (k + 1) m)

named-value_at : {s q : List Term} (i : ℕ) → NamedEach s q → Named (value_at s i) (value_at q i)
named-value_at i nil = sort
named-value_at zero (one h m) = h
named-value_at (suc i) (one h m) = named-value_at i m

each-kept : {s q : List Term} (ks : List ℕ) → NamedEach s q → NamedEach (map (value_at s) ks) (map (value_at q) ks)
each-kept [] m = nil
each-kept (k ∷ ks) m = one (named-value_at k m) (each-kept ks m)

pub each-projections : {t u : Term} (fs : List ℕ) → Named t u → NamedEach (map (λ f. Proj f t) fs) (map (λ f. Proj f u) fs)
each-projections [] h = nil
each-projections (f ∷ fs) h = one (proj h) (each-projections fs h)

each-length : {ts us : List Term} → NamedEach ts us → length ts ≡ length us
each-length nil = refl
each-length (one h m) = ap suc (each-length m)

named-under : {s q : List Term} → NamedEach s q → (t : Term) → Named (under s t) (under q t)
named-under {s} {q} m t = named-over (env_var s) (env_var q) (λ d i. by_test (ltb i d) var (named_over (shift_var 0 d) 0 (named-value_at (i - d) m))) 0 (named-refl t)

record ArgsNamed (ts : List Term) (es : List Elim) : Type 0 where
  terms : List Term
  are : AreArgs es terms
  same : NamedEach ts terms

args_named : {ds es : List Elim} {ts : List Term} → AreArgs ds ts → NamedElims ds es → ArgsNamed ts es
args_named K.none ends = record { terms = []; are = K.none; same = nil }
args_named (K.one a) (argument {u = u} h m) = let x = args_named a m in record { terms = u ∷ x.terms; are = K.one x.are; same = one h x.same }

module _ (g : Signature Term) where
  data NamedOption : Option Term → Option Term → Type 0 where
    nothing : NamedOption None None
    just : {t u : Term} → Named t u → NamedOption (Some t) (Some u)

  slice_named : {ts us : List Term} (i : ℕ) → NamedEach ts us → NamedOption (slice_get ts i) (slice_get us i)
  slice_named i nil = nothing
  slice_named zero (one h m) = just h
  slice_named (suc i) (one h m) = slice_named i m

  argument_named : (k f : ℕ) {ts us : List Term} → NamedEach ts us → NamedOption (argument_of g k ts f) (argument_of g k us f)
  argument_named k f {ts} {us} m = by_place (field_place g f)
    where
      by_first : (b : Bool) (i : ℕ) → NamedOption (cond b (slice_get ts i) None) (cond b (slice_get us i) None)
      by_first true i = slice_named i m
      by_first false i = nothing

      by_place : (o : Option (ℕ × ℕ)) → NamedOption (option_and_then (λ p. cond (takes g k (length ts) && is_first g k p.0) (slice_get ts p.1) None) o) (option_and_then (λ p. cond (takes g k (length us) && is_first g k p.0) (slice_get us p.1) None) o)
      by_place None = nothing
      by_place (Some p) = transport (λ n. NamedOption (cond (takes g k (length ts) && is_first g k p.0) (slice_get ts p.1) None) (cond (takes g k n && is_first g k p.0) (slice_get us p.1) None)) (each-length m) (by_first (takes g k (length ts) && is_first g k p.0) p.1)

  data NamedTaken : Option Taken → Option Taken → Type 0 where
    nothing : NamedTaken None None
    just : {p q : Taken} → Named p.value q.value → NamedElims p.rest q.rest → NamedTaken (Some p) (Some q)

  map_taken : {o x : Option Term} {ds es : List Elim} → NamedOption o x → NamedElims ds es → NamedTaken (option_map {U = Taken} (λ u. record { value = u; rest = ds }) o) (option_map {U = Taken} (λ u. record { value = u; rest = es }) x)
  map_taken nothing l = nothing
  map_taken (just h) l = just h l

  taken_named : (k : ℕ) {ts us : List Term} {ds es : List Elim} → NamedEach ts us → NamedElims ds es → NamedTaken (taken g k ts ds) (taken g k us es)
  taken_named k m ends = nothing
  taken_named k m (argument h l) = taken_named k (each-append m (one h nil)) l
  taken_named k m (projection {f = f} l) = map_taken (argument_named k f m) l

  named_none : {o x : Option Taken} → NamedTaken o x → o ≡ None → x ≡ None
  named_none nothing e = refl
  named_none (just h l) e = absurd cc

  record TakenAs (p : Taken) (x : Option Taken) : Type 0 where
    other : Taken
    is : x ≡ Some other
    value : Named p.value other.value
    rest : NamedElims p.rest other.rest

  named_some : {o x : Option Taken} (p : Taken) → NamedTaken o x → o ≡ Some p → TakenAs p x
  named_some p nothing e = absurd cc
  named_some p (just {p = q} {q = s} h l) e =
      let x : q ≡ p = one_some e in
      record { other = s; is = refl; value = transport (λ p. Named p.value s.value) x h; rest = transport (λ p. NamedElims p.rest s.rest) x l }

  -- under fs it comes to constructor k too
  pub record CameAs (u : Term) (fs : List Elim) (k : ℕ) (ds : List Elim) (n : ℕ) : Type 0 where
    pub spine : List Elim
    pub comes : Comes g u fs k spine n
    pub same : NamedElims ds spine

  record WentAs (T : Tree Term) (q : List Term) (fs : List Elim) (k : ℕ) (ds : List Elim) (n : ℕ) : Type 0 where
    spine : List Elim
    goes : Goes g T q fs k spine n
    same : NamedElims ds spine

  mutual
    pub comes_named : {t u : Term} {es fs ds : List Elim} {k n : ℕ} → Comes g t es k ds n → Named t u → NamedElims es fs → CameAs u fs k ds n
    comes_named {fs = fs} (K.stop {k = k} e) con l = record { spine = fs; comes = K.stop (named_none (taken_named k nil l) e); same = l }
    comes_named (K.argument c) (app h m) l = let x = comes_named c h (argument m l) in record { spine = x.spine; comes = K.argument x.comes; same = x.same }
    comes_named (K.projection c) (proj h) l = let x = comes_named c h (projection l) in record { spine = x.spine; comes = K.projection x.comes; same = x.same }
    comes_named (K.beta c) (lam h m) (argument p l) = let x = comes_named c (named-subst m p) l in record { spine = x.spine; comes = K.beta x.comes; same = x.same }
    comes_named (K.project {j = j} {p = p} e c) con l =
        let q = named_some p (taken_named j nil l) e in
        let x = comes_named c q.value q.rest in
        record { spine = x.spine; comes = K.project q.is x.comes; same = x.same }
    comes_named (K.call e c) def l = let x = goes_named c nil l in record { spine = x.spine; comes = K.call e x.goes; same = x.same }

    goes_named : {T : Tree Term} {r q : List Term} {es fs ds : List Elim} {k n : ℕ} → Goes g T r es k ds n → NamedEach r q → NamedElims es fs → WentAs T q fs k ds n
    goes_named (K.leaf {t = t} c) m l = let x = comes_named c (named-under m t) l in record { spine = x.spine; goes = K.leaf x.comes; same = x.same }
    goes_named (K.intro c) m (argument h l) = let x = goes_named c (one h m) l in record { spine = x.spine; goes = K.intro x.goes; same = x.same }
    goes_named (K.cosplit e c) m (projection l) = let x = goes_named c m l in record { spine = x.spine; goes = K.cosplit e x.goes; same = x.same }
    goes_named (K.split {i = i} {j = j} {b = b} c a t e d) m l =
        let v = comes_named c (named-value_at i m) ends in
        let w = args_named a v.same in
        let x = goes_named d (each-kept b.keep (each-spread i w.same m)) l in
        record { spine = x.spine; goes = K.split v.comes w.are (ap (takes g j) (sym (each-length w.same)) ∙ t) e x.goes; same = x.same }
    goes_named (K.record_split {i = i} {d = f} c) m l =
        let x = goes_named c (each-spread i (each-projections (fields_of g f) (named-value_at i m)) m) l in
        record { spine = x.spine; goes = K.record_split x.goes; same = x.same }
