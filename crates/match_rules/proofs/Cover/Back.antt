-- Where an open term comes to a constructor, what it stands for comes to it too.
use Rattle.std.specs.Prelude.{◌≡◌, ℕ, ◌+◌, ◌<◌, Bool, true, false, ◌&&◌, eqb, cond, List, [], ◌∷◌, ◌++◌, length, map, slice_get, Option, Some, None, option_map, option_and_then, refl, zero, suc}
use Rattle.std.specs.Option.{option_map_or}
use Rattle.std.proofs.Common.{ap, ap₂, sym, ◌∙◌, subst as transport, arith, append-nil, append_assoc, length-append, eqb-true}
use Rattle.core_rules.specs.Term.{Term, Terms, Var, Sort, Pi, Lam, App, Def, Fam, Con, Proj, Meta}
use Rattle.core_rules.specs.Substitution.{subst, value_at, under}
use Rattle.core_rules.specs.Signature.{Signature, Branch, Tree, Leaf, Intro, Cosplit, Split, RecordSplit, Absurd, CoBranches, ConBranches, ConDecl, Entry, co_branch, con_branch, tree_of, con_place, con_decl, fam_decl, field_place, fields_of}
use Rattle.core_rules.specs.Elimination.{Elim, Arg, Field, elims, args, projections}
use Rattle.core_rules.specs.Run.{ConApp, con_app, takes}
use Rattle.core_rules.specs.Conversion.{IsArgument, IsEtaCon}
use Rattle.core_rules.specs.Heads.{is_first, argument_of, Taken, taken}
use Rattle.match_rules.specs.Matching.{eta_family, HasHead}
use Rattle.core_rules.proofs.Run.Records.{full-takes}
use Rattle.core_rules.proofs.Heads.OneAnswer.{one_some}
use Rattle.core_rules.proofs.Heads.Sound.{eqb_same, and_true, cond_some, by_full_con, is_first_place}
use Rattle.match_rules.proofs.Cover.Values.{under-var}
use Rattle.match_rules.proofs.Cover.Fields.{one_field}
use Rattle.match_rules.proofs.Cover.Comes as K
use Rattle.match_rules.proofs.Cover.Comes.{AreArgs, Comes, Goes, Came, of_head, to_head, comes-on, comes_in, comes_out}
use Rattle.match_rules.proofs.Cover.Named as N
use Rattle.match_rules.proofs.Cover.Named.{named-sym, named-trans, named_eq, elims-refl, comes_named}
use Rattle.match_rules.proofs.Cover.Like as L
use Rattle.match_rules.proofs.Cover.Like.{Like, LikeElims, LikeEach, like_elims_named, like-subst, like-under, like-value_at, each-append, each-spread, each-branch, each-projections, each-length, elims-append}

-- each split is one of a family without eta
pub data PlainSplits (g : Signature Term) : Tree Term → Type 0 where
  leaf : {t : Term} {n : ℕ} → PlainSplits g (Leaf t n)
  intro : {T : Tree Term} → PlainSplits g T → PlainSplits g (Intro T)
  cosplit : {bs : CoBranches Term} → ((f : ℕ) (T : Tree Term) → co_branch bs f ≡ Some T → PlainSplits g T) → PlainSplits g (Cosplit bs)
  split : {i : ℕ} {bs : ConBranches Term} → ((k : ℕ) (b : Branch Term) (T : Tree Term) → con_branch bs k ≡ Some (b, T) → eta_family g k ≡ None)
      → ((k : ℕ) (b : Branch Term) (T : Tree Term) → con_branch bs k ≡ Some (b, T) → PlainSplits g T) → PlainSplits g (Split i bs)
  record_split : {k d : ℕ} {T : Tree Term} → PlainSplits g T → PlainSplits g (RecordSplit k d T)
  absurd_split : {k : ℕ} → PlainSplits g (Absurd k)

are-append : {ds es : List Elim} {ts us : List Term} → AreArgs ds ts → AreArgs es us → AreArgs (ds ++ es) (ts ++ us)
are-append K.none b = b
are-append (K.one a) b = K.one (are-append a b)

pub args_are : (es : List (Entry Term)) (us : List Term) → length us ≡ length es → AreArgs (args es us) us
args_are [] [] n = K.none
args_are [] (u ∷ us) n = absurd (omega (arith, n))
args_are (e ∷ es) [] n = absurd (omega (arith, n))
args_are (e ∷ es) (u ∷ us) n = K.one (args_are es us (omega (arith, n)))

pub elims_app : (t : Term) (es fs : List Elim) → elims t (es ++ fs) ≡ elims (elims t es) fs
elims_app t [] fs = refl
elims_app t (Arg b u ∷ es) fs = elims_app (App b t u) es fs
elims_app t (Field f ∷ es) fs = elims_app (Proj f t) es fs

-- the head of a term under eliminations
abbrev pub head_of : Term → Term
head_of (App b t u) = head_of t
head_of (Proj f t) = head_of t
head_of (Var i) = Var i
head_of (Sort n) = Sort n
head_of (Pi b x a t) = Pi b x a t
head_of (Lam b x a t) = Lam b x a t
head_of (Def f) = Def f
head_of (Fam d) = Fam d
head_of (Con k ps) = Con k ps
head_of (Meta m ts) = Meta m ts

pub head_elims : (t : Term) (es : List Elim) → head_of (elims t es) ≡ head_of t
head_elims t [] = refl
head_elims t (Arg b u ∷ es) = head_elims (App b t u) es
head_elims t (Field f ∷ es) = head_elims (Proj f t) es

pub same_con : {j k : ℕ} {ps qs : Terms} → Con j ps ≡ Con k qs → j ≡ k
same_con e = cc e

eta_known : (g : Signature Term) (k d : ℕ) → IsEtaCon g k d → eta_family g k ≡ Some d
eta_known g k d is =
    ap (option_and_then (λ p. option_and_then (λ d. cond d.eta (Some p.0) None) (fam_decl g p.0))) is.place
    ∙ (ap (option_and_then (λ c. cond c.eta (Some d) None)) is.is_decl ∙ ap (λ b. cond b (Some d) None) is.eta)

pub not_eta : (g : Signature Term) (k d : ℕ) → IsEtaCon g k d → eta_family g k ≡ None → ⊥
not_eta g k d is e = none_some (sym e ∙ eta_known g k d is)
  where
    none_some : {d : ℕ} → None ≡ Some d → ⊥
    none_some e = cc e

module _ (g : Signature Term) where
  -- arguments that are taken one by one
  taken_spine : (k : ℕ) (us : List Term) {vs : List Elim} {ts : List Term} (es : List Elim) → AreArgs vs ts → taken g k us (vs ++ es) ≡ taken g k (us ++ ts) es
  taken_spine k us es K.none = ap (λ us. taken g k us es) (sym (append-nil us))
  taken_spine k us es (K.one {u = u} {us = ts} a) = taken_spine k (us ++ u ∷ []) es a ∙ ap (λ us. taken g k us es) (append_assoc us (u ∷ []) ts)

  takes_as_many : (k n : ℕ) (con : ConDecl Term) → con_decl g k ≡ Some con → takes g k n ≡ true → length con.args ≡ n
  takes_as_many k n con d t = eqb-true (length con.args) n (sym (ap (λ o. option_map_or (λ c. eqb (length c.args) n) o false) d) ∙ t)

  -- what a projection takes from a constructor, by the field's place
  record Found (k : ℕ) (ws : List Term) (f : ℕ) (u : Term) : Type 0 where
    fam : ℕ
    at : ℕ
    place : field_place g f ≡ Some (fam, at)
    all : takes g k (length ws) ≡ true
    own : con_place g k ≡ Some (fam, 0)
    is : slice_get ws at ≡ Some u

  found : (k : ℕ) (ws : List Term) (f : ℕ) (u : Term) → argument_of g k ws f ≡ Some u → Found k ws f u
  found k ws f u = by_place (field_place g f) refl
    where
      by_place : (o : Option (ℕ × ℕ)) → field_place g f ≡ o → option_and_then (λ p. cond (takes g k (length ws) && is_first g k p.0) (slice_get ws p.1) None) o ≡ Some u → Found k ws f u
      by_place None e h = absurd cc
      by_place (Some p) e h =
          let x = cond_some (takes g k (length ws) && is_first g k p.0) (slice_get ws p.1) u h in
          let y = and_true (takes g k (length ws)) (is_first g k p.0) x.0 in
          record { fam = p.0; at = p.1; place = e; all = y.0; own = is_first_place g k p.0 y.1; is = x.1 }

  field_taken : (ds : List Elim) (o : Option Term) (p : Taken) → option_map {U = Taken} (λ u. record { value = u; rest = ds }) o ≡ Some p → (o ≡ Some p.value) × (ds ≡ p.rest)
  field_taken ds None p e = absurd cc
  field_taken ds (Some u) p e = let x = one_some e in (ap (λ p. Some p.value) x, ap (λ p. p.rest) x)

  too_many : (k : ℕ) (con : ConDecl Term) (us : List Term) (ds : List Elim) (p : Taken) → con_decl g k ≡ Some con → length con.args < length us → taken g k us ds ≡ Some p → ⊥
  too_many k con us [] p d h e = none_some e
    where
      none_some : None ≡ Some p → ⊥
      none_some e = cc e
  too_many k con us (Arg b u ∷ ds) p d h e = too_many k con (us ++ u ∷ []) ds p d (let l = length-append us (u ∷ []) in omega (arith, l, h)) e
  too_many k con us (Field f ∷ ds) p d h e =
      let x = found k us f p.value (field_taken ds (argument_of g k us f) p e).0 in
      let n = takes_as_many k (length us) con d x.all in
      absurd (omega (arith, n, h))

  -- a term that is itself a constructor comes to what this comes to at its arguments
  record Reaching (t : Term) (vs : List Term) (c : ConApp) : Type 0 where
    spine : List Elim
    terms : List Term
    are : AreArgs spine terms
    args : c.args ≡ terms ++ vs
    into : (es ds : List Elim) (k n : ℕ) → Comes g (Con c.con c.params) (spine ++ es) k ds n → Comes g t es k ds n
    from : (es ds : List Elim) (k n : ℕ) → Comes g t es k ds n → Comes g (Con c.con c.params) (spine ++ es) k ds n

  reach : (t : Term) (vs : List Term) (c : ConApp) → con_app t vs ≡ Some c → Reaching t vs c
  reach (Con k ps) vs c e =
      let x = one_some e in
      record {
        spine = [];
        terms = [];
        are = K.none;
        args = sym (ap (λ c. c.args) x);
        into = λ es ds j n q. transport (λ c. Comes g (Con c.con c.params) es j ds n) (sym x) q;
        from = λ es ds j n q. transport (λ c. Comes g (Con c.con c.params) es j ds n) x q;
      }
  reach (App b t u) vs c e =
      let y = reach t (u ∷ vs) c e in
      record {
        spine = y.spine ++ Arg b u ∷ [];
        terms = y.terms ++ u ∷ [];
        are = are-append y.are (K.one K.none);
        args = y.args ∙ sym (append_assoc y.terms (u ∷ []) vs);
        into = λ es ds k n q. K.argument (y.into (Arg b u ∷ es) ds k n (transport (λ s. Comes g (Con c.con c.params) s k ds n) (append_assoc y.spine (Arg b u ∷ []) es) q));
        from = λ es ds k n q. transport (λ s. Comes g (Con c.con c.params) s k ds n) (sym (append_assoc y.spine (Arg b u ∷ []) es)) (y.from (Arg b u ∷ es) ds k n (comes_in g t (Arg b u ∷ []) q));
      }
  reach (Var i) vs c e = absurd cc
  reach (Sort n) vs c e = absurd cc
  reach (Pi b x a t) vs c e = absurd cc
  reach (Lam b x a t) vs c e = absurd cc
  reach (Def f) vs c e = absurd cc
  reach (Fam d) vs c e = absurd cc
  reach (Proj f t) vs c e = absurd cc
  reach (Meta m ts) vs c e = absurd cc

  none_taken : {p : Taken} → None ≡ Some p → ⊥
  none_taken e = cc e

  after_taken : {j k n : ℕ} {ps : Terms} {s ds : List Elim} (u : Term) (es : List Elim) → taken g j [] s ≡ Some (record { value = u; rest = es }) → Comes g (Con j ps) s k ds n → Came g u es k ds
  after_taken u es e (K.stop h) = absurd (none_taken (sym h ∙ e))
  after_taken u es e (K.project {ds = ds} {p = p} {k = k} {n = n} h d) =
      let x : ◌≡◌ {A = Taken} p (record { value = u; rest = es }) = one_some (sym h ∙ e) in
      record { height = n; comes = transport (λ p. Comes g p.value p.rest k ds n) x d }

  module _ (f : ℕ) (w u : Term) (i : IsArgument g f w u) where
    itself : Reaching w [] i.con
    itself = reach w [] i.con (by_full_con g w i.con i.full).0

    argument_known : (ts : List Term) → i.con.args ≡ ts → argument_of g i.con.con ts f ≡ Some u
    argument_known ts e =
        let first : is_first g i.con.con i.fam ≡ true = ap (λ o. option_map_or (λ p. eqb p.0 i.fam && eqb p.1 0) o false) i.own ∙ ap₂ ◌&&◌ (eqb_same i.fam) (eqb_same 0) in
        let all : takes g i.con.con (length ts) ≡ true = ap (λ ts. takes g i.con.con (length ts)) (sym e) ∙ full-takes g w i.con i.full in
        ap (option_and_then (λ p. cond (takes g i.con.con (length ts) && is_first g i.con.con p.0) (slice_get ts p.1) None)) i.place
        ∙ (ap₂ (λ a b. cond (a && b) (slice_get ts i.at) None) all first ∙ (ap (λ ts. slice_get ts i.at) (sym e) ∙ i.is))

    projection_taken : (es : List Elim) → taken g i.con.con [] (itself.spine ++ Field f ∷ es) ≡ Some (record { value = u; rest = es })
    projection_taken es =
        taken_spine i.con.con [] (Field f ∷ es) itself.are
        ∙ ap (option_map {U = Taken} (λ u. record { value = u; rest = es })) (argument_known itself.terms (itself.args ∙ append-nil itself.terms))

    pub projects : {es ds : List Elim} {k n : ℕ} → Comes g u es k ds n → Comes g (Proj f w) es k ds (suc n)
    projects {es} {ds} {k} {n} c = K.projection (itself.into (Field f ∷ es) ds k (suc n) (K.project (projection_taken es) c))

    pub projected : {es ds : List Elim} {k n : ℕ} → Comes g (Proj f w) es k ds n → Came g u es k ds
    projected {es} {ds} {k} {n} c = after_taken u es (projection_taken es) (itself.from (Field f ∷ es) ds k n (comes_in g w (Field f ∷ []) c))

module _ (g : Signature Term) (r : List Term) where
  data OptLike : Option Term → Option Term → Type 0 where
    nothing : OptLike None None
    just : {t v : Term} → Like g r 0 t v → OptLike (Some t) (Some v)

  slice_like : {ts us : List Term} (i : ℕ) → LikeEach g r 0 ts us → OptLike (slice_get ts i) (slice_get us i)
  slice_like i L.nil = nothing
  slice_like zero (L.one l m) = just l
  slice_like (suc i) (L.one l m) = slice_like i m

  argument_like : (k f : ℕ) {ws us : List Term} → LikeEach g r 0 ws us → OptLike (argument_of g k ws f) (argument_of g k us f)
  argument_like k f {ws} {us} l = by_place (field_place g f)
    where
      by_test : (b : Bool) (i : ℕ) → OptLike (cond b (slice_get ws i) None) (cond b (slice_get us i) None)
      by_test true i = slice_like i l
      by_test false i = nothing

      by_place : (o : Option (ℕ × ℕ)) → OptLike (option_and_then (λ p. cond (takes g k (length ws) && is_first g k p.0) (slice_get ws p.1) None) o) (option_and_then (λ p. cond (takes g k (length us) && is_first g k p.0) (slice_get us p.1) None) o)
      by_place None = nothing
      by_place (Some p) = transport (λ n. OptLike (cond (takes g k (length ws) && is_first g k p.0) (slice_get ws p.1) None) (cond (takes g k n && is_first g k p.0) (slice_get us p.1) None)) (each-length g r l) (by_test (takes g k (length ws) && is_first g k p.0) p.1)

  data TakenLike : Option Taken → Option Taken → Type 0 where
    nothing : TakenLike None None
    just : {p q : Taken} → Like g r 0 p.value q.value → LikeElims g r 0 p.rest q.rest → TakenLike (Some p) (Some q)

  map_taken : {o x : Option Term} {ds es : List Elim} → OptLike o x → LikeElims g r 0 ds es → TakenLike (option_map {U = Taken} (λ u. record { value = u; rest = ds }) o) (option_map {U = Taken} (λ u. record { value = u; rest = es }) x)
  map_taken nothing l = nothing
  map_taken (just m) l = just m l

  taken_like : (k : ℕ) {ws us : List Term} {ds es : List Elim} → LikeEach g r 0 ws us → LikeElims g r 0 ds es → TakenLike (taken g k ws ds) (taken g k us es)
  taken_like k m L.ends = nothing
  taken_like k m (L.argument a l) = taken_like k (each-append g r m (L.one a L.nil)) l
  taken_like k m (L.projection {f = f} l) = map_taken (argument_like k f m) l

  like_none : {o x : Option Taken} → TakenLike o x → o ≡ None → x ≡ None
  like_none nothing e = refl
  like_none (just m l) e = absurd cc

  record TakenAs (p : Taken) (x : Option Taken) : Type 0 where
    other : Taken
    is : x ≡ Some other
    value : Like g r 0 p.value other.value
    rest : LikeElims g r 0 p.rest other.rest

  like_some : {o x : Option Taken} (p : Taken) → TakenLike o x → o ≡ Some p → TakenAs p x
  like_some p nothing e = absurd cc
  like_some p (just {p = q} {q = s} m l) e =
      let x : q ≡ p = one_some e in
      record { other = s; is = refl; value = transport (λ p. Like g r 0 p.value s.value) x m; rest = transport (λ p. LikeElims g r 0 p.rest s.rest) x l }

  pub record ArgsLike (ts : List Term) (es : List Elim) : Type 0 where
    pub terms : List Term
    pub are : AreArgs es terms
    pub like : LikeEach g r 0 ts terms

  pub args_like : {ds es : List Elim} {ts : List Term} → AreArgs ds ts → LikeElims g r 0 ds es → ArgsLike ts es
  args_like K.none L.ends = record { terms = []; are = K.none; like = L.nil }
  args_like (K.one a) (L.argument {u = u} l m) = let x = args_like a m in record { terms = u ∷ x.terms; are = K.one x.are; like = L.one l x.like }

  -- v under es comes to constructor k, under eliminations for which ds stand
  pub record BackTo (v : Term) (es : List Elim) (k : ℕ) (ds : List Elim) : Type 0 where
    pub spine : List Elim
    pub height : ℕ
    pub comes : Comes g v es k spine height
    pub like : LikeElims g r 0 ds spine

  record BackFrom (T : Tree Term) (s : List Term) (es : List Elim) (k : ℕ) (ds : List Elim) : Type 0 where
    spine : List Elim
    height : ℕ
    goes : Goes g T s es k spine height
    like : LikeElims g r 0 ds spine

  abbrev Before : ℕ → Type 0
  Before N = (t v : Term) (ds es : List Elim) (k : ℕ) (rs : List Elim) (n : ℕ) → n < N → eta_family g k ≡ None → Comes g t ds k rs n → Like g r 0 t v → LikeElims g r 0 ds es → BackTo v es k rs

  -- from a constructor
  back_con : (N : ℕ) → Before N → {j k n : ℕ} {ps : Terms} (qs : Terms) {ds es rs : List Elim} → n < suc N → eta_family g k ≡ None → Comes g (Con j ps) ds k rs n → LikeElims g r 0 ds es → BackTo (Con j qs) es k rs
  back_con N ih {j = j} qs {es = es} b x (K.stop e) l = record { spine = es; height = 0; comes = K.stop (like_none (taken_like j L.nil l) e); like = l }
  back_con N ih {j = j} {k = k} qs {es = es} {rs = rs} b x (K.project {p = p} {n = n} e d) l =
      let q = like_some p (taken_like j L.nil l) e in
      let y = ih p.value q.other.value p.rest q.other.rest k rs n (omega arith) x d q.value q.rest in
      record { spine = y.spine; height = suc y.height; comes = K.project q.is y.comes; like = y.like }

  -- the projection to a field, in place of the argument of the record's constructor
  record FieldLike (v : Term) (d at : ℕ) (u : Term) : Type 0 where
    field : ℕ
    stands : slice_get (fields_of g d) at ≡ Some field
    like : Like g r 0 u (Proj field v)

  field_like : (v : Term) (fs : List ℕ) (i : ℕ) (u : Term) {ws : List Term} → LikeEach g r 0 ws (map (λ f. Proj f v) fs) → slice_get ws i ≡ Some u → (f : ℕ) × (slice_get fs i ≡ Some f) × Like g r 0 u (Proj f v)
  field_like v [] i u L.nil e = absurd cc
  field_like v (f ∷ fs) zero u (L.one l m) e = (f, refl, transport (λ t. Like g r 0 t (Proj f v)) (one_some e) l)
  field_like v (f ∷ fs) (suc i) u (L.one l m) e = field_like v fs i u m e

  back_field : (N : ℕ) → Before N → (v : Term) (j d k n f : ℕ) (ws : List Term) (ds es rs : List Elim) (p : Taken) → IsEtaCon g j d → LikeEach g r 0 ws (projections g d v) → eta_family g k ≡ None → n < N
      → option_map {U = Taken} (λ u. record { value = u; rest = ds }) (argument_of g j ws f) ≡ Some p → Comes g p.value p.rest k rs n → LikeElims g r 0 ds es → BackTo v (Field f ∷ es) k rs
  back_field N ih v j d k n f ws ds es rs p is m x b e c l =
      let a = field_taken g ds (argument_of g j ws f) p e in
      let q = found g j ws f p.value a.0 in
      let o : q.fam ≡ d = same_first (sym q.own ∙ is.place) in
      let place : field_place g f ≡ Some (d, q.at) = q.place ∙ ap (λ n. Some (n, q.at)) o in
      let h = field_like v (fields_of g d) q.at p.value m q.is in
      let same : h.0 ≡ f = one_field g d q.at f h.0 place h.1 in
      let y = ih p.value (Proj f v) p.rest es k rs n b x c (transport (λ f. Like g r 0 p.value (Proj f v)) same h.2) (transport (λ ds. LikeElims g r 0 ds es) a.1 l) in
      record { spine = y.spine; height = y.height; comes = comes_in g v (Field f ∷ []) y.comes; like = y.like }
    where
      same_first : {m n : ℕ} → ◌≡◌ {A = Option (ℕ × ℕ)} (Some (m, 0)) (Some (n, 0)) → m ≡ n
      same_first e = ap (λ o. option_map_or (λ p. p.0) o 0) e

  back_record : (N : ℕ) → Before N → (v : Term) (j d k n : ℕ) (ps : Terms) (ws : List Term) (ds es rs s : List Elim) (is : IsEtaCon g j d) → length ws ≡ length is.con.args → LikeEach g r 0 ws (projections g d v) → eta_family g k ≡ None → n < suc N
      → s ≡ args is.con.args ws ++ ds → Comes g (Con j ps) s k rs n → LikeElims g r 0 ds es → BackTo v es k rs
  back_record N ih v j d k n ps ws ds es rs s is len m x b e (K.stop h) l = absurd (not_eta g j d is x)
  back_record N ih v j d k _ ps ws _ _ rs s is len m x b e (K.project {p = p} {n = n} h c) l =
      by_next l (sym (taken_spine g j [] _ (args_are is.con.args ws len)) ∙ (ap (taken g j []) (sym e) ∙ h))
    where
      by_next : {ds es : List Elim} → LikeElims g r 0 ds es → taken g j ws ds ≡ Some p → BackTo v es k rs
      by_next L.ends q = absurd cc
      by_next (L.argument {t = t} {ds = ds} a l) q = absurd (too_many g j is.con (ws ++ t ∷ []) ds p is.is_con (let z = length-append ws (t ∷ []) in omega (arith, z, len)) q)
      by_next (L.projection {f = f} {ds = ds} {es = es} l) q = back_field N ih v j d k n f ws ds es rs p is m x (omega arith) q c l

  module _ (plain : (f : ℕ) (T : Tree Term) → tree_of g f ≡ Some T → PlainSplits g T) where
    back_goes : (N : ℕ) → Before N → {T : Tree Term} {s q : List Term} {ds es rs : List Elim} {k n : ℕ} → n < N → eta_family g k ≡ None → PlainSplits g T → Goes g T s ds k rs n → LikeEach g r 0 s q → LikeElims g r 0 ds es → BackFrom T q es k rs
    back_goes N ih {s = s} {q = q} {ds = ds} {es = es} {rs = rs} {k = k} {n = n} b x leaf (K.leaf {t = t} c) m l =
        let y = ih (under s t) (under q t) ds es k rs n b x c (like-under g r s q m t) l in
        record { spine = y.spine; height = y.height; goes = K.leaf y.comes; like = y.like }
    back_goes N ih b x (intro p) (K.intro c) m (L.argument a l) = let y = back_goes N ih b x p c (L.one a m) l in record { spine = y.spine; height = y.height; goes = K.intro y.goes; like = y.like }
    back_goes N ih b x (cosplit p) (K.cosplit {T = T} {f = f} e c) m (L.projection l) = let y = back_goes N ih b x (p f T e) c m l in record { spine = y.spine; height = y.height; goes = K.cosplit e y.goes; like = y.like }
    back_goes N ih {s = s} {q = q} b x (split none p) (K.split {i = i} {j = j} {b = br} {T = T} {us = us} {vs = vs} {m = h} {n = n} c a t e d) m l =
        let v = ih (value_at s i) (value_at q i) [] [] j vs h (omega arith) (none j br T e) c (like-value_at g r i m) L.ends in
        let w = args_like a v.like in
        let y = back_goes N ih {n = n} (omega arith) x (p j br T e) d (each-branch g r br (each-spread g r i w.like m)) l in
        record {
          spine = y.spine;
          height = v.height + y.height;
          goes = K.split v.comes w.are (ap (takes g j) (sym (each-length g r w.like)) ∙ t) e y.goes;
          like = y.like;
        }
    back_goes N ih {s = s} {q = q} b x (record_split p) (K.record_split {i = i} {d = e} d) m l =
        let y = back_goes N ih b x p d (each-spread g r i (each-projections g r (fields_of g e) (like-value_at g r i m)) m) l in
        record { spine = y.spine; height = y.height; goes = K.record_split y.goes; like = y.like }
    back_goes N ih b x absurd_split c m l = elim c [ ]

    inner : (N : ℕ) → Before N → {t v : Term} {ds es rs : List Elim} {k n : ℕ} → n < suc N → eta_family g k ≡ None → Like g r 0 t v → Comes g t ds k rs n → LikeElims g r 0 ds es → BackTo v es k rs
    inner N ih b x (L.var e) c l = elim c [ ]
    inner N ih b x L.sort c l = elim c [ ]
    inner N ih b x (L.pi m s) c l = elim c [ ]
    inner N ih {rs = rs} {k = k} b x (L.lam {t = t} {t' = t'} m s) (K.beta {u = u} {es = ds} {n = n} c) (L.argument {u = u'} {es = es} a l) =
        let y = ih (subst t 0 u) (subst t' 0 u') ds es k rs n (omega arith) x c (like-subst g r s a) l in
        record { spine = y.spine; height = suc y.height; comes = K.beta y.comes; like = y.like }
    inner N ih b x (L.app m s) (K.argument c) l = let y = inner N ih b x m c (L.argument s l) in record { spine = y.spine; height = y.height; comes = K.argument y.comes; like = y.like }
    inner N ih b x L.def (K.call {f = f} {T = T} {n = n} e c) l =
        let y = back_goes N ih {n = n} (omega arith) x (plain f T e) c L.nil l in
        record { spine = y.spine; height = suc y.height; comes = K.call e y.goes; like = y.like }
    inner N ih b x L.fam c l = elim c [ ]
    inner N ih b x (L.con {qs = qs}) c l = back_con N ih qs b x c l
    inner N ih b x (L.proj m) (K.projection c) l = let y = inner N ih b x m c (L.projection l) in record { spine = y.spine; height = y.height; comes = K.projection y.comes; like = y.like }
    inner N ih b x (L.meta m) c l = elim c [ ]
    inner N ih {ds = ds} {es = es} {rs = rs} {k = k} {n = n} b x (L.to_con {k = j} {ds = hs} ps p v m e) c l =
        let y = back_con N ih ps b x (comes_in g (Con j ps) hs (transport (λ t. Comes g t ds k rs n) e c)) (elims-append g r m l) in
        let z = comes-on g es v y.comes in
        record { spine = y.spine; height = z.height; comes = z.comes; like = y.like }
    inner N ih {v = v} {ds = ds} {es = es} {rs = rs} {k = k} {n = n} b x (L.to_record {k = j} {e = d} {ws = ws} ps is len m e) c l =
        back_record N ih v j d k n ps ws ds es rs (args is.con.args ws ++ ds) is len m x b refl (comes_in g (Con j ps) (args is.con.args ws) (transport (λ t. Comes g t ds k rs n) e c)) l
    inner N ih {es = es} {k = k} b x (L.to_argument {f = f} {u = u} {w = w} fs i e m) c l =
        let y = inner N ih b x m c l in
        let z = comes_named g (comes_out g (Proj f w) fs (projects g f w u i (comes_in g u fs y.comes))) (named-sym e) (elims-refl es) in
        record { spine = z.spine; height = suc y.height; comes = z.comes; like = like_elims_named g z.same y.like }

    back_by : (N : ℕ) → Before N
    back_by zero t v ds es k rs n b x c m l = absurd (omega arith)
    back_by (suc N) t v ds es k rs n b x c m l = inner N (back_by N) b x m c l

    -- where t has a constructor as its head form, no record's that has eta, v has it
    pub back : (t v : Term) (k : ℕ) (ds : List Elim) → eta_family g k ≡ None → Like g r 0 t v → HasHead g t k ds → (es : List Elim) × HasHead g v k es × LikeElims g r 0 ds es
    back t v k ds x m h =
        let c = of_head g h in
        let y = back_by (suc c.height) t v [] [] k ds c.height (omega arith) x c.comes m L.ends in
        (y.spine, to_head g y.comes, y.like)

  var_elims : (i k : ℕ) (ps : Terms) (ds : List Elim) → Var i ≡ elims (Con k ps) ds → ⊥
  var_elims i k ps ds e = not_var (ap head_of e ∙ head_elims (Con k ps) ds)
    where
      not_var : Var i ≡ Con k ps → ⊥
      not_var e = cc e

  -- a variable has the constructor of what it stands for
  pub like_var : {i k : ℕ} {v : Term} {es : List Elim} → Like g r 0 (Var i) v → HasHead g v k es → (ds : List Elim) × HasHead g (value_at r i) k ds
  like_var {i} {k} {v} {es} (L.var e) h =
      let c = of_head g h in
      let x = comes_named g c.comes (named-trans e (named_eq (under-var r i))) N.ends in
      (x.spine, to_head g x.comes)
  like_var {i} (L.to_con {k = j} {ds = ds} ps p c l e) h = absurd (var_elims i j ps ds e)
  like_var {i} (L.to_record {k = j} {ws = ws} ps is n l e) h = absurd (var_elims i j ps (args is.con.args ws) e)
  like_var {k = k} {es = es} (L.to_argument {f = f} {u = u} {w = w} fs i e m) h =
      let c = of_head g h in
      let x = comes_named g c.comes e N.ends in
      let hs = x.spine in
      let y = projected g f w u i (comes_in g (Proj f w) fs x.comes) in
      like_var m (to_head g (comes_out g u fs (transport (λ s. Comes g u s k hs y.height) (sym (append-nil fs)) (transport (λ s. Comes g u s k hs y.height) (append-nil fs) y.comes))))
