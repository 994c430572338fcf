-- Which terms come to a constructor: bounded head forms that end at one, without the cases that do not.
use Rattle.std.specs.Prelude.{◌≡◌, ℕ, ◌+◌, Bool, true, false, ◌&&◌, cond, List, [], ◌∷◌, ◌++◌, length, map, slice_get, Option, Some, None, option_map, option_and_then, refl, suc}
use Rattle.std.proofs.Common.{ap, sym, ◌∙◌, subst as transport}
use Rattle.std.proofs.lemmas.List.{length-map, map-append}
use Rattle.std.proofs.lemmas.Option.{slice_get-map}
use Rattle.core_rules.specs.declared.Flag.{Flag}
use Rattle.core_rules.specs.Term.{Term, Terms, Var, Sort, Pi, Lam, App, Def, Fam, Con, Proj, Meta}
use Rattle.core_rules.specs.Substitution.{over, subst, under, value_at}
use Rattle.core_rules.specs.Signature.{Signature, Branch, Tree, Leaf, Intro, Cosplit, Split, RecordSplit, CoBranches, ConBranches, co_branch, con_branch, tree_of, field_place}
use Rattle.core_rules.specs.Elimination.{Elim, Arg, Field, elims, projections, elims_over}
use Rattle.core_rules.specs.Run.{ConApp, con_app, takes, spread, kept}
use Rattle.core_rules.specs.Heads as H
use Rattle.core_rules.specs.Heads.{Answer, Form, Blocked, is_first, argument_of, Taken, taken, Choice, Enters, choice, branch_at, enter, IsForm, Heads, Follows, After}
use Rattle.core_rules.specs.BoundedLaws.{no_solutions}
use Rattle.core_rules.specs.Laws.{IsLifted}
use Rattle.match_rules.specs.Matching.{HasHead}
use Rattle.core_rules.proofs.Substitution.Lifted.{over-under}
use Rattle.core_rules.proofs.Spines.{projections-over, value_at-over, spread-over, kept-over}
use Rattle.core_rules.proofs.Conversion.Changed.{over-beta}
use Rattle.core_rules.proofs.Heads.OneAnswer.{one_some}
use Rattle.core_rules.proofs.Heads.Sound.{by_full_con, full_con_by, entered}

-- eliminations that are arguments
pub data AreArgs : List Elim → List Term → Type 0 where
  none : AreArgs [] []
  one : {b : Flag} {u : Term} {es : List Elim} {us : List Term} → AreArgs es us → AreArgs (Arg b u ∷ es) (u ∷ us)

mutual
  -- t under es comes to constructor k under ds
  pub data Comes (g : Signature Term) : Term → List Elim → ℕ → List Elim → ℕ → Type 0 where
    stop : {k : ℕ} {ps : Terms} {es : List Elim} → taken g k [] es ≡ None → Comes g (Con k ps) es k es 0
    argument : {b : Flag} {t u : Term} {es ds : List Elim} {k n : ℕ} → Comes g t (Arg b u ∷ es) k ds n → Comes g (App b t u) es k ds n
    projection : {f : ℕ} {t : Term} {es ds : List Elim} {k n : ℕ} → Comes g t (Field f ∷ es) k ds n → Comes g (Proj f t) es k ds n
    beta : {b : Flag} {x : ℕ} {a t u : Term} {es ds : List Elim} {k n : ℕ} → Comes g (subst t 0 u) es k ds n → Comes g (Lam b x a t) (Arg b u ∷ es) k ds (suc n)
    project : {j : ℕ} {ps : Terms} {es ds : List Elim} {p : Taken} {k n : ℕ} → taken g j [] es ≡ Some p → Comes g p.value p.rest k ds n → Comes g (Con j ps) es k ds (suc n)
    call : {f : ℕ} {T : Tree Term} {es ds : List Elim} {k n : ℕ} → tree_of g f ≡ Some T → Goes g T [] es k ds n → Comes g (Def f) es k ds (suc n)

  -- the same from a node of a tree
  pub data Goes (g : Signature Term) : Tree Term → List Term → List Elim → ℕ → List Elim → ℕ → Type 0 where
    leaf : {t : Term} {i : ℕ} {r : List Term} {es ds : List Elim} {k n : ℕ} → Comes g (under r t) es k ds n → Goes g (Leaf t i) r es k ds n
    intro : {T : Tree Term} {r : List Term} {b : Flag} {u : Term} {es ds : List Elim} {k n : ℕ} → Goes g T (u ∷ r) es k ds n → Goes g (Intro T) r (Arg b u ∷ es) k ds n
    cosplit : {bs : CoBranches Term} {T : Tree Term} {r : List Term} {f : ℕ} {es ds : List Elim} {k n : ℕ} → co_branch bs f ≡ Some T → Goes g T r es k ds n → Goes g (Cosplit bs) r (Field f ∷ es) k ds n
    split : {i j : ℕ} {bs : ConBranches Term} {b : Branch Term} {T : Tree Term} {r us : List Term} {es ds vs : List Elim} {k m n : ℕ} → Comes g (value_at r i) [] j vs m → AreArgs vs us → takes g j (length us) ≡ true
        → con_branch bs j ≡ Some (b, T) → Goes g T (kept b (spread i us r)) es k ds n → Goes g (Split i bs) r es k ds (m + n)
    record_split : {i d : ℕ} {T : Tree Term} {r : List Term} {es ds : List Elim} {k n : ℕ} → Goes g T (spread i (projections g d (value_at r i)) r) es k ds n → Goes g (RecordSplit i d T) r es k ds n

pub record Came (g : Signature Term) (t : Term) (es : List Elim) (k : ℕ) (ds : List Elim) : Type 0 where
  pub height : ℕ
  pub comes : Comes g t es k ds height

pub record Went (g : Signature Term) (T : Tree Term) (r : List Term) (es : List Elim) (k : ℕ) (ds : List Elim) : Type 0 where
  pub height : ℕ
  pub goes : Goes g T r es k ds height

-- the head of a form
abbrev IsHead : Term → Type 0
IsHead (Var i) = Unit {0}
IsHead (Sort n) = Unit {0}
IsHead (Pi b x a t) = Unit {0}
IsHead (Lam b x a t) = Unit {0}
IsHead (App b t u) = ⊥
IsHead (Def f) = Unit {0}
IsHead (Fam d) = Unit {0}
IsHead (Con k ps) = Unit {0}
IsHead (Proj f t) = ⊥
IsHead (Meta m ts) = Unit {0}

-- a constructor that a head is at arguments
record IsConAt (h : Term) (vs : List Elim) (c : ConApp) : Type 0 where
  is : h ≡ Con c.con c.params
  args : AreArgs vs c.args

pub record Peeled (t : Term) (vs : List Elim) (c : ConApp) : Type 0 where
  pub terms : List Term
  pub are : AreArgs vs terms
  pub app : con_app t terms ≡ Some c

pub peel : (t : Term) (vs : List Elim) (c : ConApp) → con_app (elims t vs) [] ≡ Some c → Peeled t vs c
peel t [] c e = record { terms = []; are = none; app = e }
peel t (Arg b u ∷ vs) c e = let x = peel (App b t u) vs c e in record { terms = u ∷ x.terms; are = one x.are; app = x.app }
peel t (Field f ∷ vs) c e = let x = peel (Proj f t) vs c e in no_app x.terms x.app
  where
    no_app : (ws : List Term) → con_app (Proj f t) ws ≡ Some c → Peeled t (Field f ∷ vs) c
    no_app ws e = absurd cc

con_of_app : (h : Term) (ws : List Term) (c : ConApp) → IsHead h → con_app h ws ≡ Some c → (h ≡ Con c.con c.params) × (ws ≡ c.args)
con_of_app (Con k ps) ws c h e = let x = one_some e in (ap (λ c. Con c.con c.params) x, ap (λ c. c.args) x)
con_of_app (App b t u) ws c h e = absurd h
con_of_app (Var i) ws c h e = absurd cc
con_of_app (Sort n) ws c h e = absurd cc
con_of_app (Pi b x a t) ws c h e = absurd cc
con_of_app (Lam b x a t) ws c h e = absurd cc
con_of_app (Def f) ws c h e = absurd cc
con_of_app (Fam d) ws c h e = absurd cc
con_of_app (Proj f t) ws c h e = absurd cc
con_of_app (Meta m ts) ws c h e = absurd cc

con_at : (h : Term) (vs : List Elim) (c : ConApp) → IsHead h → con_app (elims h vs) [] ≡ Some c → IsConAt h vs c
con_at h vs c i e =
    let x = peel h vs c e in
    let y = con_of_app h x.terms c i x.app in
    record { is = y.0; args = transport (AreArgs vs) y.1 x.are }

pub app_of_args : (t : Term) {vs : List Elim} {us : List Term} → AreArgs vs us → con_app (elims t vs) [] ≡ con_app t us
app_of_args t none = refl
app_of_args t (one {b = b} {u = u} a) = app_of_args (App b t u) a

pub app_past_args : (t : Term) (ts : List Term) {vs : List Elim} {us : List Term} → AreArgs vs us → con_app (elims t vs) ts ≡ con_app t (us ++ ts)
app_past_args t ts none = refl
app_past_args t ts (one {b = b} {u = u} a) = app_past_args (App b t u) ts a

module _ (g : Signature Term) where
  form_head : (h : Term) (es : List Elim) → IsForm g h es → IsHead h
  form_head (Var i) es p = tt
  form_head (Sort n) es p = tt
  form_head (Pi b x a t) es p = tt
  form_head (Lam b x a t) es p = tt
  form_head (App b t u) es p = p
  form_head (Def f) es p = tt
  form_head (Fam d) es p = tt
  form_head (Con k ps) es p = tt
  form_head (Proj f t) es p = p
  form_head (Meta m ts) es p = tt

  abbrev AnswerHead : Answer → Type 0
  AnswerHead (Form h es) = IsHead h
  AnswerHead (Blocked m h es) = Unit {0}

  mutual
    heads_head : {t : Term} {es : List Elim} {w : Answer} {n : ℕ} → Heads g no_solutions t es w n → AnswerHead w
    heads_head (H.form {h = h} {es = es} p) = form_head h es p
    heads_head (H.argument d) = heads_head d
    heads_head (H.projection d) = heads_head d
    heads_head (H.beta e d) = heads_head d
    heads_head (H.project e d) = heads_head d
    heads_head (H.replaced e d) = absurd cc
    heads_head (H.unsolved e) = tt
    heads_head (H.call e d) = follows_head d tt

    follows_head : {h : Term} {all es : List Elim} {T : Tree Term} {r : List Term} {w : Answer} {n : ℕ} → Follows g no_solutions h all T r es w n → IsHead h → AnswerHead w
    follows_head (H.leaf d) i = heads_head d
    follows_head (H.intro d) i = follows_head d i
    follows_head (H.cosplit e d) i = follows_head d i
    follows_head (H.split d a) i = after_head a i
    follows_head (H.record_split d) i = follows_head d i
    follows_head (H.stuck q) i = i

    after_head : {h : Term} {all es : List Elim} {k : ℕ} {r : List Term} {c : Choice} {w : Answer} {n : ℕ} → After g no_solutions h all k r es c w n → IsHead h → AnswerHead w
    after_head (H.enters d) i = follows_head d i
    after_head H.stays i = i
    after_head H.waits i = tt

  same_form : {h : Term} {es ds : List Elim} {k : ℕ} {ps : Terms} → Form h es ≡ Form (Con k ps) ds → (h ≡ Con k ps) × (es ≡ ds)
  same_form e = (cc e, cc e)

  -- a branch that a split takes when it knows the head form of its value
  record Taking (v : Answer) (bs : ConBranches Term) (b : Branch Term) (T : Tree Term) (us : List Term) : Type 0 where
    con : ℕ
    params : Terms
    spine : List Elim
    is : v ≡ Form (Con con params) spine
    args : AreArgs spine us
    all : takes g con (length us) ≡ true
    branch : con_branch bs con ≡ Some (b, T)

  taking : (v : Answer) (bs : ConBranches Term) (b : Branch Term) (T : Tree Term) (us : List Term) → AnswerHead v → choice g bs v ≡ Enters b T us → Taking v bs b T us
  taking (Blocked m h es) bs b T us i e = absurd cc
  taking (Form h es) bs b T us i e =
      let y = entered g bs (Form h es) b T us e in
      let f = by_full_con g (elims h es) y.con y.full in
      let x = con_at h es y.con i f.0 in
      record {
        con = y.con.con;
        params = y.con.params;
        spine = es;
        is = ap (λ h. Form h es) x.is;
        args = transport (AreArgs es) y.is x.args;
        all = transport (λ us. takes g y.con.con (length us) ≡ true) y.is f.1;
        branch = y.branch;
      }

  record Entering (c : Choice) (i : ℕ) (r : List Term) (es : List Elim) (k : ℕ) (ds : List Elim) : Type 0 where
    branch : Branch Term
    tree : Tree Term
    args : List Term
    is : c ≡ Enters branch tree args
    went : Went g tree (kept branch (spread i args r)) es k ds

  abbrev NotCon : Term → Type 0
  NotCon h = (k : ℕ) (ps : Terms) → h ≡ Con k ps → ⊥

  def_not_con : (f : ℕ) → NotCon (Def f)
  def_not_con f k ps e = absurd cc

  mutual
    of_heads : {t : Term} {es : List Elim} {w : Answer} {n : ℕ} → Heads g no_solutions t es w n → (k : ℕ) (ps : Terms) (ds : List Elim) → w ≡ Form (Con k ps) ds → Came g t es k ds
    of_heads (H.form {h = h} {es = es} p) k ps ds e =
        let x = same_form e in
        let q : IsForm g (Con k ps) es = transport (λ h. IsForm g h es) x.0 p in
        transport (λ h. Came g h es k ds) (sym x.0) (transport (λ ds. Came g (Con k ps) es k ds) x.1 (record { height = 0; comes = stop q }))
    of_heads (H.argument d) k ps ds e = let x = of_heads d k ps ds e in record { height = x.height; comes = argument x.comes }
    of_heads (H.projection d) k ps ds e = let x = of_heads d k ps ds e in record { height = x.height; comes = projection x.comes }
    of_heads (H.beta {b = b} {x = x} {a = a} {t = t} {u = u} {es = es} f d) k ps ds e =
        let y = of_heads d k ps ds e in transport (λ c. Came g (Lam b x a t) (Arg c u ∷ es) k ds) f (record { height = suc y.height; comes = beta y.comes })
    of_heads (H.project f d) k ps ds e = let x = of_heads d k ps ds e in record { height = suc x.height; comes = project f x.comes }
    of_heads (H.replaced f d) k ps ds e = absurd cc
    of_heads (H.unsolved f) k ps ds e = absurd cc
    of_heads (H.call {f = f} q d) k ps ds e = let x = of_follows d (def_not_con f) k ps ds e in record { height = suc x.height; comes = call q x.goes }

    of_follows : {h : Term} {all es : List Elim} {T : Tree Term} {r : List Term} {w : Answer} {n : ℕ} → Follows g no_solutions h all T r es w n → NotCon h → (k : ℕ) (ps : Terms) (ds : List Elim) → w ≡ Form (Con k ps) ds → Went g T r es k ds
    of_follows (H.leaf d) c k ps ds e = let x = of_heads d k ps ds e in record { height = x.height; goes = leaf x.comes }
    of_follows (H.intro d) c k ps ds e = let x = of_follows d c k ps ds e in record { height = x.height; goes = intro x.goes }
    of_follows (H.cosplit q d) c k ps ds e = let x = of_follows d c k ps ds e in record { height = x.height; goes = cosplit q x.goes }
    of_follows (H.split {es = es} {k = i} {bs = bs} {r = r} {v = v} d a) c k ps ds e =
        let x = of_after a c k ps ds e in
        let y = taking v bs x.branch x.tree x.args (heads_head d) x.is in
        let z = of_heads d y.con y.params y.spine y.is in
        record { height = z.height + x.went.height; goes = split z.comes y.args y.all y.branch x.went.goes }
    of_follows (H.record_split d) c k ps ds e = let x = of_follows d c k ps ds e in record { height = x.height; goes = record_split x.goes }
    of_follows (H.stuck q) c k ps ds e = absurd (c k ps (same_form e).0)

    of_after : {h : Term} {all es : List Elim} {i : ℕ} {r : List Term} {c : Choice} {w : Answer} {n : ℕ} → After g no_solutions h all i r es c w n → NotCon h → (k : ℕ) (ps : Terms) (ds : List Elim) → w ≡ Form (Con k ps) ds → Entering c i r es k ds
    of_after (H.enters {us = us} {b = b} {T = T} d) c k ps ds e = record { branch = b; tree = T; args = us; is = refl; went = of_follows d c k ps ds e }
    of_after H.stays c k ps ds e = absurd (c k ps (same_form e).0)
    of_after H.waits c k ps ds e = absurd cc

  pub of_head : {t : Term} {k : ℕ} {es : List Elim} → HasHead g t k es → Came g t [] k es
  of_head {es = es} h = of_heads h.heads _ h.params es refl

  record Headed (t : Term) (es : List Elim) (k : ℕ) (ds : List Elim) : Type 0 where
    params : Terms
    steps : ℕ
    heads : Heads g no_solutions t es (Form (Con k params) ds) steps

  record Followed (h : Term) (all : List Elim) (T : Tree Term) (r : List Term) (es : List Elim) (k : ℕ) (ds : List Elim) : Type 0 where
    params : Terms
    steps : ℕ
    follows : Follows g no_solutions h all T r es (Form (Con k params) ds) steps

  enters_branch : (bs : ConBranches Term) (k : ℕ) (ps : Terms) (vs : List Elim) (us : List Term) (b : Branch Term) (T : Tree Term) → AreArgs vs us → takes g k (length us) ≡ true → con_branch bs k ≡ Some (b, T) → choice g bs (Form (Con k ps) vs) ≡ Enters b T us
  enters_branch bs k ps vs us b T a t e =
      let c : ConApp = record { con = k; params = ps; args = us } in
      ap (branch_at bs) (full_con_by g (elims (Con k ps) vs) c (app_of_args (Con k ps) a) t) ∙ ap (enter us) e

  mutual
    to_heads : {t : Term} {es ds : List Elim} {k n : ℕ} → Comes g t es k ds n → Headed t es k ds
    to_heads (stop {ps = ps} e) = record { params = ps; steps = 0; heads = H.form e }
    to_heads (argument d) = let x = to_heads d in record { params = x.params; steps = x.steps; heads = H.argument x.heads }
    to_heads (projection d) = let x = to_heads d in record { params = x.params; steps = x.steps; heads = H.projection x.heads }
    to_heads (beta d) = let x = to_heads d in record { params = x.params; steps = suc x.steps; heads = H.beta refl x.heads }
    to_heads (project e d) = let x = to_heads d in record { params = x.params; steps = suc x.steps; heads = H.project e x.heads }
    to_heads (call {f = f} {es = es} e d) = let x = to_follows (Def f) es d in record { params = x.params; steps = x.steps; heads = H.call e x.follows }

    to_follows : (h : Term) (all : List Elim) {T : Tree Term} {r : List Term} {es ds : List Elim} {k n : ℕ} → Goes g T r es k ds n → Followed h all T r es k ds
    to_follows h all (leaf d) = let x = to_heads d in record { params = x.params; steps = suc x.steps; follows = H.leaf x.heads }
    to_follows h all (intro d) = let x = to_follows h all d in record { params = x.params; steps = x.steps; follows = H.intro x.follows }
    to_follows h all (cosplit e d) = let x = to_follows h all d in record { params = x.params; steps = x.steps; follows = H.cosplit e x.follows }
    to_follows h all (split {i = i} {j = j} {bs = bs} {b = b} {T = T} {r = r} {us = us} {es = es} {ds = ds} {vs = vs} {k = k} c a t e d) =
        let v = to_heads c in
        let x = to_follows h all d in
        let q = enters_branch bs j v.params vs us b T a t e in
        record {
          params = x.params;
          steps = v.steps + x.steps;
          follows = H.split v.heads (transport (λ c. After g no_solutions h all i r es c (Form (Con k x.params) ds) x.steps) (sym q) (H.enters x.follows));
        }
    to_follows h all (record_split d) = let x = to_follows h all d in record { params = x.params; steps = x.steps; follows = H.record_split x.follows }

  pub to_head : {t : Term} {k n : ℕ} {es : List Elim} → Comes g t [] k es n → HasHead g t k es
  to_head c = let x = to_heads c in record { params = x.params; steps = x.steps; heads = x.heads }

  -- a constructor at other parameters
  pub at_other_params : {j k n : ℕ} {ps qs : Terms} {es ds : List Elim} → Comes g (Con j ps) es k ds n → Comes g (Con j qs) es k ds n
  at_other_params (stop e) = stop e
  at_other_params (project e d) = project e d

  -- what a projection takes, it takes where more follows
  pub taken-append : (k : ℕ) (us : List Term) (es fs : List Elim) (p : Taken) → taken g k us es ≡ Some p → taken g k us (es ++ fs) ≡ Some (record { value = p.value; rest = p.rest ++ fs })
  taken-append k us [] fs p e = absurd cc
  taken-append k us (Arg b u ∷ es) fs p e = taken-append k (us ++ u ∷ []) es fs p e
  taken-append k us (Field f ∷ es) fs p e = by_argument (argument_of g k us f) e
    where
      by_argument : (o : Option Term) → option_map {U = Taken} (λ u. record { value = u; rest = es }) o ≡ Some p → option_map {U = Taken} (λ u. record { value = u; rest = es ++ fs }) o ≡ Some (record { value = p.value; rest = p.rest ++ fs })
      by_argument None e = absurd cc
      by_argument (Some u) e = let x = one_some e in ap (λ p. Some (record { value = p.value; rest = p.rest ++ fs })) x

  -- a term that comes to a constructor comes on to what this comes to
  mutual
    pub comes-on : {t : Term} {es ds hs : List Elim} {j k m n : ℕ} {ps : Terms} (fs : List Elim) → Comes g t es j ds m → Comes g (Con j ps) (ds ++ fs) k hs n → Came g t (es ++ fs) k hs
    comes-on fs (stop e) q = record { height = _; comes = at_other_params q }
    comes-on fs (argument d) q = let x = comes-on fs d q in record { height = x.height; comes = argument x.comes }
    comes-on fs (projection d) q = let x = comes-on fs d q in record { height = x.height; comes = projection x.comes }
    comes-on fs (beta d) q = let x = comes-on fs d q in record { height = suc x.height; comes = beta x.comes }
    comes-on fs (project {j = j} {es = es} {p = p} e d) q = let x = comes-on fs d q in record { height = suc x.height; comes = project (taken-append j [] es fs p e) x.comes }
    comes-on fs (call e d) q = let x = goes-on fs d q in record { height = suc x.height; comes = call e x.goes }

    pub goes-on : {T : Tree Term} {r : List Term} {es ds hs : List Elim} {j k m n : ℕ} {ps : Terms} (fs : List Elim) → Goes g T r es j ds m → Comes g (Con j ps) (ds ++ fs) k hs n → Went g T r (es ++ fs) k hs
    goes-on fs (leaf d) q = let x = comes-on fs d q in record { height = x.height; goes = leaf x.comes }
    goes-on fs (intro d) q = let x = goes-on fs d q in record { height = x.height; goes = intro x.goes }
    goes-on fs (cosplit e d) q = let x = goes-on fs d q in record { height = x.height; goes = cosplit e x.goes }
    goes-on fs (split c a t e d) q = let x = goes-on fs d q in record { height = _; goes = split c a t e x.goes }
    goes-on fs (record_split d) q = let x = goes-on fs d q in record { height = x.height; goes = record_split x.goes }

  -- a term under eliminations, and the eliminations of its own
  pub comes_in : (t : Term) (ds : List Elim) {es fs : List Elim} {k n : ℕ} → Comes g (elims t ds) es k fs n → Comes g t (ds ++ es) k fs n
  comes_in t [] c = c
  comes_in t (Arg b u ∷ ds) c = of_argument (comes_in (App b t u) ds c)
    where
      of_argument : {es fs : List Elim} {k n : ℕ} → Comes g (App b t u) es k fs n → Comes g t (Arg b u ∷ es) k fs n
      of_argument (argument d) = d
  comes_in t (Field f ∷ ds) c = of_projection (comes_in (Proj f t) ds c)
    where
      of_projection : {es fs : List Elim} {k n : ℕ} → Comes g (Proj f t) es k fs n → Comes g t (Field f ∷ es) k fs n
      of_projection (projection d) = d

  pub comes_out : (t : Term) (ds : List Elim) {es fs : List Elim} {k n : ℕ} → Comes g t (ds ++ es) k fs n → Comes g (elims t ds) es k fs n
  comes_out t [] c = c
  comes_out t (Arg b u ∷ ds) c = comes_out (App b t u) ds (argument c)
  comes_out t (Field f ∷ ds) c = comes_out (Proj f t) ds (projection c)

-- the changes of a term pass
module _ (g : Signature Term) (f : ℕ → ℕ → Term) (l : IsLifted f) where
  argument_of-over : (d k : ℕ) (us : List Term) (i : ℕ) → argument_of g k (map (over f d) us) i ≡ option_map (over f d) (argument_of g k us i)
  argument_of-over d k us i = by_place (field_place g i)
    where
      by_test : (b : Bool) (p : ℕ × ℕ) → cond b (slice_get (map (over f d) us) p.1) None ≡ option_map (over f d) (cond b (slice_get us p.1) None)
      by_test true p = slice_get-map (over f d) us p.1
      by_test false p = refl

      by_place : (o : Option (ℕ × ℕ)) → option_and_then (λ p. cond (takes g k (length (map (over f d) us)) && is_first g k p.0) (slice_get (map (over f d) us) p.1) None) o
          ≡ option_map (over f d) (option_and_then (λ p. cond (takes g k (length us) && is_first g k p.0) (slice_get us p.1) None) o)
      by_place None = refl
      by_place (Some p) = ap (λ n. cond (takes g k n && is_first g k p.0) (slice_get (map (over f d) us) p.1) None) (length-map us (over f d)) ∙ by_test (takes g k (length us) && is_first g k p.0) p

  abbrev pub taken_over : ℕ → Taken → Taken
  taken_over d p = record { value = over f d p.value; rest = elims_over f d p.rest }

  pub taken-over : (d k : ℕ) (us : List Term) (es : List Elim) → taken g k (map (over f d) us) (elims_over f d es) ≡ option_map (taken_over d) (taken g k us es)
  taken-over d k us [] = refl
  taken-over d k us (Arg b u ∷ es) = ap (λ us. taken g k us (elims_over f d es)) (sym (map-append (over f d) us (u ∷ []))) ∙ taken-over d k (us ++ u ∷ []) es
  taken-over d k us (Field i ∷ es) = ap (option_map (λ u. record { value = u; rest = elims_over f d es })) (argument_of-over d k us i) ∙ by_argument (argument_of g k us i)
    where
      by_argument : (o : Option Term) → option_map (λ u. record { value = u; rest = elims_over f d es }) (option_map (over f d) o) ≡ option_map (taken_over d) (option_map (λ u. record { value = u; rest = es }) o)
      by_argument None = refl
      by_argument (Some u) = refl

  args-are : {vs : List Elim} {us : List Term} (d : ℕ) → AreArgs vs us → AreArgs (elims_over f d vs) (map (over f d) us)
  args-are d none = none
  args-are d (one a) = one (args-are d a)

  kept_spread : (d i : ℕ) (b : Branch Term) (us r : List Term) → map (over f d) (kept b (spread i us r)) ≡ kept b (spread i (map (over f d) us) (map (over f d) r))
  kept_spread d i b us r = kept-over f d b (spread i us r) ∙ ap (kept b) (spread-over f d i us r)

  mutual
    pub comes-over : {t : Term} {es ds : List Elim} {k n : ℕ} (d : ℕ) → Comes g t es k ds n → Comes g (over f d t) (elims_over f d es) k (elims_over f d ds) n
    comes-over d (stop {k = k} {es = es} e) = stop (taken-over d k [] es ∙ ap (option_map (taken_over d)) e)
    comes-over d (argument c) = argument (comes-over d c)
    comes-over d (projection c) = projection (comes-over d c)
    comes-over d (beta {t = t} {u = u} {es = es} {ds = ds} {k = k} {n = n} c) =
        beta (transport (λ t. Comes g t (elims_over f d es) k (elims_over f d ds) n) (over-beta f l d t u) (comes-over d c))
    comes-over d (project {j = j} {es = es} e c) = project (taken-over d j [] es ∙ ap (option_map (taken_over d)) e) (comes-over d c)
    comes-over d (call e c) = call e (goes-over d c)

    pub goes-over : {T : Tree Term} {r : List Term} {es ds : List Elim} {k n : ℕ} (d : ℕ) → Goes g T r es k ds n → Goes g T (map (over f d) r) (elims_over f d es) k (elims_over f d ds) n
    goes-over d (leaf {t = t} {r = r} {es = es} {ds = ds} {k = k} {n = n} c) = leaf (transport (λ t. Comes g t (elims_over f d es) k (elims_over f d ds) n) (over-under f l d r t) (comes-over d c))
    goes-over d (intro c) = intro (goes-over d c)
    goes-over d (cosplit e c) = cosplit e (goes-over d c)
    goes-over d (split {i = i} {j = j} {b = b} {T = T} {r = r} {us = us} {es = es} {ds = ds} {vs = vs} {k = k} {m = m} {n = n} c a t e q) =
        split (transport (λ v. Comes g v [] j (elims_over f d vs) m) (sym (value_at-over f d r i)) (comes-over d c)) (args-are d a)
        (ap (takes g j) (length-map us (over f d)) ∙ t) e
        (transport (λ s. Goes g T s (elims_over f d es) k (elims_over f d ds) n) (kept_spread d i b us r) (goes-over d q))
    goes-over d (record_split {i = i} {d = e} {T = T} {r = r} {es = es} {ds = ds} {k = k} {n = n} q) =
        record_split (transport (λ s. Goes g T s (elims_over f d es) k (elims_over f d ds) n)
        (spread-over f d i (projections g e (value_at r i)) r
        ∙ ap (λ us. spread i us (map (over f d) r)) (projections-over f d g e (value_at r i) ∙ ap (projections g e) (sym (value_at-over f d r i)))) (goes-over d q))
