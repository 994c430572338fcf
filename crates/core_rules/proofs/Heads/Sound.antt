-- A head form is convertible to its term, where no metavariable is solved.
use Rattle.std.specs.Prelude.{◌≡◌, ℕ, ◌+◌, ◌-◌, ◌<◌, Bool, true, false, ◌&&◌, eqb, cond, List, [], ◌∷◌, ◌++◌, length, slice_get, refl, Option, Some, None, option_map, option_and_then, unwrap_or, suc, reverse, take, drop}
use Rattle.std.specs.Option.{option_map_or}
use Rattle.std.specs.List.{AllByRecursion}
use Rattle.std.proofs.Common.{ap, ap₂, sym, ◌∙◌, arith, subst as transport, eqb-true, append-nil, append_assoc, length-append, length-take, length-drop}
use Rattle.std.proofs.lemmas.List.{length-map, length-reverse}
use Rattle.std.proofs.lemmas.Grind.{common_steps}
use Rattle.core_rules.specs.declared.Flag.{Flag}
use Rattle.core_rules.specs.Term.{Term, Terms, Var, Sort, Pi, Lam, App, Def, Fam, Con, Proj, Meta, End}
use Rattle.core_rules.specs.Substitution.{subst, value_at}
use Rattle.core_rules.specs.Signature.{Branch, Tree, Intro, Cosplit, Split, RecordSplit, CoBranches, NoField, OnField, ConBranches, NoCon, Refuted, Goes, co_branch, con_branch, Telescope, Signature, tree_of, con_place, field_place, fields_of}
use Rattle.core_rules.specs.Elimination.{Elim, Arg, Field, elims, args, projections}
use Rattle.core_rules.specs.Run as R
use Rattle.core_rules.specs.Run.{ConApp, con_app, takes, is_record_con, full_con, parts, spread, kept, Run}
use Rattle.core_rules.specs.Conversion as C
use Rattle.core_rules.specs.Conversion.{Conv}
use Rattle.core_rules.specs.Heads.{Answer, Form, Blocked, is_first, argument_of, Taken, taken, Choice, Enters, enter, branch_at, choice, Heads, form, argument, projection, beta, project, replaced, unsolved, call, Follows, leaf, intro, cosplit, split, record_split, stuck, After, enters, stays, waits}
use Rattle.core_rules.specs.BoundedLaws.{no_solutions, shown}
use Rattle.core_rules.proofs.Heads.Fit.{IsEtaRecord, KeepsOnce, IsFit, AreFit, BranchesFit, HasFitTrees}
use Rattle.core_rules.proofs.Conversion.Changed.{conv-elims}
use Rattle.core_rules.proofs.Heads.OneAnswer.{one_some}
use Rattle.core_rules.proofs.Heads.Gather as E
use Rattle.core_rules.proofs.Heads.Gather.{ConvEach, ConvElims, each_same, elims_same, conv-elims_all, each_length, gather, restore}

-- further arguments of a constructor
pub con_app-more : (t : Term) (us vs : List Term) (c : ConApp) → con_app t us ≡ Some c → con_app t (us ++ vs) ≡ Some (record { con = c.con; params = c.params; args = c.args ++ vs })
con_app-more (App b t u) us vs c e = con_app-more t (u ∷ us) vs c e
con_app-more (Con k ps) us vs c e = let x = one_some e in ap (λ d. Some (record { con = d.con; params = d.params; args = d.args ++ vs })) x
con_app-more (Var i) us vs c e = absurd cc
con_app-more (Sort n) us vs c e = absurd cc
con_app-more (Pi b x a t) us vs c e = absurd cc
con_app-more (Lam b x a t) us vs c e = absurd cc
con_app-more (Def f) us vs c e = absurd cc
con_app-more (Fam d) us vs c e = absurd cc
con_app-more (Proj f t) us vs c e = absurd cc
con_app-more (Meta m ts) us vs c e = absurd cc

pub eqb_same : (n : ℕ) → eqb n n ≡ true
eqb_same n = grind (arith, common_steps)

pub and_true : (a b : Bool) → a && b ≡ true → (a ≡ true) × (b ≡ true)
and_true true true e = (refl, refl)
and_true true false e = absurd cc
and_true false b e = absurd cc

pub cond_some : {A : Type 0} (b : Bool) (o : Option A) (x : A) → cond b o None ≡ Some x → (b ≡ true) × (o ≡ Some x)
cond_some true o x e = (refl, e)
cond_some false o x e = absurd cc

pub is_first_place : (g : Signature Term) (k d : ℕ) → is_first g k d ≡ true → con_place g k ≡ Some (d, 0)
is_first_place g k d = by_place (con_place g k)
  where
    by_place : (o : Option (ℕ × ℕ)) → option_map_or (λ p. eqb p.0 d && eqb p.1 0) o false ≡ true → o ≡ Some (d, 0)
    by_place None e = absurd cc
    by_place (Some p) e = let h = and_true (eqb p.0 d) (eqb p.1 0) e in ap₂ (λ a b. Some (a, b)) (eqb-true p.0 d h.0) (eqb-true p.1 0 h.1)

pub full_con_by : (g : Signature Term) (t : Term) (c : ConApp) → con_app t [] ≡ Some c → takes g c.con (length c.args) ≡ true → full_con g t ≡ Some c
full_con_by g t c e h = ap (option_and_then (λ s. cond (takes g s.con (length s.args)) (Some s) None)) e ∙ ap (λ b. cond b (Some c) None) h

pub by_full_con : (g : Signature Term) (t : Term) (c : ConApp) → full_con g t ≡ Some c → (con_app t [] ≡ Some c) × (takes g c.con (length c.args) ≡ true)
by_full_con g t c = by_app (con_app t [])
  where
    by_app : (o : Option ConApp) → option_and_then (λ s. cond (takes g s.con (length s.args)) (Some s) None) o ≡ Some c → (o ≡ Some c) × (takes g c.con (length c.args) ≡ true)
    by_app None e = absurd cc
    by_app (Some d) e =
        let h = cond_some (takes g d.con (length d.args)) (Some d) c e in
        (h.1, transport (λ x. takes g x.con (length x.args) ≡ true) (one_some h.1) h.0)

-- the argument that a projection takes
argument_is : (g : Signature Term) (t : Term) (c : ConApp) (f : ℕ) (u : Term) → con_app t [] ≡ Some c → argument_of g c.con c.args f ≡ Some u → Conv g (Proj f t) u
argument_is g t c f u a = by_place (field_place g f) refl
  where
    by_place : (o : Option (ℕ × ℕ)) → field_place g f ≡ o → option_and_then (λ p. cond (takes g c.con (length c.args) && is_first g c.con p.0) (slice_get c.args p.1) None) o ≡ Some u → Conv g (Proj f t) u
    by_place None e h = absurd cc
    by_place (Some p) e h =
        let x = cond_some (takes g c.con (length c.args) && is_first g c.con p.0) (slice_get c.args p.1) u h in
        let y = and_true (takes g c.con (length c.args)) (is_first g c.con p.0) x.0 in
        C.field (record { fam = p.0; at = p.1; con = c; place = e; full = full_con_by g t c a y.0; own = is_first_place g c.con p.0 y.1; is = x.1 })

taken_is : (g : Signature Term) (t : Term) (c : ConApp) (es : List Elim) (p : Taken) → con_app t [] ≡ Some c → taken g c.con c.args es ≡ Some p → Conv g (elims t es) (elims p.value p.rest)
taken_is g t c [] p a e = absurd cc
taken_is g t c (Arg b u ∷ es) p a e = taken_is g (App b t u) (record { con = c.con; params = c.params; args = c.args ++ u ∷ [] }) es p (con_app-more t [] (u ∷ []) c a) e
taken_is g t c (Field f ∷ es) p a e = by_argument (argument_of g c.con c.args f) refl e
  where
    by_argument : (o : Option Term) → argument_of g c.con c.args f ≡ o → option_map (λ u. record { value = u; rest = es }) o ≡ Some p → Conv g (elims (Proj f t) es) (elims p.value p.rest)
    by_argument None h e = absurd cc
    by_argument (Some u) h e = transport (λ x. Conv g (elims (Proj f t) es) (elims x.value x.rest)) (one_some e) (conv-elims es (argument_is g t c f u a h))

-- a constructor's application with convertible arguments in place of its own
record Rebuilt (g : Signature Term) (t : Term) (vs : List Term) (c : ConApp) (us : List Term) : Type 0 where
  term : Term
  rest : List Term
  is : con_app term rest ≡ Some (record { con = c.con; params = c.params; args = us })
  same_term : Conv g t term
  same_rest : ConvEach g vs rest

rebuild : (g : Signature Term) (t : Term) (vs : List Term) (c : ConApp) (us : List Term) → con_app t vs ≡ Some c → ConvEach g c.args us → Rebuilt g t vs c us
rebuild g (Con k ps) vs c us e h =
    let x = one_some e in
    record { term = Con k ps; rest = us; is = ap (λ d. Some (record { con = d.con; params = d.params; args = us })) x; same_term = C.same; same_rest = transport (λ d. ConvEach g d.args us) (sym x) h }
rebuild g (App b t u) vs c us e h = outwards (rebuild g t (u ∷ vs) c us e h)
  where
    by_rest : (s : Term) (ws : List Term) → con_app s ws ≡ Some (record { con = c.con; params = c.params; args = us }) → Conv g t s → ConvEach g (u ∷ vs) ws → Rebuilt g (App b t u) vs c us
    by_rest s _ i k (E.one {u = v} {us = ws} d ds) = record { term = App b s v; rest = ws; is = i; same_term = C.app k d; same_rest = ds }

    outwards : Rebuilt g t (u ∷ vs) c us → Rebuilt g (App b t u) vs c us
    outwards x = by_rest x.term x.rest x.is x.same_term x.same_rest
rebuild g (Var i) vs c us e h = absurd cc
rebuild g (Sort n) vs c us e h = absurd cc
rebuild g (Pi b x a t) vs c us e h = absurd cc
rebuild g (Lam b x a t) vs c us e h = absurd cc
rebuild g (Def f) vs c us e h = absurd cc
rebuild g (Fam d) vs c us e h = absurd cc
rebuild g (Proj f t) vs c us e h = absurd cc
rebuild g (Meta m ts) vs c us e h = absurd cc

record Refilled (g : Signature Term) (t : Term) (c : ConApp) (us : List Term) : Type 0 where
  term : Term
  is : full_con g term ≡ Some (record { con = c.con; params = c.params; args = us })
  same_term : Conv g t term

refill : (g : Signature Term) (t : Term) (c : ConApp) (us : List Term) → full_con g t ≡ Some c → ConvEach g c.args us → Refilled g t c us
refill g t c us e h =
    let x = by_full_con g t c e in
    let y = rebuild g t [] c us x.0 h in
    let n : takes g c.con (length us) ≡ true = ap (takes g c.con) (each_length h) ∙ x.1 in
    record { term = y.term; is = full_con_by g y.term (record { con = c.con; params = c.params; args = us }) (at_none y.term y.rest _ y.is y.same_rest) n; same_term = y.same_term }
  where
    at_none : (s : Term) (ws : List Term) (d : ConApp) → con_app s ws ≡ Some d → ConvEach g [] ws → con_app s [] ≡ Some d
    at_none s _ d i E.none = i

pub con_app-args : (k : ℕ) (ps : Terms) (t : Term) (vs : List Term) (es : Telescope Term) (us : List Term) → length us ≡ length es → con_app t [] ≡ Some (record { con = k; params = ps; args = vs })
    → con_app (elims t (args es us)) [] ≡ Some (record { con = k; params = ps; args = vs ++ us })
con_app-args k ps t vs [] [] n e = e ∙ ap (λ l. Some (record { con = k; params = ps; args = l })) (sym (append-nil vs))
con_app-args k ps t vs [] (u ∷ us) n e = absurd cc
con_app-args k ps t vs (x ∷ es) [] n e = absurd cc
con_app-args k ps t vs (x ∷ es) (u ∷ us) n e =
    con_app-args k ps (App x.flag t u) (vs ++ u ∷ []) es us (cc) (con_app-more t [] (u ∷ []) (record { con = k; params = ps; args = vs }) e)
    ∙ ap (λ l. Some (record { con = k; params = ps; args = l })) (append_assoc vs (u ∷ []) us)

-- a value of a record that has eta as its constructor at terms that are convertible to its projections
record Expanded (g : Signature Term) (d : ℕ) (t : Term) (us : List Term) : Type 0 where
  term : Term
  same_term : Conv g t term
  parts_are : parts g d term ≡ us

pub elims_args : {g : Signature Term} (es : Telescope Term) (ts us : List Term) → ConvEach g ts us → ConvElims g (args es ts) (args es us)
elims_args [] ts us c = E.ends
elims_args (e ∷ es) _ _ E.none = E.ends
elims_args (e ∷ es) _ _ (E.one {ts = ts} {us = us} c cs) = E.argument c (elims_args es ts us cs)

eta_value : (g : Signature Term) (d : ℕ) (i : IsEtaRecord g d) (t : Term) (us : List Term) → ConvEach g (projections g d t) us → Expanded g d t us
eta_value g d i t us c =
    let es = i.is.con.args in
    let n : length us ≡ length es = each_length c ∙ (length-map (fields_of g d) _ ∙ sym i.as_many) in
    let a : con_app (elims (Con i.con End) (args es us)) [] ≡ Some (record { con = i.con; params = End; args = us }) = con_app-args i.con End (Con i.con End) [] es us n refl in
    let own : is_record_con g i.con d ≡ true = ap₂ (λ o p. option_map_or (λ p. eqb p.0 d) o false && option_map_or (λ decl. decl.is_record) p false) i.is.place i.is.is_decl ∙ ap₂ ◌&&◌ (eqb_same d) i.is_record in
    let whole : takes g i.con (length us) ≡ true = ap (λ o. option_map_or (λ c. eqb (length c.args) (length us)) o false) i.is.is_con ∙ (ap (λ n. eqb (length es) n) n ∙ eqb_same (length es)) in
    record {
      term = elims (Con i.con End) (args es us);
      same_term = C.then (C.eta_record End i.is) (conv-elims_all C.same (elims_args es (projections g d t) us c));
      parts_are =
          ap (λ o. unwrap_or (option_and_then (λ s. cond (is_record_con g s.con d) (Some s.args) None) o) (projections g d (elims (Con i.con End) (args es us)))) (full_con_by g (elims (Con i.con End) (args es us)) (record { con = i.con; params = End; args = us }) a whole)
          ∙ ap (λ b. unwrap_or (cond b (Some us) None) (projections g d (elims (Con i.con End) (args es us)))) own;
    }

-- what the tree gives on values and eliminations that are convertible to these is convertible to w
pub record Gives (g : Signature Term) (w : Term) (T : Tree Term) (r : List Term) (es : List Elim) : Type 0 where
  pub by : (q : List Term) (ds : List Elim) (t : Term) → ConvEach g r q → ConvElims g es ds → Run g T q ds t → Conv g w t

module _ (g : Signature Term) (w : Term) where
  pub gives_intro : (T : Tree Term) (r : List Term) (b : Flag) (u : Term) (es : List Elim) → Gives g w (Intro T) r (Arg b u ∷ es) → Gives g w T (u ∷ r) es
  gives_intro T r b u es x = record { by = intro_by }
    where
      intro_by : (q : List Term) (ds : List Elim) (t : Term) → ConvEach g (u ∷ r) q → ConvElims g es ds → Run g T q ds t → Conv g w t
      intro_by _ ds t (E.one {u = v} {us = q} c cs) k e = x.by q (Arg b v ∷ ds) t cs (E.argument c k) (R.intro e)

  pub gives_cosplit : (bs : CoBranches Term) (T : Tree Term) (r : List Term) (f : ℕ) (es : List Elim) → co_branch bs f ≡ Some T → Gives g w (Cosplit bs) r (Field f ∷ es) → Gives g w T r es
  gives_cosplit bs T r f es e x = record { by = λ q ds t c k run. x.by q (Field f ∷ ds) t c (E.field k) (R.cosplit e run) }

  -- the value has as its head form constructor c with all its arguments, whose branch is b with T
  pub gives_split : (bs : ConBranches Term) (b : Branch Term) (T : Tree Term) (k : ℕ) (r : List Term) (es : List Elim) (t : Term) (c : ConApp) → k < length r → KeepsOnce g (length r) c.con b
      → Conv g (value_at r k) t → full_con g t ≡ Some c → con_branch bs c.con ≡ Some (b, T) → AllByRecursion (λ i. i < length (spread k c.args r)) b.keep
      → Gives g w (Split k bs) r es → Gives g w T (kept b (spread k c.args r)) es
  gives_split bs b T k r es t c h o v e f n x = record {
    by = λ q ds u p l run.
        let y = restore b.keep (spread k c.args r) q n o.once p in
        let z = gather k c.args r y.values h y.same_values in
        let s = refill g t c z.args e z.same_args in
        let a = z.back s.term (C.then v s.same_term) in
        let full = ap (full_con g) a.2 ∙ s.is in
        let env : kept b (spread k z.args a.0) ≡ q = ap (kept b) a.3 ∙ y.keeps in
        x.by a.0 ds u a.1 l (R.split full f (transport (λ q. Run g T q ds u) (sym env) run));
  }

  pub gives_record : (k d : ℕ) (T : Tree Term) (r : List Term) (es : List Elim) → k < length r → IsEtaRecord g d → Gives g w (RecordSplit k d T) r es → Gives g w T (spread k (projections g d (value_at r k)) r) es
  gives_record k d T r es h i x = record {
    by = λ q ds u p l run.
        let z = gather k (projections g d (value_at r k)) r q h p in
        let s = eta_value g d i (value_at r k) z.args z.same_args in
        let a = z.back s.term s.same_term in
        let env : spread k (parts g d (value_at a.0 k)) a.0 ≡ q = ap (λ us. spread k us a.0) (ap (parts g d) a.2 ∙ s.parts_are) ∙ a.3 in
        x.by a.0 ds u a.1 l (R.record_split (transport (λ q. Run g T q ds u) (sym env) run));
  }

-- the tree of a branch that is taken, and what is kept there
pub co_regular : (g : Signature Term) (n : ℕ) (bs : CoBranches Term) (f : ℕ) (T : Tree Term) → AreFit g n bs → co_branch bs f ≡ Some T → IsFit g n T
co_regular g n NoField f T p e = absurd cc
co_regular g n (OnField h S bs) f T p e =
    (elim (eqb h f) as (λ o. cond o (Some S) (co_branch bs f) ≡ Some T → IsFit g n T) [ true ↦ λ e. transport (IsFit g n) (one_some e) p.0 | false ↦ λ e. co_regular g n bs f T p.1 e ]) e

pub record TakenBranch (g : Signature Term) (n k : ℕ) (b : Branch Term) (T : Tree Term) : Type 0 where
  pub once : KeepsOnce g n k b
  pub tree : IsFit g (length b.keep) T

pub con_regular : (g : Signature Term) (n : ℕ) (bs : ConBranches Term) (k : ℕ) (b : Branch Term) (T : Tree Term) → BranchesFit g n bs → con_branch bs k ≡ Some (b, T) → TakenBranch g n k b T
con_regular g n NoCon k b T p e = absurd cc
con_regular g n (Refuted h bs) k b T p e =
    (elim (eqb h k) as (λ o. cond o None (con_branch bs k) ≡ Some (b, T) → TakenBranch g n k b T) [ true ↦ λ e. absurd cc | false ↦ λ e. con_regular g n bs k b T p e ]) e
con_regular g n (Goes h c S bs) k b T p e = by_test (eqb h k) refl (λ e. con_regular g n bs k b T p.2 e) e
  where
    of_pair : h ≡ k → ◌≡◌ {A = Option (Branch Term × Tree Term)} (Some (c, S)) (Some (b, T)) → TakenBranch g n k b T
    of_pair i e =
        let o : KeepsOnce g n k c = transport (λ j. KeepsOnce g n j c) i p.0 in
        transport (λ x. TakenBranch g n k x.0 x.1) (one_some e) (record { once = o; tree = p.1 })

    by_test : (o : Bool) → eqb h k ≡ o → (con_branch bs k ≡ Some (b, T) → TakenBranch g n k b T) → ◌≡◌ {A = Option (Branch Term × Tree Term)} (cond o (Some (c, S)) (con_branch bs k)) (Some (b, T)) → TakenBranch g n k b T
    by_test true i r e = of_pair (eqb-true h k i) e
    by_test false i r e = r e

pub spread_length : (k : ℕ) (us r : List Term) → k < length r → length (spread k us r) ≡ length r + length us - 1
spread_length k us r h =
    let a = length-append (take k r ++ reverse us) (drop (k + 1) r) in
    let b = length-append (take k r) (reverse us) in
    let c = length-reverse us in
    let d = length-take k r in
    let e = length-drop (k + 1) r in
    omega (arith, a, b, c, d, e)

-- what a split knows when it enters a branch
pub record Entered (g : Signature Term) (bs : ConBranches Term) (v : Answer) (b : Branch Term) (T : Tree Term) (us : List Term) : Type 0 where
  pub con : ConApp
  pub full : full_con g (shown v) ≡ Some con
  pub branch : con_branch bs con.con ≡ Some (b, T)
  pub is : con.args ≡ us

pub entered : (g : Signature Term) (bs : ConBranches Term) (v : Answer) (b : Branch Term) (T : Tree Term) (us : List Term) → choice g bs v ≡ Enters b T us → Entered g bs v b T us
entered g bs (Blocked m h es) b T us e = absurd cc
entered g bs (Form h es) b T us e = by_con (full_con g (elims h es)) refl e
  where
    by_branch : (c : ConApp) → full_con g (elims h es) ≡ Some c → (o : Option (Branch Term × Tree Term)) → con_branch bs c.con ≡ o → enter c.args o ≡ Enters b T us → Entered g bs (Form h es) b T us
    by_branch c f None i e = absurd cc
    by_branch c f (Some p) i e =
        let x : p.0 ≡ b = cc in
        let y : p.1 ≡ T = cc in
        record { con = c; full = f; branch = i ∙ ap₂ (λ b T. Some (b, T)) x y; is = cc }

    by_con : (o : Option ConApp) → full_con g (elims h es) ≡ o → branch_at bs o ≡ Enters b T us → Entered g bs (Form h es) b T us
    by_con None f e = absurd cc
    by_con (Some c) f e = by_branch c f (con_branch bs c.con) refl e

module _ (g : Signature Term) where
  pub call_gives : (f : ℕ) (T : Tree Term) (es : List Elim) → tree_of g f ≡ Some T → Gives g (elims (Def f) es) T [] es
  call_gives f T es e = record { by = λ q ds t c k run. at_none q ds t c k run }
    where
      at_none : (q : List Term) (ds : List Elim) (t : Term) → ConvEach g [] q → ConvElims g es ds → Run g T q ds t → Conv g (elims (Def f) es) t
      at_none _ ds t E.none k run = C.then (conv-elims_all C.same k) (C.unfolds f ds e run)

  -- what an entered branch gives
  record Branched (w : Term) (T : Tree Term) (r : List Term) (es : List Elim) : Type 0 where
    regular : IsFit g (length r) T
    gives : Gives g w T r es

  enter_branch : (w : Term) (bs : ConBranches Term) (k : ℕ) (r : List Term) (es : List Elim) (v : Answer) → (k < length r) × BranchesFit g (length r) bs → Conv g (value_at r k) (shown v) → Gives g w (Split k bs) r es
      → (b : Branch Term) (T : Tree Term) (us : List Term) → choice g bs v ≡ Enters b T us → Branched w T (kept b (spread k us r)) es
  enter_branch w bs k r es v p c x b T us e =
      let y = entered g bs v b T us e in
      let z = con_regular g (length r) bs y.con.con b T p.1 y.branch in
      let within = z.once.within (length y.con.args) (by_full_con g (shown v) y.con y.full).1 in
      let all : AllByRecursion (λ i. i < length (spread k y.con.args r)) b.keep = transport (λ n. AllByRecursion (λ i. i < n) b.keep) (sym (spread_length k y.con.args r p.0)) within in
      transport (λ us. Branched w T (kept b (spread k us r)) es) y.is
      (record {
        regular = transport (λ n. IsFit g n T) (sym (length-map b.keep (value_at (spread k y.con.args r)))) z.tree;
        gives = gives_split g w bs b T k r es (shown v) y.con p.0 z.once c y.full y.branch all x;
      })

  module _ (trees : HasFitTrees g) where
    mutual
      pub heads_sound : {t : Term} {es : List Elim} {w : Answer} {n : ℕ} → Heads g no_solutions t es w n → Conv g (elims t es) (shown w)
      heads_sound (form p) = C.same
      heads_sound (argument d) = heads_sound d
      heads_sound (projection d) = heads_sound d
      heads_sound (beta {b = b} {x = x} {a = a} {t = t} {u = u} {es = es} e d) =
          C.then (conv-elims es (transport (λ c. Conv g (App c (Lam b x a t) u) (subst t 0 u)) e C.beta)) (heads_sound d)
      heads_sound (project {k = k} {ps = ps} {es = es} {p = p} e d) = C.then (taken_is g (Con k ps) (record { con = k; params = ps; args = [] }) es p refl e) (heads_sound d)
      heads_sound (replaced e d) = absurd cc
      heads_sound (unsolved e) = C.same
      heads_sound (call {f = f} {T = T} {es = es} e d) = follows_sound d (trees f T e) (call_gives f T es e)

      follows_sound : {h : Term} {all es : List Elim} {T : Tree Term} {r : List Term} {w : Answer} {n : ℕ} → Follows g no_solutions h all T r es w n → IsFit g (length r) T → Gives g (elims h all) T r es → Conv g (elims h all) (shown w)
      follows_sound {es = es} {r = r} (leaf d) p x = C.then (x.by r es _ (each_same r) (elims_same es) R.leaf) (heads_sound d)
      follows_sound {h} {all} {r = r} (intro {u = u} {b = b} {es = es} {T = T} d) p x =
          let n : length r + 1 ≡ suc (length r) = omega arith in
          follows_sound d (transport (λ n. IsFit g n T) n p) (gives_intro g (elims h all) T r b u es x)
      follows_sound {h} {all} {r = r} (cosplit {f = f} {es = es} {bs = bs} {T = T} e d) p x = follows_sound d (co_regular g (length r) bs f T p e) (gives_cosplit g (elims h all) bs T r f es e x)
      follows_sound {h} {all} {es} {r = r} (split {k = k} {bs = bs} {v = v} d a) p x = after_sound a (λ b T us e. enter_branch (elims h all) bs k r es v p (heads_sound d) x b T us e)
      follows_sound {h} {all} {es} {r = r} (record_split {k = k} {d = i} {T = T} d) p x =
          let n : length r + length (fields_of g i) - 1 ≡ length (spread k (projections g i (value_at r k)) r) =
          ap (λ m. length r + m - 1) (sym (length-map (fields_of g i) (λ f. Proj f (value_at r k)))) ∙ sym (spread_length k (projections g i (value_at r k)) r p.0) in
          follows_sound d (transport (λ n. IsFit g n T) n p.2) (gives_record g (elims h all) k i T r es p.0 p.1 x)
      follows_sound (stuck q) p x = C.same

      after_sound : {h : Term} {all es : List Elim} {k : ℕ} {r : List Term} {c : Choice} {w : Answer} {n : ℕ} → After g no_solutions h all k r es c w n
          → ((b : Branch Term) (T : Tree Term) (us : List Term) → c ≡ Enters b T us → Branched (elims h all) T (kept b (spread k us r)) es) → Conv g (elims h all) (shown w)
      after_sound (enters {us = us} {b = b} {T = T} d) x = let y = x b T us refl in follows_sound d y.regular y.gives
      after_sound stays x = C.same
      after_sound waits x = C.same
