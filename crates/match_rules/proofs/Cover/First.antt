-- Wherever eliminations fit, a call is the right side of the first clause that matches.
use Rattle.std.specs.Prelude.{◌≡◌, ℕ, ◌+◌, ◌-◌, ◌<◌, Bool, true, false, eqb, cond, List, [], ◌∷◌, ◌++◌, length, map, take, drop, slice_get, Some, None, option_and_then, refl, zero, suc}
use Rattle.std.specs.Option.{option_map_or}
use Rattle.std.specs.List.{AllByRecursion}
use Rattle.std.proofs.Common.{ap, sym, ◌∙◌, subst as transport, append_assoc, arith}
use Rattle.std.proofs.lemmas.List.{length-map}
use Rattle.core_rules.specs.declared.Flag.{Flag}
use Rattle.core_rules.specs.Term.{Term, Terms, Var, Def, Con}
use Rattle.core_rules.specs.Substitution.{shift, value_at, under}
use Rattle.core_rules.specs.Signature.{Signature, Branch, Tree, Split, ConBranches, ConDecl, con_branch, con_decl, con_place, fam_decl, fields_of, tree_of, decl_tree}
use Rattle.core_rules.specs.Elimination.{Elim, Arg, Field, elims, args, projections}
use Rattle.core_rules.specs.Run as R
use Rattle.core_rules.specs.Run.{ConApp, con_app, takes, full_con, parts, spread, kept}
use Rattle.core_rules.specs.Conversion as C
use Rattle.core_rules.specs.Conversion.{Conv, IsEtaCon}
use Rattle.core_rules.specs.InScope.{FamiliesHaveShape, SignatureInScope, any_meta}
use Rattle.core_rules.specs.TypedTree.{into, new_con}
use Rattle.match_rules.specs.Matching as M
use Rattle.match_rules.specs.Matching.{Shape, OfField, Shapes, NoShape, AndShape, Clause, Bound, find, values_from, HasHead, Front, Apart, FirstMatch, Fits, FitsBranch, eta_family, clause_of, ClauseHolds}
use Rattle.match_rules.specs.Covering as V
use Rattle.match_rules.specs.Covering.{Verdict, Yes, No, At, LooksAll, IsArg, Ends, NextArg, NextField, SplitAt, IsDue, elims_map, Covers}
use Rattle.core_rules.specs.TreeLaws.{HasTypedTrees}
use Rattle.match_rules.specs.Laws.{IsCovered}
use Rattle.core_rules.proofs.Typing.Closed.{have-shape}
use Rattle.core_rules.proofs.Heads.Regular.{regular_fit}
use Rattle.core_rules.proofs.Trees.Regular.{typed_trees-regular}
use Rattle.match_rules.proofs.Cover.Plain.{typed_trees-plain}
use Rattle.core_rules.proofs.Substitution.Exchange.{under-under}
use Rattle.core_rules.proofs.Conversion.Changed.{conv-elims}
use Rattle.core_rules.proofs.Conversion.Shifted.{ConvEnv, conv-under}
use Rattle.core_rules.proofs.Conversion.Shifted as W
use Rattle.core_rules.proofs.Heads.Fit.{IsEtaRecord, IsFit, HasFitTrees}
use Rattle.core_rules.proofs.Heads.Gather as E
use Rattle.core_rules.proofs.Heads.Gather.{ConvEach, each_same, elims_same, each_length, each_join, each_reverse}
use Rattle.core_rules.proofs.Heads.Sound.{heads_sound, con_app-args, full_con_by, eqb_same, Gives, gives_intro, gives_cosplit, gives_split, gives_record, co_regular, con_regular, spread_length, call_gives}
use Rattle.core_rules.proofs.Heads.OneAnswer.{one_some}
use Rattle.match_rules.proofs.Cover.Values.{under-var}
use Rattle.match_rules.proofs.Cover.Parts.{parts_conv}
use Rattle.match_rules.proofs.Cover.Named.{named_eq, each_same_term}
use Rattle.match_rules.proofs.Cover.Like as L
use Rattle.match_rules.proofs.Cover.Like.{Like, LikeEach, like_conv, like_each_named, like-raise, like-change, each-refl}
use Rattle.match_rules.proofs.Cover.Opened.{like_split, like_record}
use Rattle.match_rules.proofs.Cover.Back as B
use Rattle.match_rules.proofs.Cover.Back.{PlainSplits}
use Rattle.match_rules.proofs.Cover.Standing as S
use Rattle.match_rules.proofs.Cover.Standing.{HasCon, Stands, StandsFor, DecidedAll, Takes, FrontMeans, takes_then, looks_all_means, front_one, not_both, not_both_front}

module _ (g : Signature Term) where
  stands_raise : {r : List Term} (u : Term) (b c : Flag) (ls : List Elim) {es : List Elim} → Stands g r ls es → Stands g (u ∷ r) (elims_map (λ t. shift t 0 1) ls ++ (Arg b (Var 0) ∷ [])) (es ++ (Arg c u ∷ []))
  stands_raise {r} u b c [] S.none = S.arg (L.var (named_eq (sym (under-var (u ∷ r) 0)))) S.none
  stands_raise {r} u b c (Arg d t ∷ ls) (S.arg e s) = S.arg (like-raise g r u e) (stands_raise u b c ls s)
  stands_raise u b c (Field f ∷ ls) (S.field s) = S.field (stands_raise u b c ls s)

  stands_field : {r : List Term} (f : ℕ) (ls : List Elim) {es : List Elim} → Stands g r ls es → Stands g r (ls ++ (Field f ∷ [])) (es ++ (Field f ∷ []))
  stands_field f [] S.none = S.field S.none
  stands_field f (Arg d t ∷ ls) (S.arg e s) = S.arg e (stands_field f ls s)
  stands_field f (Field h ∷ ls) (S.field s) = S.field (stands_field f ls s)

  stands_map : {r s : List Term} (f : Term → Term) → ((t v : Term) → Like g r 0 t v → Like g s 0 (f t) v) → (ls : List Elim) {es : List Elim} → Stands g r ls es → Stands g s (elims_map f ls) es
  stands_map f h [] S.none = S.none
  stands_map f h (Arg d t ∷ ls) (S.arg {v = v} e x) = S.arg (h t v e) (stands_map f h ls x)
  stands_map f h (Field i ∷ ls) (S.field x) = S.field (stands_map f h ls x)

  -- what comes next, where a pattern is left and the patterns are decided
  data Nexts : Shape → List Elim → Type 0 where
    an_arg : {p : Shape} {b : Flag} {v : Term} {es : List Elim} → Nexts p (Arg b v ∷ es)
    a_field : {f h : ℕ} {es : List Elim} → Nexts (OfField f) (Field h ∷ es)

  takes_next : {ps qs : Shapes} {p : Shape} {vs : List Elim} {τ : Bound} (es : List Elim) → Takes g ps vs τ (AndShape p qs) → DecidedAll g ps (vs ++ es) → Nexts p es
  takes_next es S.end (S.yes (M.arg m f)) = an_arg
  takes_next es S.end (S.yes (M.field q f)) = a_field
  takes_next es S.end (S.no (M.here c)) = an_arg
  takes_next es S.end (S.no (M.later m a)) = an_arg
  takes_next es S.end (S.no (M.other_field n)) = a_field
  takes_next es S.end (S.no (M.past_field q a)) = a_field
  takes_next es (S.arg m t) (S.yes (M.arg n f)) = takes_next es t (S.yes f)
  takes_next es (S.arg m t) (S.no (M.here c)) = absurd (not_both g m c)
  takes_next es (S.arg m t) (S.no (M.later n a)) = takes_next es t (S.no a)
  takes_next es (S.field q t) (S.yes (M.field _ f)) = takes_next es t (S.yes f)
  takes_next es (S.field q t) (S.no (M.other_field n)) = absurd (n q)
  takes_next es (S.field q t) (S.no (M.past_field _ a)) = takes_next es t (S.no a)

  data HasArg : List Elim → Type 0 where
    has_arg : {b : Flag} {v : Term} {es : List Elim} → HasArg (Arg b v ∷ es)

  arg_next : {p : Shape} {es : List Elim} → IsArg p → Nexts p es → HasArg es
  arg_next a an_arg = has_arg
  arg_next a a_field = elim a [ ]

  data HasField : List Elim → Type 0 where
    has_field : {f : ℕ} {es : List Elim} → HasField (Field f ∷ es)

  -- a projection pattern is decided only by a projection
  field_takes : {ps qs : Shapes} {f : ℕ} {vs : List Elim} {τ : Bound} (es : List Elim) → Takes g ps vs τ (AndShape (OfField f) qs) → DecidedAll g ps (vs ++ es) → HasField es
  field_takes es S.end (S.yes (M.arg m f)) = elim m [ ]
  field_takes es S.end (S.yes (M.field q f)) = has_field
  field_takes es S.end (S.no (M.here c)) = elim c [ ]
  field_takes es S.end (S.no (M.later m a)) = elim m [ ]
  field_takes es S.end (S.no (M.other_field n)) = has_field
  field_takes es S.end (S.no (M.past_field q a)) = has_field
  field_takes es (S.arg m t) (S.yes (M.arg n f)) = field_takes es t (S.yes f)
  field_takes es (S.arg m t) (S.no (M.here c)) = absurd (not_both g m c)
  field_takes es (S.arg m t) (S.no (M.later n a)) = field_takes es t (S.no a)
  field_takes es (S.field q t) (S.yes (M.field _ f)) = field_takes es t (S.yes f)
  field_takes es (S.field q t) (S.no (M.other_field n)) = absurd (n q)
  field_takes es (S.field q t) (S.no (M.past_field _ a)) = field_takes es t (S.no a)

  find_conv : (shapes : FamiliesHaveShape g) (trees : HasFitTrees g) {r : List Term} (x : ℕ) {σ τ : Bound} → StandsFor g r σ τ → Conv g (under r (find x σ)) (find x τ)
  find_conv shapes trees x S.none = C.same
  find_conv shapes trees {r} x (S.one {x = y} {t = t} {v = v} {σ = σ} {τ = τ} e s) = by (eqb x y) (find_conv shapes trees x s)
    where
      by : (b : Bool) → Conv g (under r (find x σ)) (find x τ) → Conv g (under r (cond b t (find x σ))) (cond b v (find x τ))
      by true h = C.back (like_conv g trees r e)
      by false h = h

  values_conv : (shapes : FamiliesHaveShape g) (trees : HasFitTrees g) {r : List Term} (x n : ℕ) {σ τ : Bound} → StandsFor g r σ τ → ConvEnv g (map (under r) (values_from x n σ)) (values_from x n τ)
  values_conv shapes trees x zero s = W.none
  values_conv shapes trees x (suc n) s = W.more (find_conv shapes trees x s) (values_conv shapes trees (suc x) n s)

  each_trans : {ts us vs : List Term} → ConvEach g ts us → ConvEach g us vs → ConvEach g ts vs
  each_trans E.none E.none = E.none
  each_trans (E.one c cs) (E.one d ds) = E.one (C.then c d) (each_trans cs ds)

  gives_env : (w : Term) (T : Tree Term) (r s : List Term) (es : List Elim) → ConvEach g r s → Gives g w T r es → Gives g w T s es
  gives_env w T r s es c x = record { by = λ q ds t k l run. x.by q ds t (each_trans c k) l run }

  each_spread : (k : ℕ) (us vs r : List Term) → ConvEach g us vs → ConvEach g (spread k us r) (spread k vs r)
  each_spread k us vs r c = each_join (each_join (each_same (take k r)) (each_reverse c)) (each_same (drop (k + 1) r))

  -- a constructor at all its arguments
  full_at : (k : ℕ) (ps : Terms) (con : ConDecl Term) (us : List Term) (ds : List Elim) → con_decl g k ≡ Some con → length us ≡ length con.args → ds ≡ args con.args us → full_con g (elims (Con k ps) ds) ≡ Some (record { con = k; params = ps; args = us })
  full_at k ps con us ds d n e =
      let s : ConApp = record { con = k; params = ps; args = us } in
      let a : con_app (elims (Con k ps) ds) [] ≡ Some s = ap (λ ds. con_app (elims (Con k ps) ds) []) e ∙ con_app-args k ps (Con k ps) [] con.args us n refl in
      let all : takes g k (length us) ≡ true = ap (λ o. option_map_or (λ c. eqb (length c.args) (length us)) o false) d ∙ (ap (λ m. eqb (length con.args) m) n ∙ eqb_same (length con.args)) in
      full_con_by g (elims (Con k ps) ds) s a all

  -- a record has one constructor at its first place
  one_eta_con : (c d : ℕ) (is : IsEtaCon g c d) (i : IsEtaRecord g d) → length is.con.args ≡ length (fields_of g d)
  one_eta_con c d is i =
      let look : (k : ℕ) → con_place g k ≡ Some (d, 0) → con_decl g k ≡ option_and_then (λ d. slice_get d.cons 0) (fam_decl g d) = λ k e. ap (option_and_then (λ p. option_and_then (λ d. slice_get d.cons p.1) (fam_decl g p.0))) e in
      let e : is.con ≡ i.is.con = one_some (sym is.is_con ∙ (look c is.place ∙ (sym (look i.con i.is.place) ∙ i.is.is_con))) in
      ap (λ c. length c.args) e ∙ i.as_many

  module _ (shapes : FamiliesHaveShape g) (trees : HasFitTrees g) (plain : (f : ℕ) (T : Tree Term) → tree_of g f ≡ Some T → PlainSplits g T) where
    record AtLeaf (q' q : Clause) (σ' : Bound) (r : List Term) (es : List Elim) (σ : Bound) (rest : List Elim) : Type 0 where
      clause : q' ≡ q
      seen : StandsFor g r σ' σ
      left : rest ≡ es

    yes_ends : {r : List Term} {before es rest : List Elim} {σ σ' : Bound} (q' q : Clause) → q' ≡ q → FrontMeans g r q'.shapes before (Yes σ' NoShape) → Front g q'.shapes (before ++ es) σ rest → AtLeaf q' q σ' r es σ rest
    yes_ends {r} {es = es} {σ = σ} {σ' = σ'} q' q e (S.yes t s) f =
        let a = front_one g f (takes_then g es t) in
        record { clause = e; seen = transport (λ x. StandsFor g r σ' x) (sym a.0) s; left = a.1 }

    no_front : {r : List Term} {ps : Shapes} {before rest : List Elim} {σ : Bound} (es : List Elim) → FrontMeans g r ps before No → Front g ps (before ++ es) σ rest → ⊥
    no_front es (S.no h) f = not_both_front g f (h es)

    yes_apart : {r : List Term} {ps : Shapes} {before : List Elim} {σ : Bound} (es : List Elim) → FrontMeans g r ps before (Yes σ NoShape) → Apart g ps (before ++ es) → ⊥
    yes_apart es (S.yes t s) a = not_both_front g (takes_then g es t) a

    means : {r : List Term} {ps : Shapes} {ls before : List Elim} {V : Verdict} → LooksAll g ps ls V → Stands g r ls before → FrontMeans g r ps before V
    means k s = looks_all_means g shapes plain k s

    due_ends : {r : List Term} {qs : List Clause} {ls before all rest : List Elim} {q' : Clause} {σ σ' : Bound} (i : ℕ) (q : Clause) (es : List Elim) → all ≡ before ++ es → slice_get qs i ≡ Some q
        → IsDue g qs ls (Ends q' σ') → Stands g r ls before → FirstMatch g qs i all σ rest → AtLeaf q' q σ' r es σ rest
    due_ends {rest = rest} {σ = σ} i q es e h (V.ends {q = j} k) s (M.first f) = yes_ends j q (one_some h) (means k s) (transport (λ x. Front g j.shapes x σ rest) e f)
    due_ends i q es e h (V.ends {q = j} k) s (M.next a m) = absurd (yes_apart es (means k s) (transport (λ x. Apart g j.shapes x) e a))
    due_ends {rest = rest} {σ = σ} i q es e h (V.skip {q = j} k d) s (M.first f) = absurd (no_front es (means k s) (transport (λ x. Front g j.shapes x σ rest) e f))
    due_ends _ q es e h (V.skip k d) s (M.next {i = i} a m) = due_ends i q es e h d s m

    at_decides : {r : List Term} {ps : Shapes} {before : List Elim} {i : ℕ} (es : List Elim) → FrontMeans g r ps before (At i) → DecidedAll g ps (before ++ es) → HasCon g (value_at r i)
    at_decides es (S.at h) d = h es d

    due_splits : {r : List Term} {qs : List Clause} {ls before all rest : List Elim} {σ : Bound} {i k : ℕ} (es : List Elim) → all ≡ before ++ es → IsDue g qs ls (SplitAt k) → Stands g r ls before → FirstMatch g qs i all σ rest → HasCon g (value_at r k)
    due_splits {rest = rest} {σ = σ} es e (V.at_split {q = j} k) s (M.first f) = at_decides es (means k s) (S.yes (transport (λ x. Front g j.shapes x σ rest) e f))
    due_splits es e (V.at_split {q = j} k) s (M.next a m) = at_decides es (means k s) (S.no (transport (λ x. Apart g j.shapes x) e a))
    due_splits {rest = rest} {σ = σ} es e (V.skip {q = j} k d) s (M.first f) = absurd (no_front es (means k s) (transport (λ x. Front g j.shapes x σ rest) e f))
    due_splits es e (V.skip k d) s (M.next a m) = due_splits es e d s m

    yes_next : {r : List Term} {ps qs : Shapes} {p : Shape} {before : List Elim} {σ : Bound} (es : List Elim) → FrontMeans g r ps before (Yes σ (AndShape p qs)) → DecidedAll g ps (before ++ es) → Nexts p es
    yes_next es (S.yes t s) d = takes_next es t d

    due_arg : {r : List Term} {qs : List Clause} {ls before all rest : List Elim} {σ : Bound} {i : ℕ} (es : List Elim) → all ≡ before ++ es → IsDue g qs ls NextArg → Stands g r ls before → FirstMatch g qs i all σ rest → HasArg es
    due_arg {rest = rest} {σ = σ} es e (V.argument {q = j} k a) s (M.first f) = arg_next a (yes_next es (means k s) (S.yes (transport (λ x. Front g j.shapes x σ rest) e f)))
    due_arg es e (V.argument {q = j} k a) s (M.next b m) = arg_next a (yes_next es (means k s) (S.no (transport (λ x. Apart g j.shapes x) e b)))
    due_arg {rest = rest} {σ = σ} es e (V.skip {q = j} k d) s (M.first f) = absurd (no_front es (means k s) (transport (λ x. Front g j.shapes x σ rest) e f))
    due_arg es e (V.skip k d) s (M.next a m) = due_arg es e d s m

    yes_field : {r : List Term} {ps qs : Shapes} {f : ℕ} {before : List Elim} {σ : Bound} (es : List Elim) → FrontMeans g r ps before (Yes σ (AndShape (OfField f) qs)) → DecidedAll g ps (before ++ es) → HasField es
    yes_field es (S.yes t s) d = field_takes es t d

    due_field : {r : List Term} {qs : List Clause} {ls before all rest : List Elim} {σ : Bound} {i : ℕ} (es : List Elim) → all ≡ before ++ es → IsDue g qs ls NextField → Stands g r ls before → FirstMatch g qs i all σ rest → HasField es
    due_field {rest = rest} {σ = σ} es e (V.projection {q = j} k) s (M.first f) = yes_field es (means k s) (S.yes (transport (λ x. Front g j.shapes x σ rest) e f))
    due_field es e (V.projection {q = j} k) s (M.next b m) = yes_field es (means k s) (S.no (transport (λ x. Apart g j.shapes x) e b))
    due_field {rest = rest} {σ = σ} es e (V.skip {q = j} k d) s (M.first f) = absurd (no_front es (means k s) (transport (λ x. Front g j.shapes x σ rest) e f))
    due_field es e (V.skip k d) s (M.next a m) = due_field es e d s m

    -- the leaf of a clause gives its right side under the values of the match
    leaf_conv : {r : List Term} {σ τ : Bound} (n : ℕ) (t : Term) (es : List Elim) → StandsFor g r σ τ → Conv g (elims (under r (under (values_from 0 n σ) t)) es) (elims (under (values_from 0 n τ) t) es)
    leaf_conv {r} {σ} {τ} n t es s = conv-elims es (transport (λ x. Conv g x (under (values_from 0 n τ) t)) (sym (under-under r (values_from 0 n σ) t)) (conv-under t (values_conv shapes trees 0 n s)))

    at_leaf : (w : Term) (q' q : Clause) (t' t : Term) (σ' σ : Bound) (r : List Term) (es rest : List Elim) → q'.right ≡ Some t' → q.right ≡ Some t → AtLeaf q' q σ' r es σ rest
        → Conv g w (elims (under r (under (values_from 0 q'.size σ') t')) es) → Conv g w (elims (under (values_from 0 q.size σ) t) rest)
    at_leaf w q' q t' t σ' σ r es rest e' e a c =
        let h : Conv g w (elims (under (values_from 0 q'.size σ) t') es) = C.then c (leaf_conv q'.size t' es a.seen) in
        let p : t' ≡ t = one_some (sym e' ∙ (ap (λ q. q.right) a.clause ∙ e)) in
        transport (λ z. Conv g w (elims (under (values_from 0 z.size σ) t) rest)) a.clause
        (transport (λ z. Conv g w (elims (under (values_from 0 q'.size σ) z) rest)) p
        (transport (λ z. Conv g w (elims (under (values_from 0 q'.size σ) t') z)) (sym a.left) h))

    fit_at : (n m : ℕ) (T : Tree Term) → n ≡ m → IsFit g n T → IsFit g m T
    fit_at n m T e p = transport (λ n. IsFit g n T) e p

    record Entered (w : Term) (i k : ℕ) (b : Branch Term) (T : Tree Term) (con : ConDecl Term) (us r : List Term) (es : List Elim) : Type 0 where
      fit : IsFit g (length (kept b (spread i us r))) T
      gives : Gives g w T (kept b (spread i us r)) es

    enter : (w : Term) (bs : ConBranches Term) (i k : ℕ) (r : List Term) (es ds : List Elim) (con : ConDecl Term) (us : List Term) (b : Branch Term) (T : Tree Term) → IsFit g (length r) (Split i bs)
        → HasHead g (value_at r i) k ds → con_decl g k ≡ Some con → length us ≡ length con.args → ds ≡ args con.args us → con_branch bs k ≡ Some (b, T) → Gives g w (Split i bs) r es → Entered w i k b T con us r es
    enter w bs i k r es ds con us b T p h d n e c x =
        let s : ConApp = record { con = k; params = h.params; args = us } in
        let full = full_at k h.params con us ds d n e in
        let z = con_regular g (length r) bs k b T p.1 c in
        let all : takes g k (length us) ≡ true = ap (λ o. option_map_or (λ c. eqb (length c.args) (length us)) o false) d ∙ (ap (λ m. eqb (length con.args) m) n ∙ eqb_same (length con.args)) in
        let within : AllByRecursion (λ j. j < length (spread i us r)) b.keep = transport (λ n. AllByRecursion (λ j. j < n) b.keep) (sym (spread_length i us r p.0)) (z.once.within (length us) all) in
        record {
          fit = fit_at (length b.keep) (length (kept b (spread i us r))) T (sym (length-map b.keep (value_at (spread i us r)))) z.tree;
          gives = gives_split g w bs b T i r es (elims (Con k h.params) ds) s p.0 z.once (heads_sound g trees h.heads) full c within x;
        }

    module _ (qs : List Clause) (w : Term) (i : ℕ) (q : Clause) (t : Term) (at : slice_get qs i ≡ Some q) (right : q.right ≡ Some t) where
      mutual
        pub first_match : {n : ℕ} {ls : List Elim} {T : Tree Term} {r : List Term} {before es rest : List Elim} {σ : Bound} → Covers g qs n ls T → n ≡ length r → IsFit g (length r) T → PlainSplits g T → Stands g r ls before → Fits g T r es
            → FirstMatch g qs i (before ++ es) σ rest → Gives g w T r es → Conv g w (elims (under (values_from 0 q.size σ) t) rest)
        first_match {r = r} {es = es} {rest = rest} {σ = σ} (V.ends {q = q'} {σ = σ'} {t = t'} d e) l p z s f m x =
            at_leaf w q' q t' t σ' σ r es rest e right (due_ends i q es refl at d s m) (x.by r es _ (each_same r) (elims_same es) R.leaf)
        first_match {r = r} {before = before} {rest = rest} {σ = σ} (V.next {n = n} {ls = ls} {T = T} b d c) l p (B.intro z) s (M.intro {b = b'} {u = u} {es = es} f) m x =
            first_match c (omega (arith, l)) (fit_at (length r + 1) (suc (length r)) T (omega arith) p) z (stands_raise u b b' ls s) f
            (transport (λ z. FirstMatch g qs i z σ rest) (sym (append_assoc before (Arg b' u ∷ []) es)) m) (gives_intro g w T r b' u es x)
        first_match (V.next b d c) l p z s M.intro_end m x = let h : HasArg [] = due_arg [] refl d s m in elim h [ ]
        first_match (V.next b d c) l p z s (M.intro_field {f = f} {es = es}) m x = let h : HasArg (Field f ∷ es) = due_arg (Field f ∷ es) refl d s m in elim h [ ]
        first_match {r = r} {before = before} {rest = rest} {σ = σ} (V.fields {ls = ls} {bs = bs} d c) l p (B.cosplit z) s (M.cosplit {T = T} {f = f} {es = es} e o) m x =
            first_match (c f T e) l (co_regular g (length r) bs f T p e) (z f T e) (stands_field f ls s) o
            (transport (λ z. FirstMatch g qs i z σ rest) (sym (append_assoc before (Field f ∷ []) es)) m) (gives_cosplit g w bs T r f es e x)
        first_match (V.fields d c) l p z s M.cosplit_end m x = let h : HasField [] = due_field [] refl d s m in elim h [ ]
        first_match (V.fields d c) l p z s (M.cosplit_arg {b = b} {u = u} {es = es}) m x = let h : HasField (Arg b u ∷ es) = due_field (Arg b u ∷ es) refl d s m in elim h [ ]
        first_match {es = es} (V.splits {k = k} ps d c) l p (B.split none z) s (M.split h) m x =
            let a = due_splits es refl d s m in
            first_branch ps c l p none z s (h a.con a.elims a.head) a.head m x
        first_match {r = r} {es = es} (V.record_splits {n = n} {k = k} {c = c} {d = e} {ls = ls} {T = T} ps is d v) l p (B.record_split z) s (M.record_split f) m x =
            let us = parts g e (value_at r k) in
            let a : length us ≡ length (fields_of g e) = each_length (parts_conv g shapes e (value_at r k)) ∙ length-map (fields_of g e) (λ f. Rattle.core_rules.specs.Term.Proj f (value_at r k)) in
            let o : length is.con.args ≡ length (fields_of g e) = one_eta_con c e is p.1 in
            let b = spread_length k us r p.0 in
            first_match v (omega (arith, a, o, b, l)) (fit_at (length r + length (fields_of g e) - 1) (length (spread k us r)) T (omega (arith, a, b)) p.2) z
            (stands_map (λ t. under (into k n (length is.con.args) (new_con c ps is.con.args)) t) (λ t v y. like_record g shapes k r p.0 n c e is ps l (a ∙ sym o) y) ls s) f m
            (gives_env w T (spread k (projections g e (value_at r k)) r) (spread k us r) es (each_spread k (projections g e (value_at r k)) us r (parts_conv g shapes e (value_at r k))) (gives_record g w k e T r es p.0 p.1 x))
        first_match V.absurds l p z s f m x = elim f [ ]

        first_branch : {n k j : ℕ} {ls : List Elim} {bs : ConBranches Term} {r : List Term} {before es rest ds : List Elim} {σ : Bound} (ps : List Term)
            → ((c : ℕ) (con : ConDecl Term) (b : Branch Term) (T : Tree Term) → con_decl g c ≡ Some con → con_branch bs c ≡ Some (b, T)
            → Covers g qs (length b.keep) (elims_map (λ t. under b.values (under (into k n (length con.args) (new_con c ps con.args)) t)) ls) T)
            → n ≡ length r → IsFit g (length r) (Split k bs) → ((c : ℕ) (b : Branch Term) (T : Tree Term) → con_branch bs c ≡ Some (b, T) → eta_family g c ≡ None)
            → ((c : ℕ) (b : Branch Term) (T : Tree Term) → con_branch bs c ≡ Some (b, T) → PlainSplits g T) → Stands g r ls before → FitsBranch g bs k j ds r es → HasHead g (value_at r k) j ds
            → FirstMatch g qs i (before ++ es) σ rest → Gives g w (Split k bs) r es → Conv g w (elims (under (values_from 0 q.size σ) t) rest)
        first_branch {n = n} {k = k} {j = j} {ls = ls} {bs = bs} {r = r} {es = es} {ds = ds} ps c l p none z s (M.goes con us b T d len e o forced f) h m x =
            let y = enter w bs k j r es ds con us b T p h d len e o x in
            let v = kept b (spread k us r) in
            let values : LikeEach g v 0 b.values (spread k us r) = like_each_named g (each_same_term (map (under v) b.values) (spread k us r) (sym forced)) (each-refl g v b.values) in
            first_match (c j con b T d o) (sym (length-map b.keep (value_at (spread k us r)))) y.fit (z j b T o)
            (stands_map (λ t. under b.values (under (into k n (length con.args) (new_con j ps con.args)) t))
            (λ t w a. like-change g (spread k us r) v b.values values (like_split g k us r p.0 n j con ps ds l len e (none j b T o) h a)) ls s)
            f m y.gives

-- each clause of a function whose tree follows its clauses holds
pub clause_holds : (g : Signature Term) → SignatureInScope g any_meta → HasTypedTrees g → (f : ℕ) → IsCovered g f → (i : ℕ) → ClauseHolds g f i
clause_holds g s y f v i x a qs T q t es rest σ d h right fit m =
    let trees = regular_fit g any_meta s (typed_trees-regular g y) in
    let plain = typed_trees-plain g y in
    let e : tree_of g f ≡ Some T = ap (option_and_then decl_tree) d in
    first_match g (have-shape g s) trees plain (map (clause_of g) qs) (elims (Def f) es) i q t h right {r = []} {before = []} {es = es} {rest = rest} {σ = σ} (v x a qs T d) refl (trees f T e) (plain f T e) S.none fit m (call_gives g f T es e)
