-- A left side has at most one answer.
use Rattle.std.specs.Prelude.{◌≡◌, ℕ, List, [], length, Option, Some, refl}
use Rattle.std.proofs.Common.{ap, ap₂, sym, ◌∙◌, subst as transport}
use Rattle.core_rules.specs.Term.{Term}
use Rattle.core_rules.specs.Substitution.{under, put_solution}
use Rattle.core_rules.specs.Signature.{Signature, Telescope, Tree, CoBranches, ConBranches, Intro, Cosplit, Split, RecordSplit, Absurd, OnField, Refuted, Goes, ConDecl}
use Rattle.core_rules.specs.Elimination.{Elim}
use Rattle.core_rules.specs.Heads.{Solutions}
use Rattle.core_rules.specs.TypedTree.{Splitting, con_context, index_equations}
use Rattle.match_rules.specs.Matching.{Shape, Shapes, Clause, Bound, values_from}
use Rattle.core_rules.proofs.Heads.OneAnswer.{one_some}
use Rattle.core_rules.proofs.Heads.OneVerdict.{head_of_one}
use Rattle.cover_rules.specs.LeftSide.{Node, opened}
use Rattle.cover_rules.specs.Looking as L
use Rattle.cover_rules.specs.Looking.{Look, Yes, Halts, whole, after, Face, Faces, ConHead, con_head, RecordFace, record_face, Looks, LooksCon, LooksRecord, LooksAll}
use Rattle.core_rules.specs.UnifierAnswers.{Unified, Unifier, HasOneAnswer}
use Rattle.cover_rules.specs.CoverOf as V
use Rattle.cover_rules.specs.CoverOf.{CoverError, Result, Done, Failed, result_map, Asked, asked, look_first, Plan, Ends, fam_head, argument_plan, projection_plan, split_plan, record_plan, Splits, Rejects, Judges, Planned, splitting_at, CoverOf, Built, Fields, Branches, Branched, NoneLeft, Rejected}

pub faces_one : {s : Solutions} {t : Term} {es : List Elim} {v w : Face} → Faces s t es v → Faces s t es w → v ≡ w
faces_one L.variable L.variable = refl
faces_one L.variable (L.other p) = absurd p
faces_one L.constructor L.constructor = refl
faces_one L.constructor (L.other p) = absurd p
faces_one (L.argument f) (L.argument h) = faces_one f h
faces_one (L.argument f) (L.other p) = absurd p
faces_one (L.projection f) (L.projection h) = faces_one f h
faces_one (L.projection f) (L.other p) = absurd p
faces_one {s} {w = w} (L.solved {m = m} {ts = ts} {es = es} e f) (L.solved {t = u} d h) = faces_one f (transport (λ t. Faces s (put_solution m ts (Some t)) es w) (one_some (sym d ∙ e)) h)
faces_one (L.solved e f) (L.unsolved d) = absurd cc
faces_one (L.solved e f) (L.other p) = absurd p
faces_one (L.unsolved e) (L.solved d h) = absurd cc
faces_one (L.unsolved e) (L.unsolved d) = refl
faces_one (L.unsolved e) (L.other p) = absurd p
faces_one (L.other p) L.variable = absurd p
faces_one (L.other p) L.constructor = absurd p
faces_one (L.other p) (L.argument h) = absurd p
faces_one (L.other p) (L.projection h) = absurd p
faces_one (L.other p) (L.solved d h) = absurd p
faces_one (L.other p) (L.unsolved d) = absurd p
faces_one (L.other p) (L.other q) = refl

yes_bound : {σ τ : Bound} {rs ps : Shapes} → Yes σ rs ≡ Yes τ ps → σ ≡ τ
yes_bound e = cc e

yes_halts : {X : Type 0} {σ : Bound} {rs : Shapes} {y : L.Why} → Yes σ rs ≡ Halts y → X
yes_halts e = absurd cc

module _ (g : Signature Term) (s : Solutions) (fuel : ℕ) where
  mutual
    pub looks_one : {p : Shape} {t : Term} {v w : Look} → Looks g s fuel p t v → Looks g s fuel p t w → v ≡ w
    looks_one L.any L.any = refl
    looks_one (L.nothing f a) (L.nothing h b) = ap (λ f. Halts (L.at_variable L.NothingAt f)) (faces_one a b)
    looks_one L.of_field L.of_field = refl
    looks_one {w = w} (L.of_con {k = k} {ps = ps} {t = t} b e h a) (L.of_con c e' h' a') = looks_con_one a (transport (λ b. LooksCon g s fuel k ps t (con_head b) w) (head_of_one g s t fuel c b h' h) a')
    looks_one {w = w} (L.of_record {d = d} {ps = ps} {t = t} f h a) (L.of_record f' h' a') = looks_record_one a (transport (λ f. LooksRecord g s fuel d ps t (record_face g d f) w) (faces_one h' h) a')

    looks_con_one : {k : ℕ} {ps : Shapes} {t : Term} {h : ConHead} {v w : Look} → LooksCon g s fuel k ps t h v → LooksCon g s fuel k ps t h w → v ≡ w
    looks_con_one L.no_fuel L.no_fuel = refl
    looks_con_one (L.same e a) (L.same d b) = ap whole (looks_all_one a b)
    looks_con_one (L.same e a) (L.another n d) = absurd (n e)
    looks_con_one (L.same e a) (L.a_record n d) = absurd (n e)
    looks_con_one (L.another n d) (L.same e a) = absurd (n e)
    looks_con_one (L.another n d) (L.another m e) = refl
    looks_con_one (L.another n d) (L.a_record m e) = absurd cc
    looks_con_one (L.a_record n d) (L.same e a) = absurd (n e)
    looks_con_one (L.a_record n d) (L.another m e) = absurd cc
    looks_con_one (L.a_record n d) (L.a_record m e) = refl
    looks_con_one (L.no_con f a) (L.no_con h b) = ap (λ f. Halts (L.at_variable L.At f)) (faces_one a b)

    looks_record_one : {d : ℕ} {ps : Shapes} {t : Term} {h : RecordFace} {v w : Look} → LooksRecord g s fuel d ps t h v → LooksRecord g s fuel d ps t h w → v ≡ w
    looks_record_one L.unknown L.unknown = refl
    looks_record_one (L.itself a) (L.itself b) = ap whole (looks_all_one a b)
    looks_record_one (L.through a) (L.through b) = ap whole (looks_all_one a b)

    pub looks_all_one : {ps : Shapes} {es : List Elim} {v w : Look} → LooksAll g s fuel ps es v → LooksAll g s fuel ps es w → v ≡ w
    looks_all_one L.end L.end = refl
    looks_all_one L.too_many L.too_many = refl
    looks_all_one (L.arg a as_) (L.arg b bs) = ap₂ after (yes_bound (looks_one a b)) (looks_all_one as_ bs)
    looks_all_one (L.arg a as_) (L.arg_halts b) = yes_halts (looks_one a b)
    looks_all_one (L.arg_halts a) (L.arg b bs) = yes_halts (sym (looks_one a b))
    looks_all_one (L.arg_halts a) (L.arg_halts b) = looks_one a b
    looks_all_one (L.field e a) (L.field d b) = looks_all_one a b
    looks_all_one (L.field e a) (L.other_field n) = absurd (n e)
    looks_all_one (L.field e a) (L.no_field i) = elim i [ ]
    looks_all_one (L.other_field n) (L.field d b) = absurd (n d)
    looks_all_one (L.other_field n) (L.other_field m) = refl
    looks_all_one (L.other_field n) (L.no_field i) = elim i [ ]
    looks_all_one (L.no_field i) (L.field d b) = elim i [ ]
    looks_all_one (L.no_field i) (L.other_field m) = elim i [ ]
    looks_all_one (L.no_field i) (L.no_field j) = refl

  module _ (U : Unifier) (one : HasOneAnswer U) (f : ℕ) (qs : List Clause) where
    judges_one : {ps : List Clause} {ls : List Elim} {o p : Option (List Look)} → Judges g s fuel U f qs ps ls o → Judges g s fuel U f qs ps ls p → o ≡ p
    judges_one V.none V.none = refl
    judges_one (V.one a as_) (V.one b bs) = ap₂ look_first (looks_all_one a b) (judges_one as_ bs)

    planned_one : {n : Node} {a : Asked} {p q : Plan} → Planned g s fuel U f qs n a p → Planned g s fuel U f qs n a q → p ≡ q
    planned_one V.no_fuel V.no_fuel = refl
    planned_one V.no_clause V.no_clause = refl
    planned_one V.not_one_kind V.not_one_kind = refl
    planned_one V.no_variable V.no_variable = refl
    planned_one (V.right {i = i} {q = q} {σ = σ} e) (V.right d) = ap (λ t. Ends i (under (values_from 0 q.size σ) t)) (one_some (sym e ∙ d))
    planned_one (V.argument b h) (V.argument c k) = ap argument_plan (head_of_one g s _ fuel b c h k)
    planned_one (V.projection b h) (V.projection c k) = ap (λ b. projection_plan (fam_head g b)) (head_of_one g s _ fuel b c h k)
    planned_one (V.split {k = i} b h) (V.split c k) = ap (λ b. split_plan (Splits i) (fam_head g b)) (head_of_one g s _ fuel b c h k)
    planned_one (V.record_split {k = i} b h) (V.record_split c k) = ap (λ b. record_plan g i (fam_head g b)) (head_of_one g s _ fuel b c h k)
    planned_one (V.absurd_split {k = i} b h) (V.absurd_split c k) = ap (λ b. split_plan (Rejects i) (fam_head g b)) (head_of_one g s _ fuel b c h k)

    done_failed : {A X : Type 0} {t : A} {x : CoverError} → Done t ≡ Failed x → X
    done_failed e = absurd cc

    done_done : {A : Type 0} {t u : A} → ◌≡◌ {A = Result A} (Done t) (Done u) → t ≡ u
    done_done e = cc e

    failed_to : {A B : Type 0} {x y : CoverError} → ◌≡◌ {A = Result A} (Failed x) (Failed y) → ◌≡◌ {A = Result B} (Failed x) (Failed y)
    failed_to e = ap Failed (cc e)

    mutual
      pub cover_one : {n : Node} {v w : Result (Tree Term)} → CoverOf g s fuel U f qs n v → CoverOf g s fuel U f qs n w → v ≡ w
      cover_one {n} {w = w} (V.cover {p = p} j a b) (V.cover {o = o} {p = q} j' a' b') =
          let a'' : Planned g s fuel U f qs n (asked (length n.spine) qs _) q = transport (λ o. Planned g s fuel U f qs n (asked (length n.spine) qs o) q) (judges_one j' j) a' in
          built_one b (transport (λ p. Built g s fuel U f qs n p w) (planned_one a'' a) b')

      built_one : {n : Node} {p : Plan} {v w : Result (Tree Term)} → Built g s fuel U f qs n p v → Built g s fuel U f qs n p w → v ≡ w
      built_one V.fails V.fails = refl
      built_one V.ends V.ends = refl
      built_one (V.takes c) (V.takes d) = ap (result_map Intro) (cover_one c d)
      built_one (V.shows c) (V.shows d) = ap (result_map Cosplit) (fields_one c d)
      built_one (V.splits {k = k} c) (V.splits d) = ap (result_map (Split k)) (branches_one c d)
      built_one {n} {w = w} (V.opens {k = k} {d = d} {c = i} {ps = ps} {con = con} e c) (V.opens {con = con'} {w = w'} e' c') =
          ap (result_map (RecordSplit k d)) (cover_one c (transport (λ con. CoverOf g s fuel U f qs (opened n (splitting_at g s fuel U f qs n k ps []) i con.args) w') (one_some (sym e' ∙ e)) c'))
      built_one (V.rejects {k = k} c) (V.rejects d) = ap (result_map (λ u. Absurd k)) (none_left_one c d)

      fields_one : {n : Node} {r : List Term} {hs : List ℕ} {es : Telescope Term} {v w : Result (CoBranches Term)} → Fields g s fuel U f qs n r hs es v → Fields g s fuel U f qs n r hs es w → v ≡ w
      fields_one V.no_field V.no_field = refl
      fields_one (V.on_field {h = h} c cs) (V.on_field d ds) = ap₂ (λ T w. result_map (OnField h T) w) (done_done (cover_one c d)) (fields_one cs ds)
      fields_one (V.on_field c cs) (V.not_on_field d) = done_failed (cover_one c d)
      fields_one (V.not_on_field c) (V.on_field d ds) = done_failed (sym (cover_one c d))
      fields_one (V.not_on_field c) (V.not_on_field d) = failed_to (cover_one c d)

      branches_one : {n : Node} {a : Splitting} {ks : List ℕ} {v w : Result (ConBranches Term)} → Branches g s fuel U f qs n a ks v → Branches g s fuel U f qs n a ks w → v ≡ w
      branches_one V.no_con V.no_con = refl
      branches_one {n} {a} {w = w} (V.on_con {k = k} {ks = ks} {con = con} {u = u} e h b) (V.on_con {con = con'} {u = u'} e' h' b') =
          let q : con' ≡ con = one_some (sym e' ∙ e) in
          let h'' : U (con_context a k con.args) (index_equations a con) u' = transport (λ c. U (con_context a k c.args) (index_equations a c) u') q h' in
          let b'' : Branched g s fuel U f qs n a k con u' ks w = transport (λ c. Branched g s fuel U f qs n a k c u' ks w) q b' in
          branched_one b (transport (λ u. Branched g s fuel U f qs n a k con u ks w) (one _ _ u' u h'' h) b'')

      branched_one : {n : Node} {a : Splitting} {k : ℕ} {con : ConDecl Term} {u : Unified} {ks : List ℕ} {v w : Result (ConBranches Term)} → Branched g s fuel U f qs n a k con u ks v → Branched g s fuel U f qs n a k con u ks w → v ≡ w
      branched_one (V.refuted {k = k} c) (V.refuted d) = ap (result_map (Refuted k)) (branches_one c d)
      branched_one (V.goes {k = k} {b = b} c cs) (V.goes d ds) = ap₂ (λ T w. result_map (Goes k b T) w) (done_done (cover_one c d)) (branches_one cs ds)
      branched_one (V.goes c cs) (V.not_built d) = done_failed (cover_one c d)
      branched_one (V.not_built c) (V.goes d ds) = done_failed (sym (cover_one c d))
      branched_one (V.not_built c) (V.not_built d) = failed_to (cover_one c d)
      branched_one V.stuck V.stuck = refl
      branched_one V.no_fuel V.no_fuel = refl
      branched_one V.no_depth V.no_depth = refl

      none_left_one : {n : Node} {a : Splitting} {ks : List ℕ} {v w : Result Unit} → NoneLeft g s fuel U f qs n a ks v → NoneLeft g s fuel U f qs n a ks w → v ≡ w
      none_left_one V.none_left V.none_left = refl
      none_left_one {n} {a} {w = w} (V.next_con {k = k} {ks = ks} {con = con} {u = u} e h b) (V.next_con {con = con'} {u = u'} e' h' b') =
          let q : con' ≡ con = one_some (sym e' ∙ e) in
          let h'' : U (con_context a k con.args) (index_equations a con) u' = transport (λ c. U (con_context a k c.args) (index_equations a c) u') q h' in
          rejected_one b (transport (λ u. Rejected g s fuel U f qs n a u ks w) (one _ _ u' u h'' h) b')

      rejected_one : {n : Node} {a : Splitting} {u : Unified} {ks : List ℕ} {v w : Result Unit} → Rejected g s fuel U f qs n a u ks v → Rejected g s fuel U f qs n a u ks w → v ≡ w
      rejected_one (V.is_refuted c) (V.is_refuted d) = none_left_one c d
      rejected_one V.not_refuted V.not_refuted = refl
      rejected_one V.is_stuck V.is_stuck = refl
      rejected_one V.out_of_fuel V.out_of_fuel = refl
      rejected_one V.out_of_depth V.out_of_depth = refl
