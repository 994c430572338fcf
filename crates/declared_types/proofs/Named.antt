-- What the ids of constructors and fields in scope name, over a signature of ids.
use Rattle.std.proofs.Common.{◌≡◌, ◌<◌, ℕ, zero, suc, List, append_assoc, length, sym, ap, ◌∙◌, subst, arith}
use Rattle.std.specs.Prelude.{◌++◌, [], ◌∷◌, map, take, reverse, get_or, slice_get, Result, Ok, Err, IfOk, Some, option_map}
use Rattle.std.specs.List.{AllByRecursion}
use Rattle.std.proofs.lemmas.List.{length-map, map-append, take-map}
use Rattle.std.proofs.lemmas.Option.{slice_get-map, slice_get_within}
use Rattle.core_rules.specs.Term.{Term, Terms, Proj, from_list, to_list}
use Rattle.core_rules.specs.Substitution.{under}
use Rattle.core_rules.specs.Elimination.{con_type, projections}
use Rattle.core_rules.specs.Signature.{Entry, ConDecl, FamDecl, Signature, fams, fam_decl, con_place, con_counts, field_place, fields_of, places}
use Rattle.core_rules.specs.Mapped.{con_map, entry_map, fam_map, telescope_map}
use Rattle.core_rules.specs.Typing.{IsCon, IsField, field_env}
use Rattle.core_rules.proofs.Heads.OneAnswer.{one_some}
use Rattle.core_rules.proofs.Heads.Mapped.{con_place-map, field_counts-map, fields_of-map}
use Rattle.core_rules.proofs.Signature.Places.{length-fields_of}
use Rattle.term_pool.specs.Pool.{Pool, Extends, tree}
use Rattle.term_pool.specs.Placed.{items-stay}
use Rattle.core_terms.specs.Signature.{signature_in, con_total}
use Rattle.weak_head.proofs.Lookups.{length_places}
use Rattle.declared_types.proofs.Fields.{fam_below, decl_is, field_fam, field_at}
use Rattle.declared_types.proofs.Turned.{count-reversed}

count_at : (ds : List (FamDecl ℕ)) (i : ℕ) (d : FamDecl ℕ) → slice_get ds i ≡ Some d → get_or (map (λ d. length d.fields) ds) i 0 ≡ length d.fields
count_at [] i d h = absurd cc
count_at (c ∷ ds) zero d h = let e : c ≡ d = cc h in ap (λ (x : FamDecl ℕ). length x.fields) e
count_at (c ∷ ds) (suc i) d h = count_at ds i d h

-- where there is an answer, what it is
pub if_ok : {A E : Type 0} (P Q : A → Type 0) (o : Result A E) → ((a : A) → P a → Q a) → IfOk o P → IfOk o Q
if_ok P Q (Ok a) f h = f a h
if_ok P Q (Err e) f h = tt

module _ (p : Pool) (g : Signature ℕ) where
  pub con_below : (k : ℕ) → IsCon (signature_in p g) k → k < con_total g
  con_below k is = let l = slice_get_within (places 0 (con_counts g)) k (is.fam, is.at) (sym (con_place-map (tree p) g k) ∙ is.place) in let n = length_places 0 (con_counts g) in omega (arith, l, n)

  fields_in : (d : ℕ) → fields_of (signature_in p g) d ≡ fields_of g d
  fields_in d = fields_of-map (tree p) g d

  pub con_fam_below : (k a b : ℕ) → con_place g k ≡ Some (a, b) → IsCon (signature_in p g) k → a < length (fams g)
  con_fam_below k a b place is =
      let pair : ◌≡◌ {A = ℕ × ℕ} (is.fam, is.at) (a, b) = one_some (sym is.place ∙ (con_place-map (tree p) g k ∙ place)) in
      let same : is.fam ≡ a = ap (λ q. q.0) pair in
      fam_below p g a is.decl (subst (λ d. fam_decl (signature_in p g) d ≡ Some is.decl) same is.is_decl)

  -- a family has an id for each of its fields
  pub field_ids : (a : ℕ) (x : FamDecl ℕ) → fam_decl g a ≡ Some x → length (fields_of g a) ≡ length x.fields
  field_ids a x h =
      ap length (sym (fields_of-map (tree p) g a)) ∙ (length-fields_of (signature_in p g) a
      ∙ (ap (λ (ns : List ℕ). get_or ns a 0) (field_counts-map (tree p) g) ∙ count_at (fams g) a x h))

  -- what a place in code is to the one that the rules name
  module _ (k a b : ℕ) (x : FamDecl ℕ) (place : con_place g k ≡ Some (a, b)) (h : fam_decl g a ≡ Some x) (is : IsCon (signature_in p g) k) where
    con_pair : ◌≡◌ {A = ℕ × ℕ} (is.fam, is.at) (a, b)
    con_pair = one_some (sym is.place ∙ (con_place-map (tree p) g k ∙ place))

    pub con_fam : is.fam ≡ a
    con_fam = ap (λ q. q.0) con_pair

    pub con_at : is.at ≡ b
    con_at = ap (λ q. q.1) con_pair

    pub con_family : is.decl ≡ fam_map (tree p) x
    con_family = decl_is p g a x is.decl h (subst (λ d. fam_decl (signature_in p g) d ≡ Some is.decl) con_fam is.is_decl)

    con_here : slice_get (fam_map (tree p) x).cons b ≡ Some is.con
    con_here = subst (λ i. slice_get (fam_map (tree p) x).cons i ≡ Some is.con) con_at (subst (λ (d : FamDecl Term). slice_get d.cons is.at ≡ Some is.con) con_family is.is_con)

    pub con_in : b < length x.cons
    con_in = let l = slice_get_within (fam_map (tree p) x).cons b is.con con_here in omega (arith, l, length-map x.cons (con_map (tree p)))

    pub con_is : (c : ConDecl ℕ) → slice_get x.cons b ≡ Some c → is.con ≡ con_map (tree p) c
    con_is c e = one_some (sym con_here ∙ (slice_get-map (con_map (tree p)) x.cons b ∙ ap (option_map (con_map (tree p))) e))

    -- as many parameters as ids, the last one first, that the constructor stands at
    pub con_count : (us : List ℕ) (ts : Terms) → length is.decl.params ≡ length (to_list ts) → from_list (reverse (map (tree p) us)) ≡ ts → length x.params ≡ length us
    con_count us ts n e =
        sym (length-map x.params (entry_map (tree p))) ∙ (sym (ap (λ (d : FamDecl Term). length d.params) con_family) ∙ (n ∙ (count-reversed (map (tree p) us) ts e ∙ length-map us (tree p))))

    pub con_entries : (es : List (Entry ℕ)) → es ≡ x.params → telescope_map (tree p) es ≡ is.decl.params
    con_entries es e = ap (telescope_map (tree p)) e ∙ sym (ap (λ (d : FamDecl Term). d.params) con_family)

-- the type of a constructor at ids
pub con_type-is : (p q : Pool) (g : Signature ℕ) (k a b : ℕ) (x : FamDecl ℕ) (place : con_place g k ≡ Some (a, b)) (h : fam_decl g a ≡ Some x) (is : IsCon (signature_in p g) k) (c : ConDecl ℕ) (ty : ℕ) (ids : List ℕ)
    → slice_get x.cons b ≡ Some c → Extends p q → AllByRecursion (λ i. i < length p.trees) ids → tree q ty ≡ con_type a (fam_map (tree p) x) (con_map (tree p) c)
    → under (map (tree q) ids) (tree q ty) ≡ under (map (tree p) ids) (con_type is.fam is.decl is.con)
con_type-is p q g k a b x place h is c ty ids at e all t =
    let f : is.fam ≡ a = con_fam p g k a b x place h is in
    let d : is.decl ≡ fam_map (tree p) x = con_family p g k a b x place h is in
    let n : is.con ≡ con_map (tree p) c = con_is p g k a b x place h is c at in
    let s : map (tree q) ids ≡ map (tree p) ids = items-stay p q ids e all in
    let u : con_type a (fam_map (tree p) x) (con_map (tree p) c) ≡ con_type is.fam is.decl is.con = cc in
    ap (λ us. under us (tree q ty)) s ∙ ap (under (map (tree p) ids)) (t ∙ u)

-- what the type of a field stands under
pub field_env-is : (p : Pool) (g : Signature ℕ) (k a b : ℕ) (x : FamDecl ℕ) (place : field_place g k ≡ Some (a, b)) (h : fam_decl g a ≡ Some x) (is : IsField (signature_in p g) k) (ps : List Term) (t : Term) (fs : List ℕ)
    → fs ≡ take b (fields_of g a) → reverse (ps ++ map (λ f. Proj f t) fs) ≡ field_env (signature_in p g) k is ps t
field_env-is p g k a b x place h is ps t fs e =
    let f : is.fam ≡ a = field_fam p g k a b x place h is in
    let n : is.at ≡ b = field_at p g k a b x place h is in
    let us : map (λ f. Proj f t) fs ≡ take b (map (λ f. Proj f t) (fields_of g a)) = ap (map (λ f. Proj f t)) e ∙ sym (take-map (λ f. Proj f t) b (fields_of g a)) in
    let vs : take b (map (λ f. Proj f t) (fields_of g a)) ≡ take is.at (projections (signature_in p g) is.fam t) =
    ap (λ fs. take b (map (λ f. Proj f t) fs)) (sym (fields_of-map (tree p) g a)) ∙ (ap (λ d. take b (projections (signature_in p g) d t)) (sym f) ∙ ap (λ i. take i (projections (signature_in p g) is.fam t)) (sym n)) in
    ap (λ ws. reverse (ps ++ ws)) (us ∙ vs)

-- the projection of one field more, after the terms
pub fields_next : (q r : Pool) (env new : List ℕ) (v k : ℕ) (t : Term) (left more : List ℕ) (W : List Term) → Extends q r → AllByRecursion (λ i. i < length q.trees) env → new ≡ env ++ v ∷ [] → tree r v ≡ Proj k t → left ≡ k ∷ more
    → map (tree q) env ++ map (λ f. Proj f t) left ≡ W → map (tree r) new ++ map (λ f. Proj f t) more ≡ W
fields_next q r env new v k t left more W h all n e l w =
    let F : ℕ → Term = λ f. Proj f t in
    let a : map (tree r) new ≡ map (tree q) env ++ Proj k t ∷ [] =
    ap (map (tree r)) n ∙ (map-append (tree r) env (v ∷ []) ∙ (ap (λ (us : List Term). us ++ tree r v ∷ []) (items-stay q r env h all) ∙ ap (λ (u : Term). map (tree q) env ++ u ∷ []) e)) in
    ap (λ (us : List Term). us ++ map F more) a ∙ (append_assoc (map (tree q) env) (Proj k t ∷ []) (map F more) ∙ (ap (λ (fs : List ℕ). map (tree q) env ++ map F fs) (sym l) ∙ w))
