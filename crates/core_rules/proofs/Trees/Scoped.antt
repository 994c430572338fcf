-- A typed tree is in scope, and so is a derivable signature.
use Rattle.std.specs.Prelude.{◌≡◌, ℕ, ◌+◌, ◌-◌, ◌<◌, List, [], ◌∷◌, ◌++◌, length, sum, take, get_or, slice_get, Some, option_and_then, refl, zero, suc}
use Rattle.std.specs.Option.{option_map_or}
use Rattle.std.specs.List.{AllByRecursion}
use Rattle.std.proofs.Common.{ap, sym, ◌∙◌, arith, zero-add, subst as transport}
use Rattle.std.proofs.lemmas.Option.{slice_get_within}
use Rattle.core_rules.specs.Term.{Term}
use Rattle.core_rules.specs.Signature.{Signature, Context, Telescope, onto, Branch, Tree, CoBranches, ConBranches, FamDecl, ConDecl, Decl, Postulate, Family, Open, Function, fams, places, con_counts, field_counts, con_place, field_place, fam_decl, cons_of, fields_of}
use Rattle.core_rules.specs.InScope.{InScope, TreeInScope, CoBranchesInScope, ConBranchesInScope, BranchInScope, DeclInScope, SignatureInScope, field_count, arg_count, any_meta}
use Rattle.core_rules.specs.Unification.{Solution, Realises}
use Rattle.core_rules.specs.TypedTree as Y
use Rattle.core_rules.specs.TypedTree.{IsAt, Splitting, splitting, entries_under, opened, new_con, new_entries, con_context, TypedTree, TypedFields, TypedBranches}
use Rattle.core_rules.specs.Derivable as D
use Rattle.core_rules.specs.Derivable.{Good, Derivable}
use Rattle.core_rules.proofs.Signature.Places.{length-numbers, numbers_at, places_at, field-place}
use Rattle.core_rules.proofs.Typing.Scoped.{length-places, length-onto, fits-length, fits-in_scope, typing-in_scope, well_formed-in_scope, family-in_scope, all_of}

pub length-entries_under : (r : List Term) (i : ℕ) (es : Telescope Term) → length (entries_under r i es) ≡ length es
length-entries_under r i [] = refl
length-entries_under r i (e ∷ es) = ap suc (length-entries_under r (suc i) es)

pub length-opened : (k : ℕ) (u : Term) (es : Telescope Term) (c : Context Term) → k < length c → length (opened k u es c) ≡ length c + length es - 1
length-opened k u es [] h = absurd (omega arith)
length-opened zero u es (e ∷ c) h = let p = length-onto es c in omega (arith, p)
length-opened (suc k) u es (e ∷ c) h = let p = length-opened k u es c (omega arith) in omega (arith, p, h)

pub length-con_context : (s : Splitting) (k : ℕ) (es : Telescope Term) → s.var < length s.context → length (con_context s k es) ≡ length s.context + length es - 1
length-con_context s k es h =
    length-opened s.var (new_con k s.params es) (new_entries s es) s.context h
    ∙ ap (λ n. length s.context + n - 1) (length-entries_under _ 0 es)

counted : {X : Type 0} (f : X → ℕ) (ds : List X) (n : ℕ) (d : X) → slice_get ds n ≡ Some d → get_or (Rattle.std.specs.Prelude.map f ds) n 0 ≡ f d
counted f [] n d e = absurd cc
counted f (c ∷ ds) zero d e = ap (λ o. option_map_or f o 0) e
counted f (c ∷ ds) (suc n) d e = counted f ds n d e

module _ (g : Signature Term) where
  -- constructor number i of family d
  pub con_place_of : (d i k : ℕ) → slice_get (cons_of g d) i ≡ Some k → con_place g k ≡ Some (d, i)
  con_place_of d i k e =
      let ns = con_counts g in
      let n : length (cons_of g d) ≡ get_or ns d 0 = length-numbers (sum (take d ns)) (get_or ns d 0) in
      let b : i < get_or ns d 0 = let h = slice_get_within (cons_of g d) i k e in omega (arith, n, h) in
      let p : k ≡ sum (take d ns) + i = cc (e, numbers_at (sum (take d ns)) (get_or ns d 0) i b) in
      rw p (places_at 0 ns d i b ∙ ap (λ m. Some (m, i)) (zero-add d))

  con_below : (k : ℕ) (p : ℕ × ℕ) → con_place g k ≡ Some p → k < sum (con_counts g)
  con_below k p e = rw length-places at (slice_get_within (places 0 (con_counts g)) k p e)

  field_below : (k : ℕ) (p : ℕ × ℕ) → field_place g k ≡ Some p → k < sum (field_counts g)
  field_below k p e = rw length-places at (slice_get_within (places 0 (field_counts g)) k p e)

  record IsItsCon (k : ℕ) (con : ConDecl Term) : Type 0 where
    below : k < sum (con_counts g)
    as_many : arg_count g k ≡ length con.args

  its_con : (d : ℕ) (decl : FamDecl Term) → fam_decl g d ≡ Some decl → (i k : ℕ) (con : ConDecl Term) → slice_get (cons_of g d) i ≡ Some k → slice_get decl.cons i ≡ Some con → IsItsCon k con
  its_con d decl f i k con e h =
      let p = con_place_of d i k e in
      record {
        below = con_below k (d, i) p;
        as_many = ap (λ o. option_map_or (λ c. length c.args) (option_and_then (λ p. option_and_then (λ d. slice_get d.cons p.1) (fam_decl g p.0)) o) 0) p
            ∙ (ap (λ o. option_map_or (λ c. length c.args) (option_and_then (λ d. slice_get d.cons i) o) 0) f
            ∙ ap (λ o. option_map_or (λ c. length c.args) o 0) h);
      }

  at_below : {c : Context Term} {k d : ℕ} (is : IsAt g c k d) → k < length c
  at_below {c} {k} {d} is = slice_get_within c k is.entry is.stands

  branch-in_scope : (c : Context Term) (ss : List Solution) (b : Branch Term) → Realises g c ss (onto b.context []) b.values b.keep → BranchInScope g any_meta (length c) b
  branch-in_scope c ss b h =
      let n : length (onto b.context []) ≡ length b.context = length-onto b.context [] ∙ omega arith in
      record {
        context = (well_formed-in_scope g b.context [] h.formed).0;
        values = transport (λ n. AllByRecursion (λ t. InScope g any_meta n t) b.values) n (fits-in_scope g h.fits);
        keep = all_of (λ i. i < length c) b.keep (λ j k e. let w = slice_get_within b.values k _ (h.joins.kept j k e) in let l = fits-length h.fits in omega (arith, w, l));
      }

  mutual
    pub tree-in_scope : {c : Context Term} {T : Tree Term} {a l : Term} → TypedTree g c T a l → TreeInScope g any_meta (length c) T
    tree-in_scope (Y.leaf h) = typing-in_scope g h
    tree-in_scope {c = c} (Y.intro {T = T} k h) = transport (λ n. TreeInScope g any_meta n T) (let e : suc (length c) ≡ length c + 1 = omega arith in e) (tree-in_scope h)
    tree-in_scope (Y.cosplit d ps f r n k h) = fields-in_scope h (λ i k e. field_below k (d, i) (field-place g d i k (slice_get_within (fields_of g d) i k e) e))
    tree-in_scope (Y.split {k = k} {d = d} is can h) = (at_below is, branches-in_scope h (at_below is) (λ i k con e f. its_con d is.decl is.is_decl i k con e f))
    tree-in_scope {c = c} (Y.record_split {T = T} {a = a} {l = l} {k = k} {d = d} n is eta place h) =
        let e : field_count g d ≡ length is.decl.fields = ap (λ o. option_map_or (λ d. length d.fields) o 0) is.is_decl in
        let m : length (con_context (splitting is a l) n is.decl.fields) ≡ length c + field_count g d - 1 = length-con_context (splitting is a l) n is.decl.fields (at_below is) ∙ ap (λ m. length c + m - 1) (sym e) in
        (at_below is, slice_get_within (fams g) d is.decl is.is_decl, transport (λ n. TreeInScope g any_meta n T) m (tree-in_scope h))
    tree-in_scope (Y.absurd_split is can h) = at_below is

    fields-in_scope : {c : Context Term} {l : Term} {r : List Term} {fs : List ℕ} {es : Telescope Term} {bs : CoBranches Term} → TypedFields g c l r fs es bs
        → ((i k : ℕ) → slice_get fs i ≡ Some k → k < sum (field_counts g)) → CoBranchesInScope g any_meta (length c) bs
    fields-in_scope Y.no_field p = tt
    fields-in_scope (Y.on_field {f = f} h hs) p = (p 0 f refl, tree-in_scope h, fields-in_scope hs (λ i. p (suc i)))

    branches-in_scope : {s : Splitting} {ks : List ℕ} {cons : List (ConDecl Term)} {bs : ConBranches Term} → TypedBranches g s ks cons bs → s.var < length s.context
        → ((i k : ℕ) (con : ConDecl Term) → slice_get ks i ≡ Some k → slice_get cons i ≡ Some con → IsItsCon k con) → ConBranchesInScope g any_meta (length s.context) bs
    branches-in_scope Y.no_con b p = tt
    branches-in_scope (Y.refuted {k = k} {con = con} r hs) b p = ((p 0 k con refl refl).below, branches-in_scope hs b (λ i. p (suc i)))
    branches-in_scope (Y.goes {s = s} {k = k} {con = con} {b = br} {T = T} {ss = ss} q r h hs) b p =
        let is = p 0 k con refl refl in
        let n : length (con_context s k con.args) ≡ length s.context + arg_count g k - 1 = length-con_context s k con.args b ∙ ap (λ m. length s.context + m - 1) (sym is.as_many) in
        let m : length (onto br.context []) ≡ length br.context = length-onto br.context [] ∙ omega arith in (
          is.below,
          transport (λ n. BranchInScope g any_meta n br) n (branch-in_scope (con_context s k con.args) ss br r),
          transport (λ n. TreeInScope g any_meta n T) m (tree-in_scope h),
          branches-in_scope hs b (λ i. p (suc i)),
        )

good-in_scope : (g : Signature Term) (d : Decl Term) → Good g d → DeclInScope g any_meta d
good-in_scope g (Postulate x a) (D.postulate h) = typing-in_scope g h.holds
good-in_scope g (Family d) (D.family h) = family-in_scope g d h
good-in_scope g (Open x a) h = elim h [ ]
good-in_scope g (Function x a qs T) (D.function h t) = (typing-in_scope g h.holds, tree-in_scope (g ++ Open x a ∷ []) t)

-- a derivable signature is in scope
pub derivable-in_scope : (g : Signature Term) → Derivable g → SignatureInScope g any_meta
derivable-in_scope g r i d e = good-in_scope (take i g) d (r.good i d e)
