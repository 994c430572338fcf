-- The record that a head form is, by what code looks up of it.
use Rattle.std.proofs.Common.{◌≡◌, ◌<◌, ◌≤◌, ◌+◌, ◌-◌, ℕ, Bool, true, false, List, [], ◌∷◌, ◌++◌, length, drop, get_or, length-append, zero, suc, refl, sym, ap, ◌∙◌, arith}
use Rattle.el_base.proofs.Lists.{drop_next}
use Rattle.std.proofs.lemmas.Grind.{reverse_onto}
use Rattle.std.specs.Prelude.{◌&&◌, cond, eqb, reverse, slice_get, Option, Some, None, option_map, option_and_then}
use Rattle.core_rules.specs.Term.{Term}
use Rattle.std.specs.List.{list_all}
use Rattle.std.proofs.lemmas.List.{length-map}
use Rattle.core_rules.specs.Signature.{Entry, FamDecl, Signature, Telescope, fams, fam_decl, cons_of, ids_of}
use Rattle.core_rules.specs.Elimination.{Elim}
use Rattle.core_rules.specs.Mapped.{entry_map, fam_map, telescope_map}
use Rattle.core_rules.proofs.Heads.Mapped.{con_counts-map}
use Rattle.term_pool.specs.Pool.{Pool, tree}
use Rattle.core_terms.specs.Signature.{signature_in}
use Rattle.kernel_rules.specs.TermReading.{arguments_for}
use Rattle.declared_types.proofs.Fields.{fam_below}
use Rattle.declared_types.proofs.Grown.{fam_in}
use Rattle.written_rules.specs.Rules.{AtRecord, record_at}
use Rattle.elab_machine.specs.Records.{fields_of}

module _ (p : Pool) (g : Signature ℕ) (d : ℕ) (es : List Elim) where
  abbrev known : Signature Term
  known = signature_in p g

  abbrev with_con : FamDecl Term → ℕ → Option AtRecord
  with_con x k = cond x.is_record (option_map (λ ps. record { con = k; params = ps; fields = x.fields }) (arguments_for x.params es)) None

  abbrev by_decl : FamDecl Term → Option AtRecord
  by_decl x = option_and_then (with_con x) (slice_get (cons_of known d) 0)

  pub no_family : length (fams g) ≤ d → record_at known d es ≡ None
  no_family l = of (fam_decl known d) refl
    where
      of : (o : Option (FamDecl Term)) → fam_decl known d ≡ o → option_and_then by_decl (fam_decl known d) ≡ None
      of None e = ap (option_and_then by_decl) e
      of (Some x) e = absurd (omega (arith, l, fam_below p g d x e))

  module _ (x : FamDecl ℕ) (is : fam_decl g d ≡ Some x) where
    abbrev decl : FamDecl Term
    decl = fam_map (tree p) x

    at_decl : record_at known d es ≡ by_decl decl
    at_decl = ap (option_and_then by_decl) (fam_in p g d x is)

    cons_same : cons_of known d ≡ cons_of g d
    cons_same = ap (λ (ns : List ℕ). ids_of ns d) (con_counts-map (tree p) g)

    none_then : {A : Type 0} (f : ℕ → Option A) (o : Option ℕ) → ((k : ℕ) → f k ≡ None) → option_and_then f o ≡ None
    none_then f None h = refl
    none_then f (Some k) h = h k

    pub no_record : x.is_record ≡ false → record_at known d es ≡ None
    no_record e = at_decl ∙ none_then (with_con decl) (slice_get (cons_of known d) 0) (λ k. ap (λ b. cond b (option_map (λ ps. record { con = k; params = ps; fields = decl.fields }) (arguments_for decl.params es)) None) e)

    pub no_con : cons_of g d ≡ [] → record_at known d es ≡ None
    no_con e = at_decl ∙ ap (λ (ks : List ℕ). option_and_then (with_con decl) (slice_get ks 0)) (cons_same ∙ e)

    pub no_arguments : arguments_for decl.params es ≡ None → record_at known d es ≡ None
    no_arguments e = at_decl ∙ none_then (with_con decl) (slice_get (cons_of known d) 0) (λ k. ap (λ o. cond decl.is_record (option_map (λ ps. record { con = k; params = ps; fields = decl.fields }) o) None) e ∙ of k decl.is_record)
      where
        of : (k : ℕ) (b : Bool) → ◌≡◌ {A = Option AtRecord} (cond b (option_map (λ (ps : List Term). record { con = k; params = ps; fields = decl.fields }) None) None) None
        of k true = refl
        of k false = refl

    pub at_fields : fields_of known d ≡ decl.fields
    at_fields = ap (λ o. Rattle.std.specs.Option.option_map_or (λ (e : FamDecl Term). e.fields) o []) (fam_in p g d x is)

    pub is_at : (k : ℕ) (ks : List ℕ) (ps : List Term) → x.is_record ≡ true → cons_of g d ≡ k ∷ ks → arguments_for decl.params es ≡ Some ps → record_at known d es ≡ Some (record { con = k; params = ps; fields = fields_of known d })
    is_at k ks ps r c a =
        at_decl ∙ ap (λ (ks : List ℕ). option_and_then (with_con decl) (slice_get ks 0)) (cons_same ∙ c)
        ∙ ap (λ b. cond b (option_map (λ ps. record { con = k; params = ps; fields = decl.fields }) (arguments_for decl.params es)) None) r
        ∙ ap (option_map (λ ps. record { con = k; params = ps; fields = decl.fields })) a
        ∙ ap (λ (fs : Telescope Term). Some (record { con = k; params = ps; fields = fs })) (sym at_fields)

-- names and their number are those of the entries over ids
names-all : (f : ℕ → Term) (q : ℕ → Bool) (es : List (Entry ℕ)) → list_all (λ e. q e.name) (telescope_map f es) ≡ list_all (λ e. q e.name) es
names-all f q [] = refl
names-all f q (e ∷ es) = ap (λ b. q e.name && b) (names-all f q es)

pub all-named : (f : ℕ → Term) (q : ℕ → Bool) (n : ℕ) (es : List (Entry ℕ)) (ts : Telescope Term) → telescope_map f es ≡ ts → (eqb n (length es) && list_all (λ e. q e.name) es) ≡ (eqb n (length ts) && list_all (λ e. q e.name) ts)
all-named f q n es ts t =
    let count : length es ≡ length ts = sym (length-map es (entry_map f)) ∙ ap length t in
    let all : list_all (λ e. q e.name) es ≡ list_all (λ e. q e.name) ts = sym (names-all f q es) ∙ ap (list_all (λ e. q e.name)) t in
    ap (λ k. eqb n k && list_all (λ e. q e.name) es) count ∙ ap (λ b. eqb n (length ts) && b) all

dropped : (k : ℕ) (xs ys : List ℕ) → k ≤ length xs → drop k (xs ++ ys) ≡ drop k xs ++ ys
dropped zero xs ys l = refl
dropped (suc k) [] ys l = absurd (omega (arith, l))
dropped (suc k) (x ∷ xs) ys l = dropped k xs ys (omega (arith, l))

-- one term more, the last of those that are left
pub env-next : (room left filler : ℕ) (ts env new : List ℕ) (t : ℕ) → 0 < left → left ≤ length ts → t ≡ get_or ts (left - 1) t → new ≡ env ++ t ∷ [] → length env ≡ room + length (drop left ts) → drop room env ≡ reverse (drop left ts)
    → (length new ≡ room + length (drop (left - 1) ts)) × (drop room new ≡ reverse (drop (left - 1) ts))
env-next room left filler ts env new t pos within is pushed count h =
    let lt : left - 1 < length ts = omega (arith, pos, within) in
    let next : left - 1 + 1 ≡ left = omega (arith, pos) in
    let one : drop (left - 1) ts ≡ t ∷ drop left ts = drop_next ts (left - 1) t lt is ∙ ap (λ k. t ∷ drop k ts) next in
    let short : room ≤ length env = omega (arith, count) in (
      ap length pushed ∙ length-append env (t ∷ []) ∙ omega (arith, count, ap length one),
      ap (drop room) pushed ∙ dropped room env (t ∷ []) short ∙ ap (λ us. us ++ t ∷ []) h ∙ sym (reverse_onto (drop left ts) t []) ∙ ap reverse (sym one),
    )
