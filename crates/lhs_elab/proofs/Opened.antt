-- The context of a constructor, by the entries outside and inside the variable for which it is put.
use Rattle.std.proofs.Common.{◌≡◌, ◌<◌, ℕ, suc, ◌+◌, List, [], ◌∷◌, ◌++◌, length, map, refl, ap, ap₂, sym, ◌∙◌, arith}
use Rattle.std.specs.Prelude.{reverse}
use Rattle.std.specs.List.{AllByRecursion}
use Rattle.std.proofs.lemmas.List.{length-map, length-append}
use Rattle.el_base.proofs.Lists.{map-reverse}
use Rattle.core_rules.specs.Term.{Term}
use Rattle.core_rules.specs.Substitution.{under}
use Rattle.core_rules.specs.Signature.{Entry, Telescope, Context, onto}
use Rattle.core_rules.specs.Mapped.{AllEntries, entry_map, telescope_map}
use Rattle.core_rules.specs.Elimination.{Elim, Arg, args}
use Rattle.core_rules.specs.TypedTree.{entries_under, into, new_con, opened}
use Rattle.term_pool.specs.Pool.{Pool, Extends, tree}
use Rattle.term_pool.specs.Growth.{Extends-trans, Extends-tree}
use Rattle.term_pool.specs.Placed.{items-stay}
use Rattle.declared_types.proofs.Grown.{telescope-stays}
use Rattle.index_unify.specs.Unified.{context_in}
use Rattle.lhs_elab.specs.Opening.{inner_under}
use Rattle.lhs_elab.proofs.Contexts.{onto-length}

pub onto-append : (xs ys : Telescope Term) (c : Context Term) → onto (xs ++ ys) c ≡ onto ys (onto xs c)
onto-append [] ys c = refl
onto-append (x ∷ xs) ys c = onto-append xs ys (x ∷ c)

pub entries-length : (r : List Term) (i : ℕ) (es : Telescope Term) → length (entries_under r i es) ≡ length es
entries-length r i [] = refl
entries-length r i (e ∷ es) = ap suc (entries-length r (suc i) es)

pub inner-length : (u : Term) (m outer i : ℕ) (es : Telescope Term) → length (inner_under u m outer i es) ≡ length es
inner-length u m outer i [] = refl
inner-length u m outer i (e ∷ es) = ap suc (inner-length u m outer (suc i) es)

module _ (u : Term) (es : Telescope Term) (outer : ℕ) where
  opened-past : (i : ℕ) (xs : Telescope Term) (c d : Context Term) → length c ≡ outer + 1 + i → opened i u es c ≡ d → opened (length xs + i) u es (onto xs c) ≡ onto (inner_under u (length es) outer i xs) d
  opened-past i [] c d n h = let z : length {A = Entry Term} [] + i ≡ i = omega arith in ap (λ (k : ℕ). opened k u es c) z ∙ h
  opened-past i (x ∷ xs) c d n h =
      let m : length (x ∷ xs) + i ≡ length xs + suc i = omega arith in
      let l : length (x ∷ c) ≡ outer + 1 + suc i = omega (arith, n) in
      let one : opened (suc i) u es (x ∷ c) ≡ entry_map (under (into i (outer + 1 + i) (length es) u)) x ∷ d =
      ap₂ (λ (k : ℕ) (b : Context Term). entry_map (under (into i k (length es) u)) x ∷ b) n h in
      ap (λ (k : ℕ). opened k u es (onto xs (x ∷ c))) m ∙ opened-past (suc i) xs (x ∷ c) (entry_map (under (into i (outer + 1 + i) (length es) u)) x ∷ d) l one

  pub opened-whole : (xs : Telescope Term) (e : Entry Term) (c : Context Term) → length c ≡ outer → opened (length xs) u es (onto xs (e ∷ c)) ≡ onto (inner_under u (length es) outer 0 xs) (onto es c)
  opened-whole xs e c n =
      let m : length xs ≡ length xs + 0 = omega arith in
      let l : length (e ∷ c) ≡ outer + 1 + 0 = omega (arith, n) in
      ap (λ (k : ℕ). opened k u es (onto xs (e ∷ c))) m ∙ opened-past 0 xs (e ∷ c) (onto es c) l refl

-- arguments are given as their entries are, whatever types these have
pub args-same : (f k : ℕ → Term) (es : List (Entry ℕ)) (ts : List Term) → args (telescope_map f es) ts ≡ args (telescope_map k es) ts
args-same f k [] ts = refl
args-same f k (e ∷ es) [] = refl
args-same f k (e ∷ es) (t ∷ ts) = ap (λ (ys : List Elim). Arg e.flag t ∷ ys) (args-same f k es ts)

-- the entries as code has made them, in pools that grow
module _ (p s q r : Pool) (e : Extends p s) (f : Extends s q) (g : Extends q r) (con : ℕ) (outer inner given there all : List (Entry ℕ)) (params turned : List ℕ) (term new count : ℕ)
    (bo : AllEntries (λ t. t < length p.trees) outer) (bi : AllEntries (λ t. t < length p.trees) inner) (bg : AllEntries (λ t. t < length p.trees) given) (bp : AllByRecursion (λ t. t < length p.trees) params)
    (n : count ≡ length outer) (m : new ≡ length given) (t : turned ≡ reverse params) (l : term < length s.trees) (u : tree s term ≡ new_con con (map (tree p) params) (telescope_map (tree p) given))
    (is : telescope_map (tree q) there ≡ telescope_map (tree s) outer ++ entries_under (map (tree s) turned) 0 (telescope_map (tree s) given))
    (ia : telescope_map (tree r) all ≡ telescope_map (tree q) there ++ inner_under (tree q term) new count 0 (telescope_map (tree q) inner)) where
  abbrev A : Telescope Term
  A = telescope_map (tree p) outer

  abbrev E : Telescope Term
  E = entries_under (reverse (map (tree p) params)) 0 (telescope_map (tree p) given)

  abbrev U : Term
  U = new_con con (map (tree p) params) (telescope_map (tree p) given)

  abbrev N : Telescope Term
  N = inner_under U new count 0 (telescope_map (tree p) inner)

  all-entries : telescope_map (tree r) all ≡ (A ++ E) ++ N
  all-entries =
      let ps : map (tree s) turned ≡ reverse (map (tree p) params) = ap (map (tree s)) t ∙ (map-reverse (tree s) params ∙ ap reverse (items-stay p s params e bp)) in
      let one : telescope_map (tree q) there ≡ A ++ E =
      is ∙ ap₂ (λ (xs ys : Telescope Term). xs ++ ys) (telescope-stays p s outer e bo) (ap₂ (λ (us : List Term) (xs : Telescope Term). entries_under us 0 xs) ps (telescope-stays p s given e bg)) in
      let two : inner_under (tree q term) new count 0 (telescope_map (tree q) inner) ≡ N =
      ap₂ (λ (v : Term) (xs : Telescope Term). inner_under v new count 0 xs) (Extends-tree term f l ∙ u) (telescope-stays p q inner (Extends-trans e f) bi) in
      ia ∙ ap₂ (λ (xs ys : Telescope Term). xs ++ ys) one two

  pub all-long : length all ≡ length outer + length given + length inner
  all-long =
      let a : length (telescope_map (tree r) all) ≡ length ((A ++ E) ++ N) = ap (λ (xs : Telescope Term). length xs) all-entries in
      omega (
        arith,
        a,
        length-map all (entry_map (tree r)),
        length-append (A ++ E) N,
        length-append A E,
        length-map outer (entry_map (tree p)),
        length-map given (entry_map (tree p)),
        length-map inner (entry_map (tree p)),
        entries-length (reverse (map (tree p) params)) 0 (telescope_map (tree p) given),
        inner-length U new count 0 (telescope_map (tree p) inner),
      )

  pub all-context : (x : Entry Term) → context_in r all ≡ opened (length inner) U E (onto (telescope_map (tree p) inner) (x ∷ context_in p outer))
  all-context x =
      let i : length (telescope_map (tree p) inner) ≡ length inner = length-map inner (entry_map (tree p)) in
      let o : length (onto A []) ≡ count = omega (arith, onto-length A [], length-map outer (entry_map (tree p)), n) in
      let j : length E ≡ new = omega (arith, entries-length (reverse (map (tree p) params)) 0 (telescope_map (tree p) given), length-map given (entry_map (tree p)), m) in
      ap (λ (xs : Telescope Term). onto xs []) all-entries
      ∙ (onto-append (A ++ E) N [] ∙ (ap (onto N) (onto-append A E [])
      ∙ (ap (λ (k : ℕ). onto (inner_under U k count 0 (telescope_map (tree p) inner)) (onto E (onto A []))) (sym j)
      ∙ (sym (opened-whole U E count (telescope_map (tree p) inner) x (onto A []) o)
      ∙ ap (λ (k : ℕ). opened k U E (onto (telescope_map (tree p) inner) (x ∷ onto A []))) i))))
