-- The split of a variable of the left side, or of a new one.
use Rattle.std.proofs.Common.{◌≡◌, ◌<◌, ◌≤◌, ℕ, zero, suc, ◌+◌, ◌-◌, List, [], ◌∷◌, ◌++◌, length, map, take, drop, refl, ap, ap₂, sym, ◌∙◌, arith}
use Rattle.std.specs.Prelude.{reverse}
use Rattle.std.proofs.lemmas.List.{length-map, map-append}
use Rattle.std.proofs.Math.Seq.{take-length}
use Rattle.std.specs.List.{AllByRecursion}
use Rattle.core_rules.specs.Term.{Term}
use Rattle.core_rules.specs.Signature.{ConDecl, Entry, Telescope, Context, Signature, onto}
use Rattle.core_rules.specs.Mapped.{entry_map, telescope_map}
use Rattle.core_rules.specs.Substitution.{shift, under}
use Rattle.core_rules.specs.TypedTree.{Splitting, con_context, entries_under, equations, index_equations, new_con, opened, vars}
use Rattle.term_pool.specs.Pool.{Pool, Extends, tree}
use Rattle.term_pool.specs.Placed.{items-stay}
use Rattle.index_unify.specs.Unified.{context_in}
use Rattle.lhs_rules.specs.Families as R
use Rattle.lhs_rules.specs.Spots.{AtCon, AtValue, AtVar, Spot}
use Rattle.lhs_rules.specs.Rules.{absurd_split, split_at}
use Rattle.lhs_elab.specs.declared.families.AtFamily.{AtFamily}
use Rattle.lhs_elab.specs.declared.left.Left.{Left as CodeLeft}
use Rattle.lhs_elab.specs.Asked.{IsSplit}
use Rattle.lhs_elab.specs.Families.{IsAt}
use Rattle.lhs_elab.specs.Lefts.{left_in}
use Rattle.lhs_elab.proofs.Contexts.{context-length, onto-length}
use Rattle.lhs_elab.proofs.Growing.{context-stays}
use Rattle.lhs_elab.proofs.Opened.{onto-append}
use Rattle.declared_types.proofs.Grown.{telescope-stays}

-- ---- parts of lists

pub take-map : {A B : Type 0} (f : A → B) (n : ℕ) (xs : List A) → take n (map f xs) ≡ map f (take n xs)
take-map f zero xs = refl
take-map f (suc n) [] = refl
take-map f (suc n) (x ∷ xs) = ap (λ ys. f x ∷ ys) (take-map f n xs)

pub drop-map : {A B : Type 0} (f : A → B) (n : ℕ) (xs : List A) → drop n (map f xs) ≡ map f (drop n xs)
drop-map f zero xs = refl
drop-map f (suc n) [] = refl
drop-map f (suc n) (x ∷ xs) = drop-map f n xs

pub drop-length : {A : Type 0} (n : ℕ) (xs : List A) → length (drop n xs) ≡ length xs - n
drop-length zero xs = omega arith
drop-length (suc n) [] = omega arith
drop-length (suc n) (x ∷ xs) = let h = drop-length n xs in omega (arith, h)

all-taken : {A : Type 0} (P : A → Type 0) (n : ℕ) (xs : List A) → AllByRecursion P xs → AllByRecursion P (take n xs)
all-taken P zero xs a = tt
all-taken P (suc n) [] a = tt
all-taken P (suc n) (x ∷ xs) a = (a.0, all-taken P n xs a.1)

all-dropped : {A : Type 0} (P : A → Type 0) (n : ℕ) (xs : List A) → AllByRecursion P xs → AllByRecursion P (drop n xs)
all-dropped P zero xs a = a
all-dropped P (suc n) [] a = tt
all-dropped P (suc n) (x ∷ xs) a = all-dropped P n xs a.1

module _ (n : ℕ) where
  pub ids-taken : (k : ℕ) (ids : List ℕ) → AllByRecursion (λ t. t < n) ids → AllByRecursion (λ t. t < n) (take k ids)
  ids-taken k ids a = all-taken (λ t. t < n) k ids a

  pub ids-dropped : (k : ℕ) (ids : List ℕ) → AllByRecursion (λ t. t < n) ids → AllByRecursion (λ t. t < n) (drop k ids)
  ids-dropped k ids a = all-dropped (λ t. t < n) k ids a

  pub entries-taken : (k : ℕ) (es : List (Entry ℕ)) → AllByRecursion (λ (e : Entry ℕ). e.ty < n) es → AllByRecursion (λ (e : Entry ℕ). e.ty < n) (take k es)
  entries-taken k es a = all-taken (λ (e : Entry ℕ). e.ty < n) k es a

  pub entries-dropped : (k : ℕ) (es : List (Entry ℕ)) → AllByRecursion (λ (e : Entry ℕ). e.ty < n) es → AllByRecursion (λ (e : Entry ℕ). e.ty < n) (drop k es)
  entries-dropped k es a = all-dropped (λ (e : Entry ℕ). e.ty < n) k es a

-- ---- the split in code is that of the rules

head-of : (es : List (Entry ℕ)) (k : ℕ) → k < length es → (x : Entry ℕ) × (es ≡ take k es ++ x ∷ drop (suc k) es)
head-of [] k l = absurd (omega (arith, l))
head-of (e ∷ es) zero l = (e, refl)
head-of (e ∷ es) (suc k) l = let h = head-of es k (omega (arith, l)) in (h.0, ap (λ ys. e ∷ ys) h.1)

past-end : (es : List (Entry ℕ)) → drop (suc (length es)) es ≡ []
past-end [] = refl
past-end (e ∷ es) = past-end es

module _ (p : Pool) where
  context-at : (es : List (Entry ℕ)) (k : ℕ) (x : Entry ℕ) → es ≡ take k es ++ x ∷ drop (k + 1) es → context_in p es ≡ onto (telescope_map (tree p) (drop (k + 1) es)) (entry_map (tree p) x ∷ context_in p (take k es))
  context-at es k x e =
      ap (context_in p) e ∙ (ap (λ (ts : Telescope Term). onto ts []) (map-append (entry_map (tree p)) (take k es) (x ∷ drop (k + 1) es))
      ∙ onto-append (telescope_map (tree p) (take k es)) (telescope_map (tree p) (x ∷ drop (k + 1) es)) [])

  module _ (g : Signature Term) (f : ℕ) (l : CodeLeft) (r : R.AtFamily) (a : AtFamily) (i : IsAt p g r a) where
    pub split-var : (k : ℕ) → k < length l.context.items → IsSplit p l.context.items k a (split_at f (left_in p l) k r)
    split-var k n =
        let h = head-of l.context.items k n in
        let m : suc k ≡ k + 1 = omega arith in
        record {
          entry = entry_map (tree p) h.0;
          context = context-at l.context.items k h.0 (h.1 ∙ ap (λ (j : ℕ). take k l.context.items ++ h.0 ∷ drop j l.context.items) m);
          var = ap (λ (m : ℕ). m - (k + 1)) (context-length p l.context.items);
          params = i.params;
          indices = i.indices;
        }

    split-new : (s : Spot) (e : Entry Term) → (t : Splitting) → t.context ≡ e ∷ context_in p l.context.items → t.var ≡ 0 → t.params ≡ r.params → t.indices ≡ r.indices → IsSplit p l.context.items (length l.context.items) a t
    split-new s e t c v ps is = record {
      entry = e;
      context =
          let j : suc (length l.context.items) ≡ length l.context.items + 1 = omega arith in
          c ∙ ap₂ (λ (xs ys : List (Entry ℕ)). onto (telescope_map (tree p) xs) (e ∷ context_in p ys)) (sym (past-end l.context.items) ∙ ap (λ (n : ℕ). drop n l.context.items) j) (sym (take-length l.context.items));
      var = let m : 0 ≡ length l.context.items - (length l.context.items + 1) = omega arith in v ∙ m;
      params = ps ∙ i.params;
      indices = is ∙ i.indices;
    }

    -- the split for `()`
    pub absurd-new : (s : Spot) → ((k : ℕ) → s ≡ AtVar k → ⊥) → IsSplit p l.context.items (length l.context.items) a (absurd_split f (left_in p l) r s)
    absurd-new (AtVar k) n = absurd (n k refl)
    absurd-new (AtValue v) n = split-new (AtValue v) _ _ refl refl refl refl
    absurd-new AtCon n = split-new AtCon _ _ refl refl refl refl

-- it stays as the pool grows
pub split-stays : (p q : Pool) (e : Extends p q) (es : List (Entry ℕ)) (k : ℕ) (a : AtFamily) (s : Splitting) → AllByRecursion (λ (x : Entry ℕ). x.ty < length p.trees) es → AllByRecursion (λ t. t < length p.trees) a.args.items
    → IsSplit p es k a s → IsSplit q es k a s
split-stays p q e es k a s b c i = record {
  entry = i.entry;
  context = i.context ∙ sym (ap₂ (λ (xs : Telescope Term) (ys : Context Term). onto xs (i.entry ∷ ys)) (telescope-stays p q (drop (k + 1) es) e (entries-dropped (length p.trees) (k + 1) es b)) (context-stays p q e (take k es) (entries-taken (length p.trees) k es b)));
  var = i.var;
  params = i.params ∙ ap (take a.params) (sym (items-stay p q a.args.items e c));
  indices = i.indices ∙ ap (drop a.params) (sym (items-stay p q a.args.items e c));
}

-- ---- its context and its equations

module _ (p : Pool) (es : List (Entry ℕ)) (k : ℕ) (a : AtFamily) (s : Splitting) (i : IsSplit p es k a s) where
  inner-count : s.var ≡ length (drop (k + 1) es)
  inner-count = i.var ∙ sym (drop-length (k + 1) es)

  pub params-of : s.params ≡ map (tree p) (take a.params a.args.items)
  params-of = i.params ∙ take-map (tree p) a.params a.args.items

  pub split-context : (con : ℕ) (given : Telescope Term) → opened (length (drop (k + 1) es)) (new_con con (map (tree p) (take a.params a.args.items)) given) (entries_under (reverse (map (tree p) (take a.params a.args.items))) 0 given)
      (onto (telescope_map (tree p) (drop (k + 1) es)) (i.entry ∷ context_in p (take k es))) ≡ con_context s con given
  split-context con given =
      sym (ap₂ (λ (n : ℕ) (ps : List Term). opened n (new_con con ps given) (entries_under (reverse ps) 0 given) s.context) inner-count params-of
      ∙ ap (opened (length (drop (k + 1) es)) (new_con con (map (tree p) (take a.params a.args.items)) given) (entries_under (reverse (map (tree p) (take a.params a.args.items))) 0 given)) i.context)

  pub split-equations : (c : ConDecl Term) (m inner : ℕ) → m ≡ length c.args → inner ≡ length es - (k + 1)
      → equations (map (λ t. shift (under (vars 0 m ++ map (λ u. shift u 0 m) (reverse (map (tree p) (take a.params a.args.items)))) t) 0 inner) c.indices) (map (λ t. shift t 0 (inner + m)) (map (tree p) (drop a.params a.args.items))) ≡ index_equations s c
  split-equations c m inner n o =
      let v : inner ≡ s.var = o ∙ sym i.var in
      let ix : map (tree p) (drop a.params a.args.items) ≡ s.indices = sym (i.indices ∙ drop-map (tree p) a.params a.args.items) in
      ap₂ (λ (m inner : ℕ). equations (map (λ t. shift (under (vars 0 m ++ map (λ u. shift u 0 m) (reverse (map (tree p) (take a.params a.args.items)))) t) 0 inner) c.indices) (map (λ t. shift t 0 (inner + m)) (map (tree p) (drop a.params a.args.items)))) n v
      ∙ ap₂ (λ (ps us : List Term). equations (map (λ t. shift (under (vars 0 (length c.args) ++ map (λ u. shift u 0 (length c.args)) (reverse ps)) t) 0 s.var) c.indices) (map (λ t. shift t 0 (s.var + length c.args)) us)) (sym params-of) ix

take-long : {A : Type 0} (n : ℕ) (xs : List A) → n ≤ length xs → length (take n xs) ≡ n
take-long zero xs l = refl
take-long (suc n) [] l = absurd (omega (arith, l))
take-long (suc n) (x ∷ xs) l = let h = take-long n xs (omega (arith, l)) in omega (arith, h)

pub split-long : (p : Pool) (es : List (Entry ℕ)) (k : ℕ) (a : AtFamily) (s : Splitting) → k < length es → IsSplit p es k a s → length s.context ≡ length es
split-long p es k a s l i =
    let c : length s.context ≡ length (onto (telescope_map (tree p) (drop (k + 1) es)) (i.entry ∷ context_in p (take k es))) = ap (λ (xs : Context Term). length xs) i.context in
    omega (arith, c, onto-length (telescope_map (tree p) (drop (k + 1) es)) (i.entry ∷ context_in p (take k es)), length-map (drop (k + 1) es) (entry_map (tree p)), drop-length (k + 1) es, context-length p (take k es), take-long k es (omega (arith, l)), l)
