-- What becomes of the variables of a constructor's context in its branch.
use Rattle.std.proofs.Common.{◌≡◌, ◌<◌, ℕ, zero, suc, ◌+◌, ◌-◌, List, [], ◌∷◌, length, map, Some, refl, ap, ap₂, sym, ◌∙◌, arith}
use Rattle.std.specs.Prelude.{Bool, true, false, Option, None, slice_get, get_or, option_map, eqb, cond}
use Rattle.std.proofs.lemmas.List.{length-map}
use Rattle.core_rules.specs.Term.{Term}
use Rattle.core_rules.specs.Substitution.{shift, under, value_at}
use Rattle.core_rules.specs.Signature.{Entry, Context, Branch}
use Rattle.core_rules.specs.Mapped.{branch_map, entry_map, telescope_map}
use Rattle.core_rules.specs.Unification.{whole_types}
use Rattle.term_pool.specs.Pool.{Pool, tree}
use Rattle.index_unify.specs.Unified.{context_in}
use Rattle.cover_rules.specs.LeftSide.{place_of}
use Rattle.lhs_rules.specs.Spots.{AtValue, AtVar, branch_spot, kept_spot, index_of}
use Rattle.lhs_elab.proofs.Contexts.{context-length, entry-at}

suc-some : (o : Option ℕ) (j n : ℕ) → ((i : ℕ) → o ≡ Some i → i < n) → option_map suc o ≡ Some j → j < suc n
suc-some None j n f h = absurd (cc h)
suc-some (Some i) j n f h = let e : suc i ≡ j = cc h in omega (arith, f i refl, e)

first-or : (b : Bool) (o : Option ℕ) (j n : ℕ) → ((i : ℕ) → o ≡ Some i → i < n) → cond b (Some 0) (option_map suc o) ≡ Some j → j < suc n
first-or true o j n f h = let e : 0 ≡ j = cc h in omega (arith, e)
first-or false o j n f h = suc-some o j n f h

-- a place is one of those that are kept
pub place-within : (x : ℕ) (ks : List ℕ) (j : ℕ) → place_of x ks ≡ Some j → j < length ks
place-within x [] j h = absurd (cc h)
place-within x (k ∷ ks) j h = first-or (eqb x k) (place_of x ks) j (length ks) (place-within x ks) h

whole-at : (n : ℕ) (c : Context Term) (i m : ℕ) (x : Entry Term) → m ≡ n + i + 1 → slice_get c i ≡ Some x → value_at (whole_types n c) i ≡ shift x.ty 0 m
whole-at n [] i m x e h = absurd (cc h)
whole-at n (y ∷ c) zero m x e h = let k : n + 1 ≡ m = omega (arith, e) in let f : y ≡ x = cc h in ap₂ (λ (z : Entry Term) (j : ℕ). shift z.ty 0 j) f k
whole-at n (y ∷ c) (suc i) m x e h = whole-at (n + 1) c i m x (omega (arith, e)) h

-- the type of the variable outside which there are i entries, in the whole context
pub whole-type : (p : Pool) (es : List (Entry ℕ)) (i m : ℕ) (x : Entry ℕ) → i < length es → m ≡ length es - i → x ≡ get_or es i x → value_at (whole_types 0 (context_in p es)) (index_of (context_in p es) i) ≡ shift (tree p x.ty) 0 m
whole-type p es i m x l e h =
    let n : m ≡ 0 + index_of (context_in p es) i + 1 = omega (arith, e, l, context-length p es) in
    whole-at 0 (context_in p es) (index_of (context_in p es) i) m (entry_map (tree p) x) n (entry-at p es i x l h)

pub value-at-map : (f : ℕ → Term) (vs : List ℕ) (i v : ℕ) → i < length vs → v ≡ get_or vs i v → value_at (map f vs) i ≡ f v
value-at-map f [] i v l h = absurd (omega (arith, l))
value-at-map f (x ∷ vs) zero v l h = ap f (sym h)
value-at-map f (x ∷ vs) (suc i) v l h = value-at-map f vs i v (omega (arith, l)) h

module _ (p : Pool) (es : List (Entry ℕ)) (b : Branch ℕ) (level index : ℕ) (n : index ≡ length es - (level + 1)) where
  at-index : index_of (context_in p es) level ≡ index
  at-index = omega (arith, n, context-length p es)

  -- it is kept
  pub kept-there : (at j : ℕ) → Some at ≡ place_of index b.keep → j ≡ length b.context - 1 - at → AtVar j ≡ branch_spot (context_in p es) (branch_map (tree p) b) level
  kept-there at j h e =
      let k : j ≡ length (telescope_map (tree p) b.context) - (at + 1) = omega (arith, e, length-map b.context (entry_map (tree p))) in
      ap AtVar k ∙ (ap (kept_spot (context_in p es) (branch_map (tree p) b) index) h ∙ ap (λ (i : ℕ). kept_spot (context_in p es) (branch_map (tree p) b) i (place_of i b.keep)) (sym at-index))

  -- it has a value
  pub value-there : (q : Pool) (v t outer : ℕ) → None ≡ place_of index b.keep → tree q v ≡ value_at (map (tree p) b.values) index
      → tree q t ≡ under (map (tree p) b.values) (value_at (whole_types 0 (context_in p es)) (index_of (context_in p es) level)) → outer ≡ length b.context
      → AtValue (record { value = tree q v; ty = tree q t; outer = outer }) ≡ branch_spot (context_in p es) (branch_map (tree p) b) level
  value-there q v t outer h iv it o =
      let k : outer ≡ length (telescope_map (tree p) b.context) = o ∙ sym (length-map b.context (entry_map (tree p))) in
      let s : AtValue (record { value = tree q v; ty = tree q t; outer = outer }) ≡ kept_spot (context_in p es) (branch_map (tree p) b) index None =
      cc (iv, it, k, at-index) in
      s ∙ (ap (kept_spot (context_in p es) (branch_map (tree p) b) index) h ∙ ap (λ (i : ℕ). kept_spot (context_in p es) (branch_map (tree p) b) i (place_of i b.keep)) (sym at-index))
