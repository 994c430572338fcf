-- Contexts over a pool, and the types of their entries.
use Rattle.std.proofs.Common.{sym, ◌≡◌, ◌<◌, ℕ, zero, suc, ◌+◌, ◌-◌, List, [], ◌∷◌, ◌++◌, length, Some, refl, ap, ◌∙◌, arith}
use Rattle.std.specs.Prelude.{slice_get, get_or, reverse}
use mathlib.Core.List.{reverse_aux}
use Rattle.std.proofs.lemmas.List.{length-map, map-append, reverse-reverse}
use Rattle.core_rules.specs.Term.{Term}
use Rattle.core_rules.specs.Signature.{Entry, Context, onto}
use Rattle.core_rules.specs.Mapped.{entry_map, telescope_map}
use Rattle.core_rules.specs.Substitution.{value_at}
use Rattle.term_pool.specs.Pool.{Pool, tree}
use Rattle.index_unify.specs.Unified.{context_in}
use Rattle.lhs_rules.specs.Spots.{own_types, type_at, AtVar}

onto-push : (es : List (Entry Term)) (x : Entry Term) (c : Context Term) → onto (es ++ x ∷ []) c ≡ x ∷ onto es c
onto-push [] x c = refl
onto-push (y ∷ es) x c = onto-push es x (y ∷ c)

pub context-push : (p : Pool) (es : List (Entry ℕ)) (x : Entry ℕ) → context_in p (es ++ x ∷ []) ≡ entry_map (tree p) x ∷ context_in p es
context-push p es x = ap (λ (ts : List (Entry Term)). onto ts []) (map-append (entry_map (tree p)) es (x ∷ [])) ∙ onto-push (telescope_map (tree p) es) (entry_map (tree p) x) []

pub onto-length : (es : List (Entry Term)) (c : Context Term) → length (onto es c) ≡ length es + length c
onto-length [] c = omega arith
onto-length (e ∷ es) c = let h = onto-length es (e ∷ c) in omega (arith, h)

pub context-length : (p : Pool) (es : List (Entry ℕ)) → length (context_in p es) ≡ length es
context-length p es = let h = onto-length (telescope_map (tree p) es) [] in omega (arith, h, length-map es (entry_map (tree p)))

onto-past : (es : List (Entry Term)) (c : Context Term) (i : ℕ) (x : Entry Term) → slice_get c i ≡ Some x → slice_get (onto es c) (i + length es) ≡ Some x
onto-past [] c i x h = let e : i + 0 ≡ i = omega arith in ap (slice_get c) e ∙ h
onto-past (e ∷ es) c i x h = let n : i + length (e ∷ es) ≡ suc i + length es = omega arith in ap (slice_get (onto es (e ∷ c))) n ∙ onto-past es (e ∷ c) (suc i) x h

onto-at : (es : List (Entry Term)) (c : Context Term) (j : ℕ) (x : Entry Term) → slice_get es j ≡ Some x → slice_get (onto es c) (length es - (j + 1)) ≡ Some x
onto-at [] c j x h = absurd (cc h)
onto-at (e ∷ es) c zero x h = let n : length (e ∷ es) - (0 + 1) ≡ 0 + length es = omega arith in ap (slice_get (onto es (e ∷ c))) n ∙ onto-past es (e ∷ c) 0 x h
onto-at (e ∷ es) c (suc j) x h = let n : length (e ∷ es) - (suc j + 1) ≡ length es - (j + 1) = omega arith in ap (slice_get (onto es (e ∷ c))) n ∙ onto-at es (e ∷ c) j x h

types-at : (c : Context Term) (i : ℕ) (x : Entry Term) → slice_get c i ≡ Some x → value_at (own_types c) i ≡ x.ty
types-at [] i x h = absurd (cc h)
types-at (e ∷ c) zero x h = cc
types-at (e ∷ c) (suc i) x h = types-at c i x h

entries-at : (f : ℕ → Term) (es : List (Entry ℕ)) (i : ℕ) (x : Entry ℕ) → i < length es → x ≡ get_or es i x → slice_get (telescope_map f es) i ≡ Some (entry_map f x)
entries-at f [] i x l h = absurd (omega (arith, l))
entries-at f (e ∷ es) zero x l h = ap (λ (y : Entry ℕ). Some (entry_map f y)) (sym h)
entries-at f (e ∷ es) (suc i) x l h = entries-at f es i x (omega (arith, l)) h

-- the entry of the variable outside which there are i entries
pub entry-at : (p : Pool) (es : List (Entry ℕ)) (i : ℕ) (x : Entry ℕ) → i < length es → x ≡ get_or es i x → slice_get (context_in p es) (length (context_in p es) - (i + 1)) ≡ Some (entry_map (tree p) x)
entry-at p es i x l h =
    let n : length (context_in p es) - (i + 1) ≡ length (telescope_map (tree p) es) - (i + 1) = omega (arith, context-length p es, length-map es (entry_map (tree p))) in
    ap (slice_get (context_in p es)) n ∙ onto-at (telescope_map (tree p) es) [] i (entry_map (tree p) x) (entries-at (tree p) es i x l h)

-- its type
pub own-type : (p : Pool) (es : List (Entry ℕ)) (i : ℕ) (x : Entry ℕ) → i < length es → x ≡ get_or es i x → type_at (context_in p es) (AtVar i) ≡ tree p x.ty
own-type p es i x l h = types-at (context_in p es) (length (context_in p es) - (i + 1)) (entry_map (tree p) x) (entry-at p es i x l h)

onto-reversed : (es : List (Entry Term)) (c : Context Term) → onto es c ≡ reverse_aux es c
onto-reversed [] c = refl
onto-reversed (e ∷ es) c = onto-reversed es (e ∷ c)

-- the outermost entry first
pub context-back : (p : Pool) (es : List (Entry ℕ)) → reverse (context_in p es) ≡ telescope_map (tree p) es
context-back p es = ap reverse (onto-reversed (telescope_map (tree p) es) []) ∙ reverse-reverse (telescope_map (tree p) es)
