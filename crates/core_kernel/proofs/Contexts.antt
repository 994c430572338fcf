-- Contexts over a pool: what stays as it grows, and what their places hold.
use Rattle.std.proofs.Common.{◌≡◌, ◌<◌, ◌≤◌, ℕ, zero, suc, ◌+◌, ◌-◌, List, [], ◌∷◌, ◌++◌, length, Some, refl, ap, ◌∙◌, arith}
use Rattle.std.specs.Prelude.{slice_get, option_map}
use Rattle.std.proofs.lemmas.List.{length-map, map-append}
use Rattle.std.proofs.lemmas.Option.{slice_get-map}
use Rattle.core_rules.specs.Term.{Term}
use Rattle.core_rules.specs.Signature.{Entry, Context, onto}
use Rattle.core_rules.specs.Mapped.{AllEntries, entry_map, telescope_map}
use Rattle.term_pool.specs.Pool.{Pool, Extends, tree}
use Rattle.core_kernel.specs.Checker.{context_in}
use Rattle.declared_types.proofs.Grown.{telescope-stays}

pub context_in-extends : (p q : Pool) (es : List (Entry ℕ)) → Extends p q → AllEntries (λ t. t < length p.trees) es → context_in q es ≡ context_in p es
context_in-extends p q es e a = ap (λ (ts : List (Entry Term)). onto ts []) (telescope-stays p q es e a)

onto-push : (es : List (Entry Term)) (x : Entry Term) (c : Context Term) → onto (es ++ x ∷ []) c ≡ x ∷ onto es c
onto-push [] x c = refl
onto-push (y ∷ es) x c = onto-push es x (y ∷ c)

pub context_in-push : (p : Pool) (es : List (Entry ℕ)) (x : Entry ℕ) → context_in p (es ++ x ∷ []) ≡ entry_map (tree p) x ∷ context_in p es
context_in-push p es x = ap (λ (ts : List (Entry Term)). onto ts []) (map-append (entry_map (tree p)) es (x ∷ [])) ∙ onto-push (telescope_map (tree p) es) (entry_map (tree p) x) []

onto-past : (es c : List (Entry Term)) (i : ℕ) → length es ≤ i → slice_get (onto es c) i ≡ slice_get c (i - length es)
onto-past [] c i l = let same : i ≡ i - 0 = omega arith in ap (slice_get c) same
onto-past (e ∷ es) c i l =
    let here : length es ≤ i = omega (arith, l) in
    let next : i - length es ≡ suc (i - length (e ∷ es)) = omega (arith, l) in
    onto-past es (e ∷ c) i here ∙ ap (slice_get (e ∷ c)) next

-- the variables of a telescope in a context are counted from its end
onto-at : (es c : List (Entry Term)) (i j : ℕ) (x : Entry Term) → i + j + 1 ≡ length es → slice_get es j ≡ Some x → slice_get (onto es c) i ≡ Some x
onto-at [] c i j x n at = cc
onto-at (e ∷ es) c i zero x n at =
    let first : i - length es ≡ 0 = omega (arith, n) in
    let here : length es ≤ i = omega (arith, n) in
    onto-past es (e ∷ c) i here ∙ ap (slice_get (e ∷ c)) first ∙ at
onto-at (e ∷ es) c i (suc j) x n at =
    let rest : i + j + 1 ≡ length es = omega (arith, n) in
    onto-at es (e ∷ c) i j x rest at

pub variable-at : (p : Pool) (es : List (Entry ℕ)) (i : ℕ) (x : Entry ℕ) → i < length es → slice_get es (length es - 1 - i) ≡ Some x → slice_get (context_in p es) i ≡ Some (entry_map (tree p) x)
variable-at p es i x l at =
    let j = length es - 1 - i in
    let count : i + j + 1 ≡ length (telescope_map (tree p) es) = omega (arith, l, length-map es (entry_map (tree p))) in
    let here : slice_get (telescope_map (tree p) es) j ≡ Some (entry_map (tree p) x) = slice_get-map (entry_map (tree p)) es j ∙ ap (option_map (entry_map (tree p))) at in
    onto-at (telescope_map (tree p) es) [] i j (entry_map (tree p) x) count here
