-- Terms for the variables of a term that follow one another.
use Rattle.std.specs.Prelude.{◌≡◌, ℕ, ◌+◌, ◌-◌, ◌<◌, ltb, cond, List, [], ◌∷◌, length, map, refl}
use Rattle.std.specs.List.{AllByRecursion}
use Rattle.std.proofs.Common.{ap}
use Rattle.core_rules.specs.Term.{Term, Var, Sort}
use Rattle.core_rules.specs.Substitution.{over, shift, value_at}
use Rattle.term_pool.specs.declared.shifting.Beyond.{Beyond}
use Rattle.term_pool.specs.declared.shifting.Beyond.TheVariants.{Moves, Closes}
use Rattle.term_pool.specs.Pool.{Pool, tree, Extends}
use Rattle.term_pool.specs.Growth.{Extends-tree}

abbrev pub filled_var : List Term → ℕ → ℕ → Term
filled_var r d i = cond (ltb i d) (Var i) (cond (ltb (i - d) (length r)) (shift (value_at r (i - d)) 0 d) (Var (i - length r)))

-- t with item i of r for its variable i, where the variables after the items move down
abbrev pub filled : List Term → Term → Term
filled r t = over (filled_var r) 0 t

-- variable i after n items
abbrev pub beyond : Beyond → ℕ → ℕ → Term
beyond Moves n i = Var (i - n)
beyond Closes n i = Sort 0

abbrev pub placed_var : ℕ → List Term → Beyond → ℕ → ℕ → Term
placed_var at r o d i = cond (ltb i (at + d)) (Var i) (cond (ltb (i - (at + d)) (length r)) (shift (value_at r (i - (at + d))) 0 d) (beyond o (length r) i))

-- t with item i of r for its variable at + i
abbrev pub placed : ℕ → List Term → Beyond → Term → Term
placed at r o t = over (placed_var at r o) 0 t

pub items-stay : (p q : Pool) (ids : List ℕ) → Extends p q → AllByRecursion (λ i. i < length p.trees) ids → map (tree q) ids ≡ map (tree p) ids
items-stay p q [] h l = refl
items-stay p q (i ∷ ids) h l = cc (Extends-tree i h l.0, items-stay p q ids h l.1)

pub placed-stays : (at : ℕ) (ids : List ℕ) (o : Beyond) (p q : Pool) → Extends p q → AllByRecursion (λ i. i < length p.trees) ids
    → ◌≡◌ {A = ℕ → ℕ → Term} (placed_var at (map (tree q) ids) o) (placed_var at (map (tree p) ids) o)
placed-stays at ids o p q h l = ap (λ r. placed_var at r o) (items-stay p q ids h l)
