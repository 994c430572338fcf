-- A left side as a term, elimination by elimination.
use Rattle.std.proofs.Common.{◌≡◌, ℕ, List, ◌∷◌, length, map, ap, sym, ◌∙◌}
use Rattle.core_rules.specs.Term.{Term}
use Rattle.core_rules.specs.Elimination.{Elim, elim_by, elims}
use Rattle.term_pool.specs.Pool.{Pool, Extends, tree}
use Rattle.weak_head.specs.Elims.{Below, elim_in}
use Rattle.lhs_elab.specs.declared.left.Taken.{Taken}
use Rattle.lhs_elab.specs.Lefts.{taken_in}
use Rattle.lhs_elab.specs.Moving.{raised_to}
use Rattle.lhs_elab.proofs.Growing.{elim-stays}

-- one elimination more is taken
pub spine-next : (p q r : Pool) (count made next : ℕ) (x : Taken) (left more : List Taken) (end : Term) → Extends p q → Below (length p.trees) x.elim → left ≡ x ∷ more
    → tree r next ≡ elim_by (tree q made) (raised_to count (record { it = elim_in (tree q) x.elim; outer = x.outer }))
    → elims (tree q made) (map (raised_to count) (map (taken_in (tree p)) left)) ≡ end → elims (tree r next) (map (raised_to count) (map (taken_in (tree p)) more)) ≡ end
spine-next p q r count made next x left more end e b l n h =
    ap (λ (t : Term). elims t (map (raised_to count) (map (taken_in (tree p)) more)))
    (n ∙ ap (λ (i : Elim). elim_by (tree q made) (raised_to count (record { it = i; outer = x.outer }))) (elim-stays p q e x.elim b))
    ∙ (ap (λ (xs : List Taken). elims (tree q made) (map (raised_to count) (map (taken_in (tree p)) xs))) (sym l) ∙ h)
