use Rattle.std.proofs.Common.{◌≡◌, ℕ, ◌-◌, ◌<◌, ◌≤◌, List, [], ◌∷◌, length, get_or, take, drop, sym, ap, ap₂, ◌∙◌, subst, arith}
use Rattle.std.proofs.Math.Seq.{take-length}
use Rattle.std.specs.List.{AllByRecursion}
use Rattle.core_rules.specs.Signature.{CoreClause}
use Rattle.core_rules.specs.Mapped.{AllClause}
use Rattle.case_terms.proofs.lefts.are_clauses_in.Goals as goal

unrolled : {X : Type 0} (xs : List X) (x : X) → 1 ≤ length xs → x ≡ get_or xs 0 x → xs ≡ x ∷ take (length xs - 1) (drop 1 xs)
unrolled [] x l e = absurd (omega (arith, l))
unrolled (y ∷ ys) x l e =
    let n : length (y ∷ ys) - 1 ≡ length ys = omega arith in
    ap₂ (λ z zs. z ∷ zs) (sym e) (sym (ap (λ k. take k ys) n ∙ take-length ys))

pub loop-left-preserved : goal.loop-left-preserved
loop-left-preserved c = λ h.
    let P : CoreClause ℕ → Type 0 = AllClause (λ t. t < length c.args.pool.now.trees) in
    c.loop-left.invariant (subst (AllByRecursion P) (sym (unrolled c.loop-left.left.now c.clause-item.result c.in-len1-up.len_at_least c.clause-item.is)) (c.is_clause_in.ensures c.if-not-is_clause_in.false, h))
