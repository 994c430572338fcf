use Rattle.std.proofs.Common.{rules, ◌≡◌, ◌<◌, ◌++◌, ℕ, List, length, map, ap, sym, subst, ◌∙◌}
use Rattle.std.specs.List.{AllByRecursion}
use Rattle.core_rules.specs.Mapped.{AllPats, dot_map, pats_map, solved_map}
use Rattle.core_rules.specs.Signature.{CorePat, Dot, Solved}
use Rattle.core_terms.specs.Patterns.{pats_of}
use Rattle.cover_rules.specs.LeftSide.{pats_named, pats_values}
use Rattle.lhs_rules.specs.Patterns.{dots_from, pats_dotted, settled_pats}
use Rattle.lhs_rules.specs.Spots.{Left}
use Rattle.term_pool.specs.Pool.{Extends, Pool, tree}
use Rattle.lhs_elab.specs.Lefts.{left_in}
use Rattle.lhs_elab.specs.Settled.{DotBelow, SolvedBelow}
use Rattle.lhs_elab.proofs.settle.settle_all.Goals as goal

pub returns-in_err-pats-clause-extends : goal.returns-in_err-pats-clause-extends
returns-in_err-pats-clause-extends c =
    let y : Pool = c.settle_pats.new.self.pool.now in
    let h : (z : Pool) → z ≡ y → Extends c.args.pool.now z = λ z q. subst (Extends c.args.pool.now) (sym q) c.in_err-pats.ensures.grows.extends in
    h _ (search rules)

pub returns-clause-extends : goal.returns-clause-extends
returns-clause-extends c =
    let y : Pool = c.settle_pats.new.self.pool.now in
    let h : (z : Pool) → z ≡ y → Extends c.args.pool.now z = λ z q. subst (Extends c.args.pool.now) (sym q) c.in_ok-pats.ensures.grows.extends in
    h _ (search rules)

pub returns-clause-below : goal.returns-clause-below
returns-clause-below c =
    let s = c.settle_pats.new.self in
    let y : Pool = s.pool.now in
    let k = c.in_ok-pats.ensures in
    let h : (z : Pool) (ns : List (Solved ℕ)) (ds : List (Dot ℕ)) → z ≡ y → ns ≡ s.named.now.items → ds ≡ s.dots.now.items
    → AllPats (λ t. t < length z.trees) (pats_of c.in_ok-pats.pats.items) × AllByRecursion (SolvedBelow (length z.trees)) ns × AllByRecursion (DotBelow (length z.trees)) ds =
    λ z ns ds q n d. rw (q, n, d) (k.below, k.ready.named, k.ready.dots) in
    h _ _ _ (search rules) (search rules) (search rules)

pub returns-clause-pats : goal.returns-clause-pats
returns-clause-pats c =
    let y : Pool = c.settle_pats.new.self.pool.now in
    let L : Left = left_in c.args.pool.now c.args.left.now in
    let h : (z : Pool) → z ≡ y → pats_map (tree z) (pats_of c.in_ok-pats.pats.items) ≡ pats_values (settled_pats L (pats_of c.args.left.now.pats.items)) =
    λ z q. ap (λ (p : Pool). pats_map (tree p) (pats_of c.in_ok-pats.pats.items)) q ∙ (c.in_ok-pats.ensures.is ∙ ap (λ (ps : List (CorePat ℕ)). pats_values (settled_pats L (pats_of ps))) c.as_slice.ensures.value) in
    h _ (search rules)

pub returns-clause-named : goal.returns-clause-named
returns-clause-named c =
    let s = c.settle_pats.new.self in
    let y : Pool = s.pool.now in
    let p0 = c.args.pool.now in
    let L : Left = left_in p0 c.args.left.now in
    let h : (z : Pool) (ns : List (Solved ℕ)) → z ≡ y → ns ≡ s.named.now.items → map (solved_map (tree z)) ns ≡ pats_named (settled_pats L (pats_of c.args.left.now.pats.items)) =
    λ z ns q n. ap (λ (p : Pool). map (solved_map (tree p)) ns) q ∙ (ap (map (solved_map (tree y))) n ∙ (c.in_ok-pats.ensures.named
    ∙ (ap (λ (vs : List (Solved ℕ)). map (solved_map (tree p0)) vs ++ pats_named (settled_pats L (pats_of c.as_slice.result.now))) c.new-named.ensures.items
    ∙ ap (λ (ps : List (CorePat ℕ)). pats_named (settled_pats L (pats_of ps))) c.as_slice.ensures.value))) in
    h _ _ (search rules) (search rules)

pub returns-clause-dots : goal.returns-clause-dots
returns-clause-dots c =
    let s = c.settle_pats.new.self in
    let y : Pool = s.pool.now in
    let p0 = c.args.pool.now in
    let L : Left = left_in p0 c.args.left.now in
    let h : (z : Pool) (ds : List (Dot ℕ)) → z ≡ y → ds ≡ s.dots.now.items → map (dot_map (tree z)) ds ≡ dots_from 0 (pats_dotted (settled_pats L (pats_of c.args.left.now.pats.items))) =
    λ z ds q d. ap (λ (p : Pool). map (dot_map (tree p)) ds) q ∙ (ap (map (dot_map (tree y))) d ∙ (c.in_ok-pats.ensures.dots
    ∙ (ap (λ (vs : List (Dot ℕ)). map (dot_map (tree p0)) vs ++ dots_from (length vs) (pats_dotted (settled_pats L (pats_of c.as_slice.result.now)))) c.new-dots.ensures.items
    ∙ ap (λ (ps : List (CorePat ℕ)). dots_from 0 (pats_dotted (settled_pats L (pats_of ps)))) c.as_slice.ensures.value))) in
    h _ _ (search rules) (search rules)
