use Rattle.std.proofs.Common.{◌≡◌, ℕ, List, length, map, ap, ap₂, subst, ◌∙◌, arith}
use Rattle.std.specs.Prelude.{IfOk}
use Rattle.core_rules.specs.Term.{Term, Def}
use Rattle.core_rules.specs.Elimination.{elims}
use Rattle.term_pool.specs.Pool.{StandsFor, tree}
use Rattle.index_unify.specs.Unified.{context_in}
use Rattle.lhs_rules.specs.Spots.{Taken}
use Rattle.lhs_elab.specs.Lefts.{taken_in}
use Rattle.lhs_elab.specs.Moving.{raised_to}
use Rattle.lhs_elab.proofs.Contexts.{context-length}
use Rattle.lhs_elab.proofs.Growing.{spine-stays}
use Rattle.lhs_elab.proofs.elaborator.Elaborator.left_term.Goals as goal

pub returns-clause-is : goal.returns-clause-is
returns-clause-is g c =
    let x = c.args.self.now in
    let p = x.pool.now in
    let q = c.add.new.self in
    let n : c.in-Ok.count ≡ length (context_in p x.left.now.context.items) = omega (arith, c.in-Ok.ensures, c.len.ensures, context-length p x.left.now.context.items) in
    let xs : map (taken_in (tree q)) c.as_slice.result.now ≡ map (taken_in (tree p)) x.left.now.spine.items =
    ap (map (taken_in (tree q))) c.as_slice.ensures.value ∙ spine-stays p q c.in_ok-head.ensures.extends x.left.now.spine.items c.requires.ready.left.spine in
    let t : elims (tree q c.in_ok-head.head) (map (raised_to c.in-Ok.count) (map (taken_in (tree q)) c.as_slice.result.now)) ≡ elims (Def x.function) (map (raised_to (length (context_in p x.left.now.context.items))) (map (taken_in (tree p)) x.left.now.spine.items)) =
    ap (λ (h : Term). elims h (map (raised_to c.in-Ok.count) (map (taken_in (tree q)) c.as_slice.result.now))) c.in_ok-head.ensures.stands.is
    ∙ ap₂ (λ (m : ℕ) (es : List Taken). elims (Def x.function) (map (raised_to m) es)) n xs in
    subst (λ (u : Term). IfOk c.at_spine.result (λ r. StandsFor c.at_spine.new.pool r u)) t c.at_spine.ensures.is
