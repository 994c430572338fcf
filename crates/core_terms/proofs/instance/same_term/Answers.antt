use Rattle.std.proofs.Common.{sym, ap, ◌∙◌, ◌≡◌, ℕ, Option, subst}
use Rattle.core_rules.specs.Term.{Term, nameless}
use Rattle.core_rules.specs.Substitution.{replace}
use Rattle.core_rules.specs.Bounded.{full}
use Rattle.core_rules.specs.InScope.{IsAcyclic}
use Rattle.core_rules.specs.BoundedLaws.{IsFull}
use Rattle.core_rules.proofs.Heads.FullSolutions.{full_is_full}
use Rattle.core_rules.proofs.Heads.Same.{same_replaced}
use Rattle.term_pool.specs.Pool.{tree}
use Rattle.core_terms.specs.Solutions.{solved_in, solved_in-stays}
use Rattle.term_pool.specs.Growth.{Extends-tree}
use Rattle.core_terms.proofs.instance.same_term.Goals as goal

pub returns-clause-is : goal.returns-clause-is
returns-clause-is g c =
    let p = c.args.pool.now in
    let q = c.instantiate.new.pool in
    let h = g.S.Solutions.solution c.args.sol.now in
    let s = solved_in p h in
    let e = solved_in-stays p q h c.instantiate.ensures.extends c.requires.solutions in
    let a : IsAcyclic s = c.requires.acyclic in
    let f : ℕ → Option Term = full s a in
    let x : IsFull s f = full_is_full s a in
    let left : tree c.instantiate-2.new.pool c.in_ok-made.made ≡ replace f (tree p c.args.t) =
    Extends-tree c.in_ok-made.made c.instantiate-2.ensures.extends c.in_ok-made.ensures.is.within ∙ c.in_ok-made.ensures.is.is f x in
    let right : tree c.instantiate-2.new.pool c.in_ok-other.other ≡ replace f (tree p c.args.u) =
    c.in_ok-other.ensures.is.is f (subst (λ s. IsFull s f) (sym e) x) ∙ ap (replace f) (Extends-tree c.args.u c.instantiate.ensures.extends c.requires.u) in (
      λ r. record { acyclic = a; same = sym (ap nameless left) ∙ (c.same_class.ensures.0 r ∙ ap nameless right) },
      λ k. c.same_class.ensures.1 (ap nameless left ∙ (same_replaced s f x (tree p c.args.t) (tree p c.args.u) k ∙ sym (ap nameless right))),
    )
