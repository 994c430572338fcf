use Rattle.std.proofs.Common.{rules, ◌≡◌, ◌<◌, ◌∙◌, [], arith, subst, sym}
use Rattle.std.specs.Prelude.{length}
use Rattle.core_rules.specs.Mapped.{AllEntries, tree_map}
use Rattle.core_rules.specs.Term.{Def}
use Rattle.core_terms.specs.Signature.{signature_in}
use Rattle.core_terms.proofs.SignatureGrowth.{Stands-extends}
use Rattle.term_pool.specs.Pool.{Pool, tree}
use Rattle.term_pool.specs.Growth.{Extends-length}
use Rattle.tree_kernel.specs.Answers.{AnswersDecl}
use Rattle.tree_kernel.specs.Jobs.{context_by}
use Rattle.tree_kernel.specs.Reading.{ReadsTree}
use Rattle.tree_kernel.proofs.Calling.{its-type, tree-here, scope-here, all-here, answer-typed}
use Rattle.tree_kernel.proofs.Declaring.{answers-weaker}
use Rattle.tree_kernel.proofs.tree.check_tree.Goals as goal

pub read-requires-clause-ready : goal.read-requires-clause-ready
read-requires-clause-ready c = record {
  signature = Stands-extends c.args.pool.now c.add.new.self c.args.sig.now c.in_ok-left.ensures.extends c.requires.stands;
}

pub read-requires-clause-node : goal.read-requires-clause-node
read-requires-clause-node c =
    let p : Pool = c.args.pool.now in
    let q : Pool = c.add.new.self in
    let g = c.args.sig.now in
    let e = c.in_ok-left.ensures.extends in
    let h = c.requires.function in
    let ctx = c.from_vec.result in
    let none : ctx ≡ [] = c.from_vec.ensures ∙ c.new.ensures.items in
    let left = c.in_ok-left.ensures.stands in
    let ty = its-type p g c.args.function c.args.ty c.requires.stands h in (
      subst (AllEntries (λ i. i < length q.trees)) (sym none) tt,
      all-here p g c.args.function c.args.ty c.requires.stands h q e c.args.tree.now c.requires.tree c.args.limits.fuel c.args.limits.depth ctx none
          c.in_ok-left.left left,
      omega (arith, ty, Extends-length e),
      left.within,
      scope-here p g c.args.function c.args.ty c.requires.stands h q e c.args.tree.now c.requires.tree c.args.limits.fuel c.args.limits.depth ctx none
          c.in_ok-left.left left c.requires.scope,
    )

pub returns-clause-answer : goal.returns-clause-answer
returns-clause-answer c =
    let p : Pool = c.args.pool.now in
    let q : Pool = c.add.new.self in
    let g = c.args.sig.now in
    let fuel = c.args.limits.fuel in
    let depth = c.args.limits.depth in
    let T = c.args.tree.now in
    let ctx = c.from_vec.result in
    let none : ctx ≡ [] = c.from_vec.ensures ∙ c.new.ensures.items in
    let z : Pool = c.read.new.self.pool.now in
    let a = answers-weaker z (λ o. ReadsTree (signature_in q g) fuel depth (context_by (tree q) ctx) (tree_map (tree q) T) (tree q c.args.ty)
    (tree q c.in_ok-left.left) o) (λ o. ReadsTree (signature_in p g) fuel depth [] (tree_map (tree p) T) (tree p c.args.ty) (Def c.args.function) o)
    (λ o k. tree-here p g c.args.function c.args.ty c.requires.stands c.requires.function q c.in_ok-left.ensures.extends T c.requires.tree fuel depth ctx none
    c.in_ok-left.left c.in_ok-left.ensures.stands o k) c.read.result c.read.ensures.is in
    let h : (w : Pool) → w ≡ z → AnswersDecl w
    (λ o. ReadsTree (signature_in p g) fuel depth [] (tree_map (tree p) T) (tree p c.args.ty) (Def c.args.function) o) c.read.result =
    λ w e. subst (λ (w : Pool). AnswersDecl w (λ o. ReadsTree (signature_in p g) fuel depth [] (tree_map (tree p) T) (tree p c.args.ty) (Def c.args.function) o)
    c.read.result) (sym e) a in
    h _ (search rules)

pub returns-clause-typed : goal.returns-clause-typed
returns-clause-typed c =
    let p : Pool = c.args.pool.now in
    let q : Pool = c.add.new.self in
    let g = c.args.sig.now in
    let fuel = c.args.limits.fuel in
    let depth = c.args.limits.depth in
    let T = c.args.tree.now in
    let ctx = c.from_vec.result in
    let none : ctx ≡ [] = c.from_vec.ensures ∙ c.new.ensures.items in
    let z : Pool = c.read.new.self.pool.now in
    answer-typed p g c.args.function c.args.ty c.requires.stands c.requires.function c.accepted_tree_is_typed.ensures fuel depth T c.requires.scope z
    c.read.result
    (answers-weaker z (λ o. ReadsTree (signature_in q g) fuel depth (context_by (tree q) ctx) (tree_map (tree q) T) (tree q c.args.ty)
    (tree q c.in_ok-left.left) o) (λ o. ReadsTree (signature_in p g) fuel depth [] (tree_map (tree p) T) (tree p c.args.ty) (Def c.args.function) o)
    (λ o k. tree-here p g c.args.function c.args.ty c.requires.stands c.requires.function q c.in_ok-left.ensures.extends T c.requires.tree fuel depth ctx none
    c.in_ok-left.left c.in_ok-left.ensures.stands o k) c.read.result c.read.ensures.is)
