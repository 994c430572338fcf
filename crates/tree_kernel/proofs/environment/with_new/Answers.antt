use Rattle.std.proofs.Common.{◌≡◌, ℕ, ◌+◌, ◌∷◌, ◌++◌, [], append_assoc, arith, ap, subst, ◌∙◌}
use Rattle.std.specs.Prelude.{List}
use Rattle.core_rules.specs.Term.{Term}
use Rattle.core_rules.specs.Substitution.{shift}
use Rattle.core_rules.specs.TypedTree.{vars}
use Rattle.term_pool.specs.Pool.{StandsFor, tree}
use Rattle.term_pool.specs.Growth.{Extends-trans, Extends-tree, Extends-StandsFor}
use Rattle.tree_kernel.specs.Stand.{Stand}
use Rattle.tree_kernel.proofs.Lists.{stand-more, stand-push, stand-append}
use Rattle.tree_kernel.proofs.environment.with_new.Goals as goal

pub returns-clause-is : goal.returns-clause-is
returns-clause-is c =
    let p = c.args.pool.now in
    let q = c.variables.new.pool in
    let r = c.shift.new.pool in
    let v = c.variables-2.new.pool in
    let at = c.args.at in
    let t = shift (tree p c.args.u) 0 at in
    let e1 = c.in_ok-raised.ensures.extends in
    let e2 = c.in_ok-after.ensures.extends in
    let s = stand-more q v c.in_ok-env.env.items (vars 0 at) (Extends-trans e1 e2) c.in_ok-env.ensures.is in
    let h : StandsFor v c.in_ok-raised.raised t =
    subst (λ (w : Term). StandsFor v c.in_ok-raised.raised (shift w 0 at)) (Extends-tree c.args.u c.in_ok-env.ensures.extends c.requires.u)
    (Extends-StandsFor e2 c.in_ok-raised.ensures.is) in
    let a = stand-push v c.in_ok-env.env.items c.push.new.self.items c.in_ok-raised.raised (vars 0 at) t c.in_ok-push.ensures.items s h in
    let n : c.in-Some.from ≡ at + c.args.count = omega (arith, c.in-Some.ensures) in
    let whole = stand-append v c.push.new.self.items c.in_ok-after.after.items c.extend_from_slice.new.self.items (vars 0 at ++ t ∷ [])
    (vars (at + c.args.count) c.args.outside)
    (c.in_ok-extend_from_slice.ensures.items ∙ ap (λ (xs : List ℕ). c.push.new.self.items ++ xs) c.as_slice.ensures.value) a
    (subst (λ (k : ℕ). Stand v c.in_ok-after.after.items (vars k c.args.outside)) n c.in_ok-after.ensures.is) in
    subst (Stand v c.extend_from_slice.new.self.items) (append_assoc (vars 0 at) (t ∷ []) (vars (at + c.args.count) c.args.outside)) whole
