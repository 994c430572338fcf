use Rattle.std.proofs.Common.{◌≡◌, ℕ, ◌+◌, ◌-◌, List, length, map, ap, ap₂, sym, ◌∙◌, arith}
use Rattle.core_rules.specs.Term.{Term}
use Rattle.core_rules.specs.Mapped.{telescope_map}
use Rattle.core_rules.specs.TypedTree.{into, new_con}
use Rattle.term_pool.specs.Pool.{tree}
use Rattle.lhs_elab.proofs.SplitContexts.{params-of}
use Rattle.lhs_elab.proofs.elaborator.Elaborator.move_for.Goals as goal

pub returns-clause-is : goal.returns-clause-is
returns-clause-is g c = λ s i.
    let x = c.args.self.now in
    let p = x.pool.now in
    let q = c.new_con.new.pool in
    let es = x.left.now.context.items in
    let k = c.args.level in
    let n : c.in_ok-inner.inner ≡ length es - (k + 1) = omega (arith, c.in_ok-inner.ensures, c.in-Some.ensures) in
    let v : c.in_ok-inner.inner ≡ s.var = n ∙ sym i.var in
    let rest : k ≡ length es - (c.in_ok-inner.inner + 1) = omega (arith, n, c.requires.level) in
    let ps : map (tree p) c.params_of.result.now ≡ s.params = ap (map (tree p)) c.params_of.ensures ∙ sym (params-of p es k c.args.at.now s i) in
    let term : tree q c.in_ok-term.term ≡ new_con c.args.con s.params (telescope_map (tree p) c.args.arguments.now) =
    c.in_ok-term.ensures.is.is ∙ ap (λ (us : List Term). new_con c.args.con us (telescope_map (tree p) c.args.arguments.now)) ps in
    c.in_ok-env.ensures.is (length es) rest ∙ ap₂ (λ (m : ℕ) (t : Term). into m (length es) c.args.new t) v term
