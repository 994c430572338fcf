use Rattle.std.proofs.Common.{◌≡◌, ◌+◌, ◌-◌, ℕ, sym, ap, subst, ◌∙◌, arith}
use Rattle.core_rules.specs.Signature.{Solved}
use Rattle.core_rules.specs.Substitution.{shift}
use Rattle.core_rules.specs.Term.{Term}
use Rattle.core_rules.proofs.Substitution.Lifted.{shift_twice}
use Rattle.term_pool.specs.Pool.{StandsFor, tree}
use Rattle.term_pool.specs.Growth.{Extends-tree, Extends-StandsFor}
use Rattle.elab_machine.proofs.writer.Writer.raised.Goals as goal

pub returns-clause-is : goal.returns-clause-is
returns-clause-is c =
    let p = c.args.self.now.pool.now in
    let q = c.shift.new.pool in
    let v = c.args.value in
    let n = c.args.self.now.inside - v.inside in
    let k = v.inside - v.ty_inside in
    let m = c.args.self.now.inside - v.ty_inside in
    let g = c.in_ok-term.ensures in
    let h = c.in_ok-ty.ensures in
    let term : c.solved.inside.value ≡ v.solved.value = ap (λ (s : Solved ℕ). s.value) c.solved.view_is in
    let ty : c.solved.inside.ty ≡ v.solved.ty = ap (λ (s : Solved ℕ). s.ty) c.solved.view_is in
    let same : tree q c.solved.inside.ty ≡ tree p v.solved.ty = ap (tree q) ty ∙ Extends-tree v.solved.ty g.extends c.requires.value.ty in
    let count : k + n ≡ m = omega (arith, c.requires.value.inside, c.requires.value.ty_inside) in
    let once : shift (tree p v.solved.ty) 0 m ≡ shift (shift (tree p v.solved.ty) 0 k) 0 n = sym (shift_twice (tree p v.solved.ty) k n ∙ ap (shift (tree p v.solved.ty) 0) count) in
    record {
      term = Extends-StandsFor h.extends (subst (λ (t : ℕ). StandsFor q c.in_ok-term.term (shift (tree p t) 0 n)) term g.is);
      ty = subst (λ (t : Term). StandsFor c.shift-2.new.pool c.in_ok-ty.ty t) (ap (λ (t : Term). shift t 0 m) same ∙ once) h.is;
    }
