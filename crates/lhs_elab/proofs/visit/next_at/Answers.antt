use Rattle.std.proofs.Common.{◌≡◌, ◌+◌, ℕ, suc, [], drop, ap, sym, ◌∙◌, arith}
use Rattle.std.specs.Prelude.{Bool}
use Rattle.lhs_elab.specs.Slots.{rest_by}
use Rattle.lhs_elab.proofs.Visiting.{none-from, rest-next, rest-none}
use Rattle.lhs_elab.proofs.visit.next_at.Goals as goal

pub returns-then-not-has : goal.returns-then-not-has
returns-then-not-has c = λ ms n. sym (ap (λ (h : Bool). rest_by h (drop c.args.at ms)) c.if-not-has.true)

pub returns-then-at-count : goal.returns-then-at-count
returns-then-at-count c = λ ms n.
    let none : drop c.args.at ms ≡ [] = none-from ms c.args.at (omega (arith, n, c.if-at-count.true)) in
    none ∙ sym (ap (rest_by c.args.has) none ∙ rest-none c.args.has)

pub returns : goal.returns
returns c = λ ms n.
    let m : suc c.args.at ≡ c.args.at + 1 = omega arith in
    sym (ap (λ (h : Bool). rest_by h (drop c.args.at ms)) c.if-not-has.false ∙ (rest-next ms c.args.at ∙ ap (λ (k : ℕ). drop k ms) m))
