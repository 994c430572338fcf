use Rattle.std.proofs.Common.{◌≡◌, true, false, arith, ap, sym, ◌∙◌}
use Rattle.std.proofs.lemmas.Result.{err_from_is_err_and}
use Rattle.core_rules.specs.Bounded.{same_flag}
use Rattle.term_pool.specs.Pool.{tree}
use Rattle.kernel_rules.specs.Outcome.{Refuses, goes_on}
use Rattle.kernel_rules.specs.Refusals.{NotAFunction}
use Rattle.kernel_rules.specs.TermReading.{function_parts}
use Rattle.core_kernel.specs.Checker.{Shows, over, term_of}
use Rattle.core_kernel.proofs.Checking.{refused_first}
use Rattle.core_kernel.proofs.Nodes.{no_function, of_flag, of_other_flag}
use Rattle.core_kernel.proofs.checker.Checker.parts_by.Goals as goal

pub returns-in_err-form-clause-is : goal.returns-in_err-form-clause-is
returns-in_err-form-clause-is c =
    let x = c.args.self.now in
    let p = err_from_is_err_and c.from_residual.result c.from_residual.ensures.1 in
    rw (p.1, p.2) (refused_first c.form.new.self.pool.now (Shows (over x) (term_of x c.args.ty)) (λ t r. r ≡ function_parts c.args.flag t) c.in_err-form.field-0.0 c.in_err-form.ensures.is)

pub returns-then-same_flag-clause-is : goal.returns-then-same_flag-clause-is
returns-then-same_flag-clause-is c =
    let f = tree c.form.new.self.pool.now in
    let i = c.in_ok-form.ensures.is in
    let b = c.in-Pi.ensures.below in
    let e : same_flag c.args.flag c.in-Pi.other ≡ true = sym c.same_flag.ensures ∙ c.if-same_flag.true in
    (omega (arith, b.0, i.0), omega (arith, b.1, i.0), goes_on (f c.in_ok-form.form) i.1 (of_flag c.args.flag c.in-Pi.other c.in-Pi.name (f c.in-Pi.dom) (f c.in-Pi.cod) e ∙ sym (ap (function_parts c.args.flag) c.in-Pi.ensures.is)))

pub returns-else-same_flag-clause-is : goal.returns-else-same_flag-clause-is
returns-else-same_flag-clause-is c =
    let f = tree c.form.new.self.pool.now in
    let i = c.in_ok-form.ensures.is in
    let e : same_flag c.args.flag c.in-Pi.other ≡ false = sym c.same_flag.ensures ∙ c.if-same_flag.false in
    let n : Refuses (NotAFunction (f c.in_ok-form.form)) ≡ function_parts c.args.flag (f c.in_ok-form.form) = rw c.in-Pi.ensures.is (of_other_flag c.args.flag c.in-Pi.other c.in-Pi.name (f c.in-Pi.dom) (f c.in-Pi.cod) e) in
    (i.0, goes_on (f c.in_ok-form.form) i.1 n)

pub returns-in_default : goal.returns-in_default
returns-in_default c =
    let f = tree c.form.new.self.pool.now in
    let i = c.in_ok-form.ensures.is in
    let n : Refuses (NotAFunction (f c.in_ok-form.form)) ≡ function_parts c.args.flag (f c.in_ok-form.form) = rw c.node.ensures.is (no_function f c.args.flag c.node.result c.in_default.not-Pi) in
    record {
      grows = c.in_ok-form.ensures.grows;
      keeps = c.in_ok-form.ensures.keeps;
      is = (i.0, goes_on (f c.in_ok-form.form) i.1 n);
    }
