use Rattle.std.proofs.Common.{◌≡◌, ap, sym}
use Rattle.std.proofs.lemmas.Result.{err_from_is_err_and}
use Rattle.term_pool.specs.Pool.{tree}
use Rattle.kernel_rules.specs.Outcome.{Refuses, goes_on}
use Rattle.kernel_rules.specs.Refusals.{NotAType}
use Rattle.kernel_rules.specs.TermReading.{sort_level}
use Rattle.core_kernel.specs.Checker.{Shows, over, term_of}
use Rattle.core_kernel.proofs.Checking.{refused_first}
use Rattle.core_kernel.proofs.Nodes.{no_sort}
use Rattle.core_kernel.proofs.checker.Checker.level_by.Goals as goal

pub returns-in_err-form-clause-is : goal.returns-in_err-form-clause-is
returns-in_err-form-clause-is c =
    let x = c.args.self.now in
    let p = err_from_is_err_and c.from_residual.result c.from_residual.ensures.1 in
    rw (p.1, p.2) (refused_first c.form.new.self.pool.now (Shows (over x) (term_of x c.args.ty)) (λ t r. r ≡ sort_level t) c.in_err-form.field-0.0 c.in_err-form.ensures.is)

pub returns-in-Sort-clause-is : goal.returns-in-Sort-clause-is
returns-in-Sort-clause-is c =
    goes_on (tree c.form.new.self.pool.now c.in_ok-form.form) c.in_ok-form.ensures.is.1 (sym (ap sort_level c.in-Sort.ensures.is))

pub returns-in_default : goal.returns-in_default
returns-in_default c =
    let p = c.form.new.self.pool.now in
    let f = tree p in
    let n : Refuses (NotAType (f c.in_ok-form.form)) ≡ sort_level (f c.in_ok-form.form) = rw c.node.ensures.is (no_sort f c.node.result c.in_default.not-Sort) in
    record {
      grows = c.in_ok-form.ensures.grows;
      keeps = c.in_ok-form.ensures.keeps;
      is = (c.in_ok-form.ensures.is.0, goes_on (f c.in_ok-form.form) c.in_ok-form.ensures.is.1 n);
    }
