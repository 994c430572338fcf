use Rattle.scope_check.specs.Decls.{resolved}
use Rattle.scope_check.proofs.DeclCases.{resolved_holds, one_answer, resolves_by_function}
use Rattle.scope_check.proofs.laws.exactly_one_case.Goals as goal

pub returns : goal.returns
returns c = record {
  each = λ k d. record { answer = resolved k d; holds = resolved_holds k d; only = λ other q. one_answer k d other (resolved k d) q (resolved_holds k d) };
  function = resolves_by_function;
}
