use Rattle.std.proofs.Common.{subst}
use Rattle.std.specs.Prelude.{Option, Some, None}
use Rattle.core_rules.proofs.Heads.Same.{nothing_acyclic}
use Rattle.core_rules.specs.BoundedLaws.{no_solutions}
use Rattle.need_rules.specs.Needs.{Next, NeedOf}
use Rattle.implicit_insert.specs.Answers.{Answers, Blank}
use Rattle.elab_machine.specs.Writer.{over, term_of, signature_of}
use Rattle.elab_machine.proofs.Needs.{function-by}
use Rattle.elab_machine.proofs.writer.Writer.function_at.Goals as goal

pub next_argument-need-requires-clause-acyclic : goal.next_argument-need-requires-clause-acyclic
next_argument-need-requires-clause-acyclic c = nothing_acyclic

pub returns-clause-is : goal.returns-clause-is
returns-clause-is c =
    let x = c.args.self.now in
    let q = c.next_argument-need.new.pool in
    let h = subst (λ (n : Option (Next Blank)). Answers (λ d. NeedOf (signature_of x) no_solutions (term_of x c.args.ty) n x.limits.fuel (Some d)) (NeedOf {E = Blank} (signature_of x) no_solutions (term_of x c.args.ty) n x.limits.fuel None) q c.next_argument-need.result)
    c.next_of.ensures c.next_argument-need.ensures.answer in
    rw c.function_of.ensures (function-by (over x) c.args.pos c.args.at c.args.place c.args.way.now (term_of x c.args.ty) q c.next_argument-need.result h)
