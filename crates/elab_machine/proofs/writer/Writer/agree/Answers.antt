use Rattle.core_rules.proofs.Heads.Same.{nothing_acyclic}
use Rattle.elab_machine.specs.Writer.{term_of, signature_of}
use Rattle.elab_machine.proofs.Shows.{agreed}
use Rattle.elab_machine.proofs.writer.Writer.agree.Goals as goal

pub convert-verdict-requires-clause-acyclic : goal.convert-verdict-requires-clause-acyclic
convert-verdict-requires-clause-acyclic c = nothing_acyclic

pub returns-clause-is : goal.returns-clause-is
returns-clause-is c =
    let x = c.args.self.now in
    rw c.agreement.ensures
    (agreed (signature_of x) x.limits.fuel x.limits.depth c.args.pos c.convert-verdict.new.pool (term_of x c.args.found) (term_of x c.args.wanted) c.convert-verdict.result c.convert-verdict.ensures.answer)
