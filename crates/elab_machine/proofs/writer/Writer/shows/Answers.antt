use Rattle.core_rules.proofs.Heads.Same.{nothing_acyclic}
use Rattle.elab_machine.specs.Writer.{term_of, signature_of}
use Rattle.elab_machine.proofs.Shows.{shown-found}
use Rattle.elab_machine.proofs.writer.Writer.shows.Goals as goal

pub reduce-requires-clause-acyclic : goal.reduce-requires-clause-acyclic
reduce-requires-clause-acyclic c = nothing_acyclic

pub returns-in-Found-clause-is : goal.returns-in-Found-clause-is
returns-in-Found-clause-is c =
    let x = c.args.self.now in
    let f = c.in-Found in
    shown-found (signature_of x) x.limits.fuel x.limits.depth c.args.pos c.reduce.new.pool (term_of x c.args.ty) c.in_ok-shown.shown f.meta f.term f.used f.is c.in_ok-shown.ensures.answer
