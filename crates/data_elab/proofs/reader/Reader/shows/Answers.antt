use Rattle.core_rules.proofs.Heads.Same.{nothing_acyclic}
use Rattle.written_rules.specs.Rules.{shows}
use Rattle.weak_head.specs.States.{answer_in}
use Rattle.term_pool.specs.Pool.{tree}
use Rattle.elab_machine.proofs.Shows.{shown-found}
use Rattle.data_elab.specs.Reader.{over, term_of, signature_of}
use Rattle.data_elab.proofs.Reading.{only-gives}
use Rattle.data_elab.proofs.reader.Reader.shows.Goals as goal

pub reduce-requires-clause-acyclic : goal.reduce-requires-clause-acyclic
reduce-requires-clause-acyclic c = nothing_acyclic

pub returns-in-Found-clause-is : goal.returns-in-Found-clause-is
returns-in-Found-clause-is c =
    let x = c.args.self.now in
    let f = c.in-Found in
    let q = c.reduce.new.pool in
    let h = shown-found (signature_of x) x.limits.fuel x.limits.depth c.args.pos q (term_of x c.args.ty) c.in_ok-shown.shown f.meta f.term f.used f.is c.in_ok-shown.ensures.answer in
    (h.0, only-gives (over x) (shows c.args.pos (term_of x c.args.ty)) (answer_in (tree q) f.meta f.term) h.1)
