use Rattle.std.proofs.Common.{ℕ, length, refl, subst}
use Rattle.std.proofs.lemmas.Result.{err_from_is_err_and}
use Rattle.core_rules.specs.Term.{Term}
use Rattle.core_rules.specs.Heads.{Answer}
use Rattle.core_rules.specs.Signature.{Signature, fams}
use Rattle.term_pool.specs.Pool.{tree}
use Rattle.weak_head.specs.States.{answer_in}
use Rattle.written_rules.specs.Asking.{Is, Reads}
use Rattle.written_rules.specs.Rules.{AtRecord, record_shown, wanted}
use Rattle.elab_machine.specs.Records.{AnswersRecord, record_wanted}
use Rattle.elab_machine.specs.Writer.{Read, over, term_of, signature_of}
use Rattle.elab_machine.proofs.Fielded.{at-by}
use Rattle.elab_machine.proofs.Kept.{ready_kept, signature_same}
use Rattle.elab_machine.proofs.Reading.{read-next, refused-first}
use Rattle.elab_machine.proofs.writer.Writer.record_wanted.Goals as goal

pub record_shown-requires-clause-ready : goal.record_shown-requires-clause-ready
record_shown-requires-clause-ready c = ready_kept c.requires.ready c.in_ok-shown.ensures.grows c.in_ok-shown.ensures.keeps

pub returns-in_err-shown-clause-is : goal.returns-in_err-shown-clause-is
returns-in_err-shown-clause-is c =
    let x = c.args.self.now in
    let p = err_from_is_err_and c.from_residual.result c.from_residual.ensures.1 in
    let k : Answer → Reads AtRecord = λ w. Is (record_shown (signature_of x) c.args.pos w) in
    rw (p.1, p.2) (refused-first (over x) (wanted c.args.pos (term_of x c.args.wanted)) k c.wanted.new.self.pool.now c.in_err-shown.field-0.0 c.in_err-shown.ensures.is)

pub returns-clause-is : goal.returns-clause-is
returns-clause-is c =
    let x = c.args.self.now in
    let y = c.wanted.new.self in
    let j = c.in_ok-shown.ensures in
    let w = answer_in (tree y.pool.now) c.in_ok-shown.shown.meta c.in_ok-shown.shown.form in
    let q = c.record_shown.new.self.pool.now in
    let k : Answer → Reads AtRecord = λ w. Is (record_shown (signature_of x) c.args.pos w) in
    let r = record_shown (signature_of x) c.args.pos w in
    let one = subst (λ (g : Signature Term). AnswersRecord q (length (fams y.signature.now)) g (record_shown g c.args.pos w) c.record_shown.result) (signature_same c.requires.ready j.grows j.keeps.signature j.keeps.limits) c.record_shown.ensures.is in
    let two = subst (λ (s : Signature ℕ). AnswersRecord q (length (fams s)) (signature_of x) r c.record_shown.result) j.keeps.signature one in
    at-by q (length (fams x.signature.now)) (signature_of x) (Read (over x) (record_wanted (signature_of x) c.args.pos (term_of x c.args.wanted))) r
    (read-next (over x) (wanted c.args.pos (term_of x c.args.wanted)) k w r j.is.1 refl) c.record_shown.result two
