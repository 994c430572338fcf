use Rattle.std.proofs.lemmas.Result.{err_from_is_err_and}
use Rattle.written_rules.specs.Expressions.{expr_meaning, ids}
use Rattle.data_elab.specs.Reader.{over, signature_of, values_of}
use Rattle.data_elab.proofs.Kept.{ready_kept}
use Rattle.data_elab.proofs.Groups.{typed-entered, typed-refused}
use Rattle.data_elab.proofs.reader.Reader.enter_typed.Goals as goal

pub returns-in_err-found-clause-is : goal.returns-in_err-found-clause-is
returns-in_err-found-clause-is c =
    let x = c.args.self.now in
    let r = err_from_is_err_and c.from_residual.result c.from_residual.ensures.1 in
    rw (r.1, r.2)
    (typed-refused (over x) c.args.flag (ids c.args.names.now) (expr_meaning (signature_of x) c.args.ty.now).types (values_of x) c.read_type.new.self.pool.now c.in_err-found.field-0.0 c.in_err-found.ensures.is)

pub enter_group-requires-clause-ready : goal.enter_group-requires-clause-ready
enter_group-requires-clause-ready c = ready_kept c.requires.ready c.in_ok-found.ensures.grows c.in_ok-found.ensures.keeps

pub returns-clause-is : goal.returns-clause-is
returns-clause-is c =
    let x = c.args.self.now in
    let h = c.in_ok-found.ensures in
    let t = c.in_ok-found.found in
    typed-entered c.requires.ready h.grows h.keeps c.args.flag (ids c.args.names.now) (expr_meaning (signature_of x) c.args.ty.now).types t.term t.level h.is.1 c.in_ok-enter_group.ensures.enters
