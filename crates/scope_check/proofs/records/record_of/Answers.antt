use Rattle.scope_table.proofs.Grown.{grows-trans, grows-family}
use Rattle.scope_check.proofs.records.record_of.Goals as goal

pub returns-in_err-finish_record-clause-grows : goal.returns-in_err-finish_record-clause-grows
returns-in_err-finish_record-clause-grows c =
    grows-trans c.args.scope.now c.declare_family.new.self c.finish_record.new.scope
    (rw c.in_ok-declare_family.ensures.ok (grows-family c.args.scope.now c.as_str.result.now)) c.finish_record.ensures.grows
