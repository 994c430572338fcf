use Rattle.std.proofs.Common.{List, subst}
use Rattle.std.proofs.lemmas.Result.{err_from_is_err_and}
use Rattle.core_rules.specs.declared.Flag.TheVariants as flag
use Rattle.resolved_tree.specs.declared.resolved.ResolvedName.{ResolvedName}
use Rattle.written_rules.specs.Expressions.{ids}
use Rattle.data_rules.specs.Families.{line_meaning}
use Rattle.data_rules.specs.Rules.{group}
use Rattle.data_elab.specs.Reader.{Enters, over, signature_of, term_of, values_of}
use Rattle.data_elab.proofs.Kept.{ready_kept}
use Rattle.data_elab.proofs.FieldsRead.{field-entered, field-no_type, field-too_big}
use Rattle.data_elab.proofs.reader.Reader.enter_field.Goals as goal

pub returns-in_err-found-clause-is : goal.returns-in_err-found-clause-is
returns-in_err-found-clause-is c =
    let x = c.args.self.now in
    let r = err_from_is_err_and c.from_residual.result c.from_residual.ensures.1 in
    rw (r.1, r.2) (field-no_type (over x) c.args.level (values_of x) (line_meaning (signature_of x) c.args.line.now) c.read_type.new.self.pool.now c.in_err-found.field-0.0 c.in_err-found.ensures.is)

pub returns-then-level-found-clause-is : goal.returns-then-level-found-clause-is
returns-then-level-found-clause-is c =
    let x = c.args.self.now in
    let t = c.in_ok-found.found in
    rw c.refused.ensures
    (tt, field-too_big (over x) c.args.level (values_of x) (line_meaning (signature_of x) c.args.line.now) (term_of c.read_type.new.self t.term, t.level) c.in_ok-found.ensures.is.1 c.if-level-found.true)

pub enter_group-requires-clause-ready : goal.enter_group-requires-clause-ready
enter_group-requires-clause-ready c = ready_kept c.requires.ready c.in_ok-found.ensures.grows c.in_ok-found.ensures.keeps

pub returns-clause-is : goal.returns-clause-is
returns-clause-is c =
    let x = c.args.self.now in
    let y = c.read_type.new.self in
    let h = c.in_ok-found.ensures in
    let t = c.in_ok-found.found in
    let e = subst (λ (xs : List ResolvedName). Enters y c.enter_group.new.self (group flag.Explicit (ids xs) (term_of y t.term))) c.as_slice.ensures c.in_ok-enter_group.ensures.enters in
    field-entered c.requires.ready h.grows h.keeps c.args.level (line_meaning (signature_of x) c.args.line.now) t.term t.level h.is.1 c.if-level-found.false e
