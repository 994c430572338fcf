use Rattle.std.proofs.lemmas.Result.{err_from_is_err_and}
use Rattle.data_elab.proofs.Kept.{Grows-trans, Keeps-trans, ready_kept}
use Rattle.data_elab.proofs.LinesRead.{read-line-gives, read-line-no_end, read-line-no_indices, read-line-no_type, read-line-too_big}
use Rattle.data_elab.proofs.reader.Reader.read_line.Goals as goal

pub returns-in_err-found-clause-is : goal.returns-in_err-found-clause-is
returns-in_err-found-clause-is c =
    let r = err_from_is_err_and c.from_residual.result c.from_residual.ensures.1 in
    rw (r.1, r.2)
    (read-line-no_type c.args.self.now c.args.fam c.args.heading.now c.args.line.now c.requires.params c.read_type.new.self.pool.now c.in_err-found.field-0.0 c.in_err-found.ensures.is)

pub telescope-requires-clause-ready : goal.telescope-requires-clause-ready
telescope-requires-clause-ready c = ready_kept c.requires.ready c.in_ok-found.ensures.grows c.in_ok-found.ensures.keeps

pub returns-in_err-shown-clause-is : goal.returns-in_err-shown-clause-is
returns-in_err-shown-clause-is c =
    let h = c.in_ok-found.ensures in
    let t = c.in_ok-found.found in
    let r = err_from_is_err_and c.from_residual-in_err-shown.result c.from_residual-in_err-shown.ensures.1 in
    rw (r.1, r.2)
    (read-line-no_end c.args.self.now c.args.fam c.args.heading.now c.args.line.now c.requires.params c.requires.ready h.grows h.keeps t.term t.level h.is.1 c.telescope.new.self.pool.now c.in_err-shown.field-0.0 c.in_err-shown.ensures.is)

pub own_indices-requires-clause-ready : goal.own_indices-requires-clause-ready
own_indices-requires-clause-ready c =
    let h = c.in_ok-found.ensures in
    let j = c.in_ok-shown.ensures in
    ready_kept c.requires.ready (Grows-trans h.grows j.grows) (Keeps-trans h.keeps j.keeps)

pub returns-in_err-indices-clause-is : goal.returns-in_err-indices-clause-is
returns-in_err-indices-clause-is c =
    let h = c.in_ok-found.ensures in
    let t = c.in_ok-found.found in
    let j = c.in_ok-shown.ensures in
    let r = err_from_is_err_and c.from_residual-in_err-indices.result c.from_residual-in_err-indices.ensures.1 in
    rw (r.1, r.2)
    (read-line-no_indices c.args.self.now c.args.fam c.args.heading.now c.args.line.now c.requires.params c.requires.ready h.grows h.keeps t.term t.level h.is.1 j.grows j.keeps c.in_ok-shown.shown j.is.0 j.is.1 c.requires.heading
    c.own_indices.new.self.pool.now c.in_err-indices.field-0.0 c.in_err-indices.ensures.is)

pub returns-then-heading-found-clause-is : goal.returns-then-heading-found-clause-is
returns-then-heading-found-clause-is c =
    let h = c.in_ok-found.ensures in
    let t = c.in_ok-found.found in
    let j = c.in_ok-shown.ensures in
    let k = c.in_ok-indices.ensures in
    rw c.refused.ensures (
      tt,
      read-line-too_big c.args.self.now c.args.fam c.args.heading.now c.args.line.now c.requires.params c.requires.ready h.grows h.keeps t.term t.level h.is.1 j.grows j.keeps c.in_ok-shown.shown j.is.0 j.is.1 c.requires.heading
          k.grows c.in_ok-indices.indices.items k.is.1 c.if-heading-found.true,
    )

pub returns-clause-is : goal.returns-clause-is
returns-clause-is c =
    let h = c.in_ok-found.ensures in
    let t = c.in_ok-found.found in
    let j = c.in_ok-shown.ensures in
    let k = c.in_ok-indices.ensures in
    let g = read-line-gives c.args.self.now c.args.fam c.args.heading.now c.args.line.now c.requires.params c.requires.ready h.grows h.keeps t.term t.level h.is.1 j.grows j.keeps c.in_ok-shown.shown j.is.0 j.is.1 c.requires.heading
    k.grows c.in_ok-indices.indices.items k.is.1 in
    (record { args = g.0; indices = k.is.0 }, g.1 c.if-heading-found.false)
