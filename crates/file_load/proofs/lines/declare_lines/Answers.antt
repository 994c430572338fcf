use Rattle.std.proofs.Common.{◌∙◌, Ok}
use Rattle.std.proofs.lemmas.Result.{err_from_is_err_and}
use Rattle.file_load.specs.Judged.{declared}
use Rattle.file_load.proofs.Judging.{line_further, lines_end, lines_stop}
use Rattle.file_load.proofs.lines.declare_lines.Goals as goal

pub returns-in_err-declare_line : goal.returns-in_err-declare_line
returns-in_err-declare_line c =
    let l = c.loop-line in
    let p = err_from_is_err_and c.from_residual.result c.from_residual.ensures.1 in
    rw (p.1, p.2) (lines_stop c.args.limits.fuel c.args.limits.depth c.args.core.now l.core c.declare_line.new.core c.args.lines.now l.line-index c.line-item.result c.loop-line-test.true c.line-item.is
    l.invariant.left c.in_err-declare_line.field-0.0 c.in_err-declare_line.ensures)

pub loop-line-preserved : goal.loop-line-preserved
loop-line-preserved c =
    let l = c.loop-line in
    let d = c.in_ok-declare_line.ensures in
    record {
      agrees = d.agrees;
      scope = d.scope ∙ l.invariant.scope;
      left = λ j h. l.invariant.left j (line_further c.args.limits.fuel c.args.limits.depth (declared l.core) (declared c.declare_line.new.core) c.args.lines.now l.line-index c.line-item.result j
          c.loop-line-test.true c.line-item.is d.accepted h);
    }

pub returns : goal.returns
returns c =
    let l = c.loop-line in
    record {
      agrees = l.invariant.agrees;
      scope = l.invariant.scope;
      accepted = l.invariant.left (Ok (declared l.core)) (lines_end c.args.limits.fuel c.args.limits.depth (declared l.core) c.args.lines.now l.line-index c.loop-line-test.false);
    }
