use Rattle.std.proofs.Common.{refl, rules, arith}
use Rattle.std.proofs.lemmas.Grind.{common_steps}
use Rattle.file_load.specs.Lines.{TypePasses}
use Rattle.file_load.specs.Judged.{declared}
use Rattle.file_load.proofs.Accepted.{line_derivable}
use Rattle.file_load.proofs.Judging.{line_accepts}
use Rattle.file_load.proofs.lines.declare_line.Goals as goal

pub returns : goal.returns
returns c =
    let old = c.args.core.now in
    let l = c.args.limits in
    let w = c.in_ok-typed.typed in
    line_accepts (TypePasses l.fuel l.depth (declared old) c.args.line.now) old (record { scope = old.scope; pool = c.judge_type.new.pool; signature = c.postulate.new.signature; alloc = old.alloc })
    c.args.line.now w.0 w.1 c.requires c.in_ok-typed.ensures.extends c.in_ok-typed.ensures.passed.0 c.in_ok-typed.ensures.passed.1 (first_of (search rules, grind (arith, common_steps))) refl
    (λ g j. line_derivable l.fuel l.depth (declared old) c.args.line.now c.requires.derivable g j)
