use Rattle.std.proofs.Common.{◌∙◌, ◌+◌, map, drop, sym, ap}
use Rattle.scope_check.specs.Mentions.{all_of}
use Rattle.scope_check.specs.Patterns as spec
use Rattle.scope_check.proofs.MentionFolds.{all_next, all_end}
use Rattle.scope_check.proofs.PatternFolds.{variables_at, inside_more}
use Rattle.scope_check.proofs.patterns.+variables.Goals as goal
use Rattle.scope_table.specs.Known.{Texts}

pub variables-returns : goal.variables-returns
variables-returns t c = rw (variables_at c.args.scope.now c.args.found.now) c.variables_in.ensures

pub all_variables-loop-one-preserved : goal.all_variables-loop-one-preserved
all_variables-loop-one-preserved t c =
    let first : Texts = spec.variables c.args.scope.now c.one-item.result in
    let rest : Texts = all_of (map (spec.variables c.args.scope.now) (drop (c.loop-one.one-index + 1) c.args.all.now)) in
    c.loop-one.invariant
    ∙ ap (spec.inside c.loop-one.locals) (all_next (spec.variables c.args.scope.now) c.args.all.now c.loop-one.one-index c.one-item.result c.loop-one-test.true c.one-item.is)
    ∙ inside_more c.loop-one.locals first rest
    ∙ ap (λ (ls : Texts). spec.inside ls rest) (sym c.in_ok-variables.ensures)

pub all_variables-returns : goal.all_variables-returns
all_variables-returns t c =
    sym (c.loop-one.invariant ∙ ap (spec.inside c.loop-one.locals) (all_end (spec.variables c.args.scope.now) c.args.all.now c.loop-one.one-index c.loop-one-test.false))
