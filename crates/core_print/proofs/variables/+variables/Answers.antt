use Rattle.std.proofs.Common.{map, sym, ap, ◌∙◌, arith}
use Rattle.core_terms.specs.Patterns.{pats_of}
use Rattle.core_terms.specs.Sizes.{pats_size}
use Rattle.core_print.specs.Views.{variable_of}
use Rattle.core_print.proofs.Collecting.{collect_next, collect_end, con_size, size_at}
use Rattle.core_print.proofs.variables.+variables.Goals as goal

pub push_variables-push_pattern-requires : goal.push_variables-push_pattern-requires
push_variables-push_pattern-requires t c = (omega (arith, size_at c.args.pats.now c.loop-pat.pat-index c.pat-item.result c.loop-pat-test.true c.pat-item.is), tt)

pub push_variables-loop-pat-preserved : goal.push_variables-loop-pat-preserved
push_variables-loop-pat-preserved t c =
    c.loop-pat.invariant
    ∙ collect_next (map variable_of c.loop-pat.found.items) (map variable_of c.push_pattern.new.found.items) c.args.pats.now c.loop-pat.pat-index c.pat-item.result c.loop-pat-test.true c.pat-item.is c.in_ok-push_pattern.ensures

pub push_variables-returns : goal.push_variables-returns
push_variables-returns t c =
    sym (c.loop-pat.invariant ∙ collect_end (map variable_of c.loop-pat.found.items) c.args.pats.now c.loop-pat.pat-index c.loop-pat-test.false)

pub push_pattern-push_variables-requires : goal.push_pattern-push_variables-requires
push_pattern-push_variables-requires t c =
    (omega (arith, con_size c.pat.inside c.args.pat.now c.in-Con.con c.in-Con.pats c.pat.view_is c.in-Con.is, ap (λ ps. pats_size (pats_of ps)) c.as_slice.ensures.value), tt)
