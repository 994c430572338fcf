use Rattle.std.proofs.Common.{sym, ◌∙◌, subst}
use Rattle.std.specs.List.{AllByRecursion}
use Rattle.std.specs.Prelude.{string_bytes}
use Rattle.el_base.proofs.Lists.{drop_next}
use Rattle.core_rules.specs.Bounded.{full}
use Rattle.core_rules.specs.Substitution.{replace}
use Rattle.core_terms.specs.Solutions.{solved_in}
use Rattle.term_pool.specs.Pool.{tree}
use Rattle.core_print.specs.Pages.{SolvedIn, names_in}
use Rattle.core_print.specs.Views.{world_of}
use Rattle.core_print.proofs.Contexts.{solved_end, solved_next}
use Rattle.core_print.proofs.context_text.write_solved.Goals as goal

pub loop-solved-preserved : goal.loop-solved-preserved
loop-solved-preserved g c =
    let w = world_of c.args.source.now.view in
    let p = c.args.source.now.pool.now in
    let s = solved_in p (g.S.Solutions.solution c.args.sol.now) in
    let ss = c.args.named.now in
    let i = c.loop-solved.solved-index in
    let x = c.solved-item.result in
    record {
      terms = (subst (AllByRecursion (SolvedIn p)) (drop_next ss i x c.loop-solved-test.true c.solved-item.is) c.loop-solved.invariant.terms).1;
      is = λ a. c.loop-solved.invariant.is a
          ∙ solved_next w (names_in w.names c.args.inside.now) (λ t. replace (full s a) (tree p t)) (string_bytes c.loop-solved.out) (string_bytes c.write_solved_name.new.out) ss i x c.loop-solved-test.true c.solved-item.is (c.in_ok-write_solved_name.ensures a);
    }

pub returns : goal.returns
returns g c = λ a.
    let w = world_of c.args.source.now.view in
    let p = c.args.source.now.pool.now in
    let s = solved_in p (g.S.Solutions.solution c.args.sol.now) in
    sym (c.loop-solved.invariant.is a ∙ solved_end w (names_in w.names c.args.inside.now) (λ t. replace (full s a) (tree p t)) (string_bytes c.loop-solved.out) c.args.named.now c.loop-solved.solved-index c.loop-solved-test.false)
