use Rattle.std.proofs.Common.{rules, ◌≡◌, [], length, arith, sym, subst}
use Rattle.std.proofs.lemmas.Grind.{common_steps}
use Rattle.core_rules.specs.Term.{Pi}
use Rattle.core_rules.specs.Heads.{Answer, Form}
use Rattle.weak_head.specs.States.{answer_in}
use Rattle.term_pool.specs.Pool.{tree}
use Rattle.elab_machine.specs.Writer.{IsFit}
use Rattle.elab_machine.proofs.writer.fit_at.Goals as goal

pub returns-in-Pi : goal.returns-in-Pi
returns-in-Pi c =
    let f = tree c.args.pool.now in
    let n = length c.args.pool.now.trees in
    let e : answer_in f c.args.shown.now.meta c.args.shown.now.form ≡ Form (Pi c.in-Pi.found c.in-Pi.name (f c.in-Pi.dom) (f c.in-Pi.cod)) [] = first_of (search rules, grind (arith, common_steps)) in
    subst (λ (w : Answer). IsFit n f c.args.flag w c.fit_of.result) (sym e)
    (c.fit_of.ensures n c.in-Pi.name f (omega (arith, c.in-Pi.ensures.below.0, c.requires.0)) (omega (arith, c.in-Pi.ensures.below.1, c.requires.0)))
