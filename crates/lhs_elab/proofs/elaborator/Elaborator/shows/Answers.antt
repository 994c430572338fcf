use Rattle.std.proofs.Common.{refl}
use Rattle.core_rules.specs.Heads.{Within}
use Rattle.term_pool.specs.Pool.{tree}
use Rattle.weak_head.specs.States.{answer_in}
use Rattle.lhs_elab.specs.Elaborator.{signature_of, solved_of}
use Rattle.lhs_elab.proofs.Heads.{found-as}
use Rattle.lhs_elab.proofs.elaborator.Elaborator.shows.Goals as goal

pub returns-in-Found-clause-is : goal.returns-in-Found-clause-is
returns-in-Found-clause-is g c =
    let x = c.args.self.now in
    let p = c.reduce.new.pool in
    let h = found-as (signature_of x) (solved_of g.S.Solutions.solution x) (tree x.pool.now c.args.ty) x.limits.fuel p c.in_ok-shown.shown c.in-Found.meta c.in-Found.term c.in-Found.used c.in-Found.is c.in_ok-shown.ensures.answer in
    λ f. (h.0, (Within (answer_in (tree p) c.in-Found.meta c.in-Found.term) c.in-Found.used, h.1, refl))
