use Rattle.std.proofs.Common.{◌<◌, List, length, sym, subst, ◌∙◌, ap}
use Rattle.std.specs.Prelude.{ℕ}
use Rattle.std.specs.List.{AllByRecursion}
use Rattle.core_rules.specs.Mapped.{AllEntries, con_map, telescope_map}
use Rattle.core_rules.specs.Signature.{Entry}
use Rattle.core_rules.specs.TypedTree.{con_context, index_equations}
use Rattle.declared_types.proofs.Grown.{all-grown, con-within}
use Rattle.index_unify.specs.Unified.{EquationStands, context_in, equations_in}
use Rattle.kernel_rules.specs.Outcome.{Outcome, Gives, Refuses}
use Rattle.lhs_rules.specs.Refusals.{Refusal}
use Rattle.lhs_rules.specs.Rules.{refuted}
use Rattle.term_pool.specs.Pool.{tree}
use Rattle.lhs_elab.specs.Asked.{IsNothing}
use Rattle.lhs_elab.specs.Constructors.{con_refuted}
use Rattle.lhs_elab.specs.Elaborator.{Comes, over}
use Rattle.lhs_elab.proofs.Growing.{entries-larger}
use Rattle.lhs_elab.proofs.Kept.{Same, Same-trans, same-full, same-ready}
use Rattle.lhs_elab.proofs.Questions.{asked-as}
use Rattle.lhs_elab.proofs.Stepping.{answers-as}
use Rattle.lhs_elab.proofs.elaborator.Elaborator.con_refuted.Goals as goal

pub con_context-requires-clause-arguments : goal.con_context-requires-clause-arguments
con_context-requires-clause-arguments g c = subst (AllEntries (λ t. t < length c.args.self.now.pool.now.trees)) (sym c.arguments_of.ensures) c.requires.decl.args

pub index_equations-requires : goal.index_equations-requires
index_equations-requires g c =
    let s = g.S.Solutions.solution in
    let x = c.args.self.now in
    let y = c.con_context.new.self in
    let k = c.in_ok-context.ensures in
    let m : Same x y = record { grows = k.grows; keeps = k.keeps; left = k.left } in
    let e = k.grows.extends in
    record {
      ready = same-ready s x y c.requires.ready m;
      at = all-grown x.pool.now y.pool.now c.args.at.now.args.items e c.requires.at;
      con = con-within x.pool.now y.pool.now e c.args.decl.now c.requires.decl;
    }

pub refuted-requires : goal.refuted-requires
refuted-requires g c =
    let s = g.S.Solutions.solution in
    let x = c.args.self.now in
    let y = c.con_context.new.self in
    let z = c.index_equations.new.self in
    let k = c.in_ok-context.ensures in
    let d = c.in_ok-equations.ensures in
    let m : Same x z = Same-trans (record { grows = k.grows; keeps = k.keeps; left = k.left }) (record { grows = d.grows; keeps = d.keeps; left = d.left }) in
    record {
      ready = same-ready s x z c.requires.ready m;
      context = entries-larger y.pool.now z.pool.now d.grows.extends c.in_ok-context.context k.below;
      equations = subst (AllByRecursion (EquationStands (length z.pool.now.trees))) (sym c.as_slice.ensures.value) d.below;
    }

pub returns-clause-is : goal.returns-clause-is
returns-clause-is g c = λ f s full i.
    let F = g.S.Solutions.solution in
    let x = c.args.self.now in
    let y = c.con_context.new.self in
    let z = c.index_equations.new.self in
    let w = c.refuted.new.self in
    let k = c.in_ok-context.ensures in
    let d = c.in_ok-equations.ensures in
    let xy : Same x y = record { grows = k.grows; keeps = k.keeps; left = k.left } in
    let yz : Same y z = record { grows = d.grows; keeps = d.keeps; left = d.left } in
    let decl = c.args.decl.now in
    let con = con_map (tree x.pool.now) decl in
    let ask : (q : Outcome Refusal (Unit {0})) → Comes (over F f z) (refuted c.args.pos (context_in z.pool.now c.in_ok-context.context) (equations_in z.pool.now c.as_slice.result.now)) q → Comes (over F f x) (refuted c.args.pos (con_context s c.args.con con.args) (index_equations s con)) q =
    asked-as F x y z c.requires.ready xy yz c.args.con c.args.level c.args.at.now decl decl.args c.in_ok-context.context c.as_slice.result.now c.in_ok-equations.equations.items s i c.requires.at c.requires.decl k.below
    (λ s i. k.is s i ∙ ap (λ (es : List (Entry ℕ)). con_context s c.args.con (telescope_map (tree x.pool.now) es)) c.arguments_of.ensures) d.is c.as_slice.ensures.value (refuted c.args.pos) f in
    answers-as w.pool.now IsNothing IsNothing (Comes (over F f z) (refuted c.args.pos (context_in z.pool.now c.in_ok-context.context) (equations_in z.pool.now c.as_slice.result.now))) (Comes (over F f x) (con_refuted c.args.pos c.args.con con s))
    (λ (a : Unit {0}) h. ask (Gives tt) h) (λ (r : Refusal) h. ask (Refuses r) h) c.refuted.result (c.refuted.ensures.is f (same-full F x z c.requires.ready (Same-trans xy yz) f full))
