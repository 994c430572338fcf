use Rattle.std.proofs.Common.{◌≡◌, [], length, Some, None, sym, ap, ◌∙◌, refl, subst, arith}
use Rattle.core_rules.specs.Term.{Def}
use Rattle.core_rules.specs.Mapped.{tree_map}
use Rattle.term_pool.specs.Pool.{tree, args}
use Rattle.core_terms.specs.Signature.{signature_in}
use Rattle.weak_head.specs.Elims.{spine_in, env_in}
use Rattle.weak_head.specs.Pending.{AtTree, On}
use Rattle.weak_head.specs.States.{Ids}
use Rattle.weak_head.proofs.Lookups.{tree_in, tree_stands}
use Rattle.weak_head.proofs.Moves.{term_as, def_as}
use Rattle.weak_head.proofs.Calls.{form_as}
use Rattle.weak_head.proofs.at_term.at_term.Goals as goal

pub returns-in-Some-clause-below : goal.returns-in-Some-clause-below
returns-in-Some-clause-below c = ((c.requires.term, subst (Ids (length c.args.pool.now.trees)) (sym c.new-env.ensures.items) tt), tree_stands c.args.pool.now c.args.sig.now c.requires.stands c.in-Def.f c.in-Some.tree.now c.in-Some.ensures)

pub returns-in-Some-clause-is : goal.returns-in-Some-clause-is
returns-in-Some-clause-is c = λ s fs r.
    let p = c.args.pool.now in
    let g = signature_in p c.args.sig.now in
    let es = spine_in (tree p) c.args.term.spine.items in
    let T = tree_map (tree p) c.in-Some.tree.now in
    let e : tree p c.args.term.head ≡ Def c.in-Def.f = c.in-Def.ensures.is in
    ap (λ l. On (AtTree (tree p c.args.term.head) es T (env_in (tree p) l) es) fs) c.new-env.ensures.items
    ∙ ap (λ h. On (AtTree h es T [] es) fs) e
    ∙ term_as g s fs e refl (def_as g s fs c.in-Def.f es (Some T) (tree_in p c.args.sig.now c.in-Def.f (Some c.in-Some.tree.now) c.in-Some.ensures))

pub returns-in-None-clause-is : goal.returns-in-None-clause-is
returns-in-None-clause-is c = λ s fs r.
    let p = c.args.pool.now in
    let g = signature_in p c.args.sig.now in
    let es = spine_in (tree p) c.args.term.spine.items in
    form_as g s fs c.in-Def.ensures.is refl (def_as g s fs c.in-Def.f es None (tree_in p c.args.sig.now c.in-Def.f None c.in-None.ensures))

pub returns-in-Lam-clause-below : goal.returns-in-Lam-clause-below
returns-in-Lam-clause-below c =
    let h = c.requires.term.0 in
    let b = c.in-Lam.ensures.below.1 in
    c.at_lambda.ensures.below (length c.args.pool.now.trees) h (omega (arith, h, b)) c.requires.term.1

pub returns-in-Lam-clause-is : goal.returns-in-Lam-clause-is
returns-in-Lam-clause-is c = λ s fs r. c.at_lambda.ensures.is (tree c.args.pool.now) (signature_in c.args.pool.now c.args.sig.now) s fs c.in-Lam.name (tree c.args.pool.now c.in-Lam.dom) c.in-Lam.ensures.is

pub returns-in-Con-clause-below : goal.returns-in-Con-clause-below
returns-in-Con-clause-below c = c.at_constructor.ensures.below (length c.args.pool.now.trees) c.requires.term.0 c.requires.term.1

pub returns-in-Con-clause-is : goal.returns-in-Con-clause-is
returns-in-Con-clause-is c = λ s fs r. c.at_constructor.ensures.is c.args.pool.now s fs (args c.args.pool.now c.in-Con.params) c.in-Con.ensures.is
