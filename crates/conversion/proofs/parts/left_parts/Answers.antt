use Rattle.std.proofs.Common.{length, ap, sym, ◌∙◌, subst}
use Rattle.core_rules.specs.Elimination.{elims}
use Rattle.core_rules.specs.Signature.{fields_of}
use Rattle.core_rules.specs.Bounded.{argument_parts, term_parts}
use Rattle.term_pool.specs.Pool.{tree}
use Rattle.core_terms.specs.Signature.{signature_in}
use Rattle.weak_head.specs.Elims.{AllBelow, AreArgs, args_of, spine_in}
use Rattle.conversion.proofs.Stays.{spine_more, spine_stays}
use Rattle.conversion.proofs.Fields.{fields_at, apart_left, value_left, like_none, like_some, below_some}
use Rattle.conversion.proofs.parts.left_parts.Goals as goal

pub returns-in_default-clause-is : goal.returns-in_default-clause-is
returns-in_default-clause-is c =
    let p = c.args.pool.now in
    let t = elims (tree p c.args.right.now.head) (spine_in (tree p) c.args.right.now.spine.items) in
    let fs = fields_of (signature_in p c.args.sig.now) c.args.fam in
    sym (apart_left (tree p) fs t c.args.left.now.spine.items c.requires.args (like_none (tree c.fields_like.new.pool) fs t c.args.left.now.spine.items c.in_ok-found.found c.in_default.not-Some c.in_ok-found.ensures.is))

pub returns-clause-is : goal.returns-clause-is
returns-clause-is c =
    let p = c.args.pool.now in
    let q = c.fields_like.new.pool in
    let ys = c.args.left.now.spine.items in
    let xs = c.in-Some.fields.items in
    let t = elims (tree p c.args.right.now.head) (spine_in (tree p) c.args.right.now.spine.items) in
    let fs = fields_of (signature_in p c.args.sig.now) c.args.fam in
    let stay = spine_stays c.in_ok-found.ensures.extends ys c.requires.left.1 in
    let h = like_some (tree q) fs t ys c.in_ok-found.found c.in-Some.fields c.in-Some.is c.in_ok-found.ensures.is in
    let a : _ = λ i. argument_parts (spine_in (tree q) (c.as_slice.ensures i)) (spine_in (tree q) (c.as_slice-2.ensures.value i)) in
    c.in_ok-made.ensures.is (tree q) ∙ a ∙ value_left (tree q) fs t ys (subst AreArgs (sym stay) c.requires.args) xs h
    ∙ ap (λ es. term_parts (args_of es) (fields_at (tree q) fs t ys (subst AreArgs (sym stay) c.requires.args))) stay

pub returns-clause-below : goal.returns-clause-below
returns-clause-below c =
    let n = length c.fields_like.new.pool.trees in
    c.in_ok-made.ensures.below n
    (subst (AllBelow n) (sym c.as_slice.ensures) (spine_more c.in_ok-found.ensures.extends c.args.left.now.spine.items c.requires.left.1))
    (subst (AllBelow n) (sym c.as_slice-2.ensures.value) (below_some n c.in_ok-found.found c.in-Some.fields c.in-Some.is c.in_ok-found.ensures.below))
