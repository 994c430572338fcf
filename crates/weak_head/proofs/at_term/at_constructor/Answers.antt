use Rattle.std.proofs.Common.{[], Some, None, take, sym, ap, ◌∙◌, refl}
use Rattle.term_pool.specs.Pool.{tree}
use Rattle.core_terms.specs.Signature.{signature_in}
use Rattle.weak_head.specs.Elims.{args_of, spine_in}
use Rattle.weak_head.specs.Pending.{AtStep, On}
use Rattle.weak_head.proofs.Moves.{taking, taken_none, taken_at, length_before, args_place, term_as, con_as}
use Rattle.weak_head.proofs.Calls.{form_as}
use Rattle.weak_head.proofs.at_term.at_constructor.Goals as goal

pub returns-in_default-clause-is : goal.returns-in_default-clause-is
returns-in_default-clause-is c = λ p s fs ps e.
    let g = signature_in p c.args.sig.now in
    let es = spine_in (tree p) c.args.spine.items in
    form_as g s fs e refl (con_as g s fs c.args.con ps es None (taken_none g c.args.con [] es (c.in_default.ensures.is (tree p))))

pub returns-in_default-place_of-clause-is : goal.returns-in_default-place_of-clause-is
returns-in_default-place_of-clause-is c = λ p s fs ps e.
    let g = signature_in p c.args.sig.now in
    let es = spine_in (tree p) c.args.spine.items in
    let n = c.in-Some.found.0 in
    let h = c.in-Some.ensures.is (tree p) in
    form_as g s fs e refl (con_as g s fs c.args.con ps es None
    (taken_at g c.args.con [] es n c.in-Some.found.1 h ∙ ap (taking es n) (c.in_default-place_of.ensures.is p (args_of (take n es)) (length_before es n c.in-Some.found.1 h))))

pub returns-in-Some-argument_at-clause-below : goal.returns-in-Some-argument_at-clause-below
returns-in-Some-argument_at-clause-below c = λ n h b. (c.in-Some-argument_at.ensures.below n b, c.without.ensures.within n b)

pub returns-in-Some-argument_at-clause-is : goal.returns-in-Some-argument_at-clause-is
returns-in-Some-argument_at-clause-is c = λ p s fs ps e.
    let g = signature_in p c.args.sig.now in
    let es = spine_in (tree p) c.args.spine.items in
    let n = c.in-Some.found.0 in
    let i = c.in-Some-place_of.at in
    let h = c.in-Some.ensures.is (tree p) in
    let u = tree p c.in-Some-argument_at.arg in
    let a = c.in-Some-place_of.ensures.is p (args_of (take n es)) (length_before es n c.in-Some.found.1 h) ∙ args_place es n i h.before c.in-Some-place_of.ensures.within ∙ sym (c.in-Some-argument_at.ensures.is (tree p)) in
    ap (λ l. On (AtStep u l) fs) (c.without.ensures.is (tree p))
    ∙ term_as g s fs e refl (con_as g s fs c.args.con ps es (taking es n (Some u)) (taken_at g c.args.con [] es n c.in-Some.found.1 h ∙ ap (taking es n) a))

pub returns-in-None-clause-is : goal.returns-in-None-clause-is
returns-in-None-clause-is c = λ p s fs ps e.
    let g = signature_in p c.args.sig.now in
    let es = spine_in (tree p) c.args.spine.items in
    let n = c.in-Some.found.0 in
    let i = c.in-Some-place_of.at in
    let h = c.in-Some.ensures.is (tree p) in
    let a = c.in-Some-place_of.ensures.is p (args_of (take n es)) (length_before es n c.in-Some.found.1 h) ∙ args_place es n i h.before c.in-Some-place_of.ensures.within ∙ sym (c.in-None.ensures.is (tree p)) in
    form_as g s fs e refl (con_as g s fs c.args.con ps es None (taken_at g c.args.con [] es n c.in-Some.found.1 h ∙ ap (taking es n) a))
