use Rattle.std.proofs.Common.{◌≡◌, ◌++◌, length, sym, subst}
use Rattle.std.specs.Prelude.{IfOk, OnOk}
use Rattle.core_rules.specs.Signature.{PatShape}
use Rattle.core_terms.specs.Pattern.{origin_of, shape_of}
use Rattle.core_terms.specs.declared.pattern.Origin.{Origin as CodeOrigin}
use Rattle.cover_rules.specs.LeftSide.{Held, shape_named}
use Rattle.lhs_rules.specs.Patterns.{dots_from, placed_held, settled_value, shape_dotted}
use Rattle.term_pool.specs.Pool.{tree}
use Rattle.lhs_elab.specs.Lefts.{placed_in}
use Rattle.lhs_elab.specs.Settled.{IsSettled, dots_of, left_of, named_of}
use Rattle.lhs_elab.proofs.Holding.{dotted-dots, dotted-is, dotted-named, solved-dots, solved-is, solved-named}
use Rattle.lhs_elab.proofs.Settling.{settling-kept}
use Rattle.lhs_elab.proofs.SettlingAll.{value-settled}
use Rattle.lhs_elab.proofs.settle.Settler.settle_value.Goals as goal

pub dotted-requires : goal.dotted-requires
dotted-requires c =
    let k = c.in_ok-held.ensures in
    record { ready = settling-kept c.args.self.now c.value.new.self c.requires.ready k.grows k.named k.dots; held = k.below }

pub solved-requires : goal.solved-requires
solved-requires c =
    let k = c.in_ok-held.ensures in
    record { ready = settling-kept c.args.self.now c.value.new.self c.requires.ready k.grows k.named k.dots; held = k.below }

pub returns-in-Written-clause-named : goal.returns-in-Written-clause-named
returns-in-Written-clause-named c =
    let x = c.args.self.now in
    let y = c.value.new.self in
    let z = c.dotted.new.self in
    let k = c.in_ok-held.ensures in
    let v = placed_held (left_of x).context (placed_in (tree x.pool.now) c.args.placed) in
    let from = origin_of c.args.origin.now in
    subst (λ (o : CodeOrigin). OnOk c.dotted.result (named_of z ≡ named_of x ++ shape_named (settled_value (origin_of o) v) from)) (sym c.in-Written.is) (dotted-named x y z c.requires.ready k.grows k.named k.dots c.dotted.ensures.pool c.in_ok-held.held k.below v k.is from c.dotted.result c.dotted.ensures.named)

pub returns-in-Written-clause-dots : goal.returns-in-Written-clause-dots
returns-in-Written-clause-dots c =
    let x = c.args.self.now in
    let y = c.value.new.self in
    let z = c.dotted.new.self in
    let k = c.in_ok-held.ensures in
    let v = placed_held (left_of x).context (placed_in (tree x.pool.now) c.args.placed) in
    let from = origin_of c.args.origin.now in
    subst (λ (o : CodeOrigin). OnOk c.dotted.result (dots_of z ≡ dots_of x ++ dots_from (length x.dots.now.items) (shape_dotted (settled_value (origin_of o) v)))) (sym c.in-Written.is) (dotted-dots x y z c.requires.ready k.grows k.named k.dots c.dotted.ensures.pool c.in_ok-held.held k.below v k.is from c.dotted.result c.dotted.ensures.dots)

pub returns-in-Written-clause-is : goal.returns-in-Written-clause-is
returns-in-Written-clause-is c =
    let x = c.args.self.now in
    let y = c.value.new.self in
    let z = c.dotted.new.self in
    let k = c.in_ok-held.ensures in
    let v = placed_held (left_of x).context (placed_in (tree x.pool.now) c.args.placed) in
    let from = origin_of c.args.origin.now in
    subst (λ (o : CodeOrigin). IfOk c.dotted.result (λ s. IsSettled z (settled_value (origin_of o) v) (shape_of s))) (sym c.in-Written.is) (dotted-is x y z c.requires.ready k.grows k.named k.dots c.dotted.ensures.pool c.in_ok-held.held k.below v k.is from c.dotted.result c.dotted.ensures.is)

pub returns-in_default-clause-named : goal.returns-in_default-clause-named
returns-in_default-clause-named c =
    let x = c.args.self.now in
    let y = c.value.new.self in
    let z = c.solved.new.self in
    let k = c.in_ok-held.ensures in
    let v = placed_held (left_of x).context (placed_in (tree x.pool.now) c.args.placed) in
    let from = origin_of c.args.origin.now in
    subst (λ (q : PatShape Held). OnOk c.solved.result (named_of z ≡ named_of x ++ shape_named q from)) (sym (value-settled c.args.origin.now c.in_default.not-Written v)) (solved-named x y z c.requires.ready k.grows k.named k.dots c.solved.ensures.pool c.in_ok-held.held k.below v k.is from c.solved.result c.solved.ensures.named)

pub returns-in_default-clause-dots : goal.returns-in_default-clause-dots
returns-in_default-clause-dots c =
    let x = c.args.self.now in
    let y = c.value.new.self in
    let z = c.solved.new.self in
    let k = c.in_ok-held.ensures in
    let v = placed_held (left_of x).context (placed_in (tree x.pool.now) c.args.placed) in
    let from = origin_of c.args.origin.now in
    subst (λ (q : PatShape Held). OnOk c.solved.result (dots_of z ≡ dots_of x ++ dots_from (length x.dots.now.items) (shape_dotted q))) (sym (value-settled c.args.origin.now c.in_default.not-Written v)) (solved-dots x y z c.requires.ready k.grows k.named k.dots c.solved.ensures.pool c.in_ok-held.held k.below v k.is from c.solved.result c.solved.ensures.dots)

pub returns-in_default-clause-is : goal.returns-in_default-clause-is
returns-in_default-clause-is c =
    let x = c.args.self.now in
    let y = c.value.new.self in
    let z = c.solved.new.self in
    let k = c.in_ok-held.ensures in
    let v = placed_held (left_of x).context (placed_in (tree x.pool.now) c.args.placed) in
    let from = origin_of c.args.origin.now in
    subst (λ (q : PatShape Held). IfOk c.solved.result (λ s. IsSettled z q (shape_of s))) (sym (value-settled c.args.origin.now c.in_default.not-Written v)) (solved-is x y z c.requires.ready k.grows k.named k.dots c.solved.ensures.pool c.in_ok-held.held k.below v k.is from c.solved.result c.solved.ensures.is)
