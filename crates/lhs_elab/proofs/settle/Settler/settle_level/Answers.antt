use Rattle.std.proofs.Common.{◌≡◌, ◌-◌, ◌++◌, ℕ, length, append-nil, sym, subst, arith, refl}
use Rattle.std.specs.Prelude.{IfOk, OnOk}
use Rattle.core_rules.specs.Signature.{PatShape, VarPat}
use Rattle.core_terms.specs.Pattern.{origin_of, shape_of}
use Rattle.core_terms.specs.declared.pattern.Origin.{Origin as CodeOrigin}
use Rattle.cover_rules.specs.LeftSide.{Held, shape_named}
use Rattle.lhs_rules.specs.Patterns.{dots_from, settled_var, shape_dotted, variable_held}
use Rattle.lhs_rules.specs.Spots.{index_of}
use Rattle.lhs_elab.specs.Settled.{IsSettled, dots_of, left_of, named_of}
use Rattle.lhs_elab.proofs.Contexts.{context-length}
use Rattle.lhs_elab.proofs.Holding.{dotted-dots, dotted-is, dotted-named}
use Rattle.lhs_elab.proofs.Settling.{settling-kept}
use Rattle.lhs_elab.proofs.SettlingAll.{var-settled}
use Rattle.lhs_elab.proofs.settle.Settler.settle_level.Goals as goal

pub dotted-requires : goal.dotted-requires
dotted-requires c =
    let k = c.in_ok-held-in-Written.ensures in
    record { ready = settling-kept c.args.self.now c.variable.new.self c.requires.ready k.grows k.named k.dots; held = k.below }

pub returns-in_ok-held-in-Written-clause-named : goal.returns-in_ok-held-in-Written-clause-named
returns-in_ok-held-in-Written-clause-named c =
    let x = c.args.self.now in
    let y = c.variable.new.self in
    let z = c.dotted.new.self in
    let k = c.in_ok-held-in-Written.ensures in
    let i = index_of (left_of x).context c.args.level in
    let v = variable_held (left_of x).context i in
    subst (λ (o : CodeOrigin). OnOk c.dotted.result (named_of z ≡ named_of x ++ shape_named (settled_var (origin_of o) i v) (origin_of c.args.origin.now))) (sym c.in-Written.is) (dotted-named x y z c.requires.ready k.grows k.named k.dots c.dotted.ensures.pool c.in_ok-held-in-Written.held k.below v k.is (origin_of c.args.origin.now) c.dotted.result c.dotted.ensures.named)

pub returns-in_ok-held-in-Written-clause-dots : goal.returns-in_ok-held-in-Written-clause-dots
returns-in_ok-held-in-Written-clause-dots c =
    let x = c.args.self.now in
    let y = c.variable.new.self in
    let z = c.dotted.new.self in
    let k = c.in_ok-held-in-Written.ensures in
    let i = index_of (left_of x).context c.args.level in
    let v = variable_held (left_of x).context i in
    subst (λ (o : CodeOrigin). OnOk c.dotted.result (dots_of z ≡ dots_of x ++ dots_from (length x.dots.now.items) (shape_dotted (settled_var (origin_of o) i v)))) (sym c.in-Written.is) (dotted-dots x y z c.requires.ready k.grows k.named k.dots c.dotted.ensures.pool c.in_ok-held-in-Written.held k.below v k.is (origin_of c.args.origin.now) c.dotted.result c.dotted.ensures.dots)

pub returns-in_ok-held-in-Written-clause-is : goal.returns-in_ok-held-in-Written-clause-is
returns-in_ok-held-in-Written-clause-is c =
    let x = c.args.self.now in
    let y = c.variable.new.self in
    let z = c.dotted.new.self in
    let k = c.in_ok-held-in-Written.ensures in
    let i = index_of (left_of x).context c.args.level in
    let v = variable_held (left_of x).context i in
    subst (λ (o : CodeOrigin). IfOk c.dotted.result (λ s. IsSettled z (settled_var (origin_of o) i v) (shape_of s))) (sym c.in-Written.is) (dotted-is x y z c.requires.ready k.grows k.named k.dots c.dotted.ensures.pool c.in_ok-held-in-Written.held k.below v k.is (origin_of c.args.origin.now) c.dotted.result c.dotted.ensures.is)

pub returns-in_ok-count-in_default-clause-named : goal.returns-in_ok-count-in_default-clause-named
returns-in_ok-count-in_default-clause-named c =
    let x = c.args.self.now in
    let i = index_of (left_of x).context c.args.level in
    let v = variable_held (left_of x).context i in
    let e : settled_var (origin_of c.args.origin.now) i v ≡ VarPat i = var-settled c.args.origin.now c.in_default.not-Written i v in
    subst (λ (q : PatShape Held). named_of x ≡ named_of x ++ shape_named q (origin_of c.args.origin.now)) (sym e) (sym (append-nil (named_of x)))

pub returns-in_ok-count-in_default-clause-dots : goal.returns-in_ok-count-in_default-clause-dots
returns-in_ok-count-in_default-clause-dots c =
    let x = c.args.self.now in
    let i = index_of (left_of x).context c.args.level in
    let v = variable_held (left_of x).context i in
    let e : settled_var (origin_of c.args.origin.now) i v ≡ VarPat i = var-settled c.args.origin.now c.in_default.not-Written i v in
    subst (λ (q : PatShape Held). dots_of x ≡ dots_of x ++ dots_from (length x.dots.now.items) (shape_dotted q)) (sym e) (sym (append-nil (dots_of x)))

pub returns-in_ok-count-in_default-clause-is : goal.returns-in_ok-count-in_default-clause-is
returns-in_ok-count-in_default-clause-is c =
    let x = c.args.self.now in
    let i = index_of (left_of x).context c.args.level in
    let v = variable_held (left_of x).context i in
    let e : settled_var (origin_of c.args.origin.now) i v ≡ VarPat i = var-settled c.args.origin.now c.in_default.not-Written i v in
    let n : i ≡ c.in_ok-count-in_default.count - c.args.level - 1 = omega (arith, c.in_ok-count-in_default.ensures, context-length x.pool.now x.left.now.context.items) in
    subst (λ (q : PatShape Held). IsSettled x q (VarPat (c.in_ok-count-in_default.count - c.args.level - 1))) (sym e) (subst (λ (j : ℕ). IsSettled x (VarPat i) (VarPat j)) n (record { below = tt; is = refl }))
