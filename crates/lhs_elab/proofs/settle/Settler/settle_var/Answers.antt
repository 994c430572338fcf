use Rattle.std.proofs.Common.{◌≡◌, ◌++◌, length, append-nil, ap, sym, subst, ◌∙◌, refl}
use Rattle.std.specs.Prelude.{IfOk, OnOk}
use Rattle.core_rules.specs.Signature.{AbsurdPat}
use Rattle.core_terms.specs.Pattern.{origin_of, shape_of}
use Rattle.cover_rules.specs.LeftSide.{shape_named}
use Rattle.lhs_rules.specs.Patterns.{dots_from, settled_spot, shape_dotted}
use Rattle.lhs_rules.specs.Spots.{AtCon, AtValue, AtVar, Spot, spot_at}
use Rattle.term_pool.specs.Pool.{tree}
use Rattle.lhs_elab.specs.Lefts.{SpotBelow, placed_in, spot_in}
use Rattle.lhs_elab.specs.Settled.{IsSettled, dots_of, left_of, named_of}
use Rattle.lhs_elab.proofs.settle.Settler.settle_var.Goals as goal

pub returns-in-Var-clause-named : goal.returns-in-Var-clause-named
returns-in-Var-clause-named c =
    let x = c.args.self.now in
    let o = origin_of c.args.origin.now in
    let e : AtVar c.in-Var.level ≡ spot_at (left_of x) c.args.number = sym (ap (spot_in (tree x.pool.now)) c.in-Var.is) ∙ c.spot_of.ensures.is x.pool.now in
    subst (λ (v : Spot). OnOk c.settle_level.result (named_of c.settle_level.new.self ≡ named_of x ++ shape_named (settled_spot (left_of x).context o v) o)) e c.settle_level.ensures.named

pub returns-in-Var-clause-dots : goal.returns-in-Var-clause-dots
returns-in-Var-clause-dots c =
    let x = c.args.self.now in
    let o = origin_of c.args.origin.now in
    let e : AtVar c.in-Var.level ≡ spot_at (left_of x) c.args.number = sym (ap (spot_in (tree x.pool.now)) c.in-Var.is) ∙ c.spot_of.ensures.is x.pool.now in
    subst (λ (v : Spot). OnOk c.settle_level.result (dots_of c.settle_level.new.self ≡ dots_of x ++ dots_from (length x.dots.now.items) (shape_dotted (settled_spot (left_of x).context o v)))) e c.settle_level.ensures.dots

pub returns-in-Var-clause-is : goal.returns-in-Var-clause-is
returns-in-Var-clause-is c =
    let x = c.args.self.now in
    let o = origin_of c.args.origin.now in
    let e : AtVar c.in-Var.level ≡ spot_at (left_of x) c.args.number = sym (ap (spot_in (tree x.pool.now)) c.in-Var.is) ∙ c.spot_of.ensures.is x.pool.now in
    subst (λ (v : Spot). IfOk c.settle_level.result (λ s. IsSettled c.settle_level.new.self (settled_spot (left_of x).context o v) (shape_of s))) e c.settle_level.ensures.is

pub returns-in-Value-clause-named : goal.returns-in-Value-clause-named
returns-in-Value-clause-named c =
    let x = c.args.self.now in
    let o = origin_of c.args.origin.now in
    let e : AtValue (placed_in (tree x.pool.now) c.in-Value.placed) ≡ spot_at (left_of x) c.args.number = sym (ap (spot_in (tree x.pool.now)) c.in-Value.is) ∙ c.spot_of.ensures.is x.pool.now in
    subst (λ (v : Spot). OnOk c.settle_value.result (named_of c.settle_value.new.self ≡ named_of x ++ shape_named (settled_spot (left_of x).context o v) o)) e c.settle_value.ensures.named

pub returns-in-Value-clause-dots : goal.returns-in-Value-clause-dots
returns-in-Value-clause-dots c =
    let x = c.args.self.now in
    let o = origin_of c.args.origin.now in
    let e : AtValue (placed_in (tree x.pool.now) c.in-Value.placed) ≡ spot_at (left_of x) c.args.number = sym (ap (spot_in (tree x.pool.now)) c.in-Value.is) ∙ c.spot_of.ensures.is x.pool.now in
    subst (λ (v : Spot). OnOk c.settle_value.result (dots_of c.settle_value.new.self ≡ dots_of x ++ dots_from (length x.dots.now.items) (shape_dotted (settled_spot (left_of x).context o v)))) e c.settle_value.ensures.dots

pub returns-in-Value-clause-is : goal.returns-in-Value-clause-is
returns-in-Value-clause-is c =
    let x = c.args.self.now in
    let o = origin_of c.args.origin.now in
    let e : AtValue (placed_in (tree x.pool.now) c.in-Value.placed) ≡ spot_at (left_of x) c.args.number = sym (ap (spot_in (tree x.pool.now)) c.in-Value.is) ∙ c.spot_of.ensures.is x.pool.now in
    subst (λ (v : Spot). IfOk c.settle_value.result (λ s. IsSettled c.settle_value.new.self (settled_spot (left_of x).context o v) (shape_of s))) e c.settle_value.ensures.is

pub returns-in-Con-clause-named : goal.returns-in-Con-clause-named
returns-in-Con-clause-named c =
    let x = c.args.self.now in
    let o = origin_of c.args.origin.now in
    let e : AtCon ≡ spot_at (left_of x) c.args.number = sym (ap (spot_in (tree x.pool.now)) c.in-Con.is) ∙ c.spot_of.ensures.is x.pool.now in
    subst (λ (v : Spot). named_of x ≡ named_of x ++ shape_named (settled_spot (left_of x).context o v) o) e (sym (append-nil (named_of x)))

pub returns-in-Con-clause-dots : goal.returns-in-Con-clause-dots
returns-in-Con-clause-dots c =
    let x = c.args.self.now in
    let o = origin_of c.args.origin.now in
    let e : AtCon ≡ spot_at (left_of x) c.args.number = sym (ap (spot_in (tree x.pool.now)) c.in-Con.is) ∙ c.spot_of.ensures.is x.pool.now in
    subst (λ (v : Spot). dots_of x ≡ dots_of x ++ dots_from (length x.dots.now.items) (shape_dotted (settled_spot (left_of x).context o v))) e (sym (append-nil (dots_of x)))

pub returns-in-Con-clause-is : goal.returns-in-Con-clause-is
returns-in-Con-clause-is c =
    let x = c.args.self.now in
    let o = origin_of c.args.origin.now in
    let e : AtCon ≡ spot_at (left_of x) c.args.number = sym (ap (spot_in (tree x.pool.now)) c.in-Con.is) ∙ c.spot_of.ensures.is x.pool.now in
    subst (λ (v : Spot). IsSettled x (settled_spot (left_of x).context o v) AbsurdPat) e (record { below = tt; is = refl })

pub settle_level-requires : goal.settle_level-requires
settle_level-requires c =
    let x = c.args.self.now in
    record {
      ready = c.requires.ready;
      level = subst (SpotBelow (length x.pool.now.trees) (length x.left.now.context.items)) c.in-Var.is (c.spot_of.ensures.below (length x.pool.now.trees) c.requires.ready.left);
    }

pub settle_value-requires : goal.settle_value-requires
settle_value-requires c =
    let x = c.args.self.now in
    let b = subst (SpotBelow (length x.pool.now.trees) (length x.left.now.context.items)) c.in-Value.is (c.spot_of.ensures.below (length x.pool.now.trees) c.requires.ready.left) in
    record { ready = c.requires.ready; value = b.0; ty = b.1 }
