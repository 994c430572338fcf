use Rattle.std.proofs.Common.{◌≡◌, ◌<◌, ◌-◌, ◌∙◌, ap, sym, ℕ, List, Some, reverse, length, rules, arith}
use Rattle.std.proofs.lemmas.Grind.{get_or_default_zero}
use Rattle.std.proofs.lemmas.List.{length-reverse}
use Rattle.scope_table.specs.Known.{place_of}
use Rattle.scope_table.specs.Innermost.{depth_of}
use Rattle.scope_table.proofs.Innermost.{found, not_now, never, depth_within, place_within}
use Rattle.scope_table.proofs.locals.Locals.find.Goals as goal

pub returns-in_default : goal.returns-in_default
returns-in_default c =
    sym (never c.self.inside.texts c.args.text.now (reverse c.self.inside.variables.items) (sym c.find.ensures ∙ c.in_default.is) c.self.invariant.hide)
    ∙ ap (λ (ls : List (List ℕ)). place_of ls c.args.text.now) c.self.view_is

pub index-depth-requires : goal.index-depth-requires
index-depth-requires c =
    let lt : c.in-Some.at < length c.self.inside.texts = place_within c.self.inside.texts c.args.text.now c.in-Some.at (sym c.find.ensures ∙ c.in-Some.is) in
    let room = c.self.invariant.room in
    search rules

pub returns-then-depth-eq0 : goal.returns-then-depth-eq0
returns-then-depth-eq0 c =
    let at : place_of c.self.inside.texts c.args.text.now ≡ Some c.in-Some.at = sym c.find.ensures ∙ c.in-Some.is in
    let lt : c.in-Some.at < length c.self.inside.innermost.items = omega (arith, place_within c.self.inside.texts c.args.text.now c.in-Some.at at, c.self.invariant.room) in
    let none : depth_of (reverse c.self.inside.variables.items) c.in-Some.at ≡ 0 =
    sym (c.self.invariant.innermost c.in-Some.at) ∙ sym (get_or_default_zero c.self.inside.innermost.items c.in-Some.at c.index-depth.result.now lt) ∙ sym c.index-depth.ensures ∙ c.if-depth-eq0.true in
    sym (not_now c.self.inside.texts c.args.text.now c.in-Some.at (reverse c.self.inside.variables.items) at c.self.invariant.hide none)
    ∙ ap (λ (ls : List (List ℕ)). place_of ls c.args.text.now) c.self.view_is

pub overflow_sub-result : goal.overflow_sub-result
overflow_sub-result c =
    let at : place_of c.self.inside.texts c.args.text.now ≡ Some c.in-Some.at = sym c.find.ensures ∙ c.in-Some.is in
    let lt : c.in-Some.at < length c.self.inside.innermost.items = omega (arith, place_within c.self.inside.texts c.args.text.now c.in-Some.at at, c.self.invariant.room) in
    let depth : c.index-depth.result.now ≡ depth_of (reverse c.self.inside.variables.items) c.in-Some.at =
    c.index-depth.ensures ∙ get_or_default_zero c.self.inside.innermost.items c.in-Some.at c.index-depth.result.now lt ∙ c.self.invariant.innermost c.in-Some.at in
    let le = depth_within (reverse c.self.inside.variables.items) c.in-Some.at in
    let len = length-reverse c.self.inside.variables.items in
    search rules

pub returns : goal.returns
returns c =
    let at : place_of c.self.inside.texts c.args.text.now ≡ Some c.in-Some.at = sym c.find.ensures ∙ c.in-Some.is in
    let lt : c.in-Some.at < length c.self.inside.innermost.items = omega (arith, place_within c.self.inside.texts c.args.text.now c.in-Some.at at, c.self.invariant.room) in
    let depth : c.index-depth.result.now ≡ depth_of (reverse c.self.inside.variables.items) c.in-Some.at =
    c.index-depth.ensures ∙ get_or_default_zero c.self.inside.innermost.items c.in-Some.at c.index-depth.result.now lt ∙ c.self.invariant.innermost c.in-Some.at in
    let some : 0 < depth_of (reverse c.self.inside.variables.items) c.in-Some.at = omega arith in
    let len : c.len.result ≡ length (reverse c.self.inside.variables.items) = search (rules, length-reverse c.self.inside.variables.items) in
    ap (λ (n : ℕ). Some (n - c.index-depth.result.now)) len ∙ ap (λ (d : ℕ). Some (length (reverse c.self.inside.variables.items) - d)) depth
    ∙ sym (found c.self.inside.texts c.args.text.now c.in-Some.at (reverse c.self.inside.variables.items) at c.self.invariant.hide some)
    ∙ ap (λ (ls : List (List ℕ)). place_of ls c.args.text.now) c.self.view_is
