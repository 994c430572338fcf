use lib.Utf8.{encode}
use Rattle.std.proofs.Common.{◌≡◌, ◌++◌, sym, ◌∙◌, arith}
use Rattle.el_outside.proofs.Steps.{start_mark, start_other, start_nil, mark_room}
use Rattle.el_outside.proofs.cursor.Cursor.new.Goals as goal

pub invariant_of-result-then-c-eq65279 : goal.invariant_of-result-then-c-eq65279
invariant_of-result-then-c-eq65279 c =
    let split : c.args.text.now ≡ encode c.in-Some.c ++ c.as_str.result.now = sym c.chars-after.ensures.rest ∙ c.in-Some.ensures.steps.0 ∙ cc (c.as_str.ensures) in
    omega (arith, c.requires, mark_room _ _ _ split c.if-c-eq65279.true)

pub returns-in_default : goal.returns-in_default
returns-in_default c = start_nil _ (rw c.chars-after.ensures.rest at c.in_default.ensures.steps.0.0)

pub returns-then-c-eq65279 : goal.returns-then-c-eq65279
returns-then-c-eq65279 c =
    let split = sym c.chars-after.ensures.rest ∙ c.in-Some.ensures.steps.0 ∙ cc (c.as_str.ensures) in
    start_mark _ _ _ c.utf8.text split c.if-c-eq65279.true

pub returns : goal.returns
returns c = let split = sym c.chars-after.ensures.rest ∙ c.in-Some.ensures.steps.0 in start_other _ _ _ c.utf8.text split c.if-c-eq65279.false
