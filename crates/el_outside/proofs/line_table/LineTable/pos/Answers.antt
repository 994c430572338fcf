use Rattle.std.proofs.Common.{◌≡◌, ◌-◌, ◌+◌, ◌≤◌, length, take, drop, arith, ap, ◌∙◌, List, ℕ, subst}
use Rattle.std.specs.Str.{chars, IsUtf8}
use Rattle.el_outside.specs.Place.{Rest, pos, end_of}
use Rattle.el_outside.specs.Lines.{BeginsAt}
use Rattle.el_outside.proofs.LineStarts.{begins_last, line_room, pos_in_line}
use Rattle.el_outside.proofs.line_table.LineTable.pos.Goals as goal
use Rattle.el_outside.proofs.line_table.LineTable.pos.Goals.{After-range-line}

begins : (c : After-range-line) → BeginsAt c.self.inside.text.now (c.starts_up_to-later.result + 1) c.index-start.result.now
begins c =
    let bound : c.starts_up_to-later.result ≤ length c.self.inside.starts.items = omega (arith, c.starts_up_to-later.ensures.bound, ap length c.deref.ensures.value) in
    begins_last c.self.inside.text.now c.self.inside.starts.items c.starts_up_to-later.result c.in-Some.last c.index-start.result.now c.self.invariant.starts bound c.in-Some.ensures c.index-start.ensures

pub overflow_cast-later : goal.overflow_cast-later
overflow_cast-later c = omega (arith, line_room c.self.inside.text.now (c.starts_up_to-later.result + 1) c.index-start.result.now (begins c))

pub overflow_add-later : goal.overflow_add-later
overflow_add-later c = omega (arith, line_room c.self.inside.text.now (c.starts_up_to-later.result + 1) c.index-start.result.now (begins c), (begins c).border.0, c.self.invariant.fits)

pub at_line-requires-clause-line : goal.at_line-requires-clause-line
at_line-requires-clause-line c = line_room c.self.inside.text.now (c.starts_up_to-later.result + 1) c.index-start.result.now (begins c)

pub returns : goal.returns
returns c =
    let text = c.self.inside.text.now in
    let line = c.starts_up_to-later.result + 1 in
    let start = c.index-start.result.now in
    let b = begins (goal.at.returns c).After-range-line in
    let mid : IsUtf8 (take (c.args.at - start) (drop start text)) = subst IsUtf8 c.range-line.ensures.value c.range-line.utf8 in
    let here = pos_in_line text line start c.args.at c.self.invariant.utf8 (omega (arith, c.in-Some.ensures.0)) (omega (arith, c.range-line.ensures.len)) b.border mid b in
    let shown : c.at_line.result ≡ record { chars = chars (take (c.args.at - start) (drop start text)); place = record { at = start; line = line; col = 1 } } = c.at_line.ensures ∙ ap (λ (x : List ℕ). record { chars = chars x; place = record { at = start; line = line; col = 1 } }) c.range-line.ensures.value in
    rw (← c.self.view_is) (c.end_of-2.ensures ∙ ap (λ (r : Rest). pos (end_of r)) shown ∙ ap pos here)
