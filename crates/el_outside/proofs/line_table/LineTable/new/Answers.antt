use Rattle.std.proofs.Common.{ap, length}
use Rattle.el_outside.proofs.LineStarts.{walked_none, walked_column, walked_line}
use Rattle.el_outside.proofs.line_table.LineTable.new.Goals as goal

pub chars-init : goal.chars-init
chars-init c = rw c.new-cursor.ensures (walked_none c.args.text.now c.new-starts.result.items c.utf8.text (ap length c.new-starts.ensures.items))

pub chars-preserved-then-c-ne10 : goal.chars-preserved-then-c-ne10
chars-preserved-then-c-ne10 c = rw c.next_char.ensures.moved (walked_column c.args.text.now c.chars.starts.items c.utf8.text c.chars.cursor c.in-Some.c _ c.in-Some.ensures.first c.chars.invariant c.if-c-ne10.true)

pub chars-preserved : goal.chars-preserved
chars-preserved c = rw (c.in_ok-push.ensures.items, c.at.ensures, c.next_char.ensures.moved) (walked_line c.args.text.now c.chars.starts.items c.utf8.text c.chars.cursor c.in-Some.c _ c.in-Some.ensures.first c.chars.invariant c.if-c-ne10.false)
