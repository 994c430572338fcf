use Rattle.std.proofs.Common.{◌≡◌, ◌++◌, map, take}
use Rattle.conversion.specs.Pending.{work_of}
use Rattle.conversion.proofs.pending.open.Given as goal

abbrev pub invariant-loop-part : goal.invariant-loop-part
invariant-loop-part l = l.pending.items ≡ l.fn.pending.items ++ map (work_of l.under l.depth) (take l.part-index l.parts)
