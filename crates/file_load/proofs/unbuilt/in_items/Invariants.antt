use Rattle.std.proofs.Common.{◌≡◌, map, drop}
use Rattle.file_load.specs.Unbuilt as spec
use Rattle.file_load.specs.Unbuilt.{first_of}
use Rattle.file_load.proofs.unbuilt.in_items.Given as goal

abbrev pub invariant-loop-item : goal.invariant-loop-item
invariant-loop-item l = first_of (map spec.in_item l.items) ≡ first_of (map spec.in_item (drop l.item-index l.items))
