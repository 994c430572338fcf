use Rattle.std.proofs.Common.{◌-◌, ◌∷◌, [], length, map, reverse, ap, arith, length-append}
use Rattle.std.specs.Prelude.{◌&&◌, not}
use Rattle.core_print.specs.Apart.{is_among}
use Rattle.core_print.specs.ContextText.{is_sourced}
use Rattle.core_print.specs.Names.{name_text}
use Rattle.core_print.specs.Views.{variable_of, world_of}
use Rattle.core_print.proofs.Contexts.{scope_more}
use Rattle.core_print.proofs.scope.scope_marks.Goals as goal

pub loop-left-preserved : goal.loop-left-preserved
loop-left-preserved c =
    let w = world_of c.args.view.now in
    let vs = map variable_of c.args.outside.now.variables.now in
    let k = c.args.outside.now.count in
    let n = c.loop-left.left - 1 in
    let x = name_text w.names c.name_of.result in
    let mark = is_sourced vs k n x && not (is_among x (map (name_text w.names) (reverse c.loop-left.seen.names.items))) in
    record {
      within = omega arith;
      length = omega (arith, ap length c.in_ok-see.ensures.marks, length-append c.loop-left.seen.marks.items (mark ∷ []));
      is = scope_more w vs k c.args.entries.now c.loop-left.left n c.index-entries-left.result c.name_of.result c.loop-left.seen.marks.items c.see.new.seen.marks.items c.loop-left.seen.names.items c.see.new.seen.names.items
          (omega arith) (omega arith) c.index-entries-left.is c.name_of.ensures c.loop-left.invariant.is c.in_ok-see.ensures.marks c.in_ok-see.ensures.names;
    }
