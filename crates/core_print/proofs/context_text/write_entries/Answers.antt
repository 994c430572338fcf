use Rattle.std.proofs.Common.{ℕ, ◌++◌, false, get_or, take, refl, sym, ap, ◌∙◌, arith}
use Rattle.std.specs.Prelude.{string_bytes}
use Rattle.core_rules.specs.Bounded.{full}
use Rattle.core_rules.specs.Signature.{Entry}
use Rattle.core_rules.specs.Substitution.{replace}
use Rattle.core_terms.specs.Solutions.{solved_in}
use Rattle.term_pool.specs.Pool.{tree}
use Rattle.core_print.specs.Apart.{Text}
use Rattle.core_print.specs.Views.{world_of}
use Rattle.core_print.proofs.Contexts.{get_or_within, lines_more, lines_whole}
use Rattle.core_print.proofs.context_text.write_entries.Goals as goal

pub returns : goal.returns
returns g c = λ a.
    let w = world_of c.args.source.now.view in
    let p = c.args.source.now.pool.now in
    let s = solved_in p (g.S.Solutions.solution c.args.sol.now) in
    let n = c.loop-n.n in
    c.loop-n.invariant a
    ∙ ap (λ (t : Text). string_bytes c.args.out.now ++ t) (lines_whole w w.names (λ e. replace (full s a) (tree p e.ty)) c.args.lines.now.labels.now c.args.lines.now.marks.now c.args.lines.now.entries.now n (omega arith) (omega arith) (omega arith))

pub loop-n-preserved : goal.loop-n-preserved
loop-n-preserved g c = λ a.
    let w = world_of c.args.source.now.view in
    let p = c.args.source.now.pool.now in
    let s = solved_in p (g.S.Solutions.solution c.args.sol.now) in
    let n = c.loop-n.n in
    let ls = c.args.lines.now.labels.now in
    let ms = c.args.lines.now.marks.now in
    let m = get_or ms n false in
    let l = get_or ls n c.index-lines-n.result in
    lines_more w w.names (λ t. replace (full s a) (tree p t)) ls ms c.args.lines.now.entries.now n l m c.index-lines-n-in-loop-n.result c.type_of.result (take n ls)
    (string_bytes c.args.out.now) (string_bytes c.loop-n.out) (string_bytes c.write_entry.new.out) (omega arith) (omega arith) (omega arith)
    (get_or_within ls n c.index-lines-n.result l (omega arith)) (get_or_within ms n false m (omega arith)) c.index-lines-n-in-loop-n.is (c.type_of.ensures ∙ ap (λ (e : Entry ℕ). e.ty) (sym c.index-lines-n-in-loop-n.is)) refl (c.loop-n.invariant a) (c.in_ok-write_entry.ensures a)
