use Rattle.std.proofs.Common.{◌-◌, ◌∙◌, length, take, drop, sym}
use Rattle.std.proofs.lemmas.Result.{err_from_is_err_and}
use Rattle.conversion.proofs.Slices.{none_within, unrolled}
use Rattle.declared_types.proofs.Grown.{con-within}
use Rattle.kernel_rules.specs.Outcome.{Gives, Refuses}
use Rattle.tree_kernel.specs.Nodes.{ReadsAbsurd, ReadsRefuted}
use Rattle.tree_kernel.proofs.Declaring.{decl-weaker}
use Rattle.tree_kernel.proofs.Reading.{Grows-refl, Grows-trans, ready_kept}
use Rattle.tree_kernel.proofs.Refuting.{refutes-first, con-below, refutes-short, refutes-stop, refutes-next, refutes-all, refutes-long}
use Rattle.tree_kernel.proofs.Splits.{split-within, refuted-here}
use Rattle.tree_kernel.proofs.reader.Reader.all_refuted.Goals as goal

pub loop-left-init : goal.loop-left-init
loop-left-init c =
    let x = c.args.self.now in
    record { grows = Grows-refl x; refutes = refutes-first x c.args.split.now c.args.cons.now c.args.decls.now c.requires.decls }

pub is_refuted-requires-clause-ready : goal.is_refuted-requires-clause-ready
is_refuted-requires-clause-ready c = ready_kept c.requires.ready c.loop-left.invariant.grows

pub is_refuted-requires-clause-split : goal.is_refuted-requires-clause-split
is_refuted-requires-clause-split c = (
  split-within c.args.self.now.pool.now c.loop-left.self.pool.now c.loop-left.invariant.grows.extends c.args.split.now
      c.requires.split.0,
  c.requires.split.1,
)

pub is_refuted-requires-clause-decl : goal.is_refuted-requires-clause-decl
is_refuted-requires-clause-decl c =
    let i = c.loop-left.invariant in
    let left = c.loop-left.left.now in
    let d = c.decl-item.result in
    con-within c.args.self.now.pool.now c.loop-left.self.pool.now i.grows.extends d
    (con-below c.args.self.now c.args.split.now c.args.cons.now c.loop-left.ids.now c.args.decls.now left (take (length left - 1) (drop 1 left)) d i.refutes
    (unrolled left d c.in-len1-up.len_at_least c.decl-item.is))

pub returns-in_default-ids-clause-is : goal.returns-in_default-ids-clause-is
returns-in_default-ids-clause-is c =
    let left = c.loop-left.left.now in
    let d = c.decl-item.result in
    refutes-short c.args.self.now c.args.split.now c.args.cons.now c.loop-left.ids.now c.args.decls.now left (take (length left - 1) (drop 1 left)) d
    c.loop-left.invariant.refutes (unrolled left d c.in-len1-up.len_at_least c.decl-item.is)
    (none_within c.loop-left.ids.now c.in_default-ids.len_below)

pub returns-in_err-is_refuted-clause-is : goal.returns-in_err-is_refuted-clause-is
returns-in_err-is_refuted-clause-is c =
    let w = err_from_is_err_and c.from_residual.result c.from_residual.ensures.1 in
    let x = c.args.self.now in
    let y = c.loop-left.self in
    let s = c.args.split.now in
    let i = c.loop-left.invariant in
    let ids = c.loop-left.ids.now in
    let left = c.loop-left.left.now in
    let d = c.decl-item.result in
    let k = c.con-item.result in
    let more = take (length left - 1) (drop 1 left) in
    let others = take (length ids - 1) (drop 1 ids) in
    let u = unrolled left d c.in-len1-up.len_at_least c.decl-item.is in
    let v = unrolled ids k c.in-len1-up-ids.len_at_least c.con-item.is in
    let b = con-below x s c.args.cons.now ids c.args.decls.now left more d i.refutes u in
    rw (w.1, w.2) (decl-weaker c.is_refuted.new.self.pool.now (λ r. ReadsRefuted y s k d (Refuses r))
    (λ r. ReadsAbsurd x s c.args.cons.now c.args.decls.now (Refuses r))
    (λ r h. refutes-stop x s c.args.cons.now ids c.args.decls.now left more d i.refutes u k others v r
    (refuted-here c.requires.ready i.grows s k d c.requires.split.0 b (Refuses r) h)) c.in_err-is_refuted.field-0.0 c.in_err-is_refuted.ensures.is)

pub loop-left-preserved : goal.loop-left-preserved
loop-left-preserved c =
    let x = c.args.self.now in
    let s = c.args.split.now in
    let i = c.loop-left.invariant in
    let ids = c.loop-left.ids.now in
    let left = c.loop-left.left.now in
    let d = c.decl-item.result in
    let k = c.con-item.result in
    let more = take (length left - 1) (drop 1 left) in
    let others = take (length ids - 1) (drop 1 ids) in
    let u = unrolled left d c.in-len1-up.len_at_least c.decl-item.is in
    let v = unrolled ids k c.in-len1-up-ids.len_at_least c.con-item.is in
    let b = con-below x s c.args.cons.now ids c.args.decls.now left more d i.refutes u in
    record {
      grows = Grows-trans i.grows c.in_ok-is_refuted.ensures.grows;
      refutes = refutes-next x s c.args.cons.now ids c.args.decls.now left more d i.refutes u k others v
          (refuted-here c.requires.ready i.grows s k d c.requires.split.0 b (Gives tt) c.in_ok-is_refuted.ensures.is);
    }

pub returns-then-is_empty-clause-is : goal.returns-then-is_empty-clause-is
returns-then-is_empty-clause-is c =
    refutes-all c.args.self.now c.args.split.now c.args.cons.now c.loop-left.ids.now c.args.decls.now c.loop-left.left.now c.loop-left.invariant.refutes
    (none_within c.loop-left.left.now c.in_default.len_below) (sym c.is_empty.ensures ∙ c.if-is_empty.true)

pub returns-else-is_empty-clause-is : goal.returns-else-is_empty-clause-is
returns-else-is_empty-clause-is c =
    refutes-long c.args.self.now c.args.split.now c.args.cons.now c.loop-left.ids.now c.args.decls.now c.loop-left.left.now c.loop-left.invariant.refutes
    (none_within c.loop-left.left.now c.in_default.len_below) (sym c.is_empty.ensures ∙ c.if-is_empty.false)
