use Rattle.std.proofs.Common.{◌≡◌, ◌∷◌, ◌++◌, ◌-◌, ◌∙◌, List, length, take, drop, ap, sym}
use Rattle.std.proofs.lemmas.Result.{err_from_is_err_and}
use Rattle.conversion.proofs.Slices.{unrolled, none_within}
use Rattle.resolved_tree.specs.declared.resolved.ResolvedItem.{ResolvedItem}
use Rattle.resolved_tree.specs.declared.resolved.ResolvedSignature.{ResolvedSignature}
use Rattle.data_rules.specs.Families.{lines_of}
use Rattle.data_rules.specs.Rules.{field_lines}
use Rattle.data_elab.specs.Constructors.{lines_in}
use Rattle.data_elab.specs.Reader.{values_of}
use Rattle.data_elab.proofs.Kept.{Grows-trans}
use Rattle.data_elab.proofs.FieldsRead.{block-entered, block-not_entered, lines-entered}
use Rattle.data_elab.proofs.reader.Reader.enter_fields.Goals as goal

pub returns-in_err-enter_block-clause-is : goal.returns-in_err-enter_block-clause-is
returns-in_err-enter_block-clause-is c =
    let i = c.loop-left.invariant in
    let x = c.args.self.now in
    let y = c.loop-left.self in
    let left = c.loop-left.left.now in
    let s = c.item-item.result in
    let more = take (length left - 1) (drop 1 left) in
    let first : left ≡ s ∷ more = unrolled left s c.in-len1-up.len_at_least c.item-item.is in
    let all = field_lines c.args.level (values_of x) (lines_in x (lines_of c.args.items.now)) in
    let ss = c.as_slice.result.now in
    let lines : lines_of left ≡ ss ++ lines_of more = ap lines_of first ∙ (ap (λ (k : ResolvedItem). lines_of (k ∷ more)) c.in-Field.is ∙ ap (λ (ls : List ResolvedSignature). ls ++ lines_of more) (sym c.as_slice.ensures)) in
    let r = err_from_is_err_and c.from_residual.result c.from_residual.ensures.1 in
    rw (r.1, r.2) (block-not_entered c.requires.ready i.grows c.args.level all left more ss lines i.read c.enter_block.new.self.pool.now c.in_err-enter_block.field-0.0 c.in_err-enter_block.ensures.is)

pub loop-left-preserved-in_ok-enter_block : goal.loop-left-preserved-in_ok-enter_block
loop-left-preserved-in_ok-enter_block c =
    let i = c.loop-left.invariant in
    let x = c.args.self.now in
    let y = c.loop-left.self in
    let left = c.loop-left.left.now in
    let s = c.item-item.result in
    let more = take (length left - 1) (drop 1 left) in
    let first : left ≡ s ∷ more = unrolled left s c.in-len1-up.len_at_least c.item-item.is in
    let all = field_lines c.args.level (values_of x) (lines_in x (lines_of c.args.items.now)) in
    let ss = c.as_slice.result.now in
    let lines : lines_of left ≡ ss ++ lines_of more = ap lines_of first ∙ (ap (λ (k : ResolvedItem). lines_of (k ∷ more)) c.in-Field.is ∙ ap (λ (ls : List ResolvedSignature). ls ++ lines_of more) (sym c.as_slice.ensures)) in
    let h = c.in_ok-enter_block.ensures in
    record { grows = Grows-trans i.grows h.grows; read = block-entered c.requires.ready i.grows c.args.level all left more ss lines i.read h.is }

pub returns-clause-is : goal.returns-clause-is
returns-clause-is c =
    let x = c.args.self.now in
    let left = c.loop-left.left.now in
    lines-entered c.args.level (lines_in x (lines_of left)) (field_lines c.args.level (values_of x) (lines_in x (lines_of c.args.items.now))) (ap (λ (is : List ResolvedItem). lines_in x (lines_of is)) (none_within left c.in_default.len_below)) c.loop-left.invariant.read
