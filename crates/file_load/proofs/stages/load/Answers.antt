use Rattle.std.proofs.Common.{◌≡◌, take, sym, subst, rules, arith}
use Rattle.std.proofs.lemmas.Grind.{common_steps}
use Rattle.std.specs.Str.{IsValidUpTo}
use Rattle.file_load.specs.Passes.{error_at as told_at}
use Rattle.file_load.specs.Load.{IsInError, Reads}
use Rattle.file_load.specs.Stages.{IsError}
use Rattle.session_text.specs.declared.error.LoadKind.TheVariants as kind
use Rattle.el_outside.specs.Place.{pos_of}
use Rattle.file_load.proofs.Loading.{is_error}
use Rattle.file_load.proofs.stages.load.Goals as goal

pub returns-then-text-gt-LIMIT : goal.returns-then-text-gt-LIMIT
returns-then-text-gt-LIMIT c = rw c.error_at.ensures (IsInError.unread (Reads.too_long (omega (arith, c.if-text-gt-LIMIT.true))))

pub returns-in-Ok-from_utf8 : goal.returns-in-Ok-from_utf8
returns-in-Ok-from_utf8 c =
    let text = c.args.text.now in
    let n = c.valid_up_to.result in
    let front : c.in-Ok-from_utf8.front.now ≡ take n text = first_of (search rules, grind (arith, common_steps)) in
    let valid : IsValidUpTo text n = subst (IsValidUpTo text) (sym c.valid_up_to.ensures) c.in-Err.ensures.cases.1 in
    let error : IsError c.not_utf8.result (told_at (pos_of text n) kind.NotUtf8) = rw front at c.not_utf8.ensures in
    is_error c.args.limits.fuel c.args.limits.depth text c.not_utf8.result (told_at (pos_of text n) kind.NotUtf8) (Reads.not_utf8 {n = n} (omega (arith, c.if-text-gt-LIMIT.false)) valid) error
