use Rattle.std.proofs.Common.{◌≡◌, ◌∙◌, ap, subst, sym, List, ℕ, Some, map, string_bytes}
use Rattle.std.proofs.lemmas.Result.{IfErr-weaker, IfOk-weaker}
use Rattle.clap.specs.Words.{App, app_of, found_of, is_simple, matches_of, takes}
use Rattle.command_line.specs.Command.{app}
use Rattle.command_line.proofs.Parsed.{accepted, app_simple, parts_found}
use Rattle.command_line.proofs.Walk.{parse_reads, parse_takes}
use Rattle.command_line.proofs.Built.{HasParts}
use Rattle.command_line.proofs.command.parse.Goals as goal

pub returns-clause-parts : goal.returns-clause-parts
returns-clause-parts c =
    let words : List (List ℕ) = map string_bytes c.args.words.now in
    let taken = accepted words c.requires in
    let command_is : app_of c.in_ok-command.field-0 ≡ app = c.in_ok-command.ensures in
    let has : HasParts taken.parts (matches_of app words) = parse_reads words taken.parts taken.reads taken.short in
    IfOk-weaker c.try_get_matches_from.result _ _
    (λ m h.
    let rows = (h (ap is_simple command_is ∙ app_simple)).0 ∙ ap (λ (a : App). matches_of a words) command_is in
    taken.reads ∙ ap Some (parts_found taken.parts (found_of m) taken.short (subst (HasParts taken.parts) (sym rows) has)))
    c.try_get_matches_from.ensures.matches

pub returns-clause-memory : goal.returns-clause-memory
returns-clause-memory c =
    let words : List (List ℕ) = map string_bytes c.args.words.now in
    let taken = accepted words c.requires in
    let command_is : app_of c.in_ok-command.field-0 ≡ app = c.in_ok-command.ensures in
    IfErr-weaker c.try_get_matches_from.result _ _
    (λ e h. h (ap (λ (a : App). takes a words) command_is ∙ parse_takes words taken.parts taken.reads taken.short))
    c.try_get_matches_from.ensures.passes
