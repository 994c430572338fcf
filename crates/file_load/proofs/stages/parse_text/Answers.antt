use Rattle.file_load.specs.Load.{Reads}
use Rattle.file_load.proofs.stages.parse_text.Goals as goal

pub returns-in-Ok : goal.returns-in-Ok
returns-in-Ok c = record { lexed = c.args.lexed.now; lexes = c.requires.lexes; signs = c.args.laid.now; lays = c.requires.lays; parses = rw c.as_slice.ensures at c.in-Ok.ensures }

pub returns-in-Err-Bad : goal.returns-in-Err-Bad
returns-in-Err-Bad c =
    rw (c.error_at.ensures, c.parse_kind.ensures)
    (Reads.no_file (record { lexed = c.args.lexed.now; lexes = c.requires.lexes; signs = c.args.laid.now; lays = c.requires.lays; parses = rw c.as_slice.ensures at (rw c.in-Err-Bad.field-0-is at c.in-Err-Bad.ensures) }))
