use Rattle.file_load.specs.Load.{Reads}
use Rattle.file_load.proofs.stages.read_text.Goals as goal

pub returns-in-Err-Bad : goal.returns-in-Err-Bad
returns-in-Err-Bad c = rw (c.error_at.ensures, c.lex_kind.ensures) (Reads.no_token c.requires c.utf8.text (rw c.in-Err-Bad.field-0-is at c.in-Err-Bad.ensures))
