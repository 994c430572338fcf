use Rattle.file_load.specs.Load.{Reads}
use Rattle.file_load.proofs.stages.lay_out_text.Goals as goal

pub returns-in-Err-Outside : goal.returns-in-Err-Outside
returns-in-Err-Outside c = rw c.error_at.ensures (Reads.outside c.requires (rw c.as_slice.ensures at (rw c.in-Err-Outside.field-0-is at c.in-Err-Outside.ensures)))
