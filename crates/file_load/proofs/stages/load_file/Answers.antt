use Rattle.std.proofs.Common.{Ok}
use Rattle.file_load.specs.Judged.{LoadsDecls}
use Rattle.file_load.proofs.Loading.{is_made}
use Rattle.file_load.proofs.stages.load_file.Goals as goal

pub returns-in-Ok-new : goal.returns-in-Ok-new
returns-in-Ok-new c =
    let l = c.args.limits in
    let loads : LoadsDecls l.fuel l.depth c.in-Ok.core c.load_decls.new.core c.args.file.now.decls (Ok tt) = rw c.as_slice.ensures at c.in-Ok-load_decls.ensures in
    is_made l.fuel l.depth c.args.file.now c.in-Ok.core c.load_decls.new.core c.in-Ok-new.loaded c.in-Ok.ensures loads.0 loads.1 c.in-Ok-new.ensures
