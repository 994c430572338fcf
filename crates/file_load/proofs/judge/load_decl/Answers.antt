use Rattle.std.proofs.Common.{refl}
use Rattle.file_load.specs.declared.state.Core.{Core}
use Rattle.file_load.proofs.Judging.{decl_loads, name_stops}
use Rattle.file_load.proofs.judge.load_decl.Goals as goal

pub returns-in-Ok : goal.returns-in-Ok
returns-in-Ok c =
    let old = c.args.core.now in
    let mid : Core = record { scope = c.resolve.new.scope; pool = old.pool; signature = old.signature; alloc = old.alloc } in
    decl_loads c.args.limits.fuel c.args.limits.depth old mid c.judge.new.core c.args.decl.now c.in-Ok.resolved c.in-Ok.ensures.resolves refl c.judge.result c.judge.ensures

pub returns-in-Err : goal.returns-in-Err
returns-in-Err c = name_stops c.args.limits.fuel c.args.limits.depth c.args.core.now c.args.core.now c.args.decl.now c.in-Err.error c.not_resolved.result c.in-Err.ensures.resolves c.not_resolved.ensures
