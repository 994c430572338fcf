use Rattle.std.proofs.Common.{◌+◌, List, drop, Ok, subst, sym}
use Rattle.std.proofs.lemmas.List.{drop_all}
use Rattle.std.proofs.lemmas.Result.{err_from_is_err_and}
use Rattle.el_base.proofs.Lists.{drop_next}
use Rattle.source_tree.specs.declared.decl.Decl.{Decl}
use Rattle.file_load.specs.Load.{Declares}
use Rattle.file_load.specs.Judged.{declared}
use Rattle.file_load.proofs.Judging.{decls_stop}
use Rattle.file_load.proofs.judge.load_decls.Goals as goal

pub returns-in_err-load_decl : goal.returns-in_err-load_decl
returns-in_err-load_decl c =
    let l = c.loop-decl in
    let p = err_from_is_err_and c.from_residual.result c.from_residual.ensures.1 in
    rw (p.1, p.2) (decls_stop c.args.limits.fuel c.args.limits.depth c.args.core.now l.core c.load_decl.new.core c.args.decls.now l.decl-index c.decl-item.result c.loop-decl-test.true c.decl-item.is
    l.invariant.left c.in_err-load_decl.field-0.0 c.in_err-load_decl.ensures)

pub loop-decl-preserved : goal.loop-decl-preserved
loop-decl-preserved c =
    let l = c.loop-decl in
    let on = c.in_ok-load_decl.ensures in
    record {
      agrees = on.agrees;
      left = λ result h. l.invariant.left result
          (subst (λ (ds : List Decl). Declares c.args.limits.fuel c.args.limits.depth l.core.scope (declared l.core) ds result) (sym (drop_next c.args.decls.now l.decl-index c.decl-item.result c.loop-decl-test.true c.decl-item.is))
          (on.goes_on (drop (l.decl-index + 1) c.args.decls.now) result h));
    }

pub returns : goal.returns
returns c =
    let l = c.loop-decl in (
      l.invariant.left (Ok (l.core.scope, declared l.core))
          (subst (λ (ds : List Decl). Declares c.args.limits.fuel c.args.limits.depth l.core.scope (declared l.core) ds (Ok (l.core.scope, declared l.core))) (sym (drop_all l.decl-index c.args.decls.now c.loop-decl-test.false)) Declares.none),
      l.invariant.agrees,
    )
