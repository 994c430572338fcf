use Rattle.std.specs.Prelude.{◌-◌, length, Some, refl}
use Rattle.std.proofs.Common.{sym, ap, ◌∙◌}
use Rattle.index_unify.specs.Renaming.{with_type_ids}
use Rattle.index_unify.proofs.Branches.{entry_at}
use Rattle.index_unify.proofs.branch.with_type.Goals as goal

pub returns : goal.returns
returns c =
    let es = c.args.old.now in
    ap (λ e. with_type_ids (Some e) c.args.ty) c.entry.view_is
    ∙ ap (λ o. with_type_ids o c.args.ty) (sym (entry_at es c.args.at (length es - 1 - c.args.at) c.index-old-old.result c.requires refl c.index-old-old.is))
