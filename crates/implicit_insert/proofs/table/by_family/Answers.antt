use Rattle.std.proofs.Common.{◌≡◌, None, ap, subst, ◌∙◌}
use Rattle.std.specs.Prelude.{option_map}
use Rattle.core_terms.specs.Signature.{signature_in}
use Rattle.term_pool.specs.Pool.{tree}
use Rattle.need_rules.specs.Needs.{Project, own_field}
use Rattle.weak_head.specs.Elims.{spine_in}
use Rattle.implicit_insert.specs.Answers.{IsOwn, next_in}
use Rattle.implicit_insert.specs.Places.{by_family}
use Rattle.implicit_insert.proofs.table.by_family.Goals as goal

pub returns-in_default-2 : goal.returns-in_default-2
returns-in_default-2 c =
    let p = c.args.pool.now in
    let g = signature_in p c.args.sig.now in
    let es = spine_in (tree p) c.args.form.now.spine.items in
    let k = c.in-Field.field in
    let o = subst (λ xs. own_field g c.args.fam (spine_in (tree p) xs) k ≡ None) c.as_slice.ensures (subst (IsOwn p c.args.fam (own_field g c.args.fam (spine_in (tree p) c.as_slice.result.now) k)) c.in_default-2.is c.in_ok-params.ensures) in
    ap (λ n. by_family g c.args.fam es (next_in n)) c.in-Field.is ∙ ap (option_map Project) o
