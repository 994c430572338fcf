use Rattle.std.proofs.Common.{◌≡◌, ◌<◌, ◌-◌, length, drop, ap, sym, ◌∙◌, arith, rules}
use Rattle.std.specs.Prelude.{Some}
use Rattle.std.proofs.lemmas.Option.{IfSome_then}
use Rattle.std.proofs.lemmas.Grind.{common_steps}
use Rattle.core_rules.specs.Heads.{Form}
use Rattle.core_rules.specs.Term.{Fam}
use Rattle.core_rules.specs.Mapped.{fam_map, telescope_map}
use Rattle.core_terms.specs.Signature.{fam_of}
use Rattle.declared_types.proofs.Named.{if_ok}
use Rattle.term_pool.specs.Pool.{tree}
use Rattle.weak_head.specs.Elims.{spine_in}
use Rattle.weak_head.specs.States.{AppliedBelow}
use Rattle.elab_machine.specs.Spine.{shown_in}
use Rattle.written_rules.specs.Rules.{params_of}
use Rattle.elab_machine.proofs.Starts.{params_in, dropped-below}
use Rattle.elab_machine.proofs.names.params_shown.Goals as goal

pub returns-clause-is : goal.returns-clause-is
returns-clause-is c =
    let f = tree c.args.pool.now in
    let d = fam_of c.args.decl.now in
    let xs = c.in-Some.shown.form.spine.items in
    let shown : shown_in c.args.pool.now c.args.shown.now ≡ Some (Form (Fam c.args.fam) (spine_in f xs)) = first_of (search rules, grind (arith, common_steps)) in
    let es = c.as_slice-entries.result.now in
    let params : c.params.inside.entries ≡ c.in-Family.params = c.params.view_is in
    let entries : es ≡ d.params = c.as_slice-entries.ensures ∙ params ∙ sym (ap (λ k. (fam_of k).params) c.in-Family.is) in
    let some : 0 < length es = first_of (search rules, grind (arith, common_steps)) in
    let last : c.first_of.result.now ≡ drop (length xs - length es) xs = c.first_of.ensures ∙ ap (λ ys. drop (length ys - length es) ys) c.as_slice.ensures in
    let h = params_in f c.args.fam d es xs c.first_of.result.now entries some last in
    if_ok _ _ c.arguments_for.result (λ o k. k f ∙ (h ∙ ap (params_of c.args.fam (fam_map f d) (telescope_map f d.params)) (sym shown))) c.arguments_for.ensures.is

pub returns-clause-below : goal.returns-clause-below
returns-clause-below c =
    let n = length c.args.pool.now.trees in
    let xs = c.in-Some.shown.form.spine.items in
    let last : c.first_of.result.now ≡ drop (length xs - length c.as_slice-entries.result.now) xs = c.first_of.ensures ∙ ap (λ ys. drop (length ys - length c.as_slice-entries.result.now) ys) c.as_slice.ensures in
    let shown : AppliedBelow n c.in-Some.shown.form = rw c.in-Some.is at c.requires.shown in
    let below = dropped-below n _ xs c.first_of.result.now last shown.1 in
    if_ok _ _ c.arguments_for.result (λ o k. IfSome_then o k (λ v h. h n below)) c.arguments_for.ensures.below
