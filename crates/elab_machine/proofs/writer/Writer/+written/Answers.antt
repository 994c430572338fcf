use Rattle.std.proofs.Common.{rules, ◌≡◌, ◌<◌, ◌+◌, ◌-◌, ◌∷◌, ◌++◌, [], List, ℕ, length, refl, sym, ap, subst, ◌∙◌, arith, ◌≤◌, set, length-set, map, get_or, drop, ◌&&◌}
use Rattle.std.proofs.lemmas.Grind.{common_steps}
use Rattle.core_rules.specs.declared.Flag.TheVariants as flag
use Rattle.kernel_rules.specs.Outcome.{Refuses, Gives}
use Rattle.resolved_tree.specs.declared.resolved.ResolvedExpr.{ResolvedExpr}
use Rattle.resolved_tree.specs.declared.resolved.ResolvedName.{ResolvedName}
use Rattle.resolved_tree.specs.declared.resolved.ResolvedBinder.{ResolvedBinder}
use Rattle.written_rules.specs.Refusals.{CannotInfer, at, BadField}
use Rattle.written_rules.specs.Rules.{Checks, Types, BinderMeaning, lambda, grouped, function_type, typed_lambda, Values, started, start, spine, ArgMeaning, untyped_lambda, against, as_type, name_checked, name_typed, agrees, applied, type_checked, field_checked, value_of, are_fields, record_checked}
use Rattle.written_rules.specs.Expressions.{ExprMeaning, expr_meaning, binder_meaning, ids, arg_meaning, no_name}
use Rattle.written_rules.proofs.Forms.{pi_means, forall_means, lambda_means, arrow_means, variable_means, def_means, family_means, con_means, set_means, hole_means, underscore_means, record_means, explicit_binds, implicit_binds, name_binds, braced_binds, underscore_binds, implicit_means, named_means, app_means, plain_means, project_means}
use Rattle.elab_machine.specs.Binders.{AnswersDomains, AnswersLambdas, binders_in, AnswersTyped, bound}
use Rattle.elab_machine.specs.Writer.{Read, over, term_of, values_of, signature_of, Over}
use Rattle.elab_machine.proofs.Kept.{ready_kept, Grows-trans, Keeps-trans, over_kept, values_kept, term_kept, within_kept, over_same, Grows-refl, Keeps-refl, signature_same}
use Rattle.elab_machine.proofs.ByForm.{checked_as, typed_as, type_checks, named_checks, named_types, other_checks, other_types}
use Rattle.std.proofs.lemmas.Result.{err_from_is_err_and}
use Rattle.std.specs.Prelude.{Some, None, map, take, drop, option_map, Option, slice_get, option_and_then, reverse, eqb}
use Rattle.core_rules.specs.Heads.{Answer}
use Rattle.core_rules.specs.Term.{Term, App, Con, from_list}
use Rattle.term_pool.specs.Pool.{tree, Extends}
use Rattle.weak_head.specs.States.{answer_in}
use Rattle.written_rules.specs.Rules as rules
use Rattle.elab_machine.specs.Answers.{RefusedBy, AnswersTerm}
use Rattle.elab_machine.specs.Spine.{args_in, found_in, name_in, AnswersStep, one_step, under_args, given, IsStep, cod_under, found_at}
use Rattle.elab_machine.proofs.Cycle.{name-no_start, name-no_spine, name-against, type-no_spine, type-ends, form-no_type, term-by, type-by, form-gives, form-other}
use Rattle.elab_machine.proofs.Around.{entries-weaker, telescope-stays}
use Rattle.core_rules.specs.Signature.{fams, Telescope, Entry, Signature}
use Rattle.core_rules.specs.Mapped.{telescope_map}
use Rattle.term_pool.specs.Growth.{Extends-tree, Extends-length, Extends-trans}
use Rattle.elab_machine.specs.declared.binders.Binding.TheVariants.{Lambda, Function}
use Rattle.elab_machine.proofs.Reading.{refused-weaker, read-first, read-last}
use Rattle.resolved_tree.specs.declared.resolved.ResolvedArg.{ResolvedArg}
use Rattle.el_outside.specs.declared.place.Pos.{Pos}
use Rattle.need_rules.specs.Needs.{Plain}
use Rattle.std.proofs.lemmas.List.{drop_all}
use Rattle.el_base.proofs.Lists.{drop_next}
use Rattle.conversion.proofs.Slices.{unrolled}
use Rattle.elab_machine.proofs.Entering.{Enters-trans}
use Rattle.elab_machine.proofs.Entered.{entries-join, domains-refused, domains-next, lambdas-refused, lambdas-next, group-refused, group-entered, group-no_type, group-other, group-later_refused, group-enters, group-within, group-next}
use Rattle.resolved_tree.specs.declared.resolved.ResolvedArg.TheFolds.{the_lemmas}
use Rattle.std.specs.List.{AllByRecursion, list_all}
use Rattle.el_base.proofs.Throughout.{all-weaker, all-at}
use Rattle.term_pool.specs.Placed.{filled, items-stay}
use Rattle.declared_types.proofs.Grown.{all-grown}
use Rattle.written_rules.specs.Asking.{◌>>=◌, gives}
use Rattle.elab_machine.proofs.Spined.{agreed-before, applied-taken, all-between, args-next, args-refused, count-between, taken-next, under_nothing}
use Rattle.std.proofs.lemmas.Option.{slice_get_read}
use Rattle.core_rules.specs.declared.Flag.{Flag}
use Rattle.core_rules.specs.Substitution.{under}
use Rattle.resolved_tree.specs.declared.resolved.ResolvedValue.{ResolvedValue}
use Rattle.elab_machine.specs.Records.{IsWithin, values_meant, IsPut, at_record, fields_of, fields_put, record_put, record_wanted}
use Rattle.elab_machine.proofs.Fielded.{FieldRead, field-value, field-no, field-yes, put_before, fields-tested, no-record, other-fields, its-fields}
use Rattle.elab_machine.proofs.Labelled.{checks_of}
use Rattle.core_rules.proofs.Spines.{map-reverse}
use Rattle.elab_machine.specs.Labels.{is_once, labelled}
use Rattle.elab_machine.proofs.Items.{all-dropped, all-set}
use Rattle.elab_machine.proofs.writer.Writer.+written.Goals as goal

pub check_expr-returns-in-Pi-clause-is : goal.check_expr-returns-in-Pi-clause-is
check_expr-returns-in-Pi-clause-is t c =
    let x = c.args.self.now in
    let g = signature_of x in
    checked_as (over x) (values_of x) (term_of x c.args.wanted) c.check_type.new.self.pool.now c.check_type.result _ _ (type_checks (expr_meaning g c.args.e.now) _ _ (ap (expr_meaning g) c.in-Pi.is ∙ pi_means g _ _ _)) c.check_type.ensures.is

pub check_expr-returns-in-Forall-clause-is : goal.check_expr-returns-in-Forall-clause-is
check_expr-returns-in-Forall-clause-is t c =
    let x = c.args.self.now in
    let g = signature_of x in
    checked_as (over x) (values_of x) (term_of x c.args.wanted) c.check_type-in-Forall.new.self.pool.now c.check_type-in-Forall.result _ _ (type_checks (expr_meaning g c.args.e.now) _ _ (ap (expr_meaning g) c.in-Forall.is ∙ forall_means g _ _ _)) c.check_type-in-Forall.ensures.is

pub check_expr-returns-in-Arrow-clause-is : goal.check_expr-returns-in-Arrow-clause-is
check_expr-returns-in-Arrow-clause-is t c =
    let x = c.args.self.now in
    let g = signature_of x in
    checked_as (over x) (values_of x) (term_of x c.args.wanted) c.check_type-in-Arrow.new.self.pool.now c.check_type-in-Arrow.result _ _ (type_checks (expr_meaning g c.args.e.now) _ _ (ap (expr_meaning g) c.in-Arrow.is ∙ arrow_means g _ _ _)) c.check_type-in-Arrow.ensures.is

pub check_expr-returns-in-SetLevel-clause-is : goal.check_expr-returns-in-SetLevel-clause-is
check_expr-returns-in-SetLevel-clause-is t c =
    let x = c.args.self.now in
    let g = signature_of x in
    checked_as (over x) (values_of x) (term_of x c.args.wanted) c.check_type-in-SetLevel.new.self.pool.now c.check_type-in-SetLevel.result _ _ (type_checks (expr_meaning g c.args.e.now) _ _ (ap (expr_meaning g) c.in-SetLevel.is ∙ set_means g _ _)) c.check_type-in-SetLevel.ensures.is

pub check_expr-returns-in-Lambda-clause-is : goal.check_expr-returns-in-Lambda-clause-is
check_expr-returns-in-Lambda-clause-is t c =
    let x = c.args.self.now in
    let g = signature_of x in
    checked_as (over x) (values_of x) (term_of x c.args.wanted) c.check_lambda.new.self.pool.now c.check_lambda.result _ _
    (ap (λ (m : ExprMeaning). m.checks) (ap (expr_meaning g) c.in-Lambda.is ∙ lambda_means g _ _ _)
    ∙ (ap (λ (bs : List ResolvedBinder). lambda c.in-Lambda.place.pos (binders_in x bs) (expr_meaning g c.in-Lambda.body).checks) (sym c.as_slice.ensures)
    ∙ ap (λ (e : ResolvedExpr). lambda c.in-Lambda.place.pos (binders_in x c.as_slice.result.now) (expr_meaning g e).checks) (sym c.get.ensures))) c.check_lambda.ensures.is

pub check_expr-returns-in-Hole-clause-is : goal.check_expr-returns-in-Hole-clause-is
check_expr-returns-in-Hole-clause-is t c =
    let x = c.args.self.now in
    let g = signature_of x in
    rw c.refused.ensures (tt, subst (λ (k : Checks). Read (over x) (k (values_of x) (term_of x c.args.wanted)) (Refuses (at c.in-Hole.place.pos CannotInfer))) (sym (ap (λ (m : ExprMeaning). m.checks) (ap (expr_meaning g) c.in-Hole.is ∙ hole_means g _))) refl)

pub check_expr-returns-in-Underscore-clause-is : goal.check_expr-returns-in-Underscore-clause-is
check_expr-returns-in-Underscore-clause-is t c =
    let x = c.args.self.now in
    let g = signature_of x in
    rw c.refused-in-Underscore.ensures (tt, subst (λ (k : Checks). Read (over x) (k (values_of x) (term_of x c.args.wanted)) (Refuses (at c.in-Underscore.place.pos CannotInfer))) (sym (ap (λ (m : ExprMeaning). m.checks) (ap (expr_meaning g) c.in-Underscore.is ∙ underscore_means g _))) refl)

pub check_expr-returns-in-Variable-clause-is : goal.check_expr-returns-in-Variable-clause-is
check_expr-returns-in-Variable-clause-is t c =
    let x = c.args.self.now in
    let g = signature_of x in
    checked_as (over x) (values_of x) (term_of x c.args.wanted) c.check_name.new.self.pool.now c.check_name.result _ _ (ap (λ (m : ExprMeaning). m.checks) (ap (expr_meaning g) c.in-Variable.is ∙ variable_means g _ _)) c.check_name.ensures.is

pub check_expr-returns-in-Def-clause-is : goal.check_expr-returns-in-Def-clause-is
check_expr-returns-in-Def-clause-is t c =
    let x = c.args.self.now in
    let g = signature_of x in
    checked_as (over x) (values_of x) (term_of x c.args.wanted) c.check_name-in-Def.new.self.pool.now c.check_name-in-Def.result _ _ (ap (λ (m : ExprMeaning). m.checks) (ap (expr_meaning g) c.in-Def.is ∙ def_means g _ _)) c.check_name-in-Def.ensures.is

pub check_expr-returns-in-Family-clause-is : goal.check_expr-returns-in-Family-clause-is
check_expr-returns-in-Family-clause-is t c =
    let x = c.args.self.now in
    let g = signature_of x in
    checked_as (over x) (values_of x) (term_of x c.args.wanted) c.check_name-in-Family.new.self.pool.now c.check_name-in-Family.result _ _ (ap (λ (m : ExprMeaning). m.checks) (ap (expr_meaning g) c.in-Family.is ∙ family_means g _ _)) c.check_name-in-Family.ensures.is

pub check_expr-returns-in-Con-clause-is : goal.check_expr-returns-in-Con-clause-is
check_expr-returns-in-Con-clause-is t c =
    let x = c.args.self.now in
    let g = signature_of x in
    checked_as (over x) (values_of x) (term_of x c.args.wanted) c.check_name-in-Con.new.self.pool.now c.check_name-in-Con.result _ _ (ap (λ (m : ExprMeaning). m.checks) (ap (expr_meaning g) c.in-Con.is ∙ con_means g _ _)) c.check_name-in-Con.ensures.is

pub check_expr-returns-in-Some-clause-is : goal.check_expr-returns-in-Some-clause-is
check_expr-returns-in-Some-clause-is t c =
    let x = c.args.self.now in
    let g = signature_of x in
    let m = expr_meaning g c.args.e.now in
    let u = c.look_at-name.ensures g in
    let b = c.in-App.head in
    let q = c.look_at-name.result.pos in
    let xs = map (arg_meaning g) c.in-App.args in
    let is = ap (expr_meaning g) c.in-App.is ∙ app_means g _ _ _ in
    let at_q : (expr_meaning g b).pos ≡ q = ap (λ (e : ResolvedExpr). (expr_meaning g e).pos) (sym c.get-in-App.ensures) ∙ sym u.pos in
    let n = ap (λ (e : ResolvedExpr). (expr_meaning g e).name) (sym c.get-in-App.ensures) ∙ (sym u.name ∙ ap (option_map name_in) c.in-Some.is) in
    let t = c.check_name-in-Some in
    checked_as (over x) (values_of x) (term_of x c.args.wanted) t.new.self.pool.now t.result _ _
    (named_checks g c.in-App.place.pos q (expr_meaning g b).pos (expr_meaning g b).name xs m is at_q (name_in c.in-Some.name) n ∙ ap (λ (ys : List ResolvedArg). name_checked g c.in-App.place.pos q (name_in c.in-Some.name) (map (arg_meaning g) ys)) (sym c.as_slice-in-Some.ensures)) t.ensures.is

pub check_expr-returns-in-None-clause-is : goal.check_expr-returns-in-None-clause-is
check_expr-returns-in-None-clause-is t c =
    let x = c.args.self.now in
    let g = signature_of x in
    let m = expr_meaning g c.args.e.now in
    let u = c.look_at-name.ensures g in
    let b = c.in-App.head in
    let q = c.look_at-name.result.pos in
    let xs = map (arg_meaning g) c.in-App.args in
    let is = ap (expr_meaning g) c.in-App.is ∙ app_means g _ _ _ in
    let at_q : (expr_meaning g b).pos ≡ q = ap (λ (e : ResolvedExpr). (expr_meaning g e).pos) (sym c.get-in-App.ensures) ∙ sym u.pos in
    let n = ap (λ (e : ResolvedExpr). (expr_meaning g e).name) (sym c.get-in-App.ensures) ∙ (sym u.name ∙ ap (option_map name_in) c.in-None.is) in
    let t = c.check_other in
    checked_as (over x) (values_of x) (term_of x c.args.wanted) t.new.self.pool.now t.result _ _ (other_checks g c.in-App.place.pos q (expr_meaning g b).pos (expr_meaning g b).name xs m is at_q n) t.ensures.is

pub check_lambda-returns-in_err-lambdas-clause-is : goal.check_lambda-returns-in_err-lambdas-clause-is
check_lambda-returns-in_err-lambdas-clause-is t c =
    let x = c.args.self.now in
    let p = err_from_is_err_and c.from_residual.result c.from_residual.ensures.1 in
    rw (p.1, p.2) (c.in_err-lambdas.ensures.is (expr_meaning (signature_of x) c.args.body.now).checks)

pub check_lambda-check_expr-requires : goal.check_lambda-check_expr-requires
check_lambda-check_expr-requires t c =
    (omega (arith, c.decreases), (c.in_ok-lambdas.ensures.is.enters.ready, c.in_ok-lambdas.ensures.is.wanted))

pub check_lambda-returns-in_err-body-clause-is : goal.check_lambda-returns-in_err-body-clause-is
check_lambda-returns-in_err-body-clause-is t c =
    let x = c.args.self.now in
    let y = c.enter_lambdas.new.self in
    let z = c.check_expr.new.self in
    let h = c.in_ok-lambdas.ensures.is in
    let o = over_same c.requires.ready c.in_ok-lambdas.ensures.grows h.enters.signature h.enters.limits in
    let p = err_from_is_err_and c.from_residual-in_err-body.result c.from_residual-in_err-body.ensures.1 in
    let q = z.pool.now in
    let e = c.in_err-body.field-0.0 in
    let b = c.args.body.now in
    let k : Checks = (expr_meaning (signature_of x) b).checks in
    let a = subst (λ (v : Over). RefusedBy q (λ r. Read v ((expr_meaning v.signature b).checks (values_of y) (term_of y c.in_ok-lambdas.lambdas.wanted)) (Refuses r)) e) o c.in_err-body.ensures.is in
    rw (p.1, p.2) (refused-weaker q (λ r. Read (over x) (k (values_of y) (term_of y c.in_ok-lambdas.lambdas.wanted)) (Refuses r)) (λ r. Read (over x) (lambda c.args.pos (binders_in x c.args.binders.now) k (values_of x) (term_of x c.args.wanted)) (Refuses r))
    (λ r u. h.reading k (Refuses r) u) e a)

pub check_lambda-put_around-requires-clause-entries : goal.check_lambda-put_around-requires-clause-entries
check_lambda-put_around-requires-clause-entries t c =
    let h = c.in_ok-lambdas.ensures.is in
    let e : c.as_slice.result.now ≡ c.in_ok-lambdas.lambdas.entries.items = c.as_slice.ensures.value in
    rw e (entries-weaker c.enter_lambdas.new.self.pool.now c.leave.new.self.pool.now c.in_ok-lambdas.lambdas.entries.items (Grows-trans c.in_ok-body.ensures.grows c.leave.ensures.grows).extends h.within)

pub check_lambda-returns-clause-is : goal.check_lambda-returns-clause-is
check_lambda-returns-clause-is t c =
    let x = c.args.self.now in
    let y = c.enter_lambdas.new.self in
    let z = c.check_expr.new.self in
    let h = c.in_ok-lambdas.ensures.is in
    let o = over_same c.requires.ready c.in_ok-lambdas.ensures.grows h.enters.signature h.enters.limits in
    let s = c.leave.new.self in
    let b = c.args.body.now in
    let k : Checks = (expr_meaning (signature_of x) b).checks in
    let es = c.in_ok-lambdas.lambdas.entries.items in
    let j = c.in_ok-body.ensures in
    let a = subst (λ (v : Over). Read v ((expr_meaning v.signature b).checks (values_of y) (term_of y c.in_ok-lambdas.lambdas.wanted)) (Gives (term_of z c.in_ok-body.body))) o j.is.1 in
    let g = Grows-trans j.grows c.leave.ensures.grows in
    let w = c.in_ok-put_around.ensures.is in
    let t0 : term_of s c.in_ok-body.body ≡ term_of z c.in_ok-body.body = Extends-tree c.in_ok-body.body c.leave.ensures.grows.extends j.is.0 in
    let e0 : telescope_map (term_of s) c.as_slice.result.now ≡ telescope_map (term_of y) es = ap (telescope_map (term_of s)) c.as_slice.ensures.value ∙ telescope-stays y.pool.now s.pool.now es g.extends h.within in (
      w.within,
      subst (λ (t : Term). Read (over x) (lambda c.args.pos (binders_in x c.args.binders.now) k (values_of x) (term_of x c.args.wanted)) (Gives t))
          (sym (w.is ∙ (ap (λ (fs : Telescope Term). bound Lambda fs (term_of s c.in_ok-body.body)) e0 ∙ ap (bound Lambda (telescope_map (term_of y) es)) t0)))
          (h.reading k (Gives (term_of z c.in_ok-body.body)) a),
    )

pub check_name-start-requires : goal.check_name-start-requires
check_name-start-requires t c =
    record { ready = ready_kept c.requires.ready c.in_ok-shown.ensures.grows c.in_ok-shown.ensures.keeps; shown = c.in_ok-shown.ensures.is.0 }

pub check_name-returns-in_err-found-clause-is : goal.check_name-returns-in_err-found-clause-is
check_name-returns-in_err-found-clause-is t c =
    let x = c.args.self.now in
    let y = c.wanted.new.self in
    let i = c.in_ok-shown.ensures in
    let w : Answer = answer_in (tree y.pool.now) c.in_ok-shown.shown.meta c.in_ok-shown.shown.form in
    let n : rules.Name = name_in c.args.name in
    let p = err_from_is_err_and c.from_residual-in_err-found.result c.from_residual-in_err-found.ensures.1 in
    let q = c.start.new.self.pool.now in
    let e = c.in_err-found.field-0.0 in
    let K : Over → Values → Type 0 = λ o vs. RefusedBy q (λ r. Read o (started c.args.at (start o.signature vs (Some w) n)) (Refuses r)) e in
    let h : K (over x) (values_of y) = subst (λ (o : Over). K o (values_of y)) (over_kept c.requires.ready i.grows i.keeps) c.in_err-found.ensures.is in
    rw (p.1, p.2) (name-no_start (over x) c.args.pos c.args.at n (args_in x c.args.args.now) (values_of x) (term_of x c.args.wanted) w i.is.1 q e (subst (λ (vs : Values). K (over x) vs) (values_kept c.requires.ready i.grows i.keeps) h))

pub check_name-take_arguments-requires : goal.check_name-take_arguments-requires
check_name-take_arguments-requires t c =
    let i = c.in_ok-shown.ensures in
    let j = c.in_ok-found.ensures in
    (first_of (search rules, grind (arith, common_steps)), (ready_kept c.requires.ready (Grows-trans i.grows j.grows) (Keeps-trans i.keeps j.keeps), (j.is.0, j.is.1)))

pub check_name-returns-in_err-whole-clause-is : goal.check_name-returns-in_err-whole-clause-is
check_name-returns-in_err-whole-clause-is t c =
    let x = c.args.self.now in
    let y = c.wanted.new.self in
    let i = c.in_ok-shown.ensures in
    let w : Answer = answer_in (tree y.pool.now) c.in_ok-shown.shown.meta c.in_ok-shown.shown.form in
    let n : rules.Name = name_in c.args.name in
    let z = c.start.new.self in
    let j = c.in_ok-found.ensures in
    let g = Grows-trans i.grows j.grows in
    let k = Keeps-trans i.keeps j.keeps in
    let s = found_in z.pool.now c.in_ok-found.found in
    let S : Over → Values → Type 0 = λ o vs. Read o (started c.args.at (start o.signature vs (Some w) n)) (Gives s) in
    let s0 : S (over x) (values_of y) = subst (λ (o : Over). S o (values_of y)) (over_kept c.requires.ready i.grows i.keeps) j.is.2 in
    let s1 : S (over x) (values_of x) = subst (λ (vs : Values). S (over x) vs) (values_kept c.requires.ready i.grows i.keeps) s0 in
    let p = err_from_is_err_and c.from_residual-in_err-whole.result c.from_residual-in_err-whole.ensures.1 in
    let q = c.take_arguments.new.self.pool.now in
    let e = c.in_err-whole.field-0.0 in
    let K : Over → Values → Type 0 = λ o vs. RefusedBy q (λ r. Read o (spine o.signature c.args.pos c.args.at vs (map (arg_meaning o.signature) c.args.args.now) s) (Refuses r)) e in
    let h : K (over x) (values_of z) = subst (λ (o : Over). K o (values_of z)) (over_kept c.requires.ready g k) c.in_err-whole.ensures.is in
    rw (p.1, p.2) (name-no_spine (over x) c.args.pos c.args.at n (args_in x c.args.args.now) (values_of x) (term_of x c.args.wanted) w i.is.1 s s1 q e (subst (λ (vs : Values). K (over x) vs) (values_kept c.requires.ready g k) h))

pub check_name-against-requires-clause-ready : goal.check_name-against-requires-clause-ready
check_name-against-requires-clause-ready t c =
    let i = c.in_ok-shown.ensures in
    let j = c.in_ok-found.ensures in
    let l = c.in_ok-whole.ensures in
    ready_kept c.requires.ready (Grows-trans (Grows-trans i.grows j.grows) l.grows) (Keeps-trans (Keeps-trans i.keeps j.keeps) l.keeps)

pub check_name-returns-clause-is : goal.check_name-returns-clause-is
check_name-returns-clause-is t c =
    let x = c.args.self.now in
    let y = c.wanted.new.self in
    let i = c.in_ok-shown.ensures in
    let w : Answer = answer_in (tree y.pool.now) c.in_ok-shown.shown.meta c.in_ok-shown.shown.form in
    let n : rules.Name = name_in c.args.name in
    let z = c.start.new.self in
    let j = c.in_ok-found.ensures in
    let g = Grows-trans i.grows j.grows in
    let k = Keeps-trans i.keeps j.keeps in
    let s = found_in z.pool.now c.in_ok-found.found in
    let S : Over → Values → Type 0 = λ o vs. Read o (started c.args.at (start o.signature vs (Some w) n)) (Gives s) in
    let s0 : S (over x) (values_of y) = subst (λ (o : Over). S o (values_of y)) (over_kept c.requires.ready i.grows i.keeps) j.is.2 in
    let s1 : S (over x) (values_of x) = subst (λ (vs : Values). S (over x) vs) (values_kept c.requires.ready i.grows i.keeps) s0 in
    let v = c.take_arguments.new.self in
    let l = c.in_ok-whole.ensures in
    let G = Grows-trans g l.grows in
    let H = Keeps-trans k l.keeps in
    let t = found_in v.pool.now c.in_ok-whole.whole in
    let q = c.against.new.self.pool.now in
    let D : Over → Values → Type 0 = λ o vs. Read o (spine o.signature c.args.pos c.args.at vs (map (arg_meaning o.signature) c.args.args.now) s) (Gives t) in
    let d0 : D (over x) (values_of z) = subst (λ (o : Over). D o (values_of z)) (over_kept c.requires.ready g k) l.is.2 in
    let d1 : D (over x) (values_of x) = subst (λ (vs : Values). D (over x) vs) (values_kept c.requires.ready g k) d0 in
    let a0 = subst (λ (o : Over). AnswersTerm q (Read o (against c.args.pos c.args.at (term_of v c.args.wanted) t)) c.against.result) (over_kept c.requires.ready G H) c.against.ensures.is in
    let a1 = subst (λ (b : Term). AnswersTerm q (Read (over x) (against c.args.pos c.args.at b t)) c.against.result) (term_kept c.requires.ready G H c.args.wanted c.requires.wanted) a0 in
    term-by q (Read (over x) (against c.args.pos c.args.at (term_of x c.args.wanted) t)) (Read (over x) (name_checked (signature_of x) c.args.pos c.args.at n (args_in x c.args.args.now) (values_of x) (term_of x c.args.wanted)))
    (λ r u. name-against (over x) c.args.pos c.args.at n (args_in x c.args.args.now) (values_of x) (term_of x c.args.wanted) w i.is.1 s s1 t d1 r u) c.against.result a1

pub check_type-type_expr-requires : goal.check_type-type_expr-requires
check_type-type_expr-requires t c =
    (first_of (search rules, grind (arith, common_steps)), ready_kept c.requires.ready c.in_ok-wanted.ensures.grows c.in_ok-wanted.ensures.keeps)

pub check_type-returns-in_err-found-clause-is : goal.check_type-returns-in_err-found-clause-is
check_type-returns-in_err-found-clause-is t c =
    let x = c.args.self.now in
    let y = c.wanted.new.self in
    let i = c.in_ok-wanted.ensures in
    let w : Answer = answer_in (tree y.pool.now) c.in_ok-wanted.field-0.meta c.in_ok-wanted.field-0.form in
    let e : Types = (expr_meaning (signature_of x) c.args.e.now).types in
    let p = err_from_is_err_and c.from_residual-in_err-found.result c.from_residual-in_err-found.ensures.1 in
    let q = c.type_expr.new.self.pool.now in
    let d = c.in_err-found.field-0.0 in
    let K : Over → Values → Type 0 = λ o vs. RefusedBy q (λ r. Read o ((expr_meaning o.signature c.args.e.now).types vs) (Refuses r)) d in
    let h : K (over x) (values_of y) = subst (λ (o : Over). K o (values_of y)) (over_kept c.requires.ready i.grows i.keeps) c.in_err-found.ensures.is in
    rw (p.1, p.2) (form-no_type (over x) c.args.pos e (values_of x) (term_of x c.args.wanted) w i.is.1 q d (subst (λ (vs : Values). K (over x) vs) (values_kept c.requires.ready i.grows i.keeps) h))

pub check_type-agree-requires-clause-ready : goal.check_type-agree-requires-clause-ready
check_type-agree-requires-clause-ready t c =
    let x = c.args.self.now in
    let i = c.in_ok-wanted.ensures in
    let j = c.in_ok-found.ensures in
    let r = ready_kept c.requires.ready (Grows-trans i.grows j.grows) (Keeps-trans i.keeps j.keeps) in
    ready_kept r (record { same_reference = refl; extends = c.in_ok-sort.ensures.extends }) (record { signature = refl; values = refl; inside = refl; limits = refl })

pub check_type-returns-in_err-agree-clause-is : goal.check_type-returns-in_err-agree-clause-is
check_type-returns-in_err-agree-clause-is t c =
    let x = c.args.self.now in
    let y = c.wanted.new.self in
    let z = c.type_expr.new.self in
    let i = c.in_ok-wanted.ensures in
    let j = c.in_ok-found.ensures in
    let w : Answer = answer_in (tree y.pool.now) c.in_ok-wanted.field-0.meta c.in_ok-wanted.field-0.form in
    let e : Types = (expr_meaning (signature_of x) c.args.e.now).types in
    let f = c.in_ok-found.found in
    let u : Term × ℕ = (term_of z f.term, f.level) in
    let T : Over → Values → Type 0 = λ o vs. Read o ((expr_meaning o.signature c.args.e.now).types vs) (Gives u) in
    let t0 : T (over x) (values_of y) = subst (λ (o : Over). T o (values_of y)) (over_kept c.requires.ready i.grows i.keeps) j.is.1 in
    let t1 : T (over x) (values_of x) = subst (λ (vs : Values). T (over x) vs) (values_kept c.requires.ready i.grows i.keeps) t0 in
    let q = c.agree.new.self.pool.now in
    let l = c.in_err-agree.ensures in
    let p = err_from_is_err_and c.from_residual-in_err-agree.result c.from_residual-in_err-agree.ensures.1 in
    let d = c.in_err-agree.field-0.0 in
    let K : Over → Term → Term → Type 0 = λ o s b. RefusedBy q (λ r. Read o (agrees c.args.pos s b) (Refuses r)) d in
    let h = agreed-before l.grows c.requires.ready (Grows-trans (Grows-trans i.grows j.grows) (record { same_reference = refl; extends = c.in_ok-sort.ensures.extends }))
    (Keeps-trans (Keeps-trans i.keeps j.keeps) (record { signature = refl; values = refl; inside = refl; limits = refl })) K c.in_ok-sort.sort f.level c.args.wanted c.in_ok-sort.ensures.stands.is c.requires.wanted l.is in
    rw (p.1, p.2) (form-other (over x) c.args.pos e (values_of x) (term_of x c.args.wanted) w i.is.1 u t1 q d h)

pub check_type-returns-clause-is : goal.check_type-returns-clause-is
check_type-returns-clause-is t c =
    let x = c.args.self.now in
    let y = c.wanted.new.self in
    let z = c.type_expr.new.self in
    let i = c.in_ok-wanted.ensures in
    let j = c.in_ok-found.ensures in
    let w : Answer = answer_in (tree y.pool.now) c.in_ok-wanted.field-0.meta c.in_ok-wanted.field-0.form in
    let e : Types = (expr_meaning (signature_of x) c.args.e.now).types in
    let f = c.in_ok-found.found in
    let u : Term × ℕ = (term_of z f.term, f.level) in
    let T : Over → Values → Type 0 = λ o vs. Read o ((expr_meaning o.signature c.args.e.now).types vs) (Gives u) in
    let t0 : T (over x) (values_of y) = subst (λ (o : Over). T o (values_of y)) (over_kept c.requires.ready i.grows i.keeps) j.is.1 in
    let t1 : T (over x) (values_of x) = subst (λ (vs : Values). T (over x) vs) (values_kept c.requires.ready i.grows i.keeps) t0 in
    let q = c.agree.new.self.pool.now in
    let l = c.in_ok-agree.ensures in
    let K : Over → Term → Term → Type 0 = λ o s b. Read o (agrees c.args.pos s b) (Gives tt) in
    let h = agreed-before l.grows c.requires.ready (Grows-trans (Grows-trans i.grows j.grows) (record { same_reference = refl; extends = c.in_ok-sort.ensures.extends }))
    (Keeps-trans (Keeps-trans i.keeps j.keeps) (record { signature = refl; values = refl; inside = refl; limits = refl })) K c.in_ok-sort.sort f.level c.args.wanted c.in_ok-sort.ensures.stands.is c.requires.wanted l.is in
    let a : Extends z.pool.now q = Extends-trans c.in_ok-sort.ensures.extends l.grows.extends in (
      omega (arith, Extends-length a, j.is.0),
      subst (λ (t : Term). Read (over x) (type_checked c.args.pos e (values_of x) (term_of x c.args.wanted)) (Gives t)) (sym (Extends-tree f.term a j.is.0))
          (form-gives (over x) c.args.pos e (values_of x) (term_of x c.args.wanted) w i.is.1 u t1 h),
    )

pub enter_domain-returns-in-Explicit-clause-is : goal.enter_domain-returns-in-Explicit-clause-is
enter_domain-returns-in-Explicit-clause-is t c =
    let x = c.args.self.now in
    let g = signature_of x in
    let y = c.enter_group.new.self in
    let h = subst (λ (a : ResolvedExpr). AnswersDomains x y (grouped flag.Explicit (ids c.in-Explicit.names) (expr_meaning g a).types) c.enter_group.result) c.get.ensures
    (subst (λ (xs : List ResolvedName). AnswersDomains x y (grouped flag.Explicit (ids xs) (expr_meaning g c.get.result.now).types) c.enter_group.result) c.as_slice.ensures c.enter_group.ensures.is) in
    subst (λ (m : BinderMeaning). AnswersDomains x y (function_type (m ∷ [])) c.enter_group.result) (sym (ap (binder_meaning g) c.in-Explicit.is ∙ explicit_binds g _ _ _)) h

pub enter_domain-returns-in-Implicit-clause-is : goal.enter_domain-returns-in-Implicit-clause-is
enter_domain-returns-in-Implicit-clause-is t c =
    let x = c.args.self.now in
    let g = signature_of x in
    let y = c.enter_group-in-Implicit.new.self in
    let h = subst (λ (a : ResolvedExpr). AnswersDomains x y (grouped flag.Implicit (ids c.in-Implicit.names) (expr_meaning g a).types) c.enter_group-in-Implicit.result) c.get-in-Implicit.ensures
    (subst (λ (xs : List ResolvedName). AnswersDomains x y (grouped flag.Implicit (ids xs) (expr_meaning g c.get-in-Implicit.result.now).types) c.enter_group-in-Implicit.result) c.as_slice-in-Implicit.ensures c.enter_group-in-Implicit.ensures.is) in
    subst (λ (m : BinderMeaning). AnswersDomains x y (function_type (m ∷ [])) c.enter_group-in-Implicit.result) (sym (ap (binder_meaning g) c.in-Implicit.is ∙ implicit_binds g _ _ _)) h

pub enter_domain-returns-in-Name-clause-is : goal.enter_domain-returns-in-Name-clause-is
enter_domain-returns-in-Name-clause-is t c =
    let x = c.args.self.now in
    let g = signature_of x in
    rw c.refused.ensures (λ (k : Types). (tt, subst (λ (m : BinderMeaning). Read (over x) (function_type (m ∷ []) k (values_of x)) (Refuses (at c.in-Name.name.place.pos CannotInfer))) (sym (ap (binder_meaning g) c.in-Name.is ∙ name_binds g _)) refl))

pub enter_domain-returns-in-Braced-clause-is : goal.enter_domain-returns-in-Braced-clause-is
enter_domain-returns-in-Braced-clause-is t c =
    let x = c.args.self.now in
    let g = signature_of x in
    rw c.refused-in-Braced.ensures (λ (k : Types). (tt, subst (λ (m : BinderMeaning). Read (over x) (function_type (m ∷ []) k (values_of x)) (Refuses (at c.in-Braced.place.pos CannotInfer))) (sym (ap (binder_meaning g) c.in-Braced.is ∙ braced_binds g _ _)) refl))

pub enter_domain-returns-in-Underscore-clause-is : goal.enter_domain-returns-in-Underscore-clause-is
enter_domain-returns-in-Underscore-clause-is t c =
    let x = c.args.self.now in
    let g = signature_of x in
    rw c.refused-in-Underscore.ensures (λ (k : Types). (tt, subst (λ (m : BinderMeaning). Read (over x) (function_type (m ∷ []) k (values_of x)) (Refuses (at c.in-Underscore.place.pos CannotInfer))) (sym (ap (binder_meaning g) c.in-Underscore.is ∙ underscore_binds g _)) refl))

pub enter_domains-returns-in_err-domains-clause-is : goal.enter_domains-returns-in_err-domains-clause-is
enter_domains-returns-in_err-domains-clause-is t c =
    let i = c.loop-binder.invariant in
    let x = c.args.self.now in
    let y = c.loop-binder.self in
    let n = c.loop-binder.binder-index in
    let bs = c.args.binders.now in
    let b = c.binder-item.result in
    let first : drop n bs ≡ b ∷ drop (n + 1) bs = drop_next bs n b c.loop-binder-test.true c.binder-item.is in
    let p = err_from_is_err_and c.from_residual.result c.from_residual.ensures.1 in
    rw (p.1, p.2)
    (domains-refused c.requires.ready i.grows i.enters (drop n bs) (drop (n + 1) bs) b first c.loop-binder.entries.items (function_type (binders_in x bs)) c.loop-binder.level i.reading
    c.enter_domain.new.self.pool.now c.in_err-domains.field-0.0 c.in_err-domains.ensures.is)

pub enter_domains-loop-binder-preserved : goal.enter_domains-loop-binder-preserved
enter_domains-loop-binder-preserved t c =
    let i = c.loop-binder.invariant in
    let x = c.args.self.now in
    let y = c.loop-binder.self in
    let n = c.loop-binder.binder-index in
    let bs = c.args.binders.now in
    let b = c.binder-item.result in
    let first : drop n bs ≡ b ∷ drop (n + 1) bs = drop_next bs n b c.loop-binder-test.true c.binder-item.is in
    let z = c.enter_domain.new.self in
    let w = c.in_ok-domains.domains in
    let h = c.in_ok-domains.ensures.is in
    let g = c.in_ok-domains.ensures.grows in
    let es = c.loop-binder.entries.items in
    let joined = c.in_ok-extend_from_slice.ensures.items ∙ ap (λ (fs : List (Entry ℕ)). es ++ fs) c.as_slice.ensures.value in
    record {
      grows = Grows-trans i.grows g;
      enters = Enters-trans i.enters h.enters;
      within = entries-join y.pool.now z.pool.now es w.entries.items c.extend_from_slice.new.self.items g.extends i.within h.within joined;
      reading = rw c.higher-level.ensures (domains-next c.requires.ready i.grows i.enters (drop n bs) (drop (n + 1) bs) b first es (function_type (binders_in x bs)) c.loop-binder.level i.reading
          g i.within w h c.extend_from_slice.new.self.items joined);
    }

pub enter_domains-returns-clause-is : goal.enter_domains-returns-clause-is
enter_domains-returns-clause-is t c =
    let i = c.loop-binder.invariant in
    let x = c.args.self.now in
    let y = c.loop-binder.self in
    let n = c.loop-binder.binder-index in
    let bs = c.args.binders.now in
    let none : drop n bs ≡ [] = drop_all n bs c.loop-binder-test.false in
    record {
      enters = i.enters;
      within = i.within;
      reading = λ e r h. i.reading e r (subst (λ (cs : List ResolvedBinder). Read (over x) (function_type (binders_in x cs) e (values_of y)) r) (sym none) h);
    }

pub enter_group-returns-in_err-found-clause-is : goal.enter_group-returns-in_err-found-clause-is
enter_group-returns-in_err-found-clause-is t c =
    let x = c.args.self.now in
    let p = err_from_is_err_and c.from_residual.result c.from_residual.ensures.1 in
    rw (p.1, p.2)
    (λ k. group-refused (over x) c.args.flag (expr_meaning (signature_of x) c.args.ty.now).types (values_of x) c.args.names.now (sym c.is_empty.ensures ∙ c.if-is_empty.false) k
    c.type_expr.new.self.pool.now c.in_err-found.field-0.0 c.in_err-found.ensures.is)

pub enter_group-enter_names-requires-clause-ready : goal.enter_group-enter_names-requires-clause-ready
enter_group-enter_names-requires-clause-ready t c =
    ready_kept c.requires.ready c.in_ok-found.ensures.grows c.in_ok-found.ensures.keeps

pub enter_group-returns-clause-is : goal.enter_group-returns-clause-is
enter_group-returns-clause-is t c =
    let x = c.args.self.now in
    let j = c.in_ok-found.ensures in
    group-entered c.requires.ready j.grows j.keeps c.args.flag c.args.names.now (sym c.is_empty.ensures ∙ c.if-is_empty.false) (expr_meaning (signature_of x) c.args.ty.now).types c.in_ok-found.found j.is.1
    c.in_ok-enter_names.field-0 c.in_ok-enter_names.ensures.is

pub enter_lambda-returns-in-Explicit-clause-is : goal.enter_lambda-returns-in-Explicit-clause-is
enter_lambda-returns-in-Explicit-clause-is t c =
    let x = c.args.self.now in
    let g = signature_of x in
    let y = c.enter_typed.new.self in
    let h = subst (λ (a : ResolvedExpr). AnswersLambdas x y (typed_lambda c.args.pos flag.Explicit (ids c.in-Explicit.names) (expr_meaning g a).types) (term_of x c.args.wanted) c.enter_typed.result) c.get.ensures
    (subst (λ (xs : List ResolvedName). AnswersLambdas x y (typed_lambda c.args.pos flag.Explicit (ids xs) (expr_meaning g c.get.result.now).types) (term_of x c.args.wanted) c.enter_typed.result) c.as_slice.ensures c.enter_typed.ensures.is) in
    subst (λ (m : BinderMeaning). AnswersLambdas x y (lambda c.args.pos (m ∷ [])) (term_of x c.args.wanted) c.enter_typed.result) (sym (ap (binder_meaning g) c.in-Explicit.is ∙ explicit_binds g _ _ _)) h

pub enter_lambda-returns-in-Implicit-clause-is : goal.enter_lambda-returns-in-Implicit-clause-is
enter_lambda-returns-in-Implicit-clause-is t c =
    let x = c.args.self.now in
    let g = signature_of x in
    let y = c.enter_typed-in-Implicit.new.self in
    let h = subst (λ (a : ResolvedExpr). AnswersLambdas x y (typed_lambda c.args.pos flag.Implicit (ids c.in-Implicit.names) (expr_meaning g a).types) (term_of x c.args.wanted) c.enter_typed-in-Implicit.result) c.get-in-Implicit.ensures
    (subst (λ (xs : List ResolvedName). AnswersLambdas x y (typed_lambda c.args.pos flag.Implicit (ids xs) (expr_meaning g c.get-in-Implicit.result.now).types) (term_of x c.args.wanted) c.enter_typed-in-Implicit.result) c.as_slice-in-Implicit.ensures c.enter_typed-in-Implicit.ensures.is) in
    subst (λ (m : BinderMeaning). AnswersLambdas x y (lambda c.args.pos (m ∷ [])) (term_of x c.args.wanted) c.enter_typed-in-Implicit.result) (sym (ap (binder_meaning g) c.in-Implicit.is ∙ implicit_binds g _ _ _)) h

pub enter_lambda-returns-in-Name-clause-is : goal.enter_lambda-returns-in-Name-clause-is
enter_lambda-returns-in-Name-clause-is t c =
    let x = c.args.self.now in
    let g = signature_of x in
    subst (λ (m : BinderMeaning). AnswersLambdas x c.enter_untyped.new.self (lambda c.args.pos (m ∷ [])) (term_of x c.args.wanted) c.enter_untyped.result) (sym (ap (binder_meaning g) c.in-Name.is ∙ name_binds g _)) c.enter_untyped.ensures.is

pub enter_lambda-returns-in-Braced-clause-is : goal.enter_lambda-returns-in-Braced-clause-is
enter_lambda-returns-in-Braced-clause-is t c =
    let x = c.args.self.now in
    let g = signature_of x in
    subst (λ (m : BinderMeaning). AnswersLambdas x c.enter_untyped-in-Braced.new.self (lambda c.args.pos (m ∷ [])) (term_of x c.args.wanted) c.enter_untyped-in-Braced.result) (sym (ap (binder_meaning g) c.in-Braced.is ∙ braced_binds g _ _)) c.enter_untyped-in-Braced.ensures.is

pub enter_lambda-returns-in-Underscore-clause-is : goal.enter_lambda-returns-in-Underscore-clause-is
enter_lambda-returns-in-Underscore-clause-is t c =
    let x = c.args.self.now in
    let g = signature_of x in
    let y = c.enter_untyped-in-Underscore.new.self in
    let h = subst (λ (k : ℕ). AnswersLambdas x y (untyped_lambda c.args.pos flag.Explicit k) (term_of x c.args.wanted) c.enter_untyped-in-Underscore.result) c.new.ensures c.enter_untyped-in-Underscore.ensures.is in
    subst (λ (m : BinderMeaning). AnswersLambdas x y (lambda c.args.pos (m ∷ [])) (term_of x c.args.wanted) c.enter_untyped-in-Underscore.result) (sym (ap (binder_meaning g) c.in-Underscore.is ∙ underscore_binds g _)) h

pub enter_lambdas-returns-in_err-lambdas-clause-is : goal.enter_lambdas-returns-in_err-lambdas-clause-is
enter_lambdas-returns-in_err-lambdas-clause-is t c =
    let i = c.loop-binder.invariant in
    let x = c.args.self.now in
    let y = c.loop-binder.self in
    let n = c.loop-binder.binder-index in
    let bs = c.args.binders.now in
    let b = c.binder-item.result in
    let first : drop n bs ≡ b ∷ drop (n + 1) bs = drop_next bs n b c.loop-binder-test.true c.binder-item.is in
    let p = err_from_is_err_and c.from_residual.result c.from_residual.ensures.1 in
    rw (p.1, p.2)
    (lambdas-refused c.requires.ready i.grows i.enters (drop n bs) (drop (n + 1) bs) b first c.loop-binder.entries.items c.args.pos (lambda c.args.pos (binders_in x bs)) (term_of x c.args.wanted) c.loop-binder.wanted i.reading
    c.enter_lambda.new.self.pool.now c.in_err-lambdas.field-0.0 c.in_err-lambdas.ensures.is)

pub enter_lambdas-loop-binder-preserved : goal.enter_lambdas-loop-binder-preserved
enter_lambdas-loop-binder-preserved t c =
    let i = c.loop-binder.invariant in
    let x = c.args.self.now in
    let y = c.loop-binder.self in
    let n = c.loop-binder.binder-index in
    let bs = c.args.binders.now in
    let b = c.binder-item.result in
    let first : drop n bs ≡ b ∷ drop (n + 1) bs = drop_next bs n b c.loop-binder-test.true c.binder-item.is in
    let z = c.enter_lambda.new.self in
    let w = c.in_ok-lambdas.lambdas in
    let h = c.in_ok-lambdas.ensures.is in
    let g = c.in_ok-lambdas.ensures.grows in
    let es = c.loop-binder.entries.items in
    let joined = c.in_ok-extend_from_slice.ensures.items ∙ ap (λ (fs : List (Entry ℕ)). es ++ fs) c.as_slice.ensures.value in
    record {
      grows = Grows-trans i.grows g;
      enters = Enters-trans i.enters h.enters;
      within = entries-join y.pool.now z.pool.now es w.entries.items c.extend_from_slice.new.self.items g.extends i.within h.within joined;
      wanted = h.wanted;
      reading = lambdas-next c.requires.ready i.grows i.enters (drop n bs) (drop (n + 1) bs) b first es c.args.pos (lambda c.args.pos (binders_in x bs)) (term_of x c.args.wanted) c.loop-binder.wanted i.reading
          g i.within w h c.extend_from_slice.new.self.items joined;
    }

pub enter_lambdas-returns-clause-is : goal.enter_lambdas-returns-clause-is
enter_lambdas-returns-clause-is t c =
    let i = c.loop-binder.invariant in
    let x = c.args.self.now in
    let y = c.loop-binder.self in
    let n = c.loop-binder.binder-index in
    let bs = c.args.binders.now in
    let none : drop n bs ≡ [] = drop_all n bs c.loop-binder-test.false in
    record {
      enters = i.enters;
      within = i.within;
      wanted = i.wanted;
      reading = λ e r h. i.reading e r (subst (λ (cs : List ResolvedBinder). Read (over x) (lambda c.args.pos (binders_in x cs) e (values_of y) (term_of y c.loop-binder.wanted)) r) (sym none) h);
    }

pub enter_typed-type_expr-requires : goal.enter_typed-type_expr-requires
enter_typed-type_expr-requires t c =
    (first_of (search rules, grind (arith, common_steps)), ready_kept c.requires.ready c.in_ok-parts.ensures.grows c.in_ok-parts.ensures.keeps)

pub enter_typed-returns-in_err-found-clause-is : goal.enter_typed-returns-in_err-found-clause-is
enter_typed-returns-in_err-found-clause-is t c =
    let names = c.args.names.now in
    let more = take (length names - 1) (drop 1 names) in
    let name = c.name-item.result in
    let first : names ≡ name ∷ more = unrolled names name c.in-len1-up.len_at_least c.name-item.is in
    let i = c.in_ok-parts.ensures in
    let w = c.in_ok-parts.parts in
    let p = err_from_is_err_and c.from_residual-in_err-found.result c.from_residual-in_err-found.ensures.1 in
    rw (p.1, p.2) (λ k. group-no_type c.requires.ready i.grows i.keeps c.args.pos c.args.flag names more name first c.args.ty.now c.args.wanted w.dom w.cod i.is.2 k c.type_expr.new.self.pool.now c.in_err-found.field-0.0 c.in_err-found.ensures.is)

pub enter_typed-enter_compared-requires-clause-ready : goal.enter_typed-enter_compared-requires-clause-ready
enter_typed-enter_compared-requires-clause-ready t c =
    let i = c.in_ok-parts.ensures in
    let j = c.in_ok-found.ensures in
    ready_kept c.requires.ready (Grows-trans i.grows j.grows) (Keeps-trans i.keeps j.keeps)

pub enter_typed-returns-in_err-inner-clause-is : goal.enter_typed-returns-in_err-inner-clause-is
enter_typed-returns-in_err-inner-clause-is t c =
    let names = c.args.names.now in
    let more = take (length names - 1) (drop 1 names) in
    let name = c.name-item.result in
    let first : names ≡ name ∷ more = unrolled names name c.in-len1-up.len_at_least c.name-item.is in
    let i = c.in_ok-parts.ensures in
    let w = c.in_ok-parts.parts in
    let j = c.in_ok-found.ensures in
    let p = err_from_is_err_and c.from_residual-in_err-inner.result c.from_residual-in_err-inner.ensures.1 in
    rw (p.1, p.2)
    (λ k. group-other c.requires.ready i.grows i.keeps c.args.pos c.args.flag names more name first c.args.ty.now c.args.wanted w.dom w.cod i.is.2
    j.grows j.keeps c.in_ok-found.found i.is.0 j.is.1 k c.enter_compared.new.self.pool.now c.in_err-inner.field-0.0 c.in_err-inner.ensures.is)

pub enter_typed-returns-in_err-later-clause-is : goal.enter_typed-returns-in_err-later-clause-is
enter_typed-returns-in_err-later-clause-is t c =
    let names = c.args.names.now in
    let more = take (length names - 1) (drop 1 names) in
    let name = c.name-item.result in
    let first : names ≡ name ∷ more = unrolled names name c.in-len1-up.len_at_least c.name-item.is in
    let i = c.in_ok-parts.ensures in
    let w = c.in_ok-parts.parts in
    let j = c.in_ok-found.ensures in
    let m = c.in_ok-inner.ensures in
    let p = err_from_is_err_and c.from_residual-in_err-later.result c.from_residual-in_err-later.ensures.1 in
    rw (p.1, p.2)
    (group-later_refused c.requires.ready i.grows i.keeps c.args.pos c.args.flag names more name first c.args.ty.now c.args.wanted w.dom w.cod i.is.2
    j.grows j.keeps c.in_ok-found.found i.is.0 j.is.1 m.grows c.in_ok-inner.inner m.is.0 m.is.1 i.is.1 c.enter_typed_names.new.self.pool.now c.in_err-later.field-0.0 c.in_err-later.ensures.is)

pub enter_typed-returns-clause-is : goal.enter_typed-returns-clause-is
enter_typed-returns-clause-is t c =
    let names = c.args.names.now in
    let more = take (length names - 1) (drop 1 names) in
    let name = c.name-item.result in
    let first : names ≡ name ∷ more = unrolled names name c.in-len1-up.len_at_least c.name-item.is in
    let i = c.in_ok-parts.ensures in
    let w = c.in_ok-parts.parts in
    let j = c.in_ok-found.ensures in
    let m = c.in_ok-inner.ensures in
    let v = c.in_ok-later.later in
    let h = c.in_ok-later.ensures.is in
    let gy = c.in_ok-later.ensures.grows in
    let one : Entry ℕ = record { name = name.id; flag = c.args.flag; ty = c.in_ok-found.found.term } in
    let new = c.extend_from_slice.new.self.items in
    let pushed : c.push.new.self.items ≡ one ∷ [] = c.in_ok-push.ensures.items ∙ ap (λ (es : List (Entry ℕ)). es ++ one ∷ []) c.new-entries.ensures.items in
    let is : new ≡ one ∷ v.entries.items = c.in_ok-extend_from_slice.ensures.items ∙ (ap (λ (es : List (Entry ℕ)). es ++ c.as_slice.result.now) pushed ∙ ap (λ (es : List (Entry ℕ)). one ∷ es) c.as_slice.ensures.value) in
    record {
      enters = group-enters c.requires.ready i.grows i.keeps c.args.pos c.args.flag names more name first c.args.ty.now c.args.wanted w.dom w.cod i.is.2
          j.grows j.keeps c.in_ok-found.found i.is.0 j.is.1 m.grows c.in_ok-inner.inner m.is.0 m.is.1 i.is.1 gy v h;
      within = group-within c.requires.ready i.grows i.keeps c.args.pos c.args.flag names more name first c.args.ty.now c.args.wanted w.dom w.cod i.is.2
          j.grows j.keeps c.in_ok-found.found i.is.0 j.is.1 m.grows c.in_ok-inner.inner m.is.0 m.is.1 i.is.1 gy v h new is j.is.0;
      wanted = h.wanted;
      reading = group-next c.requires.ready i.grows i.keeps c.args.pos c.args.flag names more name first c.args.ty.now c.args.wanted w.dom w.cod i.is.2
          j.grows j.keeps c.in_ok-found.found i.is.0 j.is.1 m.grows c.in_ok-inner.inner m.is.0 m.is.1 i.is.1 gy v h new is j.is.0;
    }

pub take_argument-returns-in-Plain-clause-is : goal.take_argument-returns-in-Plain-clause-is
take_argument-returns-in-Plain-clause-is t c =
    let x = c.args.self.now in
    let g = signature_of x in
    let t = c.take_term in
    let k : Checks = (expr_meaning g c.in-Plain.e).checks in
    let e1 = ap (arg_meaning g) c.in-Plain.is ∙ plain_means g _ in
    let e2 = ap (λ (p : Pos). record { pos = p; next = Plain k }) (sym (c.look_at.ensures g).pos) in
    subst (λ (m : ArgMeaning). AnswersStep t.new.self.pool.now c.args.taken.now (Read (over x) (one_step g c.args.pos c.args.at (values_of x) (under_args x.pool.now (term_of x c.args.term) c.args.taken.now c.args.ty) m)) t.result) (sym (e1 ∙ e2)) t.ensures.is

pub take_argument-returns-in-Implicit-clause-is : goal.take_argument-returns-in-Implicit-clause-is
take_argument-returns-in-Implicit-clause-is t c =
    let x = c.args.self.now in
    let g = signature_of x in
    let t = c.take_term-in-Implicit in
    subst (λ (m : ArgMeaning). AnswersStep t.new.self.pool.now c.args.taken.now (Read (over x) (one_step g c.args.pos c.args.at (values_of x) (under_args x.pool.now (term_of x c.args.term) c.args.taken.now c.args.ty) m)) t.result) (sym (ap (arg_meaning g) c.in-Implicit.is ∙ implicit_means g _ _)) t.ensures.is

pub take_argument-returns-in-Named-clause-is : goal.take_argument-returns-in-Named-clause-is
take_argument-returns-in-Named-clause-is t c =
    let x = c.args.self.now in
    let g = signature_of x in
    let t = c.take_term-in-Named in
    subst (λ (m : ArgMeaning). AnswersStep t.new.self.pool.now c.args.taken.now (Read (over x) (one_step g c.args.pos c.args.at (values_of x) (under_args x.pool.now (term_of x c.args.term) c.args.taken.now c.args.ty) m)) t.result) (sym (ap (arg_meaning g) c.in-Named.is ∙ named_means g _ _ _)) t.ensures.is

pub take_arguments-loop-arg-init : goal.take_arguments-loop-arg-init
take_arguments-loop-arg-init t c =
    let x = c.args.self.now in
    let p = x.pool.now in
    let f = c.args.found in
    let ts = c.in_ok-terms.terms.items in
    let m = c.len-start.result in
    let e = c.in_ok-terms.ensures in
    let n : m ≡ length c.args.args.now = omega (arith, c.len-start.ensures, c.in_ok-terms.terms.ok.0, e.0) in
    record {
      grows = Grows-refl x;
      keeps = Keeps-refl x;
      term = c.requires.term;
      ty = c.requires.ty;
      terms = all-weaker (λ (i : ℕ). i ≡ f.term) (λ (i : ℕ). i < length p.trees) (λ (i : ℕ) (h : i ≡ f.term). omega (arith, h, c.requires.term)) ts e.1;
      start = omega (arith, n);
      count = e.0;
      low = omega arith;
      high = omega (arith, n);
      reading = λ r h. subst (λ (s : rules.Found). Read (over x) (spine (signature_of x) c.args.pos c.args.at (values_of x) (args_in x c.args.args.now) s) r) (under_nothing p (term_of x f.term) (drop m ts) (m - m) f.ty (omega arith)) h;
    }

pub take_arguments-take_argument-requires : goal.take_arguments-take_argument-requires
take_arguments-take_argument-requires t c =
    let i = c.loop-arg.invariant in
    let y = c.loop-arg.self in
    let ts = c.loop-arg.terms.items in
    let start = c.loop-arg.start in
    let end = c.loop-arg.end in
    let us : List ℕ = take (end - start) (drop start ts) in
    let taken : c.between.result.now ≡ us = c.between.ensures ∙ ap (λ (l : List ℕ). take (end - start) (drop start l)) c.as_slice.ensures.value in
    let all : AllByRecursion (λ i. i < length y.pool.now.trees) us = all-between (λ (i : ℕ). i < length y.pool.now.trees) (end - start) start ts i.terms in
    (search (rules, the_lemmas), (ready_kept c.requires.ready i.grows i.keeps, (i.term, (i.ty, subst (λ (l : List ℕ). AllByRecursion (λ i. i < length y.pool.now.trees) l) (sym taken) all))))

pub take_arguments-returns-in_err-step-clause-is : goal.take_arguments-returns-in_err-step-clause-is
take_arguments-returns-in_err-step-clause-is t c =
    let x = c.args.self.now in
    let i = c.loop-arg.invariant in
    let y = c.loop-arg.self in
    let ts = c.loop-arg.terms.items in
    let start = c.loop-arg.start in
    let end = c.loop-arg.end in
    let us : List ℕ = take (end - start) (drop start ts) in
    let taken : c.between.result.now ≡ us = c.between.ensures ∙ ap (λ (l : List ℕ). take (end - start) (drop start l)) c.as_slice.ensures.value in
    let n = c.loop-arg.arg-index in
    let xs = c.args.args.now in
    let a = c.arg-item.result in
    let first : drop n xs ≡ a ∷ drop (n + 1) xs = drop_next xs n a c.loop-arg-test.true c.arg-item.is in
    let s : rules.Found = under_args y.pool.now (term_of y c.loop-arg.term) us c.loop-arg.ty in
    let p = err_from_is_err_and c.from_residual-in_err-step.result c.from_residual-in_err-step.ensures.1 in
    let q = c.take_argument.new.self.pool.now in
    let d = c.in_err-step.field-0.0 in
    let h = subst (λ (l : List ℕ). RefusedBy q (λ r. Read (over y) (one_step (signature_of y) c.args.pos c.args.at (values_of y) (under_args y.pool.now (term_of y c.loop-arg.term) l c.loop-arg.ty) (arg_meaning (signature_of y) a)) (Refuses r)) d) taken c.in_err-step.ensures.is in
    rw (p.1, p.2)
    (refused-weaker q (λ r. Read (over x) (spine (signature_of x) c.args.pos c.args.at (values_of x) (args_in x (drop n xs)) s) (Refuses r))
    (λ r. Read (over x) (spine (signature_of x) c.args.pos c.args.at (values_of x) (args_in x xs) (found_in x.pool.now c.args.found)) (Refuses r)) (λ r j. i.reading (Refuses r) j) d
    (args-refused c.requires.ready i.grows i.keeps c.args.pos c.args.at (drop n xs) (drop (n + 1) xs) a first s q d h))

pub take_arguments-loop-arg-preserved : goal.take_arguments-loop-arg-preserved
take_arguments-loop-arg-preserved t c =
    let x = c.args.self.now in
    let i = c.loop-arg.invariant in
    let y = c.loop-arg.self in
    let ts = c.loop-arg.terms.items in
    let start = c.loop-arg.start in
    let end = c.loop-arg.end in
    let us : List ℕ = take (end - start) (drop start ts) in
    let taken : c.between.result.now ≡ us = c.between.ensures ∙ ap (λ (l : List ℕ). take (end - start) (drop start l)) c.as_slice.ensures.value in
    let n = c.loop-arg.arg-index in
    let xs = c.args.args.now in
    let a = c.arg-item.result in
    let first : drop n xs ≡ a ∷ drop (n + 1) xs = drop_next xs n a c.loop-arg-test.true c.arg-item.is in
    let s : rules.Found = under_args y.pool.now (term_of y c.loop-arg.term) us c.loop-arg.ty in
    let z = c.take_argument.new.self in
    let w = c.in_ok-step.step in
    let j = c.in_ok-step.ensures in
    let S : List ℕ → Type 0 = λ l. IsStep z.pool.now l (λ f. Read (over y) (one_step (signature_of y) c.args.pos c.args.at (values_of y) (under_args y.pool.now (term_of y c.loop-arg.term) l c.loop-arg.ty) (arg_meaning (signature_of y) a)) (Gives f)) w in
    let k : S us = subst S taken j.is in
    let before : start - 1 + 1 ≡ start = omega (arith, i.start, c.loop-arg-test.true) in
    let low : start - 1 < length ts = omega (arith, i.start, i.count, c.loop-arg-test.true) in
    let used : w.used ≤ end - start + 1 = omega (arith, k.used, count-between ts start end (omega (arith, i.high, i.count))) in
    let stays = taken-next ts (set ts (start - 1) w.arg) w.arg (start - 1) start end w.used (start - 1 + w.used) refl before low used refl in
    record {
      grows = Grows-trans i.grows j.grows;
      keeps = Keeps-trans i.keeps j.keeps;
      term = k.term;
      ty = k.ty;
      terms = all-set (λ (i : ℕ). i < length z.pool.now.trees) ts (start - 1) w.arg (all-grown y.pool.now z.pool.now ts j.grows.extends i.terms) k.arg;
      start = omega (arith, i.start, before);
      count = length-set ts (start - 1) w.arg ∙ i.count;
      low = omega arith;
      high = omega (arith, i.start, i.low, i.high, used, before);
      reading = λ r h. i.reading r
          (args-next c.requires.ready i.grows i.keeps c.args.pos c.args.at (drop n xs) (drop (n + 1) xs) a first s (under_args z.pool.now (term_of z w.term) (take w.used (w.arg ∷ us)) w.ty) k.is r
          (subst (λ (l : List ℕ). Read (over x) (spine (signature_of x) c.args.pos c.args.at (values_of x) (args_in x (drop (n + 1) xs)) (under_args z.pool.now (term_of z w.term) l w.ty)) r) stays h));
    }

pub take_arguments-returns-clause-is : goal.take_arguments-returns-clause-is
take_arguments-returns-clause-is t c =
    let x = c.args.self.now in
    let i = c.loop-arg.invariant in
    let y = c.loop-arg.self in
    let ts = c.loop-arg.terms.items in
    let start = c.loop-arg.start in
    let end = c.loop-arg.end in
    let us : List ℕ = take (end - start) (drop start ts) in
    let n = c.loop-arg.arg-index in
    let xs = c.args.args.now in
    let z = c.put_together.new.self in
    let j = c.in_ok-ty.ensures in
    let taken : c.between-2.result.now ≡ us = c.between-2.ensures ∙ ap (λ (l : List ℕ). take (end - start) (drop start l)) c.as_slice-2.ensures.value in
    let none : drop n xs ≡ [] = drop_all n xs c.loop-arg-test.false in
    let s : rules.Found = under_args y.pool.now (term_of y c.loop-arg.term) us c.loop-arg.ty in
    let made : rules.Found = found_at (term_of z c.loop-arg.term) (term_of z c.in_ok-ty.ty) in
    let term : term_of z c.loop-arg.term ≡ term_of y c.loop-arg.term = Extends-tree c.loop-arg.term j.grows.extends i.term in
    let ty : term_of z c.in_ok-ty.ty ≡ filled (map (term_of y) us) (term_of y c.loop-arg.ty) = j.is.is ∙ ap (λ (l : List ℕ). filled (map (term_of y) l) (term_of y c.loop-arg.ty)) taken in
    let same : made ≡ s = ap (λ (t : Term). found_at t (term_of z c.in_ok-ty.ty)) term ∙ ap (found_at (term_of y c.loop-arg.term)) ty in (
      omega (arith, Extends-length j.grows.extends, i.term),
      j.is.within,
      i.reading (Gives made) (subst (λ (l : List ResolvedArg). Read (over x) (spine (signature_of x) c.args.pos c.args.at (values_of x) (args_in x l) s) (Gives made)) (sym none) (ap Gives same)),
    )

pub take_term-returns-in_err-function-clause-is : goal.take_term-returns-in_err-function-clause-is
take_term-returns-in_err-function-clause-is t c =
    let x = c.args.self.now in
    let p = err_from_is_err_and c.from_residual.result c.from_residual.ensures.1 in
    rw (p.1, p.2) (c.in_err-function.ensures.is (term_of x c.args.term) (values_of x) (expr_meaning (signature_of x) c.args.e.now).checks)

pub take_term-check_expr-requires : goal.take_term-check_expr-requires
take_term-check_expr-requires t c =
    (first_of (search rules, grind (arith, common_steps)), (ready_kept c.requires.ready c.in_ok-function.ensures.grows c.in_ok-function.ensures.keeps, c.in_ok-function.ensures.is.dom))

pub take_term-returns-in_err-arg-clause-is : goal.take_term-returns-in_err-arg-clause-is
take_term-returns-in_err-arg-clause-is t c =
    let x = c.args.self.now in
    let g = signature_of x in
    let y = c.function_for.new.self in
    let i = c.in_ok-function.ensures in
    let w = c.in_ok-function.function in
    let p = err_from_is_err_and c.from_residual-in_err-arg.result c.from_residual-in_err-arg.ensures.1 in
    let q = c.check_expr.new.self.pool.now in
    let d = c.in_err-arg.field-0.0 in
    let k : Checks = (expr_meaning g c.args.e.now).checks in
    let K : Over → Values → Type 0 = λ o vs. RefusedBy q (λ r. Read o ((expr_meaning o.signature c.args.e.now).checks vs (term_of y w.dom)) (Refuses r)) d in
    let h0 : K (over x) (values_of y) = subst (λ (o : Over). K o (values_of y)) (over_kept c.requires.ready i.grows i.keeps) c.in_err-arg.ensures.is in
    let h1 : K (over x) (values_of x) = subst (λ (vs : Values). K (over x) vs) (values_kept c.requires.ready i.grows i.keeps) h0 in
    rw (p.1, p.2) (refused-weaker q (λ r. Read (over x) (k (values_of x) (term_of y w.dom)) (Refuses r)) (λ r. Read (over x) (one_step g c.args.pos c.args.at (values_of x) (under_args x.pool.now (term_of x c.args.term) c.args.taken.now c.args.ty) (given c.args.place c.args.way k)) (Refuses r))
    (λ r u. i.is.reading (term_of x c.args.term) (values_of x) k (Refuses r) (read-first (over x) (k (values_of x) (term_of y w.dom)) _ r u)) d h1)

pub take_term-returns-clause-is : goal.take_term-returns-clause-is
take_term-returns-clause-is t c =
    let x = c.args.self.now in
    let g = signature_of x in
    let y = c.function_for.new.self in
    let z = c.check_expr.new.self in
    let v = c.add.new.self in
    let i = c.in_ok-function.ensures in
    let w = c.in_ok-function.function in
    let j = c.in_ok-arg.ensures in
    let n = c.in_ok-arg.arg in
    let stands = c.in_ok-term.ensures.stands in
    let h = c.in_ok-term.ensures.extends in
    let ts = c.args.taken.now in
    let k : Checks = (expr_meaning g c.args.e.now).checks in
    let K : Over → Values → Type 0 = λ o vs. Read o ((expr_meaning o.signature c.args.e.now).checks vs (term_of y w.dom)) (Gives (term_of z n)) in
    let h0 : K (over x) (values_of y) = subst (λ (o : Over). K o (values_of y)) (over_kept c.requires.ready i.grows i.keeps) j.is.1 in
    let h1 : K (over x) (values_of x) = subst (λ (vs : Values). K (over x) vs) (values_kept c.requires.ready i.grows i.keeps) h0 in
    let term : tree v c.in_ok-term.term ≡ App w.flag (term_of x c.args.term) (term_of z n) =
    stands.is ∙ ap (λ (t : Term). App w.flag t (term_of z n)) (term_kept c.requires.ready (Grows-trans i.grows j.grows) (Keeps-trans i.keeps j.keeps) c.args.term c.requires.term) in
    let f : Term → rules.Found = λ (u : Term). applied w.flag (under_args x.pool.now (term_of x c.args.term) ts c.args.ty) u (cod_under y.pool.now ts w) in
    let made : rules.Found = under_args v (tree v c.in_ok-term.term) (take c.in-Some.used (n ∷ ts)) w.cod in
    let same : f (term_of z n) ≡ made =
    applied-taken j.grows.extends h ts (all-grown x.pool.now y.pool.now ts i.grows.extends c.requires.taken) w i.is.cod n j.is.0
    x.pool.now (term_of x c.args.term) c.args.ty c.in_ok-term.term c.in-Some.used (omega (arith, c.in-Some.ensures)) term in
    record {
      term = stands.within;
      arg = omega (arith, Extends-length h, j.is.0);
      ty = omega (arith, i.is.cod, Extends-length (Extends-trans j.grows.extends h));
      used = omega (arith, i.is.under, c.in-Some.ensures);
      is = i.is.reading (term_of x c.args.term) (values_of x) k (Gives made)
          (subst (λ (s : rules.Found). Read (over x) (k (values_of x) (term_of y w.dom) >>= (λ (u : Term). gives (f u))) (Gives s)) same
          (read-last (over x) (k (values_of x) (term_of y w.dom)) f (Gives (term_of z n)) h1));
    }

pub type_arrow-returns-in_err-domains-clause-is : goal.type_arrow-returns-in_err-domains-clause-is
type_arrow-returns-in_err-domains-clause-is t c =
    let x = c.args.self.now in
    let p = err_from_is_err_and c.from_residual.result c.from_residual.ensures.1 in
    let k : Types = (expr_meaning (signature_of x) c.args.body.now).types in
    rw (p.1, p.2) (subst (λ (i : ℕ). RefusedBy c.enter_group.new.self.pool.now (λ r. Read (over x) (grouped flag.Explicit (i ∷ []) (expr_meaning (signature_of x) c.args.dom.now).types k (values_of x)) (Refuses r)) c.in_err-domains.field-0.0) c.new.ensures (c.in_err-domains.ensures.is k))

pub type_arrow-type_expr-requires : goal.type_arrow-type_expr-requires
type_arrow-type_expr-requires t c =
    (omega (arith, c.decreases), c.in_ok-domains.ensures.is.enters.ready)

pub type_arrow-returns-in_err-found-clause-is : goal.type_arrow-returns-in_err-found-clause-is
type_arrow-returns-in_err-found-clause-is t c =
    let x = c.args.self.now in
    let y = c.enter_group.new.self in
    let z = c.type_expr.new.self in
    let h = c.in_ok-domains.ensures.is in
    let o = over_same c.requires.ready c.in_ok-domains.ensures.grows h.enters.signature h.enters.limits in
    let p = err_from_is_err_and c.from_residual-in_err-found.result c.from_residual-in_err-found.ensures.1 in
    let q = z.pool.now in
    let e = c.in_err-found.field-0.0 in
    let b = c.args.body.now in
    let k : Types = (expr_meaning (signature_of x) b).types in
    let A : Types = (expr_meaning (signature_of x) c.args.dom.now).types in
    let a = subst (λ (v : Over). RefusedBy q (λ r. Read v ((expr_meaning v.signature b).types (values_of y)) (Refuses r)) e) o c.in_err-found.ensures.is in
    rw (p.1, p.2) (subst (λ (i : ℕ). RefusedBy q (λ r. Read (over x) (grouped flag.Explicit (i ∷ []) A k (values_of x)) (Refuses r)) e) c.new.ensures
    (refused-weaker q (λ r. Read (over x) (k (values_of y)) (Refuses r)) (λ r. Read (over x) (grouped flag.Explicit (c.new.result ∷ []) A k (values_of x)) (Refuses r)) (λ r u. h.reading k (Refuses r) u) e a))

pub type_arrow-put_around-requires-clause-entries : goal.type_arrow-put_around-requires-clause-entries
type_arrow-put_around-requires-clause-entries t c =
    let h = c.in_ok-domains.ensures.is in
    let e : c.as_slice.result.now ≡ c.in_ok-domains.domains.entries.items = c.as_slice.ensures.value in
    rw e (entries-weaker c.enter_group.new.self.pool.now c.leave.new.self.pool.now c.in_ok-domains.domains.entries.items (Grows-trans c.in_ok-found.ensures.grows c.leave.ensures.grows).extends h.within)

pub type_arrow-returns-clause-is : goal.type_arrow-returns-clause-is
type_arrow-returns-clause-is t c =
    let x = c.args.self.now in
    let y = c.enter_group.new.self in
    let z = c.type_expr.new.self in
    let h = c.in_ok-domains.ensures.is in
    let o = over_same c.requires.ready c.in_ok-domains.ensures.grows h.enters.signature h.enters.limits in
    let s = c.leave.new.self in
    let b = c.args.body.now in
    let k : Types = (expr_meaning (signature_of x) b).types in
    let es = c.in_ok-domains.domains.entries.items in
    let j = c.in_ok-found.ensures in
    let f = c.in_ok-found.found in
    let a = subst (λ (v : Over). Read v ((expr_meaning v.signature b).types (values_of y)) (Gives (term_of z f.term, f.level))) o j.is.1 in
    let g = Grows-trans j.grows c.leave.ensures.grows in
    let w = c.in_ok-term.ensures.is in
    let t0 : term_of s f.term ≡ term_of z f.term = Extends-tree f.term c.leave.ensures.grows.extends j.is.0 in
    let e0 : telescope_map (term_of s) c.as_slice.result.now ≡ telescope_map (term_of y) es = ap (telescope_map (term_of s)) c.as_slice.ensures.value ∙ telescope-stays y.pool.now s.pool.now es g.extends h.within in
    let t1 = w.is ∙ (ap (λ (fs : Telescope Term). bound Function fs (term_of s f.term)) e0 ∙ ap (bound Function (telescope_map (term_of y) es)) t0) in
    let W : ℕ → Types = λ i. grouped flag.Explicit (i ∷ []) (expr_meaning (signature_of x) c.args.dom.now).types k in (
      w.within,
      subst (λ (i : ℕ). Read (over x) (W i (values_of x)) (Gives (tree c.put_around.new.pool c.in_ok-term.term, c.higher.result))) c.new.ensures
          (subst (λ (t : Term). Read (over x) (W c.new.result (values_of x)) (Gives (t, c.higher.result))) (sym t1)
          (subst (λ (n : ℕ). Read (over x) (W c.new.result (values_of x)) (Gives (bound Function (telescope_map (term_of y) es) (term_of z f.term), n))) (sym c.higher.ensures)
          (h.reading k (Gives (term_of z f.term, f.level)) a))),
    )

pub type_expr-returns-in-Pi-clause-is : goal.type_expr-returns-in-Pi-clause-is
type_expr-returns-in-Pi-clause-is t c =
    let x = c.args.self.now in
    let g = signature_of x in
    typed_as (over x) (values_of x) c.type_function.new.self.pool.now c.type_function.result _ _
    (ap (λ (m : ExprMeaning). m.types) (ap (expr_meaning g) c.in-Pi.is ∙ pi_means g _ _ _)
    ∙ (ap (λ (bs : List ResolvedBinder). function_type (binders_in x bs) (expr_meaning g c.in-Pi.body).types) (sym c.as_slice.ensures)
    ∙ ap (λ (e : ResolvedExpr). function_type (binders_in x c.as_slice.result.now) (expr_meaning g e).types) (sym c.get.ensures))) c.type_function.ensures.is

pub type_expr-returns-in-Forall-clause-is : goal.type_expr-returns-in-Forall-clause-is
type_expr-returns-in-Forall-clause-is t c =
    let x = c.args.self.now in
    let g = signature_of x in
    typed_as (over x) (values_of x) c.type_function-in-Forall.new.self.pool.now c.type_function-in-Forall.result _ _
    (ap (λ (m : ExprMeaning). m.types) (ap (expr_meaning g) c.in-Forall.is ∙ forall_means g _ _ _)
    ∙ (ap (λ (bs : List ResolvedBinder). function_type (binders_in x bs) (expr_meaning g c.in-Forall.body).types) (sym c.as_slice-in-Forall.ensures)
    ∙ ap (λ (e : ResolvedExpr). function_type (binders_in x c.as_slice-in-Forall.result.now) (expr_meaning g e).types) (sym c.get-in-Forall.ensures))) c.type_function-in-Forall.ensures.is

pub type_expr-returns-in-Arrow-clause-is : goal.type_expr-returns-in-Arrow-clause-is
type_expr-returns-in-Arrow-clause-is t c =
    let x = c.args.self.now in
    let g = signature_of x in
    let t = c.type_arrow in
    typed_as (over x) (values_of x) t.new.self.pool.now t.result _ _
    (ap (λ (m : ExprMeaning). m.types) (ap (expr_meaning g) c.in-Arrow.is ∙ arrow_means g _ _ _)
    ∙ (ap (λ (a : ResolvedExpr). grouped flag.Explicit (no_name ∷ []) (expr_meaning g a).types (expr_meaning g c.in-Arrow.body).types) (sym c.get-in-Arrow.ensures)
    ∙ ap (λ (a : ResolvedExpr). grouped flag.Explicit (no_name ∷ []) (expr_meaning g c.get-in-Arrow.result.now).types (expr_meaning g a).types) (sym c.get-in-Arrow-2.ensures))) t.ensures.is

pub type_expr-returns-in_ok-term-in-SetLevel-clause-is : goal.type_expr-returns-in_ok-term-in-SetLevel-clause-is
type_expr-returns-in_ok-term-in-SetLevel-clause-is t c =
    let x = c.args.self.now in
    let g = signature_of x in
    let s = c.in_ok-term-in-SetLevel.ensures.stands in
    let n = c.number-number.ensures.number in
    let q = c.add.new.self in (
      s.within,
      subst (λ (k : Types). Read (over x) (k (values_of x)) (Gives (tree q c.in_ok-term-in-SetLevel.term, c.number-number.result + 1))) (sym (ap (λ (m : ExprMeaning). m.types) (ap (expr_meaning g) c.in-SetLevel.is ∙ set_means g _ _)))
          (let e = s.is in cc (e, n)),
    )

pub type_expr-returns-in-Lambda-clause-is : goal.type_expr-returns-in-Lambda-clause-is
type_expr-returns-in-Lambda-clause-is t c =
    let x = c.args.self.now in
    let g = signature_of x in
    rw c.refused.ensures (tt, subst (λ (k : Types). Read (over x) (k (values_of x)) (Refuses (at c.in-Lambda.place.pos CannotInfer))) (sym (ap (λ (m : ExprMeaning). m.types) (ap (expr_meaning g) c.in-Lambda.is ∙ lambda_means g _ _ _))) refl)

pub type_expr-returns-in-Hole-clause-is : goal.type_expr-returns-in-Hole-clause-is
type_expr-returns-in-Hole-clause-is t c =
    let x = c.args.self.now in
    let g = signature_of x in
    rw c.refused-in-Hole.ensures (tt, subst (λ (k : Types). Read (over x) (k (values_of x)) (Refuses (at c.in-Hole.place.pos CannotInfer))) (sym (ap (λ (m : ExprMeaning). m.types) (ap (expr_meaning g) c.in-Hole.is ∙ hole_means g _))) refl)

pub type_expr-returns-in-Underscore-clause-is : goal.type_expr-returns-in-Underscore-clause-is
type_expr-returns-in-Underscore-clause-is t c =
    let x = c.args.self.now in
    let g = signature_of x in
    rw c.refused-in-Underscore.ensures (tt, subst (λ (k : Types). Read (over x) (k (values_of x)) (Refuses (at c.in-Underscore.place.pos CannotInfer))) (sym (ap (λ (m : ExprMeaning). m.types) (ap (expr_meaning g) c.in-Underscore.is ∙ underscore_means g _))) refl)

pub type_expr-returns-in-Record-clause-is : goal.type_expr-returns-in-Record-clause-is
type_expr-returns-in-Record-clause-is t c =
    let x = c.args.self.now in
    let g = signature_of x in
    rw c.refused-in-Record.ensures (tt, subst (λ (k : Types). Read (over x) (k (values_of x)) (Refuses (at c.in-Record.place.pos CannotInfer))) (sym (ap (λ (m : ExprMeaning). m.types) (ap (expr_meaning g) c.in-Record.is ∙ record_means g _ _))) refl)

pub type_expr-returns-in-Variable-clause-is : goal.type_expr-returns-in-Variable-clause-is
type_expr-returns-in-Variable-clause-is t c =
    let x = c.args.self.now in
    let g = signature_of x in
    typed_as (over x) (values_of x) c.type_name.new.self.pool.now c.type_name.result _ _ (ap (λ (m : ExprMeaning). m.types) (ap (expr_meaning g) c.in-Variable.is ∙ variable_means g _ _)) c.type_name.ensures.is

pub type_expr-returns-in-Def-clause-is : goal.type_expr-returns-in-Def-clause-is
type_expr-returns-in-Def-clause-is t c =
    let x = c.args.self.now in
    let g = signature_of x in
    typed_as (over x) (values_of x) c.type_name-in-Def.new.self.pool.now c.type_name-in-Def.result _ _ (ap (λ (m : ExprMeaning). m.types) (ap (expr_meaning g) c.in-Def.is ∙ def_means g _ _)) c.type_name-in-Def.ensures.is

pub type_expr-returns-in-Family-clause-is : goal.type_expr-returns-in-Family-clause-is
type_expr-returns-in-Family-clause-is t c =
    let x = c.args.self.now in
    let g = signature_of x in
    typed_as (over x) (values_of x) c.type_name-in-Family.new.self.pool.now c.type_name-in-Family.result _ _ (ap (λ (m : ExprMeaning). m.types) (ap (expr_meaning g) c.in-Family.is ∙ family_means g _ _)) c.type_name-in-Family.ensures.is

pub type_expr-returns-in-Con-clause-is : goal.type_expr-returns-in-Con-clause-is
type_expr-returns-in-Con-clause-is t c =
    let x = c.args.self.now in
    let g = signature_of x in
    typed_as (over x) (values_of x) c.type_name-in-Con.new.self.pool.now c.type_name-in-Con.result _ _ (ap (λ (m : ExprMeaning). m.types) (ap (expr_meaning g) c.in-Con.is ∙ con_means g _ _)) c.type_name-in-Con.ensures.is

pub type_expr-returns-in-Some-clause-is : goal.type_expr-returns-in-Some-clause-is
type_expr-returns-in-Some-clause-is t c =
    let x = c.args.self.now in
    let g = signature_of x in
    let m = expr_meaning g c.args.e.now in
    let u = c.look_at-name.ensures g in
    let b = c.in-App.head in
    let q = c.look_at-name.result.pos in
    let xs = map (arg_meaning g) c.in-App.args in
    let is = ap (expr_meaning g) c.in-App.is ∙ app_means g _ _ _ in
    let at_q : (expr_meaning g b).pos ≡ q = ap (λ (e : ResolvedExpr). (expr_meaning g e).pos) (sym c.get-in-App.ensures) ∙ sym u.pos in
    let n = ap (λ (e : ResolvedExpr). (expr_meaning g e).name) (sym c.get-in-App.ensures) ∙ (sym u.name ∙ ap (option_map name_in) c.in-Some.is) in
    let t = c.type_name-in-Some in
    typed_as (over x) (values_of x) t.new.self.pool.now t.result _ _
    (named_types g c.in-App.place.pos q (expr_meaning g b).pos (expr_meaning g b).name xs m is at_q (name_in c.in-Some.name) n ∙ ap (λ (ys : List ResolvedArg). name_typed g c.in-App.place.pos q (name_in c.in-Some.name) (map (arg_meaning g) ys)) (sym c.as_slice-in-Some.ensures)) t.ensures.is

pub type_expr-returns-in-None-clause-is : goal.type_expr-returns-in-None-clause-is
type_expr-returns-in-None-clause-is t c =
    let x = c.args.self.now in
    let g = signature_of x in
    let m = expr_meaning g c.args.e.now in
    let u = c.look_at-name.ensures g in
    let b = c.in-App.head in
    let q = c.look_at-name.result.pos in
    let xs = map (arg_meaning g) c.in-App.args in
    let is = ap (expr_meaning g) c.in-App.is ∙ app_means g _ _ _ in
    let at_q : (expr_meaning g b).pos ≡ q = ap (λ (e : ResolvedExpr). (expr_meaning g e).pos) (sym c.get-in-App.ensures) ∙ sym u.pos in
    let n = ap (λ (e : ResolvedExpr). (expr_meaning g e).name) (sym c.get-in-App.ensures) ∙ (sym u.name ∙ ap (option_map name_in) c.in-None.is) in
    rw c.refused-in-None.ensures (tt, subst (λ (k : Types). Read (over x) (k (values_of x)) (Refuses (at c.in-App.place.pos CannotInfer))) (sym (other_types g c.in-App.place.pos q (expr_meaning g b).pos (expr_meaning g b).name xs m is at_q n)) refl)

pub type_function-returns-in_err-domains-clause-is : goal.type_function-returns-in_err-domains-clause-is
type_function-returns-in_err-domains-clause-is t c =
    let x = c.args.self.now in
    let p = err_from_is_err_and c.from_residual.result c.from_residual.ensures.1 in
    rw (p.1, p.2) (c.in_err-domains.ensures.is (expr_meaning (signature_of x) c.args.body.now).types)

pub type_function-type_expr-requires : goal.type_function-type_expr-requires
type_function-type_expr-requires t c =
    (omega (arith, c.decreases), c.in_ok-domains.ensures.is.enters.ready)

pub type_function-returns-in_err-found-clause-is : goal.type_function-returns-in_err-found-clause-is
type_function-returns-in_err-found-clause-is t c =
    let x = c.args.self.now in
    let y = c.enter_domains.new.self in
    let z = c.type_expr.new.self in
    let h = c.in_ok-domains.ensures.is in
    let o = over_same c.requires.ready c.in_ok-domains.ensures.grows h.enters.signature h.enters.limits in
    let p = err_from_is_err_and c.from_residual-in_err-found.result c.from_residual-in_err-found.ensures.1 in
    let q = z.pool.now in
    let e = c.in_err-found.field-0.0 in
    let b = c.args.body.now in
    let k : Types = (expr_meaning (signature_of x) b).types in
    let a = subst (λ (v : Over). RefusedBy q (λ r. Read v ((expr_meaning v.signature b).types (values_of y)) (Refuses r)) e) o c.in_err-found.ensures.is in
    rw (p.1, p.2) (refused-weaker q (λ r. Read (over x) (k (values_of y)) (Refuses r)) (λ r. Read (over x) (function_type (binders_in x c.args.binders.now) k (values_of x)) (Refuses r)) (λ r u. h.reading k (Refuses r) u) e a)

pub type_function-put_around-requires-clause-entries : goal.type_function-put_around-requires-clause-entries
type_function-put_around-requires-clause-entries t c =
    let h = c.in_ok-domains.ensures.is in
    let e : c.as_slice.result.now ≡ c.in_ok-domains.domains.entries.items = c.as_slice.ensures.value in
    rw e (entries-weaker c.enter_domains.new.self.pool.now c.leave.new.self.pool.now c.in_ok-domains.domains.entries.items (Grows-trans c.in_ok-found.ensures.grows c.leave.ensures.grows).extends h.within)

pub type_function-returns-clause-is : goal.type_function-returns-clause-is
type_function-returns-clause-is t c =
    let x = c.args.self.now in
    let y = c.enter_domains.new.self in
    let z = c.type_expr.new.self in
    let h = c.in_ok-domains.ensures.is in
    let o = over_same c.requires.ready c.in_ok-domains.ensures.grows h.enters.signature h.enters.limits in
    let s = c.leave.new.self in
    let b = c.args.body.now in
    let k : Types = (expr_meaning (signature_of x) b).types in
    let es = c.in_ok-domains.domains.entries.items in
    let j = c.in_ok-found.ensures in
    let f = c.in_ok-found.found in
    let a = subst (λ (v : Over). Read v ((expr_meaning v.signature b).types (values_of y)) (Gives (term_of z f.term, f.level))) o j.is.1 in
    let g = Grows-trans j.grows c.leave.ensures.grows in
    let w = c.in_ok-term.ensures.is in
    let t0 : term_of s f.term ≡ term_of z f.term = Extends-tree f.term c.leave.ensures.grows.extends j.is.0 in
    let e0 : telescope_map (term_of s) c.as_slice.result.now ≡ telescope_map (term_of y) es = ap (telescope_map (term_of s)) c.as_slice.ensures.value ∙ telescope-stays y.pool.now s.pool.now es g.extends h.within in
    let t1 = w.is ∙ (ap (λ (fs : Telescope Term). bound Function fs (term_of s f.term)) e0 ∙ ap (bound Function (telescope_map (term_of y) es)) t0) in
    let W : Types = function_type (binders_in x c.args.binders.now) k in (
      w.within,
      subst (λ (t : Term). Read (over x) (W (values_of x)) (Gives (t, c.higher.result))) (sym t1)
          (subst (λ (n : ℕ). Read (over x) (W (values_of x)) (Gives (bound Function (telescope_map (term_of y) es) (term_of z f.term), n))) (sym c.higher.ensures)
          (h.reading k (Gives (term_of z f.term, f.level)) a)),
    )

pub type_name-take_arguments-requires : goal.type_name-take_arguments-requires
type_name-take_arguments-requires t c =
    let j = c.in_ok-found.ensures in
    (first_of (search rules, grind (arith, common_steps)), (ready_kept c.requires.ready j.grows j.keeps, (j.is.0, j.is.1)))

pub type_name-returns-in_err-whole-clause-is : goal.type_name-returns-in_err-whole-clause-is
type_name-returns-in_err-whole-clause-is t c =
    let x = c.args.self.now in
    let z = c.start.new.self in
    let j = c.in_ok-found.ensures in
    let n : rules.Name = name_in c.args.name in
    let s = found_in z.pool.now c.in_ok-found.found in
    let p = err_from_is_err_and c.from_residual-in_err-whole.result c.from_residual-in_err-whole.ensures.1 in
    let q = c.take_arguments.new.self.pool.now in
    let e = c.in_err-whole.field-0.0 in
    let K : Over → Values → Type 0 = λ o vs. RefusedBy q (λ r. Read o (spine o.signature c.args.pos c.args.at vs (map (arg_meaning o.signature) c.args.args.now) s) (Refuses r)) e in
    let h : K (over x) (values_of z) = subst (λ (o : Over). K o (values_of z)) (over_kept c.requires.ready j.grows j.keeps) c.in_err-whole.ensures.is in
    rw (p.1, p.2) (type-no_spine (over x) c.args.pos c.args.at n (args_in x c.args.args.now) (values_of x) s j.is.2 q e (subst (λ (vs : Values). K (over x) vs) (values_kept c.requires.ready j.grows j.keeps) h))

pub type_name-as_type-requires-clause-ready : goal.type_name-as_type-requires-clause-ready
type_name-as_type-requires-clause-ready t c =
    let j = c.in_ok-found.ensures in
    let l = c.in_ok-whole.ensures in
    ready_kept c.requires.ready (Grows-trans j.grows l.grows) (Keeps-trans j.keeps l.keeps)

pub type_name-returns-clause-is : goal.type_name-returns-clause-is
type_name-returns-clause-is t c =
    let x = c.args.self.now in
    let z = c.start.new.self in
    let j = c.in_ok-found.ensures in
    let n : rules.Name = name_in c.args.name in
    let s = found_in z.pool.now c.in_ok-found.found in
    let v = c.take_arguments.new.self in
    let l = c.in_ok-whole.ensures in
    let t = found_in v.pool.now c.in_ok-whole.whole in
    let q = c.as_type.new.self.pool.now in
    let D : Over → Values → Type 0 = λ o vs. Read o (spine o.signature c.args.pos c.args.at vs (map (arg_meaning o.signature) c.args.args.now) s) (Gives t) in
    let d0 : D (over x) (values_of z) = subst (λ (o : Over). D o (values_of z)) (over_kept c.requires.ready j.grows j.keeps) l.is.2 in
    let d1 : D (over x) (values_of x) = subst (λ (vs : Values). D (over x) vs) (values_kept c.requires.ready j.grows j.keeps) d0 in
    let a0 = subst (λ (o : Over). AnswersTyped q (Read o (as_type c.args.pos c.args.at t)) c.as_type.result) (over_kept c.requires.ready (Grows-trans j.grows l.grows) (Keeps-trans j.keeps l.keeps)) c.as_type.ensures.is in
    type-by q (Read (over x) (as_type c.args.pos c.args.at t)) (Read (over x) (name_typed (signature_of x) c.args.pos c.args.at n (args_in x c.args.args.now) (values_of x)))
    (λ r u. type-ends (over x) c.args.pos c.args.at n (args_in x c.args.args.now) (values_of x) s j.is.2 t d1 r u) c.as_type.result a0

pub take_argument-returns-in-Project-clause-is : goal.take_argument-returns-in-Project-clause-is
take_argument-returns-in-Project-clause-is t c =
    let x = c.args.self.now in
    let g = signature_of x in
    let f = c.take_field in
    subst (λ (m : ArgMeaning). AnswersStep f.new.self.pool.now c.args.taken.now (Read (over x) (one_step g c.args.pos c.args.at (values_of x) (under_args x.pool.now (term_of x c.args.term) c.args.taken.now c.args.ty) m)) f.result) (sym (ap (arg_meaning g) c.in-Project.is ∙ project_means g _ _)) f.ensures.is

pub check_expr-returns-in-Record-clause-is : goal.check_expr-returns-in-Record-clause-is
check_expr-returns-in-Record-clause-is t c =
    let x = c.args.self.now in
    let g = signature_of x in
    checked_as (over x) (values_of x) (term_of x c.args.wanted) c.check_record.new.self.pool.now c.check_record.result _ _
    (ap (λ (m : ExprMeaning). m.checks) (ap (expr_meaning g) c.in-Record.is ∙ record_means g _ _)
    ∙ ap (λ (vs : List ResolvedValue). record_checked g c.in-Record.place.pos (values_meant g vs)) (sym c.as_slice-in-Record.ensures)) c.check_record.ensures.is

pub put_field-returns-in_default-clause-is : goal.put_field-returns-in_default-clause-is
put_field-returns-in_default-clause-is t c =
    let x = c.args.self.now in
    let g = signature_of x in
    let name : c.field.inside.name ≡ c.args.field.now.name = ap (λ (w : Entry ℕ). w.name) c.field.view_is in
    let none : None ≡ value_of c.args.field.now.name (values_meant g c.args.values.now) =
    ap (option_and_then (λ i. option_map (checks_of g) (slice_get c.args.values.now i))) (sym c.in_default.is) ∙ c.place_of.ensures.is g ∙ ap (λ n. value_of n (values_meant g c.args.values.now)) name in
    rw c.refused.ensures (tt, subst (λ (v : Option Checks). Read (over x) (field_checked c.args.pos v (values_of x) (under (map (term_of x) c.args.env.now) (term_of x c.args.field.now.ty))) (Refuses (at c.args.pos BadField))) none refl)

pub put_field-check_expr-requires : goal.put_field-check_expr-requires
put_field-check_expr-requires t c =
    (search (rules, the_lemmas), (ready_kept c.requires.ready c.in_ok-ty.ensures.grows c.in_ok-ty.ensures.keeps, c.in_ok-ty.ensures.is.within))

pub put_field-returns-in_err-arg-clause-is : goal.put_field-returns-in_err-arg-clause-is
put_field-returns-in_err-arg-clause-is t c =
    let x = c.args.self.now in
    let y = c.field_type.new.self in
    let g = signature_of x in
    let j = c.in_ok-ty.ensures in
    let name : c.field.inside.name ≡ c.args.field.now.name = ap (λ (w : Entry ℕ). w.name) c.field.view_is in
    let type : c.field.inside.ty ≡ c.args.field.now.ty = ap (λ (w : Entry ℕ). w.ty) c.field.view_is in
    let item = slice_get_read c.args.values.now (length c.args.values.now) c.in-Some.place c.index-values-place.result refl c.in-Some.ensures.within c.index-values-place.is in
    let some : Some (checks_of g (get_or c.args.values.now c.in-Some.place c.index-values-place.result)) ≡ value_of c.args.field.now.name (values_meant g c.args.values.now) =
    ap (λ (r : ResolvedValue). Some (checks_of g r)) (sym c.index-values-place.is) ∙ ap (option_map (checks_of g)) (sym item) ∙ c.in-Some.ensures.is g ∙ ap (λ n. value_of n (values_meant g c.args.values.now)) name in
    let p = err_from_is_err_and c.from_residual-in_err-arg.result c.from_residual-in_err-arg.ensures.1 in
    let q = c.check_expr.new.self.pool.now in
    let value = get_or c.args.values.now c.in-Some.place c.index-values-place.result in
    let v = value.value in
    let a = c.in_ok-ty.ty in
    let w = c.in_err-arg.field-0.0 in
    let is : term_of y a ≡ under (map (term_of x) c.args.env.now) (term_of x c.args.field.now.ty) = j.is.is ∙ ap (λ n. under (map (term_of x) c.args.env.now) (term_of x n)) type in
    rw (p.1, p.2) (refused-weaker q (λ z. Read (over y) ((expr_meaning (signature_of y) v).checks (values_of y) (term_of y a)) (Refuses z)) (λ z. FieldRead c.args.pos c.args.values.now x c.args.field.now c.args.env.now (Refuses z))
    (λ z h. field-value c.requires.ready j.grows j.keeps c.args.pos c.args.values.now c.args.field.now c.args.env.now v a (Refuses z) some is h) w c.in_err-arg.ensures.is)

pub put_field-returns-clause-is : goal.put_field-returns-clause-is
put_field-returns-clause-is t c =
    let x = c.args.self.now in
    let y = c.field_type.new.self in
    let g = signature_of x in
    let j = c.in_ok-ty.ensures in
    let name : c.field.inside.name ≡ c.args.field.now.name = ap (λ (w : Entry ℕ). w.name) c.field.view_is in
    let type : c.field.inside.ty ≡ c.args.field.now.ty = ap (λ (w : Entry ℕ). w.ty) c.field.view_is in
    let item = slice_get_read c.args.values.now (length c.args.values.now) c.in-Some.place c.index-values-place.result refl c.in-Some.ensures.within c.index-values-place.is in
    let some : Some (checks_of g (get_or c.args.values.now c.in-Some.place c.index-values-place.result)) ≡ value_of c.args.field.now.name (values_meant g c.args.values.now) =
    ap (λ (r : ResolvedValue). Some (checks_of g r)) (sym c.index-values-place.is) ∙ ap (option_map (checks_of g)) (sym item) ∙ c.in-Some.ensures.is g ∙ ap (λ n. value_of n (values_meant g c.args.values.now)) name in
    let value = get_or c.args.values.now c.in-Some.place c.index-values-place.result in
    let v = value.value in
    let a = c.in_ok-ty.ty in
    let z = c.check_expr.new.self in
    let is : term_of y a ≡ under (map (term_of x) c.args.env.now) (term_of x c.args.field.now.ty) = j.is.is ∙ ap (λ n. under (map (term_of x) c.args.env.now) (term_of x n)) type in
    let i = c.in_ok-arg.ensures in
    let s = c.in_ok-term.ensures in
    let flag : c.field.inside.flag ≡ c.args.field.now.flag = ap (λ (w : Entry ℕ). w.flag) c.field.view_is in
    let fun : term_of z c.args.term ≡ term_of x c.args.term = Extends-tree c.args.term (Grows-trans j.grows i.grows).extends c.requires.term in
    let n : term_of z c.in_ok-arg.arg ≡ tree c.add.new.self c.in_ok-arg.arg = sym (Extends-tree c.in_ok-arg.arg s.extends i.is.0) in
    let read : FieldRead c.args.pos c.args.values.now x c.args.field.now c.args.env.now (Gives (term_of z c.in_ok-arg.arg)) = field-value c.requires.ready j.grows j.keeps c.args.pos c.args.values.now c.args.field.now c.args.env.now v a _ some is i.is.1 in
    record {
      arg = omega (arith, i.is.0, Extends-length s.extends);
      term = record {
        within = s.stands.within;
        is = s.stands.is ∙ (ap (λ (f : Flag). App f (term_of z c.args.term) (term_of z c.in_ok-arg.arg)) flag ∙ (ap (λ (u : Term). App c.args.field.now.flag u (term_of z c.in_ok-arg.arg)) fun ∙ ap (App c.args.field.now.flag (term_of x c.args.term)) n));
      };
      is = subst (λ (u : Term). FieldRead c.args.pos c.args.values.now x c.args.field.now c.args.env.now (Gives u)) n read;
    }

pub check_fields-loop-field-init : goal.check_fields-loop-field-init
check_fields-loop-field-init t c =
    let x = c.args.self.now in
    let y = c.con_at.new.self in
    let e = c.in_ok-env.ensures in
    let s = c.in_ok-term.ensures in
    let ps = c.args.at.now.params.items in
    let fields = c.fields_in-fields.result.now in
    let same : c.as_slice-params.result.now ≡ ps = c.as_slice-params.ensures.value in
    let vs = values_meant (signature_of x) c.args.values.now in
    let n = length y.pool.now.trees in
    let d = at_record (signature_of x) x.pool.now c.args.at.now in
    let rs : map (term_of y) (drop (length fields) c.in_ok-env.env.items) ≡ reverse (map (term_of x) ps) =
    ap (map (term_of y)) (e.is ∙ ap reverse same) ∙ (map-reverse (term_of y) ps ∙ ap reverse (items-stay x.pool.now y.pool.now ps s.grows.extends c.requires.at.params)) in
    let con : term_of y c.in_ok-term.term ≡ Con d.con (from_list d.params) = s.is.is ∙ ap (λ (ts : List ℕ). Con d.con (from_list (map (term_of x) ts))) same in
    record {
      grows = s.grows;
      keeps = s.keeps;
      term = s.is.within;
      env = e.below n (subst (AllByRecursion (λ t. t < n)) (sym same) (all-weaker (λ t. t < length x.pool.now.trees) (λ t. t < n) (within_kept c.requires.ready s.grows s.keeps) ps c.requires.at.params)) s.is.within;
      count = e.count ∙ ap (λ k. length fields + k) (ap length same);
      start = omega arith;
      reading = λ q h.
          let one = subst (λ (es : Telescope Term). Read (over x) (fields_put c.args.pos (values_of x) vs es (map (term_of y) (drop (length fields) c.in_ok-env.env.items)) (term_of y c.in_ok-term.term)) q) (c.fields_in-fields.ensures.is x.pool.now) h in
          let two = subst (λ (us : List Term). Read (over x) (fields_put c.args.pos (values_of x) vs d.fields us (term_of y c.in_ok-term.term)) q) rs one in
          subst (λ (t : Term). Read (over x) (fields_put c.args.pos (values_of x) vs d.fields (reverse d.params) t) q) con two;
    }

pub check_fields-put_field-requires : goal.check_fields-put_field-requires
check_fields-put_field-requires t c =
    let x = c.args.self.now in
    let l = c.loop-field in
    let i = l.invariant in
    let fields = c.fields_in-fields.result.now in
    let all = c.fields_in-fields.ensures.below x.pool.now c.requires.ready.signature in
    let low = within_kept c.requires.ready i.grows i.keeps c.field-item.result.ty
    (all-at (λ (e : Entry ℕ). e.ty < length x.pool.now.trees) fields l.field-index c.field-item.result all (slice_get_read fields (length fields) l.field-index c.field-item.result refl c.loop-field-test.true c.field-item.is)) in
    let before : c.onward-before.result.now ≡ drop l.start l.env.items = c.onward-before.ensures ∙ ap (drop l.start) c.as_slice.ensures.value in
    let n = length l.self.pool.now.trees in
    (omega (arith, c.decreases), (ready_kept c.requires.ready i.grows i.keeps, (c.requires.labels, (low, (i.term, subst (AllByRecursion (λ t. t < n)) (sym before) (all-dropped (λ t. t < n) l.start l.env.items i.env))))))

pub check_fields-returns-in_err-put-clause-is : goal.check_fields-returns-in_err-put-clause-is
check_fields-returns-in_err-put-clause-is t c =
    let x = c.args.self.now in
    let l = c.loop-field in
    let i = l.invariant in
    let e = c.field-item.result in
    let fields = c.fields_in-fields.result.now in
    let all = c.fields_in-fields.ensures.below x.pool.now c.requires.ready.signature in
    let low = all-at (λ (e : Entry ℕ). e.ty < length x.pool.now.trees) fields l.field-index e all (slice_get_read fields (length fields) l.field-index e refl c.loop-field-test.true c.field-item.is) in
    let q = c.put_field.new.self.pool.now in
    let w = c.in_err-put.field-0.0 in
    let p = err_from_is_err_and c.from_residual-in_err-put.result c.from_residual-in_err-put.ensures.1 in
    let before : c.onward-before.result.now ≡ drop l.start l.env.items = c.onward-before.ensures ∙ ap (drop l.start) c.as_slice.ensures.value in
    let h0 = c.in_err-put.ensures.is in
    let h : RefusedBy q (λ z. FieldRead c.args.pos c.args.values.now l.self e (drop l.start l.env.items) (Refuses z)) w =
    subst (λ (us : List ℕ). RefusedBy q (λ z. FieldRead c.args.pos c.args.values.now l.self e us (Refuses z)) w) before h0 in
    rw (p.1, p.2) (field-no c.requires.ready i.grows i.keeps c.args.pos c.args.values.now (at_record (signature_of x) x.pool.now c.args.at.now) fields l.field-index e c.loop-field-test.true c.field-item.is low (drop l.start l.env.items) l.term i.reading q w h)

pub check_fields-loop-field-preserved : goal.check_fields-loop-field-preserved
check_fields-loop-field-preserved t c =
    let x = c.args.self.now in
    let l = c.loop-field in
    let i = l.invariant in
    let e = c.field-item.result in
    let fields = c.fields_in-fields.result.now in
    let all = c.fields_in-fields.ensures.below x.pool.now c.requires.ready.signature in
    let low = all-at (λ (e : Entry ℕ). e.ty < length x.pool.now.trees) fields l.field-index e all (slice_get_read fields (length fields) l.field-index e refl c.loop-field-test.true c.field-item.is) in
    let z = c.put_field.new.self in
    let n = length z.pool.now.trees in
    let w = c.in_ok-put.put in
    let s = c.in_ok-put.ensures in
    let before : c.onward-before.result.now ≡ drop l.start l.env.items = c.onward-before.ensures ∙ ap (drop l.start) c.as_slice.ensures.value in
    let h0 = s.is in
    let h : IsPut z.pool.now e.flag (term_of l.self l.term) (λ u. FieldRead c.args.pos c.args.values.now l.self e (drop l.start l.env.items) (Gives u)) w =
    subst (λ (us : List ℕ). IsPut z.pool.now e.flag (term_of l.self l.term) (λ u. FieldRead c.args.pos c.args.values.now l.self e us (Gives u)) w) before h0 in
    let more : (t : ℕ) → t < length l.self.pool.now.trees → t < n = λ t k. omega (arith, k, Extends-length s.grows.extends) in
    let put = put_before n l.start w.arg l.env.items (omega (arith, i.start, c.loop-field-test.true)) (omega (arith, i.start, i.count)) (all-weaker (λ t. t < length l.self.pool.now.trees) (λ t. t < n) more l.env.items i.env) h.arg in
    record {
      grows = Grows-trans i.grows s.grows;
      keeps = Keeps-trans i.keeps s.keeps;
      term = h.term.within;
      env = put.0;
      count = put.1 ∙ i.count;
      start = omega (arith, i.start, c.loop-field-test.true);
      reading = field-yes c.requires.ready i.grows i.keeps c.args.pos c.args.values.now (at_record (signature_of x) x.pool.now c.args.at.now) fields l.field-index e c.loop-field-test.true c.field-item.is low (drop l.start l.env.items) l.term i.reading
          s.grows w h _ put.2 (all-dropped (λ t. t < length l.self.pool.now.trees) l.start l.env.items i.env);
    }

pub check_fields-returns-clause-is : goal.check_fields-returns-clause-is
check_fields-returns-clause-is t c =
    let l = c.loop-field in
    let i = l.invariant in
    let fields = c.fields_in-fields.result.now in
    let none : drop l.field-index fields ≡ [] = drop_all l.field-index fields (omega (arith, c.loop-field-test.false)) in
    let vs = values_meant (signature_of c.args.self.now) c.args.values.now in
    let x = c.args.self.now in
    let us = map (term_of l.self) (drop l.start l.env.items) in
    (i.term, i.reading (Gives (term_of l.self l.term)) (subst (λ (es : List (Entry ℕ)). Read (over x) (fields_put c.args.pos (values_of x) vs (telescope_map (term_of x) es) us (term_of l.self l.term)) (Gives (term_of l.self l.term))) (sym none) refl))

pub check_record-returns-in_err-at-clause-is : goal.check_record-returns-in_err-at-clause-is
check_record-returns-in_err-at-clause-is t c =
    let x = c.args.self.now in
    let g = signature_of x in
    let b = term_of x c.args.wanted in
    let ms = values_meant g c.args.values.now in
    let p = err_from_is_err_and c.from_residual.result c.from_residual.ensures.1 in
    rw (p.1, p.2) (refused-weaker c.record_wanted.new.self.pool.now (λ d. Read (over x) (record_wanted g c.args.pos b) (Refuses d)) (λ d. Read (over x) (record_checked g c.args.pos ms (values_of x) b) (Refuses d))
    (λ d h. no-record (over x) c.args.pos (values_of x) ms b d h) c.in_err-at.field-0.0 c.in_err-at.ensures.is)

pub check_record-returns-then-not-has_fields-clause-is : goal.check_record-returns-then-not-has_fields-clause-is
check_record-returns-then-not-has_fields-clause-is t c =
    let x = c.args.self.now in
    let y = c.record_wanted.new.self in
    let j = c.in_ok-at.ensures in
    let g = signature_of x in
    let vs = c.args.values.now in
    let d = at_record g y.pool.now c.in_ok-at.at in
    let m = c.in_ok-labels.labels in
    let same = signature_same c.requires.ready j.grows j.keeps.signature j.keeps.limits in
    let tested : c.has_fields.result ≡ are_fields d.fields (values_meant g vs) =
    c.has_fields.ensures ∙ ap (λ (g : Signature Term). eqb (length vs) (length (fields_of g c.in_ok-at.at.fam)) && list_all (λ e. is_once (labelled m e.name)) (fields_of g c.in_ok-at.at.fam)) same ∙ sym (fields-tested g m vs d.fields c.in_ok-labels.ensures) in
    rw c.refused.ensures (tt, other-fields (over x) c.args.pos (values_of x) (values_meant g vs) (term_of x c.args.wanted) d j.is.1 (sym tested ∙ c.if-not-has_fields.true))

pub check_record-check_fields-requires : goal.check_record-check_fields-requires
check_record-check_fields-requires t c =
    let j = c.in_ok-at.ensures in
    let y = c.record_wanted.new.self in
    (omega (arith, c.decreases), (ready_kept c.requires.ready j.grows j.keeps, (subst (λ (s : Signature ℕ). IsWithin y.pool.now (length (fams s)) c.in_ok-at.at) (sym j.keeps.signature) j.is.0, c.in_ok-labels.ensures)))

pub check_record-returns-clause-is : goal.check_record-returns-clause-is
check_record-returns-clause-is t c =
    let x = c.args.self.now in
    let y = c.record_wanted.new.self in
    let j = c.in_ok-at.ensures in
    let g = signature_of x in
    let vs = c.args.values.now in
    let a = c.in_ok-at.at in
    let d = at_record g y.pool.now a in
    let m = c.in_ok-labels.labels in
    let same = signature_same c.requires.ready j.grows j.keeps.signature j.keeps.limits in
    let tested : c.has_fields.result ≡ are_fields d.fields (values_meant g vs) =
    c.has_fields.ensures ∙ ap (λ (g : Signature Term). eqb (length vs) (length (fields_of g a.fam)) && list_all (λ e. is_once (labelled m e.name)) (fields_of g a.fam)) same ∙ sym (fields-tested g m vs d.fields c.in_ok-labels.ensures) in
    let q = c.check_fields.new.self.pool.now in
    let one = subst (λ (o : Over). AnswersTerm q (Read o (record_put c.args.pos (values_of y) (values_meant o.signature vs) (at_record o.signature y.pool.now a))) c.check_fields.result) (over_kept c.requires.ready j.grows j.keeps) c.check_fields.ensures.is in
    let two = subst (λ (us : Values). AnswersTerm q (Read (over x) (record_put c.args.pos us (values_meant g vs) d)) c.check_fields.result) (values_kept c.requires.ready j.grows j.keeps) one in
    term-by q (Read (over x) (record_put c.args.pos (values_of x) (values_meant g vs) d)) (Read (over x) (record_checked g c.args.pos (values_meant g vs) (values_of x) (term_of x c.args.wanted)))
    (λ r u. its-fields (over x) c.args.pos (values_of x) (values_meant g vs) (term_of x c.args.wanted) d j.is.1 (sym tested ∙ c.if-not-has_fields.false) r u) c.check_fields.result two
