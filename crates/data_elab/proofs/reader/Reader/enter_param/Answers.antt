use Rattle.std.proofs.Common.{◌∷◌, [], ◌∙◌, List, refl, ap, sym, subst}
use Rattle.core_rules.specs.declared.Flag.TheVariants as flag
use Rattle.kernel_rules.specs.Outcome.{Refuses}
use Rattle.resolved_tree.specs.declared.resolved.ResolvedExpr.{ResolvedExpr}
use Rattle.resolved_tree.specs.declared.resolved.ResolvedName.{ResolvedName}
use Rattle.written_rules.specs.Refusals.{CannotInfer}
use Rattle.written_rules.specs.Rules.{BinderMeaning, Typed}
use Rattle.written_rules.specs.Expressions.{binder_meaning, expr_meaning, ids}
use Rattle.written_rules.proofs.Forms.{braced_binds, explicit_binds, implicit_binds, name_binds, underscore_binds}
use Rattle.data_rules.specs.Refusals.{Elab, at}
use Rattle.data_rules.specs.Rules.{params}
use Rattle.data_elab.specs.Params.{AnswersEntered}
use Rattle.data_elab.specs.Reader.{Read, over, signature_of, values_of}
use Rattle.data_elab.proofs.reader.Reader.enter_param.Goals as goal

pub returns-in-Explicit-clause-is : goal.returns-in-Explicit-clause-is
returns-in-Explicit-clause-is c =
    let x = c.args.self.now in
    let g = signature_of x in
    let y = c.enter_typed.new.self in
    let h = subst (λ (a : ResolvedExpr). AnswersEntered x y (params (Typed flag.Explicit (ids c.in-Explicit.names) (expr_meaning g a).types ∷ []) (values_of x)) c.enter_typed.result) c.get.ensures
    (subst (λ (xs : List ResolvedName). AnswersEntered x y (params (Typed flag.Explicit (ids xs) (expr_meaning g c.get.result.now).types ∷ []) (values_of x)) c.enter_typed.result) c.as_slice.ensures c.enter_typed.ensures.is) in
    subst (λ (m : BinderMeaning). AnswersEntered x y (params (m ∷ []) (values_of x)) c.enter_typed.result) (sym (ap (binder_meaning g) c.in-Explicit.is ∙ explicit_binds g _ _ _)) h

pub returns-in-Implicit-clause-is : goal.returns-in-Implicit-clause-is
returns-in-Implicit-clause-is c =
    let x = c.args.self.now in
    let g = signature_of x in
    let y = c.enter_typed-in-Implicit.new.self in
    let h = subst (λ (a : ResolvedExpr). AnswersEntered x y (params (Typed flag.Implicit (ids c.in-Implicit.names) (expr_meaning g a).types ∷ []) (values_of x)) c.enter_typed-in-Implicit.result) c.get-in-Implicit.ensures
    (subst (λ (xs : List ResolvedName). AnswersEntered x y (params (Typed flag.Implicit (ids xs) (expr_meaning g c.get-in-Implicit.result.now).types ∷ []) (values_of x)) c.enter_typed-in-Implicit.result) c.as_slice-in-Implicit.ensures c.enter_typed-in-Implicit.ensures.is) in
    subst (λ (m : BinderMeaning). AnswersEntered x y (params (m ∷ []) (values_of x)) c.enter_typed-in-Implicit.result) (sym (ap (binder_meaning g) c.in-Implicit.is ∙ implicit_binds g _ _ _)) h

pub returns-in-Name-clause-is : goal.returns-in-Name-clause-is
returns-in-Name-clause-is c =
    let x = c.args.self.now in
    let g = signature_of x in
    rw c.left_out.ensures (tt, subst (λ (m : BinderMeaning). Read (over x) (params (m ∷ []) (values_of x)) (Refuses (at c.in-Name.name.place.pos (Elab CannotInfer)))) (sym (ap (binder_meaning g) c.in-Name.is ∙ name_binds g _)) refl)

pub returns-in-Braced-clause-is : goal.returns-in-Braced-clause-is
returns-in-Braced-clause-is c =
    let x = c.args.self.now in
    let g = signature_of x in
    rw c.left_out-in-Braced.ensures (tt, subst (λ (m : BinderMeaning). Read (over x) (params (m ∷ []) (values_of x)) (Refuses (at c.in-Braced.place.pos (Elab CannotInfer)))) (sym (ap (binder_meaning g) c.in-Braced.is ∙ braced_binds g _ _)) refl)

pub returns-in-Underscore-clause-is : goal.returns-in-Underscore-clause-is
returns-in-Underscore-clause-is c =
    let x = c.args.self.now in
    let g = signature_of x in
    rw c.left_out-in-Underscore.ensures (tt, subst (λ (m : BinderMeaning). Read (over x) (params (m ∷ []) (values_of x)) (Refuses (at c.in-Underscore.place.pos (Elab CannotInfer)))) (sym (ap (binder_meaning g) c.in-Underscore.is ∙ underscore_binds g _)) refl)
