use Rattle.std.proofs.lemmas.Result.{err_from_is_err_and}
use Rattle.std.proofs.Common.{◌≡◌, [], refl, ap, sym, subst, ◌∙◌}
use Rattle.core_rules.specs.Term.{Pi}
use Rattle.core_rules.specs.Heads.{Answer, Form}
use Rattle.kernel_rules.specs.Outcome.{Refuses}
use Rattle.lhs_rules.specs.Refusals.{Refusal}
use Rattle.lhs_rules.specs.Asking.{Reads}
use Rattle.lhs_rules.specs.Spots.{Left}
use Rattle.lhs_rules.specs.Rules.{misfit}
use Rattle.lhs_rules.specs.Patterns.{pattern_meaning}
use Rattle.lhs_elab.specs.declared.due.Due.TheVariants as D
use Rattle.lhs_elab.specs.Dues.{due_of, written_of}
use Rattle.lhs_elab.specs.Elaborator.{Comes, left_of, over, signature_of, term_of}
use Rattle.lhs_elab.specs.Walking.{needed_read, taken_read}
use Rattle.lhs_elab.proofs.Refusing.{refused-as}
use Rattle.lhs_elab.proofs.Walks.{due-refuses, due-takes}
use Rattle.lhs_elab.proofs.elaborator.Elaborator.step_function.Goals as goal

pub returns-in_err-take_pattern-in-Takes-clause-is : goal.returns-in_err-take_pattern-in-Takes-clause-is
returns-in_err-take_pattern-in-Takes-clause-is g c = λ f w full i.
    let x = c.args.self.now in
    let y = c.take_pattern.new.self in
    let o = over g.S.Solutions.solution f x in
    let G = signature_of x in
    let fn = c.args.function in
    let m = pattern_meaning G x.function c.args.pattern.now in
    let a = term_of x fn.dom in
    let t = term_of x fn.cod in
    let due : due_of fn.flag fn.name (written_of m.next) ≡ D.Takes = ap (due_of fn.flag fn.name) (sym (c.how_written.ensures G x.function)) ∙ (sym c.what_takes.ensures ∙ c.in-Takes.is) in
    let v : Answer = Form (Pi fn.flag fn.name a t) [] in
    let e = err_from_is_err_and c.from_residual.result c.from_residual.ensures.1 in
    rw (e.1, e.2)
    (refused-as y.pool.now (λ (r : Refusal). Comes o (taken_read m (left_of x) fn.flag v a t) (Refuses r)) (λ (r : Refusal). (again : Left → Reads Left) → Comes o (needed_read G x.function m (left_of x) w again) (Refuses r))
    (λ r h again.
    subst (λ (u : Answer). Comes o (needed_read G x.function m (left_of x) u again) (Refuses r)) (sym i.2)
    (subst (λ (M : Reads Left). Comes o M (Refuses r)) (sym (due-takes G x.function m.pos (left_of x) again fn.name a t fn.flag m.next due)) h)) c.in_err-take_pattern-in-Takes.field-0.0 (c.in_err-take_pattern-in-Takes.ensures.is f v full refl))

pub returns-in-Refuses-clause-is : goal.returns-in-Refuses-clause-is
returns-in-Refuses-clause-is g c = λ f w full i.
    let x = c.args.self.now in
    let o = over g.S.Solutions.solution f x in
    let G = signature_of x in
    let fn = c.args.function in
    let m = pattern_meaning G x.function c.args.pattern.now in
    let a = term_of x fn.dom in
    let t = term_of x fn.cod in
    let due : due_of fn.flag fn.name (written_of m.next) ≡ D.Refuses = ap (due_of fn.flag fn.name) (sym (c.how_written.ensures G x.function)) ∙ (sym c.what_takes.ensures ∙ c.in-Refuses.is) in
    refused-as x.pool.now (λ (r : Refusal). r ≡ misfit c.position.result m.pos m.next) (λ (r : Refusal). (again : Left → Reads Left) → Comes o (needed_read G x.function m (left_of x) w again) (Refuses r))
    (λ r h again.
    subst (λ (u : Answer). Comes o (needed_read G x.function m (left_of x) u again) (Refuses r)) (sym i.2)
    (subst (λ (M : Reads Left). Comes o M (Refuses r)) (sym (due-refuses G x.function m.pos (left_of x) again fn.name a t fn.flag m.next due))
    (ap Refuses (h ∙ ap (λ p. misfit p m.pos m.next) (c.position.ensures G x.function))))) c.misfit.result (c.misfit.ensures G x.function x.pool.now)
