use Rattle.std.proofs.Common.{◌≡◌, ◌<◌, map, ap, sym, subst, ◌∙◌}
use Rattle.std.specs.Prelude.{ℕ, Option, Some, None, IfSome}
use Rattle.core_rules.proofs.Heads.OneAnswer.{one_some}
use Rattle.core_terms.specs.Signature.{field_total}
use Rattle.conversion.proofs.Slices.{none_of}
use Rattle.declared_types.proofs.Fields.{field_named}
use Rattle.kernel_rules.specs.Outcome.{Gives, Refuses}
use Rattle.std.proofs.Common.{Global}
use Rattle.std.specs.declared.vec.Vec.{Vec}
use Rattle.term_pool.specs.Pool.{tree}
use Rattle.weak_head.specs.States.{answer_in}
use Rattle.lhs_rules.specs.Asking.{Reads}
use Rattle.lhs_rules.specs.Patterns.{pattern_meaning}
use Rattle.lhs_rules.specs.Refusals.{Refusal}
use Rattle.lhs_rules.specs.Rules.{misfit}
use Rattle.lhs_rules.specs.Spots.{Left}
use Rattle.lhs_elab.specs.Dues.{field_in}
use Rattle.lhs_elab.specs.Elaborator.{Comes, left_of, over, signature_of, term_of}
use Rattle.lhs_elab.specs.Walking.{IsOwn, needed_read, own_at}
use Rattle.lhs_elab.proofs.Owning.{field-taken, nothing-taken}
use Rattle.lhs_elab.proofs.Refusing.{refused-as}
use Rattle.lhs_elab.proofs.elaborator.Elaborator.step_other.Goals as goal

pub returns-in_default-clause-is : goal.returns-in_default-clause-is
returns-in_default-clause-is g c = λ f full no_pi.
    let F = g.S.Solutions.solution in
    let x = c.args.self.now in
    let o = over F f x in
    let G = signature_of x in
    let m = pattern_meaning G x.function c.args.pattern.now in
    let w = answer_in (term_of x) c.args.shown.now.meta c.args.shown.now.form in
    let none : field_in m.next ≡ None = sym (c.field_of.ensures G x.function) ∙ none_of c.field_of.result c.in_default.not-Some in
    refused-as x.pool.now (λ (r : Refusal). r ≡ misfit c.position.result m.pos m.next) (λ (r : Refusal). (again : Left → Reads Left) → Comes o (needed_read G x.function m (left_of x) w again) (Refuses r))
    (λ (r : Refusal) (h : r ≡ misfit c.position.result m.pos m.next). λ (again : Left → Reads Left).
    subst (λ (M : Reads Left). Comes o M (Refuses r)) (sym (nothing-taken G x.function m (left_of x) w again no_pi (λ h e. let a : Some h ≡ None = sym e ∙ none in absurd (cc a)))) (ap Refuses (h ∙ ap (λ p. misfit p m.pos m.next) (c.position.ensures G x.function)))) c.misfit.result (c.misfit.ensures G x.function x.pool.now)

pub returns-in_default-found-clause-is : goal.returns-in_default-found-clause-is
returns-in_default-found-clause-is g c = λ f full no_pi.
    let F = g.S.Solutions.solution in
    let x = c.args.self.now in
    let o = over F f x in
    let G = signature_of x in
    let m = pattern_meaning G x.function c.args.pattern.now in
    let w = answer_in (term_of x) c.args.shown.now.meta c.args.shown.now.form in
    let field : field_in m.next ≡ Some c.in-Some.field = sym (c.field_of.ensures G x.function) ∙ c.in-Some.is in
    let own : own_at G w c.in-Some.field ≡ None = subst (λ (v : Option (Vec ℕ Global)). IsOwn x.pool.now (own_at G w c.in-Some.field) v) (none_of c.in_ok-found.found c.in_default-found.not-Some) c.in_ok-found.ensures.is in
    refused-as x.pool.now (λ (r : Refusal). r ≡ misfit c.position-in_default-found.result m.pos m.next) (λ (r : Refusal). (again : Left → Reads Left) → Comes o (needed_read G x.function m (left_of x) w again) (Refuses r))
    (λ (r : Refusal) (h : r ≡ misfit c.position-in_default-found.result m.pos m.next). λ (again : Left → Reads Left).
    subst (λ (M : Reads Left). Comes o M (Refuses r)) (sym (nothing-taken G x.function m (left_of x) w again no_pi (λ h e. let k : c.in-Some.field ≡ h = one_some (sym field ∙ e) in ap (own_at G w) (sym k) ∙ own))) (ap Refuses (h ∙ ap (λ p. misfit p m.pos m.next) (c.position-in_default-found.ensures G x.function)))) c.misfit-in_default-found.result (c.misfit-in_default-found.ensures G x.function x.pool.now)

pub project-requires : goal.project-requires
project-requires g c =
    let x = c.args.self.now in
    let w = answer_in (term_of x) c.args.shown.now.meta c.args.shown.now.form in
    let own = subst (λ (v : Option (Vec ℕ Global)). IsOwn x.pool.now (own_at (signature_of x) w c.in-Some.field) v) c.in-Some-found.is c.in_ok-found.ensures.is in
    record {
      ready = c.requires.ready;
      field = subst (λ (v : Option (Vec ℕ Global)). IfSome v (λ u. c.in-Some.field < field_total x.signature.now)) c.in-Some-found.is c.in_ok-found.ensures.field;
      params = own.3;
    }

pub returns-clause-is : goal.returns-clause-is
returns-clause-is g c = λ f full no_pi again.
    let F = g.S.Solutions.solution in
    let x = c.args.self.now in
    let o = over F f x in
    let G = signature_of x in
    let m = pattern_meaning G x.function c.args.pattern.now in
    let w = answer_in (term_of x) c.args.shown.now.meta c.args.shown.now.form in
    let h = c.in-Some.field in
    let own = subst (λ (v : Option (Vec ℕ Global)). IsOwn x.pool.now (own_at G w h) v) c.in-Some-found.is c.in_ok-found.ensures.is in
    let below = subst (λ (v : Option (Vec ℕ Global)). IfSome v (λ u. h < field_total x.signature.now)) c.in-Some-found.is c.in_ok-found.ensures.field in
    let is = field_named x.pool.now x.signature.now h below in
    let field : field_in m.next ≡ Some h = sym (c.field_of.ensures G x.function) ∙ c.in-Some.is in
    subst (λ (M : Reads Left). Comes o M (Gives (left_of c.project.new.self))) (sym (field-taken G h is x.function m (left_of x) w own.0 (map (tree x.pool.now) c.in-Some-found.params.items) again field own.1 own.2)) (ap Gives (c.in_ok-project.ensures.left is))
