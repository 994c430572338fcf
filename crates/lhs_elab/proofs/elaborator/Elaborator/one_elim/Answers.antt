use Rattle.std.proofs.Common.{◌≡◌, ◌-◌, ℕ, suc, refl, sym, subst, arith}
use Rattle.std.specs.Prelude.{Ok, Err}
use Rattle.std.proofs.lemmas.Result.{err_from_is_err_and}
use Rattle.el_outside.specs.declared.place.Pos.{Pos}
use Rattle.kernel_rules.specs.Outcome.{Gives, Refuses}
use Rattle.lhs_rules.specs.Asking.{Reads}
use Rattle.lhs_rules.specs.Patterns.{pattern_meaning}
use Rattle.lhs_rules.specs.Refusals.{Refusal, WrongArity, at}
use Rattle.lhs_rules.specs.Rules.{most_inserted, one_elim, refused}
use Rattle.lhs_rules.specs.Spots.{Left}
use Rattle.lhs_elab.specs.declared.walk.Step.{Step}
use Rattle.lhs_elab.specs.Elaborator.{Comes, left_of, over, signature_of}
use Rattle.lhs_elab.specs.Reading.{AnswersStep, step_read}
use Rattle.lhs_elab.proofs.Kept.{Grows-refl, Grows-trans, Keeps-refl, Keeps-trans, full-kept, over-kept, signature-kept}
use Rattle.lhs_elab.proofs.Refusing.{refused-as}
use Rattle.lhs_elab.proofs.Rooms.{one-full, one-room, one-step, step-same, taken_of}
use Rattle.lhs_elab.proofs.elaborator.Elaborator.one_elim.Goals as goal

pub inserting-init : goal.inserting-init
inserting-init g c = let x = c.args.self.now in record { grows = Grows-refl x; keeps = Keeps-refl x; ready = c.requires.ready; reading = λ f full r h. h }

pub inserting-preserved : goal.inserting-preserved
inserting-preserved g c =
    let F = g.S.Solutions.solution in
    let i = c.inserting.invariant in
    let x = c.args.self.now in
    let v = c.inserting.self in
    let w = c.step.new.self in
    let G = signature_of x in
    let p = c.args.pattern.now in
    let m = pattern_meaning G x.function p in
    let room = c.inserting.room in
    let k = c.in_ok-step.ensures in
    let less : room ≡ suc (room - 1) = omega (arith, c.if-room-eq0.false) in
    record {
      grows = Grows-trans i.grows k.grows;
      keeps = Keeps-trans i.keeps k.keeps;
      ready = k.ready;
      reading = λ f full r y.
          let o = over F f x in
          let h = step-same (over F f v) o w (signature_of v) G v.function x.function p (left_of v) (Ok c.in_ok-step.field-0) (over-kept F x v c.requires.ready i.grows i.keeps f) (signature-kept F x v c.requires.ready i.grows i.keeps) i.keeps.function (k.is f (full-kept F x v c.requires.ready i.grows i.keeps f full)) in
          let inserted = subst (λ (s : Step). AnswersStep o w (step_read G x.function m (left_of v)) (Ok s)) c.in-Inserted.is h in
          i.reading f full r (subst (λ (n : ℕ). Comes o (one_elim G x.function m n (left_of v)) r) (sym less) (one-room o G x.function m (room - 1) (left_of v) r (inserted (one_elim G x.function m (room - 1)) r y)));
    }

pub returns-in_err-step-clause-is : goal.returns-in_err-step-clause-is
returns-in_err-step-clause-is g c = λ f full.
    let F = g.S.Solutions.solution in
    let i = c.inserting.invariant in
    let x = c.args.self.now in
    let v = c.inserting.self in
    let w = c.step.new.self in
    let G = signature_of x in
    let p = c.args.pattern.now in
    let m = pattern_meaning G x.function p in
    let room = c.inserting.room in
    let o = over F f x in
    let h = step-same (over F f v) o w (signature_of v) G v.function x.function p (left_of v) (Err c.in_err-step.field-0.0) (over-kept F x v c.requires.ready i.grows i.keeps f) (signature-kept F x v c.requires.ready i.grows i.keeps) i.keeps.function (c.in_err-step.ensures.is f (full-kept F x v c.requires.ready i.grows i.keeps f full)) in
    let e = err_from_is_err_and c.from_residual.result c.from_residual.ensures.1 in
    rw (e.1, e.2)
    (refused-as w.pool.now (λ (r : Refusal). (again : Left → Reads Left) → Comes o (step_read G x.function m (left_of v) again) (Refuses r)) (λ (r : Refusal). Comes o (one_elim G x.function m most_inserted (left_of x)) (Refuses r))
    (λ (r : Refusal) (y : (again : Left → Reads Left) → Comes o (step_read G x.function m (left_of v) again) (Refuses r)). i.reading f full (Refuses r) (one-step o G x.function m room (left_of v) (Refuses r) y)) c.in_err-step.field-0.0 h)

pub returns-then-room-eq0-clause-is : goal.returns-then-room-eq0-clause-is
returns-then-room-eq0-clause-is g c = λ f full.
    let F = g.S.Solutions.solution in
    let i = c.inserting.invariant in
    let x = c.args.self.now in
    let v = c.inserting.self in
    let w = c.step.new.self in
    let G = signature_of x in
    let p = c.args.pattern.now in
    let m = pattern_meaning G x.function p in
    let room = c.inserting.room in
    let o = over F f x in
    let h = step-same (over F f v) o w (signature_of v) G v.function x.function p (left_of v) (Ok c.in_ok-step.field-0) (over-kept F x v c.requires.ready i.grows i.keeps f) (signature-kept F x v c.requires.ready i.grows i.keeps) i.keeps.function (c.in_ok-step.ensures.is f (full-kept F x v c.requires.ready i.grows i.keeps f full)) in
    let inserted = subst (λ (s : Step). AnswersStep o w (step_read G x.function m (left_of v)) (Ok s)) c.in-Inserted.is h in
    let none : Comes o (one_elim G x.function m 0 (left_of v)) (Refuses (at m.pos WrongArity)) = one-full o G x.function m (left_of v) (Refuses (at m.pos WrongArity)) (inserted (λ (k : Left). refused m.pos WrongArity) (Refuses (at m.pos WrongArity)) refl) in
    rw c.wrong_arity.ensures
    (subst (λ (q : Pos). Comes o (one_elim G x.function m most_inserted (left_of x)) (Refuses (at q WrongArity))) (sym (c.position.ensures G x.function))
    (i.reading f full (Refuses (at m.pos WrongArity)) (subst (λ (n : ℕ). Comes o (one_elim G x.function m n (left_of v)) (Refuses (at m.pos WrongArity))) (sym c.if-room-eq0.true) none)))

pub returns-clause-is : goal.returns-clause-is
returns-clause-is g c = λ f full.
    let F = g.S.Solutions.solution in
    let i = c.inserting.invariant in
    let x = c.args.self.now in
    let v = c.inserting.self in
    let w = c.step.new.self in
    let G = signature_of x in
    let p = c.args.pattern.now in
    let m = pattern_meaning G x.function p in
    let room = c.inserting.room in
    let o = over F f x in
    let h = step-same (over F f v) o w (signature_of v) G v.function x.function p (left_of v) (Ok c.in_ok-step.field-0) (over-kept F x v c.requires.ready i.grows i.keeps f) (signature-kept F x v c.requires.ready i.grows i.keeps) i.keeps.function (c.in_ok-step.ensures.is f (full-kept F x v c.requires.ready i.grows i.keeps f full)) in
    let taken = subst (λ (s : Step). AnswersStep o w (step_read G x.function m (left_of v)) (Ok s)) (taken_of c.in_ok-step.field-0 c.in_default.not-Inserted) h in
    i.reading f full (Gives (left_of w)) (one-step o G x.function m room (left_of v) (Gives (left_of w)) taken)
