use Rattle.std.proofs.Common.{◌≡◌, length, ap₂, subst}
use Rattle.std.specs.Prelude.{ℕ, Option, None}
use Rattle.std.proofs.lemmas.Result.{err_from_is_err_and}
use Rattle.core_rules.specs.Heads.{Answer}
use Rattle.core_rules.specs.Signature.{Signature}
use Rattle.core_rules.specs.Term.{Term}
use Rattle.kernel_rules.specs.Outcome.{Outcome, Gives, Refuses}
use Rattle.need_rules.specs.Needs.{need}
use Rattle.el_outside.specs.declared.place.Pos.{Pos}
use Rattle.term_pool.specs.Pool.{tree}
use Rattle.weak_head.specs.States.{answer_in}
use Rattle.lhs_rules.specs.Asking.{Reads}
use Rattle.lhs_rules.specs.Patterns.{pattern_meaning}
use Rattle.lhs_rules.specs.Refusals.{Refusal}
use Rattle.lhs_rules.specs.Rules.{elim_by_need, shows}
use Rattle.lhs_rules.specs.Spots.{Left}
use Rattle.lhs_elab.specs.declared.walk.Function.{Function}
use Rattle.lhs_elab.specs.Elaborator.{Comes, left_of, over, signature_of}
use Rattle.lhs_elab.specs.Reading.{step_read}
use Rattle.lhs_elab.specs.Walking.{IsFunction, needed_read}
use Rattle.lhs_elab.proofs.Kept.{Same, same-full, same-left, same-over, same-ready, signature-kept}
use Rattle.lhs_elab.proofs.Refusing.{refused-as}
use Rattle.lhs_elab.proofs.Rooms.{step-as, needed-first}
use Rattle.lhs_elab.proofs.Stepping.{off}
use Rattle.lhs_elab.proofs.elaborator.Elaborator.step.Goals as goal

abbrev nothing : ℕ → Option Term
nothing i = None

pub returns-in_err-shown-clause-is : goal.returns-in_err-shown-clause-is
returns-in_err-shown-clause-is g c = λ f full.
    let x = c.args.self.now in
    let y = c.shows.new.self in
    let o = over g.S.Solutions.solution f x in
    let G = signature_of x in
    let m = pattern_meaning G x.function c.args.pattern.now in
    let l = left_of x in
    let e = err_from_is_err_and c.from_residual.result c.from_residual.ensures.1 in
    rw (e.1, e.2)
    (refused-as y.pool.now (λ (r : Refusal). Comes o (shows c.position.result l.ty) (Refuses r)) (λ (r : Refusal). (again : Left → Reads Left) → Comes o (step_read G x.function m l again) (Refuses r))
    (λ (r : Refusal) (h : Comes o (shows c.position.result l.ty) (Refuses r)). λ (again : Left → Reads Left).
    off o (shows m.pos l.ty) (λ (w : Answer). elim_by_need G x.function m l w again (need G w m.next)) r (subst (λ (p : Pos). Comes o (shows p l.ty) (Refuses r)) (c.position.ensures G x.function) h)) c.in_err-shown.field-0.0 (c.in_err-shown.ensures.is f))

pub function_of-requires : goal.function_of-requires
function_of-requires g c = (c.in_ok-shown.ensures.is nothing).0

pub step_function-requires-clause-ready : goal.step_function-requires-clause-ready
step_function-requires-clause-ready g c =
    let x = c.args.self.now in
    let y = c.shows.new.self in
    let k = c.in_ok-shown.ensures in
    let m : Same x y = record { grows = k.grows; keeps = k.keeps; left = k.left } in
    same-ready g.S.Solutions.solution x y c.requires.ready m

pub step_other-requires-clause-ready : goal.step_other-requires-clause-ready
step_other-requires-clause-ready g c =
    let x = c.args.self.now in
    let y = c.shows.new.self in
    let k = c.in_ok-shown.ensures in
    let m : Same x y = record { grows = k.grows; keeps = k.keeps; left = k.left } in
    same-ready g.S.Solutions.solution x y c.requires.ready m

pub step_other-requires-clause-form : goal.step_other-requires-clause-form
step_other-requires-clause-form g c = (c.in_ok-shown.ensures.is nothing).0

pub returns-in-Some-clause-is : goal.returns-in-Some-clause-is
returns-in-Some-clause-is g c = λ f full.
    let F = g.S.Solutions.solution in
    let x = c.args.self.now in
    let y = c.shows.new.self in
    let k = c.in_ok-shown.ensures in
    let s = c.in_ok-shown.shown in
    let same : Same x y = record { grows = k.grows; keeps = k.keeps; left = k.left } in
    let o = over F f x in
    let G = signature_of x in
    let p = c.args.pattern.now in
    let m = pattern_meaning G x.function p in
    let w = answer_in (tree y.pool.now) s.meta s.form in
    let shown : Comes o (shows m.pos (left_of x).ty) (Gives w) = subst (λ (q : Pos). Comes o (shows q (left_of x).ty) (Gives w)) (c.position.ensures G x.function) (k.is f).1 in
    let kept : signature_of y ≡ G = signature-kept F x y c.requires.ready k.grows k.keeps in
    let means : pattern_meaning (signature_of y) y.function p ≡ m = ap₂ (λ (h : Signature Term) (i : ℕ). pattern_meaning h i p) kept k.keeps.function in
    let there : (again : Left → Reads Left) (r : Outcome Refusal Left) → Comes (over F f y) (needed_read (signature_of y) y.function (pattern_meaning (signature_of y) y.function p) (left_of y) w again) r → Comes o (step_read G x.function m (left_of x) again) r =
    needed-first (over F f y) o (signature_of y) G y.function x.function (pattern_meaning (signature_of y) y.function p) m (left_of y) (left_of x) w (same-over F x y c.requires.ready same f) kept k.keeps.function means (same-left F x y c.requires.ready same) shown in
    let full2 = same-full F x y c.requires.ready same f full in
    let M = needed_read (signature_of y) y.function (pattern_meaning (signature_of y) y.function p) (left_of y) w in
    let is = subst (λ (v : Option Function). IsFunction (length y.pool.now.trees) (tree y.pool.now) w v) c.in-Some.is c.function_of.ensures in
    step-as (over F f y) o c.step_function.new.self M (step_read G x.function m (left_of x)) there (same-over F x y c.requires.ready same f) c.step_function.result (c.step_function.ensures.is f w full2 is)

pub returns-in_err-step_other-in-None-clause-is : goal.returns-in_err-step_other-in-None-clause-is
returns-in_err-step_other-in-None-clause-is g c = λ f full.
    let F = g.S.Solutions.solution in
    let x = c.args.self.now in
    let y = c.shows.new.self in
    let k = c.in_ok-shown.ensures in
    let s = c.in_ok-shown.shown in
    let same : Same x y = record { grows = k.grows; keeps = k.keeps; left = k.left } in
    let o = over F f x in
    let G = signature_of x in
    let p = c.args.pattern.now in
    let m = pattern_meaning G x.function p in
    let w = answer_in (tree y.pool.now) s.meta s.form in
    let shown : Comes o (shows m.pos (left_of x).ty) (Gives w) = subst (λ (q : Pos). Comes o (shows q (left_of x).ty) (Gives w)) (c.position.ensures G x.function) (k.is f).1 in
    let kept : signature_of y ≡ G = signature-kept F x y c.requires.ready k.grows k.keeps in
    let means : pattern_meaning (signature_of y) y.function p ≡ m = ap₂ (λ (h : Signature Term) (i : ℕ). pattern_meaning h i p) kept k.keeps.function in
    let there : (again : Left → Reads Left) (r : Outcome Refusal Left) → Comes (over F f y) (needed_read (signature_of y) y.function (pattern_meaning (signature_of y) y.function p) (left_of y) w again) r → Comes o (step_read G x.function m (left_of x) again) r =
    needed-first (over F f y) o (signature_of y) G y.function x.function (pattern_meaning (signature_of y) y.function p) m (left_of y) (left_of x) w (same-over F x y c.requires.ready same f) kept k.keeps.function means (same-left F x y c.requires.ready same) shown in
    let full2 = same-full F x y c.requires.ready same f full in
    let M = needed_read (signature_of y) y.function (pattern_meaning (signature_of y) y.function p) (left_of y) w in
    let none = subst (λ (v : Option Function). IsFunction (length y.pool.now.trees) (tree y.pool.now) w v) c.in-None.is c.function_of.ensures in
    let z = c.step_other.new.self in
    let e = err_from_is_err_and c.from_residual-in_err-step_other-in-None.result c.from_residual-in_err-step_other-in-None.ensures.1 in
    rw (e.1, e.2)
    (refused-as z.pool.now (λ (r : Refusal). (again : Left → Reads Left) → Comes (over F f y) (M again) (Refuses r)) (λ (r : Refusal). (again : Left → Reads Left) → Comes o (step_read G x.function m (left_of x) again) (Refuses r))
    (λ (r : Refusal) (h : (again : Left → Reads Left) → Comes (over F f y) (M again) (Refuses r)). λ (again : Left → Reads Left). there again (Refuses r) (h again)) c.in_err-step_other-in-None.field-0.0 (c.in_err-step_other-in-None.ensures.is f full2 none))

pub returns-clause-is : goal.returns-clause-is
returns-clause-is g c = λ f full again.
    let F = g.S.Solutions.solution in
    let x = c.args.self.now in
    let y = c.shows.new.self in
    let k = c.in_ok-shown.ensures in
    let s = c.in_ok-shown.shown in
    let same : Same x y = record { grows = k.grows; keeps = k.keeps; left = k.left } in
    let o = over F f x in
    let G = signature_of x in
    let p = c.args.pattern.now in
    let m = pattern_meaning G x.function p in
    let w = answer_in (tree y.pool.now) s.meta s.form in
    let shown : Comes o (shows m.pos (left_of x).ty) (Gives w) = subst (λ (q : Pos). Comes o (shows q (left_of x).ty) (Gives w)) (c.position.ensures G x.function) (k.is f).1 in
    let kept : signature_of y ≡ G = signature-kept F x y c.requires.ready k.grows k.keeps in
    let means : pattern_meaning (signature_of y) y.function p ≡ m = ap₂ (λ (h : Signature Term) (i : ℕ). pattern_meaning h i p) kept k.keeps.function in
    let there : (again : Left → Reads Left) (r : Outcome Refusal Left) → Comes (over F f y) (needed_read (signature_of y) y.function (pattern_meaning (signature_of y) y.function p) (left_of y) w again) r → Comes o (step_read G x.function m (left_of x) again) r =
    needed-first (over F f y) o (signature_of y) G y.function x.function (pattern_meaning (signature_of y) y.function p) m (left_of y) (left_of x) w (same-over F x y c.requires.ready same f) kept k.keeps.function means (same-left F x y c.requires.ready same) shown in
    let full2 = same-full F x y c.requires.ready same f full in
    let M = needed_read (signature_of y) y.function (pattern_meaning (signature_of y) y.function p) (left_of y) w in
    let none = subst (λ (v : Option Function). IsFunction (length y.pool.now.trees) (tree y.pool.now) w v) c.in-None.is c.function_of.ensures in
    there again (Gives (left_of c.step_other.new.self)) (c.in_ok-step_other-in-None.ensures.is f full2 none again)
