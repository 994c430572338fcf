use Rattle.std.proofs.Common.{◌≡◌, length, ap₂, sym, ◌∙◌, arith}
use Rattle.std.specs.Prelude.{ℕ}
use Rattle.std.proofs.lemmas.List.{length-map}
use Rattle.std.proofs.lemmas.Result.{err_from_is_err_and}
use Rattle.core_rules.specs.Signature.{Braces, Origin, Signature}
use Rattle.core_rules.specs.Term.{Term}
use Rattle.core_terms.specs.Pattern.{shape_of}
use Rattle.kernel_rules.specs.Outcome.{Outcome, Gives, Refuses}
use Rattle.term_pool.specs.Pool.{tree}
use Rattle.lhs_rules.specs.Patterns.{inside, pattern_meaning}
use Rattle.lhs_rules.specs.Refusals.{Refusal}
use Rattle.lhs_rules.specs.Rules.{Read, binder_of, braces_of, reads}
use Rattle.lhs_rules.specs.Spots.{taken, with_pat}
use Rattle.lhs_elab.specs.Elaborator.{Comes, left_of, over, signature_of, term_of}
use Rattle.lhs_elab.specs.Lefts.{spot_in}
use Rattle.lhs_elab.specs.Walking.{taken_read}
use Rattle.lhs_elab.proofs.Kept.{full-kept, over-kept, signature-kept}
use Rattle.lhs_elab.proofs.Refusing.{refused-as}
use Rattle.lhs_elab.proofs.Visiting.{pattern-read, pattern-refused, visits-same}
use Rattle.lhs_elab.proofs.elaborator.Elaborator.take_pattern.Goals as goal

pub returns-in_err-shape-clause-is : goal.returns-in_err-shape-clause-is
returns-in_err-shape-clause-is g c = λ f w full bw.
    let F = g.S.Solutions.solution in
    let x = c.args.self.now in
    let y = c.take.new.self in
    let z = c.visit.new.self in
    let k = c.in_ok-take.ensures in
    let o = over F f x in
    let G = signature_of x in
    let fn = c.args.function in
    let a = term_of x fn.dom in
    let t = term_of x fn.cod in
    let p = c.args.pattern.now in
    let m = pattern_meaning G x.function p in
    let inner = inside m in
    let l = taken (left_of x) fn.flag (binder_of w) a t inner.origin in
    let same : inside (pattern_meaning (signature_of y) y.function p) ≡ inner = ap₂ (λ (h : Signature Term) (i : ℕ). inside (pattern_meaning h i p)) (signature-kept F x y c.requires.ready k.grows k.keeps) k.keeps.function in
    let number : c.in-Ok.number ≡ length (left_of x).spots = omega (arith, c.in-Ok.ensures, c.len.ensures, length-map x.left.now.spots.items (spot_in (tree x.pool.now))) in
    let left : left_of y ≡ l = k.left ∙ ap₂ (λ (n : ℕ) (i : Origin). taken (left_of x) fn.flag n a t i) (sym bw) (c.origin-from.ensures G x.function) in
    let there : (r : Outcome Refusal Read) → Comes (over F f y) ((inside (pattern_meaning (signature_of y) y.function p)).visits c.in-Ok.number (left_of y)) r → Comes o (inner.visits (length (left_of x).spots) l) r =
    visits-same (over F f y) o (inside (pattern_meaning (signature_of y) y.function p)) inner c.in-Ok.number (length (left_of x).spots) (left_of y) l (over-kept F x y c.requires.ready k.grows k.keeps f) same number left in
    let full2 = full-kept F x y c.requires.ready k.grows k.keeps f full in
    let e = err_from_is_err_and c.from_residual-in_err-shape.result c.from_residual-in_err-shape.ensures.1 in
    rw (e.1, e.2)
    (refused-as z.pool.now (λ (r : Refusal). Comes (over F f y) ((inside (pattern_meaning (signature_of y) y.function p)).visits c.in-Ok.number (left_of y)) (Refuses r)) (λ (r : Refusal). Comes o (taken_read m (left_of x) fn.flag w a t) (Refuses r))
    (λ (r : Refusal) h. pattern-refused o (left_of x) fn.flag w a t (braces_of m.next) inner r (there (Refuses r) h)) c.in_err-shape.field-0.0 (c.in_err-shape.ensures.is f full2))

pub returns-clause-is : goal.returns-clause-is
returns-clause-is g c = λ f w full bw.
    let F = g.S.Solutions.solution in
    let x = c.args.self.now in
    let y = c.take.new.self in
    let z = c.visit.new.self in
    let k = c.in_ok-take.ensures in
    let o = over F f x in
    let G = signature_of x in
    let fn = c.args.function in
    let a = term_of x fn.dom in
    let t = term_of x fn.cod in
    let p = c.args.pattern.now in
    let m = pattern_meaning G x.function p in
    let inner = inside m in
    let l = taken (left_of x) fn.flag (binder_of w) a t inner.origin in
    let same : inside (pattern_meaning (signature_of y) y.function p) ≡ inner = ap₂ (λ (h : Signature Term) (i : ℕ). inside (pattern_meaning h i p)) (signature-kept F x y c.requires.ready k.grows k.keeps) k.keeps.function in
    let number : c.in-Ok.number ≡ length (left_of x).spots = omega (arith, c.in-Ok.ensures, c.len.ensures, length-map x.left.now.spots.items (spot_in (tree x.pool.now))) in
    let left : left_of y ≡ l = k.left ∙ ap₂ (λ (n : ℕ) (i : Origin). taken (left_of x) fn.flag n a t i) (sym bw) (c.origin-from.ensures G x.function) in
    let there : (r : Outcome Refusal Read) → Comes (over F f y) ((inside (pattern_meaning (signature_of y) y.function p)).visits c.in-Ok.number (left_of y)) r → Comes o (inner.visits (length (left_of x).spots) l) r =
    visits-same (over F f y) o (inside (pattern_meaning (signature_of y) y.function p)) inner c.in-Ok.number (length (left_of x).spots) (left_of y) l (over-kept F x y c.requires.ready k.grows k.keeps f) same number left in
    let full2 = full-kept F x y c.requires.ready k.grows k.keeps f full in
    let read = reads (shape_of c.in_ok-shape.shape) (left_of z) in
    let h : Comes o (inner.visits (length (left_of x).spots) l) (Gives read) = there (Gives read) (c.in_ok-shape.ensures.is f full2) in
    let e : left_of c.with_pat.new.self ≡ with_pat (left_of z) (shape_of c.in_ok-shape.shape) inner.origin (braces_of m.next) =
    c.in_ok-with_pat.ensures.left ∙ ap₂ (λ (i : Origin) (b : Braces). with_pat (left_of z) (shape_of c.in_ok-shape.shape) i b) (c.origin-from.ensures G x.function) (c.braces.ensures G x.function) in
    rw e (pattern-read o (left_of x) fn.flag w a t (braces_of m.next) inner read h)
