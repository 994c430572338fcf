use Rattle.std.proofs.Common.{◌+◌, ◌∷◌, ◌≡◌, ℕ, List, length, map, refl, ap, ap₂, sym, subst, ◌∙◌, arith, ◌-◌, take, drop, [], ◌<◌}
use Rattle.std.specs.Prelude.{Bool}
use Rattle.std.proofs.lemmas.List.{length-map}
use Rattle.std.proofs.lemmas.Result.{err_from_is_err_and}
use Rattle.core_rules.specs.Signature.{AbsurdPat, ConPat, Signature, Pat, Origin, Braces, CorePat}
use Rattle.core_rules.specs.Term.{Term}
use Rattle.core_terms.specs.Patterns.{pats_of}
use Rattle.kernel_rules.specs.Outcome.{Outcome, Gives, Refuses}
use Rattle.resolved_tree.specs.declared.resolved.ResolvedPattern.{ResolvedPattern}
use Rattle.term_pool.specs.Pool.{tree}
use Rattle.lhs_rules.specs.Patterns.{inside, of_con, pattern_meaning}
use Rattle.lhs_rules.specs.Refusals.{Refusal}
use Rattle.lhs_rules.specs.Rules.{ElimMeaning, ReadAll, absurd_pattern, constructor, read_all, reads, visit_all, Slot}
use Rattle.lhs_rules.specs.Spots.{Left}
use Rattle.lhs_elab.specs.Elaborator.{Comes, left_of, over, signature_of}
use Rattle.lhs_elab.specs.Lefts.{spot_in}
use Rattle.lhs_elab.specs.Reading.{IsRead, meanings, IsSlotRead}
use Rattle.lhs_elab.specs.Slots.{slots_of, rest_by, slot_by, slot_for}
use Rattle.lhs_elab.proofs.Forming.{by-implicit, by-named, by-project, by-variable, by-con, by-underscore, by-absurd, by-dotted}
use Rattle.lhs_elab.proofs.Kept.{full-kept, over-kept, same-left, same-ready, signature-kept, Grows-refl, Grows-trans, Keeps-refl, Keeps-trans}
use Rattle.lhs_elab.proofs.Refusing.{refused-as}
use Rattle.lhs_elab.proofs.Visiting.{all-same, con-read, con-unread, visits-as, VisitedTo, none-from, first-from, nothing-left, slot-unwritten, slot-over, slot-same, visited-none, visited-next, visited-refused, visited-all}
use Rattle.lhs_elab.specs.Answers.{Answers}
use Rattle.conversion.proofs.Slices.{none_within}
use Rattle.core_terms.specs.Pattern.{shape_of}
use Rattle.lhs_elab.proofs.elaborator.Elaborator.+visit.Goals as goal

pub visit-returns-in-Implicit-clause-is : goal.visit-returns-in-Implicit-clause-is
visit-returns-in-Implicit-clause-is g t c = λ f full.
    let x = c.args.self.now in
    let y = c.visit.new.self in
    let G = signature_of x in
    let e : inside (pattern_meaning G x.function c.get.result.now) ≡ inside (pattern_meaning G x.function c.args.pattern.now) =
    ap (λ (r : ResolvedPattern). inside (pattern_meaning G x.function r)) c.get.ensures ∙ ap inside (sym (by-implicit G x.function c.args.pattern.now _ _ c.in-Implicit.is)) in
    visits-as (over g.S.Solutions.solution f x) (IsRead y) y.pool.now c.args.number (left_of x) (inside (pattern_meaning G x.function c.get.result.now)) (inside (pattern_meaning G x.function c.args.pattern.now)) e c.visit.result (c.visit.ensures.is f full)

pub visit-returns-in-Named-clause-is : goal.visit-returns-in-Named-clause-is
visit-returns-in-Named-clause-is g t c = λ f full.
    let x = c.args.self.now in
    let y = c.visit-in-Named.new.self in
    let G = signature_of x in
    let e : inside (pattern_meaning G x.function c.get-in-Named.result.now) ≡ inside (pattern_meaning G x.function c.args.pattern.now) =
    ap (λ (r : ResolvedPattern). inside (pattern_meaning G x.function r)) c.get-in-Named.ensures ∙ ap inside (sym (by-named G x.function c.args.pattern.now _ _ _ c.in-Named.is)) in
    visits-as (over g.S.Solutions.solution f x) (IsRead y) y.pool.now c.args.number (left_of x) (inside (pattern_meaning G x.function c.get-in-Named.result.now)) (inside (pattern_meaning G x.function c.args.pattern.now)) e c.visit-in-Named.result (c.visit-in-Named.ensures.is f full)

pub visit-returns-in-Project-clause-is : goal.visit-returns-in-Project-clause-is
visit-returns-in-Project-clause-is g t c = λ f full.
    let x = c.args.self.now in
    rw (c.wrong_arity.ensures, by-project (signature_of x) x.function c.args.pattern.now _ _ c.in-Project.is) refl

pub visit-returns-in-Variable-clause-is : goal.visit-returns-in-Variable-clause-is
visit-returns-in-Variable-clause-is g t c = λ f full. let x = c.args.self.now in rw (by-variable (signature_of x) x.function c.args.pattern.now _ c.in-Variable.is) refl

pub visit-returns-in-Underscore-clause-is : goal.visit-returns-in-Underscore-clause-is
visit-returns-in-Underscore-clause-is g t c = λ f full. let x = c.args.self.now in rw (by-underscore (signature_of x) x.function c.args.pattern.now _ c.in-Underscore.is) refl

pub visit-returns-in-Dotted-clause-is : goal.visit-returns-in-Dotted-clause-is
visit-returns-in-Dotted-clause-is g t c = λ f full. let x = c.args.self.now in rw (by-dotted (signature_of x) x.function c.args.pattern.now _ _ c.in-Dotted.is) refl

pub visit-returns-in-Con-clause-is : goal.visit-returns-in-Con-clause-is
visit-returns-in-Con-clause-is g t c = λ f full.
    let x = c.args.self.now in
    let y = c.visit_con.new.self in
    let G = signature_of x in
    let p = c.in-Con.place.pos in
    let k = c.in-Con.con in
    let e : of_con G x.function p k (meanings x c.as_slice.result.now) ≡ inside (pattern_meaning G x.function c.args.pattern.now) =
    ap (λ (rs : List ResolvedPattern). of_con G x.function p k (meanings x rs)) c.as_slice.ensures ∙ ap inside (sym (by-con G x.function c.args.pattern.now _ _ _ c.in-Con.is)) in
    visits-as (over g.S.Solutions.solution f x) (IsRead y) y.pool.now c.args.number (left_of x) (of_con G x.function p k (meanings x c.as_slice.result.now)) (inside (pattern_meaning G x.function c.args.pattern.now)) e c.visit_con.result (c.visit_con.ensures.is f full)

pub visit-returns-in_err-absurd-in-Absurd-clause-is : goal.visit-returns-in_err-absurd-in-Absurd-clause-is
visit-returns-in_err-absurd-in-Absurd-clause-is g t c = λ f full.
    let x = c.args.self.now in
    let G = signature_of x in
    let o = over g.S.Solutions.solution f x in
    let m = by-absurd G x.function c.args.pattern.now _ c.in-Absurd.is in
    let e = err_from_is_err_and c.from_residual.result c.from_residual.ensures.1 in
    rw (e.1, e.2)
    (refused-as c.absurd.new.self.pool.now (λ (r : Refusal). Comes o (absurd_pattern G x.function c.in-Absurd.place.pos c.args.number (left_of x)) (Refuses r)) (λ (r : Refusal). Comes o ((inside (pattern_meaning G x.function c.args.pattern.now)).visits c.args.number (left_of x)) (Refuses r))
    (λ (r : Refusal) h. subst (λ (v : ElimMeaning). Comes o ((inside v).visits c.args.number (left_of x)) (Refuses r)) (sym m) h) c.in_err-absurd-in-Absurd.field-0.0 (c.in_err-absurd-in-Absurd.ensures.is f full))

pub visit-returns-in_ok-absurd-in-Absurd-clause-ready : goal.visit-returns-in_ok-absurd-in-Absurd-clause-ready
visit-returns-in_ok-absurd-in-Absurd-clause-ready g t c = let k = c.in_ok-absurd-in-Absurd.ensures in same-ready g.S.Solutions.solution c.args.self.now c.absurd.new.self c.requires.ready (record { grows = k.grows; keeps = k.keeps; left = k.left })

pub visit-returns-in_ok-absurd-in-Absurd-clause-is : goal.visit-returns-in_ok-absurd-in-Absurd-clause-is
visit-returns-in_ok-absurd-in-Absurd-clause-is g t c = λ f full.
    let F = g.S.Solutions.solution in
    let x = c.args.self.now in
    let y = c.absurd.new.self in
    let G = signature_of x in
    let o = over F f x in
    let k = c.in_ok-absurd-in-Absurd.ensures in
    let m = by-absurd G x.function c.args.pattern.now _ c.in-Absurd.is in
    let left : left_of y ≡ left_of x = same-left F x y c.requires.ready (record { grows = k.grows; keeps = k.keeps; left = k.left }) in
    subst (λ (l : Left). Comes o ((inside (pattern_meaning G x.function c.args.pattern.now)).visits c.args.number (left_of x)) (Gives (reads AbsurdPat l))) (sym left)
    (subst (λ (v : ElimMeaning). Comes o ((inside v).visits c.args.number (left_of x)) (Gives (reads AbsurdPat (left_of x)))) (sym m) (k.is f full))

pub visit_con-returns-in_err-pats-clause-is : goal.visit_con-returns-in_err-pats-clause-is
visit_con-returns-in_err-pats-clause-is g t c = λ f full.
    let F = g.S.Solutions.solution in
    let x = c.args.self.now in
    let y = c.enter_con.new.self in
    let z = c.visit_all.new.self in
    let k = c.in_ok-written.ensures in
    let o = over F f x in
    let ps = c.args.patterns.now in
    let ms = meanings x ps in
    let ws = c.in_ok-written.written.items in
    let kept = signature-kept F x y c.requires.ready k.grows k.keeps in
    let slots : slots_of c.as_slice.result.now (meanings y ps) ≡ slots_of ws ms = ap₂ (λ (vs : List Bool) (us : List ElimMeaning). slots_of vs us) c.as_slice.ensures.value (ap₂ (λ (G : Signature Term) (i : ℕ). map (pattern_meaning G i) ps) kept k.keeps.function) in
    let first : c.in-Ok.first ≡ length (left_of x).spots = omega (arith, c.in-Ok.ensures, c.len.ensures, length-map x.left.now.spots.items (spot_in (tree x.pool.now))) in
    let there : (r : Outcome Refusal ReadAll) → Comes (over F f y) (visit_all (slots_of c.as_slice.result.now (meanings y ps)) c.in-Ok.first (left_of y)) r → Comes o (visit_all (slots_of ws ms) (length (left_of x).spots) (left_of y)) r =
    all-same (over F f y) o (slots_of c.as_slice.result.now (meanings y ps)) (slots_of ws ms) c.in-Ok.first (length (left_of x).spots) (left_of y) (over-kept F x y c.requires.ready k.grows k.keeps f) slots first in
    let all = visit_all (slots_of ws ms) (length (left_of x).spots) (left_of y) in
    let full2 = full-kept F x y c.requires.ready k.grows k.keeps f full in
    let e = err_from_is_err_and c.from_residual-in_err-pats.result c.from_residual-in_err-pats.ensures.1 in
    rw (e.1, e.2)
    (refused-as z.pool.now (λ (r : Refusal). Comes (over F f y) (visit_all (slots_of c.as_slice.result.now (meanings y ps)) c.in-Ok.first (left_of y)) (Refuses r)) (λ (r : Refusal). Comes o (constructor (signature_of x) x.function c.args.pos c.args.con ms c.args.number (left_of x)) (Refuses r))
    (λ (r : Refusal) h. k.is f full (Refuses r) (con-unread o c.args.con all r (there (Refuses r) h))) c.in_err-pats.field-0.0 (c.in_err-pats.ensures.is f full2))

pub visit_con-returns-clause-is : goal.visit_con-returns-clause-is
visit_con-returns-clause-is g t c = λ f full.
    let F = g.S.Solutions.solution in
    let x = c.args.self.now in
    let y = c.enter_con.new.self in
    let z = c.visit_all.new.self in
    let k = c.in_ok-written.ensures in
    let o = over F f x in
    let ps = c.args.patterns.now in
    let ms = meanings x ps in
    let ws = c.in_ok-written.written.items in
    let kept = signature-kept F x y c.requires.ready k.grows k.keeps in
    let slots : slots_of c.as_slice.result.now (meanings y ps) ≡ slots_of ws ms = ap₂ (λ (vs : List Bool) (us : List ElimMeaning). slots_of vs us) c.as_slice.ensures.value (ap₂ (λ (G : Signature Term) (i : ℕ). map (pattern_meaning G i) ps) kept k.keeps.function) in
    let first : c.in-Ok.first ≡ length (left_of x).spots = omega (arith, c.in-Ok.ensures, c.len.ensures, length-map x.left.now.spots.items (spot_in (tree x.pool.now))) in
    let there : (r : Outcome Refusal ReadAll) → Comes (over F f y) (visit_all (slots_of c.as_slice.result.now (meanings y ps)) c.in-Ok.first (left_of y)) r → Comes o (visit_all (slots_of ws ms) (length (left_of x).spots) (left_of y)) r =
    all-same (over F f y) o (slots_of c.as_slice.result.now (meanings y ps)) (slots_of ws ms) c.in-Ok.first (length (left_of x).spots) (left_of y) (over-kept F x y c.requires.ready k.grows k.keeps f) slots first in
    let all = visit_all (slots_of ws ms) (length (left_of x).spots) (left_of y) in
    let full2 = full-kept F x y c.requires.ready k.grows k.keeps f full in
    let r = read_all (pats_of c.in_ok-pats.pats.items) (left_of z) in
    k.is f full (Gives (reads (ConPat c.args.con r.pats) r.left)) (con-read o c.args.con all r (there (Gives r) (c.in_ok-pats.ensures.is f full2)))

pub visit_written-returns-in_err-shape-clause-is : goal.visit_written-returns-in_err-shape-clause-is
visit_written-returns-in_err-shape-clause-is g t c = λ f full.
    let e = err_from_is_err_and c.from_residual.result c.from_residual.ensures.1 in
    rw (e.1, e.2) (c.in_err-shape.ensures.is f full)

pub visit_written-returns-clause-is : goal.visit_written-returns-clause-is
visit_written-returns-clause-is g t c = λ f full.
    let x = c.args.self.now in
    let s = shape_of c.in_ok-shape.shape in (
      s,
      ap₂ (λ (o : Origin) (b : Braces). Pat s o b) (c.origin.ensures (signature_of x) x.function) (c.braces.ensures (signature_of x) x.function),
      c.in_ok-shape.ensures.is f full,
    )

pub visit_slot-returns-then-not-has-clause-is : goal.visit_slot-returns-then-not-has-clause-is
visit_slot-returns-then-not-has-clause-is g t c = λ f full.
    let x = c.args.self.now in
    let ms = drop c.args.at (meanings x c.args.patterns.now) in
    slot-unwritten (over g.S.Solutions.solution f x) x c.args.has ms c.args.number c.unwritten.result c.unwritten.ensures (ap (λ (h : Bool). slot_by h ms) c.if-not-has.true)

pub visit_slot-returns-then-at-patterns-clause-is : goal.visit_slot-returns-then-at-patterns-clause-is
visit_slot-returns-then-at-patterns-clause-is g t c = λ f full.
    let x = c.args.self.now in
    let all = meanings x c.args.patterns.now in
    let ms = drop c.args.at all in
    let none : ms ≡ [] = none-from all c.args.at (omega (arith, c.if-at-patterns.true, length-map c.args.patterns.now (pattern_meaning (signature_of x) x.function))) in
    slot-unwritten (over g.S.Solutions.solution f x) x c.args.has ms c.args.number c.unwritten-then-at-patterns.result c.unwritten-then-at-patterns.ensures (ap (slot_by c.args.has) none ∙ nothing-left c.args.has)

pub visit_slot-returns-clause-is : goal.visit_slot-returns-clause-is
visit_slot-returns-clause-is g t c = λ f full.
    let x = c.args.self.now in
    let y = c.visit_written.new.self in
    let G = signature_of x in
    let ps = c.args.patterns.now in
    let p = c.index-patterns-at.result in
    let l : c.args.at < length ps = omega (arith, c.if-at-patterns.false) in
    let e : slot_by c.args.has (drop c.args.at (meanings x ps)) ≡ slot_for (pattern_meaning G x.function p) =
    ap₂ (λ (h : Bool) (ms : List ElimMeaning). slot_by h ms) c.if-not-has.false (first-from G x.function ps c.args.at p l c.index-patterns-at.is) in
    subst (λ (q : Slot). Answers (IsSlotRead y q) y.pool.now (Comes (over g.S.Solutions.solution f x) (q.visits c.args.number (left_of x))) c.visit_written.result) (sym e) (c.visit_written.ensures.is f full)

pub visit_all-loop-flags-init : goal.visit_all-loop-flags-init
visit_all-loop-flags-init g t c =
    let x = c.args.self.now in
    record {
      grows = Grows-refl x;
      keeps = Keeps-refl x;
      ready = c.requires.ready;
      visited = λ f full.
          let all = slots_of c.args.written.now (meanings x c.args.patterns.now) in
          let o = over g.S.Solutions.solution f x in
          subst (λ (made : List (CorePat ℕ)). VisitedTo o all c.args.first (left_of x) made all c.args.first (left_of x)) (sym c.new-pats.ensures.items) (visited-none o all c.args.first (left_of x));
    }

pub visit_all-loop-flags-preserved : goal.visit_all-loop-flags-preserved
visit_all-loop-flags-preserved g t c =
    let F = g.S.Solutions.solution in
    let i = c.loop-flags.invariant in
    let x = c.args.self.now in
    let v = c.loop-flags.self in
    let w = c.visit_slot.new.self in
    let flags = c.loop-flags.flags.now in
    let has = c.first_flag-has.result in
    let rest = take (length flags - 1) (drop 1 flags) in
    let at = c.loop-flags.at in
    let number = c.loop-flags.number in
    let ps = c.args.patterns.now in
    let ms = drop at (meanings x ps) in
    let q = slot_by has ms in
    let more = slots_of rest (rest_by has ms) in
    let left : slots_of flags ms ≡ q ∷ more = ap (λ (fs : List Bool). slots_of fs ms) c.first_flag-has.ensures in
    let same : meanings v ps ≡ meanings x ps = ap₂ (λ (G : Signature Term) (i : ℕ). map (pattern_meaning G i) ps) (signature-kept F x v c.requires.ready i.grows i.keeps) i.keeps.function in
    let k = c.in_ok-pat.ensures in
    let n : c.in-Some.next ≡ number + 1 = omega (arith, c.in-Some.ensures) in
    let next : drop c.next_at-at.result (meanings x ps) ≡ rest_by has ms = c.next_at-at.ensures (meanings x ps) (length-map ps (pattern_meaning (signature_of x) x.function)) in
    record {
      grows = Grows-trans i.grows k.grows;
      keeps = Keeps-trans i.keeps k.keeps;
      ready = k.ready;
      visited = λ f full.
          let o = over F f x in
          let all = slots_of c.args.written.now (meanings x ps) in
          let full2 = full-kept F x v c.requires.ready i.grows i.keeps f full in
          let kept = over-kept F x v c.requires.ready i.grows i.keeps f in
          let r = slot-same (over F f v) o w has at number (meanings v ps) (meanings x ps) (left_of v) c.in_ok-pat.pat kept same (k.is f full2) in
          subst (λ (us : List ElimMeaning). VisitedTo o all c.args.first (left_of x) c.push.new.self.items (slots_of rest us) c.in-Some.next (left_of w)) (sym next)
          (visited-next o all c.args.first (left_of x) c.loop-flags.pats.items (slots_of flags ms) number (left_of v) (i.visited f full) q more left r.0 (left_of w) c.in_ok-pat.pat c.push.new.self.items c.in-Some.next n r.1 c.in_ok-push.ensures.items r.2);
    }

pub visit_all-returns-in_err-pat-clause-is : goal.visit_all-returns-in_err-pat-clause-is
visit_all-returns-in_err-pat-clause-is g t c = λ f full.
    let F = g.S.Solutions.solution in
    let i = c.loop-flags.invariant in
    let x = c.args.self.now in
    let v = c.loop-flags.self in
    let w = c.visit_slot.new.self in
    let flags = c.loop-flags.flags.now in
    let has = c.first_flag-has.result in
    let rest = take (length flags - 1) (drop 1 flags) in
    let at = c.loop-flags.at in
    let number = c.loop-flags.number in
    let ps = c.args.patterns.now in
    let ms = drop at (meanings x ps) in
    let q = slot_by has ms in
    let more = slots_of rest (rest_by has ms) in
    let left : slots_of flags ms ≡ q ∷ more = ap (λ (fs : List Bool). slots_of fs ms) c.first_flag-has.ensures in
    let same : meanings v ps ≡ meanings x ps = ap₂ (λ (G : Signature Term) (i : ℕ). map (pattern_meaning G i) ps) (signature-kept F x v c.requires.ready i.grows i.keeps) i.keeps.function in
    let o = over F f x in
    let all = slots_of c.args.written.now (meanings x ps) in
    let full2 = full-kept F x v c.requires.ready i.grows i.keeps f full in
    let kept = over-kept F x v c.requires.ready i.grows i.keeps f in
    let e = err_from_is_err_and c.from_residual.result c.from_residual.ensures.1 in
    rw (e.1, e.2)
    (refused-as w.pool.now (λ (r : Refusal). Comes (over F f v) ((slot_by has (drop at (meanings v ps))).visits number (left_of v)) (Refuses r)) (λ (r : Refusal). Comes o (visit_all all c.args.first (left_of x)) (Refuses r))
    (λ (r : Refusal) h. visited-refused o all c.args.first (left_of x) c.loop-flags.pats.items (slots_of flags ms) number (left_of v) (i.visited f full) q more left r (slot-over (over F f v) o has at number (meanings v ps) (meanings x ps) (left_of v) kept same (Refuses r) h))
    c.in_err-pat.field-0.0 (c.in_err-pat.ensures.is f full2))

pub visit_all-returns-clause-is : goal.visit_all-returns-clause-is
visit_all-returns-clause-is g t c = λ f full.
    let i = c.loop-flags.invariant in
    let x = c.args.self.now in
    let ms = drop c.loop-flags.at (meanings x c.args.patterns.now) in
    let none : c.loop-flags.flags.now ≡ [] = none_within c.loop-flags.flags.now c.in_default.len_below in
    visited-all (over g.S.Solutions.solution f x) (slots_of c.args.written.now (meanings x c.args.patterns.now)) c.args.first (left_of x) c.loop-flags.pats.items (slots_of c.loop-flags.flags.now ms) c.loop-flags.number (left_of c.loop-flags.self) (i.visited f full) (ap (λ (fs : List Bool). slots_of fs ms) none)
