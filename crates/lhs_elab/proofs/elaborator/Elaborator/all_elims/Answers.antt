use Rattle.std.proofs.Common.{◌≡◌, ◌∷◌, ◌-◌, [], List, length, take, drop, refl, sym, subst}
use Rattle.std.proofs.lemmas.Result.{err_from_is_err_and}
use Rattle.conversion.proofs.Slices.{unrolled, none_within}
use Rattle.kernel_rules.specs.Outcome.{Outcome, Gives, Refuses}
use Rattle.resolved_tree.specs.declared.resolved.ResolvedPattern.{ResolvedPattern}
use Rattle.lhs_rules.specs.Patterns.{pattern_meaning}
use Rattle.lhs_rules.specs.Refusals.{Refusal}
use Rattle.lhs_rules.specs.Rules.{all_elims, most_inserted, one_elim}
use Rattle.lhs_rules.specs.Spots.{Left}
use Rattle.lhs_elab.specs.Elaborator.{Comes, left_of, over, signature_of}
use Rattle.lhs_elab.specs.Reading.{meanings}
use Rattle.lhs_elab.proofs.Kept.{Grows-trans, Keeps-trans, full-kept, over-kept, signature-kept}
use Rattle.lhs_elab.proofs.Refusing.{refused-as}
use Rattle.lhs_elab.proofs.Rooms.{elims-next, elims-stop, one-same}
use Rattle.lhs_elab.proofs.elaborator.Elaborator.all_elims.Goals as goal

pub loop-left-preserved : goal.loop-left-preserved
loop-left-preserved g c =
    let F = g.S.Solutions.solution in
    let i = c.loop-left.invariant in
    let x = c.args.self.now in
    let v = c.loop-left.self in
    let w = c.one_elim.new.self in
    let left = c.loop-left.left.now in
    let p = c.pattern-item.result in
    let more = take (length left - 1) (drop 1 left) in
    let all : left ≡ p ∷ more = unrolled left p c.in-len1-up.len_at_least c.pattern-item.is in
    let G = signature_of x in
    let m = pattern_meaning G x.function p in
    let k = c.in_ok-one_elim.ensures in
    record {
      grows = Grows-trans i.grows k.grows;
      keeps = Keeps-trans i.keeps k.keeps;
      ready = k.ready;
      reading = λ f full r h.
          let o = over F f x in
          let there : (r : Outcome Refusal Left) → Comes (over F f v) (one_elim (signature_of v) v.function (pattern_meaning (signature_of v) v.function p) most_inserted (left_of v)) r → Comes o (one_elim G x.function m most_inserted (left_of v)) r =
          one-same (over F f v) o (signature_of v) G v.function x.function p (left_of v) (over-kept F x v c.requires.ready i.grows i.keeps f) (signature-kept F x v c.requires.ready i.grows i.keeps) i.keeps.function in
          let full2 = full-kept F x v c.requires.ready i.grows i.keeps f full in
          i.reading f full r (subst (λ (ps : List ResolvedPattern). Comes o (all_elims G x.function (meanings x ps) (left_of v)) r) (sym all) (elims-next o G x.function m (meanings x more) (left_of v) (left_of w) r (there (Gives (left_of w)) (k.is f full2)) h));
    }

pub returns-in_err-one_elim-clause-is : goal.returns-in_err-one_elim-clause-is
returns-in_err-one_elim-clause-is g c = λ f full.
    let F = g.S.Solutions.solution in
    let i = c.loop-left.invariant in
    let x = c.args.self.now in
    let v = c.loop-left.self in
    let w = c.one_elim.new.self in
    let left = c.loop-left.left.now in
    let p = c.pattern-item.result in
    let more = take (length left - 1) (drop 1 left) in
    let all : left ≡ p ∷ more = unrolled left p c.in-len1-up.len_at_least c.pattern-item.is in
    let G = signature_of x in
    let m = pattern_meaning G x.function p in
    let o = over F f x in
    let there : (r : Outcome Refusal Left) → Comes (over F f v) (one_elim (signature_of v) v.function (pattern_meaning (signature_of v) v.function p) most_inserted (left_of v)) r → Comes o (one_elim G x.function m most_inserted (left_of v)) r =
    one-same (over F f v) o (signature_of v) G v.function x.function p (left_of v) (over-kept F x v c.requires.ready i.grows i.keeps f) (signature-kept F x v c.requires.ready i.grows i.keeps) i.keeps.function in
    let full2 = full-kept F x v c.requires.ready i.grows i.keeps f full in
    let e = err_from_is_err_and c.from_residual.result c.from_residual.ensures.1 in
    rw (e.1, e.2)
    (refused-as w.pool.now (λ (r : Refusal). Comes (over F f v) (one_elim (signature_of v) v.function (pattern_meaning (signature_of v) v.function p) most_inserted (left_of v)) (Refuses r)) (λ (r : Refusal). Comes o (all_elims G x.function (meanings x c.args.patterns.now) (left_of x)) (Refuses r))
    (λ (r : Refusal) h. i.reading f full (Refuses r) (subst (λ (ps : List ResolvedPattern). Comes o (all_elims G x.function (meanings x ps) (left_of v)) (Refuses r)) (sym all) (elims-stop o G x.function m (meanings x more) (left_of v) r (there (Refuses r) h))))
    c.in_err-one_elim.field-0.0 (c.in_err-one_elim.ensures.is f full2))

pub returns-clause-is : goal.returns-clause-is
returns-clause-is g c = λ f full.
    let i = c.loop-left.invariant in
    let x = c.args.self.now in
    let v = c.loop-left.self in
    let none : c.loop-left.left.now ≡ [] = none_within c.loop-left.left.now c.in_default.len_below in
    i.reading f full (Gives (left_of v)) (subst (λ (ps : List ResolvedPattern). Comes (over g.S.Solutions.solution f x) (all_elims (signature_of x) x.function (meanings x ps) (left_of v)) (Gives (left_of v))) (sym none) refl)
