use Rattle.std.proofs.Common.{◌≡◌, ℕ, List, [], ◌∷◌, ◌-◌, length, map, take, drop, ap, ap₂, sym, subst, ◌∙◌}
use Rattle.std.specs.Prelude.{Bool}
use Rattle.std.proofs.lemmas.Result.{err_from_is_err_and}
use Rattle.core_rules.specs.Term.{Term}
use Rattle.core_rules.specs.Signature.{Entry, Telescope}
use Rattle.core_rules.specs.Mapped.{entry_map, telescope_map}
use Rattle.kernel_rules.specs.Outcome.{Outcome, Refuses}
use Rattle.term_pool.specs.Pool.{tree}
use Rattle.resolved_tree.specs.declared.resolved.ResolvedPattern.{ResolvedPattern}
use Rattle.conversion.proofs.Slices.{unrolled, none_within}
use Rattle.lhs_rules.specs.Refusals.{Refusal}
use Rattle.lhs_rules.specs.Rules.{Slot, aligned, misfit}
use Rattle.lhs_rules.specs.Patterns.{pattern_meaning}
use Rattle.lhs_elab.proofs.AligningAll.{AlignedSo, aligned-first, aligned-next, aligned-stops, aligned-ends}
use Rattle.lhs_elab.proofs.Refusing.{refused-as}
use Rattle.lhs_elab.proofs.slots.align.Goals as goal

pub loop-others-init : goal.loop-others-init
loop-others-init c = record {
  so = subst (λ (ws : List Bool). AlignedSo c.args.pos c.args.patterns.now c.args.entries.now ws c.args.patterns.now c.args.entries.now) (sym c.new-written.ensures.items) (aligned-first c.args.pos c.args.patterns.now c.args.entries.now);
}

pub loop-others-preserved : goal.loop-others-preserved
loop-others-preserved c =
    let others = c.loop-others.others.now in
    let more = take (length others - 1) (drop 1 others) in
    record {
      so = aligned-next c.args.pos c.args.patterns.now c.args.entries.now c.loop-others.written.items c.loop-others.left.now others c.loop-others.invariant.so c.in_ok-has.has c.push.new.self.items c.entry-item.result more c.after-left.result.now
          c.in_ok-push.ensures.items (unrolled others c.entry-item.result c.in-len1-up.len_at_least c.entry-item.is) c.after-left.ensures (λ g f p. c.in_ok-has.ensures g f p (telescope_map (tree p) more));
    }

pub returns-in_err-has : goal.returns-in_err-has
returns-in_err-has c = λ g f p.
    let so = c.loop-others.invariant.so in
    let left = c.loop-others.left.now in
    let others = c.loop-others.others.now in
    let more = take (length others - 1) (drop 1 others) in
    let o : others ≡ c.entry-item.result ∷ more = unrolled others c.entry-item.result c.in-len1-up.len_at_least c.entry-item.is in
    let e = err_from_is_err_and c.from_residual.result c.from_residual.ensures.1 in
    rw (e.1, e.2)
    (refused-as p (λ (x : Refusal). (es : Telescope Term) → aligned g c.args.pos (map (pattern_meaning g f) left) (entry_map (tree p) c.entry-item.result ∷ es) ≡ Refuses x) (λ (x : Refusal). ◌≡◌ {A = Outcome Refusal (List Slot)} (Refuses x) (aligned g c.args.pos (map (pattern_meaning g f) c.args.patterns.now) (telescope_map (tree p) c.args.entries.now)))
    (λ x h. aligned-stops c.args.pos c.args.patterns.now c.args.entries.now c.loop-others.written.items left others so g f p x
    (ap (λ (os : List (Entry ℕ)). aligned g c.args.pos (map (pattern_meaning g f) left) (telescope_map (tree p) os)) o ∙ h (telescope_map (tree p) more))) c.in_err-has.field-0.0 (c.in_err-has.ensures g f p))

pub returns-in-len1-up-left : goal.returns-in-len1-up-left
returns-in-len1-up-left c = λ g f p.
    let so = c.loop-others.invariant.so in
    let left = c.loop-others.left.now in
    let others = c.loop-others.others.now in
    let r = c.pattern-item.result in
    let m = pattern_meaning g f r in
    let rest = take (length left - 1) (drop 1 left) in
    let all : left ≡ r ∷ rest = unrolled left r c.in-len1-up-left.len_at_least c.pattern-item.is in
    let none : others ≡ [] = none_within others c.in_default.len_below in
    refused-as p (λ (x : Refusal). x ≡ misfit c.args.pos m.pos m.next) (λ (x : Refusal). ◌≡◌ {A = Outcome Refusal (List Slot)} (Refuses x) (aligned g c.args.pos (map (pattern_meaning g f) c.args.patterns.now) (telescope_map (tree p) c.args.entries.now)))
    (λ x h. aligned-stops c.args.pos c.args.patterns.now c.args.entries.now c.loop-others.written.items left others so g f p x
    (ap₂ (λ (ls : List ResolvedPattern) (os : List (Entry ℕ)). aligned g c.args.pos (map (pattern_meaning g f) ls) (telescope_map (tree p) os)) all none ∙ ap Refuses (sym h))) c.misfit.result (c.misfit.ensures g f p)

pub returns : goal.returns
returns c = λ g f p.
    aligned-ends c.args.pos c.args.patterns.now c.args.entries.now c.loop-others.written.items c.loop-others.left.now c.loop-others.others.now c.loop-others.invariant.so
    (none_within c.loop-others.left.now c.in_default-left.len_below) (none_within c.loop-others.others.now c.in_default.len_below) g f p
