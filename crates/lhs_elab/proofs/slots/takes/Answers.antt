use Rattle.std.proofs.Common.{◌≡◌, ℕ, List, ◌∷◌, ◌-◌, length, map, take, drop, ap, sym, ◌∙◌}
use Rattle.core_rules.specs.Term.{Term}
use Rattle.core_rules.specs.Signature.{Entry, Telescope}
use Rattle.core_rules.specs.Mapped.{entry_map}
use Rattle.kernel_rules.specs.Outcome.{Refuses}
use Rattle.term_pool.specs.Pool.{tree}
use Rattle.resolved_tree.specs.declared.resolved.ResolvedPattern.{ResolvedPattern}
use Rattle.conversion.proofs.Slices.{unrolled}
use Rattle.lhs_rules.specs.Refusals.{Refusal}
use Rattle.lhs_rules.specs.Rules.{aligned, misfit}
use Rattle.lhs_rules.specs.Patterns.{pattern_meaning}
use Rattle.lhs_elab.specs.declared.due.Due.TheVariants as D
use Rattle.lhs_elab.specs.Dues.{due_of, written_of}
use Rattle.lhs_elab.proofs.Aligning.{refused-aligned}
use Rattle.lhs_elab.proofs.Refusing.{refused-as}
use Rattle.lhs_elab.proofs.slots.takes.Goals as goal

pub returns-in-Refuses : goal.returns-in-Refuses
returns-in-Refuses c = λ g f p.
    let r = c.pattern-item.result in
    let m = pattern_meaning g f r in
    let left = c.args.left.now in
    let rest = take (length left - 1) (drop 1 left) in
    let all : left ≡ r ∷ rest = unrolled left r c.in-len1-up.len_at_least c.pattern-item.is in
    let due : due_of c.args.entry.now.flag c.args.entry.now.name (written_of m.next) ≡ D.Refuses =
    ap (λ (e : Entry ℕ). due_of e.flag e.name (written_of m.next)) (sym c.entry.view_is) ∙ ap (due_of c.entry.inside.flag c.entry.inside.name) (sym (c.how_written.ensures g f)) ∙ sym c.what_takes.ensures ∙ c.in-Refuses.is in
    refused-as p (λ (x : Refusal). x ≡ misfit c.args.pos m.pos m.next) (λ (x : Refusal). (es : Telescope Term) → aligned g c.args.pos (map (pattern_meaning g f) left) (entry_map (tree p) c.args.entry.now ∷ es) ≡ Refuses x) (λ x h es.
    ap (λ (ls : List ResolvedPattern). aligned g c.args.pos (map (pattern_meaning g f) ls) (entry_map (tree p) c.args.entry.now ∷ es)) all
    ∙ refused-aligned g c.args.pos (entry_map (tree p) c.args.entry.now) es m (map (pattern_meaning g f) rest) due ∙ ap Refuses (sym h)) c.misfit.result (c.misfit.ensures g f p)
