use Rattle.std.proofs.Common.{◌≡◌, ◌<◌, ℕ, suc, ◌+◌, ◌-◌, ◌∷◌, ◌++◌, List, length, take, drop, ap, ap₂, sym, subst, ◌∙◌, arith}
use Rattle.core_rules.specs.Term.{Term}
use Rattle.core_rules.specs.Substitution.{under}
use Rattle.core_rules.specs.Signature.{Entry, Telescope}
use Rattle.core_rules.specs.Mapped.{AllEntries, entry_map, telescope_map}
use Rattle.core_rules.specs.TypedTree.{into}
use Rattle.term_pool.specs.Pool.{tree}
use Rattle.term_pool.specs.Growth.{Extends-length, Extends-trans, Extends-tree}
use Rattle.conversion.proofs.Slices.{unrolled}
use Rattle.lhs_elab.specs.Opening.{inner_under}
use Rattle.lhs_elab.proofs.Nexts.{entries-next, telescope-next}
use Rattle.lhs_elab.proofs.opening.with_inner.Goals as goal

pub inner_type-requires-clause-term : goal.inner_type-requires-clause-term
inner_type-requires-clause-term c = let i = c.loop-left.invariant in omega (arith, Extends-length i.extends, c.requires.term)

pub loop-left-preserved : goal.loop-left-preserved
loop-left-preserved c =
    let i = c.loop-left.invariant in
    let p = c.args.pool.now in
    let q = c.loop-left.pool in
    let r = c.inner_type.new.pool in
    let k = c.in_ok-ty.ensures in
    let made = c.loop-left.made.items in
    let new = c.push.new.self.items in
    let at = c.loop-left.at in
    let left = c.loop-left.left.now in
    let more = take (length left - 1) (drop 1 left) in
    let x = c.entry-item.result in
    let v : Entry ℕ = record { name = c.entry.inside.name; flag = c.entry.inside.flag; ty = c.in_ok-ty.ty } in
    let l : left ≡ x ∷ more = unrolled left x c.in-len1-up.len_at_least c.entry-item.is in
    let b : AllEntries (λ t. t < length p.trees) (x ∷ more) = subst (AllEntries (λ t. t < length p.trees)) l i.left in
    let u : Term = tree p c.args.term in
    let env : Term → List Term = λ (t : Term). into at (c.args.outer + 1 + at) c.args.new t in
    let E : Telescope Term → ℕ → Telescope Term = λ (es : Telescope Term) (n : ℕ). inner_under u c.args.new c.args.outer n es in
    let n : suc at ≡ c.in-Some.next = omega (arith, c.in-Some.ensures) in
    let type : tree r c.in_ok-ty.ty ≡ under (env u) (tree p x.ty) =
    k.is.is ∙ ap₂ (λ (w t : Term). under (env w) t) (Extends-tree c.args.term i.extends c.requires.term)
    (ap (λ (y : Entry ℕ). tree q y.ty) c.entry.view_is ∙ Extends-tree x.ty i.extends b.0) in
    let one : entry_map (tree r) v ≡ entry_map (under (env u)) (entry_map (tree p) x) =
    ap₂ (λ (y : Entry ℕ) (t : Term). record { name = y.name; flag = y.flag; ty = t }) c.entry.view_is type in
    record {
      extends = Extends-trans i.extends k.extends;
      below = entries-next q r k.extends made new v c.in_ok-push.ensures.items i.below k.is.within;
      left = b.1;
      is = telescope-next q r k.extends made new v c.in_ok-push.ensures.items i.below (entry_map (under (env u)) (entry_map (tree p) x)) (E (telescope_map (tree p) more) c.in-Some.next)
          (telescope_map (tree p) c.args.entries.items ++ E (telescope_map (tree p) c.args.inner.now) 0) one
          (ap (λ (m : ℕ). telescope_map (tree q) made ++ entry_map (under (env u)) (entry_map (tree p) x) ∷ E (telescope_map (tree p) more) m) (sym n)
          ∙ (ap (λ (es : List (Entry ℕ)). telescope_map (tree q) made ++ E (telescope_map (tree p) es) at) (sym l) ∙ i.is));
    }
