use Rattle.std.proofs.Common.{◌≡◌, ◌<◌, ℕ, suc, ◌-◌, ◌∷◌, ◌++◌, List, length, take, drop, map, ap, ap₂, sym, subst, ◌∙◌, arith}
use Rattle.core_rules.specs.Term.{Term}
use Rattle.core_rules.specs.Substitution.{shift, under}
use Rattle.core_rules.specs.Signature.{Entry, Telescope}
use Rattle.core_rules.specs.Mapped.{AllEntries, entry_map, telescope_map}
use Rattle.core_rules.specs.TypedTree.{entries_under, vars}
use Rattle.term_pool.specs.Pool.{tree}
use Rattle.term_pool.specs.Growth.{Extends-trans, Extends-tree}
use Rattle.term_pool.specs.Placed.{items-stay}
use Rattle.conversion.proofs.Slices.{unrolled}
use Rattle.lhs_elab.proofs.Nexts.{entries-next, telescope-next}
use Rattle.lhs_elab.proofs.opening.with_arguments.Goals as goal

pub loop-left-preserved : goal.loop-left-preserved
loop-left-preserved c =
    let i = c.loop-left.invariant in
    let p = c.args.pool.now in
    let q = c.loop-left.pool in
    let r = c.argument_type.new.pool in
    let k = c.in_ok-ty.ensures in
    let made = c.loop-left.made.items in
    let new = c.push.new.self.items in
    let before = c.loop-left.before in
    let left = c.loop-left.left.now in
    let more = take (length left - 1) (drop 1 left) in
    let x = c.entry-item.result in
    let v : Entry ℕ = record { name = c.entry.inside.name; flag = c.entry.inside.flag; ty = c.in_ok-ty.ty } in
    let l : left ≡ x ∷ more = unrolled left x c.in-len1-up.len_at_least c.entry-item.is in
    let b : AllEntries (λ t. t < length p.trees) (x ∷ more) = subst (AllEntries (λ t. t < length p.trees)) l i.left in
    let ps : List Term = map (tree p) c.args.params.now in
    let env : List Term → List Term = λ (us : List Term). vars 0 before ++ map (λ u. shift u 0 before) us in
    let E : Telescope Term → ℕ → Telescope Term = λ (es : Telescope Term) (n : ℕ). entries_under ps n es in
    let n : suc before ≡ c.in-Some.next = omega (arith, c.in-Some.ensures) in
    let type : tree r c.in_ok-ty.ty ≡ under (env ps) (tree p x.ty) =
    k.is.is ∙ ap₂ (λ (us : List Term) (t : Term). under (env us) t) (items-stay p q c.args.params.now i.extends c.requires.params)
    (ap (λ (y : Entry ℕ). tree q y.ty) c.entry.view_is ∙ Extends-tree x.ty i.extends b.0) in
    let one : entry_map (tree r) v ≡ entry_map (under (env ps)) (entry_map (tree p) x) =
    ap₂ (λ (y : Entry ℕ) (t : Term). record { name = y.name; flag = y.flag; ty = t }) c.entry.view_is type in
    record {
      extends = Extends-trans i.extends k.extends;
      below = entries-next q r k.extends made new v c.in_ok-push.ensures.items i.below k.is.within;
      left = b.1;
      is = telescope-next q r k.extends made new v c.in_ok-push.ensures.items i.below (entry_map (under (env ps)) (entry_map (tree p) x)) (E (telescope_map (tree p) more) c.in-Some.next)
          (telescope_map (tree p) c.args.entries.items ++ E (telescope_map (tree p) c.args.arguments.now) 0) one
          (ap (λ (m : ℕ). telescope_map (tree q) made ++ entry_map (under (env ps)) (entry_map (tree p) x) ∷ E (telescope_map (tree p) more) m) (sym n)
          ∙ (ap (λ (es : List (Entry ℕ)). telescope_map (tree q) made ++ E (telescope_map (tree p) es) before) (sym l) ∙ i.is));
    }
