use Rattle.std.proofs.Common.{◌≡◌, ◌<◌, ◌+◌, ◌-◌, ◌∷◌, ◌++◌, ℕ, length, map, refl, arith, ap, ap₂, sym, subst, ◌∙◌}
use Rattle.std.specs.Prelude.{List, slice_get, Some}
use Rattle.std.specs.List.{AllByRecursion}
use Rattle.std.proofs.lemmas.Option.{slice_get_read}
use Rattle.core_rules.specs.Term.{Term}
use Rattle.core_rules.specs.Substitution.{shift, under}
use Rattle.core_rules.specs.Signature.{Entry}
use Rattle.core_rules.specs.Mapped.{AllEntries}
use Rattle.core_rules.specs.TypedTree.{vars}
use Rattle.el_base.proofs.Throughout.{all-at}
use Rattle.term_pool.specs.Pool.{StandsFor, tree}
use Rattle.term_pool.specs.Growth.{Extends-refl, Extends-trans, Extends-length, Extends-tree}
use Rattle.tree_kernel.proofs.Openings.{opens-first, opens-next}
use Rattle.tree_kernel.proofs.opening.opened.Goals as goal

pub loop-at-init : goal.loop-at-init
loop-at-init c =
    let ctx = c.args.context.now in
    let b = length ctx - 1 - c.args.var in
    record {
      extends = Extends-refl c.args.pool.now;
      opens = opens-first c.args.pool.now ctx c.args.entries.now c.extend_from_slice.new.self.items c.args.u b (omega (arith, c.requires.var))
          c.requires.context c.requires.entries
          (c.in_ok-extend_from_slice.ensures.items ∙ ap (λ (es : List (Entry ℕ)). es ++ c.args.entries.now) c.in_ok-made.ensures.items);
    }

pub under-requires-clause-env : goal.under-requires-clause-env
under-requires-clause-env c = subst (AllByRecursion (λ i. i < length c.with_new.new.pool.trees)) (sym c.as_slice.ensures.value) c.in_ok-env.ensures.is.below

pub loop-at-preserved : goal.loop-at-preserved
loop-at-preserved c =
    let i = c.loop-at.invariant in
    let p = c.args.pool.now in
    let l = c.loop-at.pool in
    let q = c.with_new.new.pool in
    let r = c.under.new.pool in
    let ctx = c.args.context.now in
    let b = length ctx - 1 - c.args.var in
    let at = c.loop-at.at in
    let e = c.index-context-before.result in
    let g = c.in_ok-env.ensures.extends in
    let h = c.in_ok-ty.ensures in
    let w : b + 1 + at < length ctx = omega (arith, c.requires.var, c.loop-at-test.true) in
    let got : slice_get ctx (b + 1 + at) ≡ Some e = slice_get_read ctx (length ctx) (b + 1 + at) e refl w c.index-context-before.is in
    let le : e.ty < length p.trees = all-at (λ (x : Entry ℕ). x.ty < length p.trees) ctx (b + 1 + at) e c.requires.context got in
    let ll : e.ty < length l.trees = omega (arith, le, Extends-length i.extends) in
    let out : c.in-Ok-Ok.outside ≡ b = omega (arith, c.in-Ok-Ok.ensures) in
    let num : c.in-Ok-Ok.count ≡ length c.args.entries.now = omega (arith, c.in-Ok-Ok.ensures') in
    let u : tree l c.args.u ≡ tree p c.args.u = Extends-tree c.args.u i.extends c.requires.u in
    let t : tree q c.entry.inside.ty ≡ tree p e.ty = ap (λ (x : Entry ℕ). tree q x.ty) c.entry.view_is
    ∙ (Extends-tree e.ty g ll ∙ Extends-tree e.ty i.extends le) in
    let E : Term → ℕ → ℕ → List Term = λ v n m. vars 0 at ++ shift v 0 at ∷ vars (at + n) m in
    let env : map (tree q) c.as_slice.result.now ≡ E (tree p c.args.u) (length c.args.entries.now) b =
    ap (map (tree q)) c.as_slice.ensures.value
    ∙ (c.in_ok-env.ensures.is.is ∙ (ap (λ (v : Term). E v c.in-Ok-Ok.count c.in-Ok-Ok.outside) u ∙ ap₂ (λ (n m : ℕ). E (tree p c.args.u) n m) num out)) in
    let s : StandsFor r c.in_ok-ty.ty (under (E (tree p c.args.u) (length c.args.entries.now) b) (tree p e.ty)) =
    subst (StandsFor r c.in_ok-ty.ty) (ap₂ under env t) h.is in
    record {
      extends = Extends-trans i.extends (Extends-trans g h.extends);
      opens = opens-next p l r ctx c.args.entries.now c.loop-at.made.items c.push.new.self.items c.args.u b at c.in_ok-ty.ty e _ i.opens
          (Extends-trans g h.extends) got (omega (arith, w))
          c.in_ok-push.ensures.items (ap (λ (x : Entry ℕ). record { name = x.name; flag = x.flag; ty = c.in_ok-ty.ty }) c.entry.view_is) s;
    }

pub returns-clause-below : goal.returns-clause-below
returns-clause-below c = subst (AllEntries (λ i. i < length c.loop-at.pool.trees)) (sym c.from_vec.ensures) c.loop-at.invariant.opens.stand.below
