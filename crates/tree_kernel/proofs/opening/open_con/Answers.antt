use Rattle.std.proofs.Common.{◌≡◌, ◌+◌, ◌-◌, ◌∷◌, ◌++◌, ℕ, length, map, arith, ap, ap₂, subst, ◌∙◌}
use Rattle.std.specs.Prelude.{List, reverse}
use Rattle.core_rules.specs.Term.{Term}
use Rattle.core_rules.specs.Substitution.{shift}
use Rattle.core_rules.specs.Signature.{Context, Telescope}
use Rattle.core_rules.specs.Mapped.{telescope_map}
use Rattle.core_rules.specs.TypedTree.{vars, into, new_con, entries_under, opened}
use Rattle.core_kernel.proofs.Contexts.{context_in-extends}
use Rattle.declared_types.proofs.Grown.{telescope-stays}
use Rattle.el_base.proofs.Lists.{map-reverse}
use Rattle.term_pool.specs.Pool.{tree}
use Rattle.term_pool.specs.Placed.{items-stay}
use Rattle.term_pool.specs.Growth.{Extends-trans, Extends-tree}
use Rattle.tree_kernel.specs.Jobs.{context_by}
use Rattle.tree_kernel.specs.Stand.{Stand}
use Rattle.tree_kernel.proofs.Lists.{stand-more}
use Rattle.tree_kernel.proofs.Entries.{entries-more}
use Rattle.tree_kernel.proofs.opening.open_con.Goals as goal

pub returns-clause-context : goal.returns-clause-context
returns-clause-context c =
    let p = c.args.pool.now in
    let q1 = c.new_entries.new.pool in
    let q2 = c.new_con.new.pool in
    let q3 = c.with_new.new.pool in
    let s = c.args.split.now in
    let ps = s.params.items in
    let es : Telescope Term = telescope_map (tree p) c.args.entries.now in
    let e1 = c.in_ok-new.ensures.extends in
    let e2 = c.in_ok-u.ensures.extends in
    let e3 = c.in_ok-env.ensures.extends in
    let inner : map (tree p) c.as_slice.result.now ≡ reverse (map (tree p) ps) =
    ap (map (tree p)) (c.as_slice.ensures.value ∙ (c.in_ok-inner.ensures ∙ ap reverse c.as_slice-params.ensures.value)) ∙ map-reverse (tree p) ps in
    let new : telescope_map (tree q3) c.as_slice-2.result.now ≡ entries_under (reverse (map (tree p) ps)) 0 es =
    ap (telescope_map (tree q3)) c.as_slice-2.ensures.value
    ∙ ((entries-more q1 q3 c.in_ok-new.new.items _ (Extends-trans e2 e3) c.in_ok-new.ensures.is).is ∙ ap (λ (r : List Term). entries_under r 0 es) inner) in
    let params : map (tree q1) c.as_slice-params.result.now ≡ map (tree p) ps = ap (map (tree q1)) c.as_slice-params.ensures.value
    ∙ items-stay p q1 ps e1 c.requires.split.1 in
    let u : tree q3 c.in_ok-u.u ≡ new_con c.args.con (map (tree p) ps) es =
    Extends-tree c.in_ok-u.u e3 c.in_ok-u.ensures.is.within
    ∙ (c.in_ok-u.ensures.is.is ∙ ap₂ (new_con c.args.con) params (telescope-stays p q1 c.args.entries.now e1 c.requires.entries)) in
    let ctx : context_by (tree q3) c.entries_of-context.result.now ≡ context_by (tree p) s.context =
    ap (context_by (tree q3)) c.entries_of-context.ensures ∙ context_in-extends p q3 s.context (Extends-trans e1 (Extends-trans e2 e3)) c.requires.split.0 in
    c.in_ok-context.ensures.is
    ∙ (ap (λ (t : Term). opened s.var t (telescope_map (tree q3) c.as_slice-2.result.now) (context_by (tree q3) c.entries_of-context.result.now)) u
    ∙ ap₂ (λ (xs : Telescope Term) (d : Context Term). opened s.var (new_con c.args.con (map (tree p) ps) es) xs d) new ctx)

pub returns-clause-env : goal.returns-clause-env
returns-clause-env c =
    let p = c.args.pool.now in
    let q1 = c.new_entries.new.pool in
    let q2 = c.new_con.new.pool in
    let q3 = c.with_new.new.pool in
    let q4 = c.opened.new.pool in
    let s = c.args.split.now in
    let ps = s.params.items in
    let es : Telescope Term = telescope_map (tree p) c.args.entries.now in
    let e1 = c.in_ok-new.ensures.extends in
    let params : map (tree q1) c.as_slice-params.result.now ≡ map (tree p) ps = ap (map (tree q1)) c.as_slice-params.ensures.value
    ∙ items-stay p q1 ps e1 c.requires.split.1 in
    let u : tree q2 c.in_ok-u.u ≡ new_con c.args.con (map (tree p) ps) es = c.in_ok-u.ensures.is.is
    ∙ ap₂ (new_con c.args.con) params (telescope-stays p q1 c.args.entries.now e1 c.requires.entries) in
    let ctx : length c.entries_of-context.result.now ≡ length s.context = ap length c.entries_of-context.ensures in
    let out : c.in-Ok-Ok.outside ≡ length s.context - (s.var + 1) = omega (arith, c.in-Ok-Ok.ensures, ctx) in
    let num : c.in-Ok-Ok.count ≡ length c.args.entries.now = omega (arith, c.in-Ok-Ok.ensures') in
    let E : Term → ℕ → ℕ → List Term = λ t m n. vars 0 s.var ++ shift t 0 s.var ∷ vars (s.var + m) n in
    let is : E (tree q2 c.in_ok-u.u) c.in-Ok-Ok.count c.in-Ok-Ok.outside ≡ into s.var (length s.context) (length c.args.entries.now)
    (new_con c.args.con (map (tree p) ps) es) =
    ap (λ (t : Term). E t c.in-Ok-Ok.count c.in-Ok-Ok.outside) u ∙ ap₂ (λ (m n : ℕ). E (new_con c.args.con (map (tree p) ps) es) m n) num out in
    subst (Stand q4 c.in_ok-env.env.items) is (stand-more q3 q4 c.in_ok-env.env.items _ c.in_ok-context.ensures.extends c.in_ok-env.ensures.is)
