use Rattle.std.proofs.Common.{◌≡◌, ◌∷◌, ◌-◌, ◌<◌, ℕ, List, length, take, drop, ap, subst}
use Rattle.el_base.proofs.Throughout.{all-push}
use Rattle.core_rules.specs.Mapped.{AllEntries}
use Rattle.core_rules.specs.Signature.{Entry}
use Rattle.conversion.proofs.Slices.{unrolled, none_within}
use Rattle.term_pool.specs.Growth.{Extends-trans}
use Rattle.term_pool.specs.Pool.{tree}
use Rattle.elab_machine.specs.Written.{IsSource}
use Rattle.data_elab.specs.Sources.{IsRisen}
use Rattle.data_elab.proofs.Risen.{all-so_far, one-so_far, sources-weaker}
use Rattle.data_elab.proofs.sources.sources.Goals as goal

pub loop-left-preserved : goal.loop-left-preserved
loop-left-preserved c =
    let i = c.loop-left.invariant in
    let p = c.args.pool.now in
    let m = c.loop-left.pool in
    let q = c.source.new.pool in
    let left = c.loop-left.left.now in
    let e = c.entry-item.result in
    let more = take (length left - 1) (drop 1 left) in
    let first : left ≡ e ∷ more = unrolled left e c.in-len1-up.len_at_least c.entry-item.is in
    let all = subst (λ (es : List (Entry ℕ)). AllEntries (λ t. t < length p.trees) es) first i.entries in
    let h = c.in_ok-value.ensures in
    let v = c.in_ok-value.value in
    let items = c.in_ok-push.ensures.items in
    let x : c.entry.inside.name ≡ e.name = ap (λ (w : Entry ℕ). w.name) c.entry.view_is in
    let a : c.entry.inside.ty ≡ e.ty = ap (λ (w : Entry ℕ). w.ty) c.entry.view_is in
    let is : IsRisen m q e.name e.ty (length more) v = subst (λ n. IsRisen m q n e.ty (length more) v) x (subst (λ t. IsRisen m q c.entry.inside.name t (length more) v) a h.is) in
    record {
      extends = Extends-trans i.extends h.extends;
      entries = all.1;
      within = rw items (all-push (IsSource (length q.trees)) c.loop-left.values.items _ (sources-weaker m q c.loop-left.values.items h.extends i.within) h.is.source);
      are = one-so_far p m q c.args.entries.now left more e c.loop-left.values.items c.push.new.self.items _ first i.extends h.extends all.0 i.within is items i.are;
    }

pub returns-clause-is : goal.returns-clause-is
returns-clause-is c =
    let i = c.loop-left.invariant in
    let left = c.loop-left.left.now in
    record {
      within = i.within;
      are = all-so_far (tree c.args.pool.now) c.args.entries.now left c.loop-left.pool c.loop-left.values.items (none_within left c.in_default.len_below) i.are;
    }
