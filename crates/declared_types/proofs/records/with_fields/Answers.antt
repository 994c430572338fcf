use Rattle.std.proofs.Common.{◌≡◌, ◌<◌, ℕ, List, [], ◌∷◌, ◌++◌, ◌-◌, length, map, take, drop, refl, sym, ap, subst, ◌∙◌}
use Rattle.std.specs.List.{AllByRecursion}
use Rattle.el_base.proofs.Throughout.{all-push}
use Rattle.core_rules.specs.Term.{Proj}
use Rattle.term_pool.specs.Pool.{tree}
use Rattle.term_pool.specs.Growth.{Extends-refl, Extends-tree, Extends-trans}
use Rattle.conversion.proofs.Slices.{unrolled}
use Rattle.declared_types.proofs.Grown.{all-grown}
use Rattle.declared_types.proofs.Named.{fields_next}
use Rattle.declared_types.proofs.records.with_fields.Goals as goal

pub loop-left-init : goal.loop-left-init
loop-left-init c = record { extends = Extends-refl c.args.pool.now; below = c.requires.terms; is = refl }

pub loop-left-preserved : goal.loop-left-preserved
loop-left-preserved c =
    let i = c.loop-left.invariant in
    let p = c.args.pool.now in
    let t = tree p c.args.of in
    let q = c.loop-left.pool in
    let r = c.add.new.self in
    let k = c.in_ok-value.ensures in
    let env = c.loop-left.env.items in
    let left = c.loop-left.left.now in
    let more = take (length left - 1) (drop 1 left) in
    let l : left ≡ c.field-item.result ∷ more = unrolled left c.field-item.result c.in-len1-up.len_at_least c.field-item.is in
    let e : c.push.new.self.items ≡ env ++ c.in_ok-value.value ∷ [] = c.in_ok-push.ensures.items in
    let v : tree r c.in_ok-value.value ≡ Proj c.field-item.result t = k.stands.is ∙ ap (Proj c.field-item.result) (Extends-tree c.args.of i.extends c.requires.of) in
    record {
      extends = Extends-trans i.extends k.extends;
      below = subst (λ (ts : List ℕ). AllByRecursion (λ j. j < length r.trees) ts) (sym e) (all-push (λ j. j < length r.trees) env c.in_ok-value.value (all-grown q r env k.extends i.below) k.stands.within);
      is = fields_next q r env c.push.new.self.items c.in_ok-value.value c.field-item.result t left more (map (tree p) c.args.terms.items ++ map (λ f. Proj f t) c.args.fields.now) k.extends i.below e v l i.is;
    }
