use Rattle.std.proofs.Common.{◌≡◌, ◌<◌, ℕ, List, ◌-◌, ◌∷◌, length, map, take, drop, ap, subst, ◌∙◌}
use Rattle.std.specs.List.{AllByRecursion}
use Rattle.core_rules.specs.Term.{App}
use Rattle.core_rules.specs.Signature.{Entry}
use Rattle.core_rules.specs.Mapped.{telescope_map}
use Rattle.core_rules.specs.Elimination.{elims, args}
use Rattle.term_pool.specs.Pool.{tree}
use Rattle.term_pool.specs.Growth.{Extends-trans, Extends-tree}
use Rattle.conversion.proofs.Slices.{unrolled, none_within}
use Rattle.declared_types.proofs.Ends.{terms_next, terms_end, no_terms}
use Rattle.declared_types.proofs.constructors.at_terms.Goals as goal

pub loop-left-preserved : goal.loop-left-preserved
loop-left-preserved c =
    let i = c.loop-left.invariant in
    let p = c.args.pool.now in
    let f = tree p in
    let q = c.loop-left.pool in
    let r = c.add.new.self in
    let left = c.loop-left.left.now in
    let more = take (length left - 1) (drop 1 left) in
    let given = c.loop-left.given.now in
    let others = take (length given - 1) (drop 1 given) in
    let e = c.entry-item.result in
    let u = c.arg-item.result in
    let x : left ≡ e ∷ more = unrolled left e c.in-len1-up.len_at_least c.entry-item.is in
    let y : given ≡ u ∷ others = unrolled given u c.in-len1-up-given.len_at_least c.arg-item.is in
    let all : AllByRecursion (λ t. t < length p.trees) (u ∷ others) = subst (λ (ts : List ℕ). AllByRecursion (λ t. t < length p.trees) ts) y i.given in
    let k = c.in_ok-next.ensures in
    let a : tree q u ≡ f u = Extends-tree u i.extends all.0 in
    let d : c.entry.inside.flag ≡ e.flag = ap (λ (w : Entry ℕ). w.flag) c.entry.view_is in
    let is : tree r c.in_ok-next.next ≡ App e.flag (tree q c.loop-left.made) (f u) = k.stands.is ∙ cc (a, d) in
    record {
      extends = Extends-trans i.extends k.extends;
      made = k.stands.within;
      given = all.1;
      is = terms_next f left more e (map f given) (map f others) (f u) (tree q c.loop-left.made) (tree r c.in_ok-next.next)
          (elims (f c.args.head) (args (telescope_map f c.args.entries.now) (map f c.args.terms.now))) x (ap (map f) y) is i.is;
    }

pub returns-in_default-given-clause-is : goal.returns-in_default-given-clause-is
returns-in_default-given-clause-is c =
    let i = c.loop-left.invariant in
    let f = tree c.args.pool.now in
    let left = c.loop-left.left.now in
    let e = c.entry-item.result in
    record {
      within = i.made;
      is = no_terms f left (take (length left - 1) (drop 1 left)) e (map f c.loop-left.given.now) (tree c.loop-left.pool c.loop-left.made)
          (elims (f c.args.head) (args (telescope_map f c.args.entries.now) (map f c.args.terms.now))) (unrolled left e c.in-len1-up.len_at_least c.entry-item.is) (ap (map f) (none_within c.loop-left.given.now c.in_default-given.len_below)) i.is;
    }

pub returns-clause-is : goal.returns-clause-is
returns-clause-is c =
    let i = c.loop-left.invariant in
    let f = tree c.args.pool.now in
    record {
      within = i.made;
      is = terms_end f c.loop-left.left.now (map f c.loop-left.given.now) (tree c.loop-left.pool c.loop-left.made)
          (elims (f c.args.head) (args (telescope_map f c.args.entries.now) (map f c.args.terms.now))) (none_within c.loop-left.left.now c.in_default.len_below) i.is;
    }
