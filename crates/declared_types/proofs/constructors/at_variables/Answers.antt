use Rattle.std.proofs.Common.{◌≡◌, ℕ, ◌+◌, ◌-◌, ◌∷◌, length, take, drop, ap, ◌∙◌}
use Rattle.core_rules.specs.Term.{Var, App}
use Rattle.core_rules.specs.Signature.{Entry}
use Rattle.core_rules.specs.Mapped.{telescope_map}
use Rattle.core_rules.specs.Elimination.{elims, args, vars_from}
use Rattle.term_pool.specs.Pool.{tree}
use Rattle.term_pool.specs.Growth.{Extends-trans, Extends-tree}
use Rattle.conversion.proofs.Slices.{unrolled, none_within}
use Rattle.declared_types.proofs.Ends.{variables_next, variables_end}
use Rattle.declared_types.proofs.constructors.at_variables.Goals as goal

pub loop-left-preserved : goal.loop-left-preserved
loop-left-preserved c =
    let i = c.loop-left.invariant in
    let f = tree c.args.pool.now in
    let q = c.loop-left.pool in
    let s = c.variable.new.pool in
    let r = c.add.new.self in
    let left = c.loop-left.left.now in
    let more = take (length left - 1) (drop 1 left) in
    let e = c.entry-item.result in
    let x : left ≡ e ∷ more = unrolled left e c.in-len1-up.len_at_least c.entry-item.is in
    let g = c.in_ok-arg.ensures.extends in
    let k = c.in_ok-next.ensures in
    let a : tree s c.in_ok-arg.arg ≡ Var (c.args.inner + length more) = c.in_ok-arg.ensures.is.is in
    let b : tree s c.loop-left.made ≡ tree q c.loop-left.made = Extends-tree c.loop-left.made g i.made in
    let d : c.entry.inside.flag ≡ e.flag = ap (λ (w : Entry ℕ). w.flag) c.entry.view_is in
    let is : tree r c.in_ok-next.next ≡ App e.flag (tree q c.loop-left.made) (Var (c.args.inner + length more)) = k.stands.is ∙ cc (a, b, d) in
    record {
      extends = Extends-trans i.extends (Extends-trans g k.extends);
      made = k.stands.within;
      is = variables_next f left more e c.args.inner (tree q c.loop-left.made) (tree r c.in_ok-next.next)
          (elims (f c.args.head) (args (telescope_map f c.args.entries.now) (vars_from c.args.inner (length c.args.entries.now)))) x is i.is;
    }

pub returns-clause-is : goal.returns-clause-is
returns-clause-is c =
    let i = c.loop-left.invariant in
    let f = tree c.args.pool.now in
    record {
      within = i.made;
      is = variables_end f c.loop-left.left.now c.args.inner (length c.loop-left.left.now) (tree c.loop-left.pool c.loop-left.made)
          (elims (f c.args.head) (args (telescope_map f c.args.entries.now) (vars_from c.args.inner (length c.args.entries.now)))) (none_within c.loop-left.left.now c.in_default.len_below) i.is;
    }
