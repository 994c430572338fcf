use Rattle.std.proofs.Common.{◌≡◌, ◌<◌, ◌+◌, ◌-◌, ◌++◌, ℕ, length, take, drop, map, arith, ap, ap₂, sym, subst, ◌∙◌}
use Rattle.std.specs.Prelude.{List, reverse}
use Rattle.std.specs.List.{AllByRecursion}
use Rattle.core_rules.specs.Term.{Term}
use Rattle.core_rules.specs.Substitution.{shift, under}
use Rattle.core_rules.specs.TypedTree.{vars}
use Rattle.conversion.proofs.Slices.{unrolled, none_within}
use Rattle.el_base.proofs.Lists.{map-reverse}
use Rattle.term_pool.specs.Pool.{StandsFor, tree}
use Rattle.term_pool.specs.Growth.{Extends-trans, Extends-tree, Extends-StandsFor}
use Rattle.core_rules.specs.Signature.{ConDecl}
use Rattle.core_terms.specs.declared.clause.ConDecl.TheInside.{Inside}
use Rattle.tree_kernel.specs.Stand.{Stand}
use Rattle.tree_kernel.proofs.Lists.{stand-more}
use Rattle.tree_kernel.proofs.Equations.{env_of, equates-first, equates-next, equates-left, equates-right, made-all}
use Rattle.tree_kernel.proofs.opening.index_equations.Goals as goal

pub loop-lefts-init : goal.loop-lefts-init
loop-lefts-init c =
    let p = c.args.pool.now in
    let q = c.under_variables.new.pool in
    let ps = c.args.split.now.params.items in
    let n = c.in-Ok.count in
    let is : c.as_slice-lefts.result.now ≡ c.args.con.now.indices =
    c.as_slice-lefts.ensures ∙ (ap (λ (v : Inside). v.indices) c.con-inside.view_is ∙ ap (λ (v : ConDecl ℕ). v.indices) c.con.view_is) in
    let inner : c.as_slice-2.result.now ≡ reverse ps = c.as_slice-2.ensures.value ∙ (c.in_ok-inner.ensures ∙ ap reverse c.as_slice.ensures.value) in
    let env : map (tree p) c.as_slice-2.result.now ≡ reverse (map (tree p) ps) = ap (map (tree p)) inner ∙ map-reverse (tree p) ps in
    record {
      extends = c.in_ok-env.ensures.extends;
      env = subst (λ (us : List Term). Stand q c.in_ok-env.env.items (vars 0 n ++ map (λ t. shift t 0 n) us)) env c.in_ok-env.ensures.is;
      equates = equates-first p q ps n c.args.split.now.var c.in-Some.by c.args.con.now.indices c.args.split.now.indices.items c.as_slice-lefts.result.now
          c.as_slice-rights.result.now c.new-made.result.items
          is c.as_slice-rights.ensures.value c.requires.con.indices c.requires.split.2 c.new-made.ensures.items;
    }

pub under-requires-clause-env : goal.under-requires-clause-env
under-requires-clause-env c = subst (AllByRecursion (λ i. i < length c.loop-lefts.pool.trees)) (sym c.as_slice-in-len1-up.ensures.value)
    c.loop-lefts.invariant.env.below

pub loop-lefts-preserved : goal.loop-lefts-preserved
loop-lefts-preserved c =
    let i = c.loop-lefts.invariant in
    let p = c.args.pool.now in
    let l = c.loop-lefts.pool in
    let q1 = c.under.new.pool in
    let q2 = c.shift.new.pool in
    let r = c.shift-in-len1-up.new.pool in
    let ps = c.args.split.now.params.items in
    let n = c.in-Ok.count in
    let var = c.args.split.now.var in
    let by = c.in-Some.by in
    let lefts = c.loop-lefts.lefts.now in
    let rights = c.loop-lefts.rights.now in
    let t = c.t-item.result in
    let u = c.u-item.result in
    let a = unrolled lefts t c.in-len1-up.len_at_least c.t-item.is in
    let b = unrolled rights u c.in-len1-up-rights.len_at_least c.u-item.is in
    let la = subst (AllByRecursion (λ i. i < length p.trees)) a i.equates.left_below in
    let lb = subst (AllByRecursion (λ i. i < length p.trees)) b i.equates.right_below in
    let e1 = c.in_ok-left.ensures.extends in
    let e2 = c.in_ok-left-2.ensures.extends in
    let e3 = c.in_ok-right.ensures.extends in
    let env : map (tree l) c.as_slice-in-len1-up.result.now ≡ env_of p ps n = ap (map (tree l)) c.as_slice-in-len1-up.ensures.value ∙ i.env.is in
    let s1 : StandsFor q1 c.in_ok-left.left (under (env_of p ps n) (tree p t)) =
    subst (StandsFor q1 c.in_ok-left.left) (ap₂ under env (Extends-tree t i.extends la.0)) c.in_ok-left.ensures.is in
    let s2 : StandsFor q2 c.in_ok-left-2.left (shift (under (env_of p ps n) (tree p t)) 0 var) =
    subst (λ (w : Term). StandsFor q2 c.in_ok-left-2.left (shift w 0 var)) s1.is c.in_ok-left-2.ensures.is in
    let s3 = Extends-StandsFor e3 s2 in
    let v : tree q2 u ≡ tree p u = Extends-tree u (Extends-trans i.extends (Extends-trans e1 e2)) lb.0 in
    let s4 : StandsFor r c.in_ok-right.right (shift (tree p u) 0 by) =
    subst (λ (w : Term). StandsFor r c.in_ok-right.right (shift w 0 by)) v c.in_ok-right.ensures.is in
    let e = Extends-trans e1 (Extends-trans e2 e3) in
    record {
      extends = Extends-trans i.extends e;
      env = stand-more l r c.in_ok-env.env.items (env_of p ps n) e i.env;
      equates = equates-next p l r ps n var by c.args.con.now.indices c.args.split.now.indices.items lefts rights (take (length lefts - 1) (drop 1 lefts))
          (take (length rights - 1) (drop 1 rights)) c.loop-lefts.made.items c.push.new.self.items t u _ i.equates e
          a b c.in_ok-push.ensures.items s3 s4;
    }

pub returns-in_default-rights-clause-is : goal.returns-in_default-rights-clause-is
returns-in_default-rights-clause-is c =
    let p = c.args.pool.now in
    let con = c.args.con.now in
    let s = c.args.split.now in
    let m : c.len.result ≡ length con.args = c.len.ensures
    ∙ (ap (λ (v : Inside). length v.args) c.con-inside.view_is ∙ ap (λ (v : ConDecl ℕ). length v.args) c.con.view_is) in
    let n : c.in-Ok.count ≡ length con.args = omega (arith, c.in-Ok.ensures, m) in
    let by : c.in-Some.by ≡ s.var + c.in-Ok.count = omega (arith, c.in-Some.ensures) in
    (equates-right p c.loop-lefts.pool s.params.items c.in-Ok.count s.var c.in-Some.by con.indices s.indices.items c.loop-lefts.lefts.now
    c.loop-lefts.rights.now c.loop-lefts.made.items (none_within c.loop-lefts.rights.now c.in_default-rights.len_below) c.loop-lefts.invariant.equates).is
    ∙ made-all p s con c.in-Ok.count c.in-Some.by n by

pub returns-clause-is : goal.returns-clause-is
returns-clause-is c =
    let p = c.args.pool.now in
    let con = c.args.con.now in
    let s = c.args.split.now in
    let m : c.len.result ≡ length con.args = c.len.ensures
    ∙ (ap (λ (v : Inside). length v.args) c.con-inside.view_is ∙ ap (λ (v : ConDecl ℕ). length v.args) c.con.view_is) in
    let n : c.in-Ok.count ≡ length con.args = omega (arith, c.in-Ok.ensures, m) in
    let by : c.in-Some.by ≡ s.var + c.in-Ok.count = omega (arith, c.in-Some.ensures) in
    (equates-left p c.loop-lefts.pool s.params.items c.in-Ok.count s.var c.in-Some.by con.indices s.indices.items c.loop-lefts.lefts.now c.loop-lefts.rights.now
    c.loop-lefts.made.items (none_within c.loop-lefts.lefts.now c.in_default-lefts.len_below) c.loop-lefts.invariant.equates).is
    ∙ made-all p s con c.in-Ok.count c.in-Some.by n by
