use Rattle.std.proofs.Common.{◌≡◌, ◌<◌, [], length, map, IfOk, arith, ap, sym, subst, ◌∙◌}
use Rattle.std.specs.List.{AllByRecursion}
use Rattle.core_rules.specs.Term.{Term, Con, from_list}
use Rattle.core_rules.specs.Substitution.{shift}
use Rattle.term_pool.specs.Pool.{StandsFor, tree}
use Rattle.term_pool.specs.Lists.{IsList, items, items_list, list_is}
use Rattle.tree_kernel.proofs.Lists.{stand-none}
use Rattle.tree_kernel.proofs.Cons.{new_con-is}
use Rattle.tree_kernel.proofs.environment.new_con.Goals as goal

pub add_args-requires : goal.add_args-requires
add_args-requires c =
    let q = c.put_raised.new.pool in
    let s = c.in_ok-put_raised.ensures.is [] (stand-none c.args.pool.now _ c.new-raised.ensures.items) in
    subst (AllByRecursion (λ i. i < length q.trees)) (sym c.as_slice.ensures.value) s.below

pub add-requires : goal.add-requires
add-requires c =
    let s = c.in_ok-params.ensures.stands in
    record { within = s.within; list = subst IsList (sym s.is) (list_is (from_list (map (tree c.put_raised.new.pool) c.as_slice.result.now))) }

pub returns-clause-is : goal.returns-clause-is
returns-clause-is c =
    let p = c.args.pool.now in
    let q = c.put_raised.new.pool in
    let r = c.add_args.new.self in
    let v = c.add.new.self in
    let ps = map (tree p) c.args.params.now in
    let s = c.in_ok-put_raised.ensures.is [] (stand-none p _ c.new-raised.ensures.items) in
    let a = c.in_ok-params.ensures.stands in
    let ts = map (tree q) c.as_slice.result.now in
    let h : tree v c.in_ok-head.head ≡ Con c.args.con (from_list ts) = c.in_ok-head.ensures.stands.is
    ∙ ap (Con c.args.con) (ap items a.is ∙ items_list (from_list ts)) in
    let e : ts ≡ map (λ t. shift t 0 c.in-Ok.count) ps = ap (map (tree q)) c.as_slice.ensures.value ∙ s.is in
    let n : c.in-Ok.count ≡ length c.args.entries.now = omega (arith, c.in-Ok.ensures) in
    subst (λ (t : Term). IfOk c.at_variables.result (λ i. StandsFor c.at_variables.new.pool i t))
    (new_con-is (tree p) (tree v) c.args.con c.in-Ok.count (tree v c.in_ok-head.head) ts ps c.args.entries.now h e n) c.at_variables.ensures.is
