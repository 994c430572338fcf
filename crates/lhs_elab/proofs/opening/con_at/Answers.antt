use Rattle.std.proofs.Common.{◌≡◌, ◌∙◌, ap, sym, subst, map}
use Rattle.std.specs.Prelude.{IfOk}
use Rattle.core_rules.specs.Term.{Terms, Con, from_list}
use Rattle.term_pool.specs.Pool.{StandsFor, tree}
use Rattle.term_pool.specs.Lists.{IsList, list_is, items, items_list}
use Rattle.lhs_elab.proofs.opening.con_at.Goals as goal

pub add-requires : goal.add-requires
add-requires c = record { within = c.in_ok-list.ensures.stands.within; list = subst IsList (sym c.in_ok-list.ensures.stands.is) (list_is _) }

pub returns-clause-is : goal.returns-clause-is
returns-clause-is c =
    let p = c.args.pool.now in
    let same : items (tree c.add_args.new.self c.in_ok-list.list) ≡ from_list (map (tree p) c.args.params.now) = ap items c.in_ok-list.ensures.stands.is ∙ items_list _ in
    subst (λ (ts : Terms). IfOk c.add.result (λ t. StandsFor c.add.new.self t (Con c.args.con ts))) same c.add.ensures.stands
