use Rattle.std.proofs.Common.{◌≡◌, sym, subst, arith}
use Rattle.core_rules.specs.Term.{End, And}
use Rattle.term_pool.specs.Pool.{tree, args, IsFirst}
use Rattle.core_print.proofs.Walking.{leaves_two, leaves_none, leaves_items}
use Rattle.core_print.proofs.walk.push_items.Goals as goal

pub returns-in_default : goal.returns-in_default
returns-in_default c =
    let p = c.args.pool.now in
    let e : args p c.args.args ≡ End = subst (IsFirst p c.args.args) c.in_default.is c.first.ensures in
    leaves_items c.args.under (args p c.args.args) End (sym e) (leaves_none p c.args.pending.now.items)

pub returns : goal.returns
returns c =
    let p = c.args.pool.now in
    let cell = c.in-Some.ensures in
    leaves_items c.args.under (args p c.args.args) (And (tree p c.in-Some.cell.0) (args p c.in-Some.cell.1)) (sym cell.is) (leaves_two (c.in_ok-push_list.ensures p (record { within = omega (arith, cell.rest.within, c.requires.within); list = cell.rest.list })) (c.in_ok-push_whole.ensures p cell.item))
