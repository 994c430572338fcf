use Rattle.std.specs.Prelude.{◌≡◌, ◌<◌, length, get_or, take, drop, suc, true, false, refl}
use Rattle.std.proofs.Common.{sym, subst}
use Rattle.term_pool.specs.Pool.{tree}
use Rattle.index_unify.specs.Constructors.{HasArg, Seen, arguments_in}
use Rattle.index_unify.proofs.Spines.{all_get, has-at, seen-more, split_at, take_one}
use Rattle.index_unify.proofs.cycle.scan.Goals as goal

pub returns-then-is_variable : goal.returns-then-is_variable
returns-then-is_variable c =
    let f = tree c.args.pool.now in
    subst (HasArg (arguments_in f c.args.args.now)) (c.if-is_variable.ensures.0 refl) (has-at f c.args.args.now c.loop-at.at c.index-args-at.result c.loop-at-test.true)

pub loop-at-preserved : goal.loop-at-preserved
loop-at-preserved c =
    let p = c.args.pool.now in
    let xs = c.args.args.now in
    let n = c.loop-at.at in
    let o = c.index-args-at.result in
    subst (λ ds. Seen p c.args.var xs ds c.args.queue.now c.add.new.self) (sym (take_one xs n o c.loop-at-test.true))
    (seen-more p c.args.var xs c.args.queue.now (take n xs) (drop (suc n) xs) (get_or xs n o) c.loop-at.queue c.add.new.self (split_at xs n o c.loop-at-test.true)
    (all_get (λ a. a.arg < length p.trees) xs n o c.loop-at-test.true c.requires) (λ e. let f : false ≡ true = c.if-is_variable.ensures.1 e in cc f) c.loop-at.invariant c.in_ok-add.ensures)
