use Rattle.std.specs.Prelude.{◌≡◌, ◌<◌, ◌-◌, [], ◌∷◌, length, take, drop, None}
use Rattle.std.proofs.Common.{sym, subst, ◌∙◌}
use Rattle.core_rules.specs.Term.{AllMetas}
use Rattle.conversion.proofs.Slices.{unrolled, none_within, empty_of}
use Rattle.index_unify.proofs.Paired.{Paired, paired-none, paired-more, all_paired, sides_have, left_same, not_empty, too_short, too_long, first_flags, flags_differ, flags_same}
use Rattle.index_unify.proofs.constructors.argument_equations.Goals as goal

pub loop-xs-init : goal.loop-xs-init
loop-xs-init c = subst (Paired c.args.left.now c.args.right.now c.args.left.now c.args.right.now) (sym c.new-made.ensures.items) (paired-none c.args.left.now c.args.right.now)

pub returns-in_default-ys-clause-is : goal.returns-in_default-ys-clause-is
returns-in_default-ys-clause-is c = λ f qs p.
    let xs = c.loop-xs.xs.now in
    let ys = c.loop-xs.ys.now in
    let x = c.x-item.result in
    too_short xs ys (take (length xs - 1) (drop 1 xs)) x (unrolled xs x c.in-len1-up.len_at_least c.x-item.is) (none_within ys c.in_default-ys.len_below)
    (left_same c.args.left.now c.args.right.now xs ys c.loop-xs.made.items c.loop-xs.invariant f qs p)

pub returns-then-ne-clause-is : goal.returns-then-ne-clause-is
returns-then-ne-clause-is c = λ f qs p.
    let xs = c.loop-xs.xs.now in
    let ys = c.loop-xs.ys.now in
    let x = c.x-item.result in
    let y = c.y-item.result in
    let s = first_flags xs ys (take (length xs - 1) (drop 1 xs)) (take (length ys - 1) (drop 1 ys)) x y (unrolled xs x c.in-len1-up.len_at_least c.x-item.is) (unrolled ys y c.in-len1-up-ys.len_at_least c.y-item.is)
    (left_same c.args.left.now c.args.right.now xs ys c.loop-xs.made.items c.loop-xs.invariant f qs p) in
    flags_differ x.flag y.flag (sym c.ne.ensures ∙ c.if-ne.true) s

pub loop-xs-preserved : goal.loop-xs-preserved
loop-xs-preserved c =
    let xs = c.loop-xs.xs.now in
    let ys = c.loop-xs.ys.now in
    let x = c.x-item.result in
    let y = c.y-item.result in
    let made = c.loop-xs.made.items in
    let lefts = c.args.left.now in
    let rights = c.args.right.now in
    let h = subst (λ l. Paired lefts rights l (y ∷ take (length ys - 1) (drop 1 ys)) made) (unrolled xs x c.in-len1-up.len_at_least c.x-item.is) (subst (λ l. Paired lefts rights xs l made) (unrolled ys y c.in-len1-up-ys.len_at_least c.y-item.is) c.loop-xs.invariant) in
    let f : x.flag ≡ y.flag = flags_same x.flag y.flag (sym c.ne.ensures ∙ c.if-ne.false) in
    paired-more lefts rights (take (length xs - 1) (drop 1 xs)) (take (length ys - 1) (drop 1 ys)) x y made c.push.new.self.items h f c.in_ok-push.ensures.items

pub returns-then-is_empty-clause-is : goal.returns-then-is_empty-clause-is
returns-then-is_empty-clause-is c =
    let lefts = c.args.left.now in
    let rights = c.args.right.now in
    let made = c.loop-xs.made.items in
    let m = none_within c.loop-xs.xs.now c.in_default.len_below in
    let n = empty_of c.loop-xs.ys.now (sym c.is_empty.ensures ∙ c.if-is_empty.true) in
    λ f. all_paired lefts rights made (subst (λ l. Paired lefts rights l [] made) m (subst (λ l. Paired lefts rights c.loop-xs.xs.now l made) n c.loop-xs.invariant)) f

pub returns-then-is_empty-clause-below : goal.returns-then-is_empty-clause-below
returns-then-is_empty-clause-below c = λ n a b. sides_have (λ i. i < n) c.args.left.now c.args.right.now c.loop-xs.xs.now c.loop-xs.ys.now c.loop-xs.made.items c.loop-xs.invariant a b

pub returns-then-is_empty-clause-settled : goal.returns-then-is_empty-clause-settled
returns-then-is_empty-clause-settled c = λ s f a b. sides_have (λ i. AllMetas (λ m. s m ≡ None) (f i)) c.args.left.now c.args.right.now c.loop-xs.xs.now c.loop-xs.ys.now c.loop-xs.made.items c.loop-xs.invariant a b

pub returns-else-is_empty-clause-is : goal.returns-else-is_empty-clause-is
returns-else-is_empty-clause-is c = λ f qs p.
    let xs = c.loop-xs.xs.now in
    let ys = c.loop-xs.ys.now in
    too_long xs ys (none_within xs c.in_default.len_below) (not_empty ys (sym c.is_empty.ensures ∙ c.if-is_empty.false)) (left_same c.args.left.now c.args.right.now xs ys c.loop-xs.made.items c.loop-xs.invariant f qs p)
