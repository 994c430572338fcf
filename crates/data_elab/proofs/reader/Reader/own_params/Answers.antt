use Rattle.std.proofs.Common.{◌≡◌, ◌<◌, ◌-◌, ◌∷◌, suc, length, map, take, drop, sym, subst, arith}
use Rattle.std.specs.List.{AllByRecursion}
use Rattle.std.proofs.lemmas.Result.{err_from_is_err_and}
use Rattle.conversion.proofs.Slices.{unrolled, none_within}
use Rattle.kernel_rules.specs.Outcome.{Gives}
use Rattle.term_pool.specs.Growth.{Extends-length}
use Rattle.weak_head.specs.States.{answer_in}
use Rattle.data_rules.specs.Shapes.{own_params}
use Rattle.data_elab.specs.Reader.{Read, over, term_of}
use Rattle.data_elab.proofs.Kept.{Grows-trans, Keeps-trans, ready_kept, terms-stay, terms-weaker}
use Rattle.data_elab.proofs.OwnParams.{none-left, own-all, own-next, own-other, own-refused}
use Rattle.data_elab.proofs.reader.Reader.own_params.Goals as goal

pub returns-in_default-clause-is : goal.returns-in_default-clause-is
returns-in_default-clause-is c =
    let i = c.loop-more.invariant in
    let x = c.args.self.now in
    let left = c.loop-more.left.now in
    rw c.refused.ensures
    (tt, none-left c.requires.ready i.grows i.keeps c.args.pos c.args.inner c.loop-more.more (own_params c.args.pos c.args.inner c.args.count (map (term_of x) c.args.terms.now)) left i.reading c.loop-more-test.true (none_within left c.in_default.len_below))

pub shows-requires-clause-ready : goal.shows-requires-clause-ready
shows-requires-clause-ready c = ready_kept c.requires.ready c.loop-more.invariant.grows c.loop-more.invariant.keeps

pub shows-requires-clause-ty : goal.shows-requires-clause-ty
shows-requires-clause-ty c =
    let i = c.loop-more.invariant in
    let x = c.args.self.now in
    let all = own_params c.args.pos c.args.inner c.args.count (map (term_of x) c.args.terms.now) in
    let left = c.loop-more.left.now in
    let m = c.loop-more.more in
    let u = c.term-item.result in
    let others = take (length left - 1) (drop 1 left) in
    let first : left ≡ u ∷ others = unrolled left u c.in-len1-up.len_at_least c.term-item.is in
    let low = subst (λ us. AllByRecursion (λ t. t < length x.pool.now.trees) us) first i.within in
    let count : m ≡ suc (m - 1) = omega (arith, c.loop-more-test.true) in
    let n = Extends-length i.grows.extends in
    omega (arith, low.0, n)

pub returns-in_err-shown-clause-is : goal.returns-in_err-shown-clause-is
returns-in_err-shown-clause-is c =
    let i = c.loop-more.invariant in
    let x = c.args.self.now in
    let all = own_params c.args.pos c.args.inner c.args.count (map (term_of x) c.args.terms.now) in
    let left = c.loop-more.left.now in
    let m = c.loop-more.more in
    let u = c.term-item.result in
    let others = take (length left - 1) (drop 1 left) in
    let first : left ≡ u ∷ others = unrolled left u c.in-len1-up.len_at_least c.term-item.is in
    let low = subst (λ us. AllByRecursion (λ t. t < length x.pool.now.trees) us) first i.within in
    let count : m ≡ suc (m - 1) = omega (arith, c.loop-more-test.true) in
    let r = err_from_is_err_and c.from_residual.result c.from_residual.ensures.1 in
    rw (r.1, r.2) (own-refused c.requires.ready i.grows i.keeps c.args.pos c.args.inner m all (m - 1) count left others u first i.reading low.0 c.shows.new.self.pool.now c.in_err-shown.field-0.0 c.in_err-shown.ensures.is)

pub returns-then-not-is_variable-clause-is : goal.returns-then-not-is_variable-clause-is
returns-then-not-is_variable-clause-is c =
    let i = c.loop-more.invariant in
    let x = c.args.self.now in
    let all = own_params c.args.pos c.args.inner c.args.count (map (term_of x) c.args.terms.now) in
    let left = c.loop-more.left.now in
    let m = c.loop-more.more in
    let u = c.term-item.result in
    let others = take (length left - 1) (drop 1 left) in
    let first : left ≡ u ∷ others = unrolled left u c.in-len1-up.len_at_least c.term-item.is in
    let low = subst (λ us. AllByRecursion (λ t. t < length x.pool.now.trees) us) first i.within in
    let count : m ≡ suc (m - 1) = omega (arith, c.loop-more-test.true) in
    let j = c.in_ok-shown.ensures in
    let s = c.in_ok-shown.shown in
    let w = answer_in (term_of c.shows.new.self) s.meta s.form in
    rw c.refused-then-not-is_variable.ensures
    (tt, own-other c.requires.ready i.grows i.keeps c.args.pos c.args.inner m all (m - 1) count left others u first i.reading low.0 w j.is.1 c.is_variable.result (c.is_variable.ensures c.args.pos) c.if-not-is_variable.true)

pub loop-more-preserved-else-not-is_variable : goal.loop-more-preserved-else-not-is_variable
loop-more-preserved-else-not-is_variable c =
    let i = c.loop-more.invariant in
    let x = c.args.self.now in
    let all = own_params c.args.pos c.args.inner c.args.count (map (term_of x) c.args.terms.now) in
    let left = c.loop-more.left.now in
    let m = c.loop-more.more in
    let u = c.term-item.result in
    let others = take (length left - 1) (drop 1 left) in
    let first : left ≡ u ∷ others = unrolled left u c.in-len1-up.len_at_least c.term-item.is in
    let low = subst (λ us. AllByRecursion (λ t. t < length x.pool.now.trees) us) first i.within in
    let count : m ≡ suc (m - 1) = omega (arith, c.loop-more-test.true) in
    let j = c.in_ok-shown.ensures in
    let s = c.in_ok-shown.shown in
    let w = answer_in (term_of c.shows.new.self) s.meta s.form in
    record {
      grows = Grows-trans i.grows j.grows;
      keeps = Keeps-trans i.keeps j.keeps;
      within = low.1;
      reading = own-next c.requires.ready i.grows i.keeps c.args.pos c.args.inner m all (m - 1) count left others u first i.reading low.0 w j.is.1 c.is_variable.result (c.is_variable.ensures c.args.pos) c.if-not-is_variable.false;
    }

pub loop-more-preserved : goal.loop-more-preserved
loop-more-preserved c =
    let i = c.loop-more.invariant in
    let x = c.args.self.now in
    let all = own_params c.args.pos c.args.inner c.args.count (map (term_of x) c.args.terms.now) in
    let left = c.loop-more.left.now in
    let m = c.loop-more.more in
    let u = c.term-item.result in
    let others = take (length left - 1) (drop 1 left) in
    let first : left ≡ u ∷ others = unrolled left u c.in-len1-up.len_at_least c.term-item.is in
    let low = subst (λ us. AllByRecursion (λ t. t < length x.pool.now.trees) us) first i.within in
    let count : m ≡ suc (m - 1) = omega (arith, c.loop-more-test.true) in
    let j = c.in_ok-shown.ensures in
    let s = c.in_ok-shown.shown in
    let w = answer_in (term_of c.shows.new.self) s.meta s.form in
    record {
      grows = Grows-trans i.grows j.grows;
      keeps = Keeps-trans i.keeps j.keeps;
      within = low.1;
      reading = own-next c.requires.ready i.grows i.keeps c.args.pos c.args.inner m all (m - 1) count left others u first i.reading low.0 w j.is.1 c.is_variable.result (c.is_variable.ensures c.args.pos) c.if-not-is_variable.false;
    }

pub returns-clause-is : goal.returns-clause-is
returns-clause-is c =
    let i = c.loop-more.invariant in
    let x = c.args.self.now in
    let y = c.loop-more.self in
    let left = c.loop-more.left.now in
    let n = Extends-length i.grows.extends in
    let all = own_params c.args.pos c.args.inner c.args.count (map (term_of x) c.args.terms.now) in
    let m = c.loop-more.more in
    let none : m ≡ 0 = omega (arith, c.loop-more-test.false) in
    let done : Read (over x) all (Gives (map (term_of y) left)) = subst (λ us. Read (over x) all (Gives us)) (sym (terms-stay x.pool.now y.pool.now left i.grows.extends i.within)) (own-all (over x) all c.args.pos c.args.inner m (map (term_of x) left) i.reading none) in
    rw c.in_ok-from_slice.ensures.items (terms-weaker x.pool.now y.pool.now left i.grows.extends i.within, done)
