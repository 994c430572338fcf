use Rattle.std.proofs.Common.{◌≡◌, ◌++◌}
use Rattle.std.proofs.lemmas.Slice.Eq.{strip_prefix_is}
use Rattle.std.proofs.lemmas.Bool.Decides.{Decides-eqb}
use Rattle.core_print.proofs.Primes.{not_longer, from_rest, rest_at}
use Rattle.core_print.proofs.label.primes_between.Goals as goal

pub returns-in_default-clause-none : goal.returns-in_default-clause-none
returns-in_default-clause-none c =
    let h = strip_prefix_is Decides-eqb c.args.long.now c.args.short.now c.strip_prefix.result c.strip_prefix.ensures.cases in
    not_longer c.args.long.now c.args.short.now (rw c.in_default.is at h)

pub returns-then-not-are_primes-clause-none : goal.returns-then-not-are_primes-clause-none
returns-then-not-are_primes-clause-none c = λ n e.
    let h = strip_prefix_is Decides-eqb c.args.long.now c.args.short.now c.strip_prefix.result c.strip_prefix.ensures.cases in
    let f : c.args.long.now ≡ c.args.short.now ++ c.in-Some.rest.now = rw c.in-Some.is at h in
    let g = rest_at c.args.long.now c.args.short.now c.in-Some.rest.now n f e in
    cc (c.are_primes.ensures.1 g, c.if-not-are_primes.true)

pub returns-clause-some : goal.returns-clause-some
returns-clause-some c =
    let h = strip_prefix_is Decides-eqb c.args.long.now c.args.short.now c.strip_prefix.result c.strip_prefix.ensures.cases in
    let f : c.args.long.now ≡ c.args.short.now ++ c.in-Some.rest.now = rw c.in-Some.is at h in
    from_rest c.args.long.now c.args.short.now c.in-Some.rest.now f (c.are_primes.ensures.0 c.if-not-are_primes.false)
