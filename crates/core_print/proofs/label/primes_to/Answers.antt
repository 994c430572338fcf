use Rattle.std.proofs.Common.{◌≡◌, ◌+◌, ◌-◌, sym, ap, ◌∙◌, arith, refl}
use Rattle.core_print.specs.Labels.{primed}
use Rattle.core_print.proofs.Primes.{more_primes, more_only, fewer_primes, fewer_only, neither_primed}
use Rattle.core_print.proofs.label.primes_to.Goals as goal
use Rattle.core_print.proofs.label.primes_to.Goals.{else-extra-limit-via-then-extra-limit+else-primes-limit, else-extra-limit-via-else-extra-limit, else-missing-primes-via-then-missing-primes+else-primes-missing, else-missing-primes-via-else-missing-primes}

pub returns-then-primes-limit-clause-some : goal.returns-then-primes-limit-clause-some
returns-then-primes-limit-clause-some c =
    let e : c.args.other.now ≡ primed c.args.text.now c.in-Some.extra = sym c.as_bytes.ensures.value ∙ (c.in-Some.ensures.some ∙ ap (λ x. primed x c.in-Some.extra) c.as_bytes-2.ensures.value) in
    (omega arith, more_primes c.args.other.now c.args.text.now c.args.primes c.in-Some.extra (c.in-Some.extra + c.args.primes) e refl)

pub returns-in-Some-clause-none : goal.returns-in-Some-clause-none
returns-in-Some-clause-none c = λ k l h.
    let e : c.args.other.now ≡ primed c.args.text.now c.in-Some.extra = sym c.as_bytes.ensures.value ∙ (c.in-Some.ensures.some ∙ ap (λ x. primed x c.in-Some.extra) c.as_bytes-2.ensures.value) in
    let m : k ≡ c.in-Some.extra + c.args.primes = more_only c.args.other.now c.args.text.now c.args.primes c.in-Some.extra k e h in
    elim c.else-extra-limit.branch [
      | else-extra-limit-via-then-extra-limit+else-primes-limit w ↦ omega (arith, w.if-primes-limit.false, w.if-extra-limit.true)
      | else-extra-limit-via-else-extra-limit w ↦ omega (arith, w.if-extra-limit.false)
    ]

pub returns-in_default-primes_between-clause-none : goal.returns-in_default-primes_between-clause-none
returns-in_default-primes_between-clause-none c = λ k l h.
    neither_primed c.args.other.now c.args.text.now c.args.primes
    (λ n e. c.in_default.ensures.none n (c.as_bytes.ensures.value ∙ (e ∙ ap (λ x. primed x n) (sym c.as_bytes-2.ensures.value))))
    (λ n e. c.in_default-primes_between.ensures.none n (c.as_bytes-3.ensures.value ∙ (e ∙ ap (λ x. primed x n) (sym c.as_bytes-4.ensures.value))))
    k h

pub returns-then-primes-missing-clause-some : goal.returns-then-primes-missing-clause-some
returns-then-primes-missing-clause-some c =
    let e : c.args.text.now ≡ primed c.args.other.now c.in-Some-primes_between.missing = sym c.as_bytes-3.ensures.value ∙ (c.in-Some-primes_between.ensures.some ∙ ap (λ x. primed x c.in-Some-primes_between.missing) c.as_bytes-4.ensures.value) in
    (c.if-primes-missing.true, fewer_primes c.args.other.now c.args.text.now c.args.primes c.in-Some-primes_between.missing (c.args.primes - c.in-Some-primes_between.missing) e (omega (arith, c.if-missing-primes.true)))

pub returns-clause-none : goal.returns-clause-none
returns-clause-none c = λ k l h.
    let e : c.args.text.now ≡ primed c.args.other.now c.in-Some-primes_between.missing = sym c.as_bytes-3.ensures.value ∙ (c.in-Some-primes_between.ensures.some ∙ ap (λ x. primed x c.in-Some-primes_between.missing) c.as_bytes-4.ensures.value) in
    let m : c.in-Some-primes_between.missing + k ≡ c.args.primes = fewer_only c.args.other.now c.args.text.now c.args.primes c.in-Some-primes_between.missing k e h in
    elim c.else-missing-primes.branch [
      | else-missing-primes-via-then-missing-primes+else-primes-missing w ↦ omega (arith, w.if-primes-missing.false, w.if-missing-primes.true)
      | else-missing-primes-via-else-missing-primes w ↦ omega (arith, w.if-missing-primes.false)
    ]
