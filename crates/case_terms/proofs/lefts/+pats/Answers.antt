use Rattle.std.proofs.Common.{◌<◌, ℕ, length, sym, ap, subst, arith}
use Rattle.core_rules.specs.Mapped.{AllPats}
use Rattle.core_terms.specs.Patterns.{pats_of}
use Rattle.core_terms.specs.Sizes.{pats_size}
use Rattle.case_terms.proofs.Sizes.{con_size, pats_next, size_at}
use Rattle.case_terms.proofs.lefts.+pats.Goals as goal

pub are_pats_in-is_pat_in-requires : goal.are_pats_in-is_pat_in-requires
are_pats_in-is_pat_in-requires t c = (omega (arith, size_at c.args.pats.now c.loop-pat.pat-index c.pat-item.result c.loop-pat-test.true c.pat-item.is), tt)

pub are_pats_in-loop-pat-preserved : goal.are_pats_in-loop-pat-preserved
are_pats_in-loop-pat-preserved t c = λ h.
    let P : ℕ → Type 0 = λ t. t < length c.args.pool.now.trees in
    c.loop-pat.invariant (subst (AllPats P) (sym (pats_next c.args.pats.now c.loop-pat.pat-index c.pat-item.result c.loop-pat-test.true c.pat-item.is)) (c.is_pat_in.ensures c.if-not-is_pat_in.false, h))

pub is_pat_in-are_pats_in-requires : goal.is_pat_in-are_pats_in-requires
is_pat_in-are_pats_in-requires t c =
    (omega (arith, con_size c.pat.inside c.args.pat.now c.in-Con.con c.in-Con.pats c.pat.view_is c.in-Con.is, ap (λ ps. pats_size (pats_of ps)) c.as_slice.ensures.value), tt)
