use Rattle.std.proofs.Common.{◌<◌, ℕ, length, sym, ap, subst, arith}
use Rattle.core_rules.specs.Mapped.{AllPats}
use Rattle.core_terms.specs.Patterns.{pats_of}
use Rattle.core_terms.specs.Sizes.{pats_size}
use Rattle.core_print.proofs.Collecting.{con_size, con_terms, pats_next, size_at}
use Rattle.core_print.proofs.left_side.+patterns.Goals as goal

pub pats_text-pat_text-requires : goal.pats_text-pat_text-requires
pats_text-pat_text-requires t c =
    let P : ℕ → Type 0 = λ t. t < length c.args.printer.now.source.pool.now.trees in (
      omega (arith, size_at c.args.pats.now c.loop-pat.pat-index c.pat-item.result c.loop-pat-test.true c.pat-item.is),
      (c.requires.given, (subst (AllPats P) (pats_next c.args.pats.now c.loop-pat.pat-index c.pat-item.result c.loop-pat-test.true c.pat-item.is) c.loop-pat.invariant.terms).0),
    )

pub shape_text-pats_text-requires : goal.shape_text-pats_text-requires
shape_text-pats_text-requires t c =
    let P : ℕ → Type 0 = λ t. t < length c.args.printer.now.source.pool.now.trees in (
      omega (arith, con_size c.pat.inside c.args.pat.now c.in-Con.con c.in-Con.pats c.pat.view_is c.in-Con.is, ap (λ ps. pats_size (pats_of ps)) c.as_slice.ensures.value),
      (c.requires.given, subst (λ ps. AllPats P (pats_of ps)) (sym c.as_slice.ensures.value) (con_terms P c.pat.inside c.args.pat.now c.in-Con.con c.in-Con.pats c.pat.view_is c.in-Con.is c.requires.terms)),
    )
