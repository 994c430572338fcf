use Rattle.std.proofs.Common.{ℕ, List, sym, subst}
use Rattle.std.proofs.lemmas.Result.{err_from_is_err_and}
use Rattle.kernel_rules.specs.Outcome.{Gives, Refuses}
use Rattle.term_pool.specs.Pool.{tree}
use Rattle.core_terms.specs.Signature.{signature_in}
use Rattle.core_terms.proofs.SignatureGrowth.{Stands-extends}
use Rattle.written_rules.specs.Expressions.{WrittenTypeOf, expr_meaning}
use Rattle.elab_machine.specs.Written.{source_values}
use Rattle.core_rules.specs.Signature.{Entry}
use Rattle.core_rules.specs.Mapped.{telescope_map}
use Rattle.data_elab.specs.Sources.{AreSources}
use Rattle.data_elab.specs.Reader.{Read, context_of, over, read_only, signature_of, values_of}
use Rattle.data_elab.proofs.Kept.{typed_before}
use Rattle.data_elab.proofs.Reading.{only-gives, only-refuses, refused-expr}
use Rattle.data_elab.proofs.reader.Reader.read_type.Goals as goal

pub type_written-requires-clause-stands : goal.type_written-requires-clause-stands
type_written-requires-clause-stands c =
    let x = c.args.self.now in
    Stands-extends x.pool.now c.sources.new.pool x.signature.now c.in_ok-values.ensures.extends c.requires.ready.signature

pub returns-in_err-found-clause-is : goal.returns-in_err-found-clause-is
returns-in_err-found-clause-is c =
    let x = c.args.self.now in
    let p = c.sources.new.pool in
    let q = c.type_written.new.pool in
    let e = c.args.expr.now in
    let vs = c.as_slice-2.result.now in
    let are : AreSources p (context_of x) vs = subst (λ us. AreSources p (context_of x) us) (sym c.as_slice-2.ensures.value) (subst (λ (es : List (Entry ℕ)). AreSources p (telescope_map (tree x.pool.now) es) c.in_ok-values.values.items) c.as_slice.ensures.value c.in_ok-values.ensures.is) in
    let m = (expr_meaning (signature_of x) e).types (values_of x) in
    let r = err_from_is_err_and c.from_residual-in_err-found.result c.from_residual-in_err-found.ensures.1 in
    let W = WrittenTypeOf (signature_in p x.signature.now) x.limits.fuel x.limits.depth (source_values p vs) e in
    rw (r.1, r.2)
    (refused-expr q (λ d. W (Refuses d)) (λ d. Read (over x) (read_only m) (Refuses d))
    (λ d k. only-refuses (over x) m d (typed_before x p c.in_ok-values.ensures.extends c.requires.ready e vs are (Refuses d) k))
    c.in_err-found.field-0.0 c.in_err-found.ensures.answer)

pub returns-clause-is : goal.returns-clause-is
returns-clause-is c =
    let x = c.args.self.now in
    let p = c.sources.new.pool in
    let q = c.type_written.new.pool in
    let e = c.args.expr.now in
    let vs = c.as_slice-2.result.now in
    let are : AreSources p (context_of x) vs = subst (λ us. AreSources p (context_of x) us) (sym c.as_slice-2.ensures.value) (subst (λ (es : List (Entry ℕ)). AreSources p (telescope_map (tree x.pool.now) es) c.in_ok-values.values.items) c.as_slice.ensures.value c.in_ok-values.ensures.is) in
    let t = c.in_ok-found.found in
    let h = c.in_ok-found.ensures.answer in (
      h.0,
      only-gives (over x) ((expr_meaning (signature_of x) e).types (values_of x)) (tree q t.0, t.1)
          (typed_before x p c.in_ok-values.ensures.extends c.requires.ready e vs are (Gives (tree q t.0, t.1)) h.1),
    )
