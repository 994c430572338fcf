use Rattle.std.proofs.Common.{◌≡◌, ◌<◌, ℕ, List, length, ap, sym, ◌∙◌}
use Rattle.std.proofs.lemmas.Result.{err_from_is_err_and}
use Rattle.core_rules.specs.Mapped.{AllEntries, telescope_map}
use Rattle.core_rules.specs.Signature.{Entry}
use Rattle.declared_types.proofs.Grown.{entries-weaker, telescope-stays}
use Rattle.written_rules.specs.Expressions.{expr_meaning}
use Rattle.data_elab.specs.Reader.{context_of, over, signature_of, term_of}
use Rattle.data_elab.specs.Shapes.{ended_in}
use Rattle.data_elab.proofs.Kept.{Grows-trans, ready_kept}
use Rattle.data_elab.proofs.Indices.{indices-gives, indices-no_end, indices-no_sort, indices-no_type}
use Rattle.data_elab.proofs.reader.Reader.read_indices.Goals as goal

pub returns-in_err-found-clause-is : goal.returns-in_err-found-clause-is
returns-in_err-found-clause-is c =
    let x = c.args.self.now in
    let r = err_from_is_err_and c.from_residual-in_err-found.result c.from_residual-in_err-found.ensures.1 in
    rw (r.1, r.2) (indices-no_type (over x) c.args.name c.args.room (expr_meaning (signature_of x) c.args.ty.now) (context_of x) c.read_type.new.self.pool.now c.in_err-found.field-0.0 c.in_err-found.ensures.is)

pub telescope-requires-clause-ready : goal.telescope-requires-clause-ready
telescope-requires-clause-ready c = ready_kept c.requires.ready c.in_ok-found.ensures.grows c.in_ok-found.ensures.keeps

pub returns-in_err-shown-clause-is : goal.returns-in_err-shown-clause-is
returns-in_err-shown-clause-is c =
    let x = c.args.self.now in
    let h = c.in_ok-found.ensures in
    let t = c.in_ok-found.found in
    let r = err_from_is_err_and c.from_residual-in_err-shown.result c.from_residual-in_err-shown.ensures.1 in
    rw (r.1, r.2)
    (indices-no_end c.requires.ready h.grows h.keeps c.args.name c.args.room (expr_meaning (signature_of x) c.args.ty.now) c.pos_of-pos.result (c.pos_of-pos.ensures (signature_of x)) t.term t.level h.is.1 c.telescope.new.self.pool.now c.in_err-shown.field-0.0 c.in_err-shown.ensures.is)

pub returns-in_default-clause-is : goal.returns-in_default-clause-is
returns-in_default-clause-is c =
    let x = c.args.self.now in
    let h = c.in_ok-found.ensures in
    let t = c.in_ok-found.found in
    let j = c.in_ok-shown.ensures in
    let z = c.telescope.new.self in
    rw c.refused.ensures (
      tt,
      indices-no_sort c.requires.ready h.grows h.keeps c.args.name c.args.room (expr_meaning (signature_of x) c.args.ty.now) c.pos_of-pos.result (c.pos_of-pos.ensures (signature_of x)) t.term t.level h.is.1
          (ended_in z.pool.now c.in_ok-shown.shown) j.is.1 (sym c.in_default.ensures),
    )

pub returns-clause-is : goal.returns-clause-is
returns-clause-is c =
    let x = c.args.self.now in
    let h = c.in_ok-found.ensures in
    let t = c.in_ok-found.found in
    let j = c.in_ok-shown.ensures in
    let z = c.telescope.new.self in
    let g = Grows-trans h.grows j.grows in
    let es = c.in_ok-params.params.items in
    let same : es ≡ x.context.now.items = c.in_ok-params.ensures.items ∙ c.as_slice.ensures.value in
    let within : AllEntries (λ t. t < length z.pool.now.trees) es = rw same (entries-weaker x.pool.now z.pool.now x.context.now.items g.extends c.requires.ready.context) in
    let are : telescope_map (term_of z) es ≡ context_of x = ap (λ (ds : List (Entry ℕ)). telescope_map (term_of z) ds) same ∙ telescope-stays x.pool.now z.pool.now x.context.now.items g.extends c.requires.ready.context in (
      record { params = within; indices = j.is.0.entries },
      indices-gives c.requires.ready h.grows h.keeps c.args.name c.args.room (expr_meaning (signature_of x) c.args.ty.now) c.pos_of-pos.result (c.pos_of-pos.ensures (signature_of x)) t.term t.level h.is.1
          (ended_in z.pool.now c.in_ok-shown.shown) j.is.1 c.in-Some.level (sym c.in-Some.ensures) (telescope_map (term_of z) es) are,
    )
