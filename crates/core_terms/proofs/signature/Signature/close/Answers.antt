use Rattle.std.proofs.Common.{ap, sym, ◌∙◌, ◌<◌, ◌≡◌, length, slice_set, arith}
use Rattle.std.proofs.lemmas.Option.{slice_get_within, same_Some}
use Rattle.core_rules.specs.Signature.{Open, defs}
use Rattle.core_terms.specs.Signature.{closed_at, closed_entry, entry_decl}
use Rattle.core_terms.specs.Woven.{woven}
use Rattle.core_terms.proofs.Declared.{length-defs, closed_woven, def-at}
use Rattle.core_terms.proofs.signature.Signature.close.Goals as goal

pub index_mut-requires : goal.index_mut-requires
index_mut-requires c =
    omega (arith, c.number.ensures, slice_get_within (defs c.args.self.now) c.args.f _ c.requires.is, length-defs c.self.inside.kinds.items c.self.inside.defs.items c.self.inside.fams.items c.self.inside.cons.items c.self.inside.fields.items c.args.self.now c.self.view_is c.self.invariant, c.self.inside.defs.ok.0)

pub returns : goal.returns
returns c =
    let n = c.number.result in
    let e = c.index_mut.result.now in
    let l : n < length c.self.inside.defs.items =
    omega (arith, c.number.ensures, slice_get_within (defs c.args.self.now) c.args.f _ c.requires.is, length-defs c.self.inside.kinds.items c.self.inside.defs.items c.self.inside.fams.items c.self.inside.cons.items c.self.inside.fields.items c.args.self.now c.self.view_is c.self.invariant) in
    let opened : entry_decl e ≡ Open c.requires.name c.requires.ty =
    same_Some _ _ (sym (def-at c.self.inside.kinds.items c.self.inside.defs.items c.self.inside.fams.items c.self.inside.cons.items c.self.inside.fields.items c.args.self.now c.self.view_is c.self.invariant c.args.f n e c.number.ensures (slice_get_within (defs c.args.self.now) c.args.f _ c.requires.is) c.index_mut.ensures.value) ∙ c.requires.is) in
    ap (λ d. woven c.self.inside.kinds.items (slice_set c.self.inside.defs.items n d) c.self.inside.fams.items) (c.close_entry.ensures ∙ ap (λ qs. closed_entry e qs c.args.tree) c.from_vec-clauses.ensures)
    ∙ (closed_woven c.self.inside.kinds.items c.self.inside.defs.items c.self.inside.fams.items n c.requires.name c.requires.ty e c.args.clauses.items c.args.tree c.self.invariant.def_count c.self.invariant.fam_count l c.index_mut.ensures.value opened
    ∙ (ap (λ g. closed_at g n c.args.clauses.items c.args.tree) c.self.view_is ∙ ap (λ i. closed_at c.args.self.now i c.args.clauses.items c.args.tree) c.number.ensures))
