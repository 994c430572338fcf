use Rattle.std.proofs.Common.{◌++◌, ◌∷◌, [], ap, ap₂, sym, ◌∙◌, subst, arith}
use Rattle.core_terms.specs.Signature.{entry_decl}
use Rattle.core_terms.specs.declared.signature.Kind.TheVariants as K
use Rattle.core_terms.specs.Woven.{AreDeclared, woven}
use Rattle.core_terms.proofs.Declared.{declared-def, length-defs, woven-def}
use Rattle.core_terms.proofs.signature.Signature.add_def.Goals as goal

pub invariant_of-self-2 : goal.invariant_of-self-2
invariant_of-self-2 c =
    subst (λ ks. AreDeclared ks c.put.new.items.items c.self.inside.fams.items c.self.inside.cons.items c.self.inside.fields.items) (sym c.in_ok-put.ensures.kinds)
    (subst (λ ds. AreDeclared (c.self.inside.kinds.items ++ K.Def ∷ []) ds c.self.inside.fams.items c.self.inside.cons.items c.self.inside.fields.items) (sym c.in_ok-put.ensures.items)
    (declared-def c.self.inside.kinds.items c.self.inside.defs.items c.self.inside.fams.items c.self.inside.cons.items c.self.inside.fields.items c.args.entry c.self.invariant (omega (arith, c.if-count-ge-MOST.false, c.len-count.ensures, c.self.inside.defs.ok.0))))

pub returns-clause-id : goal.returns-clause-id
returns-clause-id c = omega (arith, c.new.ensures, c.len-count.ensures, c.self.inside.defs.ok.0, length-defs c.self.inside.kinds.items c.self.inside.defs.items c.self.inside.fams.items c.self.inside.cons.items c.self.inside.fields.items c.args.self.now c.self.view_is c.self.invariant)

pub returns-clause-ok : goal.returns-clause-ok
returns-clause-ok c =
    ap₂ (λ ks ds. woven ks ds c.self.inside.fams.items) c.in_ok-put.ensures.kinds c.in_ok-put.ensures.items
    ∙ (woven-def c.self.inside.kinds.items c.self.inside.defs.items c.self.inside.fams.items c.args.entry c.self.invariant.def_count c.self.invariant.fam_count
    ∙ ap (λ g. g ++ entry_decl c.args.entry ∷ []) c.self.view_is)
