use Rattle.std.proofs.Common.{arith}
use Rattle.core_terms.proofs.Declared.{length-fams, fam-at, fam-is, fam-cons, fam-fields}
use Rattle.core_terms.proofs.signature.Signature.fam.Goals as goal

pub index-requires : goal.index-requires
index-requires c = omega (arith, c.number.ensures, length-fams c.self.inside.kinds.items c.self.inside.defs.items c.self.inside.fams.items c.self.inside.cons.items c.self.inside.fields.items c.args.self.now c.self.view_is c.self.invariant, c.self.inside.fams.ok.0)

pub returns-clause-decl : goal.returns-clause-decl
returns-clause-decl c = fam-is c.self.inside.kinds.items c.self.inside.defs.items c.self.inside.fams.items c.self.inside.cons.items c.self.inside.fields.items c.args.self.now c.self.view_is c.self.invariant c.args.f c.number.result c.index.result.now c.number.ensures c.requires c.index.ensures

pub returns-clause-is : goal.returns-clause-is
returns-clause-is c = fam-at c.self.inside.kinds.items c.self.inside.defs.items c.self.inside.fams.items c.self.inside.cons.items c.self.inside.fields.items c.args.self.now c.self.view_is c.self.invariant c.args.f c.number.result c.index.result.now c.number.ensures c.requires c.index.ensures

pub returns-clause-cons : goal.returns-clause-cons
returns-clause-cons c = fam-cons c.self.inside.kinds.items c.self.inside.defs.items c.self.inside.fams.items c.self.inside.cons.items c.self.inside.fields.items c.args.self.now c.self.view_is c.self.invariant c.args.f c.number.result c.index.result.now c.number.ensures c.requires c.index.ensures

pub returns-clause-fields : goal.returns-clause-fields
returns-clause-fields c = fam-fields c.self.inside.kinds.items c.self.inside.defs.items c.self.inside.fams.items c.self.inside.cons.items c.self.inside.fields.items c.args.self.now c.self.view_is c.self.invariant c.args.f c.number.result c.index.result.now c.number.ensures c.requires c.index.ensures
