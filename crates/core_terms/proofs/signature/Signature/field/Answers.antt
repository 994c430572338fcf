use Rattle.std.proofs.Common.{arith}
use Rattle.core_terms.proofs.Declared.{length-fields, field-at}
use Rattle.core_terms.proofs.signature.Signature.field.Goals as goal

pub index-requires : goal.index-requires
index-requires c = omega (arith, c.number.ensures, length-fields c.self.inside.kinds.items c.self.inside.defs.items c.self.inside.fams.items c.self.inside.cons.items c.self.inside.fields.items c.args.self.now c.self.view_is c.self.invariant, c.self.inside.fields.ok.0)

pub returns : goal.returns
returns c = field-at c.self.inside.kinds.items c.self.inside.defs.items c.self.inside.fams.items c.self.inside.cons.items c.self.inside.fields.items c.args.self.now c.self.view_is c.self.invariant c.args.f c.number.result c.index.result.now c.number.ensures c.requires c.index.ensures
