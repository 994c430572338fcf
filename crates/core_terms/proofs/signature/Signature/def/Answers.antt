use Rattle.std.proofs.Common.{arith}
use Rattle.core_terms.proofs.Declared.{length-defs, def-at}
use Rattle.core_terms.proofs.signature.Signature.def.Goals as goal

pub index-requires : goal.index-requires
index-requires c = omega (arith, c.number.ensures, length-defs c.self.inside.kinds.items c.self.inside.defs.items c.self.inside.fams.items c.self.inside.cons.items c.self.inside.fields.items c.args.self.now c.self.view_is c.self.invariant, c.self.inside.defs.ok.0)

pub returns : goal.returns
returns c = def-at c.self.inside.kinds.items c.self.inside.defs.items c.self.inside.fams.items c.self.inside.cons.items c.self.inside.fields.items c.args.self.now c.self.view_is c.self.invariant c.args.d c.number.result c.index.result.now c.number.ensures c.requires c.index.ensures
