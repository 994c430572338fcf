use Rattle.std.proofs.Common.{arith}
use Rattle.core_terms.proofs.Declared.{length-fields}
use Rattle.core_terms.proofs.signature.Signature.fields.Goals as goal

pub returns : goal.returns
returns c = omega (arith, length-fields c.self.inside.kinds.items c.self.inside.defs.items c.self.inside.fams.items c.self.inside.cons.items c.self.inside.fields.items c.args.self.now c.self.view_is c.self.invariant, c.self.inside.fields.ok.0)
