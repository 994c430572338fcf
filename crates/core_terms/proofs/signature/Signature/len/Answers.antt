use Rattle.std.proofs.Common.{arith}
use Rattle.core_terms.proofs.Declared.{length-all}
use Rattle.core_terms.proofs.signature.Signature.len.Goals as goal

pub returns : goal.returns
returns c = omega (arith, length-all c.self.inside.kinds.items c.self.inside.defs.items c.self.inside.fams.items c.self.inside.cons.items c.self.inside.fields.items c.args.self.now c.self.view_is c.self.invariant, c.self.inside.kinds.ok.0)
