use Rattle.std.proofs.Common.{arith}
use Rattle.core_terms.proofs.Declared.{length-cons}
use Rattle.core_terms.proofs.signature.Signature.cons.Goals as goal

pub returns : goal.returns
returns c = omega (arith, length-cons c.self.inside.kinds.items c.self.inside.defs.items c.self.inside.fams.items c.self.inside.cons.items c.self.inside.fields.items c.args.self.now c.self.view_is c.self.invariant, c.self.inside.cons.ok.0)
