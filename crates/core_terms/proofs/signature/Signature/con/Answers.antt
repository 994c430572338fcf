use Rattle.std.proofs.Common.{arith}
use Rattle.core_terms.proofs.Declared.{length-cons, con-at}
use Rattle.core_terms.proofs.signature.Signature.con.Goals as goal

pub index-requires : goal.index-requires
index-requires c = omega (arith, c.number.ensures, length-cons c.self.inside.kinds.items c.self.inside.defs.items c.self.inside.fams.items c.self.inside.cons.items c.self.inside.fields.items c.args.self.now c.self.view_is c.self.invariant, c.self.inside.cons.ok.0)

pub returns : goal.returns
returns c = con-at c.self.inside.kinds.items c.self.inside.defs.items c.self.inside.fams.items c.self.inside.cons.items c.self.inside.fields.items c.args.self.now c.self.view_is c.self.invariant c.args.c c.number.result c.index.result.now c.number.ensures c.requires c.index.ensures
