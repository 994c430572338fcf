use Rattle.std.proofs.Common.{refl}
use Rattle.term_pool.specs.Pool.{tree}
use Rattle.core_terms.proofs.SignatureGrowth.{entry_type_in}
use Rattle.declared_types.proofs.Grown.{def_within, length-defs_in}
use Rattle.core_kernel.proofs.checker.Checker.type_of_def.Goals as goal

pub def-requires : goal.def-requires
def-requires c = rw (length-defs_in c.args.self.now.pool.now c.args.self.now.signature.now) at c.requires.scope

pub returns-clause-within : goal.returns-clause-within
returns-clause-within c = def_within c.args.self.now.pool.now c.args.self.now.signature.now c.args.def c.def.result.now c.requires.ready.signature c.def.ensures

pub returns-clause-is : goal.returns-clause-is
returns-clause-is c =
    (tree c.args.self.now.pool.now c.def.result.now.ty, entry_type_in c.args.self.now.pool.now c.args.self.now.signature.now c.args.def c.def.result.now c.def.ensures, refl)
