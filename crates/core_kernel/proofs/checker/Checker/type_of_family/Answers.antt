use Rattle.std.proofs.Common.{ap}
use Rattle.core_rules.specs.Mapped.{fam_map}
use Rattle.term_pool.specs.Pool.{tree}
use Rattle.core_terms.specs.Signature.{fam_of}
use Rattle.kernel_rules.specs.Outcome.{Gives}
use Rattle.declared_types.proofs.Grown.{fam_within, fam_in, length-fams_in}
use Rattle.core_kernel.proofs.checker.Checker.type_of_family.Goals as goal

pub fam-entry-requires : goal.fam-entry-requires
fam-entry-requires c = rw (length-fams_in c.args.self.now.pool.now c.args.self.now.signature.now) at c.requires.scope

pub fam_type-requires-clause-within : goal.fam_type-requires-clause-within
fam_type-requires-clause-within c =
    let x = c.args.self.now in
    fam_within x.pool.now x.signature.now c.args.fam (fam_of c.fam-entry.result.now.decl) c.requires.ready.signature c.fam-entry.ensures.is

pub returns-clause-is : goal.returns-clause-is
returns-clause-is c =
    let x = c.args.self.now in
    let d = fam_of c.fam-entry.result.now.decl in
    let s = c.in_ok-fam_type.ensures.is in
    (s.within, (fam_map (tree x.pool.now) d, fam_in x.pool.now x.signature.now c.args.fam d c.fam-entry.ensures.is, ap Gives s.is))
