use Rattle.core_rules.proofs.Heads.Same.{nothing_acyclic}
use Rattle.core_rules.proofs.Heads.FullSolutions.{nothing_to_replace}
use Rattle.core_rules.specs.BoundedLaws.{no_solutions}
use Rattle.tree_kernel.specs.Reader.{signature_of, term_of}
use Rattle.tree_kernel.specs.Jobs.{context_by}
use Rattle.index_unify.specs.Unified.{equations_in}
use Rattle.tree_kernel.proofs.Unified.{says}
use Rattle.tree_kernel.proofs.reader.Reader.unified.Goals as goal

pub unify-requires-clause-acyclic : goal.unify-requires-clause-acyclic
unify-requires-clause-acyclic c = nothing_acyclic

pub returns-clause-is : goal.returns-clause-is
returns-clause-is c =
    let x = c.args.self.now in
    says (signature_of x) x.limits.fuel x.limits.depth (context_by (term_of x) c.args.context.now) (equations_in x.pool.now c.args.equations.now)
    c.unify.new.pool c.unify.result
    (c.unify.ensures.answer no_solutions nothing_to_replace.0) (c.unify.ensures.unified no_solutions nothing_to_replace.0)
