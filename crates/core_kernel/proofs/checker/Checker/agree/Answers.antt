use Rattle.std.proofs.Common.{arith}
use Rattle.core_rules.proofs.Heads.Same.{nothing_acyclic}
use Rattle.term_pool.specs.Growth.{Extends-length, Extends-tree}
use Rattle.core_kernel.specs.Checker.{term_of, signature_of}
use Rattle.core_kernel.proofs.Verdicts.{agreed}
use Rattle.core_kernel.proofs.checker.Checker.agree.Goals as goal

pub convert-verdict-requires-clause-acyclic : goal.convert-verdict-requires-clause-acyclic
convert-verdict-requires-clause-acyclic c = nothing_acyclic

pub returns-clause-is : goal.returns-clause-is
returns-clause-is c =
    let x = c.args.self.now in
    let p = c.convert-verdict.new.pool in
    let e = c.convert-verdict.ensures.extends in
    rw c.agreement.ensures
    (agreed (signature_of x) x.limits.fuel x.limits.depth (term_of x c.args.found) (term_of x c.args.wanted) p c.args.found c.args.wanted c.convert-verdict.result c.convert-verdict.ensures.answer
    (omega (arith, Extends-length e, c.requires.found)) (omega (arith, Extends-length e, c.requires.wanted)) (Extends-tree c.args.found e c.requires.found) (Extends-tree c.args.wanted e c.requires.wanted))
