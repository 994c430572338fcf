use Rattle.std.specs.Prelude.{ℕ, Option, Some, None}
use Rattle.core_rules.specs.InScope.{IsAcyclic}
use Rattle.term_pool.specs.Pool.{tree}
use Rattle.core_terms.specs.Signature.{signature_in}
use Rattle.core_terms.specs.Solutions.{AreIn-stays, IsInstance, solved_in}
use Rattle.index_unify.proofs.Ruled.{solved_larger, solved_smaller}
use Rattle.index_unify.proofs.Forms.{form_found}
use Rattle.index_unify.proofs.ruling.form.Goals as goal

pub instantiate-requires-clause-t : goal.instantiate-requires-clause-t
instantiate-requires-clause-t g c = c.in-Form.ensures.answer.term.within

pub instantiate-requires-clause-solutions : goal.instantiate-requires-clause-solutions
instantiate-requires-clause-solutions g c = AreIn-stays c.head.ensures.extends c.requires.solutions

pub instantiate-requires-clause-acyclic : goal.instantiate-requires-clause-acyclic
instantiate-requires-clause-acyclic g c = solved_larger c.head.ensures.extends (g.S.Solutions.solution c.args.sol.now) c.requires.solutions IsAcyclic c.requires.acyclic

pub instantiate-requires-in-Blocked-clause-t : goal.instantiate-requires-in-Blocked-clause-t
instantiate-requires-in-Blocked-clause-t g c = c.in-Blocked.ensures.answer.term.within

pub instantiate-requires-in-Blocked-clause-solutions : goal.instantiate-requires-in-Blocked-clause-solutions
instantiate-requires-in-Blocked-clause-solutions g c = AreIn-stays c.head.ensures.extends c.requires.solutions

pub instantiate-requires-in-Blocked-clause-acyclic : goal.instantiate-requires-in-Blocked-clause-acyclic
instantiate-requires-in-Blocked-clause-acyclic g c = solved_larger c.head.ensures.extends (g.S.Solutions.solution c.args.sol.now) c.requires.solutions IsAcyclic c.requires.acyclic

pub returns-in_ok-made-in-Form-clause-is : goal.returns-in_ok-made-in-Form-clause-is
returns-in_ok-made-in-Form-clause-is g c =
    let p = c.args.pool.now in
    let q = c.head.new.pool in
    let v = c.instantiate.new.pool in
    let f : ℕ → Option ℕ = g.S.Solutions.solution c.args.sol.now in
    form_found (signature_in p c.args.sig.now) (solved_in p f) (tree p c.args.t) c.args.fuel q v None c.in-Form.term c.in-Form.used c.in_ok-made-in-Form.made c.in-Form.ensures.answer
    (solved_smaller c.head.ensures.extends f c.requires.solutions (λ s. IsInstance v s (tree q c.in-Form.term) c.in_ok-made-in-Form.made) c.in_ok-made-in-Form.ensures.is)

pub returns-in_ok-made-in-Blocked-clause-is : goal.returns-in_ok-made-in-Blocked-clause-is
returns-in_ok-made-in-Blocked-clause-is g c =
    let p = c.args.pool.now in
    let q = c.head.new.pool in
    let v = c.instantiate-in-Blocked.new.pool in
    let f : ℕ → Option ℕ = g.S.Solutions.solution c.args.sol.now in
    form_found (signature_in p c.args.sig.now) (solved_in p f) (tree p c.args.t) c.args.fuel q v (Some c.in-Blocked.meta) c.in-Blocked.term c.in-Blocked.used c.in_ok-made-in-Blocked.made c.in-Blocked.ensures.answer
    (solved_smaller c.head.ensures.extends f c.requires.solutions (λ s. IsInstance v s (tree q c.in-Blocked.term) c.in_ok-made-in-Blocked.made) c.in_ok-made-in-Blocked.ensures.is)
