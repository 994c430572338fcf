use Rattle.core_rules.proofs.Heads.Same.{nothing_acyclic}
use Rattle.term_pool.specs.Pool.{tree}
use Rattle.core_kernel.proofs.Heads.{found_form, found_blocked}
use Rattle.tree_kernel.specs.Reader.{signature_of}
use Rattle.tree_kernel.proofs.reader.Reader.form.Goals as goal

pub head-requires-clause-acyclic : goal.head-requires-clause-acyclic
head-requires-clause-acyclic c = nothing_acyclic

pub returns-in-Form-clause-is : goal.returns-in-Form-clause-is
returns-in-Form-clause-is c =
    let x = c.args.self.now in
    found_form (signature_of x) x.limits.fuel x.limits.depth (tree x.pool.now c.args.ty) c.head.new.pool c.in-Form.term c.in-Form.used c.in-Form.ensures.answer

pub returns-in-Blocked-clause-is : goal.returns-in-Blocked-clause-is
returns-in-Blocked-clause-is c =
    let x = c.args.self.now in
    found_blocked (signature_of x) x.limits.fuel x.limits.depth (tree x.pool.now c.args.ty) c.head.new.pool c.in-Blocked.meta c.in-Blocked.term
    c.in-Blocked.used c.in-Blocked.ensures.answer
