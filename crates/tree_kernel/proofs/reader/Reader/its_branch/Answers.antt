use Rattle.std.proofs.Common.{◌≡◌, ◌∙◌, false, true, refl, sym, subst}
use Rattle.std.proofs.lemmas.Result.{err_from_is_err_and}
use Rattle.core_rules.specs.Mapped.{branch_map}
use Rattle.core_rules.specs.Signature.{Branch}
use Rattle.core_rules.specs.Term.{Term}
use Rattle.index_unify.specs.Unified.{equations_in}
use Rattle.kernel_rules.specs.Outcome.{goes_on}
use Rattle.kernel_rules.specs.TreeReading.{IsItsBranch, IsSameBranch, Unifies, branch_by, same, other}
use Rattle.term_pool.specs.Pool.{tree}
use Rattle.tree_kernel.specs.Jobs.{context_by}
use Rattle.tree_kernel.specs.Reader.{signature_of, term_of, fuel_of, depth_of}
use Rattle.tree_kernel.specs.Reading.{UnifiesAs}
use Rattle.tree_kernel.proofs.Answering.{first_refused}
use Rattle.tree_kernel.proofs.Splits.{branch-stays, branch-within}
use Rattle.tree_kernel.proofs.reader.Reader.its_branch.Goals as goal

pub returns-in_err-found-clause-is : goal.returns-in_err-found-clause-is
returns-in_err-found-clause-is c =
    let x = c.args.self.now in
    let w = err_from_is_err_and c.from_residual.result c.from_residual.ensures.1 in
    rw (w.1, w.2) (first_refused c.solved.new.self.pool.now
    (Unifies (signature_of x) (fuel_of x) (depth_of x) (UnifiesAs (signature_of x) (fuel_of x) (depth_of x)) branch_by
    (context_by (term_of x) c.args.context.now) (equations_in x.pool.now c.args.equations.now))
    (λ b'. IsItsBranch (branch_map (term_of x) c.args.branch.now) b') c.in_err-found.field-0.0 c.in_err-found.ensures.is)

pub same_branch-requires-clause-branch : goal.same_branch-requires-clause-branch
same_branch-requires-clause-branch c = branch-within c.args.self.now.pool.now c.solved.new.self.pool.now c.in_ok-found.ensures.grows.extends c.args.branch.now
    c.requires.branch

pub returns-then-same_branch-clause-is : goal.returns-then-same_branch-clause-is
returns-then-same_branch-clause-is c =
    let q = c.solved.new.self.pool.now in
    let found : Branch Term = branch_map (tree q) c.in_ok-found.found in
    let e = branch-stays c.args.self.now.pool.now q c.in_ok-found.ensures.grows.extends c.args.branch.now c.requires.branch in
    goes_on found c.in_ok-found.ensures.is.1 (same (subst (λ (b : Branch Term). IsSameBranch b found) e (c.same_branch.ensures.0 c.if-same_branch.true)) refl)

pub returns-clause-is : goal.returns-clause-is
returns-clause-is c =
    let q = c.solved.new.self.pool.now in
    let found : Branch Term = branch_map (tree q) c.in_ok-found.found in
    let e = branch-stays c.args.self.now.pool.now q c.in_ok-found.ensures.grows.extends c.args.branch.now c.requires.branch in
    goes_on found c.in_ok-found.ensures.is.1
    (other (λ h. let yes : c.same_branch.result ≡ true = c.same_branch.ensures.1 (subst (λ (b : Branch Term). IsSameBranch b found) (sym e) h) in
    let no : true ≡ false = sym yes ∙ c.if-same_branch.false in absurd cc) refl)
