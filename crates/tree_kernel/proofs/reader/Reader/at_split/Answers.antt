use Rattle.std.proofs.Common.{ap, sym, subst, ◌∙◌}
use Rattle.std.proofs.lemmas.Result.{err_from_is_err_and}
use Rattle.kernel_rules.specs.TreeReading.{ShowsSplit}
use Rattle.core_terms.specs.Signature.{fam_of}
use Rattle.core_terms.specs.declared.signature.CoreDecl.{CoreDecl}
use Rattle.tree_kernel.specs.Jobs.{context_by}
use Rattle.tree_kernel.specs.Reader.{signature_of, term_of, fuel_of, depth_of}
use Rattle.tree_kernel.proofs.Answering.{first_refused}
use Rattle.tree_kernel.proofs.Splitting.{BranchesIn, ReadsRest, branches-in, branches-read}
use Rattle.tree_kernel.proofs.reader.Reader.at_split.Goals as goal

pub returns-in_err-family-clause-is : goal.returns-in_err-family-clause-is
returns-in_err-family-clause-is c =
    let x = c.args.self.now in
    let w = err_from_is_err_and c.from_residual.result c.from_residual.ensures.1 in
    rw (w.1, w.2) (first_refused c.splittable.new.self.pool.now
    (ShowsSplit (signature_of x) (fuel_of x) (depth_of x) (context_by (term_of x) c.args.node.context) c.args.at) _ c.in_err-family.field-0.0
    c.in_err-family.ensures.is)

pub returns-clause-is : goal.returns-clause-is
returns-clause-is c =
    let n = c.args.node in
    let F = c.in_ok-family.family in
    let x = c.requires.node in
    let k = c.args.at in
    let bs = c.args.branches.now in
    let r = c.requires.ready in
    let g = c.in_ok-family.ensures.grows in
    let is = c.in_ok-family.ensures.is in
    let cons = c.as_slice-ids.result.now in
    let decls = c.as_slice.result.now in
    let a = c.as_slice-ids.ensures in
    let d = c.as_slice.ensures ∙ sym (ap (λ (t : CoreDecl). (fam_of t).cons) c.in-Family.is) in
    let e = sym c.split_on-split.ensures in (
      subst (BranchesIn r g n F is.0 x.0 x.2 x.3 k bs x.1 x.4 is.1 cons decls a d) e (branches-in r g n F is.0 x.0 x.2 x.3 k bs x.1 x.4 is.1 cons decls a d),
      subst (ReadsRest r g n F is.0 x.0 x.2 x.3 k bs x.1 x.4 is.1 cons decls a d) e (branches-read r g n F is.0 x.0 x.2 x.3 k bs x.1 x.4 is.1 cons decls a d),
    )
