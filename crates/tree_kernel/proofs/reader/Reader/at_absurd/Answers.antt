use Rattle.std.proofs.Common.{◌∙◌, ◌<◌, ap, sym, subst}
use Rattle.std.specs.List.{AllByRecursion}
use Rattle.std.proofs.lemmas.Result.{err_from_is_err_and}
use Rattle.core_rules.specs.Mapped.{AllCon}
use Rattle.core_rules.specs.Signature.{Absurd}
use Rattle.kernel_rules.specs.TreeReading.{ShowsSplit}
use Rattle.core_terms.specs.Signature.{fam_of}
use Rattle.core_terms.specs.declared.signature.CoreDecl.{CoreDecl}
use Rattle.tree_kernel.specs.Jobs.{context_by}
use Rattle.tree_kernel.specs.Nodes.{ReadsAbsurd, ReadsNode, count}
use Rattle.tree_kernel.specs.Reader.{signature_of, term_of, fuel_of, depth_of}
use Rattle.tree_kernel.proofs.Answering.{first_refused}
use Rattle.tree_kernel.proofs.Declaring.{answers-weaker}
use Rattle.tree_kernel.proofs.Reading.{ready_kept}
use Rattle.tree_kernel.proofs.Splitting.{absurd-in, absurd-read}
use Rattle.tree_kernel.proofs.reader.Reader.at_absurd.Goals as goal

pub returns-in_err-family-clause-is : goal.returns-in_err-family-clause-is
returns-in_err-family-clause-is c =
    let x = c.args.self.now in
    let w = err_from_is_err_and c.from_residual.result c.from_residual.ensures.1 in
    rw (w.1, w.2) (first_refused c.splittable.new.self.pool.now
    (ShowsSplit (signature_of x) (fuel_of x) (depth_of x) (context_by (term_of x) c.args.node.context) c.args.at) _ c.in_err-family.field-0.0
    c.in_err-family.ensures.is)

pub all_refuted-requires-clause-split : goal.all_refuted-requires-clause-split
all_refuted-requires-clause-split c =
    let n = c.args.node in
    absurd-in c.requires.ready c.in_ok-family.ensures.grows n c.in_ok-family.family c.in_ok-family.ensures.is.0 c.requires.node.0 c.requires.node.2
    c.requires.node.3 c.args.at c.split_on-split.result c.split_on-split.ensures c.requires.node.4

pub all_refuted-requires-clause-ready : goal.all_refuted-requires-clause-ready
all_refuted-requires-clause-ready c = ready_kept c.requires.ready c.in_ok-family.ensures.grows

pub all_refuted-requires-clause-decls : goal.all_refuted-requires-clause-decls
all_refuted-requires-clause-decls c =
    let d = c.as_slice.ensures ∙ sym (ap (λ (t : CoreDecl). (fam_of t).cons) c.in-Family.is) in
    subst (AllByRecursion (AllCon (λ i. i < count c.splittable.new.self))) (sym d) c.in_ok-family.ensures.is.0.decl.cons

pub returns-clause-is : goal.returns-clause-is
returns-clause-is c =
    let x = c.args.self.now in
    let y = c.splittable.new.self in
    let n = c.args.node in
    let ids = c.as_slice-ids.result.now in
    let cons = c.as_slice.result.now in
    let d = c.as_slice.ensures ∙ sym (ap (λ (t : CoreDecl). (fam_of t).cons) c.in-Family.is) in
    answers-weaker c.all_refuted.new.self.pool.now (λ r. ReadsAbsurd y c.split_on-split.result ids cons r) (λ r. ReadsNode x n (Absurd c.args.at) r)
    (λ r h. absurd-read c.requires.ready c.in_ok-family.ensures.grows n c.in_ok-family.family c.in_ok-family.ensures.is.0 c.requires.node.0 c.requires.node.2
    c.requires.node.3 c.args.at c.split_on-split.result c.split_on-split.ensures
    c.in_ok-family.ensures.is.1 ids cons c.as_slice-ids.ensures d r h) c.all_refuted.result c.all_refuted.ensures.is
