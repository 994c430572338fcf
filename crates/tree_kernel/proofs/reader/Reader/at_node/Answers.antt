use Rattle.std.proofs.Common.{◌≡◌, ◌∙◌, ap, sym}
use Rattle.std.specs.Prelude.{List, Ok, Err}
use Rattle.std.proofs.lemmas.Result.{err_from_is_err_and}
use Rattle.core_rules.specs.Signature.{Absurd, Cosplit, Intro, Leaf, RecordSplit, Split, Tree}
use Rattle.core_terms.specs.TreeView.{co_of, con_of, step_of}
use Rattle.core_terms.specs.declared.tree.CoBranch.{CoBranch}
use Rattle.core_terms.specs.declared.tree.ConBranch.{ConBranch}
use Rattle.tree_kernel.specs.Nodes.{ReadsNode}
use Rattle.tree_kernel.proofs.Stepping.{continues-as, node-rest, fields-rest, branches-rest}
use Rattle.tree_kernel.specs.declared.job.Job.TheVariants as JV
use Rattle.tree_kernel.specs.declared.job.Rest.TheVariants as RV
use Rattle.tree_kernel.proofs.reader.Reader.at_node.Goals as goal

pub returns-in_err-at_leaf-in-Leaf-clause-is : goal.returns-in_err-at_leaf-in-Leaf-clause-is
returns-in_err-at_leaf-in-Leaf-clause-is c =
    let v = err_from_is_err_and c.from_residual.result c.from_residual.ensures.1 in
    let e : Leaf c.in-Leaf.body c.in-Leaf.clause ≡ c.args.node.tree.now = ap step_of (sym c.in-Leaf.is) ∙ c.tree.view_is in
    rw (v.1, v.2) (continues-as c.args.self.now c.at_leaf.new.self c.args.node _ (Err c.in_err-at_leaf-in-Leaf.field-0.0) e c.in_err-at_leaf-in-Leaf.ensures.is)

pub returns-in_err-at_absurd-in-Absurd-clause-is : goal.returns-in_err-at_absurd-in-Absurd-clause-is
returns-in_err-at_absurd-in-Absurd-clause-is c =
    let v = err_from_is_err_and c.from_residual-in_err-at_absurd-in-Absurd.result c.from_residual-in_err-at_absurd-in-Absurd.ensures.1 in
    let e : Absurd c.in-Absurd.at ≡ c.args.node.tree.now = ap step_of (sym c.in-Absurd.is) ∙ c.tree.view_is in
    rw (v.1, v.2) (continues-as c.args.self.now c.at_absurd.new.self c.args.node _ (Err c.in_err-at_absurd-in-Absurd.field-0.0) e
    c.in_err-at_absurd-in-Absurd.ensures.is)

pub returns-in_ok-at_intro-in-Intro-clause-is : goal.returns-in_ok-at_intro-in-Intro-clause-is
returns-in_ok-at_intro-in-Intro-clause-is c =
    let x = c.args.self.now in
    let z = c.at_intro.new.self in
    let n = c.in_ok-at_intro-in-Intro.field-0 in
    let T = c.deref.result.now in
    let e : Intro T ≡ c.args.node.tree.now = ap (λ (T : Tree _). Intro T) c.deref.ensures ∙ (ap step_of (sym c.in-Intro.is) ∙ c.tree.view_is) in
    continues-as x z c.args.node (Intro T) (Ok (RV.One (JV.Node n))) e
    (node-rest x z (ReadsNode x c.args.node (Intro T)) T n c.in_ok-at_intro-in-Intro.ensures.is)

pub returns-in_ok-fields-in-Cosplit-clause-is : goal.returns-in_ok-fields-in-Cosplit-clause-is
returns-in_ok-fields-in-Cosplit-clause-is c =
    let x = c.args.self.now in
    let z = c.at_cosplit.new.self in
    let n = c.in_ok-fields-in-Cosplit.fields in
    let us = c.as_slice.result.now in
    let e : Cosplit (co_of us) ≡ c.args.node.tree.now = ap (λ (us : List CoBranch). Cosplit (co_of us)) c.as_slice.ensures.value
    ∙ (ap step_of (sym c.in-Cosplit.is) ∙ c.tree.view_is) in
    continues-as x z c.args.node (Cosplit (co_of us)) (Ok (RV.One (JV.Fields n))) e
    (fields-rest x z (ReadsNode x c.args.node (Cosplit (co_of us))) n c.in_ok-fields-in-Cosplit.ensures.is)

pub returns-in_ok-left-in-Split-clause-is : goal.returns-in_ok-left-in-Split-clause-is
returns-in_ok-left-in-Split-clause-is c =
    let x = c.args.self.now in
    let z = c.at_split.new.self in
    let n = c.in_ok-left-in-Split.left in
    let us = c.as_slice-in-Split.result.now in
    let k = c.in-Split.at in
    let e : Split k (con_of us) ≡ c.args.node.tree.now = ap (λ (us : List ConBranch). Split k (con_of us)) c.as_slice-in-Split.ensures.value
    ∙ (ap step_of (sym c.in-Split.is) ∙ c.tree.view_is) in
    continues-as x z c.args.node (Split k (con_of us)) (Ok (RV.One (JV.Branches n))) e
    (branches-rest x z (ReadsNode x c.args.node (Split k (con_of us))) n c.in_ok-left-in-Split.ensures.is)

pub returns-in_ok-rest-in-RecordSplit-clause-is : goal.returns-in_ok-rest-in-RecordSplit-clause-is
returns-in_ok-rest-in-RecordSplit-clause-is c =
    let x = c.args.self.now in
    let z = c.at_record_split.new.self in
    let n = c.in_ok-rest-in-RecordSplit.rest in
    let T = c.deref-in-RecordSplit.result.now in
    let k = c.in-RecordSplit.at in
    let d = c.in-RecordSplit.fam in
    let e : RecordSplit k d T ≡ c.args.node.tree.now = ap (λ (T : Tree _). RecordSplit k d T) c.deref-in-RecordSplit.ensures
    ∙ (ap step_of (sym c.in-RecordSplit.is) ∙ c.tree.view_is) in
    continues-as x z c.args.node (RecordSplit k d T) (Ok (RV.One (JV.Node n))) e
    (node-rest x z (ReadsNode x c.args.node (RecordSplit k d T)) T n c.in_ok-rest-in-RecordSplit.ensures.is)
