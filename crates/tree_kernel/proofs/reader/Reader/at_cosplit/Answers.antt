use Rattle.std.proofs.Common.{Bool, cond, ap, sym, ◌∙◌, refl}
use Rattle.std.proofs.lemmas.Result.{err_from_is_err_and}
use Rattle.kernel_rules.specs.Outcome.{Gives, Refuses, stops}
use Rattle.kernel_rules.specs.Refusals.{BadTree, Demands}
use Rattle.core_terms.specs.Signature.{fam_of}
use Rattle.core_terms.specs.declared.signature.CoreDecl.{CoreDecl}
use Rattle.term_pool.specs.Pool.{tree}
use Rattle.tree_kernel.specs.Reader.{family_in}
use Rattle.tree_kernel.proofs.Answering.{after_gives, after_refused}
use Rattle.tree_kernel.proofs.Splitting.{fields-in, fields-read}
use Rattle.tree_kernel.proofs.reader.Reader.at_cosplit.Goals as goal

pub returns-in_err-family-clause-is : goal.returns-in_err-family-clause-is
returns-in_err-family-clause-is c =
    let w = err_from_is_err_and c.from_residual.result c.from_residual.ensures.1 in
    rw (w.1, w.2) (after_refused _ _ _ c.record_at.new.self.pool.now c.in_err-family.field-0.0 c.in_err-family.ensures.is)

pub returns-then-not-is_record-clause-is : goal.returns-then-not-is_record-clause-is
returns-then-not-is_record-clause-is c =
    let no = ap (λ (t : CoreDecl). (fam_of t).is_record) c.in-Family.is ∙ c.if-not-is_record.true in
    after_gives _ _ _ (family_in (tree c.record_at.new.self.pool.now) c.in_ok-family.family) (Refuses BadTree) c.in_ok-family.ensures.is.1
    (stops BadTree (sym (ap (λ (b : Bool). cond b (Gives tt) (Refuses BadTree)) no)) refl)

pub returns-clause-is : goal.returns-clause-is
returns-clause-is c =
    let n = c.args.node in
    let F = c.in_ok-family.family in
    let x = c.requires.node in
    let yes = ap (λ (t : CoreDecl). (fam_of t).is_record) c.in-Family.is ∙ c.if-not-is_record.false in
    let demanded : Demands (fam_of F.entry.now.decl).is_record BadTree (Gives tt) = sym (ap (λ (b : Bool). cond b (Gives tt) (Refuses BadTree)) yes) in
    let d = c.as_slice-2.ensures ∙ c.fields.view_is ∙ sym (ap (λ (t : CoreDecl). (fam_of t).fields) c.in-Family.is) in
    let g = c.in_ok-family.ensures.grows in
    let is = c.in_ok-family.ensures.is in (
      fields-in c.requires.ready g n F is.0 x.0 x.2 x.3 c.args.branches.now x.1 x.4 is.1 demanded c.as_slice.result.now c.as_slice-2.result.now
          c.as_slice.ensures d,
      fields-read c.requires.ready g n F is.0 x.0 x.2 x.3 c.args.branches.now x.1 x.4 is.1 demanded c.as_slice.result.now c.as_slice-2.result.now
          c.as_slice.ensures d,
    )
