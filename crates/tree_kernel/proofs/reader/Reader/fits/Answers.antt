use Rattle.std.proofs.Common.{◌≡◌, ◌<◌, ◌∙◌, ap, sym, subst}
use Rattle.std.specs.Prelude.{ℕ, List, [], length, map}
use Rattle.std.specs.List.{AllByRecursion}
use Rattle.std.proofs.lemmas.Result.{err_from_is_err_and}
use Rattle.core_rules.specs.InScope.{InScope, any_meta}
use Rattle.core_rules.specs.Mapped.{AllEntries, branch_map, telescope_map}
use Rattle.core_rules.specs.Signature.{Entry, Branch, Signature}
use Rattle.core_rules.specs.Term.{Term}
use Rattle.kernel_rules.specs.Outcome.{Gives, Refuses, goes_on}
use Rattle.kernel_rules.specs.FamilyReading.{LevelsOf}
use Rattle.kernel_rules.specs.TreeReading.{ValuesOf}
use Rattle.core_kernel.specs.Answers.{RefusedBy}
use Rattle.core_terms.specs.declared.tree.Branch.TheInside.{Inside}
use Rattle.declared_types.proofs.Grown.{entries-weaker}
use Rattle.term_pool.specs.Placed.{items-stay}
use Rattle.tree_kernel.specs.Jobs.{context_by}
use Rattle.tree_kernel.specs.Branches.{Fits}
use Rattle.tree_kernel.specs.Reader.{signature_of, term_of, fuel_of, depth_of}
use Rattle.tree_kernel.proofs.Answering.{terms_first}
use Rattle.tree_kernel.proofs.Declaring.{answers-weaker}
use Rattle.tree_kernel.proofs.Lists.{ids-weaker}
use Rattle.tree_kernel.proofs.Reading.{ready_kept, signature_kept}
use Rattle.tree_kernel.proofs.Splits.{values-here}
use Rattle.tree_kernel.proofs.reader.Reader.fits.Goals as goal

pub returns-in_err-are_types-clause-is : goal.returns-in_err-are_types-clause-is
returns-in_err-are_types-clause-is c =
    let x = c.args.self.now in
    let w = err_from_is_err_and c.from_residual.result c.from_residual.ensures.1 in
    let es : c.as_slice.result.now ≡ c.args.branch.now.context = c.as_slice.ensures
    ∙ (ap (λ (v : Inside). v.context) c.branch-inside.view_is ∙ ap (λ (b : Branch ℕ). b.context) c.branch.view_is) in
    let h = subst (λ (es : List (Entry ℕ)). RefusedBy c.are_types.new.self.pool.now
    (λ r. LevelsOf (signature_of x) (fuel_of x) (depth_of x) [] (telescope_map (term_of x) es) (Refuses r)) c.in_err-are_types.field-0.0) es
    c.in_err-are_types.ensures.is in
    rw (w.1, w.2) (terms_first c.are_types.new.self.pool.now
    (LevelsOf (signature_of x) (fuel_of x) (depth_of x) [] (telescope_map (term_of x) c.args.branch.now.context)) _ c.in_err-are_types.field-0.0 h)

pub fit-requires-clause-ready : goal.fit-requires-clause-ready
fit-requires-clause-ready c = ready_kept c.requires.ready c.in_ok-are_types.ensures.grows

pub fit-requires-clause-context : goal.fit-requires-clause-context
fit-requires-clause-context c =
    let es : c.branch.inside.context ≡ c.args.branch.now.context = ap (λ (b : Branch ℕ). b.context) c.branch.view_is in
    let y = c.are_types.new.self in
    subst (AllEntries (λ i. i < length y.pool.now.trees)) (sym es)
    (entries-weaker c.args.self.now.pool.now y.pool.now c.args.branch.now.context c.in_ok-are_types.ensures.grows.extends c.requires.branch.branch.context)

pub fit-requires-clause-terms : goal.fit-requires-clause-terms
fit-requires-clause-terms c =
    let ts : c.as_slice-2.result.now ≡ c.args.branch.now.values = c.as_slice-2.ensures
    ∙ (ap (λ (v : Inside). v.subst) c.branch-inside.view_is ∙ ap (λ (b : Branch ℕ). b.values) c.branch.view_is) in
    let y = c.are_types.new.self in
    subst (AllByRecursion (λ i. i < length y.pool.now.trees)) (sym ts)
    (ids-weaker c.args.self.now.pool.now y.pool.now c.args.branch.now.values c.in_ok-are_types.ensures.grows.extends c.requires.branch.branch.values)

pub fit-requires-clause-entries : goal.fit-requires-clause-entries
fit-requires-clause-entries c = entries-weaker c.args.self.now.pool.now c.are_types.new.self.pool.now c.args.entries.now c.in_ok-are_types.ensures.grows.extends
    c.requires.entries

pub fit-requires-clause-scope : goal.fit-requires-clause-scope
fit-requires-clause-scope c =
    let x = c.args.self.now in
    let y = c.are_types.new.self in
    let b = c.args.branch.now in
    let g = c.in_ok-are_types.ensures.grows in
    let es : c.branch.inside.context ≡ b.context = ap (λ (b : Branch ℕ). b.context) c.branch.view_is in
    let ts : c.as_slice-2.result.now ≡ b.values = c.as_slice-2.ensures
    ∙ (ap (λ (v : Inside). v.subst) c.branch-inside.view_is ∙ ap (λ (b : Branch ℕ). b.values) c.branch.view_is) in
    subst (λ (es : List (Entry ℕ)). AllByRecursion (InScope (signature_of y) any_meta (length es)) (map (term_of y) c.as_slice-2.result.now)) (sym es)
    (subst (λ (ts : List ℕ). AllByRecursion (InScope (signature_of y) any_meta (length b.context)) (map (term_of y) ts)) (sym ts)
    (subst (λ (G : Signature Term). AllByRecursion (InScope G any_meta (length b.context)) (map (term_of y) b.values)) (sym (signature_kept c.requires.ready g))
    (subst (λ (us : List Term). AllByRecursion (InScope (signature_of x) any_meta (length b.context)) us)
    (sym (items-stay x.pool.now y.pool.now b.values g.extends c.requires.branch.branch.values)) c.requires.branch.values)))

pub returns-clause-is : goal.returns-clause-is
returns-clause-is c =
    let x = c.args.self.now in
    let y = c.are_types.new.self in
    let b = c.args.branch.now in
    let us = c.args.entries.now in
    let es : c.branch.inside.context ≡ b.context = ap (λ (b : Branch ℕ). b.context) c.branch.view_is in
    let cs : c.as_slice.result.now ≡ b.context = c.as_slice.ensures ∙ (ap (λ (v : Inside). v.context) c.branch-inside.view_is ∙ es) in
    let ts : c.as_slice-2.result.now ≡ b.values = c.as_slice-2.ensures
    ∙ (ap (λ (v : Inside). v.subst) c.branch-inside.view_is ∙ ap (λ (b : Branch ℕ). b.values) c.branch.view_is) in
    let ns = c.in_ok-are_types.ensures.is.0 in
    let levels : LevelsOf (signature_of x) (fuel_of x) (depth_of x) [] (telescope_map (term_of x) b.context) (Gives ns) =
    subst (λ (es : List (Entry ℕ)). LevelsOf (signature_of x) (fuel_of x) (depth_of x) [] (telescope_map (term_of x) es) (Gives ns)) cs
    c.in_ok-are_types.ensures.is.1 in
    answers-weaker c.fit.new.self.pool.now (λ r. ValuesOf (signature_of y) (fuel_of y) (depth_of y) (context_by (term_of y) c.branch.inside.context)
    (map (term_of y) c.as_slice-2.result.now) (context_by (term_of y) us) r)
    (λ r. Fits (signature_of x) (fuel_of x) (depth_of x) (context_by (term_of x) us) (branch_map (term_of x) b) r)
    (λ r h. goes_on ns levels (values-here c.requires.ready c.in_ok-are_types.ensures.grows b.context b.values us c.requires.branch.branch.context
    c.requires.branch.branch.values c.requires.entries r
    (subst (λ (es : List (Entry ℕ)). ValuesOf (signature_of y) (fuel_of y) (depth_of y) (context_by (term_of y) es) (map (term_of y) b.values)
    (context_by (term_of y) us) r) es
    (subst (λ (ts : List ℕ). ValuesOf (signature_of y) (fuel_of y) (depth_of y) (context_by (term_of y) c.branch.inside.context) (map (term_of y) ts)
    (context_by (term_of y) us) r) ts h)))) c.fit.result c.fit.ensures.is
