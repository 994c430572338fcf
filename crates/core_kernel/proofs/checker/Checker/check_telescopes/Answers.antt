use Rattle.std.proofs.Common.{◌≡◌, ◌<◌, ℕ, List, length, ap, sym, subst, ◌∙◌}
use Rattle.std.proofs.lemmas.Result.{err_from_is_err_and}
use Rattle.core_rules.specs.InScope.{TelescopeInScope, any_meta}
use Rattle.core_rules.specs.Mapped.{AllEntries, telescope_map}
use Rattle.core_rules.specs.Signature.{Entry, FamDecl}
use Rattle.core_terms.specs.Signature.{fam_of}
use Rattle.core_terms.specs.declared.signature.CoreDecl.{CoreDecl}
use Rattle.kernel_rules.specs.Outcome.{Gives, Refuses}
use Rattle.core_kernel.specs.Answers.{RefusedBy}
use Rattle.core_kernel.specs.Checker.{over, signature_of, term_of}
use Rattle.core_kernel.specs.Family.{Levels}
use Rattle.core_kernel.proofs.ConReading.{entered_on, ready_inside}
use Rattle.declared_types.proofs.Grown.{entries-weaker}
use Rattle.core_kernel.proofs.TelescopesReading.{indices_refused, indices_scope, params_refused, telescopes_read}
use Rattle.core_kernel.proofs.checker.Checker.check_telescopes.Goals as goal

pub returns-in_err-levels-clause-is : goal.returns-in_err-levels-clause-is
returns-in_err-levels-clause-is c =
    let p = err_from_is_err_and c.from_residual.result c.from_residual.ensures.1 in
    let x = c.args.self.now in
    let d : FamDecl ℕ = fam_of c.args.decl.now in
    let q = c.levels.new.self.pool.now in
    let e = c.in_err-levels.field-0.0 in
    let ps : c.as_slice.result.now ≡ d.params = c.as_slice.ensures ∙ (c.params.view_is ∙ ap (λ (t : CoreDecl). (fam_of t).params) (sym c.in-Family.is)) in
    rw (p.1, p.2) (params_refused x d c.requires.empty q e (subst (λ (ys : List (Entry ℕ)). RefusedBy q (λ r. Levels (over x) (telescope_map (term_of x) ys) (Refuses r)) e) ps c.in_err-levels.ensures.is))

pub levels-requires-2-clause-ready : goal.levels-requires-2-clause-ready
levels-requires-2-clause-ready c =
    let x = c.args.self.now in
    let w = c.levels.new.self in
    let d : FamDecl ℕ = fam_of c.args.decl.now in
    let v = c.in_ok-levels.ensures in
    let ps : c.as_slice.result.now ≡ d.params = c.as_slice.ensures ∙ (c.params.view_is ∙ ap (λ (t : CoreDecl). (fam_of t).params) (sym c.in-Family.is)) in
    let n = entered_on x w w.pool.now c.as_slice.result.now d.params ps v.enters in
    ready_inside c.requires.ready v.grows d.params n c.requires.decl.params

pub levels-requires-2-clause-entries : goal.levels-requires-2-clause-entries
levels-requires-2-clause-entries c =
    let x = c.args.self.now in
    let w = c.levels.new.self in
    let d : FamDecl ℕ = fam_of c.args.decl.now in
    let is : c.as_slice-2.result.now ≡ d.indices = c.as_slice-2.ensures ∙ (c.indices.view_is ∙ ap (λ (t : CoreDecl). (fam_of t).indices) (sym c.in-Family.is)) in
    subst (λ (ys : List (Entry ℕ)). AllEntries (λ t. t < length w.pool.now.trees) ys) (sym is) (entries-weaker x.pool.now w.pool.now d.indices c.in_ok-levels.ensures.grows.extends c.requires.decl.indices)

pub levels-requires-2-clause-scope : goal.levels-requires-2-clause-scope
levels-requires-2-clause-scope c =
    let x = c.args.self.now in
    let w = c.levels.new.self in
    let d : FamDecl ℕ = fam_of c.args.decl.now in
    let v = c.in_ok-levels.ensures in
    let ps : c.as_slice.result.now ≡ d.params = c.as_slice.ensures ∙ (c.params.view_is ∙ ap (λ (t : CoreDecl). (fam_of t).params) (sym c.in-Family.is)) in
    let n = entered_on x w w.pool.now c.as_slice.result.now d.params ps v.enters in
    let is : c.as_slice-2.result.now ≡ d.indices = c.as_slice-2.ensures ∙ (c.indices.view_is ∙ ap (λ (t : CoreDecl). (fam_of t).indices) (sym c.in-Family.is)) in
    subst (λ (ys : List (Entry ℕ)). TelescopeInScope (signature_of w) any_meta (length w.context.now.items) (telescope_map (term_of w) ys)) (sym is)
    (indices_scope x d c.requires.empty c.requires.ready v.grows n c.requires.decl c.requires.scope)

pub returns-in_err-levels-2-clause-is : goal.returns-in_err-levels-2-clause-is
returns-in_err-levels-2-clause-is c =
    let p = err_from_is_err_and c.from_residual-in_err-levels-2.result c.from_residual-in_err-levels-2.ensures.1 in
    let x = c.args.self.now in
    let w = c.levels.new.self in
    let d : FamDecl ℕ = fam_of c.args.decl.now in
    let v = c.in_ok-levels.ensures in
    let ps : c.as_slice.result.now ≡ d.params = c.as_slice.ensures ∙ (c.params.view_is ∙ ap (λ (t : CoreDecl). (fam_of t).params) (sym c.in-Family.is)) in
    let n = entered_on x w w.pool.now c.as_slice.result.now d.params ps v.enters in
    let is : c.as_slice-2.result.now ≡ d.indices = c.as_slice-2.ensures ∙ (c.indices.view_is ∙ ap (λ (t : CoreDecl). (fam_of t).indices) (sym c.in-Family.is)) in
    let read : Levels (over x) (telescope_map (term_of x) d.params) (Gives c.in_ok-levels.field-0) = subst (λ (ys : List (Entry ℕ)). Levels (over x) (telescope_map (term_of x) ys) (Gives c.in_ok-levels.field-0)) ps v.is in
    let q = c.levels-2.new.self.pool.now in
    let e = c.in_err-levels-2.field-0.0 in
    rw (p.1, p.2)
    (indices_refused x d c.requires.empty c.requires.ready v.grows n c.requires.decl c.in_ok-levels.field-0 read q e
    (subst (λ (ys : List (Entry ℕ)). RefusedBy q (λ r. Levels (over w) (telescope_map (term_of w) ys) (Refuses r)) e) is c.in_err-levels-2.ensures.is))

pub returns-clause-is : goal.returns-clause-is
returns-clause-is c =
    let x = c.args.self.now in
    let w = c.levels.new.self in
    let d : FamDecl ℕ = fam_of c.args.decl.now in
    let v = c.in_ok-levels.ensures in
    let ps : c.as_slice.result.now ≡ d.params = c.as_slice.ensures ∙ (c.params.view_is ∙ ap (λ (t : CoreDecl). (fam_of t).params) (sym c.in-Family.is)) in
    let n = entered_on x w w.pool.now c.as_slice.result.now d.params ps v.enters in
    let is : c.as_slice-2.result.now ≡ d.indices = c.as_slice-2.ensures ∙ (c.indices.view_is ∙ ap (λ (t : CoreDecl). (fam_of t).indices) (sym c.in-Family.is)) in
    let read : Levels (over x) (telescope_map (term_of x) d.params) (Gives c.in_ok-levels.field-0) = subst (λ (ys : List (Entry ℕ)). Levels (over x) (telescope_map (term_of x) ys) (Gives c.in_ok-levels.field-0)) ps v.is in
    let ms = c.in_ok-levels-2.field-0 in
    telescopes_read x d c.requires.empty c.requires.ready v.grows n c.requires.decl c.in_ok-levels.field-0 read ms
    (subst (λ (ys : List (Entry ℕ)). Levels (over w) (telescope_map (term_of w) ys) (Gives ms)) is c.in_ok-levels-2.ensures.is)
