use Rattle.std.proofs.Common.{◌<◌, ◌++◌, ◌∷◌, [], ℕ, length, ap, sym, subst, ◌∙◌}
use Rattle.std.specs.List.{AllByRecursion}
use Rattle.std.proofs.lemmas.Result.{err_from_is_err_and}
use Rattle.core_rules.specs.InScope.{ConInScope, any_meta}
use Rattle.core_rules.specs.Mapped.{con_map, fam_map}
use Rattle.core_rules.specs.Signature.{Decl, FamDecl, Signature, fams, without_cons}
use Rattle.term_pool.specs.Pool.{tree}
use Rattle.core_terms.specs.Signature.{Stands, fam_of, signature_in}
use Rattle.kernel_rules.specs.FamilyReading.{ConsOf}
use Rattle.core_kernel.specs.Answers.{AnswersFamily}
use Rattle.declared_types.proofs.Grown.{fam-within}
use Rattle.core_kernel.proofs.FamilyKnown.{cons_answered, known_count, known_scope, known_stands, telescopes_refused}
use Rattle.core_kernel.proofs.Typed.{family}
use Rattle.core_kernel.proofs.family.check_family.Goals as goal

pub returns-in_err-check_telescopes-clause-answer : goal.returns-in_err-check_telescopes-clause-answer
returns-in_err-check_telescopes-clause-answer c =
    let p = err_from_is_err_and c.from_residual.result c.from_residual.ensures.1 in
    let q = c.check_telescopes.new.pool in
    let i = c.in_err-check_telescopes.ensures in
    rw (p.1, p.2) (telescopes_refused c.args.pool.now q i.extends c.args.sig.now (fam_of c.args.decl.now) c.requires.stands c.requires.decl c.args.limits.fuel c.args.limits.depth q c.in_err-check_telescopes.field-0.0 i.is)

pub check_cons-answer-requires-clause-stands : goal.check_cons-answer-requires-clause-stands
check_cons-answer-requires-clause-stands c =
    let q = c.check_telescopes.new.pool in
    let g = c.args.sig.now in
    let s = c.in_ok-add.ensures.ok ∙ ap (λ (k : Decl ℕ). g ++ k ∷ []) c.in_ok-known.ensures in
    subst (λ (h : Signature ℕ). Stands q h) (sym s) (known_stands c.args.pool.now q c.in_ok-check_telescopes.ensures.extends g (fam_of c.args.decl.now) c.requires.stands c.requires.decl)

pub check_cons-answer-requires-clause-decl : goal.check_cons-answer-requires-clause-decl
check_cons-answer-requires-clause-decl c = fam-within c.args.pool.now c.check_telescopes.new.pool c.in_ok-check_telescopes.ensures.extends (fam_of c.args.decl.now) c.requires.decl

pub check_cons-answer-requires-clause-fam : goal.check_cons-answer-requires-clause-fam
check_cons-answer-requires-clause-fam c =
    let g = c.args.sig.now in
    let n = c.new-fam.result in
    let s = c.in_ok-add.ensures.ok ∙ ap (λ (k : Decl ℕ). g ++ k ∷ []) c.in_ok-known.ensures in
    subst (λ (h : Signature ℕ). n < length (fams h)) (sym s) (known_count c.args.pool.now g (without_cons (fam_of c.args.decl.now)) n (c.new-fam.ensures ∙ c.fams.ensures))

pub check_cons-answer-requires-clause-scope : goal.check_cons-answer-requires-clause-scope
check_cons-answer-requires-clause-scope c =
    let q = c.check_telescopes.new.pool in
    let g = c.args.sig.now in
    let d : FamDecl ℕ = fam_of c.args.decl.now in
    let s = c.in_ok-add.ensures.ok ∙ ap (λ (k : Decl ℕ). g ++ k ∷ []) c.in_ok-known.ensures in
    subst (λ (h : Signature ℕ). AllByRecursion (λ k. ConInScope (signature_in q h) any_meta (length d.params) (con_map (tree q) k)) d.cons) (sym s)
    (known_scope c.args.pool.now q c.in_ok-check_telescopes.ensures.extends g d c.requires.stands c.requires.decl c.requires.scope.cons)

pub returns-clause-answer : goal.returns-clause-answer
returns-clause-answer c =
    let q = c.check_telescopes.new.pool in
    let g = c.args.sig.now in
    let d : FamDecl ℕ = fam_of c.args.decl.now in
    let n = c.new-fam.result in
    let P = c.check_cons-answer.new.pool in
    let s = c.in_ok-add.ensures.ok ∙ ap (λ (k : Decl ℕ). g ++ k ∷ []) c.in_ok-known.ensures in
    let i = c.in_ok-check_telescopes.ensures in
    cons_answered c.args.pool.now q i.extends g d c.requires.stands c.requires.decl c.args.limits.fuel c.args.limits.depth P i.is n (c.new-fam.ensures ∙ c.fams.ensures) c.check_cons-answer.result
    (subst (λ (h : Signature ℕ). AnswersFamily P (ConsOf (signature_in q h) c.args.limits.fuel c.args.limits.depth n (fam_map (tree q) d) (fam_map (tree q) d).cons) c.check_cons-answer.result) s c.check_cons-answer.ensures.is)

pub returns-clause-good : goal.returns-clause-good
returns-clause-good c =
    let q = c.check_telescopes.new.pool in
    let g = c.args.sig.now in
    let d : FamDecl ℕ = fam_of c.args.decl.now in
    let n = c.new-fam.result in
    let P = c.check_cons-answer.new.pool in
    let s = c.in_ok-add.ensures.ok ∙ ap (λ (k : Decl ℕ). g ++ k ∷ []) c.in_ok-known.ensures in
    let i = c.in_ok-check_telescopes.ensures in
    let p = c.args.pool.now in
    family (signature_in p g) c.args.limits.fuel c.args.limits.depth (fam_map (tree p) d) P c.check_cons-answer.result c.requires.scope.shape
    (cons_answered p q i.extends g d c.requires.stands c.requires.decl c.args.limits.fuel c.args.limits.depth P i.is n (c.new-fam.ensures ∙ c.fams.ensures) c.check_cons-answer.result
    (subst (λ (h : Signature ℕ). AnswersFamily P (ConsOf (signature_in q h) c.args.limits.fuel c.args.limits.depth n (fam_map (tree q) d) (fam_map (tree q) d).cons) c.check_cons-answer.result) s c.check_cons-answer.ensures.is))
