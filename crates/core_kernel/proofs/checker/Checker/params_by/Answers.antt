use Rattle.std.proofs.Common.{◌≡◌, ℕ, List, map, ap, sym, subst, ◌∙◌}
use Rattle.std.specs.Prelude.{Option}
use Rattle.core_rules.specs.Term.{Term}
use Rattle.weak_head.specs.Elims.{spine_in}
use Rattle.core_terms.specs.Signature.{fam_of}
use Rattle.kernel_rules.specs.Outcome.{Outcome, Gives, Refuses}
use Rattle.kernel_rules.specs.Refusals.{Refusal, NotARecord}
use Rattle.kernel_rules.specs.TermReading.{record_params}
use Rattle.core_rules.specs.Heads.{Within, HeadOf}
use Rattle.core_rules.specs.BoundedLaws.{no_solutions}
use Rattle.core_rules.proofs.Heads.Same.{nothing_acyclic}
use Rattle.weak_head.specs.States.{answer_in}
use Rattle.core_kernel.specs.Checker.{signature_of}
use Rattle.term_pool.specs.Pool.{tree}
use Rattle.core_kernel.proofs.Shown.{none_found, found-as, no_meta, no_params, its_params, params_same, shows-out, shows-waits, shows-form}
use Rattle.core_kernel.proofs.checker.Checker.params_by.Goals as goal

pub reduce-requires-clause-acyclic : goal.reduce-requires-clause-acyclic
reduce-requires-clause-acyclic c = nothing_acyclic

pub returns-in_default-clause-is : goal.returns-in_default-clause-is
returns-in_default-clause-is c = λ d e.
    let x = c.args.self.now in
    let g = signature_of x in
    let a = tree x.pool.now c.args.ty in
    shows-out g x.limits.fuel x.limits.depth a c.reduce.new.pool c.args.fam d
    (none_found g x.limits.fuel x.limits.depth a c.reduce.new.pool c.in_ok-shown.shown c.in_default.not-Found c.in_ok-shown.ensures.answer)

pub returns-in-Some-clause-is : goal.returns-in-Some-clause-is
returns-in-Some-clause-is c = λ d e.
    let x = c.args.self.now in
    let g = signature_of x in
    let a = tree x.pool.now c.args.ty in
    let q = c.reduce.new.pool in
    let h = found-as g x.limits.fuel x.limits.depth a q c.in_ok-shown.shown c.in-Found.meta c.in-Found.term c.in-Found.used c.in-Found.is c.in_ok-shown.ensures.answer in
    shows-waits g x.limits.fuel x.limits.depth a q c.args.fam d c.in-Some.meta c.in-Found.used c.in-Found.term
    (subst (λ (o : Option ℕ). HeadOf g no_solutions a x.limits.fuel (Within (answer_in (tree q) o c.in-Found.term) c.in-Found.used)) c.in-Some.is h.1)

pub returns-in_default-2-clause-is : goal.returns-in_default-2-clause-is
returns-in_default-2-clause-is c = λ d e.
    let x = c.args.self.now in
    let g = signature_of x in
    let a = tree x.pool.now c.args.ty in
    let q = c.reduce.new.pool in
    let t = c.in-Found.term in
    let fd = fam_of c.fam.result.now.decl in
    let h = found-as g x.limits.fuel x.limits.depth a q c.in_ok-shown.shown c.in-Found.meta t c.in-Found.used c.in-Found.is c.in_ok-shown.ensures.answer in
    let form = subst (λ (o : Option ℕ). HeadOf g no_solutions a x.limits.fuel (Within (answer_in (tree q) o t) c.in-Found.used)) (no_meta c.in-Found.meta c.in_default-meta.not-Some) h.1 in
    let same = params_same x.pool.now q x.signature.now c.args.fam fd d (tree q t.head) (spine_in (tree q) t.spine.items) c.requires.ready.signature c.in_ok-shown.ensures.extends c.fam.ensures.is e in
    let r = c.applied.new.pool in
    let none = no_params (tree q) t c.in_ok-params.field-0 c.in_default-2.not-Some in
    let is : ◌≡◌ {A = Outcome Refusal (List Term)} (Refuses (NotARecord (tree r c.in_ok-ty.ty))) (record_params c.args.fam d (tree q t.head) (spine_in (tree q) t.spine.items)) =
    ap (λ (u : Term). Refuses (NotARecord u)) c.in_ok-ty.ensures.is.is ∙ (sym none ∙ (c.in_ok-params.ensures.is ∙ same)) in
    (c.in_ok-ty.ensures.is.within, shows-form g x.limits.fuel x.limits.depth a q c.args.fam d c.in-Found.used t (Refuses (NotARecord (tree r c.in_ok-ty.ty))) form is)

pub returns-clause-is : goal.returns-clause-is
returns-clause-is c = λ d e.
    let x = c.args.self.now in
    let g = signature_of x in
    let a = tree x.pool.now c.args.ty in
    let q = c.reduce.new.pool in
    let t = c.in-Found.term in
    let fd = fam_of c.fam.result.now.decl in
    let h = found-as g x.limits.fuel x.limits.depth a q c.in_ok-shown.shown c.in-Found.meta t c.in-Found.used c.in-Found.is c.in_ok-shown.ensures.answer in
    let form = subst (λ (o : Option ℕ). HeadOf g no_solutions a x.limits.fuel (Within (answer_in (tree q) o t) c.in-Found.used)) (no_meta c.in-Found.meta c.in_default-meta.not-Some) h.1 in
    let same = params_same x.pool.now q x.signature.now c.args.fam fd d (tree q t.head) (spine_in (tree q) t.spine.items) c.requires.ready.signature c.in_ok-shown.ensures.extends c.fam.ensures.is e in
    let v = c.in-Some-2.params in
    let some = its_params (tree q) t c.in_ok-params.field-0 v c.in-Some-2.is in
    let is : ◌≡◌ {A = Outcome Refusal (List Term)} (Gives (map (tree q) v.items)) (record_params c.args.fam d (tree q t.head) (spine_in (tree q) t.spine.items)) = sym some ∙ (c.in_ok-params.ensures.is ∙ same) in (
      rw c.in-Some-2.is at c.in_ok-params.ensures.below,
      shows-form g x.limits.fuel x.limits.depth a q c.args.fam d c.in-Found.used t (Gives (map (tree q) v.items)) form is,
    )
