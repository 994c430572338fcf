use Rattle.std.proofs.Common.{◌<◌, ◌∙◌, [], ap, length, subst, sym}
use Rattle.core_rules.specs.Mapped.{AllDecl, decl_map}
use Rattle.core_rules.specs.Signature.{Decl, Family}
use Rattle.core_terms.specs.Signature.{decl_of, fam_of, signature_in}
use Rattle.core_terms.specs.declared.signature.CoreDecl.{CoreDecl}
use Rattle.kernel_rules.specs.TermReading.{IsTypeOf}
use Rattle.term_pool.specs.Pool.{tree}
use Rattle.tree_kernel.specs.Answers.{AnswersDecl}
use Rattle.tree_kernel.specs.Reading.{ReadsDecl}
use Rattle.tree_kernel.proofs.Declaring.{postulate}
use Rattle.tree_kernel.proofs.decl.judge.Goals as goal

pub judge_function-requires-clause-tree : goal.judge_function-requires-clause-tree
judge_function-requires-clause-tree c = (subst (λ (d : CoreDecl). AllDecl (λ t. t < length c.args.pool.now.trees) (decl_of d)) c.in-Function.is
    c.requires.decl).2

pub returns-in-Postulate-clause-answer : goal.returns-in-Postulate-clause-answer
returns-in-Postulate-clause-answer c =
    let f = tree c.args.pool.now in
    let g = signature_in c.args.pool.now c.args.sig.now in
    let fuel = c.args.limits.fuel in
    let depth = c.args.limits.depth in
    subst (λ (d : CoreDecl). AnswersDecl c.check_type.new.pool (ReadsDecl g fuel depth (decl_map f (decl_of d))) c.check_type.result) (sym c.in-Postulate.is)
    (postulate c.check_type.new.pool (IsTypeOf g fuel depth [] (f c.in-Postulate.ty)) c.check_type.result c.check_type.ensures.is)

pub returns-in-Family-clause-answer : goal.returns-in-Family-clause-answer
returns-in-Family-clause-answer c =
    let f = tree c.args.pool.now in
    let g = signature_in c.args.pool.now c.args.sig.now in
    let e = ap (λ (d : CoreDecl). Family (fam_of d)) c.in-Family.is ∙ sym (ap decl_of c.in-Family.is) in
    subst (λ (d : Decl _). AnswersDecl c.judge_family.new.pool (ReadsDecl g c.args.limits.fuel c.args.limits.depth (decl_map f d)) c.judge_family.result) e
    c.judge_family.ensures.answer

pub returns-in-Function-clause-answer : goal.returns-in-Function-clause-answer
returns-in-Function-clause-answer c =
    let f = tree c.args.pool.now in
    let g = signature_in c.args.pool.now c.args.sig.now in
    subst (λ (d : CoreDecl). AnswersDecl c.judge_function.new.pool (ReadsDecl g c.args.limits.fuel c.args.limits.depth (decl_map f (decl_of d)))
    c.judge_function.result) (sym c.in-Function.is) c.judge_function.ensures.answer
