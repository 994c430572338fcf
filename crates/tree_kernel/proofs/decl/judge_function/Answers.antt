use Rattle.std.proofs.Common.{◌++◌, ◌∷◌, [], length}
use Rattle.core_rules.specs.Mapped.{tree_map}
use Rattle.core_rules.specs.Signature.{Function, Open, defs}
use Rattle.core_rules.specs.Term.{Def}
use Rattle.core_terms.specs.Signature.{signature_in}
use Rattle.core_terms.proofs.SignatureGrowth.{Stands-extends}
use Rattle.kernel_rules.specs.Outcome.{goes_on}
use Rattle.kernel_rules.specs.TermReading.{IsTypeOf}
use Rattle.term_pool.specs.Pool.{tree}
use Rattle.tree_kernel.specs.Reading.{ReadsDecl, ReadsTree}
use Rattle.tree_kernel.proofs.Continuing.{tree-within}
use Rattle.tree_kernel.proofs.Declaring.{answers-weaker, function_type}
use Rattle.tree_kernel.proofs.Judging.{open-scope, open-reads}
use Rattle.tree_kernel.proofs.decl.judge_function.Goals as goal

pub check_function-requires-clause-stands : goal.check_function-requires-clause-stands
check_function-requires-clause-stands c = Stands-extends c.args.pool.now c.check_type.new.pool c.args.sig.now c.in-Ok.ensures.extends c.requires.stands

pub check_function-requires-clause-tree : goal.check_function-requires-clause-tree
check_function-requires-clause-tree c = tree-within c.args.pool.now c.check_type.new.pool c.in-Ok.ensures.extends c.args.ty c.requires.ty c.args.tree.now
    c.requires.tree

pub check_function-requires-clause-scope : goal.check_function-requires-clause-scope
check_function-requires-clause-scope c =
    open-scope c.args.pool.now c.check_type.new.pool c.in-Ok.ensures.extends c.args.sig.now c.requires.stands c.args.name c.args.ty c.requires.ty
    c.args.tree.now c.requires.tree c.requires.opened

pub returns-in-Ok-clause-answer : goal.returns-in-Ok-clause-answer
returns-in-Ok-clause-answer c =
    let p = c.args.pool.now in
    let q = c.check_type.new.pool in
    let g = c.args.sig.now in
    let x = c.args.name in
    let a = c.args.ty in
    let T = c.args.tree.now in
    let fuel = c.args.limits.fuel in
    let depth = c.args.limits.depth in
    answers-weaker c.check_function.new.pool
    (λ o. ReadsTree (signature_in q (g ++ Open x a ∷ [])) fuel depth [] (tree_map (tree q) T) (tree q a) (Def (length (defs g))) o)
    (λ o. ReadsDecl (signature_in p g) fuel depth (Function x (tree p a) [] (tree_map (tree p) T)) o)
    (λ o h. goes_on c.in-Ok.ensures.is.0 c.in-Ok.ensures.is.1
    (open-reads p q c.in-Ok.ensures.extends g c.requires.stands x a c.requires.ty T c.requires.tree fuel depth o h)) c.check_function.result
    c.check_function.ensures.is

pub returns-in-Err-clause-answer : goal.returns-in-Err-clause-answer
returns-in-Err-clause-answer c =
    let p = c.args.pool.now in
    let g = signature_in p c.args.sig.now in
    function_type c.check_type.new.pool (IsTypeOf g c.args.limits.fuel c.args.limits.depth [] (tree p c.args.ty)) _ c.in-Err.error c.in-Err.ensures.is
