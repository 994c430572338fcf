use Rattle.std.proofs.Common.{◌≡◌, ◌<◌, ◌++◌, ◌∷◌, [], ℕ, length}
use Rattle.std.specs.Prelude.{OnOk, Result, Ok, Err}
use Rattle.core_rules.specs.Derivable.{Derivable}
use Rattle.core_rules.specs.InScope.{DeclInScope, any_meta}
use Rattle.core_rules.specs.Mapped.{AllDecl, decl_map}
use Rattle.core_rules.specs.Signature.{Decl, Signature}
use Rattle.core_terms.specs.Signature.{Stands, decl_of, signature_in}
use Rattle.kernel_rules.specs.DeclLaws.{IsHandedIn}
use Rattle.term_pool.specs.Pool.{Extends, Pool, tree}
use Rattle.tree_kernel.specs.Answers.{AnswersDecl}
use Rattle.tree_kernel.specs.Laws.{AcceptedDeclIsDerivable}
use Rattle.tree_kernel.specs.Reading.{ReadsDecl}
use Rattle.tree_kernel.specs.declared.error.DeclError.{DeclError}
use Rattle.tree_kernel.proofs.Judging.{added-derivable}
use Rattle.tree_kernel.proofs.decl.check_decl.Goals as goal

-- an answer that accepts, with the declaration added
derivable-on : AcceptedDeclIsDerivable → (p q : Pool) → Extends p q → (s : Signature ℕ) → Stands p s → (d : Decl ℕ) → AllDecl (λ t. t < length p.trees) d
    → DeclInScope (signature_in p s) any_meta (decl_map (tree p) d) → (fuel depth : ℕ) (new : Signature ℕ) (r : Result (Unit {0}) DeclError)
    → AnswersDecl q (ReadsDecl (signature_in p s) fuel depth (decl_map (tree p) d)) r → OnOk r (new ≡ s ++ d ∷ [])
    → OnOk r (Derivable (signature_in p s) → IsHandedIn (signature_in p s) (decl_map (tree p) d) → Derivable (signature_in q new))
derivable-on law p q e s stands d within scope fuel depth new (Ok o) a n =
    λ k h. added-derivable p q e s stands d within new n (law (signature_in p s) fuel depth (decl_map (tree p) d) k h scope a)
derivable-on law p q e s stands d within scope fuel depth new (Err x) a n = tt

pub returns-clause-derivable : goal.returns-clause-derivable
returns-clause-derivable c =
    let i = c.add_judged.ensures in
    derivable-on c.accepted_decl_is_derivable.ensures c.args.pool.now c.add_judged.new.pool i.extends c.args.sig.now c.requires.stands (decl_of c.args.decl)
    c.requires.decl c.requires.scope c.args.limits.fuel c.args.limits.depth c.add_judged.new.sig c.add_judged.result i.answer i.added
