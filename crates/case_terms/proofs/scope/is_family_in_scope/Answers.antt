use Rattle.std.proofs.Common.{◌+◌, subst, rules}
use Rattle.core_terms.specs.Signature.{fam_of}
use Rattle.case_terms.specs.Known.{IsOver}
use Rattle.case_terms.proofs.Scopes.{family_in_scope}
use Rattle.case_terms.proofs.scope.is_family_in_scope.Goals as goal

pub returns : goal.returns
returns c = λ b.
    let p = c.args.pool.now in
    let g = c.args.sig.now in
    let x = subst (λ n. IsOver p g n c.in_ok-before.before) c.fams-fams.ensures c.in_ok-before.ensures.over in
    let y = subst (λ n. IsOver p g (n + 1) c.in_ok-known.known) c.fams-fams.ensures c.in_ok-known.ensures.over in
    family_in_scope p g (fam_of c.args.decl.now) c.in_ok-before.before c.in_ok-known.known x y c.requires.shape
    (c.is_heading.ensures.params (search rules)) (c.is_heading.ensures.indices (search rules)) (c.are_parts.ensures.cons b) (c.are_parts.ensures.fields b)
