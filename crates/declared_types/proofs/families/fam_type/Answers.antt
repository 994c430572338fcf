use Rattle.std.proofs.Common.{◌≡◌, ◌<◌, ℕ, List, length, IfOk, ap, sym, ◌∙◌, subst}
use Rattle.core_rules.specs.Term.{Term}
use Rattle.core_rules.specs.Signature.{Entry}
use Rattle.core_rules.specs.Mapped.{AllEntries, fam_map, telescope_map}
use Rattle.core_rules.specs.Elimination.{pi_over, fam_type}
use Rattle.term_pool.specs.Pool.{StandsFor, tree}
use Rattle.term_pool.specs.Growth.{Extends-trans}
use Rattle.core_terms.specs.Signature.{fam_of}
use Rattle.core_terms.specs.declared.signature.CoreDecl.{CoreDecl}
use Rattle.declared_types.proofs.Telescopes.{put_together}
use Rattle.declared_types.proofs.families.fam_type.Goals as goal

pub returns-clause-is : goal.returns-clause-is
returns-clause-is c =
    let p = c.args.pool.now in
    let q = c.add.new.self in
    let r = c.pi_over.new.pool in
    let ps = c.in-Family.params in
    let is = c.in-Family.indices in
    let e1 : c.as_slice.result.now ≡ is = cc (c.as_slice.ensures, c.indices.view_is) in
    let e2 : c.as_slice-2.result.now ≡ ps = cc (c.as_slice-2.ensures, c.params.view_is) in
    let h = c.in_ok-sort.ensures.extends in
    let k = Extends-trans h c.in_ok-indexed.ensures.extends in
    let a : AllEntries (λ t. t < length p.trees) ps = subst (λ (d : CoreDecl). AllEntries (λ t. t < length p.trees) (fam_of d).params) c.in-Family.is c.requires.within.params in
    let b : AllEntries (λ t. t < length p.trees) is = subst (λ (d : CoreDecl). AllEntries (λ t. t < length p.trees) (fam_of d).indices) c.in-Family.is c.requires.within.indices in
    let i : tree r c.in_ok-indexed.indexed ≡ pi_over (telescope_map (tree q) is) (tree q c.in_ok-sort.sort) =
    c.in_ok-indexed.ensures.is.is ∙ ap (λ (es : List (Entry ℕ)). pi_over (telescope_map (tree q) es) (tree q c.in_ok-sort.sort)) e1 in
    let whole : pi_over (telescope_map (tree r) c.as_slice-2.result.now) (tree r c.in_ok-indexed.indexed) ≡ fam_type (fam_map (tree p) (fam_of c.args.decl.now)) =
    ap (λ (es : List (Entry ℕ)). pi_over (telescope_map (tree r) es) (tree r c.in_ok-indexed.indexed)) e2
    ∙ (put_together p q r ps is c.in-Family.level c.in_ok-sort.sort c.in_ok-indexed.indexed h k a b c.in_ok-sort.ensures.stands.is i
    ∙ ap (λ (d : CoreDecl). fam_type (fam_map (tree p) (fam_of d))) (sym c.in-Family.is)) in
    subst (λ (t : Term). IfOk c.pi_over-2.result (λ n. StandsFor c.pi_over-2.new.pool n t)) whole c.pi_over-2.ensures.is
