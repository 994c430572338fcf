use Rattle.std.proofs.Common.{◌≡◌, ℕ, List, ap, subst, ◌∙◌}
use Rattle.std.specs.Prelude.{IfOk}
use Rattle.core_rules.specs.Term.{Term}
use Rattle.core_rules.specs.Signature.{Entry}
use Rattle.core_rules.specs.Mapped.{fam_map, con_map, telescope_map}
use Rattle.core_rules.specs.Elimination.{pi_over, con_type}
use Rattle.term_pool.specs.Pool.{StandsFor, tree}
use Rattle.core_terms.specs.Signature.{fam_of}
use Rattle.declared_types.proofs.Grown.{telescope-stays}
use Rattle.declared_types.proofs.constructors.con_type.Goals as goal

pub returns-clause-is : goal.returns-clause-is
returns-clause-is c =
    let p = c.args.pool.now in
    let q = c.con_end.new.pool in
    let k = c.args.con.now in
    let end = tree q c.in_ok-end.end in
    let a : c.as_slice.result.now ≡ k.args = cc (c.as_slice.ensures, c.con.view_is, c.con-inside.view_is) in
    let whole : pi_over (telescope_map (tree q) c.as_slice.result.now) end ≡ con_type c.args.fam (fam_map (tree p) (fam_of c.args.decl.now)) (con_map (tree p) k) =
    ap (λ (es : List (Entry ℕ)). pi_over (telescope_map (tree q) es) end) a
    ∙ (ap (λ (ts : List (Entry Term)). pi_over ts end) (telescope-stays p q k.args c.in_ok-end.ensures.extends c.requires.con.args)
    ∙ ap (pi_over (telescope_map (tree p) k.args)) c.in_ok-end.ensures.is.is) in
    subst (λ (t : Term). IfOk c.pi_over.result (λ n. StandsFor c.pi_over.new.pool n t)) whole c.pi_over.ensures.is
