use Rattle.std.proofs.Common.{◌≡◌, ℕ, List, ◌++◌, length, map, ap, sym, subst, ◌∙◌}
use Rattle.std.specs.Prelude.{IfOk}
use Rattle.std.proofs.lemmas.List.{length-map}
use Rattle.core_rules.specs.Term.{Term, Fam}
use Rattle.core_rules.specs.Signature.{Entry}
use Rattle.core_rules.specs.Mapped.{entry_map, fam_map, con_map, telescope_map}
use Rattle.core_rules.specs.Elimination.{elims, args, vars_from, con_end}
use Rattle.term_pool.specs.Pool.{StandsFor, tree}
use Rattle.term_pool.specs.Growth.{Extends-trans}
use Rattle.core_terms.specs.Signature.{fam_of}
use Rattle.core_terms.specs.declared.signature.CoreDecl.{CoreDecl}
use Rattle.declared_types.proofs.Ends.{con_end-is}
use Rattle.declared_types.proofs.constructors.con_end.Goals as goal

pub returns-clause-is : goal.returns-clause-is
returns-clause-is c =
    let p = c.args.pool.now in
    let q = c.add.new.self in
    let r = c.at_variables.new.pool in
    let k = c.args.con.now in
    let ps = c.in-Family.params in
    let xs = c.in-Family.indices in
    let a : c.as_slice.result.now ≡ ps = cc (c.as_slice.ensures, c.params.view_is) in
    let b : c.as_slice-2.result.now ≡ xs = cc (c.as_slice-2.ensures, c.indices.view_is) in
    let d : c.as_slice-3.result.now ≡ k.indices = cc (c.as_slice-3.ensures, c.con.view_is) in
    let es : c.as_slice-args.result.now ≡ k.args = cc (c.as_slice-args.ensures, c.con.view_is, c.con-inside.view_is) in
    let count = length c.as_slice-args.result.now in
    let m : count ≡ length (telescope_map (tree p) k.args) = ap length es ∙ sym (length-map k.args (entry_map (tree p))) in
    let t : tree r c.in_ok-at_params.at_params ≡ elims (tree q c.in_ok-head.head) (args (telescope_map (tree q) ps) (vars_from count (length ps))) =
    c.in_ok-at_params.ensures.is.is ∙ ap (λ (es : List (Entry ℕ)). elims (tree q c.in_ok-head.head) (args (telescope_map (tree q) es) (vars_from count (length es)))) a in
    let whole : elims (tree r c.in_ok-at_params.at_params) (args (telescope_map (tree r) c.as_slice-2.result.now) (map (tree r) c.as_slice-3.result.now)) ≡ con_end c.args.fam (fam_map (tree p) (fam_of c.args.decl.now)) (con_map (tree p) k) =
    ap (λ (es : List (Entry ℕ)). elims (tree r c.in_ok-at_params.at_params) (args (telescope_map (tree r) es) (map (tree r) c.as_slice-3.result.now))) b
    ∙ (ap (λ (ids : List ℕ). elims (tree r c.in_ok-at_params.at_params) (args (telescope_map (tree r) xs) (map (tree r) ids))) d
    ∙ (con_end-is p q r ps xs k.indices count c.args.fam c.in_ok-head.head c.in_ok-at_params.at_params c.in_ok-head.ensures.stands.is t (Extends-trans c.in_ok-head.ensures.extends c.in_ok-at_params.ensures.extends) c.requires.con.indices
    ∙ (ap (λ (i : ℕ). elims (Fam c.args.fam) (args (telescope_map (tree p) ps) (vars_from i (length (telescope_map (tree p) ps))) ++ args (telescope_map (tree p) xs) (map (tree p) k.indices))) m
    ∙ ap (λ (d : CoreDecl). con_end c.args.fam (fam_map (tree p) (fam_of d)) (con_map (tree p) k)) (sym c.in-Family.is)))) in
    subst (λ (t : Term). IfOk c.at_terms.result (λ n. StandsFor c.at_terms.new.pool n t)) whole c.at_terms.ensures.is
