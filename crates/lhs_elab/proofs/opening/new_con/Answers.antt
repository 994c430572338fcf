use Rattle.std.proofs.Common.{◌≡◌, ℕ, List, ◌++◌, length, map, ap, ap₂, sym, subst, ◌∙◌, arith}
use Rattle.std.specs.Prelude.{IfOk}
use Rattle.std.proofs.lemmas.List.{length-map}
use Rattle.core_rules.specs.Term.{Term, Con, from_list}
use Rattle.core_rules.specs.Substitution.{shift}
use Rattle.core_rules.specs.Mapped.{entry_map, telescope_map}
use Rattle.core_rules.specs.Elimination.{args, elims, vars_from}
use Rattle.term_pool.specs.Pool.{StandsFor, tree}
use Rattle.lhs_elab.proofs.Opened.{args-same}
use Rattle.lhs_elab.proofs.opening.new_con.Goals as goal

pub returns-clause-is : goal.returns-clause-is
returns-clause-is c =
    let p = c.args.pool.now in
    let q = c.with_raised.new.pool in
    let v = c.con_at.new.pool in
    let es = c.args.entries.now in
    let k = c.in_ok-raised.ensures in
    let n : c.in-Ok.count ≡ length es = omega (arith, c.in-Ok.ensures) in
    let m : length es ≡ length (telescope_map (tree p) es) = sym (length-map es (entry_map (tree p))) in
    let raised : map (tree q) c.as_slice.result.now ≡ map (λ t. shift t 0 (length (telescope_map (tree p) es))) (map (tree p) c.args.params.now) =
    ap (map (tree q)) c.as_slice.ensures.value ∙ (k.is ∙ (ap (λ (ids : List ℕ). map (tree p) ids ++ map (λ t. shift t 0 c.in-Ok.count) (map (tree p) c.args.params.now)) c.new.ensures.items ∙ ap (λ (j : ℕ). map (λ t. shift t 0 j) (map (tree p) c.args.params.now)) (n ∙ m))) in
    let head : tree v c.in_ok-head.head ≡ Con c.args.con (from_list (map (λ t. shift t 0 (length (telescope_map (tree p) es))) (map (tree p) c.args.params.now))) =
    c.in_ok-head.ensures.is.is ∙ ap (λ (ts : List Term). Con c.args.con (from_list ts)) raised in
    let same : elims (tree v c.in_ok-head.head) (args (telescope_map (tree v) es) (vars_from 0 (length es))) ≡ elims (Con c.args.con (from_list (map (λ t. shift t 0 (length (telescope_map (tree p) es))) (map (tree p) c.args.params.now)))) (args (telescope_map (tree p) es) (vars_from 0 (length (telescope_map (tree p) es)))) =
    ap₂ elims head (args-same (tree v) (tree p) es (vars_from 0 (length es)) ∙ ap (λ (j : ℕ). args (telescope_map (tree p) es) (vars_from 0 j)) m) in
    subst (λ (t : Term). IfOk c.at_variables.result (λ r. StandsFor c.at_variables.new.pool r t)) same c.at_variables.ensures.is
