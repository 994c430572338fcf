use Rattle.std.proofs.Common.{◌≡◌, ℕ, ◌+◌, List, ◌++◌, map, ap, ap₂, subst, ◌∙◌, arith}
use Rattle.std.specs.Prelude.{IfOk}
use Rattle.core_rules.specs.Term.{Term}
use Rattle.core_rules.specs.Substitution.{shift, under}
use Rattle.core_rules.specs.TypedTree.{equations, vars}
use Rattle.core_rules.specs.Unification as U
use Rattle.index_unify.specs.Unified.{equations_in}
use Rattle.term_pool.specs.Pool.{tree}
use Rattle.term_pool.specs.Placed.{items-stay}
use Rattle.lhs_elab.proofs.equations.index_equations.Goals as goal

pub returns-clause-is : goal.returns-clause-is
returns-clause-is c =
    let p = c.args.pool.now in
    let q = c.at_params.new.pool in
    let k = c.in_ok-env.ensures in
    let ends = c.args.ends.now in
    let own = c.args.own.now in
    let inner = c.args.inner in
    let E : List Term = vars 0 c.args.count ++ map (λ u. shift u 0 c.args.count) (map (tree p) c.args.params.now) in
    let env : map (tree q) c.as_slice.result.now ≡ E = ap (map (tree q)) c.as_slice.ensures.value ∙ k.is in
    let by : c.in-Some.by ≡ inner + c.args.count = omega (arith, c.in-Some.ensures) in
    let lefts : List Term → List Term → List Term = λ (e ts : List Term). map (λ t. shift (under e t) 0 inner) ts in
    let rights : ℕ → List Term → List Term = λ (n : ℕ) (ts : List Term). map (λ t. shift t 0 n) ts in
    let same : equations (lefts (map (tree q) c.as_slice.result.now) (map (tree q) ends)) (rights c.in-Some.by (map (tree q) own)) ≡ equations (lefts E (map (tree p) ends)) (rights (inner + c.args.count) (map (tree p) own)) =
    ap₂ equations (ap₂ lefts env (items-stay p q ends k.extends c.requires.ends)) (ap₂ rights by (items-stay p q own k.extends c.requires.own)) in
    subst (λ (es : List U.Equation). IfOk c.equated.result (λ v. equations_in c.equated.new.pool v.items ≡ es)) same c.equated.ensures.is
