use Rattle.std.proofs.Common.{◌≡◌, ℕ, List, ◌++◌, map, ap, ap₂, subst, ◌∙◌}
use Rattle.std.specs.Prelude.{IfOk}
use Rattle.core_rules.specs.Term.{Term}
use Rattle.core_rules.specs.Substitution.{shift}
use Rattle.core_rules.specs.TypedTree.{vars}
use Rattle.term_pool.specs.Pool.{tree}
use Rattle.term_pool.specs.Placed.{items-stay}
use Rattle.lhs_elab.proofs.vars.at_params.Goals as goal

pub returns-clause-is : goal.returns-clause-is
returns-clause-is c =
    let p = c.args.pool.now in
    let q = c.with_vars.new.pool in
    let k = c.in_ok-before.ensures in
    let before : map (tree q) c.in_ok-before.before.items ≡ vars 0 c.args.count = k.is ∙ ap (λ (ids : List ℕ). map (tree p) ids ++ vars 0 c.args.count) c.new.ensures.items in
    subst (λ (us : List Term). IfOk c.with_raised.result (λ v. map (tree c.with_raised.new.pool) v.items ≡ us))
    (ap₂ (λ (us ts : List Term). us ++ map (λ t. shift t 0 c.args.count) ts) before (items-stay p q c.args.params.now k.extends c.requires.params)) c.with_raised.ensures.is
