use Rattle.std.proofs.Common.{◌++◌, map, subst}
use Rattle.std.specs.Prelude.{List}
use Rattle.core_rules.specs.Term.{Term}
use Rattle.core_rules.specs.Substitution.{shift}
use Rattle.core_rules.specs.TypedTree.{vars}
use Rattle.term_pool.specs.Placed.{items-stay}
use Rattle.tree_kernel.specs.Stand.{Stand}
use Rattle.tree_kernel.proofs.environment.under_variables.Goals as goal

pub returns-clause-is : goal.returns-clause-is
returns-clause-is c =
    let n = c.args.count in
    subst (λ (us : List Term). Stand c.put_raised.new.pool c.put_raised.new.list.items (vars 0 n ++ map (λ t. shift t 0 n) us))
    (items-stay c.args.pool.now c.variables.new.pool c.args.params.now c.in_ok-env.ensures.extends c.requires.params)
    (c.in_ok-put_raised.ensures.is (vars 0 n) c.in_ok-env.ensures.is)
