use Rattle.std.proofs.Common.{ap, ◌∙◌}
use Rattle.std.specs.Prelude.{reverse}
use Rattle.term_pool.specs.Pool.{args, tree}
use Rattle.core_kernel.proofs.Items.{turned-is}
use Rattle.core_kernel.proofs.constructors.reversed.Goals as goal

pub returns-clause-is : goal.returns-clause-is
returns-clause-is c =
    let p = c.args.pool.now in
    turned-is (tree p) c.in_ok-args.field-0 c.reverse.new.self.items (args p c.args.list) (c.reverse.ensures.items ∙ ap reverse c.into_vec-terms.ensures) c.in_ok-args.ensures.is
