use Rattle.std.proofs.Common.{subst}
use Rattle.core_rules.specs.Term.{size, occurs}
use Rattle.term_pool.specs.Pool.{tree}
use Rattle.core_print.specs.Walks.{Leaves}
use Rattle.core_print.proofs.Walking.{leaves_two}
use Rattle.core_print.proofs.walk.push_binder.Goals as goal

pub returns : goal.returns
returns c = λ p l m.
    leaves_two (subst (λ i. Leaves p c.args.pending.now.items c.push_whole.new.pending.items (size (tree p c.args.second)) (occurs i (tree p c.args.second))) c.in-Some.ensures.1 (c.in_ok-push_whole.ensures p m)) (c.in_ok-push_whole-2.ensures p l)
