use Rattle.std.proofs.Common.{refl, sym, ◌∙◌, ap}
use Rattle.std.proofs.lemmas.Result.{IfOk-weaker}
use Rattle.core_rules.specs.Term.{env_of}
use Rattle.core_rules.specs.Substitution.{under}
use Rattle.term_pool.specs.Pool.{StandsFor, tree, args, node_tree}
use Rattle.core_terms.specs.Solutions.{solved_in, IsInstance}
use Rattle.core_terms.proofs.Instances.{args_instance, below_instance, joined_tree, solved_tree}
use Rattle.core_terms.proofs.instance.joined.Goals as goal

pub put_args-requires-clause-args : goal.put_args-requires-clause-args
put_args-requires-clause-args g c =
    let p = c.args.pool.now in
    let h = g.S.Solutions.solution c.args.sol.now in
    rw c.of.ensures (args_instance p h c.args.parts.0 c.args.parts.1 c.args.made.0 c.args.made.1 (solved_in p h) c.requires.first c.requires.second c.requires.acyclic c.args.node.now
    (sym c.is_solved.ensures ∙ c.if-is_solved.true) c.requires.parts c.requires.below)

pub returns-then-is_solved-clause-is : goal.returns-then-is_solved-clause-is
returns-then-is_solved-clause-is g c =
    let p = c.args.pool.now in
    let h = g.S.Solutions.solution c.args.sol.now in
    let n = c.args.node.now in
    IfOk-weaker c.put_args.result (λ r. StandsFor c.put_args.new.pool r (under (env_of (args p c.of.result)) (tree p c.args.made.1))) (IsInstance c.put_args.new.pool (solved_in p h) (node_tree (tree p) n))
    (λ r s. record {
      within = s.within;
      is = λ f x. s.is ∙ (ap (λ a. under (env_of (args p a)) (tree p c.args.made.1)) c.of.ensures
          ∙ solved_tree p h c.args.parts.0 c.args.parts.1 c.args.made.0 c.args.made.1 (solved_in p h) refl f x (c.requires.first.is f x) (c.requires.second.is f x) n
          (sym c.is_solved.ensures ∙ c.if-is_solved.true) c.requires.parts c.requires.below);
    }) c.put_args.ensures.is

pub add-requires : goal.add-requires
add-requires g c =
    let p = c.args.pool.now in
    let h = g.S.Solutions.solution c.args.sol.now in
    rw c.with_two.ensures (below_instance p h c.args.parts.0 c.args.parts.1 c.args.made.0 c.args.made.1 (solved_in p h) c.requires.first c.requires.second c.requires.acyclic c.args.node.now
    c.requires.parts c.requires.below)

pub returns-clause-is : goal.returns-clause-is
returns-clause-is g c =
    let p = c.args.pool.now in
    let h = g.S.Solutions.solution c.args.sol.now in
    let n = c.args.node.now in
    IfOk-weaker c.add.result (λ r. StandsFor c.add.new.self r (node_tree (tree p) c.with_two.result)) (IsInstance c.add.new.self (solved_in p h) (node_tree (tree p) n))
    (λ r s. record {
      within = s.within;
      is = λ f x. s.is ∙ (ap (node_tree (tree p)) c.with_two.ensures
          ∙ joined_tree p h c.args.parts.0 c.args.parts.1 c.args.made.0 c.args.made.1 (solved_in p h) refl f x (c.requires.first.is f x) (c.requires.second.is f x) n
          (sym c.is_solved.ensures ∙ c.if-is_solved.false) c.requires.parts c.requires.below);
    }) c.add.ensures.stands
