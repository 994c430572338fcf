use Rattle.std.proofs.Common.{◌-◌, ap, ◌∙◌}
use Rattle.core_rules.specs.Term.{Term}
use Rattle.core_rules.specs.Substitution.{shift}
use Rattle.term_pool.specs.Pool.{tree}
use Rattle.term_pool.specs.Growth.{Extends-tree}
use Rattle.lhs_elab.specs.Moving.{moved_by}
use Rattle.lhs_elab.proofs.Moves.{move-stays, move-larger}
use Rattle.lhs_elab.proofs.splitting.split_value.Goals as goal

pub moved-requires-2-clause-by : goal.moved-requires-2-clause-by
moved-requires-2-clause-by c = move-larger c.args.pool.now c.moved.new.pool c.in_ok-value.ensures.extends c.args.by.now c.requires.by

pub returns-clause-ty : goal.returns-clause-ty
returns-clause-ty c =
    let p = c.args.pool.now in
    let q = c.moved.new.pool in
    let k = c.in_ok-value.ensures in
    let t = tree q c.args.placed.ty in
    record {
      within = c.in_ok-ty.ensures.is.within;
      is = c.in_ok-ty.ensures.is.is ∙ (move-stays p q k.extends c.args.by.now c.requires.by (shift t 0 (c.args.count - c.args.placed.outer))
          ∙ ap (λ (u : Term). moved_by (tree p) c.args.by.now (shift u 0 (c.args.count - c.args.placed.outer))) (Extends-tree c.args.placed.ty k.extends c.requires.ty));
    }
