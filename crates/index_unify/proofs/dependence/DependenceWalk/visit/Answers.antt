use Rattle.std.specs.Prelude.{◌≡◌, ◌<◌, ◌≤◌, map, length, get_or, refl}
use Rattle.std.proofs.Common.{sym, ◌∙◌, ap, subst, arith, rules}
use Rattle.core_rules.specs.Term.{Var}
use Rattle.term_pool.specs.Pool.{tree}
use Rattle.term_pool.specs.Reach.{reach}
use Rattle.index_unify.specs.Queue.{Adds}
use Rattle.index_unify.specs.Dependence.{is_target}
use Rattle.index_unify.proofs.Opened.{length_map, var_tree, var-goal, var-other, var-opens, var-free, parts-goal, parts-opens}
use Rattle.index_unify.proofs.dependence.DependenceWalk.visit.Goals as goal
use Rattle.index_unify.proofs.dependence.DependenceWalk.visit.Goals.{In-Variable}

is_var : (c : In-Variable) → tree c.args.pool.now c.args.t ≡ Var c.in-Variable.index
is_var c = c.node.ensures.is ∙ var_tree (tree c.args.pool.now) c.node.result c.in-Variable.index (sym c.parts.ensures ∙ c.in-Variable.is)

is_free : (c : In-Variable) → c.args.under ≤ c.in-Variable.index
is_free c = let e = ap reach (is_var c) in omega (arith, e, c.reach.ensures, c.if-reach-under.false)

pub returns-then-has : goal.returns-then-has
returns-then-has c =
    let p = c.args.pool.now in
    let v = (goal.at.returns-then-has c).In-Variable in
    var-goal (map (tree p) c.args.self.now.types.now) (is_target c.args.self.now.target) p c.args.t c.args.under c.in-Variable.index (is_var v) (is_free v)
    (ap (is_target c.args.self.now.target) (sym c.saturating_sub-var.ensures) ∙ (sym c.has.ensures ∙ c.if-has.true))

pub returns-in_ok-add-in-Variable : goal.returns-in_ok-add-in-Variable
returns-in_ok-add-in-Variable c =
    let p = c.args.pool.now in
    let ts = map (tree p) c.args.self.now.types.now in
    let h = is_target c.args.self.now.target in
    let v = (goal.at.returns-in_ok-add-in-Variable c).In-Variable in (
      var-other ts h p c.args.t c.args.under c.in-Variable.index (is_var v) (ap h (sym c.saturating_sub-var.ensures) ∙ (sym c.has.ensures ∙ c.if-has.false)),
      var-opens ts h p c.args.t c.args.under c.in-Variable.index (is_var v) c.args.self.now.types.now c.index-self-at.result c.args.queue.now c.add.new.self refl c.requires.ready (is_free v)
          (subst (λ i. i < length c.args.self.now.types.now) c.saturating_sub-var.ensures c.if-at-self.true)
          (subst (λ i. Adds c.args.queue.now (get_or c.args.self.now.types.now i c.index-self-at.result, 0) c.add.new.self) c.saturating_sub-var.ensures c.in_ok-add-in-Variable.ensures),
    )

pub returns-else-at-self : goal.returns-else-at-self
returns-else-at-self c =
    let p = c.args.pool.now in
    let ts = map (tree p) c.args.self.now.types.now in
    let h = is_target c.args.self.now.target in
    let v = (goal.at.returns-else-at-self c).In-Variable in (
      var-other ts h p c.args.t c.args.under c.in-Variable.index (is_var v) (ap h (sym c.saturating_sub-var.ensures) ∙ (sym c.has.ensures ∙ c.if-has.false)),
      var-free ts h p c.args.t c.args.under c.in-Variable.index (is_var v) c.args.queue.now
          (let e = length_map (tree p) c.args.self.now.types.now in omega (arith, e, c.if-at-self.false, c.saturating_sub-var.ensures)),
    )

pub returns-in_ok-add-in-Two-2 : goal.returns-in_ok-add-in-Two-2
returns-in_ok-add-in-Two-2 c =
    let p = c.args.pool.now in
    let ts = map (tree p) c.args.self.now.types.now in
    let h = is_target c.args.self.now.target in
    let parts = sym c.parts.ensures ∙ c.in-Two.is in (
      parts-goal ts h p c.args.t c.args.under c.node.result c.node.ensures.is c.in-Two.first c.in-Two.second c.in-Two.binds parts c.node.ensures.below c.requires.t,
      parts-opens ts h p c.args.t c.args.under c.node.result c.node.ensures.is c.in-Two.first c.in-Two.second c.in-Two.binds parts c.node.ensures.below c.requires.t c.args.queue.now c.add-in-Two.new.self c.add-in-Two-2.new.self c.in-Some.inner
          (omega (arith, c.reach.ensures, c.if-reach-under.false)) (search rules) c.in_ok-add-in-Two.ensures c.in_ok-add-in-Two-2.ensures,
    )
