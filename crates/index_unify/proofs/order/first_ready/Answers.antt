use Rattle.std.specs.Prelude.{◌-◌, ◌<◌, length, map, []}
use Rattle.std.proofs.Common.{arith, sym, ap, subst, ◌∙◌}
use Rattle.unify_rules.specs.Joined.{first_ready}
use Rattle.term_pool.specs.Pool.{tree}
use Rattle.index_unify.specs.Dependence.{DependsOn}
use Rattle.index_unify.specs.Order.{marked, waiting}
use Rattle.index_unify.proofs.Opened.{value_map}
use Rattle.index_unify.proofs.Walks.{told-false, told-true}
use Rattle.index_unify.proofs.Waits.{passes_unmarked, passes_waiting, found_ready}
use Rattle.index_unify.proofs.order.first_ready.Goals as goal
use Rattle.index_unify.proofs.order.first_ready.Goals.{else-waits-at-via-then-waits-at+in_ok-depends_on+else-not-branch, else-waits-at-via-else-waits-at}

pub returns-then-not-branch-clause-is : goal.returns-then-not-branch-clause-is
returns-then-not-branch-clause-is c =
    let p = c.args.pool.now in
    let v = c.loop-var.var in
    let ids = c.args.types.now in
    let ts = map (tree p) ids in
    let ws = c.args.waits.now in
    let l : v - 1 < length ids = omega arith in
    let t = value_map p ids (v - 1) c.index-types-at.result l ∙ ap (tree p) (sym c.index-types-at.is) in
    found_ready ts ws c.args.count (v - 1) v (first_ready ts (waiting ws c.args.count) (waiting ws c.args.count)) (omega arith) c.loop-var.invariant.is c.if-waits-at.true
    (subst (λ u. DependsOn [] (λ i. marked ws i) u → ⊥) (sym t) (told-false c.in_ok-depends_on.field-0 c.if-not-branch.true c.in_ok-depends_on.ensures))

pub loop-var-preserved : goal.loop-var-preserved
loop-var-preserved c =
    let p = c.args.pool.now in
    let v = c.loop-var.var in
    let ids = c.args.types.now in
    let ts = map (tree p) ids in
    let ws = c.args.waits.now in
    let r = first_ready ts (waiting ws c.args.count) (waiting ws c.args.count) in
    elim c.else-waits-at.branch [
      | else-waits-at-via-then-waits-at+in_ok-depends_on+else-not-branch w ↦
          (let l : v - 1 < length ids = omega arith in
          let t = value_map p ids (v - 1) w.index-types-at.result l ∙ ap (tree p) (sym w.index-types-at.is) in
          record {
            within = omega arith;
            is = passes_waiting ts ws c.args.count (v - 1) v r (omega arith) c.loop-var.invariant.is c.requires.waits w.if-waits-at.true
                (subst (λ u. DependsOn [] (λ i. marked ws i) u) (sym t) (told-true w.in_ok-depends_on.field-0 w.if-not-branch.false w.in_ok-depends_on.ensures));
          })
      | else-waits-at-via-else-waits-at w ↦ record { within = omega arith; is = passes_unmarked ts ws c.args.count (v - 1) v r (omega arith) c.loop-var.invariant.is w.if-waits-at.false }
    ]
