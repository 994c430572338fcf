use Rattle.std.proofs.Common.{◌≡◌, ◌<◌, ◌+◌, ◌-◌, ℕ, List, length, map, ap, ap₂, sym, subst, ◌∙◌, arith}
use Rattle.std.specs.Prelude.{get_or}
use Rattle.std.specs.List.{AllByRecursion}
use Rattle.core_rules.specs.Term.{Term}
use Rattle.core_rules.specs.Substitution.{shift, under, value_at}
use Rattle.core_rules.specs.Signature.{Entry}
use Rattle.core_rules.specs.Unification.{whole_types}
use Rattle.index_unify.specs.Unified.{context_in}
use Rattle.lhs_rules.specs.Spots.{index_of}
use Rattle.term_pool.specs.Pool.{tree}
use Rattle.term_pool.specs.Growth.{Extends-trans}
use Rattle.term_pool.specs.Placed.{items-stay}
use Rattle.declared_types.proofs.Grown.{all-grown}
use Rattle.cover_rules.specs.LeftSide.{place_of}
use Rattle.lhs_elab.proofs.Branching.{kept-there, value-there, place-within, whole-type, value-at-map}
use Rattle.lhs_elab.proofs.branch.branch_spot.Goals as goal

pub overflow_sub-kept-in-Some : goal.overflow_sub-kept-in-Some
overflow_sub-kept-in-Some c =
    let b = c.args.branch.now in
    let index = c.in-Ok.count - c.args.level - 1 in
    let l = place-within index b.keep c.in-Some.at (sym (ap (place_of index) c.keep_of.ensures) ∙ (sym c.place.ensures ∙ c.in-Some.is)) in
    omega (arith, l, c.size_of-kept.ensures, c.requires.branch.keep)

pub returns-in-Some-clause-is : goal.returns-in-Some-clause-is
returns-in-Some-clause-is c =
    let b = c.args.branch.now in
    let index = c.in-Ok.count - c.args.level - 1 in
    let n : index ≡ length c.args.context.now - (c.args.level + 1) = omega (arith, c.in-Ok.ensures) in
    let o : c.in-Ok-try_from.outside ≡ length b.context - 1 - c.in-Some.at = omega (arith, c.in-Ok-try_from.ensures, c.size_of-kept.ensures) in
    kept-there c.args.pool.now c.args.context.now b c.args.level index n c.in-Some.at c.in-Ok-try_from.outside (sym c.in-Some.is ∙ (c.place.ensures ∙ ap (place_of index) c.keep_of.ensures)) o

pub under-requires-clause-env : goal.under-requires-clause-env
under-requires-clause-env c =
    let b = c.args.branch.now in
    subst (AllByRecursion (λ i. i < length c.shift.new.pool.trees)) (sym c.values_of-values.ensures) (all-grown c.args.pool.now c.shift.new.pool b.values c.in_ok-whole.ensures.extends c.requires.branch.values)

pub returns-clause-is : goal.returns-clause-is
returns-clause-is c =
    let b = c.args.branch.now in
    let es = c.args.context.now in
    let p = c.args.pool.now in
    let s = c.shift.new.pool in
    let q = c.under.new.pool in
    let inner = c.in-Ok.count - c.args.level in
    let index = inner - 1 in
    let x = c.index-context-level.result in
    let v = c.index-values-index.result in
    let e = Extends-trans c.in_ok-whole.ensures.extends c.in_ok-ty.ensures.extends in
    let n : index ≡ length es - (c.args.level + 1) = omega (arith, c.in-Ok.ensures) in
    let m : inner ≡ length es - c.args.level = omega (arith, c.in-Ok.ensures) in
    let l : index < length b.values = omega (arith, n, c.requires.branch.count, c.requires.level) in
    let at : v ≡ get_or b.values index v = subst (λ (vs : List ℕ). v ≡ get_or vs index v) c.values_of-values.ensures c.index-values-index.is in
    let value : tree q v ≡ value_at (map (tree p) b.values) index =
    sym (value-at-map (tree q) b.values index v l at) ∙ ap (λ (us : List Term). value_at us index) (items-stay p q b.values e c.requires.branch.values) in
    let values : map (tree s) c.values_of-values.result.now ≡ map (tree p) b.values =
    ap (map (tree s)) c.values_of-values.ensures ∙ items-stay p s b.values c.in_ok-whole.ensures.extends c.requires.branch.values in
    let whole : tree s c.in_ok-whole.whole ≡ value_at (whole_types 0 (context_in p es)) (index_of (context_in p es) c.args.level) =
    c.in_ok-whole.ensures.is.is ∙ (ap (λ (y : Entry ℕ). shift (tree p y.ty) 0 inner) c.entry.view_is ∙ sym (whole-type p es c.args.level inner x c.requires.level m c.index-context-level.is)) in
    let o : c.in-Ok-try_from-2.outer ≡ length b.context = omega (arith, c.in-Ok-try_from-2.ensures, c.size_of-kept.ensures) in
    value-there p es b c.args.level index n q v c.in_ok-ty.ty c.in-Ok-try_from-2.outer (sym c.in_default-place.is ∙ (c.place.ensures ∙ ap (place_of index) c.keep_of.ensures)) value
    (c.in_ok-ty.ensures.is.is ∙ ap₂ under values whole) o
