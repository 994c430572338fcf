use Rattle.std.specs.Prelude.{◌≡◌, ◌<◌, length, map, reverse}
use Rattle.std.specs.List.{AllByRecursion}
use Rattle.std.proofs.Common.{rules, arith, sym, ap, ap₂, subst, ◌∙◌}
use Rattle.el_base.proofs.Throughout.{all-reverse}
use Rattle.core_rules.specs.Mapped.{AllEntries, telescope_map}
use Rattle.unify_rules.specs.Joined.{entries_of, keep_of, values_from}
use Rattle.term_pool.specs.Pool.{tree}
use Rattle.index_unify.specs.Unified.{context_in}
use Rattle.index_unify.specs.State.{solution_in, solutions_of}
use Rattle.index_unify.proofs.Grown.{EntryStands, entry_in, entries, SolutionStands, solutions, all_more, still}
use Rattle.index_unify.proofs.Solving.{solutions_stay}
use Rattle.index_unify.proofs.Branches.{context_length, front_taken, same_branch}
use Rattle.index_unify.proofs.branch.branch_of.Goals as goal

pub placed-requires-clause-types : goal.placed-requires-clause-types
placed-requires-clause-types c = subst (AllByRecursion (λ i. i < length c.args.pool.now.trees)) (sym c.as_slice.ensures.value) c.requires.state.types

pub placed-requires-clause-count : goal.placed-requires-clause-count
placed-requires-clause-count c =
    let w : c.as_slice-old.result.now ≡ c.args.context.now = search rules in
    omega (arith, c.in-Ok.ensures, ap length w, c.requires.types, ap length c.as_slice.ensures.value)

pub entries-requires-clause-types : goal.entries-requires-clause-types
entries-requires-clause-types c = subst (AllByRecursion (λ i. i < length c.args.pool.now.trees)) (sym c.as_slice-3.ensures.value) c.requires.state.types

pub entries-requires-clause-count : goal.entries-requires-clause-count
entries-requires-clause-count c =
    let w : c.as_slice-old.result.now ≡ c.args.context.now = search rules in
    omega (arith, ap length w, c.requires.types, ap length c.as_slice-3.ensures.value)

pub entries-requires-clause-keep : goal.entries-requires-clause-keep
entries-requires-clause-keep c =
    let w : c.as_slice-old.result.now ≡ c.args.context.now = search rules in
    let n = c.in-Ok.count in
    let m : n ≡ length c.as_slice-3.result.now = omega (arith, c.in-Ok.ensures, ap length w, c.requires.types, ap length c.as_slice-3.ensures.value) in
    let k : c.reverse.new.self ≡ reverse c.in_ok-keep.keep.items = c.reverse.ensures.after ∙ ap reverse c.as_mut_slice.ensures.value in
    let e : c.as_slice-4.result.now ≡ reverse c.in_ok-keep.keep.items = c.as_slice-4.ensures.value ∙ (front_taken c.reverse.new.self _ c.in_ok-keep.keep.len (omega (arith, c.in_ok-keep.keep.ok.0, c.reverse.ensures.len, ap length c.as_mut_slice.ensures.value)) ∙ k) in
    subst (AllByRecursion (λ i. i < length c.as_slice-3.result.now)) (sym e)
    (subst (λ l. AllByRecursion (λ i. i < l) (reverse c.in_ok-keep.keep.items)) m (all-reverse (λ i. i < n) c.in_ok-keep.keep.items c.in_ok-keep.ensures.below))

pub returns-clause-below : goal.returns-clause-below
returns-clause-below c =
    let q = c.entries.new.pool in
    let v = c.values.new.pool in
    record {
      context = subst (AllEntries (λ i. i < length v.trees)) (sym c.from_vec.ensures) (all_more EntryStands entry_in entries q v c.in_ok-values.ensures.extends c.in_ok-entries.entries.items c.in_ok-entries.ensures.below);
      values = subst (AllByRecursion (λ i. i < length v.trees)) (sym c.from_vec-2.ensures) c.in_ok-values.ensures.below;
    }

pub returns-clause-is : goal.returns-clause-is
returns-clause-is c = λ h.
    let p = c.args.pool.now in
    let q = c.entries.new.pool in
    let v = c.values.new.pool in
    let d = telescope_map h (context_in p c.args.context.now) in
    let ids = c.args.state.now.types.items in
    let ts = map (tree p) ids in
    let solved = c.args.state.now.solutions.items in
    let ss = solutions_of p solved in
    let w : c.as_slice-old.result.now ≡ c.args.context.now = search rules in
    let n : c.in-Ok.count ≡ length d = omega (arith, c.in-Ok.ensures, ap length w, context_length p h c.args.context.now) in
    let all = keep_of (length d) ts ss in
    let k : c.reverse.new.self ≡ all =
    c.reverse.ensures.after ∙ (ap reverse c.as_mut_slice.ensures.value ∙ (c.in_ok-keep.ensures.is
    ∙ (ap₂ (λ ids ss. keep_of c.in-Ok.count (map (tree p) ids) (solutions_of p ss)) c.as_slice.ensures.value c.as_slice-2.ensures.value ∙ ap (λ n. keep_of n ts ss) n))) in
    let many : c.in_ok-keep.keep.len ≡ length c.reverse.new.self = omega (arith, c.in_ok-keep.keep.ok.0, c.reverse.ensures.len, ap length c.as_mut_slice.ensures.value) in
    let front = front_taken c.reverse.new.self _ c.in_ok-keep.keep.len many ∙ k in
    let k4 : c.as_slice-4.result.now ≡ all = c.as_slice-4.ensures.value ∙ front in
    let k6 : c.as_slice-6.result.now ≡ all = c.as_slice-6.ensures.value ∙ front in
    let s5 = ap (solutions_of q) c.as_slice-5.ensures.value ∙ solutions_stay p q c.in_ok-entries.ensures.extends solved c.requires.state.solutions in
    same_branch
    (ap (telescope_map (tree v)) c.from_vec.ensures ∙ (still EntryStands entry_in entries q v c.in_ok-values.ensures.extends c.in_ok-entries.entries.items c.in_ok-entries.ensures.below
    ∙ (c.in_ok-entries.ensures.is h
    ∙ (ap (λ o. reverse (entries_of (telescope_map h (context_in p o)) (map (tree p) c.as_slice-3.result.now) c.as_slice-4.result.now)) w
    ∙ ap₂ (λ ids ks. reverse (entries_of d (map (tree p) ids) ks)) c.as_slice-3.ensures.value k4))))
    (ap (map (tree v)) c.from_vec-2.ensures ∙ (c.in_ok-values.ensures.is ∙ (ap₂ (λ ss ks. values_from ss ks 0 c.in-Ok.count) s5 k6 ∙ ap (values_from ss all 0) n)))
    (c.from_vec-3.ensures ∙ front)

pub values-requires : goal.values-requires
values-requires c = record {
  solutions = subst (AllByRecursion (λ y. y.value < length c.entries.new.pool.trees)) (sym c.as_slice-5.ensures.value) (all_more SolutionStands solution_in solutions c.args.pool.now c.entries.new.pool c.in_ok-entries.ensures.extends c.args.state.now.solutions.items c.requires.state.solutions);
}
