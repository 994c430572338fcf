use Rattle.std.proofs.Common.{◌≡◌, ◌+◌, ℕ, List, ◌++◌, length, map, refl, ap, ap₂, sym, subst, ◌∙◌, arith}
use Rattle.std.specs.List.{AllByRecursion}
use Rattle.core_rules.specs.Term.{Term}
use Rattle.core_rules.specs.Signature.{Branch, Context}
use Rattle.core_rules.specs.Mapped.{branch_map}
use Rattle.term_pool.specs.Pool.{Extends, tree}
use Rattle.term_pool.specs.Growth.{Extends-trans}
use Rattle.index_unify.specs.Unified.{context_in}
use Rattle.weak_head.specs.Elims.{Below}
use Rattle.lhs_rules.specs.Spots.{Spot, Taken, branch_spots, split_spot}
use Rattle.lhs_elab.specs.declared.left.Left.{Left as CodeLeft}
use Rattle.lhs_elab.specs.declared.left.Spot.{Spot as CodeSpot}
use Rattle.lhs_elab.specs.declared.left.Taken.{Taken as CodeTaken}
use Rattle.lhs_elab.specs.Lefts.{SpotBelow, spot_in, taken_in}
use Rattle.lhs_elab.specs.Moving.{moved_by, taken_into}
use Rattle.lhs_elab.proofs.BranchGrowing.{branch-larger, branch-stays}
use Rattle.lhs_elab.proofs.Contexts.{context-length}
use Rattle.lhs_elab.proofs.Growing.{context-stays, entries-larger, spine-larger, spine-stays, spots-larger, spots-stay}
use Rattle.lhs_elab.proofs.Kept.{ready-at}
use Rattle.lhs_elab.proofs.Moves.{move-larger, move-same}
use Rattle.lhs_elab.proofs.Putting.{Puts, puts-below, puts-is}
use Rattle.lhs_elab.proofs.elaborator.Elaborator.put.Goals as goal

pub split_spine-requires : goal.split_spine-requires
split_spine-requires g c =
    let x = c.args.self.now in
    let p = x.pool.now in
    let q = c.brought.new.pool in
    let e = c.in_ok-ty.ensures.extends in
    record {
      spine = subst (AllByRecursion (λ (y : CodeTaken). Below (length q.trees) y.elim)) (sym c.as_slice.ensures.value) (spine-larger p q e x.left.now.spine.items c.requires.ready.left.spine);
      by = move-larger p q e c.args.by.now c.requires.by;
    }

pub split_spots-requires : goal.split_spots-requires
split_spots-requires g c =
    let x = c.args.self.now in
    let p = x.pool.now in
    let v = c.split_spine.new.pool in
    let e : Extends p v = Extends-trans c.in_ok-ty.ensures.extends c.in_ok-spine.ensures.extends in
    let n : c.in-Ok.count ≡ length x.left.now.context.items = omega (arith, c.in-Ok.ensures, c.len.ensures) in
    record {
      spots = subst (AllByRecursion (SpotBelow (length v.trees) c.in-Ok.count)) (sym c.as_slice-2.ensures.value) (spots-larger p v e (length x.left.now.context.items) c.in-Ok.count (omega (arith, n)) x.left.now.spots.items c.requires.ready.left.spots);
      by = move-larger p v e c.args.by.now c.requires.by;
      context = entries-larger p v e c.args.context.now c.requires.context;
      branch = branch-larger p v e (length c.args.context.now) c.args.branch.now c.requires.branch;
      long = c.requires.long ∙ ap (λ (m : ℕ). m + c.args.new) (sym n);
      split = omega (arith, n, c.requires.split);
    }

pub with_branch_spots-requires : goal.with_branch_spots-requires
with_branch_spots-requires g c =
    let x = c.args.self.now in
    let p = x.pool.now in
    let w = c.split_spots.new.pool in
    let e : Extends p w = Extends-trans c.in_ok-ty.ensures.extends (Extends-trans c.in_ok-spine.ensures.extends c.in_ok-before.ensures.extends) in
    record {
      context = entries-larger p w e c.args.context.now c.requires.context;
      branch = branch-larger p w e (length c.args.context.now) c.args.branch.now c.requires.branch;
      spots = c.in_ok-before.ensures.below;
      within = omega (arith, c.requires.long, c.requires.split);
    }

pub returns-clause-ready : goal.returns-clause-ready
returns-clause-ready g c =
    let x = c.args.self.now in
    let p = x.pool.now in
    let q = c.brought.new.pool in
    let v = c.split_spine.new.pool in
    let w = c.split_spots.new.pool in
    let z = c.with_branch_spots.new.pool in
    let b = c.args.branch.now in
    let pq = c.in_ok-ty.ensures.extends in
    let qv = c.in_ok-spine.ensures.extends in
    let vw = c.in_ok-before.ensures.extends in
    let wz = c.in_ok-spots.ensures.extends in
    let n : c.in-Ok.count ≡ length x.left.now.context.items = omega (arith, c.in-Ok.ensures, c.len.ensures) in
    let l : CodeLeft = record { context = c.in_ok-entries.entries; spine = c.in_ok-spine.spine; spots = c.in_ok-spots.spots; pats = x.left.now.pats; ty = c.in_ok-ty.ty; inserted = c.in-Some.inserted } in
    let u : Puts x.left.now l b.context c.in_ok-spine.spine.items c.in_ok-spots.spots.items c.in_ok-ty.ty c.args.hidden = record {
      context_is = c.in_ok-entries.ensures.items ∙ c.context_of.ensures;
      spine_is = refl;
      spots_is = refl;
      pats = refl;
      ty = refl;
      inserted = omega (arith, c.in-Some.ensures);
    } in
    ready-at g.S.Solutions.solution x _ c.requires.ready (Extends-trans pq (Extends-trans qv (Extends-trans vw wz))) refl refl
    (puts-below p q v w z pq qv vw wz x.left.now l c.requires.ready.left c.args.split c.args.new c.args.hidden c.in-Ok.count c.in-Ok-try_from.kept c.in_ok-ty.ty c.args.by.now c.args.context.now b c.in_ok-spine.spine.items c.in_ok-before.before.items c.in_ok-spots.spots.items u n c.requires.branch
    c.in_ok-spine.ensures.below c.in_ok-spots.ensures.below c.in_ok-ty.ensures.is.within)

pub returns-clause-left : goal.returns-clause-left
returns-clause-left g c =
    let x = c.args.self.now in
    let p = x.pool.now in
    let q = c.brought.new.pool in
    let v = c.split_spine.new.pool in
    let w = c.split_spots.new.pool in
    let z = c.with_branch_spots.new.pool in
    let b = c.args.branch.now in
    let es = c.args.context.now in
    let pq = c.in_ok-ty.ensures.extends in
    let qv = c.in_ok-spine.ensures.extends in
    let vw = c.in_ok-before.ensures.extends in
    let wz = c.in_ok-spots.ensures.extends in
    let pv = Extends-trans pq qv in
    let pw = Extends-trans pq (Extends-trans qv vw) in
    let h = c.requires.ready.left in
    let by = c.args.by.now in
    let n : c.in-Ok.count ≡ length x.left.now.context.items = omega (arith, c.in-Ok.ensures, c.len.ensures) in
    let kn : c.in-Ok-try_from.kept ≡ length b.context = omega (arith, c.in-Ok-try_from.ensures, c.size_of.ensures) in
    let C = context_in p x.left.now.context.items in
    let m : length C ≡ c.in-Ok.count = omega (arith, n, context-length p x.left.now.context.items) in
    let l : CodeLeft = record { context = c.in_ok-entries.entries; spine = c.in_ok-spine.spine; spots = c.in_ok-spots.spots; pats = x.left.now.pats; ty = c.in_ok-ty.ty; inserted = c.in-Some.inserted } in
    let u : Puts x.left.now l b.context c.in_ok-spine.spine.items c.in_ok-spots.spots.items c.in_ok-ty.ty c.args.hidden = record {
      context_is = c.in_ok-entries.ensures.items ∙ c.context_of.ensures;
      spine_is = refl;
      spots_is = refl;
      pats = refl;
      ty = refl;
      inserted = omega (arith, c.in-Some.ensures);
    } in
    let F = moved_by (tree p) by in
    let spine : map (taken_in (tree v)) c.in_ok-spine.spine.items ≡ map (taken_into F c.in-Ok.count c.in-Ok-try_from.kept) (map (taken_in (tree p)) x.left.now.spine.items) =
    c.in_ok-spine.ensures.is ∙ (ap (λ (xs : List CodeTaken). map (taken_into (moved_by (tree q) by) c.in-Ok.count c.in-Ok-try_from.kept) (map (taken_in (tree q)) xs)) c.as_slice.ensures.value
    ∙ ap₂ (λ (t : Term → Term) (xs : List Taken). map (taken_into t c.in-Ok.count c.in-Ok-try_from.kept) xs) (move-same p q pq by c.requires.by) (spine-stays p q pq x.left.now.spine.items h.spine)) in
    let into : Context Term → Branch Term → (Term → Term) → List Spot → List Spot = λ (d : Context Term) (e : Branch Term) (t : Term → Term) (ss : List Spot). map (split_spot C c.args.split c.args.new d e t) ss in
    let old : map (spot_in (tree w)) c.in_ok-before.before.items ≡ into (context_in p es) (branch_map (tree p) b) F (map (spot_in (tree p)) x.left.now.spots.items) =
    c.in_ok-before.ensures.is C m ∙ (ap (λ (xs : List CodeSpot). into (context_in v es) (branch_map (tree v) b) (moved_by (tree v) by) (map (spot_in (tree v)) xs)) c.as_slice-2.ensures.value
    ∙ (ap₂ (λ (d : Context Term) (e : Branch Term). into d e (moved_by (tree v) by) (map (spot_in (tree v)) x.left.now.spots.items)) (context-stays p v pv es c.requires.context) (branch-stays p v pv (length es) b c.requires.branch)
    ∙ ap₂ (λ (t : Term → Term) (ss : List Spot). into (context_in p es) (branch_map (tree p) b) t ss) (move-same p v pv by c.requires.by) (spots-stay p v pv (length x.left.now.context.items) x.left.now.spots.items h.spots))) in
    let spots : map (spot_in (tree z)) c.in_ok-spots.spots.items ≡ into (context_in p es) (branch_map (tree p) b) F (map (spot_in (tree p)) x.left.now.spots.items) ++ branch_spots (context_in p es) (branch_map (tree p) b) c.args.split c.args.new =
    c.in_ok-spots.ensures.is ∙ (ap (λ (ss : List Spot). ss ++ branch_spots (context_in w es) (branch_map (tree w) b) c.args.split c.args.new) old
    ∙ ap₂ (λ (d : Context Term) (e : Branch Term). into (context_in p es) (branch_map (tree p) b) F (map (spot_in (tree p)) x.left.now.spots.items) ++ branch_spots d e c.args.split c.args.new) (context-stays p w pw es c.requires.context) (branch-stays p w pw (length es) b c.requires.branch)) in
    puts-is p q v w z pq qv vw wz x.left.now l h c.args.split c.args.new c.args.hidden c.in-Ok.count c.in-Ok-try_from.kept c.in_ok-ty.ty by es b c.in_ok-spine.spine.items c.in_ok-before.before.items c.in_ok-spots.spots.items u n c.requires.branch
    c.in_ok-ty.ensures.is.within c.in_ok-ty.ensures.is.is kn c.in_ok-spine.ensures.below spine spots
