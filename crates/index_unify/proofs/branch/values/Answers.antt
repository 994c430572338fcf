use Rattle.std.specs.Prelude.{◌≡◌, ◌+◌, ◌++◌, ◌∷◌, []}
use Rattle.std.proofs.Common.{arith, sym, ap, ap₂, subst, ◌∙◌}
use Rattle.unify_rules.specs.Joined.{value_of, value_or_place, values_from}
use Rattle.term_pool.specs.Growth.{Extends-trans}
use Rattle.index_unify.specs.Renaming.{IsRenaming}
use Rattle.index_unify.specs.State.{solution_in, solutions_of}
use Rattle.index_unify.proofs.Grown.{IdStands, id_in, ids, SolutionStands, solutions, all_more, pushed}
use Rattle.index_unify.proofs.Solving.{solutions_stay}
use Rattle.index_unify.proofs.Branches.{values_next}
use Rattle.index_unify.proofs.branch.values.Goals as goal

pub value_or_place-requires-clause-solutions : goal.value_or_place-requires-clause-solutions
value_or_place-requires-clause-solutions c = all_more SolutionStands solution_in solutions c.args.pool.now c.loop-var.pool c.loop-var.invariant.extends c.args.solutions.now c.requires.solutions

pub value_or_place-requires-clause-renaming : goal.value_or_place-requires-clause-renaming
value_or_place-requires-clause-renaming c = subst (λ ks. IsRenaming c.loop-var.pool ks c.loop-var.renaming.terms.items) (sym c.loop-var.invariant.same) c.loop-var.invariant.renaming

pub loop-var-preserved : goal.loop-var-preserved
loop-var-preserved c =
    let p = c.args.pool.now in
    let q = c.loop-var.pool in
    let r = c.value_or_place.new.pool in
    let i = c.loop-var.invariant in
    let ks = c.args.keep.now in
    let n = c.loop-var.var in
    let ss = c.args.solutions.now in
    let g = c.value_or_place.ensures.extends in
    let S = solutions_of p ss in
    let e = c.in_ok-made.ensures.is.is ∙ ap₂ (λ js s. value_or_place js n (value_of s n)) i.same (solutions_stay p q i.extends ss c.requires.solutions) in
    let z : 0 + n ≡ n = omega arith in
    let us = values_next S ks 0 n ∙ ap (λ k. values_from S ks 0 n ++ value_or_place ks k (value_of S k) ∷ []) z in
    let m = pushed IdStands id_in ids q r g c.loop-var.all.items c.push.new.self.items (values_from S ks 0 n) (values_from S ks 0 (n + 1)) c.in_ok-made.made (value_or_place ks n (value_of S n)) (record { within = i.within; is = i.is }) c.in_ok-made.ensures.is.within e c.in_ok-push.ensures.items us in
    record {
      extends = Extends-trans i.extends g;
      renaming = subst (λ js. IsRenaming r js c.value_or_place.new.renaming.terms.items) i.same c.in_ok-made.ensures.renaming;
      same = ap (λ k. k.now) c.in_ok-made.ensures.keep ∙ i.same;
      within = m.within;
      is = m.is;
    }
