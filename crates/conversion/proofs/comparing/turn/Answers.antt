use Rattle.std.proofs.Common.{◌≡◌, ◌<◌, ◌^◌, ◌∷◌, ◌++◌, suc, length, map, reverse, sym, ap, ◌∙◌, subst, arith}
use Rattle.std.proofs.lemmas.Bool.{false≢true}
use Rattle.std.proofs.lemmas.List.{length-reverse}
use Rattle.core_rules.specs.Bounded.{AreSame}
use Rattle.core_rules.specs.InScope.{IsAcyclic}
use Rattle.term_pool.specs.Pool.{tree}
use Rattle.term_pool.specs.Growth.{Extends-refl, Extends-trans}
use Rattle.core_terms.specs.Signature.{signature_in}
use Rattle.core_terms.specs.Solutions.{solved_in, solved_in-stays}
use Rattle.core_terms.proofs.SignatureGrowth.{Stands-extends}
use Rattle.conversion.specs.Outcome.{HaveOutcome}
use Rattle.conversion.specs.Pending.{work_of, items, Decides, Moves}
use Rattle.conversion.proofs.Moves.{kept_yes, same_yes, refused_in_turn, moved_yes, moved_parts}
use Rattle.conversion.proofs.Turning.{outcome_at, have_parts, opened}
use Rattle.conversion.proofs.comparing.turn.Goals as goal

pub returns-then-depth-work-clause-turn : goal.returns-then-depth-work-clause-turn
returns-then-depth-work-clause-turn g c =
    let p = c.args.pool.now in
    let w = c.args.work.now in
    let G = signature_in p c.args.sig.now in
    let s = solved_in p (g.S.Solutions.solution c.args.sol.now) in
    let pr = c.args.progress.now in
    let y = kept_yes G s c.args.fuel p pr.path.items pr.kept w (reverse pr.pending.items) c.in-Some-get.depth c.requires.going (sym c.get.ensures ∙ c.in-Some-get.is) c.if-depth-work.true in
    moved_yes G s c.args.fuel p p pr.path.items c.enter.new.path.items pr.kept w (reverse pr.pending.items) c.requires.going (Extends-refl p) c.in_ok-enter.ensures y

pub returns-then-branch-clause-turn : goal.returns-then-branch-clause-turn
returns-then-branch-clause-turn g c =
    let p = c.args.pool.now in
    let w = c.args.work.now in
    let G = signature_in p c.args.sig.now in
    let s = solved_in p (g.S.Solutions.solution c.args.sol.now) in
    let pr = c.args.progress.now in
    let k : w.depth ≡ suc c.in-Some.less = let a = c.in-Some.ensures in omega arith in
    let y = same_yes G s c.args.fuel p pr.path.items w c.in-Some.less k (c.in_ok-same_term.ensures.is.0 c.if-branch.true) in
    moved_yes G s c.args.fuel p c.same_term.new.pool pr.path.items c.enter.new.path.items pr.kept w (reverse pr.pending.items) c.requires.going c.same_term.ensures.extends c.in_ok-enter.ensures y

pub compare_heads-requires-clause-stands : goal.compare_heads-requires-clause-stands
compare_heads-requires-clause-stands g c = Stands-extends _ _ _ c.same_term.ensures.extends c.requires.stands

pub compare_heads-requires-clause-acyclic : goal.compare_heads-requires-clause-acyclic
compare_heads-requires-clause-acyclic g c = subst IsAcyclic (sym (solved_in-stays c.args.pool.now c.same_term.new.pool (g.S.Solutions.solution c.args.sol.now) c.same_term.ensures.extends c.requires.solutions)) c.requires.acyclic

pub returns-in_ok-verdict-in-Refused-clause-turn : goal.returns-in_ok-verdict-in-Refused-clause-turn
returns-in_ok-verdict-in-Refused-clause-turn g c =
    let p = c.args.pool.now in
    let q = c.same_term.new.pool in
    let r = c.compare_heads.new.pool in
    let w = c.args.work.now in
    let f = g.S.Solutions.solution c.args.sol.now in
    let G = signature_in p c.args.sig.now in
    let s = solved_in p f in
    let pr = c.args.progress.now in
    let k : w.depth ≡ suc c.in-Some.less = let a = c.in-Some.ensures in omega arith in
    let n : AreSame s (tree p w.left) (tree p w.right) → ⊥ = λ a. false≢true (sym c.if-branch.false ∙ c.in_ok-same_term.ensures.is.1 a) in
    let o = outcome_at c.same_term.ensures.extends c.args.sig.now c.requires.stands f c.requires.solutions c.args.fuel w.left w.right r c.in_ok-refusal.field-0 c.requires.going.within.0.0 c.requires.going.within.0.1 c.in_ok-refusal.ensures.is in
    let x = subst (λ xs. Decides c.in-Refused.refusal xs c.in_ok-verdict-in-Refused.verdict) c.as_slice.ensures.value c.in_ok-verdict-in-Refused.ensures in
    refused_in_turn G s c.args.fuel p r pr.path.items c.enter.new.path.items w (items p pr.path.items (reverse pr.pending.items)) c.in-Some.less c.in-Refused.refusal c.in_ok-verdict-in-Refused.verdict
    c.in_ok-enter.ensures k n (subst (HaveOutcome G s c.args.fuel (tree p w.left) (tree p w.right) r) c.in-Refused.is o) x

pub returns-in_ok-open-in-Parts-clause-turn : goal.returns-in_ok-open-in-Parts-clause-turn
returns-in_ok-open-in-Parts-clause-turn g c =
    let p = c.args.pool.now in
    let r = c.compare_heads.new.pool in
    let w = c.args.work.now in
    let f = g.S.Solutions.solution c.args.sol.now in
    let G = signature_in p c.args.sig.now in
    let s = solved_in p f in
    let pr = c.args.progress.now in
    let to = c.enter.new.path.items in
    let ps = c.in-Parts.parts in
    let d = c.in-Some.less in
    let k : w.depth ≡ suc d = let a = c.in-Some.ensures in omega arith in
    let n : AreSame s (tree p w.left) (tree p w.right) → ⊥ = λ a. false≢true (sym c.if-branch.false ∙ c.in_ok-same_term.ensures.is.1 a) in
    let o = outcome_at c.same_term.ensures.extends c.args.sig.now c.requires.stands f c.requires.solutions c.args.fuel w.left w.right r c.in_ok-refusal.field-0 c.requires.going.within.0.0 c.requires.going.within.0.1 c.in_ok-refusal.ensures.is in
    let h = have_parts G s c.args.fuel (tree p w.left) (tree p w.right) r ps (subst (HaveOutcome G s c.args.fuel (tree p w.left) (tree p w.right) r) c.in-Parts.is o) in
    let few : length (reverse ps.items) < 2 ^ 64 = omega (arith, length-reverse ps.items, ps.ok.0, ps.ok.1, ps.small) in
    let m = moved_parts G s c.args.fuel p r pr.path.items to pr.kept w (reverse pr.pending.items) c.requires.going (Extends-trans c.same_term.ensures.extends c.compare_heads.ensures.extends) c.in_ok-enter.ensures c.put.new.self d (reverse ps.items) k n h c.in_ok-put-in-Parts.ensures few in
    let under : c.len-under.result ≡ length to = c.len-under.ensures ∙ c.enter.new.path.ok.0 in
    let e : c.open.new.pending.items ≡ pr.pending.items ++ map (work_of c.len-under.result d) ps.items = c.in_ok-open-in-Parts.ensures ∙ ap (λ xs. pr.pending.items ++ map (work_of c.len-under.result d) xs) c.as_slice-in-Parts.ensures.value in
    subst (Moves G s c.args.fuel p pr.path.items (w ∷ reverse pr.pending.items) r to c.put.new.self)
    (ap (λ j. map (work_of j d) (reverse ps.items) ++ reverse pr.pending.items) (sym under) ∙ opened pr.pending.items c.open.new.pending.items c.len-under.result d ps.items e) m
