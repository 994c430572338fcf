-- The loop keeps what is left, and what it leads to.
use Rattle.std.proofs.Common.{◌≡◌, ◌∷◌, reverse, sym, ap, ◌∙◌, subst}
use Rattle.el_base.proofs.Lists.{reverse_push}
use Rattle.core_rules.specs.Bounded.{ConvOf}
use Rattle.term_pool.specs.Pool.{tree}
use Rattle.term_pool.specs.Growth.{Extends-trans}
use Rattle.core_terms.specs.Signature.{signature_in}
use Rattle.core_terms.specs.Solutions.{solved_in}
use Rattle.core_terms.proofs.SignatureGrowth.{Stands-extends}
use Rattle.conversion.specs.Conv.{IsVerdict}
use Rattle.conversion.specs.Pending.{items, InTurn, Going, Moves, Turn}
use Rattle.conversion.proofs.Verdicts.{verdict_weaker}
use Rattle.conversion.proofs.Turning.{from_both, to_both}
use Rattle.conversion.proofs.comparing.compare.Goals as goal

pub turn-requires-clause-stands : goal.turn-requires-clause-stands
turn-requires-clause-stands g c = Stands-extends _ _ _ c.loop-work.invariant.extends c.requires.stands

pub turn-requires-clause-going : goal.turn-requires-clause-going
turn-requires-clause-going g c =
    let p = c.args.pool.now in
    let q = c.loop-work.pool in
    let f = g.S.Solutions.solution c.args.sol.now in
    let sig = c.args.sig.now in
    let pr = c.loop-work.progress in
    let e : reverse pr.pending.items ≡ c.in-Some.work ∷ reverse c.pop.new.self.items = ap reverse c.in-Some.ensures.items ∙ reverse_push c.pop.new.self.items c.in-Some.work in
    let h = subst (Going (signature_in p sig) (solved_in p f) c.args.limits.fuel q pr.path.items pr.kept) e c.loop-work.invariant.going in
    to_both c.loop-work.invariant.extends sig c.requires.stands f c.requires.solutions (λ G s. Going G s c.args.limits.fuel q pr.path.items pr.kept (c.in-Some.work ∷ reverse c.pop.new.self.items)) h

pub returns-in-Some-decided-clause-answer : goal.returns-in-Some-decided-clause-answer
returns-in-Some-decided-clause-answer g c =
    let p = c.args.pool.now in
    let q = c.loop-work.pool in
    let r = c.turn.new.pool in
    let f = g.S.Solutions.solution c.args.sol.now in
    let sig = c.args.sig.now in
    let G = signature_in p sig in
    let s = solved_in p f in
    let pr = c.loop-work.progress in
    let ws = c.in-Some.work ∷ reverse c.pop.new.self.items in
    let e : reverse pr.pending.items ≡ ws = ap reverse c.in-Some.ensures.items ∙ reverse_push c.pop.new.self.items c.in-Some.work in
    let t = subst (λ o. Turn (signature_in q sig) (solved_in q f) c.args.limits.fuel q pr.path.items ws o r c.turn.new.progress.path.items c.turn.new.progress.kept (reverse c.turn.new.progress.pending.items)) c.in-Some-decided.is c.in_ok-decided.ensures.turn in
    let a = from_both c.loop-work.invariant.extends sig c.requires.stands f c.requires.solutions (λ G s. IsVerdict (InTurn G s c.args.limits.fuel (items q pr.path.items ws)) r c.in-Some-decided.verdict) t in
    let b = subst (λ l. IsVerdict (InTurn G s c.args.limits.fuel (items q pr.path.items l)) r c.in-Some-decided.verdict) (sym e) a in
    verdict_weaker (InTurn G s c.args.limits.fuel (items q pr.path.items (reverse pr.pending.items))) (ConvOf G s c.args.limits.fuel c.args.limits.depth (tree p c.args.t) (tree p c.args.u)) r c.in-Some-decided.verdict (λ v k. c.loop-work.invariant.leads v k) b

pub loop-work-preserved : goal.loop-work-preserved
loop-work-preserved g c =
    let p = c.args.pool.now in
    let q = c.loop-work.pool in
    let r = c.turn.new.pool in
    let f = g.S.Solutions.solution c.args.sol.now in
    let sig = c.args.sig.now in
    let pr = c.loop-work.progress in
    let to = c.turn.new.progress in
    let vs = reverse to.pending.items in
    let ws = c.in-Some.work ∷ reverse c.pop.new.self.items in
    let e : reverse pr.pending.items ≡ ws = ap reverse c.in-Some.ensures.items ∙ reverse_push c.pop.new.self.items c.in-Some.work in
    let t = subst (λ o. Turn (signature_in q sig) (solved_in q f) c.args.limits.fuel q pr.path.items ws o r to.path.items to.kept vs) c.in_default-decided.is c.in_ok-decided.ensures.turn in
    let m = from_both c.loop-work.invariant.extends sig c.requires.stands f c.requires.solutions (λ G s. Moves G s c.args.limits.fuel q pr.path.items ws r to.path.items to.kept vs) t in
    record {
      extends = Extends-trans c.loop-work.invariant.extends c.turn.ensures.extends;
      going = m.going;
      leads = λ v k. c.loop-work.invariant.leads v (subst (λ l. InTurn (signature_in p sig) (solved_in p f) c.args.limits.fuel (items q pr.path.items l) v) (sym e) (m.leads v k));
    }
