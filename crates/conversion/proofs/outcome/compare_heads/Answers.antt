use Rattle.std.proofs.Common.{ℕ, Option, sym, ◌∙◌, subst}
use Rattle.core_rules.specs.InScope.{IsAcyclic}
use Rattle.core_rules.specs.Bounded.{decide}
use Rattle.term_pool.specs.Pool.{tree}
use Rattle.term_pool.specs.Growth.{Extends-trans}
use Rattle.core_terms.specs.Signature.{signature_in}
use Rattle.core_terms.specs.Solutions.{solved_in, solved_in-stays}
use Rattle.core_terms.proofs.SignatureGrowth.{Stands-extends, signature_in-extends}
use Rattle.conversion.specs.Outcome.{bounded_in}
use Rattle.conversion.proofs.Reducing.{reduced_below, reduced_head, reduced_more, bounded_stays}
use Rattle.conversion.proofs.Turning.{head_at}
use Rattle.conversion.proofs.outcome.compare_heads.Goals as goal

pub reduce-requires-2-clause-stands : goal.reduce-requires-2-clause-stands
reduce-requires-2-clause-stands g c = Stands-extends c.args.pool.now c.reduce.new.pool c.args.sig.now c.in_ok-left.ensures.extends c.requires.stands

pub reduce-requires-2-clause-acyclic : goal.reduce-requires-2-clause-acyclic
reduce-requires-2-clause-acyclic g c = subst IsAcyclic (sym (solved_in-stays c.args.pool.now c.reduce.new.pool (g.S.Solutions.solution c.args.sol.now) c.in_ok-left.ensures.extends c.requires.solutions)) c.requires.acyclic

pub decided-requires-clause-left : goal.decided-requires-clause-left
decided-requires-clause-left g c =
    let p = c.args.pool.now in
    let f : ℕ → Option ℕ = g.S.Solutions.solution c.args.sol.now in
    reduced_more c.in_ok-right.ensures.extends c.in_ok-left.left
    (reduced_below (signature_in p c.args.sig.now) (solved_in p f) (tree p c.args.t) c.args.fuel c.reduce.new.pool c.in_ok-left.left c.in_ok-left.ensures.answer)

pub returns-clause-is : goal.returns-clause-is
returns-clause-is g c =
    let p = c.args.pool.now in
    let p1 = c.reduce.new.pool in
    let p2 = c.reduce-2.new.pool in
    let f : ℕ → Option ℕ = g.S.Solutions.solution c.args.sol.now in
    let G = signature_in p c.args.sig.now in
    let s = solved_in p f in
    let e1 = c.in_ok-left.ensures.extends in
    let e2 = c.in_ok-right.ensures.extends in
    let below = reduced_below G s (tree p c.args.t) c.args.fuel p1 c.in_ok-left.left c.in_ok-left.ensures.answer in
    let stay = bounded_stays e2 c.in_ok-left.left below in
    let g2 = signature_in-extends p p2 c.args.sig.now (Extends-trans e1 e2) c.requires.stands in
    let d : _ = λ i. decide (g2 i) (stay i) (bounded_in (tree p2) c.in_ok-right.right) in
    record {
      left = bounded_in (tree p1) c.in_ok-left.left;
      right = bounded_in (tree p2) c.in_ok-right.right;
      is_left = reduced_head G s (tree p c.args.t) c.args.fuel p1 c.in_ok-left.left c.in_ok-left.ensures.answer;
      is_right = head_at e1 c.args.sig.now c.requires.stands f c.requires.solutions c.args.u c.args.fuel (bounded_in (tree p2) c.in_ok-right.right) c.requires.u
          (reduced_head (signature_in p1 c.args.sig.now) (solved_in p1 f) (tree p1 c.args.u) c.args.fuel p2 c.in_ok-right.right c.in_ok-right.ensures.answer);
      is = sym d ∙ c.in_ok-found.ensures.is;
      stands = c.in_ok-found.ensures.stands;
    }
