use Rattle.std.proofs.Common.{arith, ◌<◌, ◌∷◌, []}
use Rattle.el_base.proofs.Throughout.{all-append, all-at}
use Rattle.std.proofs.lemmas.Option.{slice_get_read}
use Rattle.std.proofs.Common.{length, refl, ◌-◌}
use Rattle.elab_machine.proofs.Recorded.{env-next}
use Rattle.elab_machine.proofs.record.env_of.Goals as goal

pub loop-left-preserved : goal.loop-left-preserved
loop-left-preserved c =
    let l = c.loop-left in
    let i = l.invariant in
    let h = env-next c.args.room l.left c.args.filler c.args.terms.now l.env.items c.push.new.self.items c.index-terms-left.result (omega (arith, c.loop-left-test.true)) i.within c.index-terms-left.is c.in_ok-push.ensures.items i.count i.is in
    record {
      within = omega (arith, i.within);
      count = h.0;
      is = h.1;
      below = λ n all low. rw c.in_ok-push.ensures.items (all-append (λ t. t < n) l.env.items (c.index-terms-left.result ∷ []) (i.below n all low) (all-at (λ t. t < n) c.args.terms.now (l.left - 1) c.index-terms-left.result all (slice_get_read c.args.terms.now (length c.args.terms.now) (l.left - 1) c.index-terms-left.result refl (omega (arith, i.within, c.loop-left-test.true)) c.index-terms-left.is), tt));
    }
