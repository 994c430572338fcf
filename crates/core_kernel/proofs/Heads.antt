-- What a bounded head form that was found shows.
use Rattle.std.proofs.Common.{◌<◌, ℕ, length, ap, sym}
use Rattle.std.specs.Prelude.{Some, None}
use Rattle.core_rules.specs.Term.{Term}
use Rattle.core_rules.specs.Signature.{Signature}
use Rattle.core_rules.specs.Heads.{Answer, Form, Blocked, Within, HeadOf}
use Rattle.core_rules.specs.BoundedLaws.{no_solutions, shown}
use Rattle.term_pool.specs.Pool.{Pool, StandsFor, tree}
use Rattle.weak_head.specs.Answers.{IsOf, IsFound}
use Rattle.kernel_rules.specs.Outcome.{Gives, Refuses}
use Rattle.kernel_rules.specs.Refusals.{MetaLeft}
use Rattle.kernel_rules.specs.TermReading.{ShowsForm}

module _ (g : Signature Term) (fuel depth : ℕ) (a : Term) (p : Pool) where
  form_by : (v : Answer) (u n : ℕ) → HeadOf g no_solutions a fuel (Within v n) → IsOf None v → StandsFor p u (shown v) → (u < length p.trees) × ShowsForm g fuel depth a (Gives (tree p u))
  form_by (Form h es) u n d k s = (s.within, (Within (Form h es) n, d, ap Gives s.is))
  form_by (Blocked m h es) u n d k s = absurd k

  pub found_form : (u n : ℕ) → IsFound g no_solutions a fuel p None u n → (u < length p.trees) × ShowsForm g fuel depth a (Gives (tree p u))
  found_form u n f = form_by f.answer u n f.is f.kind f.term

  blocked_by : (v : Answer) (m n : ℕ) → HeadOf g no_solutions a fuel (Within v n) → IsOf (Some m) v → ShowsForm g fuel depth a (Refuses (MetaLeft m))
  blocked_by (Form h es) m n d k = absurd k
  blocked_by (Blocked i h es) m n d k = (Within (Blocked i h es) n, d, ap (λ j. Refuses (MetaLeft j)) (sym k))

  pub found_blocked : (m u n : ℕ) → IsFound g no_solutions a fuel p (Some m) u n → ShowsForm g fuel depth a (Refuses (MetaLeft m))
  found_blocked m u n f = blocked_by f.answer m n f.is f.kind
