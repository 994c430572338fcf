-- Bounded head forms that the code has, and forms as terms, as the pool grows.
use Rattle.std.specs.Prelude.{◌≡◌, ℕ, length, Option, Some, None, refl}
use Rattle.std.proofs.Common.{ap}
use Rattle.core_rules.specs.Term.{Term}
use Rattle.core_rules.specs.Signature.{Signature}
use Rattle.core_rules.specs.Elimination.{elims}
use Rattle.core_rules.specs.Heads.{Solutions, Form, Blocked, Within, HeadOf}
use Rattle.term_pool.specs.Pool.{Pool, Extends, tree}
use Rattle.term_pool.specs.Growth.{Extends-tree}
use Rattle.weak_head.specs.declared.answer.Reduced as R
use Rattle.weak_head.specs.declared.answer.Reduced.TheVariants as RV
use Rattle.weak_head.specs.declared.state.Applied as A
use Rattle.weak_head.specs.Answers.{IsReduced}
use Rattle.weak_head.specs.Elims.{spine_in}
use Rattle.weak_head.specs.States.{AppliedBelow, answer_in}
use Rattle.conversion.specs.Outcome.{bounded_in, ReducedBelow}
use Rattle.conversion.proofs.Stays.{applied_more, spine_stays}

module _ (g : Signature Term) (s : Solutions) (t : Term) (fuel : ℕ) (p : Pool) where
  pub reduced_below : (r : R.Reduced) → IsReduced g s t fuel p r → ReducedBelow (length p.trees) r
  reduced_below (RV.Found m a n) h = h.0
  reduced_below RV.OutOfFuel h = tt

  pub reduced_head : (r : R.Reduced) → IsReduced g s t fuel p r → HeadOf g s t fuel (bounded_in (tree p) r)
  reduced_head (RV.Found m a n) h = h.1
  reduced_head RV.OutOfFuel h = h

module _ {p q : Pool} (g : Extends p q) where
  pub form_stays : (a : A.Applied) → AppliedBelow (length p.trees) a → elims (tree q a.head) (spine_in (tree q) a.spine.items) ≡ elims (tree p a.head) (spine_in (tree p) a.spine.items)
  form_stays a h =
      let e = Extends-tree a.head g h.0 in
      let d = spine_stays g a.spine.items h.1 in
      let x : _ = λ i. elims (e i) (d i) in x

  answer_stays : (m : Option ℕ) (a : A.Applied) → AppliedBelow (length p.trees) a → answer_in (tree q) m a ≡ answer_in (tree p) m a
  answer_stays None a h =
      let e = Extends-tree a.head g h.0 in
      let d = spine_stays g a.spine.items h.1 in
      let x : _ = λ i. Form (e i) (d i) in x
  answer_stays (Some m) a h =
      let e = Extends-tree a.head g h.0 in
      let d = spine_stays g a.spine.items h.1 in
      let x : _ = λ i. Blocked m (e i) (d i) in x

  pub reduced_more : (r : R.Reduced) → ReducedBelow (length p.trees) r → ReducedBelow (length q.trees) r
  reduced_more (RV.Found m a n) h = applied_more g a h
  reduced_more RV.OutOfFuel h = tt

  pub bounded_stays : (r : R.Reduced) → ReducedBelow (length p.trees) r → bounded_in (tree q) r ≡ bounded_in (tree p) r
  bounded_stays (RV.Found m a n) h = ap (λ w. Within w n) (answer_stays m a h)
  bounded_stays RV.OutOfFuel h = refl
