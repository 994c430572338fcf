-- What two head forms ask for, with terms by their ids in a pool.
use Rattle.std.specs.Prelude.{◌≡◌, ℕ, ◌<◌, [], length}
use Rattle.std.specs.List.{AllByRecursion}
use Rattle.core_rules.specs.Term.{Term}
use Rattle.core_rules.specs.Signature.{Signature}
use Rattle.core_rules.specs.Heads.{Solutions, Bounded, Within, Out, HeadOf}
use Rattle.core_rules.specs.Bounded as B
use Rattle.core_rules.specs.Bounded.{Verdict, Decision, decide}
use Rattle.term_pool.specs.Pool.{Pool, tree}
use Rattle.weak_head.specs.declared.answer.Reduced as R
use Rattle.weak_head.specs.declared.answer.Reduced.TheVariants as RV
use Rattle.weak_head.specs.States.{AppliedBelow, answer_in}
use Rattle.conversion.specs.declared.outcome.Refusal.{Refusal}
use Rattle.conversion.specs.declared.outcome.Refusal.TheVariants.{Differ, OutOfFuel, WaitsFor}
use Rattle.conversion.specs.declared.outcome.Outcome.{Outcome}
use Rattle.conversion.specs.declared.outcome.Outcome.TheVariants.{Refused, Parts}
use Rattle.conversion.specs.Part.{all_in, PartBelow}

-- where f gives the trees of ids
abbrev pub bounded_in : (ℕ → Term) → R.Reduced → Bounded
bounded_in f (RV.Found m a n) = Within (answer_in f m a) n
bounded_in f RV.OutOfFuel = Out

abbrev pub ReducedBelow : ℕ → R.Reduced → Type 0
ReducedBelow n (RV.Found m a k) = AppliedBelow n a
ReducedBelow n RV.OutOfFuel = Unit {0}

abbrev pub refusal : Pool → Refusal → Verdict
refusal p (Differ t u) = B.No (tree p t) (tree p u) []
refusal p OutOfFuel = B.OutOfFuel
refusal p (WaitsFor m) = B.WaitsFor m

abbrev pub decision : Pool → Outcome → Decision
decision p (Refused r) = B.Now (refusal p r)
decision p (Parts ps) = B.Parts (all_in (tree p) ps.items)

abbrev pub RefusalStands : Pool → Refusal → Type 0
RefusalStands p (Differ t u) = (t < length p.trees) × (u < length p.trees)
RefusalStands p OutOfFuel = Unit {0}
RefusalStands p (WaitsFor m) = Unit {0}

abbrev pub OutcomeStands : Pool → Outcome → Type 0
OutcomeStands p (Refused r) = RefusalStands p r
OutcomeStands p (Parts ps) = AllByRecursion (PartBelow (length p.trees)) ps.items

-- the head forms of t and u ask for what o is in the pool p
pub record HaveOutcome (g : Signature Term) (s : Solutions) (fuel : ℕ) (t u : Term) (p : Pool) (o : Outcome) : Type 0 where
  pub left : Bounded
  pub right : Bounded
  pub is_left : HeadOf g s t fuel left
  pub is_right : HeadOf g s u fuel right
  pub is : decide g left right ≡ decision p o
  pub stands : OutcomeStands p o
