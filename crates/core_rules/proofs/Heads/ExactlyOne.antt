-- What is a function of its inputs has exactly one answer.
use Rattle.std.specs.Prelude.{◌≡◌, ℕ, List, [], ◌∷◌, refl}
use Rattle.std.proofs.Common.{ap, sym, ◌∙◌}
use Rattle.core_rules.specs.Term.{Term}
use Rattle.core_rules.specs.Signature.{Signature}
use Rattle.core_rules.specs.Elimination.{Elim, Arg}
use Rattle.core_rules.specs.InScope.{IsAcyclic}
use Rattle.core_rules.specs.Unification as U
use Rattle.core_rules.specs.Unification.{Equation, eq, Pairs}
use Rattle.core_rules.specs.Heads.{Solutions, HeadOf}
use Rattle.core_rules.specs.Bounded.{ConvOf}
use Rattle.core_rules.specs.BoundedLaws.{ExactlyOne}
use Rattle.core_rules.proofs.Heads.Needed.{head_of_stands, verdict_stands}
use Rattle.core_rules.proofs.Heads.OneVerdict.{head_of_one, conv_of_one}

pub exactly_one_head : (g : Signature Term) (s : Solutions) (t : Term) (fuel : ℕ) → IsAcyclic s → ExactlyOne (HeadOf g s t fuel)
exactly_one_head g s t fuel a = let x = head_of_stands g s t fuel a in (x.0, x.1, λ y h. head_of_one g s t fuel y x.0 h x.1)

pub exactly_one_verdict : (g : Signature Term) (s : Solutions) (fuel depth : ℕ) (t u : Term) → IsAcyclic s → ExactlyOne (ConvOf g s fuel depth t u)
exactly_one_verdict g s fuel depth t u a = let x = verdict_stands g s fuel depth t u a in (x.0, x.1, λ y h. conv_of_one g s fuel depth t u y x.0 h x.1)

abbrev paired : List Elim → List Elim → List Equation
paired (Arg b t ∷ es) (Arg c u ∷ ds) = eq t u ∷ paired es ds
paired _ _ = []

is_paired : {es ds : List Elim} {qs : List Equation} → Pairs es ds qs → qs ≡ paired es ds
is_paired U.no_pair = refl
is_paired (U.pair {t = t} {u = u} p) = ap (λ qs. eq t u ∷ qs) (is_paired p)

pub one_pairing : {es ds : List Elim} {ps qs : List Equation} → Pairs es ds ps → Pairs es ds qs → ps ≡ qs
one_pairing p q = is_paired p ∙ sym (is_paired q)
