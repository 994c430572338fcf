-- There is one need to each head form.
use Rattle.std.specs.Prelude.{ℕ, Option, refl}
use Rattle.std.proofs.Common.{ap, ◌∙◌}
use Rattle.core_rules.specs.Term.{Term}
use Rattle.core_rules.specs.InScope.{IsAcyclic}
use Rattle.core_rules.specs.Signature.{Signature}
use Rattle.core_rules.specs.Heads.{Solutions}
use Rattle.core_rules.specs.BoundedLaws.{ExactlyOne}
use Rattle.core_rules.proofs.Heads.ExactlyOne.{exactly_one_head}
use Rattle.need_rules.specs.Needs.{Next, NeedOf, need_within}

pub exactly_one : {E : Type 0} (g : Signature Term) (s : Solutions) (t : Term) (next : Option (Next E)) (fuel : ℕ) → IsAcyclic s → ExactlyOne (NeedOf g s t next fuel)
exactly_one g s t next fuel a =
    let h = exactly_one_head g s t fuel a in
    (need_within g next h.0, record { head = h.0; is = h.1; need = refl }, (λ v x. x.need ∙ ap (need_within g next) (h.2 x.head x.is)))
