-- Argument lists whose items are held last first.
use Rattle.std.proofs.Common.{◌≡◌, sym, ap, ◌∙◌, List, length}
use Rattle.std.specs.Prelude.{reverse}
use Rattle.std.proofs.lemmas.List.{reverse-reverse, length-reverse}
use Rattle.core_rules.specs.Term.{Term, Terms, from_list, to_list, env_of}
use Rattle.core_terms.proofs.Instances.{to_from}

-- as an environment they are the items as they are held
pub env-reversed : (us : List Term) (ts : Terms) → from_list (reverse us) ≡ ts → env_of ts ≡ us
env-reversed us ts e = ap env_of (sym e) ∙ (ap reverse (to_from (reverse us)) ∙ reverse-reverse us)

pub count-reversed : (us : List Term) (ts : Terms) → from_list (reverse us) ≡ ts → length (to_list ts) ≡ length us
count-reversed us ts e = ap (λ xs. length (to_list xs)) (sym e) ∙ (ap length (to_from (reverse us)) ∙ length-reverse us)
