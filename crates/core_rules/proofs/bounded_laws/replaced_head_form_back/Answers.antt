-- A head form of the replaced term comes from one of the term.
use Rattle.std.specs.Prelude.{refl}
use Rattle.core_rules.proofs.Heads.ReplacedBack.{heads_back}
use Rattle.core_rules.proofs.bounded_laws.replaced_head_form_back.Goals as goal

pub returns : goal.returns
returns c = λ g s f t es w n x a d. let b = heads_back f g s x a d t es refl refl in (b.answer, b.holds, b.is)
