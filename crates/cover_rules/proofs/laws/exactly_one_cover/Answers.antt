-- An answer, since each term has a bounded head form; and one.
use Rattle.std.proofs.Common.{◌∙◌, sym, refl}
use Rattle.core_rules.specs.UnifierAnswers.{answers}
use Rattle.core_rules.specs.BoundedLaws.{no_solutions}
use Rattle.core_rules.proofs.Heads.Needed.{head_of_stands}
use Rattle.core_rules.proofs.Heads.Same.{nothing_acyclic}
use Rattle.cover_rules.proofs.One.{cover_one}
use Rattle.cover_rules.proofs.Total.{each_covered}
use Rattle.cover_rules.proofs.laws.exactly_one_cover.Goals as goal

pub returns : goal.returns
returns c = λ g fuel u f qs ready n.
    let w = each_covered g fuel (λ t. head_of_stands g no_solutions t fuel nothing_acyclic) (answers u) (λ c es. (u c es, refl)) f qs ready n in
    (w.0, w.1, (λ v x. cover_one g no_solutions fuel (answers u) (λ c es v w a b. a ∙ sym b) f qs x w.1))
