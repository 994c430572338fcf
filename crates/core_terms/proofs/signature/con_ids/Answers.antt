use Rattle.std.proofs.Common.{◌++◌, ◌∷◌, [], ap₂, sym, ◌∙◌}
use Rattle.core_terms.proofs.Declared.{numbers-next}
use Rattle.core_terms.proofs.signature.con_ids.Goals as goal

pub loop-i-preserved : goal.loop-i-preserved
loop-i-preserved c = c.in_ok-push.ensures.items ∙ (ap₂ (λ xs j. xs ++ j ∷ []) c.loop-i.invariant c.new.ensures ∙ sym (numbers-next c.args.first c.loop-i.i))
