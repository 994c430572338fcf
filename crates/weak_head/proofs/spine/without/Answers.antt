use Rattle.std.proofs.Common.{◌∙◌, ◌-◌, ap, take}
use Rattle.weak_head.proofs.Spines.{spine_without}
use Rattle.weak_head.proofs.spine.without.Goals as goal

pub returns-clause-is : goal.returns-clause-is
returns-clause-is c = λ f. spine_without f c.args.n c.args.spine.items c.truncate.new.self.items (c.truncate.ensures.items ∙ ap (λ k. take k c.args.spine.items) (c.saturating_sub.ensures ∙ ap (λ k. k - c.args.n) c.len-len.ensures.value))
