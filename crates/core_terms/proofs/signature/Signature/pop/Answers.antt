use Rattle.std.proofs.Common.{ap, ap₂, take, sym, ◌∙◌, ◌-◌}
use Rattle.core_terms.proofs.Declared.{length-all}
use Rattle.core_terms.proofs.signature.Signature.pop.Goals as goal

pub returns : goal.returns
returns c = c.forget.ensures.is ∙ ap₂ take (ap (λ n. n - 1) (sym (length-all c.self.inside.kinds.items c.self.inside.defs.items c.self.inside.fams.items c.self.inside.cons.items c.self.inside.fields.items c.args.self.now c.self.view_is c.self.invariant))) c.self.view_is
