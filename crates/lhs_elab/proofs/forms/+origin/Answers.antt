use Rattle.std.proofs.Common.{ap, sym, ◌∙◌}
use Rattle.lhs_rules.specs.Rules.{ElimMeaning}
use Rattle.lhs_rules.specs.Patterns.{inside, pattern_meaning}
use Rattle.resolved_tree.specs.declared.resolved.ResolvedPattern.{ResolvedPattern}
use Rattle.lhs_elab.proofs.Forming.{by-implicit, by-named, by-project, by-variable, by-con, by-underscore, by-absurd, by-dotted}
use Rattle.lhs_elab.proofs.forms.«+origin».Goals as goal

pub returns-in-Implicit : goal.returns-in-Implicit
returns-in-Implicit t c = λ g f. c.origin.ensures g f ∙ ap (λ (r : ResolvedPattern). (inside (pattern_meaning g f r)).origin) c.get.ensures ∙ ap (λ (m : ElimMeaning). (inside m).origin) (sym (by-implicit g f c.args.pattern.now _ _ c.in-Implicit.is))

pub returns-in-Named : goal.returns-in-Named
returns-in-Named t c = λ g f. c.origin-in-Named.ensures g f ∙ ap (λ (r : ResolvedPattern). (inside (pattern_meaning g f r)).origin) c.get-in-Named.ensures ∙ ap (λ (m : ElimMeaning). (inside m).origin) (sym (by-named g f c.args.pattern.now _ _ _ c.in-Named.is))

pub returns-in-Project : goal.returns-in-Project
returns-in-Project t c = λ g f. ap (λ (m : ElimMeaning). (inside m).origin) (sym (by-project g f c.args.pattern.now _ _ c.in-Project.is))

pub returns-in-Variable : goal.returns-in-Variable
returns-in-Variable t c = λ g f. ap (λ (m : ElimMeaning). (inside m).origin) (sym (by-variable g f c.args.pattern.now _ c.in-Variable.is))

pub returns-in-Con : goal.returns-in-Con
returns-in-Con t c = λ g f. ap (λ (m : ElimMeaning). (inside m).origin) (sym (by-con g f c.args.pattern.now _ _ _ c.in-Con.is))

pub returns-in-Underscore : goal.returns-in-Underscore
returns-in-Underscore t c = λ g f. ap (λ (m : ElimMeaning). (inside m).origin) (sym (by-underscore g f c.args.pattern.now _ c.in-Underscore.is))

pub returns-in-Absurd : goal.returns-in-Absurd
returns-in-Absurd t c = λ g f. ap (λ (m : ElimMeaning). (inside m).origin) (sym (by-absurd g f c.args.pattern.now _ c.in-Absurd.is))

pub returns-in-Dotted : goal.returns-in-Dotted
returns-in-Dotted t c = λ g f. ap (λ (m : ElimMeaning). (inside m).origin) (sym (by-dotted g f c.args.pattern.now _ _ c.in-Dotted.is))
