use Rattle.std.proofs.Common.{ap, sym}
use Rattle.lhs_rules.specs.Rules.{ElimMeaning, braces_of}
use Rattle.lhs_elab.proofs.Forming.{by-implicit, by-named, by-project, by-variable, by-con, by-underscore, by-absurd, by-dotted}
use Rattle.lhs_elab.proofs.forms.braces.Goals as goal

pub returns-in-Implicit : goal.returns-in-Implicit
returns-in-Implicit c = λ g f. ap (λ (m : ElimMeaning). braces_of m.next) (sym (by-implicit g f c.args.pattern.now _ _ c.in-Implicit.is))

pub returns-in-Named : goal.returns-in-Named
returns-in-Named c = λ g f. ap (λ (m : ElimMeaning). braces_of m.next) (sym (by-named g f c.args.pattern.now _ _ _ c.in-Named.is))

pub returns-in-Project : goal.returns-in-Project
returns-in-Project c = λ g f. ap (λ (m : ElimMeaning). braces_of m.next) (sym (by-project g f c.args.pattern.now _ _ c.in-Project.is))

pub returns-in-Variable : goal.returns-in-Variable
returns-in-Variable c = λ g f. ap (λ (m : ElimMeaning). braces_of m.next) (sym (by-variable g f c.args.pattern.now _ c.in-Variable.is))

pub returns-in-Con : goal.returns-in-Con
returns-in-Con c = λ g f. ap (λ (m : ElimMeaning). braces_of m.next) (sym (by-con g f c.args.pattern.now _ _ _ c.in-Con.is))

pub returns-in-Underscore : goal.returns-in-Underscore
returns-in-Underscore c = λ g f. ap (λ (m : ElimMeaning). braces_of m.next) (sym (by-underscore g f c.args.pattern.now _ c.in-Underscore.is))

pub returns-in-Absurd : goal.returns-in-Absurd
returns-in-Absurd c = λ g f. ap (λ (m : ElimMeaning). braces_of m.next) (sym (by-absurd g f c.args.pattern.now _ c.in-Absurd.is))

pub returns-in-Dotted : goal.returns-in-Dotted
returns-in-Dotted c = λ g f. ap (λ (m : ElimMeaning). braces_of m.next) (sym (by-dotted g f c.args.pattern.now _ _ c.in-Dotted.is))
