use Rattle.std.proofs.Common.{◌∙◌, ap}
use Rattle.std.specs.String.{string_bytes}
use Rattle.scope_table.specs.Known.{Known, global_in}
use Rattle.scope_table.proofs.Places.{lookup-global_in}
use Rattle.scope_table.proofs.scope.Scope.global.Goals as goal

pub returns-in-Some : goal.returns-in-Some
returns-in-Some c =
    c.in-Some.ensures.value ∙ lookup-global_in string_bytes c.args.text.now c.self.inside.globals.entries
    ∙ ap (λ (k : Known). global_in k.globals c.args.text.now) c.self.view_is

pub returns-in-None : goal.returns-in-None
returns-in-None c =
    c.in-None.ensures.value ∙ lookup-global_in string_bytes c.args.text.now c.self.inside.globals.entries
    ∙ ap (λ (k : Known). global_in k.globals c.args.text.now) c.self.view_is
