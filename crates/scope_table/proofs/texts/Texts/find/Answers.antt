use Rattle.std.proofs.Common.{◌∙◌, ap, List, ℕ}
use Rattle.std.specs.String.{string_bytes}
use Rattle.scope_table.specs.Known.{place_of}
use Rattle.scope_table.proofs.Places.{position-place_of}
use Rattle.scope_table.proofs.texts.Texts.find.Goals as goal

pub returns-in-Some : goal.returns-in-Some
returns-in-Some c =
    c.in-Some.ensures.index ∙ position-place_of string_bytes c.self.inside.keys.keys c.args.text.now
    ∙ ap (λ (ns : List (List ℕ)). place_of ns c.args.text.now) c.self.view_is

pub returns-in-None : goal.returns-in-None
returns-in-None c =
    c.in-None.ensures.index ∙ position-place_of string_bytes c.self.inside.keys.keys c.args.text.now
    ∙ ap (λ (ns : List (List ℕ)). place_of ns c.args.text.now) c.self.view_is
