use Rattle.std.proofs.Common.{◌≡◌, is_some, false, rules, arith}
use Rattle.std.specs.String.{string_bytes}
use Rattle.std.proofs.lemmas.Grind.{common_steps}
use Rattle.scope_table.specs.Known.{place_of}
use Rattle.scope_table.proofs.Puts.{texts-put}
use Rattle.scope_table.proofs.texts.Texts.put.Goals as goal

pub returns-clause-ok : goal.returns-clause-ok
returns-clause-ok c =
    let none : is_some (place_of c.args.self.now c.args.text.now) ≡ false = first_of (search rules, grind (arith, common_steps)) in
    texts-put string_bytes c.self.inside.keys.keys c.insert.new.self.keys c.in_ok-text.text c.args.self.now c.args.text.now c.in-Ok.ensures.keys c.in_ok-text.ensures.ok c.self.view_is none
