use Rattle.std.proofs.Common.{◌≡◌, ap, is_some, false, rules, arith}
use Rattle.std.specs.String.{string_bytes}
use Rattle.std.proofs.lemmas.Grind.{common_steps}
use Rattle.scope_table.specs.Known.{Known, global_in}
use Rattle.scope_table.proofs.Puts.{globals-put}
use Rattle.scope_table.proofs.scope.Scope.declare.Goals as goal

pub returns-clause-ok : goal.returns-clause-ok
returns-clause-ok c =
    let none : is_some (global_in c.args.self.now.globals c.args.text.now) ≡ false = first_of (search rules, grind (arith, common_steps)) in
    let put = globals-put string_bytes c.self.inside.globals.entries c.insert.new.self.entries c.in_ok-text.text c.args.global c.args.self.now.globals c.args.text.now
    c.in-Ok.ensures.entries c.in_ok-text.ensures.ok (ap (λ (k : Known). k.globals) c.self.view_is) none in
    let was = c.self.view_is in
    first_of (search rules, grind (arith, common_steps))
