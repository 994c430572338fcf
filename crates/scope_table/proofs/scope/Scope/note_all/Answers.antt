use Rattle.std.proofs.Common.{◌∙◌, List, sym, ap, map, arith}
use Rattle.scope_table.specs.Known.{with_names, with_texts}
use Rattle.std.proofs.lemmas.List.{nil_from_length}
use Rattle.scope_table.proofs.scope.Scope.note_all.Goals as goal

pub returns-clause-ok : goal.returns-clause-ok
unfolding with_texts
returns-clause-ok c =
    let none = nil_from_length c.loop-left.left.now (omega (arith, c.in_default.len_below)) in
    sym (c.loop-left.invariant.rest ∙ ap (λ (xs : List _). with_names c.loop-left.self (with_texts c.loop-left.self.names (map (λ t. t.now) xs))) none)
