use Rattle.std.proofs.Common.{◌∙◌, List, ℕ, sym, map}
use Rattle.std.specs.Prelude.{String}
use Rattle.std.specs.String.{string_bytes}
use Rattle.std.specs.declared.alloc.Global.{Global}
use Rattle.std.proofs.lemmas.List.{take-map}
use Rattle.scope_table.specs.declared.global.GlobalId.{GlobalId}
use Rattle.scope_table.specs.Known.{Known}
use Rattle.scope_table.proofs.Grown.{cut-to}
use Rattle.scope_table.proofs.scope.Scope.cut.Goals as goal

pub returns : goal.returns
returns c = λ k is grown.
    let m = c.mark.inside in
    let s = c.self.inside in
    let entry : String Global × GlobalId → List ℕ × GlobalId = λ e. (string_bytes e.0, e.1) in
    let was : Known = record { names = s.names; globals = map entry s.globals.entries; families = s.families.items; defs = s.defs; cons = s.cons; fields = s.fields } in
    let at = cut-to k was m.names m.globals m.families m.defs m.cons m.fields (c.mark.view_is ∙ is) (rw c.self.view_is grown) in
    rw (c.cut.ensures, c.truncate.ensures.entries, c.truncate-2.ensures.items, sym (take-map entry m.globals s.globals.entries)) at
