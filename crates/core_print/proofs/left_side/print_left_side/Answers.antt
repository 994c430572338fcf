use Rattle.std.proofs.Common.{◌≡◌, ◌++◌, List, map, sym, ap, ap₂, ◌∙◌}
use Rattle.std.specs.Prelude.{string_bytes}
use Rattle.core_rules.specs.Mapped.{pats_map}
use Rattle.term_pool.specs.Pool.{tree}
use Rattle.core_print.specs.Apart.{Text}
use Rattle.core_print.specs.LeftSide.{pats_text, value_names}
use Rattle.core_print.specs.Pages.{bound_in, names_in}
use Rattle.core_print.specs.Variables.{variables_all}
use Rattle.core_print.specs.Views.{variable_of, world}
use Rattle.core_print.specs.declared.pattern_names.Bound.{Bound}
use Rattle.core_print.specs.declared.variables.Variable.{Variable}
use Rattle.core_print.proofs.LeftTexts.{left_is}
use Rattle.core_print.proofs.left_side.print_left_side.Goals as goal

pub returns : goal.returns
returns c =
    let w = world c.args.names.now c.args.sig.now c.args.holes.now in
    let p = c.args.pool.now in
    let l = c.args.left.now in
    let vs = map variable_of c.as_slice-2.result.now in
    let bs = bound_in w.names c.as_slice-4.result.now in
    let ns = names_in w.names c.as_slice-5.result.now in
    let vars : vs ≡ variables_all l.pats =
    ap (map variable_of) c.as_slice-2.ensures.value ∙ (c.in_ok-push_variables.ensures
    ∙ ap₂ (λ (xs : List Variable) ps. map variable_of xs ++ variables_all ps) c.new-variables.ensures.items c.pats_in.ensures) in
    let inside : ns ≡ value_names bs c.count_in.result =
    ap (names_in w.names) c.as_slice-5.ensures.value ∙ (c.in_ok-inside.ensures w.names
    ∙ ap (λ (bs : List Bound). value_names (bound_in w.names bs) c.count_in.result) (c.as_slice-3.ensures.value ∙ sym c.as_slice-4.ensures.value)) in
    left_is w c.args.function (tree p) l vs bs ns c.count_in.result c.name.result.now c.as_str.result.now (string_bytes c.push_str.new.self) vars
    (ap (bound_in w.names) c.as_slice-4.ensures.value ∙ c.in_ok-bound.ensures) inside c.count_in.ensures c.name.ensures
    (c.as_str.ensures.value ∙ (c.in_ok-pats.ensures ∙ ap (λ ps. pats_text w bs ns (pats_map (tree p) ps)) c.pats_in-2.ensures))
    (c.in_ok-push_str.ensures.bytes ∙ ap (λ (x : Text). x ++ c.as_str.result.now) c.in_ok-out.ensures.ok)
