use Rattle.std.proofs.Common.{◌≡◌, ℕ, [], ◌++◌, List, Bool, length, map, reverse, ap, ap₂, ◌∙◌}
use Rattle.std.specs.Prelude.{string_bytes}
use Rattle.std.proofs.lemmas.Result.{on_ok_weaker}
use Rattle.core_rules.specs.Bounded.{full}
use Rattle.core_rules.specs.Signature.{Entry}
use Rattle.core_rules.specs.Substitution.{replace}
use Rattle.core_terms.specs.Solutions.{solved_in}
use Rattle.term_pool.specs.Pool.{tree}
use Rattle.core_print.specs.ContextText.{entry_lines, in_scope}
use Rattle.core_print.specs.Names.{source_names}
use Rattle.core_print.specs.Pages.{names_in}
use Rattle.core_print.specs.Variables.{WrittenVar, variables_all}
use Rattle.core_print.specs.Views.{variable_of, world_of}
use Rattle.core_print.specs.declared.variables.Variable.{Variable}
use Rattle.core_print.proofs.context_text.write_context.Goals as goal

pub returns : goal.returns
returns g c =
    let w = world_of c.args.source.now.view in
    let p = c.args.source.now.pool.now in
    let s = solved_in p (g.S.Solutions.solution c.args.sol.now) in
    let l = c.args.left.now in
    let ns = names_in w.names c.args.labels.now in
    let es = c.entries_in-entries.result.now in
    let vars : map variable_of c.as_slice.result.now ≡ variables_all l.pats =
    ap (map variable_of) c.as_slice.ensures.value ∙ (c.in_ok-push_variables.ensures
    ∙ ap₂ (λ (xs : List Variable) ps. map variable_of xs ++ variables_all ps) c.new-variables.ensures.items c.pats_in.ensures) in
    let marks : reverse c.as_slice-2.result.now ≡ in_scope (variables_all l.pats) (length l.context) [] (source_names w c.args.context.now) =
    ap reverse c.as_slice-2.ensures.value ∙ (c.in_ok-marks.ensures.is
    ∙ (ap (λ (vs : List WrittenVar). in_scope vs c.count_in.result [] (source_names w es)) vars
    ∙ ap₂ (λ (k : ℕ) (es : List (Entry ℕ)). in_scope (variables_all l.pats) k [] (source_names w es)) c.count_in.ensures c.entries_in-entries.ensures)) in
    on_ok_weaker c.write_entries.result
    (λ h. λ a. h a ∙ ap₂ (λ (bs : List Bool) (es : List (Entry ℕ)). string_bytes c.args.out.now ++ entry_lines w ns bs (map (λ e. replace (full s a) (tree p e.ty)) (reverse es))) marks c.entries_in-entries.ensures)
    c.write_entries.ensures
