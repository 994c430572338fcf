use Rattle.std.proofs.Common.{◌≡◌, ◌++◌, ap₂, ◌∙◌}
use Rattle.std.specs.Prelude.{string_bytes, codes}
use Rattle.core_rules.specs.Bounded.{full}
use Rattle.core_rules.specs.Substitution.{replace}
use Rattle.core_terms.specs.Solutions.{solved_in}
use Rattle.term_pool.specs.Pool.{tree}
use Rattle.core_print.specs.Apart.{Text}
use Rattle.core_print.specs.Labels.{label_text}
use Rattle.core_print.specs.Pages.{names_in}
use Rattle.core_print.specs.Printed.{term_text}
use Rattle.core_print.specs.Views.{world_of}
use Rattle.core_print.proofs.Writing.{written_five}
use Rattle.core_print.proofs.context_text.write_entry.Goals as goal

pub returns : goal.returns
returns g c = λ a.
    let w = world_of c.args.source.now.view in
    let p = c.args.source.now.pool.now in
    let s = solved_in p (g.S.Solutions.solution c.args.sol.now) in
    let ns = names_in w.names c.args.line.now.inside.now in
    let l = label_text w.names c.args.line.now.label in
    let t : string_bytes c.in_ok-ty.ty ≡ term_text w ns (replace (full s a) (tree p c.args.line.now.ty)) = c.in_ok-ty.ensures a in
    written_five (string_bytes c.args.out.now) l (codes " : ") c.as_str.result.now c.scope_mark.result.now (codes "\n")
    (string_bytes c.write_label.new.out) (string_bytes c.push_str.new.self) (string_bytes c.push_str-2.new.self) (string_bytes c.push_str-3.new.self) (string_bytes c.push_str-4.new.self)
    c.in_ok-write_label.ensures c.in_ok-push_str.ensures.bytes c.in_ok-push_str-2.ensures.bytes c.in_ok-push_str-3.ensures.bytes c.in_ok-push_str-4.ensures.bytes
    ∙ ap₂ (λ (t m : Text). string_bytes c.args.out.now ++ (l ++ (codes " : " ++ (t ++ (m ++ codes "\n"))))) (c.as_str.ensures.value ∙ t) c.scope_mark.ensures
