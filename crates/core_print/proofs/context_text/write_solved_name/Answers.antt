use Rattle.std.proofs.Common.{◌≡◌, ℕ, ◌++◌, ap, ap₂, ◌∙◌, subst}
use Rattle.std.specs.Prelude.{string_bytes, codes}
use Rattle.core_rules.specs.Bounded.{full}
use Rattle.core_rules.specs.Mapped.{solved_map}
use Rattle.core_rules.specs.Signature.{Solved}
use Rattle.core_rules.specs.Substitution.{replace}
use Rattle.core_terms.specs.Solutions.{solved_in}
use Rattle.term_pool.specs.Pool.{tree}
use Rattle.core_print.specs.Apart.{Text}
use Rattle.core_print.specs.ContextText.{solved_line}
use Rattle.core_print.specs.Names.{name_text}
use Rattle.core_print.specs.Pages.{names_in}
use Rattle.core_print.specs.Printed.{term_text}
use Rattle.core_print.specs.Views.{world_of}
use Rattle.core_print.proofs.Writing.{written_six}
use Rattle.core_print.proofs.context_text.write_solved_name.Goals as goal

pub returns : goal.returns
returns g c = λ a.
    let w = world_of c.args.source.now.view in
    let p = c.args.source.now.pool.now in
    let s = solved_in p (g.S.Solutions.solution c.args.sol.now) in
    let ns = names_in w.names c.args.inside.now in
    let i = c.solved.inside in
    let v : string_bytes c.in_ok-value.value ≡ term_text w ns (replace (full s a) (tree p i.value)) = c.in_ok-value.ensures a in
    let t : string_bytes c.in_ok-ty.ty ≡ term_text w ns (replace (full s a) (tree p i.ty)) = c.in_ok-ty.ensures a in
    subst (λ (x : Solved ℕ). string_bytes c.push_str-6.new.self ≡ string_bytes c.args.out.now ++ solved_line w ns (solved_map (λ t. replace (full s a) (tree p t)) x)) c.solved.view_is
    (written_six (string_bytes c.args.out.now) c.name.result.now (codes " = ") c.as_str.result.now (codes " : ") c.as_str-2.result.now (codes "\n")
    (string_bytes c.push_str.new.self) (string_bytes c.push_str-2.new.self) (string_bytes c.push_str-3.new.self) (string_bytes c.push_str-4.new.self) (string_bytes c.push_str-5.new.self) (string_bytes c.push_str-6.new.self)
    c.in_ok-push_str.ensures.bytes c.in_ok-push_str-2.ensures.bytes c.in_ok-push_str-3.ensures.bytes c.in_ok-push_str-4.ensures.bytes c.in_ok-push_str-5.ensures.bytes c.in_ok-push_str-6.ensures.bytes
    ∙ (ap (λ (n : Text). string_bytes c.args.out.now ++ (n ++ (codes " = " ++ (c.as_str.result.now ++ (codes " : " ++ (c.as_str-2.result.now ++ codes "\n")))))) c.name.ensures
    ∙ ap₂ (λ (v t : Text). string_bytes c.args.out.now ++ (name_text w.names i.name ++ (codes " = " ++ (v ++ (codes " : " ++ (t ++ codes "\n")))))) (c.as_str.ensures.value ∙ v) (c.as_str-2.ensures.value ∙ t)))
