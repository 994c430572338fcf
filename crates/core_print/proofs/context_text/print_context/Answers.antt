use Rattle.std.proofs.Common.{◌≡◌, ℕ, ◌-◌, ◌++◌, List, drop, length, map, sym, ap, ap₂, ◌∙◌}
use Rattle.std.specs.Prelude.{string_bytes}
use Rattle.core_rules.specs.Bounded.{full}
use Rattle.core_rules.specs.Mapped.{solved_map}
use Rattle.core_rules.specs.Signature.{Solved}
use Rattle.core_rules.specs.Substitution.{replace}
use Rattle.core_terms.specs.Solutions.{solved_in}
use Rattle.term_pool.specs.Pool.{tree}
use Rattle.core_print.specs.ContextText.{solved_lines}
use Rattle.core_print.specs.Names.{context_names}
use Rattle.core_print.specs.Pages.{names_in}
use Rattle.core_print.specs.Views.{world}
use Rattle.core_print.specs.declared.label.Label.{Label}
use Rattle.core_print.proofs.Contexts.{whole_is}
use Rattle.core_print.proofs.context_text.print_context.Goals as goal

pub returns : goal.returns
returns g c =
    let w = world c.args.names.now c.args.sig.now c.args.holes.now in
    let p = c.args.pool.now in
    let s = solved_in p (g.S.Solutions.solution c.args.sol.now) in
    let a = c.requires.acyclic in
    let l = c.args.left.now in
    let k = c.args.context.now in
    let ls = c.as_slice-3.result.now in
    let ns = names_in w.names c.as_slice-2.result.now in
    let outer = names_in w.names c.first_labels-outermost.result.now in
    let same : ls ≡ c.as_slice-2.result.now = c.as_slice-3.ensures.value ∙ sym c.as_slice-2.ensures.value in
    let many : length ls ≡ length k = ap length c.as_slice-3.ensures.value ∙ c.in_ok-labels.ensures.length in
    let en : ns ≡ context_names w k = ap (names_in w.names) c.as_slice-2.ensures.value ∙ c.in_ok-labels.ensures.is in
    let eo : outer ≡ drop (length k - length l.context) ns =
    c.first_labels-outermost.ensures w.names
    ∙ (ap₂ (λ (m n : ℕ). drop (m - n) (names_in w.names ls)) many c.count_in.ensures ∙ ap (λ (ls : List Label). drop (length k - length l.context) (names_in w.names ls)) same) in
    record {
      acyclic = a;
      is = whole_is w (replace (full s a)) (tree p) l k ns outer (string_bytes c.new-out.result) (string_bytes c.write_context.new.out) (string_bytes c.write_solved.new.out) c.new-out.ensures.bytes en eo
          (c.in_ok-write_context.ensures a)
          (c.in_ok-write_solved.ensures a ∙ ap (λ (ss : List (Solved ℕ)). string_bytes c.write_context.new.out ++ solved_lines w outer (map (solved_map (λ t. replace (full s a) (tree p t))) ss)) c.named_in.ensures);
    }
