use Rattle.std.proofs.Common.{◌≡◌, List, ap, ◌∙◌, subst}
use Rattle.std.specs.Prelude.{string_bytes}
use Rattle.std.proofs.lemmas.Result.{IfOk-weaker}
use Rattle.core_terms.specs.Solutions.{solved_in}
use Rattle.term_pool.specs.Pool.{tree}
use Rattle.core_print.specs.Apart.{Text}
use Rattle.core_print.specs.Names.{context_names}
use Rattle.core_print.specs.Pages.{names_in}
use Rattle.core_print.specs.Printed.{IsTextOf, PrintsTerm}
use Rattle.core_print.specs.Views.{world}
use Rattle.core_print.proofs.term.print_term.Goals as goal

pub returns : goal.returns
returns g c =
    let w = world c.args.names.now c.args.sig.now c.args.holes.now in
    let p = c.args.pool.now in
    let s = solved_in p (g.S.Solutions.solution c.args.sol.now) in
    let k = c.args.context.now in
    let ns = names_in w.names c.as_slice-2.result.now in
    let e : ns ≡ context_names w k = ap (names_in w.names) c.as_slice-2.ensures.value ∙ c.in_ok-inside.ensures.is in
    IfOk-weaker c.instance_text.result (λ x. IsTextOf w s ns (tree p c.args.t) (string_bytes x)) (λ x. PrintsTerm w s k (tree p c.args.t) (string_bytes x))
    (λ x h. record { acyclic = c.requires.acyclic; is = subst (λ (ms : List Text). IsTextOf w s ms (tree p c.args.t) (string_bytes x)) e h c.requires.acyclic })
    c.instance_text.ensures
