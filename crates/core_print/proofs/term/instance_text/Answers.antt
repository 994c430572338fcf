use Rattle.std.proofs.Common.{◌≡◌, sym, ◌∙◌, subst}
use Rattle.std.specs.Prelude.{string_bytes}
use Rattle.std.proofs.lemmas.Result.{IfOk-weaker}
use Rattle.core_terms.specs.Solutions.{IsInstance, solved_in}
use Rattle.core_terms.proofs.Instances.{instance_none}
use Rattle.term_pool.specs.Pool.{tree}
use Rattle.core_print.specs.Pages.{names_in}
use Rattle.core_print.specs.Printed.{IsTextOf, term_text}
use Rattle.core_print.specs.Views.{world_of}
use Rattle.core_print.proofs.Printing.{instance_is}
use Rattle.core_print.proofs.term.instance_text.Goals as goal

pub returns-then-not-has_meta : goal.returns-then-not-has_meta
returns-then-not-has_meta g c =
    let w = world_of c.args.source.now.view in
    let p = c.args.source.now.pool.now in
    let s = solved_in p (g.S.Solutions.solution c.args.sol.now) in
    let ns = names_in w.names c.args.inside.now in
    IfOk-weaker c.text_in.result (λ x. string_bytes x ≡ term_text w ns (tree p c.args.t)) (λ x. IsTextOf w s ns (tree p c.args.t) (string_bytes x))
    (λ x h. instance_is w p p s ns c.args.t c.args.t (string_bytes x) (instance_none p s c.args.t c.requires.t (sym c.has_meta.ensures ∙ c.if-not-has_meta.true)) h)
    c.text_in.ensures

pub returns : goal.returns
returns g c =
    let w = world_of c.args.source.now.view in
    let p = c.args.source.now.pool.now in
    let q = c.instantiate.new.pool in
    let s = solved_in p (g.S.Solutions.solution c.args.sol.now) in
    let ns = names_in w.names c.args.inside.now in
    let i = subst (λ r. IsInstance q (solved_in r (g.S.Solutions.solution c.args.sol.now)) (tree r c.args.t) c.in_ok-made.made) c.in_ok-copy.ensures c.in_ok-made.ensures.is in
    IfOk-weaker c.text_in-2.result (λ x. string_bytes x ≡ term_text w ns (tree q c.in_ok-made.made)) (λ x. IsTextOf w s ns (tree p c.args.t) (string_bytes x))
    (λ x h. instance_is w p q s ns c.args.t c.in_ok-made.made (string_bytes x) i h)
    c.text_in-2.ensures
