use Rattle.std.proofs.Common.{◌≡◌, ◌+◌, ◌-◌, length, arith, refl, ap, ◌∙◌, ℕ, get_or}
use Rattle.std.proofs.lemmas.Option.{slice_get_read}
use Rattle.core_rules.specs.Signature.{Entry}
use Rattle.core_rules.specs.Mapped.{entry_map}
use Rattle.core_rules.specs.Substitution.{shift}
use Rattle.term_pool.specs.Pool.{tree}
use Rattle.kernel_rules.specs.Outcome.{Gives}
use Rattle.core_kernel.proofs.Contexts.{variable-at}
use Rattle.core_kernel.proofs.checker.Checker.type_of_variable.Goals as goal

pub returns-clause-is : goal.returns-clause-is
returns-clause-is c =
    let p = c.args.self.now.pool.now in
    let es = c.args.self.now.context.now.items in
    let x = c.index-entry.result.now in
    let at = slice_get_read es (length es) (length es - 1 - c.args.index) x refl (omega (arith, c.requires.scope)) (c.index-entry.ensures ∙ ap (λ n. get_or es (n - 1 - c.args.index) x) (c.len.ensures ∙ c.args.self.now.context.now.ok.0)) in
    let ty : c.entry.inside.ty ≡ x.ty = ap (λ (e : Entry ℕ). e.ty) c.entry.view_is in
    let by : c.in-Some.by ≡ c.args.index + 1 = omega (arith, c.in-Some.ensures) in
    (c.in_ok-shift.ensures.is.within, (entry_map (tree p) x, variable-at p es c.args.index x c.requires.scope at, ap Gives (c.in_ok-shift.ensures.is.is ∙ ap (λ t. shift (tree p t) 0 c.in-Some.by) ty ∙ ap (shift (tree p x.ty) 0) by)))
