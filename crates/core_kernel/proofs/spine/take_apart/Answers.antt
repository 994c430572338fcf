use Rattle.std.proofs.Common.{◌≡◌, ◌<◌, ◌++◌, ◌∷◌, [], ℕ, List, length, map, arith, ap, sym, subst, ◌∙◌}
use Rattle.std.specs.List.{AllByRecursion}
use Rattle.std.proofs.lemmas.List.{length-append}
use Rattle.core_rules.specs.Term.{Term}
use Rattle.term_pool.specs.Pool.{tree}
use Rattle.core_kernel.specs.declared.spine.Argument.{Argument}
use Rattle.core_kernel.specs.Spine.{unwound}
use Rattle.std.proofs.lemmas.List.{map-append}
use Rattle.el_base.proofs.Throughout.{all-push}
use Rattle.core_kernel.proofs.Spines.{unwound-push}
use Rattle.core_kernel.proofs.spine.take_apart.Goals as goal

pub loop-before-preserved : goal.loop-before-preserved
loop-before-preserved c =
    let p = c.args.pool.now in
    let i = c.loop-before.invariant in
    let b = c.in-App.ensures.below in
    let xs = c.loop-before.arguments.items in
    let a : Argument = record { flag = c.in-App.before; term = c.in-App.given } in
    let e : c.push-in-App.new.self.items ≡ xs ++ a ∷ [] = c.in_ok-push-3.ensures.items in
    let f : c.push-in-App-2.new.self.items ≡ c.loop-before.terms.items ++ c.in-App.given ∷ [] = c.in_ok-push-4.ensures.items in
    record {
      is = i.is ∙ (ap (λ (h : Term). unwound (tree p) h xs) c.in-App.ensures.is ∙ (sym (unwound-push (tree p) (tree p c.in-App.inner) xs a) ∙ ap (unwound (tree p) (tree p c.in-App.inner)) (sym e)));
      head = omega (arith, b.0, i.head);
      arguments = subst (λ (ys : List Argument). AllByRecursion (λ (a : Argument). a.term < length p.trees) ys) (sym e) (all-push (λ (a : Argument). a.term < length p.trees) xs a i.arguments (omega (arith, b.1, i.head)));
      terms = f ∙ (ap (λ (ts : List ℕ). ts ++ c.in-App.given ∷ []) i.terms ∙ (sym (map-append (λ (a : Argument). a.term) xs (a ∷ [])) ∙ ap (map (λ (a : Argument). a.term)) (sym e)));
      some = omega (arith, ap length e, length-append xs (a ∷ []));
    }
