use Rattle.std.proofs.Common.{◌≡◌, ◌<◌, ◌++◌, ◌-◌, ◌+◌, ◌∷◌, [], ℕ, true, List, length, map, take, drop, arith, ap, sym, subst, ◌∙◌}
use Rattle.std.specs.List.{AllByRecursion}
use Rattle.std.specs.Prelude.{slice_get, Some}
use Rattle.core_rules.specs.Bounded.{same_flag}
use Rattle.core_rules.specs.Mapped.{telescope_map}
use Rattle.core_rules.specs.Signature.{Entry}
use Rattle.weak_head.specs.Elims.{spine_in}
use Rattle.weak_head.specs.declared.elim.Elim.TheVariants as V
use Rattle.kernel_rules.specs.TermReading.{arguments_for}
use Rattle.std.proofs.lemmas.List.{map-append}
use Rattle.std.proofs.lemmas.Option.{slice_get-get_or}
use Rattle.el_base.proofs.Throughout.{all-push}
use Rattle.conversion.proofs.Slices.{unrolled, none_within}
use Rattle.declared_types.proofs.Taken.{ids_next, ids_over, id-below}
use Rattle.declared_types.proofs.arguments.arguments_for.Goals as goal

pub loop-left-preserved : goal.loop-left-preserved
loop-left-preserved c =
    let i = c.loop-left.invariant in
    let left = c.loop-left.left.now in
    let more = take (length left - 1) (drop 1 left) in
    let e = c.entry-item.result in
    let spine = c.args.spine.now in
    let n = c.in-Some.others in
    let u = c.in-Arg.arg in
    let x : left ≡ e ∷ more = unrolled left e c.in-len1-up.len_at_least c.entry-item.is in
    let m : c.loop-left.given ≡ n + 1 = omega (arith, c.in-Some.ensures) in
    let at : slice_get spine n ≡ Some (V.Arg c.in-Arg.flag u) = slice_get-get_or spine n _ (omega (arith, m, i.given)) ∙ ap Some c.in-Arg.is in
    let d : c.entry.inside.flag ≡ e.flag = ap (λ (w : Entry ℕ). w.flag) c.entry.view_is in
    let s : same_flag e.flag c.in-Arg.flag ≡ true = ap (λ b. same_flag b c.in-Arg.flag) (sym d) ∙ (sym c.same_flag.ensures ∙ c.if-not-same_flag.false) in
    let items : c.push.new.self.items ≡ c.loop-left.taken.items ++ u ∷ [] = c.in_ok-push.ensures.items in
    record {
      is = λ f. ids_next f c.loop-left.taken.items c.push.new.self.items left more e spine c.loop-left.given n c.in-Arg.flag u (arguments_for (telescope_map f c.args.entries.now) (spine_in f spine)) x m at s (ap (map f) items ∙ map-append f c.loop-left.taken.items (u ∷ [])) (i.is f);
      below = λ k all. subst (λ (ts : List ℕ). AllByRecursion (λ t. t < k) ts) (sym items) (all-push (λ t. t < k) c.loop-left.taken.items u (i.below k all) (id-below k spine n c.in-Arg.flag u all at));
      given = omega (arith, m, i.given);
    }

pub returns-else-given-eq0-clause-is : goal.returns-else-given-eq0-clause-is
returns-else-given-eq0-clause-is c = λ f.
    let i = c.loop-left.invariant in
    let some : 0 < c.loop-left.given = omega (arith, c.if-given-eq0.false) in
    ids_over f c.loop-left.taken.items c.loop-left.left.now c.args.spine.now c.loop-left.given (arguments_for (telescope_map f c.args.entries.now) (spine_in f c.args.spine.now)) (none_within c.loop-left.left.now c.in_default.len_below) some i.given (i.is f)
