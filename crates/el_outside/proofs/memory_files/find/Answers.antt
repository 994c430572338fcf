use Rattle.std.proofs.Common.{◌≡◌, Bool, true, false, cond, List, ◌∷◌, ℕ, ◌+◌, drop, sym, ◌∙◌, ap, arith, Some}
use Rattle.std.proofs.lemmas.List.{drop_more, drop_all}
use Rattle.std.specs.Ordering.{nat_cmp}
use Rattle.std.specs.Bool.{nat_eq}
use Rattle.std.specs.Cmp.Lexicographic.{slice_cmp, pointwise, texts_ties, nat_list_cmp_total}
use Rattle.std.specs.FinMap as map
use Rattle.el_outside.proofs.memory_files.find.Goals as goal

-- one entry of a list, told by the test of its name
step : (es : List (List ℕ × List ℕ)) (i : ℕ) (e : List ℕ × List ℕ) (q : List ℕ) (b : Bool) → drop i es ≡ e ∷ drop (i + 1) es → b ≡ pointwise nat_eq q e.0 → map.find (slice_cmp nat_cmp) q (drop i es) ≡ cond b (Some e.1) (map.find (slice_cmp nat_cmp) q (drop (i + 1) es))
step es i e q b is told = ap (map.find (slice_cmp nat_cmp) q) is ∙ ap (λ t. cond t (Some e.1) (map.find (slice_cmp nat_cmp) q (drop (i + 1) es))) (sym (told ∙ texts_ties q e.0))

pub returns-then-eq : goal.returns-then-eq
returns-then-eq c =
    let e = c.entry-item.result in
    let es = c.args.entries.now in
    let i = c.loop-entry.entry-index in
    let q = c.args.name.now in
    let here : drop i es ≡ e ∷ drop (i + 1) es = drop_more es i e (omega arith) ∙ ap (λ (x : List ℕ × List ℕ). x ∷ drop (i + 1) es) (sym c.entry-item.is) in
    let told : true ≡ pointwise nat_eq q e.0 = sym c.if-eq.true ∙ c.eq.ensures ∙ ap (pointwise nat_eq q) c.as_str.ensures in
    ap Some c.as_slice.ensures ∙ sym (map.get-from_entries nat_list_cmp_total es q ∙ c.loop-entry.invariant ∙ step es i e q true here told)

pub loop-entry-preserved : goal.loop-entry-preserved
loop-entry-preserved c =
    let e = c.entry-item.result in
    let es = c.args.entries.now in
    let i = c.loop-entry.entry-index in
    let q = c.args.name.now in
    let here : drop i es ≡ e ∷ drop (i + 1) es = drop_more es i e (omega arith) ∙ ap (λ (x : List ℕ × List ℕ). x ∷ drop (i + 1) es) (sym c.entry-item.is) in
    let told : false ≡ pointwise nat_eq q e.0 = sym c.if-eq.false ∙ c.eq.ensures ∙ ap (pointwise nat_eq q) c.as_str.ensures in
    c.loop-entry.invariant ∙ step es i e q false here told

pub returns : goal.returns
returns c = sym (map.get-from_entries nat_list_cmp_total c.args.entries.now c.args.name.now ∙ c.loop-entry.invariant ∙ ap (map.find (slice_cmp nat_cmp) c.args.name.now) (drop_all c.loop-entry.entry-index c.args.entries.now (omega arith)))
