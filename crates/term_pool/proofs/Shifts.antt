-- A shift by nothing, and the results of shifting one term.
use Rattle.std.specs.Prelude.{◌≡◌, ℕ, ◌+◌, ◌<◌, List, [], ◌∷◌, length, Result, Ok, Err, OnOk}
use Rattle.std.proofs.Common.{sym, ◌∙◌, subst, ⊎_elim, arith}
use Rattle.std.proofs.lemmas.Grind.{common_steps}
use Rattle.core_rules.specs.Term.{Term}
use Rattle.core_rules.specs.Substitution.{over, shift, subst as substituted, subst_var, env_var, under}
use Rattle.core_rules.proofs.Substitution.Lifted.{shift_none}
use Rattle.core_rules.proofs.Substitution.Traversal.{over-from}
use Rattle.term_pool.specs.declared.shifting.Beyond.TheVariants.{Moves, Closes}
use Rattle.term_pool.specs.Pool.{Pool, tree, Extends, StandsFor}
use Rattle.term_pool.specs.Growth.{Extends-length, Extends-tree}
use Rattle.term_pool.specs.Table.{Results, Puts}
use Rattle.term_pool.specs.Placed.{filled_var, filled, placed_var, placed}
use Rattle.term_pool.specs.Shifted.{AreShifted, AreShifted-stays}

pub shifted-none : (p : Pool) (t from by : ℕ) → by ≡ 0 → t < length p.trees → StandsFor p t (shift (tree p t) from by)
shifted-none p t from by e l = record { within = l; is = rw e (sym (shift_none (tree p t) from)) }

pub always : {X E P : Type 0} (r : Result X E) → P → OnOk r P
always (Ok x) p = p
always (Err e) p = tt

pub AreShifted-puts : {m n : Results} {t d r : ℕ} {p q : Pool} → Extends p q → AreShifted m p → t < length p.trees → StandsFor q r (shift (tree p t) 0 d) → Puts m t d r n → AreShifted n q
AreShifted-puts {m} {n} {t} {d} {r} {p} {q} g h l s u =
    let k = AreShifted-stays g h in
    let here : (t < length q.trees) × StandsFor q r (shift (tree q t) 0 d) = (omega (arith, Extends-length g), subst (λ u. StandsFor q r (shift u 0 d)) (sym (Extends-tree t g l)) s) in
    record {
      at = λ i j x e. ⊎_elim
          (λ same. k.at i j x (sym same ∙ e))
          (λ new. let r-is : r ≡ x = cc (new.2, e) in
          subst (λ i. (i < length q.trees) × StandsFor q x (shift (tree q i) 0 j)) (sym new.0)
          (subst (λ j. (t < length q.trees) × StandsFor q x (shift (tree q t) 0 j)) (sym new.1)
          (subst (λ x. (t < length q.trees) × StandsFor q x (shift (tree q t) 0 d)) r-is here)))
          (u.elsewhere i j);
    }

-- ---- one change for three

over_same : (f g : ℕ → ℕ → Term) → ((d i : ℕ) → f d i ≡ g d i) → (t : Term) → over f 0 t ≡ over g 0 t
over_same f g e t = over-from f g 0 0 (λ n i. e (0 + n) i) 0 t

pub placed_subst : (at : ℕ) (u t : Term) → placed at (u ∷ []) Moves t ≡ substituted t at u
placed_subst at u t = over_same (placed_var at (u ∷ []) Moves) (subst_var at u) var t
  where
    var : (d i : ℕ) → placed_var at (u ∷ []) Moves d i ≡ subst_var at u d i
    var d i = grind (arith, common_steps)

pub placed_under : (r : List Term) (t : Term) → placed 0 r Closes t ≡ under r t
placed_under r t = over_same (placed_var 0 r Closes) (env_var r) var t
  where
    var : (d i : ℕ) → placed_var 0 r Closes d i ≡ env_var r d i
    var d i = grind (arith, common_steps)

pub placed_filled : (r : List Term) (t : Term) → placed 0 r Moves t ≡ filled r t
placed_filled r t = over_same (placed_var 0 r Moves) (filled_var r) var t
  where
    var : (d i : ℕ) → placed_var 0 r Moves d i ≡ filled_var r d i
    var d i = grind (arith, common_steps)
