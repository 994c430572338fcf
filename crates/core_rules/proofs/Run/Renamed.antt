-- A change that makes variables of variables passes the run of a tree.
use Rattle.std.specs.Prelude.{◌≡◌, ℕ, List, map, Some}
use Rattle.std.proofs.Common.{ap, sym, ◌∙◌, subst}
use Rattle.core_rules.specs.Term.{Term}
use Rattle.core_rules.specs.Substitution.{over, under, value_at}
use Rattle.core_rules.specs.Signature.{Signature, Tree, Leaf}
use Rattle.core_rules.specs.Elimination.{Elim, elims, elims_over}
use Rattle.core_rules.specs.Run.{Run, full_con, parts, spread, kept}
use Rattle.core_rules.specs.Run as R
use Rattle.core_rules.specs.Laws.{IsLifted}
use Rattle.core_rules.proofs.Substitution.Lifted.{over-under}
use Rattle.core_rules.proofs.Spines.{over-elims, value_at-over, spread-over, kept-over}
use Rattle.core_rules.proofs.Run.Constructors.{IsVariable, full_con-over, parts-over, con_over}

module _ (g : Signature Term) (f : ℕ → ℕ → Term) (l : IsLifted f) (v : (d i : ℕ) → IsVariable (f d i)) (d : ℕ) where
  pub run-renamed : {T : Tree Term} {r : List Term} {es : List Elim} {t : Term} → Run g T r es t → Run g T (map (over f d) r) (elims_over f d es) (over f d t)
  run-renamed (R.leaf {n = n} {t = t} {r = r} {es = es}) =
      let e : over f d (elims (under r t) es) ≡ elims (under (map (over f d) r) t) (elims_over f d es) = over-elims f d (under r t) es ∙ ap (λ u. elims u (elims_over f d es)) (over-under f l d r t) in
      subst (λ u. Run g (Leaf t n) (map (over f d) r) (elims_over f d es) u) (sym e) R.leaf
  run-renamed (R.intro h) = R.intro (run-renamed h)
  run-renamed (R.cosplit e h) = R.cosplit e (run-renamed h)
  run-renamed (R.split {bs = bs} {b = b} {T = T} {r = r} {k = k} {c = c} {es = es} {t = t} e w h) =
      let p : full_con g (value_at (map (over f d) r) k) ≡ Some (con_over f d c) = rw value_at-over (full_con-over g f d (value_at r k) c e) in
      let q : map (over f d) (kept b (spread k c.args r)) ≡ kept b (spread k (map (over f d) c.args) (map (over f d) r)) = kept-over f d b (spread k c.args r) ∙ ap (kept b) (spread-over f d k c.args r) in
      R.split p w (subst (λ r. Run g T r (elims_over f d es) (over f d t)) q (run-renamed h))
  run-renamed (R.record_split {T = T} {r = r} {k = k} {d = n} {es = es} {t = t} h) =
      let p : map (over f d) (parts g n (value_at r k)) ≡ parts g n (value_at (map (over f d) r) k) = rw value_at-over (parts-over f v g d n (value_at r k)) in
      let q : map (over f d) (spread k (parts g n (value_at r k)) r) ≡ spread k (parts g n (value_at (map (over f d) r) k)) (map (over f d) r) = spread-over f d k (parts g n (value_at r k)) r ∙ ap (λ us. spread k us (map (over f d) r)) p in
      R.record_split (subst (λ r. Run g T r (elims_over f d es) (over f d t)) q (run-renamed h))
