-- A tree gives at most one term.
use Rattle.std.specs.Prelude.{◌≡◌, List, Some, refl}
use Rattle.std.proofs.Common.{sym, ◌∙◌, subst}
use Rattle.core_rules.specs.Term.{Term}
use Rattle.core_rules.specs.Signature.{Signature, Tree, Branch, ConBranches, con_branch}
use Rattle.core_rules.specs.Elimination.{Elim}
use Rattle.core_rules.specs.Run as R
use Rattle.core_rules.specs.Run.{Run, ConApp, kept, spread}

same_value : {X : Type 0} {x y : X} → Some x ≡ Some y → x ≡ y
same_value e = cc e

same_branch : (bs : ConBranches Term) (c c' : ConApp) (p q : Branch Term × Tree Term) → c' ≡ c → con_branch bs c.con ≡ Some p → con_branch bs c'.con ≡ Some q → q ≡ p
same_branch bs c c' p q e h k = cc (e, h, k)

module _ (g : Signature Term) where
  pub one-run : {T : Tree Term} {r : List Term} {es : List Elim} {t u : Term} → Run g T r es t → Run g T r es u → t ≡ u
  one-run R.leaf R.leaf = refl
  one-run (R.intro h) (R.intro k) = one-run h k
  one-run {u = u} (R.cosplit {r = r} {es = es} e h) (R.cosplit w k) = one-run h (subst (λ T. Run g T r es u) (same_value (sym w ∙ e)) k)
  one-run {u = u} (R.split {bs = bs} {b = b} {T = T} {r = r} {k = at} {c = c} {es = es} e w h) (R.split {b = b'} {T = T'} {c = c'} e' w' k) =
      let p : c' ≡ c = same_value (sym e' ∙ e) in
      let q : (b', T') ≡ (b, T) = same_branch bs c c' (b, T) (b', T') p w w' in
      one-run h (subst (λ p. Run g p.1 (kept p.0 (spread at c.args r)) es u) q (subst (λ c. Run g T' (kept b' (spread at c.args r)) es u) p k))
  one-run (R.record_split h) (R.record_split k) = one-run h k
