-- What stands for values stands for them after a split, with the constructor put for the variable.
use Rattle.std.specs.Prelude.{◌≡◌, ℕ, ◌+◌, ◌-◌, ◌<◌, List, [], ◌∷◌, length, map, drop, None, refl}
use Rattle.std.proofs.Common.{ap, ap₂, sym, ◌∙◌, subst as transport}
use Rattle.std.proofs.lemmas.List.{length-map}
use Rattle.core_rules.specs.Term.{Term, Terms, Con, Proj, from_list}
use Rattle.core_rules.specs.Substitution.{over_all, shift, shift_var, value_at, under}
use Rattle.core_rules.specs.Signature.{Signature, Telescope, ConDecl}
use Rattle.core_rules.specs.Elimination.{Elim, elims, args, vars_from, projections}
use Rattle.core_rules.specs.Run.{parts, spread}
use Rattle.core_rules.specs.Conversion.{IsEtaCon}
use Rattle.core_rules.specs.InScope.{FamiliesHaveShape}
use Rattle.core_rules.specs.TypedTree.{vars, into, new_con}
use Rattle.match_rules.specs.Matching.{eta_family, HasHead}
use Rattle.core_rules.proofs.Substitution.Exchange.{under-shift}
use Rattle.core_rules.proofs.Spines.{over-elims, args-over}
use Rattle.match_rules.proofs.Cover.Values.{into_low, into_high, drop_spread, cut_at, new_values, length-vars_from}
use Rattle.match_rules.proofs.Cover.Parts as P
use Rattle.match_rules.proofs.Cover.Parts.{Each, each_part}
use Rattle.match_rules.proofs.Cover.Comes.{of_head}
use Rattle.match_rules.proofs.Cover.Named.{named-refl}
use Rattle.match_rules.proofs.Cover.Like as L
use Rattle.match_rules.proofs.Cover.Like.{Like, LikeEach, LikeElims, each-refl, each-append, like-args, like-change}

shifted_under : (s : List Term) (k : ℕ) (ts : List Term) → map (under s) (map (λ t. shift t 0 k) ts) ≡ map (under (drop k s)) ts
shifted_under s k [] = refl
shifted_under s k (t ∷ ts) = ap₂ (λ v vs. v ∷ vs) (under-shift s t k) (shifted_under s k ts)

-- the constructor on new variables, outside k others
abbrev shifted_params : ℕ → List Term → Telescope Term → Terms
shifted_params k ps es = over_all (shift_var 0 k) 0 (from_list (map (λ t. shift t 0 (length es)) ps))

abbrev shifted_vars : ℕ → Telescope Term → List Term
shifted_vars k es = map (λ t. shift t 0 k) (vars_from 0 (length es))

shifted_con : (k c : ℕ) (ps : List Term) (es : Telescope Term) → shift (new_con c ps es) 0 k ≡ elims (Con c (shifted_params k ps es)) (args es (shifted_vars k es))
shifted_con k c ps es =
    over-elims (shift_var 0 k) 0 (Con c (from_list (map (λ t. shift t 0 (length es)) ps))) (args es (vars_from 0 (length es)))
    ∙ ap (elims (Con c (shifted_params k ps es))) (args-over (shift_var 0 k) 0 es (vars_from 0 (length es)))

module _ (g : Signature Term) (k : ℕ) (us r : List Term) (h : k < length r) where
  new_like : (es : Telescope Term) → length us ≡ length es → LikeEach g (spread k us r) 0 (shifted_vars k es) us
  new_like es e =
      let s = spread k us r in
      transport (LikeEach g s 0 (shifted_vars k es))
      (shifted_under s k (vars_from 0 (length es)) ∙ (ap (λ q. map (under q) (vars_from 0 (length es))) (drop_spread k us r h) ∙ new_values us (drop (k + 1) r) (length es) (sym e)))
      (each-refl g s (shifted_vars k es))

  into_like : (n m : ℕ) (u : Term) → n ≡ length r → m ≡ length us → Like g (spread k us r) 0 (shift u 0 k) (value_at r k) → LikeEach g (spread k us r) 0 (into k n m u) r
  into_like n m u e l x =
      let s = spread k us r in
      let low = transport (LikeEach g s 0 (vars 0 k)) (into_low k n m us r h e l) (each-refl g s (vars 0 k)) in
      let high = transport (LikeEach g s 0 (vars (k + m) (n - (k + 1)))) (into_high k n m us r h e l) (each-refl g s (vars (k + m) (n - (k + 1)))) in
      transport (LikeEach g s 0 (into k n m u)) (sym (cut_at k r h)) (each-append g s low (L.one x high))

  -- a split at a constructor
  pub like_split : (n c : ℕ) (con : ConDecl Term) (ps : List Term) (ds : List Elim) → n ≡ length r → length us ≡ length con.args → ds ≡ args con.args us → eta_family g c ≡ None → HasHead g (value_at r k) c ds → {t v : Term} → Like g r 0 t v
      → Like g (spread k us r) 0 (under (into k n (length con.args) (new_con c ps con.args)) t) v
  like_split n c con ps ds e l q p is x =
      let s = spread k us r in
      let a = of_head g is in
      let here : Like g s 0 (shift (new_con c ps con.args) 0 k) (value_at r k) =
      L.to_con (shifted_params k ps con.args) p a.comes (transport (LikeElims g s 0 (args con.args (shifted_vars k con.args))) (sym q) (like-args g s con.args (new_like con.args l))) (shifted_con k c ps con.args) in
      like-change g r s (into k n (length con.args) (new_con c ps con.args)) (into_like n (length con.args) (new_con c ps con.args) e (sym l) here) x

-- what stands for a part stands for the projection
module _ (g : Signature Term) (s : List Term) where
  abbrev Stays : Term → Term → Type 0
  Stays p u = (t : Term) → Like g s 0 t u → Like g s 0 t p

  of_parts : {ts us ps : List Term} → LikeEach g s 0 ts us → Each Stays ps us → LikeEach g s 0 ts ps
  of_parts L.nil P.none = L.nil
  of_parts (L.one {t = t} l m) (P.one h k) = L.one (h t l) (of_parts m k)

-- a record split
pub like_record : (g : Signature Term) (shapes : FamiliesHaveShape g) (k : ℕ) (r : List Term) (h : k < length r) (n c d : ℕ) (is : IsEtaCon g c d) (ps : List Term) → n ≡ length r → length (parts g d (value_at r k)) ≡ length is.con.args → {t v : Term} → Like g r 0 t v
    → Like g (spread k (parts g d (value_at r k)) r) 0 (under (into k n (length is.con.args) (new_con c ps is.con.args)) t) v
like_record g shapes k r h n c d is ps e l x =
    let w = value_at r k in
    let us = parts g d w in
    let es = is.con.args in
    let s = spread k us r in
    let each : LikeEach g s 0 (shifted_vars k es) (projections g d w) = of_parts g s (new_like g k us r h es l) (each_part g shapes (Stays g s) d w (λ f t y. y) (λ f u i t y. L.to_argument [] i (named-refl (Proj f w)) y)) in
    let here : Like g s 0 (shift (new_con c ps es) 0 k) w =
    L.to_record (shifted_params k ps es) is (length-map (vars_from 0 (length es)) (λ t. shift t 0 k) ∙ length-vars_from 0 (length es)) each (shifted_con k c ps es) in
    like-change g r s (into k n (length es) (new_con c ps es)) (into_like g k us r h n (length es) (new_con c ps es) e (sym l) here) x
