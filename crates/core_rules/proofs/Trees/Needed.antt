-- Two signatures whose trees are not regular: head forms unfold calls at which the trees give nothing.
use Rattle.std.specs.Prelude.{◌≡◌, ℕ, Bool, true, false, eqb, cond, [], ◌∷◌, ◌++◌, reverse, Option, Some, None, option_and_then, unwrap_or, refl, zero, suc}
use Rattle.std.proofs.Common.{ap, sym, ◌∙◌, subst as transport}
use Rattle.core_rules.specs.declared.Flag.TheVariants.{Explicit}
use Rattle.core_rules.specs.Term.{Term, Def, Con, Proj, End}
use Rattle.core_rules.specs.Substitution.{value_at}
use Rattle.core_rules.specs.Signature.{Branch, Tree, Goes, NoCon, con_branch, fields_of}
use Rattle.core_rules.specs.Elimination.{Arg, projections}
use Rattle.core_rules.specs.Run as R
use Rattle.core_rules.specs.Run.{Run, ConApp, is_record_con, full_con, parts, spread, kept}
use Rattle.core_rules.specs.Heads as H
use Rattle.core_rules.specs.Heads.{Form, Heads}
use Rattle.core_rules.specs.BoundedLaws.{no_solutions}
use Rattle.core_rules.specs.Addition.{zero_term}
use Rattle.core_rules.proofs.Heads.OneAnswer.{one_some}
use Rattle.core_rules.specs.TreeExamples.{boxes, unboxed_tree, EtaIsNeeded, number_kept, kept_twice, second_opened, both_opened, twice, twice_tree, KeepingApartIsNeeded}

value_form : Heads boxes no_solutions (Proj 0 (Def 0)) [] (Form (Con 1 End) (Arg Explicit zero_term ∷ [])) 1
value_form = H.projection (H.call refl (H.cosplit refl (H.leaf (H.argument (H.form refl)))))

no_run : (t : Term) → Run boxes unboxed_tree [] (Arg Explicit (Def 0) ∷ []) t → ⊥
no_run t (R.intro (R.record_split (R.split e w p))) = absurd cc

pub eta_is_needed : EtaIsNeeded
eta_is_needed = (
  H.argument (H.call refl (H.intro (H.record_split (H.split {v = Form (Con 1 End) (Arg Explicit zero_term ∷ [])} {m = 1} {n = 1} value_form (H.enters (H.leaf (H.form refl))))))),
  no_run,
)

first_value : Heads twice no_solutions (Proj 0 (Def 0)) [] (Form zero_term []) 1
first_value = H.projection (H.call refl (H.cosplit refl (H.leaf (H.form refl))))

second_value : Heads twice no_solutions (Proj 1 (Def 0)) [] (Form zero_term []) 1
second_value = H.projection (H.call refl (H.cosplit refl (H.leaf (H.form refl))))

-- the one branch that there is
module _ (n : ℕ) (b : Branch Term) (S : Tree Term) where
  entered : (k : ℕ) (d : Branch Term) (T : Tree Term) → con_branch (Goes n b S NoCon) k ≡ Some (d, T) → (b ≡ d) × (S ≡ T)
  entered k d T e = by_test (eqb n k) e
    where
      same_pair : ◌≡◌ {A = Option (Branch Term × Tree Term)} (Some (b, S)) (Some (d, T)) → (b ≡ d) × (S ≡ T)
      same_pair e = let p = one_some e in (ap (λ (q : Branch Term × Tree Term). q.0) p, ap (λ (q : Branch Term × Tree Term). q.1) p)

      by_test : (o : Bool) → cond {A = Option (Branch Term × Tree Term)} o (Some (b, S)) None ≡ Some (d, T) → (b ≡ d) × (S ≡ T)
      by_test true e = same_pair e
      by_test false e = absurd cc

-- t is the constructor of record d with all its arguments
record IsOf (d : ℕ) (t : Term) : Type 0 where
  con : ConApp
  full : full_con twice t ≡ Some con
  own : is_record_con twice con.con d ≡ true

-- the first part of t is a constructor only where t is the record's, since a projection is none
is_of : (d f : ℕ) (t : Term) (c : ConApp) → fields_of twice d ≡ f ∷ [] → full_con twice (value_at (reverse (parts twice d t) ++ []) 0) ≡ Some c → IsOf d t
is_of d f t c g e = by_con (full_con twice t) refl e
  where
    by_own : (s : ConApp) (b : Bool) → full_con twice t ≡ Some s → is_record_con twice s.con d ≡ b
        → full_con twice (value_at (reverse (unwrap_or (cond b (Some s.args) None) (projections twice d t)) ++ []) 0) ≡ Some c → IsOf d t
    by_own s true h o e = record { con = s; full = h; own = o }
    by_own s false h o e = absurd (no_projection (rw g at e))
      where
        no_projection : None ≡ Some c → ⊥
        no_projection e = cc e

    by_con : (o : Option ConApp) → full_con twice t ≡ o
        → full_con twice (value_at (reverse (unwrap_or (option_and_then (λ s. cond (is_record_con twice s.con d) (Some s.args) None) o) (projections twice d t)) ++ []) 0) ≡ Some c → IsOf d t
    by_con None h e = absurd (no_projection (rw g at e))
      where
        no_projection : None ≡ Some c → ⊥
        no_projection e = cc e
    by_con (Some s) h e = by_own s (is_record_con twice s.con d) h refl e

one_con : {s c : ConApp} → Some s ≡ Some c → s ≡ c
one_con e = cc e

-- no term is the constructor of both boxes
not_both : (t : Term) → IsOf 1 t → IsOf 2 t → ⊥
not_both t x y = apart x.con.con x.own (transport (λ c. is_record_con twice c.con 2 ≡ true) (one_con (sym y.full ∙ x.full)) y.own)
  where
    apart : (k : ℕ) → is_record_con twice k 1 ≡ true → is_record_con twice k 2 ≡ true → ⊥
    apart zero a b = cc
    apart (suc zero) a b = cc
    apart (suc (suc zero)) a b = cc
    apart (suc (suc (suc zero))) a b = cc
    apart (suc (suc (suc (suc k)))) a b = cc

second_gives : (a t : Term) → Run twice second_opened (a ∷ []) [] t → IsOf 2 a
second_gives a t (R.record_split (R.split {c = c} e w p)) = is_of 2 1 a c refl e

both_give : (a t : Term) → Run twice both_opened (a ∷ a ∷ []) [] t → ⊥
both_give a t (R.record_split (R.split {b = b} {T = T} {c = c} {t = t'} e w p)) =
    let x = entered 0 number_kept second_opened c.con b T w in
    let y = is_of 1 0 a c refl e in
    not_both a y (second_gives a t (transport (λ T. Run twice T (a ∷ []) [] t) (sym x.1) (transport (λ b. Run twice T (kept b (spread 1 c.args (spread 1 (parts twice 1 a) (a ∷ a ∷ [])))) [] t) (sym x.0) p)))

no_run_at_all : (u t : Term) → Run twice twice_tree [] (Arg Explicit u ∷ []) t → ⊥
no_run_at_all u t (R.intro (R.split {b = b} {T = T} {c = c} e w p)) =
    let x = entered 1 kept_twice both_opened c.con b T w in
    let a = value_at (spread 0 c.args (u ∷ [])) 0 in
    both_give a t (transport (λ T. Run twice T (a ∷ a ∷ []) [] t) (sym x.1) (transport (λ b. Run twice T (kept b (spread 0 c.args (u ∷ []))) [] t) (sym x.0) p))

pub keeping_apart_is_needed : KeepingApartIsNeeded
keeping_apart_is_needed = (
  H.argument (H.call refl (H.intro (H.split {v = Form (Con 1 End) (Arg Explicit (Def 0) ∷ [])} {m = 0} {n = 3} (H.argument (H.form refl))
      (H.enters (H.record_split (H.split {v = Form zero_term []} {m = 1} {n = 2} first_value
      (H.enters (H.record_split (H.split {v = Form zero_term []} {m = 1} {n = 1} second_value (H.enters (H.leaf (H.form refl)))))))))))),
  no_run_at_all,
)
