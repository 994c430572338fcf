-- A change keeps the constructor that a term itself is; one that makes variables of variables makes no constructor.
use Rattle.std.specs.Prelude.{◌≡◌, ℕ, Bool, true, false, cond, List, [], ◌∷◌, length, map, Option, Some, None, option_map, option_and_then, unwrap_or, refl}
use Rattle.std.proofs.Common.{ap}
use Rattle.std.proofs.lemmas.List.{length-map}
use Rattle.core_rules.specs.Term.{Term, Var, Sort, Pi, Lam, App, Def, Fam, Con, Proj, Meta}
use Rattle.core_rules.specs.Substitution.{over, over_all}
use Rattle.core_rules.specs.Signature.{Signature}
use Rattle.core_rules.specs.Elimination.{projections}
use Rattle.core_rules.specs.Run.{ConApp, con_app, takes, is_record_con, full_con, parts}
use Rattle.core_rules.proofs.Spines.{projections-over}

abbrev pub con_over : (ℕ → ℕ → Term) → ℕ → ConApp → ConApp
con_over f d c = record { con = c.con; params = over_all f d c.params; args = map (over f d) c.args }

pub con_app-over : (f : ℕ → ℕ → Term) (d : ℕ) (t : Term) (us : List Term) (c : ConApp) → con_app t us ≡ Some c → con_app (over f d t) (map (over f d) us) ≡ Some (con_over f d c)
con_app-over f d (Con k ps) us c e = ap (option_map (con_over f d)) e
con_app-over f d (App b t u) us c e = con_app-over f d t (u ∷ us) c e
con_app-over f d (Var i) us c e = absurd cc
con_app-over f d (Sort n) us c e = absurd cc
con_app-over f d (Pi b x a t) us c e = absurd cc
con_app-over f d (Lam b x a t) us c e = absurd cc
con_app-over f d (Def k) us c e = absurd cc
con_app-over f d (Fam k) us c e = absurd cc
con_app-over f d (Proj k t) us c e = absurd cc
con_app-over f d (Meta m ts) us c e = absurd cc

abbrev all_of : Signature Term → ConApp → Option ConApp
all_of g s = cond (takes g s.con (length s.args)) (Some s) None

all_of-over : (g : Signature Term) (f : ℕ → ℕ → Term) (d : ℕ) (s c : ConApp) → all_of g s ≡ Some c → all_of g (con_over f d s) ≡ Some (con_over f d c)
all_of-over g f d s c e = rw length-map (by_test (takes g s.con (length s.args)) e)
  where
    by_test : (b : Bool) → cond b (Some s) None ≡ Some c → cond b (Some (con_over f d s)) None ≡ Some (con_over f d c)
    by_test true h = ap (option_map (con_over f d)) h
    by_test false h = absurd cc

full_con_by : (g : Signature Term) (f : ℕ → ℕ → Term) (d : ℕ) (t : Term) (c : ConApp) (o : Option ConApp) → con_app t [] ≡ o → option_and_then (all_of g) o ≡ Some c → full_con g (over f d t) ≡ Some (con_over f d c)
full_con_by g f d t c None h e = absurd cc
full_con_by g f d t c (Some s) h e = rw (con_app-over f d t [] s h) (all_of-over g f d s c e)

pub full_con-over : (g : Signature Term) (f : ℕ → ℕ → Term) (d : ℕ) (t : Term) (c : ConApp) → full_con g t ≡ Some c → full_con g (over f d t) ≡ Some (con_over f d c)
full_con-over g f d t c e = full_con_by g f d t c (con_app t []) refl e

pub record IsVariable (t : Term) : Type 0 where
  pub at : ℕ
  pub is : t ≡ Var at

abbrev own_args : Signature Term → ℕ → ConApp → Option (List Term)
own_args g k s = cond (is_record_con g s.con k) (Some s.args) None

pub own_args-over : (g : Signature Term) (f : ℕ → ℕ → Term) (d k : ℕ) (t : Term) (s : ConApp)
    → map (over f d) (unwrap_or (own_args g k s) (projections g k t)) ≡ unwrap_or (own_args g k (con_over f d s)) (projections g k (over f d t))
own_args-over g f d k t s = by_test (is_record_con g s.con k)
  where
    by_test : (b : Bool) → map (over f d) (unwrap_or (cond b (Some s.args) None) (projections g k t)) ≡ unwrap_or (cond b (Some (map (over f d) s.args)) None) (projections g k (over f d t))
    by_test true = refl
    by_test false = projections-over f d g k t

module _ (f : ℕ → ℕ → Term) (v : (d i : ℕ) → IsVariable (f d i)) where
  no_con_app : (d : ℕ) (t : Term) (us vs : List Term) → con_app t us ≡ None → con_app (over f d t) vs ≡ None
  no_con_app d (Con k ps) us vs e = absurd cc
  no_con_app d (App b t u) us vs e = no_con_app d t (u ∷ us) (over f d u ∷ vs) e
  no_con_app d (Var i) us vs e = rw (v d i).is refl
  no_con_app d (Sort n) us vs e = refl
  no_con_app d (Pi b x a t) us vs e = refl
  no_con_app d (Lam b x a t) us vs e = refl
  no_con_app d (Def k) us vs e = refl
  no_con_app d (Fam k) us vs e = refl
  no_con_app d (Proj k t) us vs e = refl
  no_con_app d (Meta m ts) us vs e = refl

  none_by : (g : Signature Term) (d : ℕ) (t : Term) (o : Option ConApp) → con_app t [] ≡ o → option_and_then (all_of g) o ≡ None → full_con g (over f d t) ≡ None
  none_by g d t None h e = rw (no_con_app d t [] [] h) refl
  none_by g d t (Some s) h e = rw (con_app-over f d t [] s h, length-map) (by_test (takes g s.con (length s.args)) e)
    where
      by_test : (b : Bool) → cond b (Some s) None ≡ None → cond b (Some (con_over f d s)) None ≡ None
      by_test true h = absurd cc
      by_test false h = refl

  pub no_full_con : (g : Signature Term) (d : ℕ) (t : Term) → full_con g t ≡ None → full_con g (over f d t) ≡ None
  no_full_con g d t e = none_by g d t (con_app t []) refl e

  parts_by : (g : Signature Term) (d k : ℕ) (t : Term) (o : Option ConApp) → full_con g t ≡ o → map (over f d) (unwrap_or (option_and_then (own_args g k) o) (projections g k t)) ≡ parts g k (over f d t)
  parts_by g d k t None e = rw (no_full_con g d t e) (projections-over f d g k t)
  parts_by g d k t (Some s) e = rw (full_con-over g f d t s e) (own_args-over g f d k t s)

  pub parts-over : (g : Signature Term) (d k : ℕ) (t : Term) → map (over f d) (parts g k t) ≡ parts g k (over f d t)
  parts-over g d k t = parts_by g d k t (full_con g t) refl
