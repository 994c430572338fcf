-- What a case tree gives on eliminations.
use Rattle.std.specs.Prelude.{◌≡◌, ℕ, ◌+◌, Bool, false, ◌&&◌, eqb, cond, List, [], ◌∷◌, ◌++◌, length, map, reverse, take, drop, Option, Some, None, option_and_then, unwrap_or}
use Rattle.std.specs.Option.{option_map_or}
use Rattle.core_rules.specs.declared.Flag.{Flag}
use Rattle.core_rules.specs.Term.{Term, Terms, Var, Sort, Pi, Lam, App, Def, Fam, Con, Proj, Meta}
use Rattle.core_rules.specs.Substitution.{value_at, under}
use Rattle.core_rules.specs.Signature.{Branch, Tree, Leaf, Intro, Cosplit, Split, RecordSplit, CoBranches, ConBranches, co_branch, con_branch, Signature, con_place, con_decl, fam_decl}
use Rattle.core_rules.specs.Elimination.{Elim, Arg, Field, elims, projections}

-- a constructor at parameters and arguments
pub record ConApp : Type 0 where
  pub con : ℕ
  pub params : Terms
  pub args : List Term

-- the constructor that t itself is, where t stands at the arguments us
abbrev pub con_app : Term → List Term → Option ConApp
con_app (Con k ps) us = Some (record { con = k; params = ps; args = us })
con_app (App b t u) us = con_app t (u ∷ us)
con_app (Var i) us = None
con_app (Sort n) us = None
con_app (Pi b x a t) us = None
con_app (Lam b x a t) us = None
con_app (Def f) us = None
con_app (Fam d) us = None
con_app (Proj f t) us = None
con_app (Meta m ts) us = None

-- constructor k takes n arguments
abbrev pub takes : Signature Term → ℕ → ℕ → Bool
takes g k n = option_map_or (λ c. eqb (length c.args) n) (con_decl g k) false

-- k is the constructor of d, which is a record
abbrev pub is_record_con : Signature Term → ℕ → ℕ → Bool
is_record_con g k d = option_map_or (λ p. eqb p.0 d) (con_place g k) false && option_map_or (λ decl. decl.is_record) (fam_decl g d) false

-- the constructor with all its arguments that t itself is
abbrev pub full_con : Signature Term → Term → Option ConApp
full_con g t = option_and_then (λ s. cond (takes g s.con (length s.args)) (Some s) None) (con_app t [])

-- the arguments of t where it is itself the constructor of record d with all its arguments, else its projections
abbrev pub parts : Signature Term → ℕ → Term → List Term
parts g d t = unwrap_or (option_and_then (λ s. cond (is_record_con g s.con d) (Some s.args) None) (full_con g t)) (projections g d t)

-- the environment r with us in the place of variable k
abbrev pub spread : ℕ → List Term → List Term → List Term
spread k us r = take k r ++ reverse us ++ drop (k + 1) r

-- for each variable of the branch's context, the value at its place
abbrev pub kept : Branch Term → List Term → List Term
kept b r = map (value_at r) b.keep

-- Run g T r es t: tree T gives t in environment r on the eliminations es
pub data Run (g : Signature Term) : Tree Term → List Term → List Elim → Term → Type 0 where
  leaf : {n : ℕ} {t : Term} {r : List Term} {es : List Elim} → Run g (Leaf t n) r es (elims (under r t) es)
  intro : {T : Tree Term} {r : List Term} {b : Flag} {u : Term} {es : List Elim} {t : Term} → Run g T (u ∷ r) es t → Run g (Intro T) r (Arg b u ∷ es) t
  cosplit : {bs : CoBranches Term} {T : Tree Term} {r : List Term} {f : ℕ} {es : List Elim} {t : Term} → co_branch bs f ≡ Some T → Run g T r es t → Run g (Cosplit bs) r (Field f ∷ es) t
  split : {bs : ConBranches Term} {b : Branch Term} {T : Tree Term} {r : List Term} {k : ℕ} {c : ConApp} {es : List Elim} {t : Term}
      → full_con g (value_at r k) ≡ Some c → con_branch bs c.con ≡ Some (b, T) → Run g T (kept b (spread k c.args r)) es t → Run g (Split k bs) r es t
  record_split : {T : Tree Term} {r : List Term} {k d : ℕ} {es : List Elim} {t : Term} → Run g T (spread k (parts g d (value_at r k)) r) es t → Run g (RecordSplit k d T) r es t
