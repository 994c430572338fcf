-- When two terms are convertible: the least equivalence and congruence over a signature with the rules below.
use Rattle.std.specs.Prelude.{◌≡◌, ℕ, true, List, [], slice_get, Some}
use Rattle.core_rules.specs.declared.Flag.{Flag}
use Rattle.core_rules.specs.Term.{Term, Terms, Var, Pi, Lam, App, Def, Con, Proj, Meta, End, And}
use Rattle.core_rules.specs.Substitution.{shift, subst}
use Rattle.core_rules.specs.Signature.{Tree, FamDecl, ConDecl, Signature, fam_decl, con_place, con_decl, field_place, tree_of}
use Rattle.core_rules.specs.Elimination.{Elim, elims, args, projections}
use Rattle.core_rules.specs.Run.{ConApp, full_con, Run}

-- k is the constructor, with the arguments `con.args`, of record d, which has eta
pub record IsEtaCon (g : Signature Term) (k d : ℕ) : Type 0 where
  pub decl : FamDecl Term
  pub con : ConDecl Term
  pub is_decl : fam_decl g d ≡ Some decl
  pub is_con : con_decl g k ≡ Some con
  pub place : con_place g k ≡ Some (d, 0)
  pub eta : decl.eta ≡ true

-- the argument that t, itself its record's constructor with all its arguments, has for field f
pub record IsArgument (g : Signature Term) (f : ℕ) (t u : Term) : Type 0 where
  pub fam : ℕ
  pub at : ℕ
  pub con : ConApp
  pub place : field_place g f ≡ Some (fam, at)
  pub full : full_con g t ≡ Some con
  pub own : con_place g con.con ≡ Some (fam, 0)
  pub is : slice_get con.args at ≡ Some u

mutual
  pub data Conv (g : Signature Term) : Term → Term → Type 0 where
    -- an equivalence
    same : {t : Term} → Conv g t t
    back : {t u : Term} → Conv g t u → Conv g u t
    then : {t u v : Term} → Conv g t u → Conv g u v → Conv g t v
    -- a congruence, in which names, domains of lambdas and parameters of constructors count nothing
    pi : {b : Flag} {x y : ℕ} {s s' t t' : Term} → Conv g s s' → Conv g t t' → Conv g (Pi b x s t) (Pi b y s' t')
    lam : {b : Flag} {x y : ℕ} {s s' t t' : Term} → Conv g t t' → Conv g (Lam b x s t) (Lam b y s' t')
    app : {b : Flag} {t t' u u' : Term} → Conv g t t' → Conv g u u' → Conv g (App b t u) (App b t' u')
    con : {k : ℕ} {ts us : Terms} → Conv g (Con k ts) (Con k us)
    proj : {f : ℕ} {t t' : Term} → Conv g t t' → Conv g (Proj f t) (Proj f t')
    meta : {m : ℕ} {ts us : Terms} → ConvAll g ts us → Conv g (Meta m ts) (Meta m us)
    -- a lambda at an argument of its flag
    beta : {b : Flag} {x : ℕ} {s t u : Term} → Conv g (App b (Lam b x s t) u) (subst t 0 u)
    -- eta for functions of either flag and any domain
    eta : {b : Flag} {x : ℕ} {s t : Term} → Conv g t (Lam b x s (App b (shift t 0 1) (Var 0)))
    -- eta for records that have it, at any parameters
    eta_record : {k d : ℕ} {t : Term} (ps : Terms) (is : IsEtaCon g k d) → Conv g t (elims (Con k ps) (args is.con.args (projections g d t)))
    -- the projection from a record's constructor with all arguments
    field : {f : ℕ} {t u : Term} → IsArgument g f t u → Conv g (Proj f t) u
    -- a function at eliminations at which its tree gives a term
    unfolds : {T : Tree Term} {u : Term} (f : ℕ) (es : List Elim) → tree_of g f ≡ Some T → Run g T [] es u → Conv g (elims (Def f) es) u

  -- the terms at each place are convertible, and there are as many
  pub data ConvAll (g : Signature Term) : Terms → Terms → Type 0 where
    ends : ConvAll g End End
    both : {t u : Term} {ts us : Terms} → Conv g t u → ConvAll g ts us → ConvAll g (And t ts) (And u us)
