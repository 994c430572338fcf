-- How far the free variables of a term reach: those from there on do not occur in it.
use Rattle.std.specs.Prelude.{ℕ, ◌+◌, ◌-◌, max}
use Rattle.core_rules.specs.Term.{Term, Terms, Var, Sort, Pi, Lam, App, Def, Fam, Con, Proj, Meta, End, And}

abbrev mutual
  pub reach : Term → ℕ
  reach (Var i) = i + 1
  reach (Sort n) = 0
  reach (Pi b x a t) = max (reach a) (reach t - 1)
  reach (Lam b x a t) = max (reach a) (reach t - 1)
  reach (App b t u) = max (reach t) (reach u)
  reach (Def f) = 0
  reach (Fam d) = 0
  reach (Con k ts) = reach_all ts
  reach (Proj f t) = reach t
  reach (Meta m ts) = reach_all ts

  pub reach_all : Terms → ℕ
  reach_all End = 0
  reach_all (And t ts) = max (reach t) (reach_all ts)
