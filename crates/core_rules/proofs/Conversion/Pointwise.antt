-- Changes that are convertible at each variable give convertible terms.
use Rattle.std.specs.Prelude.{ℕ, ◌+◌}
use Rattle.core_rules.specs.Term.{Term, Terms, Var, Sort, Pi, Lam, App, Def, Fam, Con, Proj, Meta, End, And}
use Rattle.core_rules.specs.Substitution.{over, over_all}
use Rattle.core_rules.specs.Signature.{Signature}
use Rattle.core_rules.specs.Conversion as C
use Rattle.core_rules.specs.Conversion.{Conv, ConvAll}

module _ (g : Signature Term) (f h : ℕ → ℕ → Term) (e : (d i : ℕ) → Conv g (f d i) (h d i)) where
  mutual
    pub over-conv : (d : ℕ) (t : Term) → Conv g (over f d t) (over h d t)
    over-conv d (Var i) = e d i
    over-conv d (Sort n) = C.same
    over-conv d (Pi b x a t) = C.pi (over-conv d a) (over-conv (d + 1) t)
    over-conv d (Lam b x a t) = C.lam (over-conv (d + 1) t)
    over-conv d (App b t u) = C.app (over-conv d t) (over-conv d u)
    over-conv d (Def k) = C.same
    over-conv d (Fam k) = C.same
    over-conv d (Con k ts) = C.con
    over-conv d (Proj k t) = C.proj (over-conv d t)
    over-conv d (Meta m ts) = C.meta (over_all-conv d ts)

    pub over_all-conv : (d : ℕ) (ts : Terms) → ConvAll g (over_all f d ts) (over_all h d ts)
    over_all-conv d End = C.ends
    over_all-conv d (And t ts) = C.both (over-conv d t) (over_all-conv d ts)
