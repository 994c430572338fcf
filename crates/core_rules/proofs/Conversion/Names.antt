-- Terms that differ in names alone are convertible.
use Rattle.core_rules.specs.Term.{Term, Terms, Var, Sort, Pi, Lam, App, Def, Fam, Con, Proj, Meta, End, And, nameless, nameless_all, IsSameTerm}
use Rattle.core_rules.specs.Signature.{Signature}
use Rattle.core_rules.specs.Conversion as C
use Rattle.core_rules.specs.Conversion.{Conv, ConvAll}
use Rattle.core_rules.proofs.Conversion.Changed.{conv_by}

module _ (g : Signature Term) where
  mutual
    conv-nameless : (t : Term) → Conv g t (nameless t)
    conv-nameless (Var i) = C.same
    conv-nameless (Sort n) = C.same
    conv-nameless (Pi b x a t) = C.pi (conv-nameless a) (conv-nameless t)
    conv-nameless (Lam b x a t) = C.lam (conv-nameless t)
    conv-nameless (App b t u) = C.app (conv-nameless t) (conv-nameless u)
    conv-nameless (Def f) = C.same
    conv-nameless (Fam d) = C.same
    conv-nameless (Con k ts) = C.con
    conv-nameless (Proj f t) = C.proj (conv-nameless t)
    conv-nameless (Meta m ts) = C.meta (conv_all-nameless ts)

    conv_all-nameless : (ts : Terms) → ConvAll g ts (nameless_all ts)
    conv_all-nameless End = C.ends
    conv_all-nameless (And t ts) = C.both (conv-nameless t) (conv_all-nameless ts)

  pub same_term : (t u : Term) → IsSameTerm t u → Conv g t u
  same_term t u h = C.then (conv-nameless t) (C.then (conv_by h) (C.back (conv-nameless u)))
