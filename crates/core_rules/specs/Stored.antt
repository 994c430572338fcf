-- The code of terms as binary trees of numbers, by which a value that holds terms can be the value of a model.
use Rattle.std.specs.Prelude.{◌≡◌, refl, zero, suc}
use Rattle.std.specs.Coded.{Coded, code_by}
use base.Stored.{Gv, gnil, gnum, gcons}
use denote.Struct.Codes.{itself}
use Rattle.core_rules.specs.declared.Flag.{Flag}
use Rattle.core_rules.specs.declared.Flag.TheVariants.{Explicit, Implicit}
use Rattle.core_rules.specs.Term.{Term, Terms, Var, Sort, Pi, Lam, App, Def, Fam, Con, Proj, Meta, End, And}

abbrev pub flag_to : Flag → Gv
flag_to Explicit = gnil
flag_to Implicit = gnum 0

abbrev pub flag_from : Gv → Flag
flag_from gnil = Explicit
flag_from _ = Implicit

pub flag_back : (b : Flag) → flag_from (flag_to b) ≡ b
flag_back Explicit = refl
flag_back Implicit = refl

abbrev pub coded_flag : Coded Flag
coded_flag = code_by Gv itself flag_to flag_from flag_back

-- the kind shows in where the tree has numbers and where it is empty
abbrev mutual
  to : Term → Gv
  to (Var i) = gnum i
  to (Sort n) = gcons (gnum n) (gnum 0)
  to (Def f) = gcons (gnum f) (gnum 1)
  to (Fam d) = gcons (gnum d) (gnum 2)
  to (Con k ts) = gcons (gnum k) (gcons (gnum 0) (to_all ts))
  to (Meta m ts) = gcons (gnum m) (gcons (gnum 1) (to_all ts))
  to (Proj f t) = gcons (gnum f) (gcons (gnum 2) (to t))
  to (App b t u) = gcons (gcons (flag_to b) gnil) (gcons (to t) (to u))
  to (Pi b x a t) = gcons (gcons (flag_to b) (gcons gnil (gnum x))) (gcons (to a) (to t))
  to (Lam b x a t) = gcons (gcons (flag_to b) (gcons (gnum 0) (gnum x))) (gcons (to a) (to t))

  to_all : Terms → Gv
  to_all End = gnil
  to_all (And t ts) = gcons (to t) (to_all ts)

abbrev mutual
  from : Gv → Term
  from (gnum i) = Var i
  from (gcons (gnum n) (gnum zero)) = Sort n
  from (gcons (gnum f) (gnum (suc zero))) = Def f
  from (gcons (gnum d) (gnum (suc (suc _)))) = Fam d
  from (gcons (gnum k) (gcons (gnum zero) g)) = Con k (from_all g)
  from (gcons (gnum m) (gcons (gnum (suc zero)) g)) = Meta m (from_all g)
  from (gcons (gnum f) (gcons (gnum (suc (suc _))) g)) = Proj f (from g)
  from (gcons (gcons b gnil) (gcons g h)) = App (flag_from b) (from g) (from h)
  from (gcons (gcons b (gcons gnil (gnum x))) (gcons g h)) = Pi (flag_from b) x (from g) (from h)
  from (gcons (gcons b (gcons (gnum _) (gnum x))) (gcons g h)) = Lam (flag_from b) x (from g) (from h)
  from _ = Var 0

  from_all : Gv → Terms
  from_all (gcons g h) = And (from g) (from_all h)
  from_all _ = End

mutual
  pub back : (t : Term) → from (to t) ≡ t
  back (Var i) = refl
  back (Sort n) = refl
  back (Pi b x a t) = cc (flag_back b, back a, back t)
  back (Lam b x a t) = cc (flag_back b, back a, back t)
  back (App b t u) = cc (flag_back b, back t, back u)
  back (Def f) = refl
  back (Fam d) = refl
  back (Con k ts) = cc (back_all ts)
  back (Proj f t) = cc (back t)
  back (Meta m ts) = cc (back_all ts)

  pub back_all : (ts : Terms) → from_all (to_all ts) ≡ ts
  back_all End = refl
  back_all (And t ts) = cc (back t, back_all ts)

abbrev pub coded_term : Coded Term
coded_term = code_by Gv itself to from back
