-- Conversion is kept by a change that is lifted under binders, where the run of a tree is.
use Rattle.std.specs.Prelude.{◌≡◌, ℕ, ◌+◌, List, [], ◌∷◌, option_map}
use Rattle.std.proofs.Common.{ap, sym, ◌∙◌, subst, add-zero}
use Rattle.std.proofs.lemmas.Option.{slice_get-map}
use Rattle.core_rules.specs.declared.Flag.{Flag}
use Rattle.core_rules.specs.Term.{Term, Terms, Var, App, Def, Con}
use Rattle.core_rules.specs.Substitution.{over, over_all, shift, subst as put}
use Rattle.core_rules.specs.Signature.{Signature, Tree}
use Rattle.core_rules.specs.Elimination.{Elim, Arg, Field, elims, args, projections, elims_over}
use Rattle.core_rules.specs.Run.{Run}
use Rattle.core_rules.specs.Conversion as C
use Rattle.core_rules.specs.Conversion.{Conv, ConvAll, IsArgument, IsEtaCon}
use Rattle.core_rules.specs.Laws.{IsLifted, RunsTo}
use Rattle.core_rules.proofs.Substitution.Lifted.{over-subst, over-shift}
use Rattle.core_rules.proofs.Spines.{over-elims, args-over, projections-over}
use Rattle.core_rules.proofs.Run.Constructors.{full_con-over, con_over}

pub conv-elims : {g : Signature Term} {t u : Term} (es : List Elim) → Conv g t u → Conv g (elims t es) (elims u es)
conv-elims [] h = h
conv-elims (Arg b v ∷ es) h = conv-elims es (C.app h C.same)
conv-elims (Field f ∷ es) h = conv-elims es (C.proj h)

pub conv_by : {g : Signature Term} {t u : Term} → t ≡ u → Conv g t u
conv_by {g = g} {t = t} e = subst (λ u. Conv g t u) e C.same

module _ (f : ℕ → ℕ → Term) (l : IsLifted f) where
  pub over-beta : (d : ℕ) (t u : Term) → over f d (put t 0 u) ≡ put (over f (d + 1) t) 0 (over f d u)
  over-beta d t u = rw add-zero at (over-subst f l 0 d u t)

  pub over-eta : (d : ℕ) (b : Flag) (t : Term) → over f (d + 1) (App b (shift t 0 1) (Var 0)) ≡ App b (shift (over f d t) 0 1) (Var 0)
  over-eta d b t = cc (over-shift f l 1 d t, l.own d)

  over-record : (g : Signature Term) (d k n : ℕ) (ps : Terms) (t : Term) (is : IsEtaCon g k n)
      → over f d (elims (Con k ps) (args is.con.args (projections g n t))) ≡ elims (Con k (over_all f d ps)) (args is.con.args (projections g n (over f d t)))
  over-record g d k n ps t is = over-elims f d (Con k ps) (args is.con.args (projections g n t))
      ∙ ap (λ es. elims (Con k (over_all f d ps)) es) (args-over f d is.con.args (projections g n t) ∙ ap (args is.con.args) (projections-over f d g n t))

  pub over-argument : (g : Signature Term) (d k : ℕ) (t u : Term) → IsArgument g k t u → IsArgument g k (over f d t) (over f d u)
  over-argument g d k t u is = record {
    fam = is.fam;
    at = is.at;
    con = con_over f d is.con;
    place = is.place;
    full = full_con-over g f d t is.con is.full;
    own = is.own;
    is = slice_get-map (over f d) is.con.args is.at ∙ ap (option_map (over f d)) is.is;
  }

  module _ (g : Signature Term) (runs : (d : ℕ) (T : Tree Term) (es : List Elim) (u : Term) → Run g T [] es u → RunsTo g T [] (elims_over f d es) (over f d u)) where
    mutual
      pub conv-over : {t u : Term} (d : ℕ) → Conv g t u → Conv g (over f d t) (over f d u)
      conv-over d C.same = C.same
      conv-over d (C.back h) = C.back (conv-over d h)
      conv-over d (C.then h k) = C.then (conv-over d h) (conv-over d k)
      conv-over d (C.pi h k) = C.pi (conv-over d h) (conv-over (d + 1) k)
      conv-over d (C.lam h) = C.lam (conv-over (d + 1) h)
      conv-over d (C.app h k) = C.app (conv-over d h) (conv-over d k)
      conv-over d C.con = C.con
      conv-over d (C.proj h) = C.proj (conv-over d h)
      conv-over d (C.meta h) = C.meta (conv_all-over d h)
      conv-over d (C.beta {t = t} {u = u}) = C.then C.beta (conv_by (sym (over-beta d t u)))
      conv-over d (C.eta {b = b} {x = x} {s = s} {t = t}) = C.then (C.eta {x = x} {s = s}) (C.lam (conv_by (sym (over-eta d b t))))
      conv-over d (C.eta_record {k = k} {d = n} {t = t} ps is) = C.then (C.eta_record (over_all f d ps) is) (conv_by (sym (over-record g d k n ps t is)))
      conv-over d (C.field {f = k} {t = t} {u = u} is) = C.field (over-argument g d k t u is)
      conv-over d (C.unfolds {T = T} {u = u} k es e h) =
          let r = runs d T es u h in
          C.then (conv_by (over-elims f d (Def k) es)) (C.then (C.unfolds k (elims_over f d es) e r.runs) r.is)

      pub conv_all-over : {ts us : Terms} (d : ℕ) → ConvAll g ts us → ConvAll g (over_all f d ts) (over_all f d us)
      conv_all-over d C.ends = C.ends
      conv_all-over d (C.both h k) = C.both (conv-over d h) (conv_all-over d k)
