-- What stands at the head of an answer.
use Rattle.std.specs.Prelude.{ℕ, List, refl}
use Rattle.core_rules.specs.Term.{Term, Var, Sort, Pi, Lam, App, Def, Fam, Con, Proj, Meta}
use Rattle.core_rules.specs.Signature.{Tree, Signature}
use Rattle.core_rules.specs.Elimination.{Elim}
use Rattle.core_rules.specs.Heads.{Solutions, Answer, Choice, IsForm, Heads, form, argument, projection, beta, project, replaced, unsolved, call, Follows, leaf, intro, cosplit, split, record_split, stuck, After, enters, stays, waits}
use Rattle.core_rules.specs.BoundedLaws.{IsHead, HasItsHead}

form_head : (g : Signature Term) (h : Term) (es : List Elim) → IsForm g h es → IsHead h
form_head g (App b t u) es p = absurd p
form_head g (Proj f t) es p = absurd p
form_head g (Meta i ts) es p = absurd p
form_head g (Con k ps) es p = tt
form_head g (Var i) es p = tt
form_head g (Sort i) es p = tt
form_head g (Pi b x a t) es p = tt
form_head g (Lam b x a t) es p = tt
form_head g (Def i) es p = tt
form_head g (Fam i) es p = tt

module _ (g : Signature Term) (s : Solutions) where
  mutual
    pub its_head : {t : Term} {es : List Elim} {w : Answer} {n : ℕ} → Heads g s t es w n → HasItsHead w
    its_head (form {h = h} {es = es} p) = form_head g h es p
    its_head (argument d) = its_head d
    its_head (projection d) = its_head d
    its_head (beta e d) = its_head d
    its_head (project e d) = its_head d
    its_head (replaced e d) = its_head d
    its_head (unsolved e) = refl
    its_head (call {f = f} e d) = follows_head f d

    follows_head : {all es : List Elim} {T : Tree Term} {r : List Term} {w : Answer} {n : ℕ} (f : ℕ) → Follows g s (Def f) all T r es w n → HasItsHead w
    follows_head f (leaf d) = its_head d
    follows_head f (intro d) = follows_head f d
    follows_head f (cosplit e d) = follows_head f d
    follows_head f (split d a) = after_head f a
    follows_head f (record_split d) = follows_head f d
    follows_head f (stuck q) = tt

    after_head : {all es : List Elim} {k : ℕ} {r : List Term} {c : Choice} {w : Answer} {n : ℕ} (f : ℕ) → After g s (Def f) all k r es c w n → HasItsHead w
    after_head f (enters d) = follows_head f d
    after_head f stays = tt
    after_head f waits = tt
