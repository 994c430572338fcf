-- That so many steps towards a head form can be made, whether or not it is reached.
use Rattle.std.specs.Prelude.{◌≡◌, ℕ, ◌+◌, List, [], ◌∷◌, Some, suc}
use Rattle.core_rules.specs.declared.Flag.{Flag}
use Rattle.core_rules.specs.Term.{Term, Terms, Lam, App, Def, Con, Proj, Meta}
use Rattle.core_rules.specs.Substitution.{subst, under, value_at, put_solution}
use Rattle.core_rules.specs.Signature.{Branch, Tree, Leaf, Intro, Cosplit, Split, RecordSplit, CoBranches, ConBranches, co_branch, Signature, tree_of}
use Rattle.core_rules.specs.Elimination.{Elim, Arg, Field, projections}
use Rattle.core_rules.specs.Run.{spread, kept}
use Rattle.core_rules.specs.Heads.{Solutions, Answer, Taken, taken, Enters, choice, Heads}

mutual
  -- n steps can be made from t under es
  pub data Makes (g : Signature Term) (s : Solutions) : Term → List Elim → ℕ → Type 0 where
    none : {t : Term} {es : List Elim} → Makes g s t es 0
    argument : {b : Flag} {t u : Term} {es : List Elim} {n : ℕ} → Makes g s t (Arg b u ∷ es) n → Makes g s (App b t u) es n
    projection : {f : ℕ} {t : Term} {es : List Elim} {n : ℕ} → Makes g s t (Field f ∷ es) n → Makes g s (Proj f t) es n
    beta : {b c : Flag} {x : ℕ} {a t u : Term} {es : List Elim} {n : ℕ} → b ≡ c → Makes g s (subst t 0 u) es n → Makes g s (Lam b x a t) (Arg c u ∷ es) (suc n)
    project : {k : ℕ} {ps : Terms} {es : List Elim} {p : Taken} {n : ℕ} → taken g k [] es ≡ Some p → Makes g s p.value p.rest n → Makes g s (Con k ps) es (suc n)
    replaced : {m : ℕ} {ts : Terms} {t : Term} {es : List Elim} {n : ℕ} → s m ≡ Some t → Makes g s (put_solution m ts (Some t)) es n → Makes g s (Meta m ts) es n
    call : {f : ℕ} {T : Tree Term} {es : List Elim} {n : ℕ} → tree_of g f ≡ Some T → MakesIn g s T [] es n → Makes g s (Def f) es n

  -- n steps can be made from tree T in environment r with the eliminations es left
  pub data MakesIn (g : Signature Term) (s : Solutions) : Tree Term → List Term → List Elim → ℕ → Type 0 where
    leaf : {t : Term} {i : ℕ} {r : List Term} {es : List Elim} {n : ℕ} → Makes g s (under r t) es n → MakesIn g s (Leaf t i) r es (suc n)
    intro : {T : Tree Term} {r : List Term} {b : Flag} {u : Term} {es : List Elim} {n : ℕ} → MakesIn g s T (u ∷ r) es n → MakesIn g s (Intro T) r (Arg b u ∷ es) n
    cosplit : {bs : CoBranches Term} {T : Tree Term} {r : List Term} {f : ℕ} {es : List Elim} {n : ℕ} → co_branch bs f ≡ Some T → MakesIn g s T r es n → MakesIn g s (Cosplit bs) r (Field f ∷ es) n
    -- those of the value, or all of these and then those of the branch
    value : {k : ℕ} {bs : ConBranches Term} {r : List Term} {es : List Elim} {n : ℕ} → Makes g s (value_at r k) [] n → MakesIn g s (Split k bs) r es n
    branch : {k : ℕ} {bs : ConBranches Term} {b : Branch Term} {T : Tree Term} {r us : List Term} {es : List Elim} {v : Answer} {m n : ℕ}
        → Heads g s (value_at r k) [] v m → choice g bs v ≡ Enters b T us → MakesIn g s T (kept b (spread k us r)) es n → MakesIn g s (Split k bs) r es (m + n)
    record_split : {T : Tree Term} {k d : ℕ} {r : List Term} {es : List Elim} {n : ℕ} → MakesIn g s T (spread k (projections g d (value_at r k)) r) es n → MakesIn g s (RecordSplit k d T) r es n
