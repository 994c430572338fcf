-- Bounded head forms: which head a term under eliminations comes to, and in how many steps.
use Rattle.std.specs.Prelude.{◌≡◌, ◌≢◌, ℕ, ◌+◌, ◌<◌, ◌≤◌, Bool, false, ◌&&◌, eqb, cond, List, [], ◌∷◌, ◌++◌, length, slice_get, Option, Some, None, option_map, option_and_then, suc}
use Rattle.std.specs.Option.{option_map_or}
use Rattle.core_rules.specs.declared.Flag.{Flag}
use Rattle.core_rules.specs.Term.{Term, Terms, Var, Sort, Pi, Lam, App, Def, Fam, Con, Proj, Meta}
use Rattle.core_rules.specs.Substitution.{subst, under, value_at, put_solution}
use Rattle.core_rules.specs.Signature.{Branch, Tree, Leaf, Intro, Cosplit, Split, RecordSplit, Absurd, CoBranches, ConBranches, co_branch, con_branch, Signature, tree_of, con_place, field_place}
use Rattle.core_rules.specs.Elimination.{Elim, Arg, Field, elims, projections}
use Rattle.core_rules.specs.Run.{ConApp, takes, full_con, spread, kept}

-- what each metavariable stands for, over the variables of its context, where it is solved
abbrev pub Solutions : Type 0
Solutions = ℕ → Option Term

-- a head under its eliminations: a form, or one that waits for the unsolved metavariable
pub data Answer : Type 0 where
  Form : Term → List Elim → Answer
  Blocked : ℕ → Term → List Elim → Answer

-- constructor k is the first of family d
abbrev pub is_first : Signature Term → ℕ → ℕ → Bool
is_first g k d = option_map_or (λ p. eqb p.0 d && eqb p.1 0) (con_place g k) false

-- the argument for field f of its record's constructor k, where us are all its arguments
abbrev pub argument_of : Signature Term → ℕ → List Term → ℕ → Option Term
argument_of g k us f = option_and_then (λ p. cond (takes g k (length us) && is_first g k p.0) (slice_get us p.1) None) (field_place g f)

-- the argument that a projection takes, and the eliminations after the projection
pub record Taken : Type 0 where
  pub value : Term
  pub rest : List Elim

-- what the first projection of es takes from constructor k at the arguments us and those of es before it
abbrev pub taken : Signature Term → ℕ → List Term → List Elim → Option Taken
taken g k us [] = None
taken g k us (Arg b u ∷ es) = taken g k (us ++ u ∷ []) es
taken g k us (Field f ∷ es) = option_map (λ u. record { value = u; rest = es }) (argument_of g k us f)

-- what a split does when the head form of its value is known: it enters a branch with the constructor's arguments, stays, or waits
pub data Choice : Type 0 where
  Enters : Branch Term → Tree Term → List Term → Choice
  Stays : Choice
  Waits : ℕ → Choice

abbrev pub enter : List Term → Option (Branch Term × Tree Term) → Choice
enter us None = Stays
enter us (Some p) = Enters p.0 p.1 us

abbrev pub branch_at : ConBranches Term → Option ConApp → Choice
branch_at bs None = Stays
branch_at bs (Some c) = enter c.args (con_branch bs c.con)

abbrev pub choice : Signature Term → ConBranches Term → Answer → Choice
choice g bs (Form h es) = branch_at bs (full_con g (elims h es))
choice g bs (Blocked m h es) = Waits m

-- no step changes h under es, and it waits for nothing
abbrev pub IsForm : Signature Term → Term → List Elim → Type 0
IsForm g (Var i) es = Unit {0}
IsForm g (Sort n) es = Unit {0}
IsForm g (Pi b x a t) es = Unit {0}
IsForm g (Lam b x a t) [] = Unit {0}
IsForm g (Lam b x a t) (Arg c u ∷ es) = b ≢ c
IsForm g (Lam b x a t) (Field f ∷ es) = Unit {0}
IsForm g (App b t u) es = ⊥
IsForm g (Def f) es = tree_of g f ≡ None
IsForm g (Fam d) es = Unit {0}
IsForm g (Con k ps) es = taken g k [] es ≡ None
IsForm g (Proj f t) es = ⊥
IsForm g (Meta m ts) es = ⊥

-- the tree goes on nowhere with these eliminations, and asks for no value
abbrev pub IsStuck : Tree Term → List Elim → Type 0
IsStuck (Leaf t n) es = ⊥
IsStuck (Intro T) [] = Unit {0}
IsStuck (Intro T) (Arg b u ∷ es) = ⊥
IsStuck (Intro T) (Field f ∷ es) = Unit {0}
IsStuck (Cosplit bs) [] = Unit {0}
IsStuck (Cosplit bs) (Arg b u ∷ es) = Unit {0}
IsStuck (Cosplit bs) (Field f ∷ es) = co_branch bs f ≡ None
IsStuck (Split k bs) es = ⊥
IsStuck (RecordSplit k d T) es = ⊥
IsStuck (Absurd k) es = Unit {0}

mutual
  -- t under es comes to this answer in this many steps
  pub data Heads (g : Signature Term) (s : Solutions) : Term → List Elim → Answer → ℕ → Type 0 where
    form : {h : Term} {es : List Elim} → IsForm g h es → Heads g s h es (Form h es) 0
    argument : {b : Flag} {t u : Term} {es : List Elim} {w : Answer} {n : ℕ} → Heads g s t (Arg b u ∷ es) w n → Heads g s (App b t u) es w n
    projection : {f : ℕ} {t : Term} {es : List Elim} {w : Answer} {n : ℕ} → Heads g s t (Field f ∷ es) w n → Heads g s (Proj f t) es w n
    -- one step
    beta : {b c : Flag} {x : ℕ} {a t u : Term} {es : List Elim} {w : Answer} {n : ℕ} → b ≡ c → Heads g s (subst t 0 u) es w n → Heads g s (Lam b x a t) (Arg c u ∷ es) w (suc n)
    -- one step
    project : {k : ℕ} {ps : Terms} {es : List Elim} {p : Taken} {w : Answer} {n : ℕ} → taken g k [] es ≡ Some p → Heads g s p.value p.rest w n → Heads g s (Con k ps) es w (suc n)
    replaced : {m : ℕ} {ts : Terms} {t : Term} {es : List Elim} {w : Answer} {n : ℕ} → s m ≡ Some t → Heads g s (put_solution m ts (Some t)) es w n → Heads g s (Meta m ts) es w n
    unsolved : {m : ℕ} {ts : Terms} {es : List Elim} → s m ≡ None → Heads g s (Meta m ts) es (Blocked m (Meta m ts) es) 0
    call : {f : ℕ} {T : Tree Term} {es : List Elim} {w : Answer} {n : ℕ} → tree_of g f ≡ Some T → Follows g s (Def f) es T [] es w n → Heads g s (Def f) es w n

  -- Follows g s h all T r es w n: the call of h with all, which is at tree T in environment r with the eliminations es left, comes to the answer w in n steps more
  pub data Follows (g : Signature Term) (s : Solutions) : Term → List Elim → Tree Term → List Term → List Elim → Answer → ℕ → Type 0 where
    -- one step
    leaf : {h t : Term} {all es : List Elim} {i : ℕ} {r : List Term} {w : Answer} {n : ℕ} → Heads g s (under r t) es w n → Follows g s h all (Leaf t i) r es w (suc n)
    intro : {h u : Term} {b : Flag} {all es : List Elim} {T : Tree Term} {r : List Term} {w : Answer} {n : ℕ} → Follows g s h all T (u ∷ r) es w n → Follows g s h all (Intro T) r (Arg b u ∷ es) w n
    cosplit : {h : Term} {f : ℕ} {all es : List Elim} {bs : CoBranches Term} {T : Tree Term} {r : List Term} {w : Answer} {n : ℕ} → co_branch bs f ≡ Some T → Follows g s h all T r es w n → Follows g s h all (Cosplit bs) r (Field f ∷ es) w n
    -- the steps of the value count
    split : {h : Term} {all es : List Elim} {k : ℕ} {bs : ConBranches Term} {r : List Term} {v w : Answer} {m n : ℕ} → Heads g s (value_at r k) [] v m → After g s h all k r es (choice g bs v) w n → Follows g s h all (Split k bs) r es w (m + n)
    record_split : {h : Term} {all es : List Elim} {k d : ℕ} {T : Tree Term} {r : List Term} {w : Answer} {n : ℕ} → Follows g s h all T (spread k (projections g d (value_at r k)) r) es w n → Follows g s h all (RecordSplit k d T) r es w n
    stuck : {h : Term} {all es : List Elim} {T : Tree Term} {r : List Term} → IsStuck T es → Follows g s h all T r es (Form h all) 0

  -- the same where the split at variable k has made its choice
  pub data After (g : Signature Term) (s : Solutions) : Term → List Elim → ℕ → List Term → List Elim → Choice → Answer → ℕ → Type 0 where
    enters : {h : Term} {all es : List Elim} {k : ℕ} {r us : List Term} {b : Branch Term} {T : Tree Term} {w : Answer} {n : ℕ} → Follows g s h all T (kept b (spread k us r)) es w n → After g s h all k r es (Enters b T us) w n
    stays : {h : Term} {all es : List Elim} {k : ℕ} {r : List Term} → After g s h all k r es Stays (Form h all) 0
    waits : {h : Term} {all es : List Elim} {k m : ℕ} {r : List Term} → After g s h all k r es (Waits m) (Blocked m h all) 0

-- an answer with its number of steps, or none
pub data Bounded : Type 0 where
  Within : Answer → ℕ → Bounded
  Out : Bounded

-- the head form of t with this fuel: Out exactly where more steps than these are needed
abbrev pub HeadOf : Signature Term → Solutions → Term → ℕ → Bounded → Type 0
HeadOf g s t fuel (Within w n) = Heads g s t [] w n × (n ≤ fuel)
HeadOf g s t fuel Out = (w : Answer) (n : ℕ) → Heads g s t [] w n → fuel < n
