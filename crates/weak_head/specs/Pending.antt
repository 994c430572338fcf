-- A run towards a head form that is on its way: what is looked at now, and the splits that wait for it.
use Rattle.std.specs.Prelude.{◌≡◌, ℕ, List, [], ◌∷◌, Some, None, zero, suc}
use Rattle.std.specs.List.{AllByRecursion}
use Rattle.core_rules.specs.Term.{Term, Terms, Var, Sort, Pi, Lam, App, Def, Fam, Con, Proj, Meta}
use Rattle.core_rules.specs.Substitution.{value_at, put_solution}
use Rattle.core_rules.specs.Signature.{Tree, ConBranches, Signature}
use Rattle.core_rules.specs.Elimination.{Elim}
use Rattle.core_rules.specs.Run.{spread, kept}
use Rattle.core_rules.specs.Heads.{Solutions, Answer, Form, Blocked, Choice, Enters, Stays, Waits, choice}
use Rattle.core_rules.specs.BoundedLaws.{Next, Ends, Becomes, Calls, next, NextNode, Unfolds, GoesOn, Asks, StaysThere, next_node}

-- a term under eliminations, a call at a node of its tree, an answer, or a term to which one step leads
pub data Now : Type 0 where
  AtTerm : Term → List Elim → Now
  AtTree : Term → List Elim → Tree Term → List Term → List Elim → Now
  AtAnswer : Answer → Now
  AtStep : Term → List Elim → Now

-- a split that waits for the head form of its value: the call with all its eliminations, the variable, the branches, the
-- environment, and the eliminations left
pub record Frame : Type 0 where
  pub head : Term
  pub all : List Elim
  pub place : ℕ
  pub branches : ConBranches Term
  pub values : List Term
  pub rest : List Elim

-- a run that goes on, with the innermost split first, one that has its answer, and one at which a step is due
pub data Run : Type 0 where
  On : Now → List Frame → Run
  Ended : Answer → Run
  Due : Term → List Elim → List Frame → Run

abbrev pub by_next : Term → List Elim → List Frame → Next → Run
by_next t es fs (Ends v) = On (AtAnswer v) fs
by_next t es fs (Becomes zero u ds) = On (AtTerm u ds) fs
by_next t es fs (Becomes (suc k) u ds) = On (AtStep u ds) fs
by_next t es fs (Calls T) = On (AtTree t es T [] es) fs

abbrev pub by_node : Term → List Elim → List Term → List Elim → List Frame → NextNode → Run
by_node h all r es fs (Unfolds t) = On (AtStep t es) fs
by_node h all r es fs (GoesOn T q ds) = On (AtTree h all T q ds) fs
by_node h all r es fs (Asks k bs) = On (AtTerm (value_at r k) []) (record { head = h; all = all; place = k; branches = bs; values = r; rest = es } ∷ fs)
by_node h all r es fs StaysThere = On (AtAnswer (Form h all)) fs

abbrev pub by_choice : Frame → List Frame → Choice → Run
by_choice f fs (Enters b T us) = On (AtTree f.head f.all T (kept b (spread f.place us f.values)) f.rest) fs
by_choice f fs Stays = On (AtAnswer (Form f.head f.all)) fs
by_choice f fs (Waits m) = On (AtAnswer (Blocked m f.head f.all)) fs

abbrev pub move_back : Signature Term → Answer → List Frame → Run
move_back g w [] = Ended w
move_back g w (f ∷ fs) = by_choice f fs (choice g f.branches w)

-- one move, which takes no step
abbrev pub move : Signature Term → Solutions → Now → List Frame → Run
move g s (AtTerm t es) fs = by_next t es fs (next g s t es)
move g s (AtTree h all T r es) fs = by_node h all r es fs (next_node g T r es)
move g s (AtAnswer w) fs = move_back g w fs
move g s (AtStep u es) fs = Due u es fs

-- u is t with solved metavariables at its head replaced
pub data Comes (s : Solutions) : Term → Term → Type 0 where
  here : {t : Term} → Comes s t t
  by : (m : ℕ) (ts : Terms) (t u : Term) → s m ≡ Some t → Comes s (put_solution m ts (Some t)) u → Comes s (Meta m ts) u

-- the head is no solved metavariable
abbrev pub Rests : Solutions → Term → Type 0
Rests s u = (m : ℕ) (ts : Terms) → u ≡ Meta m ts → s m ≡ None

-- u is t with them replaced, until the head is none
pub record IsResolved (s : Solutions) (t u : Term) : Type 0 where
  pub comes : Comes s t u
  pub rests : Rests s u

-- what is looked at once the head is no solved metavariable
abbrev pub LooksAt : Solutions → Now → Now → Type 0
LooksAt s (AtTerm t es) l = (u : Term) × IsResolved s t u × (l ≡ AtTerm u es)
LooksAt s (AtTree h all T r es) l = l ≡ AtTree h all T r es
LooksAt s (AtAnswer w) l = l ≡ AtAnswer w
LooksAt s (AtStep u es) l = l ≡ AtStep u es

-- r is one move on from x, over the splits fs that wait
pub record IsTurn (g : Signature Term) (s : Solutions) (x : Now) (fs : List Frame) (r : Run) : Type 0 where
  pub looked : Now
  pub looks : LooksAt s x looked
  pub is : r ≡ move g s looked fs

-- no application, so that what it stands under are its eliminations
abbrev pub IsBare : Term → Type 0
IsBare (App b t u) = ⊥
IsBare (Var i) = Unit {0}
IsBare (Sort n) = Unit {0}
IsBare (Pi b x a t) = Unit {0}
IsBare (Lam b x a t) = Unit {0}
IsBare (Def f) = Unit {0}
IsBare (Fam d) = Unit {0}
IsBare (Con k ps) = Unit {0}
IsBare (Proj f t) = Unit {0}
IsBare (Meta m ts) = Unit {0}

abbrev pub AnswerBare : Answer → Type 0
AnswerBare (Form h es) = IsBare h
AnswerBare (Blocked m h es) = IsBare h

-- so are the heads of calls and answers
abbrev pub NowBare : Now → Type 0
NowBare (AtTerm t es) = Unit {0}
NowBare (AtTree h all T r es) = IsBare h
NowBare (AtAnswer w) = AnswerBare w
NowBare (AtStep u es) = Unit {0}

abbrev pub FramesBare : List Frame → Type 0
FramesBare fs = AllByRecursion (λ f. IsBare f.head) fs

abbrev pub RunBare : Run → Type 0
RunBare (On x fs) = NowBare x × FramesBare fs
RunBare (Ended w) = AnswerBare w
RunBare (Due u es fs) = FramesBare fs
