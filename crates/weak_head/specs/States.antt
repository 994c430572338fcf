-- What the states of a run in code are to the rules.
use Rattle.std.specs.Prelude.{ℕ, ◌<◌, List, [], ◌∷◌, map, reverse, drop, Option, Some, None}
use Rattle.std.specs.List.{AllByRecursion}
use Rattle.core_rules.specs.Term.{Term}
use Rattle.core_rules.specs.Substitution.{subst, under}
use Rattle.core_rules.specs.Signature.{Tree}
use Rattle.core_rules.specs.Mapped.{tree_map, con_branches_map, AllTree, AllConBranches}
use Rattle.core_rules.specs.Heads.{Answer, Form, Blocked}
use Rattle.core_terms.specs.TreeView.{con_of}
use Rattle.weak_head.specs.Elims.{spine_in, env_in, AllBelow}
use Rattle.weak_head.specs.Pending.{Now, AtTerm, AtTree, AtAnswer, AtStep, Frame, Run, On, Ended, Due}
use Rattle.weak_head.specs.declared.state.Applied as A
use Rattle.weak_head.specs.declared.state.Call as C
use Rattle.weak_head.specs.declared.state.Frame as F
use Rattle.weak_head.specs.declared.state.Due as D
use Rattle.weak_head.specs.declared.state.Due.TheVariants as DV
use Rattle.weak_head.specs.declared.state.State as S
use Rattle.weak_head.specs.declared.state.State.TheVariants as SV
use Rattle.weak_head.specs.declared.state.Turned as T
use Rattle.weak_head.specs.declared.state.Turned.TheVariants as TV
use Rattle.weak_head.specs.declared.state.Run as R
use Rattle.weak_head.specs.declared.state.Run.TheVariants as RV

abbrev pub Ids : ℕ → List ℕ → Type 0
Ids n xs = AllByRecursion (λ i. i < n) xs

-- where f gives the trees of ids
module _ (f : ℕ → Term) where
  abbrev pub answer_in : Option ℕ → A.Applied → Answer
  answer_in None a = Form (f a.head) (spine_in f a.spine.items)
  answer_in (Some m) a = Blocked m (f a.head) (spine_in f a.spine.items)

  abbrev pub due_in : D.Due → Term
  due_in (DV.Beta b u) = subst (f b) 0 (f u)
  due_in (DV.Unfold b r) = under (env_in f r.items) (f b)
  due_in (DV.Take u) = f u

  abbrev pub call_in : C.Call → Tree ℕ → Now
  call_in c t = AtTree (f c.term.head) (spine_in f c.term.spine.items) (tree_map f t) (env_in f c.env.items) (drop c.taken (spine_in f c.term.spine.items))

  abbrev pub state_in : S.State → Now
  state_in (SV.Term a) = AtTerm (f a.head) (spine_in f a.spine.items)
  state_in (SV.Node c t) = call_in c t.now
  state_in (SV.Answer m a) = AtAnswer (answer_in m a)
  state_in (SV.Step d es) = AtStep (due_in d) (spine_in f es.items)

  abbrev pub frame_in : F.Frame → Frame
  frame_in x = record {
    head = f x.call.term.head;
    all = spine_in f x.call.term.spine.items;
    place = x.at;
    branches = con_branches_map f (con_of x.branches.now);
    values = env_in f x.call.env.items;
    rest = drop x.call.taken (spine_in f x.call.term.spine.items);
  }

  -- the last one comes first
  abbrev pub frames_in : List F.Frame → List Frame
  frames_in xs = map frame_in (reverse xs)

  abbrev pub turned_in : List Frame → T.Turned → Run
  turned_in fs (TV.On s) = On (state_in s) fs
  turned_in fs (TV.Asks x v) = On (AtTerm (f v) []) (frame_in x ∷ fs)

  abbrev pub run_in : R.Run → Run
  run_in (RV.On s xs) = On (state_in s) (frames_in xs.items)
  run_in (RV.Answer m a) = Ended (answer_in m a)
  run_in (RV.Due d es xs) = Due (due_in d) (spine_in f es.items) (frames_in xs.items)

-- what they name are ids below n
module _ (n : ℕ) where
  abbrev pub AppliedBelow : A.Applied → Type 0
  AppliedBelow a = (a.head < n) × AllBelow n a.spine.items

  abbrev pub CallBelow : C.Call → Type 0
  CallBelow c = AppliedBelow c.term × Ids n c.env.items

  abbrev pub DueBelow : D.Due → Type 0
  DueBelow (DV.Beta b u) = (b < n) × (u < n)
  DueBelow (DV.Unfold b r) = (b < n) × Ids n r.items
  DueBelow (DV.Take u) = u < n

  abbrev pub StateBelow : S.State → Type 0
  StateBelow (SV.Term a) = AppliedBelow a
  StateBelow (SV.Node c t) = CallBelow c × AllTree (λ i. i < n) t.now
  StateBelow (SV.Answer m a) = AppliedBelow a
  StateBelow (SV.Step d es) = DueBelow d × AllBelow n es.items

  abbrev pub FrameBelow : F.Frame → Type 0
  FrameBelow x = CallBelow x.call × AllConBranches (λ i. i < n) (con_of x.branches.now)

  abbrev pub FramesBelow : List F.Frame → Type 0
  FramesBelow xs = AllByRecursion FrameBelow xs

  abbrev pub TurnedBelow : T.Turned → Type 0
  TurnedBelow (TV.On s) = StateBelow s
  TurnedBelow (TV.Asks x v) = FrameBelow x × (v < n)

  abbrev pub RunBelow : R.Run → Type 0
  RunBelow (RV.On s xs) = StateBelow s × FramesBelow xs.items
  RunBelow (RV.Answer m a) = AppliedBelow a
  RunBelow (RV.Due d es xs) = DueBelow d × AllBelow n es.items × FramesBelow xs.items

abbrev pub IsSettled : R.Run → Type 0
IsSettled (RV.On s xs) = ⊥
IsSettled (RV.Answer m a) = Unit {0}
IsSettled (RV.Due d es xs) = Unit {0}
