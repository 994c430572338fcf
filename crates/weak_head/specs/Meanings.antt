-- What a run on its way has still to come to: which answers, in how many steps.
use Rattle.std.specs.Prelude.{◌≡◌, ℕ, ◌+◌, List, [], ◌∷◌}
use Rattle.core_rules.specs.Term.{Term}
use Rattle.core_rules.specs.Signature.{Signature}
use Rattle.core_rules.specs.Heads.{Solutions, Answer, choice, Heads, Follows, After}
use Rattle.weak_head.specs.Pending.{Now, AtTerm, AtTree, AtAnswer, AtStep, Frame, Run, On, Ended, Due}

-- which answers, in how many steps
abbrev pub Meaning : Type 1
Meaning = Answer → ℕ → Type 0

-- M has the answers of N, each with k steps more
pub record Leads (M : Meaning) (k : ℕ) (N : Meaning) : Type 0 where
  pub from : (w : Answer) (n : ℕ) → N w n → M w (k + n)
  pub only : (w : Answer) (n : ℕ) → M w n → (m : ℕ) × (n ≡ k + m) × N w m

module _ (g : Signature Term) (s : Solutions) where
  abbrev pub Means : Now → Meaning
  Means (AtTerm t es) w n = Heads g s t es w n
  Means (AtTree h all T r es) w n = Follows g s h all T r es w n
  Means (AtAnswer v) w n = (w ≡ v) × (n ≡ 0)
  Means (AtStep u es) w n = (m : ℕ) × Heads g s u es w m × (n ≡ 1 + m)

  -- the split goes on with the answer of its value
  pub record Resumes (f : Frame) (M : Meaning) (w : Answer) (n : ℕ) : Type 0 where
    pub value : Answer
    pub before : ℕ
    pub later : ℕ
    pub first : M value before
    pub then_on : After g s f.head f.all f.place f.values f.rest (choice g f.branches value) w later
    pub total : n ≡ before + later

  abbrev pub Whole : List Frame → Meaning → Meaning
  Whole [] M = M
  Whole (f ∷ fs) M = Whole fs (Resumes f M)

  abbrev pub RunMeans : Run → Meaning
  RunMeans (On x fs) = Whole fs (Means x)
  RunMeans (Ended w) = Means (AtAnswer w)
  RunMeans (Due u es fs) = Whole fs (Means (AtStep u es))

  -- the run r has to come to what x has, over the splits fs that wait
  abbrev pub Settles : Now → List Frame → Run → Type 0
  Settles x fs r = Leads (Whole fs (Means x)) 0 (RunMeans r)
