-- When an answer in code is the bounded head form of a term.
use Rattle.std.specs.Prelude.{◌≡◌, ℕ, length, Option, Some, None}
use Rattle.core_rules.specs.Term.{Term}
use Rattle.core_rules.specs.Signature.{Signature}
use Rattle.core_rules.specs.Heads.{Solutions, Answer, Form, Blocked, Within, Out, HeadOf}
use Rattle.core_rules.specs.BoundedLaws.{shown}
use Rattle.term_pool.specs.Pool.{Pool, StandsFor, tree}
use Rattle.term_pool.specs.declared.node.Node.{Node}
use Rattle.term_pool.specs.declared.node.Node.TheVariants as N
use Rattle.weak_head.specs.declared.answer.Head as H
use Rattle.weak_head.specs.declared.answer.Head.TheVariants as HV
use Rattle.weak_head.specs.declared.answer.Reduced as R
use Rattle.weak_head.specs.declared.answer.Reduced.TheVariants as RV
use Rattle.weak_head.specs.declared.elim.Elim as E
use Rattle.weak_head.specs.declared.elim.Elim.TheVariants as V
use Rattle.weak_head.specs.States.{AppliedBelow, answer_in}

-- which answers are forms, and which wait for a metavariable
abbrev pub IsOf : Option ℕ → Answer → Type 0
IsOf None (Form h es) = Unit {0}
IsOf None (Blocked m h es) = ⊥
IsOf (Some i) (Form h es) = ⊥
IsOf (Some i) (Blocked m h es) = m ≡ i

-- the head form of t with this fuel takes n steps, and id r of the pool stands for it
pub record IsFound (g : Signature Term) (s : Solutions) (t : Term) (fuel : ℕ) (p : Pool) (meta : Option ℕ) (r n : ℕ) : Type 0 where
  pub answer : Answer
  pub is : HeadOf g s t fuel (Within answer n)
  pub kind : IsOf meta answer
  pub term : StandsFor p r (shown answer)

abbrev pub IsHead : Signature Term → Solutions → Term → ℕ → Pool → H.Head → Type 0
IsHead g s t fuel p (HV.Form u n) = IsFound g s t fuel p None u n
IsHead g s t fuel p (HV.Blocked m u n) = IsFound g s t fuel p (Some m) u n
IsHead g s t fuel p HV.OutOfFuel = HeadOf g s t fuel Out
IsHead g s t fuel p HV.NoMemory = Unit {0}

abbrev pub IsReduced : Signature Term → Solutions → Term → ℕ → Pool → R.Reduced → Type 0
IsReduced g s t fuel p (RV.Found m a n) = AppliedBelow (length p.trees) a × HeadOf g s t fuel (Within (answer_in (tree p) m a) n)
IsReduced g s t fuel p RV.OutOfFuel = HeadOf g s t fuel Out

-- the node of an elimination of id t
abbrev pub elim_node : ℕ → E.Elim → Node
elim_node t (V.Arg b u) = N.App b t u
elim_node t (V.Field k) = N.Proj k t
