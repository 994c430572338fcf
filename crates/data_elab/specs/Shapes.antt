-- Head forms in code: function types, and what a type ends in.
use Rattle.std.specs.Prelude.{◌≡◌, ℕ, ◌<◌, List, [], length, map, Option, Some, None, Result}
use Rattle.std.specs.List.{AllByRecursion}
use Rattle.std.specs.declared.vec.Vec.{Vec}
use Rattle.core_rules.specs.declared.Flag.{Flag}
use Rattle.core_rules.specs.Term.{Term, Pi}
use Rattle.core_rules.specs.Mapped.{AllEntries, telescope_map}
use Rattle.core_rules.specs.Heads.{Answer, Form}
use Rattle.term_pool.specs.Pool.{Pool, tree}
use Rattle.weak_head.specs.States.{AppliedBelow, answer_in}
use Rattle.kernel_rules.specs.Outcome.{Outcome}
use Rattle.data_rules.specs.Refusals.{Refusal, Kind, BadSort, ConShape}
use Rattle.data_rules.specs.Shapes.{Shown}
use Rattle.data_elab.specs.declared.error.DataError.{DataError}
use Rattle.data_elab.specs.declared.error.DataKind.{DataKind}
use Rattle.data_elab.specs.declared.error.DataKind.TheVariants as K
use Rattle.data_elab.specs.declared.shapes.Tested.{Tested}
use Rattle.data_elab.specs.declared.shapes.Tested.TheVariants as T
use Rattle.data_elab.specs.declared.shapes.Function as F
use Rattle.data_elab.specs.declared.shapes.Ended as E
use Rattle.data_elab.specs.Answers.{Answers}

-- the refusal of a type that does not end in what is tested
abbrev pub kind_of : Tested → Kind
kind_of T.Sort = BadSort
kind_of T.Family = ConShape

-- the same in code
abbrev pub refusal_of : Tested → DataKind
refusal_of T.Sort = K.BadSort
refusal_of T.Family = K.ConShape

-- the parts of a function type
pub record Parts : Type 0 where
  pub flag : Flag
  pub name : ℕ
  pub dom : Term
  pub cod : Term

-- the function type that a head form is
abbrev pub function_of : Answer → Option Parts
function_of (Form (Pi b x a t) []) = Some (record { flag = b; name = x; dom = a; cod = t })
function_of w = None

-- the same in code; f gives the trees of ids, which are below n
abbrev pub IsFunction : ℕ → (ℕ → Term) → Answer → Option F.Function → Type 0
IsFunction n f w None = function_of w ≡ None
IsFunction n f w (Some t) = (t.dom < n) × (t.cod < n) × (function_of w ≡ Some (record { flag = t.flag; name = t.name; dom = f t.dom; cod = f t.cod }))

-- the ids of the function types that a type shows, and of what it ends in, stand in the pool
pub record IsEnded (p : Pool) (t : E.Ended) : Type 0 where
  pub entries : AllEntries (λ i. i < length p.trees) t.entries.items
  pub end : AppliedBelow (length p.trees) t.end.form

-- the same over trees
abbrev pub ended_in : Pool → E.Ended → Shown
ended_in p t = record { entries = telescope_map (tree p) t.entries.items; end = answer_in (tree p) t.end.meta t.end.form }

-- an answer is what a reading of function types comes to
abbrev pub AnswersEnded : Pool → (Outcome Refusal Shown → Type 0) → Result E.Ended DataError → Type 0
AnswersEnded p K r = Answers p (IsEnded p) (ended_in p) K r

-- an answer is what a reading of terms comes to
abbrev pub AnswersTerms : {G : Type 0} → Pool → (Outcome Refusal (List Term) → Type 0) → Result (Vec ℕ G) DataError → Type 0
AnswersTerms {G} p K r = Answers p (λ (v : Vec ℕ G). AllByRecursion (λ t. t < length p.trees) v.items) (λ (v : Vec ℕ G). map (tree p) v.items) K r
