-- What stands next in a left side, in code.
use Rattle.std.specs.Prelude.{◌≡◌, ℕ, ◌<◌, [], map, length, Option, Some, None, Result, Ok, Err}
use Rattle.std.specs.List.{AllByRecursion}
use Rattle.std.specs.declared.vec.Vec.{Vec}
use Rattle.core_rules.specs.declared.Flag.{Flag}
use Rattle.core_rules.specs.Term.{Term, Pi, Fam}
use Rattle.core_rules.specs.Signature.{Signature}
use Rattle.core_rules.specs.Heads.{Answer, Form, Blocked}
use Rattle.kernel_rules.specs.Outcome.{Gives, Refuses}
use Rattle.need_rules.specs.Needs.{OwnField, need, own_field}
use Rattle.term_pool.specs.Pool.{Pool, tree}
use Rattle.lhs_rules.specs.Asking.{Reads}
use Rattle.lhs_rules.specs.Spots.{Left}
use Rattle.lhs_rules.specs.Rules.{ElimMeaning, braces_of, elim_by_need, pattern_taken}
use Rattle.lhs_rules.specs.Patterns.{inside}
use Rattle.lhs_elab.specs.declared.elaborator.Elaborator.{Elaborator}
use Rattle.lhs_elab.specs.declared.error.LhsError.{LhsError}
use Rattle.lhs_elab.specs.declared.walk.Function.{Function}
use Rattle.lhs_elab.specs.Answers.{RefusedBy}
use Rattle.lhs_elab.specs.Elaborator.{Over, Comes, left_of}

-- the function type that a head form is, in code, where f gives the trees of ids below n, if it is one
abbrev pub IsFunction : ℕ → (ℕ → Term) → Answer → Option Function → Type 0
IsFunction n f w (Some x) = (x.dom < n) × (x.cod < n) × (w ≡ Form (Pi x.flag x.name (f x.dom) (f x.cod)) [])
IsFunction n f w None = (b : Flag) (x : ℕ) (a t : Term) → w ≡ Form (Pi b x a t) [] → ⊥

-- the field h, where it is one of the record that a head form is
abbrev pub own_at : Signature Term → Answer → ℕ → Option OwnField
own_at g (Form (Fam d) es) h = own_field g d es h
own_at g (Form t es) h = None
own_at g (Blocked m t es) h = None

-- these are the parameters of the field o, if there is one
abbrev pub IsOwn : {G : Type 0} → Pool → Option OwnField → Option (Vec ℕ G) → Type 0
IsOwn p o None = o ≡ None
IsOwn p o (Some v) = (f : OwnField) × (o ≡ Some f) × (f.params ≡ map (tree p) v.items) × AllByRecursion (λ i. i < length p.trees) v.items

-- the pattern m for the variable of a function type
abbrev pub taken_read : ElimMeaning → Left → Flag → Answer → Term → Term → Reads Left
taken_read m l b w a t = pattern_taken l b w a t (braces_of m.next) (inside m)

-- what stands next at a type with the head form w
abbrev pub needed_read : Signature Term → ℕ → ElimMeaning → Left → Answer → (Left → Reads Left) → Reads Left
needed_read g f m l w again = elim_by_need g f m l w again (need g w m.next)

-- in y, what stands next is taken
abbrev pub AnswersOther : {S : Type 0} → Over → Elaborator S → ((Left → Reads Left) → Reads Left) → Result (Unit {0}) LhsError → Type 0
AnswersOther o y M (Ok a) = (again : Left → Reads Left) → Comes o (M again) (Gives (left_of y))
AnswersOther o y M (Err e) = RefusedBy y.pool.now (λ r. (again : Left → Reads Left) → Comes o (M again) (Refuses r)) e
