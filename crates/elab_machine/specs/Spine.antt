-- Names at their arguments, whose type is kept under those that were taken.
use Rattle.std.specs.Prelude.{Bool, true, false, eqb, ◌≡◌, ℕ, ◌+◌, ◌<◌, ◌≤◌, List, ◌∷◌, length, map, take, Option, Some, None, option_map, Result, Ok, Err}
use Rattle.core_rules.specs.declared.Flag.{Flag}
use Rattle.core_rules.specs.declared.Flag.TheVariants as flag
use Rattle.core_rules.specs.Term.{Term, Pi, Proj}
use Rattle.implicit_insert.specs.declared.need.Need as R
use Rattle.implicit_insert.specs.declared.need.Need.TheVariants as M
use Rattle.core_rules.specs.Signature.{Signature, Solved}
use Rattle.core_rules.specs.Substitution.{under, over as traversed}
use Rattle.core_rules.specs.Typing.{IsField, field_env}
use Rattle.core_terms.specs.Signature.{field_total}
use Rattle.core_rules.specs.Heads.{Answer}
use Rattle.term_pool.specs.Pool.{Pool, StandsFor, tree}
use Rattle.term_pool.specs.Placed.{filled, filled_var}
use Rattle.weak_head.specs.States.{answer_in}
use Rattle.kernel_rules.specs.Outcome.{Outcome, Gives, Refuses}
use Rattle.el_outside.specs.declared.place.Pos.{Pos}
use Rattle.resolved_tree.specs.declared.resolved.ResolvedArg.{ResolvedArg}
use Rattle.need_rules.specs.Needs.{Next, Plain, Braces, Named, Field, need}
use Rattle.written_rules.specs.Refusals.{Refusal}
use Rattle.written_rules.specs.Asking.{Reads, ◌>>=◌, gives}
use Rattle.written_rules.specs.Rules.{Values, Checks, VariableName, DefName, FamilyName, ConName, Found, ArgMeaning, shows, one_argument, applied}
use Rattle.written_rules.specs.Rules as rules
use Rattle.written_rules.specs.Expressions.{ExprMeaning, arg_meaning}
use Rattle.elab_machine.specs.declared.error.WrittenError.{WrittenError}
use Rattle.elab_machine.specs.declared.names.Name as N
use Rattle.elab_machine.specs.declared.names.Name.TheVariants as V
use Rattle.elab_machine.specs.declared.names.Seen as S
use Rattle.elab_machine.specs.declared.names.Found as F
use Rattle.elab_machine.specs.declared.spine.Way as Y
use Rattle.elab_machine.specs.declared.spine.Way.TheVariants as W
use Rattle.elab_machine.specs.declared.spine.Function as G
use Rattle.elab_machine.specs.declared.spine.Step as T
use Rattle.elab_machine.specs.declared.writer.Shown.{Shown}
use Rattle.elab_machine.specs.declared.writer.Writer.{Writer}
use Rattle.elab_machine.specs.declared.error.ElabKind.TheVariants as E
use Rattle.elab_machine.specs.declared.error.WrittenError.TheVariants as D
use Rattle.elab_machine.specs.Answers.{RefusedBy, refused_at}
use Rattle.elab_machine.specs.Writer.{Over, Read, signature_of, term_of}

-- ---- names

abbrev pub name_in : N.Name → rules.Name
name_in (V.Variable i) = VariableName i
name_in (V.Def f) = DefName f
name_in (V.Family d) = FamilyName d
name_in (V.Con k) = ConName k

-- the place of an expression, and the name that it is, if it is one
pub record IsSeen (m : ExprMeaning) (s : S.Seen) : Type 0 where
  pub pos : s.pos ≡ m.pos
  pub name : option_map name_in s.name ≡ m.name

abbrev pub no_name_at : Pos → S.Seen
no_name_at p = record { pos = p; name = None }

abbrev pub name_at : Pos → N.Name → S.Seen
name_at p n = record { pos = p; name = Some n }

abbrev pub shown_in : Pool → Option Shown → Option Answer
shown_in p o = option_map (λ (s : Shown). answer_in (tree p) s.meta s.form) o

abbrev pub found_in : Pool → F.Found → Found
found_in p s = record { term = tree p s.term; ty = tree p s.ty }

-- a term and its type
abbrev pub AnswersFound : Pool → (Outcome Refusal Found → Type 0) → Result F.Found WrittenError → Type 0
AnswersFound p K (Ok s) = (s.term < length p.trees) × (s.ty < length p.trees) × K (Gives (found_in p s))
AnswersFound p K (Err e) = RefusedBy p (λ r. K (Refuses r)) e

-- a value and its type
abbrev pub found_of : Solved Term → Found
found_of v = record { term = v.value; ty = v.ty }

-- these ids are a term and its type
pub record IsFound (p : Pool) (s : F.Found) (k : Found) : Type 0 where
  pub term : StandsFor p s.term k.term
  pub ty : StandsFor p s.ty k.ty

-- what a name stands for, if it stands for something
abbrev pub IsStart : Pool → Option Found → Option F.Found → Type 0
IsStart p o None = o ≡ None
IsStart p o (Some s) = (k : Found) × (o ≡ Some k) × IsFound p s k

-- ---- arguments

abbrev pub args_in : Writer → List ResolvedArg → List ArgMeaning
args_in x xs = map (arg_meaning (signature_of x)) xs

-- one argument
abbrev pub one_step : Signature Term → Pos → Pos → Values → Found → ArgMeaning → Reads Found
one_step g p q vs s x = shows p s.ty >>= (λ w. one_argument g p q vs s x (need g w x.next))

abbrev pub way_next : {E : Type 0} → Y.Way → E → Next E
way_next W.Plain e = Plain e
way_next W.Braces e = Braces e
way_next (W.Named x) e = Named x e

-- an argument that is given in this way, and holds e
abbrev pub given : Pos → Y.Way → Checks → ArgMeaning
given p y e = record { pos = p; next = way_next y e }

-- a function type of this flag, whose binder is x, takes it
abbrev pub fits : Y.Way → Flag → ℕ → Bool
fits W.Plain flag.Explicit x = true
fits W.Braces flag.Implicit x = true
fits (W.Named y) flag.Implicit x = eqb y x
fits y b x = false

-- a term whose type, id a, stands under the arguments taken, the last one first
abbrev pub under_args : Pool → Term → List ℕ → ℕ → Found
under_args p t ts a = record { term = t; ty = filled (map (tree p) ts) (tree p a) }

-- the codomain stands under some of the arguments taken, and one binder more
abbrev pub cod_under : Pool → List ℕ → G.Function → Term
cod_under p ts w = traversed (filled_var (map (tree p) (take w.under ts))) 1 (tree p w.cod)

-- The type is a function type for an argument given in this way. What the argument comes to at its domain decides
pub record IsFunction (o : Over) (p q x : Pos) (y : Y.Way) (old new : Pool) (ts : List ℕ) (a : ℕ) (w : G.Function) : Type 0 where
  pub dom : w.dom < length new.trees
  pub cod : w.cod < length new.trees
  pub under : w.under ≤ length ts
  pub reading : (t : Term) (vs : Values) (e : Checks) (r : Outcome Refusal Found)
      → Read o (e vs (tree new w.dom) >>= (λ u. gives (applied w.flag (under_args old t ts a) u (cod_under new ts w)))) r
      → Read o (one_step o.signature p q vs (under_args old t ts a) (given x y e)) r

abbrev pub AnswersFunction : Over → Pos → Pos → Pos → Y.Way → Pool → Pool → List ℕ → ℕ → Result G.Function WrittenError → Type 0
AnswersFunction o p q x y old new ts a (Ok w) = IsFunction o p q x y old new ts a w
AnswersFunction o p q x y old new ts a (Err d) = (t : Term) (vs : Values) (e : Checks)
    → RefusedBy new (λ r. Read o (one_step o.signature p q vs (under_args old t ts a) (given x y e)) (Refuses r)) d

-- the term u is this function type, which takes an argument that is given in this way; f gives the trees of ids, which are below n
pub record IsHere (n : ℕ) (f : ℕ → Term) (y : Y.Way) (u : Term) (w : G.Function) : Type 0 where
  pub dom : w.dom < n
  pub cod : w.cod < n
  pub name : ℕ
  pub fits : fits y w.flag name ≡ true
  pub is : u ≡ Pi w.flag name (f w.dom) (f w.cod)

-- the same of a type that stands under no arguments
pub record IsFunctionAt (o : Over) (p q x : Pos) (y : Y.Way) (new : Pool) (a : Term) (w : G.Function) : Type 0 where
  pub dom : w.dom < length new.trees
  pub cod : w.cod < length new.trees
  pub under : w.under ≡ 0
  pub reading : (t : Term) (vs : Values) (e : Checks) (r : Outcome Refusal Found)
      → Read o (e vs (tree new w.dom) >>= (λ u. gives (applied w.flag (record { term = t; ty = a }) u (tree new w.cod)))) r
      → Read o (one_step o.signature p q vs (record { term = t; ty = a }) (given x y e)) r

abbrev pub AnswersFunctionAt : Over → Pos → Pos → Pos → Y.Way → Pool → Term → Result G.Function WrittenError → Type 0
AnswersFunctionAt o p q x y new a (Ok w) = IsFunctionAt o p q x y new a w
AnswersFunctionAt o p q x y new a (Err d) = (t : Term) (vs : Values) (e : Checks)
    → RefusedBy new (λ r. Read o (one_step o.signature p q vs (record { term = t; ty = a }) (given x y e)) (Refuses r)) d

-- the answer for a need
abbrev pub function_by : Pos → Pos → Pos → R.Need → Result G.Function WrittenError
function_by p q x (M.Explicit a b) = Ok (record { flag = flag.Explicit; dom = a; cod = b; under = 0 })
function_by p q x (M.Given a b) = Ok (record { flag = flag.Implicit; dom = a; cod = b; under = 0 })
function_by p q x (M.Insert a b) = Err (refused_at q E.CannotInfer)
function_by p q x (M.NotAFunction a) = Err (refused_at x (E.NotAFunction a))
function_by p q x (M.NotARecord a) = Err (refused_at x (E.NotARecord a))
function_by p q x M.NoSuchName = Err (refused_at x E.NoSuchName)
function_by p q x (M.Blocked m) = Err (refused_at p E.CannotInfer)
function_by p q x M.OutOfFuel = Err (refused_at p E.OutOfFuel)
function_by p q x M.End = Err D.NoMemory
function_by p q x (M.Project d ids) = Err D.NoMemory
function_by p q x M.NoMemory = Err D.NoMemory

-- the term with one argument more, and the arguments under which its type stands: the first of this one and those taken
pub record IsStep (p : Pool) (ts : List ℕ) (K : Found → Type 0) (w : T.Step) : Type 0 where
  pub term : w.term < length p.trees
  pub arg : w.arg < length p.trees
  pub ty : w.ty < length p.trees
  pub used : w.used ≤ length ts + 1
  pub is : K (under_args p (tree p w.term) (take w.used (w.arg ∷ ts)) w.ty)

abbrev pub AnswersStep : Pool → List ℕ → (Outcome Refusal Found → Type 0) → Result T.Step WrittenError → Type 0
AnswersStep p ts K (Ok w) = IsStep p ts (λ s. K (Gives s)) w
AnswersStep p ts K (Err e) = RefusedBy p (λ r. K (Refuses r)) e

-- ---- projections

-- a projection at its place
abbrev pub at_field : Pos → ℕ → ArgMeaning
at_field p f = record { pos = p; next = Field f }

abbrev pub found_at : Term → Term → Found
found_at t a = record { term = t; ty = a }

-- the term and its type, which stands under no arguments
abbrev pub AnswersProjection : Pool → (Outcome Refusal Found → Type 0) → Result T.Step WrittenError → Type 0
AnswersProjection p K (Ok w) = (w.term < length p.trees) × (w.arg < length p.trees) × (w.ty < length p.trees) × (w.used ≡ 0) × K (Gives (found_at (tree p w.term) (tree p w.ty)))
AnswersProjection p K (Err e) = RefusedBy p (λ r. K (Refuses r)) e

-- the projection of id t, whose type is the record of field f at these parameters
pub record IsProjected (x y : Writer) (f : ℕ) (ids : List ℕ) (t : ℕ) (w : T.Step) : Type 0 where
  pub field : f < field_total x.signature.now
  pub arg : w.arg < length y.pool.now.trees
  pub used : w.used ≡ 0
  pub term : StandsFor y.pool.now w.term (Proj f (term_of x t))
  pub ty : (is : IsField (signature_of x) f) → StandsFor y.pool.now w.ty (under (field_env (signature_of x) f is (map (term_of x) ids) (term_of x t)) is.entry.ty)

-- the answer for the need of a projection
abbrev pub params_by : Pos → Pos → Pos → R.Need → Result (List ℕ) WrittenError
params_by p q x (M.Project d ids) = Ok ids
params_by p q x (M.Insert a b) = Err (refused_at q E.CannotInfer)
params_by p q x (M.NotAFunction a) = Err (refused_at x (E.NotAFunction a))
params_by p q x (M.NotARecord a) = Err (refused_at x (E.NotARecord a))
params_by p q x M.NoSuchName = Err (refused_at x E.NoSuchName)
params_by p q x (M.Blocked m) = Err (refused_at p E.CannotInfer)
params_by p q x M.OutOfFuel = Err (refused_at p E.OutOfFuel)
params_by p q x M.End = Err D.NoMemory
params_by p q x (M.Explicit a b) = Err D.NoMemory
params_by p q x (M.Given a b) = Err D.NoMemory
params_by p q x M.NoMemory = Err D.NoMemory
