-- The written rules: bidirectional checking of expressions that leave nothing out, by cases, given how the parts of an expression are read.
use Rattle.std.specs.Prelude.{ℕ, ◌+◌, max, Bool, ◌&&◌, eqb, cond, List, [], ◌∷◌, ◌++◌, length, map, reverse, take, slice_get, Option, Some, None, option_map, option_and_then}
use Rattle.std.specs.List.{list_all}
use Rattle.core_rules.specs.declared.Flag.{Flag}
use Rattle.core_rules.specs.declared.Flag.TheVariants.{Explicit, Implicit}
use Rattle.core_rules.specs.Term.{Term, Var, Sort, Pi, Lam, App, Def, Fam, Con, Proj, from_list}
use Rattle.core_rules.specs.Substitution.{shift, subst, under}
use Rattle.core_rules.specs.Signature.{Telescope, Signature, Solved, FamDecl, ConDecl, def_type, fam_decl, con_place, con_decl, cons_of}
use Rattle.core_rules.specs.Elimination.{Elim, elims, args, projections, fam_type, con_type}
use Rattle.core_rules.specs.Heads.{Answer, Form, Blocked, Bounded, Within, Out}
use Rattle.core_rules.specs.Bounded.{Verdict, Yes, No, WaitsFor}
use Rattle.core_rules.specs.Bounded as verdict
use Rattle.kernel_rules.specs.Outcome.{Outcome, Gives, Refuses}
use Rattle.kernel_rules.specs.TermReading.{arguments_for}
use Rattle.need_rules.specs.Needs.{Next, Need, OwnField, need, need_at_end}
use Rattle.need_rules.specs.Needs as needs
use Rattle.el_outside.specs.declared.place.Pos.{Pos}
use Rattle.written_rules.specs.Refusals.{Refusal, Kind, Mismatch, DotWrong, NotAFunction, NotARecord, NotAType, NoSuchName, CannotInfer, BadField, OutOfFuel, OutOfDepth, at}
use Rattle.written_rules.specs.Asking.{Is, AsksHead, AsksVerdict, Reads, ◌>>=◌, gives}

-- ---- where an expression stands

-- the source variables in scope, innermost first: of each the term that it stands for, and this term's type
abbrev pub Values : Type 0
Values = List (Solved Term)

abbrev pub raised : Solved Term → Solved Term
raised v = record { name = v.name; value = shift v.value 0 1; ty = shift v.ty 0 1 }

-- under a new variable of type a
abbrev pub binding : ℕ → Term → Values → Values
binding x a vs = record { name = x; value = Var 0; ty = shift a 0 1 } ∷ map raised vs

-- ---- how an expression is read

-- at a wanted type: its core term
abbrev pub Checks : Type 0
Checks = Values → Term → Reads Term

-- as a type: its core term, and the level of its sort
abbrev pub Types : Type 0
Types = Values → Reads (Term × ℕ)

abbrev pub refused : {A : Type 0} → Pos → Kind → Reads A
refused p k = Is (Refuses (at p k))

-- ---- head forms

abbrev pub within : Pos → Bounded → Outcome Refusal Answer
within p (Within w n) = Gives w
within p Out = Refuses (at p OutOfFuel)

-- the head form of the type a, for the problem at p
abbrev pub shows : Pos → Term → Reads Answer
shows p a = AsksHead a (λ b. Is (within p b))

-- at an implicit function type something would be inserted, which would stand at p
abbrev pub not_inserted : Pos → Answer → Need Checks → Outcome Refusal Answer
not_inserted p w (needs.Insert a b) = Refuses (at p CannotInfer)
not_inserted p w d = Gives w

abbrev pub uninserted : Pos → Answer → Outcome Refusal Answer
uninserted p w = not_inserted p w (need_at_end w)

-- the head form of a type at which an expression is checked that is neither a hole, `_` nor a lambda in braces
abbrev pub wanted : Pos → Term → Reads Answer
wanted p b = shows p b >>= (λ w. Is (uninserted p w))

-- the domain and the codomain at which a lambda of this flag is checked
abbrev pub function_shown : Pos → Flag → Answer → Outcome Refusal (Term × Term)
function_shown p Explicit (Form (Pi Explicit x a b) []) = Gives (a, b)
function_shown p Explicit (Form (Pi Implicit x a b) []) = Refuses (at p CannotInfer)
function_shown p Implicit (Form (Pi Implicit x a b) []) = Gives (a, b)
function_shown p f (Form h es) = Refuses (at p (NotAFunction (elims h es)))
function_shown p f (Blocked m h es) = Refuses (at p CannotInfer)

abbrev pub function_wanted : Pos → Flag → Term → Reads (Term × Term)
function_wanted p f b = shows p b >>= (λ w. Is (function_shown p f w))

-- the level of the sort that the head form of a type's type is
abbrev pub sort_shown : Pos → Answer → Outcome Refusal ℕ
sort_shown p (Form (Sort n) []) = Gives n
sort_shown p (Form h es) = Refuses (at p (NotAType (elims h es)))
sort_shown p (Blocked m h es) = Refuses (at p CannotInfer)

-- ---- comparisons

abbrev pub agreement : Pos → Verdict → Outcome Refusal (Unit {0})
agreement p Yes = Gives tt
agreement p (No t u xs) = Refuses (at p (Mismatch t u xs))
agreement p verdict.OutOfFuel = Refuses (at p OutOfFuel)
agreement p verdict.OutOfDepth = Refuses (at p OutOfDepth)
agreement p (WaitsFor m) = Refuses (at p CannotInfer)

-- the type a that is found agrees with the type b that is wanted
abbrev pub agrees : Pos → Term → Term → Reads (Unit {0})
agrees p a b = AsksVerdict a b (λ v. Is (agreement p v))

-- the same of a dotted pattern and its value
abbrev pub dot_agreement : Pos → Verdict → Outcome Refusal (Unit {0})
dot_agreement p (No t u xs) = Refuses (at p (DotWrong t u xs))
dot_agreement p v = agreement p v

-- ---- a part whose type and sort are known already

abbrev pub known : Term → ℕ → Types
known a n vs = gives (a, n)

-- ---- lambdas and function types

-- a binder of a lambda or of a function type: `(x y : A)` or `{x y : A}`; `x`, `{x}` or `_`, which has no type, at its place
pub data BinderMeaning : Type 0 where
  Typed : Flag → List ℕ → Types → BinderMeaning
  Untyped : Pos → Flag → ℕ → BinderMeaning

-- a lambda over names of one type, which is read for the first of them and shifted for the later ones, each of which is a part of the
-- same lambda
abbrev pub typed_lambda : Pos → Flag → List ℕ → Types → Checks → Checks
typed_lambda p f [] a e vs b = e vs b
typed_lambda p f (x ∷ xs) a e vs b =
    function_wanted p f b >>= (λ w. a vs >>= (λ t. agrees p t.0 w.0 >>= (λ o.
    typed_lambda p f xs (known (shift t.0 0 1) t.1) e (binding x t.0 vs) w.1 >>= (λ u. gives (Lam f x t.0 u)))))

abbrev pub untyped_lambda : Pos → Flag → ℕ → Checks → Checks
untyped_lambda p f x e vs b = function_wanted p f b >>= (λ w. e (binding x w.0 vs) w.1 >>= (λ u. gives (Lam f x w.0 u)))

abbrev pub lambda : Pos → List BinderMeaning → Checks → Checks
lambda p [] e = e
lambda p (Typed f xs a ∷ bs) e = typed_lambda p f xs a (lambda p bs e)
lambda p (Untyped q f x ∷ bs) e = untyped_lambda p f x (lambda p bs e)

-- the function type whose domains are those of the names, over a codomain
abbrev pub grouped : Flag → List ℕ → Types → Types → Types
grouped f [] a e vs = e vs
grouped f (x ∷ xs) a e vs =
    a vs >>= (λ t. grouped f xs (known (shift t.0 0 1) t.1) e (binding x t.0 vs) >>= (λ c. gives (Pi f x t.0 c.0, max t.1 c.1)))

-- a binder without a type has the domain `_`
abbrev pub function_type : List BinderMeaning → Types → Types
function_type [] e = e
function_type (Typed f xs a ∷ bs) e = grouped f xs a (function_type bs e)
function_type (Untyped q f x ∷ bs) e = λ vs. refused q CannotInfer

-- what is a type by its form, checked at a wanted type
abbrev pub type_checked : Pos → Types → Checks
type_checked p e vs b = wanted p b >>= (λ w. e vs >>= (λ t. agrees p (Sort t.1) b >>= (λ o. gives t.0)))

-- ---- spines

-- a name, which may stand at the head of an expression
pub data Name : Type 0 where
  VariableName : ℕ → Name
  DefName : ℕ → Name
  FamilyName : ℕ → Name
  ConName : ℕ → Name

-- an argument, at its place
pub record ArgMeaning : Type 0 where
  pub pos : Pos
  pub next : Next Checks

-- a term and its type
pub record Found : Type 0 where
  pub term : Term
  pub ty : Term

-- The parameters of a constructor of family d. Where it has any, they are those of the wanted type, by its head form, if this is its own
-- family; else they would be inserted
abbrev pub params_of : ℕ → FamDecl Term → Telescope Term → Option Answer → Option (List Term)
params_of d decl [] w = Some []
params_of d decl (e ∷ es) (Some (Form (Fam k) ds)) = cond (eqb k d) (arguments_for decl.params (take (length decl.params) ds)) None
params_of d decl (e ∷ es) w = None

abbrev pub con_found : ℕ → ℕ → FamDecl Term → ConDecl Term → List Term → Found
con_found k d decl con ps = record { term = Con k (from_list ps); ty = under (reverse ps) (con_type d decl con) }

-- the constructor k of family d
abbrev pub con_start : Signature Term → ℕ → Option Answer → Option Found
con_start g k w =
    option_and_then (λ p. option_and_then (λ decl. option_and_then (λ con.
    option_map (con_found k p.0 decl con) (params_of p.0 decl decl.params w))
    (con_decl g k)) (fam_decl g p.0)) (con_place g k)

-- what a name stands for, where w is the head form of the wanted type, if there is one
abbrev pub start : Signature Term → Values → Option Answer → Name → Option Found
start g vs w (VariableName i) = option_map (λ v. record { term = v.value; ty = v.ty }) (slice_get vs i)
start g vs w (DefName f) = option_map (λ a. record { term = Def f; ty = a }) (def_type g f)
start g vs w (FamilyName d) = option_map (λ decl. record { term = Fam d; ty = fam_type decl }) (fam_decl g d)
start g vs w (ConName k) = con_start g k w

-- a name that stands for nothing by itself is refused, at its place
abbrev pub started : Pos → Option Found → Reads Found
started q None = refused q CannotInfer
started q (Some s) = gives s

abbrev pub applied : Flag → Found → Term → Term → Found
applied f s u b = record { term = App f s.term u; ty = subst b 0 u }

abbrev pub projected : Signature Term → Found → OwnField → Found
projected g s is = record { term = Proj is.field s.term; ty = under (reverse (is.params ++ take is.at (projections g is.fam s.term))) is.ty }

-- one argument of the spine at s, by what its type needs. The spine's head stands at q, its expression at p
abbrev pub one_argument : Signature Term → Pos → Pos → Values → Found → ArgMeaning → Need Checks → Reads Found
one_argument g p q vs s x (needs.Explicit e a b) = e vs a >>= (λ u. gives (applied Explicit s u b))
one_argument g p q vs s x (needs.Given e a b) = e vs a >>= (λ u. gives (applied Implicit s u b))
one_argument g p q vs s x (needs.Insert a b) = refused q CannotInfer
one_argument g p q vs s x (needs.Project is) = gives (projected g s is)
one_argument g p q vs s x needs.End = gives s
one_argument g p q vs s x (needs.NotAFunction t) = refused x.pos (NotAFunction t)
one_argument g p q vs s x (needs.NotARecord t) = refused x.pos (NotARecord t)
one_argument g p q vs s x needs.NoSuchName = refused x.pos NoSuchName
one_argument g p q vs s x (needs.Waits m) = refused p CannotInfer

-- the arguments in order
abbrev pub spine : Signature Term → Pos → Pos → Values → List ArgMeaning → Found → Reads Found
spine g p q vs [] s = gives s
spine g p q vs (x ∷ xs) s = shows p s.ty >>= (λ w. one_argument g p q vs s x (need g w x.next) >>= spine g p q vs xs)

-- the end of a spine, against the wanted type b
abbrev pub against : Pos → Pos → Term → Found → Reads Term
against p q b s = shows p s.ty >>= (λ w. Is (uninserted q w) >>= (λ v. agrees p s.ty b >>= (λ o. gives s.term)))

-- the end of a spine, as a type
abbrev pub as_type : Pos → Pos → Found → Reads (Term × ℕ)
as_type p q s = shows p s.ty >>= (λ w. Is (uninserted q w) >>= (λ v. Is (sort_shown p v) >>= (λ n. gives (s.term, n))))

abbrev pub name_checked : Signature Term → Pos → Pos → Name → List ArgMeaning → Checks
name_checked g p q x xs vs b = wanted p b >>= (λ w. started q (start g vs (Some w) x) >>= (λ s. spine g p q vs xs s >>= against p q b))

abbrev pub name_typed : Signature Term → Pos → Pos → Name → List ArgMeaning → Types
name_typed g p q x xs vs = started q (start g vs None x) >>= (λ s. spine g p q vs xs s >>= as_type p q)

-- ---- record values

-- `f = e`
pub record ValueMeaning : Type 0 where
  pub name : ℕ
  pub checks : Checks

-- a record at its parameters, with its constructor
pub record AtRecord : Type 0 where
  pub con : ℕ
  pub params : List Term
  pub fields : Telescope Term

abbrev pub record_at : Signature Term → ℕ → List Elim → Option AtRecord
record_at g d es =
    option_and_then (λ decl. option_and_then (λ k.
    cond decl.is_record (option_map (λ ps. record { con = k; params = ps; fields = decl.fields }) (arguments_for decl.params es)) None)
    (slice_get (cons_of g d) 0)) (fam_decl g d)

abbrev pub record_or : Pos → Term → Option AtRecord → Outcome Refusal AtRecord
record_or p t None = Refuses (at p (NotARecord t))
record_or p t (Some d) = Gives d

abbrev pub record_shown : Signature Term → Pos → Answer → Outcome Refusal AtRecord
record_shown g p (Form (Fam d) es) = record_or p (elims (Fam d) es) (record_at g d es)
record_shown g p (Form h es) = Refuses (at p (NotARecord (elims h es)))
record_shown g p (Blocked m h es) = Refuses (at p CannotInfer)

-- how often a name is written
abbrev pub times : ℕ → List ValueMeaning → ℕ
times x [] = 0
times x (m ∷ ms) = cond (eqb m.name x) (1 + times x ms) (times x ms)

-- the names are exactly the fields, each once
abbrev pub are_fields : Telescope Term → List ValueMeaning → Bool
are_fields es ms = eqb (length ms) (length es) && list_all (λ e. eqb (times e.name ms) 1) es

abbrev pub value_of : ℕ → List ValueMeaning → Option Checks
value_of x [] = None
value_of x (m ∷ ms) = cond (eqb m.name x) (Some m.checks) (value_of x ms)

abbrev pub field_checked : Pos → Option Checks → Checks
field_checked p None vs b = refused p BadField
field_checked p (Some e) vs b = e vs b

-- the values of the fields in the record's order, each at its type under the parameters and the values before it, innermost first
abbrev pub fields_checked : Pos → Values → List ValueMeaning → Telescope Term → List Term → Reads (List Term)
fields_checked p vs ms [] r = gives []
fields_checked p vs ms (e ∷ es) r = field_checked p (value_of e.name ms) vs (under r e.ty) >>= (λ u. fields_checked p vs ms es (u ∷ r) >>= (λ us. gives (u ∷ us)))

abbrev pub record_value : AtRecord → List Term → Term
record_value d us = elims (Con d.con (from_list d.params)) (args d.fields us)

abbrev pub names_checked : Pos → AtRecord → List ValueMeaning → Outcome Refusal (Unit {0})
names_checked p d ms = cond (are_fields d.fields ms) (Gives tt) (Refuses (at p BadField))

abbrev pub record_checked : Signature Term → Pos → List ValueMeaning → Checks
record_checked g p ms vs b =
    wanted p b >>= (λ w. Is (record_shown g p w) >>= (λ d. Is (names_checked p d ms) >>= (λ o.
    fields_checked p vs ms d.fields (reverse d.params) >>= (λ us. gives (record_value d us)))))

-- ---- other heads

-- what is no name cannot be applied, and stands at q
abbrev pub other_checked : Pos → Pos → Checks
other_checked p q vs b = wanted p b >>= (λ w. refused q CannotInfer)

-- what is neither a name at its arguments nor a type by its form is no type
abbrev pub no_type : Pos → Types
no_type p vs = refused p CannotInfer

-- a hole or `_`
abbrev pub left_out : Pos → Checks
left_out p vs b = refused p CannotInfer

-- a dotted pattern at p, whose value is t: its expression at its type, and then its term against the value
abbrev pub dot_checked : Pos → Checks → Values → Term → Term → Reads (Unit {0})
dot_checked p e vs a t = e vs a >>= (λ u. AsksVerdict u t (λ v. Is (dot_agreement p v)))
