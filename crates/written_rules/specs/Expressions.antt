-- How each form of resolved expression is read by the written rules: whole trees, part by part.
use Rattle.std.specs.Prelude.{ℕ, ◌+◌, List, [], ◌∷◌, map, Option, Some, None}
use Rattle.core_rules.specs.declared.Flag.TheVariants.{Explicit, Implicit}
use Rattle.core_rules.specs.Term.{Term, Sort}
use Rattle.core_rules.specs.Signature.{Signature}
use Rattle.kernel_rules.specs.Outcome.{Outcome}
use Rattle.el_outside.specs.declared.place.Pos.{Pos}
use Rattle.resolved_tree.specs.declared.resolved.ResolvedName.{ResolvedName}
use Rattle.resolved_tree.specs.declared.resolved.ResolvedExpr.{ResolvedExpr}
use Rattle.resolved_tree.specs.declared.resolved.ResolvedArg.{ResolvedArg}
use Rattle.resolved_tree.specs.declared.resolved.ResolvedBinder.{ResolvedBinder}
use Rattle.resolved_tree.specs.declared.resolved.ResolvedValue.{ResolvedValue}
use Rattle.resolved_tree.specs.declared.resolved.ResolvedArg.TheOpen.{ResolvedExpr-F, ResolvedArg-F, ResolvedBinder-F, ResolvedValue-F}
use Rattle.resolved_tree.specs.declared.resolved.ResolvedArg.TheFolds.{fold-ResolvedExpr, fold-ResolvedArg, fold-ResolvedBinder, fold-ResolvedValue}
use Rattle.written_rules.specs.Refusals.{Refusal}
use Rattle.written_rules.specs.Asking.{Comes}
use Rattle.need_rules.specs.Needs.{Plain, Braces, Named, Field}
use Rattle.written_rules.specs.Rules.{Values, Checks, Types, BinderMeaning, Typed, Untyped, Name, VariableName, DefName, FamilyName, ConName, ArgMeaning, ValueMeaning, known, lambda, grouped, function_type, type_checked, name_checked, name_typed, record_checked, other_checked, no_type, left_out, dot_checked}

-- an expression: where it stands, the name that it is, if it is one, and how it is read at a type and as a type
pub record ExprMeaning : Type 0 where
  pub pos : Pos
  pub name : Option Name
  pub checks : Checks
  pub types : Types

-- ---- the forms

abbrev pub a_name : Signature Term → Pos → Name → ExprMeaning
a_name g p x = record { pos = p; name = Some x; checks = name_checked g p p x []; types = name_typed g p p x [] }

-- a type by its form
abbrev pub a_type : Pos → Types → ExprMeaning
a_type p e = record { pos = p; name = None; checks = type_checked p e; types = e }

-- what is a type in no case
abbrev pub a_value : Pos → Checks → ExprMeaning
a_value p e = record { pos = p; name = None; checks = e; types = no_type p }

-- an application, by the name at its head, which stands at q
abbrev pub an_application : Signature Term → Pos → Pos → Option Name → List ArgMeaning → ExprMeaning
an_application g p q None xs = a_value p (other_checked p q)
an_application g p q (Some x) xs = record { pos = p; name = None; checks = name_checked g p q x xs; types = name_typed g p q x xs }

-- the number of the empty text, which is the name of a variable without one
abbrev pub no_name : ℕ
no_name = 0

-- ---- one layer, with the meanings of its parts in their places

abbrev pub expr_step : Signature Term → ResolvedExpr-F ArgMeaning BinderMeaning ExprMeaning ValueMeaning → ExprMeaning
expr_step g (ResolvedExpr-F.Pi p bs e) = a_type p.pos (function_type bs e.types)
expr_step g (ResolvedExpr-F.Forall p bs e) = a_type p.pos (function_type bs e.types)
expr_step g (ResolvedExpr-F.Lambda p bs e) = a_value p.pos (lambda p.pos bs e.checks)
expr_step g (ResolvedExpr-F.Arrow p a b) = a_type p.pos (grouped Explicit (no_name ∷ []) a.types b.types)
expr_step g (ResolvedExpr-F.App p e xs) = an_application g p.pos e.pos e.name xs
expr_step g (ResolvedExpr-F.Variable p i) = a_name g p.pos (VariableName i)
expr_step g (ResolvedExpr-F.Def p f) = a_name g p.pos (DefName f)
expr_step g (ResolvedExpr-F.Family p d) = a_name g p.pos (FamilyName d)
expr_step g (ResolvedExpr-F.Con p k) = a_name g p.pos (ConName k)
expr_step g (ResolvedExpr-F.SetLevel p n) = a_type p.pos (known (Sort n) (n + 1))
expr_step g (ResolvedExpr-F.Hole p) = a_value p.pos (left_out p.pos)
expr_step g (ResolvedExpr-F.«ResolvedExpr::Underscore» p) = a_value p.pos (left_out p.pos)
expr_step g (ResolvedExpr-F.Record p vs) = a_value p.pos (record_checked g p.pos vs)

abbrev pub arg_step : ResolvedArg-F ArgMeaning BinderMeaning ExprMeaning ValueMeaning → ArgMeaning
arg_step (ResolvedArg-F.Plain e) = record { pos = e.pos; next = Plain e.checks }
arg_step (ResolvedArg-F.«ResolvedArg::Implicit» p e) = record { pos = p.pos; next = Braces e.checks }
arg_step (ResolvedArg-F.Named p x e) = record { pos = p.pos; next = Named x.id e.checks }
arg_step (ResolvedArg-F.Project p f) = record { pos = p.pos; next = Field f }

abbrev pub ids : List ResolvedName → List ℕ
ids xs = map (λ (x : ResolvedName). x.id) xs

abbrev pub binder_step : ResolvedBinder-F ArgMeaning BinderMeaning ExprMeaning ValueMeaning → BinderMeaning
binder_step (ResolvedBinder-F.Explicit p xs a) = Typed Explicit (ids xs) a.types
binder_step (ResolvedBinder-F.«ResolvedBinder::Implicit» p xs a) = Typed Implicit (ids xs) a.types
binder_step (ResolvedBinder-F.Name x) = Untyped x.place.pos Explicit x.id
binder_step (ResolvedBinder-F.Braced p x) = Untyped p.pos Implicit x.id
binder_step (ResolvedBinder-F.«ResolvedBinder::Underscore» p) = Untyped p.pos Explicit no_name

abbrev pub value_step : ResolvedValue-F ArgMeaning BinderMeaning ExprMeaning ValueMeaning → ValueMeaning
value_step v = record { name = v.name.id; checks = v.value.checks }

-- ---- whole trees, over a signature

unfoldable pub expr_meaning : Signature Term → ResolvedExpr → ExprMeaning
expr_meaning g = fold-ResolvedExpr ArgMeaning BinderMeaning ExprMeaning ValueMeaning arg_step binder_step (expr_step g) value_step

unfoldable pub arg_meaning : Signature Term → ResolvedArg → ArgMeaning
arg_meaning g = fold-ResolvedArg ArgMeaning BinderMeaning ExprMeaning ValueMeaning arg_step binder_step (expr_step g) value_step

unfoldable pub binder_meaning : Signature Term → ResolvedBinder → BinderMeaning
binder_meaning g = fold-ResolvedBinder ArgMeaning BinderMeaning ExprMeaning ValueMeaning arg_step binder_step (expr_step g) value_step

unfoldable pub value_meaning : Signature Term → ResolvedValue → ValueMeaning
value_meaning g = fold-ResolvedValue ArgMeaning BinderMeaning ExprMeaning ValueMeaning arg_step binder_step (expr_step g) value_step

-- ---- the written rules, with this fuel for each head form and to this depth in each comparison

module _ (g : Signature Term) (fuel depth : ℕ) where
  -- the expression, with these values of its variables, is checked at the type a: its core term, or its refusal
  abbrev pub WrittenOf : Values → ResolvedExpr → Term → Outcome Refusal Term → Type 0
  WrittenOf vs e a r = Comes g fuel depth ((expr_meaning g e).checks vs a) r

  -- the expression is a type: its core term and the level of its sort, or its refusal
  abbrev pub WrittenTypeOf : Values → ResolvedExpr → Outcome Refusal (Term × ℕ) → Type 0
  WrittenTypeOf vs e r = Comes g fuel depth ((expr_meaning g e).types vs) r

  -- the expression of a dotted pattern at p, whose value is t at the type a
  abbrev pub WrittenDotOf : Pos → Values → ResolvedExpr → Term → Term → Outcome Refusal (Unit {0}) → Type 0
  WrittenDotOf p vs e a t r = Comes g fuel depth (dot_checked p (expr_meaning g e).checks vs a t) r
