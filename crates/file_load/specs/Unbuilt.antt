-- The first form of a file, in the order of the text, that is not built so far: the byte at which it begins.
use Rattle.std.specs.Prelude.{ℕ, List, [], ◌∷◌, map, Option, Some, None}
use Rattle.source_tree.specs.declared.expr.Expr.{Expr}
use Rattle.source_tree.specs.declared.expr.Arg.{Arg}
use Rattle.source_tree.specs.declared.expr.Binder.{Binder}
use Rattle.source_tree.specs.declared.expr.FieldValue.{FieldValue}
use Rattle.source_tree.specs.declared.expr.Arg.TheOpen.{Expr-F, Arg-F, Binder-F, FieldValue-F}
use Rattle.source_tree.specs.declared.expr.Arg.TheFolds.{fold-Expr, fold-Arg, fold-Binder, fold-FieldValue}
use Rattle.source_tree.specs.declared.decl.Signature.{Signature}
use Rattle.source_tree.specs.declared.decl.RecordItem.{RecordItem}
use Rattle.source_tree.specs.declared.decl.RecordItem.TheVariants as i
use Rattle.source_tree.specs.declared.decl.Decl.{Decl}
use Rattle.source_tree.specs.declared.decl.Decl.TheVariants as d
use Rattle.source_tree.specs.declared.decl.File.{File}

abbrev pub or_else : Option ℕ → Option ℕ → Option ℕ
or_else (Some n) o = Some n
or_else None o = o

abbrev pub first_of : List (Option ℕ) → Option ℕ
first_of [] = None
first_of (o ∷ os) = or_else o (first_of os)

-- the first that f finds
abbrev pub first_by : {A : Type 0} → (A → Option ℕ) → List A → Option ℕ
first_by f [] = None
first_by f (x ∷ xs) = or_else (f x) (first_by f xs)

-- Built are: names, qualified ones too, `Set` with its level, function types and `∀` over explicit binders with a type, `λ` over explicit
-- binders with or without a type, arrows, applications to plain arguments and projections, and `record { .. }`. Any other form begins with
-- its own first token: a hole, `_` but as a binder of `λ`, the brace of a binder or argument, and the name of a binder of `∀` without a
-- type.
pub record InBinder : Type 0 where
  pub in_function_type : Option ℕ
  pub in_lambda : Option ℕ

abbrev pub of_function_type : InBinder → Option ℕ
of_function_type o = o.in_function_type

abbrev pub of_lambda : InBinder → Option ℕ
of_lambda o = o.in_lambda

abbrev pub expr_step : Expr-F (Option ℕ) InBinder (Option ℕ) (Option ℕ) → Option ℕ
expr_step (Expr-F.Pi p bs b) = or_else (first_by of_function_type bs) b
expr_step (Expr-F.Forall p bs b) = or_else (first_by of_function_type bs) b
expr_step (Expr-F.Lambda p bs b) = or_else (first_by of_lambda bs) b
expr_step (Expr-F.Arrow p a b) = or_else a b
expr_step (Expr-F.App p f xs) = or_else f (first_of xs)
expr_step (Expr-F.«Expr::Name» x) = None
expr_step (Expr-F.Qualified x) = None
expr_step (Expr-F.SetLevel p n) = None
expr_step (Expr-F.Hole p) = Some p.span.start
expr_step (Expr-F.«Expr::Underscore» p) = Some p.span.start
expr_step (Expr-F.Record p fs) = first_of fs

abbrev pub arg_step : Arg-F (Option ℕ) InBinder (Option ℕ) (Option ℕ) → Option ℕ
arg_step (Arg-F.Plain e) = e
arg_step (Arg-F.«Arg::Implicit» p e) = Some p.span.start
arg_step (Arg-F.Named p x e) = Some p.span.start
arg_step (Arg-F.Project p x) = None
arg_step (Arg-F.ProjectQualified p x) = None

abbrev pub at_both : Option ℕ → InBinder
at_both o = record { in_function_type = o; in_lambda = o }

abbrev pub binder_step : Binder-F (Option ℕ) InBinder (Option ℕ) (Option ℕ) → InBinder
binder_step (Binder-F.Explicit p xs a) = at_both a
binder_step (Binder-F.«Binder::Implicit» p xs a) = at_both (Some p.span.start)
binder_step (Binder-F.«Binder::Name» x) = record { in_function_type = Some x.place.span.start; in_lambda = None }
binder_step (Binder-F.Braced p x) = at_both (Some p.span.start)
binder_step (Binder-F.«Binder::Underscore» p) = record { in_function_type = Some p.span.start; in_lambda = None }

-- the value of a field of `record { .. }`
abbrev pub value_step : FieldValue-F (Option ℕ) InBinder (Option ℕ) (Option ℕ) → Option ℕ
value_step v = v.value

unfoldable pub in_expr : Expr → Option ℕ
in_expr = fold-Expr (Option ℕ) InBinder (Option ℕ) (Option ℕ) arg_step binder_step expr_step value_step

unfoldable pub in_arg : Arg → Option ℕ
in_arg = fold-Arg (Option ℕ) InBinder (Option ℕ) (Option ℕ) arg_step binder_step expr_step value_step

unfoldable pub in_value : FieldValue → Option ℕ
in_value = fold-FieldValue (Option ℕ) InBinder (Option ℕ) (Option ℕ) arg_step binder_step expr_step value_step

unfoldable pub in_binder : Binder → InBinder
in_binder = fold-Binder (Option ℕ) InBinder (Option ℕ) (Option ℕ) arg_step binder_step expr_step value_step

-- ---- declarations: of these `postulate`, `data`, `record` and `open` are built

abbrev pub in_signature : Signature → Option ℕ
in_signature s = in_expr s.ty

abbrev pub in_signatures : List Signature → Option ℕ
in_signatures ss = first_of (map in_signature ss)

abbrev pub in_item : RecordItem → Option ℕ
in_item (i.Field p ss) = in_signatures ss
in_item (i.Inductive p) = None
in_item (i.Coinductive p) = None
in_item (i.«Constructor» p x) = None

-- the parameters and the type after the colon
abbrev pub in_heading : List Binder → Expr → Option ℕ
in_heading bs e = or_else (first_by of_function_type (map in_binder bs)) (in_expr e)

abbrev pub in_decl : Decl → Option ℕ
in_decl (d.Postulate p ss) = in_signatures ss
in_decl (d.Function p s cs) = Some p.span.start
in_decl (d.Clause c) = Some c.place.span.start
in_decl (d.Open p x b) = None
in_decl (d.«Data» p x bs a ss) = or_else (in_heading bs a) (in_signatures ss)
in_decl (d.Record p x bs a xs) = or_else (in_heading bs a) (first_of (map in_item xs))

abbrev pub in_file : File → Option ℕ
in_file f = first_of (map in_decl f.decls)
