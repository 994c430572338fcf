-- What an expression stands for under the variables around it, or its first refusal from left to right: a relation by cases. An
-- expression is given by its form, in which the trees inside stand; `out-Expr` opens one of these.
use Rattle.std.specs.Prelude.{◌≡◌, ℕ, false, List, [], ◌∷◌, ◌++◌, map, Ok, Err}
use Rattle.source_tree.specs.declared.place.Place.{Place}
use Rattle.source_tree.specs.declared.place.Name.{Name}
use Rattle.source_tree.specs.declared.expr.Expr.{Expr, out-Expr}
use Rattle.source_tree.specs.declared.expr.Arg.{Arg, out-Arg}
use Rattle.source_tree.specs.declared.expr.Binder.{Binder, out-Binder}
use Rattle.source_tree.specs.declared.expr.FieldValue.{FieldValue, out-FieldValue}
use Rattle.source_tree.specs.declared.expr.Arg.TheOpen.{Expr-F, Arg-F, Binder-F, FieldValue-F}
use Rattle.scope_check.specs.declared.error.ScopeError.{ScopeError}
use Rattle.scope_check.specs.declared.error.ScopeKind.TheVariants.{Misplaced}
use Rattle.scope_check.specs.declared.head.Head.{Head}
use Rattle.scope_check.specs.declared.head.Head.TheVariants.{Whole, Field}
use Rattle.scope_check.specs.declared.holes.Holes.{Holes}
use Rattle.scope_check.specs.declared.holes.Holes.TheVariants as h
use Rattle.resolved_tree.specs.declared.resolved.ResolvedExpr.{ResolvedExpr}
use Rattle.resolved_tree.specs.declared.resolved.ResolvedExpr.TheVariants as r
use Rattle.resolved_tree.specs.declared.resolved.ResolvedArg.{ResolvedArg}
use Rattle.resolved_tree.specs.declared.resolved.ResolvedArg.TheVariants as ra
use Rattle.resolved_tree.specs.declared.resolved.ResolvedBinder.{ResolvedBinder}
use Rattle.resolved_tree.specs.declared.resolved.ResolvedBinder.TheVariants as rb
use Rattle.resolved_tree.specs.declared.resolved.ResolvedValue.{ResolvedValue}
use Rattle.scope_check.specs.Answers.{Checked, made, refused, refused_hole}
use Rattle.scope_table.specs.Known.{Known}
use Rattle.scope_check.specs.Exprs.{Locals, label, opened, under}
use Rattle.scope_check.specs.Layers.{begins_plain}
use Rattle.scope_check.specs.ResolvesNames.{StandsFor, StandsForGlobal, StandsForField}

-- ---- forms, with the trees inside

abbrev pub ExprForm : Type 0
ExprForm = Expr-F Arg Binder Expr FieldValue

abbrev pub ArgForm : Type 0
ArgForm = Arg-F Arg Binder Expr FieldValue

abbrev pub BinderForm : Type 0
BinderForm = Binder-F Arg Binder Expr FieldValue

abbrev pub ValueForm : Type 0
ValueForm = FieldValue-F Arg Binder Expr FieldValue

-- `y .f ys`: behind the arguments that y has, the projection stands at the name of the field
abbrev pub projection_of : Place → ResolvedExpr → Name → ℕ → List ResolvedArg → ResolvedExpr
projection_of p y x f ys = r.App p (opened y).0 ((opened y).1 ++ ra.Project x.place f ∷ [] ++ ys)

-- ---- the cases

mutual
  -- an expression at the head of an application, where a field may stand and waits for its argument
  pub data ResolvesHead (k : Known) (holes : Holes) : Locals → ExprForm → Checked Head → Type 0 where
    name : {ls : Locals} {x : Name} {m : Checked Head} → StandsFor k ls x m → ResolvesHead k holes ls (Expr-F.«Expr::Name» x) m
    -- `R.f`
    qualified_name : {ls : Locals} {x : Name} {m : Checked Head} → StandsForGlobal k x m → ResolvesHead k holes ls (Expr-F.Qualified x) m
    head_refused : {ls : Locals} {p : Place} {f : Expr} {xs : List Arg} {e : ScopeError} → ResolvesHead k holes ls (out-Expr f) (Err e)
        → ResolvesHead k holes ls (Expr-F.App p f xs) (Err e)
    application : {ls : Locals} {p : Place} {f : Expr} {xs : List Arg} {y : ResolvedExpr} {m : Checked (List ResolvedArg)}
        → ResolvesHead k holes ls (out-Expr f) (Ok (Whole y)) → ResolvesArgs k holes ls xs m
        → ResolvesHead k holes ls (Expr-F.App p f xs) (made (λ ys. Whole (r.App p y ys)) m)
    -- a field without an explicit first argument
    field_without_explicit_argument : {ls : Locals} {p : Place} {f : Expr} {xs : List Arg} {x : Name} {c : ℕ}
        → ResolvesHead k holes ls (out-Expr f) (Ok (Field x c)) → begins_plain xs ≡ false
        → ResolvesHead k holes ls (Expr-F.App p f xs) (refused Misplaced x)
    argument_of_field_refused : {ls : Locals} {p : Place} {f a : Expr} {b : Arg} {xs : List Arg} {x : Name} {c : ℕ} {e : ScopeError}
        → ResolvesHead k holes ls (out-Expr f) (Ok (Field x c)) → out-Arg b ≡ Arg-F.Plain a → ResolvesExpr k holes ls (out-Expr a) (Err e)
        → ResolvesHead k holes ls (Expr-F.App p f (b ∷ xs)) (Err e)
    -- `f e args` of a field f is `e .f args`
    field_applied : {ls : Locals} {p : Place} {f a : Expr} {b : Arg} {xs : List Arg} {x : Name} {c : ℕ} {y : ResolvedExpr} {m : Checked (List ResolvedArg)}
        → ResolvesHead k holes ls (out-Expr f) (Ok (Field x c)) → out-Arg b ≡ Arg-F.Plain a → ResolvesExpr k holes ls (out-Expr a) (Ok y)
        → ResolvesArgs k holes ls xs m
        → ResolvesHead k holes ls (Expr-F.App p f (b ∷ xs)) (made (λ ys. Whole (projection_of p y x c ys)) m)
    function_type : {ls : Locals} {p : Place} {bs : List Binder} {b : Expr} {m : Checked (List ResolvedBinder × ResolvedExpr × Locals)}
        → ResolvesBehind k holes ls bs (out-Expr b) m
        → ResolvesHead k holes ls (Expr-F.Pi p bs b) (made (λ y. Whole (r.Pi p y.0 y.1)) m)
    for_all : {ls : Locals} {p : Place} {bs : List Binder} {b : Expr} {m : Checked (List ResolvedBinder × ResolvedExpr × Locals)}
        → ResolvesBehind k holes ls bs (out-Expr b) m
        → ResolvesHead k holes ls (Expr-F.Forall p bs b) (made (λ y. Whole (r.Forall p y.0 y.1)) m)
    lambda : {ls : Locals} {p : Place} {bs : List Binder} {b : Expr} {m : Checked (List ResolvedBinder × ResolvedExpr × Locals)}
        → ResolvesBehind k holes ls bs (out-Expr b) m
        → ResolvesHead k holes ls (Expr-F.Lambda p bs b) (made (λ y. Whole (r.Lambda p y.0 y.1)) m)
    left_of_arrow_refused : {ls : Locals} {p : Place} {a b : Expr} {e : ScopeError} → ResolvesExpr k holes ls (out-Expr a) (Err e)
        → ResolvesHead k holes ls (Expr-F.Arrow p a b) (Err e)
    -- the right side stands under a variable that has no name
    arrow : {ls : Locals} {p : Place} {a b : Expr} {x : ResolvedExpr} {m : Checked ResolvedExpr}
        → ResolvesExpr k holes ls (out-Expr a) (Ok x) → ResolvesExpr k holes ([] ∷ ls) (out-Expr b) m
        → ResolvesHead k holes ls (Expr-F.Arrow p a b) (made (λ y. Whole (r.Arrow p x y)) m)
    set_level : {ls : Locals} {p : Place} {n : ℕ} → ResolvesHead k holes ls (Expr-F.SetLevel p n) (Ok (Whole (r.SetLevel p n)))
    hole : {ls : Locals} {p : Place} → holes ≡ h.Allowed → ResolvesHead k holes ls (Expr-F.Hole p) (Ok (Whole (r.Hole p)))
    -- a hole in a dotted pattern is misplaced, and the text carried is `?`
    hole_in_dotted_pattern : {ls : Locals} {p : Place} → holes ≡ h.Misplaced → ResolvesHead k holes ls (Expr-F.Hole p) (refused_hole p)
    underscore : {ls : Locals} {p : Place} → ResolvesHead k holes ls (Expr-F.«Expr::Underscore» p) (Ok (Whole (r.Underscore p)))
    record_value : {ls : Locals} {p : Place} {vs : List FieldValue} {m : Checked (List ResolvedValue)} → ResolvesValues k holes ls vs m
        → ResolvesHead k holes ls (Expr-F.Record p vs) (made (λ ys. Whole (r.Record p ys)) m)

  -- an expression anywhere else
  pub data ResolvesExpr (k : Known) (holes : Holes) : Locals → ExprForm → Checked ResolvedExpr → Type 0 where
    whole_expression : {ls : Locals} {l : ExprForm} {y : ResolvedExpr} → ResolvesHead k holes ls l (Ok (Whole y))
        → ResolvesExpr k holes ls l (Ok y)
    -- a field without an argument
    field_without_argument : {ls : Locals} {l : ExprForm} {x : Name} {c : ℕ} → ResolvesHead k holes ls l (Ok (Field x c))
        → ResolvesExpr k holes ls l (refused Misplaced x)
    refused_whole : {ls : Locals} {l : ExprForm} {e : ScopeError} → ResolvesHead k holes ls l (Err e) → ResolvesExpr k holes ls l (Err e)

  pub data ResolvesArg (k : Known) (holes : Holes) : Locals → ArgForm → Checked ResolvedArg → Type 0 where
    plain : {ls : Locals} {a : Expr} {m : Checked ResolvedExpr} → ResolvesExpr k holes ls (out-Expr a) m
        → ResolvesArg k holes ls (Arg-F.Plain a) (made ra.Plain m)
    implicit : {ls : Locals} {p : Place} {a : Expr} {m : Checked ResolvedExpr} → ResolvesExpr k holes ls (out-Expr a) m
        → ResolvesArg k holes ls (Arg-F.«Arg::Implicit» p a) (made (ra.Implicit p) m)
    named : {ls : Locals} {p : Place} {x : Name} {a : Expr} {m : Checked ResolvedExpr} → ResolvesExpr k holes ls (out-Expr a) m
        → ResolvesArg k holes ls (Arg-F.Named p x a) (made (ra.Named p (label k x)) m)
    -- a dot before a name that is no field is refused, by StandsForField
    projection : {ls : Locals} {p : Place} {x : Name} {m : Checked ℕ} → StandsForField k x m
        → ResolvesArg k holes ls (Arg-F.Project p x) (made (ra.Project p) m)
    qualified_projection : {ls : Locals} {p : Place} {x : Name} {m : Checked ℕ} → StandsForField k x m
        → ResolvesArg k holes ls (Arg-F.ProjectQualified p x) (made (ra.Project p) m)

  -- arguments from left to right
  pub data ResolvesArgs (k : Known) (holes : Holes) : Locals → List Arg → Checked (List ResolvedArg) → Type 0 where
    no_argument : {ls : Locals} → ResolvesArgs k holes ls [] (Ok [])
    argument_refused : {ls : Locals} {a : Arg} {xs : List Arg} {e : ScopeError} → ResolvesArg k holes ls (out-Arg a) (Err e)
        → ResolvesArgs k holes ls (a ∷ xs) (Err e)
    next_argument : {ls : Locals} {a : Arg} {xs : List Arg} {y : ResolvedArg} {m : Checked (List ResolvedArg)}
        → ResolvesArg k holes ls (out-Arg a) (Ok y) → ResolvesArgs k holes ls xs m
        → ResolvesArgs k holes ls (a ∷ xs) (made (λ ys. y ∷ ys) m)

  -- a binder, and the variables around with its own inside
  pub data ResolvesBinder (k : Known) (holes : Holes) : Locals → BinderForm → Checked (ResolvedBinder × Locals) → Type 0 where
    explicit_binder : {ls : Locals} {p : Place} {xs : List Name} {a : Expr} {m : Checked ResolvedExpr}
        → ResolvesExpr k holes ls (out-Expr a) m
        → ResolvesBinder k holes ls (Binder-F.Explicit p xs a) (made (λ y. (rb.Explicit p (map (label k) xs) y, under ls xs)) m)
    implicit_binder : {ls : Locals} {p : Place} {xs : List Name} {a : Expr} {m : Checked ResolvedExpr}
        → ResolvesExpr k holes ls (out-Expr a) m
        → ResolvesBinder k holes ls (Binder-F.«Binder::Implicit» p xs a) (made (λ y. (rb.Implicit p (map (label k) xs) y, under ls xs)) m)
    name_binder : {ls : Locals} {x : Name} → ResolvesBinder k holes ls (Binder-F.«Binder::Name» x) (Ok (rb.Name (label k x), x.text ∷ ls))
    braced_binder : {ls : Locals} {p : Place} {x : Name}
        → ResolvesBinder k holes ls (Binder-F.Braced p x) (Ok (rb.Braced p (label k x), x.text ∷ ls))
    -- the variable has no name
    underscore_binder : {ls : Locals} {p : Place}
        → ResolvesBinder k holes ls (Binder-F.«Binder::Underscore» p) (Ok (rb.Underscore p, [] ∷ ls))

  -- binders from left to right, each under those before it
  pub data ResolvesBinders (k : Known) (holes : Holes) : Locals → List Binder → Checked (List ResolvedBinder × Locals) → Type 0 where
    no_binder : {ls : Locals} → ResolvesBinders k holes ls [] (Ok ([], ls))
    binder_refused : {ls : Locals} {b : Binder} {bs : List Binder} {e : ScopeError} → ResolvesBinder k holes ls (out-Binder b) (Err e)
        → ResolvesBinders k holes ls (b ∷ bs) (Err e)
    next_binder : {ls inside : Locals} {b : Binder} {bs : List Binder} {y : ResolvedBinder} {m : Checked (List ResolvedBinder × Locals)}
        → ResolvesBinder k holes ls (out-Binder b) (Ok (y, inside)) → ResolvesBinders k holes inside bs m
        → ResolvesBinders k holes ls (b ∷ bs) (made (λ z. (y ∷ z.0, z.1)) m)

  -- an expression behind its binders: what these are, what it is, and the variables that it stands under
  pub data ResolvesBehind (k : Known) (holes : Holes) : Locals → List Binder → ExprForm → Checked (List ResolvedBinder × ResolvedExpr × Locals) → Type 0 where
    binders_refused : {ls : Locals} {bs : List Binder} {l : ExprForm} {e : ScopeError} → ResolvesBinders k holes ls bs (Err e)
        → ResolvesBehind k holes ls bs l (Err e)
    behind : {ls inside : Locals} {bs : List Binder} {l : ExprForm} {ys : List ResolvedBinder} {m : Checked ResolvedExpr}
        → ResolvesBinders k holes ls bs (Ok (ys, inside)) → ResolvesExpr k holes inside l m
        → ResolvesBehind k holes ls bs l (made (λ y. (ys, y, inside)) m)

  -- `f = e`: that f is a field is not asked here
  pub data ResolvesValue (k : Known) (holes : Holes) : Locals → ValueForm → Checked ResolvedValue → Type 0 where
    field_value : {ls : Locals} {v : ValueForm} {m : Checked ResolvedExpr} → ResolvesExpr k holes ls (out-Expr v.value) m
        → ResolvesValue k holes ls v (made (λ y. record { name = label k v.name; value = y }) m)

  pub data ResolvesValues (k : Known) (holes : Holes) : Locals → List FieldValue → Checked (List ResolvedValue) → Type 0 where
    no_value : {ls : Locals} → ResolvesValues k holes ls [] (Ok [])
    value_refused : {ls : Locals} {v : FieldValue} {vs : List FieldValue} {e : ScopeError}
        → ResolvesValue k holes ls (out-FieldValue v) (Err e)
        → ResolvesValues k holes ls (v ∷ vs) (Err e)
    next_value : {ls : Locals} {v : FieldValue} {vs : List FieldValue} {y : ResolvedValue} {m : Checked (List ResolvedValue)}
        → ResolvesValue k holes ls (out-FieldValue v) (Ok y) → ResolvesValues k holes ls vs m
        → ResolvesValues k holes ls (v ∷ vs) (made (λ ys. y ∷ ys) m)
