-- The meaning of an expression, as a function: the tree in which each name is resolved, or the first refusal.
use Rattle.std.specs.Prelude.{ℕ, Bool, true, false, if◌then◌else◌, List, [], ◌∷◌, ◌++◌, map, reverse, Option, Some, None, option_and_then, Ok}
use Rattle.source_tree.specs.declared.place.Place.{Place}
use Rattle.source_tree.specs.declared.place.Name.{Name}
use Rattle.source_tree.specs.declared.expr.Expr.{Expr, fold-Expr}
use Rattle.source_tree.specs.declared.expr.Arg.{Arg, fold-Arg}
use Rattle.source_tree.specs.declared.expr.Binder.{Binder, fold-Binder}
use Rattle.source_tree.specs.declared.expr.FieldValue.{FieldValue, fold-FieldValue}
use Rattle.source_tree.specs.declared.expr.Arg.TheOpen.{Expr-F, Arg-F, Binder-F, FieldValue-F}
use Rattle.scope_check.specs.declared.error.ScopeKind.TheVariants.{NotInScope, Misplaced}
use Rattle.scope_table.specs.declared.global.GlobalId.{GlobalId}
use Rattle.scope_table.specs.declared.global.GlobalId.TheVariants as g
use Rattle.scope_check.specs.declared.head.Head.{Head}
use Rattle.scope_check.specs.declared.head.Head.TheVariants.{Whole, Field}
use Rattle.scope_check.specs.declared.holes.Holes.{Holes}
use Rattle.scope_check.specs.declared.holes.Holes.TheVariants as h
use Rattle.resolved_tree.specs.declared.resolved.ResolvedName.{ResolvedName}
use Rattle.resolved_tree.specs.declared.resolved.ResolvedExpr.{ResolvedExpr, out-ResolvedExpr}
use Rattle.resolved_tree.specs.declared.resolved.ResolvedExpr.TheVariants as r
use Rattle.resolved_tree.specs.declared.resolved.ResolvedArg.{ResolvedArg, out-ResolvedArg}
use Rattle.resolved_tree.specs.declared.resolved.ResolvedArg.TheVariants as ra
use Rattle.resolved_tree.specs.declared.resolved.ResolvedArg.TheOpen.{ResolvedExpr-F, ResolvedArg-F}
use Rattle.resolved_tree.specs.declared.resolved.ResolvedBinder.{ResolvedBinder}
use Rattle.resolved_tree.specs.declared.resolved.ResolvedBinder.TheVariants as rb
use Rattle.resolved_tree.specs.declared.resolved.ResolvedValue.{ResolvedValue}
use Rattle.scope_check.specs.Answers.{Checked, ◌>>=◌, refused, refused_hole, each_from}
use Rattle.scope_table.specs.Known.{Known, place_of, number, global_in}

-- the texts of the variables around, the innermost first; a variable without a name has the empty text, which no name has
abbrev pub Locals : Type 0
Locals = List (List ℕ)

-- ---- names

-- the number of a name that is bound, declared or a label
abbrev pub label : Known → Name → ResolvedName
label k x = record { id = number k.names x.text; place = x.place }

-- a global at the name x
abbrev pub by_global : Name → Option GlobalId → Checked Head
by_global x None = refused NotInScope x
by_global x (Some (g.Def d)) = Ok (Whole (r.Def x.place d))
by_global x (Some (g.Family d)) = Ok (Whole (r.Family x.place d))
by_global x (Some (g.Con c)) = Ok (Whole (r.Con x.place c))
by_global x (Some (g.Field f)) = Ok (Field x f)

-- a qualified name is a global
abbrev pub qualified : Known → Name → Checked Head
qualified k x = by_global x (global_in k.globals x.text)

-- any other name is the innermost variable of its text, else a global
abbrev pub named_by : Known → Name → Option ℕ → Checked Head
named_by k x (Some i) = Ok (Whole (r.Variable x.place i))
named_by k x None = qualified k x

abbrev pub named : Known → Locals → Name → Checked Head
named k ls x = named_by k x (place_of ls x.text)

-- the field that a name is, whatever the variables
abbrev pub field_in : GlobalId → Option ℕ
field_in (g.Field f) = Some f
field_in (g.Def d) = None
field_in (g.Family d) = None
field_in (g.Con c) = None

abbrev pub field_named : Known → Name → Option ℕ
field_named k x = option_and_then field_in (global_in k.globals x.text)

-- a dot before a name that is a field in scope is a projection; before another it is none
abbrev pub field_at : Name → Option ℕ → Checked ℕ
field_at x (Some f) = Ok f
field_at x None = refused NotInScope x

abbrev pub field_of : Known → Name → Checked ℕ
field_of k x = field_at x (field_named k x)

-- ---- applications

-- a field that is not applied to an explicit argument is misplaced
abbrev pub whole : Head → Checked ResolvedExpr
whole (Whole e) = Ok e
whole (Field x f) = refused Misplaced x

-- the head and the arguments of an expression
abbrev pub opened_in : ResolvedExpr → ResolvedExpr-F ResolvedArg ResolvedBinder ResolvedExpr ResolvedValue → ResolvedExpr × List ResolvedArg
opened_in e (ResolvedExpr-F.App p f xs) = (f, xs)
opened_in e _ = (e, [])

unfoldable pub opened : ResolvedExpr → ResolvedExpr × List ResolvedArg
opened e = opened_in e (out-ResolvedExpr e)

-- an argument: an explicit one, which may be that of a field, or another
pub data ArgMeaning : Type 0 where
  Explicit : (Locals → Checked ResolvedExpr) → ArgMeaning
  Other : (Locals → Checked ResolvedArg) → ArgMeaning

abbrev pub means : Locals → ArgMeaning → Checked ResolvedArg
means ls (Explicit m) = m ls >>= (λ e. Ok (ra.Plain e))
means ls (Other m) = m ls

abbrev pub begins_explicit : List ArgMeaning → Bool
begins_explicit [] = false
begins_explicit (Explicit m ∷ ms) = true
begins_explicit (Other m ∷ ms) = false

-- the expression of an explicit argument
abbrev pub explicit_in : ResolvedArg-F ResolvedArg ResolvedBinder ResolvedExpr ResolvedValue → Option ResolvedExpr
explicit_in (ResolvedArg-F.Plain e) = Some e
explicit_in _ = None

abbrev pub explicit : ResolvedArg → Option ResolvedExpr
explicit y = explicit_in (out-ResolvedArg y)

-- `f e xs` of a field is `e .f xs`
abbrev pub projected_first : Place → Name → ℕ → List ResolvedArg → Option ResolvedExpr → Checked Head
projected_first p x f ys (Some e) = Ok (Whole (r.App p (opened e).0 ((opened e).1 ++ ra.Project x.place f ∷ [] ++ ys)))
projected_first p x f ys None = refused Misplaced x

abbrev pub projected : Place → Name → ℕ → List ResolvedArg → Checked Head
projected p x f [] = refused Misplaced x
projected p x f (y ∷ ys) = projected_first p x f ys (explicit y)

abbrev pub field_applied : Locals → Place → Name → ℕ → List ArgMeaning → Checked Head
field_applied ls p x f ms = if begins_explicit ms then (each_from [] (map (means ls) ms) >>= projected p x f) else refused Misplaced x

abbrev pub applied : Locals → Place → List ArgMeaning → Head → Checked Head
applied ls p ms (Whole e) = each_from [] (map (means ls) ms) >>= (λ ys. Ok (Whole (r.App p e ys)))
applied ls p ms (Field x f) = field_applied ls p x f ms

-- ---- binders

abbrev pub BinderMeaning : Type 0
BinderMeaning = Locals → Checked (ResolvedBinder × Locals)

abbrev pub texts : List Name → Locals
texts xs = map (λ (x : Name). x.text) xs

-- the variables around, with these names inside, the last the innermost
abbrev pub under : Locals → List Name → Locals
under ls xs = reverse (texts xs) ++ ls

-- the binders from left to right, each under those before it
unfoldable pub binders_from : List ResolvedBinder → List BinderMeaning → Locals → Checked (List ResolvedBinder × Locals)
binders_from found [] ls = Ok (found, ls)
binders_from found (m ∷ ms) ls = m ls >>= (λ b. binders_from (found ++ b.0 ∷ []) ms b.1)

-- ---- one level, with the meaning of each part in its place

abbrev pub ExprMeaning : Type 0
ExprMeaning = Locals → Checked Head

abbrev pub ValueMeaning : Type 0
ValueMeaning = Locals → Checked ResolvedValue

-- as a whole expression
abbrev pub full : ExprMeaning → Locals → Checked ResolvedExpr
full m ls = m ls >>= whole

-- an expression that is no field
abbrev pub wholly : Checked ResolvedExpr → Checked Head
wholly m = m >>= (λ e. Ok (Whole e))

-- a hole, where it may stand
abbrev pub hole_at : Holes → Place → Checked ResolvedExpr
hole_at h.Allowed p = Ok (r.Hole p)
hole_at h.Misplaced p = refused_hole p

-- a body behind its binders
abbrev pub bound : Locals → List BinderMeaning → ExprMeaning → (List ResolvedBinder → ResolvedExpr → ResolvedExpr) → Checked Head
bound ls ms b f = binders_from [] ms ls >>= (λ bs. full b bs.1 >>= (λ y. Ok (Whole (f bs.0 y))))

-- `A → B`: the right side stands under a variable that has no name
abbrev pub arrow : Locals → Place → ExprMeaning → ExprMeaning → Checked Head
arrow ls p a b = full a ls >>= (λ x. full b ([] ∷ ls) >>= (λ y. Ok (Whole (r.Arrow p x y))))

abbrev pub record_of : Locals → Place → List ValueMeaning → Checked Head
record_of ls p ms = each_from [] (map (λ (m : ValueMeaning). m ls) ms) >>= (λ ys. Ok (Whole (r.Record p ys)))

module _ (k : Known) (holes : Holes) where
  abbrev pub arg_step : Arg-F ArgMeaning BinderMeaning ExprMeaning ValueMeaning → ArgMeaning
  arg_step (Arg-F.Plain e) = Explicit (full e)
  arg_step (Arg-F.«Arg::Implicit» p e) = Other (λ ls. full e ls >>= (λ y. Ok (ra.Implicit p y)))
  arg_step (Arg-F.Named p x e) = Other (λ ls. full e ls >>= (λ y. Ok (ra.Named p (label k x) y)))
  arg_step (Arg-F.Project p x) = Other (λ ls. field_of k x >>= (λ f. Ok (ra.Project p f)))
  arg_step (Arg-F.ProjectQualified p x) = Other (λ ls. field_of k x >>= (λ f. Ok (ra.Project p f)))

  abbrev pub binder_step : Binder-F ArgMeaning BinderMeaning ExprMeaning ValueMeaning → BinderMeaning
  binder_step (Binder-F.Explicit p xs a) ls = full a ls >>= (λ y. Ok (rb.Explicit p (map (label k) xs) y, under ls xs))
  binder_step (Binder-F.«Binder::Implicit» p xs a) ls = full a ls >>= (λ y. Ok (rb.Implicit p (map (label k) xs) y, under ls xs))
  binder_step (Binder-F.«Binder::Name» x) ls = Ok (rb.Name (label k x), x.text ∷ ls)
  binder_step (Binder-F.Braced p x) ls = Ok (rb.Braced p (label k x), x.text ∷ ls)
  binder_step (Binder-F.«Binder::Underscore» p) ls = Ok (rb.Underscore p, [] ∷ ls)

  abbrev pub value_step : FieldValue-F ArgMeaning BinderMeaning ExprMeaning ValueMeaning → ValueMeaning
  value_step v ls = full v.value ls >>= (λ y. Ok (record { name = label k v.name; value = y }))

  abbrev pub expr_step : Expr-F ArgMeaning BinderMeaning ExprMeaning ValueMeaning → ExprMeaning
  expr_step (Expr-F.«Expr::Name» x) ls = named k ls x
  expr_step (Expr-F.Qualified x) ls = qualified k x
  expr_step (Expr-F.App p f xs) ls = f ls >>= applied ls p xs
  expr_step (Expr-F.Pi p bs b) ls = bound ls bs b (r.Pi p)
  expr_step (Expr-F.Forall p bs b) ls = bound ls bs b (r.Forall p)
  expr_step (Expr-F.Lambda p bs b) ls = bound ls bs b (r.Lambda p)
  expr_step (Expr-F.Arrow p a b) ls = arrow ls p a b
  expr_step (Expr-F.SetLevel p n) ls = Ok (Whole (r.SetLevel p n))
  expr_step (Expr-F.Hole p) ls = wholly (hole_at holes p)
  expr_step (Expr-F.«Expr::Underscore» p) ls = Ok (Whole (r.Underscore p))
  expr_step (Expr-F.Record p vs) ls = record_of ls p vs

  -- ---- whole trees

  unfoldable pub head_of : Expr → ExprMeaning
  head_of e = fold-Expr ArgMeaning BinderMeaning ExprMeaning ValueMeaning arg_step binder_step expr_step value_step e

  unfoldable pub arg_of : Arg → ArgMeaning
  arg_of a = fold-Arg ArgMeaning BinderMeaning ExprMeaning ValueMeaning arg_step binder_step expr_step value_step a

  unfoldable pub binder_of : Binder → BinderMeaning
  binder_of b = fold-Binder ArgMeaning BinderMeaning ExprMeaning ValueMeaning arg_step binder_step expr_step value_step b

  unfoldable pub value_of : FieldValue → ValueMeaning
  value_of v = fold-FieldValue ArgMeaning BinderMeaning ExprMeaning ValueMeaning arg_step binder_step expr_step value_step v

  -- the expression that e stands for under the variables ls
  abbrev pub expr : Locals → Expr → Checked ResolvedExpr
  expr ls e = full (head_of e) ls
