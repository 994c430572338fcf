-- The meaning of one level of an expression, by that of the trees inside: what the parts of the code that walk down a tree say.
use Rattle.std.specs.Prelude.{ℕ, Bool, true, false, if◌then◌else◌, List, [], ◌∷◌, map, Ok}
use Rattle.source_tree.specs.declared.place.Place.{Place}
use Rattle.source_tree.specs.declared.place.Name.{Name}
use Rattle.source_tree.specs.declared.expr.Expr.{Expr}
use Rattle.source_tree.specs.declared.expr.Arg.{Arg, out-Arg}
use Rattle.source_tree.specs.declared.expr.Binder.{Binder}
use Rattle.source_tree.specs.declared.expr.FieldValue.{FieldValue}
use Rattle.source_tree.specs.declared.expr.Arg.TheOpen.{Expr-F, Arg-F, Binder-F, FieldValue-F}
use Rattle.scope_check.specs.declared.error.ScopeKind.TheVariants.{Misplaced}
use Rattle.scope_check.specs.declared.head.Head.{Head}
use Rattle.scope_check.specs.declared.head.Head.TheVariants.{Whole, Field}
use Rattle.scope_check.specs.declared.holes.Holes.{Holes}
use Rattle.resolved_tree.specs.declared.resolved.ResolvedExpr.{ResolvedExpr}
use Rattle.resolved_tree.specs.declared.resolved.ResolvedExpr.TheVariants as r
use Rattle.resolved_tree.specs.declared.resolved.ResolvedArg.{ResolvedArg}
use Rattle.resolved_tree.specs.declared.resolved.ResolvedArg.TheVariants as ra
use Rattle.resolved_tree.specs.declared.resolved.ResolvedBinder.{ResolvedBinder}
use Rattle.resolved_tree.specs.declared.resolved.ResolvedBinder.TheVariants as rb
use Rattle.resolved_tree.specs.declared.resolved.ResolvedValue.{ResolvedValue}
use Rattle.scope_check.specs.Answers.{Checked, ◌>>=◌, refused, each_from}
use Rattle.scope_table.specs.Known.{Known}
use Rattle.scope_check.specs.Exprs.{Locals, label, named, qualified, field_of, projected, means, under, binders_from, wholly, hole_at, head_of, arg_of, binder_of, value_of, expr}

abbrev pub is_plain_in : Arg-F Arg Binder Expr FieldValue → Bool
is_plain_in (Arg-F.Plain e) = true
is_plain_in _ = false

abbrev pub begins_plain : List Arg → Bool
begins_plain [] = false
begins_plain (a ∷ xs) = is_plain_in (out-Arg a)

module _ (k : Known) (holes : Holes) where
  abbrev pub arg : Locals → Arg → Checked ResolvedArg
  arg ls a = means ls (arg_of k holes a)

  abbrev pub args : Locals → List ResolvedArg → List Arg → Checked (List ResolvedArg)
  args ls found xs = each_from found (map (arg ls) xs)

  abbrev pub value : Locals → FieldValue → Checked ResolvedValue
  value ls v = value_of k holes v ls

  abbrev pub values : Locals → List ResolvedValue → List FieldValue → Checked (List ResolvedValue)
  values ls found vs = each_from found (map (value ls) vs)

  abbrev pub binders : List ResolvedBinder → Locals → List Binder → Checked (List ResolvedBinder × Locals)
  binders found ls bs = binders_from found (map (binder_of k holes) bs) ls

  abbrev pub field_applied : Locals → Place → Name → ℕ → List Arg → Checked Head
  field_applied ls p x f xs = if begins_plain xs then (args ls [] xs >>= projected p x f) else refused Misplaced x

  abbrev pub applied : Locals → Place → List Arg → Head → Checked Head
  applied ls p xs (Whole e) = args ls [] xs >>= (λ ys. Ok (Whole (r.App p e ys)))
  applied ls p xs (Field x f) = field_applied ls p x f xs

  abbrev pub bound : Locals → List Binder → Expr → (List ResolvedBinder → ResolvedExpr → ResolvedExpr) → Checked Head
  bound ls bs b f = binders [] ls bs >>= (λ y. expr k holes y.1 b >>= (λ z. Ok (Whole (f y.0 z))))

  abbrev pub head_in : Locals → Expr-F Arg Binder Expr FieldValue → Checked Head
  head_in ls (Expr-F.«Expr::Name» x) = named k ls x
  head_in ls (Expr-F.Qualified x) = qualified k x
  head_in ls (Expr-F.App p f xs) = head_of k holes f ls >>= applied ls p xs
  head_in ls (Expr-F.Pi p bs b) = bound ls bs b (r.Pi p)
  head_in ls (Expr-F.Forall p bs b) = bound ls bs b (r.Forall p)
  head_in ls (Expr-F.Lambda p bs b) = bound ls bs b (r.Lambda p)
  head_in ls (Expr-F.Arrow p a b) = expr k holes ls a >>= (λ x. expr k holes ([] ∷ ls) b >>= (λ y. Ok (Whole (r.Arrow p x y))))
  head_in ls (Expr-F.SetLevel p n) = Ok (Whole (r.SetLevel p n))
  head_in ls (Expr-F.Hole p) = wholly (hole_at holes p)
  head_in ls (Expr-F.«Expr::Underscore» p) = Ok (Whole (r.Underscore p))
  head_in ls (Expr-F.Record p vs) = values ls [] vs >>= (λ ys. Ok (Whole (r.Record p ys)))

  abbrev pub arg_in : Locals → Arg-F Arg Binder Expr FieldValue → Checked ResolvedArg
  arg_in ls (Arg-F.Plain e) = expr k holes ls e >>= (λ y. Ok (ra.Plain y))
  arg_in ls (Arg-F.«Arg::Implicit» p e) = expr k holes ls e >>= (λ y. Ok (ra.Implicit p y))
  arg_in ls (Arg-F.Named p x e) = expr k holes ls e >>= (λ y. Ok (ra.Named p (label k x) y))
  arg_in ls (Arg-F.Project p x) = field_of k x >>= (λ f. Ok (ra.Project p f))
  arg_in ls (Arg-F.ProjectQualified p x) = field_of k x >>= (λ f. Ok (ra.Project p f))

  abbrev pub binder_in : Locals → Binder-F Arg Binder Expr FieldValue → Checked (ResolvedBinder × Locals)
  binder_in ls (Binder-F.Explicit p xs a) = expr k holes ls a >>= (λ y. Ok (rb.Explicit p (map (label k) xs) y, under ls xs))
  binder_in ls (Binder-F.«Binder::Implicit» p xs a) = expr k holes ls a >>= (λ y. Ok (rb.Implicit p (map (label k) xs) y, under ls xs))
  binder_in ls (Binder-F.«Binder::Name» x) = Ok (rb.Name (label k x), x.text ∷ ls)
  binder_in ls (Binder-F.Braced p x) = Ok (rb.Braced p (label k x), x.text ∷ ls)
  binder_in ls (Binder-F.«Binder::Underscore» p) = Ok (rb.Underscore p, [] ∷ ls)

  abbrev pub value_in : Locals → FieldValue-F Arg Binder Expr FieldValue → Checked ResolvedValue
  value_in ls v = expr k holes ls v.value >>= (λ y. Ok (record { name = label k v.name; value = y }))
