-- The cases of expressions are those of the function: what holds by the cases is what the function gives, and what it gives holds.
use Rattle.std.proofs.Common.{◌≡◌, ◌∙◌, Ok, Err, Some, None, List, [], ◌∷◌, ◌++◌, map, ℕ, false, Bool, if◌then◌else◌, Option, refl, ap, sym, subst}
use Rattle.source_tree.specs.declared.place.Place.{Place}
use Rattle.source_tree.specs.declared.place.Name.{Name}
use Rattle.source_tree.specs.declared.expr.Expr.{Expr, out-Expr, ind-Expr, roll-Expr, out-roll-Expr, map-Expr}
use Rattle.source_tree.specs.declared.expr.Arg.{Arg, out-Arg, roll-Arg, out-roll-Arg, map-Arg}
use Rattle.source_tree.specs.declared.expr.Binder.{Binder, out-Binder, roll-Binder, out-roll-Binder, ind-Binder, map-Binder}
use Rattle.source_tree.specs.declared.expr.FieldValue.{FieldValue, out-FieldValue, roll-FieldValue, out-roll-FieldValue, map-FieldValue}
use Rattle.source_tree.specs.declared.expr.Arg.TheOpen.{Expr-F, Arg-F, Binder-F, FieldValue-F}
use Rattle.scope_check.specs.declared.error.ScopeKind.TheVariants.{Misplaced}
use Rattle.scope_table.specs.declared.global.GlobalId.{GlobalId}
use Rattle.scope_table.specs.declared.global.GlobalId.TheVariants as g
use Rattle.scope_check.specs.declared.head.Head.{Head}
use Rattle.scope_check.specs.declared.head.Head.TheVariants.{Whole, Field}
use Rattle.scope_check.specs.declared.holes.Holes.{Holes}
use Rattle.scope_check.specs.declared.holes.Holes.TheVariants as h
use Rattle.resolved_tree.specs.declared.resolved.ResolvedExpr.{ResolvedExpr}
use Rattle.resolved_tree.specs.declared.resolved.ResolvedExpr.TheVariants as r
use Rattle.resolved_tree.specs.declared.resolved.ResolvedArg.{ResolvedArg, out-roll-ResolvedArg}
use Rattle.resolved_tree.specs.declared.resolved.ResolvedArg.TheVariants as ra
use Rattle.resolved_tree.specs.declared.resolved.ResolvedArg.TheVariants.{rolls-Plain}
use Rattle.resolved_tree.specs.declared.resolved.ResolvedArg.TheOpen.{ResolvedArg-F}
use Rattle.resolved_tree.specs.declared.resolved.ResolvedBinder.{ResolvedBinder}
use Rattle.resolved_tree.specs.declared.resolved.ResolvedValue.{ResolvedValue}
use Rattle.scope_check.specs.Answers.{Checked, and_then, ◌>>=◌, made, each_from, refused}
use Rattle.scope_table.specs.Known.{Known, place_of, global_in}
use Rattle.scope_check.specs.Exprs.{Locals, BinderMeaning, binders_from, head_of, binder_of, value_of, expr, explicit, explicit_in, projected, projected_first, whole, named_by, by_global, named, qualified, field_at, field_of, field_named, hole_at, wholly}
use Rattle.scope_check.specs.Layers as layer
use Rattle.scope_check.specs.ResolvesNames.{StandsForGlobal, StandsFor, StandsForField, postulate_or_function, data_or_record_type, a_constructor, a_field, not_in_scope, variable, a_global, field_in_scope, no_field_in_scope}
use Rattle.scope_check.specs.ResolvesExprs as c
use Rattle.scope_check.specs.ResolvesExprs.{ExprForm, ArgForm, BinderForm, ValueForm, projection_of, ResolvesHead, ResolvesExpr, ResolvesArg, ResolvesArgs, ResolvesBinder, ResolvesBinders, ResolvesBehind, ResolvesValue, ResolvesValues}
use Rattle.scope_check.proofs.Folds.{head_at, arg_at, binder_at, value_at}
use Rattle.scope_check.proofs.Answered.{then_by, made_by, each_first, behind, behind_none, behind_both, then_behind, then_same}

-- ---- names

pub global_is : (k : Known) (x : Name) {m : Checked Head} → StandsForGlobal k x m → qualified k x ≡ m
global_is k x (postulate_or_function e) = ap (by_global x) e
global_is k x (data_or_record_type e) = ap (by_global x) e
global_is k x (a_constructor e) = ap (by_global x) e
global_is k x (a_field e) = ap (by_global x) e
global_is k x (not_in_scope e) = ap (by_global x) e

pub global_holds : (k : Known) (x : Name) → StandsForGlobal k x (qualified k x)
global_holds k x = by (global_in k.globals x.text) refl
  where
    by : (o : Option GlobalId) → global_in k.globals x.text ≡ o → StandsForGlobal k x (by_global x o)
    by None e = not_in_scope e
    by (Some (g.Def d)) e = postulate_or_function e
    by (Some (g.Family d)) e = data_or_record_type e
    by (Some (g.Con d)) e = a_constructor e
    by (Some (g.Field d)) e = a_field e

pub name_is : (k : Known) (ls : Locals) (x : Name) {m : Checked Head} → StandsFor k ls x m → named k ls x ≡ m
name_is k ls x (variable e) = ap (named_by k x) e
name_is k ls x (a_global e s) = ap (named_by k x) e ∙ global_is k x s

pub name_holds : (k : Known) (ls : Locals) (x : Name) → StandsFor k ls x (named k ls x)
name_holds k ls x = by (place_of ls x.text) refl
  where
    by : (o : Option ℕ) → place_of ls x.text ≡ o → StandsFor k ls x (named_by k x o)
    by (Some i) e = variable e
    by None e = a_global e (global_holds k x)

pub field_is : (k : Known) (x : Name) {m : Checked ℕ} → StandsForField k x m → field_of k x ≡ m
field_is k x (field_in_scope e) = ap (field_at x) e
field_is k x (no_field_in_scope e) = ap (field_at x) e

pub field_holds : (k : Known) (x : Name) → StandsForField k x (field_of k x)
field_holds k x = by (field_named k x) refl
  where
    by : (o : Option ℕ) → field_named k x ≡ o → StandsForField k x (field_at x o)
    by (Some i) e = field_in_scope e
    by None e = no_field_in_scope e

-- ---- an application of a field

explicit_plain : (y : ResolvedExpr) → explicit (ra.Plain y) ≡ Some y
explicit_plain y = ap explicit (sym (rolls-Plain y)) ∙ ap explicit_in (out-roll-ResolvedArg (ResolvedArg-F.Plain y))

projected_plain : (p : Place) (x : Name) (f : ℕ) (y : ResolvedExpr) (m : Checked (List ResolvedArg))
    → and_then (made (λ ys. ra.Plain y ∷ ys) m) (projected p x f) ≡ made (λ ys. Whole (projection_of p y x f ys)) m
projected_plain p x f y (Ok ys) = ap (projected_first p x f ys) (explicit_plain y)
projected_plain p x f y (Err e) = refl

-- ---- binders

binders_behind : (found : List ResolvedBinder) (ms : List BinderMeaning) (ls : Locals) → binders_from found ms ls ≡ behind found (binders_from [] ms ls)
unfolding binders_from
binders_behind found [] ls = behind_none found ls
binders_behind found (m ∷ ms) ls =
    then_behind found (m ls) (λ b. binders_from (found ++ b.0 ∷ []) ms b.1) (λ b. binders_from (b.0 ∷ []) ms b.1) (λ b. binders_behind (found ++ b.0 ∷ []) ms b.1 ∙ behind_both found (b.0 ∷ []) (binders_from [] ms b.1) ∙ ap (behind found) (sym (binders_behind (b.0 ∷ []) ms b.1)))

module _ (k : Known) (holes : Holes) where
  -- one binder, and the others under it
  binders_first : (ls : Locals) (b : Binder) (bs : List Binder) → layer.binders k holes [] ls (b ∷ bs) ≡ and_then (binder_of k holes b ls) (λ y. behind (y.0 ∷ []) (layer.binders k holes [] y.1 bs))
  unfolding binders_from
  binders_first ls b bs = then_same (binder_of k holes b ls) (λ y. binders_from (y.0 ∷ []) (map (binder_of k holes) bs) y.1) (λ y. behind (y.0 ∷ []) (layer.binders k holes [] y.1 bs)) (λ y. binders_behind (y.0 ∷ []) (map (binder_of k holes) bs) y.1)

  args_first : (ls : Locals) (a : Arg) (xs : List Arg) → layer.args k holes ls [] (a ∷ xs) ≡ and_then (layer.arg k holes ls a) (λ y. made (λ ys. y ∷ ys) (layer.args k holes ls [] xs))
  args_first ls a xs = each_first (layer.arg k holes ls a) (map (layer.arg k holes ls) xs)

  values_first : (ls : Locals) (v : FieldValue) (vs : List FieldValue) → layer.values k holes ls [] (v ∷ vs) ≡ and_then (layer.value k holes ls v) (λ y. made (λ ys. y ∷ ys) (layer.values k holes ls [] vs))
  values_first ls v vs = each_first (layer.value k holes ls v) (map (layer.value k holes ls) vs)

  -- an expression, by its form
  abbrev pub expr_in : Locals → ExprForm → Checked ResolvedExpr
  expr_in ls l = layer.head_in k holes ls l >>= whole

  pub expr_at : (ls : Locals) (e : Expr) → expr k holes ls e ≡ expr_in ls (out-Expr e)
  expr_at ls e = ap (λ (t : Checked Head). and_then t whole) (head_at k holes ls e)

  -- an expression behind its binders
  abbrev pub behind_of : Locals → List Binder → ExprForm → Checked (List ResolvedBinder × ResolvedExpr × Locals)
  behind_of ls bs l = layer.binders k holes [] ls bs >>= (λ y. made (λ z. (y.0, z, y.1)) (expr_in y.1 l))

  bound_behind : (ls : Locals) (bs : List Binder) (b : Expr) (f : List ResolvedBinder → ResolvedExpr → ResolvedExpr)
      → layer.bound k holes ls bs b f ≡ made (λ (y : List ResolvedBinder × ResolvedExpr × Locals). Whole (f y.0 y.1)) (behind_of ls bs (out-Expr b))
  bound_behind ls bs b f = by (layer.binders k holes [] ls bs)
    where
      in_body : (ys : List ResolvedBinder) (inside : Locals) (a : Checked ResolvedExpr) → and_then a (λ z. Ok (Whole (f ys z))) ≡ made (λ (y : List ResolvedBinder × ResolvedExpr × Locals). Whole (f y.0 y.1)) (made (λ z. (ys, z, inside)) a)
      in_body ys inside (Ok z) = refl
      in_body ys inside (Err e) = refl

      by : (a : Checked (List ResolvedBinder × Locals)) → and_then a (λ y. expr k holes y.1 b >>= (λ z. Ok (Whole (f y.0 z)))) ≡ made (λ (y : List ResolvedBinder × ResolvedExpr × Locals). Whole (f y.0 y.1)) (and_then a (λ y. made (λ z. (y.0, z, y.1)) (expr_in y.1 (out-Expr b))))
      by (Err e) = refl
      by (Ok y) = then_by (λ z. Ok (Whole (f y.0 z))) (expr_at y.1 b) (in_body y.0 y.1 (expr_in y.1 (out-Expr b)))

  -- `f e args` of a field
  field_first : (ls : Locals) (p : Place) (x : Name) (f : ℕ) (b : Arg) (a : Expr) (xs : List Arg) → out-Arg b ≡ Arg-F.Plain a
      → layer.field_applied k holes ls p x f (b ∷ xs) ≡ and_then (expr k holes ls a) (λ y. made (λ ys. Whole (projection_of p y x f ys)) (layer.args k holes ls [] xs))
  field_first ls p x f b a xs e =
      ap (λ (t : Bool). if t then (layer.args k holes ls [] (b ∷ xs) >>= projected p x f) else refused Misplaced x) (ap layer.is_plain_in e)
      ∙ ap (λ (t : Checked (List ResolvedArg)). and_then t (projected p x f)) (args_first ls b xs ∙ ap (λ (t : Checked ResolvedArg). and_then t (λ y. made (λ ys. y ∷ ys) (layer.args k holes ls [] xs))) (arg_at k holes ls b ∙ ap (layer.arg_in k holes ls) e))
      ∙ by (expr k holes ls a)
    where
      by : (m : Checked ResolvedExpr) → and_then (and_then (made ra.Plain m) (λ y. made (λ ys. y ∷ ys) (layer.args k holes ls [] xs))) (projected p x f) ≡ and_then m (λ y. made (λ ys. Whole (projection_of p y x f ys)) (layer.args k holes ls [] xs))
      by (Err e) = refl
      by (Ok y) = projected_plain p x f y (layer.args k holes ls [] xs)

  field_misplaced : (ls : Locals) (p : Place) (x : Name) (f : ℕ) (xs : List Arg) → layer.begins_plain xs ≡ false → layer.field_applied k holes ls p x f xs ≡ refused Misplaced x
  field_misplaced ls p x f xs e = ap (λ (t : Bool). if t then (layer.args k holes ls [] xs >>= projected p x f) else refused Misplaced x) e

  -- ---- what holds is what the function gives

  mutual
    unfolding each_from binders_from

    pub head_is : {ls : Locals} {l : ExprForm} {m : Checked Head} → ResolvesHead k holes ls l m → layer.head_in k holes ls l ≡ m
    head_is (c.name {ls = ls} {x = x} s) = name_is k ls x s
    head_is (c.qualified_name {x = x} s) = global_is k x s
    head_is (c.head_refused {ls = ls} {p = p} {f = f} {xs = xs} d) = then_by (layer.applied k holes ls p xs) (head_at k holes ls f ∙ head_is d) refl
    head_is (c.application {ls = ls} {p = p} {f = f} {xs = xs} {y = y} d ds) = then_by (layer.applied k holes ls p xs) (head_at k holes ls f ∙ head_is d) (made_by (λ ys. Whole (r.App p y ys)) (args_are ds))
    head_is (c.field_without_explicit_argument {ls = ls} {p = p} {f = f} {xs = xs} {x = x} {c = n} d e) = then_by (layer.applied k holes ls p xs) (head_at k holes ls f ∙ head_is d) (field_misplaced ls p x n xs e)
    head_is (c.argument_of_field_refused {ls = ls} {p = p} {f = f} {a = a} {b = b} {xs = xs} {x = x} {c = n} d e q) =
        then_by (layer.applied k holes ls p (b ∷ xs)) (head_at k holes ls f ∙ head_is d) (field_first ls p x n b a xs e ∙ then_by (λ y. made (λ ys. Whole (projection_of p y x n ys)) (layer.args k holes ls [] xs)) (expr_at ls a ∙ expr_is q) refl)
    head_is (c.field_applied {ls = ls} {p = p} {f = f} {a = a} {b = b} {xs = xs} {x = x} {c = n} {y = y} d e q ds) =
        then_by (layer.applied k holes ls p (b ∷ xs)) (head_at k holes ls f ∙ head_is d) (field_first ls p x n b a xs e ∙ then_by (λ y. made (λ ys. Whole (projection_of p y x n ys)) (layer.args k holes ls [] xs)) (expr_at ls a ∙ expr_is q) (made_by (λ ys. Whole (projection_of p y x n ys)) (args_are ds)))
    head_is (c.function_type {ls = ls} {p = p} {bs = bs} {b = b} d) = bound_behind ls bs b (r.Pi p) ∙ made_by (λ (y : List ResolvedBinder × ResolvedExpr × Locals). Whole (r.Pi p y.0 y.1)) (behind_is d)
    head_is (c.for_all {ls = ls} {p = p} {bs = bs} {b = b} d) = bound_behind ls bs b (r.Forall p) ∙ made_by (λ (y : List ResolvedBinder × ResolvedExpr × Locals). Whole (r.Forall p y.0 y.1)) (behind_is d)
    head_is (c.lambda {ls = ls} {p = p} {bs = bs} {b = b} d) = bound_behind ls bs b (r.Lambda p) ∙ made_by (λ (y : List ResolvedBinder × ResolvedExpr × Locals). Whole (r.Lambda p y.0 y.1)) (behind_is d)
    head_is (c.left_of_arrow_refused {ls = ls} {p = p} {a = a} {b = b} d) = then_by (λ x. expr k holes ([] ∷ ls) b >>= (λ y. Ok (Whole (r.Arrow p x y)))) (expr_at ls a ∙ expr_is d) refl
    head_is (c.arrow {ls = ls} {p = p} {a = a} {b = b} {x = x} d q) = then_by (λ x. expr k holes ([] ∷ ls) b >>= (λ y. Ok (Whole (r.Arrow p x y)))) (expr_at ls a ∙ expr_is d) (made_by (λ y. Whole (r.Arrow p x y)) (expr_at ([] ∷ ls) b ∙ expr_is q))
    head_is c.set_level = refl
    head_is (c.hole {p = p} e) = ap (λ (t : Holes). wholly (hole_at t p)) e
    head_is (c.hole_in_dotted_pattern {p = p} e) = ap (λ (t : Holes). wholly (hole_at t p)) e
    head_is c.underscore = refl
    head_is (c.record_value {p = p} ds) = made_by (λ ys. Whole (r.Record p ys)) (values_are ds)

    pub expr_is : {ls : Locals} {l : ExprForm} {m : Checked ResolvedExpr} → ResolvesExpr k holes ls l m → expr_in ls l ≡ m
    expr_is (c.whole_expression d) = then_by whole (head_is d) refl
    expr_is (c.field_without_argument d) = then_by whole (head_is d) refl
    expr_is (c.refused_whole d) = then_by whole (head_is d) refl

    pub arg_is : {ls : Locals} {l : ArgForm} {m : Checked ResolvedArg} → ResolvesArg k holes ls l m → layer.arg_in k holes ls l ≡ m
    arg_is (c.plain {ls = ls} {a = a} d) = made_by ra.Plain (expr_at ls a ∙ expr_is d)
    arg_is (c.implicit {ls = ls} {p = p} {a = a} d) = made_by _ (expr_at ls a ∙ expr_is d)
    arg_is (c.named {ls = ls} {a = a} d) = made_by _ (expr_at ls a ∙ expr_is d)
    arg_is (c.projection {x = x} s) = made_by _ (field_is k x s)
    arg_is (c.qualified_projection {x = x} s) = made_by _ (field_is k x s)

    pub args_are : {ls : Locals} {xs : List Arg} {m : Checked (List ResolvedArg)} → ResolvesArgs k holes ls xs m → layer.args k holes ls [] xs ≡ m
    args_are c.no_argument = refl
    args_are (c.argument_refused {ls = ls} {a = a} {xs = xs} d) = args_first ls a xs ∙ then_by (λ y. made (λ ys. y ∷ ys) (layer.args k holes ls [] xs)) (arg_at k holes ls a ∙ arg_is d) refl
    args_are (c.next_argument {ls = ls} {a = a} {xs = xs} {y = y} d ds) = args_first ls a xs ∙ then_by (λ y. made (λ ys. y ∷ ys) (layer.args k holes ls [] xs)) (arg_at k holes ls a ∙ arg_is d) (made_by (λ ys. y ∷ ys) (args_are ds))

    pub binder_is : {ls : Locals} {l : BinderForm} {m : Checked (ResolvedBinder × Locals)} → ResolvesBinder k holes ls l m → layer.binder_in k holes ls l ≡ m
    binder_is (c.explicit_binder {ls = ls} {a = a} d) = made_by _ (expr_at ls a ∙ expr_is d)
    binder_is (c.implicit_binder {ls = ls} {a = a} d) = made_by _ (expr_at ls a ∙ expr_is d)
    binder_is c.name_binder = refl
    binder_is c.braced_binder = refl
    binder_is c.underscore_binder = refl

    pub binders_are : {ls : Locals} {bs : List Binder} {m : Checked (List ResolvedBinder × Locals)} → ResolvesBinders k holes ls bs m → layer.binders k holes [] ls bs ≡ m
    binders_are c.no_binder = refl
    binders_are (c.binder_refused {ls = ls} {b = b} {bs = bs} d) = binders_first ls b bs ∙ then_by (λ y. behind (y.0 ∷ []) (layer.binders k holes [] y.1 bs)) (binder_at k holes ls b ∙ binder_is d) refl
    binders_are (c.next_binder {ls = ls} {b = b} {bs = bs} {y = y} d ds) = binders_first ls b bs ∙ then_by (λ y. behind (y.0 ∷ []) (layer.binders k holes [] y.1 bs)) (binder_at k holes ls b ∙ binder_is d) (ap (behind (y ∷ [])) (binders_are ds))

    pub behind_is : {ls : Locals} {bs : List Binder} {l : ExprForm} {m : Checked (List ResolvedBinder × ResolvedExpr × Locals)} → ResolvesBehind k holes ls bs l m → behind_of ls bs l ≡ m
    behind_is (c.binders_refused {l = l} ds) = then_by (λ y. made (λ z. (y.0, z, y.1)) (expr_in y.1 l)) (binders_are ds) refl
    behind_is (c.behind {inside = inside} {l = l} {ys = ys} ds d) = then_by (λ y. made (λ z. (y.0, z, y.1)) (expr_in y.1 l)) (binders_are ds) (made_by (λ z. (ys, z, inside)) (expr_is d))

    pub value_is : {ls : Locals} {l : ValueForm} {m : Checked ResolvedValue} → ResolvesValue k holes ls l m → layer.value_in k holes ls l ≡ m
    value_is (c.field_value {ls = ls} {v = v} d) = made_by _ (expr_at ls v.value ∙ expr_is d)

    pub values_are : {ls : Locals} {vs : List FieldValue} {m : Checked (List ResolvedValue)} → ResolvesValues k holes ls vs m → layer.values k holes ls [] vs ≡ m
    values_are c.no_value = refl
    values_are (c.value_refused {ls = ls} {v = v} {vs = vs} d) = values_first ls v vs ∙ then_by (λ y. made (λ ys. y ∷ ys) (layer.values k holes ls [] vs)) (value_at k holes ls v ∙ value_is d) refl
    values_are (c.next_value {ls = ls} {v = v} {vs = vs} {y = y} d ds) = values_first ls v vs ∙ then_by (λ y. made (λ ys. y ∷ ys) (layer.values k holes ls [] vs)) (value_at k holes ls v ∙ value_is d) (made_by (λ ys. y ∷ ys) (values_are ds))

  -- ---- what the function gives holds

  pub expr_behind : {ls : Locals} {l : ExprForm} (m : Checked Head) → ResolvesHead k holes ls l m → ResolvesExpr k holes ls l (and_then m whole)
  expr_behind (Ok (Whole y)) d = c.whole_expression d
  expr_behind (Ok (Field x f)) d = c.field_without_argument d
  expr_behind (Err e) d = c.refused_whole d

  abbrev ArgHolds : Arg → Type 0
  ArgHolds a = (ls : Locals) → ResolvesArg k holes ls (out-Arg a) (layer.arg k holes ls a)

  abbrev BinderHolds : Binder → Type 0
  BinderHolds b = (ls : Locals) → ResolvesBinder k holes ls (out-Binder b) (binder_of k holes b ls)

  abbrev HeadHolds : Expr → Type 0
  HeadHolds e = (ls : Locals) → ResolvesHead k holes ls (out-Expr e) (head_of k holes e ls)

  abbrev ValueHolds : FieldValue → Type 0
  ValueHolds v = (ls : Locals) → ResolvesValue k holes ls (out-FieldValue v) (value_of k holes v ls)

  -- parts with what holds of them
  abbrev SomeArg : Type 0
  SomeArg = (a : Arg) × ArgHolds a

  abbrev SomeBinder : Type 0
  SomeBinder = (b : Binder) × BinderHolds b

  abbrev SomeExpr : Type 0
  SomeExpr = (e : Expr) × HeadHolds e

  abbrev SomeValue : Type 0
  SomeValue = (v : FieldValue) × ValueHolds v

  expr_of : (e : SomeExpr) (ls : Locals) → ResolvesExpr k holes ls (out-Expr e.0) (expr k holes ls e.0)
  expr_of e ls = expr_behind (head_of k holes e.0 ls) (e.1 ls)

  form_of : (e : SomeExpr) (ls : Locals) → ResolvesExpr k holes ls (out-Expr e.0) (expr_in ls (out-Expr e.0))
  form_of e ls = subst (λ m. ResolvesExpr k holes ls (out-Expr e.0) m) (expr_at ls e.0) (expr_of e ls)

  -- ---- lists

  args_more : {ls : Locals} {a : Arg} {xs : List Arg} {n : Checked (List ResolvedArg)} (m : Checked ResolvedArg) → ResolvesArg k holes ls (out-Arg a) m → ResolvesArgs k holes ls xs n
      → ResolvesArgs k holes ls (a ∷ xs) (and_then m (λ y. made (λ ys. y ∷ ys) n))
  args_more (Ok y) d ds = c.next_argument d ds
  args_more (Err e) d ds = c.argument_refused d

  args_hold : (ls : Locals) (xs : List SomeArg) → ResolvesArgs k holes ls (map (λ a. a.0) xs) (layer.args k holes ls [] (map (λ a. a.0) xs))
  unfolding each_from
  args_hold ls [] = c.no_argument
  args_hold ls (a ∷ xs) = subst (λ m. ResolvesArgs k holes ls (map (λ a. a.0) (a ∷ xs)) m) (sym (args_first ls a.0 (map (λ a. a.0) xs))) (args_more (layer.arg k holes ls a.0) (a.1 ls) (args_hold ls xs))

  values_more : {ls : Locals} {v : FieldValue} {vs : List FieldValue} {n : Checked (List ResolvedValue)} (m : Checked ResolvedValue) → ResolvesValue k holes ls (out-FieldValue v) m → ResolvesValues k holes ls vs n
      → ResolvesValues k holes ls (v ∷ vs) (and_then m (λ y. made (λ ys. y ∷ ys) n))
  values_more (Ok y) d ds = c.next_value d ds
  values_more (Err e) d ds = c.value_refused d

  values_hold : (ls : Locals) (vs : List SomeValue) → ResolvesValues k holes ls (map (λ v. v.0) vs) (layer.values k holes ls [] (map (λ v. v.0) vs))
  unfolding each_from
  values_hold ls [] = c.no_value
  values_hold ls (v ∷ vs) = subst (λ m. ResolvesValues k holes ls (map (λ v. v.0) (v ∷ vs)) m) (sym (values_first ls v.0 (map (λ v. v.0) vs))) (values_more (layer.value k holes ls v.0) (v.1 ls) (values_hold ls vs))

  binders_more : {ls : Locals} {b : Binder} {bs : List Binder} (m : Checked (ResolvedBinder × Locals)) → ResolvesBinder k holes ls (out-Binder b) m → ((inside : Locals) → ResolvesBinders k holes inside bs (layer.binders k holes [] inside bs))
      → ResolvesBinders k holes ls (b ∷ bs) (and_then m (λ y. behind (y.0 ∷ []) (layer.binders k holes [] y.1 bs)))
  binders_more (Ok y) d ds = c.next_binder {y = y.0} d (ds y.1)
  binders_more (Err e) d ds = c.binder_refused d

  some_binders_hold : (bs : List SomeBinder) (ls : Locals) → ResolvesBinders k holes ls (map (λ b. b.0) bs) (layer.binders k holes [] ls (map (λ b. b.0) bs))
  unfolding binders_from
  some_binders_hold [] ls = c.no_binder
  some_binders_hold (b ∷ bs) ls = subst (λ m. ResolvesBinders k holes ls (map (λ b. b.0) (b ∷ bs)) m) (sym (binders_first ls b.0 (map (λ b. b.0) bs))) (binders_more (binder_of k holes b.0 ls) (b.1 ls) (some_binders_hold bs))

  behind_more : {ls : Locals} {bs : List Binder} {l : ExprForm} (m : Checked (List ResolvedBinder × Locals)) → ResolvesBinders k holes ls bs m → ((inside : Locals) → ResolvesExpr k holes inside l (expr_in inside l))
      → ResolvesBehind k holes ls bs l (and_then m (λ y. made (λ z. (y.0, z, y.1)) (expr_in y.1 l)))
  behind_more (Ok y) ds d = c.behind {inside = y.1} {ys = y.0} ds (d y.1)
  behind_more (Err e) ds d = c.binders_refused ds

  some_behind_holds : (bs : List SomeBinder) (b : SomeExpr) (ls : Locals) → ResolvesBehind k holes ls (map (λ b. b.0) bs) (out-Expr b.0) (behind_of ls (map (λ b. b.0) bs) (out-Expr b.0))
  some_behind_holds bs b ls = behind_more (layer.binders k holes [] ls (map (λ b. b.0) bs)) (some_binders_hold bs ls) (form_of b)

  -- ---- applications

  plain_of : {ls : Locals} {a : Expr} {m : Checked ResolvedArg} → ResolvesArg k holes ls (Arg-F.Plain a) m → ResolvesExpr k holes ls (out-Expr a) (expr k holes ls a)
  plain_of {ls = ls} {a = a} (c.plain d) = subst (λ m. ResolvesExpr k holes ls (out-Expr a) m) (sym (expr_at ls a ∙ expr_is d)) d

  module _ (ls : Locals) (p : Place) (f : Expr) where
    field_more : {x : Name} {n : ℕ} {b : Arg} {a : Expr} {xs : List Arg} {others : Checked (List ResolvedArg)} (m : Checked ResolvedExpr) → ResolvesHead k holes ls (out-Expr f) (Ok (Field x n)) → out-Arg b ≡ Arg-F.Plain a → ResolvesExpr k holes ls (out-Expr a) m → ResolvesArgs k holes ls xs others
        → ResolvesHead k holes ls (Expr-F.App p f (b ∷ xs)) (and_then m (λ y. made (λ ys. Whole (projection_of p y x n ys)) others))
    field_more (Ok y) d e q ds = c.field_applied d e q ds
    field_more (Err e) d q s ds = c.argument_of_field_refused d q s

    field_first_holds : (x : Name) (n : ℕ) (b : SomeArg) (rest : List Arg) → ResolvesHead k holes ls (out-Expr f) (Ok (Field x n)) → ResolvesArgs k holes ls rest (layer.args k holes ls [] rest)
        → ResolvesHead k holes ls (Expr-F.App p f (b.0 ∷ rest)) (layer.field_applied k holes ls p x n (b.0 ∷ rest))
    field_first_holds x n b rest d ds = by (out-Arg b.0) refl
      where
        other : layer.begins_plain (b.0 ∷ rest) ≡ false → ResolvesHead k holes ls (Expr-F.App p f (b.0 ∷ rest)) (layer.field_applied k holes ls p x n (b.0 ∷ rest))
        other e = subst (λ m. ResolvesHead k holes ls (Expr-F.App p f (b.0 ∷ rest)) m) (sym (field_misplaced ls p x n (b.0 ∷ rest) e)) (c.field_without_explicit_argument d e)

        by : (l : ArgForm) → out-Arg b.0 ≡ l → ResolvesHead k holes ls (Expr-F.App p f (b.0 ∷ rest)) (layer.field_applied k holes ls p x n (b.0 ∷ rest))
        by (Arg-F.Plain a) e = subst (λ m. ResolvesHead k holes ls (Expr-F.App p f (b.0 ∷ rest)) m) (sym (field_first ls p x n b.0 a rest e))
            (field_more (expr k holes ls a) d e (plain_of (subst (λ l. ResolvesArg k holes ls l (layer.arg k holes ls b.0)) e (b.1 ls))) ds)
        by (Arg-F.«Arg::Implicit» q a) e = other (ap layer.is_plain_in e)
        by (Arg-F.Named q y a) e = other (ap layer.is_plain_in e)
        by (Arg-F.Project q y) e = other (ap layer.is_plain_in e)
        by (Arg-F.ProjectQualified q y) e = other (ap layer.is_plain_in e)

    field_applied_holds : (x : Name) (n : ℕ) (xs : List SomeArg) → ResolvesHead k holes ls (out-Expr f) (Ok (Field x n)) → ResolvesHead k holes ls (Expr-F.App p f (map (λ a. a.0) xs)) (layer.field_applied k holes ls p x n (map (λ a. a.0) xs))
    field_applied_holds x n [] d = c.field_without_explicit_argument d refl
    field_applied_holds x n (b ∷ xs) d = field_first_holds x n b (map (λ a. a.0) xs) d (args_hold ls xs)

    application_holds : (xs : List SomeArg) (m : Checked Head) → ResolvesHead k holes ls (out-Expr f) m → ResolvesHead k holes ls (Expr-F.App p f (map (λ a. a.0) xs)) (and_then m (layer.applied k holes ls p (map (λ a. a.0) xs)))
    application_holds xs (Ok (Whole y)) d = c.application d (args_hold ls xs)
    application_holds xs (Ok (Field x n)) d = field_applied_holds x n xs d
    application_holds xs (Err e) d = c.head_refused d

  arrow_more : {ls : Locals} {p : Place} {a b : Expr} {n : Checked ResolvedExpr} (m : Checked ResolvedExpr) → ResolvesExpr k holes ls (out-Expr a) m → ResolvesExpr k holes ([] ∷ ls) (out-Expr b) n
      → ResolvesHead k holes ls (Expr-F.Arrow p a b) (and_then m (λ x. made (λ y. Whole (r.Arrow p x y)) n))
  arrow_more (Ok x) d q = c.arrow d q
  arrow_more (Err e) d q = c.left_of_arrow_refused d

  hole_holds : (ls : Locals) (p : Place) (t : Holes) → holes ≡ t → ResolvesHead k holes ls (Expr-F.Hole p) (wholly (hole_at t p))
  hole_holds ls p h.Allowed e = c.hole e
  hole_holds ls p h.Misplaced e = c.hole_in_dotted_pattern e

  -- ---- forms

  head_form : (y : Expr-F SomeArg SomeBinder SomeExpr SomeValue) (ls : Locals) → let l = map-Expr SomeArg SomeBinder SomeExpr SomeValue Arg Binder Expr FieldValue (λ e. e.0) (λ e. e.0) (λ e. e.0) (λ e. e.0) y in
      ResolvesHead k holes ls l (layer.head_in k holes ls l)
  head_form (Expr-F.«Expr::Name» x) ls = c.name (name_holds k ls x)
  head_form (Expr-F.Qualified x) ls = c.qualified_name (global_holds k x)
  head_form (Expr-F.App p f xs) ls = application_holds ls p f.0 xs (head_of k holes f.0 ls) (f.1 ls)
  head_form (Expr-F.Pi p bs b) ls = subst (λ m. ResolvesHead k holes ls (Expr-F.Pi p (map (λ b. b.0) bs) b.0) m) (sym (bound_behind ls (map (λ b. b.0) bs) b.0 (r.Pi p))) (c.function_type (some_behind_holds bs b ls))
  head_form (Expr-F.Forall p bs b) ls = subst (λ m. ResolvesHead k holes ls (Expr-F.Forall p (map (λ b. b.0) bs) b.0) m) (sym (bound_behind ls (map (λ b. b.0) bs) b.0 (r.Forall p))) (c.for_all (some_behind_holds bs b ls))
  head_form (Expr-F.Lambda p bs b) ls = subst (λ m. ResolvesHead k holes ls (Expr-F.Lambda p (map (λ b. b.0) bs) b.0) m) (sym (bound_behind ls (map (λ b. b.0) bs) b.0 (r.Lambda p))) (c.lambda (some_behind_holds bs b ls))
  head_form (Expr-F.Arrow p a b) ls = arrow_more (expr k holes ls a.0) (expr_of a ls) (expr_of b ([] ∷ ls))
  head_form (Expr-F.SetLevel p n) ls = c.set_level
  head_form (Expr-F.Hole p) ls = hole_holds ls p holes refl
  head_form (Expr-F.«Expr::Underscore» p) ls = c.underscore
  head_form (Expr-F.Record p vs) ls = c.record_value (values_hold ls vs)

  arg_form : (y : Arg-F SomeArg SomeBinder SomeExpr SomeValue) (ls : Locals) → let l = map-Arg SomeArg SomeBinder SomeExpr SomeValue Arg Binder Expr FieldValue (λ e. e.0) (λ e. e.0) (λ e. e.0) (λ e. e.0) y in
      ResolvesArg k holes ls l (layer.arg_in k holes ls l)
  arg_form (Arg-F.Plain a) ls = c.plain (expr_of a ls)
  arg_form (Arg-F.«Arg::Implicit» p a) ls = c.implicit (expr_of a ls)
  arg_form (Arg-F.Named p x a) ls = c.named (expr_of a ls)
  arg_form (Arg-F.Project p x) ls = c.projection (field_holds k x)
  arg_form (Arg-F.ProjectQualified p x) ls = c.qualified_projection (field_holds k x)

  binder_form : (y : Binder-F SomeArg SomeBinder SomeExpr SomeValue) (ls : Locals) → let l = map-Binder SomeArg SomeBinder SomeExpr SomeValue Arg Binder Expr FieldValue (λ e. e.0) (λ e. e.0) (λ e. e.0) (λ e. e.0) y in
      ResolvesBinder k holes ls l (layer.binder_in k holes ls l)
  binder_form (Binder-F.Explicit p xs a) ls = c.explicit_binder (expr_of a ls)
  binder_form (Binder-F.«Binder::Implicit» p xs a) ls = c.implicit_binder (expr_of a ls)
  binder_form (Binder-F.«Binder::Name» x) ls = c.name_binder
  binder_form (Binder-F.Braced p x) ls = c.braced_binder
  binder_form (Binder-F.«Binder::Underscore» p) ls = c.underscore_binder

  value_form : (y : FieldValue-F SomeArg SomeBinder SomeExpr SomeValue) (ls : Locals) → let l = map-FieldValue SomeArg SomeBinder SomeExpr SomeValue Arg Binder Expr FieldValue (λ e. e.0) (λ e. e.0) (λ e. e.0) (λ e. e.0) y in
      ResolvesValue k holes ls l (layer.value_in k holes ls l)
  value_form y ls = c.field_value (expr_of y.value ls)

  -- ---- trees

  arg_step : (x : ArgForm) (y : Arg-F SomeArg SomeBinder SomeExpr SomeValue) → map-Arg SomeArg SomeBinder SomeExpr SomeValue Arg Binder Expr FieldValue (λ e. e.0) (λ e. e.0) (λ e. e.0) (λ e. e.0) y ≡ x → ArgHolds (roll-Arg x)
  arg_step x y is ls = subst (λ m. ResolvesArg k holes ls (out-Arg (roll-Arg x)) m) (sym (arg_at k holes ls (roll-Arg x))) (subst (λ l. ResolvesArg k holes ls l (layer.arg_in k holes ls l)) (is ∙ sym (out-roll-Arg x)) (arg_form y ls))

  binder_step : (x : BinderForm) (y : Binder-F SomeArg SomeBinder SomeExpr SomeValue) → map-Binder SomeArg SomeBinder SomeExpr SomeValue Arg Binder Expr FieldValue (λ e. e.0) (λ e. e.0) (λ e. e.0) (λ e. e.0) y ≡ x → BinderHolds (roll-Binder x)
  binder_step x y is ls = subst (λ m. ResolvesBinder k holes ls (out-Binder (roll-Binder x)) m) (sym (binder_at k holes ls (roll-Binder x))) (subst (λ l. ResolvesBinder k holes ls l (layer.binder_in k holes ls l)) (is ∙ sym (out-roll-Binder x)) (binder_form y ls))

  head_step : (x : ExprForm) (y : Expr-F SomeArg SomeBinder SomeExpr SomeValue) → map-Expr SomeArg SomeBinder SomeExpr SomeValue Arg Binder Expr FieldValue (λ e. e.0) (λ e. e.0) (λ e. e.0) (λ e. e.0) y ≡ x → HeadHolds (roll-Expr x)
  head_step x y is ls = subst (λ m. ResolvesHead k holes ls (out-Expr (roll-Expr x)) m) (sym (head_at k holes ls (roll-Expr x))) (subst (λ l. ResolvesHead k holes ls l (layer.head_in k holes ls l)) (is ∙ sym (out-roll-Expr x)) (head_form y ls))

  value_step : (x : ValueForm) (y : FieldValue-F SomeArg SomeBinder SomeExpr SomeValue) → map-FieldValue SomeArg SomeBinder SomeExpr SomeValue Arg Binder Expr FieldValue (λ e. e.0) (λ e. e.0) (λ e. e.0) (λ e. e.0) y ≡ x → ValueHolds (roll-FieldValue x)
  value_step x y is ls = subst (λ m. ResolvesValue k holes ls (out-FieldValue (roll-FieldValue x)) m) (sym (value_at k holes ls (roll-FieldValue x))) (subst (λ l. ResolvesValue k holes ls l (layer.value_in k holes ls l)) (is ∙ sym (out-roll-FieldValue x)) (value_form y ls))

  head_holds : (e : Expr) → HeadHolds e
  head_holds = ind-Expr ArgHolds BinderHolds HeadHolds ValueHolds arg_step binder_step head_step value_step

  binder_holds : (b : Binder) → BinderHolds b
  binder_holds = ind-Binder ArgHolds BinderHolds HeadHolds ValueHolds arg_step binder_step head_step value_step

  -- ---- every expression, and every list of binders

  pub expr_holds : (ls : Locals) (e : Expr) → ResolvesExpr k holes ls (out-Expr e) (expr k holes ls e)
  expr_holds ls e = expr_of (e, head_holds e) ls

  pub binders_hold : (bs : List Binder) (ls : Locals) → ResolvesBinders k holes ls bs (layer.binders k holes [] ls bs)
  unfolding binders_from
  binders_hold [] ls = c.no_binder
  binders_hold (b ∷ bs) ls = subst (λ m. ResolvesBinders k holes ls (b ∷ bs) m) (sym (binders_first ls b bs)) (binders_more (binder_of k holes b ls) (binder_holds b ls) (binders_hold bs))

  -- ---- an expression behind its binders

  pub behind_holds : (ls : Locals) (bs : List Binder) (a : Expr) → ResolvesBehind k holes ls bs (out-Expr a) (behind_of ls bs (out-Expr a))
  behind_holds ls bs a = behind_more (layer.binders k holes [] ls bs) (binders_hold bs ls) (form_of (a, head_holds a))

  -- what goes on behind it
  pub behind_then : {C : Type 0} (ls : Locals) (bs : List Binder) (a : Expr) (f : List ResolvedBinder → ResolvedExpr → Locals → Checked C)
      → and_then (layer.binders k holes [] ls bs) (λ ys. and_then (expr k holes ys.1 a) (λ b. f ys.0 b ys.1)) ≡ and_then (behind_of ls bs (out-Expr a)) (λ y. f y.0 y.1 y.2)
  behind_then ls bs a f = by (layer.binders k holes [] ls bs)
    where
      in_body : (ys : List ResolvedBinder) (inside : Locals) (m : Checked ResolvedExpr) → and_then m (λ b. f ys b inside) ≡ and_then (made {B = List ResolvedBinder × ResolvedExpr × Locals} (λ z. (ys, z, inside)) m) (λ y. f y.0 y.1 y.2)
      in_body ys inside (Ok b) = refl
      in_body ys inside (Err e) = refl

      by : (m : Checked (List ResolvedBinder × Locals)) → and_then m (λ ys. and_then (expr k holes ys.1 a) (λ b. f ys.0 b ys.1)) ≡ and_then (and_then m (λ y. made {B = List ResolvedBinder × ResolvedExpr × Locals} (λ z. (y.0, z, y.1)) (expr_in y.1 (out-Expr a)))) (λ y. f y.0 y.1 y.2)
      by (Err e) = refl
      by (Ok y) = then_by (λ b. f y.0 b y.1) (expr_at y.1 a) (in_body y.0 y.1 (expr_in y.1 (out-Expr a)))
