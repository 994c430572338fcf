-- The texts of a tree by those of its parts.
use Rattle.std.proofs.Common.{◌≡◌, ◌∙◌, ◌<◌, ◌≤◌, ◌+◌, List, [], ◌++◌, map, drop, length, get_or, ℕ, refl, ap}
use Rattle.std.proofs.lemmas.List.{drop_all}
use Rattle.source_tree.specs.declared.expr.Expr.{Expr, fold_out-Expr, out-Expr, map-Expr}
use Rattle.source_tree.specs.declared.expr.Arg.{Arg, fold_out-Arg, out-Arg, map-Arg}
use Rattle.source_tree.specs.declared.expr.Binder.{Binder, fold_out-Binder, out-Binder, map-Binder}
use Rattle.source_tree.specs.declared.expr.FieldValue.{FieldValue, fold_out-FieldValue, out-FieldValue}
use Rattle.source_tree.specs.declared.expr.Arg.TheOpen.{Expr-F, Arg-F, Binder-F}
use Rattle.source_tree.specs.declared.pattern.Pattern.{Pattern, fold_out-Pattern, out-Pattern, map-Pattern}
use Rattle.source_tree.specs.declared.pattern.Pattern.TheOpen.{Pattern-F}
use Rattle.scope_check.specs.Mentions.{all_of, arg_step, binder_step, expr_step, value_step, pattern_step, in_expr, in_arg, in_binder, in_value, in_pattern, expr_in, arg_in, binder_in, value_in, pattern_in}
use Rattle.el_base.proofs.Lists.{drop_next}
use Rattle.scope_table.specs.Known.{Texts}

pub expr_at : (e : Expr) → in_expr e ≡ expr_in (out-Expr e)
unfolding in_expr in_arg in_binder in_value
expr_at e = fold_out-Expr Texts Texts Texts Texts arg_step binder_step expr_step value_step e ∙ by (out-Expr e)
  where
    by : (l : Expr-F Arg Binder Expr FieldValue) → expr_step (map-Expr Arg Binder Expr FieldValue Texts Texts Texts Texts in_arg in_binder in_expr in_value l) ≡ expr_in l
    by (Expr-F.«Expr::Name» x) = refl
    by (Expr-F.Qualified x) = refl
    by (Expr-F.App p f xs) = refl
    by (Expr-F.Pi p bs b) = refl
    by (Expr-F.Forall p bs b) = refl
    by (Expr-F.Lambda p bs b) = refl
    by (Expr-F.Arrow p a b) = refl
    by (Expr-F.SetLevel p n) = refl
    by (Expr-F.Hole p) = refl
    by (Expr-F.«Expr::Underscore» p) = refl
    by (Expr-F.Record p vs) = refl

pub arg_at : (a : Arg) → in_arg a ≡ arg_in (out-Arg a)
unfolding in_expr in_arg in_binder in_value
arg_at a = fold_out-Arg Texts Texts Texts Texts arg_step binder_step expr_step value_step a ∙ by (out-Arg a)
  where
    by : (l : Arg-F Arg Binder Expr FieldValue) → arg_step (map-Arg Arg Binder Expr FieldValue Texts Texts Texts Texts in_arg in_binder in_expr in_value l) ≡ arg_in l
    by (Arg-F.Plain e) = refl
    by (Arg-F.«Arg::Implicit» p e) = refl
    by (Arg-F.Named p y e) = refl
    by (Arg-F.Project p y) = refl
    by (Arg-F.ProjectQualified p y) = refl

pub binder_at : (b : Binder) → in_binder b ≡ binder_in (out-Binder b)
unfolding in_expr in_arg in_binder in_value
binder_at b = fold_out-Binder Texts Texts Texts Texts arg_step binder_step expr_step value_step b ∙ by (out-Binder b)
  where
    by : (l : Binder-F Arg Binder Expr FieldValue) → binder_step (map-Binder Arg Binder Expr FieldValue Texts Texts Texts Texts in_arg in_binder in_expr in_value l) ≡ binder_in l
    by (Binder-F.Explicit p xs a) = refl
    by (Binder-F.«Binder::Implicit» p xs a) = refl
    by (Binder-F.«Binder::Name» x) = refl
    by (Binder-F.Braced p x) = refl
    by (Binder-F.«Binder::Underscore» p) = refl

pub value_at : (v : FieldValue) → in_value v ≡ value_in (out-FieldValue v)
unfolding in_expr in_arg in_binder in_value
value_at v = fold_out-FieldValue Texts Texts Texts Texts arg_step binder_step expr_step value_step v

pub pattern_at : (q : Pattern) → in_pattern q ≡ pattern_in (out-Pattern q)
unfolding in_pattern
pattern_at q = fold_out-Pattern Texts pattern_step q ∙ by (out-Pattern q)
  where
    by : (l : Pattern-F Pattern) → pattern_step (map-Pattern Pattern Texts in_pattern l) ≡ pattern_in l
    by (Pattern-F.Implicit p r) = refl
    by (Pattern-F.Named p x r) = refl
    by (Pattern-F.Project p x) = refl
    by (Pattern-F.ProjectQualified p x) = refl
    by (Pattern-F.Name p x qs) = refl
    by (Pattern-F.Underscore p) = refl
    by (Pattern-F.Absurd p) = refl
    by (Pattern-F.Dotted p e) = refl

-- lists one after another, one item further
module _ {A B : Type 0} (f : A → List B) (xs : List A) (i : ℕ) where
  pub all_next : (x : A) → i < length xs → x ≡ get_or xs i x → all_of (map f (drop i xs)) ≡ f x ++ all_of (map f (drop (i + 1) xs))
  unfolding all_of
  all_next x lt e = ap (λ (l : List A). all_of (map f l)) (drop_next xs i x lt e)

  pub all_end : length xs ≤ i → all_of (map f (drop i xs)) ≡ []
  unfolding all_of
  all_end le = ap (λ (l : List A). all_of (map f l)) (drop_all i xs le)
