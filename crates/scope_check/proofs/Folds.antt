-- The meaning of a tree by that of its parts.
use Rattle.std.proofs.Common.{◌≡◌, ◌∙◌, Ok, Err, List, [], ◌∷◌, map, refl, ap}
use Rattle.source_tree.specs.declared.expr.Expr.{Expr, fold_out-Expr, out-Expr, map-Expr}
use Rattle.source_tree.specs.declared.expr.Arg.{Arg, fold_out-Arg, out-Arg, map-Arg}
use Rattle.source_tree.specs.declared.expr.Binder.{Binder, fold_out-Binder, out-Binder, map-Binder}
use Rattle.source_tree.specs.declared.expr.FieldValue.{FieldValue, fold_out-FieldValue, out-FieldValue, map-FieldValue}
use Rattle.scope_check.specs.declared.holes.Holes.{Holes}
use Rattle.scope_table.specs.Known.{Known}
use Rattle.source_tree.specs.declared.expr.Arg.TheOpen.{Expr-F, Arg-F, Binder-F}
use Rattle.source_tree.specs.declared.place.Place.{Place}
use Rattle.scope_check.specs.declared.head.Head.{Head}
use Rattle.scope_check.specs.declared.head.Head.TheVariants.{Whole, Field}
use Rattle.scope_check.specs.Answers.{Checked, and_then}
use Rattle.scope_check.specs.Layers as layer
use Rattle.scope_check.specs.Exprs.{Locals, means, begins_explicit, applied, ArgMeaning, BinderMeaning, ExprMeaning, ValueMeaning, arg_step, binder_step, expr_step, value_step, head_of, arg_of, binder_of, value_of}

module _ (k : Known) (h : Holes) where
  pub head_out : (e : Expr) → head_of k h e
      ≡ expr_step k h (map-Expr Arg Binder Expr FieldValue ArgMeaning BinderMeaning ExprMeaning ValueMeaning (arg_of k h) (binder_of k h) (head_of k h) (value_of k h) (out-Expr e))
  unfolding head_of arg_of binder_of value_of
  head_out e = fold_out-Expr ArgMeaning BinderMeaning ExprMeaning ValueMeaning (arg_step k h) (binder_step k h) (expr_step k h) (value_step k h) e

  pub arg_out : (a : Arg) → arg_of k h a
      ≡ arg_step k h (map-Arg Arg Binder Expr FieldValue ArgMeaning BinderMeaning ExprMeaning ValueMeaning (arg_of k h) (binder_of k h) (head_of k h) (value_of k h) (out-Arg a))
  unfolding head_of arg_of binder_of value_of
  arg_out a = fold_out-Arg ArgMeaning BinderMeaning ExprMeaning ValueMeaning (arg_step k h) (binder_step k h) (expr_step k h) (value_step k h) a

  pub binder_out : (b : Binder) → binder_of k h b
      ≡ binder_step k h (map-Binder Arg Binder Expr FieldValue ArgMeaning BinderMeaning ExprMeaning ValueMeaning (arg_of k h) (binder_of k h) (head_of k h) (value_of k h) (out-Binder b))
  unfolding head_of arg_of binder_of value_of
  binder_out b = fold_out-Binder ArgMeaning BinderMeaning ExprMeaning ValueMeaning (arg_step k h) (binder_step k h) (expr_step k h) (value_step k h) b

  pub value_out : (v : FieldValue) → value_of k h v
      ≡ value_step k h (map-FieldValue Arg Binder Expr FieldValue ArgMeaning BinderMeaning ExprMeaning ValueMeaning (arg_of k h) (binder_of k h) (head_of k h) (value_of k h) (out-FieldValue v))
  unfolding head_of arg_of binder_of value_of
  value_out v = fold_out-FieldValue ArgMeaning BinderMeaning ExprMeaning ValueMeaning (arg_step k h) (binder_step k h) (expr_step k h) (value_step k h) v

  -- ---- one level over the tree itself

  args_each : (ls : Locals) (xs : List Arg) → map (means ls) (map (arg_of k h) xs) ≡ map (layer.arg k h ls) xs
  args_each ls [] = refl
  args_each ls (x ∷ xs) = ap (λ (t : List _). layer.arg k h ls x ∷ t) (args_each ls xs)

  values_each : (ls : Locals) (vs : List FieldValue) → map (λ (m : ValueMeaning). m ls) (map (value_of k h) vs) ≡ map (layer.value k h ls) vs
  values_each ls [] = refl
  values_each ls (v ∷ vs) = ap (λ (t : List _). layer.value k h ls v ∷ t) (values_each ls vs)

  begins : (xs : List Arg) → begins_explicit (map (arg_of k h) xs) ≡ layer.begins_plain xs
  begins [] = refl
  begins (x ∷ xs) = ap (λ (m : ArgMeaning). begins_explicit (m ∷ map (arg_of k h) xs)) (arg_out x) ∙ by (out-Arg x)
    where
      by : (l : Arg-F Arg Binder Expr FieldValue) → begins_explicit (arg_step k h (map-Arg Arg Binder Expr FieldValue ArgMeaning BinderMeaning ExprMeaning ValueMeaning (arg_of k h) (binder_of k h) (head_of k h) (value_of k h) l) ∷ map (arg_of k h) xs) ≡ layer.is_plain_in l
      by (Arg-F.Plain e) = refl
      by (Arg-F.«Arg::Implicit» p e) = refl
      by (Arg-F.Named p y e) = refl
      by (Arg-F.Project p y) = refl
      by (Arg-F.ProjectQualified p y) = refl

  applied_each : (ls : Locals) (p : Place) (xs : List Arg) (f : Head) → applied ls p (map (arg_of k h) xs) f ≡ layer.applied k h ls p xs f
  applied_each ls p xs (Whole e) = rw (args_each ls xs) refl
  applied_each ls p xs (Field x f) = rw (args_each ls xs, begins xs) refl

  then_each : {A B : Type 0} (m : Checked A) {f g : A → Checked B} → ((x : A) → f x ≡ g x) → and_then m f ≡ and_then m g
  then_each (Ok x) e = e x
  then_each (Err e) _ = refl

  pub head_at : (ls : Locals) (e : Expr) → head_of k h e ls ≡ layer.head_in k h ls (out-Expr e)
  head_at ls e = ap (λ (m : ExprMeaning). m ls) (head_out e) ∙ by (out-Expr e)
    where
      by : (l : Expr-F Arg Binder Expr FieldValue) → expr_step k h (map-Expr Arg Binder Expr FieldValue ArgMeaning BinderMeaning ExprMeaning ValueMeaning (arg_of k h) (binder_of k h) (head_of k h) (value_of k h) l) ls ≡ layer.head_in k h ls l
      by (Expr-F.«Expr::Name» x) = refl
      by (Expr-F.Qualified x) = refl
      by (Expr-F.App p f xs) = then_each (head_of k h f ls) (applied_each ls p xs)
      by (Expr-F.Pi p bs b) = refl
      by (Expr-F.Forall p bs b) = refl
      by (Expr-F.Lambda p bs b) = refl
      by (Expr-F.Arrow p a b) = refl
      by (Expr-F.SetLevel p n) = refl
      by (Expr-F.Hole p) = refl
      by (Expr-F.«Expr::Underscore» p) = refl
      by (Expr-F.Record p vs) = rw (values_each ls vs) refl

  pub arg_at : (ls : Locals) (a : Arg) → layer.arg k h ls a ≡ layer.arg_in k h ls (out-Arg a)
  arg_at ls a = ap (means ls) (arg_out a) ∙ by (out-Arg a)
    where
      by : (l : Arg-F Arg Binder Expr FieldValue) → means ls (arg_step k h (map-Arg Arg Binder Expr FieldValue ArgMeaning BinderMeaning ExprMeaning ValueMeaning (arg_of k h) (binder_of k h) (head_of k h) (value_of k h) l)) ≡ layer.arg_in k h ls l
      by (Arg-F.Plain e) = refl
      by (Arg-F.«Arg::Implicit» p e) = refl
      by (Arg-F.Named p y e) = refl
      by (Arg-F.Project p y) = refl
      by (Arg-F.ProjectQualified p y) = refl

  pub binder_at : (ls : Locals) (b : Binder) → binder_of k h b ls ≡ layer.binder_in k h ls (out-Binder b)
  binder_at ls b = ap (λ (m : BinderMeaning). m ls) (binder_out b) ∙ by (out-Binder b)
    where
      by : (l : Binder-F Arg Binder Expr FieldValue) → binder_step k h (map-Binder Arg Binder Expr FieldValue ArgMeaning BinderMeaning ExprMeaning ValueMeaning (arg_of k h) (binder_of k h) (head_of k h) (value_of k h) l) ls ≡ layer.binder_in k h ls l
      by (Binder-F.Explicit p xs a) = refl
      by (Binder-F.«Binder::Implicit» p xs a) = refl
      by (Binder-F.«Binder::Name» x) = refl
      by (Binder-F.Braced p x) = refl
      by (Binder-F.«Binder::Underscore» p) = refl

  pub value_at : (ls : Locals) (v : FieldValue) → value_of k h v ls ≡ layer.value_in k h ls (out-FieldValue v)
  value_at ls v = ap (λ (m : ValueMeaning). m ls) (value_out v)
