-- How each form of expression, argument, binder and value is read: one equation a form.
use Rattle.std.proofs.Common.{◌≡◌, sym, ap, ◌∙◌}
use Rattle.std.specs.Prelude.{ℕ, ◌+◌, List, [], ◌∷◌, map}
use Rattle.core_rules.specs.declared.Flag.TheVariants.{Explicit, Implicit}
use Rattle.core_rules.specs.Term.{Term, Sort}
use Rattle.core_rules.specs.Signature.{Signature}
use Rattle.source_tree.specs.declared.place.Place.{Place}
use Rattle.resolved_tree.specs.declared.resolved.ResolvedName.{ResolvedName}
use Rattle.resolved_tree.specs.declared.resolved.ResolvedExpr.{ResolvedExpr, fold_out-ResolvedExpr, out-ResolvedExpr, map-ResolvedExpr, roll-ResolvedExpr, out-roll-ResolvedExpr}
use Rattle.resolved_tree.specs.declared.resolved.ResolvedExpr.TheVariants as r
use Rattle.resolved_tree.specs.declared.resolved.ResolvedArg.{ResolvedArg, fold_out-ResolvedArg, out-ResolvedArg, map-ResolvedArg, roll-ResolvedArg, out-roll-ResolvedArg}
use Rattle.resolved_tree.specs.declared.resolved.ResolvedArg.TheVariants as ra
use Rattle.resolved_tree.specs.declared.resolved.ResolvedBinder.{ResolvedBinder, fold_out-ResolvedBinder, out-ResolvedBinder, map-ResolvedBinder, roll-ResolvedBinder, out-roll-ResolvedBinder}
use Rattle.resolved_tree.specs.declared.resolved.ResolvedBinder.TheVariants as rb
use Rattle.resolved_tree.specs.declared.resolved.ResolvedValue.{ResolvedValue, fold_out-ResolvedValue, out-ResolvedValue, map-ResolvedValue}
use Rattle.resolved_tree.specs.declared.resolved.ResolvedArg.TheOpen.{ResolvedExpr-F, ResolvedArg-F, ResolvedBinder-F}
use Rattle.need_rules.specs.Needs.{Plain, Braces, Named, Field}
use Rattle.written_rules.specs.Rules.{BinderMeaning, Typed, Untyped, VariableName, DefName, FamilyName, ConName, ArgMeaning, ValueMeaning, known, lambda, grouped, function_type, record_checked, left_out}
use Rattle.written_rules.specs.Expressions.{ExprMeaning, a_name, a_type, a_value, an_application, no_name, ids, expr_step, arg_step, binder_step, value_step, expr_meaning, arg_meaning, binder_meaning, value_meaning}

module _ (g : Signature Term) where
  pub expr_out : (e : ResolvedExpr) → expr_meaning g e ≡ expr_step g (map-ResolvedExpr ResolvedArg ResolvedBinder ResolvedExpr ResolvedValue ArgMeaning BinderMeaning ExprMeaning ValueMeaning (arg_meaning g) (binder_meaning g) (expr_meaning g) (value_meaning g) (out-ResolvedExpr e))
  unfolding expr_meaning arg_meaning binder_meaning value_meaning
  expr_out e = fold_out-ResolvedExpr ArgMeaning BinderMeaning ExprMeaning ValueMeaning arg_step binder_step (expr_step g) value_step e

  pub arg_out : (e : ResolvedArg) → arg_meaning g e ≡ arg_step (map-ResolvedArg ResolvedArg ResolvedBinder ResolvedExpr ResolvedValue ArgMeaning BinderMeaning ExprMeaning ValueMeaning (arg_meaning g) (binder_meaning g) (expr_meaning g) (value_meaning g) (out-ResolvedArg e))
  unfolding expr_meaning arg_meaning binder_meaning value_meaning
  arg_out e = fold_out-ResolvedArg ArgMeaning BinderMeaning ExprMeaning ValueMeaning arg_step binder_step (expr_step g) value_step e

  pub binder_out : (e : ResolvedBinder) → binder_meaning g e ≡ binder_step (map-ResolvedBinder ResolvedArg ResolvedBinder ResolvedExpr ResolvedValue ArgMeaning BinderMeaning ExprMeaning ValueMeaning (arg_meaning g) (binder_meaning g) (expr_meaning g) (value_meaning g) (out-ResolvedBinder e))
  unfolding expr_meaning arg_meaning binder_meaning value_meaning
  binder_out e = fold_out-ResolvedBinder ArgMeaning BinderMeaning ExprMeaning ValueMeaning arg_step binder_step (expr_step g) value_step e

  pub value_out : (e : ResolvedValue) → value_meaning g e ≡ value_step (map-ResolvedValue ResolvedArg ResolvedBinder ResolvedExpr ResolvedValue ArgMeaning BinderMeaning ExprMeaning ValueMeaning (arg_meaning g) (binder_meaning g) (expr_meaning g) (value_meaning g) (out-ResolvedValue e))
  unfolding expr_meaning arg_meaning binder_meaning value_meaning
  value_out e = fold_out-ResolvedValue ArgMeaning BinderMeaning ExprMeaning ValueMeaning arg_step binder_step (expr_step g) value_step e

  -- ---- expressions

  pub pi_means : (p : Place) (bs : List ResolvedBinder) (e : ResolvedExpr) → expr_meaning g (r.Pi p bs e) ≡ a_type p.pos (function_type (map (binder_meaning g) bs) (expr_meaning g e).types)
  pi_means p bs e = ap (expr_meaning g) (sym (r.rolls-Pi p bs e)) ∙ expr_out (roll-ResolvedExpr (ResolvedExpr-F.Pi p bs e)) ∙ ap (λ l. expr_step g (map-ResolvedExpr ResolvedArg ResolvedBinder ResolvedExpr ResolvedValue ArgMeaning BinderMeaning ExprMeaning ValueMeaning (arg_meaning g) (binder_meaning g) (expr_meaning g) (value_meaning g) l)) (out-roll-ResolvedExpr (ResolvedExpr-F.Pi p bs e))

  pub forall_means : (p : Place) (bs : List ResolvedBinder) (e : ResolvedExpr) → expr_meaning g (r.Forall p bs e) ≡ a_type p.pos (function_type (map (binder_meaning g) bs) (expr_meaning g e).types)
  forall_means p bs e = ap (expr_meaning g) (sym (r.rolls-Forall p bs e)) ∙ expr_out (roll-ResolvedExpr (ResolvedExpr-F.Forall p bs e)) ∙ ap (λ l. expr_step g (map-ResolvedExpr ResolvedArg ResolvedBinder ResolvedExpr ResolvedValue ArgMeaning BinderMeaning ExprMeaning ValueMeaning (arg_meaning g) (binder_meaning g) (expr_meaning g) (value_meaning g) l)) (out-roll-ResolvedExpr (ResolvedExpr-F.Forall p bs e))

  pub lambda_means : (p : Place) (bs : List ResolvedBinder) (e : ResolvedExpr) → expr_meaning g (r.Lambda p bs e) ≡ a_value p.pos (lambda p.pos (map (binder_meaning g) bs) (expr_meaning g e).checks)
  lambda_means p bs e = ap (expr_meaning g) (sym (r.rolls-Lambda p bs e)) ∙ expr_out (roll-ResolvedExpr (ResolvedExpr-F.Lambda p bs e)) ∙ ap (λ l. expr_step g (map-ResolvedExpr ResolvedArg ResolvedBinder ResolvedExpr ResolvedValue ArgMeaning BinderMeaning ExprMeaning ValueMeaning (arg_meaning g) (binder_meaning g) (expr_meaning g) (value_meaning g) l)) (out-roll-ResolvedExpr (ResolvedExpr-F.Lambda p bs e))

  pub arrow_means : (p : Place) (a : ResolvedExpr) (b : ResolvedExpr) → expr_meaning g (r.Arrow p a b) ≡ a_type p.pos (grouped Explicit (no_name ∷ []) (expr_meaning g a).types (expr_meaning g b).types)
  arrow_means p a b = ap (expr_meaning g) (sym (r.rolls-Arrow p a b)) ∙ expr_out (roll-ResolvedExpr (ResolvedExpr-F.Arrow p a b)) ∙ ap (λ l. expr_step g (map-ResolvedExpr ResolvedArg ResolvedBinder ResolvedExpr ResolvedValue ArgMeaning BinderMeaning ExprMeaning ValueMeaning (arg_meaning g) (binder_meaning g) (expr_meaning g) (value_meaning g) l)) (out-roll-ResolvedExpr (ResolvedExpr-F.Arrow p a b))

  pub app_means : (p : Place) (e : ResolvedExpr) (xs : List ResolvedArg) → expr_meaning g (r.App p e xs) ≡ an_application g p.pos (expr_meaning g e).pos (expr_meaning g e).name (map (arg_meaning g) xs)
  app_means p e xs = ap (expr_meaning g) (sym (r.rolls-App p e xs)) ∙ expr_out (roll-ResolvedExpr (ResolvedExpr-F.App p e xs)) ∙ ap (λ l. expr_step g (map-ResolvedExpr ResolvedArg ResolvedBinder ResolvedExpr ResolvedValue ArgMeaning BinderMeaning ExprMeaning ValueMeaning (arg_meaning g) (binder_meaning g) (expr_meaning g) (value_meaning g) l)) (out-roll-ResolvedExpr (ResolvedExpr-F.App p e xs))

  pub variable_means : (p : Place) (i : ℕ) → expr_meaning g (r.Variable p i) ≡ a_name g p.pos (VariableName i)
  variable_means p i = ap (expr_meaning g) (sym (r.rolls-Variable p i)) ∙ expr_out (roll-ResolvedExpr (ResolvedExpr-F.Variable p i)) ∙ ap (λ l. expr_step g (map-ResolvedExpr ResolvedArg ResolvedBinder ResolvedExpr ResolvedValue ArgMeaning BinderMeaning ExprMeaning ValueMeaning (arg_meaning g) (binder_meaning g) (expr_meaning g) (value_meaning g) l)) (out-roll-ResolvedExpr (ResolvedExpr-F.Variable p i))

  pub def_means : (p : Place) (f : ℕ) → expr_meaning g (r.Def p f) ≡ a_name g p.pos (DefName f)
  def_means p f = ap (expr_meaning g) (sym (r.rolls-Def p f)) ∙ expr_out (roll-ResolvedExpr (ResolvedExpr-F.Def p f)) ∙ ap (λ l. expr_step g (map-ResolvedExpr ResolvedArg ResolvedBinder ResolvedExpr ResolvedValue ArgMeaning BinderMeaning ExprMeaning ValueMeaning (arg_meaning g) (binder_meaning g) (expr_meaning g) (value_meaning g) l)) (out-roll-ResolvedExpr (ResolvedExpr-F.Def p f))

  pub family_means : (p : Place) (d : ℕ) → expr_meaning g (r.Family p d) ≡ a_name g p.pos (FamilyName d)
  family_means p d = ap (expr_meaning g) (sym (r.rolls-Family p d)) ∙ expr_out (roll-ResolvedExpr (ResolvedExpr-F.Family p d)) ∙ ap (λ l. expr_step g (map-ResolvedExpr ResolvedArg ResolvedBinder ResolvedExpr ResolvedValue ArgMeaning BinderMeaning ExprMeaning ValueMeaning (arg_meaning g) (binder_meaning g) (expr_meaning g) (value_meaning g) l)) (out-roll-ResolvedExpr (ResolvedExpr-F.Family p d))

  pub con_means : (p : Place) (k : ℕ) → expr_meaning g (r.Con p k) ≡ a_name g p.pos (ConName k)
  con_means p k = ap (expr_meaning g) (sym (r.rolls-Con p k)) ∙ expr_out (roll-ResolvedExpr (ResolvedExpr-F.Con p k)) ∙ ap (λ l. expr_step g (map-ResolvedExpr ResolvedArg ResolvedBinder ResolvedExpr ResolvedValue ArgMeaning BinderMeaning ExprMeaning ValueMeaning (arg_meaning g) (binder_meaning g) (expr_meaning g) (value_meaning g) l)) (out-roll-ResolvedExpr (ResolvedExpr-F.Con p k))

  pub set_means : (p : Place) (n : ℕ) → expr_meaning g (r.SetLevel p n) ≡ a_type p.pos (known (Sort n) (n + 1))
  set_means p n = ap (expr_meaning g) (sym (r.rolls-SetLevel p n)) ∙ expr_out (roll-ResolvedExpr (ResolvedExpr-F.SetLevel p n)) ∙ ap (λ l. expr_step g (map-ResolvedExpr ResolvedArg ResolvedBinder ResolvedExpr ResolvedValue ArgMeaning BinderMeaning ExprMeaning ValueMeaning (arg_meaning g) (binder_meaning g) (expr_meaning g) (value_meaning g) l)) (out-roll-ResolvedExpr (ResolvedExpr-F.SetLevel p n))

  pub hole_means : (p : Place) → expr_meaning g (r.Hole p) ≡ a_value p.pos (left_out p.pos)
  hole_means p = ap (expr_meaning g) (sym (r.rolls-Hole p)) ∙ expr_out (roll-ResolvedExpr (ResolvedExpr-F.Hole p)) ∙ ap (λ l. expr_step g (map-ResolvedExpr ResolvedArg ResolvedBinder ResolvedExpr ResolvedValue ArgMeaning BinderMeaning ExprMeaning ValueMeaning (arg_meaning g) (binder_meaning g) (expr_meaning g) (value_meaning g) l)) (out-roll-ResolvedExpr (ResolvedExpr-F.Hole p))

  pub underscore_means : (p : Place) → expr_meaning g (r.Underscore p) ≡ a_value p.pos (left_out p.pos)
  underscore_means p = ap (expr_meaning g) (sym (r.rolls-Underscore p)) ∙ expr_out (roll-ResolvedExpr (ResolvedExpr-F.«ResolvedExpr::Underscore» p)) ∙ ap (λ l. expr_step g (map-ResolvedExpr ResolvedArg ResolvedBinder ResolvedExpr ResolvedValue ArgMeaning BinderMeaning ExprMeaning ValueMeaning (arg_meaning g) (binder_meaning g) (expr_meaning g) (value_meaning g) l)) (out-roll-ResolvedExpr (ResolvedExpr-F.«ResolvedExpr::Underscore» p))

  pub record_means : (p : Place) (vs : List ResolvedValue) → expr_meaning g (r.Record p vs) ≡ a_value p.pos (record_checked g p.pos (map (value_meaning g) vs))
  record_means p vs = ap (expr_meaning g) (sym (r.rolls-Record p vs)) ∙ expr_out (roll-ResolvedExpr (ResolvedExpr-F.Record p vs)) ∙ ap (λ l. expr_step g (map-ResolvedExpr ResolvedArg ResolvedBinder ResolvedExpr ResolvedValue ArgMeaning BinderMeaning ExprMeaning ValueMeaning (arg_meaning g) (binder_meaning g) (expr_meaning g) (value_meaning g) l)) (out-roll-ResolvedExpr (ResolvedExpr-F.Record p vs))

  -- ---- arguments

  pub plain_means : (e : ResolvedExpr) → arg_meaning g (ra.Plain e) ≡ record { pos = (expr_meaning g e).pos; next = Plain (expr_meaning g e).checks }
  plain_means e = ap (arg_meaning g) (sym (ra.rolls-Plain e)) ∙ arg_out (roll-ResolvedArg (ResolvedArg-F.Plain e)) ∙ ap (λ l. arg_step (map-ResolvedArg ResolvedArg ResolvedBinder ResolvedExpr ResolvedValue ArgMeaning BinderMeaning ExprMeaning ValueMeaning (arg_meaning g) (binder_meaning g) (expr_meaning g) (value_meaning g) l)) (out-roll-ResolvedArg (ResolvedArg-F.Plain e))

  pub implicit_means : (p : Place) (e : ResolvedExpr) → arg_meaning g (ra.Implicit p e) ≡ record { pos = p.pos; next = Braces (expr_meaning g e).checks }
  implicit_means p e = ap (arg_meaning g) (sym (ra.rolls-Implicit p e)) ∙ arg_out (roll-ResolvedArg (ResolvedArg-F.«ResolvedArg::Implicit» p e)) ∙ ap (λ l. arg_step (map-ResolvedArg ResolvedArg ResolvedBinder ResolvedExpr ResolvedValue ArgMeaning BinderMeaning ExprMeaning ValueMeaning (arg_meaning g) (binder_meaning g) (expr_meaning g) (value_meaning g) l)) (out-roll-ResolvedArg (ResolvedArg-F.«ResolvedArg::Implicit» p e))

  pub named_means : (p : Place) (x : ResolvedName) (e : ResolvedExpr) → arg_meaning g (ra.Named p x e) ≡ record { pos = p.pos; next = Named x.id (expr_meaning g e).checks }
  named_means p x e = ap (arg_meaning g) (sym (ra.rolls-Named p x e)) ∙ arg_out (roll-ResolvedArg (ResolvedArg-F.Named p x e)) ∙ ap (λ l. arg_step (map-ResolvedArg ResolvedArg ResolvedBinder ResolvedExpr ResolvedValue ArgMeaning BinderMeaning ExprMeaning ValueMeaning (arg_meaning g) (binder_meaning g) (expr_meaning g) (value_meaning g) l)) (out-roll-ResolvedArg (ResolvedArg-F.Named p x e))

  pub project_means : (p : Place) (f : ℕ) → arg_meaning g (ra.Project p f) ≡ record { pos = p.pos; next = Field f }
  project_means p f = ap (arg_meaning g) (sym (ra.rolls-Project p f)) ∙ arg_out (roll-ResolvedArg (ResolvedArg-F.Project p f)) ∙ ap (λ l. arg_step (map-ResolvedArg ResolvedArg ResolvedBinder ResolvedExpr ResolvedValue ArgMeaning BinderMeaning ExprMeaning ValueMeaning (arg_meaning g) (binder_meaning g) (expr_meaning g) (value_meaning g) l)) (out-roll-ResolvedArg (ResolvedArg-F.Project p f))

  -- ---- binders

  pub explicit_binds : (p : Place) (xs : List ResolvedName) (a : ResolvedExpr) → binder_meaning g (rb.Explicit p xs a) ≡ Typed Explicit (ids xs) (expr_meaning g a).types
  explicit_binds p xs a = ap (binder_meaning g) (sym (rb.rolls-Explicit p xs a)) ∙ binder_out (roll-ResolvedBinder (ResolvedBinder-F.Explicit p xs a)) ∙ ap (λ l. binder_step (map-ResolvedBinder ResolvedArg ResolvedBinder ResolvedExpr ResolvedValue ArgMeaning BinderMeaning ExprMeaning ValueMeaning (arg_meaning g) (binder_meaning g) (expr_meaning g) (value_meaning g) l)) (out-roll-ResolvedBinder (ResolvedBinder-F.Explicit p xs a))

  pub implicit_binds : (p : Place) (xs : List ResolvedName) (a : ResolvedExpr) → binder_meaning g (rb.Implicit p xs a) ≡ Typed Implicit (ids xs) (expr_meaning g a).types
  implicit_binds p xs a = ap (binder_meaning g) (sym (rb.rolls-Implicit p xs a)) ∙ binder_out (roll-ResolvedBinder (ResolvedBinder-F.«ResolvedBinder::Implicit» p xs a)) ∙ ap (λ l. binder_step (map-ResolvedBinder ResolvedArg ResolvedBinder ResolvedExpr ResolvedValue ArgMeaning BinderMeaning ExprMeaning ValueMeaning (arg_meaning g) (binder_meaning g) (expr_meaning g) (value_meaning g) l)) (out-roll-ResolvedBinder (ResolvedBinder-F.«ResolvedBinder::Implicit» p xs a))

  pub name_binds : (x : ResolvedName) → binder_meaning g (rb.Name x) ≡ Untyped x.place.pos Explicit x.id
  name_binds x = ap (binder_meaning g) (sym (rb.rolls-Name x)) ∙ binder_out (roll-ResolvedBinder (ResolvedBinder-F.Name x)) ∙ ap (λ l. binder_step (map-ResolvedBinder ResolvedArg ResolvedBinder ResolvedExpr ResolvedValue ArgMeaning BinderMeaning ExprMeaning ValueMeaning (arg_meaning g) (binder_meaning g) (expr_meaning g) (value_meaning g) l)) (out-roll-ResolvedBinder (ResolvedBinder-F.Name x))

  pub braced_binds : (p : Place) (x : ResolvedName) → binder_meaning g (rb.Braced p x) ≡ Untyped p.pos Implicit x.id
  braced_binds p x = ap (binder_meaning g) (sym (rb.rolls-Braced p x)) ∙ binder_out (roll-ResolvedBinder (ResolvedBinder-F.Braced p x)) ∙ ap (λ l. binder_step (map-ResolvedBinder ResolvedArg ResolvedBinder ResolvedExpr ResolvedValue ArgMeaning BinderMeaning ExprMeaning ValueMeaning (arg_meaning g) (binder_meaning g) (expr_meaning g) (value_meaning g) l)) (out-roll-ResolvedBinder (ResolvedBinder-F.Braced p x))

  pub underscore_binds : (p : Place) → binder_meaning g (rb.Underscore p) ≡ Untyped p.pos Explicit no_name
  underscore_binds p = ap (binder_meaning g) (sym (rb.rolls-Underscore p)) ∙ binder_out (roll-ResolvedBinder (ResolvedBinder-F.«ResolvedBinder::Underscore» p)) ∙ ap (λ l. binder_step (map-ResolvedBinder ResolvedArg ResolvedBinder ResolvedExpr ResolvedValue ArgMeaning BinderMeaning ExprMeaning ValueMeaning (arg_meaning g) (binder_meaning g) (expr_meaning g) (value_meaning g) l)) (out-roll-ResolvedBinder (ResolvedBinder-F.«ResolvedBinder::Underscore» p))

  -- ---- values

  pub value_means : (x : ResolvedName) (e : ResolvedExpr) → value_meaning g (record { name = x; value = e }) ≡ record { name = x.id; checks = (expr_meaning g e).checks }
  value_means x e = value_out (record { name = x; value = e })
