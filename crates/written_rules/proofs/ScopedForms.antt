-- What is accepted is in scope, by the forms of expressions.
use Rattle.std.proofs.Common.{◌≡◌, ◌+◌, ℕ, List, [], ◌∷◌, sym, ◌∙◌, ap, subst, map}
use Rattle.std.specs.Prelude.{Option, Some, None}
use Rattle.core_rules.specs.declared.Flag.TheVariants.{Explicit}
use Rattle.core_rules.specs.Term.{Term, Sort}
use Rattle.core_rules.specs.Signature.{Signature}
use Rattle.core_rules.specs.InScope.{InScope, SignatureInScope, any_meta}
use Rattle.kernel_rules.proofs.Outcome.{one_gives}
use Rattle.el_outside.specs.declared.place.Pos.{Pos}
use Rattle.resolved_tree.specs.declared.resolved.ResolvedExpr.{ResolvedExpr, map-ResolvedExpr, roll-ResolvedExpr, out-roll-ResolvedExpr, ind-ResolvedExpr}
use Rattle.resolved_tree.specs.declared.resolved.ResolvedArg.{ResolvedArg, map-ResolvedArg, roll-ResolvedArg, out-roll-ResolvedArg}
use Rattle.resolved_tree.specs.declared.resolved.ResolvedBinder.{ResolvedBinder, map-ResolvedBinder, roll-ResolvedBinder, out-roll-ResolvedBinder}
use Rattle.resolved_tree.specs.declared.resolved.ResolvedValue.{ResolvedValue, map-ResolvedValue, roll-ResolvedValue, out-roll-ResolvedValue}
use Rattle.resolved_tree.specs.declared.resolved.ResolvedArg.TheOpen.{ResolvedExpr-F, ResolvedArg-F, ResolvedBinder-F, ResolvedValue-F}
use Rattle.written_rules.specs.Refusals.{CannotInfer}
use Rattle.written_rules.specs.Rules.{Types, refused, wanted, Name, VariableName, DefName, FamilyName, ConName, BinderMeaning, ArgMeaning, ValueMeaning, known, function_type, grouped}
use Rattle.written_rules.specs.Expressions.{ExprMeaning, a_name, a_type, an_application, no_name, expr_step, arg_step, binder_step, value_step, expr_meaning, arg_meaning, binder_meaning, value_meaning}
use Rattle.written_rules.proofs.Comes.{comes_gives}
use Rattle.written_rules.proofs.Forms.{expr_out, arg_out, binder_out, value_out}
use Rattle.written_rules.proofs.ScopedHeads.{GoodChecks, GoodTypes}
use Rattle.written_rules.proofs.ScopedSpines.{GoodNext, GoodArgs, checked_spine-in_scope, typed_spine-in_scope}
use Rattle.written_rules.proofs.ScopedRules.{GoodBinder, GoodBinders, GoodValues, lambda-in_scope, grouped-in_scope, function_type-in_scope, type_checked-in_scope, record_checked-in_scope}

module _ (g : Signature Term) (sig : SignatureInScope g any_meta) (fuel depth : ℕ) where
  abbrev GoodExpr : ExprMeaning → Type 0
  GoodExpr m = GoodChecks g fuel depth m.checks × GoodTypes g fuel depth m.types

  abbrev ExprGood : ResolvedExpr → Type 0
  ExprGood e = GoodExpr (expr_meaning g e)

  abbrev ArgGood : ResolvedArg → Type 0
  ArgGood a = GoodNext g sig fuel depth (arg_meaning g a).next

  abbrev BinderGood : ResolvedBinder → Type 0
  BinderGood b = GoodBinder g sig fuel depth (binder_meaning g b)

  abbrev ValueGood : ResolvedValue → Type 0
  ValueGood v = GoodChecks g fuel depth (value_meaning g v).checks

  abbrev SomeExpr : Type 0
  SomeExpr = (e : ResolvedExpr) × ExprGood e

  abbrev SomeArg : Type 0
  SomeArg = (a : ResolvedArg) × ArgGood a

  abbrev SomeBinder : Type 0
  SomeBinder = (b : ResolvedBinder) × BinderGood b

  abbrev SomeValue : Type 0
  SomeValue = (v : ResolvedValue) × ValueGood v

  -- ---- lists of parts

  args_good : (xs : List SomeArg) → GoodArgs g sig fuel depth (map (arg_meaning g) (map (λ x. x.0) xs))
  args_good [] = tt
  args_good (x ∷ xs) = (x.1, args_good xs)

  binders_good : (bs : List SomeBinder) → GoodBinders g sig fuel depth (map (binder_meaning g) (map (λ b. b.0) bs))
  binders_good [] = tt
  binders_good (b ∷ bs) = (b.1, binders_good bs)

  values_good : (ms : List SomeValue) → GoodValues g sig fuel depth (map (value_meaning g) (map (λ m. m.0) ms))
  values_good [] = tt
  values_good (m ∷ ms) = (m.1, values_good ms)

  -- ---- forms

  type_good : (p : Pos) (e : Types) → GoodTypes g fuel depth e → GoodExpr (a_type p e)
  type_good p e k = (type_checked-in_scope g sig fuel depth p e k, k)

  application_good : (p q : Pos) (x : Option Name) (xs : List ArgMeaning) → GoodArgs g sig fuel depth xs → GoodExpr (an_application g p q x xs)
  application_good p q None xs k =
      (λ n vs a t v h c. let d = comes_gives g fuel depth (wanted p a) (λ w. refused q CannotInfer) t c in absurd (cc d.2), λ n vs t v c. absurd cc)
  application_good p q (Some x) xs k =
      (λ n vs a t v h c. checked_spine-in_scope g sig fuel depth p q n vs v x xs a t k h c, λ n vs t v c. typed_spine-in_scope g sig fuel depth p q n vs v x xs t k c)

  name_good : (p : Pos) (x : Name) → GoodExpr (a_name g p x)
  name_good p x =
      (λ n vs a t v h c. checked_spine-in_scope g sig fuel depth p p n vs v x [] a t tt h c, λ n vs t v c. typed_spine-in_scope g sig fuel depth p p n vs v x [] t tt c)

  known_good : (n : ℕ) → GoodTypes g fuel depth (known (Sort n) (n + 1))
  known_good n m vs q v c = subst (λ (q : Term × ℕ). InScope g any_meta m q.0) (sym (one_gives c)) tt

  expr_form : (y : ResolvedExpr-F SomeArg SomeBinder SomeExpr SomeValue)
      → GoodExpr (expr_step g (map-ResolvedExpr ResolvedArg ResolvedBinder ResolvedExpr ResolvedValue ArgMeaning BinderMeaning ExprMeaning ValueMeaning (arg_meaning g) (binder_meaning g) (expr_meaning g) (value_meaning g)
      (map-ResolvedExpr SomeArg SomeBinder SomeExpr SomeValue ResolvedArg ResolvedBinder ResolvedExpr ResolvedValue (λ x. x.0) (λ x. x.0) (λ x. x.0) (λ x. x.0) y)))
  expr_form (ResolvedExpr-F.Pi p bs e) = type_good p.pos (function_type (map (binder_meaning g) (map (λ b. b.0) bs)) (expr_meaning g e.0).types) (function_type-in_scope g sig fuel depth (map (binder_meaning g) (map (λ b. b.0) bs)) (expr_meaning g e.0).types (binders_good bs) e.1.1)
  expr_form (ResolvedExpr-F.Forall p bs e) = type_good p.pos (function_type (map (binder_meaning g) (map (λ b. b.0) bs)) (expr_meaning g e.0).types) (function_type-in_scope g sig fuel depth (map (binder_meaning g) (map (λ b. b.0) bs)) (expr_meaning g e.0).types (binders_good bs) e.1.1)
  expr_form (ResolvedExpr-F.Lambda p bs e) = (lambda-in_scope g sig fuel depth p.pos (map (binder_meaning g) (map (λ b. b.0) bs)) (expr_meaning g e.0).checks (binders_good bs) e.1.0, λ n vs t v c. absurd cc)
  expr_form (ResolvedExpr-F.Arrow p a b) =
      type_good p.pos (grouped Explicit (no_name ∷ []) (expr_meaning g a.0).types (expr_meaning g b.0).types)
      (λ n vs q v c. grouped-in_scope g sig fuel depth Explicit (no_name ∷ []) (expr_meaning g a.0).types (expr_meaning g b.0).types b.1.1 n (λ vs q v c. a.1.1 n vs q v c) vs q v c)
  expr_form (ResolvedExpr-F.App p e xs) = application_good p.pos (expr_meaning g e.0).pos (expr_meaning g e.0).name (map (arg_meaning g) (map (λ x. x.0) xs)) (args_good xs)
  expr_form (ResolvedExpr-F.Variable p i) = name_good p.pos (VariableName i)
  expr_form (ResolvedExpr-F.Def p f) = name_good p.pos (DefName f)
  expr_form (ResolvedExpr-F.Family p d) = name_good p.pos (FamilyName d)
  expr_form (ResolvedExpr-F.Con p k) = name_good p.pos (ConName k)
  expr_form (ResolvedExpr-F.SetLevel p n) = type_good p.pos (known (Sort n) (n + 1)) (known_good n)
  expr_form (ResolvedExpr-F.Hole p) = (λ n vs a t v h c. absurd cc, λ n vs t v c. absurd cc)
  expr_form (ResolvedExpr-F.«ResolvedExpr::Underscore» p) = (λ n vs a t v h c. absurd cc, λ n vs t v c. absurd cc)
  expr_form (ResolvedExpr-F.Record p vs) = (record_checked-in_scope g sig fuel depth p.pos (map (value_meaning g) (map (λ m. m.0) vs)) (values_good vs), λ n vs t v c. absurd cc)

  arg_form : (y : ResolvedArg-F SomeArg SomeBinder SomeExpr SomeValue)
      → GoodNext g sig fuel depth (arg_step (map-ResolvedArg ResolvedArg ResolvedBinder ResolvedExpr ResolvedValue ArgMeaning BinderMeaning ExprMeaning ValueMeaning (arg_meaning g) (binder_meaning g) (expr_meaning g) (value_meaning g)
      (map-ResolvedArg SomeArg SomeBinder SomeExpr SomeValue ResolvedArg ResolvedBinder ResolvedExpr ResolvedValue (λ x. x.0) (λ x. x.0) (λ x. x.0) (λ x. x.0) y))).next
  arg_form (ResolvedArg-F.Plain e) = e.1.0
  arg_form (ResolvedArg-F.«ResolvedArg::Implicit» p e) = e.1.0
  arg_form (ResolvedArg-F.Named p x e) = e.1.0
  arg_form (ResolvedArg-F.Project p f) = tt

  binder_form : (y : ResolvedBinder-F SomeArg SomeBinder SomeExpr SomeValue)
      → GoodBinder g sig fuel depth (binder_step (map-ResolvedBinder ResolvedArg ResolvedBinder ResolvedExpr ResolvedValue ArgMeaning BinderMeaning ExprMeaning ValueMeaning (arg_meaning g) (binder_meaning g) (expr_meaning g) (value_meaning g)
      (map-ResolvedBinder SomeArg SomeBinder SomeExpr SomeValue ResolvedArg ResolvedBinder ResolvedExpr ResolvedValue (λ x. x.0) (λ x. x.0) (λ x. x.0) (λ x. x.0) y)))
  binder_form (ResolvedBinder-F.Explicit p xs a) = a.1.1
  binder_form (ResolvedBinder-F.«ResolvedBinder::Implicit» p xs a) = a.1.1
  binder_form (ResolvedBinder-F.Name x) = tt
  binder_form (ResolvedBinder-F.Braced p x) = tt
  binder_form (ResolvedBinder-F.«ResolvedBinder::Underscore» p) = tt

  -- ---- trees

  abbrev ExprForm : Type 0
  ExprForm = ResolvedExpr-F ResolvedArg ResolvedBinder ResolvedExpr ResolvedValue

  expr_rolled : (l : ExprForm) → expr_meaning g (roll-ResolvedExpr l) ≡ expr_step g (map-ResolvedExpr ResolvedArg ResolvedBinder ResolvedExpr ResolvedValue ArgMeaning BinderMeaning ExprMeaning ValueMeaning (arg_meaning g) (binder_meaning g) (expr_meaning g) (value_meaning g) l)
  expr_rolled l = expr_out g (roll-ResolvedExpr l) ∙ ap (λ l. expr_step g (map-ResolvedExpr ResolvedArg ResolvedBinder ResolvedExpr ResolvedValue ArgMeaning BinderMeaning ExprMeaning ValueMeaning (arg_meaning g) (binder_meaning g) (expr_meaning g) (value_meaning g) l)) (out-roll-ResolvedExpr l)

  arg_rolled : (l : ResolvedArg-F ResolvedArg ResolvedBinder ResolvedExpr ResolvedValue) → arg_meaning g (roll-ResolvedArg l) ≡ arg_step (map-ResolvedArg ResolvedArg ResolvedBinder ResolvedExpr ResolvedValue ArgMeaning BinderMeaning ExprMeaning ValueMeaning (arg_meaning g) (binder_meaning g) (expr_meaning g) (value_meaning g) l)
  arg_rolled l = arg_out g (roll-ResolvedArg l) ∙ ap (λ l. arg_step (map-ResolvedArg ResolvedArg ResolvedBinder ResolvedExpr ResolvedValue ArgMeaning BinderMeaning ExprMeaning ValueMeaning (arg_meaning g) (binder_meaning g) (expr_meaning g) (value_meaning g) l)) (out-roll-ResolvedArg l)

  binder_rolled : (l : ResolvedBinder-F ResolvedArg ResolvedBinder ResolvedExpr ResolvedValue) → binder_meaning g (roll-ResolvedBinder l) ≡ binder_step (map-ResolvedBinder ResolvedArg ResolvedBinder ResolvedExpr ResolvedValue ArgMeaning BinderMeaning ExprMeaning ValueMeaning (arg_meaning g) (binder_meaning g) (expr_meaning g) (value_meaning g) l)
  binder_rolled l = binder_out g (roll-ResolvedBinder l) ∙ ap (λ l. binder_step (map-ResolvedBinder ResolvedArg ResolvedBinder ResolvedExpr ResolvedValue ArgMeaning BinderMeaning ExprMeaning ValueMeaning (arg_meaning g) (binder_meaning g) (expr_meaning g) (value_meaning g) l)) (out-roll-ResolvedBinder l)

  value_rolled : (l : ResolvedValue-F ResolvedArg ResolvedBinder ResolvedExpr ResolvedValue) → value_meaning g (roll-ResolvedValue l) ≡ value_step (map-ResolvedValue ResolvedArg ResolvedBinder ResolvedExpr ResolvedValue ArgMeaning BinderMeaning ExprMeaning ValueMeaning (arg_meaning g) (binder_meaning g) (expr_meaning g) (value_meaning g) l)
  value_rolled l = value_out g (roll-ResolvedValue l) ∙ ap (λ l. value_step (map-ResolvedValue ResolvedArg ResolvedBinder ResolvedExpr ResolvedValue ArgMeaning BinderMeaning ExprMeaning ValueMeaning (arg_meaning g) (binder_meaning g) (expr_meaning g) (value_meaning g) l)) (out-roll-ResolvedValue l)

  pub expr_good : (e : ResolvedExpr) → ExprGood e
  expr_good = ind-ResolvedExpr ArgGood BinderGood ExprGood ValueGood
      (λ x y is. subst (λ a. GoodNext g sig fuel depth a.next) (sym (arg_rolled x)) (subst (λ l. GoodNext g sig fuel depth (arg_step (map-ResolvedArg ResolvedArg ResolvedBinder ResolvedExpr ResolvedValue ArgMeaning BinderMeaning ExprMeaning ValueMeaning (arg_meaning g) (binder_meaning g) (expr_meaning g) (value_meaning g) l)).next) is (arg_form y)))
      (λ x y is. subst (GoodBinder g sig fuel depth) (sym (binder_rolled x)) (subst (λ l. GoodBinder g sig fuel depth (binder_step (map-ResolvedBinder ResolvedArg ResolvedBinder ResolvedExpr ResolvedValue ArgMeaning BinderMeaning ExprMeaning ValueMeaning (arg_meaning g) (binder_meaning g) (expr_meaning g) (value_meaning g) l))) is (binder_form y)))
      (λ x y is. subst GoodExpr (sym (expr_rolled x)) (subst (λ l. GoodExpr (expr_step g (map-ResolvedExpr ResolvedArg ResolvedBinder ResolvedExpr ResolvedValue ArgMeaning BinderMeaning ExprMeaning ValueMeaning (arg_meaning g) (binder_meaning g) (expr_meaning g) (value_meaning g) l))) is (expr_form y)))
      (λ x y is. subst (λ m. GoodChecks g fuel depth m.checks) (sym (value_rolled x)) (subst (λ l. GoodChecks g fuel depth (value_step (map-ResolvedValue ResolvedArg ResolvedBinder ResolvedExpr ResolvedValue ArgMeaning BinderMeaning ExprMeaning ValueMeaning (arg_meaning g) (binder_meaning g) (expr_meaning g) (value_meaning g) l)).checks) is y.value.1.0))
