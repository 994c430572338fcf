-- The texts that get a number from a declaration: those of names that are bound, declared or labels, and of names of patterns, in
-- the order of the text.
use Rattle.std.specs.Prelude.{ℕ, List, [], ◌∷◌, ◌++◌, map, Option, Some, None}
use Rattle.source_tree.specs.declared.place.Name.{Name}
use Rattle.source_tree.specs.declared.expr.Expr.{Expr, fold-Expr}
use Rattle.source_tree.specs.declared.expr.Arg.{Arg, fold-Arg}
use Rattle.source_tree.specs.declared.expr.Binder.{Binder, fold-Binder}
use Rattle.source_tree.specs.declared.expr.FieldValue.{FieldValue, fold-FieldValue}
use Rattle.source_tree.specs.declared.expr.Arg.TheOpen.{Expr-F, Arg-F, Binder-F, FieldValue-F}
use Rattle.source_tree.specs.declared.pattern.Pattern.{Pattern, fold-Pattern}
use Rattle.source_tree.specs.declared.pattern.Pattern.TheOpen.{Pattern-F}
use Rattle.source_tree.specs.declared.decl.Signature.{Signature}
use Rattle.source_tree.specs.declared.decl.Clause.{Clause}
use Rattle.source_tree.specs.declared.decl.RecordItem.{RecordItem}
use Rattle.source_tree.specs.declared.decl.RecordItem.TheVariants as i
use Rattle.source_tree.specs.declared.decl.Decl.{Decl}
use Rattle.source_tree.specs.declared.decl.Decl.TheVariants as d

abbrev pub Texts : Type 0
Texts = List (List ℕ)

abbrev pub texts : List Name → Texts
texts xs = map (λ (x : Name). x.text) xs

-- lists one after another
unfoldable pub all_of : {A : Type 0} → List (List A) → List A
all_of [] = []
all_of (xs ∷ more) = xs ++ all_of more

abbrev pub arg_step : Arg-F Texts Texts Texts Texts → Texts
arg_step (Arg-F.Plain e) = e
arg_step (Arg-F.«Arg::Implicit» p e) = e
arg_step (Arg-F.Named p x e) = x.text ∷ e
arg_step (Arg-F.Project p x) = []
arg_step (Arg-F.ProjectQualified p x) = []

abbrev pub binder_step : Binder-F Texts Texts Texts Texts → Texts
binder_step (Binder-F.Explicit p xs a) = texts xs ++ a
binder_step (Binder-F.«Binder::Implicit» p xs a) = texts xs ++ a
binder_step (Binder-F.«Binder::Name» x) = x.text ∷ []
binder_step (Binder-F.Braced p x) = x.text ∷ []
binder_step (Binder-F.«Binder::Underscore» p) = []

abbrev pub value_step : FieldValue-F Texts Texts Texts Texts → Texts
value_step v = v.name.text ∷ v.value

abbrev pub expr_step : Expr-F Texts Texts Texts Texts → Texts
expr_step (Expr-F.«Expr::Name» x) = []
expr_step (Expr-F.Qualified x) = []
expr_step (Expr-F.App p f xs) = f ++ all_of xs
expr_step (Expr-F.Pi p bs b) = all_of bs ++ b
expr_step (Expr-F.Forall p bs b) = all_of bs ++ b
expr_step (Expr-F.Lambda p bs b) = all_of bs ++ b
expr_step (Expr-F.Arrow p a b) = a ++ b
expr_step (Expr-F.SetLevel p n) = []
expr_step (Expr-F.Hole p) = []
expr_step (Expr-F.«Expr::Underscore» p) = []
expr_step (Expr-F.Record p vs) = all_of vs

unfoldable pub in_expr : Expr → Texts
in_expr e = fold-Expr Texts Texts Texts Texts arg_step binder_step expr_step value_step e

unfoldable pub in_arg : Arg → Texts
in_arg a = fold-Arg Texts Texts Texts Texts arg_step binder_step expr_step value_step a

unfoldable pub in_binder : Binder → Texts
in_binder b = fold-Binder Texts Texts Texts Texts arg_step binder_step expr_step value_step b

unfoldable pub in_value : FieldValue → Texts
in_value v = fold-FieldValue Texts Texts Texts Texts arg_step binder_step expr_step value_step v

-- ---- one level over the tree itself

abbrev pub arg_in : Arg-F Arg Binder Expr FieldValue → Texts
arg_in (Arg-F.Plain e) = in_expr e
arg_in (Arg-F.«Arg::Implicit» p e) = in_expr e
arg_in (Arg-F.Named p x e) = x.text ∷ in_expr e
arg_in (Arg-F.Project p x) = []
arg_in (Arg-F.ProjectQualified p x) = []

abbrev pub binder_in : Binder-F Arg Binder Expr FieldValue → Texts
binder_in (Binder-F.Explicit p xs a) = texts xs ++ in_expr a
binder_in (Binder-F.«Binder::Implicit» p xs a) = texts xs ++ in_expr a
binder_in (Binder-F.«Binder::Name» x) = x.text ∷ []
binder_in (Binder-F.Braced p x) = x.text ∷ []
binder_in (Binder-F.«Binder::Underscore» p) = []

abbrev pub value_in : FieldValue-F Arg Binder Expr FieldValue → Texts
value_in v = v.name.text ∷ in_expr v.value

abbrev pub expr_in : Expr-F Arg Binder Expr FieldValue → Texts
expr_in (Expr-F.«Expr::Name» x) = []
expr_in (Expr-F.Qualified x) = []
expr_in (Expr-F.App p f xs) = in_expr f ++ all_of (map in_arg xs)
expr_in (Expr-F.Pi p bs b) = all_of (map in_binder bs) ++ in_expr b
expr_in (Expr-F.Forall p bs b) = all_of (map in_binder bs) ++ in_expr b
expr_in (Expr-F.Lambda p bs b) = all_of (map in_binder bs) ++ in_expr b
expr_in (Expr-F.Arrow p a b) = in_expr a ++ in_expr b
expr_in (Expr-F.SetLevel p n) = []
expr_in (Expr-F.Hole p) = []
expr_in (Expr-F.«Expr::Underscore» p) = []
expr_in (Expr-F.Record p vs) = all_of (map in_value vs)

-- ---- patterns

abbrev pub pattern_step : Pattern-F Texts → Texts
pattern_step (Pattern-F.Implicit p q) = q
pattern_step (Pattern-F.Named p x q) = x.text ∷ q
pattern_step (Pattern-F.Project p x) = []
pattern_step (Pattern-F.ProjectQualified p x) = []
pattern_step (Pattern-F.Name p x qs) = x.text ∷ all_of qs
pattern_step (Pattern-F.Underscore p) = []
pattern_step (Pattern-F.Absurd p) = []
pattern_step (Pattern-F.Dotted p e) = in_expr e

unfoldable pub in_pattern : Pattern → Texts
in_pattern q = fold-Pattern Texts pattern_step q

abbrev pub pattern_in : Pattern-F Pattern → Texts
pattern_in (Pattern-F.Implicit p q) = in_pattern q
pattern_in (Pattern-F.Named p x q) = x.text ∷ in_pattern q
pattern_in (Pattern-F.Project p x) = []
pattern_in (Pattern-F.ProjectQualified p x) = []
pattern_in (Pattern-F.Name p x qs) = x.text ∷ all_of (map in_pattern qs)
pattern_in (Pattern-F.Underscore p) = []
pattern_in (Pattern-F.Absurd p) = []
pattern_in (Pattern-F.Dotted p e) = in_expr e

-- ---- declarations

abbrev pub in_signature : Signature → Texts
in_signature s = texts s.names ++ in_expr s.ty

abbrev pub in_right : Option Expr → Texts
in_right None = []
in_right (Some e) = in_expr e

abbrev pub in_clause : Clause → Texts
in_clause c = all_of (map in_pattern c.patterns) ++ in_right c.right

abbrev pub in_item : RecordItem → Texts
in_item (i.Inductive p) = []
in_item (i.Coinductive p) = []
in_item (i.Constructor p x) = x.text ∷ []
in_item (i.Field p ss) = all_of (map in_signature ss)

abbrev pub in_decl : Decl → Texts
in_decl (d.Postulate p ss) = all_of (map in_signature ss)
in_decl (d.Function p s cs) = in_signature s ++ all_of (map in_clause cs)
in_decl (d.Clause c) = []
in_decl (d.Open p x b) = []
in_decl (d.Data p x bs a ss) = x.text ∷ all_of (map in_binder bs) ++ in_expr a ++ all_of (map in_signature ss)
in_decl (d.Record p x bs a items) = x.text ∷ all_of (map in_binder bs) ++ in_expr a ++ all_of (map in_item items)
