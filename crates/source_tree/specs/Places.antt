-- The place of a tree, and the place from one to another.
use Rattle.source_tree.specs.declared.place.Place.{Place}
use Rattle.source_tree.specs.declared.expr.Expr.{Expr, out-Expr}
use Rattle.source_tree.specs.declared.expr.Arg.{Arg, out-Arg}
use Rattle.source_tree.specs.declared.expr.Binder.{Binder, out-Binder}
use Rattle.source_tree.specs.declared.expr.FieldValue.{FieldValue}
use Rattle.source_tree.specs.declared.expr.Arg.TheOpen.{Expr-F, Arg-F, Binder-F}
use Rattle.source_tree.specs.declared.pattern.Pattern.{Pattern, out-Pattern}
use Rattle.source_tree.specs.declared.pattern.Pattern.TheOpen.{Pattern-F}

-- from the beginning of one to the end of the other
abbrev pub joined : Place → Place → Place
joined p q = record { span = record { start = p.span.start; end = q.span.end }; pos = p.pos }

abbrev pub expr_place_in : Expr-F Arg Binder Expr FieldValue → Place
expr_place_in (Expr-F.Pi p bs b) = p
expr_place_in (Expr-F.Forall p bs b) = p
expr_place_in (Expr-F.Lambda p bs b) = p
expr_place_in (Expr-F.Arrow p a b) = p
expr_place_in (Expr-F.App p f xs) = p
expr_place_in (Expr-F.«Expr::Name» x) = x.place
expr_place_in (Expr-F.Qualified x) = x.place
expr_place_in (Expr-F.SetLevel p n) = p
expr_place_in (Expr-F.Hole p) = p
expr_place_in (Expr-F.«Expr::Underscore» p) = p
expr_place_in (Expr-F.Record p fs) = p

unfoldable pub expr_place : Expr → Place
expr_place x = expr_place_in (out-Expr x)

abbrev pub arg_place_in : Arg-F Arg Binder Expr FieldValue → Place
arg_place_in (Arg-F.Plain x) = expr_place x
arg_place_in (Arg-F.«Arg::Implicit» p x) = p
arg_place_in (Arg-F.Named p n x) = p
arg_place_in (Arg-F.Project p n) = p
arg_place_in (Arg-F.ProjectQualified p n) = p

unfoldable pub arg_place : Arg → Place
arg_place x = arg_place_in (out-Arg x)

abbrev pub binder_place_in : Binder-F Arg Binder Expr FieldValue → Place
binder_place_in (Binder-F.Explicit p ns x) = p
binder_place_in (Binder-F.«Binder::Implicit» p ns x) = p
binder_place_in (Binder-F.«Binder::Name» x) = x.place
binder_place_in (Binder-F.Braced p x) = p
binder_place_in (Binder-F.«Binder::Underscore» p) = p

unfoldable pub binder_place : Binder → Place
binder_place x = binder_place_in (out-Binder x)

abbrev pub pattern_place_in : Pattern-F Pattern → Place
pattern_place_in (Pattern-F.Implicit p x) = p
pattern_place_in (Pattern-F.Named p n x) = p
pattern_place_in (Pattern-F.Project p n) = p
pattern_place_in (Pattern-F.ProjectQualified p n) = p
pattern_place_in (Pattern-F.Name p n xs) = p
pattern_place_in (Pattern-F.Underscore p) = p
pattern_place_in (Pattern-F.Absurd p) = p
pattern_place_in (Pattern-F.Dotted p x) = p

unfoldable pub pattern_place : Pattern → Place
pattern_place x = pattern_place_in (out-Pattern x)
