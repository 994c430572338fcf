-- How trees are put together: their places, and applications of applications.
use Rattle.std.specs.Prelude.{List, [], ◌∷◌, ◌++◌}
use Rattle.source_tree.specs.declared.place.Place.{Place}
use Rattle.source_tree.specs.declared.place.Name.{Name}
use Rattle.source_tree.specs.declared.expr.Expr.{Expr, out-Expr}
use Rattle.source_tree.specs.declared.expr.Expr.TheVariants as e
use Rattle.source_tree.specs.declared.expr.Arg.{Arg}
use Rattle.source_tree.specs.declared.expr.Arg.TheOpen.{Expr-F}
use Rattle.source_tree.specs.declared.expr.Binder.{Binder}
use Rattle.source_tree.specs.declared.expr.Binder.TheVariants as b
use Rattle.source_tree.specs.declared.expr.FieldValue.{FieldValue}
use Rattle.source_tree.specs.Places.{joined, expr_place, arg_place}
use Rattle.agda_grammar.specs.declared.sign.Kind.{Kind}
use Rattle.agda_grammar.specs.declared.sign.Kind.TheVariants as k
use Rattle.agda_grammar.specs.declared.bracket.Bracket.{Bracket}
use Rattle.agda_grammar.specs.declared.bracket.Bracket.TheVariants.{Round, Curly}

-- the two brackets of a typed binder, and the binder
abbrev pub open_of : Bracket → Kind
open_of Round = k.ParenOpen
open_of Curly = k.BraceOpen

abbrev pub close_of : Bracket → Kind
close_of Round = k.ParenClose
close_of Curly = k.BraceClose

abbrev pub typed_binder : Bracket → Place → List Name → Expr → Binder
typed_binder Round p xs a = b.Explicit p xs a
typed_binder Curly p xs a = b.Implicit p xs a

-- the place of the last argument, or p where there is none
abbrev pub last_place : Place → List Arg → Place
last_place p [] = p
last_place p (x ∷ xs) = last_place (arg_place x) xs

-- an application of no arguments is its head, and one of an application is one application
abbrev pub applied_to : Place → Expr → List Arg → Expr-F Arg Binder Expr FieldValue → Expr
applied_to p head args (Expr-F.App q inner first) = e.App p inner (first ++ args)
applied_to p head args _ = e.App p head args

unfoldable pub applied : Expr → List Arg → Expr
applied head [] = head
applied head (x ∷ args) = applied_to (joined (expr_place head) (last_place (arg_place x) args)) head (x ∷ args) (out-Expr head)
