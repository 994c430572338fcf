-- The number of nodes of a tree: each expression, argument, binder, field, pattern, signature, clause, part of a record and
-- declaration is one, and so is the file. Names, places and the lists between them are none.
use Rattle.std.specs.Prelude.{ℕ, ◌+◌, Option, Some, None, map, sum}
use Rattle.source_tree.specs.declared.expr.Expr.{Expr}
use Rattle.source_tree.specs.declared.expr.Arg.{Arg}
use Rattle.source_tree.specs.declared.expr.Binder.{Binder}
use Rattle.source_tree.specs.declared.expr.FieldValue.{FieldValue}
use Rattle.source_tree.specs.declared.expr.Arg.TheOpen.{Expr-F, Arg-F, Binder-F, FieldValue-F}
use Rattle.source_tree.specs.declared.expr.Arg.TheFolds.{fold-Expr, fold-Arg, fold-Binder, fold-FieldValue}
use Rattle.source_tree.specs.declared.pattern.Pattern.{Pattern}
use Rattle.source_tree.specs.declared.pattern.Pattern.TheOpen.{Pattern-F}
use Rattle.source_tree.specs.declared.pattern.Pattern.TheFolds.{fold-Pattern}
use Rattle.source_tree.specs.declared.decl.Signature.{Signature}
use Rattle.source_tree.specs.declared.decl.Clause.{Clause}
use Rattle.source_tree.specs.declared.decl.RecordItem.{RecordItem}
use Rattle.source_tree.specs.declared.decl.Decl.{Decl}
use Rattle.source_tree.specs.declared.decl.File.{File}

-- one layer of a tree, with the numbers of its parts in their places

abbrev pub expr_nodes_in : Expr-F ℕ ℕ ℕ ℕ → ℕ
expr_nodes_in (Expr-F.Pi p bs b) = 1 + (sum bs + b)
expr_nodes_in (Expr-F.Forall p bs b) = 1 + (sum bs + b)
expr_nodes_in (Expr-F.Lambda p bs b) = 1 + (sum bs + b)
expr_nodes_in (Expr-F.Arrow p a b) = 1 + (a + b)
expr_nodes_in (Expr-F.App p f xs) = 1 + (f + sum xs)
expr_nodes_in (Expr-F.«Expr::Name» x) = 1
expr_nodes_in (Expr-F.Qualified x) = 1
expr_nodes_in (Expr-F.SetLevel p n) = 1
expr_nodes_in (Expr-F.Hole p) = 1
expr_nodes_in (Expr-F.«Expr::Underscore» p) = 1
expr_nodes_in (Expr-F.Record p fs) = 1 + sum fs

abbrev pub arg_nodes_in : Arg-F ℕ ℕ ℕ ℕ → ℕ
arg_nodes_in (Arg-F.Plain x) = 1 + x
arg_nodes_in (Arg-F.«Arg::Implicit» p x) = 1 + x
arg_nodes_in (Arg-F.Named p n x) = 1 + x
arg_nodes_in (Arg-F.Project p n) = 1
arg_nodes_in (Arg-F.ProjectQualified p n) = 1

abbrev pub binder_nodes_in : Binder-F ℕ ℕ ℕ ℕ → ℕ
binder_nodes_in (Binder-F.Explicit p ns x) = 1 + x
binder_nodes_in (Binder-F.«Binder::Implicit» p ns x) = 1 + x
binder_nodes_in (Binder-F.«Binder::Name» x) = 1
binder_nodes_in (Binder-F.Braced p x) = 1
binder_nodes_in (Binder-F.«Binder::Underscore» p) = 1

abbrev pub field_nodes_in : FieldValue-F ℕ ℕ ℕ ℕ → ℕ
field_nodes_in f = 1 + f.value

unfoldable pub expr_nodes : Expr → ℕ
expr_nodes = fold-Expr ℕ ℕ ℕ ℕ arg_nodes_in binder_nodes_in expr_nodes_in field_nodes_in

unfoldable pub arg_nodes : Arg → ℕ
arg_nodes = fold-Arg ℕ ℕ ℕ ℕ arg_nodes_in binder_nodes_in expr_nodes_in field_nodes_in

unfoldable pub binder_nodes : Binder → ℕ
binder_nodes = fold-Binder ℕ ℕ ℕ ℕ arg_nodes_in binder_nodes_in expr_nodes_in field_nodes_in

unfoldable pub field_nodes : FieldValue → ℕ
field_nodes = fold-FieldValue ℕ ℕ ℕ ℕ arg_nodes_in binder_nodes_in expr_nodes_in field_nodes_in

abbrev pub pattern_nodes_in : Pattern-F ℕ → ℕ
pattern_nodes_in (Pattern-F.Implicit p x) = 1 + x
pattern_nodes_in (Pattern-F.Named p n x) = 1 + x
pattern_nodes_in (Pattern-F.Project p n) = 1
pattern_nodes_in (Pattern-F.ProjectQualified p n) = 1
pattern_nodes_in (Pattern-F.Name p n xs) = 1 + sum xs
pattern_nodes_in (Pattern-F.Underscore p) = 1
pattern_nodes_in (Pattern-F.Absurd p) = 1
pattern_nodes_in (Pattern-F.Dotted p x) = 1 + expr_nodes x

unfoldable pub pattern_nodes : Pattern → ℕ
pattern_nodes = fold-Pattern ℕ pattern_nodes_in

unfoldable pub signature_nodes : Signature → ℕ
signature_nodes s = 1 + expr_nodes s.ty

abbrev pub right_nodes : Option Expr → ℕ
right_nodes None = 0
right_nodes (Some e) = expr_nodes e

unfoldable pub clause_nodes : Clause → ℕ
clause_nodes c = 1 + (sum (map pattern_nodes c.patterns) + right_nodes c.right)

unfoldable pub record_item_nodes : RecordItem → ℕ
record_item_nodes (RecordItem.Inductive p) = 1
record_item_nodes (RecordItem.Coinductive p) = 1
record_item_nodes (RecordItem.Constructor p n) = 1
record_item_nodes (RecordItem.Field p ss) = 1 + sum (map signature_nodes ss)

unfoldable pub decl_nodes : Decl → ℕ
decl_nodes (Decl.Postulate p ss) = 1 + sum (map signature_nodes ss)
decl_nodes (Decl.Function p s cs) = 1 + (signature_nodes s + sum (map clause_nodes cs))
decl_nodes (Decl.Clause c) = 1 + clause_nodes c
decl_nodes (Decl.Open p n b) = 1
decl_nodes (Decl.Data p n bs t cs) = 1 + (sum (map binder_nodes bs) + (expr_nodes t + sum (map signature_nodes cs)))
decl_nodes (Decl.Record p n bs t is) = 1 + (sum (map binder_nodes bs) + (expr_nodes t + sum (map record_item_nodes is)))

unfoldable pub file_nodes : File → ℕ
file_nodes f = 1 + sum (map decl_nodes f.decls)
