-- The parser of declarations and files by descent, as a function on lists, over those of expressions and patterns.
use Rattle.std.specs.Prelude.{ℕ, Bool, true, false, if◌then◌else◌, List, [], ◌∷◌, Option, Some, None}
use Rattle.source_tree.specs.declared.expr.Expr.{Expr}
use Rattle.source_tree.specs.declared.pattern.Pattern.{Pattern}
use Rattle.source_tree.specs.declared.decl.Signature.{Signature}
use Rattle.source_tree.specs.declared.decl.Clause.{Clause}
use Rattle.source_tree.specs.declared.decl.RecordItem.{RecordItem}
use Rattle.source_tree.specs.declared.decl.RecordItem.TheVariants as r
use Rattle.source_tree.specs.declared.decl.Decl.TheVariants as d
use Rattle.source_tree.specs.declared.decl.File.{File}
use Rattle.source_tree.specs.Places.{joined}
use Rattle.agda_grammar.specs.declared.sign.Kind.TheVariants as k
use Rattle.agda_grammar.specs.declared.sign.Mark.{Mark}
use Rattle.agda_grammar.specs.declared.sign.Sign.{Sign}
use Rattle.agda_grammar.specs.declared.entry.Entry.{Entry}
use Rattle.agda_grammar.specs.declared.entry.Entry.TheVariants as entry
use Rattle.agda_grammar.specs.Names.{name_of}
use Rattle.expr_parser.specs.Cursor.{is, expect, colon_follows}
use Rattle.expr_parser.specs.Syntax.{name, names, expr, more_typed}
use Rattle.expr_parser.specs.PatternSyntax.{pattern, elims}
use Rattle.agda_grammar.specs.Declarations.{last_signature, last_item, named_place, signature, clause, field_block, text_place}
use Rattle.agda_grammar.specs.Groups.{grouped}
use Rattle.parse_laws.specs.Parser.{Parser, ◌>>=◌, ◌>>◌, pure, choose, optional, many_from, with_taken, ended}

abbrev pub is_induction : Sign → Bool
is_induction s = if is k.Inductive s then true else is k.Coinductive s

module _ (text : List ℕ) (turns : ℕ) where
  -- ---- signatures

  unfoldable pub declaring : Parser Sign Signature
  declaring = do
    x ← name text
    xs ← names text turns (x ∷ [])
    expect k.Colon
    t ← expr text turns
    pure (signature x.place xs t)

  unfoldable pub one_declaring : Parser Sign (Option Signature)
  one_declaring = optional (is k.BlockNext) (expect k.BlockNext >> declaring)

  unfoldable pub more_declaring : List Signature → Parser Sign (List Signature)
  more_declaring found = many_from (λ _. one_declaring) turns found

  unfoldable pub inner_declarings : Parser Sign (List Signature)
  inner_declarings = choose (is k.BlockClose) (pure []) (declaring >>= (λ x. more_declaring (x ∷ [])))

  -- a block of signatures
  unfoldable pub declarings : Parser Sign (List Signature)
  declarings = do
    expect k.BlockOpen
    xs ← inner_declarings
    expect k.BlockClose
    pure xs

  -- ---- clauses

  unfoldable pub right_side : Parser Sign (Option Expr)
  right_side = choose (is k.Equals) (expect k.Equals >> (expr text turns >>= (λ t. pure (Some t)))) (pure None)

  -- what follows the name of a clause
  unfoldable pub sides : Parser Sign (List Pattern × Option Expr)
  sides = elims text turns (pattern text turns) >>= (λ es. right_side >>= (λ t. pure (es, t)))

  unfoldable pub equation : Parser Sign Clause
  equation = expect k.Name >>= (λ x. with_taken sides >>= (λ q. pure (clause text x q.1 q.0.0 q.0.1)))

  -- ---- the items of a record

  unfoldable pub induction : Parser Sign RecordItem
  induction =
      choose (is k.Inductive) (expect k.Inductive >>= (λ m. pure (r.Inductive m.place)))
      (expect k.Coinductive >>= (λ m. pure (r.Coinductive m.place)))

  unfoldable pub constructor_item : Parser Sign RecordItem
  constructor_item = expect k.Constructor >>= (λ w. expect k.Name >>= (λ x. pure (r.Constructor (joined w.place x.place) (name_of text x))))

  unfoldable pub field_item : Parser Sign RecordItem
  field_item = expect k.Field >>= (λ m. declarings >>= (λ xs. pure (field_block m xs)))

  unfoldable pub one_field_item : Parser Sign (Option RecordItem)
  one_field_item = optional (is k.BlockNext) (expect k.BlockNext >> field_item)

  unfoldable pub more_field_items : List RecordItem → Parser Sign (List RecordItem)
  more_field_items found = many_from (λ _. one_field_item) turns found

  -- behind the only item so far, which is not a field
  unfoldable pub second_item : (Sign → Bool) → Parser Sign RecordItem → RecordItem → Parser Sign (List RecordItem)
  second_item test other x =
      choose (is k.BlockNext) (expect k.BlockNext >> (choose test other field_item >>= (λ y. more_field_items (x ∷ y ∷ [])))) (pure (x ∷ []))

  unfoldable pub record_items : Parser Sign (List RecordItem)
  record_items =
      choose is_induction (induction >>= second_item (is k.Constructor) constructor_item)
      (choose (is k.Constructor) (constructor_item >>= second_item is_induction induction)
      (choose (is k.BlockClose) (pure []) (field_item >>= (λ x. more_field_items (x ∷ [])))))

  -- ---- items

  unfoldable pub postulate_item : Parser Sign Entry
  postulate_item = expect k.Postulate >>= (λ m. declarings >>= (λ xs. pure (entry.Other (d.Postulate (joined m.place (last_signature m.place xs)) xs))))

  -- behind the name of `open`
  unfoldable pub publicity : Mark → Mark → Parser Sign Entry
  publicity m x =
      choose (is k.Public) (expect k.Public >>= (λ q. pure (entry.Other (d.Open (named_place m x.place q.place) (name_of text x) true))))
      (pure (entry.Other (d.Open (named_place m x.place x.place) (name_of text x) false)))

  unfoldable pub open_item : Parser Sign Entry
  open_item = do
    m ← expect k.Open
    x ← expect k.Name
    publicity m x

  unfoldable pub data_item : Parser Sign Entry
  data_item = do
    m ← expect k.Data
    x ← name text
    bs ← more_typed text turns (expr text turns) []
    expect k.Colon
    t ← expr text turns
    w ← expect k.Where
    xs ← declarings
    pure (entry.Other (d.Data (named_place m x.place (last_signature w.place xs)) x bs t xs))

  unfoldable pub record_item : Parser Sign Entry
  record_item = do
    m ← expect k.Record
    x ← name text
    bs ← more_typed text turns (expr text turns) []
    expect k.Colon
    t ← expr text turns
    w ← expect k.Where
    expect k.BlockOpen
    xs ← record_items
    expect k.BlockClose
    pure (entry.Other (d.Record (named_place m x.place (last_item w.place xs)) x bs t xs))

  -- a signature or a clause
  unfoldable pub named_item : Parser Sign Entry
  named_item = λ i. if colon_follows i then (declaring >>= (λ x. pure (entry.Signature x))) i else (equation >>= (λ x. pure (entry.Clause x))) i

  unfoldable pub item : Parser Sign Entry
  item =
      choose (is k.Postulate) postulate_item
      (choose (is k.Open) open_item
      (choose (is k.Data) data_item
      (choose (is k.Record) record_item
      named_item)))

  unfoldable pub one_item : Parser Sign (Option Entry)
  one_item = optional (is k.BlockNext) (expect k.BlockNext >> item)

  unfoldable pub more_items : List Entry → Parser Sign (List Entry)
  more_items found = many_from (λ _. one_item) turns found

  unfoldable pub inner_items : Parser Sign (List Entry)
  inner_items = choose (is k.BlockClose) (pure []) (item >>= (λ x. more_items (x ∷ [])))

  -- ---- a file

  unfoldable pub module_name : Parser Sign Mark
  module_name = choose (is k.Name) (expect k.Name) (expect k.Qualified)

  unfoldable pub header : Parser Sign (Unit {0})
  header = choose (is k.Module) (expect k.Module >> (module_name >> (expect k.Where >> pure tt))) (pure tt)

  unfoldable pub file : Parser Sign File
  file = do
    header
    expect k.BlockOpen
    xs ← inner_items
    expect k.BlockClose
    pure (record { place = text_place text; decls = grouped xs })

-- a file and nothing behind it
unfoldable pub whole_file : List ℕ → ℕ → Parser Sign File
whole_file text turns = ended (file text turns)
