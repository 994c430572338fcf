-- The grammar of declarations and files, over those of expressions and patterns. A derivation is a value of these types: one constructor for each
-- alternative, with the marks of its signs.
use Rattle.std.specs.Prelude.{ℕ, true, false, List, [], ◌∷◌, map, length, Option, Some, None}
use Rattle.source_tree.specs.declared.place.Place.{Place}
use Rattle.source_tree.specs.declared.place.Name.{Name}
use Rattle.source_tree.specs.declared.pattern.Pattern.{Pattern}
use Rattle.source_tree.specs.declared.expr.Expr.{Expr}
use Rattle.source_tree.specs.declared.decl.Signature.{Signature}
use Rattle.source_tree.specs.declared.decl.Clause.{Clause}
use Rattle.source_tree.specs.declared.decl.RecordItem.{RecordItem}
use Rattle.source_tree.specs.declared.decl.RecordItem.TheVariants as r
use Rattle.source_tree.specs.declared.decl.Decl.TheVariants as d
use Rattle.source_tree.specs.declared.decl.File.{File}
use Rattle.source_tree.specs.Places.{joined, expr_place}
use Rattle.agda_grammar.specs.declared.sign.Kind.TheVariants as k
use Rattle.agda_grammar.specs.declared.sign.Mark.{Mark}
use Rattle.agda_grammar.specs.declared.sign.Sign.{Sign}
use Rattle.agda_grammar.specs.declared.entry.Entry.{Entry}
use Rattle.agda_grammar.specs.declared.entry.Entry.TheVariants as entry
use Rattle.agda_grammar.specs.Names.{name_of}
use Rattle.agda_grammar.specs.Signs.{tok}
use Rattle.agda_grammar.specs.Grammar.{Derivation, MoreTyped, names_then, then, more_typed_then, tree, more_typed_tree}
use Rattle.agda_grammar.specs.Patterns.{Eliminations, eliminations_then, eliminations_tree}
use Rattle.agda_grammar.specs.Groups.{grouped}

-- name {name} ":" expr
pub data Declaring : Type 0 where
  Declares : Mark → List Mark → Mark → Derivation → Declaring

-- block(sig)
pub data MoreDeclaring : Type 0 where
  LastDeclaring : MoreDeclaring
  NextDeclaring : Mark → Declaring → MoreDeclaring → MoreDeclaring

pub data Declarings : Type 0 where
  NoDeclaring : Mark → Mark → Declarings
  SomeDeclaring : Mark → Declaring → MoreDeclaring → Mark → Declarings

-- name {elim} ["=" expr]
pub data Equation : Type 0 where
  Without : Mark → Eliminations → Equation
  With : Mark → Eliminations → Mark → Derivation → Equation

-- "inductive" | "coinductive"
pub data Induction : Type 0 where
  IsInductive : Mark → Induction
  IsCoinductive : Mark → Induction

-- any number of "field" block(sig), each behind a border
pub data MoreFieldBlocks : Type 0 where
  LastFieldBlock : MoreFieldBlocks
  NextFieldBlock : Mark → Mark → Declarings → MoreFieldBlocks → MoreFieldBlocks

-- the items of a record: at most one of `inductive` and `coinductive` and at most one constructor, in any order, and then fields alone
pub data RecordItems : Type 0 where
  NoRecordItem : RecordItems
  FieldsAlone : Mark → Declarings → MoreFieldBlocks → RecordItems
  OfInduction : Induction → MoreFieldBlocks → RecordItems
  OfConstructor : Mark → Mark → MoreFieldBlocks → RecordItems
  InductionFirst : Induction → Mark → Mark → Mark → MoreFieldBlocks → RecordItems
  ConstructorFirst : Mark → Mark → Mark → Induction → MoreFieldBlocks → RecordItems

-- ["public"]
pub data Publicity : Type 0 where
  NotPublic : Publicity
  IsPublic : Mark → Publicity

pub data ItemDerivation : Type 0 where
  PostulateItem : Mark → Declarings → ItemDerivation
  SignatureItem : Declaring → ItemDerivation
  ClauseItem : Equation → ItemDerivation
  OpenItem : Mark → Mark → Publicity → ItemDerivation
  DataItem : Mark → Mark → MoreTyped → Mark → Derivation → Mark → Declarings → ItemDerivation
  RecordItemOf : Mark → Mark → MoreTyped → Mark → Derivation → Mark → Mark → RecordItems → Mark → ItemDerivation

pub data MoreItems : Type 0 where
  LastItem : MoreItems
  NextItem : Mark → ItemDerivation → MoreItems → MoreItems

-- ["module" name "where" | "module" qualified "where"]
pub data Header : Type 0 where
  NoHeader : Header
  Names : Mark → Mark → Mark → Header
  NamesQualified : Mark → Mark → Mark → Header

-- block(item)
pub data FileDerivation : Type 0 where
  EmptyFile : Header → Mark → Mark → FileDerivation
  SomeFile : Header → Mark → ItemDerivation → MoreItems → Mark → FileDerivation

abbrev pub declaring_then : Declaring → List Sign → List Sign
declaring_then (Declares x xs o t) rest = tok k.Name x ∷ names_then xs (tok k.Colon o ∷ then t rest)

abbrev pub more_declaring_then : MoreDeclaring → List Sign → List Sign
more_declaring_then LastDeclaring rest = rest
more_declaring_then (NextDeclaring n x xs) rest = tok k.BlockNext n ∷ declaring_then x (more_declaring_then xs rest)

abbrev pub declarings_then : Declarings → List Sign → List Sign
declarings_then (NoDeclaring o c) rest = tok k.BlockOpen o ∷ tok k.BlockClose c ∷ rest
declarings_then (SomeDeclaring o x xs c) rest = tok k.BlockOpen o ∷ declaring_then x (more_declaring_then xs (tok k.BlockClose c ∷ rest))

abbrev pub equation_then : Equation → List Sign → List Sign
equation_then (Without x es) rest = tok k.Name x ∷ eliminations_then es rest
equation_then (With x es q t) rest = tok k.Name x ∷ eliminations_then es (tok k.Equals q ∷ then t rest)

abbrev pub induction_then : Induction → List Sign → List Sign
induction_then (IsInductive m) rest = tok k.Inductive m ∷ rest
induction_then (IsCoinductive m) rest = tok k.Coinductive m ∷ rest

abbrev pub field_blocks_then : MoreFieldBlocks → List Sign → List Sign
field_blocks_then LastFieldBlock rest = rest
field_blocks_then (NextFieldBlock n m xs fs) rest = tok k.BlockNext n ∷ tok k.Field m ∷ declarings_then xs (field_blocks_then fs rest)

abbrev pub record_items_then : RecordItems → List Sign → List Sign
record_items_then NoRecordItem rest = rest
record_items_then (FieldsAlone m xs fs) rest = tok k.Field m ∷ declarings_then xs (field_blocks_then fs rest)
record_items_then (OfInduction i fs) rest = induction_then i (field_blocks_then fs rest)
record_items_then (OfConstructor w x fs) rest = tok k.Constructor w ∷ tok k.Name x ∷ field_blocks_then fs rest
record_items_then (InductionFirst i n w x fs) rest = induction_then i (tok k.BlockNext n ∷ tok k.Constructor w ∷ tok k.Name x ∷ field_blocks_then fs rest)
record_items_then (ConstructorFirst w x n i fs) rest = tok k.Constructor w ∷ tok k.Name x ∷ tok k.BlockNext n ∷ induction_then i (field_blocks_then fs rest)

abbrev pub publicity_then : Publicity → List Sign → List Sign
publicity_then NotPublic rest = rest
publicity_then (IsPublic m) rest = tok k.Public m ∷ rest

abbrev pub item_then : ItemDerivation → List Sign → List Sign
item_then (PostulateItem m xs) rest = tok k.Postulate m ∷ declarings_then xs rest
item_then (SignatureItem x) rest = declaring_then x rest
item_then (ClauseItem x) rest = equation_then x rest
item_then (OpenItem m x y) rest = tok k.Open m ∷ tok k.Name x ∷ publicity_then y rest
item_then (DataItem m x bs o t w xs) rest = tok k.Data m ∷ tok k.Name x ∷ more_typed_then bs (tok k.Colon o ∷ then t (tok k.Where w ∷ declarings_then xs rest))
item_then (RecordItemOf m x bs o t w b is c) rest =
    tok k.Record m ∷ tok k.Name x ∷ more_typed_then bs (tok k.Colon o ∷ then t (tok k.Where w ∷ tok k.BlockOpen b ∷ record_items_then is (tok k.BlockClose c ∷ rest)))

abbrev pub more_items_then : MoreItems → List Sign → List Sign
more_items_then LastItem rest = rest
more_items_then (NextItem n x xs) rest = tok k.BlockNext n ∷ item_then x (more_items_then xs rest)

abbrev pub header_then : Header → List Sign → List Sign
header_then NoHeader rest = rest
header_then (Names m x w) rest = tok k.Module m ∷ tok k.Name x ∷ tok k.Where w ∷ rest
header_then (NamesQualified m x w) rest = tok k.Module m ∷ tok k.Qualified x ∷ tok k.Where w ∷ rest

abbrev pub file_then : FileDerivation → List Sign → List Sign
file_then (EmptyFile h o c) rest = header_then h (tok k.BlockOpen o ∷ tok k.BlockClose c ∷ rest)
file_then (SomeFile h o x xs c) rest = header_then h (tok k.BlockOpen o ∷ item_then x (more_items_then xs (tok k.BlockClose c ∷ rest)))

-- ---- the tree of a derivation

-- the end of the last sign, or e where there is none
abbrev pub last_end : ℕ → List Sign → ℕ
last_end e [] = e
last_end e (s ∷ i) = last_end s.mark.place.span.end i

-- the place of the last signature, or q where there is none
abbrev pub last_signature : Place → List Signature → Place
last_signature q [] = q
last_signature q (x ∷ xs) = last_signature x.place xs

abbrev pub item_place : RecordItem → Place
item_place (r.Inductive q) = q
item_place (r.Coinductive q) = q
item_place (r.Constructor q x) = q
item_place (r.Field q xs) = q

-- the place of the last item of a record, or q where there is none
abbrev pub last_item : Place → List RecordItem → Place
last_item q [] = q
last_item q (x ∷ xs) = last_item (item_place x) xs

-- from a word to the end of the last part, at the name
abbrev pub named_place : Mark → Place → Place → Place
named_place m x last = record { span = (joined m.place last).span; pos = x.pos }

-- the names and their type, at the place of the first
abbrev pub signature : Place → List Name → Expr → Signature
signature q xs t = record { place = joined q (expr_place t); names = xs; ty = t }

-- from the name to the end of the last token
abbrev pub clause_place : Mark → ℕ → Place
clause_place x end = record { span = record { start = x.place.span.start; end = end }; pos = x.place.pos }

-- a clause, and the signs behind its name
abbrev pub clause : List ℕ → Mark → List Sign → List Pattern → Option Expr → Clause
clause text x behind ps right = record {
  place = clause_place x (last_end x.place.span.end behind);
  name = name_of text x;
  patterns = ps;
  right = right;
}

abbrev pub field_block : Mark → List Signature → RecordItem
field_block m xs = r.Field (joined m.place (last_signature m.place xs)) xs

-- the whole text
abbrev pub text_place : List ℕ → Place
text_place text = record { span = record { start = 0; end = length text }; pos = record { line = 1; col = 1 } }

module _ (text : List ℕ) where
  abbrev pub declaring_tree : Declaring → Signature
  declaring_tree (Declares x xs o t) = signature x.place (name_of text x ∷ map (name_of text) xs) (tree text t)

  abbrev pub more_declaring_tree : MoreDeclaring → List Signature
  more_declaring_tree LastDeclaring = []
  more_declaring_tree (NextDeclaring n x xs) = declaring_tree x ∷ more_declaring_tree xs

  abbrev pub declarings_tree : Declarings → List Signature
  declarings_tree (NoDeclaring o c) = []
  declarings_tree (SomeDeclaring o x xs c) = declaring_tree x ∷ more_declaring_tree xs

  abbrev pub equation_tree : Equation → Clause
  equation_tree (Without x es) = clause text x (eliminations_then es []) (eliminations_tree text es) None
  equation_tree (With x es q t) = clause text x (eliminations_then es (tok k.Equals q ∷ then t [])) (eliminations_tree text es) (Some (tree text t))

  abbrev pub induction_tree : Induction → RecordItem
  induction_tree (IsInductive m) = r.Inductive m.place
  induction_tree (IsCoinductive m) = r.Coinductive m.place

  abbrev pub constructor_tree : Mark → Mark → RecordItem
  constructor_tree w x = r.Constructor (joined w.place x.place) (name_of text x)

  abbrev pub field_blocks_tree : MoreFieldBlocks → List RecordItem
  field_blocks_tree LastFieldBlock = []
  field_blocks_tree (NextFieldBlock n m xs fs) = field_block m (declarings_tree xs) ∷ field_blocks_tree fs

  abbrev pub record_items_tree : RecordItems → List RecordItem
  record_items_tree NoRecordItem = []
  record_items_tree (FieldsAlone m xs fs) = field_block m (declarings_tree xs) ∷ field_blocks_tree fs
  record_items_tree (OfInduction i fs) = induction_tree i ∷ field_blocks_tree fs
  record_items_tree (OfConstructor w x fs) = constructor_tree w x ∷ field_blocks_tree fs
  record_items_tree (InductionFirst i n w x fs) = induction_tree i ∷ constructor_tree w x ∷ field_blocks_tree fs
  record_items_tree (ConstructorFirst w x n i fs) = constructor_tree w x ∷ induction_tree i ∷ field_blocks_tree fs

  abbrev pub item_tree : ItemDerivation → Entry
  item_tree (PostulateItem m xs) = entry.Other (d.Postulate (joined m.place (last_signature m.place (declarings_tree xs))) (declarings_tree xs))
  item_tree (SignatureItem x) = entry.Signature (declaring_tree x)
  item_tree (ClauseItem x) = entry.Clause (equation_tree x)
  item_tree (OpenItem m x NotPublic) = entry.Other (d.Open (named_place m x.place x.place) (name_of text x) false)
  item_tree (OpenItem m x (IsPublic q)) = entry.Other (d.Open (named_place m x.place q.place) (name_of text x) true)
  item_tree (DataItem m x bs o t w xs) = entry.Other (d.Data (named_place m x.place (last_signature w.place (declarings_tree xs))) (name_of text x) (more_typed_tree text bs) (tree text t) (declarings_tree xs))
  item_tree (RecordItemOf m x bs o t w b is c) = entry.Other (d.Record (named_place m x.place (last_item w.place (record_items_tree is))) (name_of text x) (more_typed_tree text bs) (tree text t) (record_items_tree is))

  abbrev pub more_items_tree : MoreItems → List Entry
  more_items_tree LastItem = []
  more_items_tree (NextItem n x xs) = item_tree x ∷ more_items_tree xs

  abbrev pub file_tree : FileDerivation → File
  file_tree (EmptyFile h o c) = record { place = text_place text; decls = [] }
  file_tree (SomeFile h o x xs c) = record { place = text_place text; decls = grouped (item_tree x ∷ more_items_tree xs) }
