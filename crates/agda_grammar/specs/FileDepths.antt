-- The nesting of each sign of a file's derivation, in front of others. Each item of a block begins at nesting 0.
use Rattle.std.specs.Prelude.{ℕ, List, ◌∷◌}
use Rattle.agda_grammar.specs.Patterns.{Matching, Simple, Matched, SimplePattern, PatternName, PatternBlank, PatternAbsurd, PatternParen, PatternDotted, Elimination, Explicit, Implicit, EquatedPattern, Projection, ProjectionQualified, Eliminations, NoElimination, MoreElimination}
use Rattle.agda_grammar.specs.Declarations.{Declaring, Declares, MoreDeclaring, LastDeclaring, NextDeclaring, Declarings, NoDeclaring, SomeDeclaring, Equation, Without, With, MoreFieldBlocks, LastFieldBlock, NextFieldBlock, RecordItems, NoRecordItem, FieldsAlone, OfInduction, OfConstructor, InductionFirst, ConstructorFirst, NotPublic, IsPublic, ItemDerivation, PostulateItem, SignatureItem, ClauseItem, OpenItem, DataItem, RecordItemOf, MoreItems, LastItem, NextItem, Header, NoHeader, Names, NamesQualified, FileDerivation, EmptyFile, SomeFile}
use Rattle.agda_grammar.specs.Nesting.{rise}
use Rattle.agda_grammar.specs.Depths.{names_depths, depths, more_typed_depths}

abbrev mutual
  pub matching_depths : Matching → ℕ → List ℕ → List ℕ
  matching_depths (Simple x) n rest = simple_depths x n rest
  matching_depths (Matched x e es) n rest = n ∷ elimination_depths e n (eliminations_depths es n rest)

  pub simple_depths : SimplePattern → ℕ → List ℕ → List ℕ
  simple_depths (PatternName x) n rest = n ∷ rest
  simple_depths (PatternBlank x) n rest = n ∷ rest
  simple_depths (PatternAbsurd l c) n rest = n ∷ n ∷ rest
  simple_depths (PatternParen l x c) n rest = n ∷ matching_depths x (rise n) (n ∷ rest)
  simple_depths (PatternDotted o l x c) n rest = n ∷ n ∷ depths x (rise n) (n ∷ rest)

  pub elimination_depths : Elimination → ℕ → List ℕ → List ℕ
  elimination_depths (Explicit x) n rest = simple_depths x n rest
  elimination_depths (Implicit l x c) n rest = n ∷ matching_depths x (rise n) (n ∷ rest)
  elimination_depths (EquatedPattern l y q x c) n rest = n ∷ rise n ∷ rise n ∷ matching_depths x (rise n) (n ∷ rest)
  elimination_depths (Projection o x) n rest = n ∷ n ∷ rest
  elimination_depths (ProjectionQualified o x) n rest = n ∷ n ∷ rest

  pub eliminations_depths : Eliminations → ℕ → List ℕ → List ℕ
  eliminations_depths NoElimination n rest = rest
  eliminations_depths (MoreElimination e es) n rest = elimination_depths e n (eliminations_depths es n rest)

abbrev pub declaring_depths : Declaring → List ℕ → List ℕ
declaring_depths (Declares x xs o t) rest = 0 ∷ names_depths xs 0 (0 ∷ depths t 0 rest)

abbrev pub more_declaring_depths : MoreDeclaring → List ℕ → List ℕ
more_declaring_depths LastDeclaring rest = rest
more_declaring_depths (NextDeclaring n x xs) rest = 0 ∷ declaring_depths x (more_declaring_depths xs rest)

abbrev pub declarings_depths : Declarings → List ℕ → List ℕ
declarings_depths (NoDeclaring o c) rest = 0 ∷ 0 ∷ rest
declarings_depths (SomeDeclaring o x xs c) rest = 0 ∷ declaring_depths x (more_declaring_depths xs (0 ∷ rest))

abbrev pub equation_depths : Equation → List ℕ → List ℕ
equation_depths (Without x es) rest = 0 ∷ eliminations_depths es 0 rest
equation_depths (With x es q t) rest = 0 ∷ eliminations_depths es 0 (0 ∷ depths t 0 rest)

abbrev pub field_blocks_depths : MoreFieldBlocks → List ℕ → List ℕ
field_blocks_depths LastFieldBlock rest = rest
field_blocks_depths (NextFieldBlock n m xs fs) rest = 0 ∷ 0 ∷ declarings_depths xs (field_blocks_depths fs rest)

abbrev pub record_items_depths : RecordItems → List ℕ → List ℕ
record_items_depths NoRecordItem rest = rest
record_items_depths (FieldsAlone m xs fs) rest = 0 ∷ declarings_depths xs (field_blocks_depths fs rest)
record_items_depths (OfInduction i fs) rest = 0 ∷ field_blocks_depths fs rest
record_items_depths (OfConstructor w x fs) rest = 0 ∷ 0 ∷ field_blocks_depths fs rest
record_items_depths (InductionFirst i n w x fs) rest = 0 ∷ 0 ∷ 0 ∷ 0 ∷ field_blocks_depths fs rest
record_items_depths (ConstructorFirst w x n i fs) rest = 0 ∷ 0 ∷ 0 ∷ 0 ∷ field_blocks_depths fs rest

abbrev pub item_depths : ItemDerivation → List ℕ → List ℕ
item_depths (PostulateItem m xs) rest = 0 ∷ declarings_depths xs rest
item_depths (SignatureItem x) rest = declaring_depths x rest
item_depths (ClauseItem x) rest = equation_depths x rest
item_depths (OpenItem m x NotPublic) rest = 0 ∷ 0 ∷ rest
item_depths (OpenItem m x (IsPublic q)) rest = 0 ∷ 0 ∷ 0 ∷ rest
item_depths (DataItem m x bs o t w xs) rest = 0 ∷ 0 ∷ more_typed_depths bs 0 (0 ∷ depths t 0 (0 ∷ declarings_depths xs rest))
item_depths (RecordItemOf m x bs o t w b is c) rest = 0 ∷ 0 ∷ more_typed_depths bs 0 (0 ∷ depths t 0 (0 ∷ 0 ∷ record_items_depths is (0 ∷ rest)))

abbrev pub more_items_depths : MoreItems → List ℕ → List ℕ
more_items_depths LastItem rest = rest
more_items_depths (NextItem n x xs) rest = 0 ∷ item_depths x (more_items_depths xs rest)

abbrev pub header_depths : Header → List ℕ → List ℕ
header_depths NoHeader rest = rest
header_depths (Names m x w) rest = 0 ∷ 0 ∷ 0 ∷ rest
header_depths (NamesQualified m x w) rest = 0 ∷ 0 ∷ 0 ∷ rest

abbrev pub file_depths : FileDerivation → List ℕ → List ℕ
file_depths (EmptyFile h o c) rest = header_depths h (0 ∷ 0 ∷ rest)
file_depths (SomeFile h o x xs c) rest = header_depths h (0 ∷ item_depths x (more_items_depths xs (0 ∷ rest)))
