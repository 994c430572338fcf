-- The count of nesting over signs is that over a file's derivation.
use Rattle.std.proofs.Common.{◌≡◌, ℕ, List, [], ◌∷◌, refl, ap, ◌∙◌}
use Rattle.agda_grammar.specs.declared.sign.Kind.TheVariants as k
use Rattle.agda_grammar.specs.declared.sign.Mark.{Mark}
use Rattle.agda_grammar.specs.declared.sign.Sign.{Sign}
use Rattle.agda_grammar.specs.Signs.{tok}
use Rattle.agda_grammar.specs.Grammar.{then}
use Rattle.agda_grammar.specs.Patterns.{Matching, Simple, Matched, SimplePattern, PatternName, PatternBlank, PatternAbsurd, PatternParen, PatternDotted, Elimination, Explicit, Implicit, EquatedPattern, Projection, ProjectionQualified, Eliminations, NoElimination, MoreElimination, matching_then, simple_then, elimination_then, eliminations_then}
use Rattle.agda_grammar.specs.Declarations.{Declaring, Declares, MoreDeclaring, LastDeclaring, NextDeclaring, Declarings, NoDeclaring, SomeDeclaring, Equation, Without, With, IsInductive, IsCoinductive, MoreFieldBlocks, LastFieldBlock, NextFieldBlock, RecordItems, NoRecordItem, FieldsAlone, OfInduction, OfConstructor, InductionFirst, ConstructorFirst, NotPublic, IsPublic, ItemDerivation, PostulateItem, SignatureItem, ClauseItem, OpenItem, DataItem, RecordItemOf, MoreItems, LastItem, NextItem, Header, NoHeader, Names, NamesQualified, FileDerivation, EmptyFile, SomeFile, declaring_then, more_declaring_then, declarings_then, equation_then, field_blocks_then, record_items_then, item_then, more_items_then, header_then, file_then}
use Rattle.agda_grammar.specs.Nesting.{rise, origin, nestings, shallow, leading}
use Rattle.agda_grammar.specs.Depths.{names_depths, depths, more_typed_depths}
use Rattle.agda_grammar.specs.FileDepths.{matching_depths, simple_depths, elimination_depths, eliminations_depths, declaring_depths, more_declaring_depths, declarings_depths, equation_depths, field_blocks_depths, record_items_depths, item_depths, more_items_depths, header_depths, file_depths}
use Rattle.agda_grammar.proofs.Depths.{at, out, names_counted, more_typed_counted, counted, shallow_counted}

mutual
  matching_counted : (x : Matching) (n : ℕ) (ns : List ℕ) (rest : List Sign) → nestings (at n ns) (matching_then x rest) ≡ matching_depths x n (nestings (at n ns) rest)
  matching_counted (Simple x) n ns rest = simple_counted x n ns rest
  matching_counted (Matched x e es) n ns rest = ap (λ (y : List ℕ). n ∷ y) (elimination_counted e n ns (eliminations_then es rest) ∙ ap (elimination_depths e n) (eliminations_counted es n ns rest))

  simple_counted : (x : SimplePattern) (n : ℕ) (ns : List ℕ) (rest : List Sign) → nestings (at n ns) (simple_then x rest) ≡ simple_depths x n (nestings (at n ns) rest)
  simple_counted (PatternName x) n ns rest = refl
  simple_counted (PatternBlank x) n ns rest = refl
  simple_counted (PatternAbsurd l c) n ns rest = refl
  simple_counted (PatternParen l x c) n ns rest = ap (λ (y : List ℕ). n ∷ y) (matching_counted x (rise n) (n ∷ ns) (tok k.ParenClose c ∷ rest))
  simple_counted (PatternDotted o l x c) n ns rest = ap (λ (y : List ℕ). n ∷ n ∷ y) (counted x (rise n) (n ∷ ns) (tok k.ParenClose c ∷ rest))

  elimination_counted : (e : Elimination) (n : ℕ) (ns : List ℕ) (rest : List Sign) → nestings (at n ns) (elimination_then e rest) ≡ elimination_depths e n (nestings (at n ns) rest)
  elimination_counted (Explicit x) n ns rest = simple_counted x n ns rest
  elimination_counted (Implicit l x c) n ns rest = ap (λ (y : List ℕ). n ∷ y) (matching_counted x (rise n) (n ∷ ns) (tok k.BraceClose c ∷ rest))
  elimination_counted (EquatedPattern l z q x c) n ns rest = ap (λ (y : List ℕ). n ∷ rise n ∷ rise n ∷ y) (matching_counted x (rise n) (n ∷ ns) (tok k.BraceClose c ∷ rest))
  elimination_counted (Projection o x) n ns rest = refl
  elimination_counted (ProjectionQualified o x) n ns rest = refl

  eliminations_counted : (es : Eliminations) (n : ℕ) (ns : List ℕ) (rest : List Sign) → nestings (at n ns) (eliminations_then es rest) ≡ eliminations_depths es n (nestings (at n ns) rest)
  eliminations_counted NoElimination n ns rest = refl
  eliminations_counted (MoreElimination e es) n ns rest = elimination_counted e n ns (eliminations_then es rest) ∙ ap (elimination_depths e n) (eliminations_counted es n ns rest)

-- the nesting of what comes behind a part of a declaration, if it is neither `where` nor a sign of a block
abbrev declaring_out : Declaring → ℕ
declaring_out (Declares x xs o t) = out t 0

abbrev equation_out : Equation → ℕ
equation_out (Without x es) = 0
equation_out (With x es q t) = out t 0

abbrev item_out : ItemDerivation → ℕ
item_out (PostulateItem m xs) = 0
item_out (SignatureItem x) = declaring_out x
item_out (ClauseItem x) = equation_out x
item_out (OpenItem m x y) = 0
item_out (DataItem m x bs o t w xs) = 0
item_out (RecordItemOf m x bs o t w b is c) = 0

declaring_counted : (x : Declaring) (rest : List Sign) → nestings origin (declaring_then x rest) ≡ declaring_depths x (nestings (at (declaring_out x) []) rest)
declaring_counted (Declares x xs o t) rest = ap (λ (y : List ℕ). 0 ∷ y) (names_counted xs 0 [] (tok k.Colon o ∷ then t rest) ∙ ap (λ (y : List ℕ). names_depths xs 0 (0 ∷ y)) (counted t 0 [] rest))

more_declaring_counted : (xs : MoreDeclaring) (m : ℕ) (c : Mark) (rest : List Sign) → nestings (at m []) (more_declaring_then xs (tok k.BlockClose c ∷ rest)) ≡ more_declaring_depths xs (0 ∷ nestings origin rest)
more_declaring_counted LastDeclaring m c rest = refl
more_declaring_counted (NextDeclaring n x xs) m c rest =
    ap (λ (y : List ℕ). 0 ∷ y) (declaring_counted x (more_declaring_then xs (tok k.BlockClose c ∷ rest)) ∙ ap (declaring_depths x) (more_declaring_counted xs (declaring_out x) c rest))

declarings_counted : (xs : Declarings) (m : ℕ) (rest : List Sign) → nestings (at m []) (declarings_then xs rest) ≡ declarings_depths xs (nestings origin rest)
declarings_counted (NoDeclaring o c) m rest = refl
declarings_counted (SomeDeclaring o x xs c) m rest =
    ap (λ (y : List ℕ). 0 ∷ y) (declaring_counted x (more_declaring_then xs (tok k.BlockClose c ∷ rest)) ∙ ap (declaring_depths x) (more_declaring_counted xs (declaring_out x) c rest))

equation_counted : (x : Equation) (rest : List Sign) → nestings origin (equation_then x rest) ≡ equation_depths x (nestings (at (equation_out x) []) rest)
equation_counted (Without x es) rest = ap (λ (y : List ℕ). 0 ∷ y) (eliminations_counted es 0 [] rest)
equation_counted (With x es q t) rest = ap (λ (y : List ℕ). 0 ∷ y) (eliminations_counted es 0 [] (tok k.Equals q ∷ then t rest) ∙ ap (λ (y : List ℕ). eliminations_depths es 0 (0 ∷ y)) (counted t 0 [] rest))

field_blocks_counted : (fs : MoreFieldBlocks) (m : ℕ) (c : Mark) (rest : List Sign) → nestings (at m []) (field_blocks_then fs (tok k.BlockClose c ∷ rest)) ≡ field_blocks_depths fs (0 ∷ nestings origin rest)
field_blocks_counted LastFieldBlock m c rest = refl
field_blocks_counted (NextFieldBlock n w xs fs) m c rest =
    ap (λ (y : List ℕ). 0 ∷ 0 ∷ y) (declarings_counted xs 0 (field_blocks_then fs (tok k.BlockClose c ∷ rest)) ∙ ap (declarings_depths xs) (field_blocks_counted fs 0 c rest))

record_items_counted : (xs : RecordItems) (c : Mark) (rest : List Sign) → nestings origin (record_items_then xs (tok k.BlockClose c ∷ rest)) ≡ record_items_depths xs (0 ∷ nestings origin rest)
record_items_counted NoRecordItem c rest = refl
record_items_counted (FieldsAlone m xs fs) c rest =
    ap (λ (y : List ℕ). 0 ∷ y) (declarings_counted xs 0 (field_blocks_then fs (tok k.BlockClose c ∷ rest)) ∙ ap (declarings_depths xs) (field_blocks_counted fs 0 c rest))
record_items_counted (OfInduction (IsInductive i) fs) c rest = ap (λ (y : List ℕ). 0 ∷ y) (field_blocks_counted fs 0 c rest)
record_items_counted (OfInduction (IsCoinductive i) fs) c rest = ap (λ (y : List ℕ). 0 ∷ y) (field_blocks_counted fs 0 c rest)
record_items_counted (OfConstructor w x fs) c rest = ap (λ (y : List ℕ). 0 ∷ 0 ∷ y) (field_blocks_counted fs 0 c rest)
record_items_counted (InductionFirst (IsInductive i) n w x fs) c rest = ap (λ (y : List ℕ). 0 ∷ 0 ∷ 0 ∷ 0 ∷ y) (field_blocks_counted fs 0 c rest)
record_items_counted (InductionFirst (IsCoinductive i) n w x fs) c rest = ap (λ (y : List ℕ). 0 ∷ 0 ∷ 0 ∷ 0 ∷ y) (field_blocks_counted fs 0 c rest)
record_items_counted (ConstructorFirst w x n (IsInductive i) fs) c rest = ap (λ (y : List ℕ). 0 ∷ 0 ∷ 0 ∷ 0 ∷ y) (field_blocks_counted fs 0 c rest)
record_items_counted (ConstructorFirst w x n (IsCoinductive i) fs) c rest = ap (λ (y : List ℕ). 0 ∷ 0 ∷ 0 ∷ 0 ∷ y) (field_blocks_counted fs 0 c rest)

item_counted : (x : ItemDerivation) (rest : List Sign) → nestings origin (item_then x rest) ≡ item_depths x (nestings (at (item_out x) []) rest)
item_counted (PostulateItem m xs) rest = ap (λ (y : List ℕ). 0 ∷ y) (declarings_counted xs 0 rest)
item_counted (SignatureItem x) rest = declaring_counted x rest
item_counted (ClauseItem x) rest = equation_counted x rest
item_counted (OpenItem m x NotPublic) rest = refl
item_counted (OpenItem m x (IsPublic q)) rest = refl
item_counted (DataItem m x bs o t w xs) rest =
    ap (λ (y : List ℕ). 0 ∷ 0 ∷ y) (more_typed_counted bs 0 [] (tok k.Colon o ∷ then t (tok k.Where w ∷ declarings_then xs rest))
    ∙ ap (λ (y : List ℕ). more_typed_depths bs 0 (0 ∷ y)) (counted t 0 [] (tok k.Where w ∷ declarings_then xs rest) ∙ ap (λ (y : List ℕ). depths t 0 (0 ∷ y)) (declarings_counted xs 0 rest)))
item_counted (RecordItemOf m x bs o t w b is c) rest =
    let inside : List Sign = tok k.BlockOpen b ∷ record_items_then is (tok k.BlockClose c ∷ rest) in
    ap (λ (y : List ℕ). 0 ∷ 0 ∷ y) (more_typed_counted bs 0 [] (tok k.Colon o ∷ then t (tok k.Where w ∷ inside))
    ∙ ap (λ (y : List ℕ). more_typed_depths bs 0 (0 ∷ y)) (counted t 0 [] (tok k.Where w ∷ inside) ∙ ap (λ (y : List ℕ). depths t 0 (0 ∷ 0 ∷ y)) (record_items_counted is c rest)))

more_items_counted : (xs : MoreItems) (m : ℕ) (c : Mark) (rest : List Sign) → nestings (at m []) (more_items_then xs (tok k.BlockClose c ∷ rest)) ≡ more_items_depths xs (0 ∷ nestings origin rest)
more_items_counted LastItem m c rest = refl
more_items_counted (NextItem n x xs) m c rest = ap (λ (y : List ℕ). 0 ∷ y) (item_counted x (more_items_then xs (tok k.BlockClose c ∷ rest)) ∙ ap (item_depths x) (more_items_counted xs (item_out x) c rest))

header_counted : (h : Header) (rest : List Sign) → nestings origin (header_then h rest) ≡ header_depths h (nestings origin rest)
header_counted NoHeader rest = refl
header_counted (Names m x w) rest = refl
header_counted (NamesQualified m x w) rest = refl

pub file_counted : (d : FileDerivation) → nestings origin (file_then d []) ≡ file_depths d []
file_counted (EmptyFile h o c) = header_counted h (tok k.BlockOpen o ∷ tok k.BlockClose c ∷ [])
file_counted (SomeFile h o x xs c) =
    header_counted h (tok k.BlockOpen o ∷ item_then x (more_items_then xs (tok k.BlockClose c ∷ [])))
    ∙ ap (λ (y : List ℕ). header_depths h (0 ∷ y)) (item_counted x (more_items_then xs (tok k.BlockClose c ∷ [])) ∙ ap (item_depths x) (more_items_counted xs (item_out x) c []))

pub file_derivation_counted : (d : FileDerivation) → shallow origin (file_then d []) ≡ leading (file_depths d [])
file_derivation_counted d = shallow_counted origin (file_then d []) ∙ ap leading (file_counted d)
