-- Each rule of the grammar of declarations and files is read as the grammar says.
use Rattle.std.proofs.Common.{◌≡◌, ℕ, Bool, true, false, List, [], ◌∷◌, ◌⊎◌, inl, inr, length, Option, Some, None, refl, sym, ap, ◌∙◌, arith}
use Rattle.std.proofs.lemmas.List.{append-nil}
use Rattle.source_tree.specs.declared.expr.Expr.{Expr}
use Rattle.source_tree.specs.declared.pattern.Pattern.{Pattern}
use Rattle.source_tree.specs.declared.decl.Signature.{Signature}
use Rattle.source_tree.specs.declared.decl.Clause.{Clause}
use Rattle.source_tree.specs.declared.decl.RecordItem.{RecordItem}
use Rattle.source_tree.specs.declared.decl.RecordItem.TheVariants as r
use Rattle.source_tree.specs.declared.decl.Decl.TheVariants as d
use Rattle.source_tree.specs.declared.decl.File.{File}
use Rattle.source_tree.specs.Places.{joined}
use Rattle.agda_grammar.specs.declared.sign.Kind.TheVariants as k
use Rattle.agda_grammar.specs.declared.sign.Mark.{Mark}
use Rattle.agda_grammar.specs.declared.sign.Sign.{Sign}
use Rattle.agda_grammar.specs.declared.entry.Entry.{Entry}
use Rattle.agda_grammar.specs.declared.entry.Entry.TheVariants as entry
use Rattle.agda_grammar.specs.Names.{name_of}
use Rattle.agda_grammar.specs.Signs.{Input, tok}
use Rattle.expr_parser.specs.Cursor.{same_kind, is, expect, colon_follows}
use Rattle.agda_grammar.specs.Grammar.{Derivation, then, tree}
use Rattle.agda_grammar.specs.Patterns.{Eliminations, eliminations_then, eliminations_tree}
use Rattle.agda_grammar.specs.Declarations.{Declaring, Declares, MoreDeclaring, LastDeclaring, NextDeclaring, Declarings, NoDeclaring, SomeDeclaring, Equation, Without, With, Induction, IsInductive, IsCoinductive, MoreFieldBlocks, LastFieldBlock, NextFieldBlock, RecordItems, NoRecordItem, FieldsAlone, OfInduction, OfConstructor, InductionFirst, ConstructorFirst, NotPublic, IsPublic, ItemDerivation, PostulateItem, SignatureItem, ClauseItem, OpenItem, DataItem, RecordItemOf, MoreItems, LastItem, NextItem, Header, NoHeader, Names, NamesQualified, FileDerivation, EmptyFile, SomeFile, declaring_then, more_declaring_then, declarings_then, equation_then, induction_then, field_blocks_then, record_items_then, publicity_then, item_then, more_items_then, header_then, file_then, last_signature, last_item, named_place, signature, clause, field_block, text_place, declaring_tree, more_declaring_tree, declarings_tree, equation_tree, induction_tree, constructor_tree, field_blocks_tree, record_items_tree, item_tree, more_items_tree, file_tree}
use Rattle.agda_grammar.specs.Groups.{grouped}
use Rattle.expr_parser.specs.Syntax.{name, names, one_name, expr}
use Rattle.expr_parser.specs.PatternSyntax.{elims, pattern}
use Rattle.agda_parser.specs.DeclarationSyntax.{is_induction, declaring, one_declaring, more_declaring, inner_declarings, declarings, right_side, sides, equation, induction, constructor_item, field_item, one_field_item, more_field_items, second_item, record_items, postulate_item, publicity, open_item, data_item, record_item, named_item, item, one_item, more_items, inner_items, module_name, header, file, whole_file}
use Rattle.parse_laws.specs.Parser.{◌>>=◌, pure, one, with_taken, many_from}
use Rattle.parse_laws.proofs.Good.{Language, Family, Good, Seq, bind_good, pure_good, weaken, shorten, choose_good, taken_good, ended_good, good_up, bind_up, taken_up}
use Rattle.parse_laws.proofs.Many.{AllOf, Item, Behind, many_good, optional_good}
use Rattle.parse_laws.proofs.Look.{lined, lined_longer, look_good}
use Rattle.expr_parser.proofs.Steps.{both, single, nothing, As, long_as, all_of, Is, expect_good}
use Rattle.expr_parser.proofs.NameRules.{name_good, names_good, all_names, name_is, over_colon, names_up, lined_count, left_eats}
use Rattle.expr_parser.proofs.Rules.{Derives, more_typed_good, all_typed, expr_good}
use Rattle.expr_parser.proofs.PatternRules.{all_elims, elims_good, elims_eats, pattern_good, pattern_eats}

-- ---- derivations of blocks and right sides, put together

-- the inside of a block of signatures
abbrev pub inside_then : Option (Declaring × MoreDeclaring) → Input → Input
inside_then None rest = rest
inside_then (Some p) rest = declaring_then p.0 (more_declaring_then p.1 rest)

abbrev pub block_of : Mark → Option (Declaring × MoreDeclaring) → Mark → Declarings
block_of o None c = NoDeclaring o c
block_of o (Some p) c = SomeDeclaring o p.0 p.1 c

block_of_then : (o : Mark) (i : Option (Declaring × MoreDeclaring)) (c : Mark) (rest : Input) → declarings_then (block_of o i c) rest ≡ tok k.BlockOpen o ∷ inside_then i (tok k.BlockClose c ∷ rest)
block_of_then o None c rest = refl
block_of_then o (Some p) c rest = refl

-- ["=" expr]
abbrev pub right_then : Option (Mark × Derivation) → Input → Input
right_then None rest = rest
right_then (Some q) rest = tok k.Equals q.0 ∷ then q.1 rest

abbrev pub equated : Mark → Eliminations → Option (Mark × Derivation) → Equation
equated x es None = Without x es
equated x es (Some q) = With x es q.0 q.1

equated_then : (x : Mark) (es : Eliminations) (q : Option (Mark × Derivation)) (rest : Input) → equation_then (equated x es q) rest ≡ tok k.Name x ∷ eliminations_then es (right_then q rest)
equated_then x es None rest = refl
equated_then x es (Some q) rest = refl

-- what follows the first item of a record, if that is no field: blocks of fields alone, or another item before them
abbrev pub second_then : {D : Type 0} → (D → Input → Input) → MoreFieldBlocks ⊎ (Mark × D × MoreFieldBlocks) → Input → Input
second_then f (inl fs) rest = field_blocks_then fs rest
second_then f (inr p) rest = tok k.BlockNext p.0 ∷ f p.1 (field_blocks_then p.2 rest)

abbrev pub constructor_then : Mark × Mark → Input → Input
constructor_then p rest = tok k.Constructor p.0 ∷ tok k.Name p.1 ∷ rest

abbrev pub from_induction : Induction → MoreFieldBlocks ⊎ (Mark × (Mark × Mark) × MoreFieldBlocks) → RecordItems
from_induction i (inl fs) = OfInduction i fs
from_induction i (inr p) = InductionFirst i p.0 p.1.0 p.1.1 p.2

from_induction_then : (i : Induction) (s : MoreFieldBlocks ⊎ (Mark × (Mark × Mark) × MoreFieldBlocks)) (rest : Input) → record_items_then (from_induction i s) rest ≡ induction_then i (second_then constructor_then s rest)
from_induction_then i (inl fs) rest = refl
from_induction_then i (inr p) rest = refl

abbrev pub from_constructor : Mark × Mark → MoreFieldBlocks ⊎ (Mark × Induction × MoreFieldBlocks) → RecordItems
from_constructor w (inl fs) = OfConstructor w.0 w.1 fs
from_constructor w (inr p) = ConstructorFirst w.0 w.1 p.0 p.1 p.2

from_constructor_then : (w : Mark × Mark) (s : MoreFieldBlocks ⊎ (Mark × Induction × MoreFieldBlocks)) (rest : Input) → record_items_then (from_constructor w s) rest ≡ constructor_then w (second_then induction_then s rest)
from_constructor_then w (inl fs) rest = refl
from_constructor_then w (inr p) rest = refl

-- the inside of a file
abbrev pub items_then : Option (ItemDerivation × MoreItems) → Input → Input
items_then None rest = rest
items_then (Some p) rest = item_then p.0 (more_items_then p.1 rest)

abbrev pub file_of : Header → Mark → Option (ItemDerivation × MoreItems) → Mark → FileDerivation
file_of h o None c = EmptyFile h o c
file_of h o (Some p) c = SomeFile h o p.0 p.1 c

file_of_then : (h : Header) (o : Mark) (i : Option (ItemDerivation × MoreItems)) (c : Mark) (rest : Input) → file_then (file_of h o i c) rest ≡ header_then h (tok k.BlockOpen o ∷ items_then i (tok k.BlockClose c ∷ rest))
file_of_then h o None c rest = refl
file_of_then h o (Some p) c rest = refl

module _ (text : List ℕ) where
  abbrev pub inside_tree : Option (Declaring × MoreDeclaring) → List Signature
  inside_tree None = []
  inside_tree (Some p) = declaring_tree text p.0 ∷ more_declaring_tree text p.1

  block_of_tree : (o : Mark) (i : Option (Declaring × MoreDeclaring)) (c : Mark) → declarings_tree text (block_of o i c) ≡ inside_tree i
  block_of_tree o None c = refl
  block_of_tree o (Some p) c = refl

  abbrev pub right_tree : Option (Mark × Derivation) → Option Expr
  right_tree None = None
  right_tree (Some q) = Some (tree text q.1)

  equated_tree : (x : Mark) (es : Eliminations) (q : Option (Mark × Derivation)) → equation_tree text (equated x es q) ≡ clause text x (eliminations_then es (right_then q [])) (eliminations_tree text es) (right_tree q)
  equated_tree x es None = refl
  equated_tree x es (Some q) = refl

  abbrev pub second_tree : {D : Type 0} → (D → RecordItem) → RecordItem → MoreFieldBlocks ⊎ (Mark × D × MoreFieldBlocks) → List RecordItem
  second_tree g x (inl fs) = x ∷ field_blocks_tree text fs
  second_tree g x (inr p) = x ∷ g p.1 ∷ field_blocks_tree text p.2

  abbrev pub constructor_of : Mark × Mark → RecordItem
  constructor_of p = constructor_tree text p.0 p.1

  from_induction_tree : (i : Induction) (s : MoreFieldBlocks ⊎ (Mark × (Mark × Mark) × MoreFieldBlocks)) → record_items_tree text (from_induction i s) ≡ second_tree constructor_of (induction_tree text i) s
  from_induction_tree i (inl fs) = refl
  from_induction_tree i (inr p) = refl

  from_constructor_tree : (w : Mark × Mark) (s : MoreFieldBlocks ⊎ (Mark × Induction × MoreFieldBlocks)) → record_items_tree text (from_constructor w s) ≡ second_tree (induction_tree text) (constructor_of w) s
  from_constructor_tree w (inl fs) = refl
  from_constructor_tree w (inr p) = refl

  abbrev pub items_tree : Option (ItemDerivation × MoreItems) → List Entry
  items_tree None = []
  items_tree (Some p) = item_tree text p.0 ∷ more_items_tree text p.1

  abbrev pub file_with : List Entry → File
  file_with xs = record { place = text_place text; decls = grouped xs }

  file_of_tree : (h : Header) (o : Mark) (i : Option (ItemDerivation × MoreItems)) (c : Mark) → file_tree text (file_of h o i c) ≡ file_with (items_tree i)
  file_of_tree h o None c = refl
  file_of_tree h o (Some p) c = refl

  module _ (n : ℕ) where
    goodi : Good (Derives text) (expr text) 0 n
    goodi = expr_good text n

    -- ---- signatures

    abbrev IsDeclaring : Language Sign Signature
    IsDeclaring = As declaring_then (declaring_tree text)

    declaring_good : Good IsDeclaring (λ j. declaring text j) 0 n
    unfolding declaring
    declaring_good = weaken _ _ _ 0 n (λ y cs r. let xs = r.second in let o = xs.second in let t = o.second in
        let all = all_names text (r.value ∷ []) xs.first.more xs.front xs.first.each in record {
          derivation = Declares r.first.derivation all.derivation o.value t.first.derivation;
          gives = t.second.0 ∙ (λ i. signature (r.first.gives i).place (xs.first.is i) (t.first.gives i)) ∙ (λ i. signature r.first.derivation.place (r.first.gives i ∷ all.gives i) (tree text t.first.derivation));
          spells = record { at = (both r.whole r.first.spells (both xs.whole all.spells (both o.whole (single k.Colon _ _ o.first) (both t.whole t.first.spells (nothing _ t.second.1))))).at };
        })
        (bind_good _ _ _ _ 0 n (name_good text 0 n) (λ x. bind_good _ _ _ _ 0 n (names_good text (x ∷ []) n) (λ xs. bind_good _ _ _ _ 0 n (expect_good k.Colon 0 n) (λ _. bind_good _ _ _ _ 0 n goodi
        (λ t. pure_good (signature x.place xs t) 0 n)))))

    declaring_eats : left_eats (λ j. declaring text j) 0 n
    unfolding declaring names name expect one same_kind
    declaring_eats [] u st lt = good_up _ _ 0 n declaring_good (length u) u lt (omega arith)
    declaring_eats (x ∷ xs) u st lt = bind_up (length u) (many_from (λ _. one_name text) n (name_of text x ∷ []) (lined (tok k.Name) xs u)) _ (names_up text n (name_of text x ∷ []) xs u (omega (arith, lined_count xs u)) st)
        (λ ys ts le. good_up _ _ 0 n (bind_good _ _ _ _ 0 n (expect_good k.Colon 0 n) (λ _. bind_good _ _ _ _ 0 n goodi (λ t. pure_good (signature x.place ys t) 0 n)))
        (length u) ts (omega (arith, lined_longer (tok k.Name) xs u)) le)

    abbrev NextIsDeclaring : Language Sign Signature
    NextIsDeclaring = As (λ (p : Mark × Declaring). λ rest. tok k.BlockNext p.0 ∷ declaring_then p.1 rest) (λ p. declaring_tree text p.1)

    one_declaring_good : (found : List Signature) → Good (Item (λ _. NextIsDeclaring) found) (λ j. one_declaring text j) 0 n
    unfolding one_declaring
    one_declaring_good found = optional_good (is k.BlockNext) (λ _. NextIsDeclaring) found _ 0 n
        (weaken _ _ _ 0 n (λ y cs r. record {
          derivation = (r.value, r.second.derivation);
          gives = r.second.gives;
          spells = record { at = (both r.whole (single k.BlockNext _ _ r.first) r.second.spells).at };
        }) (bind_good _ _ _ _ 0 n (expect_good k.BlockNext 0 n) (λ _. declaring_good)))
        (long_as _ _ (λ d. omega arith))

    more_declaring_good : (found : List Signature) → Good (Behind (λ _. NextIsDeclaring) found) (λ j. more_declaring text j found) 0 n
    unfolding more_declaring one_declaring
    more_declaring_good found = many_good (λ _. NextIsDeclaring) (λ j _. one_declaring text j) 0 n one_declaring_good (λ m f. refl) (omega arith) found

    all_declaring : (found xs : List Signature) (c : Input) → AllOf (λ _. NextIsDeclaring) found xs c → As more_declaring_then (more_declaring_tree text) xs c
    all_declaring = all_of (λ (p : Mark × Declaring). λ rest. tok k.BlockNext p.0 ∷ declaring_then p.1 rest) (λ p. declaring_tree text p.1)
        more_declaring_then (more_declaring_tree text) LastDeclaring (λ p. NextDeclaring p.0 p.1) (λ rest. refl) refl (λ d ds rest. refl) (λ d ds. refl)

    inner_declarings_good : Good (As inside_then inside_tree) (λ j. inner_declarings text j) 0 n
    unfolding inner_declarings
    inner_declarings_good = choose_good (is k.BlockClose) (As inside_then inside_tree) _ _ 0 n
        (weaken _ _ _ 0 n (λ y cs r. record { derivation = None; gives = r.0; spells = record { at = (nothing _ r.1).at } }) (pure_good [] 0 n))
        (weaken _ _ _ 0 n (λ y cs r. let xs = all_declaring (r.value ∷ []) r.second.more r.back r.second.each in record {
          derivation = Some (r.first.derivation, xs.derivation);
          gives = r.second.is ∙ (λ i. r.first.gives i ∷ xs.gives i);
          spells = record { at = (both r.whole r.first.spells xs.spells).at };
        }) (bind_good _ _ _ _ 0 n declaring_good (λ x. more_declaring_good (x ∷ []))))

    abbrev IsDeclarings : Language Sign (List Signature)
    IsDeclarings = As declarings_then (declarings_tree text)

    declarings_good : Good IsDeclarings (λ j. declarings text j) 0 n
    unfolding declarings
    declarings_good = weaken _ _ _ 0 n (λ y cs r. let xs = r.second in let c = xs.second in let i = xs.first.derivation in record {
      derivation = block_of r.value i c.value;
      gives = c.second.0 ∙ xs.first.gives ∙ sym (block_of_tree r.value i c.value);
      spells = record { at = λ rest. block_of_then r.value i c.value rest ∙ (both r.whole (single k.BlockOpen _ _ r.first) (both xs.whole xs.first.spells (both c.whole (single k.BlockClose _ _ c.first) (nothing _ c.second.1)))).at rest };
    })
        (bind_good _ _ _ _ 0 n (expect_good k.BlockOpen 0 n) (λ _. bind_good _ _ _ _ 0 n inner_declarings_good (λ xs. bind_good _ _ _ _ 0 n (expect_good k.BlockClose 0 n) (λ _. pure_good xs 0 n))))

    -- ---- clauses

    right_good : Good (As right_then right_tree) (λ j. right_side text j) 0 n
    unfolding right_side
    right_good = choose_good (is k.Equals) (As right_then right_tree) _ _ 0 n
        (weaken _ _ _ 0 n (λ y cs r. let t = r.second in record {
          derivation = Some (r.value, t.first.derivation);
          gives = t.second.0 ∙ ap (λ (x : Expr). Some x) t.first.gives;
          spells = record { at = (both r.whole (single k.Equals _ _ r.first) (both t.whole t.first.spells (nothing _ t.second.1))).at };
        }) (bind_good _ _ _ _ 0 n (expect_good k.Equals 0 n) (λ _. bind_good _ _ _ _ 0 n goodi (λ t. pure_good (Some t) 0 n))))
        (weaken _ _ _ 0 n (λ y cs r. record { derivation = None; gives = r.0; spells = record { at = (nothing _ r.1).at } }) (pure_good None 0 n))

    abbrev sides_then : Eliminations × Option (Mark × Derivation) → Input → Input
    sides_then p rest = eliminations_then p.0 (right_then p.1 rest)

    abbrev sides_tree : Eliminations × Option (Mark × Derivation) → List Pattern × Option Expr
    sides_tree p = (eliminations_tree text p.0, right_tree p.1)

    sides_good : Good (As sides_then sides_tree) (λ j. sides text j) 0 n
    unfolding sides
    sides_good = weaken _ _ _ 0 n (λ y cs r. let t = r.second in let all = all_elims text n (pattern_good text n) (pattern_eats text n) [] r.first.more r.front r.first.each in record {
      derivation = (all.derivation, t.first.derivation);
      gives = t.second.0 ∙ (λ i. ((r.first.is ∙ all.gives) i, t.first.gives i));
      spells = record { at = (both r.whole all.spells (both t.whole t.first.spells (nothing _ t.second.1))).at };
    })
        (bind_good _ _ _ _ 0 n (shorten _ _ n (elims_good text n (pattern_good text n) (pattern_eats text n))) (λ es. bind_good _ _ _ _ 0 n right_good (λ t. let q : List Pattern × Option Expr = (es, t) in pure_good q 0 n)))

    sides_eats : left_eats (λ j. sides text j) 0 n
    unfolding sides
    sides_eats xs u st lt = bind_up (length u) (elims text n (pattern text n) (lined (tok k.Name) xs u)) _ (elims_eats text n (pattern_good text n) (pattern_eats text n) xs u st (omega arith))
        (λ es ts le. good_up _ _ 0 n (bind_good _ _ _ _ 0 n right_good (λ t. let q : List Pattern × Option Expr = (es, t) in pure_good q 0 n)) (length u) ts (omega (arith, lined_longer (tok k.Name) xs u)) le)

    abbrev IsEquation : Language Sign Clause
    IsEquation = As equation_then (equation_tree text)

    equation_good : Good IsEquation (λ j. equation text j) 0 n
    unfolding equation
    equation_good = weaken _ _ _ 0 n (λ y cs r. let w = r.second in let d = w.first.0.derivation in
        let spelled : sides_then d [] ≡ w.front = w.first.0.spells.at [] ∙ append-nil w.front in record {
          derivation = equated r.value d.0 d.1;
          gives = w.second.0 ∙ (λ i. clause text r.value ((w.first.1 ∙ sym spelled) i) (w.first.0.gives i).0 (w.first.0.gives i).1) ∙ sym (equated_tree r.value d.0 d.1);
          spells = record { at = λ rest. equated_then r.value d.0 d.1 rest ∙ (both r.whole (single k.Name _ _ r.first) (both w.whole w.first.0.spells (nothing _ w.second.1))).at rest };
        })
        (bind_good _ _ _ _ 0 n (expect_good k.Name 0 n) (λ x. bind_good _ _ _ _ 0 n (taken_good _ (λ j. sides text j) 0 n sides_good) (λ q. pure_good (clause text x q.1 q.0.0 q.0.1) 0 n)))

    equation_eats : left_eats (λ j. equation text j) 0 n
    unfolding equation with_taken expect one same_kind
    equation_eats [] u st lt = good_up _ _ 0 n equation_good (length u) u lt (omega arith)
    equation_eats (x ∷ xs) u st lt = bind_up (length u) (with_taken (sides text n) (lined (tok k.Name) xs u)) _ (taken_up (length u) (lined (tok k.Name) xs u) (sides text n (lined (tok k.Name) xs u)) (sides_eats xs u st (omega arith))) (λ q ts le. le)

    -- ---- the items of a record

    induction_good : Good (As induction_then (induction_tree text)) (λ j. induction text j) 0 n
    unfolding induction
    induction_good = choose_good (is k.Inductive) (As induction_then (induction_tree text)) _ _ 0 n
        (weaken _ _ _ 0 n (λ y cs r. record { derivation = IsInductive r.value; gives = r.second.0; spells = record { at = (both r.whole (single k.Inductive _ _ r.first) (nothing _ r.second.1)).at } })
        (bind_good _ _ _ _ 0 n (expect_good k.Inductive 0 n) (λ m. pure_good (r.Inductive m.place) 0 n)))
        (weaken _ _ _ 0 n (λ y cs r. record { derivation = IsCoinductive r.value; gives = r.second.0; spells = record { at = (both r.whole (single k.Coinductive _ _ r.first) (nothing _ r.second.1)).at } })
        (bind_good _ _ _ _ 0 n (expect_good k.Coinductive 0 n) (λ m. pure_good (r.Coinductive m.place) 0 n)))

    constructor_good : Good (As constructor_then constructor_of) (λ j. constructor_item text j) 0 n
    unfolding constructor_item
    constructor_good = weaken _ _ _ 0 n (λ y cs r. let x = r.second in record {
      derivation = (r.value, x.value);
      gives = x.second.0;
      spells = record { at = (both r.whole (single k.Constructor _ _ r.first) (both x.whole (single k.Name _ _ x.first) (nothing _ x.second.1))).at };
    })
        (bind_good _ _ _ _ 0 n (expect_good k.Constructor 0 n) (λ w. bind_good _ _ _ _ 0 n (expect_good k.Name 0 n) (λ x. pure_good (r.Constructor (joined w.place x.place) (name_of text x)) 0 n)))

    abbrev IsFieldItem : Language Sign RecordItem
    IsFieldItem = As (λ (p : Mark × Declarings). λ rest. tok k.Field p.0 ∷ declarings_then p.1 rest) (λ p. field_block p.0 (declarings_tree text p.1))

    field_item_good : Good IsFieldItem (λ j. field_item text j) 0 n
    unfolding field_item
    field_item_good = weaken _ _ _ 0 n (λ y cs r. let xs = r.second in record {
      derivation = (r.value, xs.first.derivation);
      gives = xs.second.0 ∙ ap (field_block r.value) xs.first.gives;
      spells = record { at = (both r.whole (single k.Field _ _ r.first) (both xs.whole xs.first.spells (nothing _ xs.second.1))).at };
    })
        (bind_good _ _ _ _ 0 n (expect_good k.Field 0 n) (λ m. bind_good _ _ _ _ 0 n declarings_good (λ xs. pure_good (field_block m xs) 0 n)))

    abbrev NextIsField : Language Sign RecordItem
    NextIsField = As (λ (p : Mark × Mark × Declarings). λ rest. tok k.BlockNext p.0 ∷ tok k.Field p.1 ∷ declarings_then p.2 rest) (λ p. field_block p.1 (declarings_tree text p.2))

    one_field_good : (found : List RecordItem) → Good (Item (λ _. NextIsField) found) (λ j. one_field_item text j) 0 n
    unfolding one_field_item
    one_field_good found = optional_good (is k.BlockNext) (λ _. NextIsField) found _ 0 n
        (weaken _ _ _ 0 n (λ y cs r. let p = r.second.derivation in record {
          derivation = (r.value, p.0, p.1);
          gives = r.second.gives;
          spells = record { at = (both r.whole (single k.BlockNext _ _ r.first) r.second.spells).at };
        }) (bind_good _ _ _ _ 0 n (expect_good k.BlockNext 0 n) (λ _. field_item_good)))
        (long_as _ _ (λ d. omega arith))

    more_fields_good : (found : List RecordItem) → Good (Behind (λ _. NextIsField) found) (λ j. more_field_items text j found) 0 n
    unfolding more_field_items one_field_item
    more_fields_good found = many_good (λ _. NextIsField) (λ j _. one_field_item text j) 0 n one_field_good (λ m f. refl) (omega arith) found

    all_fields : (found xs : List RecordItem) (c : Input) → AllOf (λ _. NextIsField) found xs c → As field_blocks_then (field_blocks_tree text) xs c
    all_fields = all_of (λ (p : Mark × Mark × Declarings). λ rest. tok k.BlockNext p.0 ∷ tok k.Field p.1 ∷ declarings_then p.2 rest) (λ p. field_block p.1 (declarings_tree text p.2))
        field_blocks_then (field_blocks_tree text) LastFieldBlock (λ p. NextFieldBlock p.0 p.1 p.2) (λ rest. refl) refl (λ d ds rest. refl) (λ d ds. refl)

    -- another item, or a block of fields
    module _ {D : Type 0} (f : D → Input → Input) (g : D → RecordItem) (test : Sign → Bool) (other : Family Sign RecordItem) (good : Good (As f g) other 0 n) (x : RecordItem) where
      abbrev Either : Language Sign RecordItem
      Either y cs = As f g y cs ⊎ IsFieldItem y cs

      of_next : (y : List RecordItem) (cs : Input) → Seq (Is k.BlockNext) (λ _. Seq Either (λ z. Behind (λ _. NextIsField) (x ∷ z ∷ []))) y cs → As (second_then f) (second_tree g x) y cs
      of_next y cs r = go r.second (all_fields (x ∷ r.second.value ∷ []) r.second.second.more r.second.back r.second.second.each) r.second.first
        where
          go : (w : Seq Either (λ z. Behind (λ _. NextIsField) (x ∷ z ∷ [])) y r.back) → As field_blocks_then (field_blocks_tree text) w.second.more w.back → Either w.value w.front → As (second_then f) (second_tree g x) y cs
          go w fs (inl a) = record {
            derivation = inr (r.value, a.derivation, fs.derivation);
            gives = w.second.is ∙ (λ i. x ∷ a.gives i ∷ fs.gives i);
            spells = record { at = (both r.whole (single k.BlockNext _ _ r.first) (both w.whole a.spells fs.spells)).at };
          }
          go w fs (inr a) = record {
            derivation = inl (NextFieldBlock r.value a.derivation.0 a.derivation.1 fs.derivation);
            gives = w.second.is ∙ (λ i. x ∷ a.gives i ∷ fs.gives i);
            spells = record { at = (both r.whole (single k.BlockNext _ _ r.first) (both w.whole a.spells fs.spells)).at };
          }

      second_good : Good (As (second_then f) (second_tree g x)) (λ j. second_item text j test (other j) x) 0 n
      unfolding second_item
      second_good = choose_good (is k.BlockNext) (As (second_then f) (second_tree g x)) _ _ 0 n
          (weaken _ _ _ 0 n of_next (bind_good _ _ _ _ 0 n (expect_good k.BlockNext 0 n) (λ _. bind_good _ _ _ _ 0 n
          (choose_good test Either _ _ 0 n (weaken _ _ _ 0 n (λ y cs a. inl a) good) (weaken _ _ _ 0 n (λ y cs a. inr a) field_item_good))
          (λ y. more_fields_good (x ∷ y ∷ [])))))
          (weaken _ _ _ 0 n (λ y cs r. record { derivation = inl LastFieldBlock; gives = r.0; spells = record { at = (nothing _ r.1).at } }) (pure_good (x ∷ []) 0 n))

    abbrev IsRecordItems : Language Sign (List RecordItem)
    IsRecordItems = As record_items_then (record_items_tree text)

    record_items_good : Good IsRecordItems (λ j. record_items text j) 0 n
    unfolding record_items
    record_items_good =
        choose_good is_induction IsRecordItems _ _ 0 n
        (weaken _ _ _ 0 n (λ y cs r. let i = r.first.derivation in let s = r.second.derivation in record {
          derivation = from_induction i s;
          gives = r.second.gives ∙ ap (λ (x : RecordItem). second_tree constructor_of x s) r.first.gives ∙ sym (from_induction_tree i s);
          spells = record { at = λ rest. from_induction_then i s rest ∙ (both r.whole r.first.spells r.second.spells).at rest };
        }) (bind_good _ _ _ _ 0 n induction_good (λ x. second_good constructor_then constructor_of (is k.Constructor) (λ j. constructor_item text j) constructor_good x)))
        (choose_good (is k.Constructor) IsRecordItems _ _ 0 n
        (weaken _ _ _ 0 n (λ y cs r. let w = r.first.derivation in let s = r.second.derivation in record {
          derivation = from_constructor w s;
          gives = r.second.gives ∙ ap (λ (x : RecordItem). second_tree (induction_tree text) x s) r.first.gives ∙ sym (from_constructor_tree w s);
          spells = record { at = λ rest. from_constructor_then w s rest ∙ (both r.whole r.first.spells r.second.spells).at rest };
        }) (bind_good _ _ _ _ 0 n constructor_good (λ x. second_good induction_then (induction_tree text) is_induction (λ j. induction text j) induction_good x)))
        (choose_good (is k.BlockClose) IsRecordItems _ _ 0 n
        (weaken _ _ _ 0 n (λ y cs r. record { derivation = NoRecordItem; gives = r.0; spells = record { at = (nothing _ r.1).at } }) (pure_good [] 0 n))
        (weaken _ _ _ 0 n (λ y cs r. let p = r.first.derivation in let fs = all_fields (r.value ∷ []) r.second.more r.back r.second.each in record {
          derivation = FieldsAlone p.0 p.1 fs.derivation;
          gives = r.second.is ∙ (λ i. r.first.gives i ∷ fs.gives i);
          spells = record { at = (both r.whole r.first.spells fs.spells).at };
        }) (bind_good _ _ _ _ 0 n field_item_good (λ x. more_fields_good (x ∷ []))))))

    -- ---- items

    abbrev IsItem : Language Sign Entry
    IsItem = As item_then (item_tree text)

    postulate_good : Good IsItem (λ j. postulate_item text j) 0 n
    unfolding postulate_item
    postulate_good = weaken _ _ _ 0 n (λ y cs r. let xs = r.second in record {
      derivation = PostulateItem r.value xs.first.derivation;
      gives = xs.second.0 ∙ ap (λ (s : List Signature). entry.Other (d.Postulate (joined r.value.place (last_signature r.value.place s)) s)) xs.first.gives;
      spells = record { at = (both r.whole (single k.Postulate _ _ r.first) (both xs.whole xs.first.spells (nothing _ xs.second.1))).at };
    })
        (bind_good _ _ _ _ 0 n (expect_good k.Postulate 0 n) (λ m. bind_good _ _ _ _ 0 n declarings_good (λ xs. pure_good (entry.Other (d.Postulate (joined m.place (last_signature m.place xs)) xs)) 0 n)))

    publicity_good : (m x : Mark) → Good (As publicity_then (λ q. item_tree text (OpenItem m x q))) (λ j. publicity text j m x) 0 n
    unfolding publicity
    publicity_good m x = choose_good (is k.Public) (As publicity_then (λ q. item_tree text (OpenItem m x q))) _ _ 0 n
        (weaken _ _ _ 0 n (λ y cs r. record { derivation = IsPublic r.value; gives = r.second.0; spells = record { at = (both r.whole (single k.Public _ _ r.first) (nothing _ r.second.1)).at } })
        (bind_good _ _ _ _ 0 n (expect_good k.Public 0 n) (λ q. pure_good (entry.Other (d.Open (named_place m x.place q.place) (name_of text x) true)) 0 n)))
        (weaken _ _ _ 0 n (λ y cs r. record { derivation = NotPublic; gives = r.0; spells = record { at = (nothing _ r.1).at } }) (pure_good (entry.Other (d.Open (named_place m x.place x.place) (name_of text x) false)) 0 n))

    open_good : Good IsItem (λ j. open_item text j) 0 n
    unfolding open_item
    open_good = weaken _ _ _ 0 n (λ y cs r. let x = r.second in record {
      derivation = OpenItem r.value x.value x.second.derivation;
      gives = x.second.gives;
      spells = record { at = (both r.whole (single k.Open _ _ r.first) (both x.whole (single k.Name _ _ x.first) x.second.spells)).at };
    })
        (bind_good _ _ _ _ 0 n (expect_good k.Open 0 n) (λ m. bind_good _ _ _ _ 0 n (expect_good k.Name 0 n) (λ x. publicity_good m x)))

    data_good : Good IsItem (λ j. data_item text j) 0 n
    unfolding data_item
    data_good = weaken _ _ _ 0 n (λ y cs r. let x = r.second in let bs = x.second in let o = bs.second in let t = o.second in let w = t.second in let xs = w.second in
        let all = all_typed text n goodi [] bs.first.more bs.front bs.first.each in record {
          derivation = DataItem r.value x.first.derivation all.derivation o.value t.first.derivation w.value xs.first.derivation;
          gives = xs.second.0
              ∙ (λ i. entry.Other (d.Data (named_place r.value (x.first.gives i).place (last_signature w.value.place (xs.first.gives i))) (x.first.gives i) ((bs.first.is ∙ all.gives) i) (t.first.gives i) (xs.first.gives i)));
          spells = record {
            at = (both r.whole (single k.Data _ _ r.first) (both x.whole x.first.spells (both bs.whole all.spells (both o.whole (single k.Colon _ _ o.first)
                (both t.whole t.first.spells (both w.whole (single k.Where _ _ w.first) (both xs.whole xs.first.spells (nothing _ xs.second.1)))))))).at;
          };
        })
        (bind_good _ _ _ _ 0 n (expect_good k.Data 0 n) (λ m. bind_good _ _ _ _ 0 n (name_good text 0 n) (λ x. bind_good _ _ _ _ 0 n (more_typed_good text n goodi []) (λ bs. bind_good _ _ _ _ 0 n (expect_good k.Colon 0 n)
        (λ _. bind_good _ _ _ _ 0 n goodi (λ t. bind_good _ _ _ _ 0 n (expect_good k.Where 0 n) (λ w. bind_good _ _ _ _ 0 n declarings_good
        (λ xs. pure_good (entry.Other (d.Data (named_place m x.place (last_signature w.place xs)) x bs t xs)) 0 n))))))))

    record_good : Good IsItem (λ j. record_item text j) 0 n
    unfolding record_item
    record_good = weaken _ _ _ 0 n (λ y cs r. let x = r.second in let bs = x.second in let o = bs.second in let t = o.second in let w = t.second in let b = w.second in let xs = b.second in let c = xs.second in
        let all = all_typed text n goodi [] bs.first.more bs.front bs.first.each in record {
          derivation = RecordItemOf r.value x.first.derivation all.derivation o.value t.first.derivation w.value b.value xs.first.derivation c.value;
          gives = c.second.0
              ∙ (λ i. entry.Other (d.Record (named_place r.value (x.first.gives i).place (last_item w.value.place (xs.first.gives i))) (x.first.gives i) ((bs.first.is ∙ all.gives) i) (t.first.gives i) (xs.first.gives i)));
          spells = record {
            at = (both r.whole (single k.Record _ _ r.first) (both x.whole x.first.spells (both bs.whole all.spells (both o.whole (single k.Colon _ _ o.first)
                (both t.whole t.first.spells (both w.whole (single k.Where _ _ w.first) (both b.whole (single k.BlockOpen _ _ b.first) (both xs.whole xs.first.spells (both c.whole (single k.BlockClose _ _ c.first) (nothing _ c.second.1)))))))))).at;
          };
        })
        (bind_good _ _ _ _ 0 n (expect_good k.Record 0 n) (λ m. bind_good _ _ _ _ 0 n (name_good text 0 n) (λ x. bind_good _ _ _ _ 0 n (more_typed_good text n goodi []) (λ bs. bind_good _ _ _ _ 0 n (expect_good k.Colon 0 n)
        (λ _. bind_good _ _ _ _ 0 n goodi (λ t. bind_good _ _ _ _ 0 n (expect_good k.Where 0 n) (λ w. bind_good _ _ _ _ 0 n (expect_good k.BlockOpen 0 n) (λ _. bind_good _ _ _ _ 0 n record_items_good
        (λ xs. bind_good _ _ _ _ 0 n (expect_good k.BlockClose 0 n) (λ _. pure_good (entry.Other (d.Record (named_place m x.place (last_item w.place xs)) x bs t xs)) 0 n))))))))))

    signature_side : Good IsItem (λ j. declaring text j >>= (λ x. pure (entry.Signature x))) 0 n
    signature_side = weaken _ _ _ 0 n (λ y cs r. record {
      derivation = SignatureItem r.first.derivation;
      gives = r.second.0 ∙ ap (λ (x : Signature). entry.Signature x) r.first.gives;
      spells = record { at = (both r.whole r.first.spells (nothing _ r.second.1)).at };
    })
        (bind_good _ _ _ _ 0 n declaring_good (λ x. pure_good (entry.Signature x) 0 n))

    clause_side : Good IsItem (λ j. equation text j >>= (λ x. pure (entry.Clause x))) 0 n
    clause_side = weaken _ _ _ 0 n (λ y cs r. record {
      derivation = ClauseItem r.first.derivation;
      gives = r.second.0 ∙ ap (λ (x : Clause). entry.Clause x) r.first.gives;
      spells = record { at = (both r.whole r.first.spells (nothing _ r.second.1)).at };
    })
        (bind_good _ _ _ _ 0 n equation_good (λ x. pure_good (entry.Clause x) 0 n))

    named_good : Good IsItem (λ j. named_item text j) 0 n
    unfolding named_item
    named_good = look_good (is k.Name) (tok k.Name) name_is colon_follows over_colon IsItem (λ j. declaring text j >>= (λ x. pure (entry.Signature x))) (λ j. equation text j >>= (λ x. pure (entry.Clause x))) 0 n
        signature_side clause_side
        (λ xs u st lt is_so. bind_up (length u) (declaring text n (lined (tok k.Name) xs u)) _ (declaring_eats xs u st lt) (λ x ts le. le))
        (λ xs u st lt not_so. bind_up (length u) (equation text n (lined (tok k.Name) xs u)) _ (equation_eats xs u st lt) (λ x ts le. le))

    item_good : Good IsItem (λ j. item text j) 0 n
    unfolding item
    item_good =
        choose_good (is k.Postulate) IsItem _ _ 0 n postulate_good
        (choose_good (is k.Open) IsItem _ _ 0 n open_good
        (choose_good (is k.Data) IsItem _ _ 0 n data_good
        (choose_good (is k.Record) IsItem _ _ 0 n record_good named_good)))

    abbrev NextIsItem : Language Sign Entry
    NextIsItem = As (λ (p : Mark × ItemDerivation). λ rest. tok k.BlockNext p.0 ∷ item_then p.1 rest) (λ p. item_tree text p.1)

    one_item_good : (found : List Entry) → Good (Item (λ _. NextIsItem) found) (λ j. one_item text j) 0 n
    unfolding one_item
    one_item_good found = optional_good (is k.BlockNext) (λ _. NextIsItem) found _ 0 n
        (weaken _ _ _ 0 n (λ y cs r. record {
          derivation = (r.value, r.second.derivation);
          gives = r.second.gives;
          spells = record { at = (both r.whole (single k.BlockNext _ _ r.first) r.second.spells).at };
        }) (bind_good _ _ _ _ 0 n (expect_good k.BlockNext 0 n) (λ _. item_good)))
        (long_as _ _ (λ d. omega arith))

    more_items_good : (found : List Entry) → Good (Behind (λ _. NextIsItem) found) (λ j. more_items text j found) 0 n
    unfolding more_items one_item
    more_items_good found = many_good (λ _. NextIsItem) (λ j _. one_item text j) 0 n one_item_good (λ m f. refl) (omega arith) found

    all_items : (found xs : List Entry) (c : Input) → AllOf (λ _. NextIsItem) found xs c → As more_items_then (more_items_tree text) xs c
    all_items = all_of (λ (p : Mark × ItemDerivation). λ rest. tok k.BlockNext p.0 ∷ item_then p.1 rest) (λ p. item_tree text p.1)
        more_items_then (more_items_tree text) LastItem (λ p. NextItem p.0 p.1) (λ rest. refl) refl (λ d ds rest. refl) (λ d ds. refl)

    inner_items_good : Good (As items_then items_tree) (λ j. inner_items text j) 0 n
    unfolding inner_items
    inner_items_good = choose_good (is k.BlockClose) (As items_then items_tree) _ _ 0 n
        (weaken _ _ _ 0 n (λ y cs r. record { derivation = None; gives = r.0; spells = record { at = (nothing _ r.1).at } }) (pure_good [] 0 n))
        (weaken _ _ _ 0 n (λ y cs r. let xs = all_items (r.value ∷ []) r.second.more r.back r.second.each in record {
          derivation = Some (r.first.derivation, xs.derivation);
          gives = r.second.is ∙ (λ i. r.first.gives i ∷ xs.gives i);
          spells = record { at = (both r.whole r.first.spells xs.spells).at };
        }) (bind_good _ _ _ _ 0 n item_good (λ x. more_items_good (x ∷ []))))

    -- ---- a file

    abbrev IsHeader : Language Sign (Unit {0})
    IsHeader = As header_then (λ _. tt)

    abbrev IsModuleName : Language Sign Mark
    IsModuleName m c = Is k.Name m c ⊎ Is k.Qualified m c

    module_name_good : Good IsModuleName (λ j. module_name text j) 0 n
    unfolding module_name
    module_name_good = choose_good (is k.Name) IsModuleName _ _ 0 n (weaken _ _ _ 0 n (λ y cs r. inl r) (expect_good k.Name 0 n)) (weaken _ _ _ 0 n (λ y cs r. inr r) (expect_good k.Qualified 0 n))

    of_module : (y : Unit {0}) (cs : Input) → Seq (Is k.Module) (λ _. Seq IsModuleName (λ _. Seq (Is k.Where) (λ _ z c. (z ≡ tt) × (c ≡ [])))) y cs → IsHeader y cs
    of_module y cs r = go r.second.first
      where
        go : IsModuleName r.second.value r.second.front → IsHeader y cs
        go (inl x) = let w = r.second.second in record {
          derivation = Names r.value r.second.value w.value;
          gives = w.second.0;
          spells = record { at = (both r.whole (single k.Module _ _ r.first) (both r.second.whole (single k.Name _ _ x) (both w.whole (single k.Where _ _ w.first) (nothing _ w.second.1)))).at };
        }
        go (inr x) = let w = r.second.second in record {
          derivation = NamesQualified r.value r.second.value w.value;
          gives = w.second.0;
          spells = record { at = (both r.whole (single k.Module _ _ r.first) (both r.second.whole (single k.Qualified _ _ x) (both w.whole (single k.Where _ _ w.first) (nothing _ w.second.1)))).at };
        }

    header_good : Good IsHeader (λ j. header text j) 0 n
    unfolding header
    header_good = choose_good (is k.Module) IsHeader _ _ 0 n
        (weaken _ _ _ 0 n of_module (bind_good _ _ _ _ 0 n (expect_good k.Module 0 n) (λ _. bind_good _ _ _ _ 0 n module_name_good (λ _. bind_good _ _ _ _ 0 n (expect_good k.Where 0 n) (λ _. pure_good tt 0 n)))))
        (weaken _ _ _ 0 n (λ y cs r. record { derivation = NoHeader; gives = r.0; spells = record { at = (nothing _ r.1).at } }) (pure_good tt 0 n))

    file_good : Good (As file_then (file_tree text)) (λ j. file text j) 0 n
    unfolding file
    file_good = weaken _ _ _ 0 n (λ y cs r. let o = r.second in let xs = o.second in let c = xs.second in let h = r.first.derivation in let i = xs.first.derivation in record {
      derivation = file_of h o.value i c.value;
      gives = c.second.0 ∙ ap file_with xs.first.gives ∙ sym (file_of_tree h o.value i c.value);
      spells = record { at = λ rest. file_of_then h o.value i c.value rest ∙ (both r.whole r.first.spells (both o.whole (single k.BlockOpen _ _ o.first) (both xs.whole xs.first.spells (both c.whole (single k.BlockClose _ _ c.first) (nothing _ c.second.1))))).at rest };
    })
        (bind_good _ _ _ _ 0 n header_good (λ _. bind_good _ _ _ _ 0 n (expect_good k.BlockOpen 0 n) (λ _. bind_good _ _ _ _ 0 n inner_items_good (λ xs. bind_good _ _ _ _ 0 n (expect_good k.BlockClose 0 n)
        (λ _. pure_good (file_with xs) 0 n)))))

  pub whole_file_good : (n : ℕ) → Good (As file_then (file_tree text)) (whole_file text) 0 n
  unfolding whole_file
  whole_file_good n = ended_good (As file_then (file_tree text)) (λ j. file text j) 0 n (file_good n)
