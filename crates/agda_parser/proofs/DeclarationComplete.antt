-- What has a derivation as a file is read, with turns enough.
use Rattle.std.proofs.Common.{◌≡◌, ℕ, zero, suc, ◌≤◌, ◌+◌, ◌-◌, true, false, List, [], ◌∷◌, ◌++◌, length, take, Option, Some, None, Ok, refl, sym, ap, ◌∙◌, append_assoc, arith}
use Rattle.std.proofs.lemmas.List.{append-nil}
use Rattle.source_tree.specs.declared.decl.Signature.{Signature}
use Rattle.source_tree.specs.declared.decl.RecordItem.{RecordItem}
use Rattle.agda_grammar.specs.declared.sign.Kind.TheVariants as k
use Rattle.agda_grammar.specs.declared.sign.Mark.{Mark}
use Rattle.agda_grammar.specs.declared.entry.Entry.{Entry}
use Rattle.agda_grammar.specs.Names.{name_of}
use Rattle.agda_grammar.specs.Signs.{Input, tok}
use Rattle.expr_parser.specs.Cursor.{same_kind, is, sees, expect, begins_atom, names_colon, colon_follows}
use Rattle.agda_grammar.specs.Grammar.{MoreTyped, Derivation, more_typed_then, more_typed_tree, then}
use Rattle.agda_grammar.specs.Patterns.{Eliminations, eliminations_then, eliminations_tree}
use Rattle.agda_grammar.specs.Declarations.{Declaring, Declares, MoreDeclaring, LastDeclaring, NextDeclaring, Declarings, NoDeclaring, SomeDeclaring, Equation, Without, With, Induction, IsInductive, IsCoinductive, MoreFieldBlocks, LastFieldBlock, NextFieldBlock, RecordItems, NoRecordItem, FieldsAlone, OfInduction, OfConstructor, InductionFirst, ConstructorFirst, NotPublic, IsPublic, ItemDerivation, PostulateItem, SignatureItem, ClauseItem, OpenItem, DataItem, RecordItemOf, MoreItems, LastItem, NextItem, Header, NoHeader, Names, NamesQualified, FileDerivation, EmptyFile, SomeFile, declaring_then, more_declaring_then, declarings_then, equation_then, induction_then, field_blocks_then, record_items_then, item_then, more_items_then, header_then, file_then, clause, field_block, declaring_tree, more_declaring_tree, declarings_tree, equation_tree, induction_tree, constructor_tree, field_blocks_tree, record_items_tree, item_tree, more_items_tree, file_tree}
use Rattle.expr_parser.specs.Syntax.{begins_typed, name, names, expr, more_typed}
use Rattle.expr_parser.specs.PatternSyntax.{begins_elim, elims}
use Rattle.agda_parser.specs.DeclarationSyntax.{is_induction, declaring, one_declaring, more_declaring, inner_declarings, declarings, right_side, sides, equation, induction, constructor_item, field_item, one_field_item, more_field_items, second_item, record_items, postulate_item, publicity, open_item, data_item, record_item, named_item, item, one_item, more_items, inner_items, module_name, header, file, whole_file}
use Rattle.parse_laws.specs.Parser.{one, next_is, many_from, with_taken, at_end}
use Rattle.parse_laws.proofs.Good.{taken_front}
use Rattle.expr_parser.proofs.Complete.{size, more_typed_size, Stops, names_colon_yes, names_read, more_typed_read, read}
use Rattle.expr_parser.proofs.PatternComplete.{eliminations_size, eliminations_plain, eliminations_read}
use Rattle.expr_parser.proofs.Fronts.{front, eliminations_front}
use Rattle.agda_parser.proofs.DeclarationRules.{right_then, right_tree}

-- ---- how many turns are enough

abbrev declaring_size : Declaring → ℕ
declaring_size (Declares x xs o t) = length xs + size t

abbrev more_declaring_size : MoreDeclaring → ℕ
more_declaring_size LastDeclaring = 0
more_declaring_size (NextDeclaring n x xs) = suc (declaring_size x + more_declaring_size xs)

abbrev declarings_size : Declarings → ℕ
declarings_size (NoDeclaring o c) = 0
declarings_size (SomeDeclaring o x xs c) = declaring_size x + more_declaring_size xs

abbrev right_size : Option (Mark × Derivation) → ℕ
right_size None = 0
right_size (Some q) = size q.1

abbrev equation_size : Equation → ℕ
equation_size (Without x es) = eliminations_size es
equation_size (With x es q t) = eliminations_size es + size t

abbrev field_blocks_size : MoreFieldBlocks → ℕ
field_blocks_size LastFieldBlock = 0
field_blocks_size (NextFieldBlock n m xs fs) = suc (declarings_size xs + field_blocks_size fs)

abbrev record_items_size : RecordItems → ℕ
record_items_size NoRecordItem = 0
record_items_size (FieldsAlone m xs fs) = declarings_size xs + field_blocks_size fs
record_items_size (OfInduction i fs) = field_blocks_size fs
record_items_size (OfConstructor w x fs) = field_blocks_size fs
record_items_size (InductionFirst i n w x fs) = field_blocks_size fs
record_items_size (ConstructorFirst w x n i fs) = field_blocks_size fs

abbrev item_size : ItemDerivation → ℕ
item_size (PostulateItem m xs) = declarings_size xs
item_size (SignatureItem x) = declaring_size x
item_size (ClauseItem x) = equation_size x
item_size (OpenItem m x y) = 0
item_size (DataItem m x bs o t w xs) = more_typed_size bs + size t + declarings_size xs
item_size (RecordItemOf m x bs o t w b is c) = more_typed_size bs + size t + record_items_size is

abbrev more_items_size : MoreItems → ℕ
more_items_size LastItem = 0
more_items_size (NextItem n x xs) = suc (item_size x + more_items_size xs)

abbrev pub file_size : FileDerivation → ℕ
file_size (EmptyFile h o c) = 0
file_size (SomeFile h o x xs c) = item_size x + more_items_size xs

-- ---- what does not come next

-- a border or the end of a block comes next
record Ends (rest : Input) : Type 0 where
  pub stops : Stops rest
  pub elimination : next_is begins_elim rest ≡ false
  pub equals : sees k.Equals rest ≡ false
  pub public : sees k.Public rest ≡ false
  pub colon : names_colon rest ≡ false

close_ends : (c : Mark) (rest : Input) → Ends (tok k.BlockClose c ∷ rest)
unfolding same_kind begins_atom names_colon
close_ends c rest = record { stops = record { arg = refl; arrow = refl }; elimination = refl; equals = refl; public = refl; colon = refl }

next_ends : (c : Mark) (rest : Input) → Ends (tok k.BlockNext c ∷ rest)
unfolding same_kind begins_atom names_colon
next_ends c rest = record { stops = record { arg = refl; arrow = refl }; elimination = refl; equals = refl; public = refl; colon = refl }

where_stops : (w : Mark) (rest : Input) → Stops (tok k.Where w ∷ rest)
unfolding same_kind begins_atom
where_stops w rest = record { arg = refl; arrow = refl }

colon_no_binder : (o : Mark) (rest : Input) → next_is begins_typed (tok k.Colon o ∷ rest) ≡ false
unfolding same_kind
colon_no_binder o rest = refl

more_declaring_ends : (xs : MoreDeclaring) (c : Mark) (rest : Input) → Ends (more_declaring_then xs (tok k.BlockClose c ∷ rest))
more_declaring_ends LastDeclaring c rest = close_ends c rest
more_declaring_ends (NextDeclaring n x xs) c rest = next_ends n (declaring_then x (more_declaring_then xs (tok k.BlockClose c ∷ rest)))

more_items_ends : (xs : MoreItems) (c : Mark) (rest : Input) → Ends (more_items_then xs (tok k.BlockClose c ∷ rest))
more_items_ends LastItem c rest = close_ends c rest
more_items_ends (NextItem n x xs) c rest = next_ends n (item_then x (more_items_then xs (tok k.BlockClose c ∷ rest)))

right_front : (q : Option (Mark × Derivation)) (rest : Input) → right_then q rest ≡ right_then q [] ++ rest
right_front None rest = refl
right_front (Some q) rest = ap (λ (y : Input). tok k.Equals q.0 ∷ y) (front q.1 [] rest)

-- what follows eliminations begins none, and has no names and a colon
right_elim : (q : Option (Mark × Derivation)) (rest : Input) → Ends rest → next_is begins_elim (right_then q rest) ≡ false
unfolding same_kind
right_elim None rest s = s.elimination
right_elim (Some q) rest s = refl

right_colon : (q : Option (Mark × Derivation)) (rest : Input) → Ends rest → names_colon (right_then q rest) ≡ false
unfolding same_kind names_colon
right_colon None rest s = s.colon
right_colon (Some q) rest s = refl

item_not_closed : (x : ItemDerivation) (rest : Input) → sees k.BlockClose (item_then x rest) ≡ false
unfolding same_kind
item_not_closed (PostulateItem m xs) rest = refl
item_not_closed (SignatureItem (Declares x xs o t)) rest = refl
item_not_closed (ClauseItem (Without x es)) rest = refl
item_not_closed (ClauseItem (With x es q t)) rest = refl
item_not_closed (OpenItem m x y) rest = refl
item_not_closed (DataItem m x bs o t w xs) rest = refl
item_not_closed (RecordItemOf m x bs o t w b is c) rest = refl

-- ---- the readings

module _ (text : List ℕ) where
  declaring_read : (n : ℕ) (x : Declaring) (rest : Input) → declaring_size x ≤ n → Stops rest → declaring text n (declaring_then x rest) ≡ Ok (declaring_tree text x, rest)
  unfolding declaring names name expect one same_kind
  declaring_read n (Declares x xs o t) rest le s = rw (names_read text n (name_of text x ∷ []) xs (tok k.Colon o ∷ then t rest) (omega arith) refl, read text n t rest (omega arith) s) refl

  more_declaring_read : (n m : ℕ) (found : List Signature) (xs : MoreDeclaring) (c : Mark) (rest : Input) → more_declaring_size xs ≤ n → more_declaring_size xs ≤ m
      → many_from (λ _. one_declaring text n) m found (more_declaring_then xs (tok k.BlockClose c ∷ rest)) ≡ Ok (found ++ more_declaring_tree text xs, tok k.BlockClose c ∷ rest)
  unfolding many_from one_declaring expect one same_kind
  more_declaring_read n zero found LastDeclaring c rest le lm = ap (λ (ys : List Signature). Ok (ys, tok k.BlockClose c ∷ rest)) (sym (append-nil found))
  more_declaring_read n (suc m) found LastDeclaring c rest le lm = ap (λ (ys : List Signature). Ok (ys, tok k.BlockClose c ∷ rest)) (sym (append-nil found))
  more_declaring_read n zero found (NextDeclaring b x xs) c rest le lm = absurd (omega arith)
  more_declaring_read n (suc m) found (NextDeclaring b x xs) c rest le lm =
      rw (declaring_read n x (more_declaring_then xs (tok k.BlockClose c ∷ rest)) (omega arith) (more_declaring_ends xs c rest).stops)
      (more_declaring_read n m (found ++ declaring_tree text x ∷ []) xs c rest (omega arith) (omega arith) ∙ ap (λ (ys : List Signature). Ok (ys, tok k.BlockClose c ∷ rest)) (append_assoc found (declaring_tree text x ∷ []) (more_declaring_tree text xs)))

  declaring_not_closed : (x : Declaring) (rest : Input) → sees k.BlockClose (declaring_then x rest) ≡ false
  unfolding same_kind
  declaring_not_closed (Declares x xs o t) rest = refl

  declarings_read : (n : ℕ) (xs : Declarings) (rest : Input) → declarings_size xs ≤ n → declarings text n (declarings_then xs rest) ≡ Ok (declarings_tree text xs, rest)
  unfolding declarings inner_declarings more_declaring expect one same_kind
  declarings_read n (NoDeclaring o c) rest le = refl
  declarings_read n (SomeDeclaring o x xs c) rest le =
      let more : Input = more_declaring_then xs (tok k.BlockClose c ∷ rest) in
      rw (declaring_not_closed x more, declaring_read n x more (omega arith) (more_declaring_ends xs c rest).stops, more_declaring_read n n (declaring_tree text x ∷ []) xs c rest (omega arith) (omega arith)) refl

  -- ---- clauses

  right_read : (n : ℕ) (q : Option (Mark × Derivation)) (rest : Input) → Ends rest → right_size q ≤ n → right_side text n (right_then q rest) ≡ Ok (right_tree text q, rest)
  unfolding right_side expect one same_kind
  right_read n None rest s le = rw s.equals refl
  right_read n (Some q) rest s le = rw (read text n q.1 rest le s.stops) refl

  sides_read : (n : ℕ) (es : Eliminations) (q : Option (Mark × Derivation)) (rest : Input) → Ends rest → eliminations_size es ≤ n → right_size q ≤ n
      → sides text n (eliminations_then es (right_then q rest)) ≡ Ok ((eliminations_tree text es, right_tree text q), rest)
  unfolding sides elims
  sides_read n es q rest s le lq = rw (eliminations_read text n n [] es (right_then q rest) le le (right_elim q rest s), right_read n q rest s lq) refl

  sides_taken : (es : Eliminations) (q : Option (Mark × Derivation)) (rest : Input) → take (length (eliminations_then es (right_then q rest)) - length rest) (eliminations_then es (right_then q rest)) ≡ eliminations_then es (right_then q [])
  sides_taken es q rest =
      let e : eliminations_then es (right_then q rest) ≡ eliminations_then es (right_then q []) ++ rest = ap (eliminations_then es) (right_front q rest) ∙ eliminations_front es (right_then q []) rest in
      ap (λ (y : Input). take (length y - length rest) y) e ∙ taken_front (eliminations_then es (right_then q [])) rest

  equated_read : (n : ℕ) (x : Mark) (es : Eliminations) (q : Option (Mark × Derivation)) (rest : Input) → Ends rest → eliminations_size es ≤ n → right_size q ≤ n
      → equation text n (tok k.Name x ∷ eliminations_then es (right_then q rest)) ≡ Ok (clause text x (eliminations_then es (right_then q [])) (eliminations_tree text es) (right_tree text q), rest)
  unfolding equation with_taken expect one same_kind
  equated_read n x es q rest s le lq = rw (sides_read n es q rest s le lq, sides_taken es q rest) refl

  equation_read : (n : ℕ) (x : Equation) (rest : Input) → Ends rest → equation_size x ≤ n → equation text n (equation_then x rest) ≡ Ok (equation_tree text x, rest)
  equation_read n (Without x es) rest s le = equated_read n x es None rest s le (omega arith)
  equation_read n (With x es q t) rest s le = equated_read n x es (Some (q, t)) rest s (omega arith) (omega arith)

  -- ---- records

  field_item_read : (n : ℕ) (m : Mark) (xs : Declarings) (rest : Input) → declarings_size xs ≤ n → field_item text n (tok k.Field m ∷ declarings_then xs rest) ≡ Ok (field_block m (declarings_tree text xs), rest)
  unfolding field_item expect one same_kind
  field_item_read n m xs rest le = rw (declarings_read n xs rest le) refl

  fields_read : (n m : ℕ) (found : List RecordItem) (fs : MoreFieldBlocks) (c : Mark) (rest : Input) → field_blocks_size fs ≤ n → field_blocks_size fs ≤ m
      → many_from (λ _. one_field_item text n) m found (field_blocks_then fs (tok k.BlockClose c ∷ rest)) ≡ Ok (found ++ field_blocks_tree text fs, tok k.BlockClose c ∷ rest)
  unfolding many_from one_field_item expect one same_kind
  fields_read n zero found LastFieldBlock c rest le lm = ap (λ (ys : List RecordItem). Ok (ys, tok k.BlockClose c ∷ rest)) (sym (append-nil found))
  fields_read n (suc m) found LastFieldBlock c rest le lm = ap (λ (ys : List RecordItem). Ok (ys, tok k.BlockClose c ∷ rest)) (sym (append-nil found))
  fields_read n zero found (NextFieldBlock b w xs fs) c rest le lm = absurd (omega arith)
  fields_read n (suc m) found (NextFieldBlock b w xs fs) c rest le lm =
      rw (field_item_read n w xs (field_blocks_then fs (tok k.BlockClose c ∷ rest)) (omega arith))
      (fields_read n m (found ++ field_block w (declarings_tree text xs) ∷ []) fs c rest (omega arith) (omega arith) ∙ ap (λ (ys : List RecordItem). Ok (ys, tok k.BlockClose c ∷ rest)) (append_assoc found (field_block w (declarings_tree text xs) ∷ []) (field_blocks_tree text fs)))

  induction_read : (n : ℕ) (i : Induction) (rest : Input) → induction text n (induction_then i rest) ≡ Ok (induction_tree text i, rest)
  unfolding induction expect one same_kind
  induction_read n (IsInductive m) rest = refl
  induction_read n (IsCoinductive m) rest = refl

  begins_induction : (i : Induction) (rest : Input) → next_is is_induction (induction_then i rest) ≡ true
  unfolding same_kind
  begins_induction (IsInductive m) rest = refl
  begins_induction (IsCoinductive m) rest = refl

  record_items_read : (n : ℕ) (xs : RecordItems) (c : Mark) (rest : Input) → record_items_size xs ≤ n → record_items text n (record_items_then xs (tok k.BlockClose c ∷ rest)) ≡ Ok (record_items_tree text xs, tok k.BlockClose c ∷ rest)
  unfolding record_items second_item constructor_item more_field_items expect one same_kind
  record_items_read n NoRecordItem c rest le = refl
  record_items_read n (FieldsAlone m xs fs) c rest le =
      rw (field_item_read n m xs (field_blocks_then fs (tok k.BlockClose c ∷ rest)) (omega arith), fields_read n n (field_block m (declarings_tree text xs) ∷ []) fs c rest (omega arith) (omega arith)) refl
  record_items_read n (OfInduction i LastFieldBlock) c rest le = rw (begins_induction i (tok k.BlockClose c ∷ rest), induction_read n i (tok k.BlockClose c ∷ rest)) refl
  record_items_read n (OfInduction i (NextFieldBlock b m xs fs)) c rest le =
      let more : Input = field_blocks_then fs (tok k.BlockClose c ∷ rest) in
      rw (
        begins_induction i (tok k.BlockNext b ∷ tok k.Field m ∷ declarings_then xs more),
        induction_read n i (tok k.BlockNext b ∷ tok k.Field m ∷ declarings_then xs more),
        field_item_read n m xs more (omega arith),
        fields_read n n (induction_tree text i ∷ field_block m (declarings_tree text xs) ∷ []) fs c rest (omega arith) (omega arith),
      )
      refl
  record_items_read n (OfConstructor w x LastFieldBlock) c rest le = refl
  record_items_read n (OfConstructor w x (NextFieldBlock b m xs fs)) c rest le =
      let more : Input = field_blocks_then fs (tok k.BlockClose c ∷ rest) in
      rw (field_item_read n m xs more (omega arith), fields_read n n (constructor_tree text w x ∷ field_block m (declarings_tree text xs) ∷ []) fs c rest (omega arith) (omega arith)) refl
  record_items_read n (InductionFirst i b w x fs) c rest le =
      let more : Input = field_blocks_then fs (tok k.BlockClose c ∷ rest) in
      rw (
        begins_induction i (tok k.BlockNext b ∷ tok k.Constructor w ∷ tok k.Name x ∷ more),
        induction_read n i (tok k.BlockNext b ∷ tok k.Constructor w ∷ tok k.Name x ∷ more),
        fields_read n n (induction_tree text i ∷ constructor_tree text w x ∷ []) fs c rest le le,
      )
      refl
  record_items_read n (ConstructorFirst w x b i fs) c rest le =
      let more : Input = field_blocks_then fs (tok k.BlockClose c ∷ rest) in
      rw (begins_induction i more, induction_read n i more, fields_read n n (constructor_tree text w x ∷ induction_tree text i ∷ []) fs c rest le le) refl

  -- ---- items

  binders_read : (n : ℕ) (bs : MoreTyped) (o : Mark) (rest : Input) → more_typed_size bs ≤ n → more_typed text n (expr text n) [] (more_typed_then bs (tok k.Colon o ∷ rest)) ≡ Ok (more_typed_tree text bs, tok k.Colon o ∷ rest)
  unfolding more_typed
  binders_read n bs o rest le = more_typed_read text n n [] bs (tok k.Colon o ∷ rest) le le (colon_no_binder o rest)

  item_read : (n : ℕ) (x : ItemDerivation) (rest : Input) → Ends rest → item_size x ≤ n → item text n (item_then x rest) ≡ Ok (item_tree text x, rest)
  unfolding item postulate_item open_item publicity data_item record_item named_item name expect one same_kind colon_follows
  item_read n (PostulateItem m xs) rest s le = rw (declarings_read n xs rest le) refl
  item_read n (SignatureItem (Declares x xs o t)) rest s le = rw (names_colon_yes xs o (then t rest), declaring_read n (Declares x xs o t) rest le s.stops) refl
  item_read n (ClauseItem (Without x es)) rest s le = rw (eliminations_plain es rest s.colon, equation_read n (Without x es) rest s le) refl
  item_read n (ClauseItem (With x es q t)) rest s le = rw (eliminations_plain es (tok k.Equals q ∷ then t rest) (right_colon (Some (q, t)) rest s), equation_read n (With x es q t) rest s le) refl
  item_read n (OpenItem m x NotPublic) rest s le = rw s.public refl
  item_read n (OpenItem m x (IsPublic q)) rest s le = refl
  item_read n (DataItem m x bs o t w xs) rest s le =
      rw (binders_read n bs o (then t (tok k.Where w ∷ declarings_then xs rest)) (omega arith), read text n t (tok k.Where w ∷ declarings_then xs rest) (omega arith) (where_stops w (declarings_then xs rest)), declarings_read n xs rest (omega arith)) refl
  item_read n (RecordItemOf m x bs o t w b is c) rest s le =
      let inside : Input = tok k.BlockOpen b ∷ record_items_then is (tok k.BlockClose c ∷ rest) in
      rw (binders_read n bs o (then t (tok k.Where w ∷ inside)) (omega arith), read text n t (tok k.Where w ∷ inside) (omega arith) (where_stops w inside), record_items_read n is c rest (omega arith)) refl

  more_items_read : (n m : ℕ) (found : List Entry) (xs : MoreItems) (c : Mark) (rest : Input) → more_items_size xs ≤ n → more_items_size xs ≤ m
      → many_from (λ _. one_item text n) m found (more_items_then xs (tok k.BlockClose c ∷ rest)) ≡ Ok (found ++ more_items_tree text xs, tok k.BlockClose c ∷ rest)
  unfolding many_from one_item expect one same_kind
  more_items_read n zero found LastItem c rest le lm = ap (λ (ys : List Entry). Ok (ys, tok k.BlockClose c ∷ rest)) (sym (append-nil found))
  more_items_read n (suc m) found LastItem c rest le lm = ap (λ (ys : List Entry). Ok (ys, tok k.BlockClose c ∷ rest)) (sym (append-nil found))
  more_items_read n zero found (NextItem b x xs) c rest le lm = absurd (omega arith)
  more_items_read n (suc m) found (NextItem b x xs) c rest le lm =
      rw (item_read n x (more_items_then xs (tok k.BlockClose c ∷ rest)) (more_items_ends xs c rest) (omega arith))
      (more_items_read n m (found ++ item_tree text x ∷ []) xs c rest (omega arith) (omega arith) ∙ ap (λ (ys : List Entry). Ok (ys, tok k.BlockClose c ∷ rest)) (append_assoc found (item_tree text x ∷ []) (more_items_tree text xs)))

  -- ---- a file

  header_read : (n : ℕ) (h : Header) (o : Mark) (rest : Input) → header text n (header_then h (tok k.BlockOpen o ∷ rest)) ≡ Ok (tt, tok k.BlockOpen o ∷ rest)
  unfolding header module_name expect one same_kind
  header_read n NoHeader o rest = refl
  header_read n (Names m x w) o rest = refl
  header_read n (NamesQualified m x w) o rest = refl

  file_read : (n : ℕ) (d : FileDerivation) (rest : Input) → file_size d ≤ n → file text n (file_then d rest) ≡ Ok (file_tree text d, rest)
  unfolding file inner_items more_items expect one same_kind
  file_read n (EmptyFile h o c) rest le = rw (header_read n h o (tok k.BlockClose c ∷ rest)) refl
  file_read n (SomeFile h o x xs c) rest le =
      let more : Input = more_items_then xs (tok k.BlockClose c ∷ rest) in
      rw (
        header_read n h o (item_then x more),
        item_not_closed x more,
        item_read n x more (more_items_ends xs c rest) (omega arith),
        more_items_read n n (item_tree text x ∷ []) xs c rest (omega arith) (omega arith),
      )
      refl

  pub whole_file_read : (n : ℕ) (d : FileDerivation) → file_size d ≤ n → whole_file text n (file_then d []) ≡ Ok (file_tree text d, [])
  unfolding whole_file at_end
  whole_file_read n d le = rw (file_read n d [] le) refl
