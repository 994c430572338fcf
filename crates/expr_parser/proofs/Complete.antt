-- What has a derivation is read, with turns enough.
use Rattle.std.proofs.Common.{◌≡◌, ℕ, zero, suc, ◌≤◌, ◌+◌, Bool, true, false, ◌&&◌, cond, List, [], ◌∷◌, ◌++◌, length, map, Ok, refl, sym, ap, ◌∙◌, append_assoc, arith}
use Rattle.std.proofs.lemmas.List.{append-nil}
use Rattle.source_tree.specs.declared.place.Name.{Name}
use Rattle.source_tree.specs.declared.expr.Expr.{Expr}
use Rattle.source_tree.specs.declared.expr.Expr.TheVariants as e
use Rattle.source_tree.specs.Places.{joined, expr_place, binder_place}
use Rattle.source_tree.specs.declared.expr.Arg.{Arg}
use Rattle.source_tree.specs.declared.expr.Binder.{Binder}
use Rattle.source_tree.specs.declared.expr.FieldValue.{FieldValue}
use Rattle.agda_grammar.specs.declared.sign.Kind.TheVariants as k
use Rattle.agda_grammar.specs.declared.sign.Mark.{Mark}
use Rattle.agda_grammar.specs.declared.sign.Sign.{Sign}
use Rattle.agda_grammar.specs.declared.bracket.Bracket.{Bracket}
use Rattle.agda_grammar.specs.declared.bracket.Bracket.TheVariants.{Round, Curly}
use Rattle.expr_parser.specs.declared.quantifier.Quantifier.TheVariants as q
use Rattle.agda_grammar.specs.Names.{name_of}
use Rattle.agda_grammar.specs.Signs.{Input, tok}
use Rattle.agda_grammar.specs.Trees.{close_of, applied}
use Rattle.expr_parser.specs.Cursor.{same_kind, is, sees, expect, begins_atom, names_colon, colon_follows, equals_follows}
use Rattle.agda_grammar.specs.Grammar.{Atom, Named, Qualified, Level, Hole, Blank, Paren, Record, Fields, NoField, Field, MoreFields, LastField, NextField, Argument, Plain, Braced, Equated, Projected, ProjectedQualified, Arguments, NoArgument, More, Typed, Typing, MoreTyped, LastTyped, NextTyped, Bound, BoundName, BoundBraced, BoundTyped, MoreBound, LastBound, NextBound, LambdaBound, BoundBlank, BoundAs, MoreLambdaBound, LastLambdaBound, NextLambdaBound, Derivation, Pi, Forall, Lambda, App, Arrow, names_then, atom_then, fields_then, more_fields_then, argument_then, arguments_then, typed_then, more_typed_then, bound_then, more_bound_then, lambda_bound_then, more_lambda_bound_then, then, atom_tree, fields_tree, more_fields_tree, argument_tree, arguments_tree, typed_tree, more_typed_tree, bound_tree, more_bound_tree, lambda_bound_tree, more_lambda_bound_tree, tree}
use Rattle.expr_parser.specs.Syntax.{begins_typed, begins_arg, begins_bound, begins_binder, name, one_name, names, typed_from, typed_after, typed, one_typed, more_typed, pi_from, paren_after, field, one_field, more_fields, fields, record_atom, simple_atom, named_arg, implicit_arg, braced_arg, project_arg, arg, one_arg, args, arrow_tail, app_from, after_paren, braced_from, bound, lambda_bound, binder, one_binder, binders, quantified, level, expr}
use Rattle.parse_laws.specs.Parser.{one, next_is, many_from}
use Rattle.expr_parser.proofs.Rules.{Tail, NoTail, ArrowTail, tail_then, tail_tree}

-- ---- how many turns are enough

abbrev mutual
  pub atom_size : Atom → ℕ
  atom_size (Named x) = 0
  atom_size (Qualified x) = 0
  atom_size (Level x) = 0
  atom_size (Hole x) = 0
  atom_size (Blank x) = 0
  atom_size (Paren l d r) = size d
  atom_size (Record w l fs r) = fields_size fs

  pub fields_size : Fields → ℕ
  fields_size NoField = 0
  fields_size (Field x o d fs) = size d + more_fields_size fs

  pub more_fields_size : MoreFields → ℕ
  more_fields_size LastField = 0
  more_fields_size (NextField s x o d fs) = suc (size d + more_fields_size fs)

  pub argument_size : Argument → ℕ
  argument_size (Plain x) = atom_size x
  argument_size (Braced l d r) = size d
  argument_size (Equated l x o d r) = size d
  argument_size (Projected o x) = 0
  argument_size (ProjectedQualified o x) = 0

  pub arguments_size : Arguments → ℕ
  arguments_size NoArgument = 0
  arguments_size (More x xs) = suc (argument_size x + arguments_size xs)

  pub typed_size : Typed → ℕ
  typed_size (Typing c l x xs o d r) = length xs + size d

  pub more_typed_size : MoreTyped → ℕ
  more_typed_size LastTyped = 0
  more_typed_size (NextTyped x xs) = suc (typed_size x + more_typed_size xs)

  pub bound_size : Bound → ℕ
  bound_size (BoundName x) = 0
  bound_size (BoundBraced l x r) = 0
  bound_size (BoundTyped x) = typed_size x

  pub more_bound_size : MoreBound → ℕ
  more_bound_size LastBound = 0
  more_bound_size (NextBound x xs) = suc (bound_size x + more_bound_size xs)

  pub lambda_bound_size : LambdaBound → ℕ
  lambda_bound_size (BoundBlank x) = 0
  lambda_bound_size (BoundAs x) = bound_size x

  pub more_lambda_bound_size : MoreLambdaBound → ℕ
  more_lambda_bound_size LastLambdaBound = 0
  more_lambda_bound_size (NextLambdaBound x xs) = suc (lambda_bound_size x + more_lambda_bound_size xs)

  pub size : Derivation → ℕ
  size (Pi x xs w d) = suc (typed_size x + more_typed_size xs + size d)
  size (Forall m x xs w d) = suc (bound_size x + more_bound_size xs + size d)
  size (Lambda m x xs w d) = suc (lambda_bound_size x + more_lambda_bound_size xs + size d)
  size (App x xs) = suc (atom_size x + arguments_size xs)
  size (Arrow x xs w d) = suc (atom_size x + arguments_size xs + size d)

-- ---- what does not come next

-- nothing comes next that would go on with an expression
pub record Stops (rest : Input) : Type 0 where
  pub arg : next_is begins_arg rest ≡ false
  pub arrow : sees k.Arrow rest ≡ false

pub close_stops : (c : Bracket) (r : Mark) (rest : Input) → Stops (tok (close_of c) r ∷ rest)
unfolding same_kind begins_atom
close_stops Round r rest = record { arg = refl; arrow = refl }
close_stops Curly r rest = record { arg = refl; arrow = refl }

pub semicolon_stops : (r : Mark) (rest : Input) → Stops (tok k.Semicolon r ∷ rest)
unfolding same_kind begins_atom
semicolon_stops r rest = record { arg = refl; arrow = refl }

more_fields_stop : (fs : MoreFields) (r : Mark) (rest : Input) → Stops (more_fields_then fs (tok k.BraceClose r ∷ rest))
more_fields_stop LastField r rest = close_stops Curly r rest
more_fields_stop (NextField s x o d fs) r rest = semicolon_stops s (tok k.Name x ∷ tok k.Equals o ∷ then d (more_fields_then fs (tok k.BraceClose r ∷ rest)))

names_then_close : (xs : List Mark) (o : Mark) (rest : Input) → sees k.BraceClose (names_then xs (tok k.Colon o ∷ rest)) ≡ false
unfolding same_kind
names_then_close [] o rest = refl
names_then_close (x ∷ xs) o rest = refl

pub names_colon_yes : (xs : List Mark) (o : Mark) (rest : Input) → names_colon (names_then xs (tok k.Colon o ∷ rest)) ≡ true
unfolding names_colon same_kind
names_colon_yes [] o rest = refl
names_colon_yes (x ∷ xs) o rest = names_colon_yes xs o rest

-- no derivation begins with names and a colon
atom_plain : (x : Atom) (rest : Input) → names_colon rest ≡ false → names_colon (atom_then x rest) ≡ false
unfolding names_colon same_kind
atom_plain (Named x) rest h = h
atom_plain (Qualified x) rest h = refl
atom_plain (Level x) rest h = refl
atom_plain (Hole x) rest h = refl
atom_plain (Blank x) rest h = refl
atom_plain (Paren l d r) rest h = refl
atom_plain (Record w l fs r) rest h = refl

arguments_plain : (xs : Arguments) (rest : Input) → names_colon rest ≡ false → names_colon (arguments_then xs rest) ≡ false
unfolding names_colon same_kind
arguments_plain NoArgument rest h = h
arguments_plain (More (Plain x) xs) rest h = atom_plain x (arguments_then xs rest) (arguments_plain xs rest h)
arguments_plain (More (Braced l d r) xs) rest h = refl
arguments_plain (More (Equated l x o d r) xs) rest h = refl
arguments_plain (More (Projected o x) xs) rest h = refl
arguments_plain (More (ProjectedQualified o x) xs) rest h = refl

plain : (d : Derivation) (rest : Input) → names_colon rest ≡ false → names_colon (then d rest) ≡ false
unfolding names_colon same_kind
plain (Pi (Typing Round l x xs o t r) ys w d) rest h = refl
plain (Pi (Typing Curly l x xs o t r) ys w d) rest h = refl
plain (Forall m x xs w d) rest h = refl
plain (Lambda m x xs w d) rest h = refl
plain (App x xs) rest h = atom_plain x (arguments_then xs rest) (arguments_plain xs rest h)
plain (Arrow x xs w d) rest h = atom_plain x (arguments_then xs (tok k.Arrow w ∷ then d rest)) (arguments_plain xs (tok k.Arrow w ∷ then d rest) refl)

no_binder : (i : Input) → names_colon i ≡ false → colon_follows i ≡ false
unfolding names_colon colon_follows
no_binder [] h = refl
no_binder (s ∷ i) h = go (is k.Name s) h
  where
    go : (b : Bool) → cond b (names_colon i) (is k.Colon s) ≡ false → (b && names_colon i) ≡ false
    go true h = h
    go false h = refl

inside_plain : (d : Derivation) (r : Mark) (rest : Input) → colon_follows (then d (tok k.ParenClose r ∷ rest)) ≡ false
unfolding names_colon same_kind
inside_plain d r rest = no_binder (then d (tok k.ParenClose r ∷ rest)) (plain d (tok k.ParenClose r ∷ rest) refl)

-- and none with a name and `=`
pub equals_after : (x : Mark) (i : Input) → equals_follows (tok k.Name x ∷ i) ≡ sees k.Equals i
unfolding same_kind
equals_after x [] = refl
equals_after x (s ∷ i) = refl

arguments_no_equals : (xs : Arguments) (rest : Input) → sees k.Equals rest ≡ false → sees k.Equals (arguments_then xs rest) ≡ false
unfolding same_kind
arguments_no_equals NoArgument rest h = h
arguments_no_equals (More (Plain (Named x)) xs) rest h = refl
arguments_no_equals (More (Plain (Qualified x)) xs) rest h = refl
arguments_no_equals (More (Plain (Level x)) xs) rest h = refl
arguments_no_equals (More (Plain (Hole x)) xs) rest h = refl
arguments_no_equals (More (Plain (Blank x)) xs) rest h = refl
arguments_no_equals (More (Plain (Paren l d r)) xs) rest h = refl
arguments_no_equals (More (Plain (Record w l fs r)) xs) rest h = refl
arguments_no_equals (More (Braced l d r) xs) rest h = refl
arguments_no_equals (More (Equated l x o d r) xs) rest h = refl
arguments_no_equals (More (Projected o x) xs) rest h = refl
arguments_no_equals (More (ProjectedQualified o x) xs) rest h = refl

pub other_first : (s : Sign) (i : Input) → is k.Name s ≡ false → equals_follows (s ∷ i) ≡ false
other_first s [] h = refl
other_first s (t ∷ i) h = rw h refl

atom_no_equals : (x : Atom) (i : Input) → sees k.Equals i ≡ false → equals_follows (atom_then x i) ≡ false
unfolding same_kind
atom_no_equals (Named x) i h = equals_after x i ∙ h
atom_no_equals (Qualified x) i h = other_first (tok k.Qualified x) i refl
atom_no_equals (Level x) i h = other_first (tok k.SetLevel x) i refl
atom_no_equals (Hole x) i h = other_first (tok k.Hole x) i refl
atom_no_equals (Blank x) i h = other_first (tok k.Underscore x) i refl
atom_no_equals (Paren l d r) i h = other_first (tok k.ParenOpen l) (then d (tok k.ParenClose r ∷ i)) refl
atom_no_equals (Record w l fs r) i h = refl

no_equals : (d : Derivation) (rest : Input) → sees k.Equals rest ≡ false → equals_follows (then d rest) ≡ false
unfolding same_kind
no_equals (Pi (Typing Round l x xs o t r) ys w d) rest h = refl
no_equals (Pi (Typing Curly l x xs o t r) ys w d) rest h = refl
no_equals (Forall m x xs w d) rest h = other_first (tok k.All m) (bound_then x (more_bound_then xs (tok k.Arrow w ∷ then d rest))) refl
no_equals (Lambda m x xs w d) rest h = other_first (tok k.Lambda m) (lambda_bound_then x (more_lambda_bound_then xs (tok k.Arrow w ∷ then d rest))) refl
no_equals (App x xs) rest h = atom_no_equals x (arguments_then xs rest) (arguments_no_equals xs rest h)
no_equals (Arrow x xs w d) rest h = atom_no_equals x (arguments_then xs (tok k.Arrow w ∷ then d rest)) (arguments_no_equals xs (tok k.Arrow w ∷ then d rest) refl)

begins_typed_yes : (x : Typed) (rest : Input) → next_is begins_typed (typed_then x rest) ≡ true
unfolding same_kind
begins_typed_yes (Typing Round l x xs o d r) rest = refl
begins_typed_yes (Typing Curly l x xs o d r) rest = refl

begins_arg_yes : (x : Argument) (rest : Input) → next_is begins_arg (argument_then x rest) ≡ true
unfolding same_kind begins_atom
begins_arg_yes (Plain (Named x)) rest = refl
begins_arg_yes (Plain (Qualified x)) rest = refl
begins_arg_yes (Plain (Level x)) rest = refl
begins_arg_yes (Plain (Hole x)) rest = refl
begins_arg_yes (Plain (Blank x)) rest = refl
begins_arg_yes (Plain (Paren l d r)) rest = refl
begins_arg_yes (Plain (Record w l fs r)) rest = refl
begins_arg_yes (Braced l d r) rest = refl
begins_arg_yes (Equated l x o d r) rest = refl
begins_arg_yes (Projected o x) rest = refl
begins_arg_yes (ProjectedQualified o x) rest = refl

begins_bound_yes : (x : Bound) (rest : Input) → next_is begins_bound (bound_then x rest) ≡ true
unfolding same_kind
begins_bound_yes (BoundName x) rest = refl
begins_bound_yes (BoundBraced l x r) rest = refl
begins_bound_yes (BoundTyped (Typing Round l x xs o d r)) rest = refl
begins_bound_yes (BoundTyped (Typing Curly l x xs o d r)) rest = refl

begins_lambda_yes : (x : LambdaBound) (rest : Input) → next_is (begins_binder q.Lambda) (lambda_bound_then x rest) ≡ true
unfolding same_kind
begins_lambda_yes (BoundBlank x) rest = refl
begins_lambda_yes (BoundAs (BoundName x)) rest = refl
begins_lambda_yes (BoundAs (BoundBraced l x r)) rest = refl
begins_lambda_yes (BoundAs (BoundTyped (Typing Round l x xs o d r))) rest = refl
begins_lambda_yes (BoundAs (BoundTyped (Typing Curly l x xs o d r))) rest = refl

-- ---- the readings

module _ (text : List ℕ) where
  pub names_read : (m : ℕ) (found : List Name) (xs : List Mark) (rest : Input) → length xs ≤ m → sees k.Name rest ≡ false → many_from (λ _. one_name text) m found (names_then xs rest) ≡ Ok (found ++ map (name_of text) xs, rest)
  unfolding many_from one_name name expect one same_kind
  names_read zero found [] rest le st = ap (λ (ys : List Name). Ok (ys, rest)) (sym (append-nil found))
  names_read (suc m) found [] rest le st = rw st (ap (λ (ys : List Name). Ok (ys, rest)) (sym (append-nil found)))
  names_read zero found (x ∷ xs) rest le st = absurd (omega arith)
  names_read (suc m) found (x ∷ xs) rest le st = names_read m (found ++ name_of text x ∷ []) xs rest (omega arith) st ∙ ap (λ (ys : List Name). Ok (ys, rest)) (append_assoc found (name_of text x ∷ []) (map (name_of text) xs))

  abbrev Read : ℕ → Derivation → Input → Type 0
  Read n d rest = expr text n (then d rest) ≡ Ok (tree text d, rest)

  typed_from_read : (n : ℕ) (c : Bracket) (l x : Mark) (xs : List Mark) (o : Mark) (d : Derivation) (r : Mark) (rest : Input) → length xs ≤ n → Read n d (tok (close_of c) r ∷ rest)
      → typed_from text n (expr text n) c l (name_of text x) (names_then xs (tok k.Colon o ∷ then d (tok (close_of c) r ∷ rest))) ≡ Ok (typed_tree text (Typing c l x xs o d r), rest)
  unfolding typed_from names expect one same_kind
  typed_from_read n Round l x xs o d r rest le h = rw (names_read n (name_of text x ∷ []) xs (tok k.Colon o ∷ then d (tok k.ParenClose r ∷ rest)) le refl, h) refl
  typed_from_read n Curly l x xs o d r rest le h = rw (names_read n (name_of text x ∷ []) xs (tok k.Colon o ∷ then d (tok k.BraceClose r ∷ rest)) le refl, h) refl

  typed_after_read : (n : ℕ) (c : Bracket) (l x : Mark) (xs : List Mark) (o : Mark) (d : Derivation) (r : Mark) (rest : Input) → length xs ≤ n → Read n d (tok (close_of c) r ∷ rest)
      → typed_after text n (expr text n) c l (tok k.Name x ∷ names_then xs (tok k.Colon o ∷ then d (tok (close_of c) r ∷ rest))) ≡ Ok (typed_tree text (Typing c l x xs o d r), rest)
  unfolding typed_after name expect one same_kind
  typed_after_read n c l x xs o d r rest le h = typed_from_read n c l x xs o d r rest le h

  app_from_read : (n : ℕ) (head : Expr) (xs : Arguments) (t : Tail) (rest : Input)
      → many_from (λ _. one_arg text n (expr text n)) n [] (arguments_then xs (tail_then t rest)) ≡ Ok (arguments_tree text xs, tail_then t rest)
      → arrow_tail text n (expr text n) (applied head (arguments_tree text xs)) (tail_then t rest) ≡ Ok (tail_tree text (applied head (arguments_tree text xs)) t, rest)
      → app_from text n (expr text n) head (arguments_then xs (tail_then t rest)) ≡ Ok (tail_tree text (applied head (arguments_tree text xs)) t, rest)
  unfolding app_from args
  app_from_read n head xs t rest one more = rw (one, more) refl

  abbrev pi_tree : Binder → MoreTyped → Derivation → Expr
  pi_tree x xs d = e.Pi (joined (binder_place x) (expr_place (tree text d))) (x ∷ more_typed_tree text xs) (tree text d)

  arrow_no_arg : (w : Mark) (rest : Input) → next_is begins_arg (tok k.Arrow w ∷ rest) ≡ false
  unfolding same_kind begins_atom
  arrow_no_arg w rest = refl

  record_read : (n : ℕ) (w l : Mark) (fs : Fields) (r : Mark) (rest : Input) → fields text n (expr text n) (fields_then fs (tok k.BraceClose r ∷ rest)) ≡ Ok (fields_tree text fs, tok k.BraceClose r ∷ rest)
      → record_atom text n (expr text n) (atom_then (Record w l fs r) rest) ≡ Ok (atom_tree text (Record w l fs r), rest)
  unfolding record_atom expect one same_kind
  record_read n w l fs r rest h = rw h refl

  pi_from_read : (n : ℕ) (x : Binder) (xs : MoreTyped) (w : Mark) (d : Derivation) (rest : Input)
      → many_from (λ _. one_typed text n (expr text n)) n (x ∷ []) (more_typed_then xs (tok k.Arrow w ∷ then d rest)) ≡ Ok (x ∷ more_typed_tree text xs, tok k.Arrow w ∷ then d rest) → Read n d rest
      → pi_from text n (expr text n) x (more_typed_then xs (tok k.Arrow w ∷ then d rest)) ≡ Ok (pi_tree x xs d, rest)
  unfolding pi_from more_typed expect one same_kind
  pi_from_read n x xs w d rest h g = rw (h, g) refl

  stop_read : (n : ℕ) (left : Expr) (rest : Input) → sees k.Arrow rest ≡ false → arrow_tail text n (expr text n) left rest ≡ Ok (left, rest)
  unfolding arrow_tail
  stop_read n left rest h = rw h refl

  arrow_read : (n : ℕ) (left : Expr) (w : Mark) (d : Derivation) (rest : Input) → Read n d rest → arrow_tail text n (expr text n) left (tok k.Arrow w ∷ then d rest) ≡ Ok (tail_tree text left (ArrowTail w d), rest)
  unfolding arrow_tail expect one same_kind
  arrow_read n left w d rest h = rw h refl

  mutual
    unfolding many_from one_typed typed more_typed pi_from paren_after field one_field more_fields fields record_atom simple_atom named_arg implicit_arg braced_arg project_arg arg one_arg args arrow_tail after_paren braced_from bound lambda_bound binder one_binder binders quantified level expr name expect one same_kind begins_atom colon_follows

    pub more_typed_read : (n m : ℕ) (found : List Binder) (xs : MoreTyped) (rest : Input) → more_typed_size xs ≤ n → more_typed_size xs ≤ m → next_is begins_typed rest ≡ false
        → many_from (λ _. one_typed text n (expr text n)) m found (more_typed_then xs rest) ≡ Ok (found ++ more_typed_tree text xs, rest)
    more_typed_read n zero found LastTyped rest le lm st = ap (λ (ys : List Binder). Ok (ys, rest)) (sym (append-nil found))
    more_typed_read n (suc m) found LastTyped rest le lm st = rw st (ap (λ (ys : List Binder). Ok (ys, rest)) (sym (append-nil found)))
    more_typed_read n zero found (NextTyped x xs) rest le lm st = absurd (omega arith)
    more_typed_read n (suc m) found (NextTyped x xs) rest le lm st =
        rw (begins_typed_yes x (more_typed_then xs rest), typed_read n x (more_typed_then xs rest) (omega arith))
        (more_typed_read n m (found ++ typed_tree text x ∷ []) xs rest (omega arith) (omega arith) st ∙ ap (λ (ys : List Binder). Ok (ys, rest)) (append_assoc found (typed_tree text x ∷ []) (more_typed_tree text xs)))

    typed_read : (n : ℕ) (x : Typed) (rest : Input) → typed_size x ≤ n → typed text n (expr text n) (typed_then x rest) ≡ Ok (typed_tree text x, rest)
    typed_read n (Typing Round l x xs o d r) rest le = typed_after_read n Round l x xs o d r rest (omega arith) (read n d (tok k.ParenClose r ∷ rest) (omega arith) (close_stops Round r rest))
    typed_read n (Typing Curly l x xs o d r) rest le = typed_after_read n Curly l x xs o d r rest (omega arith) (read n d (tok k.BraceClose r ∷ rest) (omega arith) (close_stops Curly r rest))

    more_fields_read : (n m : ℕ) (found : List FieldValue) (fs : MoreFields) (r : Mark) (rest : Input) → more_fields_size fs ≤ n → more_fields_size fs ≤ m
        → many_from (λ _. one_field text n (expr text n)) m found (more_fields_then fs (tok k.BraceClose r ∷ rest)) ≡ Ok (found ++ more_fields_tree text fs, tok k.BraceClose r ∷ rest)
    more_fields_read n zero found LastField r rest le lm = ap (λ (ys : List FieldValue). Ok (ys, tok k.BraceClose r ∷ rest)) (sym (append-nil found))
    more_fields_read n (suc m) found LastField r rest le lm = ap (λ (ys : List FieldValue). Ok (ys, tok k.BraceClose r ∷ rest)) (sym (append-nil found))
    more_fields_read n zero found (NextField s x o d fs) r rest le lm = absurd (omega arith)
    more_fields_read n (suc m) found (NextField s x o d fs) r rest le lm =
        let v : FieldValue = record { name = name_of text x; value = tree text d } in
        rw (read n d (more_fields_then fs (tok k.BraceClose r ∷ rest)) (omega arith) (more_fields_stop fs r rest))
        (more_fields_read n m (found ++ v ∷ []) fs r rest (omega arith) (omega arith) ∙ ap (λ (ys : List FieldValue). Ok (ys, tok k.BraceClose r ∷ rest)) (append_assoc found (v ∷ []) (more_fields_tree text fs)))

    fields_read : (n : ℕ) (fs : Fields) (r : Mark) (rest : Input) → fields_size fs ≤ n → fields text n (expr text n) (fields_then fs (tok k.BraceClose r ∷ rest)) ≡ Ok (fields_tree text fs, tok k.BraceClose r ∷ rest)
    fields_read n NoField r rest le = refl
    fields_read n (Field x o d fs) r rest le =
        let v : FieldValue = record { name = name_of text x; value = tree text d } in
        rw (read n d (more_fields_then fs (tok k.BraceClose r ∷ rest)) (omega arith) (more_fields_stop fs r rest)) (more_fields_read n n (v ∷ []) fs r rest (omega arith) (omega arith))

    argument_read : (n : ℕ) (x : Argument) (rest : Input) → argument_size x ≤ n → arg text n (expr text n) (argument_then x rest) ≡ Ok (argument_tree text x, rest)
    argument_read n (Plain (Named x)) rest le = refl
    argument_read n (Plain (Qualified x)) rest le = refl
    argument_read n (Plain (Level x)) rest le = refl
    argument_read n (Plain (Hole x)) rest le = refl
    argument_read n (Plain (Blank x)) rest le = refl
    argument_read n (Plain (Paren l d r)) rest le = rw (read n d (tok k.ParenClose r ∷ rest) le (close_stops Round r rest)) refl
    argument_read n (Plain (Record w l fs r)) rest le = rw (record_read n w l fs r rest (fields_read n fs r rest le)) refl
    argument_read n (Braced l d r) rest le = rw (no_equals d (tok k.BraceClose r ∷ rest) refl, read n d (tok k.BraceClose r ∷ rest) le (close_stops Curly r rest)) refl
    argument_read n (Equated l x o d r) rest le = rw (read n d (tok k.BraceClose r ∷ rest) le (close_stops Curly r rest)) refl
    argument_read n (Projected o x) rest le = refl
    argument_read n (ProjectedQualified o x) rest le = refl

    arguments_read : (n m : ℕ) (found : List Arg) (xs : Arguments) (rest : Input) → arguments_size xs ≤ n → arguments_size xs ≤ m → next_is begins_arg rest ≡ false
        → many_from (λ _. one_arg text n (expr text n)) m found (arguments_then xs rest) ≡ Ok (found ++ arguments_tree text xs, rest)
    arguments_read n zero found NoArgument rest le lm st = ap (λ (ys : List Arg). Ok (ys, rest)) (sym (append-nil found))
    arguments_read n (suc m) found NoArgument rest le lm st = rw st (ap (λ (ys : List Arg). Ok (ys, rest)) (sym (append-nil found)))
    arguments_read n zero found (More x xs) rest le lm st = absurd (omega arith)
    arguments_read n (suc m) found (More x xs) rest le lm st =
        rw (begins_arg_yes x (arguments_then xs rest), argument_read n x (arguments_then xs rest) (omega arith))
        (arguments_read n m (found ++ argument_tree text x ∷ []) xs rest (omega arith) (omega arith) st ∙ ap (λ (ys : List Arg). Ok (ys, rest)) (append_assoc found (argument_tree text x ∷ []) (arguments_tree text xs)))

    bound_read : (n : ℕ) (x : Bound) (rest : Input) → bound_size x ≤ n → bound text n (expr text n) (bound_then x rest) ≡ Ok (bound_tree text x, rest)
    bound_read n (BoundName x) rest le = refl
    bound_read n (BoundBraced l x r) rest le = refl
    bound_read n (BoundTyped (Typing Round l x xs o d r)) rest le = typed_after_read n Round l x xs o d r rest (omega arith) (read n d (tok k.ParenClose r ∷ rest) (omega arith) (close_stops Round r rest))
    bound_read n (BoundTyped (Typing Curly l x xs o d r)) rest le =
        rw (names_then_close xs o (then d (tok k.BraceClose r ∷ rest)))
        (typed_from_read n Curly l x xs o d r rest (omega arith) (read n d (tok k.BraceClose r ∷ rest) (omega arith) (close_stops Curly r rest)))

    more_bound_read : (n m : ℕ) (found : List Binder) (xs : MoreBound) (rest : Input) → more_bound_size xs ≤ n → more_bound_size xs ≤ m → next_is begins_bound rest ≡ false
        → many_from (λ _. one_binder text n (expr text n) q.All) m found (more_bound_then xs rest) ≡ Ok (found ++ more_bound_tree text xs, rest)
    more_bound_read n zero found LastBound rest le lm st = ap (λ (ys : List Binder). Ok (ys, rest)) (sym (append-nil found))
    more_bound_read n (suc m) found LastBound rest le lm st = rw st (ap (λ (ys : List Binder). Ok (ys, rest)) (sym (append-nil found)))
    more_bound_read n zero found (NextBound x xs) rest le lm st = absurd (omega arith)
    more_bound_read n (suc m) found (NextBound x xs) rest le lm st =
        rw (begins_bound_yes x (more_bound_then xs rest), bound_read n x (more_bound_then xs rest) (omega arith))
        (more_bound_read n m (found ++ bound_tree text x ∷ []) xs rest (omega arith) (omega arith) st ∙ ap (λ (ys : List Binder). Ok (ys, rest)) (append_assoc found (bound_tree text x ∷ []) (more_bound_tree text xs)))

    lambda_bound_read : (n : ℕ) (x : LambdaBound) (rest : Input) → lambda_bound_size x ≤ n → lambda_bound text n (expr text n) (lambda_bound_then x rest) ≡ Ok (lambda_bound_tree text x, rest)
    lambda_bound_read n (BoundBlank x) rest le = refl
    lambda_bound_read n (BoundAs (BoundName x)) rest le = refl
    lambda_bound_read n (BoundAs (BoundBraced l x r)) rest le = refl
    lambda_bound_read n (BoundAs (BoundTyped (Typing Round l x xs o d r))) rest le = typed_after_read n Round l x xs o d r rest (omega arith) (read n d (tok k.ParenClose r ∷ rest) (omega arith) (close_stops Round r rest))
    lambda_bound_read n (BoundAs (BoundTyped (Typing Curly l x xs o d r))) rest le =
        rw (names_then_close xs o (then d (tok k.BraceClose r ∷ rest)))
        (typed_from_read n Curly l x xs o d r rest (omega arith) (read n d (tok k.BraceClose r ∷ rest) (omega arith) (close_stops Curly r rest)))

    more_lambda_bound_read : (n m : ℕ) (found : List Binder) (xs : MoreLambdaBound) (rest : Input) → more_lambda_bound_size xs ≤ n → more_lambda_bound_size xs ≤ m → next_is (begins_binder q.Lambda) rest ≡ false
        → many_from (λ _. one_binder text n (expr text n) q.Lambda) m found (more_lambda_bound_then xs rest) ≡ Ok (found ++ more_lambda_bound_tree text xs, rest)
    more_lambda_bound_read n zero found LastLambdaBound rest le lm st = ap (λ (ys : List Binder). Ok (ys, rest)) (sym (append-nil found))
    more_lambda_bound_read n (suc m) found LastLambdaBound rest le lm st = rw st (ap (λ (ys : List Binder). Ok (ys, rest)) (sym (append-nil found)))
    more_lambda_bound_read n zero found (NextLambdaBound x xs) rest le lm st = absurd (omega arith)
    more_lambda_bound_read n (suc m) found (NextLambdaBound x xs) rest le lm st =
        rw (begins_lambda_yes x (more_lambda_bound_then xs rest), lambda_bound_read n x (more_lambda_bound_then xs rest) (omega arith))
        (more_lambda_bound_read n m (found ++ lambda_bound_tree text x ∷ []) xs rest (omega arith) (omega arith) st ∙ ap (λ (ys : List Binder). Ok (ys, rest)) (append_assoc found (lambda_bound_tree text x ∷ []) (more_lambda_bound_tree text xs)))

    head_read : (n : ℕ) (x : Atom) (rest : Input) → atom_size x ≤ n → level text n (expr text n) (atom_then x rest) ≡ app_from text n (expr text n) (atom_tree text x) rest
    head_read n (Named x) rest le = refl
    head_read n (Qualified x) rest le = refl
    head_read n (Level x) rest le = refl
    head_read n (Hole x) rest le = refl
    head_read n (Blank x) rest le = refl
    head_read n (Paren l d r) rest le = rw (inside_plain d r rest, read n d (tok k.ParenClose r ∷ rest) le (close_stops Round r rest)) refl
    head_read n (Record w l fs r) rest le = rw (record_read n w l fs r rest (fields_read n fs r rest le)) refl

    pub read : (n : ℕ) (d : Derivation) (rest : Input) → size d ≤ n → Stops rest → Read n d rest
    read zero (Pi x xs w d) rest le s = absurd (omega arith)
    read zero (Forall m x xs w d) rest le s = absurd (omega arith)
    read zero (Lambda m x xs w d) rest le s = absurd (omega arith)
    read zero (App x xs) rest le s = absurd (omega arith)
    read zero (Arrow x xs w d) rest le s = absurd (omega arith)
    read (suc n) (Pi (Typing Round l x xs o t r) ys w d) rest le s =
        let more : Input = more_typed_then ys (tok k.Arrow w ∷ then d rest) in
        rw (
          names_colon_yes xs o (then t (tok k.ParenClose r ∷ more)),
          typed_after_read n Round l x xs o t r more (omega arith) (read n t (tok k.ParenClose r ∷ more) (omega arith) (close_stops Round r more)),
        )
        (pi_from_read n (typed_tree text (Typing Round l x xs o t r)) ys w d rest (more_typed_read n n (typed_tree text (Typing Round l x xs o t r) ∷ []) ys (tok k.Arrow w ∷ then d rest) (omega arith) (omega arith) refl) (read n d rest (omega arith) s))
    read (suc n) (Pi (Typing Curly l x xs o t r) ys w d) rest le s =
        let more : Input = more_typed_then ys (tok k.Arrow w ∷ then d rest) in
        rw (typed_after_read n Curly l x xs o t r more (omega arith) (read n t (tok k.BraceClose r ∷ more) (omega arith) (close_stops Curly r more)))
        (pi_from_read n (typed_tree text (Typing Curly l x xs o t r)) ys w d rest (more_typed_read n n (typed_tree text (Typing Curly l x xs o t r) ∷ []) ys (tok k.Arrow w ∷ then d rest) (omega arith) (omega arith) refl) (read n d rest (omega arith) s))
    read (suc n) (Forall m x xs w d) rest le s =
        let more : Input = tok k.Arrow w ∷ then d rest in
        rw (bound_read n x (more_bound_then xs more) (omega arith), more_bound_read n n (bound_tree text x ∷ []) xs more (omega arith) (omega arith) refl, read n d rest (omega arith) s) refl
    read (suc n) (Lambda m x xs w d) rest le s =
        let more : Input = tok k.Arrow w ∷ then d rest in
        rw (lambda_bound_read n x (more_lambda_bound_then xs more) (omega arith), more_lambda_bound_read n n (lambda_bound_tree text x ∷ []) xs more (omega arith) (omega arith) refl, read n d rest (omega arith) s) refl
    read (suc n) (App x xs) rest le s = head_read n x (arguments_then xs rest) (omega arith) ∙ app_from_read n (atom_tree text x) xs NoTail rest (arguments_read n n [] xs rest (omega arith) (omega arith) s.arg) (stop_read n (applied (atom_tree text x) (arguments_tree text xs)) rest s.arrow)
    read (suc n) (Arrow x xs w d) rest le s = head_read n x (arguments_then xs (tok k.Arrow w ∷ then d rest)) (omega arith) ∙ app_from_read n (atom_tree text x) xs (ArrowTail w d) rest (arguments_read n n [] xs (tok k.Arrow w ∷ then d rest) (omega arith) (omega arith) (arrow_no_arg w (then d rest))) (arrow_read n (applied (atom_tree text x) (arguments_tree text xs)) w d rest (read n d rest (omega arith) s))
