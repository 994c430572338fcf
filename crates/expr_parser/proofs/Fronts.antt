-- The signs of a derivation in front of a list, and of one in front of the beginning of it.
use Rattle.std.proofs.Common.{◌≡◌, List, [], ◌∷◌, ◌++◌, refl, ap, ◌∙◌}
use Rattle.agda_grammar.specs.declared.sign.Kind.TheVariants as k
use Rattle.agda_grammar.specs.declared.sign.Mark.{Mark}
use Rattle.agda_grammar.specs.Signs.{Input, tok}
use Rattle.agda_grammar.specs.Trees.{open_of, close_of}
use Rattle.agda_grammar.specs.Grammar.{Atom, Named, Qualified, Level, Hole, Blank, Paren, Record, Fields, NoField, Field, MoreFields, LastField, NextField, Argument, Plain, Braced, Equated, Projected, ProjectedQualified, Arguments, NoArgument, More, Typed, Typing, MoreTyped, LastTyped, NextTyped, Bound, BoundName, BoundBraced, BoundTyped, MoreBound, LastBound, NextBound, LambdaBound, BoundBlank, BoundAs, MoreLambdaBound, LastLambdaBound, NextLambdaBound, Derivation, Pi, Forall, Lambda, App, Arrow, names_then, atom_then, fields_then, more_fields_then, argument_then, arguments_then, typed_then, more_typed_then, bound_then, more_bound_then, lambda_bound_then, more_lambda_bound_then, then}
use Rattle.agda_grammar.specs.Patterns.{Matching, Simple, Matched, SimplePattern, PatternName, PatternBlank, PatternAbsurd, PatternParen, PatternDotted, Elimination, Explicit, Implicit, EquatedPattern, Projection, ProjectionQualified, Eliminations, NoElimination, MoreElimination, matching_then, simple_then, elimination_then, eliminations_then}

-- f puts the same signs in front of each list
abbrev pub Fronts : (Input → Input) → Type 0
Fronts f = (a rest : Input) → f (a ++ rest) ≡ f a ++ rest

names_front : (xs : List Mark) → Fronts (names_then xs)
names_front [] a rest = refl
names_front (x ∷ xs) a rest = ap (λ (y : Input). tok k.Name x ∷ y) (names_front xs a rest)

mutual
  atom_front : (x : Atom) → Fronts (atom_then x)
  atom_front (Named x) a rest = refl
  atom_front (Qualified x) a rest = refl
  atom_front (Level x) a rest = refl
  atom_front (Hole x) a rest = refl
  atom_front (Blank x) a rest = refl
  atom_front (Paren l d r) a rest = ap (λ (y : Input). tok k.ParenOpen l ∷ y) (front d (tok k.ParenClose r ∷ a) rest)
  atom_front (Record w l fs r) a rest = ap (λ (y : Input). tok k.Record w ∷ tok k.BraceOpen l ∷ y) (fields_front fs (tok k.BraceClose r ∷ a) rest)

  fields_front : (fs : Fields) → Fronts (fields_then fs)
  fields_front NoField a rest = refl
  fields_front (Field x q d fs) a rest = ap (λ (y : Input). tok k.Name x ∷ tok k.Equals q ∷ y) (ap (then d) (more_fields_front fs a rest) ∙ front d (more_fields_then fs a) rest)

  more_fields_front : (fs : MoreFields) → Fronts (more_fields_then fs)
  more_fields_front LastField a rest = refl
  more_fields_front (NextField s x q d fs) a rest = ap (λ (y : Input). tok k.Semicolon s ∷ tok k.Name x ∷ tok k.Equals q ∷ y) (ap (then d) (more_fields_front fs a rest) ∙ front d (more_fields_then fs a) rest)

  argument_front : (x : Argument) → Fronts (argument_then x)
  argument_front (Plain x) a rest = atom_front x a rest
  argument_front (Braced l d r) a rest = ap (λ (y : Input). tok k.BraceOpen l ∷ y) (front d (tok k.BraceClose r ∷ a) rest)
  argument_front (Equated l x q d r) a rest = ap (λ (y : Input). tok k.BraceOpen l ∷ tok k.Name x ∷ tok k.Equals q ∷ y) (front d (tok k.BraceClose r ∷ a) rest)
  argument_front (Projected o x) a rest = refl
  argument_front (ProjectedQualified o x) a rest = refl

  arguments_front : (xs : Arguments) → Fronts (arguments_then xs)
  arguments_front NoArgument a rest = refl
  arguments_front (More x xs) a rest = ap (argument_then x) (arguments_front xs a rest) ∙ argument_front x (arguments_then xs a) rest

  typed_front : (x : Typed) → Fronts (typed_then x)
  typed_front (Typing c l x xs o d r) a rest =
      ap (λ (y : Input). tok (open_of c) l ∷ tok k.Name x ∷ y) (ap (λ (y : Input). names_then xs (tok k.Colon o ∷ y)) (front d (tok (close_of c) r ∷ a) rest) ∙ names_front xs (tok k.Colon o ∷ then d (tok (close_of c) r ∷ a)) rest)

  more_typed_front : (xs : MoreTyped) → Fronts (more_typed_then xs)
  more_typed_front LastTyped a rest = refl
  more_typed_front (NextTyped x xs) a rest = ap (typed_then x) (more_typed_front xs a rest) ∙ typed_front x (more_typed_then xs a) rest

  bound_front : (x : Bound) → Fronts (bound_then x)
  bound_front (BoundName x) a rest = refl
  bound_front (BoundBraced l x r) a rest = refl
  bound_front (BoundTyped x) a rest = typed_front x a rest

  more_bound_front : (xs : MoreBound) → Fronts (more_bound_then xs)
  more_bound_front LastBound a rest = refl
  more_bound_front (NextBound x xs) a rest = ap (bound_then x) (more_bound_front xs a rest) ∙ bound_front x (more_bound_then xs a) rest

  lambda_bound_front : (x : LambdaBound) → Fronts (lambda_bound_then x)
  lambda_bound_front (BoundBlank x) a rest = refl
  lambda_bound_front (BoundAs x) a rest = bound_front x a rest

  more_lambda_bound_front : (xs : MoreLambdaBound) → Fronts (more_lambda_bound_then xs)
  more_lambda_bound_front LastLambdaBound a rest = refl
  more_lambda_bound_front (NextLambdaBound x xs) a rest = ap (lambda_bound_then x) (more_lambda_bound_front xs a rest) ∙ lambda_bound_front x (more_lambda_bound_then xs a) rest

  pub front : (d : Derivation) → Fronts (then d)
  front (Pi x xs w d) a rest =
      ap (λ (y : Input). typed_then x (more_typed_then xs (tok k.Arrow w ∷ y))) (front d a rest)
      ∙ ap (typed_then x) (more_typed_front xs (tok k.Arrow w ∷ then d a) rest) ∙ typed_front x (more_typed_then xs (tok k.Arrow w ∷ then d a)) rest
  front (Forall m x xs w d) a rest =
      ap (λ (y : Input). tok k.All m ∷ bound_then x (more_bound_then xs (tok k.Arrow w ∷ y))) (front d a rest)
      ∙ ap (λ (y : Input). tok k.All m ∷ y) (ap (bound_then x) (more_bound_front xs (tok k.Arrow w ∷ then d a) rest) ∙ bound_front x (more_bound_then xs (tok k.Arrow w ∷ then d a)) rest)
  front (Lambda m x xs w d) a rest =
      ap (λ (y : Input). tok k.Lambda m ∷ lambda_bound_then x (more_lambda_bound_then xs (tok k.Arrow w ∷ y))) (front d a rest)
      ∙ ap (λ (y : Input). tok k.Lambda m ∷ y) (ap (lambda_bound_then x) (more_lambda_bound_front xs (tok k.Arrow w ∷ then d a) rest) ∙ lambda_bound_front x (more_lambda_bound_then xs (tok k.Arrow w ∷ then d a)) rest)
  front (App x xs) a rest = ap (atom_then x) (arguments_front xs a rest) ∙ atom_front x (arguments_then xs a) rest
  front (Arrow x xs w d) a rest =
      ap (λ (y : Input). atom_then x (arguments_then xs (tok k.Arrow w ∷ y))) (front d a rest)
      ∙ ap (atom_then x) (arguments_front xs (tok k.Arrow w ∷ then d a) rest) ∙ atom_front x (arguments_then xs (tok k.Arrow w ∷ then d a)) rest

mutual
  matching_front : (x : Matching) → Fronts (matching_then x)
  matching_front (Simple x) a rest = simple_front x a rest
  matching_front (Matched x e es) a rest = ap (λ (y : Input). tok k.Name x ∷ y) (ap (elimination_then e) (eliminations_front es a rest) ∙ elimination_front e (eliminations_then es a) rest)

  simple_front : (x : SimplePattern) → Fronts (simple_then x)
  simple_front (PatternName x) a rest = refl
  simple_front (PatternBlank x) a rest = refl
  simple_front (PatternAbsurd l c) a rest = refl
  simple_front (PatternParen l x c) a rest = ap (λ (y : Input). tok k.ParenOpen l ∷ y) (matching_front x (tok k.ParenClose c ∷ a) rest)
  simple_front (PatternDotted o l x c) a rest = ap (λ (y : Input). tok k.Dot o ∷ tok k.ParenOpen l ∷ y) (front x (tok k.ParenClose c ∷ a) rest)

  elimination_front : (e : Elimination) → Fronts (elimination_then e)
  elimination_front (Explicit x) a rest = simple_front x a rest
  elimination_front (Implicit l x c) a rest = ap (λ (y : Input). tok k.BraceOpen l ∷ y) (matching_front x (tok k.BraceClose c ∷ a) rest)
  elimination_front (EquatedPattern l z q x c) a rest = ap (λ (y : Input). tok k.BraceOpen l ∷ tok k.Name z ∷ tok k.Equals q ∷ y) (matching_front x (tok k.BraceClose c ∷ a) rest)
  elimination_front (Projection o x) a rest = refl
  elimination_front (ProjectionQualified o x) a rest = refl

  pub eliminations_front : (es : Eliminations) → Fronts (eliminations_then es)
  eliminations_front NoElimination a rest = refl
  eliminations_front (MoreElimination e es) a rest = ap (elimination_then e) (eliminations_front es a rest) ∙ elimination_front e (eliminations_then es a) rest
