-- The nesting of each sign of a derivation that stands at a nesting itself, in front of others: one more inside parentheses and braces, in the body of
-- `λ` and on the right side of an arrow. The count stands still above the limit.
use Rattle.std.specs.Prelude.{ℕ, List, [], ◌∷◌}
use Rattle.agda_grammar.specs.declared.sign.Mark.{Mark}
use Rattle.agda_grammar.specs.Grammar.{Atom, Named, Qualified, Level, Hole, Blank, Paren, Record, Fields, NoField, Field, MoreFields, LastField, NextField, Argument, Plain, Braced, Equated, Projected, ProjectedQualified, Arguments, NoArgument, More, Typed, Typing, MoreTyped, LastTyped, NextTyped, Bound, BoundName, BoundBraced, BoundTyped, MoreBound, LastBound, NextBound, LambdaBound, BoundBlank, BoundAs, MoreLambdaBound, LastLambdaBound, NextLambdaBound, Derivation, Pi, Forall, Lambda, App, Arrow}
use Rattle.agda_grammar.specs.Nesting.{rise}

-- n for each name
abbrev pub names_depths : List Mark → ℕ → List ℕ → List ℕ
names_depths [] n rest = rest
names_depths (x ∷ xs) n rest = n ∷ names_depths xs n rest

abbrev mutual
  pub atom_depths : Atom → ℕ → List ℕ → List ℕ
  atom_depths (Named x) n rest = n ∷ rest
  atom_depths (Qualified x) n rest = n ∷ rest
  atom_depths (Level x) n rest = n ∷ rest
  atom_depths (Hole x) n rest = n ∷ rest
  atom_depths (Blank x) n rest = n ∷ rest
  atom_depths (Paren l d r) n rest = n ∷ depths d (rise n) (n ∷ rest)
  atom_depths (Record w l fs r) n rest = n ∷ n ∷ fields_depths fs (rise n) (n ∷ rest)

  pub fields_depths : Fields → ℕ → List ℕ → List ℕ
  fields_depths NoField n rest = rest
  fields_depths (Field x o d fs) n rest = n ∷ n ∷ depths d n (more_fields_depths fs n rest)

  pub more_fields_depths : MoreFields → ℕ → List ℕ → List ℕ
  more_fields_depths LastField n rest = rest
  more_fields_depths (NextField s x o d fs) n rest = n ∷ n ∷ n ∷ depths d n (more_fields_depths fs n rest)

  pub argument_depths : Argument → ℕ → List ℕ → List ℕ
  argument_depths (Plain x) n rest = atom_depths x n rest
  argument_depths (Braced l d r) n rest = n ∷ depths d (rise n) (n ∷ rest)
  argument_depths (Equated l x o d r) n rest = n ∷ rise n ∷ rise n ∷ depths d (rise n) (n ∷ rest)
  argument_depths (Projected o x) n rest = n ∷ n ∷ rest
  argument_depths (ProjectedQualified o x) n rest = n ∷ n ∷ rest

  pub arguments_depths : Arguments → ℕ → List ℕ → List ℕ
  arguments_depths NoArgument n rest = rest
  arguments_depths (More x xs) n rest = argument_depths x n (arguments_depths xs n rest)

  pub typed_depths : Typed → ℕ → List ℕ → List ℕ
  typed_depths (Typing c l x xs o d r) n rest = n ∷ rise n ∷ names_depths xs (rise n) (rise n ∷ depths d (rise n) (n ∷ rest))

  pub more_typed_depths : MoreTyped → ℕ → List ℕ → List ℕ
  more_typed_depths LastTyped n rest = rest
  more_typed_depths (NextTyped x xs) n rest = typed_depths x n (more_typed_depths xs n rest)

  pub bound_depths : Bound → ℕ → List ℕ → List ℕ
  bound_depths (BoundName x) n rest = n ∷ rest
  bound_depths (BoundBraced l x r) n rest = n ∷ rise n ∷ n ∷ rest
  bound_depths (BoundTyped x) n rest = typed_depths x n rest

  pub more_bound_depths : MoreBound → ℕ → List ℕ → List ℕ
  more_bound_depths LastBound n rest = rest
  more_bound_depths (NextBound x xs) n rest = bound_depths x n (more_bound_depths xs n rest)

  pub lambda_bound_depths : LambdaBound → ℕ → List ℕ → List ℕ
  lambda_bound_depths (BoundBlank x) n rest = n ∷ rest
  lambda_bound_depths (BoundAs x) n rest = bound_depths x n rest

  pub more_lambda_bound_depths : MoreLambdaBound → ℕ → List ℕ → List ℕ
  more_lambda_bound_depths LastLambdaBound n rest = rest
  more_lambda_bound_depths (NextLambdaBound x xs) n rest = lambda_bound_depths x n (more_lambda_bound_depths xs n rest)

  pub depths : Derivation → ℕ → List ℕ → List ℕ
  depths (Pi x xs w d) n rest = typed_depths x n (more_typed_depths xs n (n ∷ depths d (rise n) rest))
  depths (Forall m x xs w d) n rest = n ∷ bound_depths x n (more_bound_depths xs n (n ∷ depths d (rise n) rest))
  depths (Lambda m x xs w d) n rest = n ∷ lambda_bound_depths x n (more_lambda_bound_depths xs n (n ∷ depths d (rise n) rest))
  depths (App x xs) n rest = atom_depths x n (arguments_depths xs n rest)
  depths (Arrow x xs w d) n rest = atom_depths x n (arguments_depths xs n (n ∷ depths d (rise n) rest))
