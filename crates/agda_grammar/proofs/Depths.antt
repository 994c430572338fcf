-- The count of nesting over signs is that over a derivation.
use Rattle.std.proofs.Common.{◌≡◌, ℕ, List, [], ◌∷◌, refl, ap, ◌∙◌}
use Rattle.agda_grammar.specs.declared.sign.Kind.TheVariants as k
use Rattle.agda_grammar.specs.declared.sign.Mark.{Mark}
use Rattle.agda_grammar.specs.declared.sign.Sign.{Sign}
use Rattle.agda_grammar.specs.declared.bracket.Bracket.TheVariants.{Round, Curly}
use Rattle.agda_grammar.specs.Signs.{tok}
use Rattle.agda_grammar.specs.Grammar.{Atom, Named, Qualified, Level, Hole, Blank, Paren, Record, Fields, NoField, Field, MoreFields, LastField, NextField, Argument, Plain, Braced, Equated, Projected, ProjectedQualified, Arguments, NoArgument, More, Typed, Typing, MoreTyped, LastTyped, NextTyped, Bound, BoundName, BoundBraced, BoundTyped, MoreBound, LastBound, NextBound, LambdaBound, BoundBlank, BoundAs, MoreLambdaBound, LastLambdaBound, NextLambdaBound, Derivation, Pi, Forall, Lambda, App, Arrow, names_then, atom_then, fields_then, more_fields_then, argument_then, arguments_then, typed_then, more_typed_then, bound_then, more_bound_then, lambda_bound_then, more_lambda_bound_then, then}
use Rattle.agda_grammar.specs.Nesting.{limit, rise, Depth, origin, nesting, behind, nestings, shallow, leading}
use Rattle.parse_laws.proofs.Limit as count
use Rattle.agda_grammar.specs.Depths.{names_depths, atom_depths, fields_depths, more_fields_depths, argument_depths, arguments_depths, typed_depths, more_typed_depths, bound_depths, more_bound_depths, lambda_bound_depths, more_lambda_bound_depths, depths}

abbrev pub at : ℕ → List ℕ → Depth
at n ns = record { now = n; outer = ns }

-- the nesting of what comes behind a derivation, if it closes nothing
abbrev pub out : Derivation → ℕ → ℕ
out (Pi x xs w d) n = out d (rise n)
out (Forall m x xs w d) n = out d (rise n)
out (Lambda m x xs w d) n = out d (rise n)
out (App x xs) n = n
out (Arrow x xs w d) n = out d (rise n)

pub names_counted : (xs : List Mark) (n : ℕ) (ns : List ℕ) (rest : List Sign) → nestings (at n ns) (names_then xs rest) ≡ names_depths xs n (nestings (at n ns) rest)
names_counted [] n ns rest = refl
names_counted (x ∷ xs) n ns rest = ap (λ (y : List ℕ). n ∷ y) (names_counted xs n ns rest)

mutual
  atom_counted : (x : Atom) (n : ℕ) (ns : List ℕ) (rest : List Sign) → nestings (at n ns) (atom_then x rest) ≡ atom_depths x n (nestings (at n ns) rest)
  atom_counted (Named x) n ns rest = refl
  atom_counted (Qualified x) n ns rest = refl
  atom_counted (Level x) n ns rest = refl
  atom_counted (Hole x) n ns rest = refl
  atom_counted (Blank x) n ns rest = refl
  atom_counted (Paren l d r) n ns rest = ap (λ (y : List ℕ). n ∷ y) (counted d (rise n) (n ∷ ns) (tok k.ParenClose r ∷ rest))
  atom_counted (Record w l fs r) n ns rest = ap (λ (y : List ℕ). n ∷ n ∷ y) (fields_counted fs n ns r rest)

  -- between the braces of a record that stands at n
  fields_counted : (fs : Fields) (n : ℕ) (ns : List ℕ) (r : Mark) (rest : List Sign) → nestings (at (rise n) (n ∷ ns)) (fields_then fs (tok k.BraceClose r ∷ rest)) ≡ fields_depths fs (rise n) (n ∷ nestings (at n ns) rest)
  fields_counted NoField n ns r rest = refl
  fields_counted (Field x o d fs) n ns r rest =
      ap (λ (y : List ℕ). rise n ∷ rise n ∷ y) (counted d (rise n) (n ∷ ns) (more_fields_then fs (tok k.BraceClose r ∷ rest)) ∙ ap (depths d (rise n)) (more_fields_counted fs (out d (rise n)) n ns r rest))

  more_fields_counted : (fs : MoreFields) (m n : ℕ) (ns : List ℕ) (r : Mark) (rest : List Sign) → nestings (at m (n ∷ ns)) (more_fields_then fs (tok k.BraceClose r ∷ rest)) ≡ more_fields_depths fs (rise n) (n ∷ nestings (at n ns) rest)
  more_fields_counted LastField m n ns r rest = refl
  more_fields_counted (NextField s x o d fs) m n ns r rest =
      ap (λ (y : List ℕ). rise n ∷ rise n ∷ rise n ∷ y) (counted d (rise n) (n ∷ ns) (more_fields_then fs (tok k.BraceClose r ∷ rest)) ∙ ap (depths d (rise n)) (more_fields_counted fs (out d (rise n)) n ns r rest))

  argument_counted : (x : Argument) (n : ℕ) (ns : List ℕ) (rest : List Sign) → nestings (at n ns) (argument_then x rest) ≡ argument_depths x n (nestings (at n ns) rest)
  argument_counted (Plain x) n ns rest = atom_counted x n ns rest
  argument_counted (Braced l d r) n ns rest = ap (λ (y : List ℕ). n ∷ y) (counted d (rise n) (n ∷ ns) (tok k.BraceClose r ∷ rest))
  argument_counted (Equated l x o d r) n ns rest = ap (λ (y : List ℕ). n ∷ rise n ∷ rise n ∷ y) (counted d (rise n) (n ∷ ns) (tok k.BraceClose r ∷ rest))
  argument_counted (Projected o x) n ns rest = refl
  argument_counted (ProjectedQualified o x) n ns rest = refl

  arguments_counted : (xs : Arguments) (n : ℕ) (ns : List ℕ) (rest : List Sign) → nestings (at n ns) (arguments_then xs rest) ≡ arguments_depths xs n (nestings (at n ns) rest)
  arguments_counted NoArgument n ns rest = refl
  arguments_counted (More x xs) n ns rest = argument_counted x n ns (arguments_then xs rest) ∙ ap (argument_depths x n) (arguments_counted xs n ns rest)

  typed_counted : (x : Typed) (n : ℕ) (ns : List ℕ) (rest : List Sign) → nestings (at n ns) (typed_then x rest) ≡ typed_depths x n (nestings (at n ns) rest)
  typed_counted (Typing Round l x xs o d r) n ns rest =
      ap (λ (y : List ℕ). n ∷ rise n ∷ y) (names_counted xs (rise n) (n ∷ ns) (tok k.Colon o ∷ then d (tok k.ParenClose r ∷ rest)) ∙ ap (λ (y : List ℕ). names_depths xs (rise n) (rise n ∷ y)) (counted d (rise n) (n ∷ ns) (tok k.ParenClose r ∷ rest)))
  typed_counted (Typing Curly l x xs o d r) n ns rest =
      ap (λ (y : List ℕ). n ∷ rise n ∷ y) (names_counted xs (rise n) (n ∷ ns) (tok k.Colon o ∷ then d (tok k.BraceClose r ∷ rest)) ∙ ap (λ (y : List ℕ). names_depths xs (rise n) (rise n ∷ y)) (counted d (rise n) (n ∷ ns) (tok k.BraceClose r ∷ rest)))

  pub more_typed_counted : (xs : MoreTyped) (n : ℕ) (ns : List ℕ) (rest : List Sign) → nestings (at n ns) (more_typed_then xs rest) ≡ more_typed_depths xs n (nestings (at n ns) rest)
  more_typed_counted LastTyped n ns rest = refl
  more_typed_counted (NextTyped x xs) n ns rest = typed_counted x n ns (more_typed_then xs rest) ∙ ap (typed_depths x n) (more_typed_counted xs n ns rest)

  bound_counted : (x : Bound) (n : ℕ) (ns : List ℕ) (rest : List Sign) → nestings (at n ns) (bound_then x rest) ≡ bound_depths x n (nestings (at n ns) rest)
  bound_counted (BoundName x) n ns rest = refl
  bound_counted (BoundBraced l x r) n ns rest = refl
  bound_counted (BoundTyped x) n ns rest = typed_counted x n ns rest

  more_bound_counted : (xs : MoreBound) (n : ℕ) (ns : List ℕ) (rest : List Sign) → nestings (at n ns) (more_bound_then xs rest) ≡ more_bound_depths xs n (nestings (at n ns) rest)
  more_bound_counted LastBound n ns rest = refl
  more_bound_counted (NextBound x xs) n ns rest = bound_counted x n ns (more_bound_then xs rest) ∙ ap (bound_depths x n) (more_bound_counted xs n ns rest)

  lambda_bound_counted : (x : LambdaBound) (n : ℕ) (ns : List ℕ) (rest : List Sign) → nestings (at n ns) (lambda_bound_then x rest) ≡ lambda_bound_depths x n (nestings (at n ns) rest)
  lambda_bound_counted (BoundBlank x) n ns rest = refl
  lambda_bound_counted (BoundAs x) n ns rest = bound_counted x n ns rest

  more_lambda_bound_counted : (xs : MoreLambdaBound) (n : ℕ) (ns : List ℕ) (rest : List Sign) → nestings (at n ns) (more_lambda_bound_then xs rest) ≡ more_lambda_bound_depths xs n (nestings (at n ns) rest)
  more_lambda_bound_counted LastLambdaBound n ns rest = refl
  more_lambda_bound_counted (NextLambdaBound x xs) n ns rest = lambda_bound_counted x n ns (more_lambda_bound_then xs rest) ∙ ap (lambda_bound_depths x n) (more_lambda_bound_counted xs n ns rest)

  pub counted : (d : Derivation) (n : ℕ) (ns : List ℕ) (rest : List Sign) → nestings (at n ns) (then d rest) ≡ depths d n (nestings (at (out d n) ns) rest)
  counted (Pi x xs w d) n ns rest =
      typed_counted x n ns (more_typed_then xs (tok k.Arrow w ∷ then d rest))
      ∙ ap (typed_depths x n) (more_typed_counted xs n ns (tok k.Arrow w ∷ then d rest) ∙ ap (λ (y : List ℕ). more_typed_depths xs n (n ∷ y)) (counted d (rise n) ns rest))
  counted (Forall m x xs w d) n ns rest =
      ap (λ (y : List ℕ). n ∷ y) (bound_counted x n ns (more_bound_then xs (tok k.Arrow w ∷ then d rest))
      ∙ ap (bound_depths x n) (more_bound_counted xs n ns (tok k.Arrow w ∷ then d rest) ∙ ap (λ (y : List ℕ). more_bound_depths xs n (n ∷ y)) (counted d (rise n) ns rest)))
  counted (Lambda m x xs w d) n ns rest =
      ap (λ (y : List ℕ). n ∷ y) (lambda_bound_counted x n ns (more_lambda_bound_then xs (tok k.Arrow w ∷ then d rest))
      ∙ ap (lambda_bound_depths x n) (more_lambda_bound_counted xs n ns (tok k.Arrow w ∷ then d rest) ∙ ap (λ (y : List ℕ). more_lambda_bound_depths xs n (n ∷ y)) (counted d (rise n) ns rest)))
  counted (App x xs) n ns rest = atom_counted x n ns (arguments_then xs rest) ∙ ap (atom_depths x n) (arguments_counted xs n ns rest)
  counted (Arrow x xs w d) n ns rest =
      atom_counted x n ns (arguments_then xs (tok k.Arrow w ∷ then d rest))
      ∙ ap (atom_depths x n) (arguments_counted xs n ns (tok k.Arrow w ∷ then d rest) ∙ ap (λ (y : List ℕ). arguments_depths xs n (n ∷ y)) (counted d (rise n) ns rest))

pub whole_counted : (d : Derivation) → nestings origin (then d []) ≡ depths d 0 []
whole_counted d = counted d 0 [] []

pub shallow_counted : (d : Depth) (i : List Sign) → shallow d i ≡ leading (nestings d i)
shallow_counted = count.shallow_counted (λ d s. nesting d s.kind) (λ d s. behind d s.kind) limit

pub derivation_counted : (d : Derivation) → shallow origin (then d []) ≡ leading (depths d 0 [])
derivation_counted d = shallow_counted origin (then d []) ∙ ap leading (whole_counted d)
