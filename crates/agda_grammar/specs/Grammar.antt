-- The grammar. A derivation is a value of these types: one constructor for each alternative, with the marks of its signs.
use Rattle.std.specs.Prelude.{ℕ, List, [], ◌∷◌, map}
use Rattle.source_tree.specs.declared.expr.Expr.{Expr}
use Rattle.source_tree.specs.declared.expr.Expr.TheVariants as e
use Rattle.source_tree.specs.declared.expr.Arg.{Arg}
use Rattle.source_tree.specs.declared.expr.Arg.TheVariants as a
use Rattle.source_tree.specs.declared.expr.Binder.{Binder}
use Rattle.source_tree.specs.declared.expr.Binder.TheVariants as b
use Rattle.source_tree.specs.declared.expr.FieldValue.{FieldValue}
use Rattle.source_tree.specs.Places.{joined, expr_place, binder_place}
use Rattle.agda_grammar.specs.declared.sign.Kind.TheVariants as k
use Rattle.agda_grammar.specs.declared.sign.Mark.{Mark}
use Rattle.agda_grammar.specs.declared.sign.Sign.{Sign}
use Rattle.agda_grammar.specs.declared.bracket.Bracket.{Bracket}
use Rattle.agda_grammar.specs.Names.{name_of}
use Rattle.agda_grammar.specs.Signs.{tok}
use Rattle.agda_grammar.specs.Trees.{open_of, close_of, typed_binder, applied}

mutual
  -- name | qualified | SetLevel | hole | "_" | "(" expr ")" | "record" "{" [name "=" expr {";" name "=" expr}] "}"
  pub data Atom : Type 0 where
    Named : Mark → Atom
    Qualified : Mark → Atom
    Level : Mark → Atom
    Hole : Mark → Atom
    Blank : Mark → Atom
    Paren : Mark → Derivation → Mark → Atom
    Record : Mark → Mark → Fields → Mark → Atom

  pub data Fields : Type 0 where
    NoField : Fields
    Field : Mark → Mark → Derivation → MoreFields → Fields

  pub data MoreFields : Type 0 where
    LastField : MoreFields
    NextField : Mark → Mark → Mark → Derivation → MoreFields → MoreFields

  -- atom | "{" expr "}" | "{" name "=" expr "}" | dot name | dot qualified
  pub data Argument : Type 0 where
    Plain : Atom → Argument
    Braced : Mark → Derivation → Mark → Argument
    Equated : Mark → Mark → Mark → Derivation → Mark → Argument
    Projected : Mark → Mark → Argument
    ProjectedQualified : Mark → Mark → Argument

  pub data Arguments : Type 0 where
    NoArgument : Arguments
    More : Argument → Arguments → Arguments

  -- "(" name {name} ":" expr ")" | "{" name {name} ":" expr "}"
  pub data Typed : Type 0 where
    Typing : Bracket → Mark → Mark → List Mark → Mark → Derivation → Mark → Typed

  pub data MoreTyped : Type 0 where
    LastTyped : MoreTyped
    NextTyped : Typed → MoreTyped → MoreTyped

  -- name | "{" name "}" | tbind
  pub data Bound : Type 0 where
    BoundName : Mark → Bound
    BoundBraced : Mark → Mark → Mark → Bound
    BoundTyped : Typed → Bound

  pub data MoreBound : Type 0 where
    LastBound : MoreBound
    NextBound : Bound → MoreBound → MoreBound

  -- name | "_" | "{" name "}" | tbind
  pub data LambdaBound : Type 0 where
    BoundBlank : Mark → LambdaBound
    BoundAs : Bound → LambdaBound

  pub data MoreLambdaBound : Type 0 where
    LastLambdaBound : MoreLambdaBound
    NextLambdaBound : LambdaBound → MoreLambdaBound → MoreLambdaBound

  -- tbind {tbind} arrow expr | all fbind {fbind} arrow expr | lam lbind {lbind} arrow expr | atom {arg} | atom {arg} arrow expr
  pub data Derivation : Type 0 where
    Pi : Typed → MoreTyped → Mark → Derivation → Derivation
    Forall : Mark → Bound → MoreBound → Mark → Derivation → Derivation
    Lambda : Mark → LambdaBound → MoreLambdaBound → Mark → Derivation → Derivation
    App : Atom → Arguments → Derivation
    Arrow : Atom → Arguments → Mark → Derivation → Derivation

-- ---- the signs of a derivation, in front of others

abbrev pub names_then : List Mark → List Sign → List Sign
names_then [] rest = rest
names_then (x ∷ xs) rest = tok k.Name x ∷ names_then xs rest

abbrev mutual
  pub atom_then : Atom → List Sign → List Sign
  atom_then (Named x) rest = tok k.Name x ∷ rest
  atom_then (Qualified x) rest = tok k.Qualified x ∷ rest
  atom_then (Level x) rest = tok k.SetLevel x ∷ rest
  atom_then (Hole x) rest = tok k.Hole x ∷ rest
  atom_then (Blank x) rest = tok k.Underscore x ∷ rest
  atom_then (Paren l d r) rest = tok k.ParenOpen l ∷ then d (tok k.ParenClose r ∷ rest)
  atom_then (Record w l fs r) rest = tok k.Record w ∷ tok k.BraceOpen l ∷ fields_then fs (tok k.BraceClose r ∷ rest)

  pub fields_then : Fields → List Sign → List Sign
  fields_then NoField rest = rest
  fields_then (Field x q d fs) rest = tok k.Name x ∷ tok k.Equals q ∷ then d (more_fields_then fs rest)

  pub more_fields_then : MoreFields → List Sign → List Sign
  more_fields_then LastField rest = rest
  more_fields_then (NextField s x q d fs) rest = tok k.Semicolon s ∷ tok k.Name x ∷ tok k.Equals q ∷ then d (more_fields_then fs rest)

  pub argument_then : Argument → List Sign → List Sign
  argument_then (Plain x) rest = atom_then x rest
  argument_then (Braced l d r) rest = tok k.BraceOpen l ∷ then d (tok k.BraceClose r ∷ rest)
  argument_then (Equated l x q d r) rest = tok k.BraceOpen l ∷ tok k.Name x ∷ tok k.Equals q ∷ then d (tok k.BraceClose r ∷ rest)
  argument_then (Projected o x) rest = tok k.Dot o ∷ tok k.Name x ∷ rest
  argument_then (ProjectedQualified o x) rest = tok k.Dot o ∷ tok k.Qualified x ∷ rest

  pub arguments_then : Arguments → List Sign → List Sign
  arguments_then NoArgument rest = rest
  arguments_then (More x xs) rest = argument_then x (arguments_then xs rest)

  pub typed_then : Typed → List Sign → List Sign
  typed_then (Typing c l x xs o d r) rest = tok (open_of c) l ∷ tok k.Name x ∷ names_then xs (tok k.Colon o ∷ then d (tok (close_of c) r ∷ rest))

  pub more_typed_then : MoreTyped → List Sign → List Sign
  more_typed_then LastTyped rest = rest
  more_typed_then (NextTyped x xs) rest = typed_then x (more_typed_then xs rest)

  pub bound_then : Bound → List Sign → List Sign
  bound_then (BoundName x) rest = tok k.Name x ∷ rest
  bound_then (BoundBraced l x r) rest = tok k.BraceOpen l ∷ tok k.Name x ∷ tok k.BraceClose r ∷ rest
  bound_then (BoundTyped x) rest = typed_then x rest

  pub more_bound_then : MoreBound → List Sign → List Sign
  more_bound_then LastBound rest = rest
  more_bound_then (NextBound x xs) rest = bound_then x (more_bound_then xs rest)

  pub lambda_bound_then : LambdaBound → List Sign → List Sign
  lambda_bound_then (BoundBlank x) rest = tok k.Underscore x ∷ rest
  lambda_bound_then (BoundAs x) rest = bound_then x rest

  pub more_lambda_bound_then : MoreLambdaBound → List Sign → List Sign
  more_lambda_bound_then LastLambdaBound rest = rest
  more_lambda_bound_then (NextLambdaBound x xs) rest = lambda_bound_then x (more_lambda_bound_then xs rest)

  pub then : Derivation → List Sign → List Sign
  then (Pi x xs w d) rest = typed_then x (more_typed_then xs (tok k.Arrow w ∷ then d rest))
  then (Forall m x xs w d) rest = tok k.All m ∷ bound_then x (more_bound_then xs (tok k.Arrow w ∷ then d rest))
  then (Lambda m x xs w d) rest = tok k.Lambda m ∷ lambda_bound_then x (more_lambda_bound_then xs (tok k.Arrow w ∷ then d rest))
  then (App x xs) rest = atom_then x (arguments_then xs rest)
  then (Arrow x xs w d) rest = atom_then x (arguments_then xs (tok k.Arrow w ∷ then d rest))

-- ---- the tree of a derivation, over the text of which the signs are: parentheses leave no node, and places leave them out

module _ (text : List ℕ) where
  abbrev mutual
    pub atom_tree : Atom → Expr
    atom_tree (Named x) = e.Name (name_of text x)
    atom_tree (Qualified x) = e.Qualified (name_of text x)
    atom_tree (Level x) = e.SetLevel x.place x.level
    atom_tree (Hole x) = e.Hole x.place
    atom_tree (Blank x) = e.Underscore x.place
    atom_tree (Paren l d r) = tree d
    atom_tree (Record w l fs r) = e.Record (joined w.place r.place) (fields_tree fs)

    pub fields_tree : Fields → List FieldValue
    fields_tree NoField = []
    fields_tree (Field x q d fs) = record { name = name_of text x; value = tree d } ∷ more_fields_tree fs

    pub more_fields_tree : MoreFields → List FieldValue
    more_fields_tree LastField = []
    more_fields_tree (NextField s x q d fs) = record { name = name_of text x; value = tree d } ∷ more_fields_tree fs

    pub argument_tree : Argument → Arg
    argument_tree (Plain x) = a.Plain (atom_tree x)
    argument_tree (Braced l d r) = a.Implicit (joined l.place r.place) (tree d)
    argument_tree (Equated l x q d r) = a.Named (joined l.place r.place) (name_of text x) (tree d)
    argument_tree (Projected o x) = a.Project (joined o.place x.place) (name_of text x)
    argument_tree (ProjectedQualified o x) = a.ProjectQualified (joined o.place x.place) (name_of text x)

    pub arguments_tree : Arguments → List Arg
    arguments_tree NoArgument = []
    arguments_tree (More x xs) = argument_tree x ∷ arguments_tree xs

    pub typed_tree : Typed → Binder
    typed_tree (Typing c l x xs o d r) = typed_binder c (joined l.place r.place) (name_of text x ∷ map (name_of text) xs) (tree d)

    pub more_typed_tree : MoreTyped → List Binder
    more_typed_tree LastTyped = []
    more_typed_tree (NextTyped x xs) = typed_tree x ∷ more_typed_tree xs

    pub bound_tree : Bound → Binder
    bound_tree (BoundName x) = b.Name (name_of text x)
    bound_tree (BoundBraced l x r) = b.Braced (joined l.place r.place) (name_of text x)
    bound_tree (BoundTyped x) = typed_tree x

    pub more_bound_tree : MoreBound → List Binder
    more_bound_tree LastBound = []
    more_bound_tree (NextBound x xs) = bound_tree x ∷ more_bound_tree xs

    pub lambda_bound_tree : LambdaBound → Binder
    lambda_bound_tree (BoundBlank x) = b.Underscore x.place
    lambda_bound_tree (BoundAs x) = bound_tree x

    pub more_lambda_bound_tree : MoreLambdaBound → List Binder
    more_lambda_bound_tree LastLambdaBound = []
    more_lambda_bound_tree (NextLambdaBound x xs) = lambda_bound_tree x ∷ more_lambda_bound_tree xs

    pub tree : Derivation → Expr
    tree (Pi x xs w d) = e.Pi (joined (binder_place (typed_tree x)) (expr_place (tree d))) (typed_tree x ∷ more_typed_tree xs) (tree d)
    tree (Forall m x xs w d) = e.Forall (joined m.place (expr_place (tree d))) (bound_tree x ∷ more_bound_tree xs) (tree d)
    tree (Lambda m x xs w d) = e.Lambda (joined m.place (expr_place (tree d))) (lambda_bound_tree x ∷ more_lambda_bound_tree xs) (tree d)
    tree (App x xs) = applied (atom_tree x) (arguments_tree xs)
    tree (Arrow x xs w d) = e.Arrow (joined (expr_place (applied (atom_tree x) (arguments_tree xs))) (expr_place (tree d))) (applied (atom_tree x) (arguments_tree xs)) (tree d)
