-- The grammar of patterns, over that of expressions. A derivation is a value of these types: one constructor for each alternative, with the marks
-- of its signs.
use Rattle.std.specs.Prelude.{ℕ, List, [], ◌∷◌}
use Rattle.source_tree.specs.declared.place.Place.{Place}
use Rattle.source_tree.specs.declared.pattern.Pattern.{Pattern}
use Rattle.source_tree.specs.declared.pattern.Pattern.TheVariants as p
use Rattle.source_tree.specs.Places.{joined, pattern_place}
use Rattle.agda_grammar.specs.declared.sign.Kind.TheVariants as k
use Rattle.agda_grammar.specs.declared.sign.Mark.{Mark}
use Rattle.agda_grammar.specs.declared.sign.Sign.{Sign}
use Rattle.agda_grammar.specs.Names.{name_of}
use Rattle.agda_grammar.specs.Signs.{tok}
use Rattle.agda_grammar.specs.Grammar.{Derivation, then, tree}

mutual
  -- patom | name {elim}; in the second with one elimination or more, so that a name alone is derived once
  pub data Matching : Type 0 where
    Simple : SimplePattern → Matching
    Matched : Mark → Elimination → Eliminations → Matching

  -- name | "_" | "(" ")" | "(" pat ")" | dot "(" expr ")"
  pub data SimplePattern : Type 0 where
    PatternName : Mark → SimplePattern
    PatternBlank : Mark → SimplePattern
    PatternAbsurd : Mark → Mark → SimplePattern
    PatternParen : Mark → Matching → Mark → SimplePattern
    PatternDotted : Mark → Mark → Derivation → Mark → SimplePattern

  -- patom | "{" pat "}" | "{" name "=" pat "}" | dot name | dot qualified
  pub data Elimination : Type 0 where
    Explicit : SimplePattern → Elimination
    Implicit : Mark → Matching → Mark → Elimination
    EquatedPattern : Mark → Mark → Mark → Matching → Mark → Elimination
    Projection : Mark → Mark → Elimination
    ProjectionQualified : Mark → Mark → Elimination

  pub data Eliminations : Type 0 where
    NoElimination : Eliminations
    MoreElimination : Elimination → Eliminations → Eliminations

-- ---- the signs of a derivation, in front of others

abbrev mutual
  pub matching_then : Matching → List Sign → List Sign
  matching_then (Simple x) rest = simple_then x rest
  matching_then (Matched x e es) rest = tok k.Name x ∷ elimination_then e (eliminations_then es rest)

  pub simple_then : SimplePattern → List Sign → List Sign
  simple_then (PatternName x) rest = tok k.Name x ∷ rest
  simple_then (PatternBlank x) rest = tok k.Underscore x ∷ rest
  simple_then (PatternAbsurd l c) rest = tok k.ParenOpen l ∷ tok k.ParenClose c ∷ rest
  simple_then (PatternParen l x c) rest = tok k.ParenOpen l ∷ matching_then x (tok k.ParenClose c ∷ rest)
  simple_then (PatternDotted o l x c) rest = tok k.Dot o ∷ tok k.ParenOpen l ∷ then x (tok k.ParenClose c ∷ rest)

  pub elimination_then : Elimination → List Sign → List Sign
  elimination_then (Explicit x) rest = simple_then x rest
  elimination_then (Implicit l x c) rest = tok k.BraceOpen l ∷ matching_then x (tok k.BraceClose c ∷ rest)
  elimination_then (EquatedPattern l y q x c) rest = tok k.BraceOpen l ∷ tok k.Name y ∷ tok k.Equals q ∷ matching_then x (tok k.BraceClose c ∷ rest)
  elimination_then (Projection o x) rest = tok k.Dot o ∷ tok k.Name x ∷ rest
  elimination_then (ProjectionQualified o x) rest = tok k.Dot o ∷ tok k.Qualified x ∷ rest

  pub eliminations_then : Eliminations → List Sign → List Sign
  eliminations_then NoElimination rest = rest
  eliminations_then (MoreElimination e es) rest = elimination_then e (eliminations_then es rest)

-- ---- the tree of a derivation

-- the place of the last pattern, or q where there is none
abbrev pub last_pattern : Place → List Pattern → Place
last_pattern q [] = q
last_pattern q (x ∷ xs) = last_pattern (pattern_place x) xs

-- a name with its eliminations
abbrev pub matched : List ℕ → Mark → List Pattern → Pattern
matched text x es = p.Name (joined x.place (last_pattern x.place es)) (name_of text x) es

module _ (text : List ℕ) where
  abbrev mutual
    pub matching_tree : Matching → Pattern
    matching_tree (Simple x) = simple_tree x
    matching_tree (Matched x e es) = matched text x (elimination_tree e ∷ eliminations_tree es)

    pub simple_tree : SimplePattern → Pattern
    simple_tree (PatternName x) = matched text x []
    simple_tree (PatternBlank x) = p.Underscore x.place
    simple_tree (PatternAbsurd l c) = p.Absurd (joined l.place c.place)
    simple_tree (PatternParen l x c) = matching_tree x
    simple_tree (PatternDotted o l x c) = p.Dotted (joined o.place c.place) (tree text x)

    pub elimination_tree : Elimination → Pattern
    elimination_tree (Explicit x) = simple_tree x
    elimination_tree (Implicit l x c) = p.Implicit (joined l.place c.place) (matching_tree x)
    elimination_tree (EquatedPattern l y q x c) = p.Named (joined l.place c.place) (name_of text y) (matching_tree x)
    elimination_tree (Projection o x) = p.Project (joined o.place x.place) (name_of text x)
    elimination_tree (ProjectionQualified o x) = p.ProjectQualified (joined o.place x.place) (name_of text x)

    pub eliminations_tree : Eliminations → List Pattern
    eliminations_tree NoElimination = []
    eliminations_tree (MoreElimination e es) = elimination_tree e ∷ eliminations_tree es
