-- The parser of patterns by descent, as a function on lists, over that of expressions.
use Rattle.std.specs.Prelude.{ℕ, zero, suc, Bool, true, if◌then◌else◌, List, [], length, Option, Err}
use Rattle.source_tree.specs.declared.pattern.Pattern.{Pattern}
use Rattle.source_tree.specs.declared.pattern.Pattern.TheVariants as p
use Rattle.source_tree.specs.Places.{joined}
use Rattle.agda_grammar.specs.declared.sign.Kind.TheVariants as k
use Rattle.agda_grammar.specs.declared.sign.Mark.{Mark}
use Rattle.agda_grammar.specs.declared.sign.Sign.{Sign}
use Rattle.agda_grammar.specs.Names.{name_of}
use Rattle.expr_parser.specs.Cursor.{is, expect, equals_follows}
use Rattle.agda_grammar.specs.Patterns.{matched}
use Rattle.expr_parser.specs.Syntax.{name, expr}
use Rattle.parse_laws.specs.Parser.{Parser, ◌>>=◌, ◌>>◌, pure, choose, optional, many_from}

abbrev pub begins_elim : Sign → Bool
begins_elim s = if is k.BraceOpen s then true else (if is k.Dot s then true else (if is k.ParenOpen s then true else (if is k.Underscore s then true else is k.Name s)))

module _ (text : List ℕ) where
  -- The parameters bound the turns, and read a pattern with fewer of them.
  module _ (turns : ℕ) (inner : Parser Sign Pattern) where
    -- after the parenthesis of a pattern
    unfoldable pub round_pattern : Mark → Parser Sign Pattern
    round_pattern l =
        choose (is k.ParenClose) (expect k.ParenClose >>= (λ c. pure (p.Absurd (joined l.place c.place))))
        (inner >>= (λ x. expect k.ParenClose >> pure x))

    -- after the dot and the parenthesis of a pattern
    unfoldable pub dotted_pattern : Mark → Parser Sign Pattern
    dotted_pattern o = do
      x ← expr text turns
      c ← expect k.ParenClose
      pure (p.Dotted (joined o.place c.place) x)

    unfoldable pub named_elim : Mark → Parser Sign Pattern
    named_elim l = do
      x ← name text
      expect k.Equals
      v ← inner
      c ← expect k.BraceClose
      pure (p.Named (joined l.place c.place) x v)

    unfoldable pub implicit_elim : Mark → Parser Sign Pattern
    implicit_elim l = do
      v ← inner
      c ← expect k.BraceClose
      pure (p.Implicit (joined l.place c.place) v)

    unfoldable pub braced_elim : Mark → Parser Sign Pattern
    braced_elim l = λ i. if equals_follows i then named_elim l i else implicit_elim l i

    -- after the dot of an elimination
    unfoldable pub dot_elim : Mark → Parser Sign Pattern
    dot_elim o =
        choose (is k.Name) (expect k.Name >>= (λ x. pure (p.Project (joined o.place x.place) (name_of text x))))
        (choose (is k.Qualified) (expect k.Qualified >>= (λ x. pure (p.ProjectQualified (joined o.place x.place) (name_of text x))))
        (expect k.ParenOpen >> dotted_pattern o))

    unfoldable pub elimination : Parser Sign Pattern
    elimination =
        choose (is k.BraceOpen) (expect k.BraceOpen >>= braced_elim)
        (choose (is k.Dot) (expect k.Dot >>= dot_elim)
        (choose (is k.ParenOpen) (expect k.ParenOpen >>= round_pattern)
        (choose (is k.Underscore) (expect k.Underscore >>= (λ x. pure (p.Underscore x.place)))
        (expect k.Name >>= (λ x. pure (matched text x []))))))

    unfoldable pub one_elim : Parser Sign (Option Pattern)
    one_elim = optional begins_elim elimination

    unfoldable pub elims : Parser Sign (List Pattern)
    elims = many_from (λ _. one_elim) turns []

    unfoldable pub pattern_level : Parser Sign Pattern
    pattern_level =
        choose (is k.Name) (expect k.Name >>= (λ x. elims >>= (λ es. pure (matched text x es))))
        (choose (is k.Underscore) (expect k.Underscore >>= (λ x. pure (p.Underscore x.place)))
        (choose (is k.ParenOpen) (expect k.ParenOpen >>= round_pattern)
        (expect k.Dot >>= (λ o. expect k.ParenOpen >> dotted_pattern o))))

  unfoldable pub pattern : ℕ → Parser Sign Pattern
  pattern zero = λ i. Err (length i)
  pattern (suc turns) = pattern_level turns (pattern turns)
