-- Each rule of the grammar of patterns is read as the grammar says.
use Rattle.std.proofs.Common.{◌≡◌, ℕ, zero, suc, ◌≤◌, ◌<◌, ◌+◌, true, false, List, [], ◌∷◌, ◌++◌, length, refl, sym, ap, ◌∙◌, arith}
use Rattle.source_tree.specs.declared.pattern.Pattern.{Pattern}
use Rattle.source_tree.specs.declared.pattern.Pattern.TheVariants as p
use Rattle.source_tree.specs.declared.expr.Expr.{Expr}
use Rattle.source_tree.specs.Places.{joined}
use Rattle.agda_grammar.specs.declared.sign.Kind.{Kind}
use Rattle.agda_grammar.specs.declared.sign.Kind.TheVariants as k
use Rattle.agda_grammar.specs.declared.sign.Mark.{Mark}
use Rattle.agda_grammar.specs.declared.sign.Sign.{Sign}
use Rattle.agda_grammar.specs.Names.{name_of}
use Rattle.agda_grammar.specs.Signs.{Input, tok}
use Rattle.expr_parser.specs.Cursor.{same_kind, is, expect, equals_follows}
use Rattle.agda_grammar.specs.Patterns.{Matching, Simple, Matched, SimplePattern, PatternName, PatternBlank, PatternAbsurd, PatternParen, PatternDotted, Elimination, Explicit, Implicit, EquatedPattern, Projection, ProjectionQualified, Eliminations, NoElimination, MoreElimination, matching_then, simple_then, elimination_then, eliminations_then, matched, matching_tree, simple_tree, elimination_tree, eliminations_tree}
use Rattle.expr_parser.specs.Syntax.{name}
use Rattle.expr_parser.specs.PatternSyntax.{begins_elim, round_pattern, dotted_pattern, named_elim, implicit_elim, braced_elim, dot_elim, elimination, one_elim, elims, pattern_level, pattern}
use Rattle.parse_laws.specs.Parser.{◌>>=◌, ◌>>◌, pure, one, next_is, many_from}
use Rattle.parse_laws.proofs.Good.{Language, Good, bind_good, pure_good, weaken, choose_good, deeper_good, UpTo, good_up, bind_up}
use Rattle.parse_laws.proofs.Many.{AllOf, Item, Behind, many_good, optional_good, turns_up}
use Rattle.parse_laws.proofs.Look.{lined, lined_longer, look_good}
use Rattle.expr_parser.proofs.Steps.{both, single, nothing, in_front, As, AsBehind, of_parts, long_as, all_of, expect_good, after_sign}
use Rattle.expr_parser.proofs.NameRules.{name_good, name_is, over_equals, left_eats}
use Rattle.expr_parser.proofs.Rules.{expr_good}

module _ (text : List ℕ) where
  abbrev pub IsPattern : Language Sign Pattern
  IsPattern = As matching_then (matching_tree text)

  abbrev pub IsElimination : Language Sign Pattern
  IsElimination = As elimination_then (elimination_tree text)

  -- a name with eliminations is derived in one of two ways
  abbrev pub named_pattern : Mark → Eliminations → Matching
  named_pattern x NoElimination = Simple (PatternName x)
  named_pattern x (MoreElimination e es) = Matched x e es

  named_then : (x : Mark) (es : Eliminations) (rest : Input) → matching_then (named_pattern x es) rest ≡ tok k.Name x ∷ eliminations_then es rest
  named_then x NoElimination rest = refl
  named_then x (MoreElimination e es) rest = refl

  named_tree : (x : Mark) (es : Eliminations) → matching_tree text (named_pattern x es) ≡ matched text x (eliminations_tree text es)
  named_tree x NoElimination = refl
  named_tree x (MoreElimination e es) = refl

  module _ (n : ℕ) (goodp : Good IsPattern (pattern text) 0 n) where
    -- ---- parentheses and dots

    abbrev AfterSimple : Kind → Mark → Language Sign Pattern
    AfterSimple = AsBehind simple_then (simple_tree text)

    round_good : (l : Mark) → Good (AfterSimple k.ParenOpen l) (λ j. round_pattern text j (pattern text j) l) 0 n
    unfolding round_pattern
    round_good l = choose_good (is k.ParenClose) _ _ _ 0 n
        (weaken _ _ _ 0 n (λ y cs r. (PatternAbsurd l r.value, r.second.0, record { at = (in_front (tok k.ParenOpen l) (both r.whole (single k.ParenClose _ _ r.first) (nothing _ r.second.1))).at }))
        (bind_good _ _ _ _ 0 n (expect_good k.ParenClose 0 n) (λ c. pure_good (p.Absurd (joined l.place c.place)) 0 n)))
        (weaken _ _ _ 0 n (λ y cs r. let w = r.second in (
          PatternParen l r.first.derivation w.value,
          w.second.0 ∙ r.first.gives,
          record { at = (in_front (tok k.ParenOpen l) (both r.whole r.first.spells (both w.whole (single k.ParenClose _ _ w.first) (nothing _ w.second.1)))).at },
        ))
        (bind_good _ _ _ _ 0 n goodp (λ x. bind_good _ _ _ _ 0 n (expect_good k.ParenClose 0 n) (λ _. pure_good x 0 n))))

    dotted_good : (o : Mark) → Good (AfterSimple k.Dot o) (λ j. expect k.ParenOpen >> dotted_pattern text j (pattern text j) o) 0 n
    unfolding dotted_pattern
    dotted_good o = weaken _ _ _ 0 n (λ y cs r. let x = r.second in let w = x.second in (
      PatternDotted o r.value x.first.derivation w.value,
      w.second.0 ∙ ap (λ (e : Expr). p.Dotted (joined o.place w.value.place) e) x.first.gives,
      record { at = (in_front (tok k.Dot o) (both r.whole (single k.ParenOpen _ _ r.first) (both x.whole x.first.spells (both w.whole (single k.ParenClose _ _ w.first) (nothing _ w.second.1))))).at },
    ))
        (bind_good _ _ _ _ 0 n (expect_good k.ParenOpen 0 n) (λ _. bind_good _ _ _ _ 0 n (expr_good text n) (λ x. bind_good _ _ _ _ 0 n (expect_good k.ParenClose 0 n)
        (λ c. pure_good (p.Dotted (joined o.place c.place) x) 0 n))))

    -- ---- eliminations

    abbrev AfterSign : Kind → Mark → Language Sign Pattern
    AfterSign = AsBehind elimination_then (elimination_tree text)

    named_elim_good : (l : Mark) → Good (AfterSign k.BraceOpen l) (λ j. named_elim text j (pattern text j) l) 0 n
    unfolding named_elim
    named_elim_good l = weaken _ _ _ 0 n (λ y cs r. let o = r.second in let d = o.second in let w = d.second in (
      EquatedPattern l r.first.derivation o.value d.first.derivation w.value,
      w.second.0 ∙ (λ i. p.Named (joined l.place w.value.place) (r.first.gives i) (d.first.gives i)),
      record { at = (in_front (tok k.BraceOpen l) (both r.whole r.first.spells (both o.whole (single k.Equals _ _ o.first) (both d.whole d.first.spells (both w.whole (single k.BraceClose _ _ w.first) (nothing _ w.second.1)))))).at },
    ))
        (bind_good _ _ _ _ 0 n (name_good text 0 n) (λ x. bind_good _ _ _ _ 0 n (expect_good k.Equals 0 n) (λ _. bind_good _ _ _ _ 0 n goodp (λ v. bind_good _ _ _ _ 0 n (expect_good k.BraceClose 0 n)
        (λ c. pure_good (p.Named (joined l.place c.place) x v) 0 n)))))

    implicit_elim_good : (l : Mark) → Good (AfterSign k.BraceOpen l) (λ j. implicit_elim text j (pattern text j) l) 0 n
    unfolding implicit_elim
    implicit_elim_good l = weaken _ _ _ 0 n (λ y cs r. let w = r.second in (
      Implicit l r.first.derivation w.value,
      w.second.0 ∙ ap (λ (x : Pattern). p.Implicit (joined l.place w.value.place) x) r.first.gives,
      record { at = (in_front (tok k.BraceOpen l) (both r.whole r.first.spells (both w.whole (single k.BraceClose _ _ w.first) (nothing _ w.second.1)))).at },
    ))
        (bind_good _ _ _ _ 0 n goodp (λ v. bind_good _ _ _ _ 0 n (expect_good k.BraceClose 0 n) (λ c. pure_good (p.Implicit (joined l.place c.place) v) 0 n)))

    dot_elim_good : (o : Mark) → Good (AfterSign k.Dot o) (λ j. dot_elim text j (pattern text j) o) 0 n
    unfolding dot_elim
    dot_elim_good o = choose_good (is k.Name) _ _ _ 0 n
        (weaken _ _ _ 0 n (λ y cs r. (Projection o r.value, r.second.0, record { at = (in_front (tok k.Dot o) (both r.whole (single k.Name _ _ r.first) (nothing _ r.second.1))).at }))
        (bind_good _ _ _ _ 0 n (expect_good k.Name 0 n) (λ x. pure_good (p.Project (joined o.place x.place) (name_of text x)) 0 n)))
        (choose_good (is k.Qualified) _ _ _ 0 n
        (weaken _ _ _ 0 n (λ y cs r. (ProjectionQualified o r.value, r.second.0, record { at = (in_front (tok k.Dot o) (both r.whole (single k.Qualified _ _ r.first) (nothing _ r.second.1))).at }))
        (bind_good _ _ _ _ 0 n (expect_good k.Qualified 0 n) (λ x. pure_good (p.ProjectQualified (joined o.place x.place) (name_of text x)) 0 n)))
        (weaken _ _ _ 0 n (λ y cs r. (Explicit r.0, r.1, record { at = r.2.at })) (dotted_good o)))

    blank_good : Good IsElimination (λ j. expect k.Underscore >>= (λ x. pure (p.Underscore x.place))) 1 n
    blank_good = weaken _ _ _ 1 n (λ y cs r. record {
      derivation = Explicit (PatternBlank r.value);
      gives = r.second.0;
      spells = record { at = (both r.whole (single k.Underscore _ _ r.first) (nothing _ r.second.1)).at };
    })
        (bind_good _ _ _ _ 1 n (expect_good k.Underscore 1 n) (λ x. pure_good (p.Underscore x.place) 1 n))

    module _ (eatsp : left_eats (pattern text) 0 n) where
      named_up : (l : Mark) (xs : List Mark) (u : Input) → next_is (is k.Name) u ≡ false → length (lined (tok k.Name) xs u) < 0 + n → equals_follows (lined (tok k.Name) xs u) ≡ true → UpTo (length u) (named_elim text n (pattern text n) l (lined (tok k.Name) xs u))
      unfolding named_elim name expect one same_kind
      named_up l [] u st lt is_so = good_up _ _ 0 n (named_elim_good l) (length u) u lt (omega arith)
      named_up l (x ∷ []) u st lt is_so = good_up _ _ 0 n
          (bind_good _ _ _ _ 0 n (expect_good k.Equals 0 n) (λ _. bind_good _ _ _ _ 0 n goodp (λ v. bind_good _ _ _ _ 0 n (expect_good k.BraceClose 0 n) (λ c. pure_good (p.Named (joined l.place c.place) (name_of text x) v) 0 n))))
          (length u) u (omega arith) (omega arith)
      named_up l (x ∷ y ∷ ys) u st lt is_so = absurd cc

      implicit_up : (l : Mark) (xs : List Mark) (u : Input) → next_is (is k.Name) u ≡ false → length (lined (tok k.Name) xs u) < 0 + n → equals_follows (lined (tok k.Name) xs u) ≡ false → UpTo (length u) (implicit_elim text n (pattern text n) l (lined (tok k.Name) xs u))
      unfolding implicit_elim
      implicit_up l xs u st lt not_so = bind_up (length u) (pattern text n (lined (tok k.Name) xs u)) _ (eatsp xs u st lt) (λ v ts le. good_up _ _ 0 n
          (bind_good _ _ _ _ 0 n (expect_good k.BraceClose 0 n) (λ c. pure_good (p.Implicit (joined l.place c.place) v) 0 n)) (length u) ts (omega (arith, lined_longer (tok k.Name) xs u)) le)

      braced_elim_good : (l : Mark) → Good (AfterSign k.BraceOpen l) (λ j. braced_elim text j (pattern text j) l) 0 n
      unfolding braced_elim
      braced_elim_good l = look_good (is k.Name) (tok k.Name) name_is equals_follows over_equals (AfterSign k.BraceOpen l) (λ j. named_elim text j (pattern text j) l) (λ j. implicit_elim text j (pattern text j) l) 0 n
          (named_elim_good l) (implicit_elim_good l) (named_up l) (implicit_up l)

      elimination_good : Good IsElimination (λ j. elimination text j (pattern text j)) 1 n
      unfolding elimination
      elimination_good =
          choose_good (is k.BraceOpen) IsElimination _ _ 1 n (weaken _ _ _ 1 n (of_parts elimination_then (elimination_tree text) k.BraceOpen) (after_sign k.BraceOpen _ _ n braced_elim_good))
          (choose_good (is k.Dot) IsElimination _ _ 1 n (weaken _ _ _ 1 n (of_parts elimination_then (elimination_tree text) k.Dot) (after_sign k.Dot _ _ n dot_elim_good))
          (choose_good (is k.ParenOpen) IsElimination _ _ 1 n
          (weaken _ _ _ 1 n (λ y cs r. let q = of_parts simple_then (simple_tree text) k.ParenOpen y cs r in record { derivation = Explicit q.derivation; gives = q.gives; spells = record { at = q.spells.at } }) (after_sign k.ParenOpen _ _ n round_good))
          (choose_good (is k.Underscore) IsElimination _ _ 1 n blank_good
          (weaken _ _ _ 1 n (λ y cs r. record {
            derivation = Explicit (PatternName r.value);
            gives = r.second.0;
            spells = record { at = (both r.whole (single k.Name _ _ r.first) (nothing _ r.second.1)).at };
          }) (bind_good _ _ _ _ 1 n (expect_good k.Name 1 n) (λ x. pure_good (matched text x []) 1 n))))))

      simple_long : (d : SimplePattern) → 0 < length (simple_then d [])
      simple_long (PatternName x) = omega arith
      simple_long (PatternBlank x) = omega arith
      simple_long (PatternAbsurd l c) = omega arith
      simple_long (PatternParen l x c) = omega arith
      simple_long (PatternDotted o l x c) = omega arith

      elimination_long : (d : Elimination) → 0 < length (elimination_then d [])
      elimination_long (Explicit x) = simple_long x
      elimination_long (Implicit l x c) = omega arith
      elimination_long (EquatedPattern l y q x c) = omega arith
      elimination_long (Projection o x) = omega arith
      elimination_long (ProjectionQualified o x) = omega arith

      one_elim_good : (found : List Pattern) → Good (Item (λ _. IsElimination) found) (λ j. one_elim text j (pattern text j)) 1 n
      unfolding one_elim
      one_elim_good found = optional_good begins_elim (λ _. IsElimination) found (λ j. elimination text j (pattern text j)) 1 n elimination_good (long_as _ _ elimination_long)

      pub elims_good : Good (Behind (λ _. IsElimination) []) (λ j. elims text j (pattern text j)) 1 n
      unfolding elims one_elim
      elims_good = many_good (λ _. IsElimination) (λ j _. one_elim text j (pattern text j)) 1 n one_elim_good (λ m f. refl) (omega arith) []

      pub all_elims : (found xs : List Pattern) (c : Input) → AllOf (λ _. IsElimination) found xs c → As eliminations_then (eliminations_tree text) xs c
      all_elims = all_of elimination_then (elimination_tree text) eliminations_then (eliminations_tree text) NoElimination MoreElimination (λ rest. refl) refl (λ d ds rest. refl) (λ d ds. refl)

      elims_eat : (m : ℕ) (found : List Pattern) (xs : List Mark) (u : Input) → length (lined (tok k.Name) xs u) ≤ m → length (lined (tok k.Name) xs u) < 1 + n → next_is (is k.Name) u ≡ false → UpTo (length u) (many_from (λ _. one_elim text n (pattern text n)) m found (lined (tok k.Name) xs u))
      unfolding many_from one_elim elimination expect one same_kind
      elims_eat m found [] u le lt st = turns_up (λ _. IsElimination) (λ j _. one_elim text j (pattern text j)) 1 n one_elim_good (λ m f. refl) m found u (length u) le lt (omega arith)
      elims_eat zero found (x ∷ xs) u le lt st = absurd (omega arith)
      elims_eat (suc m) found (x ∷ xs) u le lt st = elims_eat m (found ++ matched text x [] ∷ []) xs u (omega arith) (omega arith) st

      pub elims_eats : left_eats (λ j. elims text j (pattern text j)) 1 n
      unfolding elims
      elims_eats xs u st lt = elims_eat n [] xs u (omega arith) lt st

      -- ---- a pattern

      pub pattern_level_good : Good IsPattern (λ j. pattern_level text j (pattern text j)) 1 n
      unfolding pattern_level
      pattern_level_good =
          choose_good (is k.Name) IsPattern _ _ 1 n
          (weaken _ _ _ 1 n (λ y cs r. let es = r.second in let all = all_elims [] es.first.more es.front es.first.each in record {
            derivation = named_pattern r.value all.derivation;
            gives = es.second.0 ∙ ap (matched text r.value) (es.first.is ∙ all.gives) ∙ sym (named_tree r.value all.derivation);
            spells = record { at = λ rest. named_then r.value all.derivation rest ∙ (both r.whole (single k.Name _ _ r.first) (both es.whole all.spells (nothing _ es.second.1))).at rest };
          }) (bind_good _ _ _ _ 1 n (expect_good k.Name 1 n) (λ x. bind_good _ _ _ _ 1 n elims_good (λ es. pure_good (matched text x es) 1 n))))
          (choose_good (is k.Underscore) IsPattern _ _ 1 n
          (weaken _ _ _ 1 n (λ y cs r. record {
            derivation = Simple (PatternBlank r.value);
            gives = r.second.0;
            spells = record { at = (both r.whole (single k.Underscore _ _ r.first) (nothing _ r.second.1)).at };
          }) (bind_good _ _ _ _ 1 n (expect_good k.Underscore 1 n) (λ x. pure_good (p.Underscore x.place) 1 n)))
          (choose_good (is k.ParenOpen) IsPattern _ _ 1 n
          (weaken _ _ _ 1 n (λ y cs r. let q = of_parts simple_then (simple_tree text) k.ParenOpen y cs r in record { derivation = Simple q.derivation; gives = q.gives; spells = record { at = q.spells.at } }) (after_sign k.ParenOpen _ _ n round_good))
          (weaken _ _ _ 1 n (λ y cs r. let q = of_parts simple_then (simple_tree text) k.Dot y cs r in record { derivation = Simple q.derivation; gives = q.gives; spells = record { at = q.spells.at } }) (after_sign k.Dot _ _ n dotted_good))))

      pub pattern_level_eats : left_eats (λ j. pattern_level text j (pattern text j)) 1 n
      unfolding pattern_level expect one same_kind
      pattern_level_eats [] u st lt = good_up _ _ 1 n pattern_level_good (length u) u lt (omega arith)
      pattern_level_eats (x ∷ xs) u st lt = bind_up (length u) (elims text n (pattern text n) (lined (tok k.Name) xs u)) _ (elims_eats xs u st (omega arith)) (λ es ts le. le)

-- with each number of turns
module _ (text : List ℕ) where
  a_name : Matching
  a_name = Simple (PatternName (record { place = record { span = record { start = 0; end = 0 }; pos = record { line = 0; col = 0 } }; level = 0 }))

  a_word : As matching_then (matching_tree text) (matching_tree text a_name) (matching_then a_name [])
  unfolding a_name
  a_word = record { derivation = a_name; gives = refl; spells = record { at = λ rest. refl } }

  record Sound (n : ℕ) : Type 0 where
    pub good : Good (IsPattern text) (pattern text) 0 n
    pub eats : left_eats (pattern text) 0 n

  sound : (n : ℕ) → Sound n
  unfolding pattern
  sound zero = record { good = record { at = λ ts lt. absurd (omega arith); word = record { value = matching_tree text a_name; tokens = matching_then a_name []; reads = a_word } }; eats = λ xs u st lt. absurd (omega arith) }
  sound (suc n) = let h = sound n in record {
    good = deeper_good (IsPattern text) (λ j. pattern_level text j (pattern text j)) (pattern text) n (λ m ts. refl) (pattern_level_good text n h.good h.eats);
    eats = λ xs u st lt. pattern_level_eats text n h.good h.eats xs u st (omega arith);
  }

  pub pattern_good : (n : ℕ) → Good (IsPattern text) (pattern text) 0 n
  pattern_good n = (sound n).good

  pub pattern_eats : (n : ℕ) → left_eats (pattern text) 0 n
  pattern_eats n = (sound n).eats
