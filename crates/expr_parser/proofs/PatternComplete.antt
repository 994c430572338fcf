-- What has a derivation as a pattern is read, with turns enough.
use Rattle.std.proofs.Common.{◌≡◌, ℕ, zero, suc, ◌≤◌, ◌+◌, true, false, List, [], ◌∷◌, ◌++◌, Ok, refl, sym, ap, ◌∙◌, append_assoc, arith}
use Rattle.std.proofs.lemmas.List.{append-nil}
use Rattle.source_tree.specs.declared.pattern.Pattern.{Pattern}
use Rattle.agda_grammar.specs.declared.sign.Kind.TheVariants as k
use Rattle.agda_grammar.specs.declared.sign.Mark.{Mark}
use Rattle.agda_grammar.specs.declared.bracket.Bracket.TheVariants.{Round}
use Rattle.agda_grammar.specs.Signs.{Input, tok}
use Rattle.expr_parser.specs.Cursor.{same_kind, sees, expect, names_colon, equals_follows}
use Rattle.agda_grammar.specs.Patterns.{Matching, Simple, Matched, SimplePattern, PatternName, PatternBlank, PatternAbsurd, PatternParen, PatternDotted, Elimination, Explicit, Implicit, EquatedPattern, Projection, ProjectionQualified, Eliminations, NoElimination, MoreElimination, matching_then, elimination_then, eliminations_then, matched, matching_tree, elimination_tree, eliminations_tree}
use Rattle.expr_parser.specs.Syntax.{name}
use Rattle.expr_parser.specs.PatternSyntax.{begins_elim, round_pattern, dotted_pattern, named_elim, implicit_elim, braced_elim, dot_elim, elimination, one_elim, elims, pattern_level, pattern}
use Rattle.parse_laws.specs.Parser.{one, next_is, many_from}
use Rattle.expr_parser.proofs.Complete.{size, close_stops, equals_after, other_first, read}

-- ---- how many turns are enough

abbrev mutual
  pub matching_size : Matching → ℕ
  matching_size (Simple x) = suc (simple_size x)
  matching_size (Matched x e es) = suc (suc (elimination_size e + eliminations_size es))

  pub simple_size : SimplePattern → ℕ
  simple_size (PatternName x) = 0
  simple_size (PatternBlank x) = 0
  simple_size (PatternAbsurd l c) = 0
  simple_size (PatternParen l x c) = matching_size x
  simple_size (PatternDotted o l x c) = size x

  pub elimination_size : Elimination → ℕ
  elimination_size (Explicit x) = simple_size x
  elimination_size (Implicit l x c) = matching_size x
  elimination_size (EquatedPattern l y q x c) = matching_size x
  elimination_size (Projection o x) = 0
  elimination_size (ProjectionQualified o x) = 0

  pub eliminations_size : Eliminations → ℕ
  eliminations_size NoElimination = 0
  eliminations_size (MoreElimination e es) = suc (elimination_size e + eliminations_size es)

-- ---- what does not come next

not_closed : (x : Matching) (rest : Input) → sees k.ParenClose (matching_then x rest) ≡ false
unfolding same_kind
not_closed (Simple (PatternName x)) rest = refl
not_closed (Simple (PatternBlank x)) rest = refl
not_closed (Simple (PatternAbsurd l c)) rest = refl
not_closed (Simple (PatternParen l x c)) rest = refl
not_closed (Simple (PatternDotted o l x c)) rest = refl
not_closed (Matched x e es) rest = refl

elimination_no_equals : (e : Elimination) (rest : Input) → sees k.Equals (elimination_then e rest) ≡ false
unfolding same_kind
elimination_no_equals (Explicit (PatternName x)) rest = refl
elimination_no_equals (Explicit (PatternBlank x)) rest = refl
elimination_no_equals (Explicit (PatternAbsurd l c)) rest = refl
elimination_no_equals (Explicit (PatternParen l x c)) rest = refl
elimination_no_equals (Explicit (PatternDotted o l x c)) rest = refl
elimination_no_equals (Implicit l x c) rest = refl
elimination_no_equals (EquatedPattern l y q x c) rest = refl
elimination_no_equals (Projection o x) rest = refl
elimination_no_equals (ProjectionQualified o x) rest = refl

no_equals : (x : Matching) (c : Mark) (rest : Input) → equals_follows (matching_then x (tok k.BraceClose c ∷ rest)) ≡ false
unfolding same_kind
no_equals (Simple (PatternName x)) c rest = refl
no_equals (Simple (PatternBlank x)) c rest = refl
no_equals (Simple (PatternAbsurd l r)) c rest = refl
no_equals (Simple (PatternParen l x r)) c rest = other_first (tok k.ParenOpen l) (matching_then x (tok k.ParenClose r ∷ tok k.BraceClose c ∷ rest)) refl
no_equals (Simple (PatternDotted o l x r)) c rest = refl
no_equals (Matched x e es) c rest = equals_after x (elimination_then e (eliminations_then es (tok k.BraceClose c ∷ rest))) ∙ elimination_no_equals e (eliminations_then es (tok k.BraceClose c ∷ rest))

pub eliminations_plain : (es : Eliminations) (rest : Input) → names_colon rest ≡ false → names_colon (eliminations_then es rest) ≡ false
unfolding names_colon same_kind
eliminations_plain NoElimination rest h = h
eliminations_plain (MoreElimination (Explicit (PatternName x)) es) rest h = eliminations_plain es rest h
eliminations_plain (MoreElimination (Explicit (PatternBlank x)) es) rest h = refl
eliminations_plain (MoreElimination (Explicit (PatternAbsurd l c)) es) rest h = refl
eliminations_plain (MoreElimination (Explicit (PatternParen l x c)) es) rest h = refl
eliminations_plain (MoreElimination (Explicit (PatternDotted o l x c)) es) rest h = refl
eliminations_plain (MoreElimination (Implicit l x c) es) rest h = refl
eliminations_plain (MoreElimination (EquatedPattern l y q x c) es) rest h = refl
eliminations_plain (MoreElimination (Projection o x) es) rest h = refl
eliminations_plain (MoreElimination (ProjectionQualified o x) es) rest h = refl

begins_elim_yes : (e : Elimination) (rest : Input) → next_is begins_elim (elimination_then e rest) ≡ true
unfolding same_kind
begins_elim_yes (Explicit (PatternName x)) rest = refl
begins_elim_yes (Explicit (PatternBlank x)) rest = refl
begins_elim_yes (Explicit (PatternAbsurd l c)) rest = refl
begins_elim_yes (Explicit (PatternParen l x c)) rest = refl
begins_elim_yes (Explicit (PatternDotted o l x c)) rest = refl
begins_elim_yes (Implicit l x c) rest = refl
begins_elim_yes (EquatedPattern l y q x c) rest = refl
begins_elim_yes (Projection o x) rest = refl
begins_elim_yes (ProjectionQualified o x) rest = refl

-- ---- the readings

module _ (text : List ℕ) where
  abbrev ReadPattern : ℕ → Matching → Input → Type 0
  ReadPattern n x rest = pattern text n (matching_then x rest) ≡ Ok (matching_tree text x, rest)

  -- a pattern that begins with a name
  named_read : (n : ℕ) (x : Mark) (i rest : Input) (es : List Pattern) → many_from (λ _. one_elim text n (pattern text n)) n [] i ≡ Ok (es, rest) → pattern_level text n (pattern text n) (tok k.Name x ∷ i) ≡ Ok (matched text x es, rest)
  unfolding pattern_level elims expect one same_kind
  named_read n x i rest es h = rw h refl

  round_read : (n : ℕ) (l : Mark) (x : Matching) (c : Mark) (rest : Input) → ReadPattern n x (tok k.ParenClose c ∷ rest) → round_pattern text n (pattern text n) l (matching_then x (tok k.ParenClose c ∷ rest)) ≡ Ok (matching_tree text x, rest)
  unfolding round_pattern expect one same_kind
  round_read n l x c rest h = rw (not_closed x (tok k.ParenClose c ∷ rest), h) refl

  none_read : (n m : ℕ) (rest : Input) → next_is begins_elim rest ≡ false → many_from (λ _. one_elim text n (pattern text n)) m [] rest ≡ Ok ([], rest)
  unfolding many_from one_elim
  none_read n zero rest st = refl
  none_read n (suc m) rest st = rw st refl

  first_read : (n m : ℕ) (e : Elimination) (i rest : Input) (es : List Pattern) → elimination text n (pattern text n) (elimination_then e i) ≡ Ok (elimination_tree text e, i)
      → many_from (λ _. one_elim text n (pattern text n)) m (elimination_tree text e ∷ []) i ≡ Ok (elimination_tree text e ∷ es, rest) → many_from (λ _. one_elim text n (pattern text n)) (suc m) [] (elimination_then e i) ≡ Ok (elimination_tree text e ∷ es, rest)
  unfolding many_from one_elim
  first_read n m e i rest es h g = rw (begins_elim_yes e i, h) g

  mutual
    unfolding round_pattern dotted_pattern named_elim implicit_elim braced_elim dot_elim elimination one_elim pattern_level pattern name many_from expect one same_kind

    elimination_read : (n : ℕ) (e : Elimination) (rest : Input) → elimination_size e ≤ n → elimination text n (pattern text n) (elimination_then e rest) ≡ Ok (elimination_tree text e, rest)
    elimination_read n (Explicit (PatternName x)) rest le = refl
    elimination_read n (Explicit (PatternBlank x)) rest le = refl
    elimination_read n (Explicit (PatternAbsurd l c)) rest le = refl
    elimination_read n (Explicit (PatternParen l x c)) rest le = round_read n l x c rest (pattern_read n x (tok k.ParenClose c ∷ rest) le refl)
    elimination_read n (Explicit (PatternDotted o l x c)) rest le = rw (read text n x (tok k.ParenClose c ∷ rest) le (close_stops Round c rest)) refl
    elimination_read n (Implicit l x c) rest le = rw (no_equals x c rest, pattern_read n x (tok k.BraceClose c ∷ rest) le refl) refl
    elimination_read n (EquatedPattern l y q x c) rest le = rw (pattern_read n x (tok k.BraceClose c ∷ rest) le refl) refl
    elimination_read n (Projection o x) rest le = refl
    elimination_read n (ProjectionQualified o x) rest le = refl

    pub eliminations_read : (n m : ℕ) (found : List Pattern) (es : Eliminations) (rest : Input) → eliminations_size es ≤ n → eliminations_size es ≤ m → next_is begins_elim rest ≡ false
        → many_from (λ _. one_elim text n (pattern text n)) m found (eliminations_then es rest) ≡ Ok (found ++ eliminations_tree text es, rest)
    eliminations_read n zero found NoElimination rest le lm st = ap (λ (ys : List Pattern). Ok (ys, rest)) (sym (append-nil found))
    eliminations_read n (suc m) found NoElimination rest le lm st = rw st (ap (λ (ys : List Pattern). Ok (ys, rest)) (sym (append-nil found)))
    eliminations_read n zero found (MoreElimination e es) rest le lm st = absurd (omega arith)
    eliminations_read n (suc m) found (MoreElimination e es) rest le lm st =
        rw (begins_elim_yes e (eliminations_then es rest), elimination_read n e (eliminations_then es rest) (omega arith))
        (eliminations_read n m (found ++ elimination_tree text e ∷ []) es rest (omega arith) (omega arith) st ∙ ap (λ (ys : List Pattern). Ok (ys, rest)) (append_assoc found (elimination_tree text e ∷ []) (eliminations_tree text es)))

    pub pattern_read : (n : ℕ) (x : Matching) (rest : Input) → matching_size x ≤ n → next_is begins_elim rest ≡ false → ReadPattern n x rest
    pattern_read zero (Simple x) rest le st = absurd (omega arith)
    pattern_read zero (Matched x e es) rest le st = absurd (omega arith)
    pattern_read (suc n) (Simple (PatternName x)) rest le st = named_read n x rest rest [] (none_read n n rest st)
    pattern_read (suc n) (Simple (PatternBlank x)) rest le st = refl
    pattern_read (suc n) (Simple (PatternAbsurd l c)) rest le st = refl
    pattern_read (suc n) (Simple (PatternParen l x c)) rest le st = round_read n l x c rest (pattern_read n x (tok k.ParenClose c ∷ rest) (omega arith) refl)
    pattern_read (suc n) (Simple (PatternDotted o l x c)) rest le st = rw (read text n x (tok k.ParenClose c ∷ rest) (omega arith) (close_stops Round c rest)) refl
    pattern_read (suc zero) (Matched x e es) rest le st = absurd (omega arith)
    pattern_read (suc (suc n)) (Matched x e es) rest le st =
        let i : Input = eliminations_then es rest in
        named_read (suc n) x (elimination_then e i) rest (elimination_tree text e ∷ eliminations_tree text es)
        (first_read (suc n) n e i rest (eliminations_tree text es) (elimination_read (suc n) e i (omega arith)) (eliminations_read (suc n) n (elimination_tree text e ∷ []) es rest (omega arith) (omega arith) st))
