-- What a line feed and more behind a text change of what is read in it: nothing that was read whole.
use Rattle.std.proofs.Common.{◌≡◌, ℕ, ◌+◌, ◌-◌, Bool, true, false, cond, eqb, List, [], ◌∷◌, ◌++◌, ◌||◌, ◌&&◌, not, Option, Some, None, Result, Ok, Err, refl, ap, ◌∙◌}
use Rattle.std.proofs.lemmas.Bool.{eqb-true}
use Rattle.std.specs.Str.{encode_utf8_all}
use Rattle.el_outside.specs.Place.{Place, Rest, after, next, sees}
use Rattle.el_outside.specs.Runs.{is_white, front, past, past_from}
use Rattle.agda_lexer.specs.declared.scan.Class.TheVariants as class
use Rattle.agda_lexer.specs.declared.token.LexKind.{LexKind}
use Rattle.agda_lexer.specs.declared.token.TokenKind.{TokenKind}
use Rattle.agda_lexer.specs.declared.token.TokenKind.TheVariants as kind
use Rattle.agda_lexer.specs.declared.piece.Piece.{Piece}
use Rattle.agda_lexer.specs.Characters.{is_special, is_in}
use Rattle.agda_lexer.specs.Runs.{is_name_kind, run_kind}
use Rattle.agda_lexer.specs.Pieces.{Reading, close_of, closed, are_close, pragma_close, word_front, first_word, is_remark, pragma_of, pragma, comment, brace, run_front, run_past, kind_at, name_at, run_of, run, follows_dot, dot, sign, sign_of, piece_at}
use Rattle.agda_lexer.proofs.Steps.{rest}

module _ (b : List ℕ) where
  abbrev pub onto : Rest → Rest
  onto r = rest (r.chars ++ 10 ∷ b) r.place

  -- an answer that was given is given again
  abbrev pub KeepsSome : Option Rest → Option Rest → Type 0
  KeepsSome None y = Unit {0}
  KeepsSome (Some s) y = y ≡ Some (onto s)

  abbrev pub Keeps : Reading → Reading → Type 0
  Keeps (Ok x) y = y ≡ Ok (x.0, onto x.1)
  Keeps (Err e) y = Unit {0}

  some_if : (t : Bool) (x y x' y' : Option Rest) → KeepsSome x x' → KeepsSome y y' → KeepsSome (cond t x y) (cond t x' y')
  some_if true x y x' y' p q = p
  some_if false x y x' y' p q = q

  keeps_if : (t t' : Bool) (x y x' y' : Reading) → t' ≡ t → Keeps x x' → Keeps y y' → Keeps (cond t x y) (cond t' x' y')
  keeps_if true t' x y x' y' e p q = rw e p
  keeps_if false t' x y x' y' e p q = rw e q

  -- ---- sequences

  sees_onto : (x : ℕ) (cs : List ℕ) → eqb 10 x ≡ false → sees x (cs ++ 10 ∷ b) ≡ sees x cs
  sees_onto x [] e = e
  sees_onto x (c ∷ cs) e = refl

  rest_if : (t : Bool) (r s r' s' : Rest) → r' ≡ onto r → s' ≡ onto s → cond t r' s' ≡ onto (cond t r s)
  rest_if true r s r' s' p q = p
  rest_if false r s r' s' p q = q

  past_onto : (p : ℕ → Bool) (at : Place) (cs : List ℕ) → p 10 ≡ false → past_from p at (cs ++ 10 ∷ b) ≡ onto (past_from p at cs)
  past_onto p at [] e = rw e refl
  past_onto p at (c ∷ cs) e = rest_if (p c) (past_from p (after c at) cs) (rest (c ∷ cs) at) _ _ (past_onto p (after c at) cs e) refl

  front_onto : (p : ℕ → Bool) (cs : List ℕ) → p 10 ≡ false → front p (cs ++ 10 ∷ b) ≡ front p cs
  front_onto p [] e = rw e refl
  front_onto p (c ∷ cs) e = ap (λ (x : List ℕ). cond (p c) (c ∷ x) []) (front_onto p cs e)

  -- ---- comments and holes

  close_keeps : (mark depth : ℕ) (at : Place) (cs : List ℕ) → KeepsSome (close_of mark depth at cs) (close_of mark depth at (cs ++ 10 ∷ b))
  close_keeps mark depth at [] = tt
  close_keeps mark depth at (c ∷ []) = tt
  close_keeps mark depth at (c ∷ d ∷ cs) =
      let at' = after d (after c at) in
      some_if (eqb c 123 && eqb d mark) _ _ _ _ (close_keeps mark (depth + 1) at' cs)
      (some_if (eqb c mark && eqb d 125) _ _ _ _ (some_if (eqb depth 0) (Some (rest cs at')) _ (Some (rest (cs ++ 10 ∷ b) at')) _ refl (close_keeps mark (depth - 1) at' cs))
      (close_keeps mark depth (after c at) (d ∷ cs)))

  closed_keeps : (e : LexKind) (p : Piece) (x y : Option Rest) → KeepsSome x y → Keeps (closed e p x) (closed e p y)
  closed_keeps e p None y k = tt
  closed_keeps e p (Some s) y k = rw k refl

  nested_keeps : (mark : ℕ) (e : LexKind) (p : Piece) (r : Rest) → Keeps (closed e p (close_of mark 0 r.place r.chars)) (closed e p (close_of mark 0 r.place (r.chars ++ 10 ∷ b)))
  nested_keeps mark e p r = closed_keeps e p _ _ (close_keeps mark 0 r.place r.chars)

  -- ---- pragmas

  pragma_close_keeps : (at : Place) (cs : List ℕ) → KeepsSome (pragma_close at cs) (pragma_close at (cs ++ 10 ∷ b))
  pragma_close_keeps at [] = tt
  pragma_close_keeps at (c ∷ []) = tt
  pragma_close_keeps at (c ∷ d ∷ []) = tt
  pragma_close_keeps at (c ∷ d ∷ e ∷ cs) =
      let at' = after e (after d (after c at)) in
      some_if (are_close c d e) (Some (rest cs at')) _ (Some (rest (cs ++ 10 ∷ b) at')) _ refl (pragma_close_keeps (after c at) (d ∷ e ∷ cs))

  -- the pragma ends
  abbrev Ends : Option Rest → Type 0
  Ends None = ⊥
  Ends (Some s) = Unit {0}

  no_close : (c d e : ℕ) → is_white c ≡ true → are_close c d e ≡ false
  no_close c d e white = by_hash (eqb c 35) refl
    where
      by_hash : (t : Bool) → eqb c 35 ≡ t → ((t && eqb d 45) && eqb e 125) ≡ false
      by_hash true h = let is : is_white 35 ≡ true = rw (eqb-true c 35 h) at white in absurd cc
      by_hash false h = refl

  -- before its end nothing of a pragma changes
  goes_on : (c d e : ℕ) (cs : List ℕ) (at : Place) → are_close c d e ≡ false → Ends (pragma_close at (c ∷ d ∷ e ∷ cs)) → Ends (pragma_close (after c at) (d ∷ e ∷ cs))
  goes_on c d e cs at open_yet ends = rw open_yet at ends

  abbrev WhiteKept : Rest → Rest → Type 0
  WhiteKept r r' = (r' ≡ onto r) × Ends (pragma_close r.place r.chars)

  white_if : (c : ℕ) (cs : List ℕ) (at : Place) (t : Bool) (r r' : Rest) → (t ≡ true → WhiteKept r r') → Ends (pragma_close at (c ∷ cs)) → WhiteKept (cond t r (rest (c ∷ cs) at)) (cond t r' (rest (c ∷ cs ++ 10 ∷ b) at))
  white_if c cs at true r r' h ends = h refl
  white_if c cs at false r r' h ends = (refl, ends)

  white_onto : (at : Place) (cs : List ℕ) → Ends (pragma_close at cs) → WhiteKept (past_from (is_in class.White) at cs) (past_from (is_in class.White) at (cs ++ 10 ∷ b))
  white_onto at [] ends = absurd ends
  white_onto at (c ∷ []) ends = absurd ends
  white_onto at (c ∷ d ∷ []) ends = absurd ends
  white_onto at (c ∷ d ∷ e ∷ cs) ends =
      white_if c (d ∷ e ∷ cs) at (is_white c) (past_from (is_in class.White) (after c at) (d ∷ e ∷ cs)) (past_from (is_in class.White) (after c at) ((d ∷ e ∷ cs) ++ 10 ∷ b))
      (λ white. white_onto (after c at) (d ∷ e ∷ cs) (goes_on c d e cs at (no_close c d e white) ends)) ends

  word_if : (c : ℕ) (w t : Bool) (x y : List ℕ) → (t ≡ false → x ≡ y) → cond (w || t) [] (c ∷ x) ≡ cond (w || t) [] (c ∷ y)
  word_if c true t x y h = refl
  word_if c false true x y h = refl
  word_if c false false x y h = ap (λ (l : List ℕ). c ∷ l) (h refl)

  word_onto : (at : Place) (cs : List ℕ) → Ends (pragma_close at cs) → word_front (cs ++ 10 ∷ b) ≡ word_front cs
  word_onto at [] ends = absurd ends
  word_onto at (c ∷ []) ends = absurd ends
  word_onto at (c ∷ d ∷ []) ends = absurd ends
  word_onto at (c ∷ d ∷ e ∷ cs) ends =
      word_if c (is_white c) (are_close c d e) (word_front ((d ∷ e ∷ cs) ++ 10 ∷ b)) (word_front (d ∷ e ∷ cs)) (λ open_yet. word_onto (after c at) (d ∷ e ∷ cs) (goes_on c d e cs at open_yet ends))

  first_word_onto : (r : Rest) → Ends (pragma_close r.place r.chars) → first_word (onto r) ≡ first_word r
  first_word_onto r ends =
      let w = white_onto r.place r.chars ends in
      ap (λ (s : Rest). word_front s.chars) w.0 ∙ word_onto (past (is_in class.White) r).place (past (is_in class.White) r).chars w.1

  pragma_of_keeps : (r : Rest) (x y : Option Rest) → x ≡ pragma_close r.place r.chars → KeepsSome x y → Keeps (pragma_of (is_remark (encode_utf8_all (first_word r))) x) (pragma_of (is_remark (encode_utf8_all (first_word (onto r)))) y)
  pragma_of_keeps r None y is k = tt
  pragma_of_keeps r (Some s) y is k =
      let ends : Ends (pragma_close r.place r.chars) = rw (← is) tt in
      rw (k, first_word_onto r ends) (by_known (is_remark (encode_utf8_all (first_word r))))
    where
      by_known : (t : Bool) → Keeps (pragma_of t (Some s)) (pragma_of t (Some (onto s)))
      by_known true = refl
      by_known false = tt

  pragma_keeps : (r : Rest) → Keeps (pragma r) (pragma (onto r))
  unfolding pragma
  pragma_keeps r = pragma_of_keeps r (pragma_close r.place r.chars) (pragma_close r.place (r.chars ++ 10 ∷ b)) refl (pragma_close_keeps r.place r.chars)

  -- behind a character that was seen, which is no line feed
  next_onto : (x : ℕ) (r : Rest) → sees x r.chars ≡ true → next (onto r) ≡ onto (next r)
  next_onto x r saw = at_chars r.chars saw
    where
      at_chars : (cs : List ℕ) → sees x cs ≡ true → next (onto (rest cs r.place)) ≡ onto (next (rest cs r.place))
      at_chars [] saw = absurd cc
      at_chars (c ∷ cs) saw = refl

  keeps_seen : (x : ℕ) (r : Rest) (y z y' z' : Reading) → eqb 10 x ≡ false → (sees x r.chars ≡ true → Keeps y y') → Keeps z z' → Keeps (cond (sees x r.chars) y z) (cond (sees x (r.chars ++ 10 ∷ b)) y' z')
  keeps_seen x r y z y' z' e p q = rw (sees_onto x r.chars e) (by_seen (sees x r.chars) p)
    where
      by_seen : (t : Bool) → (t ≡ true → Keeps y y') → Keeps (cond t y z) (cond t y' z')
      by_seen true p = p refl
      by_seen false p = q

  comment_keeps : (r : Rest) → Keeps (comment r) (comment (onto r))
  comment_keeps r = keeps_seen 35 r _ _ _ _ refl (λ saw. rw (next_onto 35 r saw) (pragma_keeps (next r))) (nested_keeps 45 _ _ r)

  brace_keeps : (r : Rest) → Keeps (brace r) (brace (onto r))
  unfolding brace
  brace_keeps r =
      keeps_seen 45 r _ _ _ _ refl (λ saw. rw (next_onto 45 r saw) (comment_keeps (next r)))
      (keeps_seen 33 r _ _ _ _ refl (λ saw. rw (next_onto 33 r saw) (nested_keeps 33 _ _ (next r))) refl)

  -- ---- runs

  run_front_onto : (cs : List ℕ) → run_front (cs ++ 10 ∷ b) ≡ run_front cs
  run_front_onto cs = rw (sees_onto 92 cs refl, front_onto (is_in class.Run) cs refl) refl

  kind_onto : (r : Rest) → kind_at (onto r) ≡ kind_at r
  kind_onto r = ap (λ (x : List ℕ). run_kind (encode_utf8_all x)) (run_front_onto r.chars)

  run_past_onto : (r : Rest) → run_past (onto r) ≡ onto (run_past r)
  run_past_onto r = rw (sees_onto 92 r.chars refl) (by_seen (sees 92 r.chars) (next_onto 92 r))
    where
      by_seen : (t : Bool) → (t ≡ true → next (onto r) ≡ onto (next r)) → cond t (next (onto r)) (past (is_in class.Run) (onto r)) ≡ onto (cond t (next r) (past (is_in class.Run) r))
      by_seen true h = h refl
      by_seen false h = past_onto (is_in class.Run) r.place r.chars refl

  abbrev NameKept : TokenKind × Rest → TokenKind × Rest → Type 0
  NameKept x y = y ≡ (x.0, onto x.1)

  name_if : (r : Rest) (t : Bool) (u u' : Bool) (s s' : Rest) → (t ≡ true → (u' ≡ u) × (s' ≡ onto s)) → NameKept (cond (t && u) (kind.Qualified, s) (kind.Name, r)) (cond (t && u') (kind.Qualified, s') (kind.Name, onto r))
  name_if r true u u' s s' h = rw ((h refl).0, (h refl).1) (by_kind u)
    where
      by_kind : (u : Bool) → NameKept (cond u (kind.Qualified, s) (kind.Name, r)) (cond u (kind.Qualified, onto s) (kind.Name, onto r))
      by_kind true = refl
      by_kind false = refl
  name_if r false u u' s s' h = refl

  name_onto : (r : Rest) → NameKept (name_at r) (name_at (onto r))
  name_onto r =
      rw (sees_onto 46 r.chars refl)
      (name_if r (sees 46 r.chars) (is_name_kind (kind_at (next r))) (is_name_kind (kind_at (next (onto r)))) (run_past (next r)) (run_past (next (onto r)))
      (λ saw. (ap is_name_kind (ap kind_at (next_onto 46 r saw) ∙ kind_onto (next r)), ap run_past (next_onto 46 r saw) ∙ run_past_onto (next r))))

  run_of_keeps : (r : Rest) (k : Result TokenKind LexKind) → Keeps (run_of r k) (run_of (onto r) k)
  run_of_keeps r (Err e) = tt
  run_of_keeps r (Ok kind.Name) = rw (name_onto r) refl
  run_of_keeps r (Ok kind.Qualified) = refl
  run_of_keeps r (Ok (kind.Keyword w)) = refl
  run_of_keeps r (Ok (kind.Symbol s)) = refl
  run_of_keeps r (Ok (kind.SetLevel l)) = refl
  run_of_keeps r (Ok kind.Hole) = refl
  run_of_keeps r (Ok kind.Underscore) = refl

  run_keeps : (r : Rest) → Keeps (run r) (run (onto r))
  unfolding run
  run_keeps r = rw (run_past_onto r, kind_onto r) (run_of_keeps (run_past r) (kind_at r))

  -- ---- all pieces

  follows_onto : (cs : List ℕ) → follows_dot (cs ++ 10 ∷ b) ≡ follows_dot cs
  follows_onto [] = refl
  follows_onto (c ∷ cs) = refl

  dot_keeps : (joined : Bool) (r : Rest) → Keeps (dot joined r) (dot joined (onto r))
  dot_keeps joined r = keeps_if (not joined && follows_dot r.chars) _ _ _ _ _ (ap (λ (t : Bool). not joined && t) (follows_onto r.chars)) refl tt

  sign_keeps : (r : Rest) (o : Option TokenKind) → Keeps (sign_of r o) (sign_of (onto r) o)
  sign_keeps r None = tt
  sign_keeps r (Some k) = refl

  pub piece_keeps : (joined : Bool) (c : ℕ) (tail : List ℕ) (at : Place) → Keeps (piece_at joined c (rest (c ∷ tail) at)) (piece_at joined c (rest (c ∷ tail ++ 10 ∷ b) at))
  unfolding piece_at
  piece_keeps joined c tail at =
      let r = rest tail (after c at) in
      keeps_if (is_white c) _ _ _ _ _ refl refl
      (keeps_if (eqb c 123) _ _ _ _ _ refl (brace_keeps r)
      (keeps_if (eqb c 45 && sees 45 tail) _ _ _ _ _ (ap (λ (t : Bool). eqb c 45 && t) (sees_onto 45 tail refl)) (ap (λ (s : Rest). Ok (Rattle.agda_lexer.specs.declared.piece.Piece.TheVariants.Remark, s)) (past_onto (is_in class.Line) at (c ∷ tail) refl))
      (keeps_if (eqb c 46) _ _ _ _ _ refl (dot_keeps joined r)
      (keeps_if (is_special c) _ _ _ _ _ refl (sign_keeps r (sign c)) (run_keeps (rest (c ∷ tail) at))))))
