-- What follows a line feed changes no token before it.
use Rattle.std.proofs.Common.{◌≡◌, ℕ, zero, suc, ◌+◌, ◌≤◌, Bool, true, false, cond, eqb, List, [], ◌∷◌, ◌++◌, length, None, Ok, Err, refl, sym, ap, ◌∙◌, append_assoc, arith}
use Rattle.std.proofs.lemmas.List.{length-append}
use Rattle.std.proofs.lemmas.Str.{chars-append, chars_past_char, encode_ascii, IsUtf8-append}
use Rattle.std.specs.Str.{chars, IsUtf8}
use Rattle.el_outside.specs.Place.{Place, Rest, after, start, origin, after_mark}
use Rattle.agda_lexer.specs.declared.piece.Piece.TheVariants as piece
use Rattle.agda_lexer.specs.Pieces.{Reading, piece_at, is_run}
use Rattle.agda_lexer.specs.Tokens.{Placed, Cut, goes_on, cut_from, cut_of, tokens_of}
use Rattle.agda_lexer.specs.Laws.{Rise, tokens_up_to_fault, IsContinued}
use Rattle.agda_lexer.proofs.Steps.{rest, whole}
use Rattle.agda_lexer.proofs.Further.{Further, here, then, step, piece_goes, takes}
use Rattle.agda_lexer.proofs.Places.{stands}
use Rattle.agda_lexer.proofs.Turns.{placed, at_end, one_turn, start_le, tokens_of-append}
use Rattle.agda_lexer.proofs.Onto.{onto, Keeps, piece_keeps}
use Rattle.agda_lexer.proofs.Walks.{Walk, walk, rise}

module _ (b : List ℕ) where
  -- the pieces of x come first among those of y, and then those from the line feed on
  pub record Goes (r : Rest) (x y : Cut) : Type 0 where
    pub place : Place
    pub reach : Further r (rest [] place)
    pub turns : ℕ
    pub joined : Bool
    pub enough : length b + 1 ≤ turns
    pub pieces_are : y.pieces ≡ x.pieces ++ (cut_from turns joined (rest (10 ∷ b) place)).pieces

  goes_end : (n m : ℕ) (joined : Bool) (r : Rest) → r.chars ≡ [] → length (onto b r).chars ≤ m → Goes r (cut_from n joined r) (cut_from m joined (onto b r))
  goes_end n m joined r none le =
      let is : onto b r ≡ rest (10 ∷ b) r.place = ap (λ (cs : List ℕ). rest (cs ++ 10 ∷ b) r.place) none in
      record {
        place = r.place;
        reach = rw (whole r [] none) (here (rest [] r.place));
        turns = m;
        joined = joined;
        enough = omega (arith, ap (λ (s : Rest). length s.chars) is);
        pieces_are = ap (λ (s : Rest). (cut_from m joined s).pieces) is ∙ sym (ap (λ (c : Cut). c.pieces ++ (cut_from m joined (rest (10 ∷ b) r.place)).pieces) (at_end n joined r none));
      }

  -- the same for each text with fewer characters
  abbrev Shorter : ℕ → Type 0
  Shorter n = (m : ℕ) (joined : Bool) (s : Rest) → length s.chars ≤ n → length (onto b s).chars ≤ m → (cut_from n joined s).fault ≡ None → Goes s (cut_from n joined s) (cut_from m joined (onto b s))

  goes_reading : (n m : ℕ) (joined : Bool) (r : Rest) (c : ℕ) (tail : List ℕ) → Shorter n → r.chars ≡ c ∷ tail → length r.chars ≤ n + 1 → length (onto b r).chars ≤ m + 1
      → (x y : Reading) → piece_at joined c r ≡ x → Keeps b x y → (goes_on r.place (cut_from n) x).fault ≡ None → Goes r (goes_on r.place (cut_from n) x) (goes_on r.place (cut_from m) y)
  goes_reading n m joined r c tail more one le le' (Err e) y is k fault = absurd cc
  goes_reading n m joined r c tail more one le le' (Ok x) y is k fault =
      let s : Rest = x.1 in
      let shorter : length s.chars + 1 ≤ length r.chars = takes joined r s c tail x.0 one is in
      let le'' : length (onto b s).chars ≤ m = omega (arith, length-append s.chars (10 ∷ b), length-append r.chars (10 ∷ b)) in
      let g : Goes s (cut_from n (is_run x.0) s) (cut_from m (is_run x.0) (onto b s)) = more m (is_run x.0) s (omega arith) le'' fault in
      let from : Further r s = rw (whole r (c ∷ tail) one) (step c tail r.place s (piece_goes joined r s c tail x.0 one is)) in
      record {
        place = g.place;
        reach = then r s (rest [] g.place) from g.reach;
        turns = g.turns;
        joined = g.joined;
        enough = g.enough;
        pieces_are = ap (λ (z : Reading). (goes_on r.place (cut_from m) z).pieces) k ∙ ap (λ (ps : List Placed). placed x.0 r.place s.place ∷ ps) g.pieces_are;
      }

  goes_chars : (n m : ℕ) (joined : Bool) (r : Rest) → Shorter n → length r.chars ≤ n + 1 → length (onto b r).chars ≤ m → (cut_from (suc n) joined r).fault ≡ None → (cs : List ℕ) → r.chars ≡ cs → Goes r (cut_from (suc n) joined r) (cut_from m joined (onto b r))
  goes_chars n m joined r more le le' fault [] none = goes_end (suc n) m joined r none le'
  goes_chars n zero joined r more le le' fault (c ∷ tail) one = absurd (omega (arith, length-append r.chars (10 ∷ b)))
  goes_chars n (suc m) joined r more le le' fault (c ∷ tail) one =
      let turned : cut_from (suc n) joined r ≡ goes_on r.place (cut_from n) (piece_at joined c r) = one_turn n joined r c tail one in
      let one' : (onto b r).chars ≡ c ∷ tail ++ 10 ∷ b = ap (λ (cs : List ℕ). cs ++ 10 ∷ b) one in
      let turned' : cut_from (suc m) joined (onto b r) ≡ goes_on r.place (cut_from m) (piece_at joined c (onto b r)) = one_turn m joined (onto b r) c (tail ++ 10 ∷ b) one' in
      let keeps : Keeps b (piece_at joined c r) (piece_at joined c (onto b r)) = rw (whole r (c ∷ tail) one) (piece_keeps b joined c tail r.place) in
      rw (turned, turned') (goes_reading n m joined r c tail more one le (omega arith) (piece_at joined c r) (piece_at joined c (onto b r)) refl keeps (rw turned at fault))

  pub goes : (n : ℕ) → Shorter n
  goes zero = λ m joined r le le' fault. let none : r.chars ≡ [] = empty r.chars le in goes_end zero m joined r none le'
    where
      empty : (cs : List ℕ) → length cs ≤ 0 → cs ≡ []
      empty [] e = refl
      empty (c ∷ cs) e = absurd (omega arith)
  goes (suc n) = λ m joined r le le' fault. goes_chars n m joined r (goes n) (omega arith) le' fault r.chars refl

  start_onto : (cs : List ℕ) → start (cs ++ 10 ∷ b) ≡ onto b (start cs)
  unfolding start
  start_onto [] = refl
  start_onto (c ∷ cs) = by_mark (eqb c 0xFEFF)
    where
      by_mark : (t : Bool) → cond t (rest (cs ++ 10 ∷ b) after_mark) (rest (c ∷ cs ++ 10 ∷ b) origin) ≡ onto b (cond t (rest cs after_mark) (rest (c ∷ cs) origin))
      by_mark true = refl
      by_mark false = refl

feed_is_white : (joined : Bool) (b : List ℕ) (at : Place) → piece_at joined 10 (rest (10 ∷ b) at) ≡ Ok (piece.White, rest b (after 10 at))
unfolding piece_at
feed_is_white joined b at = refl

feed_cut : (n : ℕ) (joined : Bool) (b : List ℕ) (at : Place) → tokens_of (cut_from (suc n) joined (rest (10 ∷ b) at)).pieces ≡ tokens_of (cut_from n false (rest b (after 10 at))).pieces
feed_cut n joined b at = ap (λ (x : Cut). tokens_of x.pieces) (one_turn n joined (rest (10 ∷ b) at) 10 b refl ∙ ap (goes_on at (cut_from n)) (feed_is_white joined b at))

feed_is_utf8 : (more : List ℕ) → IsUtf8 more → IsUtf8 (10 ∷ more)
feed_is_utf8 more u = (10 ∷ u.0, (u.1.0, rw (encode_ascii 10 (omega arith)) (ap (λ (x : List ℕ). 10 ∷ x) u.1.1)))

chars_joined : (before more : List ℕ) → IsUtf8 before → IsUtf8 more → chars (before ++ 10 ∷ more) ≡ chars before ++ 10 ∷ chars more
chars_joined before more u v =
    let feed : chars (10 ∷ more) ≡ 10 ∷ chars more = chars_past_char (10 ∷ more) more 10 (feed_is_utf8 more v) (ap (λ (x : List ℕ). x ++ more) (sym (encode_ascii 10 (omega arith)))) in
    chars-append before (10 ∷ more) u ∙ ap (λ (x : List ℕ). chars before ++ x) feed

-- behind the line feed
reached : (b : List ℕ) (r : Rest) (place : Place) → Further r (rest [] place) → Further (onto b r) (rest b (after 10 place))
reached b r place f =
    let to_feed : Further (onto b r) (rest (10 ∷ b) place) = record {
      taken = f.taken;
      split = ap (λ (x : List ℕ). x ++ 10 ∷ b) f.split ∙ append_assoc f.taken [] (10 ∷ b);
      place_is = f.place_is;
    } in
    then (onto b r) (rest (10 ∷ b) place) (rest b (after 10 place)) to_feed (step 10 b place (rest b (after 10 place)) (here (rest b (after 10 place))))

module _ (before more : List ℕ) (u : IsUtf8 before) (v : IsUtf8 more) where
  abbrev all : List ℕ
  all = before ++ 10 ∷ more

  all_is_utf8 : IsUtf8 all
  all_is_utf8 = IsUtf8-append before (10 ∷ more) u (feed_is_utf8 more v)

  starts : start (chars all) ≡ onto (chars more) (start (chars before))
  starts = ap start (chars_joined before more u v) ∙ start_onto (chars more) (chars before)

  -- the tokens of what follows the line feed
  later : (turns : ℕ) (joined : Bool) (place : Place) → length (chars more) + 1 ≤ turns → Further (start (chars before)) (rest [] place)
      → Rise (length before + 1) (tokens_of (cut_from turns joined (rest (10 ∷ chars more) place)).pieces)
  later zero joined place le f = absurd (omega arith)
  later (suc n) joined place le f =
      let behind : Rest = rest (chars more) (after 10 place) in
      let from : Further (start (chars all)) behind = rw starts (reached (chars more) (start (chars before)) place f) in
      let w : Walk all behind (cut_from n false behind) = walk all all_is_utf8 n false behind (omega arith) from in
      let at : place.at ≡ length before = omega (arith, (stands before u (rest [] place) f).room) in
      let at' : (after 10 place).at ≡ length before + 1 = ap (λ (k : ℕ). k + 1) at in
      rw (feed_cut n joined (chars more) place, ← at') (rise all (after 10 place) w.to (cut_from n false behind).pieces w.join w.each)

  pub stand_alone : (cut_of before).fault ≡ None → IsContinued (length before + 1) (tokens_up_to_fault before) (tokens_up_to_fault all)
  stand_alone fault =
      let le : length (onto (chars more) (start (chars before))).chars ≤ length (chars all) = rw starts at (start_le (chars all)) in
      let g : Goes (chars more) (start (chars before)) (cut_of before) (cut_from (length (chars all)) false (onto (chars more) (start (chars before)))) =
      goes (chars more) (length (chars before)) (length (chars all)) false (start (chars before)) (start_le (chars before)) le fault in
      let rest_of : List Placed = (cut_from g.turns g.joined (rest (10 ∷ chars more) g.place)).pieces in
      record {
        others = tokens_of rest_of;
        whole = ap (λ (r : Rest). tokens_of (cut_from (length (chars all)) false r).pieces) starts ∙ ap tokens_of g.pieces_are ∙ tokens_of-append (cut_of before).pieces rest_of;
        behind = later g.turns g.joined g.place g.enough g.reach;
      }
