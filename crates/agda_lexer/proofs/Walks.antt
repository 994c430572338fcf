-- The pieces of a text from its beginning to its end: they join, and each is as its kind says.
use Rattle.std.proofs.Common.{Option, None, ◌≡◌, ℕ, zero, suc, ◌+◌, ◌<◌, ◌≤◌, inl, inr, Bool, false, List, [], ◌∷◌, length, Some, Ok, Err, refl, sym, ap, ◌∙◌, arith}
use Rattle.std.proofs.lemmas.Str.{len_utf8_bounds}
use Rattle.std.proofs.lemmas.List.Elements.{All-nil, All-cons, All-head, All-tail, All-weaker}
use Rattle.std.specs.Str.{chars, encode_utf8_all, IsUtf8, IsCharBoundary}
use Rattle.std.specs.List.{All}
use Rattle.std.specs.Prelude.{IfOk}
use Rattle.el_outside.specs.Place.{Place, Rest, after, start, pos, pos_of}
use Rattle.agda_lexer.specs.declared.token.LexKind.{LexKind}
use Rattle.agda_lexer.specs.declared.token.Token.{Token}
use Rattle.agda_lexer.specs.declared.token.Lexed.{Lexed}
use Rattle.el_outside.specs.declared.Pos.{Pos}
use Rattle.agda_lexer.specs.declared.token.TokenKind.{TokenKind}
use Rattle.agda_lexer.specs.declared.piece.Piece.{Piece}
use Rattle.agda_lexer.specs.declared.piece.Piece.TheVariants as piece
use Rattle.agda_lexer.specs.Pieces.{Reading, piece_at, is_run}
use Rattle.agda_lexer.specs.Tokens.{Placed, Cut, nothing, goes_on, cut_from, cut_of, tokens_of, token, with_token, Outcome, outcome, lex_of}
use Rattle.agda_lexer.specs.Laws.{Rise, IsOnBorders, IsPlaced, Join, EndsAt, IsWhite, IsLongest, IsCovered, tokens_up_to_fault}
use Rattle.agda_lexer.proofs.Steps.{rest, whole}
use Rattle.agda_lexer.proofs.Further.{Further, here, then, step, piece_goes, takes}
use Rattle.agda_lexer.proofs.Places.{Stands, stands, at_least}
use Rattle.agda_lexer.proofs.Fits.{FitsPiece, piece_fits}
use Rattle.agda_lexer.proofs.Turns.{placed, at_end, one_turn, start_le}

-- what is so of each piece
pub record IsRead (text : List ℕ) (p : Placed) : Type 0 where
  pub from : IsCharBoundary text p.from.at
  pub to : IsCharBoundary text p.to.at
  pub position : pos p.from ≡ pos_of text p.from.at
  pub rises : p.from.at < p.to.at
  pub white : IsWhite text p.piece p
  pub longest : IsLongest text p.piece p

rises_to : (c : ℕ) (tail : List ℕ) (at : Place) (s : Rest) → Further (rest tail (after c at)) s → at.at < s.place.at
rises_to c tail at s f = omega (arith, ap (λ (p : Place). p.at) f.place_is, at_least (after c at) f.taken, len_utf8_bounds c)

white_is : (text : List ℕ) (r s : Rest) (c : ℕ) (tail : List ℕ) (p : Piece) → r.chars ≡ c ∷ tail → Stands text r → Stands text s → FitsPiece c tail p s → IsWhite text p (placed p r.place s.place)
white_is text r s c tail piece.White one at to f = (c, (f.0, at.behind ∙ one ∙ ap (λ (x : List ℕ). c ∷ x) (sym f.1 ∙ sym to.behind)))
white_is text r s c tail piece.Remark one at to f = tt
white_is text r s c tail (piece.Sign k) one at to f = tt
white_is text r s c tail (piece.Run k) one at to f = tt

longest_is : (text : List ℕ) (r s : Rest) (c : ℕ) (tail : List ℕ) (p : Piece) → r.chars ≡ c ∷ tail → Stands text r → Stands text s → FitsPiece c tail p s → IsLongest text p (placed p r.place s.place)
longest_is text r s c tail piece.White one at to f = tt
longest_is text r s c tail piece.Remark one at to f = tt
longest_is text r s c tail (piece.Sign k) one at to f = tt
longest_is text r s c tail (piece.Run k) one at to f = elim f [ inl e ↦ inl (ap Rattle.agda_lexer.specs.Laws.begins_run to.behind ∙ e) | inr e ↦ inr (at.behind ∙ one ∙ ap (λ (x : ℕ). x ∷ tail) e.0 ∙ ap (λ (x : List ℕ). 92 ∷ x) (sym e.1 ∙ sym to.behind)) ]

read_is : (text : List ℕ) (r s : Rest) (c : ℕ) (tail : List ℕ) (p : Piece) → r.chars ≡ c ∷ tail → Stands text r → Stands text s → Further (rest tail (after c r.place)) s → FitsPiece c tail p s → IsRead text (placed p r.place s.place)
read_is text r s c tail p one at to f fits = record {
  from = at.border;
  to = to.border;
  position = at.position;
  rises = rises_to c tail r.place s f;
  white = white_is text r s c tail p one at to fits;
  longest = longest_is text r s c tail p one at to fits;
}

-- ---- the walk

pub record Walk (text : List ℕ) (r : Rest) (x : Cut) : Type 0 where
  pub to : Place
  pub join : Join r.place x.pieces to
  pub ends : EndsAt text x.fault to
  pub each : All (IsRead text) x.pieces

module _ (text : List ℕ) (u : IsUtf8 text) where
  abbrev Reached : Rest → Type 0
  Reached r = Further (start (chars text)) r

  walk_end : (r : Rest) → r.chars ≡ [] → Reached r → Walk text r nothing
  walk_end r none f = record {
    to = r.place;
    join = refl;
    ends = omega (arith, (stands text u r f).room, ap (λ (x : List ℕ). length (encode_utf8_all x)) none);
    each = All-nil (IsRead text);
  }

  walk_fault : (r : Rest) (e : LexKind) → Walk text r (record { pieces = []; fault = Some (pos r.place, e) })
  walk_fault r e = record { to = r.place; join = refl; ends = refl; each = All-nil (IsRead text) }

  walk_more : (r s : Rest) (p : Piece) (x : Cut) → IsRead text (placed p r.place s.place) → Walk text s x → Walk text r (record { pieces = placed p r.place s.place ∷ x.pieces; fault = x.fault })
  walk_more r s p x read w = record {
    to = w.to;
    join = (refl, w.join);
    ends = w.ends;
    each = All-cons (IsRead text) (placed p r.place s.place) x.pieces read w.each;
  }

  empty : (cs : List ℕ) → length cs ≤ 0 → cs ≡ []
  empty [] e = refl
  empty (c ∷ cs) e = absurd (omega arith)

  -- the walk goes on from each place that is reached with fewer characters
  abbrev Goes : ℕ → Type 0
  Goes n = (joined : Bool) (s : Rest) → length s.chars ≤ n → Reached s → Walk text s (cut_from n joined s)

  walk_reading : (n : ℕ) (joined : Bool) (r : Rest) (c : ℕ) (tail : List ℕ) → Goes n → r.chars ≡ c ∷ tail → length r.chars ≤ n + 1 → Reached r → (x : Reading) → piece_at joined c r ≡ x → Walk text r (goes_on r.place (cut_from n) x)
  walk_reading n joined r c tail more one le f (Err e) is = walk_fault r e
  walk_reading n joined r c tail more one le f (Ok x) is =
      let g : Further (rest tail (after c r.place)) x.1 = piece_goes joined r x.1 c tail x.0 one is in
      let from : Further r x.1 = rw (whole r (c ∷ tail) one) (step c tail r.place x.1 g) in
      let h : Reached x.1 = then _ r x.1 f from in
      walk_more r x.1 x.0 (cut_from n (is_run x.0) x.1)
      (read_is text r x.1 c tail x.0 one (stands text u r f) (stands text u x.1 h) g (piece_fits joined r x.1 c tail x.0 one is))
      (more (is_run x.0) x.1 (omega (arith, takes joined r x.1 c tail x.0 one is)) h)

  walk_chars : (n : ℕ) (joined : Bool) (r : Rest) → Goes n → length r.chars ≤ n + 1 → Reached r → (cs : List ℕ) → r.chars ≡ cs → Walk text r (cut_from (suc n) joined r)
  walk_chars n joined r more le f [] none = rw (at_end (suc n) joined r none) (walk_end r none f)
  walk_chars n joined r more le f (c ∷ tail) one = rw (one_turn n joined r c tail one) (walk_reading n joined r c tail more one le f (piece_at joined c r) refl)

  pub walk : (n : ℕ) → Goes n
  walk zero = λ joined r le f. let none : r.chars ≡ [] = empty r.chars le in rw (at_end zero joined r none) (walk_end r none f)
  walk (suc n) = λ joined r le f. walk_chars n joined r (walk n) (omega arith) f r.chars refl

  pub all_walk : Walk text (start (chars text)) (cut_of text)
  all_walk = walk (length (chars text)) false (start (chars text)) (start_le (chars text)) (here (start (chars text)))

-- ---- the tokens among the pieces

pub rise_weaker : (m n : ℕ) (ts : List Token) → m ≤ n → Rise n ts → Rise m ts
rise_weaker m n [] le h = tt
rise_weaker m n (t ∷ ts) le h = (omega (arith, h.0), h.1)

rise_token : (text : List ℕ) (from : Place) (k : Piece) (p : Placed) (ts : List Token) → p.from ≡ from → IsRead text p → Rise p.to.at ts → Rise from.at (with_token k p ts)
rise_token text from k p ts e read later = let at : p.from.at ≡ from.at = ap (λ (x : Place). x.at) e in by_kind at k
  where
    by_kind : p.from.at ≡ from.at → (k : Piece) → Rise from.at (with_token k p ts)
    by_kind at piece.White = rise_weaker from.at p.to.at ts (omega (arith, read.rises, at)) later
    by_kind at piece.Remark = rise_weaker from.at p.to.at ts (omega (arith, read.rises, at)) later
    by_kind at (piece.Sign k) = (omega (arith, at), (read.rises, later))
    by_kind at (piece.Run k) = (omega (arith, at), (read.rises, later))

pub rise : (text : List ℕ) (from to : Place) (ps : List Placed) → Join from ps to → All (IsRead text) ps → Rise from.at (tokens_of ps)
rise text from to [] j all = tt
rise text from to (p ∷ ps) j all =
    rise_token text from p.piece p (tokens_of ps) j.0 (All-head (IsRead text) p ps all) (rise text p.to to ps j.1 (All-tail (IsRead text) p ps all))

token_more : (P : Token → Type 0) (k : Piece) (p : Placed) (ts : List Token) → ((k : TokenKind) → P (token k p)) → All P ts → All P (with_token k p ts)
token_more P piece.White p ts h all = all
token_more P piece.Remark p ts h all = all
token_more P (piece.Sign k) p ts h all = All-cons P (token k p) ts (h k) all
token_more P (piece.Run k) p ts h all = All-cons P (token k p) ts (h k) all

each_token : (text : List ℕ) (P : Token → Type 0) → ((k : TokenKind) (p : Placed) → IsRead text p → P (token k p)) → (ps : List Placed) → All (IsRead text) ps → All P (tokens_of ps)
each_token text P h [] all = All-nil P
each_token text P h (p ∷ ps) all =
    token_more P p.piece p (tokens_of ps) (λ k. h k p (All-head (IsRead text) p ps all)) (each_token text P h ps (All-tail (IsRead text) p ps all))

-- ---- the laws

pub spans_rise : (text : List ℕ) → IsUtf8 text → Rise 0 (tokens_up_to_fault text)
spans_rise text u = let w = all_walk text u in rise_weaker 0 (start (chars text)).place.at (tokens_up_to_fault text) (omega arith) (rise text (start (chars text)).place w.to (cut_of text).pieces w.join w.each)

pub on_borders : (text : List ℕ) → IsUtf8 text → All (IsOnBorders text) (tokens_up_to_fault text)
on_borders text u = each_token text (IsOnBorders text) (λ k p read. record { start = read.from; end = read.to }) (cut_of text).pieces (all_walk text u).each

pub are_placed : (text : List ℕ) → IsUtf8 text → All (IsPlaced text) (tokens_up_to_fault text)
are_placed text u = each_token text (IsPlaced text) (λ k p read. read.position) (cut_of text).pieces (all_walk text u).each

pub is_covered : (text : List ℕ) → IsUtf8 text → IsCovered text
is_covered text u = let w = all_walk text u in record {
  to = w.to;
  join = w.join;
  ends = w.ends;
  white = All-weaker (IsRead text) (λ p. IsWhite text p.piece p) (λ p read. read.white) (cut_of text).pieces w.each;
}

pub runs_longest : (text : List ℕ) → IsUtf8 text → All (λ p. IsLongest text p.piece p) (cut_of text).pieces
runs_longest text u = All-weaker (IsRead text) (λ p. IsLongest text p.piece p) (λ p read. read.longest) (cut_of text).pieces (all_walk text u).each

-- ---- what `lex` answers

abbrev IfLexed : (Lexed → Type 0) → Outcome → Type 0
IfLexed P o = IfOk o P

if_lexed : (P : List Token → Type 0) (ps : List Placed) (fault : Option (Pos × LexKind)) → P (tokens_of ps) → IfLexed (λ l. P l.tokens) (outcome ps fault)
if_lexed P ps None h = h
if_lexed P ps (Some e) h = tt

rise_count : (at n : ℕ) (ts : List Token) → at ≤ n → Rise at ts → All (λ t. t.span.end ≤ n) ts → at + length ts ≤ n
rise_count at n [] le h ends = omega arith
rise_count at n (t ∷ ts) le h ends =
    let end : t.span.end ≤ n = All-head (λ (t : Token). t.span.end ≤ n) t ts ends in
    omega (arith, h.0, h.1.0, rise_count t.span.end n ts end h.1.1 (All-tail (λ (t : Token). t.span.end ≤ n) t ts ends))

pub lexed_rise : (text : List ℕ) → IsUtf8 text → IfOk (lex_of text) (λ l. Rise 0 l.tokens)
unfolding lex_of
lexed_rise text u = if_lexed (Rise 0) (cut_of text).pieces (cut_of text).fault (spans_rise text u)

pub lexed_on_borders : (text : List ℕ) → IsUtf8 text → IfOk (lex_of text) (λ l. All (IsOnBorders text) l.tokens)
unfolding lex_of
lexed_on_borders text u = if_lexed (All (IsOnBorders text)) (cut_of text).pieces (cut_of text).fault (on_borders text u)

pub lexed_few : (text : List ℕ) → IsUtf8 text → IfOk (lex_of text) (λ l. length l.tokens ≤ length text)
unfolding lex_of
lexed_few text u =
    let ends : All (λ t. t.span.end ≤ length text) (tokens_up_to_fault text) = All-weaker (IsOnBorders text) (λ (t : Token). t.span.end ≤ length text) (λ t b. b.end.0) (tokens_up_to_fault text) (on_borders text u) in
    let few : length (tokens_up_to_fault text) ≤ length text = omega (arith, rise_count 0 (length text) (tokens_up_to_fault text) (omega arith) (spans_rise text u) ends) in
    if_lexed (λ (ts : List Token). length ts ≤ length text) (cut_of text).pieces (cut_of text).fault few
