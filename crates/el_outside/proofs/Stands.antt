-- What a cursor over a text shows is what is left of the text at its place, and that place is the definition's.
use Rattle.std.proofs.Common.{ℕ, zero, suc, ◌≡◌, ◌+◌, ◌-◌, true, false, cond, eqb, List, [], ◌∷◌, ◌++◌, refl, length, take, drop, ap, sym, ◌∙◌, arith}
use Rattle.std.proofs.lemmas.Bool.Decides.{nat_tests}
use Rattle.std.proofs.lemmas.List.{append-nil, length-take, take_at, drop_at}
use Rattle.std.proofs.Math.Seq.{take-add}
use Rattle.std.proofs.lemmas.Str.{chars-nil, chars-append, chars_past_char, encodes-chars, length-encode, len_utf8_bounds, drop_past_char, IsUtf8-take, IsUtf8-drop, IsUtf8-between, IsUtf8-past_char, IsCharBoundary-start, IsCharBoundary-at_seam, IsCharBoundary-past_char}
use Rattle.std.specs.Str.{chars, encode_utf8_all, IsUtf8, IsCharBoundary}
use Rattle.std.specs.Char.{len_utf8}
use Rattle.el_outside.specs.Place.{Place, Rest, after, start, origin, after_mark, next, nexts, next_from, sees, end_from, end_of}
use lib.Utf8.{encode}

pub end_from-append : (p : Place) (xs ys : List ℕ) → end_from p (xs ++ ys) ≡ end_from (end_from p xs) ys
end_from-append p [] ys = refl
end_from-append p (x ∷ xs) ys = end_from-append (after x p) xs ys

-- the end of a text and of what follows it, which does not begin with a mark that begins the text
pub end_of-append : (xs ys : List ℕ) → (xs ≡ [] → sees 0xFEFF ys ≡ false) → end_of (start (xs ++ ys)) ≡ end_from (end_of (start xs)) ys
unfolding start
end_of-append [] [] h = refl
end_of-append [] (y ∷ ys) h = let e : eqb y 0xFEFF ≡ false = h refl in rw e refl
end_of-append (x ∷ xs) ys h =
    elim (eqb x 0xFEFF) as (λ b. end_of (cond b (record { chars = xs ++ ys; place = after_mark }) (record { chars = x ∷ (xs ++ ys); place = origin })) ≡ end_from (end_of (cond b (record { chars = xs; place = after_mark }) (record { chars = x ∷ xs; place = origin }))) ys) [
      | true ↦ end_from-append after_mark xs ys
      | false ↦ end_from-append origin (x ∷ xs) ys
    ]

pub record Stands (text : List ℕ) (r : Rest) : Type 0 where
  pub border : IsCharBoundary text r.place.at
  pub rest : drop r.place.at text ≡ encode_utf8_all r.chars
  pub place : end_of (start (chars (take r.place.at text))) ≡ r.place
  pub unmarked : r.place.at ≡ 0 → sees 0xFEFF r.chars ≡ false

Stands-start_by : (text cs : List ℕ) → IsUtf8 text → text ≡ encode_utf8_all cs → Stands text (start cs)
unfolding start chars encode
Stands-start_by text [] u e = record { border = IsCharBoundary-start text u; rest = e; place = refl; unmarked = λ _. refl }
Stands-start_by text (c ∷ cs) u e =
    elim (eqb c 0xFEFF) as (λ b. eqb c 0xFEFF ≡ b → Stands text (cond b (record { chars = cs; place = after_mark }) (record { chars = c ∷ cs; place = origin }))) [
      | true ↦ λ t. let is : c ≡ 0xFEFF = grind (arith, nat_tests) in
          let e' : text ≡ encode 0xFEFF ++ encode_utf8_all cs = e ∙ ap (λ (x : ℕ). encode x ++ encode_utf8_all cs) is in
          record {
            border = IsCharBoundary-at_seam text (encode 0xFEFF) (encode_utf8_all cs) e' (IsUtf8-past_char text (encode_utf8_all cs) 0xFEFF u e');
            rest = ap (drop 3) e' ∙ drop_at (encode 0xFEFF) (encode_utf8_all cs) 3 refl;
            place = ap (λ (x : List ℕ). end_of (start (chars x))) (ap (take 3) e' ∙ take_at (encode 0xFEFF) (encode_utf8_all cs) 3 refl);
            unmarked = λ z. absurd cc;
          }
      | false ↦ λ t. record { border = IsCharBoundary-start text u; rest = e; place = refl; unmarked = λ _. t }
    ] refl

pub Stands-start : (text : List ℕ) → IsUtf8 text → Stands text (start (chars text))
Stands-start text u = Stands-start_by text (chars text) u (sym (encodes-chars text u))

module _ (text : List ℕ) (u : IsUtf8 text) (r : Rest) (c : ℕ) (cs : List ℕ) (one : r.chars ≡ c ∷ cs) (s : Stands text r) where
  split : drop r.place.at text ≡ encode c ++ encode_utf8_all cs
  split = s.rest ∙ ap encode_utf8_all one

  border_after : IsCharBoundary text (r.place.at + len_utf8 c)
  border_after = IsCharBoundary-past_char text (encode_utf8_all cs) r.place.at c s.border.0 (IsUtf8-drop text r.place.at u s.border) split

  one_char : take (len_utf8 c) (drop r.place.at text) ≡ encode c
  one_char = ap (take (len_utf8 c)) split ∙ take_at (encode c) (encode_utf8_all cs) (len_utf8 c) (length-encode c)

  is_text : IsUtf8 (encode c)
  is_text =
      let n : (r.place.at + len_utf8 c) - r.place.at ≡ len_utf8 c = omega arith in
      let between : IsUtf8 (take ((r.place.at + len_utf8 c) - r.place.at) (drop r.place.at text)) = IsUtf8-between text r.place.at (r.place.at + len_utf8 c) u (omega arith) s.border border_after in
      rw (n, one_char) at between

  chars_one : chars (encode c) ≡ c ∷ []
  chars_one = chars_past_char (encode c) [] c is_text (sym (append-nil (encode c))) ∙ ap (λ (x : List ℕ). c ∷ x) chars-nil

  before : List ℕ
  before = chars (take r.place.at text)

  chars_after : chars (take (r.place.at + len_utf8 c) text) ≡ before ++ c ∷ []
  unfolding before
  chars_after = ap chars (take-add r.place.at (len_utf8 c) text ∙ ap (λ (x : List ℕ). take r.place.at text ++ x) one_char) ∙ chars-append (take r.place.at text) (encode c) (IsUtf8-take text r.place.at u s.border) ∙ ap (λ (x : List ℕ). chars (take r.place.at text) ++ x) chars_one

  none_before : before ≡ [] → r.place.at ≡ 0
  unfolding before
  none_before e =
      let nothing : take r.place.at text ≡ [] = sym (encodes-chars (take r.place.at text) (IsUtf8-take text r.place.at u s.border)) ∙ ap encode_utf8_all e in
      omega (arith, ap length nothing, length-take r.place.at text, s.border.0)

  place_after : end_of (start (chars (take (r.place.at + len_utf8 c) text))) ≡ after c r.place
  unfolding before
  place_after = ap (λ (x : List ℕ). end_of (start x)) chars_after ∙ end_of-append before (c ∷ []) (λ e. sym (ap (sees 0xFEFF) one) ∙ s.unmarked (none_before e)) ∙ ap (λ (p : Place). after c p) s.place

  pub Stands-next : Stands text (next r)
  Stands-next =
      let to : next r ≡ record { chars = cs; place = after c r.place } = rw one refl in
      rw to (record {
        border = border_after;
        rest = drop_past_char text (encode_utf8_all cs) r.place.at c split;
        place = place_after;
        unmarked = λ z. absurd (omega (arith, len_utf8_bounds c, z));
      })

Stands-next_by : (text : List ℕ) → IsUtf8 text → (r : Rest) (cs : List ℕ) → r.chars ≡ cs → Stands text r → Stands text (next r)
Stands-next_by text u r [] none s = let stays : next r ≡ r = ap (next_from r.place) none ∙ ap (λ (x : List ℕ). record { chars = x; place = r.place }) (sym none) in rw stays s
Stands-next_by text u r (c ∷ cs) one s = Stands-next text u r c cs one s

pub Stands-nexts : (text : List ℕ) → IsUtf8 text → (n : ℕ) (r : Rest) → Stands text r → Stands text (nexts n r)
Stands-nexts text u zero r s = s
Stands-nexts text u (suc n) r s = Stands-nexts text u n (next r) (Stands-next_by text u r r.chars refl s)
