-- The lines of a text: their starts while a cursor walks over it, and a place within one.
use Rattle.std.proofs.Common.{ℕ, ◌≡◌, ◌≢◌, inl, inr, subst, ◌+◌, ◌-◌, ◌≤◌, ◌<◌, true, false, cond, eqb, List, [], ◌∷◌, ◌++◌, refl, length, take, drop, get_or, ap, sym, ◌∙◌, arith}
use Rattle.std.proofs.lemmas.Bool.Decides.{nat_tests}
use Rattle.std.proofs.lemmas.Grind.{get_or_default_zero}
use Rattle.std.proofs.lemmas.List.Sorted.{IsNonDecreasingBy-push, IsNonDecreasingBy-short}
use Rattle.std.proofs.lemmas.List.{get_or_append_left, get_or_push, length_push}
use Rattle.std.proofs.lemmas.Bool.{cases_lt}
use Rattle.std.proofs.Math.Seq.{take-add}
use Rattle.std.proofs.lemmas.Str.{chars-append, len_utf8_bounds, IsUtf8-take}
use Rattle.std.specs.List.Sorted.{IsPartitionPoint}
use Rattle.std.specs.Str.{chars, IsUtf8, IsCharBoundary}
use Rattle.std.specs.Char.{len_utf8}
use Rattle.el_outside.specs.Place.{Place, Rest, after, start, origin, after_mark, next, end_from, end_of}
use Rattle.el_outside.specs.Lines.{BeginsAt, AreStarts}
use Rattle.el_outside.proofs.Stands.{Stands, Stands-start, Stands-next, end_of-append}

-- ---- the number of a line is at most its offset and one

line_after : (c : ℕ) (p : Place) → (after c p).line + p.at < (after c p).at + p.line + 1
line_after c p =
    elim (eqb c 10) as (λ b. cond b (p.line + 1) p.line + p.at < (p.at + len_utf8 c) + p.line + 1) [
      | true ↦ omega (arith, len_utf8_bounds c)
      | false ↦ omega (arith, len_utf8_bounds c)
    ]

line_le : (p : Place) (cs : List ℕ) → (end_from p cs).line + p.at ≤ (end_from p cs).at + p.line
line_le p [] = omega arith
line_le p (c ∷ cs) = omega (arith, line_le (after c p) cs, line_after c p)

line_le_start : (cs : List ℕ) → (end_of (start cs)).line ≤ (end_of (start cs)).at + 1
unfolding start
line_le_start [] = omega arith
line_le_start (c ∷ cs) =
    elim (eqb c 0xFEFF) as (λ b. (end_of (cond b (record { chars = cs; place = after_mark }) (record { chars = c ∷ cs; place = origin }))).line ≤ (end_of (cond b (record { chars = cs; place = after_mark }) (record { chars = c ∷ cs; place = origin }))).at + 1) [
      | true ↦ omega (arith, line_le after_mark cs)
      | false ↦ omega (arith, line_le origin (c ∷ cs))
    ]

pub line_room : (text : List ℕ) (n at : ℕ) → BeginsAt text n at → n ≤ at + 1
line_room text n at b = let l = line_le_start (chars (take at text)) in rw b.place at l

-- ---- a cursor that walks over the text

each_push : (P : ℕ → ℕ → Type 0) (xs : List ℕ) (x : ℕ) → ((k : ℕ) → k < length xs → P k (get_or xs k 0)) → P (length xs) x → (k : ℕ) → k < length (xs ++ x ∷ []) → P k (get_or (xs ++ x ∷ []) k 0)
each_push P xs x each last k l =
    elim (cases_lt k (length xs)) [
      | inl below ↦ subst (P k) (sym (get_or_append_left xs (x ∷ []) 0 k below)) (each k below)
      | inr above ↦ let is : length xs ≡ k = omega (arith, length_push xs x) in subst (P k) (sym (get_or_push xs x 0 k is)) (subst (λ (n : ℕ). P n x) is last)
    ]

pub record Walked (text xs : List ℕ) (r : Rest) : Type 0 where
  pub stands : Stands text r
  pub starts : AreStarts text xs
  pub count : r.place.line ≡ length xs + 1
  pub below : (k : ℕ) → k < length xs → get_or xs k 0 ≤ r.place.at

begins : (text : List ℕ) (r : Rest) (n : ℕ) → Stands text r → r.place.line ≡ n → r.place.col ≡ 1 → BeginsAt text n r.place.at
begins text r n s line col = record { border = s.border; place = s.place ∙ ap (λ (k : ℕ). record { at = r.place.at; line = k; col = r.place.col }) line ∙ ap (λ (k : ℕ). record { at = r.place.at; line = n; col = k }) col }

line_of_start : (cs : List ℕ) → (start cs).place.line ≡ 1
unfolding start
line_of_start [] = refl
line_of_start (c ∷ cs) =
    elim (eqb c 0xFEFF) as (λ b. (cond {A = Rest} b (record { chars = cs; place = after_mark }) (record { chars = c ∷ cs; place = origin })).place.line ≡ 1) [
      | true ↦ refl
      | false ↦ refl
    ]

pub walked_none : (text xs : List ℕ) → IsUtf8 text → length xs ≡ 0 → Walked text xs (start (chars text))
walked_none text xs u none = record {
  stands = Stands-start text u;
  starts = record { each = λ k l. absurd (omega arith); rising = IsNonDecreasingBy-short (λ x. x) xs (omega arith) };
  count = line_of_start (chars text) ∙ omega arith;
  below = λ k l. absurd (omega arith);
}

module _ (text xs : List ℕ) (u : IsUtf8 text) (r : Rest) (c : ℕ) (cs : List ℕ) (one : r.chars ≡ c ∷ cs) (w : Walked text xs r) where
  to : next r ≡ record { chars = cs; place = after c r.place }
  to = rw one refl

  at_next : (next r).place.at ≡ r.place.at + len_utf8 c
  at_next = rw to refl

  pub walked_column : (c ≡ 10 → ⊥) → Walked text xs (next r)
  walked_column other =
      let t : eqb c 10 ≡ false = grind (arith, nat_tests) in
      let line : (next r).place.line ≡ r.place.line = rw (to, t) refl in
      record { stands = Stands-next text u r c cs one w.stands; starts = w.starts; count = line ∙ w.count; below = λ k l. omega (arith, at_next, w.below k l) }

  pub walked_line : c ≡ 10 → Walked text (xs ++ (next r).place.at ∷ []) (next r)
  walked_line feed =
      let t : eqb c 10 ≡ true = grind (arith, nat_tests) in
      let line : (next r).place.line ≡ r.place.line + 1 = rw (to, t) refl in
      let col : (next r).place.col ≡ 1 = rw (to, t) refl in
      let s : Stands text (next r) = Stands-next text u r c cs one w.stands in
      record {
        stands = s;
        starts = record {
          each = each_push (λ k a. BeginsAt text (k + 2) a) xs (next r).place.at w.starts.each (begins text (next r) (length xs + 2) s (omega (arith, line, w.count)) col);
          rising = IsNonDecreasingBy-push (λ x. x) xs (next r).place.at w.starts.rising (λ d some. let l : length xs - 1 < length xs = omega arith in omega (arith, get_or_default_zero xs (length xs - 1) d l, w.below (length xs - 1) l, at_next));
        };
        count = omega (arith, line, w.count, length_push xs (next r).place.at);
        below = each_push (λ k a. a ≤ (next r).place.at) xs (next r).place.at (λ k l. omega (arith, w.below k l, at_next)) (omega arith);
      }

-- ---- a place within a line

origin_not : (text : List ℕ) (n at : ℕ) → 2 ≤ n → BeginsAt text n at → chars (take at text) ≢ []
unfolding start
origin_not text n at two b none =
    let l : (end_of (start (chars (take at text)))).line ≡ n = ap (λ (p : Place). p.line) b.place in
    let one : (end_of (start (chars (take at text)))).line ≡ 1 = ap (λ (x : List ℕ). (end_of (start x)).line) none in
    omega (arith, l, one)

pub pos_in_line : (text : List ℕ) (n from at : ℕ) → IsUtf8 text → 2 ≤ n → from ≤ at → IsCharBoundary text from → IsUtf8 (take (at - from) (drop from text)) → BeginsAt text n from
    → end_of (record { chars = chars (take (at - from) (drop from text)); place = record { at = from; line = n; col = 1 } }) ≡ end_of (start (chars (take at text)))
pos_in_line text n from at u two le border mid b =
    let split : take at text ≡ take from text ++ take (at - from) (drop from text) = ap (λ (k : ℕ). take k text) (omega arith) ∙ take-add from (at - from) text in
    let before : List ℕ = chars (take from text) in
    let here : List ℕ = chars (take (at - from) (drop from text)) in
    let whole : chars (take at text) ≡ chars (take from text) ++ chars (take (at - from) (drop from text)) = ap chars split ∙ chars-append (take from text) (take (at - from) (drop from text)) (IsUtf8-take text from u border) in
    sym (ap (λ (x : List ℕ). end_of (start x)) whole ∙ end_of-append (chars (take from text)) (chars (take (at - from) (drop from text))) (λ none. absurd (origin_not text n from two b none)) ∙ ap (λ (p : Place). end_from p (chars (take (at - from) (drop from text)))) b.place)

-- ---- the last start that is not past an offset

pub last_le : (xs : List ℕ) (later last at start : ℕ) → IsPartitionPoint (λ (s : ℕ). s ≤ at) (λ (s : ℕ). at < s) xs later → (1 ≤ later) × (last ≡ later - 1) → start ≡ get_or xs last start → start ≤ at
last_le xs later last at start point some is = let t = point.0 last start (omega arith) (omega arith) in omega (arith, is, t)

pub begins_last : (text xs : List ℕ) (later last start : ℕ) → AreStarts text xs → later ≤ length xs → (1 ≤ later) × (last ≡ later - 1) → start ≡ get_or xs last start → BeginsAt text (later + 1) start
begins_last text xs later last start t bound some is =
    let below : last < length xs = omega arith in
    let n : last + 2 ≡ later + 1 = omega arith in
    let s : get_or xs last 0 ≡ start = sym (is ∙ get_or_default_zero xs last start below) in
    subst (λ (k : ℕ). BeginsAt text k start) n (subst (BeginsAt text (last + 2)) s (t.each last below))
