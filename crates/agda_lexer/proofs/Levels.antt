-- Numbers in digits, and the text behind `Set`.
use Rattle.std.proofs.Common.{◌≡◌, ℕ, suc, ◌+◌, ◌-◌, ◌*◌, ◌<◌, ◌≤◌, true, false, List, [], ◌∷◌, length, get_or, drop, take, min, eqb, Some, None, refl, sym, ap, ◌∙◌, arith}
use Rattle.std.specs.Str.{chars, bytes_eq, encode_utf8_all, IsUtf8, IsCharBoundary}
use Rattle.std.proofs.lemmas.Str.{encodes-chars, chars-nil, chars_past_char, IsCharBoundary-after_ascii}
use Rattle.std.proofs.lemmas.Bool.Decides.{nat_tests}
use Rattle.std.proofs.lemmas.Slice.Eq.{bytes_eq-Decides}
use Rattle.std.proofs.lemmas.List.{at_drop_more, drop_all}
use lib.Utf8.{encode}
use Rattle.std.specs.Prelude.{◌++◌, ◌==◌}
use Rattle.agda_lexer.specs.Runs.{is_short, number_from, is_number, level}

one_more : (n : ℕ) → eqb (suc n) 0 ≡ false
one_more n = grind (arith, nat_tests)

pub no_chars : (bs : List ℕ) → IsUtf8 bs → eqb (length (chars bs)) 0 ≡ eqb (length bs) 0
no_chars [] u = rw chars-nil refl
no_chars (b ∷ bs) u = nonempty (chars (b ∷ bs)) (encodes-chars (b ∷ bs) u)
  where
    nonempty : (cs : List ℕ) → encode_utf8_all cs ≡ b ∷ bs → eqb (length cs) 0 ≡ eqb (length (b ∷ bs)) 0
    nonempty [] e = absurd cc
    nonempty (c ∷ cs) e = one_more (length cs) ∙ sym (one_more (length bs))

pub level_empty : (bs : List ℕ) → IsUtf8 bs → true ≡ (length bs == 0) → level (chars bs) ≡ Some 0
level_empty bs u e = let t : eqb (length (chars bs)) 0 ≡ true = no_chars bs u ∙ sym e in rw t refl

pub level_other : (bs : List ℕ) → IsUtf8 bs → false ≡ (length bs == 0) → false ≡ is_number 48 (chars bs) → false ≡ is_number 0x2080 (chars bs) → level (chars bs) ≡ None
level_other bs u e ascii subscript = let t : eqb (length (chars bs)) 0 ≡ false = no_chars bs u ∙ sym e in rw (t, ← ascii, ← subscript) refl

pub short_is : (base first : ℕ) (bs rest : List ℕ) → IsUtf8 bs → IsUtf8 rest → bs ≡ encode first ++ rest → first ≡ base → (length rest == 0) ≡ is_short base (chars bs)
short_is base first bs rest u v e is = let t : eqb first base ≡ true = grind (arith, nat_tests) in rw (chars_past_char bs rest first u e, no_chars rest v, t) refl

-- a number that is cut off at the limit stays cut off
capped : (base limit m : ℕ) (cs : List ℕ) → min (number_from base (min m limit) cs) limit ≡ min (number_from base m cs) limit
capped base limit m [] = omega arith
capped base limit m (c ∷ cs) =
    let d = c - base in
    let same : min (10 * min m limit + d) limit ≡ min (10 * m + d) limit = omega arith in
    sym (capped base limit (10 * min m limit + d) cs) ∙ ap (λ (n : ℕ). min (number_from base n cs) limit) same ∙ capped base limit (10 * m + d) cs

pub number_turn : (base limit n n' : ℕ) (cs : List ℕ) (i c total : ℕ) → (i < length cs) × (c ≡ get_or cs i c) → n' ≡ min (10 * n + (c - base)) limit
    → min (number_from base n (drop i cs)) limit ≡ total → min (number_from base n' (drop (i + 1) cs)) limit ≡ total
number_turn base limit n n' cs i c total h is before =
    let more = at_drop_more (λ (l : List ℕ). min (number_from base n l) limit) cs i c h.0 in
    let here : min (number_from base (10 * n + (get_or cs i c - base)) (drop (i + 1) cs)) limit ≡ total = sym more ∙ before in
    rw is (capped base limit (10 * n + (c - base)) (drop (i + 1) cs) ∙ ap (λ (x : ℕ). min (number_from base (10 * n + (x - base)) (drop (i + 1) cs)) limit) h.1 ∙ here)

pub number_end : (base limit n : ℕ) (cs : List ℕ) (i total : ℕ) → i ≡ length cs → n ≤ limit → min (number_from base n (drop i cs)) limit ≡ total → n ≡ total
number_end base limit n cs i total at_end le is = let e : min (number_from base n []) limit ≡ total = ap (λ (l : List ℕ). min (number_from base n l) limit) (sym (all_dropped cs i at_end)) ∙ is in omega (arith, e)
  where
    all_dropped : (cs : List ℕ) (i : ℕ) → i ≡ length cs → drop i cs ≡ []
    all_dropped cs i e = drop_all i cs (omega arith)

pub set_border : (bs : List ℕ) → IsUtf8 bs → bytes_eq (83 ∷ 101 ∷ 116 ∷ []) (take 3 bs) ≡ true → IsCharBoundary bs 3
set_border bs u e = at bs u ((bytes_eq-Decides (83 ∷ 101 ∷ 116 ∷ []) (take 3 bs)).0 e)
  where
    at : (bs : List ℕ) → IsUtf8 bs → (83 ∷ 101 ∷ 116 ∷ []) ≡ take 3 bs → IsCharBoundary bs 3
    at [] u e = absurd cc
    at (a ∷ []) u e = absurd cc
    at (a ∷ b ∷ []) u e = absurd cc
    at (a ∷ b ∷ c ∷ bs) u e = let t : 116 ≡ c = cc in IsCharBoundary-after_ascii (a ∷ b ∷ c ∷ bs) 2 u (omega arith) (omega arith)
