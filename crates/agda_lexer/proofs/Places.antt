-- The places that are reached, in bytes.
use Rattle.std.proofs.Common.{◌≡◌, ℕ, ◌+◌, ◌≤◌, List, [], ◌∷◌, ◌++◌, length, drop, refl, subst, sym, ap, ◌∙◌, arith}
use Rattle.std.proofs.lemmas.List.{length-drop}
use Rattle.std.proofs.lemmas.Str.{encodes-chars, encodes_same, IsUtf8-drop}
use Rattle.std.specs.Str.{chars, encode_utf8_all, IsUtf8, IsCharBoundary}
use Rattle.el_outside.specs.Place.{Place, Rest, after, start, end_from, pos, pos_of}
use Rattle.el_outside.proofs.Stands as outside
use Rattle.agda_lexer.proofs.Steps.{rest, whole}
use Rattle.agda_lexer.proofs.Further.{Further}

pub at_least : (p : Place) (xs : List ℕ) → p.at ≤ (end_from p xs).at
at_least p [] = omega arith
at_least p (x ∷ xs) = omega (arith, at_least (after x p) xs)

-- what is left of a text stands at its place, however many characters were taken
taken_stands : (text : List ℕ) → IsUtf8 text → (taken cs : List ℕ) (at : Place) → outside.Stands text (rest (taken ++ cs) at) → outside.Stands text (rest cs (end_from at taken))
taken_stands text u [] cs at s = s
taken_stands text u (c ∷ taken) cs at s = taken_stands text u taken cs (after c at) (outside.Stands-next text u (rest (c ∷ taken ++ cs) at) c (taken ++ cs) refl s)

further_stands : (text : List ℕ) → IsUtf8 text → (r s : Rest) → outside.Stands text r → Further r s → outside.Stands text s
further_stands text u r s stands f =
    let from : outside.Stands text (rest (f.taken ++ s.chars) r.place) = subst (outside.Stands text) (whole r (f.taken ++ s.chars) f.split) stands in
    subst (outside.Stands text) (ap (λ (p : Place). rest s.chars p) (sym f.place_is)) (taken_stands text u f.taken s.chars r.place from)

-- a place that is reached
pub record Stands (text : List ℕ) (r : Rest) : Type 0 where
  pub border : IsCharBoundary text r.place.at
  pub position : pos r.place ≡ pos_of text r.place.at
  pub behind : chars (drop r.place.at text) ≡ r.chars
  pub room : r.place.at + length (encode_utf8_all r.chars) ≡ length text

pub stands : (text : List ℕ) → IsUtf8 text → (r : Rest) → Further (start (chars text)) r → Stands text r
stands text u r f =
    let s : outside.Stands text r = further_stands text u (start (chars text)) r (outside.Stands-start text u) f in
    record {
      border = s.border;
      position = sym (ap pos s.place);
      behind = encodes_same (chars (drop r.place.at text)) r.chars (encodes-chars (drop r.place.at text) (IsUtf8-drop text r.place.at u s.border) ∙ s.rest);
      room = omega (arith, s.border.0, ap length s.rest, length-drop r.place.at text);
    }
