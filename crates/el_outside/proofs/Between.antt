-- The text between two cursors, and the longest sequence that passes a test, a character a turn.
use Rattle.std.proofs.Common.{ℕ, ◌≡◌, ◌-◌, ◌≤◌, Bool, true, List, [], ◌∷◌, ◌++◌, refl, length, take, ap, sym, ◌∙◌, append_assoc, arith}
use Rattle.std.proofs.lemmas.List.{length-append, take-append-drop, take_at, drop_at}
use Rattle.std.proofs.lemmas.Str.{encodes-append, IsCharBoundary-at_seam}
use Rattle.std.specs.Str.{encode_utf8_all, IsUtf8, IsCharBoundary}
use Rattle.el_outside.specs.Place.{Rest, next, after, LeadsTo, between}
use Rattle.el_outside.specs.Runs.{front, past}

pub between_is : (r s : Rest) (taken : List ℕ) → r.chars ≡ taken ++ s.chars → between r s ≡ taken
between_is r s taken split =
    let n : length r.chars - length s.chars ≡ length taken = omega (arith, ap length split, length-append taken s.chars) in
    rw (n, split) (take_at taken s.chars (length taken) refl)

pub LeadsTo-split : (r s : Rest) (taken : List ℕ) → r.chars ≡ taken ++ s.chars → LeadsTo r s
LeadsTo-split r s taken split =
    let n : length r.chars - length s.chars ≡ length taken = omega (arith, ap length split, length-append taken s.chars) in
    rw (n, split) (drop_at taken s.chars (length taken) refl)

module _ (r s : Rest) (leads : LeadsTo r s) (rest later : List ℕ) (rest_is : rest ≡ encode_utf8_all r.chars) (later_is : later ≡ encode_utf8_all s.chars) where
  split : r.chars ≡ between r s ++ s.chars
  split = sym (take-append-drop (length r.chars - length s.chars) r.chars) ∙ ap (λ (x : List ℕ). between r s ++ x) leads

  whole : rest ≡ encode_utf8_all (between r s) ++ later
  whole = rest_is ∙ ap encode_utf8_all split ∙ encodes-append (between r s) s.chars ∙ ap (λ (x : List ℕ). encode_utf8_all (between r s) ++ x) (sym later_is)

  len_is : length rest - length later ≡ length (encode_utf8_all (between r s))
  len_is = omega (arith, ap length whole, length-append (encode_utf8_all (between r s)) later)

  pub later_le : length later ≤ length rest
  later_le = omega (arith, ap length whole, length-append (encode_utf8_all (between r s)) later)

  pub border : IsUtf8 later → IsCharBoundary rest (length rest - length later)
  border u = rw len_is (IsCharBoundary-at_seam rest (encode_utf8_all (between r s)) later whole u)

  pub text_is : take (length rest - length later) rest ≡ encode_utf8_all (between r s)
  text_is = rw (len_is, whole) (take_at (encode_utf8_all (between r s)) later (length (encode_utf8_all (between r s))) refl)

-- the turns so far have taken these characters, all of which pass
pub record Taking (p : ℕ → Bool) (from now : Rest) : Type 0 where
  pub taken : List ℕ
  pub split : from.chars ≡ taken ++ now.chars
  pub front_is : front p from.chars ≡ taken ++ front p now.chars
  pub past_is : past p now ≡ past p from

pub begin : (p : ℕ → Bool) (from : Rest) → Taking p from from
begin p from = record { taken = []; split = refl; front_is = refl; past_is = refl }

pub turn : (p : ℕ → Bool) (from now new : Rest) (c : ℕ) (tail : List ℕ) → p c ≡ true → now.chars ≡ c ∷ tail → new ≡ next now → Taking p from now → Taking p from new
turn p from now new c tail holds one to t =
    let to_tail : new ≡ record { chars = tail; place = after c now.place } = to ∙ rw one refl in
    let here : front p now.chars ≡ c ∷ front p new.chars = rw (one, holds, to_tail) refl in
    let there : past p now ≡ past p new = rw (one, holds, to_tail) refl in
    record {
      taken = t.taken ++ c ∷ [];
      split = t.split ∙ rw (one, to_tail) (sym (append_assoc t.taken (c ∷ []) tail));
      front_is = t.front_is ∙ rw here (sym (append_assoc t.taken (c ∷ []) (front p new.chars)));
      past_is = sym there ∙ t.past_is;
    }
