-- The first word of a pragma, a character a turn.
use Rattle.std.proofs.Common.{◌≡◌, ℕ, true, false, List, [], ◌∷◌, ◌++◌, refl, sym, ap, ◌∙◌, append_assoc}
use Rattle.std.proofs.lemmas.List.{append-nil}
use Rattle.el_outside.specs.Place.{Rest, next, LeadsTo, between}
use Rattle.el_outside.specs.Runs.{is_white}
use Rattle.el_outside.proofs.Between.{between_is, LeadsTo-split}
use Rattle.agda_lexer.specs.Pieces.{word_front, is_close}
use Rattle.agda_lexer.proofs.Steps.{chars_next}

pub record Taking (from now : Rest) : Type 0 where
  pub taken : List ℕ
  pub split : from.chars ≡ taken ++ now.chars
  pub word_is : word_front from.chars ≡ taken ++ word_front now.chars

pub begins : (from : Rest) → Taking from from
begins from = record { taken = []; split = refl; word_is = refl }

pub takes : (from now new : Rest) (c : ℕ) (tail : List ℕ) → now.chars ≡ c ∷ tail → new ≡ next now → false ≡ is_white c → false ≡ is_close now.chars → Taking from now → Taking from new
takes from now new c tail one moved no_white no_close t =
    let to : new.chars ≡ tail = chars_next now new c tail one moved in
    let no_close' : false ≡ is_close (c ∷ tail) = rw one at no_close in
    let more : word_front now.chars ≡ c ∷ word_front tail = rw one (rw (← no_white, ← no_close') refl) in
    record {
      taken = t.taken ++ c ∷ [];
      split = t.split ∙ rw (one, to) (sym (append_assoc t.taken (c ∷ []) tail));
      word_is = t.word_is ∙ rw (more, to) (sym (append_assoc t.taken (c ∷ []) (word_front tail)));
    }

pub leads : (from now : Rest) → Taking from now → LeadsTo from now
leads from now t = LeadsTo-split from now t.taken t.split

pub stops_at_white : (now : Rest) (c : ℕ) (tail : List ℕ) → now.chars ≡ c ∷ tail → true ≡ is_white c → word_front now.chars ≡ []
stops_at_white now c tail one white = rw one (rw (← white) refl)

pub stops_at_close : (now : Rest) (c : ℕ) (tail : List ℕ) → now.chars ≡ c ∷ tail → false ≡ is_white c → true ≡ is_close now.chars → word_front now.chars ≡ []
stops_at_close now c tail one no_white close = let close' : true ≡ is_close (c ∷ tail) = rw one at close in rw one (rw (← no_white, ← close') refl)

pub stops_at_end : (now : Rest) → now.chars ≡ [] → word_front now.chars ≡ []
stops_at_end now none = rw none refl

pub word_is : (from now : Rest) → Taking from now → word_front now.chars ≡ [] → between from now ≡ word_front from.chars
word_is from now t none = between_is from now t.taken t.split ∙ sym (append-nil t.taken) ∙ sym (t.word_is ∙ ap (λ (x : List ℕ). t.taken ++ x) none)
