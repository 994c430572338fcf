-- One character further.
use Rattle.std.proofs.Common.{◌≡◌, ℕ, List, ◌∷◌, refl, ap, ◌∙◌}
use Rattle.el_outside.specs.Place.{Place, Rest, after, next}

abbrev pub rest : List ℕ → Place → Rest
rest cs at = record { chars = cs; place = at }

pub whole : (r : Rest) (cs : List ℕ) → r.chars ≡ cs → r ≡ rest cs r.place
whole r cs e = ap (λ (l : List ℕ). rest l r.place) e

pub next_is : (r new : Rest) (c : ℕ) (tail : List ℕ) → r.chars ≡ c ∷ tail → new ≡ next r → new ≡ rest tail (after c r.place)
next_is r new c tail one moved = moved ∙ rw one refl

pub chars_next : (r new : Rest) (c : ℕ) (tail : List ℕ) → r.chars ≡ c ∷ tail → new ≡ next r → new.chars ≡ tail
chars_next r new c tail one moved = ap (λ (x : Rest). x.chars) (next_is r new c tail one moved)
