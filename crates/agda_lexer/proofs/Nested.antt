-- A turn of the loop that looks for the end of a comment or a hole.
use Rattle.std.proofs.Common.{◌≡◌, ℕ, ◌+◌, ◌-◌, ◌≤◌, true, false, eqb, List, [], ◌∷◌, Option, refl, ap, ◌∙◌, arith, drop, ◌==◌, ◌&&◌}
use Rattle.std.proofs.lemmas.Bool.Decides.{nat_tests}
use Rattle.std.proofs.lemmas.Str.{len_utf8_bounds}
use Rattle.el_outside.specs.Place.{Place, Rest, after, next, sees}
use Rattle.agda_lexer.specs.Pieces.{close_of}
use Rattle.agda_lexer.proofs.Steps.{rest, whole}

-- what is left to read is the same, and the place has moved on
pub record Goes (mark depth : ℕ) (r : Rest) (depth' : ℕ) (r' : Rest) : Type 0 where
  pub same : close_of mark depth' r'.place r'.chars ≡ close_of mark depth r.place r.chars
  pub further : r.place.at + 1 ≤ r'.place.at

module _ (mark depth : ℕ) (at : Place) (c : ℕ) where
  abbrev From : List ℕ → Rest
  From tail = rest (c ∷ tail) at

  opens_at : (tail : List ℕ) → true ≡ (c == 123 && sees mark tail) → Goes mark depth (From tail) (depth + 1) (next (rest tail (after c at)))
  opens_at [] p = absurd (grind (arith, p))
  opens_at (d ∷ cs) p = record { same = rw (← p) refl; further = omega (arith, len_utf8_bounds c) }

  closes_at : (tail : List ℕ) → false ≡ (c == 123 && sees mark tail) → true ≡ (c == mark && sees 125 tail) → eqb depth 0 ≡ false → Goes mark depth (From tail) (depth - 1) (next (rest tail (after c at)))
  closes_at [] n p z = absurd (grind (arith, p))
  closes_at (d ∷ cs) n p z = record { same = rw (← n, ← p, z) refl; further = omega (arith, len_utf8_bounds c) }

  passes_at : (tail : List ℕ) → false ≡ (c == 123 && sees mark tail) → false ≡ (c == mark && sees 125 tail) → Goes mark depth (From tail) depth (rest tail (after c at))
  passes_at [] n p = record { same = refl; further = omega (arith, len_utf8_bounds c) }
  passes_at (d ∷ cs) n p = record { same = rw (← n, ← p) refl; further = omega (arith, len_utf8_bounds c) }

module _ (mark depth : ℕ) (r r₁ : Rest) (c : ℕ) (one : r.chars ≡ c ∷ drop 1 r.chars) (moved : r₁ ≡ next r) where
  from : r ≡ rest (c ∷ drop 1 r.chars) r.place
  from = whole r (c ∷ drop 1 r.chars) one

  to : r₁ ≡ rest (drop 1 r.chars) (after c r.place)
  to = moved ∙ ap next from

  pub opens : (r₂ : Rest) → r₂ ≡ next r₁ → true ≡ (c == 123 && sees mark r₁.chars) → Goes mark depth r (depth + 1) r₂
  opens r₂ again p = rw (again, to, from) (opens_at mark depth r.place c (drop 1 r.chars) (rw to at p))

  pub closes : (r₂ : Rest) → r₂ ≡ next r₁ → false ≡ (c == 123 && sees mark r₁.chars) → true ≡ (c == mark && sees 125 r₁.chars) → (depth ≡ 0 → ⊥) → Goes mark depth r (depth - 1) r₂
  closes r₂ again n p z = rw (again, to, from) (closes_at mark depth r.place c (drop 1 r.chars) (rw to at n) (rw to at p) (let t : eqb depth 0 ≡ false = grind (arith, nat_tests) in t))

  pub passes : false ≡ (c == 123 && sees mark r₁.chars) → false ≡ (c == mark && sees 125 r₁.chars) → Goes mark depth r depth r₁
  passes n p = rw (to, from) (passes_at mark depth r.place c (drop 1 r.chars) (rw to at n) (rw to at p))

pub keeps : (mark depth depth' : ℕ) (r r' : Rest) (total : Option Rest) → Goes mark depth r depth' r' → depth' ≤ depth + 1 → (close_of mark depth r.place r.chars ≡ total) × (depth ≤ r.place.at)
    → (close_of mark depth' r'.place r'.chars ≡ total) × (depth' ≤ r'.place.at)
keeps mark depth depth' r r' total g le h = (g.same ∙ h.0, omega arith)
