-- The rows of clap's matches after one more use of an argument.
use Rattle.std.proofs.Common.{◌≡◌, ◌∙◌, ◌||◌, Bool, true, false, cond, List, [], ◌∷◌, ◌++◌, Option, Some, None, refl, ap, append-nil}
use Rattle.std.specs.Prelude.{is_some, slice_get, option_and_then}
use Rattle.std.specs.List.{find, list_any}
use Rattle.std.specs.Str.{bytes_eq}
use Rattle.clap.specs.declared.builder.value_parser.Reading.{Reading}
use Rattle.clap.specs.declared.parser.matches.ValueSource.TheVariants.{CommandLine}
use Rattle.clap.specs.Walk.{Row, Text, at_row, first_of, has_row, more_values, with_values, without}

abbrev pub new_row : Text → Reading → Text → Row
new_row id how v = record { id = id; values = v ∷ []; count = None; source = Some CommandLine; reading = how }

-- the value of an id, if it has a row
abbrev pub Has : Text → Option Text → List Row → Type 0
Has id x rows = (first_of id rows ≡ x) × (has_row id rows ≡ is_some x)

neither : (a b : Bool) → (a || b) ≡ false → (a ≡ false) × (b ≡ false)
neither true b e = cc
neither false b e = (refl, e)

at_new : (id : Text) (change : Row → List Row) (missing rows : List Row) → has_row id rows ≡ false
    → at_row id change missing rows ≡ rows ++ missing
at_new id change missing [] none = refl
at_new id change missing (r ∷ rs) none =
    let parts : (bytes_eq r.id id ≡ false) × (has_row id rs ≡ false) = neither _ _ none in
    rw (parts.0) (ap (λ xs. r ∷ xs) (at_new id change missing rs parts.1))

pub used_new : (id : Text) (how : Reading) (v : Text) (rows : List Row) → has_row id rows ≡ false
    → with_values id how CommandLine (v ∷ []) (without id rows) ≡ rows ++ new_row id how v ∷ []
used_new id how v rows none =
    ap (with_values id how CommandLine (v ∷ [])) (at_new id (λ _. []) [] rows none ∙ append-nil rows)
    ∙ at_new id (more_values CommandLine (v ∷ [])) (new_row id how v ∷ []) rows none

find_other : (p : Row → Bool) (rows : List Row) (r : Row) → p r ≡ false → find p (rows ++ r ∷ []) ≡ find p rows
find_other p [] r miss = rw miss refl
find_other p (x ∷ xs) r miss = ap (cond (p x) (Some x)) (find_other p xs r miss)

find_here : (p : Row → Bool) (rows : List Row) (r : Row) → p r ≡ true → list_any p rows ≡ false → find p (rows ++ r ∷ []) ≡ Some r
find_here p [] r hit none = rw hit refl
find_here p (x ∷ xs) r hit none =
    let parts : (p x ≡ false) × (list_any p xs ≡ false) = neither _ _ none in
    rw (parts.0) (find_here p xs r hit parts.1)

any_other : (p : Row → Bool) (rows : List Row) (r : Row) → p r ≡ false → list_any p (rows ++ r ∷ []) ≡ list_any p rows
any_other p [] r miss = rw miss refl
any_other p (x ∷ xs) r miss = ap (λ b. p x || b) (any_other p xs r miss)

any_here : (p : Row → Bool) (rows : List Row) (r : Row) → p r ≡ true → list_any p rows ≡ false → list_any p (rows ++ r ∷ []) ≡ true
any_here p [] r hit none = rw hit refl
any_here p (x ∷ xs) r hit none =
    let parts : (p x ≡ false) × (list_any p xs ≡ false) = neither _ _ none in
    rw (parts.0) (any_here p xs r hit parts.1)

abbrev value_of : Option Row → Option Text
value_of o = option_and_then (λ r. slice_get r.values 0) o

pub has_here : (id : Text) (how : Reading) (v : Text) (rows : List Row) → bytes_eq id id ≡ true → has_row id rows ≡ false
    → Has id (Some v) (rows ++ new_row id how v ∷ [])
has_here id how v rows same none = (
  ap value_of (find_here (λ r. bytes_eq r.id id) rows (new_row id how v) same none),
  any_here (λ r. bytes_eq r.id id) rows (new_row id how v) same none,
)

pub has_other : (id other : Text) (how : Reading) (v : Text) (x : Option Text) (rows : List Row) → bytes_eq id other ≡ false
    → Has other x rows → Has other x (rows ++ new_row id how v ∷ [])
has_other id other how v x rows differ has = (
  ap value_of (find_other (λ r. bytes_eq r.id other) rows (new_row id how v) differ) ∙ has.0,
  any_other (λ r. bytes_eq r.id other) rows (new_row id how v) differ ∙ has.1,
)
