-- What it is to read a tree, to be viable, and where a list of signs is refused. Derivations are those of any of the grammar's parts: f puts
-- the signs of one in front of others, and g is its tree.
use Rattle.std.specs.Prelude.{◌≡◌, ℕ, Bool, true, false, List, [], ◌∷◌, ◌++◌, length, Result, Ok, Err}
use Rattle.std.specs.Str.{chars}
use Rattle.el_outside.specs.declared.place.Pos.{Pos}
use Rattle.el_outside.specs.Place.{pos, start, end_of}
use Rattle.agda_grammar.specs.declared.sign.Kind.{Kind}
use Rattle.agda_grammar.specs.declared.sign.Kind.TheVariants as k
use Rattle.agda_grammar.specs.declared.sign.Sign.{Sign}
use Rattle.agda_grammar.specs.declared.error.ParseError.{ParseError}
use Rattle.agda_grammar.specs.declared.error.ParseError.TheVariants.{Bad, NoMemory}
use Rattle.agda_grammar.specs.declared.error.ParseKind.{ParseKind}
use Rattle.agda_grammar.specs.declared.error.ParseKind.TheVariants.{Unexpected, TooNested}
use Rattle.agda_grammar.specs.Nesting.{origin, shallow}
use Rattle.parse_laws.specs.Reading.{IsUnexpected, IsTooNested}

-- the signs have a derivation in which none is nested too deep, and this is its tree
pub record ReadsAs {D A : Type 0} (f : D → List Sign → List Sign) (g : D → A) (i : List Sign) (x : A) : Type 0 where
  pub derivation : D
  pub signs : i ≡ f derivation []
  pub gives : x ≡ g derivation
  pub within : shallow origin i ≡ length i

-- Unexpected is the first sign with which the front is not viable, and no sign before it is nested too deep. TooNested is the first that is
-- nested too deep, where with it the front is viable.
abbrev pub IsCause : {D : Type 0} → (D → List Sign → List Sign) → ParseKind → List Sign → List Sign → Type 0
IsCause f Unexpected front rest = IsUnexpected f (shallow origin) front rest
IsCause f TooNested front rest = IsTooNested f (shallow origin) front rest

-- the place of what is left: that of its first token, or the end of the text
abbrev pub is_block : Kind → Bool
is_block k.BlockOpen = true
is_block k.BlockNext = true
is_block k.BlockClose = true
is_block _ = false

abbrev pub end_pos : List ℕ → Pos
end_pos text = pos (end_of (start (chars text)))

abbrev pub place_at : Pos → List Sign → Pos
place_at end [] = end
place_at end (s ∷ rest) = elim (is_block s.kind) [ true ↦ place_at end rest | false ↦ s.mark.place.pos ]

pub record IsRefused {D : Type 0} (f : D → List Sign → List Sign) (text : List ℕ) (i : List Sign) (kind : ParseKind) (at : Pos) : Type 0 where
  pub front : List Sign
  pub rest : List Sign
  pub split : i ≡ front ++ rest
  pub place : at ≡ place_at (end_pos text) rest
  pub cause : IsCause f kind front rest

-- The answer to a list of signs: the one tree of a derivation that is not nested too deep, or the place where the list is refused, unless
-- memory ran out.
abbrev pub Settles : {D A : Type 0} → (D → List Sign → List Sign) → (D → A) → List ℕ → List Sign → Result A ParseError → Type 0
Settles {D = D} f g text i (Ok x) = ReadsAs f g i x × ((d : D) → i ≡ f d [] → x ≡ g d)
Settles f g text i (Err (Bad pos kind)) = IsRefused f text i kind pos
Settles f g text i (Err NoMemory) = Unit {0}
