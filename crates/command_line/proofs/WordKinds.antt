-- Words by what they are.
use Rattle.std.proofs.Common.{◌≡◌, ◌∙◌, ◌<◌, ◌&&◌, ◌==◌, ℕ, Bool, true, false, cond, List, [], ◌∷◌, ◌++◌, length, get_or, Option, Some, None, refl, ap, arith, codes, nat_lt, ltb-true, lt-ltb}
use Rattle.std.proofs.lemmas.List.Quantifiers.{position-Some}
use Rattle.std.proofs.lemmas.Bool.{eqb-true}
use Rattle.std.proofs.lemmas.Bool.Decides.{nat_tests}
use Rattle.std.specs.Prelude.{is_some}
use Rattle.std.specs.Char.{is_ascii_digit}
use Rattle.std.specs.List.{list_all, position, position_or_len, before_first, after_first}
use Rattle.std.specs.Str.{bytes_eq}
use Rattle.std.proofs.lemmas.Slice.Eq.{bytes_eq-Decides}
use Rattle.std.proofs.lemmas.List.Sums.{split_at_first}
use Rattle.clap.specs.Lexer.{long_of, short_of}
use Rattle.command_line.specs.declared.limit.Limit.{Limit}
use Rattle.command_line.specs.declared.limit.Limit.TheVariants.{Fuel, Depth, Order}
use Rattle.command_line.specs.Limit.{is_value, limit_named}
use Rattle.command_line.specs.Number.{is_number}
use Rattle.command_line.specs.Word.{Kind, apart, ends, gives, has_equals, is_equals, is_option, joined, kind_of, option_kind, plain, refused, takes}
use Rattle.command_line.proofs.Numerals.{both}

pub same_text : (a b : List ℕ) → bytes_eq a b ≡ true → a ≡ b
same_text a b e = (bytes_eq-Decides a b).0 e

abbrev pub flag : Limit → List ℕ
flag Fuel = codes "--fuel"
flag Depth = codes "--depth"
flag Order = codes "--order"

abbrev Named : Option Limit → List ℕ → Type 0
Named None name = Unit {0}
Named (Some limit) name = name ≡ flag limit

named : (name : List ℕ) → Named (limit_named name) name
named name = at_fuel (bytes_eq name (codes "--fuel")) refl
  where
    at_order : (b : Bool) → bytes_eq name (codes "--order") ≡ b → Named (cond b (Some Order) None) name
    at_order true e = same_text _ _ e
    at_order false e = tt

    at_depth : (b : Bool) → bytes_eq name (codes "--depth") ≡ b
        → Named (cond b (Some Depth) (cond (bytes_eq name (codes "--order")) (Some Order) None)) name
    at_depth true e = same_text _ _ e
    at_depth false e = at_order (bytes_eq name (codes "--order")) refl

    at_fuel : (b : Bool) → bytes_eq name (codes "--fuel") ≡ b
        → Named (cond b (Some Fuel) (cond (bytes_eq name (codes "--depth")) (Some Depth)
        (cond (bytes_eq name (codes "--order")) (Some Order) None))) name
    at_fuel true e = same_text _ _ e
    at_fuel false e = at_depth (bytes_eq name (codes "--depth")) refl

-- what a word of each kind is
abbrev pub IsOfKind : Kind → List ℕ → Type 0
IsOfKind ends word = word ≡ codes "--"
IsOfKind (takes limit) word = word ≡ flag limit
IsOfKind (gives limit text) word = word ≡ flag limit ++ (61 ∷ text)
IsOfKind plain word = is_option word ≡ false
IsOfKind refused word = Unit {0}

some_place : (n l : ℕ) → is_some (cond (nat_lt n l) (Some n) None) ≡ true → n < l
some_place n l e = go (nat_lt n l) refl e
  where
    go : (b : Bool) → nat_lt n l ≡ b → is_some (cond b (Some n) None) ≡ true → n < l
    go true below e = ltb-true n l below
    go false below e = cc

at_equals : (word : List ℕ) → position_or_len is_equals word < length word → get_or word (position_or_len is_equals word) 0 ≡ 61
at_equals word place =
    let found : position is_equals word ≡ Some (position_or_len is_equals word) =
    rw (lt-ltb (position_or_len is_equals word) (length word) place) refl in
    let first = position-Some is_equals word (position_or_len is_equals word) 0 found in
    eqb-true _ _ first.1

split_word : (word : List ℕ) → has_equals word ≡ true → word ≡ before_first is_equals word ++ (61 ∷ after_first is_equals word)
split_word word has =
    let place : position_or_len is_equals word < length word = some_place _ _ has in
    split_at_first is_equals word 0 place ∙ ap (λ b. before_first is_equals word ++ (b ∷ after_first is_equals word)) (at_equals word place)

joined_kind : (o : Option Limit) (name text word : List ℕ) → word ≡ name ++ (61 ∷ text) → Named o name → IsOfKind (joined o text) word
joined_kind None name text word is named = tt
joined_kind (Some limit) name text word is named = is ∙ ap (λ n. n ++ (61 ∷ text)) named

apart_kind : (o : Option Limit) (word : List ℕ) → Named o word → IsOfKind (apart o) word
apart_kind None word named = tt
apart_kind (Some limit) word named = named

option_word : (word : List ℕ) → IsOfKind (option_kind word) word
option_word word = go (has_equals word) refl
  where
    go : (b : Bool) → has_equals word ≡ b
        → IsOfKind (cond b (joined (limit_named (before_first is_equals word)) (after_first is_equals word))
        (apart (limit_named word))) word
    go true has = joined_kind _ (before_first is_equals word) (after_first is_equals word) word (split_word word has)
        (named (before_first is_equals word))
    go false has = apart_kind _ word (named word)

pub is_of_kind : (word : List ℕ) → IsOfKind (kind_of word) word
is_of_kind word = at_end (bytes_eq word (codes "--")) refl
  where
    at_option : (b : Bool) → is_option word ≡ b → IsOfKind (cond b (option_kind word) plain) word
    at_option true e = option_word word
    at_option false e = e

    at_end : (b : Bool) → bytes_eq word (codes "--") ≡ b → IsOfKind (cond b ends (cond (is_option word) (option_kind word) plain)) word
    at_end true e = same_text _ _ e
    at_end false e = at_option (is_option word) refl

-- clap reads the word as no option
pub record IsPlain (word : List ℕ) : Type 0 where
  pub not_end : bytes_eq word (codes "--") ≡ false
  pub no_long : long_of word ≡ None
  pub no_short : short_of word ≡ None

pub is_plain : (word : List ℕ) → is_option word ≡ false → IsPlain word
is_plain [] e = record { not_end = refl; no_long = refl; no_short = refl }
is_plain (b ∷ []) e = go (b == 45) refl
  where
    go : (t : Bool) → (b == 45) ≡ t → IsPlain (b ∷ [])
    go true is = record { not_end = rw is refl; no_long = rw is refl; no_short = rw is refl }
    go false is = record { not_end = rw is refl; no_long = rw is refl; no_short = rw is refl }
is_plain (b ∷ c ∷ rest) e = record { not_end = rw e refl; no_long = rw e refl; no_short = rw e refl }

no_minus : (b : ℕ) → is_ascii_digit b ≡ true → (b == 45) ≡ false
no_minus b e = grind (arith, nat_tests)

pub value_is_plain : (limit : Limit) (text : List ℕ) → is_value limit text ≡ true → is_option text ≡ false
value_is_plain limit [] e = refl
value_is_plain limit (b ∷ []) e = refl
value_is_plain limit (b ∷ c ∷ rest) e =
    let numeral : is_number (b ∷ c ∷ rest) ≡ true = (both _ _ (both _ _ e).0).0 in
    let digits : (is_ascii_digit b && list_all is_ascii_digit (c ∷ rest)) ≡ true = (both _ _ numeral).1 in
    no_minus b (both _ _ digits).0
