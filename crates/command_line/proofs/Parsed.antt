-- What a parse of words that the rule takes gives.
use Rattle.std.proofs.Common.{◌≡◌, ◌∙◌, ◌≤◌, true, List, [], ◌∷◌, length, Option, Some, None, refl, sym, arith, codes}
use Rattle.std.specs.Prelude.{is_some, slice_get, option_map, option_and_then}
use Rattle.clap.specs.declared.parser.matches.Found.{Found}
use Rattle.clap.specs.Matches.{first_value}
use Rattle.clap.specs.Walk.{Text, first_of, rows_of}
use Rattle.clap.specs.Simple.{is_simple}
use Rattle.clap.proofs.WalkLemmas.{first_value-rows}
use Rattle.clap.proofs.OnLiterals.{clap_on_literals}
use Rattle.command_line.specs.declared.rule.Next.TheVariants.{Word}
use Rattle.command_line.specs.Ask.{ask_from, ask_of, ask_with, mode_of}
use Rattle.command_line.specs.Command.{app, left_of, parts_in}
use Rattle.command_line.specs.Rule.{Parts, nothing, read}
use Rattle.command_line.proofs.Built.{HasParts}

pub app_simple : is_simple app ≡ true
unfolding clap_on_literals
app_simple = refl

short_mode : (p : Parts) (left : List Text) → is_some (option_map (ask_with p) (mode_of left)) ≡ true → length left ≤ 3
short_mode p [] e = omega arith
short_mode p (a ∷ []) e = omega arith
short_mode p (a ∷ b ∷ []) e = omega arith
short_mode p (a ∷ b ∷ c ∷ []) e = omega arith
short_mode p (a ∷ b ∷ c ∷ d ∷ more) e = cc

-- the parts of words that the rule takes
pub record Accepted (words : List Text) : Type 0 where
  pub parts : Parts
  pub reads : read words Word nothing ≡ Some parts
  pub short : length parts.left ≤ 3

pub accepted : (words : List Text) → is_some (ask_of words) ≡ true → Accepted words
accepted words e = go (read words Word nothing) refl e
  where
    go : (o : Option Parts) → read words Word nothing ≡ o → is_some (option_and_then ask_from o) ≡ true → Accepted words
    go None is e = cc
    go (Some p) is e = record { parts = p; reads = is; short = short_mode p p.left e }

all_left : (left : List Text) → length left ≤ 3
    → left ≡ left_of (slice_get left 0) (slice_get left 1) (slice_get left 2)
all_left [] short = refl
all_left (a ∷ []) short = refl
all_left (a ∷ b ∷ []) short = refl
all_left (a ∷ b ∷ c ∷ []) short = refl
all_left (a ∷ b ∷ c ∷ d ∷ more) short = absurd (omega arith)

found_value : (f : Found) (id : Text) (x : Option Text) → first_of id (rows_of f) ≡ x → x ≡ first_value f id
found_value f id x e = sym (first_value-rows f id ∙ e)

pub parts_found : (p : Parts) (f : Found) → length p.left ≤ 3 → HasParts p (rows_of f) → p ≡ parts_in f
parts_found p f short has =
    let fuel = found_value f (codes "fuel") p.fuel has.fuel_row.0 in
    let depth = found_value f (codes "depth") p.depth has.depth_row.0 in
    let order = found_value f (codes "order") p.order has.order_row.0 in
    let mode = found_value f (codes "mode") _ has.mode_row.0 in
    let first = found_value f (codes "first") _ has.first_row.0 in
    let second = found_value f (codes "second") _ has.second_row.0 in
    let left : p.left ≡ (parts_in f).left = all_left p.left short ∙ (λ i. left_of (mode i) (first i) (second i)) in
    λ i. record { fuel = fuel i; depth = depth i; order = order i; left = left i }
