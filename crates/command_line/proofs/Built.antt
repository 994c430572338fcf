-- The command as clap builds it, and the rows of the parts of words.
use Rattle.std.proofs.Common.{◌≡◌, ◌∙◌, ◌<◌, ℕ, zero, suc, true, false, List, [], ◌∷◌, ◌++◌, length, Option, Some, None, refl, sym, subst, arith, codes}
use Rattle.std.specs.Prelude.{is_some, slice_get}
use Rattle.clap.specs.declared.builder.action.ArgAction.TheVariants.{Set}
use Rattle.clap.specs.declared.builder.value_parser.ValueParser.TheVariants as vp
use Rattle.clap.specs.Values.{reading_of}
use Rattle.clap.specs.Walk.{Row, Rule, Text, has_row, used}
use Rattle.clap.specs.Simple.{Shape, built, new_rule, new_shape}
use Rattle.command_line.specs.declared.limit.Limit.{Limit}
use Rattle.command_line.specs.declared.limit.Limit.TheVariants.{Fuel, Depth, Order}
use Rattle.command_line.specs.Command.{app}
use Rattle.command_line.specs.Rule.{Parts, given, with_given}
use Rattle.command_line.proofs.Rows.{Has, has_here, has_other, used_new}

-- ---- the command, built

abbrev pub filled : Rule → Rule
filled a = record a { action = Some Set; range = Some (record { start_inclusive = 1; end_inclusive = 1 }); parser = Some vp.String }

abbrev pub option_at : Text → Rule
option_at id = filled (record (new_rule id) { long = Some id })

abbrev pub word_at : Text → ℕ → Rule
word_at id i = filled (record (new_rule id) { index = Some i })

abbrev pub rules : List Rule
rules = option_at (codes "fuel") ∷ option_at (codes "depth") ∷ option_at (codes "order")
    ∷ word_at (codes "mode") 1 ∷ word_at (codes "first") 2 ∷ word_at (codes "second") 3 ∷ []

abbrev pub shape : Shape
shape = record (new_shape (codes "elab_cli")) {
  rules = rules;
  no_binary_name = true;
  disable_help_flag = true;
  disable_help_subcommand = true;
  is_built = true;
}

pub is_built : built app ≡ record { top = shape; subs = [] }
is_built = refl

abbrev pub limit_id : Limit → Text
limit_id Fuel = codes "fuel"
limit_id Depth = codes "depth"
limit_id Order = codes "order"

-- ---- the rows

pub record HasRows (fuel depth order : Option Text) (left : List Text) (rows : List Row) : Type 0 where
  pub fuel_row : Has (codes "fuel") fuel rows
  pub depth_row : Has (codes "depth") depth rows
  pub order_row : Has (codes "order") order rows
  pub mode_row : Has (codes "mode") (slice_get left 0) rows
  pub first_row : Has (codes "first") (slice_get left 1) rows
  pub second_row : Has (codes "second") (slice_get left 2) rows

abbrev pub HasParts : Parts → List Row → Type 0
HasParts p rows = HasRows p.fuel p.depth p.order p.left rows

none_is : (x : Option Text) → is_some x ≡ false → x ≡ None
none_is None e = refl
none_is (Some t) e = cc

abbrev pub has_none : (id : Text) (x : Option Text) (rows : List Row) → Has id x rows → is_some x ≡ false → has_row id rows ≡ false
has_none id x rows has none = has.1 ∙ none

pub given_used : (limit : Limit) (v : Text) (p : Parts) (rows : List Row) → HasParts p rows → is_some (given limit p) ≡ false
    → HasParts (with_given limit v p) (used (option_at (limit_id limit)) (v ∷ []) rows)
given_used Fuel v p rows h none =
    let free = has_none (codes "fuel") p.fuel rows h.fuel_row none in
    subst (HasParts (with_given Fuel v p)) (sym (used_new (codes "fuel") (reading_of vp.String) v rows free)) record {
      fuel_row = has_here (codes "fuel") (reading_of vp.String) v rows refl free;
      depth_row = has_other _ _ _ v _ rows refl h.depth_row;
      order_row = has_other _ _ _ v _ rows refl h.order_row;
      mode_row = has_other _ _ _ v _ rows refl h.mode_row;
      first_row = has_other _ _ _ v _ rows refl h.first_row;
      second_row = has_other _ _ _ v _ rows refl h.second_row;
    }
given_used Depth v p rows h none =
    let free = has_none (codes "depth") p.depth rows h.depth_row none in
    subst (HasParts (with_given Depth v p)) (sym (used_new (codes "depth") (reading_of vp.String) v rows free)) record {
      fuel_row = has_other _ _ _ v _ rows refl h.fuel_row;
      depth_row = has_here (codes "depth") (reading_of vp.String) v rows refl free;
      order_row = has_other _ _ _ v _ rows refl h.order_row;
      mode_row = has_other _ _ _ v _ rows refl h.mode_row;
      first_row = has_other _ _ _ v _ rows refl h.first_row;
      second_row = has_other _ _ _ v _ rows refl h.second_row;
    }
given_used Order v p rows h none =
    let free = has_none (codes "order") p.order rows h.order_row none in
    subst (HasParts (with_given Order v p)) (sym (used_new (codes "order") (reading_of vp.String) v rows free)) record {
      fuel_row = has_other _ _ _ v _ rows refl h.fuel_row;
      depth_row = has_other _ _ _ v _ rows refl h.depth_row;
      order_row = has_here (codes "order") (reading_of vp.String) v rows refl free;
      mode_row = has_other _ _ _ v _ rows refl h.mode_row;
      first_row = has_other _ _ _ v _ rows refl h.first_row;
      second_row = has_other _ _ _ v _ rows refl h.second_row;
    }

-- the id of a word that is left, by how many stand before it
abbrev pub word_id : ℕ → Text
word_id zero = codes "mode"
word_id (suc zero) = codes "first"
word_id (suc (suc n)) = codes "second"

abbrev pub place_rule : List Text → Rule
place_rule left = word_at (word_id (length left)) (suc (length left))

pub place_free : (fuel depth order : Option Text) (left : List Text) (rows : List Row) → HasRows fuel depth order left rows
    → length left < 3
    → has_row (word_id (length left)) rows ≡ false
place_free fuel depth order [] rows h short = h.mode_row.1
place_free fuel depth order (a ∷ []) rows h short = h.first_row.1
place_free fuel depth order (a ∷ b ∷ []) rows h short = h.second_row.1
place_free fuel depth order (a ∷ b ∷ c ∷ more) rows h short = absurd (omega arith)

pub left_used : (w : Text) (fuel depth order : Option Text) (left : List Text) (rows : List Row) → HasRows fuel depth order left rows
    → length left < 3
    → HasRows fuel depth order (left ++ w ∷ []) (used (place_rule left) (w ∷ []) rows)
left_used w fuel depth order [] rows h short =
    let free = h.mode_row.1 in
    subst (HasRows fuel depth order (w ∷ [])) (sym (used_new (codes "mode") (reading_of vp.String) w rows free)) record {
      fuel_row = has_other _ _ _ w _ rows refl h.fuel_row;
      depth_row = has_other _ _ _ w _ rows refl h.depth_row;
      order_row = has_other _ _ _ w _ rows refl h.order_row;
      mode_row = has_here (codes "mode") (reading_of vp.String) w rows refl free;
      first_row = has_other _ _ _ w _ rows refl h.first_row;
      second_row = has_other _ _ _ w _ rows refl h.second_row;
    }
left_used w fuel depth order (a ∷ []) rows h short =
    let free = h.first_row.1 in
    subst (HasRows fuel depth order (a ∷ w ∷ [])) (sym (used_new (codes "first") (reading_of vp.String) w rows free)) record {
      fuel_row = has_other _ _ _ w _ rows refl h.fuel_row;
      depth_row = has_other _ _ _ w _ rows refl h.depth_row;
      order_row = has_other _ _ _ w _ rows refl h.order_row;
      mode_row = has_other _ _ _ w _ rows refl h.mode_row;
      first_row = has_here (codes "first") (reading_of vp.String) w rows refl free;
      second_row = has_other _ _ _ w _ rows refl h.second_row;
    }
left_used w fuel depth order (a ∷ b ∷ []) rows h short =
    let free = h.second_row.1 in
    subst (HasRows fuel depth order (a ∷ b ∷ w ∷ [])) (sym (used_new (codes "second") (reading_of vp.String) w rows free)) record {
      fuel_row = has_other _ _ _ w _ rows refl h.fuel_row;
      depth_row = has_other _ _ _ w _ rows refl h.depth_row;
      order_row = has_other _ _ _ w _ rows refl h.order_row;
      mode_row = has_other _ _ _ w _ rows refl h.mode_row;
      first_row = has_other _ _ _ w _ rows refl h.first_row;
      second_row = has_here (codes "second") (reading_of vp.String) w rows refl free;
    }
left_used w fuel depth order (a ∷ b ∷ c ∷ more) rows h short = absurd (omega arith)
