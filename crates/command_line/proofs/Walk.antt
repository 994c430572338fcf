-- What clap makes of words that the rule takes.
use Rattle.std.proofs.Common.{◌≡◌, ◌∙◌, ◌<◌, ◌≤◌, ◌+◌, ◌&&◌, ◌||◌, ℕ, suc, min, Bool, true, false, cond, List, [], ◌∷◌, ◌++◌, length, length-append, Option, Some, None, refl, sym, ap, subst, arith, codes, not}
use Rattle.std.specs.Prelude.{is_some, option_map, option_and_then}
use Rattle.std.specs.List.{fold}
use Rattle.clap.specs.Lexer.{usize_max}
use Rattle.clap.specs.Walk.{Held, Row, Rule, Text, Walk, arg_by_id, arg_by_index, default_rows, has_row, idle, is_pending, nothing_held, option, settled, to_positional, used, walk, walk_from, walked, reading_by, with_default}
use Rattle.clap.specs.Simple.{matches_of}
use Rattle.clap.specs.Takes.{takes as takes_words, level_passes, settle_passes, turn_passes, use_passes, walk_passes}
use Rattle.clap.proofs.TakesLemmas.{leaf_takes}
use Rattle.clap.proofs.OnLiterals.{clap_on_literals}
use Rattle.command_line.specs.declared.limit.Limit.{Limit}
use Rattle.command_line.specs.declared.limit.Limit.TheVariants.{Fuel, Depth, Order}
use Rattle.command_line.specs.declared.rule.Next.{Next}
use Rattle.command_line.specs.declared.rule.Next.TheVariants.{Word, Value, Left}
use Rattle.command_line.specs.Command.{app}
use Rattle.command_line.specs.Limit.{is_value}
use Rattle.command_line.specs.Rule.{Parts, after_kind, after_word, given, nothing, read, with_given, with_left, with_value}
use Rattle.command_line.specs.Word.{Kind, ends, gives, kind_of, plain, refused, takes}
use Rattle.command_line.proofs.Numerals.{both}
use Rattle.command_line.proofs.Built.{HasParts, given_used, left_used, limit_id, option_at, place_free, place_rule, rules, shape, word_at, word_id}
use Rattle.command_line.proofs.Parts.{grows, same_parts}
use Rattle.command_line.proofs.WordKinds.{IsOfKind, IsPlain, flag, is_of_kind, is_plain, value_is_plain}

-- ---- where the walk stands between two words

-- what is held fits the parts: a use that is pending passes, and leads to their rows
pub record Sound (p : Parts) (h : Held) : Type 0 where
  pub passes : settle_passes rules false h ≡ true
  pub rows : HasParts p (settled rules h).rows

abbrev pub place : Parts → ℕ
place p = suc (length p.left)

abbrev pub standing : Held → Bool → ℕ → Walk
standing h is_trailing n = record { held = h; waiting = idle; position = n; is_trailing = is_trailing; stopped = None }

-- an option waits for its value
abbrev pub waiting : Limit → List Row → ℕ → ℕ → Walk
waiting limit rows skip n = record {
  held = record { rows = rows; pending = Some (limit_id limit, []); skip = skip };
  waiting = option (limit_id limit);
  position = n;
  is_trailing = false;
  stopped = None;
}

abbrev pub State : Next → Parts → Walk → Type 0
State Word p w = (h : Held) × (w ≡ standing h false (place p)) × Sound p h
State Left p w = (h : Held) × (w ≡ standing h true (place p)) × Sound p h
State (Value limit) p w = (rows : List Row) × (skip : ℕ) × (w ≡ waiting limit rows skip (place p)) × HasParts p rows

abbrev pub Reached : Option (Next × Parts) → Walk → Text → Type 0
Reached None w word = Unit {0}
Reached (Some s) w word = length s.1.left ≤ 3 → (turn_passes shape [] w word ≡ true) × State s.0 s.1 (walked rules [] w word)

-- ---- a word that is left

by_index : (left : List Text) → length left < 3 → arg_by_index rules (suc (length left)) ≡ Some (place_rule left)
by_index [] short = refl
by_index (a ∷ []) short = refl
by_index (a ∷ b ∷ []) short = refl
by_index (a ∷ b ∷ c ∷ more) short = absurd (omega arith)

by_id : (left : List Text) → length left < 3 → arg_by_id rules (word_id (length left)) ≡ Some (place_rule left)
by_id [] short = refl
by_id (a ∷ []) short = refl
by_id (a ∷ b ∷ []) short = refl
by_id (a ∷ b ∷ c ∷ more) short = absurd (omega arith)

next_place : (left : List Text) (w : Text) → length left < 3 → min (suc (length left) + 1) usize_max ≡ suc (length (left ++ w ∷ []))
next_place [] w short = refl
next_place (a ∷ []) w short = refl
next_place (a ∷ b ∷ []) w short = refl
next_place (a ∷ b ∷ c ∷ more) w short = absurd (omega arith)

and_false : (b : Bool) → (b && false) ≡ false
and_false true = refl
and_false false = refl

or_false : (b : Bool) → (b || false) ≡ b
or_false true = refl
or_false false = refl

or_true : (a b : Bool) → b ≡ true → (a || b) ≡ true
or_true true b e = refl
or_true false b e = e

-- the word is what is pending
abbrev taken : List Text → Text → Held → Held
taken left w h = record { rows = (settled rules h).rows; pending = Some (word_id (length left), w ∷ []); skip = h.skip }

to_place : (left : List Text) (t : Bool) (w : Text) (h : Held) → length left < 3
    → to_positional rules (arg_by_index rules (suc (length left))) w (standing h t (suc (length left))) h
    ≡ standing (taken left w h) t (suc (length (left ++ w ∷ [])))
to_place left t w h short =
    rw (by_index left short, and_false (is_pending (place_rule left) h.pending), next_place left w short, or_false t) refl

taken_sound : (p : Parts) (w : Text) (h : Held) → length p.left < 3 → Sound p h → Sound (with_left w p) (taken p.left w h)
taken_sound p w h short sound =
    let free : has_row (word_id (length p.left)) (settled rules h).rows ≡ false =
    place_free p.fuel p.depth p.order p.left (settled rules h).rows sound.rows short in
    record {
      passes = rw (by_id p.left short, free) refl;
      rows = rw (by_id p.left short) (left_used w p.fuel p.depth p.order p.left (settled rules h).rows sound.rows short);
    }

-- after `--` a word is left
trailing_word : (p : Parts) (w : Text) (h : Held) → Sound p h → Reached (Some (Left, with_left w p)) (standing h true (place p)) w
unfolding clap_on_literals
trailing_word p w h sound fits =
    let short : length p.left < 3 = omega (arith, length-append p.left (w ∷ [])) in (
      rw (by_index p.left short)
          (or_true (is_pending (place_rule p.left) h.pending && false) (settle_passes rules false h) sound.passes),
      (taken p.left w h, to_place p.left true w h short, taken_sound p w h short sound),
    )

plain_word : (p : Parts) (w : Text) (h : Held) → IsPlain w → Sound p h → Reached (Some (Word, with_left w p)) (standing h false (place p)) w
unfolding clap_on_literals
plain_word p w h is sound fits =
    let short : length p.left < 3 = omega (arith, length-append p.left (w ∷ [])) in (
      rw (is.not_end, is.no_long, is.no_short, by_index p.left short)
          (or_true (is_pending (place_rule p.left) h.pending && false) (settle_passes rules false h) sound.passes),
      (taken p.left w h, rw (is.not_end, is.no_long, is.no_short) (to_place p.left false w h short), taken_sound p w h short sound),
    )

-- ---- options

end_word : (p : Parts) (h : Held) → Sound p h → Reached (Some (Left, p)) (standing h false (place p)) (codes "--")
unfolding clap_on_literals
end_word p h sound fits = (refl, (h, refl, sound))

use_free : (id : Text) (v : Text) (rows : List Row) → has_row id rows ≡ false → use_passes false (option_at id) (v ∷ []) rows ≡ true
use_free id v rows free = rw free refl

limit_free : (limit : Limit) (p : Parts) (rows : List Row) → HasParts p rows → is_some (given limit p) ≡ false
    → has_row (limit_id limit) rows ≡ false
limit_free Fuel p rows h none = h.fuel_row.1 ∙ none
limit_free Depth p rows h none = h.depth_row.1 ∙ none
limit_free Order p rows h none = h.order_row.1 ∙ none

same_left : (limit : Limit) (v : Text) (p : Parts) → place (with_given limit v p) ≡ place p
same_left Fuel v p = refl
same_left Depth v p = refl
same_left Order v p = refl

apart_word : (limit : Limit) (p : Parts) (h : Held) → Sound p h → Reached (Some (Value limit, p)) (standing h false (place p)) (flag limit)
unfolding clap_on_literals
apart_word Fuel p h sound fits = (rw (sound.passes) refl, ((settled rules h).rows, h.skip, refl, sound.rows))
apart_word Depth p h sound fits = (rw (sound.passes) refl, ((settled rules h).rows, h.skip, refl, sound.rows))
apart_word Order p h sound fits = (rw (sound.passes) refl, ((settled rules h).rows, h.skip, refl, sound.rows))

abbrev given_held : Limit → Text → Held → Held
given_held limit v h = record { rows = used (option_at (limit_id limit)) (v ∷ []) (settled rules h).rows; pending = None; skip = h.skip }

given_sound : (limit : Limit) (v : Text) (p : Parts) (h : Held) → Sound p h → is_some (given limit p) ≡ false
    → Sound (with_given limit v p) (given_held limit v h)
given_sound limit v p h sound none = record { passes = refl; rows = given_used limit v p (settled rules h).rows sound.rows none }

joined_word : (limit : Limit) (v : Text) (p : Parts) (h : Held) → Sound p h → is_some (given limit p) ≡ false
    → Reached (Some (Word, with_given limit v p)) (standing h false (place p)) (flag limit ++ (61 ∷ v))
unfolding clap_on_literals
joined_word Fuel v p h sound none fits =
    let free : has_row (codes "fuel") (settled rules h).rows ≡ false = limit_free Fuel p _ sound.rows none in
    (rw (sound.passes, free) refl, (given_held Fuel v h, refl, given_sound Fuel v p h sound none))
joined_word Depth v p h sound none fits =
    let free : has_row (codes "depth") (settled rules h).rows ≡ false = limit_free Depth p _ sound.rows none in
    (rw (sound.passes, free) refl, (given_held Depth v h, refl, given_sound Depth v p h sound none))
joined_word Order v p h sound none fits =
    let free : has_row (codes "order") (settled rules h).rows ≡ false = limit_free Order p _ sound.rows none in
    (rw (sound.passes, free) refl, (given_held Order v h, refl, given_sound Order v p h sound none))

-- the value of an option, in a word of its own
abbrev waited : Limit → Text → List Row → ℕ → Held
waited limit v rows skip = record { rows = rows; pending = Some (limit_id limit, v ∷ []); skip = skip }

value_word : (limit : Limit) (v : Text) (p : Parts) (rows : List Row) (skip : ℕ) → IsPlain v → HasParts p rows
    → is_some (given limit p) ≡ false
    → Reached (Some (Word, with_given limit v p)) (waiting limit rows skip (place p)) v
unfolding clap_on_literals
value_word Fuel v p rows skip is has none fits = (
  rw (is.not_end, is.no_long, is.no_short) refl,
  (
    waited Fuel v rows skip,
    rw (is.not_end, is.no_long, is.no_short) refl,
    record { passes = use_free (codes "fuel") v rows (limit_free Fuel p rows has none); rows = given_used Fuel v p rows has none },
  ),
)
value_word Depth v p rows skip is has none fits = (
  rw (is.not_end, is.no_long, is.no_short) refl,
  (
    waited Depth v rows skip,
    rw (is.not_end, is.no_long, is.no_short) refl,
    record { passes = use_free (codes "depth") v rows (limit_free Depth p rows has none); rows = given_used Depth v p rows has none },
  ),
)
value_word Order v p rows skip is has none fits = (
  rw (is.not_end, is.no_long, is.no_short) refl,
  (
    waited Order v rows skip,
    rw (is.not_end, is.no_long, is.no_short) refl,
    record { passes = use_free (codes "order") v rows (limit_free Order p rows has none); rows = given_used Order v p rows has none },
  ),
)

-- ---- one word

with_limit : (limit : Limit) (v word : Text) (p : Parts) (w : Walk)
    → (is_some (given limit p) ≡ false → is_value limit v ≡ true → Reached (Some (Word, with_given limit v p)) w word)
    → Reached (option_map (λ q. (Word, q)) (with_value limit v p)) w word
with_limit limit v word p w reached = go (not (is_some (given limit p)) && is_value limit v) refl
  where
    free : (b : Bool) → not b ≡ true → b ≡ false
    free true e = cc
    free false e = refl

    go : (b : Bool) → (not (is_some (given limit p)) && is_value limit v) ≡ b
        → Reached (option_map (λ q. (Word, q)) (cond b (Some (with_given limit v p)) None)) w word
    go true e =
        let parts : (not (is_some (given limit p)) ≡ true) × (is_value limit v ≡ true) = both _ _ e in
        reached (free _ parts.0) parts.1
    go false e = tt

reached_at : (o : Option (Next × Parts)) (w : Walk) (word other : Text) → word ≡ other → Reached o w other → Reached o w word
reached_at o w word other e h = subst (Reached o w) (sym e) h

kind_word : (kind : Kind) (word : Text) (p : Parts) (h : Held) → IsOfKind kind word → Sound p h
    → Reached (after_kind kind word p) (standing h false (place p)) word
kind_word ends word p h is sound = reached_at (Some (Left, p)) (standing h false (place p)) word (codes "--") is (end_word p h sound)
kind_word (takes limit) word p h is sound =
    reached_at (Some (Value limit, p)) (standing h false (place p)) word (flag limit) is (apart_word limit p h sound)
kind_word (gives limit v) word p h is sound =
    with_limit limit v word p (standing h false (place p))
    (λ none _. reached_at (Some (Word, with_given limit v p)) (standing h false (place p)) word (flag limit ++ (61 ∷ v)) is
    (joined_word limit v p h sound none))
kind_word plain word p h is sound = plain_word p word h (is_plain word is) sound
kind_word refused word p h is sound = tt

one_word : (next : Next) (word : Text) (p : Parts) (w : Walk) → State next p w → Reached (after_word next word p) w word
one_word Word word p w (h, is, sound) =
    subst (λ (v : Walk). Reached (after_word Word word p) v word) (sym is) (kind_word (kind_of word) word p h (is_of_kind word) sound)
one_word Left word p w (h, is, sound) =
    subst (λ (v : Walk). Reached (after_word Left word p) v word) (sym is) (trailing_word p word h sound)
one_word (Value limit) word p w (rows, skip, is, has) =
    subst (λ (v : Walk). Reached (after_word (Value limit) word p) v word) (sym is)
    (with_limit limit word word p (waiting limit rows skip (place p))
    (λ none takes. value_word limit word p rows skip (is_plain word (value_is_plain limit word takes)) has none))

-- ---- all words

abbrev Walked : List Text → Parts → Walk → Type 0
Walked words q w = (walk_passes shape [] w words ≡ true) × Sound q (fold (walked rules []) w words).held

sound_at : (p q : Parts) (w : Walk) (h : Held) (t : Bool) → w ≡ standing h t (place p) → Sound p h → p ≡ q → Sound q w.held
sound_at p q w h t is sound same =
    subst (λ (r : Parts). Sound r w.held) same (subst (λ (k : Held). Sound p k) (sym (ap (λ (v : Walk). v.held) is)) sound)

-- the walk passes over all the words, and ends where what is held fits the parts
pub walk_reads : (words : List Text) (next : Next) (p q : Parts) (w : Walk) → State next p w → read words next p ≡ Some q
    → length q.left ≤ 3 → Walked words q w
unfolding clap_on_literals
walk_reads [] Word p q w (h, is, sound) e short = (refl, sound_at p q w h false is sound (same_parts p q e))
walk_reads [] (Value limit) p q w state e short = cc
walk_reads [] Left p q w (h, is, sound) e short = (refl, sound_at p q w h true is sound (same_parts p q e))
walk_reads (word ∷ rest) next p q w state e short =
    go (after_word next word p) (one_word next word p w state)
    (λ s after is. walk_reads rest s.0 s.1 q (walked rules [] w word) after is short) e
  where
    go : (o : Option (Next × Parts)) → Reached o w word
        → ((s : Next × Parts) → State s.0 s.1 (walked rules [] w word) → read rest s.0 s.1 ≡ Some q
        → Walked rest q (walked rules [] w word))
        → option_and_then (λ s. read rest s.0 s.1) o ≡ Some q → Walked (word ∷ rest) q w
    go None reached more e = cc
    go (Some s) reached more e =
        let fits : length s.1.left ≤ 3 = omega (arith, grows rest s.0 s.1 q e) in
        let here : (turn_passes shape [] w word ≡ true) × State s.0 s.1 (walked rules [] w word) = reached fits in
        let after : Walked rest q (walked rules [] w word) = more s here.1 e in
        (rw (here.0) after.0, after.1)

-- ---- the whole parse

with_none : (rows : List Row) (a : Rule) → a.defaults ≡ [] → with_default rows a ≡ rows
with_none rows a none = go (has_row a.id rows)
  where
    go : (b : Bool) → cond b rows (default_rows a.id (reading_by a) a.defaults rows) ≡ rows
    go true = refl
    go false = rw none refl

-- no argument has a default
no_defaults : (rows : List Row) → fold with_default rows rules ≡ rows
no_defaults rows =
    with_none _ (word_at (codes "second") 3) refl ∙ with_none _ (word_at (codes "first") 2) refl
    ∙ with_none _ (word_at (codes "mode") 1) refl
    ∙ with_none _ (option_at (codes "order")) refl ∙ with_none _ (option_at (codes "depth")) refl
    ∙ with_none rows (option_at (codes "fuel")) refl

begins : State Word nothing (walk_from nothing_held)
begins = (
  nothing_held,
  refl,
  record {
    passes = refl;
    rows = record {
      fuel_row = (refl, refl);
      depth_row = (refl, refl);
      order_row = (refl, refl);
      mode_row = (refl, refl);
      first_row = (refl, refl);
      second_row = (refl, refl);
    };
  },
)

pub parse_takes : (words : List Text) (q : Parts) → read words Word nothing ≡ Some q → length q.left ≤ 3 → takes_words app words ≡ true
parse_takes words q e short =
    let end = walk_reads words Word nothing q (walk_from nothing_held) begins e short in
    let level : level_passes shape [] nothing_held words false ≡ true = rw (end.0, end.1.passes) refl in
    leaf_takes (record { top = shape; subs = [] }) nothing_held words refl level

pub parse_reads : (words : List Text) (q : Parts) → read words Word nothing ≡ Some q → length q.left ≤ 3 → HasParts q (matches_of app words)
parse_reads words q e short =
    let end = walk_reads words Word nothing q (walk_from nothing_held) begins e short in
    subst (HasParts q) (sym (no_defaults (settled rules (walk rules [] nothing_held words).held).rows)) end.1.rows
