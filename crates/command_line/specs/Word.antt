-- What a word is, where options may stand.
use Rattle.std.specs.Prelude.{◌==◌, ℕ, Bool, false, List, [], ◌∷◌, Option, Some, None, codes, is_some, if◌then◌else◌}
use Rattle.std.specs.List.{position, before_first, after_first}
use Rattle.std.specs.Str.{bytes_eq}
use Rattle.command_line.specs.declared.limit.Limit.{Limit}
use Rattle.command_line.specs.declared.word.Kind.{Kind as TheKind}
use Rattle.command_line.specs.declared.word.Kind.TheVariants as kind
use Rattle.command_line.specs.Limit.{limit_named}

-- the end of the options; an option, whose value is the next word or stands behind its `=`; a word
-- that is left; a word that no command line has
pub data Kind : Type 0 where
  ends : Kind
  takes : Limit → Kind
  gives : Limit → List ℕ → Kind
  plain : Kind
  refused : Kind

-- the word begins with `-` and is longer
abbrev pub is_option : List ℕ → Bool
is_option [] = false
is_option (b ∷ []) = false
is_option (b ∷ c ∷ rest) = b == 45

abbrev pub is_equals : ℕ → Bool
is_equals b = b == 61

abbrev pub has_equals : List ℕ → Bool
has_equals word = is_some (position is_equals word)

abbrev pub apart : Option Limit → Kind
apart None = refused
apart (Some limit) = takes limit

abbrev pub joined : Option Limit → List ℕ → Kind
joined None text = refused
joined (Some limit) text = gives limit text

-- `--NAME` or `--NAME=VALUE`
abbrev pub option_kind : List ℕ → Kind
option_kind word = if has_equals word then joined (limit_named (before_first is_equals word)) (after_first is_equals word)
    else apart (limit_named word)

abbrev pub kind_of : List ℕ → Kind
kind_of word = if bytes_eq word (codes "--") then ends else (if is_option word then option_kind word else plain)

-- the same, of the type of the program
abbrev pub kind_now : TheKind → Kind
kind_now kind.Ends = ends
kind_now (kind.Takes limit) = takes limit
kind_now (kind.Gives limit text) = gives limit text.now
kind_now kind.Plain = plain
kind_now kind.Refused = refused
