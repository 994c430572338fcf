-- What a whole run is: a symbol, a reserved word, a level, a hole, an underscore or a name, or nothing.
use Rattle.std.specs.Prelude.{ℕ, ◌+◌, ◌-◌, ◌*◌, Bool, true, false, not, ◌||◌, ◌&&◌, if◌then◌else◌, ◌==◌, nat_lt, nat_le, List, [], ◌∷◌, length, take, drop, slice_index, Option, Some, None, Result, Ok, Err, codes}
use Rattle.std.specs.Str.{bytes_eq, chars}
use Rattle.std.specs.Char.{encode_utf8, is_ascii_digit, is_control}
use Rattle.std.specs.List.{list_all, list_any}
use Rattle.el_base.specs.Levels.{level_limit}
use Rattle.agda_lexer.specs.declared.token.Word.TheVariants as word
use Rattle.agda_lexer.specs.declared.token.Sym.TheVariants as symbol
use Rattle.agda_lexer.specs.declared.token.TokenKind.{TokenKind}
use Rattle.agda_lexer.specs.declared.token.TokenKind.TheVariants.{Name, Keyword, Symbol, SetLevel, Hole, Underscore}
use Rattle.agda_lexer.specs.declared.token.LexKind.{LexKind}
use Rattle.agda_lexer.specs.declared.token.LexKind.TheVariants.{BadToken}

-- A run is given by its bytes in UTF-8.

-- the runs that are symbols, `?`, `_`, and the reserved words: → λ \ ∀ are 0x2192, 0x3BB, 92 and 0x2200
abbrev pub fixed_runs : List (List ℕ × TokenKind)
fixed_runs =
    (codes ":", Symbol symbol.Colon)
    ∷ (codes "=", Symbol symbol.Equals)
    ∷ (encode_utf8 0x2192, Symbol symbol.Arrow)
    ∷ (codes "->", Symbol symbol.Arrow)
    ∷ (encode_utf8 0x3BB, Symbol symbol.Lambda)
    ∷ (encode_utf8 92, Symbol symbol.Lambda)
    ∷ (encode_utf8 0x2200, Symbol symbol.All)
    ∷ (codes "forall", Symbol symbol.All)
    ∷ (codes "|", Symbol symbol.Bar)
    ∷ (codes "?", Hole)
    ∷ (codes "_", Underscore)
    ∷ (codes "abstract", Keyword word.Abstract)
    ∷ (codes "coinductive", Keyword word.Coinductive)
    ∷ (codes "constructor", Keyword word.Constructor)
    ∷ (codes "data", Keyword word.Data)
    ∷ (codes "do", Keyword word.Do)
    ∷ (codes "eta-equality", Keyword word.EtaEquality)
    ∷ (codes "field", Keyword word.Field)
    ∷ (codes "hiding", Keyword word.Hiding)
    ∷ (codes "import", Keyword word.Import)
    ∷ (codes "in", Keyword word.In)
    ∷ (codes "inductive", Keyword word.Inductive)
    ∷ (codes "infix", Keyword word.Infix)
    ∷ (codes "infixl", Keyword word.Infixl)
    ∷ (codes "infixr", Keyword word.Infixr)
    ∷ (codes "instance", Keyword word.Instance)
    ∷ (codes "let", Keyword word.Let)
    ∷ (codes "macro", Keyword word.Macro)
    ∷ (codes "module", Keyword word.Module)
    ∷ (codes "mutual", Keyword word.Mutual)
    ∷ (codes "no-eta-equality", Keyword word.NoEtaEquality)
    ∷ (codes "open", Keyword word.Open)
    ∷ (codes "overlap", Keyword word.Overlap)
    ∷ (codes "pattern", Keyword word.Pattern)
    ∷ (codes "postulate", Keyword word.Postulate)
    ∷ (codes "primitive", Keyword word.Primitive)
    ∷ (codes "private", Keyword word.Private)
    ∷ (codes "Prop", Keyword word.Prop)
    ∷ (codes "public", Keyword word.Public)
    ∷ (codes "quote", Keyword word.Quote)
    ∷ (codes "record", Keyword word.Record)
    ∷ (codes "renaming", Keyword word.Renaming)
    ∷ (codes "rewrite", Keyword word.Rewrite)
    ∷ (codes "syntax", Keyword word.Syntax)
    ∷ (codes "unquote", Keyword word.Unquote)
    ∷ (codes "using", Keyword word.Using)
    ∷ (codes "variable", Keyword word.Variable)
    ∷ (codes "where", Keyword word.Where)
    ∷ (codes "with", Keyword word.With)
    ∷ []

abbrev pub lookup : List (List ℕ × TokenKind) → List ℕ → Option TokenKind
lookup [] run = None
lookup (k ∷ ks) run = if bytes_eq k.0 run then Some k.1 else lookup ks run

-- ---- levels

-- one of the ten digits from the character `base` on: 48 is 0, and 0x2080 is the subscript 0
abbrev pub is_digit : ℕ → ℕ → Bool
is_digit base c = nat_le base c && nat_lt c (base + 10)

-- no leading zero, but in 0 itself
abbrev pub is_short : ℕ → List ℕ → Bool
is_short base [] = false
is_short base (c ∷ cs) = not (c == base) || length cs == 0

abbrev pub is_number : ℕ → List ℕ → Bool
is_number base cs = is_short base cs && list_all (is_digit base) cs

-- the number with the digits of n in front
abbrev pub number_from : ℕ → ℕ → List ℕ → ℕ
number_from base n [] = n
number_from base n (c ∷ cs) = number_from base (10 * n + (c - base)) cs

-- the level that the characters behind `Set` write
abbrev pub level : List ℕ → Option ℕ
level cs =
    if length cs == 0 then Some 0
    else (if is_number 48 cs then Some (number_from 48 0 cs)
    else (if is_number 0x2080 cs then Some (number_from 0x2080 0 cs) else None))

abbrev pub set_level : List ℕ → Option ℕ
set_level run = if bytes_eq (codes "Set") (take 3 run) then level (chars (drop 3 run)) else None

-- ---- names

-- _, a control character, U+2983 or U+2984
abbrev pub is_unnameable : ℕ → Bool
is_unnameable c = c == 95 || is_control c || c == 0x2983 || c == 0x2984

-- a run that is all digits, begins with ' or holds a character that no name holds
abbrev pub is_refused : List ℕ → Bool
is_refused run = list_all is_ascii_digit run || slice_index run 0 == 39 || list_any is_unnameable (chars run)

-- ---- all runs

abbrev pub or_name : List ℕ → Option ℕ → Result TokenKind LexKind
or_name run (Some n) = if nat_lt level_limit n then Err BadToken else Ok (SetLevel n)
or_name run None = if is_refused run then Err BadToken else Ok Name

abbrev pub or_level : List ℕ → Option TokenKind → Result TokenKind LexKind
or_level run (Some kind) = Ok kind
or_level run None = or_name run (set_level run)

unfoldable pub run_kind : List ℕ → Result TokenKind LexKind
run_kind run = or_level run (lookup fixed_runs run)

-- whether it is a name
abbrev pub is_name_kind : Result TokenKind LexKind → Bool
is_name_kind (Ok Name) = true
is_name_kind _ = false
