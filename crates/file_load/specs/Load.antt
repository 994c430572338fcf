-- The load of a text: what is said of it.
use Rattle.std.specs.Prelude.{◌≡◌, ◌≤◌, ◌<◌, ℕ, true, List, [], ◌∷◌, length, if◌then◌else◌, nat_lt, Some, None, Result, Ok, Err}
use Rattle.std.specs.Str.{chars, IsUtf8, IsValidUpTo}
use Rattle.el_outside.specs.declared.Pos.{Pos}
use Rattle.el_outside.specs.Place.{Place, after, pos, pos_of, start}
use Rattle.agda_lexer.specs.declared.Lexed.{Lexed}
use Rattle.agda_lexer.specs.declared.LexKind.{LexKind}
use Rattle.agda_lexer.specs.declared.LexKind.TheVariants as lexes
use Rattle.agda_lexer.specs.Tokens.{lex_of}
use Rattle.agda_layout.specs.declared.laid.Laid.{Laid}
use Rattle.agda_layout.specs.Blocks.{laid}
use Rattle.agda_grammar.specs.declared.error.ParseKind.{ParseKind}
use Rattle.agda_grammar.specs.declared.error.ParseKind.TheVariants as parses
use Rattle.agda_grammar.specs.declared.error.ParseError.{ParseError}
use Rattle.agda_grammar.specs.declared.error.ParseError.TheVariants.{Bad}
use Rattle.agda_grammar.specs.Declarations.{file_then, file_tree}
use Rattle.agda_grammar.specs.Reading.{Settles}
use Rattle.agda_parser.specs.Laid.{laid_signs}
use Rattle.source_tree.specs.declared.decl.Decl.{Decl}
use Rattle.source_tree.specs.declared.decl.File.{File}
use Rattle.scope_check.specs.declared.error.ScopeKind.{ScopeKind}
use Rattle.scope_check.specs.declared.error.ScopeKind.TheVariants as names
use Rattle.scope_check.specs.declared.error.ScopeError.TheVariants as scope
use Rattle.resolved_tree.specs.declared.resolved.Resolved.{Resolved}
use Rattle.scope_table.specs.Known.{Known, nothing_known}
use Rattle.scope_check.specs.Resolves.{Resolves}
use Rattle.core_rules.specs.Term.{Term}
use Rattle.core_rules.specs.Signature.{Signature}
use Rattle.core_rules.specs.Derivable.{Derivable}
use Rattle.session_text.specs.declared.error.LoadError.{LoadError}
use Rattle.session_text.specs.declared.error.LoadKind.{LoadKind}
use Rattle.session_text.specs.declared.error.LoadKind.TheVariants as kind
use Rattle.session_text.specs.declared.report.Report.{Report}
use Rattle.file_load.specs.Unbuilt.{in_file}
use Rattle.file_load.specs.Passes.{error_at}
use Rattle.file_load.specs.Lines.{DeclOf}

-- ---- errors

abbrev pub named_error : Pos → LoadKind → List ℕ → LoadError
named_error p k x = record { pos = p; kind = k; lines = x ∷ [] }

abbrev pub lex_kind : LexKind → LoadKind
lex_kind lexes.BadToken = kind.BadToken
lex_kind lexes.BadPragma = kind.BadPragma
lex_kind lexes.OpenComment = kind.OpenComment
lex_kind lexes.OpenHole = kind.OpenHole

abbrev pub parse_kind : ParseKind → LoadKind
parse_kind parses.Unexpected = kind.Unexpected
parse_kind parses.TooNested = kind.TooNested

abbrev pub scope_kind : ScopeKind → LoadKind
scope_kind names.NotInScope = kind.NotInScope
scope_kind names.Duplicate = kind.Duplicate
scope_kind names.NotAConstructor = kind.NotAConstructor
scope_kind names.Nonlinear = kind.Nonlinear
scope_kind names.Misplaced = kind.Misplaced

abbrev pub beginning : Pos
beginning = record { line = 1; col = 1 }

-- ---- the stages that read a text

-- the most bytes that a text may have
abbrev pub limit : ℕ
limit = 1048576

-- of the characters, the first of which stands at p, the first that does not begin before byte n; behind the last where there is none
abbrev pub reaches : ℕ → Place → List ℕ → Place
reaches n p [] = p
reaches n p (c ∷ cs) = if nat_lt p.at n then reaches n (after c p) cs else p

abbrev pub place_of_byte : List ℕ → ℕ → Pos
place_of_byte text n = pos (reaches n (start (chars text)).place (start (chars text)).chars)

-- the text is short enough, is UTF-8, and these are its tokens
pub record IsLexed (text : List ℕ) (l : Lexed) : Type 0 where
  pub short : length text ≤ limit
  pub utf8 : IsUtf8 text
  pub tokens : lex_of text ≡ Ok l

-- and these are its tokens and the signs of its blocks, which settle what the parser answers
pub record IsParsed (text : List ℕ) (answer : Result File ParseError) : Type 0 where
  pub lexed : Lexed
  pub lexes : IsLexed text lexed
  pub signs : List Laid
  pub lays : laid lexed.tokens ≡ Ok signs
  pub parses : Settles file_then (file_tree text) text (laid_signs lexed.tokens signs) answer

-- The stages up to the parse and Unsupported, in order: the file that the text is, or its first error.
pub data Reads (text : List ℕ) : Result File LoadError → Type 0 where
  too_long : limit < length text → Reads text (Err (error_at beginning kind.TextTooLong))
  not_utf8 : {n : ℕ} → length text ≤ limit → IsValidUpTo text n → Reads text (Err (error_at (pos_of text n) kind.NotUtf8))
  no_token : {p : Pos} {k : LexKind} → length text ≤ limit → IsUtf8 text → lex_of text ≡ Err (p, k) → Reads text (Err (error_at p (lex_kind k)))
  outside : {p : Pos} {l : Lexed} → IsLexed text l → laid l.tokens ≡ Err p → Reads text (Err (error_at p kind.Layout))
  no_file : {p : Pos} {k : ParseKind} → IsParsed text (Err (Bad p k)) → Reads text (Err (error_at p (parse_kind k)))
  unbuilt : {n : ℕ} {file : File} → IsParsed text (Ok file) → in_file file ≡ Some n → Reads text (Err (error_at (place_of_byte text n) kind.Unsupported))
  built : {file : File} → IsParsed text (Ok file) → in_file file ≡ None → Reads text (Ok file)

-- ---- the declarations, one after another

-- what is known after declarations and the signature of all, or the first error
abbrev pub Outcome : Type 0
Outcome = Result (Known × Signature Term) LoadError

-- with this fuel for each head form, and to this depth in each comparison
module _ (fuel depth : ℕ) where
  -- After k and the signature g: each declaration is resolved whole, and only then judged.
  pub data Declares : Known → Signature Term → List Decl → Outcome → Type 0 where
    none : {k : Known} {g : Signature Term} → Declares k g [] (Ok (k, g))
    unresolved : {k : Known} {g : Signature Term} {d : Decl} {ds : List Decl} {p : Pos} {j : ScopeKind} {x : List ℕ}
        → Resolves k d (Err (scope.Bad p j x)) → Declares k g (d ∷ ds) (Err (named_error p (scope_kind j) x))
    refused : {k m : Known} {g : Signature Term} {d : Decl} {ds : List Decl} {r : Resolved} {e : LoadError}
        → Resolves k d (Ok (r, m)) → DeclOf fuel depth g r (Err e) → Declares k g (d ∷ ds) (Err e)
    declared : {k m : Known} {g h : Signature Term} {d : Decl} {ds : List Decl} {r : Resolved} {result : Outcome}
        → Resolves k d (Ok (r, m)) → DeclOf fuel depth g r (Ok h) → Declares m h ds result → Declares k g (d ∷ ds) result

  abbrev pub DeclaresFile : File → Outcome → Type 0
  DeclaresFile file result = Declares nothing_known [] file.decls result

-- ---- the load

-- what is made of a text without an error: its report, the texts of the names by their numbers, and the signature
pub record Made : Type 0 where
  pub report : Report
  pub names : List (List ℕ)
  pub signature : Signature Term

-- what is said of a text: what is made of it, or its first error
abbrev pub Verdict : Type 0
Verdict = Result Made LoadError

-- the report of a text whose declarations, of which there are n, are accepted
abbrev pub complete_report : ℕ → Report
complete_report n = record { complete = true; declarations = n; inserted = 0; goals = []; unsolved = []; suspended = []; shadowed = [] }

module _ (fuel depth : ℕ) where
  -- the first error of the text
  pub data IsInError (text : List ℕ) (e : LoadError) : Type 0 where
    unread : Reads text (Err e) → IsInError text e
    undeclared : {file : File} → Reads text (Ok file) → DeclaresFile fuel depth file (Err e) → IsInError text e

  -- m is made of the declarations of a file
  pub record IsMade (file : File) (m : Made) : Type 0 where
    pub known : Known
    pub loads : DeclaresFile fuel depth file (Ok (known, m.signature))
    pub names : m.names ≡ known.names
    pub report : m.report ≡ complete_report (length m.signature)

  -- the text has no error, m is made of it, and the signature is derivable
  pub record IsLoaded (text : List ℕ) (m : Made) : Type 0 where
    pub file : File
    pub reads : Reads text (Ok file)
    pub made : IsMade file m
    pub derivable : Derivable m.signature

  abbrev pub HasVerdict : List ℕ → Verdict → Type 0
  HasVerdict text (Err e) = IsInError text e
  HasVerdict text (Ok m) = IsLoaded text m
