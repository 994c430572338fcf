-- What is seen of the signs that are left, how one is taken, and what a function that reads has done.
use Rattle.std.specs.Prelude.{◌≡◌, ◌≢◌, ℕ, Bool, true, false, ◌&&◌, if◌then◌else◌, [], ◌∷◌, Option, Some, None, Result, Ok, Err}
use denote.Enum.Bare.{sameb}
use Rattle.agda_grammar.specs.contracts.sign.Kind.{the_type}
use Rattle.agda_grammar.specs.Signs.{Input}
use Rattle.agda_grammar.specs.declared.sign.Kind.{Kind}
use Rattle.agda_grammar.specs.declared.sign.Kind.TheVariants as k
use Rattle.agda_grammar.specs.declared.sign.Mark.{Mark}
use Rattle.agda_grammar.specs.declared.sign.Sign.{Sign}
use Rattle.expr_parser.specs.declared.stop.Stop.{Stop}
use Rattle.expr_parser.specs.declared.stop.Stop.TheVariants.{Unexpected, NoMemory}
use Rattle.parse_laws.specs.Parser.{Outcome, Parser, one, next_is}

-- `==` on kinds
unfoldable pub same_kind : Kind → Kind → Bool
same_kind = sameb the_type

abbrev pub is : Kind → Sign → Bool
is kind s = same_kind s.kind kind

abbrev pub sees : Kind → Input → Bool
sees kind = next_is (is kind)

abbrev pub mark_of : Kind → Sign → Option Mark
mark_of kind s = if same_kind s.kind kind then Some s.mark else None

-- the mark of the next sign, where it is of the kind
unfoldable pub expect : Kind → Parser Sign Mark
expect kind = one (mark_of kind)

-- an atom that is not in parentheses begins so
unfoldable pub begins_atom : Kind → Bool
begins_atom k.Name = true
begins_atom k.Qualified = true
begins_atom k.SetLevel = true
begins_atom k.Hole = true
begins_atom k.Underscore = true
begins_atom k.Record = true
begins_atom _ = false

abbrev pub sees_atom : Input → Bool
sees_atom = next_is (λ s. begins_atom s.kind)

-- names and then a colon
unfoldable pub names_colon : Input → Bool
names_colon [] = false
names_colon (s ∷ i) = if same_kind s.kind k.Name then names_colon i else same_kind s.kind k.Colon

-- one name or more and then a colon: what follows the bracket of a typed binder
unfoldable pub colon_follows : Input → Bool
colon_follows [] = false
colon_follows (s ∷ i) = same_kind s.kind k.Name && names_colon i

-- a name and `=`: what follows the brace of a named argument
abbrev pub equals_follows : Input → Bool
equals_follows [] = false
equals_follows (s ∷ []) = false
equals_follows (s ∷ t ∷ i) = same_kind s.kind k.Name && same_kind t.kind k.Equals

-- ---- what a function that reads has done

abbrev pub left_of : Stop → ℕ
left_of (Unexpected n) = n
left_of NoMemory = 0

-- the outcome is this result, with these signs left, unless memory ran out
abbrev pub Reads : {A : Type 0} → Outcome Sign A → Result A Stop → Input → Type 0
Reads o (Ok a) rest = o ≡ Ok (a, rest)
Reads o (Err e) rest = e ≢ NoMemory → o ≡ Err (left_of e)

-- the same of a function that reads all that is left
abbrev pub Answers : {A : Type 0} → Outcome Sign A → Result A Stop → Type 0
Answers o (Ok a) = o ≡ Ok (a, [])
Answers o (Err (Unexpected n)) = o ≡ Err n
Answers o (Err NoMemory) = Unit {0}

-- something was read, and nothing is left
abbrev pub Checked : {A : Type 0} → Outcome Sign A → Type 0
Checked {A = A} o = (a : A) × (o ≡ Ok (a, []))

abbrev pub Checks : {A : Type 0} → Outcome Sign A → Result (Unit {0}) Stop → Type 0
Checks o (Ok u) = Checked o
Checks o (Err (Unexpected n)) = o ≡ Err n
Checks o (Err NoMemory) = Unit {0}
