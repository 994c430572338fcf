-- What is so of the layout of every list of tokens.
use Rattle.std.specs.Prelude.{◌≡◌, ℕ, zero, suc, ◌+◌, not, ◌&&◌, if◌then◌else◌, ◌==◌, nat_lt, List, [], ◌∷◌, length, drop, Option, Some, None, Result, Ok, Err}
use Rattle.el_outside.specs.declared.Pos.{Pos}
use Rattle.agda_lexer.specs.declared.Token.{Token}
use Rattle.agda_layout.specs.declared.laid.Laid.{Laid}
use Rattle.agda_layout.specs.declared.laid.Laid.TheVariants.{Tok, Open, Next, Close}
use Rattle.agda_layout.specs.declared.header.Header.{Header}
use Rattle.agda_layout.specs.declared.header.Header.TheVariants.{Absent, Whole, Broken}
use Rattle.agda_layout.specs.Headers.{header_of}
use Rattle.agda_layout.specs.Blocks.{laid}

-- ---- tokens

-- the numbers of the tokens that are laid
abbrev pub numbers : List Laid → List ℕ
numbers [] = []
numbers (Tok i ∷ ls) = i ∷ numbers ls
numbers (Open pos ∷ ls) = numbers ls
numbers (Next pos ∷ ls) = numbers ls
numbers (Close pos ∷ ls) = numbers ls

-- n numbers from i on
abbrev pub count : ℕ → ℕ → List ℕ
count i zero = []
count i (suc n) = i ∷ count (i + 1) n

abbrev pub KeepsTokens : List Token → Result (List Laid) Pos → Type 0
KeepsTokens ts (Ok ls) = numbers ls ≡ count 0 (length ts)
KeepsTokens ts (Err pos) = Unit {0}

-- ---- blocks

-- how many blocks are open behind the signs, of which n were open before; there is none where one ends that is not open
abbrev pub depth_after : ℕ → List Laid → Option ℕ
depth_after n [] = Some n
depth_after n (Tok i ∷ ls) = depth_after n ls
depth_after n (Open pos ∷ ls) = depth_after (suc n) ls
depth_after n (Next pos ∷ ls) = depth_after n ls
depth_after zero (Close pos ∷ ls) = None
depth_after (suc n) (Close pos ∷ ls) = depth_after n ls

-- each block that begins ends, and none ends that did not begin
abbrev pub IsBalanced : Result (List Laid) Pos → Type 0
IsBalanced (Ok ls) = depth_after 0 ls ≡ Some 0
IsBalanced (Err pos) = Unit {0}

-- ---- lines outside

-- the first token that begins a line left of the column; the token before these stands on the line `line`
abbrev pub left_of : ℕ → ℕ → List Token → Option Pos
left_of col line [] = None
left_of col line (t ∷ ts) = if not (t.pos.line == line) && nat_lt t.pos.col col then Some t.pos else left_of col t.pos.line ts

-- the file's block begins in the column of its first token
abbrev pub outside_of : List Token → Option Pos
outside_of [] = None
outside_of (t ∷ ts) = left_of t.pos.col t.pos.line ts

-- the tokens of the file's block
abbrev pub block_tokens : Header → List Token → List Token
block_tokens Absent ts = ts
block_tokens Whole ts = drop 3 ts
block_tokens Broken ts = []

abbrev pub refusal : Result (List Laid) Pos → Option Pos
refusal (Ok ls) = None
refusal (Err pos) = Some pos

-- the refusal is the first line that begins left of the file's block
abbrev pub IsRefusedOutside : List Token → Type 0
IsRefusedOutside ts = refusal (laid ts) ≡ outside_of (block_tokens (header_of ts) ts)
