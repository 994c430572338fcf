-- The nesting of a sign: how many pairs of parentheses, pairs of braces, bodies of `λ` and right sides of arrows it stands in.
-- A parenthesis or a brace does not stand in its own pair. The count stands still above the limit.
use Rattle.std.specs.Prelude.{ℕ, ◌+◌, if◌then◌else◌, List, [], ◌∷◌, nat_lt}
use Rattle.parse_laws.specs.Nesting as count
use Rattle.agda_grammar.specs.declared.sign.Kind.{Kind}
use Rattle.agda_grammar.specs.declared.sign.Kind.TheVariants as k
use Rattle.agda_grammar.specs.declared.sign.Sign.{Sign}

abbrev pub limit : ℕ
limit = 200

abbrev pub rise : ℕ → ℕ
rise n = if nat_lt limit n then n else n + 1

-- the nesting of a sign that comes next, if it closes nothing; and those of the brackets around it, the innermost first
pub record Depth : Type 0 where
  pub now : ℕ
  pub outer : List ℕ

abbrev pub origin : Depth
origin = record { now = 0; outer = [] }

abbrev pub innermost : List ℕ → ℕ
innermost [] = 0
innermost (n ∷ ns) = n

abbrev pub without : List ℕ → List ℕ
without [] = []
without (n ∷ ns) = ns

-- behind `;` the right sides before it are over, and the braces are not
abbrev pub between : List ℕ → ℕ
between [] = 0
between (n ∷ ns) = rise n

abbrev pub nesting : Depth → Kind → ℕ
nesting d k.ParenClose = innermost d.outer
nesting d k.BraceClose = innermost d.outer
nesting d k.Semicolon = between d.outer
nesting d k.Where = 0
nesting d k.BlockOpen = 0
nesting d k.BlockNext = 0
nesting d k.BlockClose = 0
nesting d _ = d.now

abbrev pub behind : Depth → Kind → Depth
behind d k.ParenOpen = record { now = rise d.now; outer = d.now ∷ d.outer }
behind d k.BraceOpen = record { now = rise d.now; outer = d.now ∷ d.outer }
behind d k.ParenClose = record { now = innermost d.outer; outer = without d.outer }
behind d k.BraceClose = record { now = innermost d.outer; outer = without d.outer }
behind d k.Arrow = record { now = rise d.now; outer = d.outer }
behind d k.Semicolon = record { now = between d.outer; outer = d.outer }
behind d k.Where = origin
behind d k.BlockOpen = origin
behind d k.BlockNext = origin
behind d k.BlockClose = origin
behind d _ = d

-- the nesting of each sign of a list
abbrev pub nestings : Depth → List Sign → List ℕ
nestings = count.nestings (λ d s. nesting d s.kind) (λ d s. behind d s.kind)

-- how many signs stand before the first whose nesting is above the limit
abbrev pub shallow : Depth → List Sign → ℕ
shallow = count.shallow (λ d s. nesting d s.kind) (λ d s. behind d s.kind) limit

-- how many numbers come before the first above the limit
abbrev pub leading : List ℕ → ℕ
leading = count.leading limit
