-- What reads and writes of files do, where the files are told.
use Rattle.std.specs.Prelude.{◌≡◌, ◌≢◌, ℕ, ◌+◌, ◌≤◌, List, length, take, ⊤, None, Some, IsSomeAnd}
use Rattle.std.specs.declared.option.Option.{Option}
use Rattle.std.specs.Ordering.{nat_cmp}
use Rattle.std.specs.Cmp.Lexicographic.{slice_cmp}
use Rattle.std.specs.FinMap.{FinMap, get, insert}
use Rattle.el_outside.specs.declared.files.FileRead.{FileRead}
use Rattle.el_outside.specs.declared.files.FileRead.TheVariants.{Bytes, Missing, Failed, NoMemory}
use Rattle.el_outside.specs.declared.files.FileWrite.{FileWrite}
use Rattle.el_outside.specs.declared.files.FileWrite.TheVariants.{Done}

-- the bytes under each name, a name being its bytes
abbrev pub FileMap : Type 0
FileMap = FinMap (slice_cmp nat_cmp) (List ℕ)

-- a read from these files: the first bytes under the name, which is then there, and Missing only where it is not
abbrev pub Gives : Option FileMap → List ℕ → ℕ → FileRead → Type 0
Gives None name limit r = ⊤
Gives (Some m) name limit (Bytes bytes) = IsSomeAnd (get m name) (λ all. bytes ≡ take (limit + 1) all)
Gives (Some m) name limit Missing = get m name ≡ None
Gives (Some m) name limit Failed = ⊤
Gives (Some m) name limit NoMemory = ⊤

-- at most one byte more than the limit
abbrev pub IsWithin : ℕ → FileRead → Type 0
IsWithin limit (Bytes bytes) = length bytes ≤ limit + 1
IsWithin limit _ = ⊤

-- at every other name there is what was there
abbrev pub KeepsOthers : Option FileMap → Option FileMap → List ℕ → Type 0
KeepsOthers None new name = ⊤
KeepsOthers (Some m) new name = IsSomeAnd new (λ n. (other : List ℕ) → other ≢ name → get n other ≡ get m other)

-- a write: these bytes under the name where it is done, and anything there where it is not
abbrev pub Stores : Option FileMap → Option FileMap → List ℕ → List ℕ → FileWrite → Type 0
Stores None new name bytes r = ⊤
Stores (Some m) new name bytes Done = new ≡ Some (insert m name bytes)
Stores (Some m) new name bytes _ = KeepsOthers (Some m) new name
