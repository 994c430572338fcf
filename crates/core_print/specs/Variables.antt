-- The variables that the patterns of a clause write.
use Rattle.std.specs.Prelude.{ℕ, Bool, false, ◌||◌, nat_eq, List, [], ◌∷◌, ◌++◌, Option, Some, None}
use Rattle.core_rules.specs.Signature.{Origin, Written, Variable, Underscore, Inserted, CorePat, PatShape, CorePats, Pat, VarPat, SolvedPat, DottedPat, ConPat, AbsurdPat, ProjectionPat, NoPat, AndPat}

-- which variable of the context it is, where it is not solved; its name, and whether that is new, so that no clause has it
pub record WrittenVar : Type 0 where
  pub place : Option ℕ
  pub name : ℕ
  pub fresh : Bool

abbrev pub by_origin : Option ℕ → Origin → List WrittenVar
by_origin i Written = []
by_origin i (Variable x new) = record { place = i; name = x; fresh = new } ∷ []
by_origin i Underscore = []
by_origin i Inserted = []

module _ {A : Type 0} where
  abbrev pub place_of : PatShape A → Option ℕ
  place_of (VarPat i) = Some i
  place_of (SolvedPat t) = None
  place_of (DottedPat t) = None
  place_of (ConPat k ps) = None
  place_of AbsurdPat = None
  place_of (ProjectionPat f) = None

  -- from left to right
  abbrev mutual
    pub variables : CorePat A → List WrittenVar
    variables (Pat q o b) = by_origin (place_of q) o ++ variables_inside q

    pub variables_inside : PatShape A → List WrittenVar
    variables_inside (VarPat i) = []
    variables_inside (SolvedPat t) = []
    variables_inside (DottedPat t) = []
    variables_inside (ConPat k ps) = variables_all ps
    variables_inside AbsurdPat = []
    variables_inside (ProjectionPat f) = []

    pub variables_all : CorePats A → List WrittenVar
    variables_all NoPat = []
    variables_all (AndPat p ps) = variables p ++ variables_all ps

abbrev pub is_at : Option ℕ → ℕ → Bool
is_at None i = false
is_at (Some j) i = nat_eq j i

-- whether one of them is variable i of the context
abbrev pub binds : List WrittenVar → ℕ → Bool
binds [] i = false
binds (v ∷ vs) i = is_at v.place i || binds vs i
