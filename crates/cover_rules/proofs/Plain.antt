-- The patterns of a clause name constructors by their kind.
use Rattle.std.specs.Prelude.{◌≡◌, ℕ, List, ◌++◌, Option, Some, None, refl}
use Rattle.core_rules.specs.Term.{Term}
use Rattle.core_rules.specs.Signature.{Signature, CorePat, PatShape, CorePats, Pat, VarPat, SolvedPat, DottedPat, ConPat, AbsurdPat, ProjectionPat, NoPat, AndPat}
use Rattle.match_rules.specs.Matching.{Shapes, eta_family, con_shape, pat_shape, shape_of, pats_shapes, pat_dots}
use Rattle.cover_rules.specs.Ready as R
use Rattle.cover_rules.specs.Ready.{Plain, PlainAll}

con_plain : (g : Signature Term) (k : ℕ) (ps : Shapes) → PlainAll g ps → (o : Option ℕ) → eta_family g k ≡ o → Plain g (con_shape o k ps)
con_plain g k ps p None e = R.of_con e p
con_plain g k ps p (Some d) e = R.of_record p

mutual
  pat_plain : (g : Signature Term) (seen : List ℕ) (p : CorePat Term) → Plain g (pat_shape g seen p)
  pat_plain g seen (Pat p o b) = shape_plain g seen p

  shape_plain : (g : Signature Term) (seen : List ℕ) (p : PatShape Term) → Plain g (shape_of g seen p)
  shape_plain g seen (VarPat i) = R.any
  shape_plain g seen (SolvedPat t) = R.any
  shape_plain g seen (DottedPat t) = R.any
  shape_plain g seen (ConPat k ps) = con_plain g k (pats_shapes g seen ps) (pats_plain g seen ps) (eta_family g k) refl
  shape_plain g seen AbsurdPat = R.nothing
  shape_plain g seen (ProjectionPat f) = R.of_field

  pub pats_plain : (g : Signature Term) (seen : List ℕ) (ps : CorePats Term) → PlainAll g (pats_shapes g seen ps)
  pats_plain g seen NoPat = R.none
  pats_plain g seen (AndPat p ps) = R.more (pat_plain g seen p) (pats_plain g (pat_dots p ++ seen) ps)
