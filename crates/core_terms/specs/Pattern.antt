-- What a pattern in code is to the rules.
use Rattle.std.specs.Prelude.{ℕ}
use Rattle.core_rules.specs.Signature.{CorePat, PatShape, Pat, VarPat, SolvedPat, DottedPat, ConPat, AbsurdPat, ProjectionPat, Origin, Written, Variable, Underscore, Inserted, Braces, Without, Plain, Named}
use Rattle.core_terms.specs.declared.pattern.CorePat.TheInside.{Inside}
use Rattle.core_terms.specs.declared.pattern.PatShape.{PatShape as CodeShape}
use Rattle.core_terms.specs.declared.pattern.PatShape.TheVariants as C
use Rattle.core_terms.specs.declared.pattern.Origin.{Origin as CodeOrigin}
use Rattle.core_terms.specs.declared.pattern.Origin.TheVariants as O
use Rattle.core_terms.specs.declared.pattern.Braces.{Braces as CodeBraces}
use Rattle.core_terms.specs.declared.pattern.Braces.TheVariants as B
use Rattle.core_terms.specs.Patterns.{pats_of}

abbrev pub origin_of : CodeOrigin → Origin
origin_of O.Written = Written
origin_of (O.Variable x fresh) = Variable x fresh
origin_of O.Underscore = Underscore
origin_of O.Inserted = Inserted

abbrev pub braces_of : CodeBraces → Braces
braces_of B.Without = Without
braces_of B.Plain = Plain
braces_of (B.Named x) = Named x

abbrev pub shape_of : CodeShape → PatShape ℕ
shape_of (C.Var i) = VarPat i
shape_of (C.Solved t) = SolvedPat t
shape_of (C.Dotted t) = DottedPat t
shape_of (C.Con k ps) = ConPat k (pats_of ps.items)
shape_of C.Absurd = AbsurdPat
shape_of (C.Projection f) = ProjectionPat f

abbrev pub pat_of : Inside → CorePat ℕ
pat_of p = Pat (shape_of p.shape) (origin_of p.origin) (braces_of p.braces)
