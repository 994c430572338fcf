-- The patterns of a constructor are smaller than its own.
use Rattle.std.specs.Prelude.{ℕ, ◌+◌, ◌≤◌, List, [], ◌∷◌}
use Rattle.std.proofs.Common.{arith}
use Rattle.core_rules.specs.Signature.{CorePat}
use Rattle.core_terms.specs.declared.pattern.CorePat.TheInside.{Inside}
use Rattle.core_terms.specs.declared.pattern.CorePat.TheDeep.{deep-CorePat, deep-PatShape}
use Rattle.core_terms.specs.declared.pattern.PatShape.{PatShape as CodeShape}
use Rattle.core_terms.specs.declared.pattern.PatShape.TheVariants as C
use denote.Param.Weighed.{most}
use Rattle.core_terms.specs.Sizes.{pat_size, shape_size, pats_size}
use Rattle.core_terms.specs.Patterns.{pats_of}
use Rattle.core_terms.specs.Pattern.{shape_of, pat_of}

most_le : (ps : List (CorePat ℕ)) → most (λ p. pat_size p + 1) ps ≤ pats_size (pats_of ps)
most_le [] = omega arith
most_le (p ∷ ps) = omega (arith, most_le ps)

shape_falls : (p : CodeShape) → deep-PatShape p ≤ shape_size (shape_of p)
shape_falls (C.Var i) = omega arith
shape_falls (C.Solved t) = omega arith
shape_falls (C.Dotted t) = omega arith
shape_falls (C.Con k ps) = omega (arith, most_le ps.items)
shape_falls C.Absurd = omega arith
shape_falls (C.Projection f) = omega arith

pub pat_falls : (p : Inside) → deep-CorePat p ≤ pat_size (pat_of p)
pat_falls p = omega (arith, shape_falls p.shape)
