use Rattle.std.proofs.Common.{◌≡◌, ◌≤◌, ◌-◌, [], ◌∷◌, List, length, take, drop, get_or, refl, arith}
use Rattle.std.specs.Prelude.{Bool, false}
use Rattle.conversion.proofs.Slices.{unrolled}
use Rattle.lhs_elab.proofs.constructors.first_flag.Goals as goal

first-of : (xs : List Bool) → 1 ≤ length xs → xs ≡ get_or xs 0 false ∷ take (length xs - 1) (drop 1 xs)
first-of [] l = absurd (omega (arith, l))
first-of (x ∷ xs) l = unrolled (x ∷ xs) x l refl

pub returns : goal.returns
returns c = first-of c.args.flags.now c.requires
