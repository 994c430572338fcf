-- Each turn of the loop leaves less to do.
use Rattle.std.specs.Prelude.{◌≡◌, ℕ, zero, suc, ◌+◌, ◌*◌, ◌<◌, ◌≤◌, ◌^◌, List, [], ◌∷◌, ◌++◌, length, map}
use Rattle.std.proofs.Common.{arith}
use Rattle.std.proofs.Math.Nat.{mul-le-mul_right}
use Rattle.conversion.specs.declared.arguments.Part.{Part}
use Rattle.conversion.specs.declared.pending.Work.{Work}
use Rattle.conversion.specs.Pending.{work_of, turns, weigh}

pub turns-pos : (d : ℕ) → 0 < turns d
unfolding turns
turns-pos zero = omega arith
turns-pos (suc d) = omega arith

pub weigh_append : (ws vs : List Work) → weigh (ws ++ vs) ≡ weigh ws + weigh vs
weigh_append [] vs = omega arith
weigh_append (w ∷ ws) vs = omega (arith, weigh_append ws vs)

pub weigh_parts : (n d : ℕ) (ps : List Part) → weigh (map (work_of n d) ps) ≡ length ps * turns d
weigh_parts n d [] = omega arith
weigh_parts n d (p ∷ ps) = grind (arith, weigh_parts n d ps)

pub fewer : (k d : ℕ) → k < 2 ^ 64 → k * turns d < turns (suc d)
unfolding turns
fewer k d h = let l : k ≤ 2 ^ 64 = omega arith in omega (arith, mul-le-mul_right (turns d) l)
