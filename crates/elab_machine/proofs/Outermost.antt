-- The values of source variables that a call is given, inside no binder.
use Rattle.std.proofs.Common.{◌≡◌, ℕ, List, [], ◌∷◌, length, map, refl, sym, ap, ◌∙◌, arith}
use Rattle.std.specs.Prelude.{reverse}
use Rattle.std.specs.List.{AllByRecursion}
use Rattle.el_base.proofs.Lists.{map-reverse}
use Rattle.el_base.proofs.Throughout.{all-map}
use Rattle.core_rules.specs.Mapped.{solved_map}
use Rattle.core_rules.specs.Substitution.{shift}
use Rattle.core_rules.specs.Signature.{Solved}
use Rattle.core_rules.proofs.Substitution.Lifted.{shift_none}
use Rattle.term_pool.specs.Pool.{Pool, tree}
use Rattle.elab_machine.specs.Writer.{IsValue, AreValues, value_in, values_in}
use Rattle.elab_machine.specs.Written.{IsSource, outermost, source_values}

outermost-in : (p : Pool) (vs : List (Solved ℕ)) → map (value_in p 0) (map outermost vs) ≡ map (solved_map (tree p)) vs
outermost-in p [] = refl
outermost-in p (v ∷ vs) =
    let a = shift_none (tree p v.value) 0 in
    let b = shift_none (shift (tree p v.ty) 0 0) 0 ∙ shift_none (tree p v.ty) 0 in
    let rest = outermost-in p vs in
    cc (a, b, rest)

pub outermost-values : (p : Pool) (vs : List (Solved ℕ)) → values_in p 0 (map outermost vs) ≡ source_values p vs
outermost-values p vs = ap (map (value_in p 0)) (sym (map-reverse outermost vs)) ∙ outermost-in p (reverse vs)

pub outermost-within : (p : Pool) (vs : List (Solved ℕ)) → AllByRecursion (IsSource (length p.trees)) vs → AreValues p 0 (map outermost vs)
outermost-within p vs a = all-map (IsSource (length p.trees)) (IsValue p 0) outermost (λ v h. record { value = h.value; ty = h.ty; inside = omega arith; ty_inside = omega arith }) vs a
