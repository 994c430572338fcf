-- Trees and refusals, node by node.
use Rattle.std.specs.Prelude.{◌≢◌, ℕ, ◌≤◌, [], ◌∷◌, refl}
use Rattle.std.proofs.Common.{arith}
use Rattle.core_rules.specs.declared.Flag.TheVariants.{Explicit, Implicit}
use Rattle.core_rules.specs.Term.{Var, Con, Fam, Pi, End, And}
use Rattle.core_rules.specs.Addition.{nat_type, suc_term}
use Rattle.core_rules.specs.VectorHead.{vector, first_type}
use Rattle.core_rules.specs.Heads as H
use Rattle.core_rules.specs.Heads.{Form, Within}
use Rattle.core_rules.specs.Elimination.{Arg}
use Rattle.cover_rules.specs.Looking as L
use Rattle.cover_rules.specs.CoverOf as V
use Rattle.cover_rules.specs.Example.{SuccessorMissed, FirstCovered}

zero_le : 0 ≤ 0
zero_le = omega arith

one_not : ◌≢◌ {A = ℕ} 1 0
one_not e = omega (arith, e)

pub missed : SuccessorMissed
missed =
    V.cover (V.one L.end V.none) (V.argument (Within (Form (Pi Explicit 0 nat_type nat_type) []) 0) (H.form tt, zero_le)) (V.takes
    (V.cover (V.one (L.arg_halts (L.of_con (Within (Form (Var 0) []) 0) refl (H.form tt, zero_le) (L.no_con (L.Variable 0) L.variable))) V.none)
    (V.split (Within (Form (Fam 0) []) 0) (H.form tt, zero_le)) (V.splits
    (V.on_con refl refl (V.goes
    (V.cover (V.one (L.arg (L.of_con (Within (Form (Con 0 End) []) 0) refl (H.form refl, zero_le) (L.same refl L.end)) L.end) V.none) (V.right refl) V.ends)
    (V.on_con refl refl (V.not_built
    (V.cover (V.one (L.arg_halts (L.of_con (Within (Form (Con 1 End) (Arg Explicit (Var 0) ∷ [])) 0) refl (H.argument (H.form refl), zero_le) (L.another one_not refl))) V.none) V.no_clause V.fails))))))))

pub first : FirstCovered
first =
    V.cover (V.one L.end V.none) (V.argument (Within (Form first_type []) 0) (H.form tt, zero_le)) (V.takes
    (V.cover (V.one (L.arg L.any L.end) V.none) (V.argument (Within (Form (Pi Explicit 1 (vector (suc_term (Var 0))) nat_type) []) 0) (H.form tt, zero_le)) (V.takes
    (V.cover (V.one (L.arg L.any (L.arg_halts (L.of_con (Within (Form (Var 0) []) 0) refl (H.form tt, zero_le) (L.no_con (L.Variable 0) L.variable)))) V.none)
    (V.split (Within (Form (Fam 1) (Arg Explicit nat_type ∷ Arg Explicit (suc_term (Var 0)) ∷ [])) 0) (H.argument (H.argument (H.form tt)), zero_le)) (V.splits
    (V.on_con refl refl (V.refuted
    (V.on_con refl refl (V.goes
    (V.cover (V.one (L.arg L.any (L.arg (L.of_con (Within (Form (Con 3 (And nat_type End)) (Arg Implicit (Var 2) ∷ Arg Explicit (Var 1) ∷ Arg Explicit (Var 0) ∷ [])) 0) refl (H.argument (H.argument (H.argument (H.form refl))), zero_le)
    (L.same refl (L.arg L.any (L.arg L.any (L.arg L.any L.end))))) L.end)) V.none) (V.right refl) V.ends)
    V.no_con)))))))))
