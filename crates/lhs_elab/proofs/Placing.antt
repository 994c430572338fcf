-- The types of spots, in code and in the rules.
use Rattle.std.proofs.Common.{sym, ◌≡◌, ◌<◌, ℕ, zero, suc, [], ◌∷◌, ◌-◌, List, length, subst, arith}
use Rattle.std.specs.Prelude.{get_or, Result, Ok, Err, IfOk}
use Rattle.core_rules.specs.Substitution.{shift}
use Rattle.core_rules.specs.Signature.{Entry}
use Rattle.core_rules.specs.Mapped.{AllEntries}
use Rattle.term_pool.specs.Pool.{Pool, StandsFor, tree}
use Rattle.index_unify.specs.Unified.{context_in}
use Rattle.lhs_rules.specs.Spots.{type_at}
use Rattle.lhs_elab.specs.declared.left.Placed.{Placed as CodePlaced}
use Rattle.lhs_elab.specs.declared.left.Spot.{Spot as CodeSpot}
use Rattle.lhs_elab.specs.declared.left.Spot.TheVariants as S
use Rattle.lhs_elab.specs.Lefts.{spot_in, SpotBelow}
use Rattle.lhs_elab.proofs.Contexts.{own-type, context-length}

entry-below : (p : Pool) (es : List (Entry ℕ)) (i : ℕ) (e : Entry ℕ) → AllEntries (λ i. i < length p.trees) es → i < length es → e ≡ get_or es i e → e.ty < length p.trees
entry-below p [] i e a l h = absurd (omega (arith, l))
entry-below p (x ∷ es) zero e a l h = subst (λ (y : Entry ℕ). y.ty < length p.trees) (sym h) a.0
entry-below p (x ∷ es) (suc i) e a l h = entry-below p es i e a.1 (omega (arith, l)) h

pub var-type : (p : Pool) (es : List (Entry ℕ)) (s : CodeSpot) (i : ℕ) (e : Entry ℕ) → s ≡ S.Var i → AllEntries (λ i. i < length p.trees) es → SpotBelow (length p.trees) (length es) s
    → e ≡ get_or es i e → StandsFor p e.ty (type_at (context_in p es) (spot_in (tree p) s))
var-type p es s i e is a b at =
    let l : i < length es = subst (SpotBelow (length p.trees) (length es)) is b in
    subst (λ (s : CodeSpot). StandsFor p e.ty (type_at (context_in p es) (spot_in (tree p) s))) (sym is) (record {
      within = entry-below p es i e a l at;
      is = sym (own-type p es i e l at);
    })

pub value-type : {E : Type 0} (p q : Pool) (es : List (Entry ℕ)) (s : CodeSpot) (v : CodePlaced) (by : ℕ) → s ≡ S.Value v → by ≡ length es - v.outer
    → (r : Result ℕ E) → IfOk r (λ t. StandsFor q t (shift (tree p v.ty) 0 by)) → IfOk r (λ t. StandsFor q t (type_at (context_in p es) (spot_in (tree p) s)))
value-type p q es s v by is n (Ok t) h =
    let m : by ≡ length (context_in p es) - v.outer = omega (arith, n, context-length p es) in
    subst (λ (s : CodeSpot). StandsFor q t (type_at (context_in p es) (spot_in (tree p) s))) (sym is) (subst (λ (n : ℕ). StandsFor q t (shift (tree p v.ty) 0 n)) m h)
value-type p q es s v by is n (Err e) h = h
