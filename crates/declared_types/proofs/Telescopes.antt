-- Function types over the last entries of a telescope.
use Rattle.std.proofs.Common.{◌≡◌, ◌<◌, ℕ, zero, suc, List, [], ◌∷◌, length, drop, refl, ap, ◌∙◌, arith}
use Rattle.std.specs.Prelude.{slice_get, Some}
use Rattle.core_rules.specs.Term.{Term, Pi, Sort}
use Rattle.core_rules.specs.Signature.{Entry}
use Rattle.core_rules.specs.Mapped.{AllEntries, telescope_map}
use Rattle.core_rules.specs.Elimination.{pi_over}
use Rattle.term_pool.specs.Pool.{Pool, Extends, tree}
use Rattle.declared_types.proofs.Grown.{telescope-stays}

-- no entry
pub over_none : (f : ℕ → Term) (es : List (Entry ℕ)) (t : Term) → t ≡ pi_over (telescope_map f (drop (length es) es)) t
over_none f [] t = refl
over_none f (e ∷ es) t = over_none f es t

-- one entry more
pub over_more : (f : ℕ → Term) (es : List (Entry ℕ)) (i : ℕ) (e : Entry ℕ) (t : Term) → slice_get es i ≡ Some e → Pi e.flag e.name (f e.ty) (pi_over (telescope_map f (drop (suc i) es)) t) ≡ pi_over (telescope_map f (drop i es)) t
over_more f [] i e t s = absurd cc
over_more f (x ∷ es) zero e t s = let same : e ≡ x = cc s in ap (λ (y : Entry ℕ). Pi y.flag y.name (f y.ty) (pi_over (telescope_map f es) t)) same
over_more f (x ∷ es) (suc i) e t s = over_more f es i e t s

pub entry_within : (n : ℕ) (es : List (Entry ℕ)) (i : ℕ) (e : Entry ℕ) → AllEntries (λ t. t < n) es → slice_get es i ≡ Some e → e.ty < n
entry_within n [] i e a s = absurd cc
entry_within n (x ∷ es) zero e a s = let same : x.ty ≡ e.ty = cc s in omega (arith, a.0, same)
entry_within n (x ∷ es) (suc i) e a s = entry_within n es i e a.1 s

-- the type of a family, put together from its end
pub put_together : (p q r : Pool) (ps is : List (Entry ℕ)) (l sort indexed : ℕ) → Extends p q → Extends p r → AllEntries (λ t. t < length p.trees) ps → AllEntries (λ t. t < length p.trees) is
    → tree q sort ≡ Sort l → tree r indexed ≡ pi_over (telescope_map (tree q) is) (tree q sort)
    → pi_over (telescope_map (tree r) ps) (tree r indexed) ≡ pi_over (telescope_map (tree p) ps) (pi_over (telescope_map (tree p) is) (Sort l))
put_together p q r ps is l sort indexed h k a b e i =
    ap (λ xs. pi_over xs (tree r indexed)) (telescope-stays p r ps k a)
    ∙ ap (pi_over (telescope_map (tree p) ps)) (i ∙ (ap (λ xs. pi_over xs (tree q sort)) (telescope-stays p q is h b) ∙ ap (pi_over (telescope_map (tree p) is)) e))
