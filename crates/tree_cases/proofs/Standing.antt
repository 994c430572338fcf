-- The ids of a signature stay in a pool that grows, and so do those of a signature that a declaration is added to.
use Rattle.std.specs.Prelude.{◌≡◌, ℕ, ◌<◌, ◌≤◌, [], ◌∷◌, ◌++◌, length, take, Some, Result, Ok, Err, OnOk, refl}
use Rattle.std.proofs.Common.{ap, sym, subst, arith}
use Rattle.core_rules.specs.Signature.{Decl, Postulate, Family, Open, Function, Signature, def_decl, defs}
use Rattle.core_rules.specs.Mapped.{AllDecl}
use Rattle.term_pool.specs.Pool.{Pool, Extends}
use Rattle.core_terms.specs.Signature.{Stands}
use Rattle.core_terms.proofs.Mapped.{AllDecls-weaker}
use Rattle.core_terms.proofs.SignatureGrowth.{Stands-extends}

pub stands_longer : (p q : Pool) (g : Signature ℕ) → length p.trees ≤ length q.trees → Stands p g → Stands q g
stands_longer p q g l s = AllDecls-weaker (λ t. t < length p.trees) (λ t. t < length q.trees) (λ t k. omega (arith, l, k)) g s

stands_push : (p : Pool) (g : Signature ℕ) (d : Decl ℕ) → Stands p g → AllDecl (λ i. i < length p.trees) d → Stands p (g ++ d ∷ [])
stands_push p [] d s h = (h, tt)
stands_push p (e ∷ g) d s h = (s.0, stands_push p g d s.1 h)

-- after a declaration was added
pub stands_added : (p q : Pool) (g h : Signature ℕ) (d : Decl ℕ) → Extends p q → h ≡ g ++ d ∷ [] → Stands p g → AllDecl (λ i. i < length p.trees) d → Stands q h
stands_added p q g h d e a s w = subst (Stands q) (sym a) (Stands-extends p q (g ++ d ∷ []) e (stands_push p g d s w))

-- after a signature is as it was
pub stands_same : (p q : Pool) (g h : Signature ℕ) → Extends p q → h ≡ g → Stands p g → Stands q h
stands_same p q g h e a s = subst (Stands q) (sym a) (Stands-extends p q g e s)

-- where the last declaration is forgotten
pub cut_back : (g : Signature ℕ) (d : Decl ℕ) → take (length g) (g ++ d ∷ []) ≡ g
cut_back [] d = refl
cut_back (e ∷ g) d = ap (λ (h : Signature ℕ). e ∷ h) (cut_back g d)

-- the function that stands last
pub last_def : (g : Signature ℕ) (x a : ℕ) → def_decl (g ++ Open x a ∷ []) (length (defs g)) ≡ Some (Open x a)
last_def [] x a = refl
last_def (Postulate y b ∷ g) x a = last_def g x a
last_def (Family d ∷ g) x a = last_def g x a
last_def (Open y b ∷ g) x a = last_def g x a
last_def (Function y b qs T ∷ g) x a = last_def g x a

-- what holds anyway holds where an answer came
pub always : {A E : Type 0} (r : Result A E) (P : Type 0) → P → OnOk r P
always (Ok a) P p = p
always (Err e) P p = tt
