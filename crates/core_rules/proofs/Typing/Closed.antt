-- A change leaves a term without variables as it is, and so the declared types of a signature in scope.
use Rattle.std.specs.Prelude.{◌≡◌, ℕ, ◌+◌, [], ◌∷◌, length, take, slice_get, Option, Some, None, option_and_then, refl, suc}
use Rattle.std.proofs.Common.{ap, subst, arith, add-zero, add_assoc}
use Rattle.core_rules.specs.Term.{Term, Terms, Var, Sort, Pi, Lam, App, Def, Fam, Con, Proj, Meta, End, And}
use Rattle.core_rules.specs.Substitution.{over, over_all}
use Rattle.core_rules.specs.Signature.{Telescope, Signature, Decl, Postulate, Family, Open, Function, FamDecl, defs, decl_type, def_type, fam_decl}
use Rattle.core_rules.specs.Elimination.{pi_over, fam_type}
use Rattle.core_rules.specs.InScope.{InScope, AllInScope, TelescopeInScope, DeclInScope, FamilyInScope, SignatureInScope, any_meta, FamiliesHaveShape}
use Rattle.core_rules.specs.Laws.{IsLifted}
use Rattle.core_rules.proofs.Signature.Places.{def_stands, fam_stands}
use Rattle.core_rules.proofs.Substitution.Lifted.{own_variable}

module _ (f : ℕ → ℕ → Term) (l : IsLifted f) (g : Signature Term) (M : ℕ → ℕ → Type 0) (d : ℕ) where
  next : (k : ℕ) (t : Term) → over f (d + (k + 1)) t ≡ t → over f (d + k + 1) t ≡ t
  next k t h = simp add_assoc h

  mutual
    pub over-closed : (k : ℕ) (t : Term) → InScope g M k t → over f (d + k) t ≡ t
    over-closed k (Var i) h = own_variable f l k d i h
    over-closed k (Sort n) h = refl
    over-closed k (Pi b x a t) h = cc (over-closed k a h.0, next k t (over-closed (k + 1) t h.1))
    over-closed k (Lam b x a t) h = cc (over-closed k a h.0, next k t (over-closed (k + 1) t h.1))
    over-closed k (App b t u) h = cc (over-closed k t h.0, over-closed k u h.1)
    over-closed k (Def n) h = refl
    over-closed k (Fam n) h = refl
    over-closed k (Con n ts) h = ap (Con n) (over_all-closed k ts h.1)
    over-closed k (Proj n t) h = ap (Proj n) (over-closed k t h.1)
    over-closed k (Meta m ts) h = ap (Meta m) (over_all-closed k ts h.1)

    pub over_all-closed : (k : ℕ) (ts : Terms) → AllInScope g M k ts → over_all f (d + k) ts ≡ ts
    over_all-closed k End h = refl
    over_all-closed k (And t ts) h = cc (over-closed k t h.0, over_all-closed k ts h.1)

module _ (g : Signature Term) (M : ℕ → ℕ → Type 0) where
  pub pi_over-in_scope : (n : ℕ) (es : Telescope Term) (t : Term) → TelescopeInScope g M n es → InScope g M (n + length es) t → InScope g M n (pi_over es t)
  pi_over-in_scope n [] t h k = rw add-zero at k
  pi_over-in_scope n (e ∷ es) t h k = (h.0, pi_over-in_scope (n + 1) es t h.1 (let p : n + suc (length es) ≡ n + 1 + length es = omega arith in rw p at k))

  pub family-in_scope : (d : FamDecl Term) → FamilyInScope g M d → InScope g M 0 (fam_type d)
  family-in_scope d h = pi_over-in_scope 0 d.params (pi_over d.indices (Sort d.level)) h.params
      (pi_over-in_scope (0 + length d.params) d.indices (Sort d.level) (let p : 0 + length d.params ≡ length d.params = omega arith in rw p h.indices) tt)

-- a term without variables, over some signature
pub record IsClosed (M : ℕ → ℕ → Type 0) (a : Term) : Type 0 where
  pub signature : Signature Term
  pub holds : InScope signature M 0 a

pub closed-over : (f : ℕ → ℕ → Term) (l : IsLifted f) (M : ℕ → ℕ → Type 0) (d : ℕ) (a : Term) → IsClosed M a → over f d a ≡ a
closed-over f l M d a h = rw add-zero at (over-closed f l h.signature M d 0 a h.holds)

some_type : {a b : Term} → Some a ≡ Some b → a ≡ b
some_type e = cc e

module _ (M : ℕ → ℕ → Type 0) where
  pub scoped_type : (h : Signature Term) (d : Decl Term) (a : Term) → decl_type d ≡ Some a → DeclInScope h M d → InScope h M 0 a
  scoped_type h (Postulate x b) a e s = subst (InScope h M 0) (some_type e) s
  scoped_type h (Family d) a e s = absurd cc
  scoped_type h (Open x b) a e s = subst (InScope h M 0) (some_type e) s
  scoped_type h (Function x b qs T) a e s = subst (InScope h M 0) (some_type e) s.0

  module _ (g : Signature Term) (s : SignatureInScope g M) where
    closed_by : (k : ℕ) (o : Option (Decl Term)) (a : Term) → slice_get (defs g) k ≡ o → option_and_then decl_type o ≡ Some a → IsClosed M a
    closed_by k None a h e = absurd cc
    closed_by k (Some d) a h e = let p = def_stands g k d h in record { signature = take p.place g; holds = scoped_type (take p.place g) d a e (s p.place d p.is) }

    pub def-closed : (k : ℕ) (a : Term) → def_type g k ≡ Some a → IsClosed M a
    def-closed k a e = closed_by k (slice_get (defs g) k) a refl e

    pub fam-closed : (k : ℕ) (d : FamDecl Term) → fam_decl g k ≡ Some d → IsClosed M (fam_type d)
    fam-closed k d e = let p = fam_stands g k d e in record { signature = take p.place g; holds = family-in_scope (take p.place g) M d (s p.place (Family d) p.is) }

pub have-shape : (g : Signature Term) → SignatureInScope g any_meta → FamiliesHaveShape g
have-shape g s d decl e = let p = fam_stands g d decl e in (s p.place (Family decl) p.is).shape
