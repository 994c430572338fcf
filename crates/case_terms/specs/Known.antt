-- Terms all of whose ids are those of a signature, by marks on the terms of a pool.
use Rattle.std.specs.Prelude.{◌≡◌, ℕ, ◌+◌, ◌<◌, ◌≤◌, true, [], ◌∷◌, length, sum, slice_get, Some}
use Rattle.std.specs.List.{AllByRecursion}
use Rattle.core_rules.specs.Term.{Term, Terms, Var, Sort, Pi, Lam, App, Def, Fam, Con, Proj, Meta, End, And, to_list}
use Rattle.core_rules.specs.Signature.{Telescope, ConDecl, Signature, defs, field_counts}
use Rattle.core_rules.specs.InScope.{con_params}
use Rattle.term_pool.specs.Pool.{Pool, tree}
use Rattle.term_pool.specs.Reach.{reach}
use Rattle.case_terms.specs.declared.ids.Ids.{Ids}

-- the ids are those of g, where there are n families
module _ {A : Type 0} (g : Signature A) (n : ℕ) where
  abbrev mutual
    pub IdsIn : Term → Type 0
    IdsIn (Var i) = Unit {0}
    IdsIn (Sort l) = Unit {0}
    IdsIn (Pi b x a t) = IdsIn a × IdsIn t
    IdsIn (Lam b x a t) = IdsIn a × IdsIn t
    IdsIn (App b t u) = IdsIn t × IdsIn u
    IdsIn (Def f) = f < length (defs g)
    IdsIn (Fam d) = d < n
    IdsIn (Con k ts) = (con_params g k ≡ Some (length (to_list ts))) × AllIdsIn ts
    IdsIn (Proj f t) = (f < sum (field_counts g)) × IdsIn t
    IdsIn (Meta m ts) = AllIdsIn ts

    pub AllIdsIn : Terms → Type 0
    AllIdsIn End = Unit {0}
    AllIdsIn (And t ts) = IdsIn t × AllIdsIn ts

-- x is of the pool p and of the signature g, which has n families
pub record IsOver (p : Pool) (g : Signature ℕ) (n : ℕ) (x : Ids) : Type 0 where
  pub pool : x.pool.now ≡ p
  pub signature : x.sig.now ≡ g
  pub families : x.fams ≡ n

abbrev pub HasIds : Ids → Term → Type 0
HasIds x t = IdsIn x.sig.now x.fams t

-- what is marked has ids of the signature
pub record AreMarked (x : Ids) : Type 0 where
  pub at : (i : ℕ) → slice_get x.marks.items i ≡ Some true → HasIds x (tree x.pool.now i)

-- a term of the pool with ids of the signature and variables below m
pub record IsTermUnder (x : Ids) (m i : ℕ) : Type 0 where
  pub within : i < length x.pool.now.trees
  pub ids : HasIds x (tree x.pool.now i)
  pub reach : reach (tree x.pool.now i) ≤ m

-- each type under the entries before it
abbrev pub AreTypesUnder : Ids → ℕ → Telescope ℕ → Type 0
AreTypesUnder x m [] = Unit {0}
AreTypesUnder x m (e ∷ es) = IsTermUnder x m e.ty × AreTypesUnder x (m + 1) es

pub record IsConUnder (x : Ids) (m : ℕ) (c : ConDecl ℕ) : Type 0 where
  pub args : AreTypesUnder x m c.args
  pub indices : AllByRecursion (IsTermUnder x (m + length c.args)) c.indices
