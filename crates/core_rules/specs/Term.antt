-- Terms as trees of ten kinds with de Bruijn indices, when two are the same term, and how large they are.
use Rattle.std.specs.Prelude.{◌≡◌, ℕ, ◌+◌, max, Bool, false, ◌||◌, eqb, List, [], ◌∷◌, reverse}
use Rattle.core_rules.specs.declared.Flag.{Flag}

-- Pi and Lam carry the name of their variable, Lam its domain, Con its parameters, Meta its arguments
mutual
  pub data Term : Type 0 where
    Var : ℕ → Term
    Sort : ℕ → Term
    Pi : Flag → ℕ → Term → Term → Term
    Lam : Flag → ℕ → Term → Term → Term
    App : Flag → Term → Term → Term
    Def : ℕ → Term
    Fam : ℕ → Term
    Con : ℕ → Terms → Term
    Proj : ℕ → Term → Term
    Meta : ℕ → Terms → Term

  pub data Terms : Type 0 where
    End : Terms
    And : Term → Terms → Terms

abbrev pub to_list : Terms → List Term
to_list End = []
to_list (And t ts) = t ∷ to_list ts

abbrev pub from_list : List Term → Terms
from_list [] = End
from_list (t ∷ ts) = And t (from_list ts)

-- arguments, which stand outermost first, as an environment, which stands innermost first
abbrev pub env_of : Terms → List Term
env_of ts = reverse (to_list ts)

-- t with every name replaced by 0
abbrev mutual
  pub nameless : Term → Term
  nameless (Var i) = Var i
  nameless (Sort n) = Sort n
  nameless (Pi b x a t) = Pi b 0 (nameless a) (nameless t)
  nameless (Lam b x a t) = Lam b 0 (nameless a) (nameless t)
  nameless (App b t u) = App b (nameless t) (nameless u)
  nameless (Def f) = Def f
  nameless (Fam d) = Fam d
  nameless (Con k ts) = Con k (nameless_all ts)
  nameless (Proj f t) = Proj f (nameless t)
  nameless (Meta m ts) = Meta m (nameless_all ts)

  pub nameless_all : Terms → Terms
  nameless_all End = End
  nameless_all (And t ts) = And (nameless t) (nameless_all ts)

-- t and u are the same term: they differ in names at most
abbrev pub IsSameTerm : Term → Term → Type 0
IsSameTerm t u = nameless t ≡ nameless u

-- the number of nodes
abbrev mutual
  pub size : Term → ℕ
  size (Var i) = 1
  size (Sort n) = 1
  size (Pi b x a t) = 1 + size a + size t
  size (Lam b x a t) = 1 + size a + size t
  size (App b t u) = 1 + size t + size u
  size (Def f) = 1
  size (Fam d) = 1
  size (Con k ts) = 1 + size_all ts
  size (Proj f t) = 1 + size t
  size (Meta m ts) = 1 + size_all ts

  pub size_all : Terms → ℕ
  size_all End = 0
  size_all (And t ts) = size t + size_all ts

-- the number of levels: one for a term without parts
abbrev mutual
  pub depth : Term → ℕ
  depth (Var i) = 1
  depth (Sort n) = 1
  depth (Pi b x a t) = 1 + max (depth a) (depth t)
  depth (Lam b x a t) = 1 + max (depth a) (depth t)
  depth (App b t u) = 1 + max (depth t) (depth u)
  depth (Def f) = 1
  depth (Fam d) = 1
  depth (Con k ts) = 1 + depth_all ts
  depth (Proj f t) = 1 + depth t
  depth (Meta m ts) = 1 + depth_all ts

  pub depth_all : Terms → ℕ
  depth_all End = 0
  depth_all (And t ts) = max (depth t) (depth_all ts)

-- whether variable i occurs in t
abbrev mutual
  pub occurs : ℕ → Term → Bool
  occurs i (Var j) = eqb j i
  occurs i (Sort n) = false
  occurs i (Pi b x a t) = occurs i a || occurs (i + 1) t
  occurs i (Lam b x a t) = occurs i a || occurs (i + 1) t
  occurs i (App b t u) = occurs i t || occurs i u
  occurs i (Def f) = false
  occurs i (Fam d) = false
  occurs i (Con k ts) = occurs_in i ts
  occurs i (Proj f t) = occurs i t
  occurs i (Meta m ts) = occurs_in i ts

  pub occurs_in : ℕ → Terms → Bool
  occurs_in i End = false
  occurs_in i (And t ts) = occurs i t || occurs_in i ts

-- each metavariable that stands in t has the property P
abbrev mutual
  pub AllMetas : (ℕ → Type 0) → Term → Type 0
  AllMetas P (Var i) = Unit {0}
  AllMetas P (Sort n) = Unit {0}
  AllMetas P (Pi b x a t) = AllMetas P a × AllMetas P t
  AllMetas P (Lam b x a t) = AllMetas P a × AllMetas P t
  AllMetas P (App b t u) = AllMetas P t × AllMetas P u
  AllMetas P (Def f) = Unit {0}
  AllMetas P (Fam d) = Unit {0}
  AllMetas P (Con k ts) = AllMetasIn P ts
  AllMetas P (Proj f t) = AllMetas P t
  AllMetas P (Meta m ts) = P m × AllMetasIn P ts

  pub AllMetasIn : (ℕ → Type 0) → Terms → Type 0
  AllMetasIn P End = Unit {0}
  AllMetasIn P (And t ts) = AllMetas P t × AllMetasIn P ts

abbrev pub HasNoMeta : Term → Type 0
HasNoMeta t = AllMetas (λ m. ⊥) t
