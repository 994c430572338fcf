-- Eliminations of a term, function types over telescopes, and the types that families and constructors are declared with.
use Rattle.std.specs.Prelude.{ℕ, ◌+◌, List, [], ◌∷◌, ◌++◌, length, map, zero, suc}
use Rattle.core_rules.specs.declared.Flag.{Flag}
use Rattle.core_rules.specs.Term.{Term, Var, Sort, Pi, App, Fam, Proj}
use Rattle.core_rules.specs.Substitution.{over}
use Rattle.core_rules.specs.Signature.{Telescope, ConDecl, FamDecl, Signature, fields_of}

-- an argument with its flag, or a projection
pub data Elim : Type 0 where
  Arg : Flag → Term → Elim
  Field : ℕ → Elim

abbrev pub elim_by : Term → Elim → Term
elim_by t (Arg b u) = App b t u
elim_by t (Field f) = Proj f t

-- t under the eliminations in order
abbrev pub elims : Term → List Elim → Term
elims t [] = t
elims t (e ∷ es) = elims (elim_by t e) es

-- the terms as arguments, with the flags of the entries
abbrev pub args : Telescope Term → List Term → List Elim
args [] ts = []
args (e ∷ es) [] = []
args (e ∷ es) (t ∷ ts) = Arg e.flag t ∷ args es ts

-- the function type over the entries that ends in t
abbrev pub pi_over : Telescope Term → Term → Term
pi_over [] t = t
pi_over (e ∷ es) t = Pi e.flag e.name e.ty (pi_over es t)

-- the variables of n entries that k others stand inside, outermost first
abbrev pub vars_from : ℕ → ℕ → List Term
vars_from k zero = []
vars_from k (suc n) = Var (k + n) ∷ vars_from k n

-- the projections of t to the fields of record d, in order
abbrev pub projections : Signature Term → ℕ → Term → List Term
projections g d t = map (λ f. Proj f t) (fields_of g d)

-- the type of a family
abbrev pub fam_type : FamDecl Term → Term
fam_type d = pi_over d.params (pi_over d.indices (Sort d.level))

-- the type in which a constructor of family number d ends: the family at its own parameters and then the constructor's indices
abbrev pub con_end : ℕ → FamDecl Term → ConDecl Term → Term
con_end d decl c = elims (Fam d) (args decl.params (vars_from (length c.args) (length decl.params)) ++ args decl.indices c.indices)

-- the type of a constructor of family number d under the parameters
abbrev pub con_type : ℕ → FamDecl Term → ConDecl Term → Term
con_type d decl c = pi_over c.args (con_end d decl c)

-- the changes of `over` on eliminations
abbrev pub elim_over : (ℕ → ℕ → Term) → ℕ → Elim → Elim
elim_over f d (Arg b u) = Arg b (over f d u)
elim_over f d (Field k) = Field k

abbrev pub elims_over : (ℕ → ℕ → Term) → ℕ → List Elim → List Elim
elims_over f d es = map (elim_over f d) es
