-- What a walk over a term has still to look at: how large that is, and whether a variable occurs in it.
use Rattle.std.specs.Prelude.{◌≡◌, ℕ, ◌+◌, ◌<◌, Bool, false, ◌||◌, eqb, List, [], ◌∷◌, length}
use Rattle.std.specs.List.{AllByRecursion}
use Rattle.core_rules.specs.Term.{Term, Var, Sort, Pi, Lam, App, Def, Fam, Con, Proj, Meta, size, size_all, occurs, occurs_in}
use Rattle.term_pool.specs.Pool.{Pool, tree, args, IsArgs}
use Rattle.core_print.specs.declared.walk.What.{What}
use Rattle.core_print.specs.declared.walk.What.TheVariants as W
use Rattle.core_print.specs.declared.walk.Part.{Part}

-- a part stands in the pool
abbrev pub WhatIn : Pool → What → Type 0
WhatIn p (W.Whole t) = t < length p.trees
WhatIn p (W.Items a) = IsArgs (tree p) (length p.trees) a

abbrev pub IsIn : Pool → Part → Type 0
IsIn p x = WhatIn p x.what

abbrev pub AreIn : Pool → List Part → Type 0
AreIn p xs = AllByRecursion (IsIn p) xs

abbrev pub what_size : Pool → What → ℕ
what_size p (W.Whole t) = size (tree p t)
what_size p (W.Items a) = size_all (args p a)

abbrev pub sizes : Pool → List Part → ℕ
sizes p [] = 0
sizes p (x ∷ xs) = what_size p x.what + sizes p xs

-- whether the variable that is looked for, which is number n under n binders, occurs
abbrev pub occurs_in_what : Pool → ℕ → What → Bool
occurs_in_what p n (W.Whole t) = occurs n (tree p t)
occurs_in_what p n (W.Items a) = occurs_in n (args p a)

abbrev pub occurs_in_parts : Pool → List Part → Bool
occurs_in_parts p [] = false
occurs_in_parts p (x ∷ xs) = occurs_in_what p x.under x.what || occurs_in_parts p xs

-- whether t is variable i
abbrev pub is_var : ℕ → Term → Bool
is_var i (Var j) = eqb j i
is_var i (Sort n) = false
is_var i (Pi b x a t) = false
is_var i (Lam b x a t) = false
is_var i (App b t u) = false
is_var i (Def f) = false
is_var i (Fam d) = false
is_var i (Con k ts) = false
is_var i (Proj f t) = false
is_var i (Meta m ts) = false

-- the nodes of a term but the outermost
abbrev pub inner_size : Term → ℕ
inner_size (Var i) = 0
inner_size (Sort n) = 0
inner_size (Pi b x a t) = size a + size t
inner_size (Lam b x a t) = size a + size t
inner_size (App b t u) = size t + size u
inner_size (Def f) = 0
inner_size (Fam d) = 0
inner_size (Con k ts) = size_all ts
inner_size (Proj f t) = size t
inner_size (Meta m ts) = size_all ts

-- whether variable i occurs in a part of a term
abbrev pub occurs_inside : ℕ → Term → Bool
occurs_inside i (Var j) = false
occurs_inside i (Sort n) = false
occurs_inside i (Pi b x a t) = occurs i a || occurs (i + 1) t
occurs_inside i (Lam b x a t) = occurs i a || occurs (i + 1) t
occurs_inside i (App b t u) = occurs i t || occurs i u
occurs_inside i (Def f) = false
occurs_inside i (Fam d) = false
occurs_inside i (Con k ts) = occurs_in i ts
occurs_inside i (Proj f t) = occurs i t
occurs_inside i (Meta m ts) = occurs_in i ts

-- parts ys are parts xs with some after them of this size, in which the variable occurs or not
pub record Leaves (p : Pool) (xs ys : List Part) (n : ℕ) (o : Bool) : Type 0 where
  pub parts : AreIn p xs → AreIn p ys
  pub count : sizes p ys ≡ n + sizes p xs
  pub found : occurs_in_parts p ys ≡ (o || occurs_in_parts p xs)

-- a walk over t begins with t alone
pub record IsStart (t : ℕ) (xs : List Part) : Type 0 where
  pub parts : (p : Pool) → t < length p.trees → AreIn p xs
  pub count : (p : Pool) → sizes p xs ≡ size (tree p t)
  pub found : (p : Pool) → occurs_in_parts p xs ≡ occurs 0 (tree p t)
