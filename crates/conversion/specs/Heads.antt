-- When two heads are one, and the parts of sorts and function types.
use Rattle.std.specs.Prelude.{ℕ, List, [], ◌∷◌, Bool, false, eqb, cond, Option, Some, None, option_map}
use Rattle.std.specs.declared.vec.Vec.{Vec}
use Rattle.core_rules.specs.Bounded.{same_flag}
use Rattle.term_pool.specs.declared.node.Node.{Node}
use Rattle.term_pool.specs.declared.node.Node.TheVariants as N
use Rattle.conversion.specs.declared.arguments.Part.{Part}
use Rattle.conversion.specs.declared.heads.Rigid.{Rigid}
use Rattle.conversion.specs.declared.heads.Rigid.TheVariants as R
use Rattle.conversion.specs.declared.heads.Bare.{Bare}
use Rattle.conversion.specs.declared.heads.Bare.TheVariants as B

-- the variable, function, type former or constructor that a node is
abbrev pub rigid : Node → Option Rigid
rigid (N.Var i) = Some (R.Var i)
rigid (N.Def i) = Some (R.Def i)
rigid (N.Fam i) = Some (R.Fam i)
rigid (N.Con i a) = Some (R.Con i)
rigid _ = None

abbrev pub is_same_rigid : Rigid → Rigid → Bool
is_same_rigid (R.Var i) (R.Var j) = eqb i j
is_same_rigid (R.Def i) (R.Def j) = eqb i j
is_same_rigid (R.Fam i) (R.Fam j) = eqb i j
is_same_rigid (R.Con i) (R.Con j) = eqb i j
is_same_rigid _ _ = false

abbrev pub is_same_head : Option Rigid → Option Rigid → Bool
is_same_head (Some r) (Some s) = is_same_rigid r s
is_same_head _ _ = false

-- the sort or function type that a node is
abbrev pub bare : Node → Option Bare
bare (N.Sort n) = Some (B.Sort n)
bare (N.Pi b x s t) = Some (B.Pi b x s t)
bare _ = None

-- domains and then codomains; the first part is the last item
abbrev pub function_parts : ℕ → ℕ × ℕ → ℕ × ℕ → List Part
function_parts x ss ts = record { binds = Some x; left = ts.0; right = ts.1 } ∷ record { binds = None; left = ss.0; right = ss.1 } ∷ []

abbrev pub parts_of_bare : Bare → Bare → Option (List Part)
parts_of_bare (B.Sort m) (B.Sort n) = cond (eqb m n) (Some []) None
parts_of_bare (B.Pi b x s t) (B.Pi c y u v) = cond (same_flag b c) (Some (function_parts x (s, u) (t, v))) None
parts_of_bare _ _ = None

abbrev pub bare_parts : Option Bare → Option Bare → Option (List Part)
bare_parts (Some a) (Some b) = parts_of_bare a b
bare_parts _ _ = None

abbrev pub items_of : {A : Type 0} → Option (Vec Part A) → Option (List Part)
items_of o = option_map (λ v. v.items) o
