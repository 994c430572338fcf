-- What a node consists of, and the node with other parts.
use Rattle.std.specs.Prelude.{ℕ, Option, Some, None}
use Rattle.term_pool.specs.declared.node.Node.{Node}
use Rattle.term_pool.specs.declared.node.Node.TheVariants.{Var, Sort, Pi, Lam, App, Def, Fam, Con, Proj, Meta}
use Rattle.term_pool.specs.declared.node.Parts.{Parts}
use Rattle.term_pool.specs.declared.node.Parts.TheVariants.{Variable, Alone, Two}

-- a single part is both the first and the second
abbrev pub parts_of : Node → Parts
parts_of (Var i) = Variable i
parts_of (Sort n) = Alone
parts_of (Pi b x s t) = Two s t 1
parts_of (Lam b x s t) = Two s t 1
parts_of (App b t u) = Two t u 0
parts_of (Def k) = Alone
parts_of (Fam k) = Alone
parts_of (Con k a) = Two a a 0
parts_of (Proj k t) = Two t t 0
parts_of (Meta m a) = Two a a 0

abbrev pub with_two : ℕ → ℕ → Node → Node
with_two s t (Pi b x u v) = Pi b x s t
with_two s t (Lam b x u v) = Lam b x s t
with_two s t (App b u v) = App b s t
with_two s t (Var i) = Var i
with_two s t (Sort n) = Sort n
with_two s t (Def k) = Def k
with_two s t (Fam k) = Fam k
with_two s t (Con k a) = Con k s
with_two s t (Proj k u) = Proj k s
with_two s t (Meta m a) = Meta m s

-- the item and the rest of a node of an argument list
abbrev pub cell_of : Node → Option (ℕ × ℕ)
cell_of (App b t u) = Some (t, u)
cell_of (Var i) = None
cell_of (Sort n) = None
cell_of (Pi b x s t) = None
cell_of (Lam b x s t) = None
cell_of (Def k) = None
cell_of (Fam k) = None
cell_of (Con k a) = None
cell_of (Proj k t) = None
cell_of (Meta m a) = None

abbrev pub without_name : Node → Node
without_name (Pi b x s t) = Pi b 0 s t
without_name (Lam b x s t) = Lam b 0 s t
without_name (App b t u) = App b t u
without_name (Var i) = Var i
without_name (Sort n) = Sort n
without_name (Def k) = Def k
without_name (Fam k) = Fam k
without_name (Con k a) = Con k a
without_name (Proj k t) = Proj k t
without_name (Meta m a) = Meta m a
