-- The left side so far, and what has become of the variables that its patterns stand for.
use Rattle.std.specs.Prelude.{ℕ, ◌+◌, ◌-◌, eqb, ltb, cond, List, [], ◌∷◌, ◌++◌, length, map, slice_get, Option, Some, None, zero, suc}
use Rattle.core_rules.specs.declared.Flag.{Flag}
use Rattle.core_rules.specs.Term.{Term, Var, Sort, Def}
use Rattle.core_rules.specs.Substitution.{shift, value_at, under}
use Rattle.core_rules.specs.Signature.{Entry, Context, Telescope, Branch, Origin, Written, Variable, Underscore, Inserted, Braces, CorePat, PatShape, Pat, ProjectionPat, Without, onto}
use Rattle.core_rules.specs.Elimination.{Elim, Arg, Field, elims}
use Rattle.core_rules.specs.Typing.{entry}
use Rattle.core_rules.specs.Unification.{whole_types}
use Rattle.core_rules.specs.TypedTree.{Splitting, with_con}
use Rattle.match_rules.specs.Covering.{elim_map}
use Rattle.cover_rules.specs.LeftSide.{place_of}

-- a value with its type, in the context of the outermost entries, which are so many
pub record Placed : Type 0 where
  pub value : Term
  pub ty : Term
  pub outer : ℕ

-- what has become of a variable. It is a variable, by the number of entries outside it; it has the value that a split forced for it; or a
-- constructor was put for it, whose arguments have spots of their own
pub data Spot : Type 0 where
  AtVar : ℕ → Spot
  AtValue : Placed → Spot
  AtCon : Spot

-- an elimination, in the context of the outermost entries, which are so many
pub record Taken : Type 0 where
  pub it : Elim
  pub outer : ℕ

-- a pattern whose variables are numbers of spots. It holds no values
abbrev pub Sketch : Type 0
Sketch = CorePat ℕ

abbrev pub SketchShape : Type 0
SketchShape = PatShape ℕ

-- the left side so far: its context, its eliminations, a spot for each variable that was made for a pattern, in order, its patterns, the
-- type that is reached, and the number of patterns that the clause does not write
pub record Left : Type 0 where
  pub context : Context Term
  pub spine : List Taken
  pub spots : List Spot
  pub pats : List Sketch
  pub ty : Term
  pub inserted : ℕ

abbrev pub start : Term → Left
start a = record { context = []; spine = []; spots = []; pats = []; ty = a; inserted = 0 }

-- ---- terms in the whole context

-- a term of the n outermost entries
abbrev pub raised : Context Term → ℕ → Term → Term
raised c n t = shift t 0 (length c - n)

-- the variable outside which there are i entries
abbrev pub index_of : Context Term → ℕ → ℕ
index_of c i = length c - (i + 1)

abbrev pub raised_elim : Context Term → Taken → Elim
raised_elim c e = elim_map (raised c e.outer) e.it

-- the left side of f as a term
abbrev pub left_term : ℕ → Left → Term
left_term f l = elims (Def f) (map (raised_elim l.context) l.spine)

abbrev pub own_types : Context Term → List Term
own_types c = map (λ (e : Entry Term). e.ty) c

-- the type of what stands at a spot: that of a variable in the context of its own entry, that of a value in the whole context
abbrev pub type_at : Context Term → Spot → Term
type_at c (AtVar i) = value_at (own_types c) (index_of c i)
type_at c (AtValue v) = raised c v.outer v.ty
type_at c AtCon = Sort 0

abbrev pub spot_or : Option Spot → Spot
spot_or None = AtCon
spot_or (Some s) = s

abbrev pub spot_at : Left → ℕ → Spot
spot_at l j = spot_or (slice_get l.spots j)

-- ---- an argument and a projection

-- a written variable names its entry, every other one has the binder's name
abbrev pub name_by : Origin → ℕ → ℕ
name_by (Variable y fresh) x = y
name_by Written x = x
name_by Underscore x = x
name_by Inserted x = x

abbrev pub inserted_by : Origin → ℕ
inserted_by Inserted = 1
inserted_by Written = 0
inserted_by Underscore = 0
inserted_by (Variable y fresh) = 0

-- the variable of the function type with this binder is taken for a pattern of this origin; t is the codomain
abbrev pub taken : Left → Flag → ℕ → Term → Term → Origin → Left
taken l b x a t o = record l {
  context = entry b (name_by o x) a ∷ l.context;
  spine = l.spine ++ record { it = Arg b (Var 0); outer = length l.context + 1 } ∷ [];
  spots = l.spots ++ AtVar (length l.context) ∷ [];
  ty = t;
  inserted = l.inserted + inserted_by o;
}

abbrev pub with_pat : Left → SketchShape → Origin → Braces → Left
with_pat l s o b = record l { pats = l.pats ++ Pat s o b ∷ [] }

-- field h is taken, of type a
abbrev pub projected : Left → ℕ → Term → Left
projected l h a = with_pat (record l { spine = l.spine ++ record { it = Field h; outer = length l.context } ∷ []; ty = a }) (ProjectionPat h) Written Without

-- ---- a constructor for a variable

-- in the constructor's context, the variable that was outside i entries, where m new ones stand in the place of the one outside k
abbrev pub moved : ℕ → ℕ → ℕ → ℕ
moved k m i = cond (ltb i k) i (i + m - 1)

-- a variable of the constructor's context c, outside which there are i entries, in the branch b: one of its own, or the value that it has there
abbrev pub kept_spot : Context Term → Branch Term → ℕ → Option ℕ → Spot
kept_spot c b k (Some j) = AtVar (length b.context - (j + 1))
kept_spot c b k None = AtValue (record { value = value_at b.values k; ty = under b.values (value_at (whole_types 0 c) k); outer = length b.context })

abbrev pub branch_spot : Context Term → Branch Term → ℕ → Spot
branch_spot c b i = kept_spot c b (index_of c i) (place_of (index_of c i) b.keep)

-- the spots of n variables, outside the first of which there are i entries
abbrev pub branch_spots : Context Term → Branch Term → ℕ → ℕ → List Spot
branch_spots c b i zero = []
branch_spots c b i (suc n) = branch_spot c b i ∷ branch_spots c b (i + 1) n

-- the spots before, where u brings terms of the context c, in which the variable outside k entries is split, into the branch b of the
-- constructor's context d, which has m new variables for it
abbrev pub split_spot : Context Term → ℕ → ℕ → Context Term → Branch Term → (Term → Term) → Spot → Spot
split_spot c k m d b u (AtVar i) = cond (eqb i k) AtCon (branch_spot d b (moved k m i))
split_spot c k m d b u (AtValue v) = AtValue (record { value = u (raised c v.outer v.value); ty = u (raised c v.outer v.ty); outer = length b.context })
split_spot c k m d b u AtCon = AtCon

abbrev pub split_elim : Context Term → Branch Term → (Term → Term) → Taken → Taken
split_elim c b u e = record { it = elim_map (λ t. u (raised c e.outer t)) e.it; outer = length b.context }

-- constructor n with the arguments es, of which so many are not written, is put for the variable that is split, outside which there are k
-- entries, in the branch b of the constructor's context d
abbrev pub put : Left → Splitting → ℕ → ℕ → Telescope Term → ℕ → Context Term → Branch Term → Left
put l s k n es hidden d b =
    let u = λ (t : Term). under b.values (with_con s n es t) in
    record l {
      context = onto b.context [];
      spine = map (split_elim l.context b u) l.spine;
      spots = map (split_spot l.context k (length es) d b u) l.spots ++ branch_spots d b k (length es);
      ty = u l.ty;
      inserted = l.inserted + hidden;
    }
