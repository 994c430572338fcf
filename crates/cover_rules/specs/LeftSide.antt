-- The left side that covering carries along, and what an argument, a projection and a split make of it.
use Rattle.std.specs.Prelude.{ℕ, ◌+◌, ◌-◌, true, eqb, ltb, cond, List, [], ◌∷◌, ◌++◌, length, reverse, Option, Some, None, option_map, suc}
use Rattle.core_rules.specs.declared.Flag.{Flag}
use Rattle.core_rules.specs.declared.Flag.TheVariants.{Explicit, Implicit}
use Rattle.core_rules.specs.Term.{Term, Var}
use Rattle.core_rules.specs.Substitution.{shift, value_at, under}
use Rattle.core_rules.specs.Signature.{Telescope, Context, onto, Origin, Written, Variable, Underscore, Inserted, Braces, Without, Plain, CorePat, PatShape, CorePats, Pat, VarPat, SolvedPat, DottedPat, ConPat, AbsurdPat, ProjectionPat, NoPat, AndPat, Solved, CheckedLeft, Branch}
use Rattle.core_rules.specs.Elimination.{Elim, Arg, Field}
use Rattle.core_rules.specs.Typing.{entry}
use Rattle.core_rules.specs.Unification.{whole_types}
use Rattle.core_rules.specs.TypedTree.{Splitting, con_context, with_con, new_con, into}
use Rattle.match_rules.specs.Covering.{elims_map}

-- the value of a solved variable, with its type
pub record Held : Type 0 where
  pub value : Term
  pub ty : Term

-- a left side: its context, the terms of its eliminations, its patterns, its type, and the number of patterns that no clause writes.
-- The terms stand beside the patterns, since a pattern does not have the parameters of its constructor
pub record Node : Type 0 where
  pub context : Context Term
  pub spine : List Elim
  pub pats : CorePats Held
  pub ty : Term
  pub inserted : ℕ

-- patterns with p for each variable, with how it is written, and h for each held value
abbrev mutual
  pub pat_map : (ℕ → Origin → Braces → CorePat Held) → (Held → Held) → CorePat Held → CorePat Held
  pat_map p h (Pat s o b) = shape_map p h s o b

  pub shape_map : (ℕ → Origin → Braces → CorePat Held) → (Held → Held) → PatShape Held → Origin → Braces → CorePat Held
  shape_map p h (VarPat i) o b = p i o b
  shape_map p h (SolvedPat v) o b = Pat (SolvedPat (h v)) o b
  shape_map p h (DottedPat v) o b = Pat (DottedPat (h v)) o b
  shape_map p h (ConPat k ps) o b = Pat (ConPat k (pats_map p h ps)) o b
  shape_map p h AbsurdPat o b = Pat AbsurdPat o b
  shape_map p h (ProjectionPat f) o b = Pat (ProjectionPat f) o b

  pub pats_map : (ℕ → Origin → Braces → CorePat Held) → (Held → Held) → CorePats Held → CorePats Held
  pats_map p h NoPat = NoPat
  pats_map p h (AndPat q qs) = AndPat (pat_map p h q) (pats_map p h qs)

abbrev pub held_map : (Term → Term) → Held → Held
held_map f v = record { value = f v.value; ty = f v.ty }

abbrev pub add_pat : CorePats Held → CorePat Held → CorePats Held
add_pat NoPat p = AndPat p NoPat
add_pat (AndPat q qs) p = AndPat q (add_pat qs p)

-- a variable under the name of its binder, which is new, or one that nothing writes
abbrev pub new_pat : Flag → ℕ → ℕ → CorePat Held
new_pat Explicit x i = Pat (VarPat i) (Variable x true) Without
new_pat Implicit x i = Pat (VarPat i) Inserted Plain

abbrev pub hidden : Flag → ℕ
hidden Explicit = 0
hidden Implicit = 1

abbrev pub all_hidden : Telescope Term → ℕ
all_hidden [] = 0
all_hidden (e ∷ es) = hidden e.flag + all_hidden es

-- an argument is taken
abbrev pub taken : Node → Flag → ℕ → Term → Term → Node
taken n b x a t = record {
  context = entry b x a ∷ n.context;
  spine = elims_map (λ t. shift t 0 1) n.spine ++ Arg b (Var 0) ∷ [];
  pats = add_pat (pats_map (λ i o c. Pat (VarPat (i + 1)) o c) (held_map (λ t. shift t 0 1)) n.pats) (new_pat b x 0);
  ty = t;
  inserted = n.inserted + hidden b;
}

-- field f is taken, of type a
abbrev pub projected : Node → ℕ → Term → Node
projected n f a = record n { spine = n.spine ++ Field f ∷ []; pats = add_pat n.pats (Pat (ProjectionPat f) Written Without); ty = a }

-- patterns for entries inside which k variables stand
abbrev pub new_pats : ℕ → Telescope Term → CorePats Held
new_pats k [] = NoPat
new_pats k (e ∷ es) = AndPat (new_pat e.flag e.name (k + length es)) (new_pats k es)

-- variable i where m new ones stand in the place of variable k: that is constructor c, and the pattern keeps its braces
abbrev pub opened_var : ℕ → ℕ → Telescope Term → ℕ → Origin → Braces → CorePat Held
opened_var k c es i o b = cond (eqb i k) (Pat (ConPat c (new_pats k es)) Written b) (Pat (VarPat (cond (ltb i k) i (i + length es - 1))) o b)

-- constructor c with the arguments es is put for the variable that is split
abbrev pub opened : Node → Splitting → ℕ → Telescope Term → Node
opened n s c es = record {
  context = con_context s c es;
  spine = elims_map (λ t. under (into s.var (length n.context) (length es) (new_con c s.params es)) t) n.spine;
  pats = pats_map (opened_var s.var c es) (held_map (with_con s c es)) n.pats;
  ty = with_con s c es n.ty;
  inserted = n.inserted + all_hidden es;
}

abbrev pub place_of : ℕ → List ℕ → Option ℕ
place_of i [] = None
place_of i (j ∷ js) = cond (eqb i j) (Some 0) (option_map suc (place_of i js))

-- a variable that the branch keeps, or one that it solved
abbrev pub branch_var : Node → Branch Term → ℕ → Option ℕ → Origin → Braces → CorePat Held
branch_var n b i (Some j) o c = Pat (VarPat j) o c
branch_var n b i None o c = Pat (SolvedPat (record { value = value_at b.values i; ty = under b.values (value_at (whole_types 0 n.context) i) })) o c

-- the branch's context in place of that of the constructor
abbrev pub joined : Node → Branch Term → Node
joined n b = record {
  context = onto b.context [];
  spine = elims_map (under b.values) n.spine;
  pats = pats_map (λ i o c. branch_var n b i (place_of i b.keep) o c) (held_map (under b.values)) n.pats;
  ty = under b.values n.ty;
  inserted = n.inserted;
}

-- The checked left side

abbrev mutual
  pub pat_values : CorePat Held → CorePat Term
  pat_values (Pat s o b) = Pat (shape_values s) o b

  pub shape_values : PatShape Held → PatShape Term
  shape_values (VarPat i) = VarPat i
  shape_values (SolvedPat v) = SolvedPat v.value
  shape_values (DottedPat v) = DottedPat v.value
  shape_values (ConPat k ps) = ConPat k (pats_values ps)
  shape_values AbsurdPat = AbsurdPat
  shape_values (ProjectionPat f) = ProjectionPat f

  pub pats_values : CorePats Held → CorePats Term
  pats_values NoPat = NoPat
  pats_values (AndPat p ps) = AndPat (pat_values p) (pats_values ps)

abbrev pub solved_name : Held → Origin → List (Solved Term)
solved_name v (Variable x fresh) = record { name = x; value = v.value; ty = v.ty } ∷ []
solved_name v Written = []
solved_name v Underscore = []
solved_name v Inserted = []

-- the written names that stand for values, in the order of their patterns
abbrev mutual
  pub pat_named : CorePat Held → List (Solved Term)
  pat_named (Pat s o b) = shape_named s o

  pub shape_named : PatShape Held → Origin → List (Solved Term)
  shape_named (VarPat i) o = []
  shape_named (SolvedPat v) o = solved_name v o
  shape_named (DottedPat v) o = []
  shape_named (ConPat k ps) o = pats_named ps
  shape_named AbsurdPat o = []
  shape_named (ProjectionPat f) o = []

  pub pats_named : CorePats Held → List (Solved Term)
  pats_named NoPat = []
  pats_named (AndPat p ps) = pat_named p ++ pats_named ps

abbrev pub left_of : Node → CheckedLeft Term
left_of n = record { context = reverse n.context; pats = pats_values n.pats; ty = n.ty; named = pats_named n.pats; dots = []; inserted = n.inserted }

-- the left side of a function of type a before any elimination
abbrev pub root : Term → Node
root a = record { context = []; spine = []; pats = NoPat; ty = a; inserted = 0 }
