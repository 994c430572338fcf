-- How each form of resolved pattern is read, the checked left side that is made, and the left side of a clause.
use Rattle.std.specs.Prelude.{◌≡◌, ℕ, ◌+◌, false, List, [], ◌∷◌, ◌++◌, map, reverse}
use Rattle.core_rules.specs.Term.{Term, Var}
use Rattle.core_rules.specs.Substitution.{value_at}
use Rattle.core_rules.specs.Signature.{Context, Origin, Written, Variable, Underscore, Inserted, CorePat, PatShape, CorePats, Pat, VarPat, SolvedPat, DottedPat, ConPat, AbsurdPat, ProjectionPat, NoPat, AndPat, Dot, CheckedLeft, Signature}
use Rattle.core_rules.specs.Mapped.{telescope_map}
use Rattle.core_rules.specs.Substitution.{replace}
use Rattle.core_rules.specs.Heads.{Solutions}
use Rattle.core_rules.specs.Unification.{Equation, whole_types}
use Rattle.core_rules.specs.UnifierAnswers.{Unified}
use Rattle.kernel_rules.specs.Outcome.{Outcome}
use Rattle.need_rules.specs.Needs as needs
use Rattle.el_outside.specs.declared.place.Pos.{Pos}
use Rattle.resolved_tree.specs.declared.resolved.ResolvedPattern.{ResolvedPattern, fold-ResolvedPattern}
use Rattle.resolved_tree.specs.declared.resolved.ResolvedPattern.TheOpen.{ResolvedPattern-F}
use Rattle.resolved_tree.specs.declared.resolved.ResolvedClause.{ResolvedClause}
use Rattle.unify_rules.specs.Unifier.{Outcome as Answer, UnifyOf}
use Rattle.unify_rules.specs.Answered.{unified_of}
use Rattle.cover_rules.specs.LeftSide.{Held, pats_values, pats_named}
use Rattle.lhs_rules.specs.Spots.{Placed, Spot, AtVar, AtValue, AtCon, Sketch, SketchShape, Left, start, raised, index_of, spot_at}
use Rattle.lhs_rules.specs.Refusals.{Refusal, WrongArity}
use Rattle.lhs_rules.specs.Asking.{Reads, ◌>>=◌, gives, Comes}
use Rattle.lhs_rules.specs.Rules.{PatternMeaning, ElimMeaning, refused, stays, constructor, absurd_pattern, all_elims}

-- ---- the forms of pattern

abbrev pub plain : PatternMeaning → ElimMeaning
plain w = record { pos = w.pos; next = needs.Plain w }

-- a variable of this origin
abbrev pub variable : Pos → Origin → PatternMeaning
variable p o = record { pos = p; origin = o; visits = stays }

abbrev pub of_con : Signature Term → ℕ → Pos → ℕ → List ElimMeaning → PatternMeaning
of_con g f p k ms = record { pos = p; origin = Written; visits = constructor g f p k ms }

abbrev pub of_nothing : Signature Term → ℕ → Pos → PatternMeaning
of_nothing g f p = record { pos = p; origin = Written; visits = absurd_pattern g f p }

-- a projection in braces, which no clause has
abbrev pub no_pattern : Pos → PatternMeaning
no_pattern p = record { pos = p; origin = Written; visits = (λ j l. refused p WrongArity) }

-- what stands in braces. Braces in these, which no clause has, count for nothing
abbrev pub next_inside : Pos → needs.Next PatternMeaning → PatternMeaning
next_inside p (needs.Plain w) = w
next_inside p (needs.Braces w) = w
next_inside p (needs.Named x w) = w
next_inside p (needs.Field f) = no_pattern p

abbrev pub inside : ElimMeaning → PatternMeaning
inside m = next_inside m.pos m.next

-- one layer, with the meanings of its parts in their places, in a left side of f
abbrev pub pattern_step : Signature Term → ℕ → ResolvedPattern-F ElimMeaning → ElimMeaning
pattern_step g f (ResolvedPattern-F.Implicit p m) = record { pos = p.pos; next = needs.Braces (inside m) }
pattern_step g f (ResolvedPattern-F.Named p x m) = record { pos = p.pos; next = needs.Named x.id (inside m) }
pattern_step g f (ResolvedPattern-F.Project p h) = record { pos = p.pos; next = needs.Field h }
pattern_step g f (ResolvedPattern-F.Variable x) = plain (variable x.place.pos (Variable x.id false))
pattern_step g f (ResolvedPattern-F.Con p k ms) = plain (of_con g f p.pos k ms)
pattern_step g f (ResolvedPattern-F.Underscore p) = plain (variable p.pos Underscore)
pattern_step g f (ResolvedPattern-F.Absurd p) = plain (of_nothing g f p.pos)
pattern_step g f (ResolvedPattern-F.Dotted p e) = plain (variable p.pos Written)

unfoldable pub pattern_meaning : Signature Term → ℕ → ResolvedPattern → ElimMeaning
pattern_meaning g f = fold-ResolvedPattern ElimMeaning (pattern_step g f)

-- ---- the checked left side

-- what the clause writes by a dot is a dotted pattern, whether its variable stayed or has a value
abbrev pub settled_var : Origin → ℕ → Held → PatShape Held
settled_var Written k v = DottedPat v
settled_var (Variable x fresh) k v = VarPat k
settled_var Underscore k v = VarPat k
settled_var Inserted k v = VarPat k

abbrev pub settled_value : Origin → Held → PatShape Held
settled_value Written v = DottedPat v
settled_value (Variable x fresh) v = SolvedPat v
settled_value Underscore v = SolvedPat v
settled_value Inserted v = SolvedPat v

abbrev pub variable_held : Context Term → ℕ → Held
variable_held c k = record { value = Var k; ty = value_at (whole_types 0 c) k }

abbrev pub placed_held : Context Term → Placed → Held
placed_held c v = record { value = raised c v.outer v.value; ty = raised c v.outer v.ty }

-- no pattern of a left side is for a spot at which a constructor stands
abbrev pub settled_spot : Context Term → Origin → Spot → PatShape Held
settled_spot c o (AtVar i) = settled_var o (index_of c i) (variable_held c (index_of c i))
settled_spot c o (AtValue v) = settled_value o (placed_held c v)
settled_spot c o AtCon = AbsurdPat

-- the patterns of the left side, with what has become of their variables
abbrev mutual
  pub settled_pat : Left → Sketch → CorePat Held
  settled_pat l (Pat s o b) = Pat (settled_shape l o s) o b

  pub settled_shape : Left → Origin → SketchShape → PatShape Held
  settled_shape l o (VarPat j) = settled_spot l.context o (spot_at l j)
  settled_shape l o (SolvedPat v) = AbsurdPat
  settled_shape l o (DottedPat v) = AbsurdPat
  settled_shape l o (ConPat k ps) = ConPat k (settled_pats l ps)
  settled_shape l o AbsurdPat = AbsurdPat
  settled_shape l o (ProjectionPat f) = ProjectionPat f

  pub settled_pats : Left → CorePats ℕ → CorePats Held
  settled_pats l NoPat = NoPat
  settled_pats l (AndPat p ps) = AndPat (settled_pat l p) (settled_pats l ps)

abbrev pub pats_in : List Sketch → CorePats ℕ
pats_in [] = NoPat
pats_in (p ∷ ps) = AndPat p (pats_in ps)

-- the values of dotted patterns in order
abbrev mutual
  pub pat_dotted : CorePat Held → List Held
  pat_dotted (Pat s o b) = shape_dotted s

  pub shape_dotted : PatShape Held → List Held
  shape_dotted (VarPat i) = []
  shape_dotted (SolvedPat v) = []
  shape_dotted (DottedPat v) = v ∷ []
  shape_dotted (ConPat k ps) = pats_dotted ps
  shape_dotted AbsurdPat = []
  shape_dotted (ProjectionPat f) = []

  pub pats_dotted : CorePats Held → List Held
  pats_dotted NoPat = []
  pats_dotted (AndPat p ps) = pat_dotted p ++ pats_dotted ps

abbrev pub dots_from : ℕ → List Held → List (Dot Term)
dots_from i [] = []
dots_from i (v ∷ vs) = record { at = i; value = v.value; ty = v.ty } ∷ dots_from (i + 1) vs

abbrev pub left_with : Left → CorePats Held → CheckedLeft Term
left_with l ps = record { context = reverse l.context; pats = pats_values ps; ty = l.ty; named = pats_named ps; dots = dots_from 0 (pats_dotted ps); inserted = l.inserted }

abbrev pub left_of : Left → CheckedLeft Term
left_of l = left_with l (settled_pats l (pats_in l.pats))

-- ---- the left side of a clause

-- of these patterns and projections, for the function f of type a
abbrev pub left_by : Signature Term → ℕ → Term → List ElimMeaning → Reads (CheckedLeft Term)
left_by g f a ms = all_elims g f ms (start a) >>= (λ l. gives (left_of l))

-- of a clause of a function of type a
abbrev pub left_read : Signature Term → Term → ResolvedClause → Reads (CheckedLeft Term)
left_read g a q = left_by g q.function a (map (pattern_meaning g q.function) q.patterns)

-- the unifier's answers where f has the solutions of metavariables, which are replaced everywhere
pub record AnswersWith (g : Signature Term) (f : Solutions) (fuel depth : ℕ) (c : Context Term) (es : List Equation) (v : Unified) : Type 0 where
  pub outcome : Answer
  pub is : UnifyOf g f fuel depth c es outcome
  pub says : v ≡ unified_of (telescope_map (replace f) c) outcome

-- over a signature with solutions s of metavariables, which f gives in full, with this fuel for each head form and to this depth in each
-- comparison: the checked left side of a clause of a function of type a, or its refusal
abbrev pub LeftOf : Signature Term → Solutions → Solutions → ℕ → ℕ → Term → ResolvedClause → Outcome Refusal (CheckedLeft Term) → Type 0
LeftOf g s f fuel depth a q r = Comes g s fuel (AnswersWith g f fuel depth) (left_read g a q) r
