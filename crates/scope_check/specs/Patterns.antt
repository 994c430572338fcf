-- The meaning of the patterns of a left side, as a function.
use Rattle.std.specs.Prelude.{ℕ, Bool, true, false, List, [], ◌∷◌, ◌++◌, map, reverse, Option, Some, None, is_some, if◌then◌else◌, Ok}
use Rattle.std.specs.List.{list_any}
use Rattle.source_tree.specs.declared.place.Place.{Place}
use Rattle.source_tree.specs.declared.place.Name.{Name}
use Rattle.source_tree.specs.declared.pattern.Pattern.{Pattern, fold-Pattern}
use Rattle.source_tree.specs.declared.pattern.Pattern.TheOpen.{Pattern-F}
use Rattle.scope_check.specs.declared.error.ScopeKind.TheVariants.{Misplaced, Nonlinear, NotAConstructor}
use Rattle.scope_table.specs.declared.global.GlobalId.{GlobalId}
use Rattle.scope_table.specs.declared.global.GlobalId.TheVariants as g
use Rattle.scope_check.specs.declared.holes.Holes.TheVariants as h
use Rattle.scope_check.specs.declared.depth.Depth.{Depth}
use Rattle.scope_check.specs.declared.depth.Depth.TheVariants.{Outer, Inner}
use Rattle.scope_check.specs.declared.head.Head.{Head}
use Rattle.resolved_tree.specs.declared.resolved.ResolvedPattern.{ResolvedPattern}
use Rattle.resolved_tree.specs.declared.resolved.ResolvedPattern.TheVariants as rp
use Rattle.scope_check.specs.Answers.{Checked, ◌>>=◌, refused}
use Rattle.scope_table.specs.Known.{Known, place_of, global_in, Texts, with_text}
use Rattle.scope_check.specs.Mentions.{all_of}
use Rattle.scope_check.specs.Exprs.{Locals, label, named, qualified, field_named, whole, expr}

-- ---- `()` at any depth

abbrev pub absurd_step : Pattern-F Bool → Bool
absurd_step (Pattern-F.Implicit p q) = q
absurd_step (Pattern-F.Named p x q) = q
absurd_step (Pattern-F.Project p x) = false
absurd_step (Pattern-F.ProjectQualified p x) = false
absurd_step (Pattern-F.Name p x qs) = list_any (λ b. b) qs
absurd_step (Pattern-F.Underscore p) = false
absurd_step (Pattern-F.Absurd p) = true
absurd_step (Pattern-F.Dotted p e) = false

unfoldable pub is_absurd : Pattern → Bool
is_absurd q = fold-Pattern Bool absurd_step q

-- ---- what a name is in a pattern

-- a constructor, or none
abbrev pub con_in : GlobalId → Option ℕ
con_in (g.Con c) = Some c
con_in (g.Def d) = None
con_in (g.Family d) = None
con_in (g.Field f) = None

abbrev pub con_of : Option GlobalId → Option ℕ
con_of (Some i) = con_in i
con_of None = None

abbrev pub con_named : Known → Name → Option ℕ
con_named k x = con_of (global_in k.globals x.text)

-- ---- the variables of a left side, from left to right

-- the variables ls with these inside, the last the innermost
abbrev pub inside : Locals → Texts → Locals
inside ls xs = reverse xs ++ ls

-- a name without arguments that is no constructor is a variable
abbrev pub variables_of : Option ℕ → Name → List Texts → Texts
variables_of (Some c) x ms = all_of ms
variables_of None x [] = x.text ∷ []
variables_of None x (m ∷ ms) = []

module _ (k : Known) where
  abbrev pub variables_step : Pattern-F Texts → Texts
  variables_step (Pattern-F.Implicit p q) = q
  variables_step (Pattern-F.Named p x q) = q
  variables_step (Pattern-F.Project p x) = []
  variables_step (Pattern-F.ProjectQualified p x) = []
  variables_step (Pattern-F.Name p x qs) = variables_of (con_named k x) x qs
  variables_step (Pattern-F.Underscore p) = []
  variables_step (Pattern-F.Absurd p) = []
  variables_step (Pattern-F.Dotted p e) = []

  unfoldable pub variables : Pattern → Texts
  variables q = fold-Pattern Texts variables_step q

-- ---- patterns

-- a pattern at a depth, behind the variables bound so far: the pattern, and the variables bound with it
abbrev pub PatternMeaning : Type 0
PatternMeaning = Depth → Texts → Checked (ResolvedPattern × Texts)

-- the patterns from left to right, each behind the variables of those before it
unfoldable pub patterns_from : Depth → List ResolvedPattern → List PatternMeaning → Texts → Checked (List ResolvedPattern × Texts)
patterns_from depth found [] seen = Ok (found, seen)
patterns_from depth found (m ∷ ms) seen = m depth seen >>= (λ q. patterns_from depth (found ++ q.0 ∷ []) ms q.1)

-- a projection, which may not stand in a constructor pattern
abbrev pub projection : Depth → Place → Name → ℕ → Checked ResolvedPattern
projection Outer p x f = Ok (rp.Project p f)
projection Inner p x f = refused Misplaced x

-- a dotted pattern
abbrev pub dotted : Place → Checked Head → Checked ResolvedPattern
dotted p m = m >>= (λ y. whole y >>= (λ e. Ok (rp.Dotted p e)))

-- a dot before a name: a projection, if the name is a field, and else a dotted pattern
abbrev pub dot : Depth → Place → Name → Option ℕ → Checked Head → Checked ResolvedPattern
dot depth p x (Some f) m = projection depth p x f
dot depth p x None m = dotted p m

-- a pattern that binds nothing
abbrev pub kept : Texts → Checked ResolvedPattern → Checked (ResolvedPattern × Texts)
kept seen m = m >>= (λ y. Ok (y, seen))

-- a variable, which may be bound once
abbrev pub variable : Known → Texts → Name → Checked (ResolvedPattern × Texts)
variable k seen x = if is_some (place_of seen x.text) then refused Nonlinear x else Ok (rp.Variable (label k x), with_text seen x.text)

-- a name: a constructor with its patterns, or a variable
abbrev pub pattern_of : Known → Texts → Place → Name → List PatternMeaning → Option ℕ → Checked (ResolvedPattern × Texts)
pattern_of k seen p x ms (Some c) = patterns_from Inner [] ms seen >>= (λ qs. Ok (rp.Con p c qs.0, qs.1))
pattern_of k seen p x [] None = variable k seen x
pattern_of k seen p x (m ∷ ms) None = refused NotAConstructor x

-- under the variables ls of the left side
module _ (k : Known) (ls : Locals) where
  abbrev pub pattern_step : Pattern-F PatternMeaning → PatternMeaning
  pattern_step (Pattern-F.Implicit p q) depth seen = q depth seen >>= (λ y. Ok (rp.Implicit p y.0, y.1))
  pattern_step (Pattern-F.Named p x q) depth seen = q depth seen >>= (λ y. Ok (rp.Named p (label k x) y.0, y.1))
  pattern_step (Pattern-F.Project p x) depth seen = kept seen (dot depth p x (field_named k x) (named k ls x))
  pattern_step (Pattern-F.ProjectQualified p x) depth seen = kept seen (dot depth p x (field_named k x) (qualified k x))
  pattern_step (Pattern-F.Name p x qs) depth seen = pattern_of k seen p x qs (con_named k x)
  pattern_step (Pattern-F.Underscore p) depth seen = Ok (rp.Underscore p, seen)
  pattern_step (Pattern-F.Absurd p) depth seen = Ok (rp.Absurd p, seen)
  pattern_step (Pattern-F.Dotted p e) depth seen = kept seen (expr k h.Misplaced ls e >>= (λ y. Ok (rp.Dotted p y)))

  unfoldable pub pattern : Pattern → PatternMeaning
  pattern q = fold-Pattern PatternMeaning pattern_step q

-- ---- one level over the tree itself

abbrev pub absurd_in : Pattern-F Pattern → Bool
absurd_in (Pattern-F.Implicit p q) = is_absurd q
absurd_in (Pattern-F.Named p x q) = is_absurd q
absurd_in (Pattern-F.Project p x) = false
absurd_in (Pattern-F.ProjectQualified p x) = false
absurd_in (Pattern-F.Name p x qs) = list_any is_absurd qs
absurd_in (Pattern-F.Underscore p) = false
absurd_in (Pattern-F.Absurd p) = true
absurd_in (Pattern-F.Dotted p e) = false

abbrev pub name_variable : Name → List Pattern → Texts
name_variable x [] = x.text ∷ []
name_variable x (q ∷ qs) = []

abbrev pub variables_named : Known → Option ℕ → Name → List Pattern → Texts
variables_named k (Some c) x qs = all_of (map (variables k) qs)
variables_named k None x qs = name_variable x qs

abbrev pub variables_in : Known → Pattern-F Pattern → Texts
variables_in k (Pattern-F.Implicit p q) = variables k q
variables_in k (Pattern-F.Named p x q) = variables k q
variables_in k (Pattern-F.Project p x) = []
variables_in k (Pattern-F.ProjectQualified p x) = []
variables_in k (Pattern-F.Name p x qs) = variables_named k (con_named k x) x qs
variables_in k (Pattern-F.Underscore p) = []
variables_in k (Pattern-F.Absurd p) = []
variables_in k (Pattern-F.Dotted p e) = []

abbrev pub variable_named : Known → Texts → Name → List Pattern → Checked (ResolvedPattern × Texts)
variable_named k seen x [] = variable k seen x
variable_named k seen x (q ∷ qs) = refused NotAConstructor x

module _ (k : Known) (ls : Locals) where
  abbrev pub patterns : Depth → List ResolvedPattern → List Pattern → Texts → Checked (List ResolvedPattern × Texts)
  patterns depth found qs seen = patterns_from depth found (map (pattern k ls) qs) seen

  abbrev pub pattern_named : Texts → Place → Name → List Pattern → Option ℕ → Checked (ResolvedPattern × Texts)
  pattern_named seen p x qs (Some c) = patterns Inner [] qs seen >>= (λ y. Ok (rp.Con p c y.0, y.1))
  pattern_named seen p x qs None = variable_named k seen x qs

  abbrev pub pattern_in : Depth → Texts → Pattern-F Pattern → Checked (ResolvedPattern × Texts)
  pattern_in depth seen (Pattern-F.Implicit p q) = pattern k ls q depth seen >>= (λ y. Ok (rp.Implicit p y.0, y.1))
  pattern_in depth seen (Pattern-F.Named p x q) = pattern k ls q depth seen >>= (λ y. Ok (rp.Named p (label k x) y.0, y.1))
  pattern_in depth seen (Pattern-F.Project p x) = kept seen (dot depth p x (field_named k x) (named k ls x))
  pattern_in depth seen (Pattern-F.ProjectQualified p x) = kept seen (dot depth p x (field_named k x) (qualified k x))
  pattern_in depth seen (Pattern-F.Name p x qs) = pattern_named seen p x qs (con_named k x)
  pattern_in depth seen (Pattern-F.Underscore p) = Ok (rp.Underscore p, seen)
  pattern_in depth seen (Pattern-F.Absurd p) = Ok (rp.Absurd p, seen)
  pattern_in depth seen (Pattern-F.Dotted p e) = kept seen (expr k h.Misplaced ls e >>= (λ y. Ok (rp.Dotted p y)))
