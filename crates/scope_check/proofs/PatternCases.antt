-- The cases of patterns are those of the function: what holds by the cases is what the function gives, and what it gives holds.
use Rattle.std.proofs.Common.{◌≡◌, ◌∙◌, Ok, Err, Some, None, List, [], ◌∷◌, ◌++◌, map, ℕ, true, false, Bool, if◌then◌else◌, Option, is_some, refl, ap, sym, subst}
use Rattle.source_tree.specs.declared.place.Place.{Place}
use Rattle.source_tree.specs.declared.place.Name.{Name}
use Rattle.source_tree.specs.declared.pattern.Pattern.{Pattern, out-Pattern, ind-Pattern, roll-Pattern, out-roll-Pattern, map-Pattern}
use Rattle.source_tree.specs.declared.pattern.Pattern.TheOpen.{Pattern-F}
use Rattle.scope_check.specs.declared.error.ScopeKind.TheVariants.{Nonlinear}
use Rattle.scope_check.specs.declared.head.Head.{Head}
use Rattle.scope_check.specs.declared.head.Head.TheVariants.{Whole, Field}
use Rattle.scope_check.specs.declared.holes.Holes.TheVariants as h
use Rattle.scope_check.specs.declared.depth.Depth.{Depth}
use Rattle.scope_check.specs.declared.depth.Depth.TheVariants.{Outer, Inner}
use Rattle.resolved_tree.specs.declared.resolved.ResolvedExpr.{ResolvedExpr}
use Rattle.resolved_tree.specs.declared.resolved.ResolvedPattern.{ResolvedPattern}
use Rattle.resolved_tree.specs.declared.resolved.ResolvedPattern.TheVariants as rp
use Rattle.scope_check.specs.Answers.{Checked, and_then, ◌>>=◌, made, refused}
use Rattle.scope_table.specs.Known.{Known, place_of, Texts, with_text}
use Rattle.scope_check.specs.Exprs.{Locals, label, field_named, named, qualified, whole, expr}
use Rattle.scope_check.specs.Patterns.{PatternMeaning, con_named, pattern, patterns, patterns_from, pattern_in, pattern_named, variable, kept, dot, dotted, projection}
use Rattle.scope_check.specs.ResolvesExprs as e
use Rattle.scope_check.specs.ResolvesPatterns as c
use Rattle.scope_check.specs.ResolvesPatterns.{ResolvesPattern, ResolvesPatterns}
use Rattle.scope_check.proofs.PatternFolds.{pattern_at}
use Rattle.scope_check.proofs.Answered.{then_by, made_by, behind, behind_none, behind_both, then_behind, then_same}
use Rattle.scope_check.proofs.ExprCases.{expr_at, expr_is, expr_holds, name_holds, global_holds, expr_behind}

patterns_behind : (at : Depth) (found : List ResolvedPattern) (ms : List PatternMeaning) (seen : Texts) → patterns_from at found ms seen ≡ behind found (patterns_from at [] ms seen)
unfolding patterns_from
patterns_behind at found [] seen = behind_none found seen
patterns_behind at found (m ∷ ms) seen =
    then_behind found (m at seen) (λ b. patterns_from at (found ++ b.0 ∷ []) ms b.1) (λ b. patterns_from at (b.0 ∷ []) ms b.1)
    (λ b. patterns_behind at (found ++ b.0 ∷ []) ms b.1 ∙ behind_both found (b.0 ∷ []) (patterns_from at [] ms b.1) ∙ ap (behind found) (sym (patterns_behind at (b.0 ∷ []) ms b.1)))

-- a dotted pattern binds nothing
dotted_kept : (seen : Texts) (p : Place) (n : Checked Head) → kept seen (dotted p n) ≡ made (λ y. (rp.Dotted p y, seen)) (and_then n whole)
dotted_kept seen p (Ok (Whole y)) = refl
dotted_kept seen p (Ok (Field x f)) = refl
dotted_kept seen p (Err q) = refl

expr_kept : (seen : Texts) (p : Place) (n : Checked ResolvedExpr) → kept seen (n >>= (λ y. Ok (rp.Dotted p y))) ≡ made (λ y. (rp.Dotted p y, seen)) n
expr_kept seen p (Ok y) = refl
expr_kept seen p (Err q) = refl

module _ (k : Known) (ls : Locals) where
  patterns_first : (at : Depth) (seen : Texts) (q : Pattern) (qs : List Pattern) → patterns k ls at [] (q ∷ qs) seen ≡ and_then (pattern k ls q at seen) (λ y. behind (y.0 ∷ []) (patterns k ls at [] qs y.1))
  unfolding patterns_from
  patterns_first at seen q qs = then_same (pattern k ls q at seen) (λ y. patterns_from at (y.0 ∷ []) (map (pattern k ls) qs) y.1) (λ y. behind (y.0 ∷ []) (patterns k ls at [] qs y.1)) (λ y. patterns_behind at (y.0 ∷ []) (map (pattern k ls) qs) y.1)

  dot_field : (at : Depth) (seen : Texts) (p : Place) (x : Name) (n : Checked Head) {f : ℕ} → field_named k x ≡ Some f → kept seen (dot at p x (field_named k x) n) ≡ kept seen (projection at p x f)
  dot_field at seen p x n q = ap (λ (o : Option ℕ). kept seen (dot at p x o n)) q

  dot_other : (at : Depth) (seen : Texts) (p : Place) (x : Name) (n : Checked Head) → field_named k x ≡ None → kept seen (dot at p x (field_named k x) n) ≡ made (λ y. (rp.Dotted p y, seen)) (and_then n whole)
  dot_other at seen p x n q = ap (λ (o : Option ℕ). kept seen (dot at p x o n)) q ∙ dotted_kept seen p n

  variable_when : (seen : Texts) (x : Name) {b : Bool} → is_some (place_of seen x.text) ≡ b → variable k seen x ≡ (if b then refused Nonlinear x else Ok (rp.Variable (label k x), with_text seen x.text))
  variable_when seen x q = ap (λ (t : Bool). if t then refused Nonlinear x else Ok (rp.Variable (label k x), with_text seen x.text)) q

  -- ---- what holds is what the function gives

  mutual
    unfolding patterns_from

    pub pattern_is : {at : Depth} {seen : Texts} {l : Pattern-F Pattern} {m : Checked (ResolvedPattern × Texts)} → ResolvesPattern k ls at seen l m → pattern_in k ls at seen l ≡ m
    pattern_is (c.implicit_pattern {at = at} {seen = seen} {p = p} {q = q} d) = made_by (λ (y : ResolvedPattern × Texts). (rp.Implicit p y.0, y.1)) (pattern_at k ls at seen q ∙ pattern_is d)
    pattern_is (c.named_pattern {at = at} {seen = seen} {p = p} {x = x} {q = q} d) = made_by (λ (y : ResolvedPattern × Texts). (rp.Named p (label k x) y.0, y.1)) (pattern_at k ls at seen q ∙ pattern_is d)
    pattern_is (c.projection {seen = seen} {p = p} {x = x} s) = dot_field Outer seen p x (named k ls x) s
    pattern_is (c.qualified_projection {seen = seen} {p = p} {x = x} s) = dot_field Outer seen p x (qualified k x) s
    pattern_is (c.projection_in_constructor {seen = seen} {p = p} {x = x} s) = dot_field Inner seen p x (named k ls x) s
    pattern_is (c.qualified_projection_in_constructor {seen = seen} {p = p} {x = x} s) = dot_field Inner seen p x (qualified k x) s
    pattern_is (c.dotted_name {at = at} {seen = seen} {p = p} {x = x} s d) = dot_other at seen p x (named k ls x) s ∙ made_by (λ y. (rp.Dotted p y, seen)) (expr_is k h.Misplaced d)
    pattern_is (c.dotted_qualified_name {at = at} {seen = seen} {p = p} {x = x} s d) = dot_other at seen p x (qualified k x) s ∙ made_by (λ y. (rp.Dotted p y, seen)) (expr_is k h.Misplaced d)
    pattern_is (c.dotted {seen = seen} {p = p} {a = a} d) = expr_kept seen p (expr k h.Misplaced ls a) ∙ made_by (λ y. (rp.Dotted p y, seen)) (expr_at k h.Misplaced ls a ∙ expr_is k h.Misplaced d)
    pattern_is (c.constructor_pattern {seen = seen} {p = p} {x = x} {qs = qs} {c = n} s ds) = ap (pattern_named k ls seen p x qs) s ∙ made_by (λ (y : List ResolvedPattern × Texts). (rp.Con p n y.0, y.1)) (patterns_are ds)
    pattern_is (c.variable_pattern {seen = seen} {p = p} {x = x} s q) = ap (pattern_named k ls seen p x []) s ∙ variable_when seen x q
    pattern_is (c.bound_twice {seen = seen} {p = p} {x = x} s q) = ap (pattern_named k ls seen p x []) s ∙ variable_when seen x q
    pattern_is (c.not_a_constructor {seen = seen} {p = p} {x = x} {q = q} {qs = qs} s) = ap (pattern_named k ls seen p x (q ∷ qs)) s
    pattern_is c.underscore_pattern = refl
    pattern_is c.absurd_pattern = refl

    pub patterns_are : {at : Depth} {seen : Texts} {qs : List Pattern} {m : Checked (List ResolvedPattern × Texts)} → ResolvesPatterns k ls at seen qs m → patterns k ls at [] qs seen ≡ m
    patterns_are c.no_pattern = refl
    patterns_are (c.pattern_refused {at = at} {seen = seen} {q = q} {qs = qs} d) = patterns_first at seen q qs ∙ then_by (λ y. behind (y.0 ∷ []) (patterns k ls at [] qs y.1)) (pattern_at k ls at seen q ∙ pattern_is d) refl
    patterns_are (c.next_pattern {at = at} {seen = seen} {q = q} {qs = qs} {y = y} d ds) = patterns_first at seen q qs ∙ then_by (λ y. behind (y.0 ∷ []) (patterns k ls at [] qs y.1)) (pattern_at k ls at seen q ∙ pattern_is d) (ap (behind (y ∷ [])) (patterns_are ds))

  -- ---- what the function gives holds

  abbrev PatternHolds : Pattern → Type 0
  PatternHolds q = (at : Depth) (seen : Texts) → ResolvesPattern k ls at seen (out-Pattern q) (pattern k ls q at seen)

  abbrev SomePattern : Type 0
  SomePattern = (q : Pattern) × PatternHolds q

  patterns_more : {at : Depth} {seen : Texts} {q : Pattern} {qs : List Pattern} (m : Checked (ResolvedPattern × Texts)) → ResolvesPattern k ls at seen (out-Pattern q) m → ((more : Texts) → ResolvesPatterns k ls at more qs (patterns k ls at [] qs more))
      → ResolvesPatterns k ls at seen (q ∷ qs) (and_then m (λ y. behind (y.0 ∷ []) (patterns k ls at [] qs y.1)))
  patterns_more (Ok y) d ds = c.next_pattern {y = y.0} d (ds y.1)
  patterns_more (Err q) d ds = c.pattern_refused d

  some_patterns_hold : (at : Depth) (qs : List SomePattern) (seen : Texts) → ResolvesPatterns k ls at seen (map (λ q. q.0) qs) (patterns k ls at [] (map (λ q. q.0) qs) seen)
  unfolding patterns_from
  some_patterns_hold at [] seen = c.no_pattern
  some_patterns_hold at (q ∷ qs) seen = subst (λ m. ResolvesPatterns k ls at seen (map (λ q. q.0) (q ∷ qs)) m) (sym (patterns_first at seen q.0 (map (λ q. q.0) qs))) (patterns_more (pattern k ls q.0 at seen) (q.1 at seen) (some_patterns_hold at qs))

  dot_holds : (at : Depth) (seen : Texts) (p : Place) (x : Name) (o : Option ℕ) → field_named k x ≡ o → ResolvesPattern k ls at seen (Pattern-F.Project p x) (kept seen (dot at p x o (named k ls x)))
  dot_holds Outer seen p x (Some f) s = c.projection s
  dot_holds Inner seen p x (Some f) s = c.projection_in_constructor s
  dot_holds at seen p x None s = subst (λ m. ResolvesPattern k ls at seen (Pattern-F.Project p x) m) (sym (dotted_kept seen p (named k ls x))) (c.dotted_name s (expr_behind k h.Misplaced (named k ls x) (e.name (name_holds k ls x))))

  qualified_dot_holds : (at : Depth) (seen : Texts) (p : Place) (x : Name) (o : Option ℕ) → field_named k x ≡ o → ResolvesPattern k ls at seen (Pattern-F.ProjectQualified p x) (kept seen (dot at p x o (qualified k x)))
  qualified_dot_holds Outer seen p x (Some f) s = c.qualified_projection s
  qualified_dot_holds Inner seen p x (Some f) s = c.qualified_projection_in_constructor s
  qualified_dot_holds at seen p x None s = subst (λ m. ResolvesPattern k ls at seen (Pattern-F.ProjectQualified p x) m) (sym (dotted_kept seen p (qualified k x))) (c.dotted_qualified_name s (expr_behind k h.Misplaced (qualified k x) (e.qualified_name (global_holds k x))))

  variable_holds : (at : Depth) (seen : Texts) (p : Place) (x : Name) → con_named k x ≡ None → (b : Bool) → is_some (place_of seen x.text) ≡ b
      → ResolvesPattern k ls at seen (Pattern-F.Name p x []) (if b then refused Nonlinear x else Ok (rp.Variable (label k x), with_text seen x.text))
  variable_holds at seen p x s true q = c.bound_twice s q
  variable_holds at seen p x s false q = c.variable_pattern s q

  name_pattern_holds : (at : Depth) (seen : Texts) (p : Place) (x : Name) (qs : List SomePattern) (o : Option ℕ) → con_named k x ≡ o → ResolvesPattern k ls at seen (Pattern-F.Name p x (map (λ q. q.0) qs)) (pattern_named k ls seen p x (map (λ q. q.0) qs) o)
  name_pattern_holds at seen p x qs (Some n) s = c.constructor_pattern s (some_patterns_hold Inner qs seen)
  name_pattern_holds at seen p x [] None s = variable_holds at seen p x s (is_some (place_of seen x.text)) refl
  name_pattern_holds at seen p x (q ∷ qs) None s = c.not_a_constructor s

  pattern_form : (y : Pattern-F SomePattern) (at : Depth) (seen : Texts) → ResolvesPattern k ls at seen (map-Pattern SomePattern Pattern (λ q. q.0) y) (pattern_in k ls at seen (map-Pattern SomePattern Pattern (λ q. q.0) y))
  pattern_form (Pattern-F.Implicit p q) at seen = c.implicit_pattern (q.1 at seen)
  pattern_form (Pattern-F.Named p x q) at seen = c.named_pattern (q.1 at seen)
  pattern_form (Pattern-F.Project p x) at seen = dot_holds at seen p x (field_named k x) refl
  pattern_form (Pattern-F.ProjectQualified p x) at seen = qualified_dot_holds at seen p x (field_named k x) refl
  pattern_form (Pattern-F.Name p x qs) at seen = name_pattern_holds at seen p x qs (con_named k x) refl
  pattern_form (Pattern-F.Underscore p) at seen = c.underscore_pattern
  pattern_form (Pattern-F.Absurd p) at seen = c.absurd_pattern
  pattern_form (Pattern-F.Dotted p a) at seen = subst (λ m. ResolvesPattern k ls at seen (Pattern-F.Dotted p a) m) (sym (expr_kept seen p (expr k h.Misplaced ls a))) (c.dotted (expr_holds k h.Misplaced ls a))

  pattern_step : (x : Pattern-F Pattern) (y : Pattern-F SomePattern) → map-Pattern SomePattern Pattern (λ q. q.0) y ≡ x → PatternHolds (roll-Pattern x)
  pattern_step x y is at seen = subst (λ m. ResolvesPattern k ls at seen (out-Pattern (roll-Pattern x)) m) (sym (pattern_at k ls at seen (roll-Pattern x))) (subst (λ l. ResolvesPattern k ls at seen l (pattern_in k ls at seen l)) (is ∙ sym (out-roll-Pattern x)) (pattern_form y at seen))

  pattern_holds : (q : Pattern) → PatternHolds q
  pattern_holds = ind-Pattern PatternHolds pattern_step

  pub patterns_hold : (at : Depth) (qs : List Pattern) (seen : Texts) → ResolvesPatterns k ls at seen qs (patterns k ls at [] qs seen)
  unfolding patterns_from
  patterns_hold at [] seen = c.no_pattern
  patterns_hold at (q ∷ qs) seen = subst (λ m. ResolvesPatterns k ls at seen (q ∷ qs) m) (sym (patterns_first at seen q qs)) (patterns_more (pattern k ls q at seen) (pattern_holds q at seen) (patterns_hold at qs))
