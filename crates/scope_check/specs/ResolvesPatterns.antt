-- What a pattern of a left side stands for, behind the variables bound before it, with the variables bound behind it; or its first
-- refusal from left to right: a relation by cases. Dotted patterns stand under ls, all the variables of the left side.
use Rattle.std.specs.Prelude.{◌≡◌, ℕ, true, false, List, [], ◌∷◌, Some, None, is_some, Ok, Err}
use Rattle.source_tree.specs.declared.place.Place.{Place}
use Rattle.source_tree.specs.declared.place.Name.{Name}
use Rattle.source_tree.specs.declared.expr.Expr.{Expr, out-Expr}
use Rattle.source_tree.specs.declared.expr.Arg.TheOpen.{Expr-F}
use Rattle.source_tree.specs.declared.pattern.Pattern.{Pattern, out-Pattern}
use Rattle.source_tree.specs.declared.pattern.Pattern.TheOpen.{Pattern-F}
use Rattle.scope_check.specs.declared.error.ScopeError.{ScopeError}
use Rattle.scope_check.specs.declared.error.ScopeKind.TheVariants.{Misplaced, Nonlinear, NotAConstructor}
use Rattle.scope_check.specs.declared.holes.Holes.TheVariants as h
use Rattle.scope_check.specs.declared.depth.Depth.{Depth}
use Rattle.scope_check.specs.declared.depth.Depth.TheVariants.{Outer, Inner}
use Rattle.resolved_tree.specs.declared.resolved.ResolvedExpr.{ResolvedExpr}
use Rattle.resolved_tree.specs.declared.resolved.ResolvedPattern.{ResolvedPattern}
use Rattle.resolved_tree.specs.declared.resolved.ResolvedPattern.TheVariants as rp
use Rattle.scope_check.specs.Answers.{Checked, made, refused}
use Rattle.scope_table.specs.Known.{Known, place_of, Texts, with_text}
use Rattle.scope_check.specs.Exprs.{Locals, label, field_named}
use Rattle.scope_check.specs.Patterns.{con_named}
use Rattle.scope_check.specs.ResolvesExprs.{ResolvesExpr}

mutual
  pub data ResolvesPattern (k : Known) (ls : Locals) : Depth → Texts → Pattern-F Pattern → Checked (ResolvedPattern × Texts) → Type 0 where
    implicit_pattern : {at : Depth} {seen : Texts} {p : Place} {q : Pattern} {m : Checked (ResolvedPattern × Texts)}
        → ResolvesPattern k ls at seen (out-Pattern q) m
        → ResolvesPattern k ls at seen (Pattern-F.Implicit p q) (made (λ y. (rp.Implicit p y.0, y.1)) m)
    named_pattern : {at : Depth} {seen : Texts} {p : Place} {x : Name} {q : Pattern} {m : Checked (ResolvedPattern × Texts)}
        → ResolvesPattern k ls at seen (out-Pattern q) m
        → ResolvesPattern k ls at seen (Pattern-F.Named p x q) (made (λ y. (rp.Named p (label k x) y.0, y.1)) m)
    -- a dot before a name that is a field in scope is a projection
    projection : {seen : Texts} {p : Place} {x : Name} {f : ℕ} → field_named k x ≡ Some f
        → ResolvesPattern k ls Outer seen (Pattern-F.Project p x) (Ok (rp.Project p f, seen))
    qualified_projection : {seen : Texts} {p : Place} {x : Name} {f : ℕ} → field_named k x ≡ Some f
        → ResolvesPattern k ls Outer seen (Pattern-F.ProjectQualified p x) (Ok (rp.Project p f, seen))
    -- a projection inside a constructor pattern
    projection_in_constructor : {seen : Texts} {p : Place} {x : Name} {f : ℕ} → field_named k x ≡ Some f
        → ResolvesPattern k ls Inner seen (Pattern-F.Project p x) (refused Misplaced x)
    qualified_projection_in_constructor : {seen : Texts} {p : Place} {x : Name} {f : ℕ} → field_named k x ≡ Some f
        → ResolvesPattern k ls Inner seen (Pattern-F.ProjectQualified p x) (refused Misplaced x)
    -- any other dot begins a dotted pattern
    dotted_name : {at : Depth} {seen : Texts} {p : Place} {x : Name} {m : Checked ResolvedExpr} → field_named k x ≡ None
        → ResolvesExpr k h.Misplaced ls (Expr-F.«Expr::Name» x) m
        → ResolvesPattern k ls at seen (Pattern-F.Project p x) (made (λ y. (rp.Dotted p y, seen)) m)
    dotted_qualified_name : {at : Depth} {seen : Texts} {p : Place} {x : Name} {m : Checked ResolvedExpr} → field_named k x ≡ None
        → ResolvesExpr k h.Misplaced ls (Expr-F.Qualified x) m
        → ResolvesPattern k ls at seen (Pattern-F.ProjectQualified p x) (made (λ y. (rp.Dotted p y, seen)) m)
    -- no hole may stand in it
    dotted : {at : Depth} {seen : Texts} {p : Place} {a : Expr} {m : Checked ResolvedExpr} → ResolvesExpr k h.Misplaced ls (out-Expr a) m
        → ResolvesPattern k ls at seen (Pattern-F.Dotted p a) (made (λ y. (rp.Dotted p y, seen)) m)
    -- a name that is a constructor
    constructor_pattern : {at : Depth} {seen : Texts} {p : Place} {x : Name} {qs : List Pattern} {c : ℕ} {m : Checked (List ResolvedPattern × Texts)}
        → con_named k x ≡ Some c → ResolvesPatterns k ls Inner seen qs m
        → ResolvesPattern k ls at seen (Pattern-F.Name p x qs) (made (λ y. (rp.Con p c y.0, y.1)) m)
    -- otherwise, without arguments, it is a variable
    variable_pattern : {at : Depth} {seen : Texts} {p : Place} {x : Name} → con_named k x ≡ None → is_some (place_of seen x.text) ≡ false
        → ResolvesPattern k ls at seen (Pattern-F.Name p x []) (Ok (rp.Variable (label k x), with_text seen x.text))
    -- a variable bound twice in a left side
    bound_twice : {at : Depth} {seen : Texts} {p : Place} {x : Name} → con_named k x ≡ None → is_some (place_of seen x.text) ≡ true
        → ResolvesPattern k ls at seen (Pattern-F.Name p x []) (refused Nonlinear x)
    -- no constructor, and with arguments
    not_a_constructor : {at : Depth} {seen : Texts} {p : Place} {x : Name} {q : Pattern} {qs : List Pattern} → con_named k x ≡ None
        → ResolvesPattern k ls at seen (Pattern-F.Name p x (q ∷ qs)) (refused NotAConstructor x)
    underscore_pattern : {at : Depth} {seen : Texts} {p : Place}
        → ResolvesPattern k ls at seen (Pattern-F.Underscore p) (Ok (rp.Underscore p, seen))
    absurd_pattern : {at : Depth} {seen : Texts} {p : Place} → ResolvesPattern k ls at seen (Pattern-F.Absurd p) (Ok (rp.Absurd p, seen))

  -- patterns from left to right, each behind the variables of those before it
  pub data ResolvesPatterns (k : Known) (ls : Locals) : Depth → Texts → List Pattern → Checked (List ResolvedPattern × Texts) → Type 0 where
    no_pattern : {at : Depth} {seen : Texts} → ResolvesPatterns k ls at seen [] (Ok ([], seen))
    pattern_refused : {at : Depth} {seen : Texts} {q : Pattern} {qs : List Pattern} {e : ScopeError}
        → ResolvesPattern k ls at seen (out-Pattern q) (Err e)
        → ResolvesPatterns k ls at seen (q ∷ qs) (Err e)
    next_pattern : {at : Depth} {seen more : Texts} {q : Pattern} {qs : List Pattern} {y : ResolvedPattern} {m : Checked (List ResolvedPattern × Texts)}
        → ResolvesPattern k ls at seen (out-Pattern q) (Ok (y, more)) → ResolvesPatterns k ls at more qs m
        → ResolvesPatterns k ls at seen (q ∷ qs) (made (λ z. (y ∷ z.0, z.1)) m)
