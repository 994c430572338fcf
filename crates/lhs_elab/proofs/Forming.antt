-- The meaning of a pattern by its form.
use Rattle.std.proofs.Common.{◌≡◌, ap, ◌∙◌}
use Rattle.std.specs.Prelude.{ℕ, false, List, map}
use Rattle.core_rules.specs.Term.{Term}
use Rattle.core_rules.specs.Signature.{Signature, Written, Variable, Underscore}
use Rattle.source_tree.specs.declared.place.Place.{Place}
use Rattle.resolved_tree.specs.declared.resolved.ResolvedName.{ResolvedName}
use Rattle.resolved_tree.specs.declared.resolved.ResolvedExpr.{ResolvedExpr}
use Rattle.resolved_tree.specs.declared.resolved.ResolvedPattern.{ResolvedPattern}
use Rattle.resolved_tree.specs.declared.resolved.ResolvedPattern.TheVariants as rp
use Rattle.need_rules.specs.Needs as needs
use Rattle.lhs_rules.specs.Patterns.{plain, variable, of_con, of_nothing, inside, pattern_meaning}
use Rattle.lhs_rules.proofs.Forms.{implicit_means, named_means, project_means, variable_means, con_means, underscore_means, absurd_means, dotted_means}

module _ (g : Signature Term) (f : ℕ) (q : ResolvedPattern) where
  pub by-implicit : (p : Place) (r : ResolvedPattern) → q ≡ rp.Implicit p r → pattern_meaning g f q ≡ record { pos = p.pos; next = needs.Braces (inside (pattern_meaning g f r)) }
  by-implicit p r e = ap (pattern_meaning g f) e ∙ implicit_means g f p r

  pub by-named : (p : Place) (x : ResolvedName) (r : ResolvedPattern) → q ≡ rp.Named p x r → pattern_meaning g f q ≡ record { pos = p.pos; next = needs.Named x.id (inside (pattern_meaning g f r)) }
  by-named p x r e = ap (pattern_meaning g f) e ∙ named_means g f p x r

  pub by-project : (p : Place) (h : ℕ) → q ≡ rp.Project p h → pattern_meaning g f q ≡ record { pos = p.pos; next = needs.Field h }
  by-project p h e = ap (pattern_meaning g f) e ∙ project_means g f p h

  pub by-variable : (x : ResolvedName) → q ≡ rp.Variable x → pattern_meaning g f q ≡ plain (variable x.place.pos (Variable x.id false))
  by-variable x e = ap (pattern_meaning g f) e ∙ variable_means g f x

  pub by-con : (p : Place) (k : ℕ) (rs : List ResolvedPattern) → q ≡ rp.Con p k rs → pattern_meaning g f q ≡ plain (of_con g f p.pos k (map (pattern_meaning g f) rs))
  by-con p k rs e = ap (pattern_meaning g f) e ∙ con_means g f p k rs

  pub by-underscore : (p : Place) → q ≡ rp.Underscore p → pattern_meaning g f q ≡ plain (variable p.pos Underscore)
  by-underscore p e = ap (pattern_meaning g f) e ∙ underscore_means g f p

  pub by-absurd : (p : Place) → q ≡ rp.Absurd p → pattern_meaning g f q ≡ plain (of_nothing g f p.pos)
  by-absurd p e = ap (pattern_meaning g f) e ∙ absurd_means g f p

  pub by-dotted : (p : Place) (x : ResolvedExpr) → q ≡ rp.Dotted p x → pattern_meaning g f q ≡ plain (variable p.pos Written)
  by-dotted p x e = ap (pattern_meaning g f) e ∙ dotted_means g f p x
