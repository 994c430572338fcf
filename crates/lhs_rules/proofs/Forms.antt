-- How each form of pattern is read: one equation a form.
use Rattle.std.proofs.Common.{◌≡◌, sym, ap, ◌∙◌}
use Rattle.std.specs.Prelude.{ℕ, false, List, map}
use Rattle.core_rules.specs.Term.{Term}
use Rattle.core_rules.specs.Signature.{Signature, Written, Variable, Underscore}
use Rattle.source_tree.specs.declared.place.Place.{Place}
use Rattle.resolved_tree.specs.declared.resolved.ResolvedName.{ResolvedName}
use Rattle.resolved_tree.specs.declared.resolved.ResolvedExpr.{ResolvedExpr}
use Rattle.resolved_tree.specs.declared.resolved.ResolvedPattern.{ResolvedPattern, fold_out-ResolvedPattern, out-ResolvedPattern, map-ResolvedPattern, roll-ResolvedPattern, out-roll-ResolvedPattern}
use Rattle.resolved_tree.specs.declared.resolved.ResolvedPattern.TheVariants as r
use Rattle.resolved_tree.specs.declared.resolved.ResolvedPattern.TheOpen.{ResolvedPattern-F}
use Rattle.need_rules.specs.Needs as needs
use Rattle.lhs_rules.specs.Rules.{ElimMeaning}
use Rattle.lhs_rules.specs.Patterns.{plain, variable, of_con, of_nothing, inside, pattern_step, pattern_meaning}

module _ (g : Signature Term) (f : ℕ) where
  pub pattern_out : (q : ResolvedPattern) → pattern_meaning g f q ≡ pattern_step g f (map-ResolvedPattern ResolvedPattern ElimMeaning (pattern_meaning g f) (out-ResolvedPattern q))
  unfolding pattern_meaning
  pattern_out q = fold_out-ResolvedPattern ElimMeaning (pattern_step g f) q

  pub implicit_means : (p : Place) (q : ResolvedPattern) → pattern_meaning g f (r.Implicit p q) ≡ record { pos = p.pos; next = needs.Braces (inside (pattern_meaning g f q)) }
  implicit_means p q = ap (pattern_meaning g f) (sym (r.rolls-Implicit p q)) ∙ pattern_out (roll-ResolvedPattern (ResolvedPattern-F.Implicit p q)) ∙ ap (λ l. pattern_step g f (map-ResolvedPattern ResolvedPattern ElimMeaning (pattern_meaning g f) l)) (out-roll-ResolvedPattern (ResolvedPattern-F.Implicit p q))

  pub named_means : (p : Place) (x : ResolvedName) (q : ResolvedPattern) → pattern_meaning g f (r.Named p x q) ≡ record { pos = p.pos; next = needs.Named x.id (inside (pattern_meaning g f q)) }
  named_means p x q = ap (pattern_meaning g f) (sym (r.rolls-Named p x q)) ∙ pattern_out (roll-ResolvedPattern (ResolvedPattern-F.Named p x q)) ∙ ap (λ l. pattern_step g f (map-ResolvedPattern ResolvedPattern ElimMeaning (pattern_meaning g f) l)) (out-roll-ResolvedPattern (ResolvedPattern-F.Named p x q))

  pub project_means : (p : Place) (h : ℕ) → pattern_meaning g f (r.Project p h) ≡ record { pos = p.pos; next = needs.Field h }
  project_means p h = ap (pattern_meaning g f) (sym (r.rolls-Project p h)) ∙ pattern_out (roll-ResolvedPattern (ResolvedPattern-F.Project p h)) ∙ ap (λ l. pattern_step g f (map-ResolvedPattern ResolvedPattern ElimMeaning (pattern_meaning g f) l)) (out-roll-ResolvedPattern (ResolvedPattern-F.Project p h))

  pub variable_means : (x : ResolvedName) → pattern_meaning g f (r.Variable x) ≡ plain (variable x.place.pos (Variable x.id false))
  variable_means x = ap (pattern_meaning g f) (sym (r.rolls-Variable x)) ∙ pattern_out (roll-ResolvedPattern (ResolvedPattern-F.Variable x)) ∙ ap (λ l. pattern_step g f (map-ResolvedPattern ResolvedPattern ElimMeaning (pattern_meaning g f) l)) (out-roll-ResolvedPattern (ResolvedPattern-F.Variable x))

  pub con_means : (p : Place) (k : ℕ) (qs : List ResolvedPattern) → pattern_meaning g f (r.Con p k qs) ≡ plain (of_con g f p.pos k (map (pattern_meaning g f) qs))
  con_means p k qs = ap (pattern_meaning g f) (sym (r.rolls-Con p k qs)) ∙ pattern_out (roll-ResolvedPattern (ResolvedPattern-F.Con p k qs)) ∙ ap (λ l. pattern_step g f (map-ResolvedPattern ResolvedPattern ElimMeaning (pattern_meaning g f) l)) (out-roll-ResolvedPattern (ResolvedPattern-F.Con p k qs))

  pub underscore_means : (p : Place) → pattern_meaning g f (r.Underscore p) ≡ plain (variable p.pos Underscore)
  underscore_means p = ap (pattern_meaning g f) (sym (r.rolls-Underscore p)) ∙ pattern_out (roll-ResolvedPattern (ResolvedPattern-F.Underscore p)) ∙ ap (λ l. pattern_step g f (map-ResolvedPattern ResolvedPattern ElimMeaning (pattern_meaning g f) l)) (out-roll-ResolvedPattern (ResolvedPattern-F.Underscore p))

  pub absurd_means : (p : Place) → pattern_meaning g f (r.Absurd p) ≡ plain (of_nothing g f p.pos)
  absurd_means p = ap (pattern_meaning g f) (sym (r.rolls-Absurd p)) ∙ pattern_out (roll-ResolvedPattern (ResolvedPattern-F.Absurd p)) ∙ ap (λ l. pattern_step g f (map-ResolvedPattern ResolvedPattern ElimMeaning (pattern_meaning g f) l)) (out-roll-ResolvedPattern (ResolvedPattern-F.Absurd p))

  pub dotted_means : (p : Place) (e : ResolvedExpr) → pattern_meaning g f (r.Dotted p e) ≡ plain (variable p.pos Written)
  dotted_means p e = ap (pattern_meaning g f) (sym (r.rolls-Dotted p e)) ∙ pattern_out (roll-ResolvedPattern (ResolvedPattern-F.Dotted p e)) ∙ ap (λ l. pattern_step g f (map-ResolvedPattern ResolvedPattern ElimMeaning (pattern_meaning g f) l)) (out-roll-ResolvedPattern (ResolvedPattern-F.Dotted p e))
