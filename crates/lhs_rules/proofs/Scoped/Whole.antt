-- An accepted left side is in scope.
use Rattle.std.proofs.Common.{◌≡◌, ◌<◌, sym, subst}
use Rattle.std.specs.Prelude.{ℕ, List, [], ◌∷◌, length, map, slice_get, Some}
use Rattle.core_rules.specs.Term.{Term, HasNoMeta}
use Rattle.core_rules.specs.Signature.{Signature, Decl, CheckedLeft, Inserted, defs}
use Rattle.core_rules.specs.Mapped.{AllDecl}
use Rattle.core_rules.specs.InScope.{InScope, SignatureInScope, SolutionsInScope, LeftInScope}
use Rattle.core_rules.specs.Heads.{Solutions}
use Rattle.core_rules.specs.UnifierAnswers.{Unifier}
use Rattle.kernel_rules.specs.Outcome.{Gives}
use Rattle.kernel_rules.proofs.Outcome.{one_gives}
use Rattle.resolved_tree.specs.declared.resolved.ResolvedClause.{ResolvedClause}
use Rattle.resolved_tree.specs.declared.resolved.ResolvedPattern.{ResolvedPattern}
use Rattle.lhs_rules.specs.Asking.{gives, Comes}
use Rattle.lhs_rules.specs.Spots.{Left, start, taken}
use Rattle.lhs_rules.specs.Rules.{one_elim, most_inserted, all_elims}
use Rattle.lhs_rules.specs.Patterns.{pattern_meaning, left_of, AnswersWith, LeftOf}
use Rattle.lhs_rules.proofs.Comes.{then_gives}
use Rattle.lhs_rules.proofs.Steps.{ElimIs, inserted, pattern, field, elim_is}
use Rattle.lhs_rules.proofs.Kept.{ElimKeeps, pattern_keeps}
use Rattle.lhs_rules.proofs.Scoped.Lefts.{SketchIn, LeftIn, with_pat-in, taken-in, projected-in}
use Rattle.lhs_rules.proofs.Scoped.Puts.{BranchesIn, put-in, con_shape-in}
use Rattle.lhs_rules.proofs.Scoped.Branches.{branches-in}
use Rattle.lhs_rules.proofs.Scoped.Settled.{left-in}

module _ (g : Signature Term) (M : ℕ → ℕ → Type 0) (s : Solutions) (fuel : ℕ) (U : Unifier) (sig : SignatureInScope g M) (sol : SolutionsInScope g M s) (branches : BranchesIn g M U) (f : ℕ) (def : f < length (defs g)) where
  pattern-in : (q : ResolvedPattern) → ElimKeeps g s fuel U f (LeftIn g M) (SketchIn g M) (pattern_meaning g f q)
  pattern-in q = pattern_keeps g s fuel U f (LeftIn g M) (SketchIn g M) (λ j. tt) tt (con_shape-in g M s fuel U sig sol branches f) (put-in g M s fuel U sig sol branches f) q

  elim-in : (q : ResolvedPattern) (l k : Left) → ElimIs g s fuel U f (pattern_meaning g f q) l k → LeftIn g M l → LeftIn g M k
  elim-in q l k (inserted x a t h e) i = elim-in q _ k e (with_pat-in g M (taken l _ x a t Inserted) _ _ _ (taken-in g M s fuel U sig sol l _ x a t Inserted i h) tt)
  elim-in q l k (pattern b x a t w r e h c is) i =
      let p = pattern-in q w e (length l.spots) (taken l b x a t w.origin) r (taken-in g M s fuel U sig sol l b x a t w.origin i h) c in
      subst (LeftIn g M) (sym is) (with_pat-in g M r.left r.shape _ _ p.0 p.1)
  elim-in q l k (field h d es is x y z same) i = subst (LeftIn g M) (sym same) (projected-in g M s fuel U sig sol f h d es is l def i y z)

  all-in : (qs : List ResolvedPattern) (l k : Left) → Comes g s fuel U (all_elims g f (map (pattern_meaning g f) qs) l) (Gives k) → LeftIn g M l → LeftIn g M k
  all-in [] l k c h = subst (LeftIn g M) (sym (one_gives c)) h
  all-in (q ∷ qs) l k c h =
      let x = then_gives g s fuel U (one_elim g f (pattern_meaning g f q) most_inserted l) (all_elims g f (map (pattern_meaning g f) qs)) k c in
      all-in qs x.0 k x.2 (elim-in q l x.0 (elim_is g s fuel U f (pattern_meaning g f q) most_inserted l x.0 x.1) h)

pub accepted-in : (g : Signature Term) (M : ℕ → ℕ → Type 0) (s f : Solutions) (fuel depth : ℕ) (a : Term) (q : ResolvedClause) (l : CheckedLeft Term) → SignatureInScope g M → ((i : ℕ) (d : Decl Term) → slice_get g i ≡ Some d → AllDecl HasNoMeta d)
    → SolutionsInScope g M s → SolutionsInScope g M f → q.function < length (defs g) → InScope g M 0 a → LeftOf g s f fuel depth a q (Gives l) → LeftInScope g M l
accepted-in g M s f fuel depth a q l sig none sol full def h c =
    let U = AnswersWith g f fuel depth in
    let x = then_gives g s fuel U (all_elims g q.function (map (pattern_meaning g q.function) q.patterns) (start a)) (λ l. gives (left_of l)) l c in
    let k = all-in g M s fuel U sig sol (branches-in g M sig fuel depth f full none) q.function def q.patterns (start a) x.0 x.1 (record { context = tt; spine = tt; spots = tt; pats = tt; ty = h }) in
    subst (LeftInScope g M) (sym (one_gives x.2)) (left-in g M x.0 k)
