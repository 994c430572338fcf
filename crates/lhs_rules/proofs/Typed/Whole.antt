-- The left side of an accepted clause is reached step by step, and has its type where the constructors fit.
use Rattle.std.proofs.Common.{◌≡◌, refl, sym, subst}
use Rattle.std.specs.Prelude.{ℕ, List, [], ◌∷◌, length, map, Some}
use Rattle.core_rules.specs.declared.Flag.TheVariants.{Implicit}
use Rattle.core_rules.specs.Term.{Term, Var, Pi, App, Fam}
use Rattle.core_rules.specs.Substitution.{shift, under}
use Rattle.core_rules.specs.Signature.{Context, Signature, Inserted, VarPat, def_type}
use Rattle.core_rules.specs.Signature as S
use Rattle.core_rules.specs.Elimination.{args}
use Rattle.core_rules.specs.Typing as T
use Rattle.core_rules.specs.Typing.{Typing, entry}
use Rattle.core_rules.specs.InScope.{FamiliesHaveShape, any_meta}
use Rattle.core_rules.specs.BoundedLaws.{no_solutions}
use Rattle.core_rules.specs.TreeLaws.{IsSound}
use Rattle.core_rules.specs.TypedTree.{into, new_con}
use Rattle.core_rules.specs.UnifierAnswers.{Answers, answers, IsUnifier}
use Rattle.core_rules.proofs.Substitution.Exchange.{under-under}
use Rattle.core_rules.proofs.Typing.Closed.{have-shape}
use Rattle.core_rules.proofs.Typing.Weakened.{typing-inserted}
use Rattle.core_rules.proofs.Typing.Substituted.{typing-under}
use Rattle.kernel_rules.specs.Outcome.{Gives}
use Rattle.kernel_rules.proofs.Outcome.{one_gives}
use Rattle.resolved_tree.specs.declared.resolved.ResolvedPattern.{ResolvedPattern}
use Rattle.lhs_rules.specs.Asking.{Comes}
use Rattle.lhs_rules.specs.Spots.{Left, start, taken, left_term}
use Rattle.lhs_rules.specs.Rules.{one_elim, most_inserted, all_elims}
use Rattle.lhs_rules.specs.Patterns.{pattern_meaning}
use Rattle.lhs_rules.specs.Reached as R
use Rattle.lhs_rules.specs.Reached.{ConPut, put_context, put_term, put_values, Reached, ConstructorsFit}
use Rattle.lhs_rules.proofs.Comes.{then_gives}
use Rattle.lhs_rules.proofs.Steps.{ElimIs, inserted, pattern, field, elim_is}
use Rattle.lhs_rules.proofs.Kept.{ElimKeeps, pattern_keeps}
use Rattle.lhs_rules.proofs.Typed.Terms.{at_own}
use Rattle.lhs_rules.proofs.Typed.Steps.{Grown, with_pat-grown, taken-grown, projected-grown, put-grown, form-converts}

-- ---- the left side is reached

module _ (g : Signature Term) (k : IsSound g) (fuel : ℕ) (u : Answers) (unifier : IsUnifier g (answers u)) (f : ℕ) (a : Term) where
  pattern-grown : (q : ResolvedPattern) → ElimKeeps g no_solutions fuel (answers u) f (Grown g k fuel u f a) (λ s. Unit {0}) (pattern_meaning g f q)
  pattern-grown q = pattern_keeps g no_solutions fuel (answers u) f (Grown g k fuel u f a) (λ s. Unit {0}) (λ j. tt) tt (λ c i l x qs b ps p h. tt) (put-grown g k fuel u f a unifier) q

  elim-grown : (q : ResolvedPattern) (l j : Left) → ElimIs g no_solutions fuel (answers u) f (pattern_meaning g f q) l j → Grown g k fuel u f a l → Grown g k fuel u f a j
  elim-grown q l j (inserted x s t h e) i = elim-grown q _ j e (with_pat-grown g k fuel u f a (taken l Implicit x s t Inserted) (VarPat (length l.spots)) Inserted S.Plain (taken-grown g k fuel u f a l Implicit x s t Inserted i h))
  elim-grown q l j (pattern b x s t w r e h c is) i =
      let p = pattern-grown q w e (length l.spots) (taken l b x s t w.origin) r (taken-grown g k fuel u f a l b x s t w.origin i h) c in
      subst (Grown g k fuel u f a) (sym is) (with_pat-grown g k fuel u f a r.left r.shape _ _ p.0)
  elim-grown q l j (field h d es is x y z same) i = subst (Grown g k fuel u f a) (sym same) (projected-grown g k fuel u f a l h d es is i y z)

  all-grown : (qs : List ResolvedPattern) (l j : Left) → Comes g no_solutions fuel (answers u) (all_elims g f (map (pattern_meaning g f) qs) l) (Gives j) → Grown g k fuel u f a l → Grown g k fuel u f a j
  all-grown [] l j c h = subst (Grown g k fuel u f a) (sym (one_gives c)) h
  all-grown (q ∷ qs) l j c h =
      let x = then_gives g no_solutions fuel (answers u) (one_elim g f (pattern_meaning g f q) most_inserted l) (all_elims g f (map (pattern_meaning g f) qs)) j c in
      all-grown qs x.0 j x.2 (elim-grown q l x.0 (elim_is g no_solutions fuel (answers u) f (pattern_meaning g f q) most_inserted l x.0 x.1) h)

  pub left-reached : (qs : List ResolvedPattern) (l : Left) → Comes g no_solutions fuel (answers u) (all_elims g f (map (pattern_meaning g f) qs) (start a)) (Gives l) → Reached g u f a l.context (left_term f l) l.ty
  left-reached qs l c = (all-grown qs (start a) l c (record { spine = tt; spots = tt; reached = R.start })).reached

-- ---- what is reached has its type, where the constructors fit

module _ (g : Signature Term) (k : IsSound g) (u : Answers) (f : ℕ) (a : Term) (def : def_type g f ≡ Some a) (fit : ConstructorsFit g u f a) where
  shapes : FamiliesHaveShape g
  shapes = have-shape g k.scope

  -- a term of the split has in the branch its type there
  put-typed : {c : Context Term} {t b : Term} (p : ConPut g u c t b) → Reached g u f a c t b → Typing g c t b → Typing g (put_context g u p) (put_term g u p t) (put_term g u p b)
  put-typed {c} {t} {b} p r h =
      let q = into p.var (length c) (length p.con.args) (new_con p.con_id p.is.params p.con.args) in
      let x : Typing g (put_context g u p) (under (put_values g u p) t) (under (put_values g u p) b) = typing-under g any_meta k.scope shapes (put_context g u p) c (put_values g u p) t b (fit c t b r h p) h in
      subst (λ b. Typing g (put_context g u p) (put_term g u p t) b) (sym (under-under p.branch.values q b)) (subst (λ t. Typing g (put_context g u p) t (under (put_values g u p) b)) (sym (under-under p.branch.values q t)) x)

  pub reached-typed : {c : Context Term} {t b : Term} → Reached g u f a c t b → Typing g c t b
  reached-typed R.start = T.def def
  reached-typed (R.argument {c = c} {t = t} {b = b} o x y s v r e) =
      let h : Typing g (entry o y s ∷ c) (shift t 0 1) (shift (Pi o x s v) 0 1) = typing-inserted g any_meta k.scope [] (entry o y s ∷ []) c t (Pi o x s v) (T.convert (reached-typed r) (form-converts g k 0 u f a b (Pi o x s v) [] e)) in
      subst (Typing g (entry o y s ∷ c) (App o (shift t 0 1) (Var 0))) (at_own v) (T.app h (T.var refl))
  reached-typed (R.projection {b = b} h is ps r n e) = T.proj is ps n (T.convert (reached-typed r) (form-converts g k 0 u f a b (Fam is.fam) (args is.decl.params ps) e))
  reached-typed (R.constructor r p) = put-typed p r (reached-typed r)
