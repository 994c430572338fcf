-- What code asks the unifier of a constructor is what the rules ask.
use Rattle.std.proofs.Common.{◌≡◌, ◌<◌, ℕ, List, length, ap, sym, subst, ◌∙◌}
use Rattle.std.specs.Prelude.{Option}
use Rattle.std.specs.List.{AllByRecursion}
use Rattle.core_rules.specs.Heads.{Solutions}
use Rattle.core_rules.specs.Signature.{ConDecl, Context, Entry}
use Rattle.core_rules.specs.Mapped.{AllCon, AllEntries, con_map, telescope_map}
use Rattle.core_rules.specs.Term.{Term}
use Rattle.core_rules.specs.TypedTree.{Splitting, con_context, index_equations}
use Rattle.core_rules.specs.Unification as U
use Rattle.kernel_rules.specs.Outcome.{Outcome}
use Rattle.term_pool.specs.Pool.{tree}
use Rattle.declared_types.proofs.Grown.{con-stays}
use Rattle.index_unify.specs.declared.equation.Equation.{Equation}
use Rattle.index_unify.specs.Unified.{context_in, equations_in}
use Rattle.lhs_rules.specs.Asking.{Reads}
use Rattle.lhs_rules.specs.Refusals.{Refusal}
use Rattle.lhs_elab.specs.declared.elaborator.Elaborator.{Elaborator}
use Rattle.lhs_elab.specs.declared.families.AtFamily.{AtFamily}
use Rattle.lhs_elab.specs.declared.left.Left.{Left as CodeLeft}
use Rattle.lhs_elab.specs.Asked.{IsSplit}
use Rattle.lhs_elab.specs.Elaborator.{Comes, IsReady, Over, over}
use Rattle.lhs_elab.proofs.Growing.{context-stays}
use Rattle.lhs_elab.proofs.Kept.{Same, Same-trans, same-over}
use Rattle.lhs_elab.proofs.SplitContexts.{split-stays}

-- x before the constructor's context is made, y before its equations are, z when both are there
module _ {S : Type 0} (F : S → ℕ → Option ℕ) (x y z : Elaborator S) (r : IsReady F x) (xy : Same x y) (yz : Same y z) (con level : ℕ) (at : AtFamily) (decl : ConDecl ℕ) (named context : List (Entry ℕ)) (asked equations : List Equation)
    (s : Splitting) (i : IsSplit x.pool.now x.left.now.context.items level at s) (ba : AllByRecursion (λ t. t < length x.pool.now.trees) at.args.items) (bd : AllCon (λ t. t < length x.pool.now.trees) decl) (bc : AllEntries (λ t. t < length y.pool.now.trees) context)
    (ic : (s : Splitting) → IsSplit x.pool.now x.left.now.context.items level at s → context_in y.pool.now context ≡ con_context s con (telescope_map (tree x.pool.now) named))
    (ie : (s : Splitting) → IsSplit y.pool.now y.left.now.context.items level at s → equations_in z.pool.now equations ≡ index_equations s (con_map (tree y.pool.now) decl)) (e : asked ≡ equations) where
  there : IsSplit y.pool.now y.left.now.context.items level at s
  there = subst (λ (l : CodeLeft). IsSplit y.pool.now l.context.items level at s) (sym xy.left) (split-stays x.pool.now y.pool.now xy.grows.extends x.left.now.context.items level at s r.left.context ba i)

  context-is : context_in z.pool.now context ≡ con_context s con (telescope_map (tree x.pool.now) named)
  context-is = context-stays y.pool.now z.pool.now yz.grows.extends context bc ∙ ic s i

  equations-is : equations_in z.pool.now asked ≡ index_equations s (con_map (tree x.pool.now) decl)
  equations-is = ap (equations_in z.pool.now) e ∙ (ie s there ∙ ap (index_equations s) (con-stays x.pool.now y.pool.now xy.grows.extends decl bd))

  pub asked-as : {A : Type 0} (ask : Context Term → List U.Equation → Reads A) (f : Solutions) (q : Outcome Refusal A) → Comes (over F f z) (ask (context_in z.pool.now context) (equations_in z.pool.now asked)) q
      → Comes (over F f x) (ask (con_context s con (telescope_map (tree x.pool.now) named)) (index_equations s (con_map (tree x.pool.now) decl))) q
  asked-as ask f q h =
      subst (λ (o : Over). Comes o (ask (con_context s con (telescope_map (tree x.pool.now) named)) (index_equations s (con_map (tree x.pool.now) decl))) q) (same-over F x z r (Same-trans xy yz) f)
      (subst (λ (es : List U.Equation). Comes (over F f z) (ask (con_context s con (telescope_map (tree x.pool.now) named)) es) q) equations-is
      (subst (λ (d : Context Term). Comes (over F f z) (ask d (equations_in z.pool.now asked)) q) context-is h))
