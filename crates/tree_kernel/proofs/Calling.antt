-- The tree of a function that a signature knows without clauses and tree.
use Rattle.std.proofs.Common.{◌≡◌, ◌<◌, ℕ, zero, suc, List, [], ◌∷◌, length, arith, sym, subst}
use Rattle.std.specs.Prelude.{Some, slice_get, Result, Ok, Err, IfOk}
use Rattle.core_rules.specs.Term.{Term, Def}
use Rattle.core_rules.specs.Signature.{Entry, Open, Signature, Tree, defs}
use Rattle.core_rules.specs.Mapped.{AllTree, tree_map}
use Rattle.core_rules.specs.InScope.{InScope, SignatureInScope, TreeInScope, any_meta}
use Rattle.core_rules.specs.TreeLaws.{IsSound}
use Rattle.core_rules.specs.TypedTree.{TypedTree}
use Rattle.core_rules.proofs.Scope.Declared.{declared-in_scope}
use Rattle.core_terms.specs.Signature.{Stands, signature_in}
use Rattle.core_terms.specs.declared.signature.DefEntry.{DefEntry}
use Rattle.core_terms.specs.declared.signature.DefState.TheVariants as state
use Rattle.core_terms.proofs.SignatureGrowth.{entry_type_in, signature_in-extends}
use Rattle.declared_types.proofs.Grown.{def_within, length-defs_in}
use Rattle.term_pool.specs.Pool.{Pool, Extends, StandsFor, tree}
use Rattle.term_pool.specs.Growth.{Extends-tree}
use Rattle.kernel_rules.specs.Outcome.{Outcome, Gives}
use Rattle.kernel_rules.specs.Refusals.{DeclRefusal}
use Rattle.tree_kernel.specs.Answers.{AnswersDecl, IsOpenAt}
use Rattle.tree_kernel.specs.Jobs.{context_by}
use Rattle.tree_kernel.specs.Laws.{AcceptedTreeIsTyped}
use Rattle.tree_kernel.specs.Reading.{ReadsTree}
use Rattle.tree_kernel.specs.declared.error.DeclError.{DeclError}
use Rattle.tree_kernel.proofs.Continuing.{tree-stays, tree-within}

some_within : {X : Type 0} (xs : List X) (i : ℕ) (x : X) → slice_get xs i ≡ Some x → i < length xs
some_within [] i x e = absurd cc
some_within (y ∷ xs) zero x e = omega arith
some_within (y ∷ xs) (suc i) x e = let h = some_within xs i x e in omega (arith, h)

module _ (p : Pool) (g : Signature ℕ) (f a : ℕ) (stands : Stands p g) (h : IsOpenAt g f a) where
  entry : DefEntry
  entry = record { name = h.name; ty = a; state = state.Open }

  pub its-type : a < length p.trees
  unfolding entry
  its-type = def_within p g f entry stands h.is

  its-scope : SignatureInScope (signature_in p g) any_meta → InScope (signature_in p g) any_meta 0 (tree p a)
  unfolding entry
  its-scope s = declared-in_scope (signature_in p g) any_meta s f (tree p a) (entry_type_in p g f entry h.is)

  its-place : f < length (defs (signature_in p g))
  its-place = omega (arith, some_within (defs g) f (Open h.name a) h.is, length-defs_in p g)

  module _ (q : Pool) (e : Extends p q) (T : Tree ℕ) (all : AllTree (λ i. i < length p.trees) T) (fuel depth : ℕ) (ctx : List (Entry ℕ)) (c : ctx ≡ [])
      (left : ℕ) (l : StandsFor q left (Def f)) where
    pub tree-here : (o : Outcome DeclRefusal (Unit {0})) → ReadsTree (signature_in q g) fuel depth (context_by (tree q) ctx) (tree_map (tree q) T) (tree q a)
        (tree q left) o
        → ReadsTree (signature_in p g) fuel depth [] (tree_map (tree p) T) (tree p a) (Def f) o
    tree-here o k =
        subst (λ (t : Term). ReadsTree (signature_in p g) fuel depth [] (tree_map (tree p) T) (tree p a) t o) l.is
        (subst (λ (t : Term). ReadsTree (signature_in p g) fuel depth [] (tree_map (tree p) T) t (tree q left) o) (Extends-tree a e its-type)
        (subst (λ (U : Tree Term). ReadsTree (signature_in p g) fuel depth [] U (tree q a) (tree q left) o) (tree-stays p q e a its-type T all)
        (subst (λ (es : List (Entry ℕ)). ReadsTree (signature_in p g) fuel depth (context_by (tree q) es) (tree_map (tree q) T) (tree q a) (tree q left) o) c
        (subst (λ (G : Signature Term). ReadsTree G fuel depth (context_by (tree q) ctx) (tree_map (tree q) T) (tree q a) (tree q left) o)
        (signature_in-extends p q g e stands) k))))

    pub scope-here : TreeInScope (signature_in p g) any_meta 0 (tree_map (tree p) T)
        → TreeInScope (signature_in q g) any_meta (length ctx) (tree_map (tree q) T)
    scope-here k =
        subst (λ (es : List (Entry ℕ)). TreeInScope (signature_in q g) any_meta (length es) (tree_map (tree q) T)) (sym c)
        (subst (λ (G : Signature Term). TreeInScope G any_meta 0 (tree_map (tree q) T)) (sym (signature_in-extends p q g e stands))
        (subst (λ (U : Tree Term). TreeInScope (signature_in p g) any_meta 0 U) (sym (tree-stays p q e a its-type T all)) k))

    pub all-here : AllTree (λ i. i < length q.trees) T
    all-here = tree-within p q e a its-type T all

  pub typed-by : AcceptedTreeIsTyped → (fuel depth : ℕ) (T : Tree ℕ) → TreeInScope (signature_in p g) any_meta 0 (tree_map (tree p) T)
      → ReadsTree (signature_in p g) fuel depth [] (tree_map (tree p) T) (tree p a) (Def f) (Gives tt) → IsSound (signature_in p g)
      → TypedTree (signature_in p g) [] (tree_map (tree p) T) (tree p a) (Def f)
  typed-by law fuel depth T scope k s = law (signature_in p g) fuel depth [] (tree_map (tree p) T) (tree p a) (Def f) s tt scope (its-scope s.scope) its-place k

  -- an answer that accepts
  pub answer-typed : AcceptedTreeIsTyped → (fuel depth : ℕ) (T : Tree ℕ) → TreeInScope (signature_in p g) any_meta 0 (tree_map (tree p) T)
      → (P : Pool) (r : Result (Unit {0}) DeclError)
      → AnswersDecl P (ReadsTree (signature_in p g) fuel depth [] (tree_map (tree p) T) (tree p a) (Def f)) r
      → IfOk r (λ o. IsSound (signature_in p g) → TypedTree (signature_in p g) [] (tree_map (tree p) T) (tree p a) (Def f))
  answer-typed law fuel depth T scope P (Ok o) k = typed-by law fuel depth T scope k
  answer-typed law fuel depth T scope P (Err e) k = tt
