-- What is left to be read after a step, said of the pool after it.
use Rattle.std.proofs.Common.{◌≡◌, ◌<◌, ℕ, List, [], ◌∷◌, length, arith, sym, subst}
use Rattle.core_rules.specs.Term.{Term}
use Rattle.core_rules.specs.Signature.{Entry, Context, Tree, CoBranches, ConBranches, Cosplit, Split, Signature, Function}
use Rattle.core_rules.specs.Mapped.{tree_map, co_branches_map, con_branches_map, AllEntries, AllTree, AllCoBranches, AllConBranches}
use Rattle.core_rules.specs.InScope.{TreeInScope, any_meta}
use Rattle.term_pool.specs.Pool.{Pool, Extends, StandsFor, tree}
use Rattle.term_pool.specs.Growth.{Extends-length, Extends-tree}
use Rattle.core_terms.proofs.Mapped.{signature_map-same, AllDecls-weaker}
use Rattle.kernel_rules.specs.Outcome.{Outcome}
use Rattle.kernel_rules.specs.Refusals.{DeclRefusal}
use Rattle.tree_kernel.specs.Jobs.{context_by}
use Rattle.tree_kernel.specs.Nodes.{count}
use Rattle.tree_kernel.specs.Reading.{ReadsTree}
use Rattle.tree_kernel.specs.Reader.{IsReady, Grows, signature_of, term_of, fuel_of, depth_of}
use Rattle.tree_kernel.specs.declared.reader.Reader.{Reader}
use Rattle.tree_kernel.proofs.Reading.{signature_kept}

-- the parts of trees in a pool that grew, where an id stands in it
module _ (p q : Pool) (e : Extends p q) (i : ℕ) (l : i < length p.trees) where
  pub tree-stays : (T : Tree ℕ) → AllTree (λ t. t < length p.trees) T → tree_map (tree q) T ≡ tree_map (tree p) T
  tree-stays T h = let s = signature_map-same (λ t. t < length p.trees) (tree q) (tree p) (λ t m. Extends-tree t e m) (Function 0 i [] T ∷ [])
      ((l, tt, h), tt) in cc s

  pub tree-within : (T : Tree ℕ) → AllTree (λ t. t < length p.trees) T → AllTree (λ t. t < length q.trees) T
  tree-within T h = (AllDecls-weaker (λ t. t < length p.trees) (λ t. t < length q.trees) (λ t m. omega (arith, m, Extends-length e)) (Function 0 i [] T ∷ [])
      ((l, tt, h), tt)).0.2

  pub co-stays : (bs : CoBranches ℕ) → AllCoBranches (λ t. t < length p.trees) bs → co_branches_map (tree q) bs ≡ co_branches_map (tree p) bs
  co-stays bs h = let s = tree-stays (Cosplit bs) h in cc s

  pub con-stays : (bs : ConBranches ℕ) → AllConBranches (λ t. t < length p.trees) bs → con_branches_map (tree q) bs ≡ con_branches_map (tree p) bs
  con-stays bs h = let s = tree-stays (Split 0 bs) h in cc s

-- a tree in entries, at a type and a left side
abbrev pub NodeIn : Reader → List (Entry ℕ) → Tree ℕ → ℕ → ℕ → Type 0
NodeIn z es T ty left = AllEntries (λ i. i < count z) es × AllTree (λ i. i < count z) T × (ty < count z) × (left < count z)
    × TreeInScope (signature_of z) any_meta (length es) (tree_map (term_of z) T)

-- how the reader x reads it, where its ids are those of z
abbrev pub ReadsIn : Reader → Reader → List (Entry ℕ) → Tree ℕ → ℕ → ℕ → Outcome DeclRefusal (Unit {0}) → Type 0
ReadsIn x z es T ty left o = ReadsTree (signature_of x) (fuel_of x) (depth_of x) (context_by (term_of z) es) (tree_map (term_of z) T) (term_of z ty)
    (term_of z left) o

module _ {x z : Reader} (r : IsReady x) (g : Grows x z) where
  pub node_goes : (es : List (Entry ℕ)) (c : Context Term) (T : Tree ℕ) (ty left i : ℕ) (a l : Term) → i < count x → AllEntries (λ i. i < count z) es
      → context_by (term_of z) es ≡ c
      → AllTree (λ i. i < count x) T → StandsFor z.pool.now ty a → StandsFor z.pool.now left l
      → TreeInScope (signature_of x) any_meta (length es) (tree_map (term_of x) T)
      → (K : Outcome DeclRefusal (Unit {0}) → Type 0)
      → ((o : Outcome DeclRefusal (Unit {0})) → ReadsTree (signature_of x) (fuel_of x) (depth_of x) c (tree_map (term_of x) T) a l o → K o)
      → NodeIn z es T ty left × ((o : Outcome DeclRefusal (Unit {0})) → ReadsIn x z es T ty left o → K o)
  node_goes es c T ty left i a l m below is all s t scope K h =
      let same : tree_map (term_of z) T ≡ tree_map (term_of x) T = tree-stays x.pool.now z.pool.now g.extends i m T all in (
        (
          below,
          tree-within x.pool.now z.pool.now g.extends i m T all,
          s.within,
          t.within,
          subst (λ (s : Signature Term). TreeInScope s any_meta (length es) (tree_map (term_of z) T)) (sym (signature_kept r g))
              (subst (TreeInScope (signature_of x) any_meta (length es)) (sym same) scope),
        ),
        λ o d. h o (
            subst (λ (c : Context Term). ReadsTree (signature_of x) (fuel_of x) (depth_of x) c (tree_map (term_of x) T) a l o) is
            (subst (λ (U : Tree Term). ReadsTree (signature_of x) (fuel_of x) (depth_of x) (context_by (term_of z) es) U a l o) same
            (subst (λ (u : Term). ReadsTree (signature_of x) (fuel_of x) (depth_of x) (context_by (term_of z) es) (tree_map (term_of z) T) u l o) s.is
            (subst (λ (u : Term). ReadsTree (signature_of x) (fuel_of x) (depth_of x) (context_by (term_of z) es) (tree_map (term_of z) T) (term_of z ty) u o)
            t.is d)))
            ),
      )
