-- What is left to be read after a node, as what a step answers.
use Rattle.std.proofs.Common.{◌≡◌, ◌<◌, ℕ, length, sym, subst}
use Rattle.std.specs.Prelude.{Result, Ok}
use Rattle.core_rules.specs.Mapped.{AllTree, tree_map}
use Rattle.core_rules.specs.Signature.{Tree}
use Rattle.core_rules.specs.InScope.{TreeInScope, any_meta}
use Rattle.kernel_rules.specs.Outcome.{Outcome}
use Rattle.kernel_rules.specs.Refusals.{DeclRefusal}
use Rattle.tree_kernel.specs.Jobs.{context_by}
use Rattle.tree_kernel.specs.Nodes.{Continues, ContinuesBranches, ContinuesFields, ContinuesNode, ReadsNode, count}
use Rattle.tree_kernel.specs.Reading.{ReadsTree}
use Rattle.tree_kernel.specs.Reader.{signature_of, term_of, fuel_of, depth_of}
use Rattle.tree_kernel.specs.declared.error.DeclError.{DeclError}
use Rattle.tree_kernel.specs.declared.job.Node as N
use Rattle.tree_kernel.specs.declared.job.Fields as F
use Rattle.tree_kernel.specs.declared.job.Branches as B
use Rattle.tree_kernel.specs.declared.job.Job.TheVariants as JV
use Rattle.tree_kernel.specs.declared.job.Rest as R
use Rattle.tree_kernel.specs.declared.job.Rest.TheVariants as RV
use Rattle.tree_kernel.specs.declared.reader.Reader.{Reader}
use Rattle.tree_kernel.proofs.Openings.{context-length}
use Rattle.tree_kernel.proofs.Waiting.{alone}

-- of the node's own tree
pub continues-as : (x z : Reader) (w : N.Node) (T : Tree ℕ) (r : Result R.Rest DeclError) → T ≡ w.tree.now → Continues x z (ReadsNode x w T) r
    → Continues x z (ReadsNode x w w.tree.now) r
continues-as x z w T r e h = subst (λ (T : Tree ℕ). Continues x z (ReadsNode x w T) r) e h

module _ (x z : Reader) (K : Outcome DeclRefusal (Unit {0}) → Type 0) where
  pub node-rest : (T : Tree ℕ) (n : N.Node) → ContinuesNode x z T K (Ok n) → Continues x z K (Ok (RV.One (JV.Node n)))
  node-rest T n h =
      let m : length (context_by (term_of z) n.context) ≡ length n.context = context-length (term_of z) n.context in
      let a : AllTree (λ i. i < count z) n.tree.now = subst (AllTree (λ i. i < count z)) (sym h.0) h.1.1 in
      let s : TreeInScope (signature_of z) any_meta (length (context_by (term_of z) n.context)) (tree_map (term_of z) n.tree.now) =
      subst (λ (l : ℕ). TreeInScope (signature_of z) any_meta l (tree_map (term_of z) n.tree.now)) (sym m)
      (subst (λ (U : Tree ℕ). TreeInScope (signature_of z) any_meta (length n.context) (tree_map (term_of z) U)) (sym h.0) h.1.4) in (
        ((h.1.0, a, h.1.2, h.1.3), (s, tt)),
        λ o k. h.2 o (subst (λ (U : Tree ℕ). ReadsTree (signature_of x) (fuel_of x) (depth_of x) (context_by (term_of z) n.context) (tree_map (term_of z) U)
            (term_of z n.ty) (term_of z n.left) o) h.0 (alone o k)),
      )

  pub fields-rest : (w : F.Fields) → ContinuesFields x z K (Ok w) → Continues x z K (Ok (RV.One (JV.Fields w)))
  fields-rest w h = ((h.0.0, (h.0.1, tt)), λ o k. h.1 o (alone o k))

  pub branches-rest : (w : B.Branches) → ContinuesBranches x z K (Ok w) → Continues x z K (Ok (RV.One (JV.Branches w)))
  branches-rest w h = ((h.0.0, (h.0.1, tt)), λ o k. h.1 o (alone o k))
