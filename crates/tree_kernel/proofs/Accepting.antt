-- A branch by its two halves: it is the one that unification gives, and it is well typed.
use Rattle.std.proofs.Common.{◌≡◌, ℕ, List, length, map, refl, sym, subst, ap}
use Rattle.std.specs.List.{AllByRecursion}
use Rattle.core_rules.specs.Term.{Term}
use Rattle.core_rules.specs.Signature.{Branch, ConDecl, Context, Signature, Telescope}
use Rattle.core_rules.specs.Mapped.{branch_map, con_map, telescope_map}
use Rattle.core_rules.specs.InScope.{InScope, TelescopeInScope, any_meta}
use Rattle.core_rules.specs.TypedTree.{con_context, index_equations}
use Rattle.core_rules.specs.Unification.{Equation}
use Rattle.declared_types.proofs.Grown.{telescope-stays}
use Rattle.term_pool.specs.Placed.{items-stay}
use Rattle.kernel_rules.specs.Outcome.{Outcome, Gives, Refuses, goes_on, stops}
use Rattle.kernel_rules.specs.Refusals.{DeclRefusal}
use Rattle.tree_kernel.specs.Branches.{Fits, ItsBranch}
use Rattle.tree_kernel.specs.Jobs.{split_in}
use Rattle.tree_kernel.specs.Nodes.{BranchStands, ReadsBranch}
use Rattle.tree_kernel.specs.Reader.{IsReady, Grows, signature_of, term_of, fuel_of, depth_of}
use Rattle.tree_kernel.specs.declared.job.Split as S
use Rattle.tree_kernel.specs.declared.reader.Reader.{Reader}
use Rattle.tree_kernel.proofs.Reading.{signature_kept}
use Rattle.tree_kernel.proofs.Splits.{branch-within, branch-stays}

-- a branch, as the reader goes on
pub branch-kept : {x y : Reader} → IsReady x → Grows x y → (b : Branch ℕ) → BranchStands x b → BranchStands y b
branch-kept {x} {y} r g b h = record {
  branch = branch-within x.pool.now y.pool.now g.extends b h.branch;
  context = subst (λ (G : Signature Term). TelescopeInScope G any_meta 0 (telescope_map (term_of y) b.context)) (sym (signature_kept r g))
      (subst (λ (es : Telescope Term). TelescopeInScope (signature_of x) any_meta 0 es)
      (sym (telescope-stays x.pool.now y.pool.now b.context g.extends h.branch.context)) h.context);
  values = subst (λ (G : Signature Term). AllByRecursion (InScope G any_meta (length b.context)) (map (term_of y) b.values)) (sym (signature_kept r g))
      (subst (λ (ts : List Term). AllByRecursion (InScope (signature_of x) any_meta (length b.context)) ts)
      (sym (items-stay x.pool.now y.pool.now b.values g.extends h.branch.values)) h.values);
}

-- the same halves of the same branch
pub its-same : (g h : Signature Term) (fuel depth : ℕ) (c d : Context Term) (es us : List Equation) (b a : Branch Term) (r : Outcome DeclRefusal (Unit {0}))
    → h ≡ g → d ≡ c → us ≡ es → a ≡ b → ItsBranch h fuel depth d us a r → ItsBranch g fuel depth c es b r
its-same g h fuel depth c d es us b a r e1 e2 e3 e4 k =
    subst (λ (x : Signature Term). ItsBranch x fuel depth c es b r) e1 (subst (λ (x : Context Term). ItsBranch h fuel depth x es b r) e2
    (subst (λ (x : List Equation). ItsBranch h fuel depth d x b r) e3 (subst (λ (x : Branch Term). ItsBranch h fuel depth d us x r) e4 k)))

pub fits-here : {x y : Reader} → IsReady x → Grows x y → (b : Branch ℕ) → BranchStands x b → (c d : Context Term) → d ≡ c → (r : Outcome DeclRefusal (Unit {0}))
    → Fits (signature_of y) (fuel_of y) (depth_of y) d (branch_map (term_of y) b) r
    → Fits (signature_of x) (fuel_of x) (depth_of x) c (branch_map (term_of x) b) r
fits-here {x} {y} ready g b h c d e r k =
    subst (λ (a : Branch Term). Fits (signature_of x) (fuel_of x) (depth_of x) c a r) (branch-stays x.pool.now y.pool.now g.extends b h.branch)
    (subst (λ (c : Context Term). Fits (signature_of x) (fuel_of x) (depth_of x) c (branch_map (term_of y) b) r) e
    (subst (λ (G : Signature Term). Fits G (fuel_of x) (depth_of x) d (branch_map (term_of y) b) r) (signature_kept ready g)
    (subst (λ (n : ℕ). Fits (signature_of y) (fuel_of x) n d (branch_map (term_of y) b) r) (ap (λ l. l.depth) g.limits)
    (subst (λ (n : ℕ). Fits (signature_of y) n (depth_of y) d (branch_map (term_of y) b) r) (ap (λ l. l.fuel) g.limits) k))))

module _ (x : Reader) (s : S.Split) (k : ℕ) (con : ConDecl ℕ) (b : Branch ℕ) where
  pub its-refused : (d : DeclRefusal) → ItsBranch (signature_of x) (fuel_of x) (depth_of x)
      (con_context (split_in (term_of x) s) k (telescope_map (term_of x) con.args)) (index_equations (split_in (term_of x) s) (con_map (term_of x) con))
      (branch_map (term_of x) b) (Refuses d) → ReadsBranch x s k con b (Refuses d)
  its-refused d (goes_on a p q) = goes_on a p (stops d q refl)
  its-refused d (stops e p n) = stops e p n

  pub its-accepted : ItsBranch (signature_of x) (fuel_of x) (depth_of x) (con_context (split_in (term_of x) s) k (telescope_map (term_of x) con.args))
      (index_equations (split_in (term_of x) s) (con_map (term_of x) con)) (branch_map (term_of x) b) (Gives tt)
      → (r : Outcome DeclRefusal (Unit {0})) → Fits (signature_of x) (fuel_of x) (depth_of x)
      (con_context (split_in (term_of x) s) k (telescope_map (term_of x) con.args)) (branch_map (term_of x) b) r → ReadsBranch x s k con b r
  its-accepted (goes_on a p q) r h = goes_on a p (goes_on tt q h)
  its-accepted (stops e p n) r h = absurd cc
