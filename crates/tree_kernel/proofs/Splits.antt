-- A split and what unification is asked of its constructors, over a pool that grew.
use Rattle.std.proofs.Common.{◌≡◌, ◌<◌, ℕ, List, length, map, arith, sym, subst, ap, ap₂}
use Rattle.std.specs.List.{AllByRecursion}
use Rattle.std.proofs.lemmas.List.{length-map}
use Rattle.core_rules.specs.Term.{Term}
use Rattle.core_rules.specs.Signature.{Branch, Context, ConDecl, Entry, Signature}
use Rattle.core_rules.specs.Mapped.{branch_map, con_map, entry_map, telescope_map, AllBranch, AllCon, AllEntries}
use Rattle.core_rules.specs.TypedTree.{Splitting, into, new_con}
use Rattle.core_rules.specs.Unification.{Equation}
use Rattle.core_rules.specs.UnifierAnswers.{Unified}
use Rattle.core_kernel.proofs.Contexts.{context_in-extends}
use Rattle.declared_types.proofs.Grown.{entries-weaker, con-stays, telescope-stays}
use Rattle.term_pool.specs.Pool.{Pool, Extends, tree}
use Rattle.term_pool.specs.Placed.{items-stay}
use Rattle.term_pool.specs.Growth.{Extends-tree, Extends-length}
use Rattle.kernel_rules.specs.Outcome.{Outcome}
use Rattle.kernel_rules.specs.Refusals.{DeclRefusal}
use Rattle.kernel_rules.specs.TreeReading.{IsRefuted, Unifies, ValuesOf}
use Rattle.tree_kernel.specs.Jobs.{SplitBelow, context_by, split_in}
use Rattle.tree_kernel.specs.Nodes.{ReadsRefuted, count}
use Rattle.tree_kernel.specs.Reading.{UnifiesAs}
use Rattle.tree_kernel.specs.Reader.{IsReady, Grows, signature_of, term_of, fuel_of, depth_of}
use Rattle.tree_kernel.specs.declared.job.Split as S
use Rattle.tree_kernel.specs.declared.reader.Reader.{Reader}
use Rattle.tree_kernel.proofs.Lists.{ids-weaker}
use Rattle.tree_kernel.proofs.Openings.{context-length}
use Rattle.tree_kernel.proofs.Reading.{signature_kept}

module _ (p q : Pool) (e : Extends p q) where
  pub split-stays : (s : S.Split) → SplitBelow (length p.trees) s → split_in (tree q) s ≡ split_in (tree p) s
  split-stays s h = cc (
    context_in-extends p q s.context e h.0,
    items-stay p q s.params.items e h.1,
    items-stay p q s.indices.items e h.2,
    Extends-tree s.ty e h.3,
    Extends-tree s.left e h.4,
  )

  pub split-within : (s : S.Split) → SplitBelow (length p.trees) s → SplitBelow (length q.trees) s
  split-within s h = (
    entries-weaker p q s.context e h.0,
    ids-weaker p q s.params.items e h.1,
    ids-weaker p q s.indices.items e h.2,
    omega (arith, h.3, Extends-length e),
    omega (arith, h.4, Extends-length e),
  )

-- the same question over the same signature
pub asks-same : {A : Type 0} (f : Unified → Outcome DeclRefusal A) (g h : Signature Term) (fuel depth : ℕ) (c d : Context Term) (es us : List Equation)
    (r : Outcome DeclRefusal A) → h ≡ g → d ≡ c → us ≡ es
    → Unifies h fuel depth (UnifiesAs h fuel depth) f d us r → Unifies g fuel depth (UnifiesAs g fuel depth) f c es r
asks-same f g h fuel depth c d es us r e1 e2 e3 k =
    subst (λ (x : Signature Term). Unifies x fuel depth (UnifiesAs x fuel depth) f c es r) e1
    (subst (λ (x : Context Term). Unifies h fuel depth (UnifiesAs h fuel depth) f x es r) e2
    (subst (λ (x : List Equation). Unifies h fuel depth (UnifiesAs h fuel depth) f d x r) e3 k))

-- what is said of a constructor by a reader that went on, said of the one before it
pub refuted-here : {x y : Reader} → IsReady x → Grows x y → (s : S.Split) (k : ℕ) (con : ConDecl ℕ) → SplitBelow (count x) s → AllCon (λ i. i < count x) con
    → (r : Outcome DeclRefusal (Unit {0})) → ReadsRefuted y s k con r → ReadsRefuted x s k con r
refuted-here {x} {y} ready g s k con b a r h =
    let p = x.pool.now in
    let q = y.pool.now in
    let of : Signature Term → ℕ → ℕ → Splitting → ConDecl Term → Type 0 = λ g fuel depth s c. IsRefuted g fuel depth (UnifiesAs g fuel depth) s k c r in
    subst (λ (c : ConDecl Term). of (signature_of x) (fuel_of x) (depth_of x) (split_in (tree p) s) c) (con-stays p q g.extends con a)
    (subst (λ (s : Splitting). of (signature_of x) (fuel_of x) (depth_of x) s (con_map (tree q) con)) (split-stays p q g.extends s b)
    (subst (λ (g : Signature Term). of g (fuel_of x) (depth_of x) (split_in (tree q) s) (con_map (tree q) con)) (signature_kept ready g)
    (subst (λ (n : ℕ). of (signature_of y) (fuel_of x) n (split_in (tree q) s) (con_map (tree q) con)) (ap (λ l. l.depth) g.limits)
    (subst (λ (n : ℕ). of (signature_of y) n (depth_of y) (split_in (tree q) s) (con_map (tree q) con)) (ap (λ l. l.fuel) g.limits) h))))

-- the environment of a constructor, by the context and the entries over trees
pub env-is : (f : ℕ → Term) (s : S.Split) (con : ℕ) (es : List (Entry ℕ))
    → into s.var (length s.context) (length es) (new_con con (map f s.params.items) (telescope_map f es))
    ≡ into s.var (length (context_by f s.context)) (length (telescope_map f es)) (new_con con (map f s.params.items) (telescope_map f es))
env-is f s con es = sym (ap₂ (λ (n m : ℕ). into s.var n m (new_con con (map f s.params.items) (telescope_map f es))) (context-length f s.context)
    (length-map es (entry_map f)))

-- a branch that stands in a pool stands in a later one, as the same
module _ (p q : Pool) (e : Extends p q) (b : Branch ℕ) (h : AllBranch (λ i. i < length p.trees) b) where
  pub branch-within : AllBranch (λ i. i < length q.trees) b
  branch-within = record { context = entries-weaker p q b.context e h.context; values = ids-weaker p q b.values e h.values }

  pub branch-stays : branch_map (tree q) b ≡ branch_map (tree p) b
  branch-stays = cc (telescope-stays p q b.context e h.context, items-stay p q b.values e h.values)

-- what is said of values by a reader that went on, said of the one before it
pub values-here : {x y : Reader} → IsReady x → Grows x y → (es : List (Entry ℕ)) (ts : List ℕ) (us : List (Entry ℕ)) → AllEntries (λ i. i < count x) es
    → AllByRecursion (λ i. i < count x) ts → AllEntries (λ i. i < count x) us → (r : Outcome DeclRefusal (Unit {0}))
    → ValuesOf (signature_of y) (fuel_of y) (depth_of y) (context_by (term_of y) es) (map (term_of y) ts) (context_by (term_of y) us) r
    → ValuesOf (signature_of x) (fuel_of x) (depth_of x) (context_by (term_of x) es) (map (term_of x) ts) (context_by (term_of x) us) r
values-here {x} {y} ready g es ts us a b d r h =
    let p = x.pool.now in
    let q = y.pool.now in
    subst (λ (c : Context Term). ValuesOf (signature_of x) (fuel_of x) (depth_of x) c (map (tree p) ts) (context_by (tree p) us) r)
    (context_in-extends p q es g.extends a)
    (subst (λ (vs : List Term). ValuesOf (signature_of x) (fuel_of x) (depth_of x) (context_by (tree q) es) vs (context_by (tree p) us) r)
    (items-stay p q ts g.extends b)
    (subst (λ (c : Context Term). ValuesOf (signature_of x) (fuel_of x) (depth_of x) (context_by (tree q) es) (map (tree q) ts) c r)
    (context_in-extends p q us g.extends d)
    (subst (λ (G : Signature Term). ValuesOf G (fuel_of x) (depth_of x) (context_by (tree q) es) (map (tree q) ts) (context_by (tree q) us) r)
    (signature_kept ready g)
    (subst (λ (n : ℕ). ValuesOf (signature_of y) (fuel_of x) n (context_by (tree q) es) (map (tree q) ts) (context_by (tree q) us) r)
    (ap (λ l. l.depth) g.limits)
    (subst (λ (n : ℕ). ValuesOf (signature_of y) n (depth_of y) (context_by (tree q) es) (map (tree q) ts) (context_by (tree q) us) r)
    (ap (λ l. l.fuel) g.limits) h)))))
