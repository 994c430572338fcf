-- The next field of a cosplit, and the fields after it.
use Rattle.std.proofs.Common.{◌≡◌, ◌<◌, ℕ, true, false, refl, List, [], ◌∷◌, ◌++◌, length, map, reverse, ap, ap₂, sym, subst, ◌∙◌}
use Rattle.std.specs.Prelude.{eqb}
use Rattle.el_base.proofs.Lists.{reverse_push}
use Rattle.el_base.proofs.Throughout.{all-push, all-reverse}
use Rattle.core_rules.specs.Term.{Term, Proj}
use Rattle.core_rules.specs.Substitution.{under}
use Rattle.core_rules.specs.Signature.{Entry, Context, Telescope, Tree, CoBranches, Signature, Cosplit}
use Rattle.core_rules.specs.Mapped.{co_branches_map, telescope_map, tree_map, AllEntries, AllCoBranches, AllTree}
use Rattle.core_rules.specs.InScope.{TreeInScope, CoBranchesInScope, any_meta}
use Rattle.core_kernel.proofs.Contexts.{context_in-extends}
use Rattle.core_terms.specs.TreeView.{co_of}
use Rattle.core_terms.specs.declared.tree.CoBranch.{CoBranch}
use Rattle.declared_types.proofs.Grown.{entries-weaker, telescope-stays}
use Rattle.term_pool.specs.Pool.{StandsFor}
use Rattle.term_pool.specs.Placed.{items-stay}
use Rattle.kernel_rules.specs.Outcome.{Outcome, Refuses, Then, goes_on, stops}
use Rattle.kernel_rules.specs.Refusals.{DeclRefusal, BadTree, IsAccepted}
use Rattle.kernel_rules.specs.TreeReading.{FieldsOf}
use Rattle.tree_kernel.specs.Jobs.{Ids, context_by}
use Rattle.tree_kernel.specs.Nodes.{FieldsAre, ReadsFields, count}
use Rattle.tree_kernel.specs.Reading.{ReadsTree, UnifiesAs}
use Rattle.tree_kernel.specs.Reader.{IsReady, Grows, signature_of, term_of, fuel_of, depth_of}
use Rattle.tree_kernel.specs.declared.job.Fields as F
use Rattle.tree_kernel.specs.declared.reader.Reader.{Reader}
use Rattle.tree_kernel.proofs.Continuing.{ReadsIn, co-stays, tree-stays, tree-within}
use Rattle.tree_kernel.proofs.Lists.{ids-weaker}
use Rattle.tree_kernel.proofs.Reading.{signature_kept, term_kept, within_kept}
use Rattle.tree_kernel.proofs.Waiting.{both, first_as, then_as, met, unmet}

-- the parts of fields that wait, over the ids of z
abbrev pub FieldsBelowIn : Reader → List (Entry ℕ) → ℕ → List ℕ → List (Entry ℕ) → List CoBranch → Type 0
FieldsBelowIn z es left env entries bs = AllEntries (λ i. i < count z) es × (left < count z) × Ids (count z) env × AllEntries (λ i. i < count z) entries
    × AllCoBranches (λ i. i < count z) (co_of bs)

abbrev pub FieldsScope : Reader → List (Entry ℕ) → List CoBranch → Type 0
FieldsScope z es bs = CoBranchesInScope (signature_of z) any_meta (length (context_by (term_of z) es)) (co_branches_map (term_of z) (co_of bs))

-- how the reader x reads them
abbrev pub ReadsFieldsIn : Reader → Reader → List (Entry ℕ) → ℕ → List ℕ → List ℕ → List (Entry ℕ) → List CoBranch → Outcome DeclRefusal (Unit {0}) → Type 0
ReadsFieldsIn x z es left env fs entries bs o = FieldsOf (signature_of x) (fuel_of x) (depth_of x) (UnifiesAs (signature_of x) (fuel_of x) (depth_of x))
    (context_by (term_of z) es) (term_of z left)
    (map (term_of z) (reverse env)) fs (telescope_map (term_of z) entries) (co_branches_map (term_of z) (co_of bs)) o

module _ {x z : Reader} (r : IsReady x) (g : Grows x z) (es : List (Entry ℕ)) (left : ℕ) (env : List ℕ) (f : ℕ) (fs : List ℕ) (e : Entry ℕ)
    (entries : List (Entry ℕ)) (b : CoBranch) (bs : List CoBranch)
    (below : FieldsBelowIn x es left env (e ∷ entries) (b ∷ bs)) (scope : FieldsScope x es (b ∷ bs)) (ty made : ℕ)
    (t : StandsFor z.pool.now ty (under (map (term_of x) (reverse env)) (term_of x e.ty)))
    (m : StandsFor z.pool.now made (Proj f (term_of x left))) where
  context-is : context_by (term_of z) es ≡ context_by (term_of x) es
  context-is = context_in-extends x.pool.now z.pool.now es g.extends below.0

  tree-is : tree_map (term_of z) b.rest ≡ tree_map (term_of x) b.rest
  tree-is = tree-stays x.pool.now z.pool.now g.extends left below.1 b.rest below.4.0

  branches-are : co_branches_map (term_of z) (co_of bs) ≡ co_branches_map (term_of x) (co_of bs)
  branches-are = co-stays x.pool.now z.pool.now g.extends left below.1 (co_of bs) below.4.1

  pub field-below : AllEntries (λ i. i < count z) es × AllTree (λ i. i < count z) b.rest × (ty < count z) × (made < count z)
  field-below = (
    entries-weaker x.pool.now z.pool.now es g.extends below.0,
    tree-within x.pool.now z.pool.now g.extends left below.1 b.rest below.4.0,
    t.within,
    m.within,
  )

  pub field-scope : TreeInScope (signature_of z) any_meta (length (context_by (term_of z) es)) (tree_map (term_of z) b.rest)
  field-scope =
      subst (λ (h : Signature Term). TreeInScope h any_meta (length (context_by (term_of z) es)) (tree_map (term_of z) b.rest)) (sym (signature_kept r g))
      (subst (λ (c : Context Term). TreeInScope (signature_of x) any_meta (length c) (tree_map (term_of z) b.rest)) (sym context-is)
      (subst (λ (T : Tree Term). TreeInScope (signature_of x) any_meta (length (context_by (term_of x) es)) T) (sym tree-is) scope.1))

  module _ (new : List ℕ) (n : new ≡ env ++ made ∷ []) where
    pub fields-below : FieldsBelowIn z es left new entries bs
    fields-below =
        let branches : AllCoBranches (λ i. i < count z) (co_of bs) =
        tree-within x.pool.now z.pool.now g.extends left below.1 (Cosplit (co_of bs)) below.4.1 in (
          entries-weaker x.pool.now z.pool.now es g.extends below.0,
          within_kept r g left below.1,
          subst (λ (xs : List ℕ). Ids (count z) xs) (sym n)
              (all-push (λ (i : ℕ). i < count z) env made (ids-weaker x.pool.now z.pool.now env g.extends below.2) m.within),
          entries-weaker x.pool.now z.pool.now entries g.extends below.3.1,
          branches,
        )

    pub fields-scope : FieldsScope z es bs
    fields-scope =
        subst (λ (h : Signature Term). CoBranchesInScope h any_meta (length (context_by (term_of z) es)) (co_branches_map (term_of z) (co_of bs)))
        (sym (signature_kept r g))
        (subst (λ (c : Context Term). CoBranchesInScope (signature_of x) any_meta (length c) (co_branches_map (term_of z) (co_of bs))) (sym context-is)
        (subst (λ (us : CoBranches Term). CoBranchesInScope (signature_of x) any_meta (length (context_by (term_of x) es)) us) (sym branches-are) scope.2))

    env-is : map (term_of z) (reverse new) ≡ Proj f (term_of x left) ∷ map (term_of x) (reverse env)
    env-is = ap (λ (xs : List ℕ). map (term_of z) (reverse xs)) n
        ∙ (ap (map (term_of z)) (reverse_push env made) ∙ ap₂ (λ (u : Term) (us : List Term). u ∷ us) m.is
        (items-stay x.pool.now z.pool.now (reverse env) g.extends (all-reverse (λ (i : ℕ). i < count x) env below.2)))

    pub fields-read : eqb b.field f ≡ true → (o : Outcome DeclRefusal (Unit {0}))
        → Then (ReadsIn x z es b.rest ty made) (λ (u : Unit {0}). Then (ReadsFieldsIn x z es left new fs entries bs) (λ (v : Unit {0}). IsAccepted)) o
        → ReadsFieldsIn x x es left env (f ∷ fs) (e ∷ entries) (b ∷ bs) o
    fields-read same o h =
        let G : Signature Term = signature_of x in
        let fuel = fuel_of x in
        let depth = depth_of x in
        let C : Context Term = context_by (term_of x) es in
        let L : Term = term_of x left in
        let E : List Term = map (term_of x) (reverse env) in
        let X : Telescope Term = telescope_map (term_of x) entries in
        let B : CoBranches Term = co_branches_map (term_of x) (co_of bs) in
        let W : Context Term → Term → List Term → Telescope Term → CoBranches Term → Type 0 =
        λ c l e xs us. FieldsOf G fuel depth (UnifiesAs G fuel depth) c l e fs xs us o in
        goes_on tt (met (eqb b.field f) same)
        (first_as o (λ u d.
        subst (λ (c : Context Term). ReadsTree G fuel depth c (tree_map (term_of x) b.rest) (under E (term_of x e.ty)) (Proj f L) u) context-is
        (subst (λ (T : Tree Term). ReadsTree G fuel depth (context_by (term_of z) es) T (under E (term_of x e.ty)) (Proj f L) u) tree-is
        (subst (λ (a : Term). ReadsTree G fuel depth (context_by (term_of z) es) (tree_map (term_of z) b.rest) a (Proj f L) u) t.is
        (subst (λ (l : Term). ReadsTree G fuel depth (context_by (term_of z) es) (tree_map (term_of z) b.rest) (term_of z ty) l u) m.is d))))
        (then_as o (λ d.
        subst (λ (c : Context Term). W c L (Proj f L ∷ E) X B) context-is
        (subst (λ (l : Term). W (context_by (term_of z) es) l (Proj f L ∷ E) X B) (term_kept r g left below.1)
        (subst (λ (us : List Term). W (context_by (term_of z) es) (term_of z left) us X B) env-is
        (subst (λ (xs : Telescope Term). W (context_by (term_of z) es) (term_of z left) (map (term_of z) (reverse new)) xs B)
        (telescope-stays x.pool.now z.pool.now entries g.extends below.3.1)
        (subst (λ (us : CoBranches Term). W (context_by (term_of z) es) (term_of z left) (map (term_of z) (reverse new)) (telescope_map (term_of z) entries) us)
        branches-are d)))))
        (both o h)))

-- the same of fields that wait
module _ (x : Reader) (w : F.Fields) (is : FieldsAre x w) (f : ℕ) (fs : List ℕ) (e : Entry ℕ) (entries : List (Entry ℕ)) (b : CoBranch) (bs : List CoBranch)
    (a : w.fields.now ≡ f ∷ fs) (d : w.entries.now ≡ e ∷ entries) (i : w.branches.now ≡ b ∷ bs) where
  below-at : FieldsBelowIn x w.context w.left w.env.items (e ∷ entries) (b ∷ bs)
  below-at = subst (λ (us : List CoBranch). FieldsBelowIn x w.context w.left w.env.items (e ∷ entries) us) i
      (subst (λ (es : List (Entry ℕ)). FieldsBelowIn x w.context w.left w.env.items es w.branches.now) d is.0)

  scope-at : FieldsScope x w.context (b ∷ bs)
  scope-at = subst (FieldsScope x w.context) i is.1

  reads-at : (o : Outcome DeclRefusal (Unit {0})) → ReadsFieldsIn x x w.context w.left w.env.items (f ∷ fs) (e ∷ entries) (b ∷ bs) o → ReadsFields x w o
  reads-at o h =
      subst (λ (us : List CoBranch). ReadsFieldsIn x x w.context w.left w.env.items w.fields.now w.entries.now us o) (sym i)
      (subst (λ (es : List (Entry ℕ)). ReadsFieldsIn x x w.context w.left w.env.items w.fields.now es (b ∷ bs) o) (sym d)
      (subst (λ (ks : List ℕ). ReadsFieldsIn x x w.context w.left w.env.items ks (e ∷ entries) (b ∷ bs) o) (sym a) h))

  pub field-other : eqb b.field f ≡ false → ReadsFields x w (Refuses BadTree)
  field-other n = reads-at (Refuses BadTree) (stops BadTree (unmet (eqb b.field f) n) refl)

  module _ (z : Reader) (r : IsReady x) (g : Grows x z) (ty made : ℕ)
      (t : StandsFor z.pool.now ty (under (map (term_of x) (reverse w.env.items)) (term_of x e.ty))) (m : StandsFor z.pool.now made (Proj f (term_of x w.left)))
      (new : List ℕ) (n : new ≡ w.env.items ++ made ∷ []) (ctx : List (Entry ℕ)) (c : ctx ≡ w.context) where
    pub field-is : ((AllEntries (λ i. i < count z) ctx × AllTree (λ i. i < count z) b.rest × (ty < count z) × (made < count z))
        × FieldsBelowIn z w.context w.left new entries bs)
        × (TreeInScope (signature_of z) any_meta (length (context_by (term_of z) ctx)) (tree_map (term_of z) b.rest) × (FieldsScope z w.context bs × Unit {0}))
    field-is =
        let p = field-below r g w.context w.left w.env.items f fs e entries b bs below-at scope-at ty made t m in
        let q = field-scope r g w.context w.left w.env.items f fs e entries b bs below-at scope-at ty made t m in (
          (
            (subst (AllEntries (λ i. i < count z)) (sym c) p.0, p.1, p.2, p.3),
            fields-below r g w.context w.left w.env.items f fs e entries b bs below-at scope-at ty made t m new n,
          ),
          (
            subst (λ (es : List (Entry ℕ)). TreeInScope (signature_of z) any_meta (length (context_by (term_of z) es)) (tree_map (term_of z) b.rest)) (sym c) q,
            (fields-scope r g w.context w.left w.env.items f fs e entries b bs below-at scope-at ty made t m new n, tt),
          ),
        )

    pub field-read : eqb b.field f ≡ true → (o : Outcome DeclRefusal (Unit {0}))
        → Then (ReadsIn x z ctx b.rest ty made) (λ (u : Unit {0}). Then (ReadsFieldsIn x z w.context w.left new fs entries bs) (λ (v : Unit {0}). IsAccepted)) o
        → ReadsFields x w o
    field-read same o h =
        reads-at o (fields-read r g w.context w.left w.env.items f fs e entries b bs below-at scope-at ty made t m new n same o
        (subst (λ (es : List (Entry ℕ)). Then (ReadsIn x z es b.rest ty made)
        (λ (u : Unit {0}). Then (ReadsFieldsIn x z w.context w.left new fs entries bs) (λ (v : Unit {0}). IsAccepted)) o) c h))
