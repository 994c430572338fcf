-- What a node on a variable and a cosplit of a record are read against, once the family is found.
use Rattle.std.proofs.Common.{◌≡◌, ◌<◌, ◌+◌, ◌-◌, ℕ, true, false, List, [], ◌∷◌, length, map, reverse, arith, ap, ap₂, sym, subst, ◌∙◌, refl}
use Rattle.std.specs.Prelude.{eqb}
use Rattle.std.specs.Option.{option_map_or}
use Rattle.std.proofs.lemmas.Bool.{eqb-true}
use Rattle.std.proofs.lemmas.List.{length-map}
use Rattle.std.specs.List.{AllByRecursion}
use Rattle.el_base.proofs.Lists.{map-reverse}
use Rattle.core_rules.specs.Term.{Term}
use Rattle.core_rules.specs.Signature.{Entry, Context, Telescope, Absurd, Cosplit, RecordSplit, Split, CoBranches, ConBranches, ConDecl, FamDecl, Signature}
use Rattle.core_rules.specs.Signature.{Tree, fams, ids_of, cons_of, fields_of}
use Rattle.core_rules.specs.Mapped.{con_map, entry_map, telescope_map, tree_map, co_branches_map, con_branches_map, AllEntries, AllCon, AllCoBranches}
use Rattle.core_rules.specs.Mapped.{AllConBranches, AllTree}
use Rattle.core_rules.specs.TypedTree.{Splitting, con_context, with_con}
use Rattle.core_rules.specs.InScope.{CoBranchesInScope, ConBranchesInScope, TreeInScope, field_count, any_meta}
use Rattle.core_rules.proofs.Heads.Mapped.{con_counts-map, fields_of-map}
use Rattle.core_rules.proofs.Trees.Scoped.{length-con_context}
use Rattle.core_kernel.proofs.Contexts.{context_in-extends}
use Rattle.core_terms.specs.Signature.{fam_of}
use Rattle.core_terms.specs.TreeView.{co_of, con_of}
use Rattle.core_terms.specs.declared.tree.CoBranch.{CoBranch}
use Rattle.core_terms.specs.declared.tree.ConBranch.{ConBranch}
use Rattle.declared_types.proofs.Grown.{entries-weaker, fam_in}
use Rattle.term_pool.specs.Pool.{StandsFor, tree}
use Rattle.kernel_rules.specs.Outcome.{Outcome, Gives, Refuses, goes_on, stops}
use Rattle.kernel_rules.specs.Refusals.{DeclRefusal, BadTree, Demands}
use Rattle.kernel_rules.specs.TreeReading.{AllRefutedOf, ShowsFamily, ShowsSplit, first_con, BranchesOf, FieldsOf, split_at}
use Rattle.tree_kernel.specs.Jobs.{Ids, SplitBelow, OfFields, OfBranches, JobInScope, context_by, split_in}
use Rattle.tree_kernel.specs.Nodes.{IsBrought, ReadsAbsurd, ReadsNode, SplitIs, count, split_of}
use Rattle.tree_kernel.specs.Reading.{UnifiesAs}
use Rattle.tree_kernel.specs.Reader.{IsReady, Grows, IsFamilyAt, ShowsRecordAt, family_in, signature_of, term_of, fuel_of, depth_of}
use Rattle.tree_kernel.specs.declared.job.Node as N
use Rattle.tree_kernel.specs.declared.job.Split as S
use Rattle.tree_kernel.specs.declared.node.AtCon.{AtCon}
use Rattle.tree_kernel.specs.declared.reader.Reader.{Reader}
use Rattle.tree_kernel.specs.declared.reader.FamilyAt.{FamilyAt}
use Rattle.tree_kernel.proofs.Answering.{after_gives}
use Rattle.tree_kernel.proofs.Continuing.{NodeIn, ReadsIn, co-stays, con-stays, node_goes, tree-within}
use Rattle.tree_kernel.proofs.Openings.{context-length}
use Rattle.tree_kernel.proofs.Reading.{Grows-trans, signature_kept, term_kept, within_kept}
use Rattle.tree_kernel.proofs.Waiting.{met, unmet}

module _ {x y : Reader} (r : IsReady x) (g : Grows x y) (n : N.Node) (F : FamilyAt) (fam : IsFamilyAt y.pool.now x.signature.now F)
    (es : AllEntries (λ i. i < count x) n.context) (ty : n.ty < count x) (left : n.left < count x) where
  pub its-cons : cons_of (signature_of x) F.fam ≡ F.entry.now.cons
  its-cons = ap (λ (ns : List ℕ). ids_of ns F.fam) (con_counts-map (tree x.pool.now) x.signature.now) ∙ sym fam.cons

  its-fields : fields_of (signature_of x) F.fam ≡ F.entry.now.fields
  its-fields = fields_of-map (tree x.pool.now) x.signature.now F.fam ∙ sym fam.fields

  context-is : context_by (term_of y) n.context ≡ context_by (term_of x) n.context
  context-is = context_in-extends x.pool.now y.pool.now n.context g.extends es

  pub split-is : (k : ℕ) → split_in (term_of y) (split_of n k F.params F.indices) ≡ split_at (context_by (term_of x) n.context) k (family_in (term_of y) F)
      (term_of x n.ty) (term_of x n.left)
  split-is k =
      let f : ℕ → Term = term_of y in
      let of : Context Term → Term → Term → Splitting =
      λ c a l. record { context = c; var = k; params = map f F.params.items; indices = map f F.indices.items; ty = a; left = l } in
      ap (λ (c : Context Term). of c (f n.ty) (f n.left)) context-is
      ∙ (ap (λ (a : Term). of (context_by (term_of x) n.context) a (f n.left)) (term_kept r g n.ty ty)
      ∙ ap (λ (l : Term). of (context_by (term_of x) n.context) (term_of x n.ty) l) (term_kept r g n.left left))

  pub split-below : (k : ℕ) → SplitBelow (count y) (split_of n k F.params F.indices)
  split-below k = (entries-weaker x.pool.now y.pool.now n.context g.extends es, fam.params, fam.indices, within_kept r g n.ty ty, within_kept r g n.left left)

  -- the constructors of an absurd node
  module _ (k : ℕ) (s : S.Split) (is : s ≡ split_of n k F.params F.indices) where
    pub absurd-in : k < length n.context → SplitIs y s
    absurd-in l = subst (SplitIs y) (sym is) (split-below k, l)

    pub absurd-read : ShowsSplit (signature_of x) (fuel_of x) (depth_of x) (context_by (term_of x) n.context) k (Gives (family_in (term_of y) F))
        → (cons : List ℕ) (decls : List (ConDecl ℕ)) → cons ≡ F.entry.now.cons → decls ≡ (fam_of F.entry.now.decl).cons
        → (o : Outcome DeclRefusal (Unit {0})) → ReadsAbsurd y s cons decls o → ReadsNode x n (Absurd k) o
    absurd-read shows cons decls c d o h =
        let f : ℕ → Term = term_of y in
        let of : Signature Term → ℕ → ℕ → Splitting → List ℕ → List (ConDecl ℕ) → Type 0 =
        λ G fuel depth s ks ds. AllRefutedOf G fuel depth (UnifiesAs G fuel depth) s ks (map (con_map f) ds) o in
        goes_on (family_in f F) shows
        (subst (λ (s : Splitting). of (signature_of x) (fuel_of x) (depth_of x) s (cons_of (signature_of x) F.fam) (fam_of F.entry.now.decl).cons)
        (ap (split_in f) is ∙ split-is k)
        (subst (λ (ks : List ℕ). of (signature_of x) (fuel_of x) (depth_of x) (split_in f s) ks (fam_of F.entry.now.decl).cons) (c ∙ sym its-cons)
        (subst (λ (ds : List (ConDecl ℕ)). of (signature_of x) (fuel_of x) (depth_of x) (split_in f s) cons ds) d
        (subst (λ (G : Signature Term). of G (fuel_of x) (depth_of x) (split_in f s) cons decls) (signature_kept r g)
        (subst (λ (m : ℕ). of (signature_of y) (fuel_of x) m (split_in f s) cons decls) (ap (λ l. l.depth) g.limits)
        (subst (λ (m : ℕ). of (signature_of y) m (depth_of y) (split_in f s) cons decls) (ap (λ l. l.fuel) g.limits) h))))))

  -- a record split that is refused
  module _ (k d : ℕ) (T : Tree ℕ) (shows : ShowsFamily (signature_of x) (fuel_of x) (depth_of x) (context_by (term_of x) n.context) k
      (Gives (family_in (term_of y) F))) where
    pub record-other : eqb F.fam d ≡ false → ReadsNode x n (RecordSplit k d T) (Refuses BadTree)
    record-other e = goes_on (family_in (term_of y) F) shows (stops BadTree (unmet (eqb F.fam d) e) refl)

    module _ (same : eqb F.fam d ≡ true) where
      pub record-no_eta : (fam_of F.entry.now.decl).eta ≡ false → ReadsNode x n (RecordSplit k d T) (Refuses BadTree)
      record-no_eta e = goes_on (family_in (term_of y) F) shows
          (goes_on tt (met (eqb F.fam d) same) (stops BadTree (unmet (fam_of F.entry.now.decl).eta e) refl))

      pub record-no_con : (fam_of F.entry.now.decl).eta ≡ true → F.entry.now.cons ≡ [] → ReadsNode x n (RecordSplit k d T) (Refuses BadTree)
      record-no_con e none = goes_on (family_in (term_of y) F) shows (goes_on tt (met (eqb F.fam d) same) (goes_on tt (met (fam_of F.entry.now.decl).eta e)
          (stops BadTree (sym (ap first_con (ap (λ (i : ℕ). cons_of (signature_of x) i) (sym (eqb-true F.fam d same)) ∙ (its-cons ∙ none)))) refl)))

  -- a record split, with the split brought to the constructor
  module _ (z : Reader) (h : Grows y z) (k d : ℕ) (T : Tree ℕ) (all : AllTree (λ i. i < count x) T)
      (in_scope : (k < length n.context) × (d < length (fams (signature_of x)))
      × TreeInScope (signature_of x) any_meta (length n.context + field_count (signature_of x) d - 1) (tree_map (term_of x) T))
      (shows : ShowsFamily (signature_of x) (fuel_of x) (depth_of x) (context_by (term_of x) n.context) k (Gives (family_in (term_of y) F)))
      (same : eqb F.fam d ≡ true) (eta : (fam_of F.entry.now.decl).eta ≡ true) (con : ℕ) (others : List ℕ)
      (first : F.entry.now.cons ≡ con ∷ others) (s : S.Split) (is : s ≡ split_of n k F.params F.indices) (fs : List (Entry ℕ))
      (e : fs ≡ (fam_of F.entry.now.decl).fields) (w : AtCon) (b : IsBrought y z s con fs w) where
    abbrev at : Splitting
    at = split_at (context_by (term_of x) n.context) k (family_in (term_of y) F) (term_of x n.ty) (term_of x n.left)

    at-is : split_in (term_of y) s ≡ at
    at-is = ap (split_in (term_of y)) is ∙ split-is k

    abbrev fields : Telescope Term
    fields = telescope_map (term_of y) (fam_of F.entry.now.decl).fields

    fields-are : telescope_map (term_of y) fs ≡ fields
    fields-are = ap (telescope_map (term_of y)) e

    d-is : F.fam ≡ d
    d-is = eqb-true F.fam d same

    count-is : field_count (signature_of x) d ≡ length fields
    count-is =
        let decl = fam_in x.pool.now x.signature.now F.fam (fam_of F.entry.now.decl) fam.is_decl in
        let m : length (telescope_map (term_of x) (fam_of F.entry.now.decl).fields) ≡ length fields =
        length-map (fam_of F.entry.now.decl).fields (entry_map (term_of x)) ∙ sym (length-map (fam_of F.entry.now.decl).fields (entry_map (term_of y))) in
        ap (λ (i : ℕ). field_count (signature_of x) i) (sym d-is) ∙ (ap (λ o. option_map_or (λ (d : FamDecl Term). length d.fields) o 0) decl ∙ m)

    context-then : context_by (term_of z) w.context ≡ con_context at con fields
    context-then = b.context ∙ ap₂ (λ (s : Splitting) (us : Telescope Term). con_context s con us) at-is fields-are

    ty-then : StandsFor z.pool.now w.ty (with_con at con fields (term_of x n.ty))
    ty-then = subst (StandsFor z.pool.now w.ty) (ap₂ (λ (s : Splitting) (us : Telescope Term). with_con s con us s.ty) at-is fields-are) b.ty

    left-then : StandsFor z.pool.now w.left (with_con at con fields (term_of x n.left))
    left-then = subst (StandsFor z.pool.now w.left) (ap₂ (λ (s : Splitting) (us : Telescope Term). with_con s con us s.left) at-is fields-are) b.left

    long : length n.context + field_count (signature_of x) d - 1 ≡ length w.context
    long =
        let a : length (context_by (term_of x) n.context) ≡ length n.context = context-length (term_of x) n.context in
        let b : length (context_by (term_of z) w.context) ≡ length w.context = context-length (term_of z) w.context in
        let c : length (context_by (term_of z) w.context) ≡ length (con_context at con fields) = ap length context-then in
        let l : k < length (context_by (term_of x) n.context) = omega (arith, a, in_scope.0) in
        let m : length (con_context at con fields) ≡ length (context_by (term_of x) n.context) + length fields - 1 = length-con_context at con fields l in
        omega (arith, a, b, c, m, count-is)

    pub record-goes : NodeIn z w.context T w.ty w.left
        × ((o : Outcome DeclRefusal (Unit {0})) → ReadsIn x z w.context T w.ty w.left o → ReadsNode x n (RecordSplit k d T) o)
    record-goes = node_goes r (Grows-trans g h) w.context (con_context at con fields) T w.ty w.left n.ty (with_con at con fields (term_of x n.ty))
        (with_con at con fields (term_of x n.left)) ty b.below context-then all ty-then left-then
        (subst (λ (m : ℕ). TreeInScope (signature_of x) any_meta m (tree_map (term_of x) T)) long in_scope.2) (ReadsNode x n (RecordSplit k d T))
        (λ o m. goes_on (family_in (term_of y) F) shows (goes_on tt (met (eqb F.fam d) same) (goes_on tt (met (fam_of F.entry.now.decl).eta eta)
        (goes_on con (sym (ap first_con (ap (λ (i : ℕ). cons_of (signature_of x) i) (sym d-is) ∙ (its-cons ∙ first)))) m))))

  -- the branches of a split
  module _ (k : ℕ) (bs : List ConBranch) (all : AllConBranches (λ i. i < count x) (con_of bs))
      (in_scope : (k < length n.context) × ConBranchesInScope (signature_of x) any_meta (length n.context) (con_branches_map (term_of x) (con_of bs)))
      (shows : ShowsSplit (signature_of x) (fuel_of x) (depth_of x) (context_by (term_of x) n.context) k (Gives (family_in (term_of y) F))) (cons : List ℕ)
      (decls : List (ConDecl ℕ)) (c : cons ≡ F.entry.now.cons) (d : decls ≡ (fam_of F.entry.now.decl).cons) where
    abbrev pub BranchesIn : S.Split → Type 0
    BranchesIn s = (SplitBelow (count y) s × AllByRecursion (AllCon (λ i. i < count y)) decls × AllConBranches (λ i. i < count y) (con_of bs))
        × JobInScope (signature_of y) (OfBranches (split_in (term_of y) s) cons (map (con_map (term_of y)) decls) (con_branches_map (term_of y) (con_of bs)))

    abbrev pub ReadsRest : S.Split → Type 0
    ReadsRest s = (o : Outcome DeclRefusal (Unit {0})) → BranchesOf (signature_of x) (fuel_of x) (depth_of x)
        (UnifiesAs (signature_of x) (fuel_of x) (depth_of x)) (split_in (term_of y) s) cons
        (map (con_map (term_of y)) decls) (con_branches_map (term_of y) (con_of bs)) o → ReadsNode x n (Split k (con_of bs)) o

    branches-are : con_branches_map (term_of y) (con_of bs) ≡ con_branches_map (term_of x) (con_of bs)
    branches-are = con-stays x.pool.now y.pool.now g.extends n.ty ty (con_of bs) all

    pub branches-in : BranchesIn (split_of n k F.params F.indices)
    branches-in =
        let long : length (context_by (term_of y) n.context) ≡ length n.context = context-length (term_of y) n.context in
        let j : ConBranchesInScope (signature_of y) any_meta (length (context_by (term_of y) n.context)) (con_branches_map (term_of y) (con_of bs)) =
        subst (λ (h : Signature Term). ConBranchesInScope h any_meta (length (context_by (term_of y) n.context)) (con_branches_map (term_of y) (con_of bs)))
        (sym (signature_kept r g))
        (subst (λ (m : ℕ). ConBranchesInScope (signature_of x) any_meta m (con_branches_map (term_of y) (con_of bs))) (sym long)
        (subst (λ (us : ConBranches Term). ConBranchesInScope (signature_of x) any_meta (length n.context) us) (sym branches-are) in_scope.1)) in (
          (
            split-below k,
            subst (AllByRecursion (AllCon (λ i. i < count y))) (sym d) fam.decl.cons,
            tree-within x.pool.now y.pool.now g.extends n.ty ty (Split k (con_of bs)) all,
          ),
          (omega (arith, long, in_scope.0), j),
        )

    pub branches-read : ReadsRest (split_of n k F.params F.indices)
    branches-read o h =
        let fuel = fuel_of x in
        let depth = depth_of x in
        let G : Signature Term = signature_of x in
        let D : List (ConDecl Term) = map (con_map (term_of y)) decls in
        goes_on (family_in (term_of y) F) shows
        (subst (λ (s : Splitting). BranchesOf G fuel depth (UnifiesAs G fuel depth) s (cons_of G F.fam)
        (map (con_map (term_of y)) (fam_of F.entry.now.decl).cons) (con_branches_map (term_of x) (con_of bs)) o) (split-is k)
        (subst (λ (ks : List ℕ). BranchesOf G fuel depth (UnifiesAs G fuel depth) (split_in (term_of y) (split_of n k F.params F.indices)) ks
        (map (con_map (term_of y)) (fam_of F.entry.now.decl).cons) (con_branches_map (term_of x) (con_of bs)) o) (c ∙ sym its-cons)
        (subst (λ (ds : List (ConDecl ℕ)). BranchesOf G fuel depth (UnifiesAs G fuel depth) (split_in (term_of y) (split_of n k F.params F.indices)) cons
        (map (con_map (term_of y)) ds) (con_branches_map (term_of x) (con_of bs)) o) d
        (subst (λ (us : ConBranches Term). BranchesOf G fuel depth (UnifiesAs G fuel depth) (split_in (term_of y) (split_of n k F.params F.indices)) cons D us
        o) branches-are h))))

  -- the fields of a cosplit
  module _ (bs : List CoBranch) (all : AllCoBranches (λ i. i < count x) (co_of bs))
      (in_scope : CoBranchesInScope (signature_of x) any_meta (length n.context) (co_branches_map (term_of x) (co_of bs)))
      (shows : ShowsRecordAt (signature_of x) (fuel_of x) (depth_of x) (term_of x n.ty) (Gives (family_in (term_of y) F)))
      (yes : Demands (fam_of F.entry.now.decl).is_record BadTree (Gives tt))
      (fs : List ℕ) (entries : List (Entry ℕ)) (c : fs ≡ F.entry.now.fields) (d : entries ≡ (fam_of F.entry.now.decl).fields) where
    co-branches-are : co_branches_map (term_of y) (co_of bs) ≡ co_branches_map (term_of x) (co_of bs)
    co-branches-are = co-stays x.pool.now y.pool.now g.extends n.ty ty (co_of bs) all

    pub fields-in : (AllEntries (λ i. i < count y) n.context × (n.left < count y) × Ids (count y) F.params.items × AllEntries (λ i. i < count y) entries
        × AllCoBranches (λ i. i < count y) (co_of bs))
        × JobInScope (signature_of y) (OfFields (context_by (term_of y) n.context) (term_of y n.left) (map (term_of y) (reverse F.params.items)) fs
        (telescope_map (term_of y) entries) (co_branches_map (term_of y) (co_of bs)))
    fields-in =
        let long : length (context_by (term_of y) n.context) ≡ length n.context = context-length (term_of y) n.context in (
          (
            entries-weaker x.pool.now y.pool.now n.context g.extends es,
            within_kept r g n.left left,
            fam.params,
            subst (AllEntries (λ i. i < count y)) (sym d) fam.decl.fields,
            tree-within x.pool.now y.pool.now g.extends n.ty ty (Cosplit (co_of bs)) all,
          ),
          subst (λ (h : Signature Term). CoBranchesInScope h any_meta (length (context_by (term_of y) n.context)) (co_branches_map (term_of y) (co_of bs)))
              (sym (signature_kept r g))
              (subst (λ (m : ℕ). CoBranchesInScope (signature_of x) any_meta m (co_branches_map (term_of y) (co_of bs))) (sym long)
              (subst (λ (us : CoBranches Term). CoBranchesInScope (signature_of x) any_meta (length n.context) us) (sym co-branches-are) in_scope)),
        )

    pub fields-read : (o : Outcome DeclRefusal (Unit {0})) → FieldsOf (signature_of x) (fuel_of x) (depth_of x)
        (UnifiesAs (signature_of x) (fuel_of x) (depth_of x)) (context_by (term_of y) n.context) (term_of y n.left)
        (map (term_of y) (reverse F.params.items)) fs (telescope_map (term_of y) entries) (co_branches_map (term_of y) (co_of bs)) o
        → ReadsNode x n (Cosplit (co_of bs)) o
    fields-read o h =
        let f : ℕ → Term = term_of y in
        let of : Context Term → Term → List Term → List ℕ → Telescope Term → CoBranches Term → Type 0 =
        λ c l e fs xs us. FieldsOf (signature_of x) (fuel_of x) (depth_of x) (UnifiesAs (signature_of x) (fuel_of x) (depth_of x)) c l e fs xs us o in
        let C : Context Term = context_by (term_of x) n.context in
        let L : Term = term_of x n.left in
        let E : List Term = reverse (map f F.params.items) in
        let xs : Telescope Term = telescope_map f entries in
        let us : CoBranches Term = co_branches_map f (co_of bs) in
        after_gives _ _ _ (family_in f F) o shows (goes_on tt yes
        (subst (λ (us : CoBranches Term). of C L E (fields_of (signature_of x) F.fam) (telescope_map f (fam_of F.entry.now.decl).fields) us) co-branches-are
        (subst (λ (es : List (Entry ℕ)). of C L E (fields_of (signature_of x) F.fam) (telescope_map f es) us) d
        (subst (λ (ks : List ℕ). of C L E ks xs us) (c ∙ sym its-fields)
        (subst (λ (e : List Term). of C L e fs xs us) (map-reverse f F.params.items)
        (subst (λ (l : Term). of C l (map f (reverse F.params.items)) fs xs us) (term_kept r g n.left left)
        (subst (λ (c : Context Term). of c (f n.left) (map f (reverse F.params.items)) fs xs us) context-is h)))))))
