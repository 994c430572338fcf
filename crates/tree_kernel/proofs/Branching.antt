-- The next constructor of a split, and the constructors after it.
use Rattle.std.proofs.Common.{◌≡◌, ◌<◌, ℕ, true, false, List, [], ◌∷◌, length, map, ap₂, refl, sym, subst}
use Rattle.std.specs.Prelude.{eqb}
use Rattle.std.specs.List.{AllByRecursion}
use Rattle.std.proofs.lemmas.List.{length-map}
use Rattle.el_base.proofs.Throughout.{all-weaker}
use Rattle.core_rules.specs.Term.{Term}
use Rattle.core_rules.specs.Substitution.{under}
use Rattle.core_rules.specs.Signature.{Branch, Context, ConDecl, ConBranches, Tree, Split, Signature}
use Rattle.core_rules.specs.Mapped.{con_map, con_branches_map, entry_map, telescope_map, tree_map, AllCon, AllConBranches, AllTree}
use Rattle.core_rules.specs.InScope.{InScope, ConBranchesInScope, TreeInScope, any_meta}
use Rattle.core_rules.specs.TypedTree.{Splitting, with_con}
use Rattle.core_kernel.proofs.Contexts.{context_in-extends}
use Rattle.core_terms.specs.TreeView.{con_of, way_of}
use Rattle.core_terms.specs.declared.tree.ConBranch.{ConBranch}
use Rattle.core_terms.specs.declared.tree.Way.{Way}
use Rattle.core_terms.specs.declared.tree.Way.TheVariants as W
use Rattle.declared_types.proofs.Grown.{con-stays, con-within, entries-weaker}
use Rattle.kernel_rules.specs.Outcome.{Outcome, Gives, Refuses, Then, goes_on, stops}
use Rattle.kernel_rules.specs.Refusals.{DeclRefusal, BadTree, IsAccepted}
use Rattle.kernel_rules.specs.TreeReading.{BranchesOf}
use Rattle.term_pool.specs.Pool.{StandsFor}
use Rattle.tree_kernel.specs.Jobs.{Job, JobInScope, NodeBelow, OfTree, OfBranches, ReadsJob, SplitBelow, context_by, node_in, split_in}
use Rattle.tree_kernel.specs.Nodes.{BranchIs, BranchesAre, GoesOn, ReadsBranch, ReadsBranches, ReadsRefuted, SplitIs, count}
use Rattle.tree_kernel.specs.Reading.{UnifiesAs}
use Rattle.tree_kernel.specs.Reader.{IsReady, Grows, signature_of, term_of, fuel_of, depth_of}
use Rattle.tree_kernel.specs.declared.job.Branches as B
use Rattle.tree_kernel.specs.declared.job.Node as N
use Rattle.tree_kernel.specs.declared.job.Split as S
use Rattle.tree_kernel.specs.declared.reader.Reader.{Reader}
use Rattle.tree_kernel.proofs.Continuing as C
use Rattle.tree_kernel.proofs.Continuing.{tree-within}
use Rattle.tree_kernel.proofs.Reading.{signature_kept}
use Rattle.tree_kernel.proofs.Splits.{split-stays, split-within}
use Rattle.tree_kernel.proofs.Openings.{context-length}
use Rattle.tree_kernel.proofs.Waiting.{alone, both, first_as, then_as, met, unmet}

-- the parts of constructors that wait, over the ids of z
abbrev pub BranchesBelowIn : Reader → S.Split → List (ConDecl ℕ) → List ConBranch → Type 0
BranchesBelowIn z s decls bs = SplitBelow (count z) s × AllByRecursion (AllCon (λ i. i < count z)) decls × AllConBranches (λ i. i < count z) (con_of bs)

abbrev pub BranchesScope : Reader → S.Split → List ConBranch → Type 0
BranchesScope z s bs = (s.var < length (context_by (term_of z) s.context))
    × ConBranchesInScope (signature_of z) any_meta (length (context_by (term_of z) s.context)) (con_branches_map (term_of z) (con_of bs))

-- how the reader x reads them
abbrev pub ReadsBranchesIn : Reader → Reader → S.Split → List ℕ → List (ConDecl ℕ) → List ConBranch → Outcome DeclRefusal (Unit {0}) → Type 0
ReadsBranchesIn x z s ks decls bs o = BranchesOf (signature_of x) (fuel_of x) (depth_of x) (UnifiesAs (signature_of x) (fuel_of x) (depth_of x))
    (split_in (term_of z) s) ks (map (con_map (term_of z)) decls) (con_branches_map (term_of z) (con_of bs)) o

-- constructors that wait, as the reader goes on
module _ {x z : Reader} (r : IsReady x) (g : Grows x z) (s : S.Split) (decls : List (ConDecl ℕ)) (bs : List ConBranch)
    (below : BranchesBelowIn x s decls bs) where
  context-is : context_by (term_of z) s.context ≡ context_by (term_of x) s.context
  context-is = context_in-extends x.pool.now z.pool.now s.context g.extends below.0.0

  branches-are : con_branches_map (term_of z) (con_of bs) ≡ con_branches_map (term_of x) (con_of bs)
  branches-are = C.con-stays x.pool.now z.pool.now g.extends s.ty below.0.3 (con_of bs) below.2

  decls-are : map (con_map (term_of z)) decls ≡ map (con_map (term_of x)) decls
  decls-are = each decls below.1
    where
      each : (ds : List (ConDecl ℕ)) → AllByRecursion (AllCon (λ i. i < count x)) ds → map (con_map (term_of z)) ds ≡ map (con_map (term_of x)) ds
      each [] h = refl
      each (d ∷ ds) h = ap₂ (λ (c : ConDecl Term) (cs : List (ConDecl Term)). c ∷ cs) (con-stays x.pool.now z.pool.now g.extends d h.0) (each ds h.1)

  pub branches-below : BranchesBelowIn z s decls bs
  branches-below = (
    split-within x.pool.now z.pool.now g.extends s below.0,
    all-weaker _ _ (λ (d : ConDecl ℕ) (h : AllCon (λ i. i < count x) d). con-within x.pool.now z.pool.now g.extends d h) decls below.1,
    tree-within x.pool.now z.pool.now g.extends s.ty below.0.3 (Split 0 (con_of bs)) below.2,
  )

  pub branches-job : (ks : List ℕ) → OfBranches (split_in (term_of z) s) ks (map (con_map (term_of z)) decls) (con_branches_map (term_of z) (con_of bs))
      ≡ OfBranches (split_in (term_of x) s) ks (map (con_map (term_of x)) decls) (con_branches_map (term_of x) (con_of bs))
  branches-job ks = cc (split-stays x.pool.now z.pool.now g.extends s below.0, decls-are, branches-are)

  pub branches-scope : BranchesScope x s bs → BranchesScope z s bs
  branches-scope scope = (
    subst (λ (c : Context Term). s.var < length c) (sym context-is) scope.0,
    subst (λ (h : Signature Term). ConBranchesInScope h any_meta (length (context_by (term_of z) s.context)) (con_branches_map (term_of z) (con_of bs)))
        (sym (signature_kept r g))
        (subst (λ (c : Context Term). ConBranchesInScope (signature_of x) any_meta (length c) (con_branches_map (term_of z) (con_of bs))) (sym context-is)
        (subst (λ (us : ConBranches Term). ConBranchesInScope (signature_of x) any_meta (length (context_by (term_of x) s.context)) us) (sym branches-are)
        scope.1)),
  )

  pub branches-here : (ks : List ℕ) (o : Outcome DeclRefusal (Unit {0})) → ReadsBranchesIn x z s ks decls bs o → ReadsBranchesIn x x s ks decls bs o
  branches-here ks o h =
      let W : Splitting → List (ConDecl Term) → ConBranches Term → Type 0 =
      λ s ds us. BranchesOf (signature_of x) (fuel_of x) (depth_of x) (UnifiesAs (signature_of x) (fuel_of x) (depth_of x)) s ks ds us o in
      subst (λ (s : Splitting). W s (map (con_map (term_of x)) decls) (con_branches_map (term_of x) (con_of bs)))
      (split-stays x.pool.now z.pool.now g.extends s below.0)
      (subst (λ (ds : List (ConDecl Term)). W (split_in (term_of z) s) ds (con_branches_map (term_of x) (con_of bs))) decls-are
      (subst (λ (us : ConBranches Term). W (split_in (term_of z) s) (map (con_map (term_of z)) decls) us) branches-are h))

-- the first of the branches, by the way it is
module _ (x : Reader) (s : S.Split) (con : ConDecl ℕ) (decls : List (ConDecl ℕ)) (b : ConBranch) (bs : List ConBranch)
    (below : BranchesBelowIn x s (con ∷ decls) (b ∷ bs)) (scope : BranchesScope x s (b ∷ bs)) where
  all-by : (w : Way) → b.way ≡ w → AllConBranches (λ i. i < count x) (way_of b.con w (con_of bs))
  all-by w e = subst (λ (w : Way). AllConBranches (λ i. i < count x) (way_of b.con w (con_of bs))) e below.2

  scope-by : (w : Way) → b.way ≡ w → ConBranchesInScope (signature_of x) any_meta (length (context_by (term_of x) s.context))
      (con_branches_map (term_of x) (way_of b.con w (con_of bs)))
  scope-by w e = subst (λ (w : Way). ConBranchesInScope (signature_of x) any_meta (length (context_by (term_of x) s.context))
      (con_branches_map (term_of x) (way_of b.con w (con_of bs)))) e scope.1

  reads-by : (w : Way) → b.way ≡ w → (ks : List ℕ) (o : Outcome DeclRefusal (Unit {0}))
      → BranchesOf (signature_of x) (fuel_of x) (depth_of x) (UnifiesAs (signature_of x) (fuel_of x) (depth_of x)) (split_in (term_of x) s) ks
      (map (con_map (term_of x)) (con ∷ decls)) (con_branches_map (term_of x) (way_of b.con w (con_of bs))) o
      → ReadsBranchesIn x x s ks (con ∷ decls) (b ∷ bs) o
  reads-by w e ks o h =
      subst (λ (w : Way). BranchesOf (signature_of x) (fuel_of x) (depth_of x) (UnifiesAs (signature_of x) (fuel_of x) (depth_of x)) (split_in (term_of x) s) ks
      (map (con_map (term_of x)) (con ∷ decls)) (con_branches_map (term_of x) (way_of b.con w (con_of bs))) o) (sym e) h

  module _ (e : b.way ≡ W.Refuted) where
    pub refuted-below : BranchesBelowIn x s decls bs
    refuted-below = (below.0, below.1.1, all-by W.Refuted e)

    pub refuted-scope : BranchesScope x s bs
    refuted-scope = (scope.0, (scope-by W.Refuted e).1)

    module _ (k : ℕ) (ks : List ℕ) (same : eqb b.con k ≡ true) where
      pub refuted-stop : (d : DeclRefusal) → ReadsRefuted x s k con (Refuses d) → ReadsBranchesIn x x s (k ∷ ks) (con ∷ decls) (b ∷ bs) (Refuses d)
      refuted-stop d h = reads-by W.Refuted e (k ∷ ks) (Refuses d) (goes_on tt (met (eqb b.con k) same) (stops d h refl))

      pub refuted-read : ReadsRefuted x s k con (Gives tt) → (o : Outcome DeclRefusal (Unit {0})) → ReadsBranchesIn x x s ks decls bs o
          → ReadsBranchesIn x x s (k ∷ ks) (con ∷ decls) (b ∷ bs) o
      refuted-read d o h = reads-by W.Refuted e (k ∷ ks) o (goes_on tt (met (eqb b.con k) same) (goes_on tt d h))

  module _ (br : Branch ℕ) (T : Tree ℕ) (e : b.way ≡ W.Goes br T) where
    pub goes-below : BranchesBelowIn x s decls bs
    goes-below = let a = all-by (W.Goes br T) e in (below.0, below.1.1, a.2)

    pub goes-scope : BranchesScope x s bs
    goes-scope = let a = scope-by (W.Goes br T) e in (scope.0, a.3)

    pub goes-is : BranchIs x br T
    goes-is =
        let a = all-by (W.Goes br T) e in
        let d = scope-by (W.Goes br T) e in
        let n : length (telescope_map (term_of x) br.context) ≡ length br.context = length-map br.context (entry_map (term_of x)) in
        record {
          stands = record {
            branch = a.0;
            context = d.1.context;
            values = subst (λ (n : ℕ). AllByRecursion (InScope (signature_of x) any_meta n) (map (term_of x) br.values)) n d.1.values;
          };
          tree = a.1;
          scope = subst (λ (n : ℕ). TreeInScope (signature_of x) any_meta n (tree_map (term_of x) T)) n d.2;
        }

    module _ (k : ℕ) (ks : List ℕ) (same : eqb b.con k ≡ true) where
      pub goes-stop : (d : DeclRefusal) → ReadsBranch x s k con br (Refuses d) → ReadsBranchesIn x x s (k ∷ ks) (con ∷ decls) (b ∷ bs) (Refuses d)
      goes-stop d h = reads-by (W.Goes br T) e (k ∷ ks) (Refuses d) (goes_on tt (met (eqb b.con k) same) (stops d h refl))

      pub goes-read : ReadsBranch x s k con br (Gives tt) → (J : Job) → J ≡ OfTree (context_by (term_of x) br.context) (tree_map (term_of x) T)
          (under (map (term_of x) br.values) (with_con (split_in (term_of x) s) k (telescope_map (term_of x) con.args) (term_of x s.ty)))
          (under (map (term_of x) br.values) (with_con (split_in (term_of x) s) k (telescope_map (term_of x) con.args) (term_of x s.left)))
          → (Q : Outcome DeclRefusal (Unit {0}) → Type 0) → ((o : Outcome DeclRefusal (Unit {0})) → Q o → ReadsBranchesIn x x s ks decls bs o)
          → (o : Outcome DeclRefusal (Unit {0}))
          → Then (ReadsJob (signature_of x) (fuel_of x) (depth_of x) J) (λ (u : Unit {0}). Then Q (λ (v : Unit {0}). IsAccepted)) o
          → ReadsBranchesIn x x s (k ∷ ks) (con ∷ decls) (b ∷ bs) o
      goes-read d J is Q w o h =
          reads-by (W.Goes br T) e (k ∷ ks) o (goes_on tt (met (eqb b.con k) same) (goes_on tt d
          (first_as o (λ u. subst (λ (J : Job). ReadsJob (signature_of x) (fuel_of x) (depth_of x) J u) is) (then_as o (w o) (both o h)))))

-- the tree of a branch that goes on, as the reader goes on
module _ {x z : Reader} (r : IsReady x) (g : Grows x z) (s : S.Split) (br : Branch ℕ) (T : Tree ℕ) (below : SplitBelow (count x) s) (h : BranchIs x br T)
    (ty left : ℕ) (a l : Term) (t : StandsFor z.pool.now ty a) (m : StandsFor z.pool.now left l) where
  tree-is : tree_map (term_of z) T ≡ tree_map (term_of x) T
  tree-is = C.tree-stays x.pool.now z.pool.now g.extends s.ty below.3 T h.tree

  pub branch-node : C.NodeIn z br.context T ty left
  branch-node = (
    entries-weaker x.pool.now z.pool.now br.context g.extends h.stands.branch.context,
    tree-within x.pool.now z.pool.now g.extends s.ty below.3 T h.tree,
    t.within,
    m.within,
    subst (λ (G : Signature Term). TreeInScope G any_meta (length br.context) (tree_map (term_of z) T)) (sym (signature_kept r g))
        (subst (TreeInScope (signature_of x) any_meta (length br.context)) (sym tree-is) h.scope),
  )

  pub branch-job : OfTree (context_by (term_of z) br.context) (tree_map (term_of z) T) (term_of z ty) (term_of z left) ≡ OfTree
      (context_by (term_of x) br.context) (tree_map (term_of x) T) a l
  branch-job = cc (context_in-extends x.pool.now z.pool.now br.context g.extends h.stands.branch.context, tree-is, t.is, m.is)

-- the same of constructors that wait
module _ (x : Reader) (w : B.Branches) (is : BranchesAre x w) (k : ℕ) (ks : List ℕ) (con : ConDecl ℕ) (decls : List (ConDecl ℕ)) (b : ConBranch)
    (bs : List ConBranch) (a : w.cons.now ≡ k ∷ ks) (d : w.decls.now ≡ con ∷ decls) (i : w.branches.now ≡ b ∷ bs) where
  below-at : BranchesBelowIn x w.split (con ∷ decls) (b ∷ bs)
  below-at = subst (λ (us : List ConBranch). BranchesBelowIn x w.split (con ∷ decls) us) i
      (subst (λ (ds : List (ConDecl ℕ)). BranchesBelowIn x w.split ds w.branches.now) d is.0)

  scope-at : BranchesScope x w.split (b ∷ bs)
  scope-at = subst (BranchesScope x w.split) i is.1

  reads-at : (o : Outcome DeclRefusal (Unit {0})) → ReadsBranchesIn x x w.split (k ∷ ks) (con ∷ decls) (b ∷ bs) o → ReadsBranches x w o
  reads-at o h =
      subst (λ (us : List ConBranch). ReadsBranchesIn x x w.split w.cons.now w.decls.now us o) (sym i)
      (subst (λ (ds : List (ConDecl ℕ)). ReadsBranchesIn x x w.split w.cons.now ds (b ∷ bs) o) (sym d)
      (subst (λ (js : List ℕ). ReadsBranchesIn x x w.split js (con ∷ decls) (b ∷ bs) o) (sym a) h))

  pub its-split : SplitIs x w.split
  its-split = let n : length (context_by (term_of x) w.split.context) ≡ length w.split.context =
      context-length (term_of x) w.split.context in (below-at.0, subst (λ (n : ℕ). w.split.var < n) n scope-at.0)

  pub its-con : AllCon (λ i. i < count x) con
  its-con = below-at.1.0

  pub branch-other : eqb b.con k ≡ false → ReadsBranches x w (Refuses BadTree)
  branch-other n = reads-at (Refuses BadTree) (reads-by x w.split con decls b bs below-at scope-at b.way refl (k ∷ ks) (Refuses BadTree) (by_way b.way))
    where
      by_way : (v : Way) → BranchesOf (signature_of x) (fuel_of x) (depth_of x) (UnifiesAs (signature_of x) (fuel_of x) (depth_of x))
          (split_in (term_of x) w.split) (k ∷ ks) (map (con_map (term_of x)) (con ∷ decls))
          (con_branches_map (term_of x) (way_of b.con v (con_of bs))) (Refuses BadTree)
      by_way W.Refuted = stops BadTree (unmet (eqb b.con k) n) refl
      by_way (W.Goes br T) = stops BadTree (unmet (eqb b.con k) n) refl

  module _ (same : eqb b.con k ≡ true) where
    module _ (e : b.way ≡ W.Refuted) where
      pub at-refuted-stop : (r : DeclRefusal) → ReadsRefuted x w.split k con (Refuses r) → ReadsBranches x w (Refuses r)
      at-refuted-stop r h = reads-at (Refuses r) (refuted-stop x w.split con decls b bs below-at scope-at e k ks same r h)

      module _ (z : Reader) (r : IsReady x) (g : Grows x z) where
        pub at-refuted-is : BranchesBelowIn z w.split decls bs × (BranchesScope z w.split bs × Unit {0})
        at-refuted-is =
            let p = refuted-below x w.split con decls b bs below-at scope-at e in
            let q = refuted-scope x w.split con decls b bs below-at scope-at e in
            (branches-below r g w.split decls bs p, (branches-scope r g w.split decls bs p q, tt))

        pub at-refuted-read : ReadsRefuted x w.split k con (Gives tt) → (o : Outcome DeclRefusal (Unit {0}))
            → Then (ReadsBranchesIn x z w.split ks decls bs) (λ (v : Unit {0}). IsAccepted) o → ReadsBranches x w o
        at-refuted-read h o m =
            let p = refuted-below x w.split con decls b bs below-at scope-at e in
            reads-at o (refuted-read x w.split con decls b bs below-at scope-at e k ks same h o (branches-here r g w.split decls bs p ks o (alone o m)))

    module _ (br : Branch ℕ) (T : Tree ℕ) (e : b.way ≡ W.Goes br T) where
      pub at-goes-stop : (r : DeclRefusal) → ReadsBranch x w.split k con br (Refuses r) → ReadsBranches x w (Refuses r)
      at-goes-stop r h = reads-at (Refuses r) (goes-stop x w.split con decls b bs below-at scope-at br T e k ks same r h)

      module _ (z : Reader) (r : IsReady x) (g : Grows x z) (n : N.Node) (h : GoesOn x z w.split k con br T n) where
        pub at-goes-rest : (NodeBelow (count z) n × BranchesBelowIn z w.split decls bs)
            × (JobInScope (signature_of z) (node_in (term_of z) n) × (BranchesScope z w.split bs × Unit {0}))
        at-goes-rest =
            let p = goes-below x w.split con decls b bs below-at scope-at br T e in
            let q = goes-scope x w.split con decls b bs below-at scope-at br T e in
            let m : length (context_by (term_of z) n.context) ≡ length n.context = context-length (term_of z) n.context in
            let t : AllTree (λ i. i < count z) n.tree.now = subst (AllTree (λ i. i < count z)) (sym h.tree) h.node.1 in
            let u : TreeInScope (signature_of z) any_meta (length (context_by (term_of z) n.context)) (tree_map (term_of z) n.tree.now) =
            subst (λ (l : ℕ). TreeInScope (signature_of z) any_meta l (tree_map (term_of z) n.tree.now)) (sym m)
            (subst (λ (U : Tree ℕ). TreeInScope (signature_of z) any_meta (length n.context) (tree_map (term_of z) U)) (sym h.tree) h.node.4) in
            (((h.node.0, t, h.node.2, h.node.3), branches-below r g w.split decls bs p), (u, (branches-scope r g w.split decls bs p q, tt)))

        pub at-goes-read : (o : Outcome DeclRefusal (Unit {0}))
            → Then (ReadsJob (signature_of x) (fuel_of x) (depth_of x) (node_in (term_of z) n))
            (λ (u : Unit {0}). Then (ReadsBranchesIn x z w.split ks decls bs) (λ (v : Unit {0}). IsAccepted)) o → ReadsBranches x w o
        at-goes-read o m =
            let p = goes-below x w.split con decls b bs below-at scope-at br T e in
            reads-at o (goes-read x w.split con decls b bs below-at scope-at br T e k ks same h.accepted (node_in (term_of z) n) h.is
            (ReadsBranchesIn x z w.split ks decls bs) (λ o t. branches-here r g w.split decls bs p ks o t) o m)

    pub at-goes-is : (br : Branch ℕ) (T : Tree ℕ) → b.way ≡ W.Goes br T → BranchIs x br T
    at-goes-is br T e = goes-is x w.split con decls b bs below-at scope-at br T e
