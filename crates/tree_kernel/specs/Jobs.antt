-- What waits to be read in code, as what it is to the rules; and what all that waits comes to together.
use Rattle.std.specs.Prelude.{ℕ, ◌+◌, ◌<◌, List, [], ◌∷◌, length, map, reverse}
use Rattle.std.specs.List.{AllByRecursion}
use Rattle.core_rules.specs.Term.{Term}
use Rattle.core_rules.specs.Signature.{Context, Telescope, onto, Tree, CoBranches, ConBranches, ConDecl, Signature, Leaf, Intro, Cosplit, Split, RecordSplit}
use Rattle.core_rules.specs.Signature.{Absurd, NoField, OnField, NoCon, Refuted, Goes}
use Rattle.core_rules.specs.Mapped.{telescope_map, tree_map, co_branches_map, con_branches_map, con_map, AllEntries, AllTree, AllCoBranches, AllConBranches}
use Rattle.core_rules.specs.Mapped.{AllCon}
use Rattle.core_rules.specs.InScope.{TreeInScope, CoBranchesInScope, ConBranchesInScope, any_meta}
use Rattle.core_rules.specs.TypedTree.{Splitting}
use Rattle.core_terms.specs.TreeView.{co_of, con_of}
use Rattle.kernel_rules.specs.Outcome.{Outcome, Then}
use Rattle.kernel_rules.specs.Refusals.{DeclRefusal, IsAccepted}
use Rattle.kernel_rules.specs.TreeReading.{TreeOf, FieldsOf, BranchesOf}
use Rattle.tree_kernel.specs.Reading.{UnifiesAs}
use Rattle.tree_kernel.specs.declared.job.Node as N
use Rattle.tree_kernel.specs.declared.job.Fields as F
use Rattle.tree_kernel.specs.declared.job.Split as S
use Rattle.tree_kernel.specs.declared.job.Branches as B
use Rattle.tree_kernel.specs.declared.job.Job as J
use Rattle.tree_kernel.specs.declared.job.Job.TheVariants as JV
use Rattle.tree_kernel.specs.declared.job.Rest as R
use Rattle.tree_kernel.specs.declared.job.Rest.TheVariants as RV

-- a tree, fields or constructors with what they are read against
pub data Job : Type 0 where
  OfTree : Context Term → Tree Term → Term → Term → Job
  OfFields : Context Term → Term → List Term → List ℕ → Telescope Term → CoBranches Term → Job
  OfBranches : Splitting → List ℕ → List (ConDecl Term) → ConBranches Term → Job

module _ (g : Signature Term) (fuel depth : ℕ) where
  abbrev pub ReadsJob : Job → Outcome DeclRefusal (Unit {0}) → Type 0
  ReadsJob (OfTree c T a l) = TreeOf g fuel depth (UnifiesAs g fuel depth) c T a l
  ReadsJob (OfFields c l e fs xs bs) = FieldsOf g fuel depth (UnifiesAs g fuel depth) c l e fs xs bs
  ReadsJob (OfBranches s ks cons bs) = BranchesOf g fuel depth (UnifiesAs g fuel depth) s ks cons bs

  -- one after the other
  abbrev pub ReadsJobs : List Job → Outcome DeclRefusal (Unit {0}) → Type 0
  ReadsJobs [] r = IsAccepted r
  ReadsJobs (j ∷ js) r = Then (ReadsJob j) (λ o. ReadsJobs js) r

-- the terms stand in scope
abbrev pub JobInScope : Signature Term → Job → Type 0
JobInScope g (OfTree c T a l) = TreeInScope g any_meta (length c) T
JobInScope g (OfFields c l e fs xs bs) = CoBranchesInScope g any_meta (length c) bs
JobInScope g (OfBranches s ks cons bs) = (s.var < length s.context) × ConBranchesInScope g any_meta (length s.context) bs

-- how often one part of a tree at most is read
abbrev mutual
  pub tree_parts : {A : Type 0} → Tree A → ℕ
  tree_parts (Leaf t n) = 1
  tree_parts (Intro T) = 1 + tree_parts T
  tree_parts (Cosplit bs) = 1 + co_parts bs
  tree_parts (Split k bs) = 1 + con_parts bs
  tree_parts (RecordSplit k d T) = 1 + tree_parts T
  tree_parts (Absurd k) = 1

  pub co_parts : {A : Type 0} → CoBranches A → ℕ
  co_parts NoField = 1
  co_parts (OnField k T bs) = 1 + tree_parts T + co_parts bs

  pub con_parts : {A : Type 0} → ConBranches A → ℕ
  con_parts NoCon = 1
  con_parts (Refuted k bs) = 1 + con_parts bs
  con_parts (Goes k b T bs) = 1 + tree_parts T + con_parts bs

-- what is left, in its order
abbrev pub jobs_of : R.Rest → List J.Job
jobs_of RV.Nothing = []
jobs_of (RV.One j) = j ∷ []
jobs_of (RV.Two w j) = JV.Node w ∷ j ∷ []

-- where f gives the trees of ids
module _ (f : ℕ → Term) where
  abbrev pub context_by : Telescope ℕ → Context Term
  context_by es = onto (telescope_map f es) []

  abbrev pub node_in : N.Node → Job
  node_in w = OfTree (context_by w.context) (tree_map f w.tree.now) (f w.ty) (f w.left)

  abbrev pub fields_in : F.Fields → Job
  fields_in w = OfFields (context_by w.context) (f w.left) (map f (reverse w.env.items)) w.fields.now (telescope_map f w.entries.now)
      (co_branches_map f (co_of w.branches.now))

  abbrev pub split_in : S.Split → Splitting
  split_in s = record {
    context = context_by s.context;
    var = s.var;
    params = map f s.params.items;
    indices = map f s.indices.items;
    ty = f s.ty;
    left =
        f s.left;
  }

  abbrev pub branches_in : B.Branches → Job
  branches_in w = OfBranches (split_in w.split) w.cons.now (map (con_map f) w.decls.now) (con_branches_map f (con_of w.branches.now))

  abbrev pub job_in : J.Job → Job
  job_in (JV.Node w) = node_in w
  job_in (JV.Fields w) = fields_in w
  job_in (JV.Branches w) = branches_in w

  abbrev pub rest_in : R.Rest → List Job
  rest_in r = map job_in (jobs_of r)

  -- the last one comes first
  abbrev pub jobs_in : List J.Job → List Job
  jobs_in js = map job_in (reverse js)

-- how often at most a part of what waits is read
abbrev pub parts_of : J.Job → ℕ
parts_of (JV.Node w) = tree_parts w.tree.now
parts_of (JV.Fields w) = co_parts (co_of w.branches.now)
parts_of (JV.Branches w) = con_parts (con_of w.branches.now)

abbrev pub rest_parts : R.Rest → ℕ
rest_parts RV.Nothing = 0
rest_parts (RV.One j) = parts_of j
rest_parts (RV.Two w j) = tree_parts w.tree.now + parts_of j

abbrev pub all_parts : List J.Job → ℕ
all_parts [] = 0
all_parts (j ∷ js) = parts_of j + all_parts js

-- what they name are ids below n
module _ (n : ℕ) where
  abbrev pub Ids : List ℕ → Type 0
  Ids xs = AllByRecursion (λ i. i < n) xs

  abbrev pub NodeBelow : N.Node → Type 0
  NodeBelow w = AllEntries (λ i. i < n) w.context × AllTree (λ i. i < n) w.tree.now × (w.ty < n) × (w.left < n)

  abbrev pub FieldsBelow : F.Fields → Type 0
  FieldsBelow w = AllEntries (λ i. i < n) w.context × (w.left < n) × Ids w.env.items × AllEntries (λ i. i < n) w.entries.now
      × AllCoBranches (λ i. i < n) (co_of w.branches.now)

  abbrev pub SplitBelow : S.Split → Type 0
  SplitBelow s = AllEntries (λ i. i < n) s.context × Ids s.params.items × Ids s.indices.items × (s.ty < n) × (s.left < n)

  abbrev pub BranchesBelow : B.Branches → Type 0
  BranchesBelow w = SplitBelow w.split × AllByRecursion (AllCon (λ i. i < n)) w.decls.now × AllConBranches (λ i. i < n) (con_of w.branches.now)

  abbrev pub JobBelow : J.Job → Type 0
  JobBelow (JV.Node w) = NodeBelow w
  JobBelow (JV.Fields w) = FieldsBelow w
  JobBelow (JV.Branches w) = BranchesBelow w

  abbrev pub RestBelow : R.Rest → Type 0
  RestBelow RV.Nothing = Unit {0}
  RestBelow (RV.One j) = JobBelow j
  RestBelow (RV.Two w j) = NodeBelow w × JobBelow j
