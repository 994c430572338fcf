-- What the steps of a reader through a tree are to the rules: what a step asks of what waits, and what is left to be read after it.
use Rattle.std.specs.Prelude.{◌≡◌, ℕ, ◌<◌, List, length, map, Result, Ok, Err}
use Rattle.std.specs.List.{AllByRecursion}
use Rattle.core_rules.specs.Substitution.{under}
use Rattle.core_rules.specs.Signature.{Entry, Tree, Branch, ConDecl}
use Rattle.core_rules.specs.Mapped.{telescope_map, tree_map, branch_map, con_map, AllEntries, AllTree, AllBranch}
use Rattle.core_rules.specs.InScope.{InScope, TelescopeInScope, TreeInScope, any_meta}
use Rattle.core_rules.specs.TypedTree.{con_context, with_con}
use Rattle.term_pool.specs.Pool.{StandsFor}
use Rattle.kernel_rules.specs.Outcome.{Outcome, Gives, Refuses}
use Rattle.kernel_rules.specs.Refusals.{DeclRefusal}
use Rattle.kernel_rules.specs.TreeReading.{IsRefuted, AllRefutedOf, BranchOf}
use Rattle.std.specs.declared.vec.Vec.{Vec}
use Rattle.std.specs.declared.alloc.Global.{Global}
use Rattle.tree_kernel.specs.Reading.{UnifiesAs, ReadsTree}
use Rattle.tree_kernel.specs.Answers.{RefusedDecl}
use Rattle.tree_kernel.specs.Reader.{signature_of, term_of, fuel_of, depth_of}
use Rattle.tree_kernel.specs.Jobs.{OfTree, ReadsJob, ReadsJobs, JobInScope, context_by, node_in, fields_in, split_in, branches_in, job_in, rest_in}
use Rattle.tree_kernel.specs.Jobs.{FieldsBelow, SplitBelow, BranchesBelow, JobBelow, RestBelow}
use Rattle.tree_kernel.specs.declared.error.DeclError.{DeclError}
use Rattle.tree_kernel.specs.declared.reader.Reader.{Reader}
use Rattle.tree_kernel.specs.declared.job.Node as N
use Rattle.tree_kernel.specs.declared.job.Fields as F
use Rattle.tree_kernel.specs.declared.job.Split as S
use Rattle.tree_kernel.specs.declared.job.Branches as B
use Rattle.tree_kernel.specs.declared.job.Job as J
use Rattle.tree_kernel.specs.declared.job.Rest as R
use Rattle.tree_kernel.specs.declared.node.AtCon.{AtCon}

abbrev pub count : Reader → ℕ
count x = length x.pool.now.trees

-- ---- what is asked: the ids stand in the pool, and the trees are in scope

-- where T is the tree of the node
abbrev pub NodeIs : Reader → N.Node → Tree ℕ → Type 0
NodeIs x w T = AllEntries (λ i. i < count x) w.context × AllTree (λ i. i < count x) T × (w.ty < count x) × (w.left < count x)
    × TreeInScope (signature_of x) any_meta (length w.context) (tree_map (term_of x) T)

abbrev pub FieldsAre : Reader → F.Fields → Type 0
FieldsAre x w = FieldsBelow (count x) w × JobInScope (signature_of x) (fields_in (term_of x) w)

abbrev pub SplitIs : Reader → S.Split → Type 0
SplitIs x s = SplitBelow (count x) s × (s.var < length s.context)

abbrev pub BranchesAre : Reader → B.Branches → Type 0
BranchesAre x w = BranchesBelow (count x) w × JobInScope (signature_of x) (branches_in (term_of x) w)

abbrev pub JobIs : Reader → J.Job → Type 0
JobIs x j = JobBelow (count x) j × JobInScope (signature_of x) (job_in (term_of x) j)

abbrev pub RestIs : Reader → R.Rest → Type 0
RestIs x r = RestBelow (count x) r × AllByRecursion (JobInScope (signature_of x)) (rest_in (term_of x) r)

-- a branch that goes on
pub record BranchStands (x : Reader) (b : Branch ℕ) : Type 0 where
  pub branch : AllBranch (λ i. i < count x) b
  pub context : TelescopeInScope (signature_of x) any_meta 0 (telescope_map (term_of x) b.context)
  pub values : AllByRecursion (InScope (signature_of x) any_meta (length b.context)) (map (term_of x) b.values)

-- and its tree
pub record BranchIs (x : Reader) (b : Branch ℕ) (T : Tree ℕ) : Type 0 where
  pub stands : BranchStands x b
  pub tree : AllTree (λ i. i < count x) T
  pub scope : TreeInScope (signature_of x) any_meta (length b.context) (tree_map (term_of x) T)

-- ---- how it is read

abbrev pub ReadsNode : Reader → N.Node → Tree ℕ → Outcome DeclRefusal (Unit {0}) → Type 0
ReadsNode x w T = ReadsTree (signature_of x) (fuel_of x) (depth_of x) (context_by (term_of x) w.context) (tree_map (term_of x) T) (term_of x w.ty)
    (term_of x w.left)

abbrev pub ReadsFields : Reader → F.Fields → Outcome DeclRefusal (Unit {0}) → Type 0
ReadsFields x w = ReadsJob (signature_of x) (fuel_of x) (depth_of x) (fields_in (term_of x) w)

abbrev pub ReadsBranches : Reader → B.Branches → Outcome DeclRefusal (Unit {0}) → Type 0
ReadsBranches x w = ReadsJob (signature_of x) (fuel_of x) (depth_of x) (branches_in (term_of x) w)

abbrev pub ReadsWaiting : Reader → J.Job → Outcome DeclRefusal (Unit {0}) → Type 0
ReadsWaiting x j = ReadsJob (signature_of x) (fuel_of x) (depth_of x) (job_in (term_of x) j)

abbrev pub ReadsRefuted : Reader → S.Split → ℕ → ConDecl ℕ → Outcome DeclRefusal (Unit {0}) → Type 0
ReadsRefuted x s k con = IsRefuted (signature_of x) (fuel_of x) (depth_of x) (UnifiesAs (signature_of x) (fuel_of x) (depth_of x)) (split_in (term_of x) s) k
    (con_map (term_of x) con)

abbrev pub ReadsAbsurd : Reader → S.Split → List ℕ → List (ConDecl ℕ) → Outcome DeclRefusal (Unit {0}) → Type 0
ReadsAbsurd x s ks cons = AllRefutedOf (signature_of x) (fuel_of x) (depth_of x) (UnifiesAs (signature_of x) (fuel_of x) (depth_of x)) (split_in (term_of x) s)
    ks (map (con_map (term_of x)) cons)

abbrev pub ReadsBranch : Reader → S.Split → ℕ → ConDecl ℕ → Branch ℕ → Outcome DeclRefusal (Unit {0}) → Type 0
ReadsBranch x s k con b = BranchOf (signature_of x) (fuel_of x) (depth_of x) (UnifiesAs (signature_of x) (fuel_of x) (depth_of x)) (split_in (term_of x) s) k
    (con_map (term_of x) con) (branch_map (term_of x) b)

-- ---- what a step from x to y answers: what is left is read as K was, and a refusal is that of K

abbrev pub Continues : Reader → Reader → (Outcome DeclRefusal (Unit {0}) → Type 0) → Result R.Rest DeclError → Type 0
Continues x y K (Ok w) = RestIs y w × ((r : Outcome DeclRefusal (Unit {0})) → ReadsJobs (signature_of x) (fuel_of x) (depth_of x) (rest_in (term_of y) w) r
    → K r)
Continues x y K (Err e) = RefusedDecl y.pool.now (λ r. K (Refuses r)) e

abbrev pub ContinuesNode : Reader → Reader → Tree ℕ → (Outcome DeclRefusal (Unit {0}) → Type 0) → Result N.Node DeclError → Type 0
ContinuesNode x y T K (Ok w) = (w.tree.now ≡ T) × NodeIs y w T
    × ((r : Outcome DeclRefusal (Unit {0})) → ReadsTree (signature_of x) (fuel_of x) (depth_of x) (context_by (term_of y) w.context) (tree_map (term_of y) T)
    (term_of y w.ty) (term_of y w.left) r → K r)
ContinuesNode x y T K (Err e) = RefusedDecl y.pool.now (λ r. K (Refuses r)) e

abbrev pub ContinuesFields : Reader → Reader → (Outcome DeclRefusal (Unit {0}) → Type 0) → Result F.Fields DeclError → Type 0
ContinuesFields x y K (Ok w) = FieldsAre y w
    × ((r : Outcome DeclRefusal (Unit {0})) → ReadsJob (signature_of x) (fuel_of x) (depth_of x) (fields_in (term_of y) w) r → K r)
ContinuesFields x y K (Err e) = RefusedDecl y.pool.now (λ r. K (Refuses r)) e

abbrev pub ContinuesBranches : Reader → Reader → (Outcome DeclRefusal (Unit {0}) → Type 0) → Result B.Branches DeclError → Type 0
ContinuesBranches x y K (Ok w) = BranchesAre y w
    × ((r : Outcome DeclRefusal (Unit {0})) → ReadsJob (signature_of x) (fuel_of x) (depth_of x) (branches_in (term_of y) w) r → K r)
ContinuesBranches x y K (Err e) = RefusedDecl y.pool.now (λ r. K (Refuses r)) e

-- the branch is accepted, and its tree is read in its context at the split's type and left side there
pub record GoesOn (x y : Reader) (s : S.Split) (k : ℕ) (con : ConDecl ℕ) (b : Branch ℕ) (T : Tree ℕ) (w : N.Node) : Type 0 where
  pub tree : w.tree.now ≡ T
  pub node : NodeIs y w T
  pub accepted : ReadsBranch x s k con b (Gives tt)
  pub is : node_in (term_of y) w ≡ OfTree (context_by (term_of x) b.context) (tree_map (term_of x) T)
      (under (map (term_of x) b.values) (with_con (split_in (term_of x) s) k (telescope_map (term_of x) con.args) (term_of x s.ty)))
      (under (map (term_of x) b.values) (with_con (split_in (term_of x) s) k (telescope_map (term_of x) con.args) (term_of x s.left)))

abbrev pub ContinuesBranch : Reader → Reader → S.Split → ℕ → ConDecl ℕ → Branch ℕ → Tree ℕ → Result N.Node DeclError → Type 0
ContinuesBranch x y s k con b T (Ok w) = GoesOn x y s k con b T w
ContinuesBranch x y s k con b T (Err e) = RefusedDecl y.pool.now (λ r. ReadsBranch x s k con b (Refuses r)) e

-- the split of a node on variable k
abbrev pub split_of : N.Node → ℕ → Vec ℕ Global → Vec ℕ Global → S.Split
split_of w k ps is = record { context = w.context; var = k; params = ps; indices = is; ty = w.ty; left = w.left }

-- the split over x with constructor k on new variables, over y
pub record IsBrought (x y : Reader) (s : S.Split) (k : ℕ) (es : List (Entry ℕ)) (o : AtCon) : Type 0 where
  pub below : AllEntries (λ i. i < count y) o.context
  pub context : context_by (term_of y) o.context ≡ con_context (split_in (term_of x) s) k (telescope_map (term_of x) es)
  pub ty : StandsFor y.pool.now o.ty (with_con (split_in (term_of x) s) k (telescope_map (term_of x) es) (term_of x s.ty))
  pub left : StandsFor y.pool.now o.left (with_con (split_in (term_of x) s) k (telescope_map (term_of x) es) (term_of x s.left))
