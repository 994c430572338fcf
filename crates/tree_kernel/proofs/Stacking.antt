-- What waits to be read, as the first of it is read.
use Rattle.std.proofs.Common.{◌≡◌, ◌<◌, ℕ, ◌+◌, List, [], ◌∷◌, ◌++◌, length, map, reverse, arith, ap, ap₂, refl, sym, subst, ◌∙◌}
use Rattle.std.specs.List.{AllByRecursion}
use Rattle.std.proofs.lemmas.List.{map-append, reverse-append}
use Rattle.el_base.proofs.Lists.{reverse_push}
use Rattle.el_base.proofs.Throughout.{all-append, all-front, all-last, all-weaker, all-reverse}
use Rattle.core_rules.specs.Term.{Term}
use Rattle.core_rules.specs.Signature.{Signature, Cosplit}
use Rattle.core_rules.specs.Mapped.{tree_map}
use Rattle.core_rules.specs.InScope.{TreeInScope, any_meta}
use Rattle.core_kernel.proofs.Contexts.{context_in-extends}
use Rattle.core_terms.specs.TreeView.{co_of}
use Rattle.declared_types.proofs.Grown.{entries-weaker, telescope-stays}
use Rattle.term_pool.specs.Placed.{items-stay}
use Rattle.kernel_rules.specs.Outcome.{Outcome, Gives, Refuses, Then, goes_on, stops}
use Rattle.kernel_rules.specs.Refusals.{DeclRefusal}
use Rattle.tree_kernel.specs.Answers.{RefusedDecl}
use Rattle.tree_kernel.specs.Jobs.{Job, context_by, ReadsJob, ReadsJobs, JobInScope, JobBelow, job_in, jobs_in, jobs_of, rest_in, parts_of}
use Rattle.tree_kernel.specs.Jobs.{rest_parts, all_parts}
use Rattle.tree_kernel.specs.Nodes.{JobIs, NodeIs, RestIs, ReadsNode, ReadsWaiting, count}
use Rattle.tree_kernel.specs.Reader.{IsReady, Grows, signature_of, term_of, fuel_of, depth_of}
use Rattle.tree_kernel.specs.declared.error.DeclError.{DeclError}
use Rattle.tree_kernel.specs.declared.job.Node as N
use Rattle.tree_kernel.specs.declared.job.Job as J
use Rattle.tree_kernel.specs.declared.job.Job.TheVariants as JV
use Rattle.tree_kernel.specs.declared.job.Rest as R
use Rattle.tree_kernel.specs.declared.job.Rest.TheVariants as RV
use Rattle.tree_kernel.specs.declared.reader.Reader.{Reader}
use Rattle.tree_kernel.proofs.Branching.{branches-job, branches-below}
use Rattle.tree_kernel.proofs.Continuing.{co-stays, tree-stays, tree-within}
use Rattle.tree_kernel.proofs.Declaring.{decl-weaker}
use Rattle.tree_kernel.proofs.Lists.{ids-weaker}
use Rattle.tree_kernel.proofs.Openings.{context-length}
use Rattle.tree_kernel.proofs.Reading.{ready_kept, signature_kept, term_kept, within_kept}
use Rattle.tree_kernel.proofs.Waiting.{alone}

-- a job, as the reader goes on
module _ {y z : Reader} (r : IsReady y) (g : Grows y z) where
  job-stays : (j : J.Job) → JobBelow (count y) j → job_in (term_of z) j ≡ job_in (term_of y) j
  job-stays (JV.Node w) b = cc (
    context_in-extends y.pool.now z.pool.now w.context g.extends b.0,
    tree-stays y.pool.now z.pool.now g.extends w.ty b.2 w.tree.now b.1,
    term_kept r g w.ty b.2,
    term_kept r g w.left b.3,
  )
  job-stays (JV.Fields w) b = cc (
    context_in-extends y.pool.now z.pool.now w.context g.extends b.0,
    term_kept r g w.left b.1,
    items-stay y.pool.now z.pool.now (reverse w.env.items) g.extends (all-reverse (λ (i : ℕ). i < count y) w.env.items b.2),
    telescope-stays y.pool.now z.pool.now w.entries.now g.extends b.3,
    co-stays y.pool.now z.pool.now g.extends w.left b.1 (co_of w.branches.now) b.4,
  )
  job-stays (JV.Branches w) b = branches-job r g w.split w.decls.now w.branches.now b w.cons.now

  job-below : (j : J.Job) → JobBelow (count y) j → JobBelow (count z) j
  job-below (JV.Node w) b = (
    entries-weaker y.pool.now z.pool.now w.context g.extends b.0,
    tree-within y.pool.now z.pool.now g.extends w.ty b.2 w.tree.now b.1,
    within_kept r g w.ty b.2,
    within_kept r g w.left b.3,
  )
  job-below (JV.Fields w) b = (
    entries-weaker y.pool.now z.pool.now w.context g.extends b.0,
    within_kept r g w.left b.1,
    ids-weaker y.pool.now z.pool.now w.env.items g.extends b.2,
    entries-weaker y.pool.now z.pool.now w.entries.now g.extends b.3,
    tree-within y.pool.now z.pool.now g.extends w.left b.1 (Cosplit (co_of w.branches.now)) b.4,
  )
  job-below (JV.Branches w) b = branches-below r g w.split w.decls.now w.branches.now b

  job-is : (j : J.Job) → JobIs y j → JobIs z j
  job-is j h = (
    job-below j h.0,
    subst (λ (k : Signature Term). JobInScope k (job_in (term_of z) j)) (sym (signature_kept r g))
        (subst (λ (t : Job). JobInScope (signature_of y) t) (sym (job-stays j h.0)) h.1),
  )

  jobs-are : (js : List J.Job) → AllByRecursion (JobIs y) js → AllByRecursion (JobIs z) js
  jobs-are js h = all-weaker _ _ (λ (j : J.Job) (k : JobIs y j). job-is j k) js h

  jobs-stay : (js : List J.Job) → AllByRecursion (JobIs y) js → map (job_in (term_of z)) js ≡ map (job_in (term_of y)) js
  jobs-stay [] h = refl
  jobs-stay (j ∷ js) h = ap₂ (λ (t : Job) (ts : List Job). t ∷ ts) (job-stays j h.0.0) (jobs-stay js h.1)

-- what is left of a job, as jobs
rest-are : (z : Reader) (w : R.Rest) → RestIs z w → AllByRecursion (JobIs z) (reverse (jobs_of w))
rest-are z RV.Nothing h = tt
rest-are z (RV.One j) h = ((h.0, h.1.0), tt)
rest-are z (RV.Two n j) h = ((h.0.1, h.1.1.0), ((h.0.0, h.1.0), tt))

rest-turned : (w : R.Rest) → reverse (reverse (jobs_of w)) ≡ jobs_of w
rest-turned RV.Nothing = refl
rest-turned (RV.One j) = refl
rest-turned (RV.Two n j) = refl

parts-append : (xs ys : List J.Job) → all_parts (xs ++ ys) ≡ all_parts xs + all_parts ys
parts-append [] ys = omega arith
parts-append (x ∷ xs) ys = let h = parts-append xs ys in omega (arith, h)

rest-count : (w : R.Rest) → all_parts (reverse (jobs_of w)) ≡ rest_parts w
rest-count RV.Nothing = refl
rest-count (RV.One j) = omega arith
rest-count (RV.Two n j) = omega arith

-- fewer parts are left to be read
pub parts-fall : (all front new : List J.Job) (j : J.Job) (w : R.Rest) → all ≡ front ++ j ∷ [] → new ≡ front ++ reverse (jobs_of w) → rest_parts w < parts_of j
    → all_parts new < all_parts all
parts-fall all front new j w e n l =
    let a : all_parts all ≡ all_parts front + (parts_of j + 0) = ap all_parts e ∙ parts-append front (j ∷ []) in
    let b : all_parts new ≡ all_parts front + all_parts (reverse (jobs_of w)) = ap all_parts n ∙ parts-append front (reverse (jobs_of w)) in
    omega (arith, a, b, rest-count w, l)

-- one after the other, where the first ones come to P
reads-append : (g : Signature Term) (fuel depth : ℕ) (P : Outcome DeclRefusal (Unit {0}) → Type 0) (ks ls : List Job)
    → ((o : Outcome DeclRefusal (Unit {0})) → ReadsJobs g fuel depth ks o → P o)
    → (o : Outcome DeclRefusal (Unit {0})) → ReadsJobs g fuel depth (ks ++ ls) o → Then P (λ (u : Unit {0}). ReadsJobs g fuel depth ls) o
reads-append g fuel depth P [] ls w o h = goes_on tt (w (Gives tt) refl) h
reads-append g fuel depth P (k ∷ ks) ls w o (goes_on u p q) = reads-append g fuel depth P ks ls (λ o h. w o (goes_on u p h)) o q
reads-append g fuel depth P (k ∷ ks) ls w o (stops e p n) = stops e (w (Refuses e) (stops e p refl)) n

-- what waits comes to K
pub record Waits (x y : Reader) (K : Outcome DeclRefusal (Unit {0}) → Type 0) (js : List J.Job) : Type 0 where
  pub jobs : AllByRecursion (JobIs y) js
  pub on : (o : Outcome DeclRefusal (Unit {0})) → ReadsJobs (signature_of x) (fuel_of x) (depth_of x) (jobs_in (term_of y) js) o → K o

pub waits-first : (x : Reader) (w : N.Node) (js : List J.Job) → js ≡ [] ++ JV.Node w ∷ [] → NodeIs x w w.tree.now → Waits x x (ReadsNode x w w.tree.now) js
waits-first x w js e h =
    let n : length (context_by (term_of x) w.context) ≡ length w.context = context-length (term_of x) w.context in
    subst (λ (js : List J.Job). Waits x x (ReadsNode x w w.tree.now) js) (sym e) (record {
      jobs = (((h.0, h.1, h.2, h.3), subst (λ (n : ℕ). TreeInScope (signature_of x) any_meta n (tree_map (term_of x) w.tree.now)) (sym n) h.4), tt);
      on = λ o k. alone o k;
    })

pub waits-none : (x y : Reader) (K : Outcome DeclRefusal (Unit {0}) → Type 0) (js : List J.Job) → js ≡ [] → Waits x y K js → K (Gives tt)
waits-none x y K js e h = (subst (λ (js : List J.Job). Waits x y K js) e h).on (Gives tt) refl

module _ {x y z : Reader} (r : IsReady x) (g : Grows x y) (k : Grows y z) (K : Outcome DeclRefusal (Unit {0}) → Type 0) (js front : List J.Job) (j : J.Job)
    (e : js ≡ front ++ j ∷ []) (h : Waits x y K js) where
  at : Waits x y K (front ++ j ∷ [])
  at = subst (λ (js : List J.Job). Waits x y K js) e h

  pub first-is : JobIs y j
  first-is = all-last (JobIs y) front j at.jobs

  on-first : (o : Outcome DeclRefusal (Unit {0})) → Then (ReadsJob (signature_of x) (fuel_of x) (depth_of x) (job_in (term_of y) j))
      (λ (u : Unit {0}). ReadsJobs (signature_of x) (fuel_of x) (depth_of x) (jobs_in (term_of y) front)) o → K o
  on-first o h = at.on o (subst (λ (js : List J.Job). ReadsJobs (signature_of x) (fuel_of x) (depth_of x) (map (job_in (term_of y)) js) o)
      (sym (reverse_push front j)) h)

  -- the same fuel, depth and signature
  reads-same : (t : Job) (o : Outcome DeclRefusal (Unit {0})) → ReadsJob (signature_of y) (fuel_of y) (depth_of y) t o
      → ReadsJob (signature_of x) (fuel_of x) (depth_of x) t o
  reads-same t o h =
      subst (λ (G : Signature Term). ReadsJob G (fuel_of x) (depth_of x) t o) (signature_kept r g)
      (subst (λ (n : ℕ). ReadsJob (signature_of y) (fuel_of x) n t o) (ap (λ l. l.depth) g.limits)
      (subst (λ (n : ℕ). ReadsJob (signature_of y) n (depth_of y) t o) (ap (λ l. l.fuel) g.limits) h))

  all-same : (ts : List Job) (o : Outcome DeclRefusal (Unit {0})) → ReadsJobs (signature_of x) (fuel_of x) (depth_of x) ts o
      → ReadsJobs (signature_of y) (fuel_of y) (depth_of y) ts o
  all-same ts o h =
      subst (λ (n : ℕ). ReadsJobs (signature_of y) n (depth_of y) ts o) (sym (ap (λ l. l.fuel) g.limits))
      (subst (λ (n : ℕ). ReadsJobs (signature_of y) (fuel_of x) n ts o) (sym (ap (λ l. l.depth) g.limits))
      (subst (λ (G : Signature Term). ReadsJobs G (fuel_of x) (depth_of x) ts o) (sym (signature_kept r g)) h))

  pub waits-refused : (d : DeclError) → RefusedDecl z.pool.now (λ o. ReadsWaiting y j (Refuses o)) d → RefusedDecl z.pool.now (λ o. K (Refuses o)) d
  waits-refused d m = decl-weaker z.pool.now (λ o. ReadsWaiting y j (Refuses o)) (λ o. K (Refuses o))
      (λ o n. on-first (Refuses o) (stops o (reads-same (job_in (term_of y) j) (Refuses o) n) refl)) d m

  pub waits-next : (w : R.Rest) (new : List J.Job) → new ≡ front ++ reverse (jobs_of w) → RestIs z w
      → ((o : Outcome DeclRefusal (Unit {0})) → ReadsJobs (signature_of y) (fuel_of y) (depth_of y) (rest_in (term_of z) w) o → ReadsWaiting y j o)
      → Waits x z K new
  waits-next w new n rest reads =
      let rest_jobs : List J.Job = reverse (jobs_of w) in
      let before : AllByRecursion (JobIs y) front = all-front (JobIs y) front j at.jobs in
      let turned : reverse (front ++ rest_jobs) ≡ jobs_of w ++ reverse front = reverse-append front rest_jobs
      ∙ ap (λ (js : List J.Job). js ++ reverse front) (rest-turned w) in
      let is : jobs_in (term_of z) (front ++ rest_jobs) ≡ rest_in (term_of z) w ++ jobs_in (term_of y) front =
      ap (map (job_in (term_of z))) turned ∙ (map-append (job_in (term_of z)) (jobs_of w) (reverse front)
      ∙ ap (λ (ts : List Job). rest_in (term_of z) w ++ ts) (jobs-stay (ready_kept r g) k (reverse front) (all-reverse (JobIs y) front before))) in
      subst (λ (js : List J.Job). Waits x z K js) (sym n) (record {
        jobs = all-append (JobIs z) front rest_jobs (jobs-are (ready_kept r g) k front before) (rest-are z w rest);
        on = λ o h. on-first o (reads-append (signature_of x) (fuel_of x) (depth_of x)
            (ReadsJob (signature_of x) (fuel_of x) (depth_of x) (job_in (term_of y) j)) (rest_in (term_of z) w) (jobs_in (term_of y) front)
            (λ o h. reads-same (job_in (term_of y) j) o (reads o (all-same (rest_in (term_of z) w) o h))) o
            (subst (λ (ts : List Job). ReadsJobs (signature_of x) (fuel_of x) (depth_of x) ts o) is h));
      })

-- a tree that waits is one in its context
pub node-waits : (x : Reader) (w : N.Node) → JobIs x (JV.Node w) → NodeIs x w w.tree.now
node-waits x w h =
    let n : length (context_by (term_of x) w.context) ≡ length w.context = context-length (term_of x) w.context in
    (h.0.0, h.0.1, h.0.2, h.0.3, subst (λ (n : ℕ). TreeInScope (signature_of x) any_meta n (tree_map (term_of x) w.tree.now)) n h.1)
