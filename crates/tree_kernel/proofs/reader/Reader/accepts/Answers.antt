use Rattle.std.proofs.Common.{◌≡◌, ◌<◌, ◌∙◌, ℕ, List, length, map, ap, ap₂, refl, sym, subst}
use Rattle.std.proofs.lemmas.Result.{err_from_is_err_and}
use Rattle.core_rules.specs.Signature.{ConDecl, Entry}
use Rattle.core_rules.specs.Term.{Term}
use Rattle.core_rules.specs.TypedTree.{Splitting, index_equations, con_context, into, new_con}
use Rattle.core_rules.specs.Mapped.{AllEntries, branch_map, con_map, telescope_map}
use Rattle.core_kernel.proofs.Contexts.{context_in-extends}
use Rattle.core_terms.proofs.SignatureGrowth.{signature_in-extends, Stands-extends}
use Rattle.core_terms.specs.Signature.{signature_in}
use Rattle.core_terms.specs.declared.clause.ConDecl.TheInside.{Inside}
use Rattle.declared_types.proofs.Grown.{con-stays, con-within, entries-weaker}
use Rattle.index_unify.specs.Unified.{equations_in}
use Rattle.kernel_rules.specs.Outcome.{Gives, Refuses}
use Rattle.term_pool.specs.Pool.{tree}
use Rattle.term_pool.specs.Growth.{Extends-trans}
use Rattle.tree_kernel.specs.Branches.{Fits, ItsBranch}
use Rattle.tree_kernel.specs.Jobs.{context_by, split_in}
use Rattle.tree_kernel.specs.Nodes.{ReadsBranch}
use Rattle.tree_kernel.specs.Stand.{Stand}
use Rattle.tree_kernel.proofs.Lists.{stand-more}
use Rattle.tree_kernel.specs.Reader.{Grows, signature_of, term_of, fuel_of, depth_of}
use Rattle.tree_kernel.proofs.Accepting.{branch-kept, its-same, fits-here, its-refused, its-accepted}
use Rattle.tree_kernel.proofs.Declaring.{decl-weaker}
use Rattle.tree_kernel.proofs.Reading.{Grows-trans, ready_kept}
use Rattle.tree_kernel.proofs.Splits.{branch-stays, branch-within, split-stays, split-within}
use Rattle.tree_kernel.proofs.reader.Reader.accepts.Goals as goal

pub index_equations-requires-clause-split : goal.index_equations-requires-clause-split
index_equations-requires-clause-split c = split-within c.args.self.now.pool.now c.open_con.new.pool c.in_ok-context.ensures.extends c.args.split.now
    c.requires.split.0

pub index_equations-requires-clause-con : goal.index_equations-requires-clause-con
index_equations-requires-clause-con c = con-within c.args.self.now.pool.now c.open_con.new.pool c.in_ok-context.ensures.extends c.args.decl.now c.requires.decl

pub its_branch-requires-clause-ready : goal.its_branch-requires-clause-ready
its_branch-requires-clause-ready c =
    record {
      signature = Stands-extends c.args.self.now.pool.now c.index_equations.new.pool c.args.self.now.signature.now
          (Extends-trans c.in_ok-context.ensures.extends c.in_ok-equations.ensures.extends) c.requires.ready.signature;
    }

pub its_branch-requires-clause-context : goal.its_branch-requires-clause-context
its_branch-requires-clause-context c = entries-weaker c.open_con.new.pool c.index_equations.new.pool c.in_ok-context.field-0.context
    c.in_ok-equations.ensures.extends c.in_ok-context.ensures.below

pub its_branch-requires-clause-branch : goal.its_branch-requires-clause-branch
its_branch-requires-clause-branch c =
    branch-within c.args.self.now.pool.now c.index_equations.new.pool (Extends-trans c.in_ok-context.ensures.extends c.in_ok-equations.ensures.extends)
    c.args.branch.now c.requires.branch.branch

pub returns-in_err-its_branch-clause-is : goal.returns-in_err-its_branch-clause-is
returns-in_err-its_branch-clause-is c =
    let w = err_from_is_err_and c.from_residual-in_err-its_branch.result c.from_residual-in_err-its_branch.ensures.1 in
    let x = c.args.self.now in
    let p = x.pool.now in
    let q1 = c.open_con.new.pool in
    let q2 = c.index_equations.new.pool in
    let s = c.args.split.now in
    let con = c.args.decl.now in
    let b = c.args.branch.now in
    let made = c.in_ok-context.field-0.context in
    let G = signature_in q2 x.signature.now in
    let e1 = c.in_ok-context.ensures.extends in
    let e2 = c.in_ok-equations.ensures.extends in
    let e = Extends-trans e1 e2 in
    let args : c.as_slice.result.now ≡ con.args = c.as_slice.ensures
    ∙ (ap (λ (v : Inside). v.args) c.decl-inside.view_is ∙ ap (λ (v : ConDecl ℕ). v.args) c.decl.view_is) in
    let ctx : context_by (tree q2) made ≡ con_context (split_in (tree p) s) c.args.con (telescope_map (tree p) con.args) =
    context_in-extends q1 q2 made e2 c.in_ok-context.ensures.below
    ∙ (c.in_ok-context.ensures.context ∙ ap (λ (es : List (Entry ℕ)). con_context (split_in (tree p) s) c.args.con (telescope_map (tree p) es)) args) in
    let eqs : equations_in q2 c.as_slice-2.result.now ≡ index_equations (split_in (tree p) s) (con_map (tree p) con) =
    ap (equations_in q2) c.as_slice-2.ensures.value
    ∙ (c.in_ok-equations.ensures.is ∙ ap₂ (λ (s : Splitting) (k : ConDecl Term). index_equations s k) (split-stays p q1 e1 s c.requires.split.0)
    (con-stays p q1 e1 con c.requires.decl)) in
    rw (w.1, w.2) (decl-weaker c.its_branch.new.self.pool.now
    (λ r. ItsBranch G (fuel_of x) (depth_of x) (context_by (tree q2) made) (equations_in q2 c.as_slice-2.result.now) (branch_map (tree q2) b) (Refuses r))
    (λ r. ReadsBranch x s c.args.con con b (Refuses r))
    (λ r h. its-refused x s c.args.con con b r
    (its-same (signature_of x) G (fuel_of x) (depth_of x) _ _ _ _ _ _ (Refuses r) (signature_in-extends p q2 x.signature.now e c.requires.ready.signature)
    ctx eqs
    (branch-stays p q2 e b c.requires.branch.branch) h)) c.in_err-its_branch.field-0.0 c.in_err-its_branch.ensures.is)

pub fits-requires-clause-ready : goal.fits-requires-clause-ready
fits-requires-clause-ready c =
    let x = c.args.self.now in
    let e = Extends-trans c.in_ok-context.ensures.extends c.in_ok-equations.ensures.extends in
    let k : Grows x c.its_branch.new.self = Grows-trans (record { same_reference = refl; extends = e; signature = refl; limits = refl })
    c.in_ok-its_branch.ensures.grows in
    ready_kept c.requires.ready k

pub fits-requires-clause-branch : goal.fits-requires-clause-branch
fits-requires-clause-branch c =
    let x = c.args.self.now in
    let e = Extends-trans c.in_ok-context.ensures.extends c.in_ok-equations.ensures.extends in
    let k : Grows x c.its_branch.new.self = Grows-trans (record { same_reference = refl; extends = e; signature = refl; limits = refl })
    c.in_ok-its_branch.ensures.grows in
    branch-kept c.requires.ready k c.args.branch.now c.requires.branch

pub fits-requires-clause-entries : goal.fits-requires-clause-entries
fits-requires-clause-entries c =
    let y = c.its_branch.new.self in
    subst (AllEntries (λ i. i < length y.pool.now.trees)) (sym c.entries_of.ensures)
    (entries-weaker c.open_con.new.pool y.pool.now c.in_ok-context.field-0.context
    (Extends-trans c.in_ok-equations.ensures.extends c.in_ok-its_branch.ensures.grows.extends) c.in_ok-context.ensures.below)

pub returns-in_err-fits-clause-is : goal.returns-in_err-fits-clause-is
returns-in_err-fits-clause-is c =
    let w = err_from_is_err_and c.from_residual-in_err-fits.result c.from_residual-in_err-fits.ensures.1 in
    let x = c.args.self.now in
    let p = x.pool.now in
    let q1 = c.open_con.new.pool in
    let q2 = c.index_equations.new.pool in
    let s = c.args.split.now in
    let con = c.args.decl.now in
    let b = c.args.branch.now in
    let made = c.in_ok-context.field-0.context in
    let G = signature_in q2 x.signature.now in
    let e1 = c.in_ok-context.ensures.extends in
    let e2 = c.in_ok-equations.ensures.extends in
    let e = Extends-trans e1 e2 in
    let args : c.as_slice.result.now ≡ con.args = c.as_slice.ensures
    ∙ (ap (λ (v : Inside). v.args) c.decl-inside.view_is ∙ ap (λ (v : ConDecl ℕ). v.args) c.decl.view_is) in
    let ctx : context_by (tree q2) made ≡ con_context (split_in (tree p) s) c.args.con (telescope_map (tree p) con.args) =
    context_in-extends q1 q2 made e2 c.in_ok-context.ensures.below
    ∙ (c.in_ok-context.ensures.context ∙ ap (λ (es : List (Entry ℕ)). con_context (split_in (tree p) s) c.args.con (telescope_map (tree p) es)) args) in
    let eqs : equations_in q2 c.as_slice-2.result.now ≡ index_equations (split_in (tree p) s) (con_map (tree p) con) =
    ap (equations_in q2) c.as_slice-2.ensures.value
    ∙ (c.in_ok-equations.ensures.is ∙ ap₂ (λ (s : Splitting) (k : ConDecl Term). index_equations s k) (split-stays p q1 e1 s c.requires.split.0)
    (con-stays p q1 e1 con c.requires.decl)) in
    let y = c.its_branch.new.self in
    let k : Grows x y = Grows-trans (record { same_reference = refl; extends = e; signature = refl; limits = refl }) c.in_ok-its_branch.ensures.grows in
    let i = its-same (signature_of x) G (fuel_of x) (depth_of x) _ _ _ _ _ _ (Gives tt) (signature_in-extends p q2 x.signature.now e c.requires.ready.signature)
    ctx eqs (branch-stays p q2 e b c.requires.branch.branch) c.in_ok-its_branch.ensures.is in
    let there : context_by (term_of y) c.entries_of.result.now ≡ con_context (split_in (tree p) s) c.args.con (telescope_map (tree p) con.args) =
    ap (context_by (term_of y)) c.entries_of.ensures
    ∙ (context_in-extends q1 y.pool.now made (Extends-trans e2 c.in_ok-its_branch.ensures.grows.extends) c.in_ok-context.ensures.below
    ∙ (c.in_ok-context.ensures.context ∙ ap (λ (es : List (Entry ℕ)). con_context (split_in (tree p) s) c.args.con (telescope_map (tree p) es)) args)) in
    rw (w.1, w.2) (decl-weaker c.fits.new.self.pool.now
    (λ r. Fits (signature_of y) (fuel_of y) (depth_of y) (context_by (term_of y) c.entries_of.result.now) (branch_map (term_of y) b) (Refuses r))
    (λ r. ReadsBranch x s c.args.con con b (Refuses r))
    (λ r h. its-accepted x s c.args.con con b i (Refuses r) (fits-here c.requires.ready k b c.requires.branch _ _ there (Refuses r) h)) c.in_err-fits.field-0.0
    c.in_err-fits.ensures.is)

pub returns-clause-is : goal.returns-clause-is
returns-clause-is c =
    let x = c.args.self.now in
    let p = x.pool.now in
    let q1 = c.open_con.new.pool in
    let q2 = c.index_equations.new.pool in
    let s = c.args.split.now in
    let con = c.args.decl.now in
    let b = c.args.branch.now in
    let made = c.in_ok-context.field-0.context in
    let G = signature_in q2 x.signature.now in
    let e1 = c.in_ok-context.ensures.extends in
    let e2 = c.in_ok-equations.ensures.extends in
    let e = Extends-trans e1 e2 in
    let args : c.as_slice.result.now ≡ con.args = c.as_slice.ensures
    ∙ (ap (λ (v : Inside). v.args) c.decl-inside.view_is ∙ ap (λ (v : ConDecl ℕ). v.args) c.decl.view_is) in
    let ctx : context_by (tree q2) made ≡ con_context (split_in (tree p) s) c.args.con (telescope_map (tree p) con.args) =
    context_in-extends q1 q2 made e2 c.in_ok-context.ensures.below
    ∙ (c.in_ok-context.ensures.context ∙ ap (λ (es : List (Entry ℕ)). con_context (split_in (tree p) s) c.args.con (telescope_map (tree p) es)) args) in
    let eqs : equations_in q2 c.as_slice-2.result.now ≡ index_equations (split_in (tree p) s) (con_map (tree p) con) =
    ap (equations_in q2) c.as_slice-2.ensures.value
    ∙ (c.in_ok-equations.ensures.is ∙ ap₂ (λ (s : Splitting) (k : ConDecl Term). index_equations s k) (split-stays p q1 e1 s c.requires.split.0)
    (con-stays p q1 e1 con c.requires.decl)) in
    let y = c.its_branch.new.self in
    let z = c.fits.new.self.pool.now in
    let k : Grows x y = Grows-trans (record { same_reference = refl; extends = e; signature = refl; limits = refl }) c.in_ok-its_branch.ensures.grows in
    let i = its-same (signature_of x) G (fuel_of x) (depth_of x) _ _ _ _ _ _ (Gives tt) (signature_in-extends p q2 x.signature.now e c.requires.ready.signature)
    ctx eqs (branch-stays p q2 e b c.requires.branch.branch) c.in_ok-its_branch.ensures.is in
    let there : context_by (term_of y) c.entries_of.result.now ≡ con_context (split_in (tree p) s) c.args.con (telescope_map (tree p) con.args) =
    ap (context_by (term_of y)) c.entries_of.ensures
    ∙ (context_in-extends q1 y.pool.now made (Extends-trans e2 c.in_ok-its_branch.ensures.grows.extends) c.in_ok-context.ensures.below
    ∙ (c.in_ok-context.ensures.context ∙ ap (λ (es : List (Entry ℕ)). con_context (split_in (tree p) s) c.args.con (telescope_map (tree p) es)) args)) in
    let items = c.in_ok-context.field-0.env.items in
    let later = Extends-trans e2 (Extends-trans c.in_ok-its_branch.ensures.grows.extends c.in_ok-fits.ensures.grows.extends) in
    let env = subst (λ (es : List (Entry ℕ)). Stand q1 items
    (into s.var (length s.context) (length es) (new_con c.args.con (map (tree p) s.params.items) (telescope_map (tree p) es)))) args
    c.in_ok-context.ensures.env in (
      stand-more q1 z items _ later env,
      its-accepted x s c.args.con con b i (Gives tt)
          (fits-here c.requires.ready k b c.requires.branch _ _ there (Gives tt) c.in_ok-fits.ensures.is),
    )
