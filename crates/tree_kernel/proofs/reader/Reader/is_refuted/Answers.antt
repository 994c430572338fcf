use Rattle.std.proofs.Common.{◌≡◌, ◌∙◌, List, ap, ap₂}
use Rattle.core_rules.specs.Signature.{ConDecl, Entry}
use Rattle.core_rules.specs.Term.{Term}
use Rattle.core_rules.specs.TypedTree.{Splitting, index_equations, con_context}
use Rattle.core_rules.specs.Mapped.{con_map, telescope_map}
use Rattle.core_kernel.proofs.Contexts.{context_in-extends}
use Rattle.core_terms.proofs.SignatureGrowth.{signature_in-extends, Stands-extends}
use Rattle.core_terms.specs.Signature.{signature_in}
use Rattle.core_terms.specs.declared.clause.ConDecl.TheInside.{Inside}
use Rattle.declared_types.proofs.Grown.{con-stays, con-within, entries-weaker}
use Rattle.kernel_rules.specs.TreeReading.{refuted_by, Unifies}
use Rattle.index_unify.specs.Unified.{equations_in}
use Rattle.term_pool.specs.Pool.{tree}
use Rattle.term_pool.specs.Growth.{Extends-trans}
use Rattle.tree_kernel.specs.Jobs.{context_by, split_in}
use Rattle.tree_kernel.specs.Nodes.{ReadsRefuted}
use Rattle.tree_kernel.specs.Reader.{signature_of, fuel_of, depth_of}
use Rattle.tree_kernel.specs.Reading.{UnifiesAs}
use Rattle.tree_kernel.proofs.Declaring.{answers-weaker}
use Rattle.tree_kernel.proofs.Splits.{split-stays, split-within, asks-same}
use Rattle.tree_kernel.proofs.reader.Reader.is_refuted.Goals as goal

pub index_equations-requires-clause-split : goal.index_equations-requires-clause-split
index_equations-requires-clause-split c = split-within c.args.self.now.pool.now c.open_con.new.pool c.in_ok-made.ensures.extends c.args.split.now
    c.requires.split.0

pub index_equations-requires-clause-con : goal.index_equations-requires-clause-con
index_equations-requires-clause-con c = con-within c.args.self.now.pool.now c.open_con.new.pool c.in_ok-made.ensures.extends c.args.decl.now c.requires.decl

pub refuted-requires-clause-ready : goal.refuted-requires-clause-ready
refuted-requires-clause-ready c =
    record {
      signature = Stands-extends c.args.self.now.pool.now c.index_equations.new.pool c.args.self.now.signature.now
          (Extends-trans c.in_ok-made.ensures.extends c.in_ok-equations.ensures.extends) c.requires.ready.signature;
    }

pub refuted-requires-clause-context : goal.refuted-requires-clause-context
refuted-requires-clause-context c = entries-weaker c.open_con.new.pool c.index_equations.new.pool c.in_ok-made.made.context c.in_ok-equations.ensures.extends
    c.in_ok-made.ensures.below

pub returns-clause-is : goal.returns-clause-is
returns-clause-is c =
    let x = c.args.self.now in
    let p = x.pool.now in
    let q1 = c.open_con.new.pool in
    let q2 = c.index_equations.new.pool in
    let s = c.args.split.now in
    let con = c.args.decl.now in
    let G = signature_in q2 x.signature.now in
    let e1 = c.in_ok-made.ensures.extends in
    let e2 = c.in_ok-equations.ensures.extends in
    let e = Extends-trans e1 e2 in
    let args : c.as_slice.result.now ≡ con.args = c.as_slice.ensures
    ∙ (ap (λ (v : Inside). v.args) c.decl-inside.view_is ∙ ap (λ (v : ConDecl _). v.args) c.decl.view_is) in
    let ctx : context_by (tree q2) c.in_ok-made.made.context ≡ con_context (split_in (tree p) s) c.args.con (telescope_map (tree p) con.args) =
    context_in-extends q1 q2 c.in_ok-made.made.context e2 c.in_ok-made.ensures.below
    ∙ (c.in_ok-made.ensures.context ∙ ap (λ (es : List (Entry _)). con_context (split_in (tree p) s) c.args.con (telescope_map (tree p) es)) args) in
    let eqs : equations_in q2 c.as_slice-2.result.now ≡ index_equations (split_in (tree p) s) (con_map (tree p) con) =
    ap (equations_in q2) c.as_slice-2.ensures.value
    ∙ (c.in_ok-equations.ensures.is ∙ ap₂ (λ (s : Splitting) (k : ConDecl Term). index_equations s k) (split-stays p q1 e1 s c.requires.split.0)
    (con-stays p q1 e1 con c.requires.decl)) in
    answers-weaker c.refuted.new.self.pool.now
    (λ r. Unifies G (fuel_of x) (depth_of x) (UnifiesAs G (fuel_of x) (depth_of x)) refuted_by (context_by (tree q2) c.in_ok-made.made.context)
    (equations_in q2 c.as_slice-2.result.now) r)
    (λ r. ReadsRefuted x s c.args.con con r)
    (λ r h. asks-same refuted_by (signature_of x) G (fuel_of x) (depth_of x) _ _ _ _ r
    (signature_in-extends p q2 x.signature.now e c.requires.ready.signature) ctx eqs h) c.refuted.result c.refuted.ensures.is
