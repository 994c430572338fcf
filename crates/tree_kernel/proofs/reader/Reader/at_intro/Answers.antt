use Rattle.std.proofs.Common.{◌≡◌, ◌<◌, ℕ, ◌+◌, List, [], ◌∷◌, ◌++◌, length, arith, ap, ap₂, sym, subst, ◌∙◌, refl}
use Rattle.std.proofs.lemmas.List.{length-append}
use Rattle.std.proofs.lemmas.Result.{err_from_is_err_and}
use Rattle.core_rules.specs.Term.{Term, Var, Pi, App}
use Rattle.core_rules.specs.Substitution.{shift}
use Rattle.core_rules.specs.Signature.{Entry, Context, Intro}
use Rattle.core_rules.specs.InScope.{TreeInScope, any_meta}
use Rattle.core_rules.specs.Mapped.{AllEntries, tree_map}
use Rattle.el_base.proofs.Throughout.{all-push}
use Rattle.term_pool.specs.Pool.{Below, StandsFor, tree, node_tree}
use Rattle.term_pool.specs.Growth.{Extends-tree, Extends-StandsFor}
use Rattle.term_pool.specs.declared.node.Node.TheVariants as NodeOf
use Rattle.declared_types.proofs.Grown.{entries-weaker}
use Rattle.core_kernel.proofs.Contexts.{context_in-extends}
use Rattle.kernel_rules.specs.Outcome.{Outcome, goes_on, stops}
use Rattle.kernel_rules.specs.Refusals.{DeclRefusal, BadTree}
use Rattle.kernel_rules.specs.TermReading.{ShowsForm}
use Rattle.kernel_rules.specs.TreeReading.{pi_shown}
use Rattle.tree_kernel.specs.Jobs.{context_by}
use Rattle.tree_kernel.specs.Nodes.{ReadsNode}
use Rattle.tree_kernel.specs.Reader.{signature_of, term_of, fuel_of, depth_of}
use Rattle.tree_kernel.proofs.Answering.{terms_first}
use Rattle.tree_kernel.proofs.Openings.{context-last}
use Rattle.tree_kernel.proofs.Introducing.{not-pi}
use Rattle.tree_kernel.proofs.Continuing.{NodeIn, ReadsIn, node_goes}
use Rattle.tree_kernel.proofs.Reading.{Grows-trans, within_kept, term_kept}
use Rattle.tree_kernel.proofs.reader.Reader.at_intro.Goals as goal

pub returns-in_err-form-clause-is : goal.returns-in_err-form-clause-is
returns-in_err-form-clause-is c =
    let x = c.args.self.now in
    let w = err_from_is_err_and c.from_residual.result c.from_residual.ensures.1 in
    rw (w.1, w.2) (terms_first c.form.new.self.pool.now (ShowsForm (signature_of x) (fuel_of x) (depth_of x) (term_of x c.args.node.ty)) _
    c.in_err-form.field-0.0 c.in_err-form.ensures.is)

pub returns-in_default : goal.returns-in_default
returns-in_default c =
    let f = tree c.form.new.self.pool.now in
    record {
      grows = c.in_ok-form.ensures.grows;
      is = goes_on (f c.in_ok-form.form) c.in_ok-form.ensures.is.1
          (stops BadTree (not-pi f c.node.result c.in_default.not-Pi ∙ ap pi_shown (sym c.node.ensures.is)) refl);
    }

pub applied-requires : goal.applied-requires
applied-requires c = record { left = within_kept c.requires.ready c.in_ok-form.ensures.grows c.args.node.left c.requires.node.3 }

pub returns-clause-is : goal.returns-clause-is
returns-clause-is c =
    let x = c.args.self.now in
    let n = c.args.node in
    let y = c.form.new.self in
    let z = c.applied.new.self in
    let f : ℕ → Term = tree y.pool.now in
    let g = c.in_ok-form.ensures.grows in
    let k = c.in_ok-left.ensures.grows.extends in
    let h = Grows-trans g c.in_ok-left.ensures.grows in
    let shown : f c.in_ok-form.form ≡ Pi c.in-Pi.flag c.in-Pi.name (f c.in-Pi.dom) (f c.in-Pi.cod) = c.node.ensures.is ∙ ap (node_tree f) c.in-Pi.is in
    let parts : Below f c.in_ok-form.form (NodeOf.Pi c.in-Pi.flag c.in-Pi.name c.in-Pi.dom c.in-Pi.cod) =
    subst (Below f c.in_ok-form.form) c.in-Pi.is c.node.ensures.below in
    let dom : c.in-Pi.dom < length y.pool.now.trees = omega (arith, parts.0, c.in_ok-form.ensures.is.0) in
    let cod : c.in-Pi.cod < length y.pool.now.trees = omega (arith, parts.1, c.in_ok-form.ensures.is.0) in
    let left : StandsFor z.pool.now c.in_ok-left.left (App c.in-Pi.flag (shift (term_of x n.left) 0 1) (Var 0)) =
    subst (λ (t : Term). StandsFor z.pool.now c.in_ok-left.left (App c.in-Pi.flag (shift t 0 1) (Var 0)))
    (term_kept c.requires.ready g n.left c.requires.node.3) c.in_ok-left.ensures.is in
    let e : Entry ℕ = record { name = c.in-Pi.name; flag = c.in-Pi.flag; ty = c.in-Pi.dom } in
    let es = n.context ++ e ∷ [] in
    let below : AllEntries (λ i. i < length z.pool.now.trees) es =
    all-push (λ (w : Entry ℕ). w.ty < length z.pool.now.trees) n.context e (entries-weaker x.pool.now z.pool.now n.context h.extends c.requires.node.0)
    (Extends-StandsFor k (record { within = dom; is = refl })).within in
    let is : context_by (term_of z) es ≡ record { name = c.in-Pi.name; flag = c.in-Pi.flag; ty = f c.in-Pi.dom } ∷ context_by (term_of x) n.context =
    context-last (term_of z) n.context e
    ∙ ap₂ (λ (t : Term) (d : Context Term). record { name = c.in-Pi.name; flag = c.in-Pi.flag; ty = t } ∷ d) (Extends-tree c.in-Pi.dom k dom)
    (context_in-extends x.pool.now z.pool.now n.context h.extends c.requires.node.0) in
    let count : length n.context + 1 ≡ length es = sym (length-append n.context (e ∷ [])) in
    let m = node_goes c.requires.ready h es _ c.args.rest.now c.in-Pi.cod c.in_ok-left.left n.ty (f c.in-Pi.cod)
    (App c.in-Pi.flag (shift (term_of x n.left) 0 1) (Var 0)) c.requires.node.2 below is c.requires.node.1
    (Extends-StandsFor k (record { within = cod; is = refl })) left
    (subst (λ (m : ℕ). TreeInScope (signature_of x) any_meta m (tree_map (term_of x) c.args.rest.now)) count c.requires.node.4)
    (ReadsNode x n (Intro c.args.rest.now))
    (λ o d. goes_on (f c.in_ok-form.form) c.in_ok-form.ensures.is.1
    (goes_on (record { flag = c.in-Pi.flag; name = c.in-Pi.name; dom = f c.in-Pi.dom; cod = f c.in-Pi.cod }) (sym (ap pi_shown shown)) d)) in
    let same = sym c.in_ok-context.ensures in (
      refl,
      subst (λ (es : List (Entry ℕ)). NodeIn z es c.args.rest.now c.in-Pi.cod c.in_ok-left.left) same m.0,
      subst (λ (es : List (Entry ℕ)). (o : Outcome DeclRefusal (Unit {0})) → ReadsIn x z es c.args.rest.now c.in-Pi.cod c.in_ok-left.left o
          → ReadsNode x n (Intro c.args.rest.now) o) same m.1,
    )
