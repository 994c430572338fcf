use Rattle.std.proofs.Common.{◌≡◌, ◌<◌, ◌-◌, ℕ, suc, length, map, take, drop, refl, arith, ap, ap₂, sym, subst, ◌∙◌}
use Rattle.std.specs.Prelude.{slice_get, Some, option_map}
use Rattle.std.specs.List.{AllByRecursion}
use Rattle.std.proofs.lemmas.List.{length-map}
use Rattle.std.proofs.lemmas.Option.{slice_get_read, slice_get-map}
use Rattle.std.proofs.lemmas.Result.{err_from_is_err_and}
use Rattle.core_rules.specs.Term.{Term}
use Rattle.core_rules.specs.Substitution.{under}
use Rattle.core_rules.specs.InScope.{InScope, any_meta}
use Rattle.core_rules.specs.Signature.{Context, Entry, Signature}
use Rattle.core_rules.specs.Mapped.{entry_map}
use Rattle.core_kernel.proofs.Checking.{refused-weaker}
use Rattle.core_kernel.proofs.Contexts.{context_in-extends, variable-at}
use Rattle.core_terms.specs.Signature.{signature_in}
use Rattle.core_terms.proofs.SignatureGrowth.{signature_in-extends, Stands-extends}
use Rattle.declared_types.proofs.Grown.{entries-weaker}
use Rattle.el_base.proofs.Throughout.{all-at}
use Rattle.kernel_rules.specs.Outcome.{Gives, Refuses}
use Rattle.kernel_rules.specs.Refusals.{OfKernel}
use Rattle.kernel_rules.specs.TermReading.{CheckOf}
use Rattle.kernel_rules.specs.TreeReading.{ValuesOf}
use Rattle.term_pool.specs.Pool.{tree}
use Rattle.term_pool.specs.Placed.{items-stay}
use Rattle.term_pool.specs.Growth.{Extends-trans, Extends-tree}
use Rattle.tree_kernel.specs.Jobs.{context_by}
use Rattle.tree_kernel.specs.Reader.{signature_of, term_of, fuel_of, depth_of}
use Rattle.tree_kernel.proofs.Answering.{of-term}
use Rattle.tree_kernel.proofs.Lists.{ids-weaker}
use Rattle.tree_kernel.proofs.Openings.{context-length}
use Rattle.tree_kernel.proofs.Reading.{Grows-refl, ready_kept}
use Rattle.tree_kernel.proofs.Fitting.{map-drop, ids-drop, outside-is, check-here, values-other, values-none, values-refused, values-next, values-stop}
use Rattle.tree_kernel.proofs.reader.Reader.fit.Goals as goal

pub returns-then-terms-entries-clause-is : goal.returns-then-terms-entries-clause-is
returns-then-terms-entries-clause-is c =
    let x = c.args.self.now in
    let F : ℕ → Term = term_of x in
    let a = length-map c.args.terms.now F in
    let b = context-length F c.args.entries.now in
    values-other (signature_of x) (fuel_of x) (depth_of x) (context_by F c.args.context.now) (map F c.args.terms.now) (context_by F c.args.entries.now)
    (λ m. omega (arith, c.if-terms-entries.true, m, a, b))

pub loop-left-init : goal.loop-left-init
loop-left-init c =
    let x = c.args.self.now in
    let F : ℕ → Term = term_of x in
    let a = length-map c.args.terms.now F in
    let b = context-length F c.args.entries.now in
    record {
      grows = Grows-refl x;
      within = omega arith;
      done = values-none (signature_of x) (fuel_of x) (depth_of x) (context_by F c.args.context.now) (length c.args.terms.now) (map F c.args.terms.now)
          (context_by F c.args.entries.now) (omega (arith, a)) (omega (arith, b, c.if-terms-entries.false));
    }

pub under-requires-clause-env : goal.under-requires-clause-env
under-requires-clause-env c =
    let x = c.args.self.now in
    let y = c.loop-left.self in
    let n = length y.pool.now.trees in
    subst (AllByRecursion (λ i. i < n)) (sym (outside-is c.loop-left.left c.args.terms.now))
    (ids-drop n c.loop-left.left c.args.terms.now (ids-weaker x.pool.now y.pool.now c.args.terms.now c.loop-left.invariant.grows.extends c.requires.terms))

pub check-requires-clause-stands : goal.check-requires-clause-stands
check-requires-clause-stands c = Stands-extends c.loop-left.self.pool.now c.under.new.pool c.loop-left.self.signature.now c.in_ok-ty.ensures.extends
    (ready_kept c.requires.ready c.loop-left.invariant.grows).signature

pub check-requires-clause-context : goal.check-requires-clause-context
check-requires-clause-context c = entries-weaker c.args.self.now.pool.now c.under.new.pool c.args.context.now
    (Extends-trans c.loop-left.invariant.grows.extends c.in_ok-ty.ensures.extends) c.requires.context

pub check-requires-clause-scope : goal.check-requires-clause-scope
check-requires-clause-scope c =
    let x = c.args.self.now in
    let y = c.loop-left.self in
    let q = c.under.new.pool in
    let i = c.loop-left.invariant in
    let F : ℕ → Term = term_of x in
    let ts = c.args.terms.now in
    let k = c.loop-left.left - 1 in
    let t = c.index-terms-left.result in
    let e = Extends-trans i.grows.extends c.in_ok-ty.ensures.extends in
    let at : slice_get ts k ≡ Some t = slice_get_read ts (length ts) k t refl (omega (arith, i.within, c.loop-left-test.true)) c.index-terms-left.is in
    let l = all-at (λ (j : ℕ). j < length x.pool.now.trees) ts k t c.requires.terms at in
    let s : InScope (signature_of x) any_meta (length c.args.context.now) (F t) =
    all-at (InScope (signature_of x) any_meta (length c.args.context.now)) (map F ts) k (F t) c.requires.scope
    (slice_get-map F ts k ∙ ap (option_map F) at) in
    let g : signature_in q y.signature.now ≡ signature_of x = ap (signature_in q) i.grows.signature
    ∙ signature_in-extends x.pool.now q x.signature.now e c.requires.ready.signature in
    subst (λ (h : Signature Term). InScope h any_meta (length c.args.context.now) (tree q t)) (sym g)
    (subst (InScope (signature_of x) any_meta (length c.args.context.now)) (sym (Extends-tree t e l)) s)

pub loop-left-preserved : goal.loop-left-preserved
loop-left-preserved c =
    let x = c.args.self.now in
    let y = c.loop-left.self in
    let q = c.under.new.pool in
    let v = c.check.new.pool in
    let i = c.loop-left.invariant in
    let F : ℕ → Term = term_of x in
    let g = signature_of x in
    let fuel = fuel_of x in
    let depth = depth_of x in
    let C : Context Term = context_by F c.args.context.now in
    let ts = c.args.terms.now in
    let es = c.args.entries.now in
    let L = c.loop-left.left in
    let k = L - 1 in
    let t = c.index-terms-left.result in
    let e = c.index-entries-terms.result in
    let x1 = i.grows.extends in
    let x2 = c.in_ok-ty.ensures.extends in
    let x3 = Extends-trans x1 x2 in
    let eq : length ts ≡ length es = omega (arith, c.if-terms-entries.false) in
    let low : k < length ts = omega (arith, i.within, c.loop-left-test.true) in
    let at : slice_get ts k ≡ Some t = slice_get_read ts (length ts) k t refl low c.index-terms-left.is in
    let place : length ts - L ≡ length es - 1 - k = omega (arith, eq, i.within, c.loop-left-test.true) in
    let there : slice_get es (length es - 1 - k) ≡ Some e = subst (λ (n : ℕ). slice_get es n ≡ Some e) place
    (slice_get_read es (length es) (length ts - L) e refl (omega (arith, eq, i.within, c.loop-left-test.true)) c.index-entries-terms.is) in
    let lt = all-at (λ (j : ℕ). j < length x.pool.now.trees) ts k t c.requires.terms at in
    let le : e.ty < length x.pool.now.trees = all-at (λ (z : Entry ℕ). z.ty < length x.pool.now.trees) es (length es - 1 - k) e c.requires.entries there in
    let s : slice_get (map F ts) k ≡ Some (F t) = slice_get-map F ts k ∙ ap (option_map F) at in
    let d : slice_get (context_by F es) k ≡ Some (entry_map F e) = variable-at x.pool.now es k e (omega (arith, low, eq)) there in
    let more : suc k ≡ L = omega (arith, c.loop-left-test.true) in
    let done : ValuesOf g fuel depth C (drop (suc k) (map F ts)) (drop (suc k) (context_by F es)) (Gives tt) =
    subst (λ (n : ℕ). ValuesOf g fuel depth C (drop n (map F ts)) (drop n (context_by F es)) (Gives tt)) (sym more) i.done in
    let e1 : signature_in q y.signature.now ≡ g = ap (signature_in q) i.grows.signature
    ∙ signature_in-extends x.pool.now q x.signature.now x3 c.requires.ready.signature in
    let e2 : context_by (tree q) c.args.context.now ≡ C = context_in-extends x.pool.now q c.args.context.now x3 c.requires.context in
    let e3 : tree q t ≡ F t = Extends-tree t x3 lt in
    let env : map (term_of y) (take (length ts - L) (drop L ts)) ≡ drop (suc k) (map F ts) =
    ap (map (term_of y)) (outside-is L ts) ∙ (items-stay x.pool.now y.pool.now (drop L ts) x1 (ids-drop (length x.pool.now.trees) L ts c.requires.terms)
    ∙ (map-drop F L ts ∙ ap (λ (n : ℕ). drop n (map F ts)) (sym more))) in
    let ty : term_of y c.entry.inside.ty ≡ F e.ty = ap (λ (z : Entry ℕ). term_of y z.ty) c.entry.view_is ∙ Extends-tree e.ty x1 le in
    let e4 : tree q c.in_ok-ty.ty ≡ under (drop (suc k) (map F ts)) (F e.ty) = c.in_ok-ty.ensures.is.is ∙ ap₂ under env ty in
    let h = check-here g (signature_in q y.signature.now) fuel depth C (context_by (tree q) c.args.context.now) (F t) (tree q t)
    (under (drop (suc k) (map F ts)) (F e.ty)) (tree q c.in_ok-ty.ty) e1 e2 e3 e4 (Gives tt) c.in_ok-check.ensures.answer in
    record {
      grows = record {
        same_reference = i.grows.same_reference;
        extends = Extends-trans x3 c.in_ok-check.ensures.extends;
        signature = i.grows.signature;
        limits = i.grows.limits;
      };
      within = omega (arith, i.within);
      done = values-next g fuel depth C k (map F ts) (context_by F es) (F t) (entry_map F e) s d done h;
    }

pub returns-in_err-check-clause-is : goal.returns-in_err-check-clause-is
returns-in_err-check-clause-is c =
    let x = c.args.self.now in
    let y = c.loop-left.self in
    let q = c.under.new.pool in
    let v = c.check.new.pool in
    let i = c.loop-left.invariant in
    let F : ℕ → Term = term_of x in
    let g = signature_of x in
    let fuel = fuel_of x in
    let depth = depth_of x in
    let C : Context Term = context_by F c.args.context.now in
    let ts = c.args.terms.now in
    let es = c.args.entries.now in
    let L = c.loop-left.left in
    let k = L - 1 in
    let t = c.index-terms-left.result in
    let e = c.index-entries-terms.result in
    let x1 = i.grows.extends in
    let x2 = c.in_ok-ty.ensures.extends in
    let x3 = Extends-trans x1 x2 in
    let eq : length ts ≡ length es = omega (arith, c.if-terms-entries.false) in
    let low : k < length ts = omega (arith, i.within, c.loop-left-test.true) in
    let at : slice_get ts k ≡ Some t = slice_get_read ts (length ts) k t refl low c.index-terms-left.is in
    let place : length ts - L ≡ length es - 1 - k = omega (arith, eq, i.within, c.loop-left-test.true) in
    let there : slice_get es (length es - 1 - k) ≡ Some e = subst (λ (n : ℕ). slice_get es n ≡ Some e) place
    (slice_get_read es (length es) (length ts - L) e refl (omega (arith, eq, i.within, c.loop-left-test.true)) c.index-entries-terms.is) in
    let lt = all-at (λ (j : ℕ). j < length x.pool.now.trees) ts k t c.requires.terms at in
    let le : e.ty < length x.pool.now.trees = all-at (λ (z : Entry ℕ). z.ty < length x.pool.now.trees) es (length es - 1 - k) e c.requires.entries there in
    let s : slice_get (map F ts) k ≡ Some (F t) = slice_get-map F ts k ∙ ap (option_map F) at in
    let d : slice_get (context_by F es) k ≡ Some (entry_map F e) = variable-at x.pool.now es k e (omega (arith, low, eq)) there in
    let more : suc k ≡ L = omega (arith, c.loop-left-test.true) in
    let done : ValuesOf g fuel depth C (drop (suc k) (map F ts)) (drop (suc k) (context_by F es)) (Gives tt) =
    subst (λ (n : ℕ). ValuesOf g fuel depth C (drop n (map F ts)) (drop n (context_by F es)) (Gives tt)) (sym more) i.done in
    let e1 : signature_in q y.signature.now ≡ g = ap (signature_in q) i.grows.signature
    ∙ signature_in-extends x.pool.now q x.signature.now x3 c.requires.ready.signature in
    let e2 : context_by (tree q) c.args.context.now ≡ C = context_in-extends x.pool.now q c.args.context.now x3 c.requires.context in
    let e3 : tree q t ≡ F t = Extends-tree t x3 lt in
    let env : map (term_of y) (take (length ts - L) (drop L ts)) ≡ drop (suc k) (map F ts) =
    ap (map (term_of y)) (outside-is L ts) ∙ (items-stay x.pool.now y.pool.now (drop L ts) x1 (ids-drop (length x.pool.now.trees) L ts c.requires.terms)
    ∙ (map-drop F L ts ∙ ap (λ (n : ℕ). drop n (map F ts)) (sym more))) in
    let ty : term_of y c.entry.inside.ty ≡ F e.ty = ap (λ (z : Entry ℕ). term_of y z.ty) c.entry.view_is ∙ Extends-tree e.ty x1 le in
    let e4 : tree q c.in_ok-ty.ty ≡ under (drop (suc k) (map F ts)) (F e.ty) = c.in_ok-ty.ensures.is.is ∙ ap₂ under env ty in
    let w = err_from_is_err_and c.from_residual-in_err-check.result c.from_residual-in_err-check.ensures.1 in
    let f = c.in_err-check.field-0.0 in
    let lens : length (map F ts) ≡ length (context_by F es) = omega (arith, eq, length-map ts F, context-length F es) in
    rw (w.1, w.2) (of-term v (λ r. ValuesOf g fuel depth C (map F ts) (context_by F es) (Refuses r)) f
    (refused-weaker v (λ r. CheckOf (signature_in q y.signature.now) fuel depth (context_by (tree q) c.args.context.now) (tree q t) (tree q c.in_ok-ty.ty)
    (Refuses r))
    (λ r. ValuesOf g fuel depth C (map F ts) (context_by F es) (Refuses (OfKernel r)))
    (λ r h. values-refused g fuel depth C k (map F ts) (context_by F es) (OfKernel r) lens
    (values-stop g fuel depth C k (map F ts) (context_by F es) (F t) (entry_map F e) s d done r
    (check-here g (signature_in q y.signature.now) fuel depth C (context_by (tree q) c.args.context.now) (F t) (tree q t)
    (under (drop (suc k) (map F ts)) (F e.ty)) (tree q c.in_ok-ty.ty) e1 e2 e3 e4 (Refuses r) h))) f c.in_err-check.ensures.answer))
