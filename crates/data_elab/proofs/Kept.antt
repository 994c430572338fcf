-- What the calls of a reader leave of it.
use Rattle.std.proofs.Common.{◌≡◌, ◌<◌, ℕ, length, refl, ap, ◌∙◌, arith, subst}
use Rattle.core_rules.specs.Signature.{Signature}
use Rattle.std.proofs.Common.{List, map}
use Rattle.std.specs.List.{AllByRecursion}
use Rattle.el_base.proofs.Throughout.{all-weaker, map-same}
use Rattle.term_pool.specs.Pool.{tree}
use Rattle.core_rules.specs.Term.{Term}
use Rattle.term_pool.specs.Pool.{Pool, Extends}
use Rattle.term_pool.specs.Growth.{Extends-refl, Extends-length, Extends-tree, Extends-trans}
use Rattle.core_terms.specs.Signature.{signature_in}
use Rattle.core_terms.proofs.SignatureGrowth.{signature_in-extends, Stands-extends}
use Rattle.declared_types.proofs.Grown.{entries-weaker, telescope-stays}
use Rattle.kernel_rules.specs.Outcome.{Outcome}
use Rattle.resolved_tree.specs.declared.resolved.ResolvedExpr.{ResolvedExpr}
use Rattle.written_rules.specs.Refusals as written
use Rattle.written_rules.specs.Rules.{Values}
use Rattle.written_rules.specs.Expressions.{WrittenTypeOf, expr_meaning}
use Rattle.elab_machine.specs.Written.{source_values}
use Rattle.data_elab.specs.declared.reader.Reader.{Reader}
use Rattle.data_elab.specs.Sources.{AreSources}
use Rattle.data_elab.specs.Reader.{IsReady, Grows, Keeps, Read, over, term_of, signature_of, context_of, values_of}

pub Grows-refl : (x : Reader) → Grows x x
Grows-refl x = record { same_reference = refl; extends = Extends-refl x.pool.now }

pub Keeps-refl : (x : Reader) → Keeps x x
Keeps-refl x = record { signature = refl; context = refl; limits = refl }

pub Grows-trans : {x y z : Reader} → Grows x y → Grows y z → Grows x z
Grows-trans h k = record { same_reference = k.same_reference ∙ h.same_reference; extends = Extends-trans h.extends k.extends }

pub Keeps-trans : {x y z : Reader} → Keeps x y → Keeps y z → Keeps x z
Keeps-trans h k = record { signature = k.signature ∙ h.signature; context = k.context ∙ h.context; limits = k.limits ∙ h.limits }

-- after a call that grows the pool, where the signature and the limits are the same
module _ {x y : Reader} (r : IsReady x) (g : Grows x y) (s : y.signature.now ≡ x.signature.now) (l : y.limits ≡ x.limits) where
  pub signature_same : signature_of y ≡ signature_of x
  signature_same = ap (signature_in y.pool.now) s ∙ signature_in-extends x.pool.now y.pool.now x.signature.now g.extends r.signature

  pub over_same : over y ≡ over x
  over_same =
      let f : y.limits.fuel ≡ x.limits.fuel = ap (λ l. l.fuel) l in
      let d : y.limits.depth ≡ x.limits.depth = ap (λ l. l.depth) l in
      cc (signature_same, f, d)

-- after a call
module _ {x y : Reader} (r : IsReady x) (g : Grows x y) (k : Keeps x y) where
  pub ready_kept : IsReady y
  ready_kept = record {
    signature = rw k.signature (Stands-extends x.pool.now y.pool.now x.signature.now g.extends r.signature);
    context = rw k.context (entries-weaker x.pool.now y.pool.now x.context.now.items g.extends r.context);
  }

  pub over_kept : over y ≡ over x
  over_kept = over_same r g k.signature k.limits

  pub context_kept : context_of y ≡ context_of x
  context_kept = rw k.context (telescope-stays x.pool.now y.pool.now x.context.now.items g.extends r.context)

  pub within_kept : (t : ℕ) → t < length x.pool.now.trees → t < length y.pool.now.trees
  within_kept t l = omega (arith, l, Extends-length g.extends)

  pub term_kept : (t : ℕ) → t < length x.pool.now.trees → term_of y t ≡ term_of x t
  term_kept t l = Extends-tree t g.extends l

-- the reading of an expression over a later pool
module _ (x : Reader) (q : Pool) (h : Extends x.pool.now q) (r : IsReady x) (e : ResolvedExpr) (vs : _) (are : AreSources q (context_of x) vs) where
  pub typed_before : (o : Outcome written.Refusal (Term × ℕ)) → WrittenTypeOf (signature_in q x.signature.now) x.limits.fuel x.limits.depth (source_values q vs) e o
      → Read (over x) ((expr_meaning (signature_of x) e).types (values_of x)) o
  typed_before o k =
      subst (λ (us : Values). WrittenTypeOf (signature_of x) x.limits.fuel x.limits.depth us e o) are.are
      (subst (λ (g : Signature Term). WrittenTypeOf g x.limits.fuel x.limits.depth (source_values q vs) e o) (signature_in-extends x.pool.now q x.signature.now h r.signature) k)

pub terms-stay : (p q : Pool) (ts : List ℕ) → Extends p q → AllByRecursion (λ t. t < length p.trees) ts → map (tree q) ts ≡ map (tree p) ts
terms-stay p q ts h a = map-same (λ t. t < length p.trees) (tree q) (tree p) (λ t l. Extends-tree t h l) ts a

pub terms-weaker : (p q : Pool) (ts : List ℕ) → Extends p q → AllByRecursion (λ t. t < length p.trees) ts → AllByRecursion (λ t. t < length q.trees) ts
terms-weaker p q ts h a = all-weaker (λ t. t < length p.trees) (λ t. t < length q.trees) (λ t l. omega (arith, Extends-length h, l)) ts a
