-- What the calls of a writer leave of it.
use Rattle.std.proofs.Common.{◌≡◌, ◌<◌, ℕ, length, refl, ap, ◌∙◌, arith, subst}
use Rattle.term_pool.specs.Growth.{Extends-refl, Extends-length, Extends-tree, Extends-trans}
use Rattle.core_terms.specs.Signature.{signature_in}
use Rattle.core_terms.proofs.SignatureGrowth.{signature_in-extends, Stands-extends}
use Rattle.elab_machine.specs.declared.writer.Writer.{Writer}
use Rattle.elab_machine.specs.Writer.{IsReady, Grows, Keeps, Over, over, term_of, signature_of, values_of}
use Rattle.elab_machine.proofs.Raised.{values-weaker, values-stay}

pub Grows-refl : (x : Writer) → Grows x x
Grows-refl x = record { same_reference = refl; extends = Extends-refl x.pool.now }

pub Keeps-refl : (x : Writer) → Keeps x x
Keeps-refl x = record { signature = refl; values = refl; inside = refl; limits = refl }

pub Grows-trans : {x y z : Writer} → Grows x y → Grows y z → Grows x z
Grows-trans h k = record { same_reference = k.same_reference ∙ h.same_reference; extends = Extends-trans h.extends k.extends }

pub Keeps-trans : {x y z : Writer} → Keeps x y → Keeps y z → Keeps x z
Keeps-trans h k = record { signature = k.signature ∙ h.signature; values = k.values ∙ h.values; inside = k.inside ∙ h.inside; limits = k.limits ∙ h.limits }

-- after a call that grows the pool, where the signature and the limits are the same
module _ {x y : Writer} (r : IsReady x) (g : Grows x y) (s : y.signature.now ≡ x.signature.now) (l : y.limits ≡ x.limits) where
  pub signature_same : signature_of y ≡ signature_of x
  signature_same = ap (signature_in y.pool.now) s ∙ signature_in-extends x.pool.now y.pool.now x.signature.now g.extends r.signature

  pub over_same : over y ≡ over x
  over_same =
      let f : y.limits.fuel ≡ x.limits.fuel = ap (λ l. l.fuel) l in
      let d : y.limits.depth ≡ x.limits.depth = ap (λ l. l.depth) l in
      cc (signature_same, f, d)

-- after a call
module _ {x y : Writer} (r : IsReady x) (g : Grows x y) (k : Keeps x y) where
  pub ready_kept : IsReady y
  ready_kept = record {
    signature = rw k.signature (Stands-extends x.pool.now y.pool.now x.signature.now g.extends r.signature);
    values = rw (k.values, k.inside) (values-weaker x.pool.now y.pool.now x.inside x.values.now.items g.extends r.values);
  }

  pub over_kept : over y ≡ over x
  over_kept = over_same r g k.signature k.limits

  pub values_kept : values_of y ≡ values_of x
  values_kept = rw (k.values, k.inside) (values-stay x.pool.now y.pool.now x.inside x.values.now.items g.extends r.values)

  pub within_kept : (t : ℕ) → t < length x.pool.now.trees → t < length y.pool.now.trees
  within_kept t l = omega (arith, l, Extends-length g.extends)

  pub term_kept : (t : ℕ) → t < length x.pool.now.trees → term_of y t ≡ term_of x t
  term_kept t l = Extends-tree t g.extends l

  -- what is said of one writer, said of the one before it
  pub here : (K : Over → Type 0) → K (over y) → K (over x)
  here K h = subst K over_kept h
