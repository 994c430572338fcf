-- What stays of a reader as it goes on.
use Rattle.std.proofs.Common.{◌≡◌, ◌<◌, ℕ, length, refl, ap, ◌∙◌, arith}
use Rattle.term_pool.specs.Growth.{Extends-refl, Extends-length, Extends-tree, Extends-trans}
use Rattle.core_terms.specs.Signature.{signature_in}
use Rattle.core_terms.proofs.SignatureGrowth.{signature_in-extends, Stands-extends}
use Rattle.tree_kernel.specs.declared.reader.Reader.{Reader}
use Rattle.tree_kernel.specs.Reader.{IsReady, Grows, signature_of, term_of}

pub Grows-refl : (x : Reader) → Grows x x
Grows-refl x = record { same_reference = refl; extends = Extends-refl x.pool.now; signature = refl; limits = refl }

pub Grows-trans : {x y z : Reader} → Grows x y → Grows y z → Grows x z
Grows-trans h k = record {
  same_reference = k.same_reference ∙ h.same_reference;
  extends = Extends-trans h.extends k.extends;
  signature = k.signature
      ∙ h.signature;
  limits = k.limits ∙ h.limits;
}

module _ {x y : Reader} (r : IsReady x) (g : Grows x y) where
  pub ready_kept : IsReady y
  ready_kept = record { signature = rw g.signature (Stands-extends x.pool.now y.pool.now x.signature.now g.extends r.signature) }

  pub signature_kept : signature_of y ≡ signature_of x
  signature_kept = ap (signature_in y.pool.now) g.signature ∙ signature_in-extends x.pool.now y.pool.now x.signature.now g.extends r.signature

  pub term_kept : (t : ℕ) → t < length x.pool.now.trees → term_of y t ≡ term_of x t
  term_kept t l = Extends-tree t g.extends l

  pub within_kept : (t : ℕ) → t < length x.pool.now.trees → t < length y.pool.now.trees
  within_kept t l = omega (arith, l, Extends-length g.extends)
