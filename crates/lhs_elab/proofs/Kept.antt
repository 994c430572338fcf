-- What a left side is read over, after a call.
use Rattle.std.proofs.Common.{◌≡◌, ℕ, length, refl, ap, sym, subst, ◌∙◌}
use Rattle.std.specs.Prelude.{Option, Result, Ok, Err, OnOk}
use Rattle.core_rules.specs.InScope.{IsAcyclic}
use Rattle.term_pool.specs.Pool.{Extends}
use Rattle.core_terms.specs.Signature.{Stands, signature_in}
use Rattle.core_terms.specs.Solutions.{AreIn, AreIn-stays, solved_in, solved_in-stays}
use Rattle.core_terms.proofs.SignatureGrowth.{Stands-extends, signature_in-extends}
use Rattle.lhs_elab.specs.declared.elaborator.Elaborator.{Elaborator}
use Rattle.lhs_elab.specs.Lefts.{LeftBelow, left_in}
use Rattle.lhs_elab.specs.Elaborator.{IsReady, Grows, Keeps, left_of, over, signature_of, solved_of}
use Rattle.core_rules.specs.Heads.{Solutions}
use Rattle.core_rules.specs.BoundedLaws.{IsFull}
use Rattle.term_pool.specs.Growth.{Extends-refl, Extends-trans}
use Rattle.lhs_elab.proofs.Growing.{left-larger, left-stays}

pub on_ok : {A E : Type 0} (r : Result A E) (P Q : Type 0) → (P → Q) → OnOk r P → OnOk r Q
on_ok (Ok a) P Q f h = f h
on_ok (Err e) P Q f h = h

module _ {S : Type 0} (s : S → ℕ → Option ℕ) (x y : Elaborator S) (r : IsReady s x) where
  module _ (e : Extends x.pool.now y.pool.now) (i : y.signature.now ≡ x.signature.now) (o : y.solutions.now ≡ x.solutions.now) where
    -- with another left side
    pub ready-at : LeftBelow (length y.pool.now.trees) y.left.now → IsReady s y
    ready-at l = record {
      signature = subst (Stands y.pool.now) (sym i) (Stands-extends x.pool.now y.pool.now x.signature.now e r.signature);
      solutions = subst (λ (v : S). AreIn y.pool.now (s v)) (sym o) (AreIn-stays e r.solutions);
      acyclic = subst (λ (v : S). IsAcyclic (solved_in y.pool.now (s v))) (sym o) (subst IsAcyclic (sym (solved_in-stays x.pool.now y.pool.now (s x.solutions.now) e r.solutions)) r.acyclic);
      left = l;
    }

  module _ (g : Grows x y) (k : Keeps x y) where
    pub signature-kept : signature_of y ≡ signature_of x
    signature-kept = ap (signature_in y.pool.now) k.signature ∙ signature_in-extends x.pool.now y.pool.now x.signature.now g.extends r.signature

    -- with the same left side
    pub ready-kept : y.left.now ≡ x.left.now → IsReady s y
    ready-kept l = ready-at g.extends k.signature k.solutions (subst (LeftBelow (length y.pool.now.trees)) (sym l) (left-larger x.pool.now y.pool.now g.extends x.left.now r.left))

    pub left-kept : y.left.now ≡ x.left.now → left_of y ≡ left_of x
    left-kept l = ap (left_in y.pool.now) l ∙ left-stays x.pool.now y.pool.now g.extends x.left.now r.left

    pub solved-kept : solved_of s y ≡ solved_of s x
    solved-kept = ap (λ (v : S). solved_in y.pool.now (s v)) k.solutions ∙ solved_in-stays x.pool.now y.pool.now (s x.solutions.now) g.extends r.solutions

    -- readings are over the same
    pub over-kept : (f : Solutions) → over s f y ≡ over s f x
    over-kept f = cc (signature-kept, solved-kept, k.limits)

    pub full-kept : (f : Solutions) → IsFull (solved_of s x) f → IsFull (solved_of s y) f
    full-kept f h = subst (λ (i : Solutions). IsFull i f) (sym solved-kept) h

module _ {S : Type 0} (x : Elaborator S) where
  pub Grows-refl : Grows x x
  Grows-refl = record { same_reference = refl; extends = Extends-refl x.pool.now; same_left = refl }

  pub Keeps-refl : Keeps x x
  Keeps-refl = record { signature = refl; solutions = refl; function = refl; limits = refl }

module _ {S : Type 0} {x y z : Elaborator S} where
  pub Grows-trans : Grows x y → Grows y z → Grows x z
  Grows-trans g h = record { same_reference = h.same_reference ∙ g.same_reference; extends = Extends-trans g.extends h.extends; same_left = h.same_left ∙ g.same_left }

  pub Keeps-trans : Keeps x y → Keeps y z → Keeps x z
  Keeps-trans g h = record { signature = h.signature ∙ g.signature; solutions = h.solutions ∙ g.solutions; function = h.function ∙ g.function; limits = h.limits ∙ g.limits }

-- a call that keeps all
pub record Same {S : Type 0} (x y : Elaborator S) : Type 0 where
  pub grows : Grows x y
  pub keeps : Keeps x y
  pub left : y.left.now ≡ x.left.now

pub Same-trans : {S : Type 0} {x y z : Elaborator S} → Same x y → Same y z → Same x z
Same-trans g h = record { grows = Grows-trans g.grows h.grows; keeps = Keeps-trans g.keeps h.keeps; left = h.left ∙ g.left }

module _ {S : Type 0} (s : S → ℕ → Option ℕ) (x y : Elaborator S) (r : IsReady s x) (m : Same x y) where
  pub same-ready : IsReady s y
  same-ready = ready-kept s x y r m.grows m.keeps m.left

  pub same-left : left_of y ≡ left_of x
  same-left = left-kept s x y r m.grows m.keeps m.left

  pub same-over : (f : Solutions) → over s f y ≡ over s f x
  same-over f = over-kept s x y r m.grows m.keeps f

  pub same-full : (f : Solutions) → IsFull (solved_of s x) f → IsFull (solved_of s y) f
  same-full f h = full-kept s x y r m.grows m.keeps f h
