-- Conversion is kept by shifts.
use Rattle.std.specs.Prelude.{ℕ, ◌+◌, ◌-◌, ltb, eqb, cond, Bool, true, false, List, [], ◌∷◌, zero, suc}
use Rattle.core_rules.specs.Term.{Term}
use Rattle.core_rules.specs.Substitution.{over, shift, shift_var, subst, subst_var, env_var, under, value_at}
use Rattle.core_rules.specs.Signature.{Signature}
use Rattle.core_rules.specs.Conversion as C
use Rattle.core_rules.specs.Conversion.{Conv}
use Rattle.core_rules.proofs.Conversion.Changed.{conv-over}
use Rattle.core_rules.proofs.Substitution.Changes.{shift_lifted, shift_variables}
use Rattle.core_rules.proofs.Run.Renamed.{run-renamed}
use Rattle.core_rules.proofs.Conversion.Pointwise.{over-conv}

pub conv-shift_under : {g : Signature Term} {t u : Term} (from by d : ℕ) → Conv g t u → Conv g (over (shift_var from by) d t) (over (shift_var from by) d u)
conv-shift_under {g = g} from by d h = conv-over (shift_var from by) (shift_lifted from by) g
    (λ d T es u k. record { to = over (shift_var from by) d u; runs = run-renamed g (shift_var from by) (shift_lifted from by) (shift_variables from by) d k; is = C.same }) d h

pub conv-shift : {g : Signature Term} {t u : Term} (from by : ℕ) → Conv g t u → Conv g (shift t from by) (shift u from by)
conv-shift from by h = conv-shift_under from by 0 h

-- the values of two environments are convertible at each place
pub data ConvEnv (g : Signature Term) : List Term → List Term → Type 0 where
  none : ConvEnv g [] []
  more : {t u : Term} {r s : List Term} → Conv g t u → ConvEnv g r s → ConvEnv g (t ∷ r) (u ∷ s)

pub conv-value_at : {g : Signature Term} {r s : List Term} (k : ℕ) → ConvEnv g r s → Conv g (value_at r k) (value_at s k)
conv-value_at k none = C.same
conv-value_at zero (more h k) = h
conv-value_at (suc i) (more h k) = conv-value_at i k

conv-test : {g : Signature Term} (b : Bool) {t t' u u' : Term} → Conv g t t' → Conv g u u' → Conv g (cond b t u) (cond b t' u')
conv-test true h k = h
conv-test false h k = k

pub conv-values : {g : Signature Term} (r s : List Term) (t : Term) → ((i : ℕ) → Conv g (value_at r i) (value_at s i)) → Conv g (under r t) (under s t)
conv-values {g = g} r s t h = over-conv g (env_var r) (env_var s) (λ d i. conv-test (ltb i d) C.same (conv-shift 0 d (h (i - d)))) 0 t

pub conv-under : {g : Signature Term} {r s : List Term} (t : Term) → ConvEnv g r s → Conv g (under r t) (under s t)
conv-under {r = r} {s = s} t h = conv-values r s t (λ i. conv-value_at i h)

-- convertible terms for a variable
pub conv-subst_by : {g : Signature Term} {u v : Term} (t : Term) (at : ℕ) → Conv g u v → Conv g (subst t at u) (subst t at v)
conv-subst_by {g = g} {u = u} {v = v} t at h = over-conv g (subst_var at u) (subst_var at v) (λ d i. conv-test (ltb i (at + d)) C.same (conv-test (eqb i (at + d)) (conv-shift 0 d h) C.same)) 0 t
