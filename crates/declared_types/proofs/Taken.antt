-- The arguments of a record that are taken one after the other.
use Rattle.std.proofs.Common.{◌≡◌, ◌<◌, ◌≤◌, ◌+◌, ℕ, zero, suc, true, false, List, [], ◌∷◌, ◌++◌, append_assoc, length, length-take, map, take, refl, sym, ap, ◌∙◌, arith}
use Rattle.std.specs.Prelude.{cond, reverse, slice_get, Option, Some, None, option_map}
use Rattle.std.proofs.lemmas.List.{append-nil, length-map, length-reverse}
use Rattle.el_base.proofs.Lists.{take_next, reverse_push}
use Rattle.core_rules.specs.declared.Flag.{Flag}
use Rattle.core_rules.specs.Term.{Term}
use Rattle.core_rules.specs.Signature.{Entry, Telescope}
use Rattle.core_rules.specs.Elimination.{Elim, Arg, Field}
use Rattle.core_rules.specs.Bounded.{same_flag}
use Rattle.core_rules.specs.Mapped.{telescope_map}
use Rattle.weak_head.specs.Elims.{AllBelow, elim_in, spine_in}
use Rattle.weak_head.specs.declared.elim.Elim as E
use Rattle.weak_head.specs.declared.elim.Elim.TheVariants as V
use Rattle.kernel_rules.specs.TermReading.{arguments_for}

-- the terms us, and those of o after them
abbrev pub before : List Term → Option (List Term) → Option (List Term)
before us o = option_map (λ vs. us ++ vs) o

before_one : (us : List Term) (u : Term) (o : Option (List Term)) → before us (option_map (λ vs. u ∷ vs) o) ≡ before (us ++ u ∷ []) o
before_one us u None = refl
before_one us u (Some vs) = ap Some (sym (append_assoc us (u ∷ []) vs))

pub before_none : (o : Option (List Term)) → before [] o ≡ o
before_none None = refl
before_none (Some us) = refl

pub taken_next : (us : List Term) (e : Entry Term) (es : Telescope Term) (b : Flag) (u : Term) (ds : List Elim) → same_flag e.flag b ≡ true
    → before us (arguments_for (e ∷ es) (Arg b u ∷ ds)) ≡ before (us ++ u ∷ []) (arguments_for es ds)
taken_next us e es b u ds s = ap (λ o. before us (cond o (option_map (λ vs. u ∷ vs) (arguments_for es ds)) None)) s ∙ before_one us u (arguments_for es ds)

pub taken_other : (us : List Term) (e : Entry Term) (es : Telescope Term) (b : Flag) (u : Term) (ds : List Elim) → same_flag e.flag b ≡ false
    → before us (arguments_for (e ∷ es) (Arg b u ∷ ds)) ≡ None
taken_other us e es b u ds s = ap (λ o. before us (cond o (option_map (λ vs. u ∷ vs) (arguments_for es ds)) None)) s

pub taken_field : (us : List Term) (e : Entry Term) (es : Telescope Term) (k : ℕ) (ds : List Elim) → before us (arguments_for (e ∷ es) (Field k ∷ ds)) ≡ None
taken_field us e es k ds = refl

pub taken_short : (us : List Term) (e : Entry Term) (es : Telescope Term) → before us (arguments_for (e ∷ es) []) ≡ None
taken_short us e es = refl

pub taken_long : (us : List Term) (d : Elim) (ds : List Elim) → before us (arguments_for [] (d ∷ ds)) ≡ None
taken_long us d ds = refl

pub taken_end : (us : List Term) → before us (arguments_for [] []) ≡ Some us
taken_end us = ap Some (append-nil us)

-- ---- over ids, from the last elimination on

module _ (f : ℕ → Term) where
  spine-next : (spine : List E.Elim) (n : ℕ) (b : Flag) (u : ℕ) → slice_get spine n ≡ Some (V.Arg b u) → spine_in f (take (n + 1) spine) ≡ Arg b (f u) ∷ spine_in f (take n spine)
  spine-next spine n b u at = ap (λ (ds : List E.Elim). map (elim_in f) ds) (ap reverse (take_next spine n (V.Arg b u) at) ∙ reverse_push (take n spine) (V.Arg b u))

  pub ids_next : (taken new : List ℕ) (left more : List (Entry ℕ)) (e : Entry ℕ) (spine : List E.Elim) (given n : ℕ) (b : Flag) (u : ℕ) (w : Option (List Term))
      → left ≡ e ∷ more → given ≡ n + 1 → slice_get spine n ≡ Some (V.Arg b u) → same_flag e.flag b ≡ true → map f new ≡ map f taken ++ f u ∷ []
      → before (map f taken) (arguments_for (telescope_map f left) (spine_in f (take given spine))) ≡ w → before (map f new) (arguments_for (telescope_map f more) (spine_in f (take n spine))) ≡ w
  ids_next taken new left more e spine given n b u w l m at s v h =
      let us : List Term = map f taken in
      let a : spine_in f (take given spine) ≡ Arg b (f u) ∷ spine_in f (take n spine) = ap (λ (k : ℕ). spine_in f (take k spine)) m ∙ spine-next spine n b u at in
      let step : before us (arguments_for (telescope_map f (e ∷ more)) (Arg b (f u) ∷ spine_in f (take n spine))) ≡ before (us ++ f u ∷ []) (arguments_for (telescope_map f more) (spine_in f (take n spine))) =
      taken_next us (record { name = e.name; flag = e.flag; ty = f e.ty }) (telescope_map f more) b (f u) (spine_in f (take n spine)) s in
      ap (λ (ts : List Term). before ts (arguments_for (telescope_map f more) (spine_in f (take n spine)))) v
      ∙ (sym step ∙ (ap (λ (ds : List Elim). before us (arguments_for (telescope_map f (e ∷ more)) ds)) (sym a)
      ∙ (ap (λ (es : List (Entry ℕ)). before us (arguments_for (telescope_map f es) (spine_in f (take given spine)))) (sym l) ∙ h)))

  none_left : (us : List Term) (ds : List Elim) → 0 < length ds → before us (arguments_for [] ds) ≡ None
  none_left us [] l = absurd (omega (arith, l))
  none_left us (d ∷ ds) l = taken_long us d ds

  -- no entry is left, and more are given
  pub ids_over : (taken : List ℕ) (left : List (Entry ℕ)) (spine : List E.Elim) (given : ℕ) (w : Option (List Term)) → left ≡ [] → 0 < given → given ≤ length spine
      → before (map f taken) (arguments_for (telescope_map f left) (spine_in f (take given spine))) ≡ w → None ≡ w
  ids_over taken left spine given w l some low h =
      let n : length (spine_in f (take given spine)) ≡ length (take given spine) = length-map (reverse (take given spine)) (elim_in f) ∙ length-reverse (take given spine) in
      let k : 0 < length (spine_in f (take given spine)) = omega (arith, n, length-take given spine, some, low) in
      sym (none_left (map f taken) (spine_in f (take given spine)) k) ∙ (ap (λ (es : List (Entry ℕ)). before (map f taken) (arguments_for (telescope_map f es) (spine_in f (take given spine)))) (sym l) ∙ h)

-- the term of an argument is below what all are
pub id-below : (n : ℕ) (spine : List E.Elim) (i : ℕ) (b : Flag) (u : ℕ) → AllBelow n spine → slice_get spine i ≡ Some (V.Arg b u) → u < n
id-below n [] i b u a at = absurd cc
id-below n (V.Arg c t ∷ spine) zero b u a at = let e : V.Arg c t ≡ V.Arg b u = cc at in let f : t ≡ u = cc e in omega (arith, f, a.0)
id-below n (V.Field k ∷ spine) zero b u a at = absurd (cc at)
id-below n (d ∷ spine) (suc i) b u a at = id-below n spine i b u a.1 at
