-- The labels of a record's values: found from the last value to the first, and how often a label is written.
use Rattle.std.proofs.Common.{◌≡◌, ℕ, suc, ◌+◌, ◌-◌, ◌≤◌, Bool, true, false, List, [], ◌∷◌, map, refl, sym, ap, ◌∙◌, arith}
use Rattle.std.specs.Prelude.{eqb, cond, not, is_some, Option, Some, None, option_map, slice_get}
use Rattle.std.proofs.lemmas.Bool.Decides.{nat_tests}
use Rattle.core_rules.specs.Term.{Term}
use Rattle.core_rules.specs.Signature.{Signature}
use Rattle.resolved_tree.specs.declared.resolved.ResolvedValue.{ResolvedValue}
use Rattle.written_rules.specs.Rules.{Checks, ValueMeaning, times, value_of}
use Rattle.written_rules.specs.Expressions.{expr_meaning, value_meaning}
use Rattle.written_rules.proofs.Forms.{value_means}
use Rattle.elab_machine.specs.declared.labels.Label.{Label}
use Rattle.elab_machine.specs.Labels.{Puts, is_once, label_of, labelled}

same : (a b : ℕ) → eqb a b ≡ true → a ≡ b
same a b e = grind (arith, nat_tests)

not_none : (n : ℕ) → eqb (1 + n) 0 ≡ false
not_none n = grind (arith, nat_tests)

one_more : (n : ℕ) → eqb (1 + n) 1 ≡ eqb n 0
one_more n = of (eqb n 0) refl
  where
    of : (b : Bool) → eqb n 0 ≡ b → eqb (1 + n) 1 ≡ eqb n 0
    of true e = let one : eqb (1 + n) 1 ≡ true = grind (arith, nat_tests) in one ∙ sym e
    of false e = let more : eqb (1 + n) 1 ≡ false = grind (arith, nat_tests) in more ∙ sym e

-- one value more, in front
pub label-next : (m n : List (ℕ × Label)) (i : ℕ) (v : ResolvedValue) (vs : List ResolvedValue) (once : Bool) → ((y : ℕ) → labelled m y ≡ label_of y (i + 1) vs) → once ≡ not (is_some (labelled m v.name.id))
    → Puts m v.name.id (record { first = i; once = once }) n → (x : ℕ) → labelled n x ≡ label_of x i (v ∷ vs)
label-next m n i v vs once inv o p x = of (eqb v.name.id x) refl
  where
    of : (b : Bool) → eqb v.name.id x ≡ b → labelled n x ≡ label_of x i (v ∷ vs)
    of true e =
        let at : v.name.id ≡ x = same v.name.id x e in
        let alone : once ≡ not (is_some (label_of x (i + 1) vs)) = o ∙ ap (λ y. not (is_some (labelled m y))) at ∙ ap (λ l. not (is_some l)) (inv x) in
        p x ∙ ap (λ b. cond b (Some (record { first = i; once = once })) (labelled m x)) e ∙ ap (λ b. Some (record { first = i; once = b })) alone
        ∙ ap (λ b. cond b (Some (record { first = i; once = not (is_some (label_of x (i + 1) vs)) })) (label_of x (i + 1) vs)) (sym e)
    of false e =
        p x ∙ ap (λ b. cond b (Some (record { first = i; once = once })) (labelled m x)) e ∙ inv x
        ∙ ap (λ b. cond b (Some (record { first = i; once = not (is_some (label_of x (i + 1) vs)) })) (label_of x (i + 1) vs)) (sym e)

abbrev nothing : Option Label
nothing = None

module _ (g : Signature Term) where
  abbrev pub meanings : List ResolvedValue → List ValueMeaning
  meanings vs = map (value_meaning g) vs

  named : (v : ResolvedValue) → (value_meaning g v).name ≡ v.name.id
  named v = ap (λ (m : ValueMeaning). m.name) (value_means g v.name v.value)

  -- a name that no value has
  none-times : (x i : ℕ) (vs : List ResolvedValue) → eqb (times x (meanings vs)) 0 ≡ not (is_some (label_of x i vs))
  none-times x i [] = refl
  none-times x i (v ∷ vs) = ap (λ y. eqb (cond (eqb y x) (1 + times x (meanings vs)) (times x (meanings vs))) 0) (named v) ∙ of (eqb v.name.id x) (none-times x (i + 1) vs)
    where
      of : (b : Bool) → eqb (times x (meanings vs)) 0 ≡ not (is_some (label_of x (i + 1) vs))
          → eqb (cond b (1 + times x (meanings vs)) (times x (meanings vs))) 0 ≡ not (is_some (cond b (Some (record { first = i; once = not (is_some (label_of x (i + 1) vs)) })) (label_of x (i + 1) vs)))
      of true h = not_none (times x (meanings vs))
      of false h = h

  -- a name that one value has
  pub once-times : (x i : ℕ) (vs : List ResolvedValue) → eqb (times x (meanings vs)) 1 ≡ is_once (label_of x i vs)
  once-times x i [] = refl
  once-times x i (v ∷ vs) = ap (λ y. eqb (cond (eqb y x) (1 + times x (meanings vs)) (times x (meanings vs))) 1) (named v) ∙ of (eqb v.name.id x) (once-times x (i + 1) vs)
    where
      of : (b : Bool) → eqb (times x (meanings vs)) 1 ≡ is_once (label_of x (i + 1) vs)
          → eqb (cond b (1 + times x (meanings vs)) (times x (meanings vs))) 1 ≡ is_once (cond b (Some (record { first = i; once = not (is_some (label_of x (i + 1) vs)) })) (label_of x (i + 1) vs))
      of true h = one_more (times x (meanings vs)) ∙ none-times x (i + 1) vs
      of false h = h

  abbrev pub checks_of : ResolvedValue → Checks
  checks_of v = (expr_meaning g v.value).checks

  -- the value at a label
  pub value-at : (x i : ℕ) (vs : List ResolvedValue) (l : Label) → label_of x i vs ≡ Some l → (i ≤ l.first) × (value_of x (meanings vs) ≡ option_map checks_of (slice_get vs (l.first - i)))
  value-at x i [] l e = absurd cc
  value-at x i (v ∷ vs) l e = of (eqb v.name.id x) refl (value-at x (i + 1) vs l)
    where
      of : (b : Bool) → eqb v.name.id x ≡ b → (label_of x (i + 1) vs ≡ Some l → (i + 1 ≤ l.first) × (value_of x (meanings vs) ≡ option_map checks_of (slice_get vs (l.first - (i + 1))))) → (i ≤ l.first) × (value_of x (meanings (v ∷ vs)) ≡ option_map checks_of (slice_get (v ∷ vs) (l.first - i)))
      of true t more =
          let is : record { first = i; once = not (is_some (label_of x (i + 1) vs)) } ≡ l = let both = sym (ap (λ b. cond b (Some (record { first = i; once = not (is_some (label_of x (i + 1) vs)) })) (label_of x (i + 1) vs)) t) ∙ e in cc in
          let first : l.first ≡ i = sym (ap (λ (l : Label). l.first) is) in
          let zero : l.first - i ≡ 0 = omega (arith, first) in
          let means : value_of x (meanings (v ∷ vs)) ≡ Some (checks_of v) = ap (λ (m : ValueMeaning). cond (eqb m.name x) (Some m.checks) (value_of x (meanings vs))) (value_means g v.name v.value) ∙ ap (λ b. cond b (Some (checks_of v)) (value_of x (meanings vs))) t in
          (omega (arith, first), means ∙ ap (λ k. option_map checks_of (slice_get (v ∷ vs) k)) (sym zero))
      of false t more =
          let rest : label_of x (i + 1) vs ≡ Some l = sym (ap (λ b. cond b (Some (record { first = i; once = not (is_some (label_of x (i + 1) vs)) })) (label_of x (i + 1) vs)) t) ∙ e in
          let h = more rest in
          let next : l.first - i ≡ suc (l.first - (i + 1)) = omega (arith, h.0) in
          let means : value_of x (meanings (v ∷ vs)) ≡ value_of x (meanings vs) = ap (λ (m : ValueMeaning). cond (eqb m.name x) (Some m.checks) (value_of x (meanings vs))) (value_means g v.name v.value) ∙ ap (λ b. cond b (Some (checks_of v)) (value_of x (meanings vs))) t in
          (omega (arith, h.0), means ∙ h.1 ∙ ap (λ k. option_map checks_of (slice_get (v ∷ vs) k)) (sym next))

  -- a name that no value has, has no value
  pub no-value : (x i : ℕ) (vs : List ResolvedValue) → label_of x i vs ≡ None → value_of x (meanings vs) ≡ None
  no-value x i [] e = refl
  no-value x i (v ∷ vs) e = of (eqb v.name.id x) refl (no-value x (i + 1) vs)
    where
      of : (b : Bool) → eqb v.name.id x ≡ b → (label_of x (i + 1) vs ≡ None → value_of x (meanings vs) ≡ None) → value_of x (meanings (v ∷ vs)) ≡ None
      of true t more = let some : Some (record { first = i; once = not (is_some (label_of x (i + 1) vs)) }) ≡ nothing = sym (ap (λ b. cond b (Some (record { first = i; once = not (is_some (label_of x (i + 1) vs)) })) (label_of x (i + 1) vs)) t) ∙ e in absurd cc
      of false t more =
          let rest : label_of x (i + 1) vs ≡ None = sym (ap (λ b. cond b (Some (record { first = i; once = not (is_some (label_of x (i + 1) vs)) })) (label_of x (i + 1) vs)) t) ∙ e in
          ap (λ (m : ValueMeaning). cond (eqb m.name x) (Some m.checks) (value_of x (meanings vs))) (value_means g v.name v.value) ∙ ap (λ b. cond b (Some (checks_of v)) (value_of x (meanings vs))) t ∙ more rest
