-- A derivable signature in which a family is known without constructors and fields is derivable.
use Rattle.std.specs.Prelude.{◌≡◌, ℕ, true, false, [], ◌∷◌, ◌++◌, slice_get, Some, refl}
use Rattle.core_rules.specs.Term.{Term}
use Rattle.core_rules.specs.Signature.{Signature, onto, FamDecl, ConDecl, Family, without_cons}
use Rattle.core_rules.specs.Typing.{WellFormed}
use Rattle.core_rules.specs.Derivable as D
use Rattle.core_rules.specs.Derivable.{Derivable}
use Rattle.core_rules.proofs.Signature.Growth.{derivable-extended}
use Rattle.core_rules.proofs.Typing.NoMeta.{formed-no_meta}

pub known-derivable : (g : Signature Term) (d : FamDecl Term) → Derivable g → WellFormed g (onto d.indices (onto d.params [])) → Derivable (g ++ Family (without_cons d) ∷ [])
known-derivable g d r w =
    let m = formed-no_meta g d.indices (onto d.params []) w in
    derivable-extended g (Family (without_cons d)) r
    (D.family (record {
      shape = record { of_data = λ _. record { fields = refl; eta = refl; coinductive = refl }; of_record = λ e. absurd (false_true e) };
      context = w;
      cons = λ i q e. absurd (none_there i q e);
      fields = D.none;
    }))
    (record { params = (formed-no_meta g d.params [] m.1).0; indices = m.0; cons = tt; fields = tt })
  where
    false_true : false ≡ true → ⊥
    false_true e = cc e

    none_there : (i : ℕ) (q : ConDecl Term) → slice_get [] i ≡ Some q → ⊥
    none_there i q e = cc e
