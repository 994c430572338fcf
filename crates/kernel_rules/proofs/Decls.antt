-- A declaration that is accepted over a derivable signature is good, and the signature with it is derivable.
use Rattle.std.specs.Prelude.{◌≡◌, refl, zero, suc, take, slice_get, Some, ℕ, [], ◌∷◌, ◌++◌, length}
use Rattle.core_rules.specs.Term.{Term, Sort, Def}
use Rattle.core_rules.specs.Signature.{Decl, Postulate, Family, Open, Function, Signature, defs}
use Rattle.core_rules.specs.Typing.{Typing}
use Rattle.core_rules.specs.Derivable as D
use Rattle.core_rules.specs.Derivable.{Good, Derivable}
use Rattle.core_rules.proofs.Signature.Growth.{derivable-extended}
use Rattle.core_rules.proofs.Derivations.{derivable-empty}
use Rattle.core_rules.proofs.Typing.Scoped.{typing-in_scope}
use Rattle.kernel_rules.specs.Outcome.{Gives}
use Rattle.core_rules.specs.TreeLaws.{IsSound}
use Rattle.core_rules.specs.UnifierAnswers.{Unifier}
use Rattle.kernel_rules.specs.DeclReading.{DeclOf}
use Rattle.kernel_rules.specs.DeclLaws.{IsHandedIn, Unifiers, AllAccepted}
use Rattle.kernel_rules.proofs.Outcome.{then-gives}
use Rattle.core_rules.specs.Laws.{ClausesHaveNoMeta}
use Rattle.core_rules.proofs.Typing.NoMeta.{typed-no_meta, good-no_meta}
use Rattle.core_rules.proofs.Trees.Sound.{derivable-sound, opened-sound}
use Rattle.kernel_rules.proofs.Families.{type_typed, family-good}
use Rattle.kernel_rules.proofs.Trees.{tree-typed}

module _ (U : Signature Term → Unifier) (g : Signature Term) (fuel depth : ℕ) (u : Unifiers U) (r : Derivable g) where
  pub decl-good : (d : Decl Term) → IsHandedIn g d → DeclOf U g fuel depth d (Gives tt) → Good g d
  decl-good (Postulate x a) s h = let h1 = then-gives h in D.postulate (record { level = h1.0; holds = type_typed g fuel depth (derivable-sound g r) [] a h1.0 h1.1 })
  decl-good (Family d) s h = D.family (family-good g fuel depth d r s h)
  decl-good (Open x a) s h = absurd cc
  decl-good (Function x a qs T) s h =
      let h1 = then-gives h in
      let k = derivable-sound g r in
      let t : Typing g [] a (Sort h1.0) = type_typed g fuel depth k [] a h1.0 h1.1 in
      let o : Signature Term = g ++ Open x a ∷ [] in
      let i : IsSound o = opened-sound g x a k (typing-in_scope g t) (typed-no_meta g t) in
      D.function (record { level = h1.0; holds = t }) (tree-typed o fuel depth i (U o) (u o i) [] T a (Def (length (defs g))) h1.2)

  clauses-no_meta : (d : Decl Term) → IsHandedIn g d → ClausesHaveNoMeta d
  clauses-no_meta (Postulate x a) s = tt
  clauses-no_meta (Family d) s = tt
  clauses-no_meta (Open x a) s = tt
  clauses-no_meta (Function x a qs T) s = s.1

  pub decl-derivable : (d : Decl Term) → IsHandedIn g d → DeclOf U g fuel depth d (Gives tt) → Derivable (g ++ d ∷ [])
  decl-derivable d s h = let k = decl-good d s h in derivable-extended g d r k (good-no_meta g d k (clauses-no_meta d s))

-- the first n + 1 declarations are the first n, and one more where there is one
next_taken : (P : Signature Term → Type 0) (g : Signature Term) (n : ℕ) → P (take n g) → ((d : Decl Term) → slice_get g n ≡ Some d → P (take n g ++ d ∷ [])) → P (take (suc n) g)
next_taken P [] zero h k = h
next_taken P [] (suc n) h k = h
next_taken P (d ∷ g) zero h k = k d refl
next_taken P (d ∷ g) (suc n) h k = next_taken (λ g. P (d ∷ g)) g n h k

pub all-derivable : (U : Signature Term → Unifier) (fuel depth : ℕ) → Unifiers U → (g : Signature Term) → AllAccepted U fuel depth g → (n : ℕ) → Derivable (take n g)
all-derivable U fuel depth u g h zero = derivable-empty
all-derivable U fuel depth u g h (suc n) =
    let r = all-derivable U fuel depth u g h n in
    next_taken Derivable g n r (λ d e. let k = h n d e in decl-derivable U (take n g) fuel depth u r d k.0 k.1)
