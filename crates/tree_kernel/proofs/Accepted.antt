-- A declaration that is accepted is good, and the signature with it is derivable.
use Rattle.std.specs.Prelude.{ℕ, ◌<◌, [], ◌∷◌, ◌++◌, length}
use Rattle.std.proofs.Common.{arith}
use Rattle.core_rules.specs.Term.{Term, Sort, Def}
use Rattle.core_rules.specs.Signature.{Decl, Postulate, Family, Open, Function, Signature, defs}
use Rattle.core_rules.specs.Typing.{Typing}
use Rattle.core_rules.specs.Derivable as D
use Rattle.core_rules.specs.Derivable.{Good, Derivable}
use Rattle.core_rules.specs.InScope.{DeclInScope, any_meta}
use Rattle.core_rules.specs.Laws.{ClausesHaveNoMeta}
use Rattle.core_rules.specs.TreeLaws.{IsSound}
use Rattle.core_rules.proofs.Signature.Growth.{derivable-extended}
use Rattle.core_rules.proofs.Typing.Scoped.{typing-in_scope}
use Rattle.core_rules.proofs.Typing.NoMeta.{typed-no_meta, good-no_meta}
use Rattle.core_rules.proofs.Trees.Sound.{derivable-sound, opened-sound}
use Rattle.core_rules.proofs.Scope.Known.{knows_append, in_scope-known}
use Rattle.kernel_rules.specs.Outcome.{Gives}
use Rattle.kernel_rules.specs.DeclLaws.{IsHandedIn}
use Rattle.kernel_rules.proofs.Outcome.{then-gives}
use Rattle.kernel_rules.proofs.Families.{type_typed, family-good}
use Rattle.tree_kernel.specs.Reading.{ReadsDecl}
use Rattle.tree_kernel.specs.Laws.{AcceptedTreeIsTyped}

module _ (g : Signature Term) (fuel depth : ℕ) (r : Derivable g) (trees : AcceptedTreeIsTyped) where
  decl-good : (d : Decl Term) → IsHandedIn g d → DeclInScope g any_meta d → ReadsDecl g fuel depth d (Gives tt) → Good g d
  decl-good (Postulate x a) s i h = let h1 = then-gives h in D.postulate
      (record { level = h1.0; holds = type_typed g fuel depth (derivable-sound g r) [] a h1.0 h1.1 })
  decl-good (Family d) s i h = D.family (family-good g fuel depth d r s h)
  decl-good (Open x a) s i h = absurd cc
  decl-good (Function x a qs T) s i h =
      let h1 = then-gives h in
      let k = derivable-sound g r in
      let t : Typing g [] a (Sort h1.0) = type_typed g fuel depth k [] a h1.0 h1.1 in
      let o : Signature Term = g ++ Open x a ∷ [] in
      let j : IsSound o = opened-sound g x a k (typing-in_scope g t) (typed-no_meta g t) in
      D.function (record { level = h1.0; holds = t })
      (trees o fuel depth [] T a (Def (length (defs g))) j tt i.1 (in_scope-known g o any_meta (knows_append g (Open x a ∷ [])) 0 a i.0) (known-def g x a)
      h1.2)
    where
      known-def : (g : Signature Term) (x : ℕ) (a : Term) → length (defs g) < length (defs (g ++ Open x a ∷ []))
      known-def [] x a = omega arith
      known-def (Postulate y b ∷ g) x a = let m = known-def g x a in omega (arith, m)
      known-def (Family d ∷ g) x a = known-def g x a
      known-def (Open y b ∷ g) x a = let m = known-def g x a in omega (arith, m)
      known-def (Function y b qs T ∷ g) x a = let m = known-def g x a in omega (arith, m)

  clauses-no_meta : (d : Decl Term) → IsHandedIn g d → ClausesHaveNoMeta d
  clauses-no_meta (Postulate x a) s = tt
  clauses-no_meta (Family d) s = tt
  clauses-no_meta (Open x a) s = tt
  clauses-no_meta (Function x a qs T) s = s.1

  pub decl-derivable : (d : Decl Term) → IsHandedIn g d → DeclInScope g any_meta d → ReadsDecl g fuel depth d (Gives tt) → Derivable (g ++ d ∷ [])
  decl-derivable d s i h = let k = decl-good d s i h in derivable-extended g d r k (good-no_meta g d k (clauses-no_meta d s))
