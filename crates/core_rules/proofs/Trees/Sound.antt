-- Sound signatures: derivable ones, and those with a function that is known without its tree. There head forms and a yes are sound.
use Rattle.std.specs.Prelude.{◌≡◌, ℕ, ◌<◌, ◌≤◌, ◌⊎◌, List, [], ◌∷◌, ◌++◌, length, take, slice_get, Some, refl}
use Rattle.std.proofs.Common.{ap, sym, ◌∙◌, arith, ⊎_elim, subst as transport}
use Rattle.std.proofs.lemmas.List.{take-append-le, take_all}
use Rattle.core_rules.specs.Term.{Term, HasNoMeta, Def}
use Rattle.core_rules.specs.Signature.{Signature, Decl, CoreClause, Tree, Open, Function, defs}
use Rattle.core_rules.specs.Mapped.{signature_map, AllDecl}
use Rattle.core_rules.specs.InScope.{InScope, DeclInScope, any_meta}
use Rattle.core_rules.specs.Substitution.{replace}
use Rattle.core_rules.specs.Elimination.{Elim, elims}
use Rattle.core_rules.specs.Conversion.{Conv}
use Rattle.core_rules.specs.Heads.{Solutions, Answer, Heads}
use Rattle.core_rules.specs.Bounded.{Yes, ConvOf}
use Rattle.core_rules.specs.BoundedLaws.{IsFull, HasRegularTrees, no_solutions, shown}
use Rattle.core_rules.specs.TypedTree.{TypedTree}
use Rattle.core_rules.proofs.Heads.Fit.{HasFitTrees}
use Rattle.core_rules.proofs.Heads.Regular.{shapes, regular_fit}
use Rattle.core_rules.proofs.Heads.FullSolutions.{nothing_to_replace}
use Rattle.core_rules.proofs.Heads.Untouched.{signature_untouched}
use Rattle.core_rules.proofs.Heads.HeadConverts.{heads_convert}
use Rattle.core_rules.proofs.Heads.YesConverts.{yes_converts}
use Rattle.core_rules.specs.Derivable.{Derivable}
use Rattle.core_rules.proofs.Signature.Growth.{get_before, get_last}
use Rattle.core_rules.proofs.Trees.Scoped.{derivable-in_scope}
use Rattle.core_rules.proofs.Trees.Regular.{derivable-typed, typed_trees-regular}
use Rattle.core_rules.specs.TreeLaws.{IsSound}

pub derivable-sound : (g : Signature Term) → Derivable g → IsSound g
derivable-sound g r = record { scope = derivable-in_scope g r; typed = derivable-typed g r; no_meta = r.no_meta }

two : (i k : ℕ) → (i < k) ⊎ (k ≤ i)
two i k = grind arith

-- what holds of each declaration of g over those before it, and of d over g
each_one : (P : Signature Term → Decl Term → Type 0) (g : Signature Term) (d : Decl Term) → ((i : ℕ) (e : Decl Term) → slice_get g i ≡ Some e → P (take i g) e) → P g d
    → (i : ℕ) (e : Decl Term) → slice_get (g ++ d ∷ []) i ≡ Some e → P (take i (g ++ d ∷ [])) e
each_one P g d h k i e s = ⊎_elim
    (λ b. rw (take-append-le i g (d ∷ []) (omega (arith, b))) (h i e (sym (get_before g (d ∷ []) i b) ∙ s)))
    (λ b. let p = get_last g d e i b s in
    let q : take i (g ++ d ∷ []) ≡ g = take-append-le i g (d ∷ []) (omega (arith, p.1)) ∙ take_all i g (omega (arith, p.1)) in
    rw q (transport (P g) p.0 k)) (two i (length g))

abbrev HasTypedTree : Signature Term → Decl Term → Type 0
HasTypedTree g e = (x : ℕ) (a : Term) (qs : List (CoreClause Term)) (T : Tree Term) → e ≡ Function x a qs T → TypedTree (g ++ Open x a ∷ []) [] T a (Def (length (defs g)))

pub opened-sound : (g : Signature Term) (x : ℕ) (a : Term) → IsSound g → InScope g any_meta 0 a → HasNoMeta a → IsSound (g ++ Open x a ∷ [])
opened-sound g x a k s m = record {
  scope = each_one (λ h e. DeclInScope h any_meta e) g (Open x a) k.scope s;
  typed = λ i y b qs T e. each_one HasTypedTree g (Open x a) (λ i e s y b qs T q. k.typed i y b qs T (s ∙ ap Some q)) (λ y b qs T q. absurd (no_function q)) i (Function y b qs T) e y b qs T refl;
  no_meta = each_one (λ h e. AllDecl HasNoMeta e) g (Open x a) k.no_meta m;
}
  where
    no_function : {y : ℕ} {b : Term} {qs : List (CoreClause Term)} {T : Tree Term} → Open x a ≡ Function y b qs T → ⊥
    no_function e = cc e

module _ (g : Signature Term) (k : IsSound g) where
  pub sound-regular : HasRegularTrees g
  sound-regular = typed_trees-regular g k.typed

  fit : HasFitTrees g
  fit = regular_fit g any_meta k.scope sound-regular

  untouched : (f : Solutions) → signature_map (replace f) g ≡ g
  untouched f = signature_untouched f g k.no_meta

  pub sound-heads : (s f : Solutions) (t : Term) (es : List Elim) (w : Answer) (n : ℕ) → IsFull s f → Heads g s t es w n → Conv g (replace f (elims t es)) (replace f (shown w))
  sound-heads s f t es w n x d = transport (λ h. Conv h (replace f (elims t es)) (replace f (shown w))) (untouched f) (heads_convert g s f t es w n x fit d)

  pub sound-yes : (s f : Solutions) (fuel depth : ℕ) (t u : Term) → IsFull s f → ConvOf g s fuel depth t u Yes → Conv g (replace f t) (replace f u)
  sound-yes s f fuel depth t u x h = transport (λ h. Conv h (replace f t) (replace f u)) (untouched f) (yes_converts g s f fuel depth t u x (shapes g any_meta k.scope) fit h)

  pub sound-plain_yes : (fuel depth : ℕ) (t u : Term) → ConvOf g no_solutions fuel depth t u Yes → Conv g t u
  sound-plain_yes fuel depth t u h =
      transport (λ t. Conv g t u) (nothing_to_replace.1 t) (transport (Conv g (replace no_solutions t)) (nothing_to_replace.1 u) (sound-yes no_solutions no_solutions fuel depth t u nothing_to_replace.0 h))
