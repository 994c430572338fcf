-- Sorts of different levels and different constructors are not convertible in a signature of postulates and data types.
use Rattle.std.specs.Prelude.{◌≡◌, ℕ, true, false, List, [], ◌∷◌, Some, None, refl, zero, suc}
use Rattle.std.proofs.Common.{sym, subst as transport, arith}
use Rattle.core_rules.specs.declared.Flag.{Flag}
use Rattle.core_rules.specs.declared.Flag.TheVariants.{Explicit}
use Rattle.core_rules.specs.Term.{Term, Terms, Sort, App, Con, End}
use Rattle.core_rules.specs.Signature.{Signature, Entry, Telescope, Family, FamDecl, fam_decl}
use Rattle.core_rules.specs.Elimination.{elims, args}
use Rattle.core_rules.specs.Conversion.{Conv}
use Rattle.core_rules.specs.Examples.{nat}
use Rattle.core_rules.specs.Separation.{IsInert, SetIsNotItsType, ZeroIsNoSuccessor}
use Rattle.core_rules.proofs.Apart.Reach.{Target, a_sort, a_constructor, Reach, here, unwind, reach-conv}

sort_reached : (m n : ℕ) (vs : List Term) (k : ℕ) → Reach (a_sort m) (Sort n) vs k → m ≡ n
sort_reached m n vs k (here e) = e

pub sorts_apart : (g : Signature Term) (m n : ℕ) → IsInert g → Conv g (Sort m) (Sort n) → m ≡ n
sorts_apart g m n i h = let x = reach-conv (a_sort m) g i (Sort m) (Sort n) h [] 0 (here refl) in sort_reached m n [] x.0 x.1

con_reached : (j k : ℕ) (ps : Terms) (vs : List Term) (n : ℕ) → Reach (a_constructor j) (Con k ps) vs n → j ≡ k
con_reached j k ps vs n (here e) = e

module _ (p : Target) where
  -- a term under arguments comes to a head where it does at these and those after them
  wound : (t : Term) (es : Telescope Term) (us : List Term) → ((vs : List Term) → Reach p t vs 0) → (vs : List Term) → Reach p (elims t (args es us)) vs 0
  wound t [] us h vs = h vs
  wound t (e ∷ es) [] h vs = h vs
  wound t (e ∷ es) (u ∷ us) h vs = wound (App e.flag t u) es us (λ ws. unwind (h (u ∷ ws))) vs

  app_reached : {b : Flag} {t u : Term} {vs : List Term} {n : ℕ} → Reach p (App b t u) vs n → Reach p t (u ∷ vs) n
  app_reached (unwind r) = r
  app_reached (here e) = absurd e

  unwound : (t : Term) (es : Telescope Term) (us vs : List Term) (n : ℕ) → Reach p (elims t (args es us)) vs n → (ws : List Term) × Reach p t ws n
  unwound t [] us vs n r = (vs, r)
  unwound t (e ∷ es) [] vs n r = (vs, r)
  unwound t (e ∷ es) (u ∷ us) vs n r = let x = unwound (App e.flag t u) es us vs n r in (u ∷ x.0, app_reached {b = e.flag} x.1)

pub constructors_apart : (g : Signature Term) (j k : ℕ) (ps qs : Terms) (es ds : Telescope Term) (us vs : List Term) → IsInert g → Conv g (elims (Con j ps) (args es us)) (elims (Con k qs) (args ds vs)) → j ≡ k
constructors_apart g j k ps qs es ds us vs i h =
    let p = a_constructor j in
    let x = reach-conv p g i (elims (Con j ps) (args es us)) (elims (Con k qs) (args ds vs)) h [] 0 (wound p (Con j ps) es us (λ ws. here refl) []) in
    let y = unwound p (Con k qs) ds vs [] x.0 x.1 in
    con_reached j k qs y.0 x.0 y.1

empty_inert : IsInert []
empty_inert = record { no_tree = λ f. refl; no_field = λ f. refl; no_eta = λ k d is. none_some is.is_decl }
  where
    none_some : {d : FamDecl Term} → None ≡ Some d → ⊥
    none_some e = cc e

pub set_is_not_its_type : SetIsNotItsType
set_is_not_its_type h = let e = sorts_apart [] 0 1 empty_inert h in absurd (omega (arith, e))

nat_inert : IsInert (Family nat ∷ [])
nat_inert = record { no_tree = λ f. refl; no_field = λ f. refl; no_eta = λ k d is. no_eta d is.decl is.is_decl is.eta }
  where
    none_some : {d : FamDecl Term} → None ≡ Some d → ⊥
    none_some e = cc e

    one_family : {d e : FamDecl Term} → Some d ≡ Some e → d ≡ e
    one_family e = cc e

    false_true : false ≡ true → ⊥
    false_true e = cc e

    no_eta : (d : ℕ) (decl : FamDecl Term) → fam_decl (Family nat ∷ []) d ≡ Some decl → decl.eta ≡ true → ⊥
    no_eta zero decl e h = false_true (transport (λ d. d.eta ≡ true) (sym (one_family e)) h)
    no_eta (suc d) decl e h = none_some e

abbrev number : Entry Term
number = record { name = 0; flag = Explicit; ty = Sort 0 }

pub zero_is_no_successor : ZeroIsNoSuccessor
zero_is_no_successor t h = let e = constructors_apart (Family nat ∷ []) 0 1 End End [] (number ∷ []) [] (t ∷ []) nat_inert h in absurd (omega (arith, e))
