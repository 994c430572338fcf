-- The parts of a head form in scope are in scope: those of a family, and those of a split.
use Rattle.std.specs.Prelude.{◌≡◌, ℕ, ◌+◌, ◌-◌, List, [], ◌∷◌, ◌++◌, length, take, drop, slice_get, Option, Some, None, refl, zero, suc}
use Rattle.std.specs.List.{AllByRecursion}
use Rattle.std.proofs.Common.{sym, arith, subst as transport}
use Rattle.core_rules.specs.Term.{Term, Var, Sort, Pi, Lam, App, Def, Fam, Con, Proj, Meta}
use Rattle.core_rules.specs.Signature.{Entry, Telescope, Context, Signature, FamDecl, fam_decl, cons_of}
use Rattle.core_rules.specs.Elimination.{Elim, args}
use Rattle.core_rules.specs.Heads.{Form, Blocked, Bounded, Within, Out, HeadOf}
use Rattle.core_rules.specs.BoundedLaws.{no_solutions}
use Rattle.core_rules.specs.InScope.{InScope, ConInScope, SignatureInScope, SolutionsInScope, any_meta, con_params}
use Rattle.core_rules.specs.ScopeLaws.{ElimInScope, ContextInScope}
use Rattle.core_rules.proofs.Heads.OneAnswer.{one_some}
use Rattle.core_rules.proofs.Scope.Declared.{elims-in_scope, constructor-in_scope}
use Rattle.core_rules.proofs.Scope.HeadForms.{heads-in_scope}
use Rattle.core_rules.proofs.Trees.Scoped.{con_place_of}
use Rattle.kernel_rules.specs.Outcome.{Gives}
use Rattle.kernel_rules.specs.TermReading.{form_shown, spine_shown, arguments_for}
use Rattle.kernel_rules.specs.TreeReading.{FamilyAt, family_with, family_by, family_shown, record_with, record_by, record_shown}
use Rattle.kernel_rules.proofs.Outcome.{one_gives}
use Rattle.kernel_rules.proofs.Sound.{arguments-are}

-- each item, by its place
pub all_at : {X : Type 0} (P : X → Type 0) (xs : List X) → ((i : ℕ) (x : X) → slice_get xs i ≡ Some x → P x) → AllByRecursion P xs
all_at P [] h = tt
all_at P (x ∷ xs) h = (h 0 x refl, all_at P xs (λ i y e. h (suc i) y e))

pub each-take : {X : Type 0} (P : X → Type 0) (n : ℕ) (xs : List X) → AllByRecursion P xs → AllByRecursion P (take n xs)
each-take P zero xs h = tt
each-take P (suc n) [] h = tt
each-take P (suc n) (x ∷ xs) h = (h.0, each-take P n xs h.1)

each-drop : {X : Type 0} (P : X → Type 0) (n : ℕ) (xs : List X) → AllByRecursion P xs → AllByRecursion P (drop n xs)
each-drop P zero xs h = h
each-drop P (suc n) [] h = tt
each-drop P (suc n) (x ∷ xs) h = each-drop P n xs h.1

module _ (g : Signature Term) where
  abbrev pub In : ℕ → Term → Type 0
  In n t = InScope g any_meta n t

  abbrev pub ElimIn : ℕ → Elim → Type 0
  ElimIn n e = ElimInScope g any_meta n e

  nothing_solved : SolutionsInScope g any_meta no_solutions
  nothing_solved m n t h e = absurd cc

  -- the terms of arguments
  terms-in : (n : ℕ) (es : Telescope Term) (us : List Term) → length us ≡ length es → AllByRecursion (ElimIn n) (args es us) → AllByRecursion (In n) us
  terms-in n [] [] e h = tt
  terms-in n [] (u ∷ us) e h = absurd (omega (arith, e))
  terms-in n (x ∷ es) [] e h = tt
  terms-in n (x ∷ es) (u ∷ us) e h = (h.0, terms-in n es us (omega (arith, e)) h.1)

  arguments-in : (n : ℕ) (es : Telescope Term) (ds : List Elim) (us : List Term) → arguments_for es ds ≡ Some us → AllByRecursion (ElimIn n) ds
      → AllByRecursion (In n) us
  arguments-in n es ds us e h = let fit = arguments-are es ds us (sym e) in terms-in n es us fit.as_many (transport (AllByRecursion (ElimIn n)) fit.is h)

  -- a family's parameters and indices
  abbrev pub PartsIn : ℕ → FamilyAt → Type 0
  PartsIn n f = AllByRecursion (In n) f.params × AllByRecursion (In n) f.indices

  family-with-in : (n d : ℕ) (decl : FamDecl Term) (es : List Elim) (o : Option (List Term)) (f : FamilyAt) → arguments_for (decl.params ++ decl.indices) es ≡ o
      → Gives f ≡ family_with d decl o → AllByRecursion (ElimIn n) es → PartsIn n f
  family-with-in n d decl es None f e h k = absurd cc
  family-with-in n d decl es (Some us) f e h k =
      let a = arguments-in n (decl.params ++ decl.indices) es us e k in
      transport (PartsIn n) (sym (one_gives h)) (each-take (In n) (length decl.params) us a, each-drop (In n) (length decl.params) us a)

  family-by-in : (n d : ℕ) (es : List Elim) (o : Option (FamDecl Term)) (f : FamilyAt) → Gives f ≡ family_by d es o → AllByRecursion (ElimIn n) es → PartsIn n f
  family-by-in n d es None f h k = absurd cc
  family-by-in n d es (Some decl) f h k = family-with-in n d decl es (arguments_for (decl.params ++ decl.indices) es) f refl h k

  pub family-in : (n : ℕ) (h : Term) (es : List Elim) (f : FamilyAt) → Gives f ≡ family_shown g h es → AllByRecursion (ElimIn n) es → PartsIn n f
  family-in n (Fam d) es f e k = family-by-in n d es (fam_decl g d) f e k
  family-in n (Pi c x a t) es f e k = absurd cc
  family-in n (Var i) es f e k = absurd cc
  family-in n (Sort m) es f e k = absurd cc
  family-in n (Lam c x a t) es f e k = absurd cc
  family-in n (App c t u) es f e k = absurd cc
  family-in n (Def i) es f e k = absurd cc
  family-in n (Con i ps) es f e k = absurd cc
  family-in n (Proj i t) es f e k = absurd cc
  family-in n (Meta m ts) es f e k = absurd cc

  -- a record's parameters
  record-with-in : (n d : ℕ) (decl : FamDecl Term) (es : List Elim) (o : Option (List Term)) (f : FamilyAt) → arguments_for decl.params es ≡ o
      → Gives f ≡ record_with d decl o → AllByRecursion (ElimIn n) es → AllByRecursion (In n) f.params
  record-with-in n d decl es None f e h k = absurd cc
  record-with-in n d decl es (Some us) f e h k = transport (λ (f : FamilyAt). AllByRecursion (In n) f.params) (sym (one_gives h))
      (arguments-in n decl.params es us e k)

  record-by-in : (n d : ℕ) (es : List Elim) (o : Option (FamDecl Term)) (f : FamilyAt) → Gives f ≡ record_by d es o → AllByRecursion (ElimIn n) es
      → AllByRecursion (In n) f.params
  record-by-in n d es None f h k = absurd cc
  record-by-in n d es (Some decl) f h k = record-with-in n d decl es (arguments_for decl.params es) f refl h k

  pub record-in : (n : ℕ) (h : Term) (es : List Elim) (f : FamilyAt) → Gives f ≡ record_shown g h es → AllByRecursion (ElimIn n) es
      → AllByRecursion (In n) f.params
  record-in n (Fam d) es f e k = record-by-in n d es (fam_decl g d) f e k
  record-in n (Pi c x a t) es f e k = absurd cc
  record-in n (Var i) es f e k = absurd cc
  record-in n (Sort m) es f e k = absurd cc
  record-in n (Lam c x a t) es f e k = absurd cc
  record-in n (App c t u) es f e k = absurd cc
  record-in n (Def i) es f e k = absurd cc
  record-in n (Con i ps) es f e k = absurd cc
  record-in n (Proj i t) es f e k = absurd cc
  record-in n (Meta m ts) es f e k = absurd cc

  -- the type of a variable, in the entries outside it
  pub entry-in : (c : Context Term) (k : ℕ) (e : Entry Term) → ContextInScope g any_meta c → slice_get c k ≡ Some e → In (length c - (k + 1)) e.ty
  entry-in [] k e h s = absurd cc
  entry-in (x ∷ c) zero e h s = let n : length c ≡ length (x ∷ c) - (0 + 1) =
      omega arith in transport (λ n. In n e.ty) n (transport (λ (e : Entry Term). In (length c) e.ty) (one_some s) h.0)
  entry-in (x ∷ c) (suc k) e h s = let n : length c - (k + 1) ≡ length (x ∷ c) - (suc k + 1) =
      omega arith in transport (λ n. In n e.ty) n (entry-in c k e h.1 s)

  -- the constructors of a family are at so many parameters
  pub cons-at : (d : ℕ) (decl : FamDecl Term) (n : ℕ) → fam_decl g d ≡ Some decl → n ≡ length decl.params
      → AllByRecursion (λ k. con_params g k ≡ Some n) (cons_of g d)
  cons-at d decl n e l = all_at (λ k. con_params g k ≡ Some n) (cons_of g d) (λ i k s. let p = con_place_of g d i k s in rw (p, e, l) refl)

  module _ (sig : SignatureInScope g any_meta) where
    pub form-in : (n : ℕ) (a : Term) (b : Bounded) (t : Term) (fuel : ℕ) → HeadOf g no_solutions a fuel b → Gives t ≡ form_shown b → In n a → In n t
    form-in n a (Within (Form h es) m) t fuel d e s =
        let p = heads-in_scope g any_meta n no_solutions sig nothing_solved d.0 s tt in
        transport (In n) (sym (one_gives e)) (elims-in_scope g any_meta n h es p.0 p.1)
    form-in n a (Within (Blocked m h es) i) t fuel d e s = absurd cc
    form-in n a Out t fuel d e s = absurd cc

    pub spine-in : (n : ℕ) (a : Term) (b : Bounded) (p : Term × List Elim) (fuel : ℕ) → HeadOf g no_solutions a fuel b → Gives p ≡ spine_shown b → In n a
        → AllByRecursion (ElimIn n) p.1
    spine-in n a (Within (Form h es) m) p fuel d e s =
        let q = heads-in_scope g any_meta n no_solutions sig nothing_solved d.0 s tt in
        transport (λ (p : Term × List Elim). AllByRecursion (ElimIn n) p.1) (sym (one_gives e)) q.1
    spine-in n a (Within (Blocked m h es) i) p fuel d e s = absurd cc
    spine-in n a Out p fuel d e s = absurd cc

    pub decls-in : (d : ℕ) (decl : FamDecl Term) (n : ℕ) → fam_decl g d ≡ Some decl → n ≡ length decl.params
        → AllByRecursion (ConInScope g any_meta n) decl.cons
    decls-in d decl n e l = all_at (ConInScope g any_meta n) decl.cons
        (λ i con s. transport (λ n. ConInScope g any_meta n con) (sym l) (constructor-in_scope g any_meta sig d decl i con e s))
