-- What a head form shows where a tree needs it, as an equation.
use Rattle.std.specs.Prelude.{◌≡◌, ℕ, Bool, true, false, cond, List, [], ◌∷◌, ◌++◌, length, take, drop, slice_get, Option, Some, None, refl}
use Rattle.std.proofs.Common.{ap, sym, ◌∙◌, arith, subst as transport}
use Rattle.core_rules.specs.Term.{Term, Var, Sort, Pi, Lam, App, Def, Fam, Con, Proj, Meta}
use Rattle.core_rules.specs.Signature.{Entry, Telescope, Context, Signature, FamDecl, fam_decl}
use Rattle.core_rules.specs.Elimination.{Elim, Arg, elims, args}
use Rattle.core_rules.specs.Conversion.{Conv}
use Rattle.core_rules.specs.TypedTree.{IsAt, CanSplit}
use Rattle.kernel_rules.specs.Outcome.{Gives}
use Rattle.kernel_rules.specs.TermReading.{arguments_for}
use Rattle.core_rules.specs.TreeLaws.{IsSound}
use Rattle.kernel_rules.specs.TreeReading.{PiAt, pi_shown, FamilyAt, family_with, family_by, family_shown, record_with, record_by, record_shown, entry_shown, first_con, ShowsFamily, ShowsSplit}
use Rattle.kernel_rules.proofs.Outcome.{one_gives, then-gives}
use Rattle.kernel_rules.proofs.Sound.{arguments-are, spine-converts}
use Rattle.kernel_rules.proofs.Families.{demanded}

pub pi-is : (t : Term) (p : PiAt) → Gives p ≡ pi_shown t → t ≡ Pi p.flag p.name p.dom p.cod
pi-is (Pi b x s t) p e = ap (λ (p : PiAt). Pi p.flag p.name p.dom p.cod) (sym (one_gives e))
pi-is (Var i) p e = absurd cc
pi-is (Sort n) p e = absurd cc
pi-is (Lam c x a t) p e = absurd cc
pi-is (App c t u) p e = absurd cc
pi-is (Def f) p e = absurd cc
pi-is (Fam d) p e = absurd cc
pi-is (Con k ps) p e = absurd cc
pi-is (Proj f t) p e = absurd cc
pi-is (Meta m ts) p e = absurd cc

-- a spine over two telescopes
args-split : (c d : Telescope Term) (us : List Term) → length us ≡ length (c ++ d) → args (c ++ d) us ≡ args c (take (length c) us) ++ args d (drop (length c) us)
args-split [] d us e = refl
args-split (x ∷ c) d [] e = absurd (omega (arith, e))
args-split (x ∷ c) d (u ∷ us) e = ap (λ es. Arg x.flag u ∷ es) (args-split c d us (omega (arith, e)))

lengths-split : (c d : Telescope Term) (us : List Term) → length us ≡ length (c ++ d) → (length (take (length c) us) ≡ length c) × (length (drop (length c) us) ≡ length d)
lengths-split [] d us e = (refl, e)
lengths-split (x ∷ c) d [] e = absurd (omega (arith, e))
lengths-split (x ∷ c) d (u ∷ us) e = let h = lengths-split c d us (omega (arith, e)) in (omega (arith, h.0), h.1)

-- t is the family at the parameters and indices
pub record IsFamily (g : Signature Term) (t : Term) (f : FamilyAt) : Type 0 where
  pub is_decl : fam_decl g f.fam ≡ Some f.decl
  pub as_many : length f.params ≡ length f.decl.params
  pub as_many_indices : length f.indices ≡ length f.decl.indices
  pub is : t ≡ elims (Fam f.fam) (args f.decl.params f.params ++ args f.decl.indices f.indices)

module _ (g : Signature Term) where
  family-with : (d : ℕ) (decl : FamDecl Term) (es : List Elim) (o : Option (List Term)) (f : FamilyAt) → fam_decl g d ≡ Some decl → arguments_for (decl.params ++ decl.indices) es ≡ o → Gives f ≡ family_with d decl o → IsFamily g (elims (Fam d) es) f
  family-with d decl es None f i e h = absurd cc
  family-with d decl es (Some us) f i e h =
      let fit = arguments-are (decl.params ++ decl.indices) es us (sym e) in
      let n = lengths-split decl.params decl.indices us fit.as_many in
      transport (IsFamily g (elims (Fam d) es)) (sym (one_gives h))
      (record { is_decl = i; as_many = n.0; as_many_indices = n.1; is = ap (elims (Fam d)) (fit.is ∙ args-split decl.params decl.indices us fit.as_many) })

  family-by : (d : ℕ) (es : List Elim) (o : Option (FamDecl Term)) (f : FamilyAt) → fam_decl g d ≡ o → Gives f ≡ family_by d es o → IsFamily g (elims (Fam d) es) f
  family-by d es None f e h = absurd cc
  family-by d es (Some decl) f e h = family-with d decl es (arguments_for (decl.params ++ decl.indices) es) f e refl h

  pub family-is : (h : Term) (es : List Elim) (f : FamilyAt) → Gives f ≡ family_shown g h es → IsFamily g (elims h es) f
  family-is (Fam d) es f e = family-by d es (fam_decl g d) f refl e
  family-is (Pi c x a t) es f e = absurd cc
  family-is (Var i) es f e = absurd cc
  family-is (Sort n) es f e = absurd cc
  family-is (Lam c x a t) es f e = absurd cc
  family-is (App c t u) es f e = absurd cc
  family-is (Def k) es f e = absurd cc
  family-is (Con k ps) es f e = absurd cc
  family-is (Proj k t) es f e = absurd cc
  family-is (Meta m ts) es f e = absurd cc

  pub record IsRecord (t : Term) (f : FamilyAt) : Type 0 where
    pub is_decl : fam_decl g f.fam ≡ Some f.decl
    pub as_many : length f.params ≡ length f.decl.params
    pub is : t ≡ elims (Fam f.fam) (args f.decl.params f.params)

  record-with : (d : ℕ) (decl : FamDecl Term) (es : List Elim) (o : Option (List Term)) (f : FamilyAt) → fam_decl g d ≡ Some decl → arguments_for decl.params es ≡ o → Gives f ≡ record_with d decl o → IsRecord (elims (Fam d) es) f
  record-with d decl es None f i e h = absurd cc
  record-with d decl es (Some us) f i e h =
      let fit = arguments-are decl.params es us (sym e) in
      transport (IsRecord (elims (Fam d) es)) (sym (one_gives h)) (record { is_decl = i; as_many = fit.as_many; is = ap (elims (Fam d)) fit.is })

  record-by : (d : ℕ) (es : List Elim) (o : Option (FamDecl Term)) (f : FamilyAt) → fam_decl g d ≡ o → Gives f ≡ record_by d es o → IsRecord (elims (Fam d) es) f
  record-by d es None f e h = absurd cc
  record-by d es (Some decl) f e h = record-with d decl es (arguments_for decl.params es) f e refl h

  pub record-is : (h : Term) (es : List Elim) (f : FamilyAt) → Gives f ≡ record_shown g h es → IsRecord (elims h es) f
  record-is (Fam d) es f e = record-by d es (fam_decl g d) f refl e
  record-is (Pi c x a t) es f e = absurd cc
  record-is (Var i) es f e = absurd cc
  record-is (Sort n) es f e = absurd cc
  record-is (Lam c x a t) es f e = absurd cc
  record-is (App c t u) es f e = absurd cc
  record-is (Def k) es f e = absurd cc
  record-is (Con k ps) es f e = absurd cc
  record-is (Proj k t) es f e = absurd cc
  record-is (Meta m ts) es f e = absurd cc

  -- variable k is of the family
  pub record VarIs (c : Context Term) (k : ℕ) (f : FamilyAt) : Type 0 where
    pub entry : Entry Term
    pub stands : slice_get c k ≡ Some entry
    pub is_decl : fam_decl g f.fam ≡ Some f.decl
    pub as_many : length f.params ≡ length f.decl.params
    pub as_many_indices : length f.indices ≡ length f.decl.indices
    pub is : Conv g entry.ty (elims (Fam f.fam) (args f.decl.params f.params ++ args f.decl.indices f.indices))

  abbrev pub is-at : (c : Context Term) (k d : ℕ) (f : FamilyAt) → f.fam ≡ d → VarIs c k f → IsAt g c k d
  is-at c k d f e v = record {
    entry = v.entry;
    decl = f.decl;
    params = f.params;
    indices = f.indices;
    stands = v.stands;
    is_decl = transport (λ d. fam_decl g d ≡ Some f.decl) e v.is_decl;
    as_many = v.as_many;
    as_many_indices = v.as_many_indices;
    is = transport (λ d. Conv g v.entry.ty (elims (Fam d) (args f.decl.params f.params ++ args f.decl.indices f.indices))) e v.is;
  }

  entry-is : (o : Option (Entry Term)) (e : Entry Term) → Gives e ≡ entry_shown o → o ≡ Some e
  entry-is None e h = absurd cc
  entry-is (Some x) e h = ap Some (sym (one_gives h))

  module _ (fuel depth : ℕ) (k : IsSound g) where
    pub var-is : (c : Context Term) (i : ℕ) (f : FamilyAt) → ShowsFamily g fuel depth c i (Gives f) → VarIs c i f
    var-is c i f h =
        let h1 = then-gives h in
        let h2 = then-gives h1.2 in
        let v = family-is h2.0.0 h2.0.1 f h2.2 in
        record {
          entry = h1.0;
          stands = entry-is (slice_get c i) h1.0 h1.1;
          is_decl = v.is_decl;
          as_many = v.as_many;
          as_many_indices = v.as_many_indices;
          is = transport (Conv g h1.0.ty) v.is (spine-converts g fuel depth k h1.0.ty h2.1.0 h2.0 h2.1.1 h2.1.2);
        }

    splits : (d : FamDecl Term) (e i : Bool) → d.eta ≡ e → d.coinductive ≡ i → cond e false (cond i false true) ≡ true → CanSplit d
    splits d true i x y h = absurd cc
    splits d false true x y h = absurd cc
    splits d false false x y h = record { no_eta = x; inductive = y }

    pub split-is : (c : Context Term) (i : ℕ) (f : FamilyAt) → ShowsSplit g fuel depth c i (Gives f) → VarIs c i f × CanSplit f.decl
    split-is c i f h =
        let h1 = then-gives h in
        let h2 = then-gives h1.2 in
        let same : h1.0 ≡ f = sym (one_gives h2.2) in
        transport (λ f. VarIs c i f × CanSplit f.decl) same (var-is c i h1.0 h1.1, splits h1.0.decl h1.0.decl.eta h1.0.decl.coinductive refl refl (demanded _ _ _ h2.1))

pub first-is : (ks : List ℕ) (n : ℕ) → Gives n ≡ first_con ks → slice_get ks 0 ≡ Some n
first-is [] n e = absurd cc
first-is (k ∷ ks) n e = ap Some (sym (one_gives e))
