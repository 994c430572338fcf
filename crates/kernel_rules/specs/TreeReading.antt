-- The kernel's reading of a case tree, where U has the answers of the index unifier.
use Rattle.std.specs.Prelude.{◌≡◌, ℕ, Bool, true, false, cond, eqb, List, [], ◌∷◌, ◌++◌, length, take, drop, reverse, slice_get, Option, Some, None}
use Rattle.core_rules.specs.Term.{Term, Var, Pi, App, Fam, Proj, IsSameTerm}
use Rattle.core_rules.specs.declared.Flag.{Flag}
use Rattle.core_rules.specs.Substitution.{shift, under}
use Rattle.core_rules.specs.Signature.{Entry, Telescope, Context, onto, Branch, Tree, Leaf, Intro, Cosplit, Split, RecordSplit, Absurd, CoBranches, NoField, OnField, ConBranches, NoCon, Refuted, Goes, ConDecl, FamDecl, Signature, fam_decl, cons_of, fields_of}
use Rattle.core_rules.specs.Elimination.{Elim}
use Rattle.core_rules.specs.Typing.{entry}
use Rattle.core_rules.specs.Unification.{Equation}
use Rattle.core_rules.specs.NameLaws.{AreSameTerms}
use Rattle.core_rules.specs.TypedTree.{Splitting, con_context, with_con, index_equations}
use Rattle.kernel_rules.specs.Outcome.{Outcome, Gives, Refuses, Then}
use Rattle.kernel_rules.specs.TermReading.{arguments_for, ShowsForm, ShowsSpine, CheckOf}
use Rattle.kernel_rules.specs.Refusals as K
use Rattle.kernel_rules.specs.Refusals.{DeclRefusal, OfKernel, BadTree, AfterTerms, IsAccepted, IsBadTree, Demands}
use Rattle.kernel_rules.specs.FamilyReading.{LevelsOf}
use Rattle.core_rules.specs.UnifierAnswers.{Unified, UnifiedBy, NeverUnified, StuckAt, NoFuel, NoDepth, Unifier}

-- ---- what a head form shows to a node of a tree. Where it does not show what the node needs, no rule has the node

-- a function type by its parts
pub record PiAt : Type 0 where
  pub flag : Flag
  pub name : ℕ
  pub dom : Term
  pub cod : Term

abbrev pub pi_shown : Term → Outcome DeclRefusal PiAt
pi_shown (Pi b x s t) = Gives (record { flag = b; name = x; dom = s; cod = t })
pi_shown t = Refuses BadTree

-- a family at parameters and indices
pub record FamilyAt : Type 0 where
  pub fam : ℕ
  pub decl : FamDecl Term
  pub params : List Term
  pub indices : List Term

abbrev pub family_with : ℕ → FamDecl Term → Option (List Term) → Outcome DeclRefusal FamilyAt
family_with d decl None = Refuses BadTree
family_with d decl (Some us) = Gives (record { fam = d; decl = decl; params = take (length decl.params) us; indices = drop (length decl.params) us })

abbrev pub family_by : ℕ → List Elim → Option (FamDecl Term) → Outcome DeclRefusal FamilyAt
family_by d es None = Refuses BadTree
family_by d es (Some decl) = family_with d decl (arguments_for (decl.params ++ decl.indices) es)

abbrev pub family_shown : Signature Term → Term → List Elim → Outcome DeclRefusal FamilyAt
family_shown g (Fam d) es = family_by d es (fam_decl g d)
family_shown g h es = Refuses BadTree

-- a record at its parameters; it has no indices
abbrev pub record_with : ℕ → FamDecl Term → Option (List Term) → Outcome DeclRefusal FamilyAt
record_with d decl None = Refuses BadTree
record_with d decl (Some us) = Gives (record { fam = d; decl = decl; params = us; indices = [] })

abbrev pub record_by : ℕ → List Elim → Option (FamDecl Term) → Outcome DeclRefusal FamilyAt
record_by d es None = Refuses BadTree
record_by d es (Some decl) = record_with d decl (arguments_for decl.params es)

abbrev pub record_shown : Signature Term → Term → List Elim → Outcome DeclRefusal FamilyAt
record_shown g (Fam d) es = record_by d es (fam_decl g d)
record_shown g h es = Refuses BadTree

abbrev pub entry_shown : Option (Entry Term) → Outcome DeclRefusal (Entry Term)
entry_shown None = Refuses BadTree
entry_shown (Some e) = Gives e

-- a data type, or a record without eta that is not coinductive
abbrev pub can_split : FamDecl Term → Bool
can_split d = cond d.eta false (cond d.coinductive false true)

-- the constructor of a record
abbrev pub first_con : List ℕ → Outcome DeclRefusal ℕ
first_con [] = Refuses BadTree
first_con (k ∷ ks) = Gives k

abbrev pub split_at : Context Term → ℕ → FamilyAt → Term → Term → Splitting
split_at c k f a l = record { context = c; var = k; params = f.params; indices = f.indices; ty = a; left = l }

-- ---- what the unifier's answer says of a branch: one that goes on has to be the unifier's, a refuted one has to be refuted by it

abbrev pub branch_by : Unified → Outcome DeclRefusal (Branch Term)
branch_by (UnifiedBy ss b) = Gives b
branch_by NeverUnified = Refuses BadTree
branch_by (StuckAt t u) = Refuses BadTree
branch_by NoFuel = Refuses (OfKernel K.OutOfFuel)
branch_by NoDepth = Refuses (OfKernel K.OutOfDepth)

abbrev pub refuted_by : Unified → Outcome DeclRefusal (Unit {0})
refuted_by (UnifiedBy ss b) = Refuses BadTree
refuted_by NeverUnified = Gives tt
refuted_by (StuckAt t u) = Refuses BadTree
refuted_by NoFuel = Refuses (OfKernel K.OutOfFuel)
refuted_by NoDepth = Refuses (OfKernel K.OutOfDepth)

-- entry by entry the same types and flags
abbrev pub AreSameEntries : Telescope Term → Telescope Term → Type 0
AreSameEntries [] [] = Unit {0}
AreSameEntries (e ∷ es) (f ∷ fs) = (e.flag ≡ f.flag) × IsSameTerm e.ty f.ty × AreSameEntries es fs
AreSameEntries _ _ = ⊥

-- two branches differ in names at most
pub record IsSameBranch (b b' : Branch Term) : Type 0 where
  pub context : AreSameEntries b.context b'.context
  pub values : AreSameTerms b.values b'.values
  pub keep : b.keep ≡ b'.keep

-- the tree's branch b is the unifier's branch b'
pub data IsItsBranch (b b' : Branch Term) (r : Outcome DeclRefusal (Unit {0})) : Type 0 where
  same : IsSameBranch b b' → IsAccepted r → IsItsBranch b b' r
  other : (IsSameBranch b b' → ⊥) → IsBadTree r → IsItsBranch b b' r

module _ (g : Signature Term) (fuel depth : ℕ) where
  -- the type of variable k is a family at parameters and indices
  abbrev pub ShowsFamily : Context Term → ℕ → Outcome DeclRefusal FamilyAt → Type 0
  ShowsFamily c k = Then (λ q. q ≡ entry_shown (slice_get c k)) (λ e. AfterTerms (ShowsSpine g fuel depth e.ty) (λ p q. q ≡ family_shown g p.0 p.1))

  -- and a family that a node may split
  abbrev pub ShowsSplit : Context Term → ℕ → Outcome DeclRefusal FamilyAt → Type 0
  ShowsSplit c k = Then (ShowsFamily c k) (λ f. Then (Demands (can_split f.decl) BadTree) (λ o q. q ≡ Gives f))

  -- each term is checked in c' at its entry's type under the terms after it. Both lists are innermost first, and are read outermost first
  abbrev pub ValuesOf : Context Term → List Term → Context Term → Outcome DeclRefusal (Unit {0}) → Type 0
  ValuesOf c' [] [] r = IsAccepted r
  ValuesOf c' [] (e ∷ es) r = IsBadTree r
  ValuesOf c' (t ∷ ts) [] r = IsBadTree r
  ValuesOf c' (t ∷ ts) (e ∷ es) r = Then (ValuesOf c' ts es) (λ o. AfterTerms (CheckOf g fuel depth c' t (under ts e.ty)) (λ o. IsAccepted)) r

  module _ (U : Unifier) where
    abbrev pub Unifies : {A : Type 0} → (Unified → Outcome DeclRefusal A) → Context Term → List Equation → Outcome DeclRefusal A → Type 0
    Unifies f c es r = (v : Unified) × U c es v × (r ≡ f v)

    abbrev pub IsRefuted : Splitting → ℕ → ConDecl Term → Outcome DeclRefusal (Unit {0}) → Type 0
    IsRefuted s k con = Unifies refuted_by (con_context s k con.args) (index_equations s con)

    abbrev pub AllRefutedOf : Splitting → List ℕ → List (ConDecl Term) → Outcome DeclRefusal (Unit {0}) → Type 0
    AllRefutedOf s [] [] r = IsAccepted r
    AllRefutedOf s [] (con ∷ cons) r = IsBadTree r
    AllRefutedOf s (k ∷ ks) [] r = IsBadTree r
    AllRefutedOf s (k ∷ ks) (con ∷ cons) r = Then (IsRefuted s k con) (λ o. AllRefutedOf s ks cons) r

    -- the branch is the unifier's; then each entry of its context is a type, and its values have the types of the constructor's context
    abbrev pub BranchOf : Splitting → ℕ → ConDecl Term → Branch Term → Outcome DeclRefusal (Unit {0}) → Type 0
    BranchOf s k con b = Then (Unifies branch_by (con_context s k con.args) (index_equations s con)) (λ b'. Then (IsItsBranch b b')
        (λ o. AfterTerms (LevelsOf g fuel depth [] b.context) (λ ns. ValuesOf (onto b.context []) b.values (con_context s k con.args))))

    abbrev mutual
      -- in context c the tree gives terms of type a, where l is the left side so far. By the six forms of tree
      pub TreeOf : Context Term → Tree Term → Term → Term → Outcome DeclRefusal (Unit {0}) → Type 0
      TreeOf c (Leaf t n) a l r = AfterTerms (CheckOf g fuel depth c t a) (λ o. IsAccepted) r
      TreeOf c (Intro T) a l r = AfterTerms (ShowsForm g fuel depth a) (λ h. Then (λ q. q ≡ pi_shown h) (λ p. TreeOf (entry p.flag p.name p.dom ∷ c) T p.cod (App p.flag (shift l 0 1) (Var 0)))) r
      TreeOf c (Cosplit bs) a l r = AfterTerms (ShowsSpine g fuel depth a) (λ p. Then (λ q. q ≡ record_shown g p.0 p.1)
          (λ f. Then (Demands f.decl.is_record BadTree) (λ o. FieldsOf c l (reverse f.params) (fields_of g f.fam) f.decl.fields bs))) r
      TreeOf c (Split k bs) a l r = Then (ShowsSplit c k) (λ f. BranchesOf (split_at c k f a l) (cons_of g f.fam) f.decl.cons bs) r
      TreeOf c (RecordSplit k d T) a l r = Then (ShowsFamily c k) (λ f. Then (Demands (eqb f.fam d) BadTree) (λ o. Then (Demands f.decl.eta BadTree) (λ o. Then (λ q. q ≡ first_con (cons_of g d))
          (λ n. TreeOf (con_context (split_at c k f a l) n f.decl.fields) T (with_con (split_at c k f a l) n f.decl.fields a) (with_con (split_at c k f a l) n f.decl.fields l))))) r
      TreeOf c (Absurd k) a l r = Then (ShowsSplit c k) (λ f. AllRefutedOf (split_at c k f a l) (cons_of g f.fam) f.decl.cons) r

      -- a branch for each field in order
      pub FieldsOf : Context Term → Term → List Term → List ℕ → Telescope Term → CoBranches Term → Outcome DeclRefusal (Unit {0}) → Type 0
      FieldsOf c l e [] [] NoField r = IsAccepted r
      FieldsOf c l e [] (x ∷ xs) NoField r = IsBadTree r
      FieldsOf c l e (f ∷ fs) xs NoField r = IsBadTree r
      FieldsOf c l e [] xs (OnField n T bs) r = IsBadTree r
      FieldsOf c l e (f ∷ fs) [] (OnField n T bs) r = IsBadTree r
      FieldsOf c l e (f ∷ fs) (x ∷ xs) (OnField n T bs) r = Then (Demands (eqb n f) BadTree) (λ o. Then (TreeOf c T (under e x.ty) (Proj f l)) (λ o. FieldsOf c l (Proj f l ∷ e) fs xs bs)) r

      -- a branch for each constructor in order
      pub BranchesOf : Splitting → List ℕ → List (ConDecl Term) → ConBranches Term → Outcome DeclRefusal (Unit {0}) → Type 0
      BranchesOf s [] [] NoCon r = IsAccepted r
      BranchesOf s [] (con ∷ cons) NoCon r = IsBadTree r
      BranchesOf s (k ∷ ks) cons NoCon r = IsBadTree r
      BranchesOf s [] cons (Refuted n bs) r = IsBadTree r
      BranchesOf s (k ∷ ks) [] (Refuted n bs) r = IsBadTree r
      BranchesOf s (k ∷ ks) (con ∷ cons) (Refuted n bs) r = Then (Demands (eqb n k) BadTree) (λ o. Then (IsRefuted s k con) (λ o. BranchesOf s ks cons bs)) r
      BranchesOf s [] cons (Goes n b T bs) r = IsBadTree r
      BranchesOf s (k ∷ ks) [] (Goes n b T bs) r = IsBadTree r
      BranchesOf s (k ∷ ks) (con ∷ cons) (Goes n b T bs) r = Then (Demands (eqb n k) BadTree) (λ o. Then (BranchOf s k con b)
          (λ o. Then (TreeOf (onto b.context []) T (under b.values (with_con s k con.args s.ty)) (under b.values (with_con s k con.args s.left))) (λ o. BranchesOf s ks cons bs))) r
