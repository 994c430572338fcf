-- The statements of the laws of typed trees.
use Rattle.std.specs.Prelude.{◌≡◌, ℕ, List, [], ◌∷◌, ◌++◌, length, take, slice_get, Some}
use Rattle.core_rules.specs.Term.{Term, Def, HasNoMeta}
use Rattle.core_rules.specs.Substitution.{replace}
use Rattle.core_rules.specs.Signature.{Context, CoreClause, Tree, Decl, Open, Function, Signature, defs}
use Rattle.core_rules.specs.Mapped.{signature_map, AllDecl}
use Rattle.core_rules.specs.Elimination.{Elim, elims}
use Rattle.core_rules.specs.Conversion.{Conv}
use Rattle.core_rules.specs.InScope.{InScope, SignatureInScope, TreeInScope, any_meta}
use Rattle.core_rules.specs.Heads.{Solutions, Answer, Heads}
use Rattle.core_rules.specs.Bounded.{Yes, ConvOf}
use Rattle.core_rules.specs.BoundedLaws.{IsFull, IsRegular, HasRegularTrees, no_solutions, shown}
use Rattle.core_rules.specs.TypedTree.{TypedTree}
use Rattle.core_rules.specs.Derivable.{Derivable}

-- the tree of each function is typed where the declarations before the function are known, and the function without clauses and tree
abbrev pub HasTypedTrees : Signature Term → Type 0
HasTypedTrees g = (i x : ℕ) (a : Term) (qs : List (CoreClause Term)) (T : Tree Term) → slice_get g i ≡ Some (Function x a qs T) → TypedTree (take i g ++ Open x a ∷ []) [] T a (Def (length (defs (take i g))))

abbrev pub TypedTreeInScope : Type 0
TypedTreeInScope = (g : Signature Term) (c : Context Term) (T : Tree Term) (a l : Term) → TypedTree g c T a l → TreeInScope g any_meta (length c) T

abbrev pub TypedTreeRegular : Type 0
TypedTreeRegular = (g : Signature Term) (c : Context Term) (T : Tree Term) (a l : Term) → TypedTree g c T a l → IsRegular g T

abbrev pub TypedTreesRegular : Type 0
TypedTreesRegular = (g : Signature Term) → HasTypedTrees g → HasRegularTrees g

abbrev pub TypedHeadFormConverts : Type 0
TypedHeadFormConverts = (g : Signature Term) (s f : Solutions) (t : Term) (es : List Elim) (w : Answer) (n : ℕ) → IsFull s f → SignatureInScope g any_meta → HasTypedTrees g → Heads g s t es w n
    → Conv (signature_map (replace f) g) (replace f (elims t es)) (replace f (shown w))

abbrev pub TypedYesConverts : Type 0
TypedYesConverts = (g : Signature Term) (s f : Solutions) (fuel depth : ℕ) (t u : Term) → IsFull s f → SignatureInScope g any_meta → HasTypedTrees g → ConvOf g s fuel depth t u Yes
    → Conv (signature_map (replace f) g) (replace f t) (replace f u)

-- in scope, with typed trees, and without metavariables: a derivable signature, and one with a function that is known without its tree
pub record IsSound (g : Signature Term) : Type 0 where
  pub scope : SignatureInScope g any_meta
  pub typed : HasTypedTrees g
  pub no_meta : (i : ℕ) (d : Decl Term) → slice_get g i ≡ Some d → AllDecl HasNoMeta d

abbrev pub DerivableIsSound : Type 0
DerivableIsSound = (g : Signature Term) → Derivable g → IsSound g

abbrev pub OpenedIsSound : Type 0
OpenedIsSound = (g : Signature Term) (x : ℕ) (a : Term) → IsSound g → InScope g any_meta 0 a → HasNoMeta a → IsSound (g ++ Open x a ∷ [])

abbrev pub SoundIsRegular : Type 0
SoundIsRegular = (g : Signature Term) → IsSound g → HasRegularTrees g

abbrev pub SoundHeadFormConverts : Type 0
SoundHeadFormConverts = (g : Signature Term) (s f : Solutions) (t : Term) (es : List Elim) (w : Answer) (n : ℕ) → IsSound g → IsFull s f → Heads g s t es w n → Conv g (replace f (elims t es)) (replace f (shown w))

abbrev pub SoundYesConverts : Type 0
SoundYesConverts = (g : Signature Term) (s f : Solutions) (fuel depth : ℕ) (t u : Term) → IsSound g → IsFull s f → ConvOf g s fuel depth t u Yes → Conv g (replace f t) (replace f u)

-- without solutions
abbrev pub DerivableHeadFormConverts : Type 0
DerivableHeadFormConverts = (g : Signature Term) (t : Term) (es : List Elim) (w : Answer) (n : ℕ) → Derivable g → Heads g no_solutions t es w n → Conv g (elims t es) (shown w)

abbrev pub DerivableYesConverts : Type 0
DerivableYesConverts = (g : Signature Term) (fuel depth : ℕ) (t u : Term) → Derivable g → ConvOf g no_solutions fuel depth t u Yes → Conv g t u
