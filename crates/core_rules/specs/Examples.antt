-- Small signatures and terms, written out by hand, of which `examples` says what the rules say.
use Rattle.std.specs.Prelude.{◌≡◌, ℕ, ◌-◌, ◌^◌, true, false, List, [], ◌∷◌, Some, zero, suc}
use Rattle.core_rules.specs.declared.Flag.TheVariants.{Explicit, Implicit}
use Rattle.core_rules.specs.Term.{Term, Terms, Var, Sort, Pi, App, Def, Fam, Con, Proj, End, And, size}
use Rattle.core_rules.specs.Signature.{Entry, ConDecl, FamDecl, Postulate, Family, Signature, fam_decl, Context}
use Rattle.core_rules.specs.Conversion.{Conv, IsEtaCon}
use Rattle.core_rules.specs.Typing.{entry, Typing}
use Rattle.core_rules.specs.Derivable.{Derivable}

-- Nat : Set, z : Nat, P : Nat → Set, y : P z, with any names
abbrev pub postulates : ℕ → ℕ → ℕ → ℕ → ℕ → Signature Term
postulates nat z p y n =
    Postulate nat (Sort 0) ∷ Postulate z (Def 0) ∷ Postulate p (Pi Explicit n (Def 0) (Sort 0)) ∷ Postulate y (App Explicit (Def 2) (Def 1)) ∷ []

abbrev pub data_type : ℕ → List (Entry Term) → List (Entry Term) → List (ConDecl Term) → FamDecl Term
data_type x ps is ks = record { name = x; params = ps; indices = is; level = 0; is_record = false; cons = ks; fields = []; eta = false; coinductive = false }

-- data Nat : Set, with zero : Nat and suc : Nat → Nat
abbrev pub zero_con : ConDecl Term
zero_con = record { name = Some 1; args = []; indices = [] }

abbrev pub suc_con : ConDecl Term
suc_con = record { name = Some 2; args = entry Explicit 3 (Fam 0) ∷ []; indices = [] }

abbrev pub nat : FamDecl Term
nat = data_type 0 [] [] (zero_con ∷ suc_con ∷ [])

-- data Vec (A : Set) : Nat → Set, with nil : Vec A zero and cons : {n : Nat} → A → Vec A n → Vec A (suc n)
abbrev pub nil_con : ConDecl Term
nil_con = record { name = Some 5; args = []; indices = Con 0 End ∷ [] }

abbrev pub cons_con : ConDecl Term
cons_con = record {
  name = Some 6;
  args = entry Implicit 7 (Fam 0) ∷ entry Explicit 8 (Var 1) ∷ entry Explicit 9 (App Explicit (App Explicit (Fam 1) (Var 2)) (Var 1)) ∷ [];
  indices = App Explicit (Con 1 End) (Var 2) ∷ [];
}

abbrev pub vec : FamDecl Term
vec = data_type 4 (entry Explicit 10 (Sort 0) ∷ []) (entry Explicit 11 (Fam 0) ∷ []) (nil_con ∷ cons_con ∷ [])

-- record Pair (A B : Set) : Set, with constructor pair, fields fst : A and snd : B, and eta
abbrev pub pair_fields : List (Entry Term)
pair_fields = entry Explicit 12 (Var 1) ∷ entry Explicit 13 (Var 1) ∷ []

abbrev pub pair_con : ConDecl Term
pair_con = record { name = Some 14; args = pair_fields; indices = [] }

abbrev pub pair : FamDecl Term
pair = record { name = 15; params = entry Explicit 10 (Sort 0) ∷ entry Explicit 16 (Sort 0) ∷ []; indices = []; level = 0; is_record = true; cons = pair_con ∷ []; fields = pair_fields; eta = true; coinductive = false }

-- Nat, Vec and Pair
abbrev pub families : Signature Term
families = Family nat ∷ Family vec ∷ Family pair ∷ []

-- variable 0 applied to itself, this to itself, and so on n times. It does not unfold by itself, since it has 2 ^ n leaves
unfoldable pub doubled : ℕ → Term
doubled zero = Var 0
doubled (suc n) = App Explicit (doubled n) (doubled n)

-- the examples

abbrev pub PostulatesDerivable : Type 0
PostulatesDerivable = (nat z p y n : ℕ) → Derivable (postulates nat z p y n)

abbrev pub FamiliesDerivable : Type 0
FamiliesDerivable = Derivable families

-- pair (fst p) (snd p), where pair has id 4 and its fields have ids 0 and 1, at any parameters
abbrev pub PairOfProjections : Type 0
PairOfProjections = (ps : Terms) (p : Term) → Conv families (App Explicit (App Explicit (Con 4 ps) (Proj 0 p)) (Proj 1 p)) p

-- pair a b x y, where pair has the parameters a and b
abbrev pub pair_of : Term → Term → Term → Term → Term
pair_of a b x y = App Explicit (App Explicit (Con 4 (And a (And b End))) x) y

abbrev pub pair_type : Term → Term → Term
pair_type a b = App Explicit (App Explicit (Fam 2) a) b

abbrev pub ProjectionOfPair : Type 0
ProjectionOfPair = (a b x y : Term) → Conv families (Proj 1 (pair_of a b x y)) y

abbrev pub PairTyped : Type 0
PairTyped = (c : Context Term) (a b x y : Term) → Typing families c a (Sort 0) → Typing families c b (Sort 0) → Typing families c x a → Typing families c y b → Typing families c (pair_of a b x y) (pair_type a b)

abbrev pub ProjectionsTyped : Type 0
ProjectionsTyped = (c : Context Term) (a b p : Term) → Typing families c p (pair_type a b) → Typing families c (Proj 0 p) a × Typing families c (Proj 1 p) b

abbrev pub NoEtaWithoutFields : Type 0
NoEtaWithoutFields = (g : Signature Term) (k d : ℕ) (decl : FamDecl Term) → Derivable g → fam_decl g d ≡ Some decl → decl.fields ≡ [] → IsEtaCon g k d → ⊥

abbrev pub DoubledSize : Type 0
DoubledSize = size (doubled 60) ≡ 2 ^ 61 - 1
