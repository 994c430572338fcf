-- Small functions with their case trees, written out by hand, of which `tree_examples` says what the rules say.
use Rattle.std.specs.Prelude.{true, false, ℕ, [], ◌∷◌, Some}
use Rattle.core_rules.specs.declared.Flag.TheVariants.{Explicit, Implicit}
use Rattle.core_rules.specs.Term.{Term, Terms, Var, Sort, Pi, App, Def, Fam, Con, Proj, End, And}
use Rattle.core_rules.specs.Signature.{Context, Branch, Tree, Leaf, Intro, Cosplit, Split, RecordSplit, NoField, OnField, NoCon, Goes, ConDecl, FamDecl, Family, Open, Function, Signature}
use Rattle.core_rules.specs.Elimination.{Arg}
use Rattle.core_rules.specs.Run.{Run}
use Rattle.core_rules.specs.Conversion.{Conv}
use Rattle.core_rules.specs.Typing.{entry}
use Rattle.core_rules.specs.Unification.{CanSolve, whole_types}
use Rattle.core_rules.specs.TypedTree.{TypedTree}
use Rattle.core_rules.specs.Derivable.{Derivable}
use Rattle.core_rules.specs.Heads.{Form, Heads}
use Rattle.core_rules.specs.BoundedLaws.{no_solutions}
use Rattle.core_rules.specs.Examples.{nat, vec, pair, data_type, pair_of, pair_type}
use Rattle.core_rules.specs.Addition.{nat_type, zero_term, suc_term, plus_term, plus_tree, addition}
use Rattle.core_rules.specs.VectorHead.{first_type, first_tree}

-- with plus, by its case tree
abbrev pub AdditionDerivable : Type 0
AdditionDerivable = Derivable addition

-- plus zero u is u, and plus (suc t) u is suc (plus t u)
abbrev pub PlusUnfolds : Type 0
PlusUnfolds = (t u : Term) → Conv addition (plus_term zero_term u) u × Conv addition (plus_term (suc_term t) u) (suc_term (plus_term t u))

-- Vectors: cons {n} x xs, at any parameter
abbrev pub cons_term : Terms → Term → Term → Term → Term
cons_term ps n x xs = App Explicit (App Explicit (App Implicit (Con 3 ps) n) x) xs

abbrev pub nil_term : Terms → Term
nil_term ps = Con 2 ps

abbrev pub vector_of : Term → Term → Term
vector_of a n = App Explicit (App Explicit (Fam 1) a) n

-- Nat, Vec and first : (n : Nat) → Vec Nat (suc n) → Nat
abbrev pub firsts : Signature Term
firsts = Family nat ∷ Family vec ∷ Function 3 first_type [] first_tree ∷ []

abbrev pub FirstDerivable : Type 0
FirstDerivable = Derivable firsts

abbrev pub FirstUnfolds : Type 0
FirstUnfolds = (ps : Terms) (n m x xs : Term) → Conv firsts (App Explicit (App Explicit (Def 0) n) (cons_term ps m x xs)) x

-- append : {A : Set} {m n : Nat} → Vec A m → Vec A n → Vec A (plus m n), where plus is function 0
abbrev pub append_type : Term
append_type = Pi Implicit 0 (Sort 0) (Pi Implicit 0 nat_type (Pi Implicit 0 nat_type (Pi Explicit 0 (vector_of (Var 2) (Var 1)) (Pi Explicit 0 (vector_of (Var 3) (Var 1)) (vector_of (Var 4) (plus_term (Var 3) (Var 2)))))))

abbrev pub append_term : Term → Term → Term → Term → Term → Term
append_term a m n xs ys = App Explicit (App Explicit (App Implicit (App Implicit (App Implicit (Def 1) a) m) n) xs) ys

-- append nil ys: m is zero, and A, n and ys are left
abbrev pub append_nil : Branch Term
append_nil = record {
  context = entry Implicit 0 (Sort 0) ∷ entry Implicit 0 nat_type ∷ entry Explicit 0 (vector_of (Var 1) (Var 0)) ∷ [];
  values = Var 0 ∷ Var 1 ∷ zero_term ∷ Var 2 ∷ [];
  keep = 0 ∷ 1 ∷ 3 ∷ [];
}

-- append (cons {k} x xs) ys: m is suc k, and A, n, k, x, xs and ys are left
abbrev pub append_cons : Branch Term
append_cons = record {
  context = entry Implicit 0 (Sort 0) ∷ entry Implicit 0 nat_type ∷ entry Implicit 7 nat_type ∷ entry Explicit 8 (Var 2) ∷ entry Explicit 9 (vector_of (Var 3) (Var 1)) ∷ entry Explicit 0 (vector_of (Var 4) (Var 3)) ∷ [];
  values = Var 0 ∷ Var 1 ∷ Var 2 ∷ Var 3 ∷ Var 4 ∷ suc_term (Var 3) ∷ Var 5 ∷ [];
  keep = 0 ∷ 1 ∷ 2 ∷ 3 ∷ 4 ∷ 6 ∷ [];
}

abbrev pub append_tree : Tree Term
append_tree = Intro (Intro (Intro (Intro (Intro (Split 1
    (Goes 2 append_nil (Leaf (Var 0) 0)
    (Goes 3 append_cons (Leaf (cons_term (And (Var 5) End) (plus_term (Var 3) (Var 4)) (Var 2) (append_term (Var 5) (Var 3) (Var 4) (Var 1) (Var 0))) 1)
    NoCon)))))))

-- Nat, Vec, plus and append
abbrev pub appending : Signature Term
appending = Family nat ∷ Family vec ∷ Function 3 (Pi Explicit 0 nat_type (Pi Explicit 0 nat_type nat_type)) [] plus_tree ∷ Function 4 append_type [] append_tree ∷ []

abbrev pub AppendDerivable : Type 0
AppendDerivable = Derivable appending

abbrev pub AppendUnfolds : Type 0
AppendUnfolds = (ps : Terms) (a m n k x xs ys : Term) → Conv appending (append_term a m n (nil_term ps) ys) ys
    × Conv appending (append_term a m n (cons_term ps k x xs) ys) (cons_term ps (plus_term k n) x (append_term a k n xs ys))

-- data Fin : Nat → Set, with fzero : {n : Nat} → Fin (suc n) and fsuc : {n : Nat} → Fin n → Fin (suc n), constructors 2 and 3
abbrev pub fin_at : Term → Term
fin_at n = App Explicit (Fam 1) n

abbrev pub fzero_con : ConDecl Term
fzero_con = record { name = Some 5; args = entry Implicit 6 nat_type ∷ []; indices = suc_term (Var 0) ∷ [] }

abbrev pub fsuc_con : ConDecl Term
fsuc_con = record { name = Some 7; args = entry Implicit 6 nat_type ∷ entry Explicit 8 (fin_at (Var 0)) ∷ []; indices = suc_term (Var 1) ∷ [] }

abbrev pub fin : FamDecl Term
fin = data_type 4 [] (entry Explicit 11 nat_type ∷ []) (fzero_con ∷ fsuc_con ∷ [])

abbrev pub fzero_term : Term → Term
fzero_term n = App Implicit (Con 2 End) n

abbrev pub fsuc_term : Term → Term → Term
fsuc_term n i = App Explicit (App Implicit (Con 3 End) n) i

-- again : (n : Nat) → Fin (suc n) → Nat → Fin (suc n), split at its second argument, which stands in the middle of the context
abbrev pub again_type : Term
again_type = Pi Explicit 0 nat_type (Pi Explicit 0 (fin_at (suc_term (Var 0))) (Pi Explicit 0 nat_type (fin_at (suc_term (Var 2)))))

-- fzero {m}, where m is n
abbrev pub again_zero : Branch Term
again_zero = record { context = entry Explicit 0 nat_type ∷ entry Explicit 0 nat_type ∷ []; values = Var 0 ∷ Var 1 ∷ Var 1 ∷ []; keep = 0 ∷ 2 ∷ [] }

-- fsuc {m} i, where m is n: of k, i, m and n the branch keeps k, i and n
abbrev pub again_suc : Branch Term
again_suc = record {
  context = entry Explicit 0 nat_type ∷ entry Explicit 8 (fin_at (Var 0)) ∷ entry Explicit 0 nat_type ∷ [];
  values = Var 0 ∷ Var 1 ∷ Var 2 ∷ Var 2 ∷ [];
  keep = 0 ∷ 1 ∷ 3 ∷ [];
}

abbrev pub again_tree : Tree Term
again_tree = Intro (Intro (Intro (Split 1 (Goes 2 again_zero (Leaf (fzero_term (Var 1)) 0) (Goes 3 again_suc (Leaf (fsuc_term (Var 2) (Var 1)) 1) NoCon)))))

abbrev pub fins : Signature Term
fins = Family nat ∷ Family fin ∷ Function 9 again_type [] again_tree ∷ []

abbrev pub AgainTyped : Type 0
AgainTyped = TypedTree (Family nat ∷ Family fin ∷ Open 9 again_type ∷ []) [] again_tree again_type (Def 0)

abbrev pub again_term : Term → Term → Term → Term
again_term n i k = App Explicit (App Explicit (App Explicit (Def 0) n) i) k

abbrev pub AgainUnfolds : Type 0
AgainUnfolds = (n m i k : Term) → Conv fins (again_term n (fzero_term m) k) (fzero_term n) × Conv fins (again_term n (fsuc_term m i) k) (fsuc_term n i)

-- swap : (A B : Set) → Pair A B → Pair B A, by a record split; Pair has eta
abbrev pub swap_type : Term
swap_type = Pi Explicit 0 (Sort 0) (Pi Explicit 0 (Sort 0) (Pi Explicit 0 (pair_type (Var 1) (Var 0)) (pair_type (Var 1) (Var 2))))

abbrev pub swap_tree : Tree Term
swap_tree = Intro (Intro (Intro (RecordSplit 0 2 (Leaf (pair_of (Var 2) (Var 3) (Var 0) (Var 1)) 0))))

-- the same by a cosplit
abbrev pub turn_tree : Tree Term
turn_tree = Intro (Intro (Intro (Cosplit (OnField 0 (Leaf (Proj 1 (Var 0)) 0) (OnField 1 (Leaf (Proj 0 (Var 0)) 1) NoField)))))

abbrev pub swaps : Signature Term
swaps = Family nat ∷ Family vec ∷ Family pair ∷ Function 17 swap_type [] swap_tree ∷ Function 18 swap_type [] turn_tree ∷ []

abbrev pub SwapsDerivable : Type 0
SwapsDerivable = Derivable swaps

abbrev pub swap_term : ℕ → Term → Term → Term → Term
swap_term f a b p = App Explicit (App Explicit (App Explicit (Def f) a) b) p

-- at a constructor its arguments are taken, and at a variable its projections
abbrev pub SwapUnfolds : Type 0
SwapUnfolds = (a b c d x y : Term) (i : ℕ) → Conv swaps (swap_term 0 a b (pair_of c d x y)) (pair_of b a y x) × Conv swaps (swap_term 0 a b (Var i)) (pair_of b a (Proj 1 (Var i)) (Proj 0 (Var i)))

abbrev pub TurnUnfolds : Type 0
TurnUnfolds = (a b p : Term) → Conv swaps (Proj 0 (swap_term 1 a b p)) (Proj 1 p) × Conv swaps (Proj 1 (swap_term 1 a b p)) (Proj 0 p)

-- three variables: A has a sort, x has A as its type, and y has x as its type. Neither A nor x can be solved by y, since the type of y
-- depends on them, on A through that of x; y can be solved by A, and nothing by a term in which it stands
abbrev pub chain : Context Term
chain = entry Explicit 0 (Var 0) ∷ entry Explicit 0 (Var 0) ∷ entry Explicit 0 (Sort 0) ∷ []

abbrev pub SolvingAsksForTypes : Type 0
SolvingAsksForTypes = (CanSolve (whole_types 0 chain) 2 (Var 0) → ⊥) × (CanSolve (whole_types 0 chain) 1 (Var 0) → ⊥) × CanSolve (whole_types 0 chain) 0 (Var 2) × (CanSolve (whole_types 0 chain) 2 (suc_term (Var 2)) → ⊥)

-- Why regular trees ask for eta. Box is a record with one field, value : Nat, and no eta; g has value suc zero; and h takes a box apart as
-- if it had eta, and then splits the value. By head forms h g unfolds to zero, but its tree gives nothing at g
abbrev pub box : ℕ → FamDecl Term
box x = record {
  name = x;
  params = [];
  indices = [];
  level = 0;
  is_record = true;
  cons = record { name = Some x; args = entry Explicit 1 nat_type ∷ []; indices = [] } ∷ [];
  fields = entry Explicit 1 nat_type ∷ [];
  eta = false;
  coinductive = false;
}

abbrev pub nothing_kept : Branch Term
nothing_kept = record { context = []; values = []; keep = [] }

abbrev pub number_kept : Branch Term
number_kept = record { context = entry Explicit 3 nat_type ∷ []; values = Var 0 ∷ []; keep = 0 ∷ [] }

abbrev pub unboxed_tree : Tree Term
unboxed_tree = Intro (RecordSplit 0 1 (Split 0 (Goes 0 nothing_kept (Leaf zero_term 0) (Goes 1 number_kept (Leaf zero_term 1) NoCon))))

abbrev pub boxes : Signature Term
boxes = Family nat ∷ Family (box 1) ∷ Function 2 (Fam 1) [] (Cosplit (OnField 0 (Leaf (suc_term zero_term) 0) NoField)) ∷ Function 3 (Pi Explicit 0 (Fam 1) nat_type) [] unboxed_tree ∷ []

abbrev pub EtaIsNeeded : Type 0
EtaIsNeeded = Heads boxes no_solutions (App Explicit (Def 1) (Def 0)) [] (Form zero_term []) 2 × ((t : Term) → Run boxes unboxed_tree [] (Arg Explicit (Def 0) ∷ []) t → ⊥)

-- Why they ask that a branch keeps variables apart. Two boxes have eta; g has value zero in both; and h splits a number, keeps its argument
-- twice, takes one copy apart as a first box and the other as a second, and splits both values. By head forms h (suc g) unfolds to zero,
-- but the tree of h gives nothing at any argument: no term is the constructor of both boxes
abbrev pub eta_box : ℕ → FamDecl Term
eta_box x = record (box x) { eta = true }

abbrev pub kept_twice : Branch Term
kept_twice = record { context = entry Explicit 3 nat_type ∷ entry Explicit 3 nat_type ∷ []; values = Var 0 ∷ []; keep = 0 ∷ 0 ∷ [] }

abbrev pub second_opened : Tree Term
second_opened = RecordSplit 0 2 (Split 0 (Goes 0 nothing_kept (Leaf zero_term 0) NoCon))

abbrev pub both_opened : Tree Term
both_opened = RecordSplit 1 1 (Split 1 (Goes 0 number_kept second_opened NoCon))

abbrev pub twice_tree : Tree Term
twice_tree = Intro (Split 0 (Goes 1 kept_twice both_opened NoCon))

abbrev pub twice : Signature Term
twice = Family nat ∷ Family (eta_box 1) ∷ Family (eta_box 2)
    ∷ Function 2 (Fam 1) [] (Cosplit (OnField 0 (Leaf zero_term 0) (OnField 1 (Leaf zero_term 0) NoField))) ∷ Function 3 (Pi Explicit 0 nat_type nat_type) [] twice_tree ∷ []

abbrev pub KeepingApartIsNeeded : Type 0
KeepingApartIsNeeded = Heads twice no_solutions (App Explicit (Def 1) (suc_term (Def 0))) [] (Form zero_term []) 3 × ((u t : Term) → Run twice twice_tree [] (Arg Explicit u ∷ []) t → ⊥)
