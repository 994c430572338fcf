-- Worked rows: a small signature, and what its terms are in print.
use Rattle.std.specs.Prelude.{◌≡◌, ℕ, Bool, true, false, List, [], ◌∷◌, ◌++◌, codes, Option, Some, None}
use Rattle.core_rules.specs.declared.Flag.TheVariants.{Explicit, Implicit}
use Rattle.core_rules.specs.Term.{Term, Var, Sort, Pi, Lam, App, Def, Fam, Con, Proj, Meta, End, And}
use Rattle.core_rules.specs.Signature.{Entry, ConDecl, FamDecl, Postulate, Family, Origin, Written, Variable, Underscore, Inserted, Without, Plain, Named, CorePat, CorePats, Pat, VarPat, SolvedPat, DottedPat, ConPat, AbsurdPat, ProjectionPat, NoPat, AndPat, Solved, CheckedLeft}
use Rattle.core_rules.specs.Examples.{doubled}
use Rattle.core_print.specs.Apart.{Text, is_among, different}
use Rattle.core_print.specs.Names.{World, context_names}
use Rattle.core_print.specs.Printed.{arrow, lambda, shown, term_text}
use Rattle.core_print.specs.ContextText.{context_text}
use Rattle.core_print.specs.LeftSide.{left_text}

-- names 0 to 9; name 10 has no text
abbrev texts : List Text
texts =
    codes "Nat" ∷ codes "zero" ∷ codes "suc" ∷ codes "x" ∷ codes "f" ∷ codes "Pair" ∷ codes "fst" ∷ codes "A" ∷ codes "n" ∷ codes "_" ∷ [] ∷ []

abbrev one : ℕ → Entry ℕ
one x = record { name = x; flag = Explicit; ty = 0 }

abbrev con : Option ℕ → List (Entry ℕ) → ConDecl ℕ
con x es = record { name = x; args = es; indices = [] }

abbrev family : ℕ → List (Entry ℕ) → Bool → List (ConDecl ℕ) → List (Entry ℕ) → FamDecl ℕ
family x ps r cs fs = record { name = x; params = ps; indices = []; level = 0; is_record = r; cons = cs; fields = fs; eta = r; coinductive = false }

-- data Nat with zero and suc; record Pair (A : Set) with the field fst and a constructor without a name; f. Metavariable 5 is goal 1
abbrev pub world : World
world = record {
  names = texts;
  signature = Family (family 0 [] false (con (Some 1) [] ∷ con (Some 2) (one 10 ∷ []) ∷ []) []) ∷ Family (family 5 (one 7 ∷ []) true (con None (one 6 ∷ []) ∷ []) (one 6 ∷ [])) ∷ Postulate 4 0 ∷ [];
  holes = None ∷ Some 5 ∷ [];
}

abbrev nat : Term
nat = Fam 0

abbrev zero : Term
zero = Con 0 End

abbrev f : Term
f = Def 0

abbrev arr : Term → Term → Term
arr a b = Pi Explicit 10 a b

abbrev app : Term → Term → Term
app t u = App Explicit t u

-- `Nat → Nat`, `Nat → Nat → Nat`, `(Nat → Nat) → Nat`, `(x : Set) → x`, `((x : Set) → x) → Nat`, `{A : Set} → A`, `{A : Nat → Nat} → Nat`
abbrev pub Arrows : Type 0
Arrows =
    (shown world [] (arr nat nat) ≡ codes "Nat" ++ (arrow ++ codes "Nat"))
    × (shown world [] (arr nat (arr nat nat)) ≡ codes "Nat" ++ (arrow ++ (codes "Nat" ++ (arrow ++ codes "Nat"))))
    × (shown world [] (arr (arr nat nat) nat) ≡ codes "(Nat" ++ (arrow ++ (codes "Nat)" ++ (arrow ++ codes "Nat"))))
    × (shown world [] (arr (Sort 0) (Var 0)) ≡ codes "(x : Set)" ++ (arrow ++ codes "x"))
    × (shown world [] (arr (arr (Sort 0) (Var 0)) nat) ≡ codes "((x : Set)" ++ (arrow ++ (codes "x)" ++ (arrow ++ codes "Nat"))))
    × (shown world [] (Pi Implicit 7 (Sort 0) (Var 0)) ≡ codes "{A : Set}" ++ (arrow ++ codes "A"))
    × (shown world [] (Pi Implicit 7 (arr nat nat) nat) ≡ codes "{A : Nat" ++ (arrow ++ (codes "Nat}" ++ (arrow ++ codes "Nat"))))

-- `Set1`
abbrev pub HigherSort : Type 0
HigherSort = shown world [] (Sort 1) ≡ codes "Set1"

-- `f (λ n → n)`, `(λ n → n) zero`, `(λ {n} → f n) zero`, `f (Nat → Nat)`, `f (f zero)`, `f zero zero`
abbrev pub Applications : Type 0
Applications =
    (shown world [] (app f (Lam Explicit 8 nat (Var 0))) ≡ codes "f (" ++ (lambda ++ (codes "n" ++ (arrow ++ codes "n)"))))
    × (shown world [] (app (Lam Explicit 8 nat (Var 0)) zero) ≡ codes "(" ++ (lambda ++ (codes "n" ++ (arrow ++ codes "n) zero"))))
    × (shown world [] (app (Lam Implicit 8 nat (app f (Var 0))) zero) ≡ codes "(" ++ (lambda ++ (codes "{n}" ++ (arrow ++ codes "f n) zero"))))
    × (shown world [] (app f (arr nat nat)) ≡ codes "f (Nat" ++ (arrow ++ codes "Nat)"))
    × (shown world [] (app f (app f zero)) ≡ codes "f (f zero)")
    × (shown world [] (app (app f zero) zero) ≡ codes "f zero zero")

-- an implicit argument is left out, and decides no parentheses: `f f`, `f zero`, `f (λ {n} → n)`; parameters are left out: `record zero`
abbrev pub LeftOut : Type 0
LeftOut =
    (shown world [] (app f (App Implicit f nat)) ≡ codes "f f")
    × (shown world [] (app (App Implicit f nat) zero) ≡ codes "f zero")
    × (shown world [] (app f (App Implicit (Lam Implicit 8 nat (Var 0)) nat)) ≡ codes "f (" ++ (lambda ++ (codes "{n}" ++ (arrow ++ codes "n)"))))
    × (shown world [] (app (Con 2 (And nat End)) zero) ≡ codes "record zero")

-- `f zero .fst`, `f zero .fst .fst`, `f (zero .fst)`, `zero .fst zero`, `(λ n → n) .fst`
abbrev pub Projections : Type 0
Projections =
    (shown world [] (Proj 0 (app f zero)) ≡ codes "f zero .fst")
    × (shown world [] (Proj 0 (Proj 0 (app f zero))) ≡ codes "f zero .fst .fst")
    × (shown world [] (app f (Proj 0 zero)) ≡ codes "f (zero .fst)")
    × (shown world [] (app (Proj 0 zero) zero) ≡ codes "zero .fst zero")
    × (shown world [] (Proj 0 (Lam Explicit 8 nat (Var 0))) ≡ codes "(" ++ (lambda ++ (codes "n" ++ (arrow ++ codes "n) .fst"))))

-- a binder differs from a global, `λ zero' → zero'`, also from a field that is not opened, `λ fst' → fst'`; from the binders around it, `λ x → λ x' → x`,
-- also where these are not printed, `Nat → (x' : Set) → x'`; and from the context, where `_` and no name are `x`: `λ x' → x`, `λ x'' → x''`
abbrev pub Different : Type 0
Different =
    (shown world [] (Lam Explicit 1 nat (Var 0)) ≡ lambda ++ (codes "zero'" ++ (arrow ++ codes "zero'")))
    × (shown world [] (Lam Explicit 6 nat (Var 0)) ≡ lambda ++ (codes "fst'" ++ (arrow ++ codes "fst'")))
    × (shown world [] (Lam Explicit 3 nat (Lam Explicit 3 nat (Var 1))) ≡ lambda ++ (codes "x" ++ (arrow ++ (lambda ++ (codes "x'" ++ (arrow ++ codes "x"))))))
    × (shown world [] (arr nat (arr (Sort 0) (Var 0))) ≡ codes "Nat" ++ (arrow ++ (codes "(x' : Set)" ++ (arrow ++ codes "x'"))))
    × (shown world (codes "x" ∷ []) (Lam Explicit 9 nat (Var 1)) ≡ lambda ++ (codes "x'" ++ (arrow ++ codes "x")))
    × (shown world (codes "x" ∷ codes "x'" ∷ []) (Lam Explicit 10 nat (Var 0)) ≡ lambda ++ (codes "x''" ++ (arrow ++ codes "x''")))

-- a hole is `?1`, any other metavariable `_`, without arguments; a variable that stands only in these occurs: `(x : Nat) → _`
abbrev pub Metavariables : Type 0
Metavariables =
    (shown world [] (app (Meta 5 (And zero End)) zero) ≡ codes "?1 zero")
    × (shown world [] (Meta 6 End) ≡ codes "_")
    × (shown world [] (arr nat (Meta 6 (And (Var 0) End))) ≡ codes "(x : Nat)" ++ (arrow ++ codes "_"))

-- in a context the innermost entry chooses first, and an entry differs from those inside it, not from globals: n, n, zero, _ are n', n, zero, x
abbrev pub Contexts : Type 0
Contexts = context_names world (one 8 ∷ one 8 ∷ one 1 ∷ one 9 ∷ []) ≡ codes "x" ∷ codes "zero" ∷ codes "n" ∷ codes "n'" ∷ []

-- a term that doubles sixty times is cut short
abbrev pub CutShort : Type 0
CutShort = term_text world (codes "x" ∷ []) (doubled 60) ≡ codes "..."

-- a name that is made different is none of those that are taken
abbrev pub DifferentIsNotAmong : Type 0
DifferentIsNotAmong = (taken : List Text) (x : Text) → is_among (different taken x) taken ≡ false

-- and a name that is not taken stays
abbrev pub FreeNameStays : Type 0
FreeNameStays = (taken : List Text) (x : Text) → is_among x taken ≡ false → different taken x ≡ x

-- ---- left sides and contexts

abbrev entry : ℕ → Entry Term
entry x = record { name = x; flag = Explicit; ty = nat }

abbrev left : List (Entry Term) → List (Solved Term) → CorePats Term → CheckedLeft Term
left es ss ps = record { context = es; pats = ps; ty = nat; named = ss; dots = []; inserted = 0 }

abbrev var : ℕ → Origin → CorePat Term
var i o = Pat (VarPat i) o Without

abbrev suc_pat : CorePat Term → CorePats Term
suc_pat p = AndPat p NoPat

-- `f zero`; new names, `f (suc x) x'`; a new name beside one that the clause has, `f x' x`; braces, `f {(suc n)} {A = n}`; an inserted pattern is left
-- out, a variable without a written pattern is `_` in values, `f _ .(n) .(suc _) n .fst ()`
abbrev pub LeftSides : Type 0
LeftSides =
    (left_text world 4 (left [] [] (AndPat (Pat (ConPat 0 NoPat) Written Without) NoPat)) ≡ codes "f zero")
    × (left_text world 4 (left (entry 10 ∷ entry 10 ∷ []) [] (AndPat (Pat (ConPat 1 (suc_pat (var 1 (Variable 10 true)))) Written Without) (AndPat (var 0 (Variable 10 true)) NoPat))) ≡ codes "f (suc x) x'")
    × (left_text world 4 (left (entry 3 ∷ entry 3 ∷ []) [] (AndPat (var 1 (Variable 3 true)) (AndPat (var 0 (Variable 3 false)) NoPat))) ≡ codes "f x' x")
    × (left_text world 4 (left (entry 8 ∷ entry 8 ∷ []) [] (AndPat (Pat (ConPat 1 (suc_pat (var 1 (Variable 8 false)))) Written Plain) (AndPat (Pat (VarPat 0) (Variable 8 false) (Named 7)) NoPat)))
    ≡ codes "f {(suc n)} {A = n}")
    × (left_text world 4 (left (entry 7 ∷ entry 3 ∷ entry 8 ∷ []) [] (AndPat (var 2 Inserted) (AndPat (var 1 Underscore) (AndPat (Pat (DottedPat (Var 0)) Written Without)
    (AndPat (Pat (SolvedPat (app (Con 1 End) (Var 1))) (Variable 3 false) Without) (AndPat (var 0 (Variable 8 false)) (AndPat (Pat (ProjectionPat 0) Written Without) (AndPat (Pat AbsurdPat Written Without) NoPat))))))))
    ≡ codes "f _ .(n) .(suc _) n .fst ()")

-- the clause writes n and an underscore, and two binders x and n stand round the goal: the outer n is shadowed, and the underscore's entry
-- has the binder's name. A solved name is printed as it is written; its value stands under the entries of the left side. An entry
-- that the machine inserted has no name
abbrev pub ContextLines : Type 0
ContextLines =
    (context_text world (left (entry 8 ∷ entry 7 ∷ []) (record { name = 3; value = zero; ty = nat } ∷ []) (AndPat (var 1 (Variable 8 false)) (AndPat (var 0 Underscore) NoPat)))
    (entry 8 ∷ entry 7 ∷ entry 3 ∷ entry 8 ∷ [])
    ≡ codes "n' : Nat (not in scope)\n" ++ (codes "A : Nat (not in scope)\n" ++ (codes "x : Nat\n" ++ (codes "n : Nat\n" ++ codes "x = zero : Nat\n"))))
    × (context_text world (left (entry 8 ∷ []) (record { name = 3; value = Var 0; ty = nat } ∷ []) (AndPat (var 0 (Variable 8 false)) NoPat)) (entry 8 ∷ entry 8 ∷ [])
    ≡ codes "n' : Nat (not in scope)\n" ++ (codes "n : Nat\n" ++ codes "x = n' : Nat\n"))
    × (context_text world (left [] [] NoPat) (entry 10 ∷ entry 7 ∷ []) ≡ codes "x : Nat (not in scope)\n" ++ codes "A : Nat\n")
