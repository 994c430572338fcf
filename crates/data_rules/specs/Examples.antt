-- Declarations read by hand: what they come to with any fuel, and to each depth at which their comparisons are told.
use Rattle.std.specs.Prelude.{ℕ, zero, suc, ◌≤◌, ◌<◌, true, false, List, [], ◌∷◌, Option, Some, None}
use Rattle.core_rules.specs.declared.Flag.TheVariants.{Explicit, Implicit}
use Rattle.core_rules.specs.Term.{Term, Var, Sort, Pi, App, Def, Fam}
use Rattle.core_rules.specs.Signature.{Intro, Leaf, Family, Function, Signature, Telescope, ConDecl, FamDecl}
use Rattle.core_rules.specs.Typing.{entry}
use Rattle.core_rules.specs.Examples.{nat, data_type}
use Rattle.core_rules.specs.Addition.{nat_type, zero_term, suc_term}
use Rattle.kernel_rules.specs.Outcome.{Gives, Refuses}
use Rattle.source_tree.specs.declared.place.Place.{Place}
use Rattle.resolved_tree.specs.declared.resolved.ResolvedName.{ResolvedName}
use Rattle.resolved_tree.specs.declared.resolved.ResolvedExpr.{ResolvedExpr}
use Rattle.resolved_tree.specs.declared.resolved.ResolvedExpr.TheVariants as r
use Rattle.resolved_tree.specs.declared.resolved.ResolvedArg.TheVariants as ra
use Rattle.resolved_tree.specs.declared.resolved.ResolvedBinder.TheVariants as rb
use Rattle.resolved_tree.specs.declared.resolved.ResolvedSignature.{ResolvedSignature}
use Rattle.resolved_tree.specs.declared.resolved.ResolvedItem.TheVariants as item
use Rattle.resolved_tree.specs.declared.resolved.Resolved.TheVariants as decl
use Rattle.written_rules.specs.Refusals.{NotARecord, NotAType, OutOfFuel}
use Rattle.data_rules.specs.Refusals.{BadSort, ConShape, TooBig, Elab, at}
use Rattle.data_rules.specs.Families.{WrittenFamilyOf}

-- the line `x : e` at p
abbrev pub line : Place → ResolvedName → ResolvedExpr → ResolvedSignature
line p x e = record { place = p; names = x ∷ []; ty = e }

-- a constructor with a name
abbrev pub con : ResolvedName → Telescope Term → List Term → ConDecl Term
con x es us = record { name = Some x.id; args = es; indices = us }

-- a record with its constructor's name, and whether it has eta and is coinductive
abbrev pub record_type : ℕ → Telescope Term → ℕ → Option ℕ → Telescope Term → FamDecl Term
record_type x ps l k fs = record { name = x; params = ps; indices = []; level = l; is_record = true; cons = record { name = k; args = fs; indices = [] } ∷ []; fields = fs; eta = true; coinductive = false }

-- ---- accepted, over no declaration

-- `data Nat : Set where zero : Nat ; suc : Nat → Nat`
abbrev pub Naturals : Type 0
Naturals = (fuel d : ℕ) (p a i j b q c e : Place) (x z y : ResolvedName)
    → WrittenFamilyOf [] fuel d (decl.«Data» p x [] (r.SetLevel a 0) (line i z (r.Family b 0) ∷ line j y (r.Arrow q (r.Family c 0) (r.Family e 0)) ∷ []))
    (Gives (data_type x.id [] [] (con z [] [] ∷ con y (entry Explicit 0 (Fam 0) ∷ []) [] ∷ [])))

-- `record Sigma (A : Set) (B : A → Set) : Set where constructor pair ; field fst : A ; snd : B fst`
abbrev pub Sigma : Type 0
Sigma = (fuel d : ℕ) (p i j k a b c q e h f m s t u v : Place) (x A B w y z : ResolvedName)
    → WrittenFamilyOf [] fuel (suc d) (decl.Record p x
    (rb.Explicit i (A ∷ []) (r.SetLevel j 0) ∷ rb.Explicit k (B ∷ []) (r.Arrow a (r.Variable b 0) (r.SetLevel c 0)) ∷ []) (r.SetLevel q 0)
    (item.«Constructor» e w ∷ item.Field h (line f y (r.Variable m 1) ∷ line s z (r.App t (r.Variable u 1) (ra.Plain (r.Variable v 0) ∷ [])) ∷ []) ∷ []))
    (Gives (record_type x.id (entry Explicit A.id (Sort 0) ∷ entry Explicit B.id (Pi Explicit 0 (Var 0) (Sort 0)) ∷ []) 0 (Some w.id)
    (entry Explicit y.id (Var 1) ∷ entry Explicit z.id (App Explicit (Var 1) (Var 0)) ∷ [])))

-- `record Pointed : Set1 where field Carrier : Set ; point : Carrier`, where each field has its own block
abbrev pub Pointed : Type 0
Pointed = (fuel d : ℕ) (p a h f i k l : Place) (b : Place) (x y z : ResolvedName)
    → WrittenFamilyOf [] fuel d (decl.Record p x [] (r.SetLevel a 1) (item.Field h (line f y (r.SetLevel i 0) ∷ []) ∷ item.Field k (line l z (r.Variable b 0) ∷ []) ∷ []))
    (Gives (record_type x.id [] 1 None (entry Explicit y.id (Sort 0) ∷ entry Explicit z.id (Var 0) ∷ [])))

-- `record Stream (A : Set) : Set where coinductive ; field head : A ; tail : Stream A`: it has no eta
abbrev pub Stream : Type 0
Stream = (fuel d : ℕ) (p i j q e h f m s t u v : Place) (x A y z : ResolvedName)
    → let fs = entry Explicit y.id (Var 0) ∷ entry Explicit z.id (App Explicit (Fam 0) (Var 1)) ∷ [] in
    WrittenFamilyOf [] fuel (suc d) (decl.Record p x (rb.Explicit i (A ∷ []) (r.SetLevel j 0) ∷ []) (r.SetLevel q 0)
    (item.Coinductive e ∷ item.Field h (line f y (r.Variable m 0) ∷ line s z (r.App t (r.Family u 0) (ra.Plain (r.Variable v 1) ∷ [])) ∷ []) ∷ []))
    (Gives (record (record_type x.id (entry Explicit A.id (Sort 0) ∷ []) 0 None fs) { eta = false; coinductive = true }))

-- `record Deep : Set where inductive ; field below : Deep`, and `record Unit : Set where constructor unit`: they have no eta
abbrev pub WithoutEta : Type 0
WithoutEta = (fuel d : ℕ) (p a e h f b : Place) (x y w : ResolvedName)
    → WrittenFamilyOf [] fuel d (decl.Record p x [] (r.SetLevel a 0) (item.Inductive e ∷ item.Field h (line f y (r.Family b 0) ∷ []) ∷ []))
    (Gives (record (record_type x.id [] 0 None (entry Explicit y.id (Fam 0) ∷ [])) { eta = false }))
    × WrittenFamilyOf [] fuel d (decl.Record p x [] (r.SetLevel a 0) (item.«Constructor» e w ∷ [])) (Gives (record (record_type x.id [] 0 (Some w.id) []) { eta = false }))

-- `data Box : Set1 where box : Set → Box`
abbrev pub BoxOfSet : Type 0
BoxOfSet = (fuel d : ℕ) (p a i q b c : Place) (x y : ResolvedName)
    → WrittenFamilyOf [] fuel d (decl.«Data» p x [] (r.SetLevel a 1) (line i y (r.Arrow q (r.SetLevel b 0) (r.Family c 0)) ∷ []))
    (Gives (record (data_type x.id [] [] (con y (entry Explicit 0 (Sort 0) ∷ []) [] ∷ [])) { level = 1 }))

-- `data Two : Set where yes no : Two`, and `record Both (A : Set) : Set where field fst snd : A`: a line of two names
abbrev pub Groups : Type 0
Groups = (fuel d : ℕ) (p i j q a b h f m : Place) (x A y z : ResolvedName)
    → WrittenFamilyOf [] fuel d (decl.«Data» p x [] (r.SetLevel a 0) (record { place = i; names = y ∷ z ∷ []; ty = r.Family b 0 } ∷ []))
    (Gives (data_type x.id [] [] (con y [] [] ∷ con z [] [] ∷ [])))
    × WrittenFamilyOf [] fuel d (decl.Record p x (rb.Explicit i (A ∷ []) (r.SetLevel j 0) ∷ []) (r.SetLevel q 0) (item.Field h (record { place = f; names = y ∷ z ∷ []; ty = r.Variable m 0 } ∷ []) ∷ []))
    (Gives (record_type x.id (entry Explicit A.id (Sort 0) ∷ []) 0 None (entry Explicit y.id (Var 0) ∷ entry Explicit z.id (Var 1) ∷ [])))

-- `data Eq {A : Set} (x : A) : A → Set where refl : Eq {A} x x`
abbrev pub Equality : Type 0
Equality = (fuel d : ℕ) (p i j k l q m n t u a b c e : Place) (x A y z : ResolvedName)
    → WrittenFamilyOf [] fuel (suc d) (decl.«Data» p x (rb.Implicit i (A ∷ []) (r.SetLevel j 0) ∷ rb.Explicit k (y ∷ []) (r.Variable l 0) ∷ []) (r.Arrow q (r.Variable m 1) (r.SetLevel n 0))
    (line t z (r.App u (r.Family a 0) (ra.Implicit b (r.Variable b 1) ∷ ra.Plain (r.Variable c 0) ∷ ra.Plain (r.Variable e 0) ∷ [])) ∷ []))
    (Gives (data_type x.id (entry Implicit A.id (Sort 0) ∷ entry Explicit y.id (Var 0) ∷ []) (entry Explicit 0 (Var 1) ∷ []) (con z [] (Var 0 ∷ []) ∷ [])))

-- ---- accepted, over natural numbers

abbrev pub numbers : Signature Term
numbers = Family nat ∷ []

abbrev pub vec_of : Term → Term → Term
vec_of a n = App Explicit (App Explicit (Fam 1) a) n

-- `Vec e n` in the source
abbrev pub vec_written : Place → Place → ResolvedExpr → ResolvedExpr → ResolvedExpr
vec_written p q e n = r.App p (r.Family q 1) (ra.Plain e ∷ ra.Plain n ∷ [])

-- `data Vec (A : Set) : Nat → Set where nil : Vec A zero ; cons : {n : Nat} → A → Vec A n → Vec A (suc n)`, where Vec and its parts stand at p
abbrev pub Vectors : Type 0
Vectors = (fuel d : ℕ) (p : Place) (x A y z n : ResolvedName)
    → WrittenFamilyOf numbers fuel (suc d) (decl.«Data» p x (rb.Explicit p (A ∷ []) (r.SetLevel p 0) ∷ []) (r.Arrow p (r.Family p 0) (r.SetLevel p 0)) (
    line p y (vec_written p p (r.Variable p 0) (r.Con p 0))
    ∷ line p z (r.Pi p (rb.Implicit p (n ∷ []) (r.Family p 0) ∷ []) (r.Arrow p (r.Variable p 1) (r.Arrow p (vec_written p p (r.Variable p 2) (r.Variable p 1))
    (vec_written p p (r.Variable p 3) (r.App p (r.Con p 1) (ra.Plain (r.Variable p 2) ∷ []))))))
    ∷ []))
    (Gives (data_type x.id (entry Explicit A.id (Sort 0) ∷ []) (entry Explicit 0 nat_type ∷ []) (
    con y [] (zero_term ∷ [])
    ∷ con z (entry Implicit n.id nat_type ∷ entry Explicit 0 (Var 1) ∷ entry Explicit 0 (vec_of (Var 2) (Var 1)) ∷ []) (suc_term (Var 2) ∷ [])
    ∷ [])))

-- ---- refused

-- `data D : Nat where` and `record R : Nat → Set where`, at the type
abbrev pub NoSorts : Type 0
NoSorts = (fuel d : ℕ) (p a b c : Place) (x : ResolvedName)
    → WrittenFamilyOf numbers fuel d (decl.«Data» p x [] (r.Family a 0) []) (Refuses (at a.pos BadSort))
    × WrittenFamilyOf numbers fuel d (decl.Record p x [] (r.Arrow a (r.Family b 0) (r.SetLevel c 0)) []) (Refuses (at a.pos BadSort))

-- `data D (x : zero) : Set where` and `data D (A : Set) (x : A) (y : zero) : Nat where`: the parameters are read before the type, in order
abbrev pub ParameterNoType : Type 0
ParameterNoType = (fuel d : ℕ) (p i a j b k l c : Place) (x A y z : ResolvedName)
    → WrittenFamilyOf numbers fuel d (decl.«Data» p x (rb.Explicit i (y ∷ []) (r.Con a 0) ∷ []) (r.SetLevel b 0) []) (Refuses (at a.pos (Elab (NotAType nat_type))))
    × WrittenFamilyOf numbers fuel d
    (decl.«Data» p x (rb.Explicit i (A ∷ []) (r.SetLevel j 0) ∷ rb.Implicit k (y ∷ []) (r.Variable l 0) ∷ rb.Explicit k (z ∷ []) (r.Con a 0) ∷ []) (r.Family c 0) [])
    (Refuses (at a.pos (Elab (NotAType nat_type))))

-- `record R : Set1 where field f : (P : R → Set) → P (record { })`: in the types of its own fields it is no record yet
abbrev pub OwnRecord : Type 0
OwnRecord = (fuel d : ℕ) (p a h i q k b c t v e : Place) (x y z : ResolvedName)
    → WrittenFamilyOf [] fuel d (decl.Record p x [] (r.SetLevel a 1) (item.Field h (line i y (r.Pi q (rb.Explicit k (z ∷ []) (r.Arrow k (r.Family b 0) (r.SetLevel c 0)) ∷ [])
    (r.App t (r.Variable v 0) (ra.Plain (r.Record e []) ∷ []))) ∷ []) ∷ []))
    (Refuses (at e.pos (Elab (NotARecord (Fam 0)))))

-- `data D : Set where mk : Set`, at mk: the shape is tested before the level
abbrev pub EndsInSort : Type 0
EndsInSort = (fuel d : ℕ) (p a i b : Place) (x y : ResolvedName)
    → WrittenFamilyOf [] fuel d (decl.«Data» p x [] (r.SetLevel a 0) (line i y (r.SetLevel b 0) ∷ [])) (Refuses (at i.pos ConShape))

-- the same with a second line that has no type: the first is tested before the second is read
abbrev pub FirstCounts : Type 0
FirstCounts = (fuel d : ℕ) (p a i b j c : Place) (x y z : ResolvedName)
    → WrittenFamilyOf numbers fuel d (decl.«Data» p x [] (r.SetLevel a 0) (line i y (r.SetLevel b 0) ∷ line j z (r.Con c 0) ∷ [])) (Refuses (at i.pos ConShape))
    × WrittenFamilyOf numbers fuel d (decl.«Data» p x [] (r.SetLevel a 0) (line j z (r.Con c 0) ∷ line i y (r.SetLevel b 0) ∷ [])) (Refuses (at c.pos (Elab (NotAType nat_type))))

-- `data D (A B : Set) : Set where mk : D B A`
abbrev pub ParametersSwapped : Type 0
ParametersSwapped = (fuel d : ℕ) (p i j q k t u v w : Place) (x A B y : ResolvedName)
    → WrittenFamilyOf [] fuel (suc d) (decl.«Data» p x (rb.Explicit i (A ∷ B ∷ []) (r.SetLevel j 0) ∷ []) (r.SetLevel q 0)
    (line k y (r.App t (r.Family u 0) (ra.Plain (r.Variable v 0) ∷ ra.Plain (r.Variable w 1) ∷ [])) ∷ [])) (Refuses (at k.pos ConShape))

-- `data D (A : Set) : Set where mk : (A : Set) → D A`
abbrev pub ParameterShadowed : Type 0
ParameterShadowed = (fuel d : ℕ) (p i j q k s l m t u v : Place) (x A y : ResolvedName)
    → WrittenFamilyOf [] fuel (suc d) (decl.«Data» p x (rb.Explicit i (A ∷ []) (r.SetLevel j 0) ∷ []) (r.SetLevel q 0)
    (line k y (r.Pi s (rb.Explicit l (A ∷ []) (r.SetLevel m 0) ∷ []) (r.App t (r.Family u 0) (ra.Plain (r.Variable v 0) ∷ []))) ∷ [])) (Refuses (at k.pos ConShape))

-- `data D : Set where mk : D → Set → D`, at mk
abbrev pub SecondArgumentTooBig : Type 0
SecondArgumentTooBig = (fuel d : ℕ) (p a i s b t c e : Place) (x y : ResolvedName)
    → WrittenFamilyOf [] fuel d (decl.«Data» p x [] (r.SetLevel a 0) (line i y (r.Arrow s (r.Family b 0) (r.Arrow t (r.SetLevel c 0) (r.Family e 0))) ∷ [])) (Refuses (at i.pos TooBig))

-- `record R : Set where field A : Set`, at A
abbrev pub FieldTooBig : Type 0
FieldTooBig = (fuel d : ℕ) (p a h i b : Place) (x y : ResolvedName)
    → WrittenFamilyOf [] fuel d (decl.Record p x [] (r.SetLevel a 0) (item.Field h (line i y (r.SetLevel b 0) ∷ []) ∷ [])) (Refuses (at i.pos TooBig))

-- ---- head forms that take a step: `S = Set`, and `same A = A`

abbrev pub stepping : Signature Term
stepping = Function 1 (Sort 1) [] (Leaf (Sort 0) 0) ∷ Function 2 (Pi Explicit 0 (Sort 0) (Sort 0)) [] (Intro (Leaf (Var 0) 0)) ∷ []

-- `data D : S where` with a step, and without
abbrev pub SortByStep : Type 0
SortByStep = (fuel d : ℕ) (p a : Place) (x : ResolvedName)
    → WrittenFamilyOf stepping (suc fuel) d (decl.«Data» p x [] (r.Def a 0) []) (Gives (data_type x.id [] [] []))
    × WrittenFamilyOf stepping 0 d (decl.«Data» p x [] (r.Def a 0) []) (Refuses (at a.pos (Elab OutOfFuel)))

-- `data D (A : Set) : Set where mk : D (same A)`
abbrev pub ParameterByStep : Type 0
ParameterByStep = (fuel d : ℕ) (p i j q k t u v w z : Place) (x A y : ResolvedName)
    → WrittenFamilyOf stepping (suc fuel) (suc d) (decl.«Data» p x (rb.Explicit i (A ∷ []) (r.SetLevel j 0) ∷ []) (r.SetLevel q 0)
    (line k y (r.App t (r.Family u 0) (ra.Plain (r.App v (r.Def w 1) (ra.Plain (r.Variable z 0) ∷ [])) ∷ [])) ∷ []))
    (Gives (data_type x.id (entry Explicit A.id (Sort 0) ∷ []) [] (con y [] [] ∷ [])))

-- ---- many function types: `S = Nat → .. → Nat → Set`, with n arrows

abbrev pub arrows : ℕ → Term
arrows zero = Sort 0
arrows (suc n) = Pi Explicit 0 nat_type (arrows n)

abbrev pub domains : ℕ → Telescope Term
domains zero = []
domains (suc n) = entry Explicit 0 nat_type ∷ domains n

abbrev pub deep : ℕ → Signature Term
deep n = Family nat ∷ Function 3 (Sort 1) [] (Leaf (arrows n) 0) ∷ []

-- `data D : S where`: 2,000 arrows are accepted, and one more is refused
abbrev pub MostIndices : Type 0
MostIndices = (fuel d n : ℕ) (p a : Place) (x : ResolvedName)
    → (n ≤ 2000 → WrittenFamilyOf (deep n) (suc fuel) d (decl.«Data» p x [] (r.Def a 0) []) (Gives (data_type x.id [] (domains n) [])))
    × (2000 < n → WrittenFamilyOf (deep n) (suc fuel) d (decl.«Data» p x [] (r.Def a 0) []) (Refuses (at a.pos BadSort)))

-- ---- function types without end: `hides = {n : Nat} → hides`

abbrev pub hiding : ℕ → Signature Term
hiding n = Family nat ∷ Function 3 (Sort 0) [] (Leaf (Pi Implicit n nat_type (Def 0)) 0) ∷ []

-- `data D : hides where` and `data D : Set where mk : hides`: after 2,000 function types one more is refused
abbrev pub WithoutEnd : Type 0
WithoutEnd = (fuel d n : ℕ) (p a i b : Place) (x y : ResolvedName)
    → WrittenFamilyOf (hiding n) (suc fuel) d (decl.«Data» p x [] (r.Def a 0) []) (Refuses (at a.pos BadSort))
    × WrittenFamilyOf (hiding n) (suc fuel) d (decl.«Data» p x [] (r.SetLevel a 0) (line i y (r.Def b 0) ∷ [])) (Refuses (at i.pos ConShape))

-- the second one without fuel for a step: its head form is looked at after its type is read
abbrev pub ShapeOutOfFuel : Type 0
ShapeOutOfFuel = (d n : ℕ) (p a i b : Place) (x y : ResolvedName)
    → WrittenFamilyOf (hiding n) 0 d (decl.«Data» p x [] (r.SetLevel a 0) (line i y (r.Def b 0) ∷ [])) (Refuses (at i.pos (Elab OutOfFuel)))
