-- Expressions read by hand: what they come to with any fuel, and to each depth at which their comparisons are told.
use Rattle.std.specs.Prelude.{ℕ, suc, [], ◌∷◌}
use Rattle.core_rules.specs.declared.Flag.TheVariants.{Explicit, Implicit}
use Rattle.core_rules.specs.Term.{Term, Var, Sort, Pi, Lam, App, Def, Fam, Con, Proj, End, And}
use Rattle.core_rules.specs.Signature.{Postulate, Signature}
use Rattle.core_rules.specs.Examples.{families, pair_of, pair_type}
use Rattle.core_rules.specs.Addition.{nat_type, zero_term, suc_term}
use Rattle.core_rules.specs.Looping.{looping, loop_term}
use Rattle.kernel_rules.specs.Outcome.{Gives, Refuses}
use Rattle.source_tree.specs.declared.place.Place.{Place}
use Rattle.resolved_tree.specs.declared.resolved.ResolvedName.{ResolvedName}
use Rattle.resolved_tree.specs.declared.resolved.ResolvedExpr.{ResolvedExpr}
use Rattle.resolved_tree.specs.declared.resolved.ResolvedExpr.TheVariants as r
use Rattle.resolved_tree.specs.declared.resolved.ResolvedArg.TheVariants as ra
use Rattle.resolved_tree.specs.declared.resolved.ResolvedBinder.TheVariants as rb
use Rattle.resolved_tree.specs.declared.resolved.ResolvedValue.{ResolvedValue}
use Rattle.written_rules.specs.Refusals.{at, Mismatch, DotWrong, NotAFunction, NotARecord, NotAType, NoSuchName, CannotInfer, BadField, OutOfFuel, OutOfDepth}
use Rattle.written_rules.specs.Rules.{Values}
use Rattle.written_rules.specs.Expressions.{WrittenOf, WrittenTypeOf, WrittenDotOf}

-- ---- over Nat, Vec and Pair of the rules' examples: zero, suc, nil and cons are the constructors 0 to 3, fst and snd the fields 0 and 1

abbrev pub vec_type : Term → Term → Term
vec_type a n = App Explicit (App Explicit (Fam 1) a) n

-- `λ x → x` at `Nat → Nat`
abbrev pub IdentityAccepted : Type 0
IdentityAccepted = (fuel d n : ℕ) (p q : Place) (x : ResolvedName)
    → WrittenOf families fuel (suc d) [] (r.Lambda p (rb.Name x ∷ []) (r.Variable q 0)) (Pi Explicit n nat_type nat_type) (Gives (Lam Explicit x.id nat_type (Var 0)))

-- `λ (x : Nat) → x` at `Nat → Nat`
abbrev pub TypedIdentityAccepted : Type 0
TypedIdentityAccepted = (fuel d n : ℕ) (p i a q : Place) (x : ResolvedName)
    → WrittenOf families fuel (suc d) [] (r.Lambda p (rb.Explicit i (x ∷ []) (r.Family a 0) ∷ []) (r.Variable q 0)) (Pi Explicit n nat_type nat_type)
    (Gives (Lam Explicit x.id nat_type (Var 0)))

-- `λ (x : Set) → zero` at `Nat → Nat`
abbrev pub OtherDomain : Type 0
OtherDomain = (fuel d n : ℕ) (p i a q : Place) (x : ResolvedName)
    → WrittenOf families fuel (suc d) [] (r.Lambda p (rb.Explicit i (x ∷ []) (r.SetLevel a 0) ∷ []) (r.Con q 0)) (Pi Explicit n nat_type nat_type)
    (Refuses (at p.pos (Mismatch (Sort 0) nat_type [])))

-- `λ {x} → x` at `{n : Nat} → Nat`
abbrev pub ImplicitLambdaAccepted : Type 0
ImplicitLambdaAccepted = (fuel d n : ℕ) (p i q : Place) (x : ResolvedName)
    → WrittenOf families fuel (suc d) [] (r.Lambda p (rb.Braced i x ∷ []) (r.Variable q 0)) (Pi Implicit n nat_type nat_type) (Gives (Lam Implicit x.id nat_type (Var 0)))

-- `zero`, `Set`, `record { }` and `(λ x → x) zero` at `{n : Nat} → Nat`: an implicit lambda is left out
abbrev pub OthersAtImplicit : Type 0
OthersAtImplicit = (fuel d n : ℕ) (p q s a : Place) (x : ResolvedName)
    → WrittenOf families fuel d [] (r.Con p 0) (Pi Implicit n nat_type nat_type) (Refuses (at p.pos CannotInfer))
    × WrittenOf families fuel d [] (r.SetLevel p 0) (Pi Implicit n nat_type nat_type) (Refuses (at p.pos CannotInfer))
    × WrittenOf families fuel d [] (r.Record p []) (Pi Implicit n nat_type nat_type) (Refuses (at p.pos CannotInfer))
    × WrittenOf families fuel d [] (r.App p (r.Lambda q (rb.Name x ∷ []) (r.Variable s 0)) (ra.Plain (r.Con a 0) ∷ [])) (Pi Implicit n nat_type nat_type)
    (Refuses (at p.pos CannotInfer))

-- `λ x → x` at `{n : Nat} → Nat`
abbrev pub ImplicitLambdaLeftOut : Type 0
ImplicitLambdaLeftOut = (fuel d n : ℕ) (p q : Place) (x : ResolvedName)
    → WrittenOf families fuel d [] (r.Lambda p (rb.Name x ∷ []) (r.Variable q 0)) (Pi Implicit n nat_type nat_type) (Refuses (at p.pos CannotInfer))

-- `λ {x} → x` at `(n : Nat) → Nat`
abbrev pub LambdaOfOtherFlag : Type 0
LambdaOfOtherFlag = (fuel d n : ℕ) (p i q : Place) (x : ResolvedName)
    → WrittenOf families fuel d [] (r.Lambda p (rb.Braced i x ∷ []) (r.Variable q 0)) (Pi Explicit n nat_type nat_type)
    (Refuses (at p.pos (NotAFunction (Pi Explicit n nat_type nat_type))))

-- `zero zero` at `Nat`
abbrev pub TooManyArguments : Type 0
TooManyArguments = (fuel d : ℕ) (p q s : Place)
    → WrittenOf families fuel d [] (r.App p (r.Con q 0) (ra.Plain (r.Con s 0) ∷ [])) nat_type (Refuses (at s.pos (NotAFunction nat_type)))

-- `cons {zero} zero nil` at `Vec Nat (suc zero)`: both constructors take their parameter from the type at which they are checked
abbrev pub ConsAccepted : Type 0
ConsAccepted = (fuel d : ℕ) (p q i a b c : Place)
    → WrittenOf families fuel (suc d) [] (r.App p (r.Con q 3) (ra.Implicit i (r.Con a 0) ∷ ra.Plain (r.Con b 0) ∷ ra.Plain (r.Con c 2) ∷ []))
    (vec_type nat_type (suc_term zero_term))
    (Gives (App Explicit (App Explicit (App Implicit (Con 3 (And nat_type End)) zero_term) zero_term) (Con 2 (And nat_type End))))

-- `suc {zero}` at `Nat`
abbrev pub BracesRefused : Type 0
BracesRefused = (fuel d : ℕ) (p q i a : Place)
    → WrittenOf families fuel d [] (r.App p (r.Con q 1) (ra.Implicit i (r.Con a 0) ∷ [])) nat_type (Refuses (at i.pos NoSuchName))

-- `zero` as a type
abbrev pub NumberAsType : Type 0
NumberAsType = (fuel d : ℕ) (p : Place) → WrittenTypeOf families fuel d [] (r.Con p 0) (Refuses (at p.pos (NotAType nat_type)))

-- `(λ x → x) zero` at `Nat`, at the lambda, and as a type, at the application
abbrev pub LambdaApplied : Type 0
LambdaApplied = (fuel d : ℕ) (p q s a : Place) (x : ResolvedName)
    → WrittenOf families fuel d [] (r.App p (r.Lambda q (rb.Name x ∷ []) (r.Variable s 0)) (ra.Plain (r.Con a 0) ∷ [])) nat_type (Refuses (at q.pos CannotInfer))
    × WrittenTypeOf families fuel d [] (r.App p (r.Lambda q (rb.Name x ∷ []) (r.Variable s 0)) (ra.Plain (r.Con a 0) ∷ [])) (Refuses (at p.pos CannotInfer))

-- the dotted pattern `.zero` at p, where its value is zero, and where it is a variable
abbrev pub DotCompared : Type 0
DotCompared = (fuel d : ℕ) (p q : Place)
    → WrittenDotOf families fuel (suc d) p.pos [] (r.Con q 0) nat_type zero_term (Gives tt)
    × WrittenDotOf families fuel (suc d) p.pos [] (r.Con q 0) nat_type (Var 0) (Refuses (at p.pos (DotWrong zero_term (Var 0) [])))

-- `cons zero nil` at the same type: an implicit argument is left out
abbrev pub ImplicitArgumentLeftOut : Type 0
ImplicitArgumentLeftOut = (fuel d : ℕ) (p q b c : Place)
    → WrittenOf families fuel d [] (r.App p (r.Con q 3) (ra.Plain (r.Con b 0) ∷ ra.Plain (r.Con c 2) ∷ [])) (vec_type nat_type (suc_term zero_term))
    (Refuses (at q.pos CannotInfer))

-- `nil` at `Nat`, at `Pair Nat Nat` and as a type: its parameter is left out
abbrev pub ParameterLeftOut : Type 0
ParameterLeftOut = (fuel d : ℕ) (p : Place)
    → WrittenOf families fuel d [] (r.Con p 2) nat_type (Refuses (at p.pos CannotInfer))
    × WrittenOf families fuel d [] (r.Con p 2) (pair_type nat_type nat_type) (Refuses (at p.pos CannotInfer))
    × WrittenTypeOf families fuel d [] (r.Con p 2) (Refuses (at p.pos CannotInfer))

-- Vec Nat zero
abbrev pub no_numbers : Term
no_numbers = vec_type nat_type zero_term

-- one variable, of type `Pair Nat (Vec Nat zero)`
abbrev pub one_pair : ℕ → Values
one_pair x = record { name = x; value = Var 0; ty = pair_type nat_type no_numbers } ∷ []

-- `x .fst` at `Nat` and `x .snd` at `Vec Nat zero`
abbrev pub ProjectionAccepted : Type 0
ProjectionAccepted = (fuel d x : ℕ) (p q s : Place)
    → WrittenOf families fuel (suc d) (one_pair x) (r.App p (r.Variable q 0) (ra.Project s 0 ∷ [])) nat_type (Gives (Proj 0 (Var 0)))
    × WrittenOf families fuel (suc d) (one_pair x) (r.App p (r.Variable q 0) (ra.Project s 1 ∷ [])) no_numbers (Gives (Proj 1 (Var 0)))

-- `zero .fst` at `Nat`
abbrev pub ProjectionOfNoRecord : Type 0
ProjectionOfNoRecord = (fuel d : ℕ) (p q s : Place)
    → WrittenOf families fuel d [] (r.App p (r.Con q 0) (ra.Project s 0 ∷ [])) nat_type (Refuses (at s.pos (NotARecord nat_type)))

-- `f = zero`, by the number of the field's name: fst is 12 and snd is 13
abbrev pub zero_at : ℕ → Place → ResolvedValue
zero_at f p = record { name = record { id = f; place = p }; value = r.Con p 0 }

-- `record { snd = nil ; fst = zero }` at `Pair Nat (Vec Nat zero)`
abbrev pub RecordAccepted : Type 0
RecordAccepted = (fuel d : ℕ) (p q s a : Place)
    → WrittenOf families fuel (suc d) [] (r.Record p (record { name = record { id = 13; place = q }; value = r.Con a 2 } ∷ zero_at 12 s ∷ [])) (pair_type nat_type no_numbers)
    (Gives (pair_of nat_type no_numbers zero_term (Con 2 (And nat_type End))))

-- `record { fst = zero }`, `record { fst = zero ; fst = zero }`, `record { fst = zero ; snd = zero ; snd = zero }`, and with a third name, 11, that is no field
abbrev pub FieldsNotEachOnce : Type 0
FieldsNotEachOnce = (fuel d : ℕ) (p q s i : Place)
    → WrittenOf families fuel d [] (r.Record p (zero_at 12 q ∷ [])) (pair_type nat_type nat_type) (Refuses (at p.pos BadField))
    × WrittenOf families fuel d [] (r.Record p (zero_at 12 q ∷ zero_at 12 s ∷ [])) (pair_type nat_type nat_type) (Refuses (at p.pos BadField))
    × WrittenOf families fuel d [] (r.Record p (zero_at 12 q ∷ zero_at 13 s ∷ zero_at 13 i ∷ [])) (pair_type nat_type nat_type) (Refuses (at p.pos BadField))
    × WrittenOf families fuel d [] (r.Record p (zero_at 12 q ∷ zero_at 13 s ∷ zero_at 11 i ∷ [])) (pair_type nat_type nat_type) (Refuses (at p.pos BadField))

-- `record { }` at `Nat`
abbrev pub RecordOfNoRecord : Type 0
RecordOfNoRecord = (fuel d : ℕ) (p : Place) → WrittenOf families fuel d [] (r.Record p []) nat_type (Refuses (at p.pos (NotARecord nat_type)))

-- ---- over a function that calls itself without end

-- `zero` at `loop zero`, whatever the fuel
abbrev pub LoopOutOfFuel : Type 0
LoopOutOfFuel = (fuel d : ℕ) (p : Place) → WrittenOf looping fuel d [] (r.Con p 0) (loop_term zero_term) (Refuses (at p.pos OutOfFuel))

-- ---- over any signature

-- `?` and `_`, at any type and as a type
abbrev pub LeftOutRefused : Type 0
LeftOutRefused = (g : Signature Term) (fuel d : ℕ) (vs : Values) (p : Place) (a : Term)
    → WrittenOf g fuel d vs (r.Hole p) a (Refuses (at p.pos CannotInfer)) × WrittenTypeOf g fuel d vs (r.Hole p) (Refuses (at p.pos CannotInfer))
    × WrittenOf g fuel d vs (r.Underscore p) a (Refuses (at p.pos CannotInfer)) × WrittenTypeOf g fuel d vs (r.Underscore p) (Refuses (at p.pos CannotInfer))

-- `∀ x → Set`: the domain is left out
abbrev pub DomainLeftOut : Type 0
DomainLeftOut = (g : Signature Term) (fuel d : ℕ) (vs : Values) (p q : Place) (x : ResolvedName)
    → WrittenTypeOf g fuel d vs (r.Forall p (rb.Name x ∷ []) (r.SetLevel q 0)) (Refuses (at x.place.pos CannotInfer))

-- `x → x`, for a variable of type Set: the codomain stands under a variable without a name
abbrev pub one_set : ℕ → Values
one_set x = record { name = x; value = Var 0; ty = Sort 0 } ∷ []

abbrev pub ArrowTyped : Type 0
ArrowTyped = (g : Signature Term) (fuel d x : ℕ) (p a b : Place)
    → WrittenTypeOf g fuel d (one_set x) (r.Arrow p (r.Variable a 0) (r.Variable b 1)) (Gives (Pi Explicit 0 (Var 0) (Var 1), 0))

-- `(x y : Set) → Set 1`: one type for both names, and the greatest of the levels
abbrev pub GroupTyped : Type 0
GroupTyped = (g : Signature Term) (fuel d : ℕ) (vs : Values) (p i a q : Place) (x y : ResolvedName)
    → WrittenTypeOf g fuel d vs (r.Pi p (rb.Explicit i (x ∷ y ∷ []) (r.SetLevel a 0) ∷ []) (r.SetLevel q 1))
    (Gives (Pi Explicit x.id (Sort 0) (Pi Explicit y.id (Sort 0) (Sort 1)), 2))

-- ---- universes are not cumulative: `F Set`, where `F : Set → Set`

abbrev pub one_function : ℕ → ℕ → Signature Term
one_function f n = Postulate f (Pi Explicit n (Sort 0) (Sort 0)) ∷ []

abbrev pub SetRefused : Type 0
SetRefused = (fuel d f n : ℕ) (p q s : Place)
    → WrittenTypeOf (one_function f n) fuel (suc d) [] (r.App p (r.Def q 0) (ra.Plain (r.SetLevel s 0) ∷ [])) (Refuses (at s.pos (Mismatch (Sort 1) (Sort 0) [])))

-- ---- an argument by its name: `F {n = Set}`, where `F : {n : Set 1} → Set` and the name `n` is 7, and `F {m = Set}`

abbrev pub implicit_function : ℕ → Signature Term
implicit_function f = Postulate f (Pi Implicit 7 (Sort 1) (Sort 0)) ∷ []

abbrev pub NamedArgument : Type 0
NamedArgument = (fuel d f : ℕ) (p q i x a : Place)
    → WrittenTypeOf (implicit_function f) fuel (suc d) [] (r.App p (r.Def q 0) (ra.Named i (record { id = 7; place = x }) (r.SetLevel a 0) ∷ []))
    (Gives (App Implicit (Def 0) (Sort 0), 0))
    × WrittenTypeOf (implicit_function f) fuel (suc d) [] (r.App p (r.Def q 0) (ra.Named i (record { id = 8; place = x }) (r.SetLevel a 0) ∷ []))
    (Refuses (at q.pos CannotInfer))

-- `F` alone, as a type and at `Set 1`, and `F .f`: the argument is left out
abbrev pub ImplicitAtTheEnd : Type 0
ImplicitAtTheEnd = (fuel d f k : ℕ) (p q s : Place)
    → WrittenTypeOf (implicit_function f) fuel d [] (r.Def p 0) (Refuses (at p.pos CannotInfer))
    × WrittenOf (implicit_function f) fuel d [] (r.Def p 0) (Sort 1) (Refuses (at p.pos CannotInfer))
    × WrittenTypeOf (implicit_function f) fuel d [] (r.App p (r.Def q 0) (ra.Project s k ∷ [])) (Refuses (at q.pos CannotInfer))

-- ---- `U m`, where `Nat : Set`, `g : Nat → Nat`, `T : (Nat → Nat) → Set`, `m : T g` and `U : T (λ x → g x) → Set`

-- the names of these, and of binders
pub record Names : Type 0 where
  pub nat : ℕ
  pub g : ℕ
  pub t : ℕ
  pub m : ℕ
  pub u : ℕ
  pub x : ℕ
  pub n : ℕ

abbrev pub to_nat : Names → Term
to_nat k = Pi Explicit k.n (Def 0) (Def 0)

abbrev pub expanded : Names → Term
expanded k = Lam Explicit k.x (Def 0) (App Explicit (Def 1) (Var 0))

abbrev pub expanding : Names → Signature Term
expanding k =
    Postulate k.nat (Sort 0) ∷ Postulate k.g (to_nat k) ∷ Postulate k.t (Pi Explicit k.n (to_nat k) (Sort 0)) ∷ Postulate k.m (App Explicit (Def 2) (Def 1))
    ∷ Postulate k.u (Pi Explicit k.n (App Explicit (Def 2) (expanded k)) (Sort 0)) ∷ []

abbrev pub at_m : Place → Place → Place → ResolvedExpr
at_m p q s = r.App p (r.Def q 4) (ra.Plain (r.Def s 3) ∷ [])

-- to the depth 3 and deeper `g` and `λ x → g x` are told to be convertible
abbrev pub ExpandedAccepted : Type 0
ExpandedAccepted = (fuel d : ℕ) (k : Names) (p q s : Place) → WrittenTypeOf (expanding k) fuel (suc (suc (suc d))) [] (at_m p q s) (Gives (App Explicit (Def 4) (Def 3), 0))

-- to the depth 1 they are not, and m is refused
abbrev pub ExpandedTooDeep : Type 0
ExpandedTooDeep = (fuel : ℕ) (k : Names) (p q s : Place) → WrittenTypeOf (expanding k) fuel (suc 0) [] (at_m p q s) (Refuses (at s.pos OutOfDepth))
