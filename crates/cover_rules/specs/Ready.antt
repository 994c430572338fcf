-- What is asked of clauses: patterns name constructors by their kind, and a clause without a right side has a pattern `()`.
use Rattle.std.specs.Prelude.{◌≡◌, ℕ, List, [], ◌∷◌, Option, None}
use Rattle.core_rules.specs.Term.{Term}
use Rattle.core_rules.specs.Signature.{Signature}
use Rattle.match_rules.specs.Matching.{Shape, Any, OfCon, OfRecord, Nothing, OfField, Shapes, NoShape, AndShape, eta_family, Clause}

mutual
  -- a constructor that a pattern names is of no record that has eta
  pub data Plain (g : Signature Term) : Shape → Type 0 where
    any : {o : Option ℕ} → Plain g (Any o)
    of_con : {k : ℕ} {ps : Shapes} → eta_family g k ≡ None → PlainAll g ps → Plain g (OfCon k ps)
    of_record : {d : ℕ} {ps : Shapes} → PlainAll g ps → Plain g (OfRecord d ps)
    nothing : Plain g Nothing
    of_field : {f : ℕ} → Plain g (OfField f)

  pub data PlainAll (g : Signature Term) : Shapes → Type 0 where
    none : PlainAll g NoShape
    more : {p : Shape} {ps : Shapes} → Plain g p → PlainAll g ps → PlainAll g (AndShape p ps)

mutual
  pub data HasNothing : Shape → Type 0 where
    it : HasNothing Nothing
    in_con : {k : ℕ} {ps : Shapes} → OneNothing ps → HasNothing (OfCon k ps)
    in_record : {d : ℕ} {ps : Shapes} → OneNothing ps → HasNothing (OfRecord d ps)

  pub data OneNothing : Shapes → Type 0 where
    here : {p : Shape} {ps : Shapes} → HasNothing p → OneNothing (AndShape p ps)
    later : {p : Shape} {ps : Shapes} → OneNothing ps → OneNothing (AndShape p ps)

pub record IsReady (g : Signature Term) (q : Clause) : Type 0 where
  pub plain : PlainAll g q.shapes
  pub right : q.right ≡ None → OneNothing q.shapes

pub data AllReady (g : Signature Term) : List Clause → Type 0 where
  none : AllReady g []
  one : {q : Clause} {qs : List Clause} → IsReady g q → AllReady g qs → AllReady g (q ∷ qs)
