-- The first item of a vector by its one clause. The split of its tree solves the index equation of cons and refutes that of nil.
use Rattle.std.specs.Prelude.{[], ◌∷◌, Some}
use Rattle.core_rules.specs.declared.Flag.TheVariants.{Explicit}
use Rattle.core_rules.specs.Term.{Term, Var}
use Rattle.core_rules.specs.Signature.{Pat, VarPat, SolvedPat, ConPat, NoPat, AndPat, Written, Inserted, Without, Plain, CoreClause, Family, Function, Signature}
use Rattle.core_rules.specs.Typing.{entry}
use Rattle.core_rules.specs.Examples.{nat, vec}
use Rattle.core_rules.specs.Addition.{nat_type}
use Rattle.core_rules.specs.VectorHead.{vector, first_type, first_tree}

-- first n (cons x xs) = x, where the equation of cons gives its implicit argument the value n
abbrev pub first_clause : CoreClause Term
first_clause = record {
  left = record {
    context = entry Explicit 0 nat_type ∷ entry Explicit 8 nat_type ∷ entry Explicit 9 (vector (Var 1)) ∷ [];
    pats = AndPat (Pat (VarPat 2) Written Without) (AndPat (Pat (ConPat 3
        (AndPat (Pat (SolvedPat (Var 2)) Inserted Plain) (AndPat (Pat (VarPat 1) Written Without) (AndPat (Pat (VarPat 0) Written Without) NoPat)))) Written Without) NoPat);
    ty = nat_type;
    named = [];
    dots = [];
    inserted = 1;
  };
  right = Some (Var 1);
}

abbrev pub first_by_clauses : Signature Term
first_by_clauses = Family nat ∷ Family vec ∷ Function 3 first_type (first_clause ∷ []) first_tree ∷ []
