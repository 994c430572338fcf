-- Pairs turned by one clause, whose pattern is the constructor of a record that has eta.
use Rattle.std.specs.Prelude.{[], ◌∷◌, Some}
use Rattle.core_rules.specs.declared.Flag.TheVariants.{Explicit}
use Rattle.core_rules.specs.Term.{Term, Var, Sort}
use Rattle.core_rules.specs.Signature.{Pat, VarPat, ConPat, NoPat, AndPat, Written, Without, CoreClause, Family, Function, Signature}
use Rattle.core_rules.specs.Typing.{entry}
use Rattle.core_rules.specs.Examples.{nat, vec, pair, pair_of, pair_type}
use Rattle.core_rules.specs.TreeExamples.{swap_type, swap_tree}

-- swap a b (pair x y) = pair y x, a pair of b and a
abbrev pub swap_clause : CoreClause Term
swap_clause = record {
  left = record {
    context = entry Explicit 0 (Sort 0) ∷ entry Explicit 0 (Sort 0) ∷ entry Explicit 12 (Var 1) ∷ entry Explicit 13 (Var 1) ∷ [];
    pats = AndPat (Pat (VarPat 3) Written Without) (AndPat (Pat (VarPat 2) Written Without)
        (AndPat (Pat (ConPat 4 (AndPat (Pat (VarPat 1) Written Without) (AndPat (Pat (VarPat 0) Written Without) NoPat))) Written Without) NoPat));
    ty = pair_type (Var 2) (Var 3);
    named = [];
    dots = [];
    inserted = 0;
  };
  right = Some (pair_of (Var 2) (Var 3) (Var 0) (Var 1));
}

abbrev pub swap_by_clauses : Signature Term
swap_by_clauses = Family nat ∷ Family vec ∷ Family pair ∷ Function 17 swap_type (swap_clause ∷ []) swap_tree ∷ []
