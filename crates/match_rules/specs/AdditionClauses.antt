-- Addition by its clauses and the case tree that follows them.
use Rattle.std.specs.Prelude.{[], ◌∷◌, Some}
use Rattle.core_rules.specs.declared.Flag.TheVariants.{Explicit}
use Rattle.core_rules.specs.Term.{Term, Var, Pi}
use Rattle.core_rules.specs.Signature.{Pat, VarPat, ConPat, NoPat, AndPat, Written, Without, CoreClause, Branch, Tree, Leaf, Intro, Split, ConBranches, NoCon, Goes, Family, Function, Signature}
use Rattle.core_rules.specs.Typing.{entry}
use Rattle.core_rules.specs.Examples.{nat}
use Rattle.core_rules.specs.Addition.{nat_type, suc_term, plus_term}

-- plus zero n = n
abbrev pub zero_clause : CoreClause Term
zero_clause = record {
  left = record {
    context = entry Explicit 0 nat_type ∷ [];
    pats = AndPat (Pat (ConPat 0 NoPat) Written Without) (AndPat (Pat (VarPat 0) Written Without) NoPat);
    ty = nat_type;
    named = [];
    dots = [];
    inserted = 0;
  };
  right = Some (Var 0);
}

-- plus (suc k) n = suc (plus k n)
abbrev pub suc_clause : CoreClause Term
suc_clause = record {
  left = record {
    context = entry Explicit 0 nat_type ∷ entry Explicit 0 nat_type ∷ [];
    pats = AndPat (Pat (ConPat 1 (AndPat (Pat (VarPat 1) Written Without) NoPat)) Written Without) (AndPat (Pat (VarPat 0) Written Without) NoPat);
    ty = nat_type;
    named = [];
    dots = [];
    inserted = 0;
  };
  right = Some (suc_term (plus_term (Var 1) (Var 0)));
}

abbrev pub no_number : Branch Term
no_number = record { context = []; values = []; keep = [] }

abbrev pub one_number : Branch Term
one_number = record { context = entry Explicit 0 nat_type ∷ []; values = Var 0 ∷ []; keep = 0 ∷ [] }

abbrev pub plus_branches : ConBranches Term
plus_branches = Goes 0 no_number (Intro (Leaf (Var 0) 0)) (Goes 1 one_number (Intro (Leaf (suc_term (plus_term (Var 1) (Var 0))) 1)) NoCon)

-- the first argument is split before the second is taken
abbrev pub plus_covered : Tree Term
plus_covered = Intro (Split 0 plus_branches)

abbrev pub addition_by_clauses : Signature Term
addition_by_clauses = Family nat ∷ Function 3 (Pi Explicit 0 nat_type (Pi Explicit 0 nat_type nat_type)) (zero_clause ∷ suc_clause ∷ []) plus_covered ∷ []
