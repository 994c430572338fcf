-- Left sides of clauses in print.
use Rattle.std.specs.Prelude.{ℕ, cond, nat_eq, List, [], ◌∷◌, ◌++◌, map, length, codes}
use Rattle.std.specs.Option.{option_map_or}
use Rattle.core_rules.specs.Term.{Term}
use Rattle.core_rules.specs.Signature.{Origin, Written, Variable, Underscore, Inserted, Braces, Without, Plain, Named, CorePat, PatShape, CorePats, Pat, VarPat, SolvedPat, DottedPat, ConPat, AbsurdPat, ProjectionPat, NoPat, AndPat, CheckedLeft, numbers}
use Rattle.core_print.specs.Apart.{Text, different}
use Rattle.core_print.specs.Names.{World, called, con_text, field_text, globals, name_text, unknown}
use Rattle.core_print.specs.Printed.{term_text}
use Rattle.core_print.specs.Variables.{WrittenVar, variables_all}

-- ---- the names of variables

-- the names that the clause has
abbrev pub own_names : World → List WrittenVar → List Text
own_names w [] = []
own_names w (v ∷ vs) = cond v.fresh (own_names w vs) (name_text w.names v.name ∷ own_names w vs)

-- the name of a variable: its own where the clause has it. A new name differs from those that are taken and from those chosen before it
abbrev pub chosen_name : World → List Text → List Text → WrittenVar → Text
chosen_name w taken before v = cond v.fresh (different (before ++ taken) (called (name_text w.names v.name))) (name_text w.names v.name)

-- the variables of the context with their names, the last first, which are chosen from left to right after those in ns
abbrev pub chosen : World → List Text → List (ℕ × Text) → List WrittenVar → List (ℕ × Text)
chosen w taken ns [] = ns
chosen w taken ns (v ∷ vs) = chosen w taken (option_map_or (λ i. (i, chosen_name w taken (map (λ n. n.1) ns) v) ∷ ns) v.place ns) vs

-- a variable without a written pattern is `_`
abbrev pub name_in : List (ℕ × Text) → ℕ → Text
name_in [] i = unknown
name_in (n ∷ ns) i = cond (nat_eq n.0 i) n.1 (name_in ns i)

-- new names differ from those of the clause, from each other and from the globals
abbrev pub pattern_names : World → List WrittenVar → List (ℕ × Text)
pattern_names w vs = chosen w (own_names w vs ++ globals w) [] vs

-- the names of n variables, as values have them, innermost first
abbrev pub value_names : List (ℕ × Text) → ℕ → List Text
value_names ns n = map (name_in ns) (numbers 0 n)

-- ---- patterns

abbrev pub in_braces : World → Braces → Text → Text
in_braces w Without x = x
in_braces w Plain x = codes "{" ++ (x ++ codes "}")
in_braces w (Named n) x = codes "{" ++ (name_text w.names n ++ (codes " = " ++ (x ++ codes "}")))

abbrev pub dotted : Text → Text
dotted x = codes ".(" ++ (x ++ codes ")")

-- a written variable that was solved is its value, an underscore stays
abbrev pub solved_text : Origin → Text → Text
solved_text Written x = dotted x
solved_text (Variable n fresh) x = dotted x
solved_text Underscore x = unknown
solved_text Inserted x = unknown

-- a constructor with the text of its arguments, which is empty where none is printed
abbrev pub applied_con : Text → Text → Text
applied_con k [] = k
applied_con k (c ∷ args) = codes "(" ++ (k ++ ((c ∷ args) ++ codes ")"))

-- an inserted pattern is not printed
abbrev pub unless_inserted : Origin → Text → Text
unless_inserted Written x = codes " " ++ x
unless_inserted (Variable n fresh) x = codes " " ++ x
unless_inserted Underscore x = codes " " ++ x
unless_inserted Inserted x = []

-- names are those of the variables by variable, ns those of all variables in order
module _ (w : World) (names : List (ℕ × Text)) (ns : List Text) where
  abbrev mutual
    pub pat_text : CorePat Term → Text
    pat_text (Pat q o b) = unless_inserted o (in_braces w b (shape_text o q))

    pub shape_text : Origin → PatShape Term → Text
    shape_text o (VarPat i) = name_in names i
    shape_text o (SolvedPat t) = solved_text o (term_text w ns t)
    shape_text o (DottedPat t) = dotted (term_text w ns t)
    shape_text o (ConPat k ps) = applied_con (con_text w k) (pats_text ps)
    shape_text o AbsurdPat = codes "()"
    shape_text o (ProjectionPat f) = codes "." ++ field_text w f

    -- each with a space before it
    pub pats_text : CorePats Term → Text
    pats_text NoPat = []
    pats_text (AndPat p ps) = pat_text p ++ pats_text ps

-- the function with its eliminations: explicit ones and those that are written in braces
abbrev pub left_text : World → ℕ → CheckedLeft Term → Text
left_text w f l =
    let names = pattern_names w (variables_all l.pats) in
    name_text w.names f ++ pats_text w names (value_names names (length l.context)) l.pats
