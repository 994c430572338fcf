-- The lines of a report and of an error. Each ends with a line feed.
use Rattle.std.specs.Prelude.{ℕ, ◌+◌, Bool, true, false, List, [], ◌∷◌, ◌++◌, length, Some, None, codes}
use Rattle.std.specs.declared.option.Option.{Option}
use Rattle.std.specs.Fmt.{decimal}
use Rattle.el_outside.specs.declared.place.Pos.{Pos}
use Rattle.session_text.specs.declared.error.LoadKind.{LoadKind}
use Rattle.session_text.specs.declared.error.LoadError.{LoadError}
use Rattle.session_text.specs.declared.report.Goal.{Goal}
use Rattle.session_text.specs.declared.report.Typed.{Typed}
use Rattle.session_text.specs.declared.report.Report.{Report}
use Rattle.session_text.specs.Words.{kind_words}

-- `LINE:COLUMN`
abbrev pub place : Pos → List ℕ
place p = decimal p.line ++ codes ":" ++ decimal p.col

-- ---- errors: `error LINE:COLUMN KIND`, and the lines of the error, each after two spaces

abbrev pub error_line : Pos → LoadKind → List ℕ
error_line p k = codes "error " ++ place p ++ codes " " ++ kind_words k ++ codes "\n"

abbrev pub indented : List ℕ → List ℕ
indented x = codes "  " ++ x ++ codes "\n"

abbrev pub all_indented : List (List ℕ) → List ℕ
all_indented [] = []
all_indented (x ∷ xs) = indented x ++ all_indented xs

abbrev pub error_bytes : LoadError → List ℕ
error_bytes e = error_line e.pos e.kind ++ all_indented e.lines

-- ---- reports: the counts, and a line for each goal, unsolved type, suspended problem and shadowed clause, in this order

abbrev pub state_word : Bool → List ℕ
state_word true = codes "complete"
state_word false = codes "open"

abbrev pub count_words : Report → List ℕ
count_words r = state_word r.complete ++ codes " declarations=" ++ decimal r.declarations ++ codes " inserted=" ++ decimal r.inserted

-- how many goals, unsolved types, suspended problems and shadowed clauses there are
abbrev pub length_words : ℕ → ℕ → ℕ → ℕ → List ℕ
length_words g u p s = codes " goals=" ++ decimal g ++ codes " unsolved=" ++ decimal u ++ codes " suspended=" ++ decimal p ++ codes " shadowed=" ++ decimal s ++ codes "\n"

abbrev pub report_line : Report → List ℕ
report_line r = count_words r ++ length_words (length r.goals) (length r.unsolved) (length r.suspended) (length r.shadowed)

-- the type of a goal that was reached
abbrev pub type_of_goal : Option (List ℕ) → List ℕ
type_of_goal None = codes "(not reached)"
type_of_goal (Some a) = a

abbrev pub goal_line : ℕ → Goal → List ℕ
goal_line n g = codes "goal " ++ decimal n ++ codes " " ++ place g.pos ++ codes " : " ++ type_of_goal g.ty ++ codes "\n"

-- the lines of goals, the first of which is goal n
abbrev pub goal_lines : ℕ → List Goal → List ℕ
goal_lines n [] = []
goal_lines n (g ∷ gs) = goal_line n g ++ goal_lines (n + 1) gs

abbrev pub unsolved_line : Typed → List ℕ
unsolved_line t = codes "unsolved " ++ place t.pos ++ codes " : " ++ t.ty ++ codes "\n"

abbrev pub unsolved_lines : List Typed → List ℕ
unsolved_lines [] = []
unsolved_lines (t ∷ ts) = unsolved_line t ++ unsolved_lines ts

abbrev pub place_line : List ℕ → Pos → List ℕ
place_line word p = word ++ codes " " ++ place p ++ codes "\n"

abbrev pub place_lines : List ℕ → List Pos → List ℕ
place_lines word [] = []
place_lines word (p ∷ ps) = place_line word p ++ place_lines word ps

abbrev pub report_bytes : Report → List ℕ
report_bytes r =
    report_line r ++ goal_lines 0 r.goals ++ unsolved_lines r.unsolved
    ++ place_lines (codes "suspended") r.suspended ++ place_lines (codes "shadowed") r.shadowed
