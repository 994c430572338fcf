-- Contexts in print.
use Rattle.std.specs.Prelude.{◌≡◌, ℕ, ◌-◌, Bool, true, false, not, ◌&&◌, cond, nat_lt, List, [], ◌∷◌, ◌++◌, drop, map, reverse, length, codes}
use Rattle.core_rules.specs.Term.{Term}
use Rattle.core_rules.specs.Heads.{Solutions}
use Rattle.core_rules.specs.Substitution.{replace}
use Rattle.core_rules.specs.InScope.{IsAcyclic}
use Rattle.core_rules.specs.Bounded.{full}
use Rattle.core_rules.specs.Mapped.{telescope_map, left_map}
use Rattle.core_rules.specs.Signature.{Telescope, Solved, CheckedLeft}
use Rattle.core_print.specs.Apart.{Text, is_among}
use Rattle.core_print.specs.Names.{World, context_names, is_blank, name_text, source_names}
use Rattle.core_print.specs.Printed.{term_text}
use Rattle.core_print.specs.Variables.{WrittenVar, binds, variables_all}

-- ---- which entries are in scope

-- whether the source names the entry x that has n entries outside it, where k entries are those of a left side with these variables: one of
-- the left side where a written variable is it, and one inside these, a binder around the goal, where it has a name that is not `_`
abbrev pub is_sourced : List WrittenVar → ℕ → ℕ → Text → Bool
is_sourced vs k n x = cond (nat_lt n k) (binds vs (k - 1 - n)) (not (is_blank x))

-- of each of the entries xs, innermost first, whether the source names it, and no entry inside it that the source names has the same name;
-- these names are given
abbrev pub in_scope : List WrittenVar → ℕ → List Text → List Text → List Bool
in_scope vs k inside [] = []
in_scope vs k inside (x ∷ xs) =
    (is_sourced vs k (length xs) x && not (is_among x inside)) ∷ in_scope vs k (cond (is_sourced vs k (length xs) x) (x ∷ inside) inside) xs

-- ---- lines

abbrev pub scope_mark : Bool → Text
scope_mark true = []
scope_mark false = codes " (not in scope)"

abbrev pub entry_line : Text → Text → Bool → Text
entry_line x a inside = x ++ (codes " : " ++ (a ++ (scope_mark inside ++ codes "\n")))

-- the names of entries, whether each is in scope, and their types, all innermost first; they are printed outermost first
abbrev pub entry_lines : World → List Text → List Bool → List Term → Text
entry_lines w [] bs ts = []
entry_lines w (n ∷ ns) [] ts = []
entry_lines w (n ∷ ns) (b ∷ bs) [] = []
entry_lines w (n ∷ ns) (b ∷ bs) (t ∷ ts) = entry_lines w ns bs ts ++ entry_line n (term_text w ns t) b

-- a solved name is printed as it is written
abbrev pub solved_line : World → List Text → Solved Term → Text
solved_line w ns s = name_text w.names s.name ++ (codes " = " ++ (term_text w ns s.value ++ (codes " : " ++ (term_text w ns s.ty ++ codes "\n"))))

abbrev pub solved_lines : World → List Text → List (Solved Term) → Text
solved_lines w ns [] = []
solved_lines w ns (s ∷ ss) = solved_line w ns s ++ solved_lines w ns ss

-- a line for each entry, outermost first, and one for each solved name of the left side, in order. The entries of the left side are the
-- outermost ones, and the values of its solved names stand under these
abbrev pub context_text : World → CheckedLeft Term → Telescope Term → Text
context_text w l c =
    entry_lines w (context_names w c) (in_scope (variables_all l.pats) (length l.context) [] (source_names w c)) (map (λ e. e.ty) (reverse c))
    ++ solved_lines w (drop (length c - length l.context) (context_names w c)) l.named

-- x is the text of the context c inside the left side l, with the solved metavariables of both replaced
pub record PrintsContext (w : World) (s : Solutions) (l : CheckedLeft Term) (c : Telescope Term) (x : Text) : Type 0 where
  pub acyclic : IsAcyclic s
  pub is : x ≡ context_text w (left_map (replace (full s acyclic)) l) (telescope_map (replace (full s acyclic)) c)
