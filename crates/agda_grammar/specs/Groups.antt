-- How items become declarations: a signature and the clauses of its name that follow it at once are one declaration; any other clause is one of its own.
use Rattle.std.specs.Prelude.{Bool, false, if◌then◌else◌, List, [], ◌∷◌, ◌++◌, Option, Some, None}
use Rattle.std.specs.Str.{bytes_eq}
use Rattle.source_tree.specs.declared.place.Name.{Name}
use Rattle.source_tree.specs.declared.decl.Clause.{Clause}
use Rattle.source_tree.specs.declared.decl.Decl.{Decl}
use Rattle.source_tree.specs.declared.decl.Decl.TheVariants as d
use Rattle.source_tree.specs.Places.{joined}
use Rattle.agda_grammar.specs.declared.entry.Entry.{Entry}
use Rattle.agda_grammar.specs.declared.entry.Entry.TheVariants as entry

-- a clause of the first name of the signature
abbrev pub is_of : List Name → Clause → Bool
is_of [] c = false
is_of (x ∷ xs) c = bytes_eq x.text c.name.text

-- the declaration that an item is where nothing goes before it
abbrev pub alone : Entry → Decl
alone (entry.Signature s) = d.Function s.place s []
alone (entry.Clause c) = d.Clause c
alone (entry.Other x) = x

-- a declaration with a clause of its name
abbrev pub with_clause : Decl → Clause → Option Decl
with_clause (d.Function p s cs) c = if is_of s.names c then Some (d.Function (joined p c.place) s (cs ++ c ∷ [])) else None
with_clause _ c = None

-- a declaration with the item that follows it at once, where they are one
abbrev pub with_entry : Decl → Entry → Option Decl
with_entry x (entry.Clause c) = with_clause x c
with_entry x _ = None

abbrev pub grouped_from : Decl → List Entry → List Decl
grouped_from x [] = x ∷ []
grouped_from x (e ∷ es) = elim (with_entry x e) [ None ↦ x ∷ grouped_from (alone e) es | Some y ↦ grouped_from y es ]

abbrev pub grouped : List Entry → List Decl
grouped [] = []
grouped (e ∷ es) = grouped_from (alone e) es

-- the same behind a declaration, or behind none
abbrev pub grouped_behind : Option Decl → List Entry → List Decl
grouped_behind None es = grouped es
grouped_behind (Some x) es = grouped_from x es
