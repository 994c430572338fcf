-- How large the core of a declaration may be: 1,048,576 nodes in all its terms together, and 2,000 levels in each of them.
use Rattle.std.specs.Prelude.{ℕ, Bool, ◌||◌, nat_lt, List, [], ◌∷◌, ◌++◌, map, sum_by}
use Rattle.std.specs.List.{list_any}
use Rattle.core_rules.specs.Term.{Term, size, depth}
use Rattle.core_rules.specs.Signature.{Telescope, ConDecl, FamDecl}

abbrev pub most_nodes : ℕ
most_nodes = 1048576

abbrev pub most_levels : ℕ
most_levels = 2000

abbrev pub is_deep : Term → Bool
is_deep t = nat_lt most_levels (depth t)

-- terms, of which the nodes are counted as those of trees, whatever of them is shared
abbrev pub are_too_large : List Term → Bool
are_too_large ts = nat_lt most_nodes (sum_by size ts) || list_any is_deep ts

abbrev pub types_of : Telescope Term → List Term
types_of es = map (λ e. e.ty) es

abbrev pub con_terms : ConDecl Term → List Term
con_terms k = types_of k.args ++ k.indices

abbrev pub cons_terms : List (ConDecl Term) → List Term
cons_terms [] = []
cons_terms (k ∷ ks) = con_terms k ++ cons_terms ks

-- The terms of a family. The fields of a record are the arguments of its constructor, and count once
abbrev pub terms_of : FamDecl Term → List Term
terms_of d = types_of d.params ++ types_of d.indices ++ cons_terms d.cons
