-- How a split brings terms of the left side into a branch, in code.
use Rattle.std.specs.Prelude.{ℕ, ◌+◌, ◌-◌, ◌<◌, [], ◌++◌, map}
use Rattle.std.specs.List.{AllByRecursion}
use Rattle.core_rules.specs.Term.{Term}
use Rattle.core_rules.specs.Substitution.{shift, under}
use Rattle.core_rules.specs.Signature.{Branch, Context, onto}
use Rattle.core_rules.specs.Elimination.{Elim}
use Rattle.match_rules.specs.Covering.{elim_map}
use Rattle.lhs_rules.specs.Spots.{Taken, Left, split_elim, split_spot, branch_spots}
use Rattle.lhs_elab.specs.declared.moving.Move.{Move}

pub record MoveBelow (n : ℕ) (m : Move) : Type 0 where
  pub env : AllByRecursion (λ i. i < n) m.env.items
  pub values : AllByRecursion (λ i. i < n) m.values.items

-- where f gives the trees of ids
abbrev pub moved_by : (ℕ → Term) → Move → Term → Term
moved_by f m t = under (map f m.values.items) (under (map f m.env.items) t)

-- an elimination of the outermost entries in a context of n entries
abbrev pub raised_to : ℕ → Taken → Elim
raised_to n e = elim_map (λ t. shift t 0 (n - e.outer)) e.it

-- an elimination in a branch of m entries, where u brings terms of n entries into it
abbrev pub taken_into : (Term → Term) → ℕ → ℕ → Taken → Taken
taken_into u n m e = record { it = elim_map (λ t. u (shift t 0 (n - e.outer))) e.it; outer = m }

-- the left side with a constructor of m arguments for the variable outside which there are k entries, where u brings its terms into the
-- branch b of the constructor's context d
abbrev pub put_by : Left → ℕ → ℕ → ℕ → Context Term → Branch Term → (Term → Term) → Left
put_by l k m hidden d b u = record l {
  context = onto b.context [];
  spine = map (split_elim l.context b u) l.spine;
  spots = map (split_spot l.context k m d b u) l.spots ++ branch_spots d b k m;
  ty = u l.ty;
  inserted = l.inserted + hidden;
}
