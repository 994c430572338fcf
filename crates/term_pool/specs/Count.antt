-- How large a term is as a tree: at most 1,048,576 nodes and 2,000 levels, or too large.
use Rattle.std.specs.Prelude.{ℕ, nat_lt, cond}
use Rattle.core_rules.specs.Term.{Term, size, depth}
use Rattle.term_pool.specs.declared.count.Count.{Count}
use Rattle.term_pool.specs.declared.count.Count.TheVariants.{Within, TooLarge}

abbrev pub counted : ℕ → ℕ → Count
counted n d = cond (nat_lt 1048576 n) TooLarge (cond (nat_lt 2000 d) TooLarge (Within n d))

abbrev pub count_of : Term → Count
count_of t = counted (size t) (depth t)
