use Rattle.std.proofs.Common.{ℕ, ◌≡◌, ◌⊎◌, ◌&&◌, ◌==◌, cond, Option, Some, arith}
use Rattle.std.proofs.lemmas.Grind.{common_steps}
use Rattle.term_pool.proofs.table.Table.put.Goals as goal

pick : (t u d i j r : ℕ) (m n : Option ℕ) → u ≡ t → n ≡ cond (u == i && d == j) (Some r) m → (n ≡ m) ⊎ ((i ≡ t) × (j ≡ d) × (n ≡ Some r))
pick t u d i j r m n e h = grind (arith, common_steps)

pub returns : goal.returns
returns c = record {
  here = rw (← c.number.ensures) c.in_ok-insert.ensures.updates.1;
  elsewhere = λ i j. pick c.args.t c.number.result c.args.under i j c.args.made _ _ c.number.ensures (rw (← c.self.view_is) (c.in_ok-insert.ensures.updates.0 (i, j)));
}
