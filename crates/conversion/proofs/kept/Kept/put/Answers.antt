use Rattle.std.proofs.Common.{ℕ, ◌≡◌, ◌⊎◌, ◌&&◌, ◌==◌, cond, Option, Some, arith}
use Rattle.std.proofs.lemmas.Grind.{common_steps}
use Rattle.conversion.proofs.kept.Kept.put.Goals as goal

pick : (t u a b i j d : ℕ) (m n : Option ℕ) → a ≡ t → b ≡ u → n ≡ cond (a == i && b == j) (Some d) m → (n ≡ m) ⊎ ((i ≡ t) × (j ≡ u) × (n ≡ Some d))
pick t u a b i j d m n e f h = grind (arith, common_steps)

pub returns : goal.returns
returns c = record {
  here = rw (← c.number.ensures, ← c.number-2.ensures) c.in_ok-insert.ensures.updates.1;
  elsewhere = λ i j. pick c.args.t c.args.u c.number.result c.number-2.result i j c.args.depth _ _ c.number.ensures c.number-2.ensures (rw (← c.self.view_is) (c.in_ok-insert.ensures.updates.0 (i, j)));
}
