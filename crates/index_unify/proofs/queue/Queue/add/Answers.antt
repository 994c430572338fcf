use Rattle.std.specs.Prelude.{◌≡◌, ◌==◌, ◌&&◌, true}
use Rattle.std.proofs.Common.{eqb-true, ap₂}
use Rattle.std.proofs.lemmas.Bool.{and_parts}
use Rattle.index_unify.specs.Queue.{Item}
use Rattle.index_unify.proofs.Queues.{inserted}
use Rattle.index_unify.proofs.queue.Queue.add.Goals as goal

item_same : (x y : Item) → (x.0 == y.0 && x.1 == y.1) ≡ true → x ≡ y
item_same x y e = let h = and_parts (x.0 == y.0) (x.1 == y.1) e in ap₂ (λ a b. (a, b)) (eqb-true x.0 y.0 h.0) (eqb-true x.1 y.1 h.1)

pub returns : goal.returns
returns c = rw (← c.number.ensures, ← c.self.view_is) (inserted _ _ _ _ c.in_ok-insert.ensures.keys item_same)
