-- Terms of the left side in the branch of a constructor.
use Rattle.std.proofs.Common.{◌≡◌, ℕ, List, length, map, ap, ap₂, subst, ◌∙◌}
use Rattle.std.specs.Prelude.{Result, Ok, Err, IfOk}
use Rattle.core_rules.specs.Term.{Term}
use Rattle.core_rules.specs.Substitution.{under}
use Rattle.term_pool.specs.Pool.{Pool, Extends, StandsFor, tree}
use Rattle.term_pool.specs.Growth.{Extends-trans}
use Rattle.declared_types.proofs.Grown.{all-grown}
use Rattle.term_pool.specs.Placed.{items-stay}
use Rattle.lhs_elab.specs.declared.moving.Move.{Move}
use Rattle.lhs_elab.specs.Moving.{MoveBelow, moved_by}

pub moved-is : {E : Type 0} (p q v w : Pool) (m : Move) (es vs : List ℕ) (t : Term) (whole opened : ℕ) (r : Result ℕ E) → Extends p q → Extends q v → MoveBelow (length p.trees) m
    → es ≡ m.env.items → vs ≡ m.values.items → tree q whole ≡ t → tree v opened ≡ under (map (tree q) es) (tree q whole)
    → IfOk r (λ i. StandsFor w i (under (map (tree v) vs) (tree v opened))) → IfOk r (λ i. StandsFor w i (moved_by (tree p) m t))
moved-is p q v w m es vs t whole opened (Ok i) e f b a c x y h =
    subst (StandsFor w i) (ap₂ under (ap (map (tree v)) c ∙ items-stay p v m.values.items (Extends-trans e f) b.values) (y ∙ ap₂ under (ap (map (tree q)) a ∙ items-stay p q m.env.items e b.env) x)) h
moved-is p q v w m es vs t whole opened (Err i) e f b a c x y h = h

module _ (p q : Pool) (e : Extends p q) (m : Move) (b : MoveBelow (length p.trees) m) where
  pub move-larger : MoveBelow (length q.trees) m
  move-larger = record { env = all-grown p q m.env.items e b.env; values = all-grown p q m.values.items e b.values }

  -- a move is the same in a larger pool
  pub move-stays : (t : Term) → moved_by (tree q) m t ≡ moved_by (tree p) m t
  move-stays t = ap₂ (λ (vs es : List Term). under vs (under es t)) (items-stay p q m.values.items e b.values) (items-stay p q m.env.items e b.env)

  pub move-same : ◌≡◌ {A = Term → Term} (moved_by (tree q) m) (moved_by (tree p) m)
  move-same = ap₂ (λ (vs es : List Term). λ (t : Term). under vs (under es t)) (items-stay p q m.values.items e b.values) (items-stay p q m.env.items e b.env)
