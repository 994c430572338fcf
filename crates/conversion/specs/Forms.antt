-- The rules for two forms, at forms in code.
use Rattle.std.specs.Prelude.{ℕ, []}
use Rattle.core_rules.specs.Term.{Term}
use Rattle.core_rules.specs.Signature.{Signature}
use Rattle.core_rules.specs.Elimination.{elims}
use Rattle.core_rules.specs.Bounded.{Decision, Now, No, Cut, Pair, by_lambda, by_kind, by_field, same_heads, lambda, kind, last_field, if_one, with_part, argument_parts}
use Rattle.weak_head.specs.declared.state.Applied as A
use Rattle.weak_head.specs.Elims.{spine_in}

-- where f gives the trees of ids, and q is the decision that they differ
module _ (f : ℕ → Term) (q : Decision) where
  abbrev pub by_head_of : A.Applied → A.Applied → Decision
  by_head_of a b = same_heads q (f a.head) (spine_in f a.spine.items) (f b.head) (spine_in f b.spine.items)

  abbrev pub by_field_of : A.Applied → A.Applied → Decision
  by_field_of a b =
      let es = spine_in f a.spine.items in
      let ds = spine_in f b.spine.items in
      by_field q (f a.head) es (f b.head) ds (last_field es) (last_field ds)

  abbrev pub by_kind_of : Signature Term → A.Applied → A.Applied → Decision
  by_kind_of g a b =
      let es = spine_in f a.spine.items in
      let ds = spine_in f b.spine.items in
      by_kind g q (f a.head) es (f b.head) ds (kind g (f a.head) es) (kind g (f b.head) ds)

  abbrev pub by_lambda_of : Signature Term → A.Applied → A.Applied → Decision
  by_lambda_of g a b =
      let es = spine_in f a.spine.items in
      let ds = spine_in f b.spine.items in
      by_lambda g q (f a.head) es (f b.head) ds (lambda (f a.head) es) (lambda (f b.head) ds)

-- two projections
abbrev pub by_cuts : Decision → Term → Cut → Term → Cut → Decision
by_cuts q h c k d = if_one c.field d.field q (with_part (Pair [] (elims h c.before) (elims k d.before)) (argument_parts c.after d.after))

-- two forms: their parts, or that they differ
abbrev pub by_forms : Signature Term → (ℕ → Term) → A.Applied → A.Applied → Decision
by_forms g f a b = by_lambda_of f (Now (No (elims (f a.head) (spine_in f a.spine.items)) (elims (f b.head) (spine_in f b.spine.items)) [])) g a b
