use Rattle.std.proofs.Common.{◌∙◌, ap, ap₂, max, ◌-◌, ◌||◌}
use Rattle.term_pool.proofs.measures.Measures.binder.Goals as goal

pub returns-clause-pi : goal.returns-clause-pi
returns-clause-pi c = λ b x a t h k. record {
  reach = c.max.ensures ∙ ap₂ max h.reach (c.saturating_sub.ensures ∙ ap (λ n. n - 1) k.reach);
  metas = c.either.ensures ∙ ap₂ (◌||◌) h.metas k.metas;
  whole = c.joined.ensures _ _ _ _ h.whole k.whole;
  items = c.none.ensures;
}

pub returns-clause-lam : goal.returns-clause-lam
returns-clause-lam c = λ b x a t h k. record {
  reach = c.max.ensures ∙ ap₂ max h.reach (c.saturating_sub.ensures ∙ ap (λ n. n - 1) k.reach);
  metas = c.either.ensures ∙ ap₂ (◌||◌) h.metas k.metas;
  whole = c.joined.ensures _ _ _ _ h.whole k.whole;
  items = c.none.ensures;
}
