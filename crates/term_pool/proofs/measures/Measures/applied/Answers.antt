use Rattle.std.proofs.Common.{◌∙◌, ap₂, max, ◌||◌}
use Rattle.term_pool.proofs.measures.Measures.applied.Goals as goal

pub returns : goal.returns
returns c = λ b t u h k. record {
  reach = c.max.ensures ∙ ap₂ max h.reach k.reach;
  metas = c.either.ensures ∙ ap₂ (◌||◌) h.metas k.metas;
  whole = c.joined.ensures _ _ _ _ h.whole k.whole;
  items = c.beside.ensures _ _ _ _ h.whole k.items;
}
