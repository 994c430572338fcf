use Rattle.std.proofs.Common.{◌∙◌}
use Rattle.term_pool.proofs.Measured.{reach_items, has_meta_items}
use Rattle.term_pool.proofs.measures.Measures.over_items.Goals as goal

pub returns : goal.returns
returns c = λ k t l h. record {
  reach = h.reach ∙ reach_items t l;
  metas = h.metas ∙ has_meta_items t l;
  whole = c.above.ensures _ _ h.items;
  items = c.none.ensures;
}
