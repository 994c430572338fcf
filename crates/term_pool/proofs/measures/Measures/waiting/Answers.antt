use Rattle.std.proofs.Common.{◌∙◌, refl}
use Rattle.term_pool.proofs.Measured.{reach_items}
use Rattle.term_pool.proofs.measures.Measures.waiting.Goals as goal

pub returns : goal.returns
returns c = λ m t l h. record {
  reach = h.reach ∙ reach_items t l;
  metas = refl;
  whole = c.above.ensures _ _ h.items;
  items = c.none.ensures;
}
