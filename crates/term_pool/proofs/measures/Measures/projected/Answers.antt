use Rattle.term_pool.proofs.measures.Measures.projected.Goals as goal

pub returns : goal.returns
returns c = λ f t h. record {
  reach = h.reach;
  metas = h.metas;
  whole = c.above.ensures _ _ h.whole;
  items = c.none.ensures;
}
