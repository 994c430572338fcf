use Rattle.std.proofs.Common.{◌++◌, ◌∷◌, [], ap, sym, ◌∙◌, append_assoc}
use Rattle.core_terms.specs.Signature.{places_of}
use Rattle.core_terms.proofs.Declared.{places-next}
use Rattle.core_terms.proofs.signature.put_places.Goals as goal

pub loop-i-preserved : goal.loop-i-preserved
loop-i-preserved c =
    (rw c.in-Ok.is at c.push.ensures.items)
    ∙ (ap (λ xs. xs ++ (c.args.fam, c.loop-i.i) ∷ []) c.loop-i.invariant
    ∙ (append_assoc c.args.places.now.items (places_of c.args.fam c.loop-i.i) ((c.args.fam, c.loop-i.i) ∷ [])
    ∙ ap (λ xs. c.args.places.now.items ++ xs) (sym (places-next c.args.fam c.loop-i.i))))
