-- The tokens alone, one more a turn.
use Rattle.std.proofs.Common.{◌≡◌, ℕ, ◌+◌, ◌<◌, List, [], ◌∷◌, ◌++◌, length, drop, sym, ap, ◌∙◌, append_assoc, arith}
use Rattle.std.proofs.lemmas.List.{at_drop_more}
use Rattle.agda_lexer.specs.declared.Token.{Token}
use Rattle.agda_layout.specs.declared.laid.Laid.{Laid}
use Rattle.agda_layout.specs.declared.laid.Laid.TheVariants.{Tok}
use Rattle.agda_layout.specs.Blocks.{alone}

alone_drop : (ts : List Token) (i : ℕ) → i < length ts → alone i (drop i ts) ≡ Tok i ∷ alone (i + 1) (drop (i + 1) ts)
alone_drop [] i lt = absurd (omega arith)
alone_drop (t ∷ ts) i lt = at_drop_more (alone i) (t ∷ ts) i t lt

pub one_more : (out out' : List Laid) (ts : List Token) (i : ℕ) (total : List Laid) → i < length ts → out' ≡ out ++ Tok i ∷ [] → out ++ alone i (drop i ts) ≡ total → out' ++ alone (i + 1) (drop (i + 1) ts) ≡ total
one_more out out' ts i total lt is before = rw is (append_assoc out (Tok i ∷ []) (alone (i + 1) (drop (i + 1) ts)) ∙ ap (λ (x : List Laid). out ++ x) (sym (alone_drop ts i lt)) ∙ before)
