-- A turn of the loop that reads lines.
use Rattle.std.proofs.Common.{◌≡◌, ℕ, ◌+◌, ◌-◌, ◌<◌, List, [], ◌∷◌, ◌++◌, Option, Some, Ok, sym, ap, ◌∙◌}
use Rattle.parse_laws.specs.Parser.{Outcome, Parser, and_then, on_item, many_from}
use Rattle.expr_parser.proofs.Turns.{one_more}

pub turned : {S A : Type 0} (item : Parser S (Option A)) (n i : ℕ) (found new : List A) (x : A) (s t : List S) (all : Outcome S (List A))
    → i < n → all ≡ many_from (λ _. item) (n - i) found s → item s ≡ Ok (Some x, t) → new ≡ found ++ x ∷ [] → all ≡ many_from (λ _. item) (n - (i + 1)) new t
unfolding many_from
turned {S = S} {A = A} item n i found new x s t all lt so is push =
    so ∙ one_more (λ (m : ℕ). many_from (λ _. item) m found s) n i lt
    ∙ ap (λ (o : Outcome S (Option A)). and_then o (on_item found (many_from (λ _. item) (n - (i + 1))))) is
    ∙ ap (λ (y : List A). many_from (λ _. item) (n - (i + 1)) y t) (sym push)
