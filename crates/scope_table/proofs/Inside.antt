-- Variables with others inside of them.
use Rattle.std.proofs.Common.{◌≡◌, ◌<◌, ℕ, List, [], ◌∷◌, ◌++◌, refl, ap, ◌∙◌, sym, append_assoc, length, drop, arith}
use Rattle.scope_table.specs.Known.{Inside}

pub inside-refl : (ls : List (List ℕ)) → Inside ls ls
inside-refl ls = record { more = []; is = refl }

pub inside-push : (ls : List (List ℕ)) (x : List ℕ) → Inside ls (x ∷ ls)
inside-push ls x = record { more = x ∷ []; is = refl }

pub inside-trans : (ls ms ns : List (List ℕ)) → Inside ls ms → Inside ms ns → Inside ls ns
inside-trans ls ms ns a b = record { more = b.more ++ a.more; is = b.is ∙ ap (λ (l : List (List ℕ)). b.more ++ l) a.is ∙ sym (append_assoc b.more a.more ls) }

drop_first : {A : Type 0} (xs more ys : List A) → xs ≡ more ++ ys → length ys < length xs → (rest : List A) × (drop 1 xs ≡ rest ++ ys)
drop_first xs [] ys e lt = absurd (omega (arith, ap length e))
drop_first xs (x ∷ more) ys e lt = (more, ap (drop 1) e)

pub inside-drop : (outer ls : List (List ℕ)) → Inside outer ls → length outer < length ls → Inside outer (drop 1 ls)
inside-drop outer ls inside lt = let rest = drop_first ls inside.more outer inside.is lt in record { more = rest.0; is = rest.1 }

pub ruleset inside = (inside-refl, inside-push, inside-trans)
