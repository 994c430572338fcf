-- A constructor at parameters on new variables.
use Rattle.std.proofs.Common.{◌≡◌, ℕ, List, [], ◌∷◌, length, map, refl, sym, ap, ◌∙◌}
use Rattle.std.proofs.lemmas.List.{length-map}
use Rattle.core_rules.specs.Term.{Term, Con, from_list}
use Rattle.core_rules.specs.Substitution.{shift}
use Rattle.core_rules.specs.Signature.{Entry}
use Rattle.core_rules.specs.Mapped.{entry_map, telescope_map}
use Rattle.core_rules.specs.Elimination.{Arg, elims, args, vars_from}
use Rattle.core_rules.specs.TypedTree.{new_con}

-- the flags of entries alone are looked at
args-flags : (f k : ℕ → Term) (es : List (Entry ℕ)) (ts : List Term) → args (telescope_map f es) ts ≡ args (telescope_map k es) ts
args-flags f k [] ts = refl
args-flags f k (e ∷ es) [] = refl
args-flags f k (e ∷ es) (t ∷ ts) = ap (λ xs. Arg e.flag t ∷ xs) (args-flags f k es ts)

pub new_con-is : (f k : ℕ → Term) (con n : ℕ) (h : Term) (ts ps : List Term) (es : List (Entry ℕ)) → h ≡ Con con (from_list ts) → ts ≡ map (λ t. shift t 0 n) ps
    → n ≡ length es
    → elims h (args (telescope_map k es) (vars_from 0 (length es))) ≡ new_con con ps (telescope_map f es)
new_con-is f k con n h ts ps es e r m =
    let N : ℕ = length es in
    let W : ℕ → Term = λ i. elims (Con con (from_list (map (λ t. shift t 0 i) ps))) (args (telescope_map f es) (vars_from 0 i)) in
    let x : h ≡ Con con (from_list (map (λ t. shift t 0 N) ps)) = e
    ∙ (ap (λ (us : List Term). Con con (from_list us)) r ∙ ap (λ i. Con con (from_list (map (λ t. shift t 0 i) ps))) m) in
    ap (λ (t : Term). elims t (args (telescope_map k es) (vars_from 0 N))) x
    ∙ (ap (elims (Con con (from_list (map (λ t. shift t 0 N) ps)))) (args-flags k f es (vars_from 0 N)) ∙ ap W (sym (length-map es (entry_map f))))
