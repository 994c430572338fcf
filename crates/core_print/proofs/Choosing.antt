-- The names of the variables of a left side, as they are chosen one after the other.
use Rattle.std.proofs.Common.{◌≡◌, ℕ, ◌+◌, ◌<◌, Bool, true, false, cond, List, [], ◌∷◌, ◌++◌, length, map, reverse, take, get_or, zero, suc, refl, sym, ap, ◌∙◌, arith}
use Rattle.el_base.proofs.Lists.{map-reverse, reverse_push}
use Rattle.core_rules.specs.Signature.{numbers}
use Rattle.core_print.specs.Apart.{Text}
use Rattle.core_print.specs.Labels.{label_text}
use Rattle.core_print.specs.LeftSide.{own_names}
use Rattle.core_print.specs.Names.{World, name_text}
use Rattle.core_print.specs.Pages.{bound_in}
use Rattle.core_print.specs.Variables.{WrittenVar}
use Rattle.core_print.specs.declared.pattern_names.Bound.{Bound}
use Rattle.core_print.proofs.Contexts.{take_more}

pub bound_push : (ns : List Text) (bs ds : List Bound) (b : Bound) → ds ≡ bs ++ b ∷ [] → bound_in ns ds ≡ (b.place, label_text ns b.label) ∷ bound_in ns bs
bound_push ns bs ds b e = ap (map (λ b. (b.place, label_text ns b.label))) (ap reverse e ∙ reverse_push bs b)

pub bound_next : (ns : List Text) (bs : List Bound) (i : ℕ) (b : Bound) → i < length bs → b ≡ get_or bs i b → bound_in ns (take (i + 1) bs) ≡ (b.place, label_text ns b.label) ∷ bound_in ns (take i bs)
bound_next ns bs i b l e = bound_push ns (take i bs) (take (i + 1) bs) b (take_more bs i b l e)

labels-map : (ns : List Text) (bs : List Bound) → map (label_text ns) (map (λ b. b.label) bs) ≡ map (λ (n : ℕ × Text). n.1) (map (λ (b : Bound). (b.place, label_text ns b.label)) bs)
labels-map ns [] = refl
labels-map ns (b ∷ bs) = ap (λ (xs : List Text). label_text ns b.label ∷ xs) (labels-map ns bs)

-- the names so far
pub names_so_far : (ns : List Text) (bs : List Bound) → map (label_text ns) (reverse (map (λ b. b.label) bs)) ≡ map (λ (n : ℕ × Text). n.1) (bound_in ns bs)
names_so_far ns bs = ap (map (label_text ns)) (sym (map-reverse (λ b. b.label) bs)) ∙ labels-map ns (reverse bs)

pub own_next : (w : World) (v : WrittenVar) (vs : List WrittenVar) → own_names w (v ∷ vs) ≡ own_names w (v ∷ []) ++ own_names w vs
own_next w v vs = by (v.fresh)
  where
    by : (b : Bool) → cond b (own_names w vs) (name_text w.names v.name ∷ own_names w vs) ≡ cond b [] (name_text w.names v.name ∷ []) ++ own_names w vs
    by true = refl
    by false = refl

numbers_suc : (k n : ℕ) → numbers k (suc n) ≡ numbers k n ++ (k + n) ∷ []
numbers_suc k zero = let e : k ≡ k + 0 = omega arith in ap (λ i. i ∷ []) e
numbers_suc k (suc n) = let e : k + 1 + n ≡ k + suc n = omega arith in ap (λ (ns : List ℕ). k ∷ ns) (numbers_suc (k + 1) n ∙ ap (λ i. numbers (k + 1) n ++ i ∷ []) e)

pub numbers_more : (n : ℕ) → numbers 0 (n + 1) ≡ numbers 0 n ++ n ∷ []
numbers_more n =
    let e : n + 1 ≡ suc n = omega arith in
    let z : 0 + n ≡ n = omega arith in
    ap (numbers 0) e ∙ (numbers_suc 0 n ∙ ap (λ i. numbers 0 n ++ i ∷ []) z)
