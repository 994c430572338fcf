-- The eliminations of a spine, and their arguments.
use Rattle.std.specs.Prelude.{◌≡◌, ℕ, zero, suc, ◌+◌, ◌-◌, ◌<◌, ◌≤◌, List, [], ◌∷◌, ◌++◌, length, map, reverse, take, drop, slice_get, Option, Some, None, option_map, refl}
use Rattle.std.proofs.Common.{arith, sym, ap, ◌∙◌, subst, ⊎_elim}
use Rattle.std.proofs.lemmas.List.{reverse-append, take-append-drop, drop_at, drop_all, length-reverse, length-drop, map-append, append-nil}
use Rattle.std.proofs.lemmas.Option.{slice_get-map, slice_get_within}
use Rattle.std.proofs.lemmas.Bool.{cases_lt}
use Rattle.core_rules.specs.declared.Flag.{Flag}
use Rattle.core_rules.specs.Term.{Term}
use Rattle.core_rules.specs.Elimination.{Elim, Arg, Field}
use Rattle.el_base.proofs.Throughout.{all-append, all-reverse, all-at}
use Rattle.weak_head.specs.Elims.{elim_in, spine_in, Below, AllBelow, IsArg, AreArgs, args_of, IsFieldAt}
use Rattle.weak_head.specs.declared.elim.Elim as E
use Rattle.weak_head.specs.declared.elim.Elim.TheVariants as V

pub map-drop : {X Y : Type 0} (f : X → Y) (n : ℕ) (xs : List X) → map f (drop n xs) ≡ drop n (map f xs)
map-drop f zero xs = refl
map-drop f (suc n) [] = refl
map-drop f (suc n) (x ∷ xs) = map-drop f n xs

-- the items before the last n, reversed
pub drop_reverse : {X : Type 0} (n : ℕ) (xs : List X) → reverse (take (length xs - n) xs) ≡ drop n (reverse xs)
drop_reverse {X} n xs = ⊎_elim
    (λ (h : n < length xs).
    let m = length xs - n in
    let e : reverse xs ≡ reverse (drop m xs) ++ reverse (take m xs) = ap reverse (sym (take-append-drop m xs)) ∙ reverse-append (take m xs) (drop m xs) in
    let l : length (reverse (drop m xs)) ≡ n = omega (arith, length-reverse (drop m xs), length-drop m xs) in
    sym (ap (drop n) e ∙ drop_at (reverse (drop m xs)) (reverse (take m xs)) n l))
    (λ (h : length xs ≤ n).
    let z : length xs - n ≡ 0 = omega arith in
    ap (λ k. reverse (take k xs)) z ∙ sym (drop_all n (reverse xs) (omega (arith, length-reverse xs))))
    (cases_lt n (length xs))

pub spine_without : (f : ℕ → Term) (n : ℕ) (xs ys : List E.Elim) → ys ≡ take (length xs - n) xs → spine_in f ys ≡ drop n (spine_in f xs)
spine_without f n xs ys e = ap (spine_in f) e ∙ ap (map (elim_in f)) (drop_reverse n xs) ∙ map-drop (elim_in f) n (reverse xs)

pub take_next : {X : Type 0} (xs : List X) (n : ℕ) (x : X) → slice_get xs n ≡ Some x → take (n + 1) xs ≡ take n xs ++ x ∷ []
take_next [] n x e = absurd cc
take_next (y ∷ xs) zero x e = cc e
take_next (y ∷ xs) (suc n) x e = let i : suc n + 1 ≡ suc (n + 1) = omega arith in ap (λ k. take k (y ∷ xs)) i ∙ ap (λ l. y ∷ l) (take_next xs n x e)

pub take_end : {X : Type 0} (xs : List X) (n : ℕ) → slice_get xs n ≡ None → take n xs ≡ xs
take_end [] zero e = refl
take_end [] (suc n) e = refl
take_end (x ∷ xs) zero e = absurd cc
take_end (x ∷ xs) (suc n) e = ap (λ l. x ∷ l) (take_end xs n e)

pub drop_next : {X : Type 0} (xs : List X) (n : ℕ) (x : X) → slice_get xs n ≡ Some x → drop n xs ≡ x ∷ drop (n + 1) xs
drop_next [] n x e = absurd cc
drop_next (y ∷ xs) zero x e = cc e
drop_next (y ∷ xs) (suc n) x e = let i : suc n + 1 ≡ suc (n + 1) = omega arith in drop_next xs n x e ∙ ap (λ k. x ∷ drop k (y ∷ xs)) (sym i)

pub drop_end : {X : Type 0} (xs : List X) (n : ℕ) → slice_get xs n ≡ None → drop n xs ≡ []
drop_end [] zero e = refl
drop_end [] (suc n) e = refl
drop_end (x ∷ xs) zero e = absurd cc
drop_end (x ∷ xs) (suc n) e = drop_end xs n e

-- elimination n in code and in the rules
pub elim_at : (f : ℕ → Term) (xs : List E.Elim) (n : ℕ) (o : Option E.Elim) → o ≡ slice_get (reverse xs) n → slice_get (spine_in f xs) n ≡ option_map (elim_in f) o
elim_at f xs n o e = slice_get-map (elim_in f) (reverse xs) n ∙ ap (option_map (elim_in f)) (sym e)

pub in_reach : {X : Type 0} (xs : List X) (n : ℕ) (x : X) → Some x ≡ slice_get (reverse xs) n → n < length xs
in_reach xs n x e = let h = slice_get_within (reverse xs) n x (sym e) in omega (arith, h, length-reverse xs)

pub args_first : (f : ℕ → Term) (xs : List E.Elim) → AreArgs (take 0 (spine_in f xs))
args_first f xs = tt

pub args_next : (f : ℕ → Term) (xs : List E.Elim) (n : ℕ) (x : E.Elim) → Some x ≡ slice_get (reverse xs) n → IsArg (elim_in f x) → AreArgs (take n (spine_in f xs)) → AreArgs (take (n + 1) (spine_in f xs))
args_next f xs n x e i h = subst AreArgs (sym (take_next (spine_in f xs) n (elim_in f x) (elim_at f xs n (Some x) e))) (all-append IsArg (take n (spine_in f xs)) (elim_in f x ∷ []) h (i, tt))

pub args_end : (f : ℕ → Term) (xs : List E.Elim) (n : ℕ) → None ≡ slice_get (reverse xs) n → AreArgs (take n (spine_in f xs)) → AreArgs (spine_in f xs)
args_end f xs n e h = subst AreArgs (take_end (spine_in f xs) n (elim_at f xs n None e)) h

pub field_at : (f : ℕ → Term) (xs : List E.Elim) (n k : ℕ) → Some (V.Field k) ≡ slice_get (reverse xs) n → AreArgs (take n (spine_in f xs)) → IsFieldAt (spine_in f xs) n k
field_at f xs n k e h = record { is = elim_at f xs n (Some (V.Field k)) e; before = h }

args_of-append : (es ds : List Elim) → args_of (es ++ ds) ≡ args_of es ++ args_of ds
args_of-append [] ds = refl
args_of-append (Arg b u ∷ es) ds = ap (λ l. u ∷ l) (args_of-append es ds)
args_of-append (Field k ∷ es) ds = args_of-append es ds

-- the arguments among the first eliminations, one more each time
pub gathered_next : (f : ℕ → Term) (xs : List E.Elim) (n : ℕ) (x : E.Elim) → Some x ≡ slice_get (reverse xs) n → args_of (take (n + 1) (spine_in f xs)) ≡ args_of (take n (spine_in f xs)) ++ args_of (elim_in f x ∷ [])
gathered_next f xs n x e = ap args_of (take_next (spine_in f xs) n (elim_in f x) (elim_at f xs n (Some x) e)) ∙ args_of-append (take n (spine_in f xs)) (elim_in f x ∷ [])

pub gathered_all : (f : ℕ → Term) (xs : List E.Elim) (n : ℕ) → None ≡ slice_get (reverse xs) n → args_of (take n (spine_in f xs)) ≡ args_of (spine_in f xs)
gathered_all f xs n e = ap args_of (take_end (spine_in f xs) n (elim_at f xs n None e))

pub none_of : {X : Type 0} (o : Option X) → ((x : X) → o ≡ Some x → ⊥) → o ≡ None
none_of None h = refl
none_of (Some x) h = absurd (h x refl)

pub below_at : (k : ℕ) (xs : List E.Elim) (n : ℕ) (x : E.Elim) → Some x ≡ slice_get (reverse xs) n → AllBelow k xs → Below k x
below_at k xs n x e h = all-at (Below k) (reverse xs) n x (all-reverse (Below k) xs h) (sym e)

pub gathered_arg : (f : ℕ → Term) (xs : List E.Elim) (n : ℕ) (b : Flag) (u : ℕ) (all more : List ℕ) → Some (V.Arg b u) ≡ slice_get (reverse xs) n → map f all ≡ args_of (take n (spine_in f xs)) → more ≡ all ++ u ∷ [] → map f more ≡ args_of (take (n + 1) (spine_in f xs))
gathered_arg f xs n b u all more e h m = ap (map f) m ∙ map-append f all (u ∷ []) ∙ ap (λ l. l ++ f u ∷ []) h ∙ sym (gathered_next f xs n (V.Arg b u) e)

pub gathered_field : (f : ℕ → Term) (xs : List E.Elim) (n k : ℕ) (all : List ℕ) → Some (V.Field k) ≡ slice_get (reverse xs) n → map f all ≡ args_of (take n (spine_in f xs)) → map f all ≡ args_of (take (n + 1) (spine_in f xs))
gathered_field f xs n k all e h = h ∙ sym (gathered_next f xs n (V.Field k) e ∙ append-nil (args_of (take n (spine_in f xs))))
