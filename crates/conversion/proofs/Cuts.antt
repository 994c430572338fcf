-- The last projection of eliminations, which comes first in code.
use Rattle.std.specs.Prelude.{◌≡◌, eqb, true, false, is_some, cond, ℕ, zero, suc, ◌+◌, ◌<◌, List, [], ◌∷◌, ◌++◌, length, map, reverse, take, drop, get_or, ◌-◌, slice_get, Option, Some, None, option_map, refl}
use Rattle.std.specs.List.{AllByRecursion}
use Rattle.std.proofs.Common.{arith, ap, sym, ◌∙◌}
use Rattle.std.proofs.lemmas.Grind.{common_steps}
use Rattle.std.proofs.lemmas.List.{reverse-append, map-append, append_assoc, take-append-drop, take_all, length-drop, length-map, length-reverse}
use Rattle.el_base.proofs.Throughout.{all-reverse, all-map}
use Rattle.core_rules.specs.Term.{Term}
use Rattle.core_rules.specs.Elimination.{Elim, Arg, Field, elims}
use Rattle.core_rules.specs.Bounded.{Decision, Cut, Pair, cut_more, last_field, by_field, same_heads, parts_or, with_part, argument_parts}
use Rattle.conversion.specs.declared.spine.Cut as C
use Rattle.conversion.specs.Spine.{cut_in}
use Rattle.conversion.specs.Forms.{by_cuts}
use Rattle.weak_head.specs.declared.elim.Elim as E
use Rattle.weak_head.specs.declared.elim.Elim.TheVariants as V
use Rattle.weak_head.specs.Elims.{elim_in, spine_in, IsArg, AreArgs}

drop_next : {X : Type 0} (xs : List X) (n : ℕ) (x : X) → slice_get xs n ≡ Some x → drop n xs ≡ x ∷ drop (n + 1) xs
drop_next [] n x e = absurd cc
drop_next (y ∷ xs) zero x e = cc e
drop_next (y ∷ xs) (suc n) x e = let i : suc n + 1 ≡ suc (n + 1) = omega arith in drop_next xs n x e ∙ ap (λ k. x ∷ drop k (y ∷ xs)) (sym i)

abbrev pub IsArgument : E.Elim → Type 0
IsArgument (V.Arg b u) = Unit {0}
IsArgument (V.Field k) = ⊥

no_field : (es : List Elim) → AreArgs es → last_field es ≡ None
no_field [] h = refl
no_field (Arg b u ∷ es) h = ap (cut_more (Arg b u) es) (no_field es h.1)
no_field (Field k ∷ es) h = absurd h.0

pub args_alone : (es : List Elim) → last_field es ≡ None → AreArgs es
args_alone [] e = tt
args_alone (Arg b u ∷ es) e = (tt, args_alone es (none_before (last_field es) e))
  where
    none_before : (o : Option Cut) → cut_more (Arg b u) es o ≡ None → o ≡ None
    none_before None h = refl
    none_before (Some c) h = absurd cc
args_alone (Field k ∷ es) e = absurd (some_field (last_field es) e)
  where
    some_field : (o : Option Cut) → cut_more (Field k) es o ≡ None → ⊥
    some_field None h = absurd cc
    some_field (Some c) h = absurd cc

field_then : (es ds : List Elim) (k : ℕ) → AreArgs ds → last_field (es ++ Field k ∷ ds) ≡ Some (record { before = es; field = k; after = ds })
field_then [] ds k h = ap (cut_more (Field k) ds) (no_field ds h)
field_then (Arg b u ∷ es) ds k h = ap (cut_more (Arg b u) (es ++ Field k ∷ ds)) (field_then es ds k h)
field_then (Field j ∷ es) ds k h = ap (cut_more (Field j) (es ++ Field k ∷ ds)) (field_then es ds k h)

arg_in : (f : ℕ → Term) (e : E.Elim) → IsArgument e → IsArg (elim_in f e)
arg_in f (V.Arg b u) h = tt
arg_in f (V.Field k) h = absurd h

args_in : (f : ℕ → Term) (xs : List E.Elim) → AllByRecursion IsArgument xs → AreArgs (spine_in f xs)
args_in f xs h = all-map IsArgument IsArg (elim_in f) (arg_in f) (reverse xs) (all-reverse IsArgument xs h)

pub none_last : (f : ℕ → Term) (xs : List E.Elim) → AllByRecursion IsArgument xs → None ≡ last_field (spine_in f xs)
none_last f xs h = sym (no_field (spine_in f xs) (args_in f xs h))

pub slice_at : {X : Type 0} (xs : List X) (n : ℕ) (d x : X) → n < length xs → get_or xs n d ≡ x → slice_get xs n ≡ Some x
slice_at [] n d x l e = absurd (omega (arith, l))
slice_at (y ∷ xs) zero d x l e = ap Some e
slice_at (y ∷ xs) (suc n) d x l e = slice_at xs n d x (omega (arith, l)) e

pub field_last : (f : ℕ → Term) (xs : List E.Elim) (n k : ℕ) → slice_get xs n ≡ Some (V.Field k) → AllByRecursion IsArgument (take n xs)
    → Some (record { before = spine_in f (take (length xs - (n + 1)) (drop (n + 1) xs)); field = k; after = spine_in f (take n xs) }) ≡ last_field (spine_in f xs)
field_last f xs n k e h =
    let after = take n xs in
    let before = drop (n + 1) xs in
    let split : xs ≡ after ++ V.Field k ∷ before = sym (take-append-drop n xs) ∙ ap (λ l. after ++ l) (drop_next xs n (V.Field k) e) in
    let turned : reverse xs ≡ reverse before ++ V.Field k ∷ reverse after = ap reverse split ∙ reverse-append after (V.Field k ∷ before) ∙ ap (λ l. l ++ reverse after) (reverse-append (V.Field k ∷ []) before) ∙ append_assoc (reverse before) (V.Field k ∷ []) (reverse after) in
    let whole = take_all (length xs - (n + 1)) before (omega (arith, length-drop (n + 1) xs)) in
    ap (λ l. Some (record { before = spine_in f l; field = k; after = spine_in f after })) whole
    ∙ sym (ap last_field (ap (map (elim_in f)) turned ∙ map-append (elim_in f) (reverse before) (V.Field k ∷ reverse after)) ∙ field_then (spine_in f before) (spine_in f after) k (args_in f after h))

-- ---- two projections

pub same_number : (i j : ℕ) → i ≡ j → eqb i j ≡ true
same_number i j e = grind (arith, common_steps)

pub by_cuts_same : (q : Decision) (h : Term) (c : Cut) (k : Term) (d : Cut) → c.field ≡ d.field → by_cuts q h c k d ≡ parts_or q (with_part (Pair [] (elims h c.before) (elims k d.before)) (argument_parts c.after d.after))
by_cuts_same q h c k d e = ap (λ b. cond b (parts_or q (with_part (Pair [] (elims h c.before) (elims k d.before)) (argument_parts c.after d.after))) q) (same_number c.field d.field e)

-- ---- two forms by their last projections

module _ (q : Decision) (h : Term) (es : List Elim) (k : Term) (ds : List Elim) where
  pub cuts_both : (c d : Cut) → Some c ≡ last_field es → Some d ≡ last_field ds → by_cuts q h c k d ≡ by_field q h es k ds (last_field es) (last_field ds)
  cuts_both c d e f = let a : _ = λ i. by_field q h es k ds (e i) (f i) in a

  pub cuts_none : None ≡ last_field es → None ≡ last_field ds → same_heads q h es k ds ≡ by_field q h es k ds (last_field es) (last_field ds)
  cuts_none e f = let a : _ = λ i. by_field q h es k ds (e i) (f i) in a

  pub cuts_left : (c : Cut) → Some c ≡ last_field es → None ≡ last_field ds → q ≡ by_field q h es k ds (last_field es) (last_field ds)
  cuts_left c e f = let a : _ = λ i. by_field q h es k ds (e i) (f i) in a

  pub cuts_right : (d : Cut) → None ≡ last_field es → Some d ≡ last_field ds → q ≡ by_field q h es k ds (last_field es) (last_field ds)
  cuts_right d e f = let a : _ = λ i. by_field q h es k ds (e i) (f i) in a

-- ---- what the code knows of a last projection

pub args_by : (f : ℕ → Term) (es : List Elim) (o : Option C.Cut) → is_some o ≡ false → option_map (cut_in f) o ≡ last_field es → AreArgs es
args_by f es None e h = args_alone es (sym h)
args_by f es (Some c) e h = absurd cc

pub no_args_by : (f : ℕ → Term) (es : List Elim) (o : Option C.Cut) → is_some o ≡ true → option_map (cut_in f) o ≡ last_field es → AreArgs es → ⊥
no_args_by f es None e h a = absurd cc
no_args_by f es (Some c) e h a = absurd (let n = h ∙ no_field es a in cc)

pub length_spine : (f : ℕ → Term) (xs : List E.Elim) → length (spine_in f xs) ≡ length xs
length_spine f xs = length-map (reverse xs) (elim_in f) ∙ length-reverse xs
