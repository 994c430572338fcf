-- The arguments of two spines as parts, from the last one on.
use Rattle.std.specs.Prelude.{◌≡◌, ◌==◌, ℕ, Bool, true, false, cond, List, [], ◌∷◌, ◌++◌, length, map, reverse, Option, Some, None, option_map, option_and_then, refl}
use Rattle.std.proofs.Common.{rules, ap, sym, ◌∙◌}
use Rattle.std.proofs.lemmas.List.{append-nil, append_assoc, reverse-append, map-append}
use Rattle.el_base.proofs.Lists.{reverse_push}
use Rattle.core_rules.specs.Term.{Term}
use Rattle.core_rules.specs.Elimination.{Elim, Arg, Field}
use Rattle.core_rules.specs.Bounded as B
use Rattle.core_rules.specs.Bounded.{Pair, argument_parts, same_flag, with_part}
use Rattle.weak_head.specs.declared.elim.Elim as E
use Rattle.weak_head.specs.Elims.{elim_in, spine_in}
use Rattle.conversion.specs.declared.arguments.Part.{Part}
use Rattle.conversion.specs.Part.{part_in, all_in}
use Rattle.conversion.specs.Arguments.{argument_part}

-- the last elimination comes first in code
pub spine_cons : (f : ℕ → Term) (x : E.Elim) (xs : List E.Elim) → spine_in f (x ∷ xs) ≡ spine_in f xs ++ elim_in f x ∷ []
spine_cons f x xs = ap (map (elim_in f)) (reverse-append (x ∷ []) xs) ∙ map-append (elim_in f) (reverse xs) (x ∷ [])

pub spine_push : (f : ℕ → Term) (xs : List E.Elim) (x : E.Elim) → spine_in f (xs ++ x ∷ []) ≡ elim_in f x ∷ spine_in f xs
spine_push f xs x = ap (map (elim_in f)) (reverse_push xs x)

pub all_push : (f : ℕ → Term) (ps : List Part) (x : Part) → all_in f (ps ++ x ∷ []) ≡ part_in f x ∷ all_in f ps
all_push f ps x = ap (map (part_in f)) (reverse_push ps x)

-- parts before others
abbrev pub onto : List B.Part → Option (List B.Part) → Option (List B.Part)
onto ps o = option_map (λ qs. qs ++ ps) o

pub onto_none : (o : Option (List B.Part)) → o ≡ onto [] o
onto_none None = refl
onto_none (Some qs) = ap Some (sym (append-nil qs))

onto_onto : (ps qs : List B.Part) (o : Option (List B.Part)) → onto ps (onto qs o) ≡ onto (qs ++ ps) o
onto_onto ps qs None = refl
onto_onto ps qs (Some rs) = ap Some (append_assoc rs qs ps)

abbrev more : Option (List B.Part) → Option B.Part → Option (List B.Part)
more o p = option_and_then (λ p. onto (p ∷ []) o) p

no_more : (p : Option B.Part) → ◌≡◌ {A = Option (List B.Part)} None (more None p)
no_more None = refl
no_more (Some p) = refl

with_more : (p : B.Part) (o : Option (List B.Part)) (q : Option B.Part) → with_part p (more o q) ≡ more (with_part p o) q
with_more p None None = refl
with_more p None (Some q) = refl
with_more p (Some ps) None = refl
with_more p (Some ps) (Some q) = refl

pub none_left : (ds : List Elim) (d : Elim) → argument_parts [] (ds ++ d ∷ []) ≡ None
none_left [] d = refl
none_left (c ∷ ds) d = refl

pub none_right : (es : List Elim) (e : Elim) → argument_parts (es ++ e ∷ []) [] ≡ None
none_right [] (Arg b u) = refl
none_right [] (Field k) = refl
none_right (Arg b u ∷ es) e = refl
none_right (Field k ∷ es) e = refl

if_flags : (b : Bool) (p : B.Part) (o x : Option (List B.Part)) (q : Option B.Part) → x ≡ more o q → cond b (with_part p x) None ≡ more (cond b (with_part p o) None) q
if_flags true p o x q h = ap (with_part p) h ∙ with_more p o q
if_flags false p o x q h = no_more q

no_tail : (b : Bool) (p : B.Part) (x : Option (List B.Part)) (q : Option B.Part) → x ≡ None → cond b (with_part p x) None ≡ more None q
no_tail true p x q h = ap (with_part p) h ∙ no_more q
no_tail false p x q h = no_more q

-- one argument more on both sides
pub parts_push : (es ds : List Elim) (e d : Elim) → argument_parts (es ++ e ∷ []) (ds ++ d ∷ []) ≡ more (argument_parts es ds) (argument_part e d)
parts_push [] [] (Arg b u) (Arg c v) = elim (same_flag b c) as (λ o. cond o (Some (Pair [] u v ∷ [])) None ≡ more (Some []) (cond o (Some (Pair [] u v)) None)) [ true ↦ refl | false ↦ refl ]
parts_push [] [] (Arg b u) (Field k) = refl
parts_push [] [] (Field k) d = refl
parts_push [] (Arg c v ∷ ds) (Arg b u) d = no_tail (same_flag b c) (Pair [] u v) (argument_parts [] (ds ++ d ∷ [])) (argument_part (Arg b u) d) (none_left ds d)
parts_push [] (Field k ∷ ds) (Arg b u) d = no_more (argument_part (Arg b u) d)
parts_push [] (c ∷ ds) (Field k) d = refl
parts_push (Arg b u ∷ es) [] e (Arg c v) = no_tail (same_flag b c) (Pair [] u v) (argument_parts (es ++ e ∷ []) []) (argument_part e (Arg c v)) (none_right es e)
parts_push (Arg b u ∷ es) [] e (Field k) = no_more (argument_part e (Field k))
parts_push (Field j ∷ es) [] e d = no_more (argument_part e d)
parts_push (Arg b u ∷ es) (Arg c v ∷ ds) e d = if_flags (same_flag b c) (Pair [] u v) (argument_parts es ds) (argument_parts (es ++ e ∷ []) (ds ++ d ∷ [])) (argument_part e d) (parts_push es ds e d)
parts_push (Arg b u ∷ es) (Field k ∷ ds) e d = no_more (argument_part e d)
parts_push (Field j ∷ es) (c ∷ ds) e d = no_more (argument_part e d)

module _ (f : ℕ → Term) where
  abbrev parts_of : List E.Elim → List E.Elim → Option (List B.Part)
  parts_of xs ys = argument_parts (spine_in f xs) (spine_in f ys)

  pub zip_start : (xs ys : List E.Elim) → parts_of xs ys ≡ onto (all_in f []) (parts_of xs ys)
  zip_start xs ys = onto_none (parts_of xs ys)

  zip_step : (x y : E.Elim) (xs ys : List E.Elim) (o : Option B.Part) → argument_part (elim_in f x) (elim_in f y) ≡ o → parts_of (x ∷ xs) (y ∷ ys) ≡ more (parts_of xs ys) o
  zip_step x y xs ys o e =
      let a : _ = λ i. argument_parts (spine_cons f x xs i) (spine_cons f y ys i) in
      a ∙ parts_push (spine_in f xs) (spine_in f ys) (elim_in f x) (elim_in f y) ∙ ap (more (parts_of xs ys)) e

  pub zip_next : (x y : E.Elim) (xs ys : List E.Elim) (ps qs : List Part) (p : Part) (o : Option (List B.Part)) → Some (part_in f p) ≡ argument_part (elim_in f x) (elim_in f y) → qs ≡ ps ++ p ∷ []
      → o ≡ onto (all_in f ps) (parts_of (x ∷ xs) (y ∷ ys)) → o ≡ onto (all_in f qs) (parts_of xs ys)
  zip_next x y xs ys ps qs p o e h k =
      k ∙ ap (onto (all_in f ps)) (zip_step x y xs ys (Some (part_in f p)) (sym e))
      ∙ onto_onto (all_in f ps) (part_in f p ∷ []) (parts_of xs ys)
      ∙ ap (λ l. onto l (parts_of xs ys)) (sym (ap (all_in f) h ∙ all_push f ps p))

  pub zip_differ : (x y : E.Elim) (xs ys : List E.Elim) (ps : List Part) (o : Option (List B.Part)) → None ≡ argument_part (elim_in f x) (elim_in f y) → o ≡ onto (all_in f ps) (parts_of (x ∷ xs) (y ∷ ys)) → None ≡ o
  zip_differ x y xs ys ps o e k = sym (k ∙ ap (onto (all_in f ps)) (zip_step x y xs ys None (sym e)))

  pub zip_short : (x : E.Elim) (xs : List E.Elim) (ps : List Part) (o : Option (List B.Part)) → o ≡ onto (all_in f ps) (parts_of (x ∷ xs) []) → None ≡ o
  zip_short x xs ps o k = sym (k ∙ ap (onto (all_in f ps)) (ap (λ es. argument_parts es []) (spine_cons f x xs) ∙ none_right (spine_in f xs) (elim_in f x)))

  pub zip_long : (y : E.Elim) (ys : List E.Elim) (ps : List Part) (o : Option (List B.Part)) → o ≡ onto (all_in f ps) (parts_of [] (y ∷ ys)) → None ≡ o
  zip_long y ys ps o k = sym (k ∙ ap (onto (all_in f ps)) (ap (λ es. argument_parts [] es) (spine_cons f y ys) ∙ none_left (spine_in f ys) (elim_in f y)))

  pub zip_end : (ps : List Part) (o : Option (List B.Part)) → o ≡ onto (all_in f ps) (parts_of [] []) → Some (all_in f ps) ≡ o
  zip_end ps o k = sym k

  pub zip_rest : (ys : List E.Elim) (ps : List Part) (o : Option (List B.Part)) → (length ys == 0) ≡ false → o ≡ onto (all_in f ps) (parts_of [] ys) → None ≡ o
  zip_rest [] ps o n k = search rules
  zip_rest (y ∷ ys) ps o n k = zip_long y ys ps o k
