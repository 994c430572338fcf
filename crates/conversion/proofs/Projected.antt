-- The projections of a term as arguments, from the last one on.
use Rattle.std.specs.Prelude.{◌≡◌, ℕ, ◌+◌, List, [], ◌∷◌, ◌++◌, length, map}
use Rattle.std.proofs.Common.{arith, ap, sym, ◌∙◌, subst, append_assoc, length-append}
use Rattle.std.proofs.lemmas.List.{map-append}
use Rattle.core_rules.specs.declared.Flag.{Flag}
use Rattle.core_rules.specs.Term.{Term, Proj}
use Rattle.weak_head.specs.declared.elim.Elim as E
use Rattle.weak_head.specs.declared.elim.Elim.TheVariants as V
use Rattle.weak_head.specs.Elims.{elim_in, spine_in, AreArgs, args_of}
use Rattle.conversion.specs.Arguments.{flag_of}
use Rattle.conversion.proofs.Zip.{spine_push}

module _ (f h : ℕ → Term) where
  pushed : (made : List E.Elim) (b : Flag) (u : ℕ) → spine_in h made ≡ spine_in f made → spine_in h (made ++ V.Arg b u ∷ []) ≡ elim_in h (V.Arg b u) ∷ spine_in f made
  pushed made b u e = spine_push h made (V.Arg b u) ∙ ap (λ l. elim_in h (V.Arg b u) ∷ l) e

  pub more_args : (made : List E.Elim) (b : Flag) (u : ℕ) → spine_in h made ≡ spine_in f made → AreArgs (spine_in f made) → AreArgs (spine_in h (made ++ V.Arg b u ∷ []))
  more_args made b u e a = subst AreArgs (sym (pushed made b u e)) (tt, a)

  pub more_terms : (t : Term) (ks : List ℕ) (made : List E.Elim) (k : ℕ) (b : Flag) (u : ℕ) → spine_in h made ≡ spine_in f made → h u ≡ Proj k t
      → map (λ k. Proj k t) ks ++ args_of (spine_in h (made ++ V.Arg b u ∷ [])) ≡ map (λ k. Proj k t) (ks ++ k ∷ []) ++ args_of (spine_in f made)
  more_terms t ks made k b u e i =
      ap (λ l. map (λ k. Proj k t) ks ++ l) (ap args_of (pushed made b u e) ∙ ap (λ v. v ∷ args_of (spine_in f made)) i)
      ∙ sym (append_assoc (map (λ k. Proj k t) ks) (Proj k t ∷ []) (args_of (spine_in f made)))
      ∙ ap (λ l. l ++ args_of (spine_in f made)) (sym (map-append (λ k. Proj k t) ks (k ∷ [])))

pub more_flags : (made xs : List E.Elim) (x : E.Elim) (b : Flag) (u : ℕ) → b ≡ flag_of x → map flag_of (made ++ V.Arg b u ∷ []) ++ map flag_of xs ≡ map flag_of made ++ map flag_of (x ∷ xs)
more_flags made xs x b u e =
    ap (λ l. l ++ map flag_of xs) (map-append flag_of made (V.Arg b u ∷ []))
    ∙ append_assoc (map flag_of made) (b ∷ []) (map flag_of xs) ∙ ap (λ c. map flag_of made ++ c ∷ map flag_of xs) e

pub one_less : {X Y : Type 0} (fs : List X) (xs : List Y) (ks : List X) (ys : List Y) (k : X) (y : Y) (m n : ℕ) → fs ≡ ks ++ k ∷ [] → xs ≡ y ∷ ys → length fs + n ≡ m + length xs → length ks + n ≡ m + length ys
one_less fs xs ks ys k y m n e h l = let a = ap length e ∙ length-append ks (k ∷ []) in let b = ap length h in omega (arith, a, b, l)
