-- The equations of two lists of arguments: what is made of those that were gone through.
use Rattle.std.specs.Prelude.{◌≡◌, ◌++◌, ◌==◌, ℕ, length, true, false, not, List, [], ◌∷◌, map, reverse, Option, Some, None, refl}
use Rattle.std.specs.List.{AllByRecursion}
use Rattle.std.proofs.Common.{rules, sym, ap, ◌∙◌, subst}
use Rattle.std.proofs.lemmas.List.{append_assoc, map-append, reverse-reverse}
use Rattle.el_base.proofs.Lists.{map-reverse}
use Rattle.el_base.proofs.Throughout.{all-parts, all-push, all-reverse}
use denote.Enum.Bare.{sameb}
use Rattle.core_rules.specs.contracts.Flag.{the_type}
use Rattle.core_rules.specs.declared.Flag.{Flag}
use Rattle.core_rules.specs.declared.Flag.TheVariants.{Explicit, Implicit}
use Rattle.core_rules.specs.Term.{Term}
use Rattle.core_rules.specs.Elimination.{Elim, Arg, Field}
use Rattle.core_rules.specs.Unification as U
use Rattle.core_rules.specs.Unification.{Pairs, no_pair, pair}
use Rattle.index_unify.specs.declared.equation.Equation.{Equation}
use Rattle.index_unify.specs.declared.constructors.Argument.{Argument}
use Rattle.index_unify.specs.Unified.{equation_in}
use Rattle.index_unify.specs.Constructors.{argument_in, arguments_in, AllArguments, AllSides}

pub not_empty : {X : Type 0} (xs : List X) → (length xs == 0) ≡ false → xs ≡ [] → ⊥
not_empty [] e n = absurd (search rules)
not_empty (x ∷ xs) e n = cc

abbrev Two : Type 0
Two = Argument × Argument

abbrev first : Two → Argument
first p = p.0

abbrev second : Two → Argument
second p = p.1

abbrev equation_of : Two → Equation
equation_of p = record { left = p.0.arg; right = p.1.arg }

abbrev SameFlag : Two → Type 0
SameFlag p = p.0.flag ≡ p.1.flag

-- xs and ys are left of these arguments, and the equations are those of the pairs before them, which have equal flags
pub record Paired (lefts rights xs ys : List Argument) (made : List Equation) : Type 0 where
  pub pairs : List Two
  pub is_left : lefts ≡ map first pairs ++ xs
  pub is_right : rights ≡ map second pairs ++ ys
  pub flags : AllByRecursion SameFlag pairs
  pub is_made : made ≡ map equation_of pairs

module _ (lefts rights : List Argument) where
  pub paired-none : Paired lefts rights lefts rights []
  paired-none = record { pairs = []; is_left = refl; is_right = refl; flags = tt; is_made = refl }

  one_further : (side : Two → Argument) (ps : List Two) (p : Two) (zs : List Argument) → map side ps ++ side p ∷ zs ≡ map side (ps ++ p ∷ []) ++ zs
  one_further side ps p zs = sym (ap (λ r. r ++ zs) (map-append side ps (p ∷ [])) ∙ append_assoc (map side ps) (side p ∷ []) zs)

  pub paired-more : (xs ys : List Argument) (x y : Argument) (made more : List Equation) → Paired lefts rights (x ∷ xs) (y ∷ ys) made → x.flag ≡ y.flag → more ≡ made ++ equation_of (x, y) ∷ [] → Paired lefts rights xs ys more
  paired-more xs ys x y made more h f e = record {
    pairs = h.pairs ++ (x, y) ∷ [];
    is_left = h.is_left ∙ one_further first h.pairs (x, y) xs;
    is_right = h.is_right ∙ one_further second h.pairs (x, y) ys;
    flags = all-push SameFlag h.pairs (x, y) h.flags f;
    is_made = e ∙ (ap (λ r. r ++ equation_of (x, y) ∷ []) h.is_made ∙ sym (map-append equation_of h.pairs ((x, y) ∷ [])));
  }

-- ---- all are gone through

nothing : {X : Type 0} (xs : List X) → xs ++ [] ≡ xs
nothing [] = refl
nothing (x ∷ xs) = ap (λ r. x ∷ r) (nothing xs)

are_pairs : (f : ℕ → Term) (ps : List Two) → AllByRecursion SameFlag ps → Pairs (map (argument_in f) (map first ps)) (map (argument_in f) (map second ps)) (map (equation_in f) (map equation_of ps))
are_pairs f [] a = no_pair
are_pairs f (p ∷ ps) a =
    subst (λ b. Pairs (map (argument_in f) (map first (p ∷ ps))) (Arg b (f p.1.arg) ∷ map (argument_in f) (map second ps)) (map (equation_in f) (map equation_of (p ∷ ps)))) a.0
    (pair (are_pairs f ps a.1))

turned : {X : Type 0} (side : Two → X) (ps : List Two) (xs : List X) → xs ≡ map side ps → map side (reverse ps) ≡ reverse xs
turned side ps xs e = map-reverse side ps ∙ ap reverse (sym e)

pub all_paired : (lefts rights : List Argument) (made : List Equation) → Paired lefts rights [] [] made → (f : ℕ → Term) → Pairs (arguments_in f lefts) (arguments_in f rights) (map (equation_in f) (reverse made))
all_paired lefts rights made h f =
    let l = turned first h.pairs lefts (h.is_left ∙ nothing (map first h.pairs)) in
    let r = turned second h.pairs rights (h.is_right ∙ nothing (map second h.pairs)) in
    let m = turned equation_of h.pairs made h.is_made in
    subst (λ xs. Pairs (map (argument_in f) xs) (arguments_in f rights) (map (equation_in f) (reverse made))) l
    (subst (λ ys. Pairs (map (argument_in f) (map first (reverse h.pairs))) (map (argument_in f) ys) (map (equation_in f) (reverse made))) r
    (subst (λ qs. Pairs (map (argument_in f) (map first (reverse h.pairs))) (map (argument_in f) (map second (reverse h.pairs))) (map (equation_in f) qs)) m
    (are_pairs f (reverse h.pairs) (all-reverse SameFlag h.pairs h.flags))))

module _ (P : ℕ → Type 0) where
  sides : (ps : List Two) → AllArguments P (map first ps) → AllArguments P (map second ps) → AllSides P (map equation_of ps)
  sides [] a b = tt
  sides (p ∷ ps) a b = ((a.0, b.0), sides ps a.1 b.1)

  -- what holds of all arguments holds of the sides of the equations
  pub sides_have : (lefts rights xs ys : List Argument) (made : List Equation) → Paired lefts rights xs ys made → AllArguments P lefts → AllArguments P rights → AllSides P made
  sides_have lefts rights xs ys made h a b =
      subst (AllSides P) (sym h.is_made)
      (sides h.pairs (all-parts (λ x. P x.arg) (map first h.pairs) xs (subst (AllArguments P) h.is_left a)).0 (all-parts (λ x. P x.arg) (map second h.pairs) ys (subst (AllArguments P) h.is_right b)).0)

-- ---- what is left has no equations

abbrev flag_in : Elim → Option Flag
flag_in (Arg b t) = Some b
flag_in (Field k) = None

abbrev flag_of : Argument → Option Flag
flag_of a = Some a.flag

pairs-flags : {es ds : List Elim} {qs : List U.Equation} → Pairs es ds qs → map flag_in es ≡ map flag_in ds
pairs-flags no_pair = refl
pairs-flags (pair {b = b} p) = ap (λ r. Some b ∷ r) (pairs-flags p)

flags_of : (f : ℕ → Term) (xs : List Argument) → map flag_in (map (argument_in f) xs) ≡ map flag_of xs
flags_of f [] = refl
flags_of f (x ∷ xs) = ap (λ r. Some x.flag ∷ r) (flags_of f xs)

flags_in : (f : ℕ → Term) (xs : List Argument) → map flag_in (arguments_in f xs) ≡ reverse (map flag_of xs)
flags_in f xs = flags_of f (reverse xs) ∙ map-reverse flag_of xs

same_flags : (f : ℕ → Term) (xs ys : List Argument) (qs : List U.Equation) → Pairs (arguments_in f xs) (arguments_in f ys) qs → map flag_of xs ≡ map flag_of ys
same_flags f xs ys qs p =
    sym (reverse-reverse (map flag_of xs)) ∙ (ap reverse (sym (flags_in f xs) ∙ (pairs-flags p ∙ flags_in f ys)) ∙ reverse-reverse (map flag_of ys))

rest_same : (ps : List Two) (xs ys : List Argument) → AllByRecursion SameFlag ps → map flag_of (map first ps ++ xs) ≡ map flag_of (map second ps ++ ys) → map flag_of xs ≡ map flag_of ys
rest_same [] xs ys a e = e
rest_same (p ∷ ps) xs ys a e = rest_same ps xs ys a.1 (cc e)

-- the flags of those that are left are the same
pub left_same : (lefts rights xs ys : List Argument) (made : List Equation) → Paired lefts rights xs ys made → (f : ℕ → Term) (qs : List U.Equation) → Pairs (arguments_in f lefts) (arguments_in f rights) qs → map flag_of xs ≡ map flag_of ys
left_same lefts rights xs ys made h f qs p =
    rest_same h.pairs xs ys h.flags (sym (ap (map flag_of) h.is_left) ∙ (same_flags f lefts rights qs p ∙ ap (map flag_of) h.is_right))

pub too_short : (xs ys more : List Argument) (x : Argument) → xs ≡ x ∷ more → ys ≡ [] → map flag_of xs ≡ map flag_of ys → ⊥
too_short xs ys more x e n s = let k : flag_of x ∷ map flag_of more ≡ [] = sym (ap (map flag_of) e) ∙ (s ∙ ap (map flag_of) n) in cc k

pub too_long : (xs ys : List Argument) → xs ≡ [] → (ys ≡ [] → ⊥) → map flag_of xs ≡ map flag_of ys → ⊥
too_long xs ys e n s = by ys n (sym (ap (map flag_of) e) ∙ s)
  where
    by : (ys : List Argument) → (ys ≡ [] → ⊥) → [] ≡ map flag_of ys → ⊥
    by [] n k = n refl
    by (y ∷ ys) n k = cc k

pub first_flags : (xs ys more others : List Argument) (x y : Argument) → xs ≡ x ∷ more → ys ≡ y ∷ others → map flag_of xs ≡ map flag_of ys → x.flag ≡ y.flag
first_flags xs ys more others x y e d s = let k : flag_of x ∷ map flag_of more ≡ flag_of y ∷ map flag_of others = sym (ap (map flag_of) e) ∙ (s ∙ ap (map flag_of) d) in cc k

-- flags by their comparison
pub flags_differ : (a b : Flag) → not (sameb the_type a b) ≡ true → a ≡ b → ⊥
flags_differ Explicit Explicit e q = cc
flags_differ Explicit Implicit e q = cc
flags_differ Implicit Explicit e q = cc
flags_differ Implicit Implicit e q = cc

pub flags_same : (a b : Flag) → not (sameb the_type a b) ≡ false → a ≡ b
flags_same Explicit Explicit e = refl
flags_same Explicit Implicit e = absurd cc
flags_same Implicit Explicit e = absurd cc
flags_same Implicit Implicit e = refl
