-- A record split and a cosplit: derivable, and what they unfold to.
use Rattle.std.specs.Prelude.{ℕ, [], ◌∷◌, refl}
use Rattle.core_rules.specs.declared.Flag.TheVariants.{Explicit}
use Rattle.core_rules.specs.Term.{Term, Var, Sort, Pi, App, Def, Con, Proj, End, And}
use Rattle.core_rules.specs.Signature.{Signature, Context, Family, Open, Function}
use Rattle.core_rules.specs.Elimination.{Arg, Field}
use Rattle.core_rules.specs.Run as R
use Rattle.core_rules.specs.Conversion as C
use Rattle.core_rules.specs.Typing as T
use Rattle.core_rules.specs.Typing.{Typing, HasSort, entry}
use Rattle.core_rules.specs.TypedTree as Y
use Rattle.core_rules.specs.TypedTree.{IsAt, TypedTree}
use Rattle.core_rules.specs.Derivable as D
use Rattle.core_rules.specs.Derivable.{Derivable, Good}
use Rattle.core_rules.specs.Examples.{nat, vec, pair, pair_con, pair_of, pair_type, families}
use Rattle.core_rules.specs.TreeExamples.{swap_type, swap_tree, turn_tree, swaps, SwapUnfolds, TurnUnfolds}
use Rattle.core_rules.proofs.Signature.Growth.{derivable-extended}
use Rattle.core_rules.proofs.Typing.NoMeta.{good-no_meta}
use Rattle.core_rules.proofs.Derivations.{families_derivable}
use Rattle.core_rules.proofs.Trees.Keeping.{unshifted}

abbrev under_a : Context Term
under_a = entry Explicit 0 (Sort 0) ∷ []

abbrev under_b : Context Term
under_b = entry Explicit 0 (Sort 0) ∷ under_a

abbrev given : Context Term
given = entry Explicit 0 (pair_type (Var 1) (Var 0)) ∷ under_b

-- over a signature that begins with the families
module _ (more : Signature Term) where
  abbrev known : Signature Term
  known = Family nat ∷ Family vec ∷ Family pair ∷ more

  pair_at : (c : Context Term) (a b : Term) → Typing known c a (Sort 0) → Typing known c b (Sort 0) → Typing known c (pair_type a b) (Sort 0)
  pair_at c a b h k = T.app {v = Sort 0} (T.app {v = Pi Explicit 16 (Sort 0) (Sort 0)} (T.fam refl) h) k

  swap_sorted : HasSort known [] swap_type
  swap_sorted = record {
    level = 1;
    holds = T.pi {m = 1} {n = 1} T.sort (T.pi {m = 1} {n = 0} T.sort (T.pi {m = 0} {n = 0} (pair_at under_b (Var 1) (Var 0) (T.var refl) (T.var refl)) (pair_at given (Var 1) (Var 2) (T.var refl) (T.var refl))));
  }

  abbrev at_p : IsAt known given 0 2
  at_p = record { entry = entry Explicit 0 (pair_type (Var 1) (Var 0)); decl = pair; params = Var 1 ∷ Var 0 ∷ []; indices = []; stands = refl; is_decl = refl; as_many = refl; as_many_indices = refl; is = C.same }

  -- snd, fst, B and A
  abbrev opened : Context Term
  opened = entry Explicit 13 (Var 1) ∷ entry Explicit 12 (Var 1) ∷ under_b

  swapped : Typing known opened (pair_of (Var 2) (Var 3) (Var 0) (Var 1)) (pair_type (Var 2) (Var 3))
  swapped =
      let b : Typing known opened (Var 2) (Sort 0) = T.var refl in
      let a : Typing known opened (Var 3) (Sort 0) = T.var refl in
      let y : Typing known opened (Var 0) (Var 2) = T.var refl in
      let x : Typing known opened (Var 1) (Var 3) = T.var refl in
      let k : Typing known opened (Con 4 (And (Var 2) (And (Var 3) End))) (Pi Explicit 12 (Var 2) (Pi Explicit 13 (Var 4) (pair_type (Var 4) (Var 5)))) =
      T.con (record { fam = 2; at = 0; decl = pair; con = pair_con; place = refl; is_decl = refl; is_con = refl }) (T.more (T.more T.none b) a) in
      let k1 : Typing known opened (App Explicit (Con 4 (And (Var 2) (And (Var 3) End))) (Var 0)) (Pi Explicit 13 (Var 3) (pair_type (Var 3) (Var 4))) = T.app k y in
      T.app k1 x

  swap_typed : (f : ℕ) → TypedTree known [] swap_tree swap_type (Def f)
  swap_typed f = Y.intro C.same (Y.intro C.same (Y.intro C.same (Y.record_split 4 at_p refl refl (Y.leaf swapped))))

  p_typed : Typing known given (Var 0) (pair_type (Var 2) (Var 1))
  p_typed = T.var refl

  first_typed : Typing known given (Proj 0 (Var 0)) (Var 2)
  first_typed = T.proj (record { fam = 2; at = 0; decl = pair; entry = entry Explicit 12 (Var 1); place = refl; is_decl = refl; is_entry = refl }) (Var 2 ∷ Var 1 ∷ []) refl p_typed

  second_typed : Typing known given (Proj 1 (Var 0)) (Var 1)
  second_typed = T.proj (record { fam = 2; at = 1; decl = pair; entry = entry Explicit 13 (Var 1); place = refl; is_decl = refl; is_entry = refl }) (Var 2 ∷ Var 1 ∷ []) refl p_typed

  turn_typed : (f : ℕ) → TypedTree known [] turn_tree swap_type (Def f)
  turn_typed f = Y.intro C.same (Y.intro C.same (Y.intro C.same (Y.cosplit 2 (Var 1 ∷ Var 2 ∷ []) refl refl refl C.same (Y.on_field (Y.leaf second_typed) (Y.on_field (Y.leaf first_typed) Y.no_field)))))

abbrev with_swap : Signature Term
with_swap = Family nat ∷ Family vec ∷ Family pair ∷ Function 17 swap_type [] swap_tree ∷ []

good_swap : Good families (Function 17 swap_type [] swap_tree)
good_swap = D.function (swap_sorted []) (swap_typed (Open 17 swap_type ∷ []) 0)

good_turn : Good with_swap (Function 18 swap_type [] turn_tree)
good_turn = D.function (swap_sorted (Function 17 swap_type [] swap_tree ∷ [])) (turn_typed (Function 17 swap_type [] swap_tree ∷ Open 18 swap_type ∷ []) 1)

pub swaps_derivable : Derivable swaps
swaps_derivable =
    let one : Derivable with_swap = derivable-extended families (Function 17 swap_type [] swap_tree) families_derivable good_swap (good-no_meta _ _ good_swap tt) in
    derivable-extended with_swap (Function 18 swap_type [] turn_tree) one good_turn (good-no_meta _ _ good_turn tt)

pub swap_unfolds : SwapUnfolds
swap_unfolds a b c d x y i = (
  C.then (C.unfolds 0 (Arg Explicit a ∷ Arg Explicit b ∷ Arg Explicit (pair_of c d x y) ∷ []) refl (R.intro (R.intro (R.intro (R.record_split R.leaf))))) (C.app (C.app C.con (unshifted y)) (unshifted x)),
  C.then (C.unfolds 0 (Arg Explicit a ∷ Arg Explicit b ∷ Arg Explicit (Var i) ∷ []) refl (R.intro (R.intro (R.intro (R.record_split R.leaf))))) (C.app (C.app C.con (C.proj (unshifted (Var i)))) (C.proj (unshifted (Var i)))),
)

pub turn_unfolds : TurnUnfolds
turn_unfolds a b p = (
  C.then (C.unfolds 1 (Arg Explicit a ∷ Arg Explicit b ∷ Arg Explicit p ∷ Field 0 ∷ []) refl (R.intro (R.intro (R.intro (R.cosplit refl R.leaf))))) (C.proj (unshifted p)),
  C.then (C.unfolds 1 (Arg Explicit a ∷ Arg Explicit b ∷ Arg Explicit p ∷ Field 1 ∷ []) refl (R.intro (R.intro (R.intro (R.cosplit refl R.leaf))))) (C.proj (unshifted p)),
)
