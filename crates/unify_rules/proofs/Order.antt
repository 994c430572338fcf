-- The order of the unsolved variables has each of them once.
use Rattle.std.specs.Prelude.{◌≡◌, ◌≢◌, ℕ, ◌<◌, ◌⊎◌, Bool, true, false, eqb, cond, List, [], ◌∷◌, length, slice_get, Option, Some, None, refl, zero, suc}
use Rattle.std.specs.Option.{option_map_or}
use Rattle.std.proofs.Common.{ap, sym, ◌∙◌, subst as transport, arith, inl, inr, eqb-true}
use Rattle.core_rules.specs.Term.{Term}
use Rattle.core_rules.specs.Substitution.{value_at}
use Rattle.core_rules.specs.Unification.{Solution}
use Rattle.core_rules.proofs.Heads.OneAnswer.{one_some}
use Rattle.core_rules.proofs.Heads.Sound.{eqb_same}
use Rattle.unify_rules.specs.Joined.{value_of, where_none, unsolved, without, has_none, first_ready, reverse_onto, order, place_in}
use Rattle.unify_rules.proofs.Members.{Member, without-keeps, without-within, eqb_false, Dec}

-- each item once
abbrev pub Once : List ℕ → Type 0
Once [] = Unit {0}
Once (k ∷ ks) = (Member k ks → ⊥) × Once ks

pub without-other : (x i : ℕ) (js : List ℕ) → Member i (without x js) → i ≢ x
without-other x i [] m e = m
without-other x i (j ∷ js) m e = by (λ h. without-other x i js h e) (eqb j x) refl m
  where
    by : (Member i (without x js) → ⊥) → (b : Bool) → eqb j x ≡ b → Member i (cond b (without x js) (j ∷ without x js)) → ⊥
    by r true f h = r h
    by r false f (inl h) = eqb_false j x f (sym h ∙ e)
    by r false f (inr h) = r h

without-once : (x : ℕ) (js : List ℕ) → Once js → Once (without x js)
without-once x [] o = tt
without-once x (j ∷ js) o = by (without-once x js o.1) (eqb j x)
  where
    by : Once (without x js) → (b : Bool) → Once (cond b (without x js) (j ∷ without x js))
    by r true = r
    by r false = (λ m. o.0 (without-within x j js m), r)

-- one list has none of the other
abbrev Apart : List ℕ → List ℕ → Type 0
Apart is ks = (i : ℕ) → Member i is → Member i ks → ⊥

onto-member : (is ks : List ℕ) (i : ℕ) → Member i is ⊎ Member i ks → Member i (reverse_onto is ks)
onto-member [] ks i (inl m) = absurd m
onto-member [] ks i (inr m) = m
onto-member (j ∷ is) ks i (inl (inl e)) = onto-member is (j ∷ ks) i (inr (inl e))
onto-member (j ∷ is) ks i (inl (inr m)) = onto-member is (j ∷ ks) i (inl m)
onto-member (j ∷ is) ks i (inr m) = onto-member is (j ∷ ks) i (inr (inr m))

back : (j : ℕ) (is ks : List ℕ) (i : ℕ) → Member i is ⊎ ((i ≡ j) ⊎ Member i ks) → ((i ≡ j) ⊎ Member i is) ⊎ Member i ks
back j is ks i (inl m) = inl (inr m)
back j is ks i (inr (inl e)) = inl (inl e)
back j is ks i (inr (inr m)) = inr m

member-onto : (is ks : List ℕ) (i : ℕ) → Member i (reverse_onto is ks) → Member i is ⊎ Member i ks
member-onto [] ks i m = inr m
member-onto (j ∷ is) ks i m = back j is ks i (member-onto is (j ∷ ks) i m)

once-onto : (is ks : List ℕ) → Once is → Once ks → Apart is ks → Once (reverse_onto is ks)
once-onto [] ks o p a = p
once-onto (j ∷ is) ks o p a = once-onto is (j ∷ ks) o.1 (λ m. a j (inl refl) m, p) (λ i m k. apart i m k)
  where
    apart : (i : ℕ) → Member i is → (i ≡ j) ⊎ Member i ks → ⊥
    apart i m (inl e) = o.0 (transport (λ i. Member i is) e m)
    apart i m (inr k) = a i (inr m) k

pub ready_member : (ts : List Term) (ws is : List ℕ) (i : ℕ) → first_ready ts ws is ≡ Some i → Member i is
ready_member ts ws [] i e = absurd cc
ready_member ts ws (j ∷ is) i e = by (ready_member ts ws is i) (has_none ws (value_at ts j)) e
  where
    by : (first_ready ts ws is ≡ Some i → Member i is) → (b : Bool) → cond b (Some j) (first_ready ts ws is) ≡ Some i → (i ≡ j) ⊎ Member i is
    by r true f = inl (sym (one_some f))
    by r false f = inr (r f)

-- what the order has of those that wait and those placed
record Ordered (is ks os : List ℕ) : Type 0 where
  has : (i : ℕ) → Member i is ⊎ Member i ks → Member i os
  from : (i : ℕ) → Member i os → Member i is ⊎ Member i ks
  once : Once is → Once ks → Apart is ks → Once os

onto_ordered : (is ks : List ℕ) → Ordered is ks (reverse_onto is ks)
onto_ordered is ks = record { has = onto-member is ks; from = member-onto is ks; once = once-onto is ks }

placed_ordered : (i : ℕ) (is ks os : List ℕ) → Member i is → Ordered (without i is) (i ∷ ks) os → Ordered is ks os
placed_ordered i is ks os m r = record { has = has; from = from; once = λ o p a. r.once (without-once i is o) (a i m, p) (apart a) }
  where
    split : (j : ℕ) → Dec (j ≡ i) → Member j is → Member j (without i is) ⊎ ((j ≡ i) ⊎ Member j ks)
    split j (inl e) n = inr (inl e)
    split j (inr e) n = inl (without-keeps i j is n e)

    same : (j : ℕ) → Dec (j ≡ i)
    same j = at (eqb j i) refl
      where
        at : (b : Bool) → eqb j i ≡ b → Dec (j ≡ i)
        at true e = inl (eqb-true j i e)
        at false e = inr (eqb_false j i e)

    has : (j : ℕ) → Member j is ⊎ Member j ks → Member j os
    has j (inl n) = r.has j (split j (same j) n)
    has j (inr n) = r.has j (inr (inr n))

    unite : (j : ℕ) → Member j (without i is) ⊎ ((j ≡ i) ⊎ Member j ks) → Member j is ⊎ Member j ks
    unite j (inl n) = inl (without-within i j is n)
    unite j (inr (inl e)) = inl (transport (λ j. Member j is) (sym e) m)
    unite j (inr (inr n)) = inr n

    from : (j : ℕ) → Member j os → Member j is ⊎ Member j ks
    from j n = unite j (r.from j n)

    apart : Apart is ks → Apart (without i is) (i ∷ ks)
    apart a j n (inl e) = without-other i j is n e
    apart a j n (inr k) = a j (without-within i j is n) k

order_ordered : (n : ℕ) (ts : List Term) (is ks : List ℕ) → Ordered is ks (order n ts is ks)
order_ordered zero ts is ks = onto_ordered is ks
order_ordered (suc n) ts is ks = by (λ i. order_ordered n ts (without i is) (i ∷ ks)) (first_ready ts is is) refl
  where
    by : ((i : ℕ) → Ordered (without i is) (i ∷ ks) (order n ts (without i is) (i ∷ ks))) → (o : Option ℕ) → first_ready ts is is ≡ o → Ordered is ks (option_map_or (λ i. order n ts (without i is) (i ∷ ks)) o (reverse_onto is ks))
    by r None e = onto_ordered is ks
    by r (Some i) e = placed_ordered i is ks (order n ts (without i is) (i ∷ ks)) (ready_member ts is is i e) (r i)

-- a variable of n that is not solved
pub record Unsolved (ss : List Solution) (n i : ℕ) : Type 0 where
  pub below : i < n
  pub none : value_of ss i ≡ None

wider : {ss : List Solution} {n i : ℕ} → Unsolved ss n i → Unsolved ss (suc n) i
wider u = record { below = (let l = u.below in omega (arith, l)); none = u.none }

pub unsolved_has : (ss : List Solution) (n i : ℕ) → Unsolved ss n i → Member i (unsolved ss n)
unsolved_has ss zero i u = absurd (let l = u.below in omega (arith, l))
unsolved_has ss (suc n) i u = by (λ h. unsolved_has ss n i h) (value_of ss n) refl
  where
    by : (Unsolved ss n i → Member i (unsolved ss n)) → (o : Option Term) → value_of ss n ≡ o → Member i (where_none o n (unsolved ss n))
    by r None e = at (eqb i n) refl
      where
        at : (b : Bool) → eqb i n ≡ b → (i ≡ n) ⊎ Member i (unsolved ss n)
        at true f = inl (eqb-true i n f)
        at false f = inr (r (record { below = (let k : i ≢ n = eqb_false i n f in let l = u.below in omega (arith, l)); none = u.none }))
    by r (Some t) e = r (record { below = (let k : i ≢ n = (λ f. let a = u.none in let b : value_of ss n ≡ None = transport (λ i. value_of ss i ≡ None) f a in let z : ⊥ = cc in z) in let l = u.below in omega (arith, l)); none = u.none })

unsolved_from : (ss : List Solution) (n i : ℕ) → Member i (unsolved ss n) → Unsolved ss n i
unsolved_from ss zero i m = absurd m
unsolved_from ss (suc n) i m = by (λ h. unsolved_from ss n i h) (value_of ss n) refl m
  where
    by : (Member i (unsolved ss n) → Unsolved ss n i) → (o : Option Term) → value_of ss n ≡ o → Member i (where_none o n (unsolved ss n)) → Unsolved ss (suc n) i
    by r None e (inl f) = record { below = omega arith; none = ap (value_of ss) f ∙ e }
    by r None e (inr h) = wider (r h)
    by r (Some t) e h = wider (r h)

unsolved_once : (ss : List Solution) (n : ℕ) → Once (unsolved ss n)
unsolved_once ss zero = tt
unsolved_once ss (suc n) = by (value_of ss n) (unsolved_once ss n)
  where
    by : (o : Option Term) → Once (unsolved ss n) → Once (where_none o n (unsolved ss n))
    by None h = (λ m. let l = (unsolved_from ss n n m).below in absurd (omega (arith, l)), h)
    by (Some t) h = h

-- the order of the unsolved variables has each of them once, and no other
module _ (n : ℕ) (ts : List Term) (ss : List Solution) where
  ordered : Ordered (unsolved ss n) [] (order n ts (unsolved ss n) [])
  ordered = order_ordered n ts (unsolved ss n) []

  pub keep_has : (i : ℕ) → Unsolved ss n i → Member i (order n ts (unsolved ss n) [])
  keep_has i u = ordered.has i (inl (unsolved_has ss n i u))

  left_one : (i : ℕ) → Member i (unsolved ss n) ⊎ ⊥ → Member i (unsolved ss n)
  left_one i (inl m) = m
  left_one i (inr m) = absurd m

  pub keep_from : (i : ℕ) → Member i (order n ts (unsolved ss n) []) → Unsolved ss n i
  keep_from i m = unsolved_from ss n i (left_one i (ordered.from i m))

  pub keep_once : Once (order n ts (unsolved ss n) [])
  keep_once = ordered.once (unsolved_once ss n) tt (λ i m k. k)

pub got_member : (ks : List ℕ) (j k : ℕ) → slice_get ks j ≡ Some k → Member k ks
got_member [] j k e = absurd cc
got_member (i ∷ ks) zero k e = inl (sym (one_some e))
got_member (i ∷ ks) (suc j) k e = inr (got_member ks j k e)

pub place_below : (ks : List ℕ) (i : ℕ) → Member i ks → place_in ks i < length ks
place_below [] i m = absurd m
place_below (k ∷ ks) i m = by (λ h. place_below ks i h) (eqb k i) refl m
  where
    by : (Member i ks → place_in ks i < length ks) → (b : Bool) → eqb k i ≡ b → (i ≡ k) ⊎ Member i ks → cond b 0 (suc (place_in ks i)) < suc (length ks)
    by r true e h = omega arith
    by r false e (inl h) = absurd (eqb_false k i e (sym h))
    by r false e (inr h) = let l : place_in ks i < length ks = r h in omega arith

pub place_is : (ks : List ℕ) (j k : ℕ) → Once ks → slice_get ks j ≡ Some k → place_in ks k ≡ j
place_is [] j k o e = absurd cc
place_is (i ∷ ks) zero k o e = let f : i ≡ k = one_some e in let h : eqb i k ≡ true = transport (λ x. eqb i x ≡ true) f (eqb_same i) in rw h refl
place_is (i ∷ ks) (suc j) k o e = by (eqb i k) refl (place_is ks j k o.1 e)
  where
    by : (b : Bool) → eqb i k ≡ b → place_in ks k ≡ j → cond b 0 (suc (place_in ks k)) ≡ suc j
    by true f h = absurd (o.0 (transport (λ i. Member i ks) (sym (eqb-true i k f)) (got_member ks j k e)))
    by false f h = ap suc h
