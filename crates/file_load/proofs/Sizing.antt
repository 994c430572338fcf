-- Terms for which there is no room are too large.
use Rattle.std.proofs.Common.{◌≡◌, ◌≤◌, ◌<◌, ◌∙◌, ℕ, ◌+◌, ◌-◌, Bool, true, false, List, [], ◌∷◌, ◌++◌, length, map, drop, get_or, Some, None, refl, sym, ap, subst, arith}
use Rattle.std.specs.Prelude.{Option, Result, nat_lt, ◌||◌, sum_by}
use Rattle.std.specs.Option.{option_and_then}
use Rattle.std.specs.List.{list_any}
use Rattle.std.proofs.lemmas.Bool.Decides.{nat_tests}
use Rattle.std.proofs.lemmas.List.Sums.{sum_by-cons}
use Rattle.core_rules.specs.Term.{Term, size}
use Rattle.el_base.proofs.Lists.{drop_next}
use Rattle.core_rules.specs.Signature.{ConDecl}
use Rattle.core_rules.specs.Mapped.{con_map}
use Rattle.term_pool.specs.Pool.{Pool, tree}
use Rattle.el_outside.specs.declared.place.Pos.{Pos}
use Rattle.file_load.specs.declared.stop.Stop.{Stop}
use Rattle.file_load.specs.Sizes.{is_deep, most_nodes, con_terms, cons_terms}
use Rattle.file_load.specs.Room.{IsMeasured, room, room_behind}
use Rattle.file_load.specs.Judged.{Measures}

-- ---- room, term by term

pub room_first : (n : ℕ) (t : Term) (ts : List Term) → room n (t ∷ ts) ≡ option_and_then (λ m. room m ts) (room n (t ∷ []))
room_first n t ts = by (room_behind n t)
  where
    by : (o : Option ℕ) → option_and_then (λ m. room m ts) o ≡ option_and_then (λ m. room m ts) (option_and_then (λ m. Some m) o)
    by None = refl
    by (Some m) = refl

pub room-append : (n : ℕ) (ts us : List Term) → room n (ts ++ us) ≡ option_and_then (λ m. room m us) (room n ts)
room-append n [] us = refl
room-append n (t ∷ ts) us = by (λ m. room-append m ts us) (room_behind n t)
  where
    by : ((m : ℕ) → room m (ts ++ us) ≡ option_and_then (λ m. room m us) (room m ts)) → (o : Option ℕ) → option_and_then (λ m. room m (ts ++ us)) o ≡ option_and_then (λ m. room m us) (option_and_then (λ m. room m ts) o)
    by rest None = refl
    by rest (Some m) = rest m

-- where there is no room for the first terms, and where there is
pub room_ends : (n : ℕ) (ts us : List Term) → room n ts ≡ None → room n (ts ++ us) ≡ None
room_ends n ts us e = room-append n ts us ∙ ap (option_and_then (λ m. room m us)) e

pub room_goes_on : (n m : ℕ) (ts us : List Term) → room n ts ≡ Some m → room n (ts ++ us) ≡ room m us
room_goes_on n m ts us e = room-append n ts us ∙ ap (option_and_then (λ m. room m us)) e

-- the terms of constructors from the i-th on, one constructor further
module _ (p : Pool) (n : ℕ) (ks : List (ConDecl ℕ)) (i : ℕ) (k : ConDecl ℕ) (lt : i < length ks) (is : k ≡ get_or ks i k) where
  cons_next : room n (cons_terms (map (con_map (tree p)) (drop i ks))) ≡ room n (con_terms (con_map (tree p) k) ++ cons_terms (map (con_map (tree p)) (drop (i + 1) ks)))
  cons_next = ap (λ (ks : List (ConDecl ℕ)). room n (cons_terms (map (con_map (tree p)) ks))) (drop_next ks i k lt is)

  pub cons_end : room n (con_terms (con_map (tree p) k)) ≡ None → room n (cons_terms (map (con_map (tree p)) (drop i ks))) ≡ None
  cons_end e = cons_next ∙ room_ends n (con_terms (con_map (tree p) k)) (cons_terms (map (con_map (tree p)) (drop (i + 1) ks))) e

  pub cons_go_on : (m : ℕ) → room n (con_terms (con_map (tree p) k)) ≡ Some m → room n (cons_terms (map (con_map (tree p)) (drop i ks))) ≡ room m (cons_terms (map (con_map (tree p)) (drop (i + 1) ks)))
  cons_go_on m e = cons_next ∙ room_goes_on n m (con_terms (con_map (tree p) k)) (cons_terms (map (con_map (tree p)) (drop (i + 1) ks))) e

-- there is not more room behind terms
pub room_falls : (n m : ℕ) (ts : List Term) → room n ts ≡ Some m → m ≤ n
room_falls n m [] e = let same : n ≡ m = cc e in omega (arith, same)
room_falls n m (t ∷ ts) e = by (room_falls (n - size t) m ts) (nat_lt n (size t) || is_deep t) refl
  where
    by : (room (n - size t) ts ≡ Some m → m ≤ n - size t) → (b : Bool) → (nat_lt n (size t) || is_deep t) ≡ b → m ≤ n
    by rest true h = let none = rw h at e in absurd cc
    by rest false h = let some : room (n - size t) ts ≡ Some m = rw h at e in omega (arith, rest some)

-- ---- too large

abbrev large : ℕ → List Term → Bool
large n ts = nat_lt n (sum_by size ts) || list_any is_deep ts

lt_moved : (n s m k : ℕ) → s ≤ n → k ≡ s + m → nat_lt n k ≡ nat_lt (n - s) m
lt_moved n s m k l e = by (nat_lt (n - s) m) refl
  where
    by : (b : Bool) → nat_lt (n - s) m ≡ b → nat_lt n k ≡ b
    by true h = grind (arith, nat_tests)
    by false h = grind (arith, nat_tests)

any_first : (t : Term) (ts : List Term) → list_any is_deep (t ∷ ts) ≡ (is_deep t || list_any is_deep ts)
any_first t ts = refl

-- a term for which there is no room, or which is too deep
large_head : (n : ℕ) (t : Term) (ts : List Term) → (nat_lt n (size t) || is_deep t) ≡ true → large n (t ∷ ts) ≡ true
large_head n t ts e = by (nat_lt n (size t)) (is_deep t) refl refl
  where
    by : (b c : Bool) → nat_lt n (size t) ≡ b → is_deep t ≡ c → large n (t ∷ ts) ≡ true
    by true c f g = let more : nat_lt n (sum_by size (t ∷ ts)) ≡ true = let s = sum_by-cons size t ts in grind (arith, nat_tests) in rw more refl
    by false true f g = deep (nat_lt n (sum_by size (t ∷ ts))) (rw g refl)
      where
        deep : (b : Bool) → list_any is_deep (t ∷ ts) ≡ true → (b || list_any is_deep (t ∷ ts)) ≡ true
        deep true h = refl
        deep false h = h
    by false false f g = let no = rw (f, g) at e in absurd cc

large_tail : (n : ℕ) (t : Term) (ts : List Term) → (nat_lt n (size t) || is_deep t) ≡ false → large n (t ∷ ts) ≡ large (n - size t) ts
large_tail n t ts e = by (nat_lt n (size t)) (is_deep t) refl refl
  where
    by : (b c : Bool) → nat_lt n (size t) ≡ b → is_deep t ≡ c → large n (t ∷ ts) ≡ large (n - size t) ts
    by true c f g = let no = rw f at e in absurd cc
    by false true f g = let no = rw (f, g) at e in absurd cc
    by false false f g =
        let fits : size t ≤ n = grind (arith, nat_tests) in
        let nodes = lt_moved n (size t) (sum_by size ts) (sum_by size (t ∷ ts)) fits (sum_by-cons size t ts) in
        let levels : list_any is_deep (t ∷ ts) ≡ list_any is_deep ts = rw g refl in
        ap (λ (b : Bool). b || list_any is_deep (t ∷ ts)) nodes ∙ ap (λ (b : Bool). nat_lt (n - size t) (sum_by size ts) || b) levels

none_large : (n : ℕ) (ts : List Term) → room n ts ≡ None → large n ts ≡ true
none_large n [] e = absurd cc
none_large n (t ∷ ts) e = by (none_large (n - size t) ts) (nat_lt n (size t) || is_deep t) refl
  where
    by : (room (n - size t) ts ≡ None → large (n - size t) ts ≡ true) → (b : Bool) → (nat_lt n (size t) || is_deep t) ≡ b → large n (t ∷ ts) ≡ true
    by rest true h = large_head n t ts h
    by rest false h = let none : room (n - size t) ts ≡ None = rw h at e in large_tail n t ts h ∙ rest none

some_small : (n m : ℕ) (ts : List Term) → room n ts ≡ Some m → large n ts ≡ false
some_small n m [] e = grind (arith, nat_tests)
some_small n m (t ∷ ts) e = by (some_small (n - size t) m ts) (nat_lt n (size t) || is_deep t) refl
  where
    by : (room (n - size t) ts ≡ Some m → large (n - size t) ts ≡ false) → (b : Bool) → (nat_lt n (size t) || is_deep t) ≡ b → large n (t ∷ ts) ≡ false
    by rest true h = let none = rw h at e in absurd cc
    by rest false h = let some : room (n - size t) ts ≡ Some m = rw h at e in large_tail n t ts h ∙ rest some

-- what was measured
pub measures : (p : Pos) (ts : List Term) (o : Option ℕ) (r : Result (Unit {0}) Stop) → o ≡ room most_nodes ts → IsMeasured p o r → Measures p ts r
measures p ts None r e m = subst (Measures p ts) (sym m) (refl, none_large most_nodes ts (sym e))
measures p ts (Some n) r e m = subst (Measures p ts) (sym m) (some_small most_nodes n ts (sym e))
