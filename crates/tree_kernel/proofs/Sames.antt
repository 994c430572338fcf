-- What is left of two lists is the same exactly where the lists are.
use Rattle.std.proofs.Common.{◌≡◌, ◌<◌, ℕ, List, [], ◌∷◌, length, map, refl, subst}
use Rattle.std.specs.List.{AllByRecursion}
use Rattle.core_rules.specs.Term.{IsSameTerm}
use Rattle.core_rules.specs.Signature.{Entry}
use Rattle.core_rules.specs.Mapped.{AllEntries, telescope_map}
use Rattle.core_rules.specs.NameLaws.{AreSameTerms}
use Rattle.kernel_rules.specs.TreeReading.{AreSameEntries}
use Rattle.term_pool.specs.Pool.{Pool, tree}

pub record TermsLeft (p : Pool) (all others left right : List ℕ) : Type 0 where
  pub left_below : AllByRecursion (λ i. i < length p.trees) left
  pub right_below : AllByRecursion (λ i. i < length p.trees) right
  pub on : AreSameTerms (map (tree p) left) (map (tree p) right) → AreSameTerms (map (tree p) all) (map (tree p) others)
  pub back : AreSameTerms (map (tree p) all) (map (tree p) others) → AreSameTerms (map (tree p) left) (map (tree p) right)

pub terms-first : (p : Pool) (all others : List ℕ) → AllByRecursion (λ i. i < length p.trees) all → AllByRecursion (λ i. i < length p.trees) others
    → TermsLeft p all others all others
terms-first p all others a b = record { left_below = a; right_below = b; on = λ h. h; back = λ h. h }

module _ (p : Pool) (all others left right more rest : List ℕ) (i j : ℕ) (h : TermsLeft p all others left right) (l : left ≡ i ∷ more)
    (m : right ≡ j ∷ rest) where
  at : TermsLeft p all others (i ∷ more) (j ∷ rest)
  at = subst (λ (xs : List ℕ). TermsLeft p all others xs (j ∷ rest)) l (subst (λ (ys : List ℕ). TermsLeft p all others left ys) m h)

  pub terms-ids : (i < length p.trees) × (j < length p.trees)
  terms-ids = (at.left_below.0, at.right_below.0)

  pub terms-next : IsSameTerm (tree p i) (tree p j) → TermsLeft p all others more rest
  terms-next s = record { left_below = at.left_below.1; right_below = at.right_below.1; on = λ k. at.on (s, k); back = λ k. (at.back k).1 }

  pub terms-other : (IsSameTerm (tree p i) (tree p j) → ⊥) → AreSameTerms (map (tree p) all) (map (tree p) others) → ⊥
  terms-other s k = s (at.back k).0

pub terms-short : (p : Pool) (all others left right more : List ℕ) (i : ℕ) → TermsLeft p all others left right → left ≡ i ∷ more → right ≡ []
    → AreSameTerms (map (tree p) all) (map (tree p) others) → ⊥
terms-short p all others left right more i h l m k =
    (subst (λ (xs : List ℕ). TermsLeft p all others xs []) l (subst (λ (ys : List ℕ). TermsLeft p all others left ys) m h)).back k

pub terms-end : (p : Pool) (all others left right : List ℕ) → TermsLeft p all others left right → left ≡ [] → right ≡ []
    → AreSameTerms (map (tree p) all) (map (tree p) others)
terms-end p all others left right h l m =
    (subst (λ (xs : List ℕ). TermsLeft p all others xs []) l (subst (λ (ys : List ℕ). TermsLeft p all others left ys) m h)).on tt

pub terms-long : (p : Pool) (all others left right : List ℕ) → TermsLeft p all others left right → left ≡ [] → (right ≡ [] → ⊥)
    → AreSameTerms (map (tree p) all) (map (tree p) others) → ⊥
terms-long p all others left right h l n k = by_right right (subst (λ (xs : List ℕ). TermsLeft p all others xs right) l h) n
  where
    by_right : (right : List ℕ) → TermsLeft p all others [] right → (right ≡ [] → ⊥) → ⊥
    by_right [] h n = n refl
    by_right (j ∷ rest) h n = h.back k

pub record EntriesLeft (p : Pool) (all others left right : List (Entry ℕ)) : Type 0 where
  pub left_below : AllEntries (λ i. i < length p.trees) left
  pub right_below : AllEntries (λ i. i < length p.trees) right
  pub on : AreSameEntries (telescope_map (tree p) left) (telescope_map (tree p) right)
      → AreSameEntries (telescope_map (tree p) all) (telescope_map (tree p) others)
  pub back : AreSameEntries (telescope_map (tree p) all) (telescope_map (tree p) others)
      → AreSameEntries (telescope_map (tree p) left) (telescope_map (tree p) right)

pub entries-first : (p : Pool) (all others : List (Entry ℕ)) → AllEntries (λ i. i < length p.trees) all → AllEntries (λ i. i < length p.trees) others
    → EntriesLeft p all others all others
entries-first p all others a b = record { left_below = a; right_below = b; on = λ h. h; back = λ h. h }

module _ (p : Pool) (all others left right more rest : List (Entry ℕ)) (i j : Entry ℕ) (h : EntriesLeft p all others left right) (l : left ≡ i ∷ more)
    (m : right ≡ j ∷ rest) where
  entries-at : EntriesLeft p all others (i ∷ more) (j ∷ rest)
  entries-at = subst (λ (xs : List (Entry ℕ)). EntriesLeft p all others xs (j ∷ rest)) l (subst (λ (ys : List (Entry ℕ)). EntriesLeft p all others left ys) m h)

  pub entries-ids : (i.ty < length p.trees) × (j.ty < length p.trees)
  entries-ids = (entries-at.left_below.0, entries-at.right_below.0)

  pub entries-next : i.flag ≡ j.flag → IsSameTerm (tree p i.ty) (tree p j.ty) → EntriesLeft p all others more rest
  entries-next f s = record {
    left_below = entries-at.left_below.1;
    right_below = entries-at.right_below.1;
    on = λ k. entries-at.on (f, s, k);
    back =
        λ k. (entries-at.back k).2;
  }

  pub entries-flag : (i.flag ≡ j.flag → ⊥) → AreSameEntries (telescope_map (tree p) all) (telescope_map (tree p) others) → ⊥
  entries-flag f k = f (entries-at.back k).0

  pub entries-other : (IsSameTerm (tree p i.ty) (tree p j.ty) → ⊥) → AreSameEntries (telescope_map (tree p) all) (telescope_map (tree p) others) → ⊥
  entries-other s k = s (entries-at.back k).1

pub entries-short : (p : Pool) (all others left right more : List (Entry ℕ)) (i : Entry ℕ) → EntriesLeft p all others left right → left ≡ i ∷ more → right ≡ []
    → AreSameEntries (telescope_map (tree p) all) (telescope_map (tree p) others) → ⊥
entries-short p all others left right more i h l m k =
    (subst (λ (xs : List (Entry ℕ)). EntriesLeft p all others xs []) l (subst (λ (ys : List (Entry ℕ)). EntriesLeft p all others left ys) m h)).back k

pub entries-end : (p : Pool) (all others left right : List (Entry ℕ)) → EntriesLeft p all others left right → left ≡ [] → right ≡ []
    → AreSameEntries (telescope_map (tree p) all) (telescope_map (tree p) others)
entries-end p all others left right h l m =
    (subst (λ (xs : List (Entry ℕ)). EntriesLeft p all others xs []) l (subst (λ (ys : List (Entry ℕ)). EntriesLeft p all others left ys) m h)).on tt

pub entries-long : (p : Pool) (all others left right : List (Entry ℕ)) → EntriesLeft p all others left right → left ≡ [] → (right ≡ [] → ⊥)
    → AreSameEntries (telescope_map (tree p) all) (telescope_map (tree p) others) → ⊥
entries-long p all others left right h l n k = by_right right (subst (λ (xs : List (Entry ℕ)). EntriesLeft p all others xs right) l h) n
  where
    by_right : (right : List (Entry ℕ)) → EntriesLeft p all others [] right → (right ≡ [] → ⊥) → ⊥
    by_right [] h n = n refl
    by_right (j ∷ rest) h n = h.back k
