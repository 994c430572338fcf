-- The places of a list that a walk has taken.
use Rattle.std.proofs.Common.{◌≡◌, ◌<◌, ◌≤◌, ◌+◌, ◌-◌, ℕ, zero, suc, sym, ap, subst, ◌∙◌, arith, List, [], ◌∷◌, length, map, take, drop}
use Rattle.std.specs.Prelude.{slice_get, Some}
use Rattle.std.specs.List.{AllByRecursion}
use Rattle.std.proofs.lemmas.List.{length-take, length-take-le, take-take}
use Rattle.el_base.proofs.Throughout.{all-at}
use Rattle.term_pool.specs.Pool.{Pool, Extends, tree}
use Rattle.term_pool.specs.Growth.{Extends-tree, Extends-trans}
use Rattle.term_pool.specs.Placed.{items-stay}
use Rattle.declared_types.proofs.Grown.{all-grown}

-- the items from s on, before e
abbrev pub slot : ℕ → ℕ → List ℕ → List ℕ
slot s e ts = take (e - s) (drop s ts)

pub slot_none : (n : ℕ) (ts : List ℕ) → slot n n ts ≡ []
slot_none n ts = let a : n - n ≡ 0 = omega arith in ap (λ k. take k (drop n ts)) a

take_less : (n m : ℕ) (ts : List ℕ) → n ≤ length (take m ts) → take n (take m ts) ≡ take n ts
take_less n m ts l = take-take n m ts (omega (arith, l, length-take m ts))

slot_tail : (s e x : ℕ) (ts : List ℕ) → slot (suc s) e (x ∷ ts) ≡ slot s (e - 1) ts
slot_tail s e x ts = let a : e - suc s ≡ e - 1 - s = omega arith in ap (λ k. take k (drop s ts)) a

slot_rest : (s e x : ℕ) (ts : List ℕ) → slot (suc s + 1) e (x ∷ ts) ≡ slot (s + 1) (e - 1) ts
slot_rest s e x ts = let a : suc s + 1 ≡ suc (s + 1) = omega arith in ap (λ k. slot k e (x ∷ ts)) a ∙ slot_tail (s + 1) e x ts

-- the item before a slot, and what is used of the slot
pub slot_more : (ts : List ℕ) (n end used t : ℕ) → slice_get ts n ≡ Some t → used ≤ length (slot (n + 1) end ts) → slot n (n + 1 + used) ts ≡ t ∷ take used (slot (n + 1) end ts)
slot_more [] n end used t g l = absurd cc
slot_more (x ∷ ts) zero end used t g l =
    let a : 0 + 1 + used - 0 ≡ suc used = omega arith in
    let b : 0 + 1 ≡ suc 0 = omega arith in
    let m : used ≤ length (slot 0 (end - 1) ts) = subst (λ (xs : List ℕ). used ≤ length xs) (ap (λ k. slot k end (x ∷ ts)) b ∙ slot_tail 0 end x ts) l in
    let same : x ≡ t = cc g in
    let e : take used (slot 0 (end - 1) ts) ≡ take used ts = take_less used (end - 1 - 0) ts m in
    let r : take used (slot (0 + 1) end (x ∷ ts)) ≡ take used ts = ap (λ k. take used (slot k end (x ∷ ts))) b ∙ (ap (take used) (slot_tail 0 end x ts) ∙ e) in
    ap (λ k. take k (x ∷ ts)) a ∙ (ap (λ y. y ∷ take used ts) same ∙ ap (λ ys. t ∷ ys) (sym r))
slot_more (x ∷ ts) (suc n) end used t g l =
    let a : suc n + 1 + used - 1 ≡ n + 1 + used = omega arith in
    let m : used ≤ length (slot (n + 1) (end - 1) ts) = subst (λ (xs : List ℕ). used ≤ length xs) (slot_rest n end x ts) l in
    slot_tail n (suc n + 1 + used) x ts ∙ (ap (λ k. slot n k ts) a ∙ (slot_more ts n (end - 1) used t g m ∙ ap (λ xs. t ∷ take used xs) (sym (slot_rest n end x ts))))

pub all-take : {A : Type 0} (P : A → Type 0) (n : ℕ) (xs : List A) → AllByRecursion P xs → AllByRecursion P (take n xs)
all-take P zero xs a = tt
all-take P (suc n) [] a = tt
all-take P (suc n) (x ∷ xs) a = (a.0, all-take P n xs a.1)

pub all-drop : {A : Type 0} (P : A → Type 0) (n : ℕ) (xs : List A) → AllByRecursion P xs → AllByRecursion P (drop n xs)
all-drop P zero xs a = a
all-drop P (suc n) [] a = tt
all-drop P (suc n) (x ∷ xs) a = all-drop P n xs a.1

pub all-slot : (P : ℕ → Type 0) (s e : ℕ) (ts : List ℕ) → AllByRecursion P ts → AllByRecursion P (slot s e ts)
all-slot P s e ts a = all-take P (e - s) (drop s ts) (all-drop P s ts a)

length-slot : (n e : ℕ) (ts : List ℕ) → n ≤ e → e ≤ length ts → length (slot n e ts) ≡ e - n
length-slot zero e ts l m = let z : e - 0 ≡ e = omega arith in ap (λ k. length (take k ts)) z ∙ (length-take-le e ts m ∙ sym z)
length-slot (suc n) e [] l m = absurd (omega (arith, l, m))
length-slot (suc n) e (t ∷ ts) l m =
    let a : e - suc n ≡ e - 1 - n = omega arith in
    ap (λ k. length (take k (drop n ts))) a ∙ (length-slot n (e - 1) ts (omega (arith, l)) (omega (arith, m)) ∙ sym a)

pub used-within : (n e used : ℕ) (ts : List ℕ) → used ≤ length (slot n e ts) → n ≤ e → e ≤ length ts → n + used ≤ length ts
used-within n e used ts u l m = let k = length-slot n e ts l m in omega (arith, u, k, l, m)

-- the trees of the slot of the next argument, which is id t
pub slot_next : (x q z : Pool) (ts : List ℕ) (n end used t : ℕ) → Extends x q → Extends q z → AllByRecursion (λ i. i < length x.trees) ts → slice_get ts n ≡ Some t
    → used ≤ length (slot (n + 1) end ts) → map (tree z) (slot n (n + 1 + used) ts) ≡ tree x t ∷ map (tree q) (take used (slot (n + 1) end ts))
slot_next x q z ts n end used t h k a g l =
    let here : t < length x.trees = all-at (λ i. i < length x.trees) ts n t a g in
    let e : tree z t ≡ tree x t = Extends-tree t (Extends-trans h k) here in
    let r : AllByRecursion (λ i. i < length q.trees) (take used (slot (n + 1) end ts)) = all-grown x q (take used (slot (n + 1) end ts)) h (all-take (λ i. i < length x.trees) used (slot (n + 1) end ts) (all-slot (λ i. i < length x.trees) (n + 1) end ts a)) in
    let s : map (tree z) (take used (slot (n + 1) end ts)) ≡ map (tree q) (take used (slot (n + 1) end ts)) = items-stay q z (take used (slot (n + 1) end ts)) k r in
    ap (map (tree z)) (slot_more ts n end used t g l) ∙ cc (e, s)
