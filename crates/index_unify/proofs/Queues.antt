-- What a queue has after more is put into it.
use Rattle.std.specs.Prelude.{◌≡◌, ◌++◌, Bool, true, false, ◌||◌, List, [], ◌∷◌, cond, refl}
use Rattle.std.specs.List.{AllByRecursion, list_any}
use Rattle.std.proofs.Common.{sym, ap, ◌∙◌, subst, inl, inr}
use Rattle.indexmap.specs.IndexSet.{insert_key}
use Rattle.index_unify.specs.Queue.{Item, Among, Adds}

module _ (eq : Item → Item → Bool) (sound : (x y : Item) → eq x y ≡ true → x ≡ y) where
  any-among : (x : Item) (xs : List Item) → list_any (eq x) xs ≡ true → Among xs x
  any-among x [] e = absurd cc
  any-among x (y ∷ xs) e = by (eq x y) refl e (λ k. any-among x xs k)
    where
      by : (b : Bool) → eq x y ≡ b → (b || list_any (eq x) xs) ≡ true → (list_any (eq x) xs ≡ true → Among xs x) → Among (y ∷ xs) x
      by true h k r = inl (sym (sound x y h))
      by false h k r = inr (r k)

  inserts : (xs ys : List Item) (x : Item) → ys ≡ insert_key eq xs x → Adds xs x ys
  inserts xs ys x e = by (list_any (eq x) xs) refl
    where
      by : (b : Bool) → list_any (eq x) xs ≡ b → Adds xs x ys
      by true h = inl (e ∙ ap (λ b. cond b xs (xs ++ x ∷ [])) h, any-among x xs h)
      by false h = inr (e ∙ ap (λ b. cond b xs (xs ++ x ∷ [])) h)

pub inserted : (eq : Item → Item → Bool) (xs ys : List Item) (x : Item) → ys ≡ insert_key eq xs x → ((x y : Item) → eq x y ≡ true → x ≡ y) → Adds xs x ys
inserted eq xs ys x e sound = inserts eq sound xs ys x e

pub among-left : (xs ys : List Item) (x : Item) → Among xs x → Among (xs ++ ys) x
among-left [] ys x a = absurd a
among-left (z ∷ xs) ys x (inl e) = inl e
among-left (z ∷ xs) ys x (inr a) = inr (among-left xs ys x a)

pub among-right : (xs ys : List Item) (x : Item) → Among ys x → Among (xs ++ ys) x
among-right [] ys x a = a
among-right (z ∷ xs) ys x a = inr (among-right xs ys x a)

pub all-among : (P : Item → Type 0) (xs : List Item) (x : Item) → AllByRecursion P xs → Among xs x → P x
all-among P [] x a m = absurd m
all-among P (y ∷ xs) x a (inl e) = subst P e a.0
all-among P (y ∷ xs) x a (inr m) = all-among P xs x a.1 m

-- after x is put in it is there, and what was there is
pub added-has : (xs ys : List Item) (x : Item) → Adds xs x ys → Among ys x
added-has xs ys x (inl h) = subst (λ zs. Among zs x) (sym h.0) h.1
added-has xs ys x (inr e) = subst (λ zs. Among zs x) (sym e) (among-right xs (x ∷ []) x (inl refl))

-- ys are xs and more items that have P
pub record Further (P : Item → Type 0) (xs ys : List Item) : Type 0 where
  pub more : List Item
  pub is : ys ≡ xs ++ more
  pub have : AllByRecursion P more

pub added : (P : Item → Type 0) (xs ys : List Item) (x : Item) → P x → Adds xs x ys → Further P xs ys
added P xs ys x h (inl e) = record { more = []; is = e.0 ∙ sym (append-nil xs); have = tt }
  where
    append-nil : (zs : List Item) → zs ++ [] ≡ zs
    append-nil [] = refl
    append-nil (z ∷ zs) = ap (λ r. z ∷ r) (append-nil zs)
added P xs ys x h (inr e) = record { more = x ∷ []; is = e; have = (h, tt) }

pub further-none : (P : Item → Type 0) (xs : List Item) → Further P xs xs
further-none P xs = record { more = []; is = sym (nil xs); have = tt }
  where
    nil : (zs : List Item) → zs ++ [] ≡ zs
    nil [] = refl
    nil (z ∷ zs) = ap (λ r. z ∷ r) (nil zs)

append-assoc : (xs ys zs : List Item) → (xs ++ ys) ++ zs ≡ xs ++ (ys ++ zs)
append-assoc [] ys zs = refl
append-assoc (x ∷ xs) ys zs = ap (λ r. x ∷ r) (append-assoc xs ys zs)

all-both : (P : Item → Type 0) (xs ys : List Item) → AllByRecursion P xs → AllByRecursion P ys → AllByRecursion P (xs ++ ys)
all-both P [] ys a b = b
all-both P (x ∷ xs) ys a b = (a.0, all-both P xs ys a.1 b)

pub further-more : (P : Item → Type 0) (xs ys zs : List Item) → Further P xs ys → Further P ys zs → Further P xs zs
further-more P xs ys zs h k = record {
  more = h.more ++ k.more;
  is = k.is ∙ (ap (λ r. r ++ k.more) h.is ∙ append-assoc xs h.more k.more);
  have = all-both P h.more k.more h.have k.have;
}

pub further-among : (P : Item → Type 0) (xs ys : List Item) (x : Item) → Further P xs ys → Among xs x → Among ys x
further-among P xs ys x h a = subst (λ zs. Among zs x) (sym h.is) (among-left xs h.more x a)
