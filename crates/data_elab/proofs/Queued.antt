-- What a queue has after an id is put into it.
use Rattle.std.proofs.Common.{◌≡◌, ℕ, List, [], ◌∷◌, ◌++◌, refl, sym, ap, subst, inl, inr, ◌∙◌}
use Rattle.std.specs.Prelude.{Bool, true, false, ◌||◌, cond}
use Rattle.std.specs.List.{AllByRecursion, list_any}
use Rattle.std.proofs.lemmas.List.{append-nil}
use Rattle.indexmap.specs.IndexSet.{insert_key}
use Rattle.data_elab.specs.Eta.{Adds, Among}

module _ (eq : ℕ → ℕ → Bool) (sound : (t u : ℕ) → eq t u ≡ true → t ≡ u) where
  any-among : (t : ℕ) (ts : List ℕ) → list_any (eq t) ts ≡ true → Among ts t
  any-among t [] e = absurd cc
  any-among t (u ∷ ts) e = by (eq t u) refl e (λ k. any-among t ts k)
    where
      by : (b : Bool) → eq t u ≡ b → (b || list_any (eq t) ts) ≡ true → (list_any (eq t) ts ≡ true → Among ts t) → Among (u ∷ ts) t
      by true h k r = inl (sym (sound t u h))
      by false h k r = inr (r k)

  inserts : (ts us : List ℕ) (t : ℕ) → us ≡ insert_key eq ts t → Adds ts t us
  inserts ts us t e = by (list_any (eq t) ts) refl
    where
      by : (b : Bool) → list_any (eq t) ts ≡ b → Adds ts t us
      by true h = inl (e ∙ ap (λ b. cond b ts (ts ++ t ∷ [])) h, any-among t ts h)
      by false h = inr (e ∙ ap (λ b. cond b ts (ts ++ t ∷ [])) h)

pub inserted : (eq : ℕ → ℕ → Bool) (ts us : List ℕ) (t : ℕ) → us ≡ insert_key eq ts t → ((t u : ℕ) → eq t u ≡ true → t ≡ u) → Adds ts t us
inserted eq ts us t e sound = inserts eq sound ts us t e

pub among-left : (ts us : List ℕ) (t : ℕ) → Among ts t → Among (ts ++ us) t
among-left [] us t a = absurd a
among-left (u ∷ ts) us t (inl e) = inl e
among-left (u ∷ ts) us t (inr a) = inr (among-left ts us t a)

pub among-last : (ts : List ℕ) (t : ℕ) → Among (ts ++ t ∷ []) t
among-last [] t = inl refl
among-last (u ∷ ts) t = inr (among-last ts t)

pub all-among : (P : ℕ → Type 0) (ts : List ℕ) (t : ℕ) → AllByRecursion P ts → Among ts t → P t
all-among P [] t a m = absurd m
all-among P (u ∷ ts) t a (inl e) = subst P e a.0
all-among P (u ∷ ts) t a (inr m) = all-among P ts t a.1 m

-- after t is put in it is there, and what was there is
pub added-has : (ts us : List ℕ) (t : ℕ) → Adds ts t us → Among us t
added-has ts us t (inl h) = subst (λ vs. Among vs t) (sym h.0) h.1
added-has ts us t (inr e) = subst (λ vs. Among vs t) (sym e) (among-last ts t)

pub added-keeps : (ts us : List ℕ) (t u : ℕ) → Adds ts t us → Among ts u → Among us u
added-keeps ts us t u (inl h) a = subst (λ vs. Among vs u) (sym h.0) a
added-keeps ts us t u (inr e) a = subst (λ vs. Among vs u) (sym e) (among-left ts (t ∷ []) u a)

-- us are ts and more ids that have P
pub record Further (P : ℕ → Type 0) (ts us : List ℕ) : Type 0 where
  pub more : List ℕ
  pub is : us ≡ ts ++ more
  pub have : AllByRecursion P more

pub added : (P : ℕ → Type 0) (ts us : List ℕ) (t : ℕ) → P t → Adds ts t us → Further P ts us
added P ts us t h (inl e) = record { more = []; is = e.0 ∙ sym (append-nil ts); have = tt }
added P ts us t h (inr e) = record { more = t ∷ []; is = e; have = (h, tt) }
