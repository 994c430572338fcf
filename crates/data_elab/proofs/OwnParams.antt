-- The parameters at which a constructor's type ends, one after the other.
use Rattle.std.proofs.Common.{◌≡◌, ◌<◌, ◌+◌, ℕ, zero, suc, List, [], ◌∷◌, length, map, refl, sym, ap, subst, ◌∙◌, arith}
use Rattle.std.specs.Prelude.{Bool, true, false, cond}
use Rattle.core_rules.specs.Term.{Term}
use Rattle.core_rules.specs.Heads.{Answer}
use Rattle.term_pool.specs.Pool.{Pool}
use Rattle.kernel_rules.specs.Outcome.{Outcome, Gives, Refuses}
use Rattle.el_outside.specs.declared.place.Pos.{Pos}
use Rattle.written_rules.specs.Asking.{Is}
use Rattle.written_rules.specs.Rules.{shows}
use Rattle.data_rules.specs.Refusals.{Refusal, ConShape, at}
use Rattle.data_rules.specs.Reading.{Reads, ◌>>=◌}
use Rattle.data_rules.specs.Shapes.{is_variable, own_params}
use Rattle.data_elab.specs.declared.error.DataError.{DataError}
use Rattle.data_elab.specs.declared.reader.Reader.{Reader}
use Rattle.data_elab.specs.Answers.{RefusedBy}
use Rattle.data_elab.specs.Reader.{IsReady, Grows, Keeps, Over, Read, over, read_only, term_of}
use Rattle.data_elab.proofs.Kept.{over_kept, term_kept}
use Rattle.data_elab.proofs.Reading.{expr-next, expr-refused, refused-weaker}

-- what the whole comes to, by what is left
abbrev pub Readings : Over → Reads (List Term) → Pos → ℕ → ℕ → List Term → Type 0
Readings o all p k n us = (r : Outcome Refusal (List Term)) → Read o (own_params p k n us) r → Read o all r

abbrev pub tested : Pos → ℕ → ℕ → List Term → Answer → Reads (List Term)
tested p k n us w = Is (is_variable p (k + n) w) >>= (λ o. own_params p k n us)

module _ (o : Over) (p : Pos) (k n : ℕ) (u : Term) (us : List Term) where
  term-refused : (q : Pool) (e : DataError) → RefusedBy q (λ r. Read o (read_only (shows p u)) (Refuses r)) e → RefusedBy q (λ r. Read o (own_params p k (suc n) (u ∷ us)) (Refuses r)) e
  term-refused q e h = expr-refused o (shows p u) (tested p k n us) q e h

  module _ (w : Answer) (h : Read o (read_only (shows p u)) (Gives w)) where
    term-other : is_variable p (k + n) w ≡ Refuses (at p ConShape) → Read o (own_params p k (suc n) (u ∷ us)) (Refuses (at p ConShape))
    term-other e = expr-next o (shows p u) (tested p k n us) w _ h (subst (λ v. Read o (Is v >>= (λ o. own_params p k n us)) (Refuses (at p ConShape))) (sym e) refl)

    term-next : is_variable p (k + n) w ≡ Gives tt → (r : Outcome Refusal (List Term)) → Read o (own_params p k n us) r → Read o (own_params p k (suc n) (u ∷ us)) r
    term-next e r j = expr-next o (shows p u) (tested p k n us) w r h (subst (λ v. Read o (Is v >>= (λ o. own_params p k n us)) r) (sym e) j)

-- x is the reader at the start of the loop, y the one before the term u; m terms are left to test
module _ {x y : Reader} (rx : IsReady x) (gx : Grows x y) (kx : Keeps x y) (p : Pos) (k m : ℕ) (all : Reads (List Term)) where
  pub none-left : (left : List ℕ) → Readings (over x) all p k m (map (term_of x) left) → 0 < m → left ≡ [] → Read (over x) all (Refuses (at p ConShape))
  none-left left s l none = s (Refuses (at p ConShape)) (subst (λ us. Read (over x) (own_params p k m (map (term_of x) us)) (Refuses (at p ConShape))) (sym none) (empty m l))
    where
      empty : (m : ℕ) → 0 < m → Read (over x) (own_params p k m []) (Refuses (at p ConShape))
      empty zero l = absurd (omega (arith, l))
      empty (suc m) l = refl

  module _ (n : ℕ) (count : m ≡ suc n) (left others : List ℕ) (u : ℕ) (first : left ≡ u ∷ others) (s : Readings (over x) all p k m (map (term_of x) left)) (low : u < length x.pool.now.trees) where
    after : Readings (over x) all p k (suc n) (term_of x u ∷ map (term_of x) others)
    after r h = s r (subst (λ i. Read (over x) (own_params p k i (map (term_of x) left)) r) (sym count) (subst (λ us. Read (over x) (own_params p k (suc n) (map (term_of x) us)) r) (sym first) h))

    here : (r : Outcome Refusal Answer) → Read (over y) (read_only (shows p (term_of y u))) r → Read (over x) (read_only (shows p (term_of x u))) r
    here r h =
        subst (λ t. Read (over x) (read_only (shows p t)) r) (term_kept rx gx kx u low) (subst (λ o. Read o (read_only (shows p (term_of y u))) r) (over_kept rx gx kx) h)

    pub own-refused : (q : Pool) (e : DataError) → RefusedBy q (λ r. Read (over y) (read_only (shows p (term_of y u))) (Refuses r)) e → RefusedBy q (λ r. Read (over x) all (Refuses r)) e
    own-refused q e h =
        refused-weaker q (λ r. Read (over x) (own_params p k (suc n) (term_of x u ∷ map (term_of x) others)) (Refuses r)) (λ r. Read (over x) all (Refuses r)) (λ r j. after (Refuses r) j) e
        (term-refused (over x) p k n (term_of x u) (map (term_of x) others) q e
        (refused-weaker q (λ r. Read (over y) (read_only (shows p (term_of y u))) (Refuses r)) (λ r. Read (over x) (read_only (shows p (term_of x u))) (Refuses r)) (λ r j. here (Refuses r) j) e h))

    module _ (w : Answer) (h : Read (over y) (read_only (shows p (term_of y u))) (Gives w)) (b : Bool) (is : is_variable p (k + n) w ≡ cond b (Gives tt) (Refuses (at p ConShape))) where
      pub own-other : b ≡ false → Read (over x) all (Refuses (at p ConShape))
      own-other e = after _ (term-other (over x) p k n (term_of x u) (map (term_of x) others) w (here (Gives w) h) (is ∙ ap (λ c. cond c (Gives tt) (Refuses (at p ConShape))) e))

      pub own-next : b ≡ true → Readings (over x) all p k n (map (term_of x) others)
      own-next e r j = after r (term-next (over x) p k n (term_of x u) (map (term_of x) others) w (here (Gives w) h) (is ∙ ap (λ c. cond c (Gives tt) (Refuses (at p ConShape))) e) r j)

pub own-all : (o : Over) (all : Reads (List Term)) (p : Pos) (k m : ℕ) (us : List Term) → Readings o all p k m us → m ≡ 0 → Read o all (Gives us)
own-all o all p k m us s z = s (Gives us) (subst (λ i. Read o (own_params p k i us) (Gives us)) (sym z) refl)
