-- A comparison has one verdict, and more fuel or depth changes none that stood.
use Rattle.std.proofs.Common.{◌≡◌, ◌≢◌, ℕ, zero, suc, ◌+◌, ◌≤◌, List, [], ◌∷◌, refl, sym, ap, ap₂, ◌∙◌, subst as transport, subst₂, arith, inl, inr, add-zero, add-suc, ◌-◌}
use Rattle.core_rules.specs.Term.{Term}
use Rattle.core_rules.specs.Signature.{Signature}
use Rattle.core_rules.specs.Heads.{Solutions, Answer, Bounded, Within, Out, HeadOf}
use Rattle.core_rules.specs.Bounded.{Verdict, Yes, OutOfFuel, OutOfDepth, Part, Pair, Decision, Now, Parts, decide, below, InOrder, Decided, ByHeads, ConvOf}
use Rattle.core_rules.proofs.Heads.OneAnswer.{heads_one}

-- one bounded head form
pub head_of_one : (g : Signature Term) (s : Solutions) (t : Term) (fuel : ℕ) (b c : Bounded) → HeadOf g s t fuel b → HeadOf g s t fuel c → b ≡ c
head_of_one g s t fuel (Within v n) (Within w m) x y = let h = heads_one x.0 y.0 in ap₂ Within h.0 h.1
head_of_one g s t fuel (Within v n) Out x y = let h = y v n x.0 in absurd (omega (arith, x.1))
head_of_one g s t fuel Out (Within w m) x y = let h = x w m y.0 in absurd (omega (arith, y.1))
head_of_one g s t fuel Out Out x y = refl

-- an answer within the fuel is the answer with more
pub head_of_more : (g : Signature Term) (s : Solutions) (t : Term) (fuel more : ℕ) (w : Answer) (n : ℕ) → fuel ≤ more → HeadOf g s t fuel (Within w n) → HeadOf g s t more (Within w n)
head_of_more g s t fuel more w n le h = (h.0, omega (arith, h.1))

-- a comparison V has one verdict on each two terms
record IsOne (V : Term → Term → Verdict → Type 0) : Type 0 where
  by : (t u : Term) (q p : Verdict) → V t u q → V t u p → q ≡ p

in_order_one : (V : Term → Term → Verdict → Type 0) → IsOne V → (ps : List Part) (q p : Verdict) → InOrder V ps q → InOrder V ps p → q ≡ p
in_order_one V o [] q p h k = h ∙ sym k
in_order_one V o (Pair xs t u ∷ ps) q p (inl h) (inl k) = in_order_one V o ps q p h.1 k.1
in_order_one V o (Pair xs t u ∷ ps) q p (inl h) (inr k) = absurd (k.2 (o.by t u k.0 Yes k.1 h.0))
in_order_one V o (Pair xs t u ∷ ps) q p (inr h) (inl k) = absurd (h.2 (o.by t u h.0 Yes h.1 k.0))
in_order_one V o (Pair xs t u ∷ ps) q p (inr h) (inr k) = h.3 ∙ ap (below xs) (o.by t u h.0 k.0 h.1 k.1) ∙ sym k.3

decided_one : (V : Term → Term → Verdict → Type 0) → IsOne V → (D : Decision) (q p : Verdict) → Decided V D q → Decided V D p → q ≡ p
decided_one V o (Now v) q p h k = h ∙ sym k
decided_one V o (Parts ps) q p h k = in_order_one V o ps q p h k

by_heads_one : (g : Signature Term) (s : Solutions) (fuel : ℕ) (V : Term → Term → Verdict → Type 0) → IsOne V → (t u : Term) (q p : Verdict) → ByHeads g s fuel V t u q → ByHeads g s fuel V t u p → q ≡ p
by_heads_one g s fuel V o t u q p h k =
    let b = head_of_one g s t fuel h.left k.left h.is_left k.is_left in
    let c = head_of_one g s u fuel h.right k.right h.is_right k.is_right in
    decided_one V o (decide g h.left h.right) q p h.decided (subst₂ (λ x y. Decided V (decide g x y) p) (sym b) (sym c) k.decided)

pub conv_of_one : (g : Signature Term) (s : Solutions) (fuel depth : ℕ) (t u : Term) (q p : Verdict) → ConvOf g s fuel depth t u q → ConvOf g s fuel depth t u p → q ≡ p
conv_of_one g s fuel zero t u q p h k = h ∙ sym k
conv_of_one g s fuel (suc depth) t u q p (inl h) (inl k) = h.1 ∙ sym k.1
conv_of_one g s fuel (suc depth) t u q p (inl h) (inr k) = absurd (k.0 h.0)
conv_of_one g s fuel (suc depth) t u q p (inr h) (inl k) = absurd (h.0 k.0)
conv_of_one g s fuel (suc depth) t u q p (inr h) (inr k) = by_heads_one g s fuel (ConvOf g s fuel depth) (record { by = conv_of_one g s fuel depth }) t u q p h.1 k.1

-- each verdict of V but OutOfDepth is one of W
record Grows (V W : Term → Term → Verdict → Type 0) : Type 0 where
  by : (t u : Term) (q : Verdict) → q ≢ OutOfDepth → V t u q → W t u q

below_depth : (xs : List ℕ) (q : Verdict) → below xs q ≢ OutOfDepth → q ≢ OutOfDepth
below_depth xs q n e = n (ap (below xs) e)

in_order_grows : (V W : Term → Term → Verdict → Type 0) → Grows V W → (ps : List Part) (q : Verdict) → q ≢ OutOfDepth → InOrder V ps q → InOrder W ps q
in_order_grows V W o [] q n h = h
in_order_grows V W o (Pair xs t u ∷ ps) q n (inl h) = inl (o.by t u Yes (λ e. cc) h.0, in_order_grows V W o ps q n h.1)
in_order_grows V W o (Pair xs t u ∷ ps) q n (inr h) = inr (h.0, o.by t u h.0 (below_depth xs h.0 (λ e. n (h.3 ∙ e))) h.1, h.2, h.3)

decided_grows : (V W : Term → Term → Verdict → Type 0) → Grows V W → (D : Decision) (q : Verdict) → q ≢ OutOfDepth → Decided V D q → Decided W D q
decided_grows V W o (Now v) q n h = h
decided_grows V W o (Parts ps) q n h = in_order_grows V W o ps q n h

conv_of_next : (g : Signature Term) (s : Solutions) (fuel depth : ℕ) (t u : Term) (q : Verdict) → q ≢ OutOfDepth → ConvOf g s fuel depth t u q → ConvOf g s fuel (suc depth) t u q
conv_of_next g s fuel zero t u q n h = absurd (n h)
conv_of_next g s fuel (suc depth) t u q n (inl h) = inl h
conv_of_next g s fuel (suc depth) t u q n (inr h) = let d = h.1 in
    let grown = decided_grows (ConvOf g s fuel depth) (ConvOf g s fuel (suc depth)) (record { by = conv_of_next g s fuel depth }) (decide g d.left d.right) q n d.decided in
    inr (h.0, record { left = d.left; right = d.right; is_left = d.is_left; is_right = d.is_right; decided = grown })

conv_of_deeper_by : (g : Signature Term) (s : Solutions) (fuel depth k : ℕ) (t u : Term) (q : Verdict) → q ≢ OutOfDepth → ConvOf g s fuel depth t u q → ConvOf g s fuel (depth + k) t u q
conv_of_deeper_by g s fuel depth zero t u q n h = transport (λ d. ConvOf g s fuel d t u q) (sym (add-zero depth)) h
conv_of_deeper_by g s fuel depth (suc k) t u q n h = transport (λ d. ConvOf g s fuel d t u q) (sym (add-suc depth k)) (conv_of_next g s fuel (depth + k) t u q n (conv_of_deeper_by g s fuel depth k t u q n h))

-- a verdict that is not for want of depth is the verdict at every greater depth
pub conv_of_deeper : (g : Signature Term) (s : Solutions) (fuel depth deeper : ℕ) (t u : Term) (q : Verdict) → depth ≤ deeper → q ≢ OutOfDepth → ConvOf g s fuel depth t u q → ConvOf g s fuel deeper t u q
conv_of_deeper g s fuel depth deeper t u q le n h = transport (λ d. ConvOf g s fuel d t u q) (omega arith) (conv_of_deeper_by g s fuel depth (deeper - depth) t u q n h)

-- each verdict of V but OutOfFuel is one of W
record Lasts (V W : Term → Term → Verdict → Type 0) : Type 0 where
  by : (t u : Term) (q : Verdict) → q ≢ OutOfFuel → V t u q → W t u q

in_order_lasts : (V W : Term → Term → Verdict → Type 0) → Lasts V W → (ps : List Part) (q : Verdict) → q ≢ OutOfFuel → InOrder V ps q → InOrder W ps q
in_order_lasts V W o [] q n h = h
in_order_lasts V W o (Pair xs t u ∷ ps) q n (inl h) = inl (o.by t u Yes (λ e. cc) h.0, in_order_lasts V W o ps q n h.1)
in_order_lasts V W o (Pair xs t u ∷ ps) q n (inr h) = inr (h.0, o.by t u h.0 (λ e. n (h.3 ∙ ap (below xs) e)) h.1, h.2, h.3)

decided_lasts : (V W : Term → Term → Verdict → Type 0) → Lasts V W → (D : Decision) (q : Verdict) → q ≢ OutOfFuel → Decided V D q → Decided W D q
decided_lasts V W o (Now v) q n h = h
decided_lasts V W o (Parts ps) q n h = in_order_lasts V W o ps q n h

-- a verdict that is not for want of fuel is the verdict with more
pub conv_of_more : (g : Signature Term) (s : Solutions) (fuel more depth : ℕ) (t u : Term) (q : Verdict) → fuel ≤ more → q ≢ OutOfFuel → ConvOf g s fuel depth t u q → ConvOf g s more depth t u q
conv_of_more g s fuel more zero t u q le n h = h
conv_of_more g s fuel more (suc depth) t u q le n (inl h) = inl h
conv_of_more g s fuel more (suc depth) t u q le n (inr h) =
    inr (h.0, by_heads (record { by = λ t u q n h. conv_of_more g s fuel more depth t u q le n h }) h.1.left h.1.right h.1.is_left h.1.is_right h.1.decided)
  where
    by_heads : Lasts (ConvOf g s fuel depth) (ConvOf g s more depth) → (b c : Bounded) → HeadOf g s t fuel b → HeadOf g s u fuel c → Decided (ConvOf g s fuel depth) (decide g b c) q → ByHeads g s more (ConvOf g s more depth) t u q
    by_heads o Out c x y d = absurd (n d)
    by_heads o (Within v k) Out x y d = absurd (n d)
    by_heads o (Within v k) (Within w l) x y d = record {
      left = Within v k;
      right = Within w l;
      is_left = head_of_more g s t fuel more v k le x;
      is_right = head_of_more g s u fuel more w l le y;
      decided = decided_lasts (ConvOf g s fuel depth) (ConvOf g s more depth) o (decide g (Within v k) (Within w l)) q n d;
    }
