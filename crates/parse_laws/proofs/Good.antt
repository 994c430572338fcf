-- What every parser does: what it takes is in its language, what it took before a refusal can be gone on with, and its answer
-- depends on what it took and on the token after that. A parser is a family over the number of turns that it may make; what is said of it
-- is said of lists that are short enough for these.
use Rattle.std.proofs.Common.{◌≡◌, ℕ, zero, suc, ◌≤◌, ◌<◌, ◌+◌, ◌-◌, Bool, take, true, false, cond, List, [], ◌∷◌, ◌++◌, length, Ok, Err, Option, Some, None, refl, sym, ap, subst, ◌∙◌, append_assoc, arith}
use Rattle.std.proofs.lemmas.List.{append-nil, length-append}
use Rattle.parse_laws.specs.Parser.{Outcome, Parser, and_then, ◌>>=◌, ◌>>◌, pure, given, one, next_is, choose, taken_for, with_taken, at_end, ended}

-- the same token comes next, or none
abbrev pub Agree : {S : Type 0} → List S → List S → Type 0
Agree [] [] = Unit {0}
Agree [] (u ∷ us) = ⊥
Agree (t ∷ ts) [] = ⊥
Agree (t ∷ ts) (u ∷ us) = t ≡ u

pub agree_behind : {S : Type 0} (c ts us : List S) → Agree ts us → Agree (c ++ ts) (c ++ us)
agree_behind [] ts us a = a
agree_behind (t ∷ c) ts us a = refl

pub agree_next : {S : Type 0} (test : S → Bool) (ts us : List S) → Agree ts us → next_is test ts ≡ next_is test us
agree_next test [] [] a = refl
agree_next test [] (u ∷ us) a = absurd a
agree_next test (t ∷ ts) [] a = absurd a
agree_next test (t ∷ ts) (u ∷ us) a = ap test a

-- the tokens that a value may be read from
abbrev pub Language : Type 0 → Type 0 → Type 1
Language S A = A → List S → Type 0

abbrev pub Family : Type 0 → Type 0 → Type 0
Family S A = ℕ → Parser S A

pub record Viable {S A : Type 0} (L : Language S A) (c : List S) : Type 0 where
  pub value : A
  pub more : List S
  pub whole : L value (c ++ more)

-- The answer came with the list `rest` left, and comes with any list left whose first token is the same.
pub record Took {S A : Type 0} (L : Language S A) (p : Family S A) (s : ℕ) (ts : List S) (a : A) (rest : List S) : Type 0 where
  pub taken : List S
  pub split : ts ≡ taken ++ rest
  pub reads : L a taken
  pub local : (m : ℕ) (new : List S) → length (taken ++ new) < s + m → Agree rest new → p m (taken ++ new) ≡ Ok (a, new)

pub record Refused {S A : Type 0} (L : Language S A) (p : Family S A) (s : ℕ) (ts : List S) (k : ℕ) : Type 0 where
  pub taken : List S
  pub rest : List S
  pub split : ts ≡ taken ++ rest
  pub left : length rest ≡ k
  pub viable : Viable L taken
  pub local : (m : ℕ) (new : List S) → length (taken ++ new) < s + m → Agree rest new → p m (taken ++ new) ≡ Err (length new)

abbrev pub GoodFor : {S A : Type 0} → Language S A → Family S A → ℕ → List S → Outcome S A → Type 0
GoodFor L p s ts (Ok x) = Took L p s ts x.0 x.1
GoodFor L p s ts (Err k) = Refused L p s ts k

pub record Word {S A : Type 0} (L : Language S A) : Type 0 where
  pub value : A
  pub tokens : List S
  pub reads : L value tokens

-- with n turns, on lists of less than s + n tokens
pub record Good {S A : Type 0} (L : Language S A) (p : Family S A) (s n : ℕ) : Type 0 where
  pub at : (ts : List S) → length ts < s + n → GoodFor L p s ts (p n ts)
  pub word : Word L

-- ---- one after the other

pub record Seq {S A B : Type 0} (L : Language S A) (M : A → Language S B) (b : B) (c : List S) : Type 0 where
  pub value : A
  pub front : List S
  pub back : List S
  pub whole : c ≡ front ++ back
  pub first : L value front
  pub second : M value b back

module _ {S A B : Type 0} (L : Language S A) (M : A → Language S B) (p : Family S A) (q : A → Family S B) (s s' n : ℕ) (goodp : Good L p s n) (goodq : (a : A) → Good (M a) (q a) s' n) (less : (a : A) (c : List S) → L a c → s ≤ s' + length c) where
  abbrev Both : Language S B
  Both = Seq L M

  abbrev both : Family S B
  both m = p m >>= (λ a. q a m)

  viable_front : (c : List S) → Viable L c → Viable Both c
  viable_front c v = let w = (goodq v.value).word in record {
    value = w.value;
    more = v.more ++ w.tokens;
    whole = record { value = v.value; front = c ++ v.more; back = w.tokens; whole = sym (append_assoc c v.more w.tokens); first = v.whole; second = w.reads };
  }

  viable_back : (a : A) (c d : List S) → L a c → Viable (M a) d → Viable Both (c ++ d)
  viable_back a c d l v = record {
    value = v.value;
    more = v.more;
    whole = record { value = a; front = c; back = d ++ v.more; whole = append_assoc c d v.more; first = l; second = v.whole };
  }

  through : (ts : List S) (a : A) (rest : List S) (t : Took L p s ts a rest) (m : ℕ) (d left new : List S) → rest ≡ d ++ left → length ((t.taken ++ d) ++ new) < s + m → Agree left new → both m ((t.taken ++ d) ++ new) ≡ q a m (d ++ new)
  through ts a rest t m d left new e lt ok =
      ap (both m) (append_assoc t.taken d new)
      ∙ ap (λ (r : Outcome S A). and_then r (λ b. q b m))
      (t.local m (d ++ new) (subst (λ (y : List S). length y < s + m) (append_assoc t.taken d new) lt) (subst (λ (y : List S). Agree y (d ++ new)) (sym e) (agree_behind d left new ok)))

  behind : (ts : List S) (a : A) (rest : List S) (t : Took L p s ts a rest) (m : ℕ) (d new : List S) → length ((t.taken ++ d) ++ new) < s + m → length (d ++ new) < s' + m
  behind ts a rest t m d new lt = omega (arith, less a t.taken t.reads, length-append (t.taken ++ d) new, length-append t.taken d, length-append d new)

  -- what the first took, and the second's answer
  after : (ts : List S) (a : A) (rest : List S) → Took L p s ts a rest → (r : Outcome S B) → GoodFor (M a) (q a) s' rest r → GoodFor Both both s ts r
  after ts a rest t (Ok x) g = record {
    taken = t.taken ++ g.taken;
    split = t.split ∙ ap (λ (y : List S). t.taken ++ y) g.split ∙ sym (append_assoc t.taken g.taken x.1);
    reads = record { value = a; front = t.taken; back = g.taken; whole = refl; first = t.reads; second = g.reads };
    local = λ m new lt ok. through ts a rest t m g.taken x.1 new g.split lt ok ∙ g.local m new (behind ts a rest t m g.taken new lt) ok;
  }
  after ts a rest t (Err k) g = record {
    taken = t.taken ++ g.taken;
    rest = g.rest;
    split = t.split ∙ ap (λ (y : List S). t.taken ++ y) g.split ∙ sym (append_assoc t.taken g.taken g.rest);
    left = g.left;
    viable = viable_back a t.taken g.taken t.reads g.viable;
    local = λ m new lt ok. through ts a rest t m g.taken g.rest new g.split lt ok ∙ g.local m new (behind ts a rest t m g.taken new lt) ok;
  }

  first : (ts : List S) → length ts < s + n → (r : Outcome S A) → GoodFor L p s ts r → GoodFor Both both s ts (and_then r (λ a. q a n))
  first ts lt (Ok x) g =
      let short : length x.1 < s' + n = omega (arith, less x.0 g.taken g.reads, ap length g.split, length-append g.taken x.1) in
      after ts x.0 x.1 g (q x.0 n x.1) ((goodq x.0).at x.1 short)
  first ts lt (Err k) g = record {
    taken = g.taken;
    rest = g.rest;
    split = g.split;
    left = g.left;
    viable = viable_front g.taken g.viable;
    local = λ m new lt ok. ap (λ (r : Outcome S A). and_then r (λ b. q b m)) (g.local m new lt ok);
  }

  pub chain_good : Good Both both s n
  chain_good = record {
    at = λ ts lt. first ts lt (p n ts) (goodp.at ts lt);
    word = let w = goodp.word in let v = (goodq w.value).word in record {
      value = v.value;
      tokens = w.tokens ++ v.tokens;
      reads = record { value = w.value; front = w.tokens; back = v.tokens; whole = refl; first = w.reads; second = v.reads };
    };
  }

pub bind_good : {S A B : Type 0} (L : Language S A) (M : A → Language S B) (p : Family S A) (q : A → Family S B) (s n : ℕ) → Good L p s n → ((a : A) → Good (M a) (q a) s n) → Good (Seq L M) (λ m. p m >>= (λ a. q a m)) s n
bind_good L M p q s n goodp goodq = chain_good L M p q s s n goodp goodq (λ a c l. omega arith)

-- ---- the steps

pub pure_good : {S A : Type 0} (a : A) (s n : ℕ) → Good {S = S} {A = A} (λ b c. (b ≡ a) × (c ≡ [])) (λ m. pure a) s n
pure_good a s n = record {
  at = λ ts lt. record { taken = []; split = refl; reads = (refl, refl); local = λ m new lt ok. refl };
  word = record { value = a; tokens = []; reads = (refl, refl) };
}

pub weaken : {S A : Type 0} (L M : Language S A) (p : Family S A) (s n : ℕ) → ((a : A) (c : List S) → L a c → M a c) → Good L p s n → Good M p s n
weaken {S = S} {A = A} L M p s n to g = record { at = λ ts lt. go ts (p n ts) (g.at ts lt); word = record { value = g.word.value; tokens = g.word.tokens; reads = to g.word.value g.word.tokens g.word.reads } }
  where
    viable : (c : List S) → Viable L c → Viable M c
    viable c v = record { value = v.value; more = v.more; whole = to v.value (c ++ v.more) v.whole }

    go : (ts : List S) (r : Outcome S A) → GoodFor L p s ts r → GoodFor M p s ts r
    go ts (Ok x) t = record { taken = t.taken; split = t.split; reads = to x.0 t.taken t.reads; local = t.local }
    go ts (Err k) t = record { taken = t.taken; rest = t.rest; split = t.split; left = t.left; viable = viable t.taken t.viable; local = t.local }

-- with one token less
pub shorten : {S A : Type 0} (L : Language S A) (p : Family S A) (n : ℕ) → Good L p 1 n → Good L p 0 n
shorten {S = S} {A = A} L p n g = record { at = λ ts lt. go ts (p n ts) (g.at ts (omega arith)); word = g.word }
  where
    go : (ts : List S) (r : Outcome S A) → GoodFor L p 1 ts r → GoodFor L p 0 ts r
    go ts (Ok x) t = record { taken = t.taken; split = t.split; reads = t.reads; local = λ m new lt ok. t.local m new (omega arith) ok }
    go ts (Err k) t = record { taken = t.taken; rest = t.rest; split = t.split; left = t.left; viable = t.viable; local = λ m new lt ok. t.local m new (omega arith) ok }

abbrev pub One : {S A : Type 0} → (S → Option A) → Language S A
One {S = S} read a c = (t : S) × (c ≡ t ∷ []) × (read t ≡ Some a)

pub one_good : {S A : Type 0} (read : S → Option A) (t : S) (a : A) (s n : ℕ) → read t ≡ Some a → Good (One read) (λ m. one read) s n
unfolding one
one_good {S = S} {A = A} read t a s n is = record { at = λ ts lt. at ts; word = record { value = a; tokens = t ∷ []; reads = (t, refl, is) } }
  where
    viable : Viable (One read) []
    viable = record { value = a; more = t ∷ []; whole = (t, refl, is) }

    by_read : (u : S) (us : List S) (o : Option A) → read u ≡ o → GoodFor (One read) (λ m. one read) s (u ∷ us) (given (u ∷ us) us o)
    by_read u us (Some b) e = record { taken = u ∷ []; split = refl; reads = (u, refl, e); local = λ m new lt ok. rw e refl }
    by_read u us None e = record { taken = []; rest = u ∷ us; split = refl; left = refl; viable = viable; local = λ m new lt ok. other new ok }
      where
        other : (new : List S) → Agree (u ∷ us) new → one read new ≡ Err (length new)
        other [] ok = absurd ok
        other (v ∷ vs) ok = rw (← ok, e) refl

    at : (ts : List S) → GoodFor (One read) (λ m. one read) s ts (one read ts)
    at [] = record { taken = []; rest = []; split = refl; left = refl; viable = viable; local = λ m new lt ok. none new ok }
      where
        none : (new : List S) → Agree [] new → one read new ≡ Err (length new)
        none [] ok = refl
        none (u ∷ us) ok = absurd ok
    at (u ∷ us) = by_read u us (read u) refl

-- a token first: what follows has one turn less to answer for
pub step_good : {S A B : Type 0} (read : S → Option A) (t : S) (a : A) (is : read t ≡ Some a) (M : A → Language S B) (q : A → Family S B) (n : ℕ) → ((b : A) → Good (M b) (q b) 0 n) → Good (Seq (One read) M) (λ m. one read >>= (λ b. q b m)) 1 n
step_good read t a is M q n goodq = chain_good (One read) M (λ m. one read) q 1 0 n (one_good read t a 1 n is) goodq (λ b c l. rw l.1 (omega arith))

-- either, by the next token; a word of the second serves
pub choose_good : {S A : Type 0} (test : S → Bool) (L : Language S A) (p q : Family S A) (s n : ℕ) → Good L p s n → Good L q s n → Good L (λ m. choose test (p m) (q m)) s n
choose_good {S = S} {A = A} test L p q s n goodp goodq = record { at = λ ts lt. go ts lt (next_is test ts) refl; word = goodq.word }
  where
    seen : (ts c rest new : List S) → ts ≡ c ++ rest → Agree rest new → next_is test (c ++ new) ≡ next_is test ts
    seen ts c rest new e ok = sym (agree_next test (c ++ rest) (c ++ new) (agree_behind c rest new ok)) ∙ ap (next_is test) (sym e)

    first : (ts : List S) → next_is test ts ≡ true → (r : Outcome S A) → GoodFor L p s ts r → GoodFor L (λ m. choose test (p m) (q m)) s ts r
    first ts b (Ok x) t = record { taken = t.taken; split = t.split; reads = t.reads; local = λ m new lt ok. rw (seen ts t.taken x.1 new t.split ok ∙ b) (t.local m new lt ok) }
    first ts b (Err k) t = record { taken = t.taken; rest = t.rest; split = t.split; left = t.left; viable = t.viable; local = λ m new lt ok. rw (seen ts t.taken t.rest new t.split ok ∙ b) (t.local m new lt ok) }

    second : (ts : List S) → next_is test ts ≡ false → (r : Outcome S A) → GoodFor L q s ts r → GoodFor L (λ m. choose test (p m) (q m)) s ts r
    second ts b (Ok x) t = record { taken = t.taken; split = t.split; reads = t.reads; local = λ m new lt ok. rw (seen ts t.taken x.1 new t.split ok ∙ b) (t.local m new lt ok) }
    second ts b (Err k) t = record { taken = t.taken; rest = t.rest; split = t.split; left = t.left; viable = t.viable; local = λ m new lt ok. rw (seen ts t.taken t.rest new t.split ok ∙ b) (t.local m new lt ok) }

    go : (ts : List S) → length ts < s + n → (b : Bool) → next_is test ts ≡ b → GoodFor L (λ m. choose test (p m) (q m)) s ts (cond b (p n ts) (q n ts))
    go ts lt true e = first ts e (p n ts) (goodp.at ts lt)
    go ts lt false e = second ts e (q n ts) (goodq.at ts lt)

-- a family that makes one turn more than another
pub deeper_good : {S A : Type 0} (L : Language S A) (level p : Family S A) (n : ℕ) → ((m : ℕ) (ts : List S) → p (suc m) ts ≡ level m ts) → Good L level 1 n → Good L p 0 (suc n)
deeper_good {S = S} {A = A} L level p n same g = record { at = λ ts lt. subst (GoodFor L p 0 ts) (sym (same n ts)) (go ts (level n ts) (g.at ts (omega arith))); word = g.word }
  where
    go : (ts : List S) (r : Outcome S A) → GoodFor L level 1 ts r → GoodFor L p 0 ts r
    go ts (Ok x) t = record { taken = t.taken; split = t.split; reads = t.reads; local = λ m new lt ok. again m new lt ok }
      where
        again : (m : ℕ) (new : List S) → length (t.taken ++ new) < 0 + m → Agree x.1 new → p m (t.taken ++ new) ≡ Ok (x.0, new)
        again zero new lt ok = absurd (omega arith)
        again (suc m) new lt ok = same m (t.taken ++ new) ∙ t.local m new (omega arith) ok
    go ts (Err k) t = record { taken = t.taken; rest = t.rest; split = t.split; left = t.left; viable = t.viable; local = λ m new lt ok. again m new lt ok }
      where
        again : (m : ℕ) (new : List S) → length (t.taken ++ new) < 0 + m → Agree t.rest new → p m (t.taken ++ new) ≡ Err (length new)
        again zero new lt ok = absurd (omega arith)
        again (suc m) new lt ok = same m (t.taken ++ new) ∙ t.local m new (omega arith) ok

-- ---- what was taken

abbrev pub TakenWith : {S A : Type 0} → Language S A → Language S (A × List S)
TakenWith L x c = L x.0 c × (x.1 ≡ c)

pub taken_front : {S : Type 0} (c r : List S) → take (length (c ++ r) - length r) (c ++ r) ≡ c
taken_front {S = S} c r = let e : length (c ++ r) - length r ≡ length c = omega (arith, length-append c r) in rw e (all c)
  where
    all : (c : List S) → take (length c) (c ++ r) ≡ c
    all [] = refl
    all (t ∷ c) = ap (λ (y : List S). t ∷ y) (all c)

pub taken_good : {S A : Type 0} (L : Language S A) (p : Family S A) (s n : ℕ) → Good L p s n → Good (TakenWith L) (λ m. with_taken (p m)) s n
unfolding with_taken
taken_good {S = S} {A = A} L p s n g = record {
  at = λ ts lt. go ts (p n ts) (g.at ts lt);
  word = record { value = (g.word.value, g.word.tokens); tokens = g.word.tokens; reads = (g.word.reads, refl) };
}
  where
    go : (ts : List S) (r : Outcome S A) → GoodFor L p s ts r → GoodFor (TakenWith L) (λ m. with_taken (p m)) s ts (taken_for ts r)
    go ts (Ok x) t =
        let is : take (length ts - length x.1) ts ≡ t.taken = ap (λ (y : List S). take (length y - length x.1) y) t.split ∙ taken_front t.taken x.1 in record {
          taken = t.taken;
          split = t.split;
          reads = (t.reads, is);
          local = λ m new lt ok. ap (taken_for (t.taken ++ new)) (t.local m new lt ok) ∙ (λ i. Ok ((x.0, (taken_front t.taken new ∙ sym is) i), new));
        }
    go ts (Err k) t = record {
      taken = t.taken;
      rest = t.rest;
      split = t.split;
      left = t.left;
      viable = record { value = (t.viable.value, t.taken ++ t.viable.more); more = t.viable.more; whole = (t.viable.whole, refl) };
      local = λ m new lt ok. ap (taken_for (t.taken ++ new)) (t.local m new lt ok);
    }

-- ---- the end

abbrev pub Nothing : {S : Type 0} → Language S (Unit {0})
Nothing u c = c ≡ []

pub end_good : {S : Type 0} (s n : ℕ) → Good {S = S} Nothing (λ m. at_end) s n
unfolding at_end
end_good {S = S} s n = record { at = λ ts lt. at ts; word = record { value = tt; tokens = []; reads = refl } }
  where
    at : (ts : List S) → GoodFor Nothing (λ m. at_end) s ts (at_end ts)
    at [] = record { taken = []; split = refl; reads = refl; local = λ m new lt ok. only new ok }
      where
        only : (new : List S) → Agree [] new → at_end new ≡ Ok (tt, new)
        only [] ok = refl
        only (u ∷ us) ok = absurd ok
    at (t ∷ ts) = record { taken = []; rest = t ∷ ts; split = refl; left = refl; viable = record { value = tt; more = []; whole = refl }; local = λ m new lt ok. other new ok }
      where
        other : (new : List S) → Agree (t ∷ ts) new → at_end new ≡ Err (length new)
        other [] ok = absurd ok
        other (u ∷ us) ok = refl

-- a parser and nothing behind it
pub ended_good : {S A : Type 0} (L : Language S A) (p : Family S A) (s n : ℕ) → Good L p s n → Good L (λ m. ended (p m)) s n
ended_good {S = S} {A = A} L p s n g = weaken _ L _ s n to
    (bind_good L (λ a. Seq Nothing (λ _ b c. (b ≡ a) × (c ≡ []))) p (λ a m. at_end >> pure a) s n g (λ a. bind_good Nothing (λ _ b c. (b ≡ a) × (c ≡ [])) (λ m. at_end) (λ _ m. pure a) s n (end_good s n) (λ _. pure_good a s n)))
  where
    to : (a : A) (c : List S) → Seq L (λ a. Seq Nothing (λ _ b c. (b ≡ a) × (c ≡ []))) a c → L a c
    to a c q =
        let none : q.back ≡ [] = q.second.whole ∙ ap (λ (y : List S). y ++ q.second.back) q.second.first ∙ q.second.second.1 in
        let all : q.front ≡ c = sym (q.whole ∙ ap (λ (y : List S). q.front ++ y) none ∙ append-nil q.front) in
        subst (λ (y : List S). L a y) all (subst (λ (x : A). L x q.front) (sym q.second.second.0) q.first)

pub ended_ends : {S A : Type 0} (p : Parser S A) (ts : List S) (x : A) (rest : List S) → ended p ts ≡ Ok (x, rest) → rest ≡ []
unfolding at_end
ended_ends {S = S} {A = A} p ts x rest is = go (p ts) is
  where
    ok_is : (q r : A × List S) → pure q.0 q.1 ≡ pure r.0 r.1 → q ≡ r
    ok_is q r e = cc

    go : (r : Outcome S A) → and_then r (λ a. at_end >> pure a) ≡ Ok (x, rest) → rest ≡ []
    go (Ok (y, [])) e = sym (ap (λ (q : A × List S). q.1) (ok_is (y, []) (x, rest) e))
    go (Ok (y, t ∷ s)) e = absurd cc
    go (Err f) e = absurd cc

-- ---- how much is left

-- no more than m tokens are left
abbrev pub UpTo : {S A : Type 0} → ℕ → Outcome S A → Type 0
UpTo m (Ok x) = length x.1 ≤ m
UpTo m (Err k) = k ≤ m

pub good_up : {S A : Type 0} (L : Language S A) (p : Family S A) (s n : ℕ) → Good L p s n → (m : ℕ) (ts : List S) → length ts < s + n → length ts ≤ m → UpTo m (p n ts)
good_up {S = S} {A = A} L p s n g m ts lt le = go (p n ts) (g.at ts lt)
  where
    go : (r : Outcome S A) → GoodFor L p s ts r → UpTo m r
    go (Ok x) t = omega (arith, ap length t.split, length-append t.taken x.1)
    go (Err k) t = omega (arith, ap length t.split, length-append t.taken t.rest, t.left)

pub taken_up : {S A : Type 0} (m : ℕ) (i : List S) (r : Outcome S A) → UpTo m r → UpTo m (taken_for i r)
taken_up m i (Ok x) u = u
taken_up m i (Err k) u = u

pub bind_up : {S A B : Type 0} (m : ℕ) (r : Outcome S A) (q : A → Parser S B) → UpTo m r → ((x : A) (ts : List S) → length ts ≤ m → UpTo m (q x ts)) → UpTo m (and_then r q)
bind_up m (Ok x) q u f = f x.0 x.1 u
bind_up m (Err k) q u f = u
