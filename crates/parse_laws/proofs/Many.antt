-- Items while they come: a parser of items gives a parser of their list.
use Rattle.std.proofs.Common.{◌≡◌, ℕ, zero, suc, ◌≤◌, ◌<◌, ◌+◌, Bool, List, [], ◌∷◌, ◌++◌, length, Ok, Err, Option, Some, None, refl, sym, ap, subst, ◌∙◌, append_assoc, arith}
use Rattle.std.proofs.lemmas.List.{append-nil, length-append}
use Rattle.parse_laws.specs.Parser.{Outcome, Parser, and_then, ◌>>=◌, pure, optional, on_item, many_from}
use Rattle.parse_laws.proofs.Good.{Agree, agree_behind, Language, Family, Viable, Took, GoodFor, Good, Seq, bind_good, pure_good, weaken, choose_good, UpTo}

-- the items one after the other; what an item may be depends on those before it
abbrev pub AllOf : {S A : Type 0} → (List A → Language S A) → List A → Language S (List A)
AllOf L found [] c = c ≡ []
AllOf {S = S} L found (a ∷ xs) c = (front : List S) × (back : List S) × (c ≡ front ++ back) × L found a front × AllOf L (found ++ a ∷ []) xs back

abbrev pub Item : {S A : Type 0} → (List A → Language S A) → List A → Language S (Option A)
Item L found None c = c ≡ []
Item L found (Some a) c = L found a c × (0 < length c)

pub record Behind {S A : Type 0} (L : List A → Language S A) (found xs : List A) (c : List S) : Type 0 where
  pub more : List A
  pub is : xs ≡ found ++ more
  pub each : AllOf L found more c

record TookTurns {S A : Type 0} (L : List A → Language S A) (item : ℕ → List A → Parser S (Option A)) (s : ℕ) (found : List A) (ts : List S) (xs : List A) (rest : List S) : Type 0 where
  pub taken : List S
  pub split : ts ≡ taken ++ rest
  pub reads : Behind L found xs taken
  pub local : (j m : ℕ) (new : List S) → length (taken ++ new) ≤ j → length (taken ++ new) < s + m → Agree rest new → many_from (item m) j found (taken ++ new) ≡ Ok (xs, new)

record RefusedTurns {S A : Type 0} (L : List A → Language S A) (item : ℕ → List A → Parser S (Option A)) (s : ℕ) (found : List A) (ts : List S) (k : ℕ) : Type 0 where
  pub taken : List S
  pub rest : List S
  pub split : ts ≡ taken ++ rest
  pub left : length rest ≡ k
  pub viable : Viable (Behind L found) taken
  pub local : (j m : ℕ) (new : List S) → length (taken ++ new) ≤ j → length (taken ++ new) < s + m → Agree rest new → many_from (item m) j found (taken ++ new) ≡ Err (length new)

abbrev TurnsFor : {S A : Type 0} → (List A → Language S A) → (ℕ → List A → Parser S (Option A)) → ℕ → List A → List S → Outcome S (List A) → Type 0
TurnsFor L item s found ts (Ok x) = TookTurns L item s found ts x.0 x.1
TurnsFor L item s found ts (Err k) = RefusedTurns L item s found ts k

pub nothing_more : {S A : Type 0} (L : List A → Language S A) (found : List A) (c : List S) → c ≡ [] → Behind L found found c
nothing_more L found c e = record { more = []; is = sym (append-nil found); each = e }

pub one_more : {S A : Type 0} (L : List A → Language S A) (found : List A) (a : A) (c d : List S) (xs : List A) → L found a c → Behind L (found ++ a ∷ []) xs d → Behind L found xs (c ++ d)
one_more L found a c d xs l b = record {
  more = a ∷ b.more;
  is = b.is ∙ append_assoc found (a ∷ []) b.more;
  each = (c, d, refl, l, b.each);
}

module _ {S A : Type 0} (L : List A → Language S A) (item : ℕ → List A → Parser S (Option A)) (s n : ℕ) (goodi : (f : List A) → Good (Item L f) (λ m. item m f) s n) (none : (m : ℕ) (f : List A) → item m f [] ≡ Ok (None, [])) where
  viable_item : (found : List A) (c : List S) → Viable (Item L found) c → Viable (Behind L found) c
  viable_item found c v = go v.value v.whole
    where
      go : (o : Option A) → Item L found o (c ++ v.more) → Viable (Behind L found) c
      go None e = record { value = found; more = v.more; whole = nothing_more L found (c ++ v.more) e }
      go (Some a) e = record {
        value = found ++ a ∷ [];
        more = v.more;
        whole = subst (λ (y : List S). Behind L found (found ++ a ∷ []) y) (append-nil (c ++ v.more)) (one_more L found a (c ++ v.more) [] (found ++ a ∷ []) e.0 (nothing_more L (found ++ a ∷ []) [] refl));
      }

  stop_zero : (found : List A) (j m : ℕ) (new : List S) → Agree [] new → many_from (item m) j found new ≡ Ok (found, new)
  unfolding many_from
  stop_zero found zero m [] ok = refl
  stop_zero found (suc j) m [] ok = rw (none m found) refl
  stop_zero found j m (u ∷ us) ok = absurd ok

  -- after an item
  after : (j : ℕ) (found : List A) (ts : List S) (a : A) (rest : List S) → Took (Item L found) (λ m. item m found) s ts (Some a) rest → (r : Outcome S (List A)) → TurnsFor L item s (found ++ a ∷ []) rest r → TurnsFor L item s found ts r
  unfolding many_from
  after j found ts a rest t (Ok x) g = record {
    taken = t.taken ++ g.taken;
    split = t.split ∙ ap (λ (y : List S). t.taken ++ y) g.split ∙ sym (append_assoc t.taken g.taken x.1);
    reads = one_more L found a t.taken g.taken x.0 t.reads.0 g.reads;
    local = λ j m new le lt ok. again j m new le lt ok;
  }
    where
      again : (j m : ℕ) (new : List S) → length ((t.taken ++ g.taken) ++ new) ≤ j → length ((t.taken ++ g.taken) ++ new) < s + m → Agree x.1 new → many_from (item m) j found ((t.taken ++ g.taken) ++ new) ≡ Ok (x.0, new)
      again zero m new le lt ok = absurd (omega (arith, t.reads.1, length-append (t.taken ++ g.taken) new, length-append t.taken g.taken))
      again (suc j) m new le lt ok =
          let short : length (g.taken ++ new) ≤ j = omega (arith, t.reads.1, length-append (t.taken ++ g.taken) new, length-append t.taken g.taken, length-append g.taken new) in
          let few : length (g.taken ++ new) < s + m = omega (arith, length-append (t.taken ++ g.taken) new, length-append t.taken g.taken, length-append g.taken new) in
          ap (many_from (item m) (suc j) found) (append_assoc t.taken g.taken new)
          ∙ ap (λ (r : Outcome S (Option A)). and_then r (on_item found (many_from (item m) j)))
          (t.local m (g.taken ++ new) (subst (λ (y : List S). length y < s + m) (append_assoc t.taken g.taken new) lt) (subst (λ (y : List S). Agree y (g.taken ++ new)) (sym g.split) (agree_behind g.taken x.1 new ok)))
          ∙ g.local j m new short few ok
  after j found ts a rest t (Err k) g = record {
    taken = t.taken ++ g.taken;
    rest = g.rest;
    split = t.split ∙ ap (λ (y : List S). t.taken ++ y) g.split ∙ sym (append_assoc t.taken g.taken g.rest);
    left = g.left;
    viable = record {
      value = g.viable.value;
      more = g.viable.more;
      whole = subst (λ (y : List S). Behind L found g.viable.value y) (sym (append_assoc t.taken g.taken g.viable.more)) (one_more L found a t.taken (g.taken ++ g.viable.more) g.viable.value t.reads.0 g.viable.whole);
    };
    local = λ j m new le lt ok. again j m new le lt ok;
  }
    where
      again : (j m : ℕ) (new : List S) → length ((t.taken ++ g.taken) ++ new) ≤ j → length ((t.taken ++ g.taken) ++ new) < s + m → Agree g.rest new → many_from (item m) j found ((t.taken ++ g.taken) ++ new) ≡ Err (length new)
      again zero m new le lt ok = absurd (omega (arith, t.reads.1, length-append (t.taken ++ g.taken) new, length-append t.taken g.taken))
      again (suc j) m new le lt ok =
          let short : length (g.taken ++ new) ≤ j = omega (arith, t.reads.1, length-append (t.taken ++ g.taken) new, length-append t.taken g.taken, length-append g.taken new) in
          let few : length (g.taken ++ new) < s + m = omega (arith, length-append (t.taken ++ g.taken) new, length-append t.taken g.taken, length-append g.taken new) in
          ap (many_from (item m) (suc j) found) (append_assoc t.taken g.taken new)
          ∙ ap (λ (r : Outcome S (Option A)). and_then r (on_item found (many_from (item m) j)))
          (t.local m (g.taken ++ new) (subst (λ (y : List S). length y < s + m) (append_assoc t.taken g.taken new) lt) (subst (λ (y : List S). Agree y (g.taken ++ new)) (sym g.split) (agree_behind g.taken g.rest new ok)))
          ∙ g.local j m new short few ok

  turn : (j : ℕ) (found : List A) (ts : List S) → length ts ≤ suc j → length ts < s + n
      → ((xs : List A) (us : List S) → length us ≤ j → length us < s + n → TurnsFor L item s xs us (many_from (item n) j xs us))
      → (r : Outcome S (Option A)) → GoodFor (Item L found) (λ m. item m found) s ts r → TurnsFor L item s found ts (and_then r (on_item found (many_from (item n) j)))
  unfolding many_from
  turn j found ts le lt more (Ok (None, rest)) g = record {
    taken = g.taken;
    split = g.split;
    reads = nothing_more L found g.taken g.reads;
    local = λ j m new le lt ok. again j m new lt ok;
  }
    where
      again : (j m : ℕ) (new : List S) → length (g.taken ++ new) < s + m → Agree rest new → many_from (item m) j found (g.taken ++ new) ≡ Ok (found, new)
      again zero m new lt ok = rw g.reads refl
      again (suc j) m new lt ok = ap (λ (r : Outcome S (Option A)). and_then r (on_item found (many_from (item m) j))) (g.local m new lt ok)
  turn j found ts le lt more (Ok (Some a, rest)) g =
      let short : length rest ≤ j = omega (arith, g.reads.1, ap length g.split, length-append g.taken rest) in
      let few : length rest < s + n = omega (arith, ap length g.split, length-append g.taken rest) in
      after j found ts a rest g (many_from (item n) j (found ++ a ∷ []) rest) (more (found ++ a ∷ []) rest short few)
  turn j found ts le lt more (Err k) g = record {
    taken = g.taken;
    rest = g.rest;
    split = g.split;
    left = g.left;
    viable = viable_item found g.taken g.viable;
    local = λ j m new le lt ok. again j m new le lt ok;
  }
    where
      nil : (c new : List S) → length (c ++ new) ≤ 0 → c ++ new ≡ []
      nil [] [] le = refl
      nil [] (u ∷ us) le = absurd (omega arith)
      nil (u ∷ us) new le = absurd (omega arith)

      again : (j m : ℕ) (new : List S) → length (g.taken ++ new) ≤ j → length (g.taken ++ new) < s + m → Agree g.rest new → many_from (item m) j found (g.taken ++ new) ≡ Err (length new)
      again zero m new le lt ok = let no = g.local m new lt ok in let empty = nil g.taken new le in let yes = none m found in absurd (cc (ap (item m found) empty))
      again (suc j) m new le lt ok = ap (λ (r : Outcome S (Option A)). and_then r (on_item found (many_from (item m) j))) (g.local m new lt ok)

  turns : (j : ℕ) (found : List A) (ts : List S) → length ts ≤ j → length ts < s + n → TurnsFor L item s found ts (many_from (item n) j found ts)
  unfolding many_from
  turns zero found [] le lt = record { taken = []; split = refl; reads = nothing_more L found [] refl; local = λ j m new le lt ok. stop_zero found j m new ok }
  turns zero found (u ∷ us) le lt = absurd (omega arith)
  turns (suc j) found ts le lt = turn j found ts le lt (turns j) (item n found ts) ((goodi found).at ts lt)

  -- what is left after the turns
  pub turns_up : (j : ℕ) (found : List A) (ts : List S) (m : ℕ) → length ts ≤ j → length ts < s + n → length ts ≤ m → UpTo m (many_from (item n) j found ts)
  turns_up j found ts m le lt up = go (many_from (item n) j found ts) (turns j found ts le lt)
    where
      go : (r : Outcome S (List A)) → TurnsFor L item s found ts r → UpTo m r
      go (Ok x) t = omega (arith, ap length t.split, length-append t.taken x.1)
      go (Err k) t = omega (arith, ap length t.split, length-append t.taken t.rest, t.left)

  -- as many turns as the family has
  pub many_good : s ≤ 1 → (found : List A) → Good (Behind L found) (λ m. many_from (item m) m found) s n
  many_good le found = record { at = λ ts lt. go ts (many_from (item n) n found ts) (turns n found ts (omega arith) lt); word = record { value = found; tokens = []; reads = nothing_more L found [] refl } }
    where
      go : (ts : List S) (r : Outcome S (List A)) → TurnsFor L item s found ts r → GoodFor (Behind L found) (λ m. many_from (item m) m found) s ts r
      go ts (Ok x) t = record { taken = t.taken; split = t.split; reads = t.reads; local = λ m new lt ok. t.local m m new (omega arith) lt ok }
      go ts (Err k) t = record { taken = t.taken; rest = t.rest; split = t.split; left = t.left; viable = t.viable; local = λ m new lt ok. t.local m m new (omega arith) lt ok }

-- an item, if one comes
pub optional_good : {S A : Type 0} (test : S → Bool) (L : List A → Language S A) (found : List A) (p : Family S A) (s n : ℕ) → Good (L found) p s n → ((a : A) (c : List S) → L found a c → 0 < length c) → Good (Item L found) (λ m. optional test (p m)) s n
optional_good {S = S} {A = A} test L found p s n good long =
    choose_good test (Item L found) (λ m. p m >>= (λ a. pure (Some a))) (λ m. pure None) s n
    (weaken _ _ (λ m. p m >>= (λ a. pure (Some a))) s n some (bind_good (L found) (λ a o c. (o ≡ Some a) × (c ≡ [])) p (λ a m. pure (Some a)) s n good (λ a. pure_good (Some a) s n)))
    (weaken _ _ (λ m. pure None) s n none (pure_good None s n))
  where
    some : (o : Option A) (c : List S) → Seq (L found) (λ a o c. (o ≡ Some a) × (c ≡ [])) o c → Item L found o c
    some o c q =
        let is : c ≡ q.front = q.whole ∙ ap (λ (y : List S). q.front ++ y) q.second.1 ∙ append-nil q.front in
        let l : L found q.value c = subst (λ (y : List S). L found q.value y) (sym is) q.first in
        rw q.second.0 (l, long q.value c l)

    none : (o : Option A) (c : List S) → (o ≡ None) × (c ≡ []) → Item L found o c
    none o c h = rw h.0 h.1
