-- Where a parser of whole lists is known to be sound, local, viable and complete, its answers on a list, cut behind the first sign that is
-- nested too deep, are those of the definition of reading.
use Rattle.std.proofs.Common.{◌≡◌, ℕ, zero, suc, ◌≤◌, ◌<◌, ◌+◌, ◌-◌, List, [], ◌∷◌, ◌++◌, length, take, drop, Result, Ok, Err, refl, sym, ap, subst, ◌∙◌, append_assoc, arith}
use Rattle.std.proofs.lemmas.Bool.{ne_eqb}
use Rattle.std.proofs.lemmas.List.{append-nil, length-append}
use Rattle.agda_grammar.specs.declared.sign.Sign.{Sign}
use Rattle.agda_grammar.specs.declared.error.ParseError.TheVariants.{Bad}
use Rattle.agda_grammar.specs.declared.error.ParseKind.TheVariants.{Unexpected, TooNested}
use Rattle.agda_grammar.specs.Nesting.{origin, shallow}
use Rattle.agda_grammar.specs.Reading.{Settles, place_at, end_pos}
use Rattle.parse_laws.specs.Reading.{IsViable, IsWrong}
use Rattle.expr_parser.specs.declared.stop.Stop.{Stop}
use Rattle.expr_parser.specs.declared.stop.Stop.TheVariants as stop
use Rattle.expr_parser.specs.Refusals.{LeftUpTo, whole_answer, front_refusal}
use Rattle.agda_grammar.specs.Signs.{Input}
use Rattle.expr_parser.specs.Cursor.{Reads, Answers, Checks}
use Rattle.parse_laws.specs.Parser.{Outcome}
use Rattle.parse_laws.proofs.Good.{Family, Good, GoodFor, Agree, Viable}
use Rattle.expr_parser.proofs.Steps.{As}

agree_self : (ts : Input) → Agree ts ts
agree_self [] = tt
agree_self (t ∷ ts) = refl

module _ {D A : Type 0} (f : D → Input → Input) (g : D → A) (p : Family Sign A) (size : D → ℕ)
    (good : (n : ℕ) → Good (As f g) p 0 n) (ends : (n : ℕ) (ts : Input) (x : A) (rest : Input) → p n ts ≡ Ok (x, rest) → rest ≡ [])
    (read : (n : ℕ) (d : D) → size d ≤ n → p n (f d []) ≡ Ok (g d, [])) where
  abbrev answer : A × Input → Outcome Sign A
  answer q = Ok q

  ok_is : (q r : A × Input) → answer q ≡ answer r → q ≡ r
  ok_is q r e = cc

  viable : (c : Input) → Viable (As f g) c → IsViable f c
  viable c v = record { derivation = v.whole.derivation; more = v.more; whole = v.whole.spells.at [] ∙ append-nil (c ++ v.more) }

  -- no list that has a derivation is refused by a parser that refuses it with each greater number of turns
  never : (d : D) (k : ℕ) → ((m : ℕ) → length (f d []) < m → p m (f d []) ≡ Err k) → ⊥
  never d k refuses = let m = suc (size d + length (f d [])) in let is = refuses m (omega arith) in let so = read m d (omega arith) in absurd (cc (is, so))

  wrong : (c rest : Input) → ((m : ℕ) (new : Input) → length (c ++ new) < 0 + m → Agree rest new → p m (c ++ new) ≡ Err (length new)) → IsWrong f c rest
  wrong c [] local = λ d e. never d 0 (λ m lt. ap (p m) (e ∙ sym (append-nil c)) ∙ local m [] (subst (λ (y : Input). length y < 0 + m) (e ∙ sym (append-nil c)) (omega arith)) tt)
  wrong c (t ∷ rest) local = λ v.
      let e : f v.derivation [] ≡ c ++ (t ∷ v.more) = v.whole ∙ append_assoc c (t ∷ []) v.more in
      never v.derivation (length (t ∷ v.more)) (λ m lt. ap (p m) e ∙ local m (t ∷ v.more) (subst (λ (y : Input). length y < 0 + m) e (omega arith)) refl)

  pub found : (n : ℕ) (ts : Input) (x : A) (rest : Input) → length ts < n → p n ts ≡ Ok (x, rest) → (d : D) × (ts ≡ f d []) × (x ≡ g d)
  found n ts x rest lt is =
      let t = subst (GoodFor (As f g) p 0 ts) is ((good n).at ts (omega arith)) in
      let all = t.split ∙ ap (λ (r : Input). t.taken ++ r) (ends n ts x rest is) in
      (t.reads.derivation, all ∙ sym (t.reads.spells.at []), t.reads.gives)

  -- what has a derivation is read as its tree
  pub only : (n : ℕ) (d : D) → length (f d []) < n → p n (f d []) ≡ Ok (g d, [])
  only n d lt = let big : ℕ = suc (size d + length (f d [])) in go big (omega arith) (read big d (omega arith)) (p n (f d [])) refl ((good n).at (f d []) (omega arith))
    where
      go : (big : ℕ) → length (f d []) < big → p big (f d []) ≡ Ok (g d, []) → (r : Outcome Sign A) → p n (f d []) ≡ r → GoodFor (As f g) p 0 (f d []) r → p n (f d []) ≡ Ok (g d, [])
      go big few so (Ok x) is t =
          let again : p big (f d []) ≡ Ok (x.0, x.1) = ap (p big) t.split ∙ t.local big x.1 (subst (λ (y : Input). length y < 0 + big) t.split (omega arith)) (agree_self x.1) in
          is ∙ sym again ∙ so
      go big few so (Err k) is t =
          let again : p big (f d []) ≡ Err (length t.rest) = ap (p big) t.split ∙ t.local big t.rest (subst (λ (y : Input). length y < 0 + big) t.split (omega arith)) (agree_self t.rest) in
          absurd (cc (again, so))

  pub refused : (n : ℕ) (ts : Input) (k : ℕ) → length ts < n → p n ts ≡ Err k → (front : Input) × (rest : Input) × (ts ≡ front ++ rest) × (length rest ≡ k) × IsViable f front × IsWrong f front rest
  refused n ts k lt is =
      let r = subst (GoodFor (As f g) p 0 ts) is ((good n).at ts (omega arith)) in
      (r.taken, r.rest, r.split, r.left, viable r.taken r.viable, wrong r.taken r.rest r.local)

  drop_front : (c r : Input) → drop (length (c ++ r) - length r) (c ++ r) ≡ r
  drop_front c r = let n : length (c ++ r) - length r ≡ length c = omega (arith, length-append c r) in rw n (drop_length c r)
    where
      drop_length : (c r : Input) → drop (length c) (c ++ r) ≡ r
      drop_length [] r = refl
      drop_length (t ∷ c) r = drop_length c r

  module _ (text : List ℕ) where
    -- the whole list, in which nothing is nested too deep
    pub all_ok : (n : ℕ) (i : Input) (x : A) (rest : Input) → length i < n → shallow origin i ≡ length i → p n i ≡ Ok (x, rest) → Settles f g text i (Ok x)
    all_ok n i x rest lt within is = let h = found n i x rest lt is in
        (record { derivation = h.0; signs = h.1; gives = h.2; within = within }, λ d e. same_tree n i x rest d lt is e)
      where
        same_tree : (n : ℕ) (i : Input) (x : A) (rest : Input) (d : D) → length i < n → p n i ≡ Ok (x, rest) → i ≡ f d [] → x ≡ g d
        same_tree n i x rest d lt is e =
            let so = only n d (subst (λ (y : Input). length y < n) e lt) in
            ap (λ (q : A × Input). q.0) (ok_is (x, rest) (g d, []) (sym is ∙ ap (p n) e ∙ so))

    pub left_within : (n : ℕ) (i : Input) (k : ℕ) → length i < n → p n i ≡ Err k → k ≤ length i
    left_within n i k lt is = let r = refused n i k lt is in omega (arith, r.3, ap length r.2, length-append r.0 r.1)

    pub all_err : (n : ℕ) (i : Input) (k : ℕ) → length i < n → shallow origin i ≡ length i → p n i ≡ Err k → Settles f g text i (Err (Bad (place_at (end_pos text) (drop (length i - k) i)) Unexpected))
    all_err n i k lt within is = let r = refused n i k lt is in let at : drop (length (r.0 ++ r.1) - k) (r.0 ++ r.1) ≡ r.1 = ap (λ (m : ℕ). drop (length (r.0 ++ r.1) - m) (r.0 ++ r.1)) (sym r.3) ∙ drop_front r.0 r.1 in record {
      front = r.0;
      rest = r.1;
      split = r.2;
      place = ap (place_at (end_pos text)) (ap (λ (y : Input). drop (length y - k) y) r.2 ∙ at);
      cause = (r.4, r.5, subst (λ (y : Input). length r.0 ≤ shallow origin y) r.2 (omega (arith, ap length r.2, length-append r.0 r.1)));
    }

    -- the list is cut behind the first sign that is nested too deep
    module _ (c : Input) (t : Sign) (more : Input) (deep : shallow origin (c ++ t ∷ more) ≡ length c) where
      too_deep : IsViable f (c ++ t ∷ []) → Settles f g text (c ++ t ∷ more) (Err (Bad (place_at (end_pos text) (drop (length (c ++ t ∷ more) - length (t ∷ more)) (c ++ t ∷ more))) TooNested))
      too_deep v = record { front = c; rest = t ∷ more; split = refl; place = ap (place_at (end_pos text)) (drop_front c (t ∷ more)); cause = (v, sym deep) }

      pub front_ok : (n : ℕ) (x : A) (rest : Input) → length (c ++ t ∷ []) < n → p n (c ++ t ∷ []) ≡ Ok (x, rest) → Settles f g text (c ++ t ∷ more) (Err (Bad (place_at (end_pos text) (drop (length (c ++ t ∷ more) - length (t ∷ more)) (c ++ t ∷ more))) TooNested))
      front_ok n x rest lt is = let h = found n (c ++ t ∷ []) x rest lt is in too_deep (record { derivation = h.0; more = []; whole = sym h.1 ∙ sym (append-nil (c ++ t ∷ [])) })

      pub front_end : (n : ℕ) → length (c ++ t ∷ []) < n → p n (c ++ t ∷ []) ≡ Err 0 → Settles f g text (c ++ t ∷ more) (Err (Bad (place_at (end_pos text) (drop (length (c ++ t ∷ more) - length (t ∷ more)) (c ++ t ∷ more))) TooNested))
      front_end n lt is = let r = refused n (c ++ t ∷ []) 0 lt is in too_deep (subst (IsViable f) (no_rest r.1 r.3 r.0 r.2) r.4)
        where
          no_rest : (rest : Input) → length rest ≡ 0 → (front : Input) → c ++ t ∷ [] ≡ front ++ rest → front ≡ c ++ t ∷ []
          no_rest [] e front s = sym (append-nil front) ∙ sym s
          no_rest (u ∷ us) e front s = absurd (omega arith)

      pub front_err : (n k : ℕ) → length (c ++ t ∷ []) < n → 0 < k → p n (c ++ t ∷ []) ≡ Err k
          → Settles f g text (c ++ t ∷ more) (Err (Bad (place_at (end_pos text) (drop (length (c ++ t ∷ more) - (length more + k)) (c ++ t ∷ more))) Unexpected))
      front_err n k lt some is = let r = refused n (c ++ t ∷ []) k lt is in
          let split : c ++ t ∷ more ≡ r.0 ++ (r.1 ++ more) = sym (append_assoc c (t ∷ []) more) ∙ ap (λ (y : Input). y ++ more) r.2 ∙ append_assoc r.0 r.1 more in
          let left : length (r.1 ++ more) ≡ length more + k = omega (arith, r.3, length-append r.1 more) in
          let at : drop (length (r.0 ++ (r.1 ++ more)) - (length more + k)) (r.0 ++ (r.1 ++ more)) ≡ r.1 ++ more = ap (λ (m : ℕ). drop (length (r.0 ++ (r.1 ++ more)) - m) (r.0 ++ (r.1 ++ more))) (sym left) ∙ drop_front r.0 (r.1 ++ more) in record {
            front = r.0;
            rest = r.1 ++ more;
            split = split;
            place = ap (place_at (end_pos text)) (ap (λ (y : Input). drop (length y - (length more + k)) y) split ∙ at);
            cause = (r.4, still r.0 r.1 r.3 r.5, subst (λ (y : Input). length r.0 ≤ shallow origin y) split (omega (arith, deep, r.3, ap length r.2, length-append r.0 r.1, length-append c (t ∷ []))));
          }
        where
          still : (front rest : Input) → length rest ≡ k → IsWrong f front rest → IsWrong f front (rest ++ more)
          still front [] e w = absurd (omega arith)
          still front (u ∷ us) e w = w

    -- the same, where only the number of signs before the cut is told
    record Cut (i : Input) (count : ℕ) : Type 0 where
      pub front : Input
      pub sign : Sign
      pub more : Input
      pub split : i ≡ front ++ sign ∷ more
      pub left : length front ≡ count
      pub taken : take (count + 1) i ≡ front ++ sign ∷ []

    cut : (i : Input) (count : ℕ) → count < length i → Cut i count
    cut [] count lt = absurd (omega arith)
    cut (t ∷ i) zero lt = record { front = []; sign = t; more = i; split = refl; left = refl; taken = refl }
    cut (t ∷ i) (suc count) lt = let c = cut i count (omega arith) in record {
      front = t ∷ c.front;
      sign = c.sign;
      more = c.more;
      split = ap (λ (y : Input). t ∷ y) c.split;
      left = ap suc c.left;
      taken = ap (λ (m : ℕ). take m (t ∷ i)) (let e : suc count + 1 ≡ suc (count + 1) = omega arith in e) ∙ ap (λ (y : Input). t ∷ y) c.taken;
    }

    abbrev DeepAt : Input → ℕ → Type 0
    DeepAt i left = Settles f g text i (Err (Bad (place_at (end_pos text) (drop (length i - left) i)) TooNested))

    deep_left : (i : Input) (count : ℕ) (c : Cut i count) → length i - count ≡ length (c.sign ∷ c.more)
    deep_left i count c = omega (arith, ap length c.split, length-append c.front (c.sign ∷ c.more), c.left)

    pub cut_ok : (n : ℕ) (i : Input) (count : ℕ) (x : A) (rest : Input) → shallow origin i ≡ count → count < length i → count + 1 < n → p n (take (count + 1) i) ≡ Ok (x, rest) → DeepAt i (length i - count)
    cut_ok n i count x rest deep lt few is = let c = cut i count lt in
        let whole = front_ok c.front c.sign c.more (ap (shallow origin) (sym c.split) ∙ deep ∙ sym c.left) n x rest (omega (arith, length-append c.front (c.sign ∷ []), c.left)) (ap (p n) (sym c.taken) ∙ is) in
        subst (λ (y : Input). DeepAt y (length i - count)) (sym c.split) (subst (λ (m : ℕ). DeepAt (c.front ++ c.sign ∷ c.more) m) (sym (deep_left i count c)) whole)

    pub cut_end : (n : ℕ) (i : Input) (count : ℕ) → shallow origin i ≡ count → count < length i → count + 1 < n → p n (take (count + 1) i) ≡ Err 0 → DeepAt i (length i - count)
    cut_end n i count deep lt few is = let c = cut i count lt in
        let whole = front_end c.front c.sign c.more (ap (shallow origin) (sym c.split) ∙ deep ∙ sym c.left) n (omega (arith, length-append c.front (c.sign ∷ []), c.left)) (ap (p n) (sym c.taken) ∙ is) in
        subst (λ (y : Input). DeepAt y (length i - count)) (sym c.split) (subst (λ (m : ℕ). DeepAt (c.front ++ c.sign ∷ c.more) m) (sym (deep_left i count c)) whole)

    pub cut_left : (n : ℕ) (i : Input) (count k : ℕ) → count < length i → count + 1 < n → p n (take (count + 1) i) ≡ Err k → k ≤ count + 1
    cut_left n i count k lt few is = let c = cut i count lt in
        omega (arith, left_within n (c.front ++ c.sign ∷ []) k (omega (arith, length-append c.front (c.sign ∷ []), c.left)) (ap (p n) (sym c.taken) ∙ is), length-append c.front (c.sign ∷ []), c.left)

    abbrev WrongAt : Input → ℕ → Type 0
    WrongAt i left = Settles f g text i (Err (Bad (place_at (end_pos text) (drop (length i - left) i)) Unexpected))

    pub cut_err : (n : ℕ) (i : Input) (count k : ℕ) → shallow origin i ≡ count → count < length i → count + 1 < n → 0 < k → p n (take (count + 1) i) ≡ Err k → WrongAt i (length i - (count + 1) + k)
    cut_err n i count k deep lt few some is = let c = cut i count lt in
        let whole = front_err c.front c.sign c.more (ap (shallow origin) (sym c.split) ∙ deep ∙ sym c.left) n k (omega (arith, length-append c.front (c.sign ∷ []), c.left)) some (ap (p n) (sym c.taken) ∙ is) in
        let e : length i - (count + 1) + k ≡ length c.more + k = omega (arith, ap length c.split, length-append c.front (c.sign ∷ c.more), c.left) in
        subst (λ (y : Input). WrongAt y (length i - (count + 1) + k)) (sym c.split) (subst (λ (m : ℕ). WrongAt (c.front ++ c.sign ∷ c.more) m) (sym e) whole)

    -- what a call answers, of what reading gave
    pub answers_of : (n : ℕ) (ts : Input) (r : Result A Stop) (new : Input) → Reads (p n ts) r new → Answers (p n ts) r
    answers_of n ts (Ok x) new e = e ∙ ap (λ (y : Input). Ok (x, y)) (ends n ts x new e)
    answers_of n ts (Err (stop.Unexpected k)) new e = e (λ f. cc (f))
    answers_of n ts (Err stop.NoMemory) new e = tt

    pub whole_left : (n : ℕ) (i : Input) (r : Result A Stop) → length i < n → Answers (p n i) r → LeftUpTo (length i) r
    whole_left n i (Ok x) lt is = tt
    whole_left n i (Err (stop.Unexpected k)) lt is = left_within n i k lt is
    whole_left n i (Err stop.NoMemory) lt is = tt

    pub whole_settles : (n : ℕ) (i : Input) (r : Result A Stop) → length i < n → shallow origin i ≡ length i → Answers (p n i) r → Settles f g text i (whole_answer text i r)
    whole_settles n i (Ok x) lt within is = all_ok n i x [] lt within is
    whole_settles n i (Err (stop.Unexpected k)) lt within is = all_err n i k lt within is
    whole_settles n i (Err stop.NoMemory) lt within is = tt

    pub front_left : (n : ℕ) (i : Input) (count : ℕ) (r : Result (Unit {0}) Stop) → count < length i → count + 1 < n → Checks (p n (take (count + 1) i)) r → LeftUpTo (count + 1) r
    front_left n i count (Ok u) lt few is = tt
    front_left n i count (Err (stop.Unexpected k)) lt few is = cut_left n i count k lt few is
    front_left n i count (Err stop.NoMemory) lt few is = tt

    pub front_settles : (n : ℕ) (i : Input) (count : ℕ) (r : Result (Unit {0}) Stop) → shallow origin i ≡ count → count < length i → count + 1 < n → Checks (p n (take (count + 1) i)) r → Settles f g text i (Err (front_refusal text i count r))
    front_settles n i count (Ok u) deep lt few is = cut_ok n i count is.0 [] deep lt few is.1
    front_settles n i count (Err (stop.Unexpected zero)) deep lt few is = cut_end n i count deep lt few is
    front_settles n i count (Err (stop.Unexpected (suc k))) deep lt few is = rw (ne_eqb (suc k) 0 (λ e. omega arith)) (cut_err n i count (suc k) deep lt few (omega arith) is)
    front_settles n i count (Err stop.NoMemory) deep lt few is = tt
