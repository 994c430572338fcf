-- A choice by a test that looks over names at what follows them: each answer of either side comes only behind the names.
use Rattle.std.proofs.Common.{◌≡◌, ℕ, ◌≤◌, ◌<◌, ◌+◌, Bool, true, false, cond, List, [], ◌∷◌, ◌++◌, length, Ok, Err, refl, sym, ap, subst, ◌∙◌, append_assoc, arith}
use Rattle.std.proofs.lemmas.List.{length-append}
use Rattle.parse_laws.specs.Parser.{Outcome, next_is}
use Rattle.parse_laws.proofs.Good.{Language, Family, Good, GoodFor, Agree, agree_behind, UpTo}

-- names in front of other tokens
abbrev pub lined : {S B : Type 0} → (B → S) → List B → List S → List S
lined name [] u = u
lined name (x ∷ xs) u = name x ∷ lined name xs u

pub lined_front : {S B : Type 0} (name : B → S) (xs : List B) (u : List S) → lined name xs u ≡ lined name xs [] ++ u
lined_front name [] u = refl
lined_front {S = S} name (x ∷ xs) u = ap (λ (y : List S). name x ∷ y) (lined_front name xs u)

pub lined_longer : {S B : Type 0} (name : B → S) (xs : List B) (u : List S) → length u ≤ length (lined name xs u)
lined_longer name [] u = omega arith
lined_longer name (x ∷ xs) u = omega (arith, lined_longer name xs u)

-- the names in front
pub record Led {S B : Type 0} (test : S → Bool) (name : B → S) (ts : List S) : Type 0 where
  pub names : List B
  pub after : List S
  pub split : ts ≡ lined name names after
  pub stops : next_is test after ≡ false

pub led : {S B : Type 0} (test : S → Bool) (name : B → S) → ((s : S) → test s ≡ true → (b : B) × (s ≡ name b)) → (ts : List S) → Led test name ts
led test name whole [] = record { names = []; after = []; split = refl; stops = refl }
led {S = S} {B = B} test name whole (t ∷ ts) = go (led test name whole ts) (test t) refl
  where
    go : Led test name ts → (b : Bool) → test t ≡ b → Led test name (t ∷ ts)
    go more true e = let w = whole t e in record {
      names = w.0 ∷ more.names;
      after = more.after;
      split = λ i. w.1 i ∷ more.split i;
      stops = more.stops;
    }
    go more false e = record { names = []; after = t ∷ ts; split = refl; stops = e }

-- the longer end of a list has the shorter
record Longer {S : Type 0} (c rest d u : List S) : Type 0 where
  pub between : List S
  pub front : c ≡ d ++ between
  pub back : u ≡ between ++ rest

longer : {S : Type 0} (c rest d u : List S) → c ++ rest ≡ d ++ u → length rest ≤ length u → Longer c rest d u
longer c rest [] u e le = record { between = c; front = refl; back = sym e }
longer [] rest (t ∷ d) u e le = absurd (omega (arith, ap length e, length-append d u))
longer (s ∷ c) rest (t ∷ d) u e le =
    let one : s ≡ t = cc in let tail : c ++ rest ≡ d ++ u = cc in
    let l = longer c rest d u tail le in record { between = l.between; front = λ i. one i ∷ l.front i; back = l.back }

-- the test depends on the names and on the token after them
abbrev pub LooksOver : {S B : Type 0} → (S → Bool) → (B → S) → (List S → Bool) → Type 0
LooksOver {S = S} {B = B} test name ahead = (xs : List B) (u v : List S) → next_is test u ≡ false → Agree u v → ahead (lined name xs u) ≡ ahead (lined name xs v)

-- a parser takes the names in front
abbrev pub Eats : {S A B : Type 0} → (S → Bool) → (B → S) → Family S A → ℕ → ℕ → Type 0
Eats {S = S} {B = B} test name p s n = (xs : List B) (u : List S) → next_is test u ≡ false → length (lined name xs u) < s + n → UpTo (length u) (p n (lined name xs u))

module _ {S A B : Type 0} (test : S → Bool) (name : B → S) (whole : (s : S) → test s ≡ true → (b : B) × (s ≡ name b)) (ahead : List S → Bool) (over : LooksOver test name ahead) (L : Language S A) (p q : Family S A) (s n : ℕ) where
  abbrev look : Family S A
  look m = λ i. cond (ahead i) (p m i) (q m i)

  settled : (ts : List S) (l : Led test name ts) (c rest new : List S) → ts ≡ c ++ rest → length rest ≤ length l.after → Agree rest new → ahead (c ++ new) ≡ ahead ts
  settled ts l c rest new e le ok =
      let d : List S = lined name l.names [] in
      let g = longer c rest d l.after (sym e ∙ l.split ∙ lined_front name l.names l.after) le in
      let moved : c ++ new ≡ lined name l.names (g.between ++ new) = ap (λ (y : List S). y ++ new) g.front ∙ append_assoc d g.between new ∙ sym (lined_front name l.names (g.between ++ new)) in
      ap ahead moved ∙ sym (over l.names l.after (g.between ++ new) l.stops (subst (λ (y : List S). Agree y (g.between ++ new)) (sym g.back) (agree_behind g.between rest new ok))) ∙ ap ahead (sym l.split)

  first : (ts : List S) (l : Led test name ts) → ahead ts ≡ true → (r : Outcome S A) → GoodFor L p s ts r → UpTo (length l.after) r → GoodFor L look s ts r
  first ts l b (Ok x) t u = record { taken = t.taken; split = t.split; reads = t.reads; local = λ m new lt ok. rw (settled ts l t.taken x.1 new t.split u ok ∙ b) (t.local m new lt ok) }
  first ts l b (Err k) t u = record { taken = t.taken; rest = t.rest; split = t.split; left = t.left; viable = t.viable; local = λ m new lt ok. rw (settled ts l t.taken t.rest new t.split (omega (arith, t.left)) ok ∙ b) (t.local m new lt ok) }

  second : (ts : List S) (l : Led test name ts) → ahead ts ≡ false → (r : Outcome S A) → GoodFor L q s ts r → UpTo (length l.after) r → GoodFor L look s ts r
  second ts l b (Ok x) t u = record { taken = t.taken; split = t.split; reads = t.reads; local = λ m new lt ok. rw (settled ts l t.taken x.1 new t.split u ok ∙ b) (t.local m new lt ok) }
  second ts l b (Err k) t u = record { taken = t.taken; rest = t.rest; split = t.split; left = t.left; viable = t.viable; local = λ m new lt ok. rw (settled ts l t.taken t.rest new t.split (omega (arith, t.left)) ok ∙ b) (t.local m new lt ok) }

  -- a word of the second serves
  pub look_good : Good L p s n → Good L q s n
      → ((xs : List B) (u : List S) → next_is test u ≡ false → length (lined name xs u) < s + n → ahead (lined name xs u) ≡ true → UpTo (length u) (p n (lined name xs u)))
      → ((xs : List B) (u : List S) → next_is test u ≡ false → length (lined name xs u) < s + n → ahead (lined name xs u) ≡ false → UpTo (length u) (q n (lined name xs u)))
      → Good L look s n
  look_good gp gq ep eq = record { at = λ ts lt. go ts lt (led test name whole ts) (ahead ts) refl; word = gq.word }
    where
      go : (ts : List S) → length ts < s + n → (l : Led test name ts) → (b : Bool) → ahead ts ≡ b → GoodFor L look s ts (cond b (p n ts) (q n ts))
      go ts lt l true e = first ts l e (p n ts) (gp.at ts lt)
          (subst (λ (y : List S). UpTo (length l.after) (p n y)) (sym l.split) (ep l.names l.after l.stops (subst (λ (y : List S). length y < s + n) l.split lt) (ap ahead (sym l.split) ∙ e)))
      go ts lt l false e = second ts l e (q n ts) (gq.at ts lt)
          (subst (λ (y : List S). UpTo (length l.after) (q n y)) (sym l.split) (eq l.names l.after l.stops (subst (λ (y : List S). length y < s + n) l.split lt) (ap ahead (sym l.split) ∙ e)))
