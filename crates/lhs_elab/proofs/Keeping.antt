-- The place of a variable among those that a branch keeps.
use Rattle.std.proofs.Common.{◌≡◌, ◌≤◌, ℕ, ◌+◌, ◌-◌, suc, List, [], ◌∷◌, length, refl, ap, sym, ◌∙◌, arith}
use Rattle.std.specs.Prelude.{Bool, true, false, Option, Some, None, option_map, eqb, cond}
use Rattle.cover_rules.specs.LeftSide.{place_of}

-- so many were passed, and left are those that are left
pub record PassedTo (var : ℕ) (keep left : List ℕ) : Type 0 where
  pub shorter : length left ≤ length keep
  pub is : place_of var keep ≡ option_map (λ n. n + (length keep - length left)) (place_of var left)

plus-none : (o : Option ℕ) (a : ℕ) → o ≡ option_map (λ n. n + (a - a)) o
plus-none None a = refl
plus-none (Some n) a = let e : n ≡ n + (a - a) = omega arith in ap Some e

pub passed-none : (var : ℕ) (keep : List ℕ) → PassedTo var keep keep
passed-none var keep = record { shorter = omega arith; is = plus-none (place_of var keep) (length keep) }

suc-plus : (o : Option ℕ) (a b : ℕ) → a ≡ suc b → option_map (λ n. n + b) (option_map suc o) ≡ option_map (λ n. n + a) o
suc-plus None a b e = refl
suc-plus (Some n) a b e = let h : suc n + b ≡ n + a = omega (arith, e) in ap Some h

module _ (var : ℕ) (keep left : List ℕ) (k : ℕ) (more : List ℕ) (s : PassedTo var keep left) (e : left ≡ k ∷ more) where
  count : length left ≡ suc (length more)
  count = ap (λ (ks : List ℕ). length ks) e

  pub passed-next : eqb var k ≡ false → PassedTo var keep more
  passed-next f =
      let l = s.shorter in
      let n : length keep - length more ≡ suc (length keep - length left) = omega (arith, l, count) in
      let h : place_of var left ≡ option_map suc (place_of var more) = ap (place_of var) e ∙ ap (λ (b : Bool). cond b (Some 0) (option_map suc (place_of var more))) f in
      record {
        shorter = omega (arith, l, count);
        is = s.is ∙ (ap (option_map (λ n. n + (length keep - length left))) h ∙ suc-plus (place_of var more) (length keep - length more) (length keep - length left) n);
      }

  pub passed-found : eqb var k ≡ true → Some (length keep - length left) ≡ place_of var keep
  passed-found f =
      let h : place_of var left ≡ Some 0 = ap (place_of var) e ∙ ap (λ (b : Bool). cond b (Some 0) (option_map suc (place_of var more))) f in
      let n : 0 + (length keep - length left) ≡ length keep - length left = omega arith in
      sym (s.is ∙ (ap (option_map (λ n. n + (length keep - length left))) h ∙ ap Some n))

pub passed-all : (var : ℕ) (keep left : List ℕ) → PassedTo var keep left → left ≡ [] → None ≡ place_of var keep
passed-all var keep left s e = sym (s.is ∙ ap (λ (ks : List ℕ). option_map (λ n. n + (length keep - length left)) (place_of var ks)) e)
