-- What holds of the parts of words that the rule takes.
use Rattle.std.proofs.Common.{◌≤◌, length, length-append, arith, ◌≡◌, ◌&&◌, ℕ, Bool, true, false, not, cond, refl, List, [], ◌∷◌, Option, Some, None, subst}
use Rattle.std.specs.Prelude.{is_some, option_map, option_and_then}
use Rattle.command_line.specs.declared.limit.Limit.{Limit}
use Rattle.command_line.specs.declared.limit.Limit.TheVariants.{Fuel, Depth, Order}
use Rattle.command_line.specs.declared.rule.Next.{Next}
use Rattle.command_line.specs.declared.rule.Next.TheVariants.{Word, Value, Left}
use Rattle.command_line.specs.Limit.{is_value}
use Rattle.command_line.specs.Rule.{AreValues, Parts, after_kind, after_word, given, nothing, read, with_given, with_left, with_value}
use Rattle.command_line.specs.Word.{Kind, ends, gives, kind_of, plain, refused, takes}
use Rattle.command_line.proofs.Numerals.{both}

abbrev Given : Option (Next × Parts) → Type 0
Given None = Unit {0}
Given (Some s) = AreValues s.1

one_more : (limit : Limit) (text : List ℕ) (p : Parts) → is_value limit text ≡ true → AreValues p → AreValues (with_given limit text p)
one_more Fuel text p is all = record { fuel_value = is; depth_value = all.depth_value; order_value = all.order_value }
one_more Depth text p is all = record { fuel_value = all.fuel_value; depth_value = is; order_value = all.order_value }
one_more Order text p is all = record { fuel_value = all.fuel_value; depth_value = all.depth_value; order_value = is }

given_value : (limit : Limit) (text : List ℕ) (p : Parts) → AreValues p → Given (option_map (λ q. (Word, q)) (with_value limit text p))
given_value limit text p all = go (not (is_some (given limit p)) && is_value limit text) refl
  where
    go : (b : Bool) → (not (is_some (given limit p)) && is_value limit text) ≡ b
        → Given (option_map (λ q. (Word, q)) (cond b (Some (with_given limit text p)) None))
    go true e = one_more limit text p (both _ _ e).1 all
    go false e = tt

given_left : (word : List ℕ) (p : Parts) → AreValues p → AreValues (with_left word p)
given_left word p all = record { fuel_value = all.fuel_value; depth_value = all.depth_value; order_value = all.order_value }

given_kind : (kind : Kind) (word : List ℕ) (p : Parts) → AreValues p → Given (after_kind kind word p)
given_kind ends word p all = all
given_kind (takes limit) word p all = all
given_kind (gives limit text) word p all = given_value limit text p all
given_kind plain word p all = given_left word p all
given_kind refused word p all = tt

given_word : (next : Next) (word : List ℕ) (p : Parts) → AreValues p → Given (after_word next word p)
given_word Word word p all = given_kind (kind_of word) word p all
given_word (Value limit) word p all = given_value limit word p all
given_word Left word p all = given_left word p all

pub same_parts : (p q : Parts) → ◌≡◌ {A = Option Parts} (Some p) (Some q) → p ≡ q
same_parts p q e = cc

given_all : (words : List (List ℕ)) (next : Next) (p q : Parts) → read words next p ≡ Some q → AreValues p → AreValues q
given_all [] Word p q e all = subst AreValues (same_parts p q e) all
given_all [] (Value limit) p q e all = cc
given_all [] Left p q e all = subst AreValues (same_parts p q e) all
given_all (word ∷ rest) next p q e all = go (after_word next word p) (given_word next word p all) (λ s. given_all rest s.0 s.1 q) e
  where
    go : (o : Option (Next × Parts)) → Given o → ((s : Next × Parts) → read rest s.0 s.1 ≡ Some q → AreValues s.1 → AreValues q)
        → option_and_then (λ s. read rest s.0 s.1) o ≡ Some q → AreValues q
    go None some more e = cc
    go (Some s) some more e = more s e some

pub values_given : (words : List (List ℕ)) (q : Parts) → read words Word nothing ≡ Some q → AreValues q
values_given words q e = given_all words Word nothing q e record { fuel_value = tt; depth_value = tt; order_value = tt }

-- ---- the words that are left do not become fewer

abbrev Grows : Parts → Option (Next × Parts) → Type 0
Grows p None = Unit {0}
Grows p (Some s) = length p.left ≤ length s.1.left

grows_value : (limit : Limit) (v : List ℕ) (p : Parts) → Grows p (option_map (λ q. (Word, q)) (with_value limit v p))
grows_value limit v p = go (not (is_some (given limit p)) && is_value limit v)
  where
    left : (l : Limit) → length p.left ≤ length (with_given l v p).left
    left Fuel = omega arith
    left Depth = omega arith
    left Order = omega arith

    go : (b : Bool) → Grows p (option_map (λ q. (Word, q)) (cond b (Some (with_given limit v p)) None))
    go true = left limit
    go false = tt

grows_left : (word : List ℕ) (p : Parts) → length p.left ≤ length (with_left word p).left
grows_left word p = omega (arith, length-append p.left (word ∷ []))

grows_kind : (kind : Kind) (word : List ℕ) (p : Parts) → Grows p (after_kind kind word p)
grows_kind ends word p = omega arith
grows_kind (takes limit) word p = omega arith
grows_kind (gives limit v) word p = grows_value limit v p
grows_kind plain word p = grows_left word p
grows_kind refused word p = tt

grows_word : (next : Next) (word : List ℕ) (p : Parts) → Grows p (after_word next word p)
grows_word Word word p = grows_kind (kind_of word) word p
grows_word (Value limit) word p = grows_value limit word p
grows_word Left word p = grows_left word p

pub grows : (words : List (List ℕ)) (next : Next) (p q : Parts) → read words next p ≡ Some q → length p.left ≤ length q.left
grows [] Word p q e = rw (same_parts p q e) (omega arith)
grows [] (Value limit) p q e = cc
grows [] Left p q e = rw (same_parts p q e) (omega arith)
grows (word ∷ rest) next p q e = go (after_word next word p) (grows_word next word p) (λ s. grows rest s.0 s.1 q) e
  where
    go : (o : Option (Next × Parts)) → Grows p o → ((s : Next × Parts) → read rest s.0 s.1 ≡ Some q → length s.1.left ≤ length q.left)
        → option_and_then (λ s. read rest s.0 s.1) o ≡ Some q → length p.left ≤ length q.left
    go None g more e = cc
    go (Some s) g more e = let grown : length s.1.left ≤ length q.left = more s e in omega arith
