-- Environments of trees: what is put in the place of a variable, what a branch keeps, and what stays as the pool grows.
use Rattle.std.specs.Prelude.{◌≡◌, ℕ, ◌+◌, ◌-◌, ◌<◌, ◌≤◌, List, [], ◌∷◌, ◌++◌, length, map, reverse, take, drop, get_or}
use Rattle.std.proofs.Common.{arith, sym, ap, ap₂, ◌∙◌, ⊎_elim}
use Rattle.std.proofs.lemmas.List.{reverse-append, take-append-drop, take_at, take_all, take-map, map-append, length-reverse, length-drop, append_assoc, drop_more, take_rest, take_more}
use Rattle.std.proofs.lemmas.Bool.{cases_lt}
use Rattle.core_rules.specs.Term.{Term}
use Rattle.core_rules.specs.Substitution.{value_at}
use Rattle.core_rules.specs.Run.{spread}
use Rattle.term_pool.specs.Pool.{Pool, tree, Extends}
use Rattle.term_pool.specs.Growth.{Extends-tree, Extends-length}
use Rattle.el_base.proofs.Lists.{map-reverse, reverse_push}
use Rattle.el_base.proofs.Throughout.{map-same, all-reverse, all-weaker}
use Rattle.weak_head.specs.Elims.{env_in}
use Rattle.weak_head.specs.States.{Ids}
use Rattle.weak_head.proofs.Spines.{map-drop, drop_reverse}

take_reverse : {X : Type 0} (n : ℕ) (xs : List X) → reverse (drop (length xs - n) xs) ≡ take n (reverse xs)
take_reverse {X} n xs = ⊎_elim
    (λ (h : n < length xs).
    let m = length xs - n in
    let e : reverse xs ≡ reverse (drop m xs) ++ reverse (take m xs) = ap reverse (sym (take-append-drop m xs)) ∙ reverse-append (take m xs) (drop m xs) in
    let l : length (reverse (drop m xs)) ≡ n = omega (arith, length-reverse (drop m xs), length-drop m xs) in
    sym (ap (take n) e ∙ take_at (reverse (drop m xs)) (reverse (take m xs)) n l))
    (λ (h : length xs ≤ n).
    let z : length xs - n ≡ 0 = omega arith in
    ap (λ k. reverse (drop k xs)) z ∙ sym (take_all n (reverse xs) (omega (arith, length-reverse xs))))
    (cases_lt n (length xs))

reverse_three : {X : Type 0} (a b c : List X) → reverse ((a ++ b) ++ c) ≡ (reverse c ++ reverse b) ++ reverse a
reverse_three a b c = reverse-append (a ++ b) c ∙ ap (λ l. reverse c ++ l) (reverse-append a b) ∙ sym (append_assoc (reverse c) (reverse b) (reverse a))

map_three : {X Y : Type 0} (f : X → Y) (a b c : List X) → map f ((a ++ b) ++ c) ≡ (map f a ++ map f b) ++ map f c
map_three f a b c = map-append f (a ++ b) c ∙ ap (λ l. l ++ map f c) (map-append f a b)

-- us in the place of variable k
pub spread_in : (f : ℕ → Term) (k : ℕ) (env us all : List ℕ) → all ≡ (take (length env - (k + 1)) env ++ us) ++ drop (length env - k) env → env_in f all ≡ spread k (map f us) (env_in f env)
spread_in f k env us all e =
    ap (env_in f) e ∙ ap (map f) (reverse_three (take (length env - (k + 1)) env) us (drop (length env - k) env))
    ∙ ap₂ (λ x y. map f ((x ++ reverse us) ++ y)) (take_reverse k env) (drop_reverse (k + 1) env)
    ∙ map_three f (take k (reverse env)) (reverse us) (drop (k + 1) (reverse env))
    ∙ ap₂ (λ x y. (x ++ map f (reverse us)) ++ y) (sym (take-map f k (reverse env))) (map-drop f (k + 1) (reverse env))
    ∙ ap (λ x. (take k (env_in f env) ++ x) ++ drop (k + 1) (env_in f env)) (map-reverse f us)

pub env_push : (f : ℕ → Term) (xs : List ℕ) (x : ℕ) → env_in f (xs ++ x ∷ []) ≡ f x ∷ env_in f xs
env_push f xs x = ap (map f) (reverse_push xs x)

module _ {p q : Pool} (g : Extends p q) where
  pub ids_more : (xs : List ℕ) → Ids (length p.trees) xs → Ids (length q.trees) xs
  ids_more xs h = all-weaker (λ i. i < length p.trees) (λ i. i < length q.trees) (λ i l. omega (arith, l, Extends-length g)) xs h

  pub ids_stay : (xs : List ℕ) → Ids (length p.trees) xs → map (tree q) xs ≡ map (tree p) xs
  ids_stay xs h = map-same (λ i. i < length p.trees) (tree q) (tree p) (λ i l. Extends-tree i g l) xs h

  pub env_stays : (xs : List ℕ) → Ids (length p.trees) xs → env_in (tree q) xs ≡ env_in (tree p) xs
  env_stays xs h = ids_stay (reverse xs) (all-reverse (λ i. i < length p.trees) xs h)

-- one value more from the end of the list
pub kept_next : (p q r : Pool) (env all : List ℕ) (keep : List ℕ) (left v : ℕ) → Extends p q → Extends q r → Ids (length p.trees) env → Ids (length q.trees) all → left < length keep
    → tree r v ≡ value_at (env_in (tree q) env) (get_or keep left 0)
    → env_in (tree q) all ≡ map (value_at (env_in (tree p) env)) (drop (left + 1) keep)
    → env_in (tree r) (all ++ v ∷ []) ≡ map (value_at (env_in (tree p) env)) (drop left keep)
kept_next p q r env all keep left v g h e a l t i =
    env_push (tree r) all v ∙ ap₂ (λ x xs. x ∷ xs) (t ∙ ap (λ x. value_at x (get_or keep left 0)) (env_stays g env e)) (env_stays h all a ∙ i)
    ∙ ap (map (value_at (env_in (tree p) env))) (sym (drop_more keep left 0 l))

-- the three parts of a list that is made
pub three_parts : (env us all two one nil front : List ℕ) (b c k : ℕ) → all ≡ two ++ take (length env - c) (drop c env) → two ≡ one ++ us → one ≡ nil ++ front → nil ≡ [] → front ≡ take b env → b ≡ length env - k - 1 → c ≡ length env - k
    → all ≡ (take (length env - (k + 1)) env ++ us) ++ drop (length env - k) env
three_parts env us all two one nil front b c k e h i j l m n =
    let x : one ≡ take (length env - (k + 1)) env = i ∙ ap (λ z. z ++ front) j ∙ l ∙ ap (λ z. take z env) (let y : b ≡ length env - (k + 1) = omega (arith, m) in y) in
    e ∙ ap₂ (λ y z. y ++ z) (h ∙ ap (λ z. z ++ us) x) (take_rest env c ∙ ap (λ z. drop z env) n)

-- one item more of a list that is made item by item
pub list_next : (f h F : ℕ → Term) (all items : List ℕ) (v n x : ℕ) → map h all ≡ map f all → map f all ≡ map F (take n items) → h v ≡ F x → n < length items → x ≡ get_or items n x → map h (all ++ v ∷ []) ≡ map F (take (n + 1) items)
list_next f h F all items v n x a b e l i =
    map-append h all (v ∷ []) ∙ ap₂ (λ xs y. xs ++ y ∷ []) (a ∙ b) (e ∙ ap F i)
    ∙ sym (ap (map F) (take_more items n x l) ∙ map-append F (take n items) (get_or items n x ∷ []))
