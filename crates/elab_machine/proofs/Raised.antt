-- The values of source variables over a pool: what stays as it grows, and inside one binder more.
use Rattle.std.proofs.Common.{◌≡◌, ◌<◌, ◌+◌, ◌-◌, ℕ, List, [], ◌∷◌, ◌++◌, length, map, refl, sym, ap, ◌∙◌, arith}
use Rattle.std.specs.Prelude.{reverse}
use Rattle.el_base.proofs.Lists.{reverse_push}
use Rattle.el_base.proofs.Throughout.{all-weaker, all-reverse, all-push, map-same}
use Rattle.core_rules.specs.Term.{Term, Var}
use Rattle.core_rules.specs.Substitution.{shift}
use Rattle.core_rules.specs.Signature.{Solved}
use Rattle.core_rules.proofs.Substitution.Lifted.{shift_twice, shift_none}
use Rattle.term_pool.specs.Pool.{Pool, tree, Extends}
use Rattle.term_pool.specs.Growth.{Extends-length, Extends-tree}
use Rattle.written_rules.specs.Rules.{raised, binding}
use Rattle.elab_machine.specs.declared.values.Value.{Value}
use Rattle.elab_machine.specs.Writer.{IsValue, AreValues, value_bound, value_in, values_in, risen}

pub values-weaker : (p q : Pool) (n : ℕ) (vs : List Value) → Extends p q → AreValues p n vs → AreValues q n vs
values-weaker p q n vs e a =
    all-weaker (IsValue p n) (IsValue q n) (λ v h. record { value = omega (arith, Extends-length e, h.value); ty = omega (arith, Extends-length e, h.ty); inside = h.inside; ty_inside = h.ty_inside }) vs a

-- inside one binder more
pub values-further : (p : Pool) (n : ℕ) (vs : List Value) → AreValues p n vs → AreValues p (n + 1) vs
values-further p n vs a = all-weaker (IsValue p n) (IsValue p (n + 1)) (λ v h. record { value = h.value; ty = h.ty; inside = omega (arith, h.inside); ty_inside = h.ty_inside }) vs a

value-stays : (p q : Pool) (n : ℕ) → Extends p q → (v : Value) → IsValue p n v → value_in q n v ≡ value_in p n v
value-stays p q n e v h =
    ap (λ (w : Solved Term). risen (n - v.inside) w)
    (let a : tree q v.solved.value ≡ tree p v.solved.value = Extends-tree v.solved.value e h.value in
    let b : tree q v.solved.ty ≡ tree p v.solved.ty = Extends-tree v.solved.ty e h.ty in
    cc (a, b))

pub values-stay : (p q : Pool) (n : ℕ) (vs : List Value) → Extends p q → AreValues p n vs → values_in q n vs ≡ values_in p n vs
values-stay p q n vs e a = map-same (IsValue p n) (value_in q n) (value_in p n) (λ v h. value-stays p q n e v h) (reverse vs) (all-reverse (IsValue p n) vs a)

-- a value inside one binder more is raised
value-raised : (p : Pool) (n : ℕ) (v : Value) → IsValue p n v → value_in p (n + 1) v ≡ raised (value_in p n v)
value-raised p n v h =
    let m : n + 1 - v.inside ≡ n - v.inside + 1 = omega (arith, h.inside) in
    let w : Solved Term = value_bound p v in
    ap (λ k. risen k w) m ∙ (let a = sym (shift_twice w.value (n - v.inside) 1) in let b = sym (shift_twice w.ty (n - v.inside) 1) in cc (a, b))

values-raised : (p : Pool) (n : ℕ) (vs : List Value) → AreValues p n vs → map (value_in p (n + 1)) vs ≡ map raised (map (value_in p n) vs)
values-raised p n [] a = refl
values-raised p n (v ∷ vs) a = cc (value-raised p n v a.0, values-raised p n vs a.1)

-- the value of a name that is bound inside n binders, whose type stands outside its own binder
abbrev pub bound_value : ℕ → ℕ → ℕ → ℕ → Value
bound_value n x b a = record { solved = record { name = x; value = b; ty = a }; inside = n + 1; ty_inside = n }

pub values-entered : (p q : Pool) (n x a b : ℕ) (vs : List Value) → Extends p q → AreValues p n vs → a < length p.trees → tree q b ≡ Var 0
    → values_in q (n + 1) (vs ++ bound_value n x b a ∷ []) ≡ binding x (tree p a) (values_in p n vs)
values-entered p q n x a b vs e h l j =
    let v : Value = bound_value n x b a in
    let z : n + 1 - (n + 1) ≡ 0 = omega arith in
    let w : Solved Term = value_bound q v in
    let one : n + 1 - n ≡ 1 = omega arith in
    let type : w.ty ≡ shift (tree p a) 0 1 = ap (shift (tree q a) 0) one ∙ ap (λ (t : Term). shift t 0 1) (Extends-tree a e l) in
    let first : value_in q (n + 1) v ≡ record { name = x; value = Var 0; ty = shift (tree p a) 0 1 } =
    ap (λ k. risen k w) z ∙ (let c = shift_none w.value 0 ∙ j in let d = shift_none w.ty 0 ∙ type in cc (c, d)) in
    let rest : map (value_in q (n + 1)) (reverse vs) ≡ map raised (values_in p n vs) =
    values-raised q n (reverse vs) (all-reverse (IsValue q n) vs (values-weaker p q n vs e h)) ∙ ap (map raised) (values-stay p q n vs e h) in
    ap (map (value_in q (n + 1))) (reverse_push vs v) ∙ cc (first, rest)

pub pushed-values : (p q : Pool) (n x a b : ℕ) (vs : List Value) → Extends p q → AreValues p n vs → a < length p.trees → b < length q.trees → AreValues q (n + 1) (vs ++ bound_value n x b a ∷ [])
pushed-values p q n x a b vs e h l k =
    all-push (IsValue q (n + 1)) vs (bound_value n x b a) (values-further q n vs (values-weaker p q n vs e h))
    (record { value = k; ty = omega (arith, l, Extends-length e); inside = omega arith; ty_inside = omega arith })
