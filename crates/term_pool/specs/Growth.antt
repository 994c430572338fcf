-- What stays as a pool grows: lemmas for callers, and for the laws of traits.
use Rattle.std.specs.Prelude.{◌≡◌, ℕ, ◌<◌, ◌≤◌, List, length, get_or, take}
use Rattle.std.proofs.Common.{arith, length-take, get_or-take, ap, sym, ◌∙◌}
use Rattle.std.proofs.Math.Seq.{take-length}
use Rattle.std.proofs.lemmas.Grind.{common_steps}
use Rattle.core_rules.specs.Term.{Term, Sort}
use Rattle.term_pool.specs.Pool.{Pool, tree, Extends, StandsFor}

pub first-length : {A : Type 0} (xs ys : List A) → take (length xs) ys ≡ xs → length xs ≤ length ys
first-length xs ys h = omega (arith, length-take (length xs) ys, ap length h)

-- the first items of the first ones
take_take : {A : Type 0} (a b : ℕ) (xs : List A) → a ≤ b → take a (take b xs) ≡ take a xs
take_take a b xs l = grind (arith, common_steps)

first-trans : {A : Type 0} (xs ys zs : List A) → take (length xs) ys ≡ xs → take (length ys) zs ≡ ys → take (length xs) zs ≡ xs
first-trans {A} xs ys zs h k = let l : length xs ≤ length ys = first-length xs ys h in
    sym (take_take (length xs) (length ys) zs l) ∙ ap (take (length xs)) k ∙ h

pub Extends-refl : (p : Pool) → Extends p p
Extends-refl p = record { trees = take-length p.trees }

pub Extends-trans : {p q r : Pool} → Extends p q → Extends q r → Extends p r
Extends-trans {p} {q} {r} h k = record { trees = first-trans p.trees q.trees r.trees h.trees k.trees }

pub Extends-length : {p q : Pool} → Extends p q → length p.trees ≤ length q.trees
Extends-length {p} {q} h = first-length p.trees q.trees h.trees

-- an id stands for what it stood for
pub Extends-tree : {p q : Pool} (t : ℕ) → Extends p q → t < length p.trees → tree q t ≡ tree p t
Extends-tree {p} {q} t h l = sym (get_or-take (length p.trees) q.trees t (Sort 0) l) ∙ ap (λ ts. get_or ts t (Sort 0)) h.trees

pub Extends-StandsFor : {p q : Pool} {r : ℕ} {t : Term} → Extends p q → StandsFor p r t → StandsFor q r t
Extends-StandsFor {p} {q} {r} h s = record { within = omega (arith, Extends-length h, s.within); is = Extends-tree r h s.within ∙ s.is }

pub ruleset growth = (Extends-refl, Extends-trans, Extends-length, Extends-tree, Extends-StandsFor)
