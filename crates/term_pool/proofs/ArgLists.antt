-- How an argument list is put together and taken apart.
use Rattle.std.specs.Prelude.{◌≡◌, ℕ, ◌+◌, ◌<◌, ◌≤◌, zero, suc, get_or, take, List, [], ◌∷◌, ◌++◌, length, map, refl}
use Rattle.std.specs.List.{AllByRecursion}
use Rattle.std.proofs.Common.{sym, ap, ap₂, ◌∙◌, arith, subst, le_of_eq, take_all}
use Rattle.std.proofs.lemmas.List.{take_more}
use Rattle.core_rules.specs.declared.Flag.{Flag}
use Rattle.core_rules.specs.declared.Flag.TheVariants.{Explicit}
use Rattle.core_rules.specs.Term.{Term, Terms, Sort, App, End, And, from_list}
use Rattle.term_pool.specs.declared.node.Node.{Node}
use Rattle.term_pool.specs.declared.node.Node.TheVariants as N
use Rattle.term_pool.specs.Lists.{list, items, IsList}
use Rattle.term_pool.specs.Node.{cell_of}
use Rattle.term_pool.specs.Pool.{Pool, tree, args, list_of, node_tree, IsArgs, IsCell, IsFirst, Below, Extends, StandsFor}
use Rattle.term_pool.specs.Growth.{Extends-tree, Extends-trans}
use Rattle.term_pool.proofs.Turns.{all_append}

-- the items ts before those of us
abbrev pub joined : List Term → Terms → Terms
joined [] us = us
joined (t ∷ ts) us = And t (joined ts us)

pub joined-last : (ts : List Term) (t : Term) (us : Terms) → joined (ts ++ t ∷ []) us ≡ joined ts (And t us)
joined-last [] t us = refl
joined-last (x ∷ ts) t us = cc (joined-last ts t us)

pub joined-none : (ts : List Term) → joined ts End ≡ from_list ts
joined-none [] = refl
joined-none (t ∷ ts) = cc (joined-none ts)

map-last : (f : ℕ → Term) (xs : List ℕ) (x : ℕ) → map f (xs ++ x ∷ []) ≡ map f xs ++ f x ∷ []
map-last f [] x = refl
map-last f (y ∷ xs) x = cc (map-last f xs x)

pub joined-map-last : (f : ℕ → Term) (xs : List ℕ) (x : ℕ) (us : Terms) → joined (map f (xs ++ x ∷ [])) us ≡ joined (map f xs) (And (f x) us)
joined-map-last f xs x us = ap (λ ts. joined ts us) (map-last f xs x) ∙ joined-last (map f xs) (f x) us

-- the rest of a list is a list
rest_is : (b : Flag) (t u : Term) → IsList (App b t u) → IsList u
rest_is b t u h = cc h

pub first_is : (p : Pool) (a : ℕ) (n : Node) → IsArgs (tree p) (length p.trees) a → Below (tree p) a n → tree p a ≡ node_tree (tree p) n → IsFirst p a (cell_of n)
first_is p a (N.App b t u) h l e = record {
  is = ap items e;
  item = omega (arith, l.0, h.within);
  rest = record { within = l.1; list = rest_is b (tree p t) (tree p u) (subst IsList e h.list) };
}
first_is p a (N.Var i) h l e = ap items e
first_is p a (N.Sort i) h l e = ap items e
first_is p a (N.Pi b x s t) h l e = ap items e
first_is p a (N.Lam b x s t) h l e = ap items e
first_is p a (N.Def i) h l e = ap items e
first_is p a (N.Fam i) h l e = ap items e
first_is p a (N.Con k b) h l e = ap items e
first_is p a (N.Proj k t) h l e = ap items e
first_is p a (N.Meta k b) h l e = ap items e

all_at : (P : ℕ → Type 0) (xs : List ℕ) (i d : ℕ) → AllByRecursion P xs → i < length xs → P (get_or xs i d)
all_at P [] i d h l = absurd (omega arith)
all_at P (x ∷ xs) zero d h l = h.0
all_at P (x ∷ xs) (suc i) d h l = all_at P xs i d h.1 (omega arith)

-- so far the list a stands for some of the ids, and the first n are still to be put before it
pub record IsLeft (p q : Pool) (ids : List ℕ) (n a : ℕ) : Type 0 where
  pub extends : Extends p q
  pub count : n ≤ length ids
  pub some : Terms
  pub stands : StandsFor q a (list some)
  pub all : joined (map (tree p) (take n ids)) some ≡ from_list (map (tree p) ids)

pub left_first : (p q : Pool) (ids : List ℕ) (n a : ℕ) → n ≡ length ids → Extends p q → StandsFor q a (Sort 0) → IsLeft p q ids n a
left_first p q ids n a e g s = record {
  extends = g;
  count = le_of_eq e;
  some = End;
  stands = s;
  all = ap (λ is. joined (map (tree p) is) End) (take_all n ids (le_of_eq (sym e))) ∙ joined-none (map (tree p) ids);
}

pub left_next : (p q r : Pool) (ids : List ℕ) (n m x a b : ℕ) → IsLeft p q ids n a → n ≡ m + 1 → x ≡ get_or ids m x → AllByRecursion (λ i. i < length p.trees) ids → Extends q r → StandsFor r b (App Explicit (tree q x) (tree q a)) → IsLeft p r ids m b
left_next p q r ids n m x a b h e k l g s =
    let first : take n ids ≡ take m ids ++ x ∷ [] = ap (λ i. take i ids) e ∙ (take_more ids m x (omega (arith, h.count)) ∙ ap (λ i. take m ids ++ i ∷ []) (sym k)) in
    let within : x < length p.trees = subst (λ i. i < length p.trees) (sym k) (all_at (λ i. i < length p.trees) ids m x l (omega (arith, h.count))) in
    record {
      extends = Extends-trans h.extends g;
      count = omega (arith, h.count);
      some = And (tree p x) h.some;
      stands = record { within = s.within; is = s.is ∙ ap₂ (App Explicit) (Extends-tree x h.extends within) h.stands.is };
      all = sym (joined-map-last (tree p) (take m ids) x h.some) ∙ (ap (λ is. joined (map (tree p) is) h.some) (sym first) ∙ h.all);
    }

pub left_all : (p q : Pool) (ids : List ℕ) (n a : ℕ) → IsLeft p q ids n a → n ≡ 0 → StandsFor q a (list_of p ids)
left_all p q ids n a h e = subst (λ ts. StandsFor q a (list ts)) (ap (λ i. joined (map (tree p) (take i ids)) h.some) (sym e) ∙ h.all) h.stands

-- these items of the list a are taken, and `left` is the rest of it
pub record IsTaken (p : Pool) (a : ℕ) (ids : List ℕ) (left : ℕ) : Type 0 where
  pub within : AllByRecursion (λ i. i < length p.trees) ids
  pub rest : IsArgs (tree p) (length p.trees) left
  pub all : joined (map (tree p) ids) (args p left) ≡ args p a

pub taken_first : (p : Pool) (a : ℕ) (ids : List ℕ) → IsArgs (tree p) (length p.trees) a → ids ≡ [] → IsTaken p a ids a
taken_first p a ids h e = record { within = rw e tt; rest = h; all = rw e refl }

pub taken_next : (p : Pool) (a : ℕ) (ids more : List ℕ) (left t b : ℕ) → IsTaken p a ids left → IsCell p left t b → more ≡ ids ++ t ∷ [] → IsTaken p a more b
taken_next p a ids more left t b h c e = record {
  within = rw e (all_append (λ i. i < length p.trees) ids (t ∷ []) h.within (c.item, tt));
  rest = record { within = omega (arith, c.rest.within, h.rest.within); list = c.rest.list };
  all = rw e (joined-map-last (tree p) ids t (args p b) ∙ (ap (joined (map (tree p) ids)) (sym c.is) ∙ h.all));
}

pub taken_all : (p : Pool) (a : ℕ) (ids : List ℕ) (left : ℕ) → IsTaken p a ids left → args p left ≡ End → from_list (map (tree p) ids) ≡ args p a
taken_all p a ids left h e = sym (joined-none (map (tree p) ids)) ∙ (ap (joined (map (tree p) ids)) (sym e) ∙ h.all)
