-- Walks over a term: what is left to look at.
use Rattle.std.proofs.Common.{◌≡◌, ℕ, ◌+◌, ◌≤◌, Bool, true, false, ◌||◌, eqb, List, [], ◌∷◌, ◌++◌, refl, sym, ap, ◌∙◌, subst, arith, ne_eqb}
use Rattle.el_base.proofs.Throughout.{all-append}
use Rattle.core_rules.specs.Term.{Term, Terms, Var, Sort, Pi, Lam, App, Def, Fam, Con, Proj, Meta, End, And, size, size_all, occurs, occurs_in}
use Rattle.term_pool.specs.Pool.{Pool, tree}
use Rattle.term_pool.specs.Reach.{reach, reach_all}
use Rattle.core_print.specs.declared.walk.What.TheVariants as W
use Rattle.core_print.specs.declared.walk.Part.{Part}
use Rattle.core_print.specs.Walks.{IsIn, AreIn, what_size, sizes, occurs_in_what, occurs_in_parts, is_var, inner_size, occurs_inside, Leaves, IsStart}

or_swap : (a b c : Bool) → (a || (b || c)) ≡ (b || (a || c))
or_swap true true c = refl
or_swap true false c = refl
or_swap false b c = refl

or_assoc : (a b c : Bool) → (a || (b || c)) ≡ ((a || b) || c)
or_assoc true b c = refl
or_assoc false b c = refl

or_none : (a : Bool) → (a || false) ≡ a
or_none true = refl
or_none false = refl

pub sizes-push : (p : Pool) (xs : List Part) (x : Part) → sizes p (xs ++ x ∷ []) ≡ what_size p x.what + sizes p xs
sizes-push p [] x = omega arith
sizes-push p (y ∷ ys) x = omega (arith, sizes-push p ys x)

pub found-push : (p : Pool) (xs : List Part) (x : Part) → occurs_in_parts p (xs ++ x ∷ []) ≡ (occurs_in_what p x.under x.what || occurs_in_parts p xs)
found-push p [] x = refl
found-push p (y ∷ ys) x =
    ap (λ b. occurs_in_what p y.under y.what || b) (found-push p ys x) ∙ or_swap (occurs_in_what p y.under y.what) (occurs_in_what p x.under x.what) (occurs_in_parts p ys)

pub leaves_none : (p : Pool) (xs : List Part) → Leaves p xs xs 0 false
leaves_none p xs = record { parts = λ h. h; count = omega arith; found = refl }

pub leaves_one : (p : Pool) (xs ys : List Part) (x : Part) → ys ≡ xs ++ x ∷ [] → IsIn p x → Leaves p xs ys (what_size p x.what) (occurs_in_what p x.under x.what)
leaves_one p xs ys x e l = record {
  parts = λ h. subst (AreIn p) (sym e) (all-append (IsIn p) xs (x ∷ []) h (l, tt));
  count = ap (sizes p) e ∙ sizes-push p xs x;
  found = ap (occurs_in_parts p) e ∙ found-push p xs x;
}

pub leaves_two : {p : Pool} {xs ys zs : List Part} {m n : ℕ} {a b : Bool} → Leaves p xs ys n b → Leaves p ys zs m a → Leaves p xs zs (m + n) (a || b)
leaves_two {p} {xs} {ys} {zs} {m} {n} {a} {b} h k = record {
  parts = λ l. k.parts (h.parts l);
  count = omega (arith, h.count, k.count);
  found = k.found ∙ (ap (λ c. a || c) h.found ∙ or_assoc a b (occurs_in_parts p xs));
}

pub leaves_as : {p : Pool} {xs ys : List Part} {m n : ℕ} {a b : Bool} → m ≡ n → a ≡ b → Leaves p xs ys m a → Leaves p xs ys n b
leaves_as {p} {xs} {ys} {m} {n} {a} {b} e f h = record {
  parts = h.parts;
  count = omega (arith, h.count, e);
  found = h.found ∙ ap (λ c. c || occurs_in_parts p xs) f;
}

-- the outermost node and its parts
pub size-parts : (t : Term) → size t ≡ 1 + inner_size t
size-parts (Var i) = refl
size-parts (Sort n) = refl
size-parts (Pi b x a t) = omega arith
size-parts (Lam b x a t) = omega arith
size-parts (App b t u) = omega arith
size-parts (Def f) = refl
size-parts (Fam d) = refl
size-parts (Con k ts) = omega arith
size-parts (Proj f t) = omega arith
size-parts (Meta m ts) = omega arith

pub occurs-parts : (i : ℕ) (t : Term) → occurs i t ≡ (is_var i t || occurs_inside i t)
occurs-parts i (Var j) = sym (or_none (eqb j i))
occurs-parts i (Sort n) = refl
occurs-parts i (Pi b x a t) = refl
occurs-parts i (Lam b x a t) = refl
occurs-parts i (App b t u) = refl
occurs-parts i (Def f) = refl
occurs-parts i (Fam d) = refl
occurs-parts i (Con k ts) = refl
occurs-parts i (Proj f t) = refl
occurs-parts i (Meta m ts) = refl

either_none : (a b : Bool) → a ≡ false → b ≡ false → (a || b) ≡ false
either_none a b e f = cc

-- a variable that a term does not reach does not occur in it
mutual
  pub occurs_past : (i : ℕ) (t : Term) → reach t ≤ i → occurs i t ≡ false
  occurs_past i (Var j) l = ne_eqb j i (λ e. omega (arith, l, e))
  occurs_past i (Sort n) l = refl
  occurs_past i (Pi b x a t) l = either_none (occurs i a) (occurs (i + 1) t) (occurs_past i a (omega (arith, l))) (occurs_past (i + 1) t (omega (arith, l)))
  occurs_past i (Lam b x a t) l = either_none (occurs i a) (occurs (i + 1) t) (occurs_past i a (omega (arith, l))) (occurs_past (i + 1) t (omega (arith, l)))
  occurs_past i (App b t u) l = either_none (occurs i t) (occurs i u) (occurs_past i t (omega (arith, l))) (occurs_past i u (omega (arith, l)))
  occurs_past i (Def f) l = refl
  occurs_past i (Fam d) l = refl
  occurs_past i (Con k ts) l = occurs_in_past i ts l
  occurs_past i (Proj f t) l = occurs_past i t l
  occurs_past i (Meta m ts) l = occurs_in_past i ts l

  occurs_in_past : (i : ℕ) (ts : Terms) → reach_all ts ≤ i → occurs_in i ts ≡ false
  occurs_in_past i End l = refl
  occurs_in_past i (And t ts) l = either_none (occurs i t) (occurs_in i ts) (occurs_past i t (omega (arith, l))) (occurs_in_past i ts (omega (arith, l)))

plus_none : (n : ℕ) → n + 0 ≡ n
plus_none n = omega arith

pub is_start : (t : ℕ) (xs : List Part) → xs ≡ record { what = W.Whole t; under = 0 } ∷ [] → IsStart t xs
is_start t xs e = record {
  parts = λ p l. subst (AreIn p) (sym e) (l, tt);
  count = λ p. ap (sizes p) e ∙ plus_none (size (tree p t));
  found = λ p. ap (occurs_in_parts p) e ∙ or_none (occurs 0 (tree p t));
}

-- the part that is taken from the end, and those before it
pub taken_last : (p : Pool) (xs ys : List Part) (x : Part) → xs ≡ ys ++ x ∷ [] → AreIn p xs → AreIn p ys × IsIn p x
taken_last p xs [] x e h = let k = subst (AreIn p) e h in (tt, k.0)
taken_last p xs (y ∷ ys) x e h = let k = subst (AreIn p) e h in let r = taken_last p (ys ++ x ∷ []) ys x refl k.1 in ((k.0, r.0), r.1)

-- a list is its first item and the rest
pub leaves_items : {p : Pool} {xs ys : List Part} (i : ℕ) (ts us : Terms) → us ≡ ts → Leaves p xs ys (size_all us) (occurs_in i us) → Leaves p xs ys (size_all ts) (occurs_in i ts)
leaves_items {p} {xs} {ys} i ts us e h = subst (λ (us : Terms). Leaves p xs ys (size_all us) (occurs_in i us)) e h

-- a walk's step counts what it takes from the size of what is left
pub counted : (p : Pool) (xs ys zs : List Part) (x : Part) (m n k : ℕ) → xs ≡ ys ++ x ∷ [] → n + sizes p zs ≡ what_size p x.what + sizes p ys → m + sizes p xs ≡ k
    → (m + n) + sizes p zs ≡ k
counted p xs ys zs x m n k e h f = omega (arith, ap (sizes p) e ∙ sizes-push p ys x, h, f)

-- a walk's step leaves open whether the variable occurs, as far as it did not find it
looked : (p : Pool) (xs ys zs : List Part) (x : Part) (b o : Bool) → xs ≡ ys ++ x ∷ [] → (b || occurs_in_parts p zs) ≡ (occurs_in_what p x.under x.what || occurs_in_parts p ys)
    → occurs_in_parts p xs ≡ o → (b || occurs_in_parts p zs) ≡ o
looked p xs ys zs x b o e h f = h ∙ (sym (ap (occurs_in_parts p) e ∙ found-push p ys x) ∙ f)

pub found_now : (p : Pool) (xs ys zs : List Part) (x : Part) (b o : Bool) → b ≡ true → xs ≡ ys ++ x ∷ [] → (b || occurs_in_parts p zs) ≡ (occurs_in_what p x.under x.what || occurs_in_parts p ys)
    → occurs_in_parts p xs ≡ o → true ≡ o
found_now p xs ys zs x b o t e h f = sym (ap (λ a. a || occurs_in_parts p zs) t) ∙ looked p xs ys zs x b o e h f

pub not_yet : (p : Pool) (xs ys zs : List Part) (x : Part) (b o : Bool) → b ≡ false → xs ≡ ys ++ x ∷ [] → (b || occurs_in_parts p zs) ≡ (occurs_in_what p x.under x.what || occurs_in_parts p ys)
    → occurs_in_parts p xs ≡ o → occurs_in_parts p zs ≡ o
not_yet p xs ys zs x b o t e h f = sym (ap (λ a. a || occurs_in_parts p zs) t) ∙ looked p xs ys zs x b o e h f
