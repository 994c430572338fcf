-- How far the search for a family in the terms of a queue has come, and what is found at its end.
use Rattle.std.proofs.Common.{◌≡◌, ◌<◌, ◌+◌, ℕ, zero, suc, List, [], ◌∷◌, ◌++◌, append_assoc, length, take, refl, sym, ap, subst, inl, inr, ◌∙◌, arith}
use Rattle.std.specs.Prelude.{◌⊎◌, ◌||◌, Bool, true, false, Some, None, slice_get}
use Rattle.std.specs.List.{AllByRecursion, list_any}
use Rattle.std.proofs.lemmas.List.{append-nil}
use Rattle.std.proofs.lemmas.Option.{same_Some}
use Rattle.el_base.proofs.Throughout.{all-append, all-at, all-push, all-weaker}
use Rattle.core_rules.specs.Term.{Term, Terms, End, And}
use Rattle.core_rules.specs.Signature.{Entry}
use Rattle.core_rules.specs.Mapped.{AllEntries, telescope_map}
use Rattle.term_pool.specs.declared.node.Node.{Node}
use Rattle.term_pool.specs.declared.node.Node.TheVariants as N
use Rattle.term_pool.specs.declared.node.Parts.TheVariants.{Two}
use Rattle.term_pool.specs.Lists.{IsList, items, list}
use Rattle.term_pool.specs.Node.{parts_of}
use Rattle.term_pool.specs.Pool.{Below, Pool, node_tree, tree}
use Rattle.data_rules.specs.Families.{names_family, names_family_in}
use Rattle.data_elab.specs.Eta.{Adds, Among, AreTypes, HasPart, IsPart, Looks, Opens, types_of}
use Rattle.data_elab.proofs.Queued.{added, added-has, added-keeps, all-among, among-left}

-- ---- a node, by its parts

named_list : (d : ℕ) (ts : Terms) → names_family d (list ts) ≡ names_family_in d ts
named_list d End = refl
named_list d (And t ts) = ap (λ (b : Bool). names_family d t || b) (named_list d ts)

named_items : (d : ℕ) (u : Term) → IsList u → names_family_in d (items u) ≡ names_family d u
named_items d u h = sym (named_list d (items u)) ∙ sym (ap (names_family d) h)

twice : (b : Bool) → b ≡ (b || b)
twice true = refl
twice false = refl

by-parts : (d : ℕ) (f : ℕ → Term) (i : ℕ) (n : Node) (s t k : ℕ) → Below f i n → parts_of n ≡ Two s t k → names_family d (node_tree f n) ≡ (names_family d (f s) || names_family d (f t))
by-parts d f i (N.Var x) s t k b h = absurd cc
by-parts d f i (N.Sort x) s t k b h = absurd cc
by-parts d f i (N.Pi c x u v) s t k b h = let e : u ≡ s = cc h in let g : v ≡ t = cc h in cc (e, g)
by-parts d f i (N.Lam c x u v) s t k b h = let e : u ≡ s = cc h in let g : v ≡ t = cc h in cc (e, g)
by-parts d f i (N.App c u v) s t k b h = let e : u ≡ s = cc h in let g : v ≡ t = cc h in cc (e, g)
by-parts d f i (N.Def x) s t k b h = absurd cc
by-parts d f i (N.Fam x) s t k b h = absurd cc
by-parts d f i (N.Con x a) s t k b h = let e : a ≡ s = cc h in let g : a ≡ t = cc h in named_items d (f a) b.list ∙ (twice (names_family d (f a)) ∙ cc (e, g))
by-parts d f i (N.Proj x u) s t k b h = let e : u ≡ s = cc h in let g : u ≡ t = cc h in twice (names_family d (f u)) ∙ cc (e, g)
by-parts d f i (N.Meta x a) s t k b h = let e : a ≡ s = cc h in let g : a ≡ t = cc h in named_items d (f a) b.list ∙ (twice (names_family d (f a)) ∙ cc (e, g))

-- the parts stand before it
parts-below : (f : ℕ → Term) (i : ℕ) (n : Node) (s t k : ℕ) → Below f i n → parts_of n ≡ Two s t k → (s < i) × (t < i)
parts-below f i (N.Var x) s t k b h = absurd cc
parts-below f i (N.Sort x) s t k b h = absurd cc
parts-below f i (N.Pi c x u v) s t k b h = let e : u ≡ s = cc h in let g : v ≡ t = cc h in (omega (arith, b.0, e), omega (arith, b.1, g))
parts-below f i (N.Lam c x u v) s t k b h = let e : u ≡ s = cc h in let g : v ≡ t = cc h in (omega (arith, b.0, e), omega (arith, b.1, g))
parts-below f i (N.App c u v) s t k b h = let e : u ≡ s = cc h in let g : v ≡ t = cc h in (omega (arith, b.0, e), omega (arith, b.1, g))
parts-below f i (N.Def x) s t k b h = absurd cc
parts-below f i (N.Fam x) s t k b h = absurd cc
parts-below f i (N.Con x a) s t k b h = let e : a ≡ s = cc h in let g : a ≡ t = cc h in (omega (arith, b.within, e), omega (arith, b.within, g))
parts-below f i (N.Proj x u) s t k b h = let e : u ≡ s = cc h in let g : u ≡ t = cc h in (omega (arith, b, e), omega (arith, b, g))
parts-below f i (N.Meta x a) s t k b h = let e : a ≡ s = cc h in let g : a ≡ t = cc h in (omega (arith, b.within, e), omega (arith, b.within, g))

-- a node that has no parts and is not the family
pub no-parts : (d : ℕ) (f : ℕ → Term) (n : Node) → ((k : ℕ) → n ≡ N.Fam k → ⊥) → ((s t k : ℕ) → parts_of n ≡ Two s t k → ⊥) → names_family d (node_tree f n) ≡ false
no-parts d f (N.Var x) h k = refl
no-parts d f (N.Sort x) h k = refl
no-parts d f (N.Pi c x u v) h k = absurd (k u v 1 refl)
no-parts d f (N.Lam c x u v) h k = absurd (k u v 1 refl)
no-parts d f (N.App c u v) h k = absurd (k u v 0 refl)
no-parts d f (N.Def x) h k = refl
no-parts d f (N.Fam x) h k = absurd (h x refl)
no-parts d f (N.Con x a) h k = absurd (k a a 0 refl)
no-parts d f (N.Proj x u) h k = absurd (k u u 0 refl)
no-parts d f (N.Meta x a) h k = absurd (k a a 0 refl)

-- ---- a look at a term

-- nothing is put in where the family does not stand in the term
pub opens-nothing : (p : Pool) (d t : ℕ) (ts : List ℕ) → names_family d (tree p t) ≡ false → Opens p d t ts ts
opens-nothing p d t ts h = record { more = []; is = sym (append-nil ts); parts = tt; part = λ e. absurd cc }

either : (b c : Bool) → (b || c) ≡ true → (b ≡ true) ⊎ (c ≡ true)
either true c h = inl refl
either false c h = inr h

-- both parts are put in
module _ (p : Pool) (d t : ℕ) (n : Node) (s u k : ℕ) (l : t < length p.trees) (b : Below (tree p) t n) (is : tree p t ≡ node_tree (tree p) n) (two : parts_of n ≡ Two s u k) where
  whole : names_family d (tree p t) ≡ (names_family d (tree p s) || names_family d (tree p u))
  whole = ap (names_family d) is ∙ by-parts d (tree p) t n s u k b two

  first-part : IsPart p d t s
  first-part = let i = parts-below (tree p) t n s u k b two in (omega (arith, i.0, l), λ h. whole ∙ ap (λ (c : Bool). c || names_family d (tree p u)) h)

  right : (c e : Bool) → e ≡ true → (c || e) ≡ true
  right true e h = refl
  right false e h = h

  second-part : IsPart p d t u
  second-part = let i = parts-below (tree p) t n s u k b two in (omega (arith, i.1, l), λ h. whole ∙ right (names_family d (tree p s)) (names_family d (tree p u)) h)

  pub opens-two : (ts us vs : List ℕ) → Adds ts s us → Adds us u vs → Opens p d t ts vs
  opens-two ts us vs a c =
      let x = added (IsPart p d t) ts us s first-part a in
      let y = added (IsPart p d t) us vs u second-part c in
      let i = parts-below (tree p) t n s u k b two in
      record {
        more = x.more ++ y.more;
        is = y.is ∙ (ap (λ ws. ws ++ y.more) x.is ∙ append_assoc ts x.more y.more);
        parts = all-append (IsPart p d t) x.more y.more x.have y.have;
        part = λ h. by (either (names_family d (tree p s)) (names_family d (tree p u)) (sym whole ∙ h)) i;
      }
    where
      by : (names_family d (tree p s) ≡ true) ⊎ (names_family d (tree p u) ≡ true) → (s < t) × (u < t) → HasPart p d vs t
      by (inl h) i = record { part = s; among = added-keeps us vs u s c (added-has ts us s a); before = i.0; stands = h }
      by (inr h) i = record { part = u; among = added-has us vs u c; before = i.1; stands = h }

pub look-found : (p : Pool) (d t : ℕ) (ts us : List ℕ) (b : Bool) → Looks p d t ts b us → b ≡ true → names_family d (tree p t) ≡ true
look-found p d t ts us true h e = h
look-found p d t ts us false h e = absurd cc

pub look-opens : (p : Pool) (d t : ℕ) (ts us : List ℕ) (b : Bool) → Looks p d t ts b us → b ≡ false → Opens p d t ts us
look-opens p d t ts us true h e = absurd cc
look-opens p d t ts us false h e = h

-- ---- the types of the fields

-- the types of the entries es are put in, but for those of fs, which are left
pub record Put (es fs : List (Entry ℕ)) (ts : List ℕ) : Type 0 where
  pub only : AllByRecursion (Among (types_of es)) ts
  pub left : AllByRecursion (Among (types_of es)) (types_of fs)
  pub all : AllByRecursion (λ t. Among ts t ⊎ Among (types_of fs) t) (types_of es)

all-self : (ts us : List ℕ) → AllByRecursion (Among (us ++ ts)) ts
all-self [] us = tt
all-self (t ∷ ts) us = (here us, subst (λ vs. AllByRecursion (Among vs) ts) (append_assoc us (t ∷ []) ts) (all-self ts (us ++ t ∷ [])))
  where
    here : (us : List ℕ) → Among (us ++ t ∷ ts) t
    here [] = inl refl
    here (u ∷ us) = inr (here us)

pub none-put : (es : List (Entry ℕ)) → Put es es []
none-put es = record {
  only = tt;
  left = all-self (types_of es) [];
  all = all-weaker (Among (types_of es)) (λ t. Among [] t ⊎ Among (types_of es) t) (λ t a. inr a) (types_of es) (all-self (types_of es) []);
}

pub one-put : (es left more : List (Entry ℕ)) (e : Entry ℕ) (ts us : List ℕ) → left ≡ e ∷ more → Adds ts e.ty us → Put es left ts → Put es more us
one-put es left more e ts us first a h = record {
  only = only us a;
  left = (subst (λ ls. AllByRecursion (Among (types_of es)) (types_of ls)) first h.left).1;
  all = all-weaker (λ t. Among ts t ⊎ Among (types_of left) t) (λ t. Among us t ⊎ Among (types_of more) t) step (types_of es) h.all;
}
  where
    only : (us : List ℕ) → Adds ts e.ty us → AllByRecursion (Among (types_of es)) us
    only us (inl x) = subst (AllByRecursion (Among (types_of es))) (sym x.0) h.only
    only us (inr x) = subst (AllByRecursion (Among (types_of es))) (sym x) (all-push (Among (types_of es)) ts e.ty h.only (subst (λ ls. AllByRecursion (Among (types_of es)) (types_of ls)) first h.left).0)

    by : (t : ℕ) → Among (e.ty ∷ types_of more) t → Among us t ⊎ Among (types_of more) t
    by t (inl x) = inl (subst (Among us) x (added-has ts us e.ty a))
    by t (inr x) = inr x

    step : (t : ℕ) → Among ts t ⊎ Among (types_of left) t → Among us t ⊎ Among (types_of more) t
    step t (inl x) = inl (added-keeps ts us e.ty t a x)
    step t (inr x) = by t (subst (λ ls. Among (types_of ls) t) first x)

pub all-put : (es left : List (Entry ℕ)) (ts : List ℕ) → left ≡ [] → Put es left ts → AreTypes es ts
all-put es left ts none h = record { only = h.only; all = all-weaker (λ t. Among ts t ⊎ Among (types_of left) t) (Among ts) by (types_of es) h.all }
  where
    by : (t : ℕ) → Among ts t ⊎ Among (types_of left) t → Among ts t
    by t (inl x) = x
    by t (inr x) = absurd (subst (λ ls. Among (types_of ls) t) none x)

-- ---- the search

-- whether the family stands in the type of a field
abbrev pub any_named : Pool → ℕ → List (Entry ℕ) → Bool
any_named p d es = list_any (λ e. names_family d e.ty) (telescope_map (tree p) es)

module _ (p : Pool) (d : ℕ) (es : List (Entry ℕ)) where
  -- t is an id of the pool, and the family stands in the type of a field where it stands in t
  abbrev pub IsReached : ℕ → Type 0
  IsReached t = (t < length p.trees) × (names_family d (tree p t) ≡ true → any_named p d es ≡ true)

  -- where the family stands in t it stands in a part of it among ts
  abbrev pub IsOpen : List ℕ → ℕ → Type 0
  IsOpen ts t = names_family d (tree p t) ≡ true → HasPart p d ts t

  -- the ids ts, of which the first n are looked at
  pub record Searched (ts : List ℕ) (n : ℕ) : Type 0 where
    pub reached : AllByRecursion IsReached ts
    pub types : AllByRecursion (Among ts) (types_of es)
    pub opens : AllByRecursion (IsOpen ts) (take n ts)

  -- ---- its start

  named-type : (fs : List (Entry ℕ)) (t : ℕ) → Among (types_of fs) t → names_family d (tree p t) ≡ true → any_named p d fs ≡ true
  named-type [] t a h = absurd a
  named-type (f ∷ fs) t (inl e) h = ap (λ (b : Bool). b || any_named p d fs) (ap (λ i. names_family d (tree p i)) e ∙ h)
  named-type (f ∷ fs) t (inr a) h = by (names_family d (tree p f.ty)) (named-type fs t a h)
    where
      by : (b : Bool) → any_named p d fs ≡ true → (b || any_named p d fs) ≡ true
      by true e = refl
      by false e = e

  type-below : (fs : List (Entry ℕ)) (t : ℕ) → AllEntries (λ t. t < length p.trees) fs → Among (types_of fs) t → t < length p.trees
  type-below [] t a m = absurd m
  type-below (f ∷ fs) t a (inl e) = subst (λ i. i < length p.trees) e a.0
  type-below (f ∷ fs) t a (inr m) = type-below fs t a.1 m

  pub begun : (ts : List ℕ) → AllEntries (λ t. t < length p.trees) es → AreTypes es ts → Searched ts 0
  begun ts a h = record {
    reached = all-weaker (Among (types_of es)) IsReached (λ t m. (type-below es t a m, λ e. named-type es t m e)) ts h.only;
    types = h.all;
    opens = tt;
  }

  -- ---- a step

  further : (ts more : List ℕ) (t : ℕ) → IsOpen ts t → IsOpen (ts ++ more) t
  further ts more t h e = let k = h e in record { part = k.part; among = among-left ts more k.part k.among; before = k.before; stands = k.stands }

  take-next : (n : ℕ) (ts more : List ℕ) (t : ℕ) → slice_get ts n ≡ Some t → take (suc n) (ts ++ more) ≡ take n ts ++ t ∷ []
  take-next n [] more t e = absurd cc
  take-next zero (u ∷ ts) more t e = ap (λ v. v ∷ []) (same_Some u t e)
  take-next (suc n) (u ∷ ts) more t e = ap (λ vs. u ∷ vs) (take-next n ts more t e)

  take-further : (n : ℕ) (ts more : List ℕ) (t : ℕ) → slice_get ts n ≡ Some t → take (n + 1) (ts ++ more) ≡ take n ts ++ t ∷ []
  take-further n ts more t e = let s : n + 1 ≡ suc n = omega arith in subst (λ k. take k (ts ++ more) ≡ take n ts ++ t ∷ []) (sym s) (take-next n ts more t e)

  pub opened : (ts us : List ℕ) (n t : ℕ) → Searched ts n → slice_get ts n ≡ Some t → Opens p d t ts us → Searched us (n + 1)
  opened ts us n t w e o = subst (λ vs. Searched vs (n + 1)) (sym o.is) (record {
    reached = all-append IsReached ts o.more w.reached (all-weaker (IsPart p d t) IsReached (λ u h. (h.0, λ k. (all-at IsReached ts n t w.reached e).1 (h.1 k))) o.more o.parts);
    types = all-weaker (Among ts) (Among (ts ++ o.more)) (λ u a. among-left ts o.more u a) (types_of es) w.types;
    opens =
        subst (AllByRecursion (IsOpen (ts ++ o.more))) (sym (take-further n ts o.more t e))
        (all-push (IsOpen (ts ++ o.more)) (take n ts) t (all-weaker (IsOpen ts) (IsOpen (ts ++ o.more)) (λ u h. further ts o.more u h) (take n ts) w.opens) (subst (λ vs. IsOpen vs t) o.is o.part));
  })

  pub is-below : (ts : List ℕ) (n t : ℕ) → Searched ts n → slice_get ts n ≡ Some t → t < length p.trees
  is-below ts n t w e = (all-at IsReached ts n t w.reached e).0

  -- ---- its end

  pub found : (ts : List ℕ) (n t : ℕ) → Searched ts n → slice_get ts n ≡ Some t → names_family d (tree p t) ≡ true → true ≡ any_named p d es
  found ts n t w e h = sym ((all-at IsReached ts n t w.reached e).1 h)

  take-all : (n : ℕ) (ts : List ℕ) → slice_get ts n ≡ None → take n ts ≡ ts
  take-all zero [] e = refl
  take-all (suc n) [] e = refl
  take-all zero (t ∷ ts) e = absurd cc
  take-all (suc n) (t ∷ ts) e = ap (λ us. t ∷ us) (take-all n ts e)

  -- where all are open the family stands in none, since there would be an earlier one each time
  never : (ts : List ℕ) → AllByRecursion (IsOpen ts) ts → (n t : ℕ) → t < n → Among ts t → names_family d (tree p t) ≡ true → ⊥
  never ts o zero t l a h = absurd (omega (arith, l))
  never ts o (suc n) t l a h = let k = all-among (IsOpen ts) ts t o a h in never ts o n k.part (omega (arith, l, k.before)) k.among k.stands

  no-type : (ts : List ℕ) → AllByRecursion (IsOpen ts) ts → (fs : List (Entry ℕ)) → AllByRecursion (Among ts) (types_of fs) → any_named p d fs ≡ false
  no-type ts o [] a = refl
  no-type ts o (f ∷ fs) a = by (names_family d (tree p f.ty)) refl (no-type ts o fs a.1)
    where
      by : (b : Bool) → names_family d (tree p f.ty) ≡ b → any_named p d fs ≡ false → any_named p d (f ∷ fs) ≡ false
      by true h r = absurd (never ts o (suc f.ty) f.ty (omega arith) a.0 h)
      by false h r = ap (λ (b : Bool). b || any_named p d fs) h ∙ r

  pub ended : (ts : List ℕ) (n : ℕ) → Searched ts n → slice_get ts n ≡ None → false ≡ any_named p d es
  ended ts n w e = sym (no-type ts (subst (AllByRecursion (IsOpen ts)) (take-all n ts e) w.opens) es w.types)
