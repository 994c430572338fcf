-- Texts that are on their way.
use Rattle.std.proofs.Common.{◌≡◌, ℕ, ◌<◌, Bool, true, List, [], ◌∷◌, ◌++◌, length, map, reverse, refl, sym, ap, ap₂, ◌∙◌, subst, append_assoc}
use Rattle.std.specs.Prelude.{string_bytes, codes, Option}
use Rattle.std.specs.List.{AllByRecursion}
use Rattle.el_base.proofs.Lists.{reverse_push}
use Rattle.el_base.proofs.Throughout.{all-append}
use Rattle.core_rules.specs.declared.Flag.{Flag}
use Rattle.core_rules.specs.declared.Flag.TheVariants.{Explicit, Implicit}
use Rattle.core_rules.specs.Term.{Term, Var, Sort, Pi, Lam, App, Def, Fam, Con, Proj, Meta, occurs}
use Rattle.term_pool.specs.Pool.{Pool, tree, node_tree}
use Rattle.term_pool.specs.declared.node.Node.{Node}
use Rattle.term_pool.specs.declared.node.Node.TheVariants as N
use Rattle.core_print.specs.Apart.{Text, different}
use Rattle.core_print.specs.Labels.{label_text, base_text}
use Rattle.core_print.specs.Names.{World, binder_name, called, globals, name_text}
use Rattle.core_print.specs.Printed.{shown, kind, in_front, parens_if, domain_text, lambda_text}
use Rattle.core_print.specs.declared.label.Label.{Label}
use Rattle.core_print.specs.declared.page.Place.{Place}
use Rattle.core_print.specs.declared.page.Place.TheVariants as P
use Rattle.core_print.specs.declared.page.Work.{Work}
use Rattle.core_print.specs.declared.page.Work.TheVariants as W
use Rattle.core_print.specs.declared.page.Page.{Page}
use Rattle.core_print.specs.Pages.{placed, rest, names_in, WorkIn, Comes, Adds, visible, node_kind, encloses}

module _ (w : World) (p : Pool) where
  -- one work more
  pub adds_one : (xs ys : List Work) (x : Work) (text : List Text → Text) → ys ≡ xs ++ x ∷ [] → WorkIn p x
      → ((ns : List Text) → rest w p ns (x ∷ reverse xs) ≡ text ns ++ rest w p ns (reverse xs)) → Adds w p xs ys text
  adds_one xs ys x text e l h = record {
    is = λ ns. ap (λ (zs : List Work). rest w p ns (reverse zs)) e ∙ (ap (rest w p ns) (reverse_push xs x) ∙ h ns);
    works = λ k. subst (AllByRecursion (WorkIn p)) (sym e) (all-append (WorkIn p) xs (x ∷ []) k (l, tt));
  }

  pub adds_two : {xs ys zs : List Work} {f g : List Text → Text} → Adds w p xs ys f → Adds w p ys zs g → Adds w p xs zs (λ ns. g ns ++ f ns)
  adds_two {xs} {ys} {zs} {f} {g} h k = record {
    is = λ ns. k.is ns ∙ (ap (λ (t : Text). g ns ++ t) (h.is ns) ∙ sym (append_assoc (g ns) (f ns) (rest w p ns (reverse xs))));
    works = λ l. k.works (h.works l);
  }

  pub adds_as : {xs ys : List Work} {f g : List Text → Text} → ((ns : List Text) → f ns ≡ g ns) → Adds w p xs ys f → Adds w p xs ys g
  adds_as {xs} {ys} {f} {g} e h = record {
    is = λ ns. h.is ns ∙ ap (λ (t : Text). t ++ rest w p ns (reverse xs)) (e ns);
    works = h.works;
  }

  pub adds_under : (xs xs1 xs2 ys : List Work) (x : Work) (l : Label) (t : ℕ) → xs1 ≡ xs ++ W.Leave ∷ [] → xs2 ≡ xs1 ++ W.Show P.Alone t ∷ [] → ys ≡ xs2 ++ x ∷ []
      → ((ns : List Text) (ws : List Work) → rest w p ns (x ∷ ws) ≡ rest w p (label_text w.names l ∷ ns) ws) → WorkIn p x → t < length p.trees
      → Adds w p xs ys (λ ns. shown w (label_text w.names l ∷ ns) (tree p t))
  adds_under xs xs1 xs2 ys x l t e1 e2 e3 f k h = record {
    is = λ ns.
        let r1 : reverse xs1 ≡ W.Leave ∷ reverse xs = ap reverse e1 ∙ reverse_push xs W.Leave in
        let r2 : reverse xs2 ≡ W.Show P.Alone t ∷ reverse xs1 = ap reverse e2 ∙ reverse_push xs1 (W.Show P.Alone t) in
        let r3 : reverse ys ≡ x ∷ reverse xs2 = ap reverse e3 ∙ reverse_push xs2 x in
        ap (rest w p ns) r3 ∙ (f ns (reverse xs2) ∙ ap (rest w p (label_text w.names l ∷ ns)) (r2 ∙ ap (λ (zs : List Work). W.Show P.Alone t ∷ zs) r1));
    works = λ z.
        let k1 = all-append (WorkIn p) xs (W.Leave ∷ []) z (tt, tt) in
        let k2 = all-append (WorkIn p) xs1 (W.Show P.Alone t ∷ []) (subst (AllByRecursion (WorkIn p)) (sym e1) k1) (h, tt) in
        let k3 = all-append (WorkIn p) xs2 (x ∷ []) (subst (AllByRecursion (WorkIn p)) (sym e2) k2) (k, tt) in
        subst (AllByRecursion (WorkIn p)) (sym e3) k3;
  }

  pub adds_none : (xs : List Work) → Adds w p xs xs (λ ns. [])
  adds_none xs = record { is = λ ns. refl; works = λ l. l }

  -- a text is written, and works come to another
  pub comes : (x y : Page) (a : Text) (f : List Text → Text) (text : Text) → string_bytes y.out ≡ string_bytes x.out ++ a → y.inside.items ≡ x.inside.items
      → Adds w p x.left.items y.left.items f → a ++ f (names_in w.names x.inside.items) ≡ text → Comes w p x y text
  comes x y a f text e i h t = record {
    is =
        ap₂ (λ (o : Text) (ns : List Text). o ++ rest w p ns (reverse y.left.items)) e (ap (names_in w.names) i)
        ∙ (ap (λ (r : Text). (string_bytes x.out ++ a) ++ r) (h.is (names_in w.names x.inside.items))
        ∙ (append_assoc (string_bytes x.out) a (f (names_in w.names x.inside.items) ++ rest w p (names_in w.names x.inside.items) (reverse x.left.items))
        ∙ ap (λ (r : Text). string_bytes x.out ++ r)
        (sym (append_assoc a (f (names_in w.names x.inside.items)) (rest w p (names_in w.names x.inside.items) (reverse x.left.items)))
        ∙ ap (λ (r : Text). r ++ rest w p (names_in w.names x.inside.items) (reverse x.left.items)) t)));
    works = h.works;
  }

-- what is printed for a term
module _ (w : World) where
  pub shown-visible : (ns : List Text) (t : Term) → shown w ns (visible t) ≡ shown w ns t
  shown-visible ns (App Implicit t u) = shown-visible ns t
  shown-visible ns (App Explicit t u) = refl
  shown-visible ns (Var i) = refl
  shown-visible ns (Sort n) = refl
  shown-visible ns (Pi b x a t) = refl
  shown-visible ns (Lam b x a t) = refl
  shown-visible ns (Def f) = refl
  shown-visible ns (Fam d) = refl
  shown-visible ns (Con k ts) = refl
  shown-visible ns (Proj f t) = refl
  shown-visible ns (Meta m ts) = refl

pub kind-visible : (t : Term) → kind (visible t) ≡ kind t
kind-visible (App Implicit t u) = kind-visible t
kind-visible (App Explicit t u) = refl
kind-visible (Var i) = refl
kind-visible (Sort n) = refl
kind-visible (Pi b x a t) = refl
kind-visible (Lam b x a t) = refl
kind-visible (Def f) = refl
kind-visible (Fam d) = refl
kind-visible (Con k ts) = refl
kind-visible (Proj f t) = refl
kind-visible (Meta m ts) = refl

-- the name that is chosen for a binder
pub binder : (w : World) (ls ks gs : List Label) (l : Label) (b : Option (Option ℕ)) (x : ℕ)
    → label_text w.names l ≡ different (map (label_text w.names) (reverse ks) ++ map (label_text w.names) gs) (base_text w.names b) → ks ≡ ls
    → map (label_text w.names) gs ≡ globals w → base_text w.names b ≡ called (name_text w.names x) → label_text w.names l ≡ binder_name w (names_in w.names ls) x
binder w ls ks gs l b x e k g f =
    e ∙ (ap (λ (ks : List Label). different (map (label_text w.names) (reverse ks) ++ map (label_text w.names) gs) (base_text w.names b)) k
    ∙ ap₂ (λ (gs : List Text) (t : Text). different (names_in w.names ls ++ gs) t) g f)

-- a bracket, a name and what stands between, a domain, its closing and what follows
pub braced : (o y s a c d : Text) → (o ++ (y ++ s)) ++ (a ++ (c ++ d)) ≡ (o ++ (y ++ (s ++ (a ++ c)))) ++ d
braced o y s a c d =
    let left : (o ++ (y ++ s)) ++ (a ++ (c ++ d)) ≡ o ++ (y ++ (s ++ (a ++ (c ++ d)))) =
    append_assoc o (y ++ s) (a ++ (c ++ d)) ∙ ap (λ (r : Text). o ++ r) (append_assoc y s (a ++ (c ++ d))) in
    let right : (o ++ (y ++ (s ++ (a ++ c)))) ++ d ≡ o ++ (y ++ (s ++ (a ++ (c ++ d)))) =
    append_assoc o (y ++ (s ++ (a ++ c))) d ∙ ap (λ (r : Text). o ++ r) (append_assoc y (s ++ (a ++ c)) d ∙ ap (λ (r : Text). y ++ r) (append_assoc s (a ++ c) d ∙ ap (λ (r : Text). s ++ r) (append_assoc a c d))) in
    left ∙ sym right

module _ (w : World) (p : Pool) where
  pub comes_lam : (x y : Page) (b : Flag) (n : ℕ) (l : Label) (a : Term) (t : ℕ) → label_text w.names l ≡ binder_name w (names_in w.names x.inside.items) n
      → string_bytes y.out ≡ string_bytes x.out ++ lambda_text b (label_text w.names l) → y.inside.items ≡ x.inside.items
      → Adds w p x.left.items y.left.items (λ ns. shown w (label_text w.names l ∷ ns) (tree p t))
      → Comes w p x y (shown w (names_in w.names x.inside.items) (Lam b n a (tree p t)))
  comes_lam x y b n l a t q e i h =
      comes w p x y (lambda_text b (label_text w.names l)) (λ ns. shown w (label_text w.names l ∷ ns) (tree p t)) (shown w (names_in w.names x.inside.items) (Lam b n a (tree p t))) e i h
      (ap (λ (z : Text). lambda_text b z ++ shown w (z ∷ names_in w.names x.inside.items) (tree p t)) q)

  pub comes_pi : (x y : Page) (b : Flag) (n : ℕ) (l : Label) (d t : ℕ) (o : Bool) (a : Text) (f : List Text → Text)
      → label_text w.names l ≡ binder_name w (names_in w.names x.inside.items) n → occurs 0 (tree p t) ≡ o
      → string_bytes y.out ≡ string_bytes x.out ++ a → y.inside.items ≡ x.inside.items → Adds w p x.left.items y.left.items f
      → ((ns : List Text) → a ++ f ns ≡ domain_text b o (label_text w.names l) (parens_if (in_front (kind (tree p d))) (shown w ns (tree p d))) (shown w ns (tree p d)) ++ shown w (label_text w.names l ∷ ns) (tree p t))
      → Comes w p x y (shown w (names_in w.names x.inside.items) (Pi b n (tree p d) (tree p t)))
  comes_pi x y b n l d t o a f q c e i h s =
      comes w p x y a f (shown w (names_in w.names x.inside.items) (Pi b n (tree p d) (tree p t))) e i h
      (s (names_in w.names x.inside.items)
      ∙ ap₂ (λ (o : Bool) (z : Text). domain_text b o z (parens_if (in_front (kind (tree p d))) (shown w (names_in w.names x.inside.items) (tree p d))) (shown w (names_in w.names x.inside.items) (tree p d)) ++ shown w (z ∷ names_in w.names x.inside.items) (tree p t)) (sym c) q)

  -- a parenthesis is written and another is left
  pub comes_enclosed : (x y z : Page) (u : Text) → string_bytes y.out ≡ string_bytes x.out ++ codes "(" → y.inside.items ≡ x.inside.items
      → Adds w p x.left.items y.left.items (λ ns. codes ")") → Comes w p y z u → Comes w p x z (parens_if true u)
  comes_enclosed x y z u e i h k = record {
    is =
        let ns = names_in w.names x.inside.items in
        k.is ∙ (ap₂ (λ (o : Text) (ns : List Text). o ++ (u ++ rest w p ns (reverse y.left.items))) e (ap (names_in w.names) i)
        ∙ (ap (λ (r : Text). (string_bytes x.out ++ codes "(") ++ (u ++ r)) (h.is ns)
        ∙ (append_assoc (string_bytes x.out) (codes "(") (u ++ (codes ")" ++ rest w p ns (reverse x.left.items)))
        ∙ ap (λ (r : Text). string_bytes x.out ++ (codes "(" ++ r)) (sym (append_assoc u (codes ")") (rest w p ns (reverse x.left.items)))))));
    works = λ l. k.works (h.works l);
  }

pub placed-is : (q : Place) (w : World) (ns : List Text) (t : Term) → placed q w ns t ≡ parens_if (encloses q (kind t)) (shown w ns t)
placed-is P.Alone w ns t = refl
placed-is P.InFront w ns t = refl
placed-is P.Argument w ns t = refl

-- what is printed for a term is no application to an implicit argument
not_implicit : (t a b : Term) → visible t ≡ App Implicit a b → ⊥
not_implicit (App Implicit t u) a b e = not_implicit t a b e
not_implicit (App Explicit t u) a b e = absurd cc
not_implicit (Var i) a b e = absurd cc
not_implicit (Sort n) a b e = absurd cc
not_implicit (Pi f x s t) a b e = absurd cc
not_implicit (Lam f x s t) a b e = absurd cc
not_implicit (Def f) a b e = absurd cc
not_implicit (Fam d) a b e = absurd cc
not_implicit (Con k ts) a b e = absurd cc
not_implicit (Proj f t) a b e = absurd cc
not_implicit (Meta m ts) a b e = absurd cc

pub node_kind-visible : (f : ℕ → Term) (n : Node) (t : Term) → node_tree f n ≡ visible t → node_kind n ≡ kind (node_tree f n)
node_kind-visible f (N.App Implicit s u) t e = absurd (not_implicit t (f s) (f u) (sym e))
node_kind-visible f (N.App Explicit s u) t e = refl
node_kind-visible f (N.Var i) t e = refl
node_kind-visible f (N.Sort n) t e = refl
node_kind-visible f (N.Pi b x s u) t e = refl
node_kind-visible f (N.Lam b x s u) t e = refl
node_kind-visible f (N.Def k) t e = refl
node_kind-visible f (N.Fam k) t e = refl
node_kind-visible f (N.Con k a) t e = refl
node_kind-visible f (N.Proj k u) t e = refl
node_kind-visible f (N.Meta m a) t e = refl

-- a term in its place is what is printed for its node in parentheses or not
pub placed_node : (q : Place) (w : World) (ns : List Text) (f : ℕ → Term) (n : Node) (t : Term) (b : Bool) → node_tree f n ≡ visible t → encloses q (node_kind n) ≡ b
    → parens_if b (shown w ns (node_tree f n)) ≡ placed q w ns t
placed_node q w ns f n t b e h =
    let k : node_kind n ≡ kind t = node_kind-visible f n t e ∙ (ap kind e ∙ kind-visible t) in
    let s : shown w ns (node_tree f n) ≡ shown w ns t = ap (shown w ns) e ∙ shown-visible w ns t in
    ap₂ (λ (b : Bool) (x : Text). parens_if b x) (sym h ∙ ap (encloses q) k) s ∙ sym (placed-is q w ns t)

-- the work that is taken from the end, and those before it
pub works_last : (p : Pool) (xs ys : List Work) (x : Work) → xs ≡ ys ++ x ∷ [] → AllByRecursion (WorkIn p) xs → AllByRecursion (WorkIn p) ys × WorkIn p x
works_last p xs [] x e h = let k = subst (AllByRecursion (WorkIn p)) e h in (tt, k.0)
works_last p xs (y ∷ ys) x e h =
    let k = subst (AllByRecursion (WorkIn p)) e h in
    let r = works_last p (ys ++ x ∷ []) ys x refl k.1 in
    ((k.0, r.0), r.1)
