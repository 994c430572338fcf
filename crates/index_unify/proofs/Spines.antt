-- Constructors with their arguments: what is seen along a spine, and the walk through arguments.
use Rattle.std.specs.Prelude.{◌≡◌, ◌≢◌, Bool, true, false, ℕ, ◌<◌, ◌++◌, List, [], ◌∷◌, map, reverse, length, get_or, take, drop, Option, Some, None, refl, zero, suc, ◌+◌}
use Rattle.std.specs.List.{AllByRecursion}
use Rattle.std.proofs.Common.{sym, ap, ◌∙◌, subst, inl, inr, arith}
use Rattle.std.proofs.lemmas.List.{append_assoc, reverse-append, map-append}
use Rattle.el_base.proofs.Lists.{reverse_push}
use Rattle.el_base.proofs.Throughout.{all-reverse, all-append, all-weaker}
use Rattle.core_rules.specs.Term.{Term, Var, App}
use Rattle.core_rules.specs.Elimination.{Elim, Arg, Field}
use Rattle.core_rules.specs.Unification.{con_spine, UnderCon, inside, InOne, it, deeper, later}
use Rattle.term_pool.specs.Pool.{Pool, tree}
use Rattle.index_unify.specs.declared.constructors.Argument.{Argument}
use Rattle.index_unify.specs.Queue.{Item, Among, Adds}
use Rattle.index_unify.specs.Walk.{Place, place_in, Reaches, here, on, IsNext, Visits}
use Rattle.index_unify.specs.Constructors.{argument_in, arguments_in, HasArg, ToArgument, to_argument, HasArgument, has_argument, Seen, Scans}
use Rattle.index_unify.proofs.Queues.{Further, added, added-has, further-more, further-among}

-- ---- along a spine

pub arguments_push : (f : ℕ → Term) (xs : List Argument) (a : Argument) → arguments_in f (xs ++ a ∷ []) ≡ argument_in f a ∷ arguments_in f xs
arguments_push f xs a = ap (map (argument_in f)) (reverse_push xs a)

pub spine_step : (f : ℕ → Term) (t u : Term) (xs : List Argument) (a : Argument) → t ≡ App a.flag u (f a.arg) → con_spine t (arguments_in f xs) ≡ con_spine u (arguments_in f (xs ++ a ∷ []))
spine_step f t u xs a e = ap (λ w. con_spine w (arguments_in f xs)) e ∙ ap (con_spine u) (sym (arguments_push f xs a))

-- ---- the walk

later-has : (e : Elim) (es : List Elim) (u : Term) → HasArg es u → HasArg (e ∷ es) u
later-has (Arg b t) es u h = inr h
later-has (Field k) es u h = h

module _ (x : ℕ) where
  abbrev R : Place → Type 0
  R = Reaches ToArgument (HasArgument x)

  mutual
    pub to_walk : {t : Term} → UnderCon x t → R (t, 0)
    to_walk (inside {t = t} {k = k} {es = es} e i) = in_one t k es es e (λ u h. h) i

    in_one : (t : Term) (k : ℕ) (es ds : List Elim) → con_spine t [] ≡ Some (k, es) → ((u : Term) → HasArg ds u → HasArg es u) → InOne x ds → R (t, 0)
    in_one t k es (Arg b (Var y) ∷ ds) e w it = here (has_argument k es e (w (Var x) (inl refl)))
    in_one t k es (Arg b u ∷ ds) e w (deeper i) = on (u, 0) (to_argument k es e (w u (inl refl))) (to_walk i)
    in_one t k es (d ∷ ds) e w (later i) = in_one t k es ds e (λ u h. w u (later-has d ds u h)) i

  in_it : (es : List Elim) → HasArg es (Var x) → InOne x es
  in_it [] h = absurd h
  in_it (Arg b t ∷ es) (inl e) = subst (λ w. InOne x (Arg b w ∷ es)) (sym e) it
  in_it (Arg b t ∷ es) (inr h) = later (in_it es h)
  in_it (Field k ∷ es) h = later (in_it es h)

  in_deep : (es : List Elim) (u : Term) → UnderCon x u → HasArg es u → InOne x es
  in_deep [] u c h = absurd h
  in_deep (Arg b t ∷ es) u c (inl e) = deeper (subst (UnderCon x) (sym e) c)
  in_deep (Arg b t ∷ es) u c (inr h) = later (in_deep es u c h)
  in_deep (Field k ∷ es) u c h = later (in_deep es u c h)

  finds : {z : Place} → R z → UnderCon x z.0
  finds (here (has_argument k es e h)) = inside e (in_it es h)
  finds (on y (to_argument {u = u} k es e h) r) = inside e (in_deep es u (finds r) h)

  pub from_walk : (t : Term) → R (t, 0) → UnderCon x t
  from_walk t r = finds r

-- ---- one visit

module _ (f : ℕ → Term) where
  has-append : (es ds : List Elim) (u : Term) → HasArg ds u → HasArg (es ++ ds) u
  has-append [] ds u h = h
  has-append (e ∷ es) ds u h = later-has e (es ++ ds) u (has-append es ds u h)

  -- an argument among others
  pub has-between : (xs : List Argument) (a : Argument) (ys : List Argument) → HasArg (arguments_in f (xs ++ a ∷ ys)) (f a.arg)
  has-between xs a ys =
      let e : arguments_in f (xs ++ a ∷ ys) ≡ map (argument_in f) (reverse ys) ++ arguments_in f (xs ++ a ∷ []) =
      ap (λ zs. map (argument_in f) (reverse zs)) (sym (append_assoc xs (a ∷ []) ys)) ∙ (ap (map (argument_in f)) (reverse-append (xs ++ a ∷ []) ys) ∙ map-append (argument_in f) (reverse ys) (reverse (xs ++ a ∷ []))) in
      subst (λ es. HasArg es (f a.arg)) (sym e)
      (has-append (map (argument_in f) (reverse ys)) (arguments_in f (xs ++ a ∷ [])) (f a.arg) (subst (λ es. HasArg es (f a.arg)) (sym (arguments_push f xs a)) (inl refl)))

  module _ (D : Argument → Type 0) where
    has-one : (xs : List Argument) (u : Term) → AllByRecursion D xs → HasArg (map (argument_in f) xs) u → (a : Argument) × D a × (f a.arg ≡ u)
    has-one [] u d h = absurd h
    has-one (a ∷ xs) u d (inl e) = (a, d.0, e)
    has-one (a ∷ xs) u d (inr h) = has-one xs u d.1 h

    pub has-all : (xs : List Argument) (u : Term) → AllByRecursion D xs → HasArg (arguments_in f xs) u → (a : Argument) × D a × (f a.arg ≡ u)
    has-all xs u d h = has-one (reverse xs) u (all-reverse D xs d) h

abbrev second_of : Option (ℕ × List Elim) → List Elim
second_of None = []
second_of (Some q) = q.1

second_same : (j k : ℕ) (es ds : List Elim) → ◌≡◌ {A = Option (ℕ × List Elim)} (Some (j, es)) (Some (k, ds)) → es ≡ ds
second_same j k es ds e = ap second_of e

nothing : {X : Type 0} (xs : List X) → xs ≡ xs ++ []
nothing [] = refl
nothing (x ∷ xs) = ap (λ r. x ∷ r) (nothing xs)

module _ (p : Pool) (x : ℕ) (args : List Argument) (xs : List Item) where
  abbrev Only : Item → Type 0
  Only y = (y.0 < length p.trees) × (y.1 ≡ 0) × HasArg (arguments_in (tree p) args) (tree p y.0)

  pub seen-none : Seen p x args [] xs xs
  seen-none = record { more = []; is = nothing xs; only = tt; done = tt }

  pub seen-more : (ds rest : List Argument) (a : Argument) (ys zs : List Item) → args ≡ ds ++ a ∷ rest → a.arg < length p.trees → tree p a.arg ≢ Var x → Seen p x args ds xs ys → Adds ys (a.arg, 0) zs → Seen p x args (ds ++ a ∷ []) xs zs
  seen-more ds rest a ys zs e l n s d = record {
    more = f.more;
    is = f.is;
    only = f.have;
    done = all-append Done ds (a ∷ []) (all-weaker Old Done (λ b h. (further-among Only ys zs (b.arg, 0) next h.0, h.1)) ds s.done) ((added-has ys zs (a.arg, 0) d, n), tt);
  }
    where
      Old : Argument → Type 0
      Old b = Among ys (b.arg, 0) × (tree p b.arg ≢ Var x)

      Done : Argument → Type 0
      Done b = Among zs (b.arg, 0) × (tree p b.arg ≢ Var x)

      next : Further Only ys zs
      next = added Only ys zs (a.arg, 0) (l, refl, subst (λ bs. HasArg (arguments_in (tree p) bs) (tree p a.arg)) (sym e) (has-between (tree p) ds a rest)) d

      f : Further Only xs zs
      f = further-more Only xs ys zs (record { more = s.more; is = s.is; have = s.only }) next

module _ (p : Pool) (t d k x : ℕ) (args : List Argument) (is : con_spine (tree p t) [] ≡ Some (k, arguments_in (tree p) args)) where
  same-args : (j : ℕ) (es : List Elim) → con_spine (tree p t) [] ≡ Some (j, es) → es ≡ arguments_in (tree p) args
  same-args j es e = second_same j k es (arguments_in (tree p) args) (sym e ∙ is)

  abbrev Done : List Item → Argument → Type 0
  Done ys a = Among ys (a.arg, 0) × (tree p a.arg ≢ Var x)

  no-goal : (ys : List Item) → AllByRecursion (Done ys) args → {z : Place} → z ≡ place_in p (t, d) → HasArgument x z → ⊥
  no-goal ys h e (has_argument j es g m) =
      let w = subst (λ es. HasArg es (Var x)) (same-args j es (subst (λ u. con_spine u [] ≡ Some (j, es)) (ap (λ z. z.0) e) g)) m in
      let a = has-all (tree p) (Done ys) args (Var x) h w in
      a.1.1 a.2

  leads : (ys : List Item) → AllByRecursion (Done ys) args → {z w : Place} → z ≡ place_in p (t, d) → ToArgument z w → (y : Item) × Among ys y × (place_in p y ≡ w)
  leads ys h e (to_argument {u = u} j es g m) =
      let v = subst (λ es. HasArg es u) (same-args j es (subst (λ u. con_spine u [] ≡ Some (j, es)) (ap (λ z. z.0) e) g)) m in
      let a = has-all (tree p) (Done ys) args u h v in
      ((a.0.arg, 0), a.1.0, ap (λ u. (u, 0)) a.2)

  pub scanned : (xs ys : List Item) (b : Bool) → Scans p x args xs b ys → Visits ToArgument (HasArgument x) p (t, d) xs b ys
  scanned xs ys true s = has_argument k (arguments_in (tree p) args) is s
  scanned xs ys false s = (
    no-goal ys s.done refl,
    record {
      more = s.more;
      is = s.is;
      leads = λ z e. leads ys s.done refl e;
      only = all-weaker (λ y. (y.0 < length p.trees) × (y.1 ≡ 0) × HasArg (arguments_in (tree p) args) (tree p y.0)) (IsNext ToArgument p (t, d))
          (λ y h. (h.0, subst (λ j. ToArgument (tree p t, d) (tree p y.0, j)) (sym h.1) (to_argument k (arguments_in (tree p) args) is h.2))) s.more s.only;
    },
  )

module _ (p : Pool) (t d x : ℕ) (none : con_spine (tree p t) [] ≡ None) where
  nowhere : {z : Place} → z ≡ place_in p (t, d) → (k : ℕ) (es : List Elim) → con_spine z.0 [] ≡ Some (k, es) → ⊥
  nowhere e k es g = let h : None ≡ Some (k, es) = sym none ∙ subst (λ u. con_spine u [] ≡ Some (k, es)) (ap (λ z. z.0) e) g in cc h

  none-goal : {z : Place} → z ≡ place_in p (t, d) → HasArgument x z → ⊥
  none-goal e (has_argument k es g m) = nowhere e k es g

  none-edge : {z w : Place} → z ≡ place_in p (t, d) → ToArgument z w → ⊥
  none-edge e (to_argument k es g m) = nowhere e k es g

  pub no-constructor : (xs : List Item) → Visits ToArgument (HasArgument x) p (t, d) xs false xs
  no-constructor xs = (none-goal refl, record { more = []; is = nothing xs; leads = λ z e. absurd (none-edge refl e); only = tt })

-- item n of a list, with those before it and after it
pub split_at : (xs : List Argument) (n : ℕ) (o : Argument) → n < length xs → xs ≡ take n xs ++ get_or xs n o ∷ drop (suc n) xs
split_at [] n o l = absurd (omega arith)
split_at (x ∷ xs) zero o l = refl
split_at (x ∷ xs) (suc n) o l = ap (λ r. x ∷ r) (split_at xs n o (omega arith))

take_suc : (xs : List Argument) (n : ℕ) (o : Argument) → n < length xs → take (suc n) xs ≡ take n xs ++ get_or xs n o ∷ []
take_suc [] n o l = absurd (omega arith)
take_suc (x ∷ xs) zero o l = refl
take_suc (x ∷ xs) (suc n) o l = ap (λ r. x ∷ r) (take_suc xs n o (omega arith))

pub take_one : (xs : List Argument) (n : ℕ) (o : Argument) → n < length xs → take (n + 1) xs ≡ take n xs ++ get_or xs n o ∷ []
take_one xs n o l = let e : n + 1 ≡ suc n = omega arith in subst (λ k. take k xs ≡ take n xs ++ get_or xs n o ∷ []) (sym e) (take_suc xs n o l)

pub has-at : (f : ℕ → Term) (xs : List Argument) (n : ℕ) (o : Argument) → n < length xs → HasArg (arguments_in f xs) (f (get_or xs n o).arg)
has-at f xs n o l = subst (λ ys. HasArg (arguments_in f ys) (f (get_or xs n o).arg)) (sym (split_at xs n o l)) (has-between f (take n xs) (get_or xs n o) (drop (suc n) xs))

pub all_get : (P : Argument → Type 0) (xs : List Argument) (n : ℕ) (o : Argument) → n < length xs → AllByRecursion P xs → P (get_or xs n o)
all_get P [] n o l a = absurd (omega arith)
all_get P (x ∷ xs) zero o l a = a.0
all_get P (x ∷ xs) (suc n) o l a = all_get P xs n o (omega arith) a.1
