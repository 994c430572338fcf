-- What a plan is made for.
use Rattle.std.specs.Prelude.{◌≡◌, ℕ, ◌+◌, ◌<◌, ◌≤◌, ◌⊎◌, Bool, true, false, cond, List, [], ◌∷◌, ◌++◌, length, map, sum, get_or, slice_get, take, drop, Option, Some, None, option_map, option_and_then, refl, zero, suc}
use Rattle.std.proofs.Common.{ap, ◌∙◌, subst as transport, arith, zero-add}
use Rattle.std.proofs.lemmas.List.{get_or_past, length-map}
use mathlib.Core.Logic.{inl, inr}
use Rattle.core_rules.specs.Term.{Term, Var, Sort, Pi, Lam, App, Def, Fam, Con, Proj, Meta}
use Rattle.core_rules.specs.Substitution.{under}
use Rattle.core_rules.specs.Signature.{Signature, FamDecl, con_counts, con_place, fam_decl, cons_of}
use Rattle.core_rules.specs.Elimination.{Elim}
use Rattle.core_rules.specs.Heads.{Solutions, Form, Blocked, Bounded, Within, Out, Heads, HeadOf}
use Rattle.match_rules.specs.Matching.{Clause, Bound, values_from}
use Rattle.core_rules.proofs.Signature.Places.{numbers_at, places_at}
use Rattle.cover_rules.specs.Flagged.{flagged}
use Rattle.cover_rules.specs.LeftSide.{Node, left_of}
use Rattle.core_rules.specs.UnifierAnswers.{Unifier}
use Rattle.cover_rules.specs.CoverOf as V
use Rattle.cover_rules.specs.CoverOf.{Asked, ARight, AnArgument, AProjection, ASplit, ARecordSplit, AnAbsurd, NoClause, Plan, Fails, Takes, Shows, Splits, Opens, Rejects, Ends, FamHead, OnlyFuel, IsFam, NoFam, fam_head, fam_with, argument_plan, projection_plan, split_plan, record_plan, plan_or, entry_type, Planned}

-- the right side of a clause under what it binds
pub record RightOf (a : Asked) (i : ℕ) (t : Term) : Type 0 where
  pub clause : Clause
  pub bound : Bound
  pub right : Term
  pub asked : a ≡ ARight i clause bound
  pub is_right : clause.right ≡ Some right
  pub is : t ≡ under (values_from 0 clause.size bound) right

-- the record that is opened, and its constructor
pub record IsOpened (g : Signature Term) (n : Node) (k d c : ℕ) (decl : FamDecl Term) : Type 0 where
  pub is_decl : fam_decl g d ≡ Some decl
  pub eta : decl.eta ≡ true
  pub place : con_place g c ≡ Some (d, 0)
  pub first : slice_get (cons_of g d) 0 ≡ Some c
  pub inside : k < length n.context

con-place : (g : Signature Term) (d k : ℕ) → slice_get (cons_of g d) 0 ≡ Some k → con_place g k ≡ Some (d, 0)
con-place g d k e = by (get_or (con_counts g) d 0) refl
  where
    by : (m : ℕ) → get_or (con_counts g) d 0 ≡ m → con_place g k ≡ Some (d, 0)
    by zero q = let x : slice_get (cons_of g d) 0 ≡ None = rw q refl in absurd cc
    by (suc m) q =
        let b : 0 < get_or (con_counts g) d 0 = omega (arith, q) in
        let p : k ≡ sum (take d (con_counts g)) + 0 = cc (e, numbers_at (sum (take d (con_counts g))) (get_or (con_counts g) d 0) 0 b) in
        rw p (places_at 0 (con_counts g) d 0 b ∙ ap (λ m. Some (m, 0)) (zero-add d))

module _ (g : Signature Term) where
  abbrev pub For : Node → Asked → Plan → Type 0
  For n a (Fails (V.Missing l)) = (a ≡ NoClause) × (l ≡ left_of n)
  For n a (Fails V.Mixed) = Unit {0}
  For n a (Fails V.CannotSplit) = Unit {0}
  For n a (Fails (V.UnifyStuck t u)) = Unit {0}
  For n a (Fails V.OutOfFuel) = Unit {0}
  For n a (Fails V.OutOfDepth) = Unit {0}
  For n a (Ends i t) = RightOf a i t
  For n a (Takes b x s t) = a ≡ AnArgument
  For n a (Shows d decl us) = (a ≡ AProjection) × (fam_decl g d ≡ Some decl)
  For n a (Splits k d ps is) = a ≡ ASplit k
  For n a (Opens k d c decl ps) = (a ≡ ARecordSplit k) × IsOpened g n k d c decl
  For n a (Rejects k d ps is) = Unit {0}

  for_argument : (x : Node) (b : Bounded) → For x AnArgument (argument_plan b)
  for_argument x Out = tt
  for_argument x (Within (Blocked m h es) n) = tt
  for_argument x (Within (Form (Pi b y a t) []) n) = refl
  for_argument x (Within (Form (Pi b y a t) (e ∷ es)) n) = tt
  for_argument x (Within (Form (Var i) es) n) = tt
  for_argument x (Within (Form (Sort i) es) n) = tt
  for_argument x (Within (Form (Lam b y a t) es) n) = tt
  for_argument x (Within (Form (App b t u) es) n) = tt
  for_argument x (Within (Form (Def i) es) n) = tt
  for_argument x (Within (Form (Fam i) es) n) = tt
  for_argument x (Within (Form (Con i ps) es) n) = tt
  for_argument x (Within (Form (Proj i t) es) n) = tt
  for_argument x (Within (Form (Meta i ts) es) n) = tt

  abbrev Declared : FamHead → Type 0
  Declared OnlyFuel = Unit {0}
  Declared NoFam = Unit {0}
  Declared (IsFam d decl es) = fam_decl g d ≡ Some decl

  declared : (b : Bounded) → Declared (fam_head g b)
  declared Out = tt
  declared (Within (Blocked m a es) n) = tt
  declared (Within (Form (Pi b y a t) es) n) = tt
  declared (Within (Form (Var i) es) n) = tt
  declared (Within (Form (Sort i) es) n) = tt
  declared (Within (Form (Lam b y a t) es) n) = tt
  declared (Within (Form (App b t u) es) n) = tt
  declared (Within (Form (Def i) es) n) = tt
  declared (Within (Form (Con i ps) es) n) = tt
  declared (Within (Form (Proj i t) es) n) = tt
  declared (Within (Form (Meta i ts) es) n) = tt
  declared (Within (Form (Fam d) es) n) = by (fam_decl g d) refl
    where
      by : (o : Option (FamDecl Term)) → fam_decl g d ≡ o → Declared (fam_with d es o)
      by None e = tt
      by (Some decl) e = e

  for_projection : (x : Node) (h : FamHead) → Declared h → For x AProjection (projection_plan h)
  for_projection x OnlyFuel e = tt
  for_projection x NoFam e = tt
  for_projection x (IsFam d decl es) e = by decl.is_record (flagged decl.params es)
    where
      by : (b : Bool) (o : Option (List Term)) → For x AProjection (cond b (plan_or (option_map (λ us. Shows d decl us) o)) (Fails V.CannotSplit))
      by true None = tt
      by true (Some us) = (refl, e)
      by false o = tt

  for_split : (x : Node) (a : Asked) (p : ℕ → List Term → List Term → Plan) → ((d : ℕ) (ps is : List Term) → For x a (p d ps is)) → (h : FamHead) → For x a (split_plan p h)
  for_split x a p q OnlyFuel = tt
  for_split x a p q NoFam = tt
  for_split x a p q (IsFam d decl es) = by decl.eta decl.coinductive (flagged (decl.params ++ decl.indices) es)
    where
      by : (b c : Bool) (o : Option (List Term)) → For x a (cond b (Fails V.CannotSplit) (cond c (Fails V.CannotSplit) (plan_or (option_map (λ us. p d (take (length decl.params) us) (drop (length decl.params) us)) o))))
      by true c o = tt
      by false true o = tt
      by false false None = tt
      by false false (Some us) = q d (take (length decl.params) us) (drop (length decl.params) us)

  -- a type that is a family is that of a variable of the context
  abbrev Known : Node → ℕ → FamHead → Type 0
  Known x k OnlyFuel = Unit {0}
  Known x k NoFam = Unit {0}
  Known x k (IsFam d decl es) = (fam_decl g d ≡ Some decl) × (k < length x.context)

  for_record : (x : Node) (k : ℕ) (h : FamHead) → Known x k h → For x (ARecordSplit k) (record_plan g k h)
  for_record x k OnlyFuel q = tt
  for_record x k NoFam q = tt
  for_record x k (IsFam d decl es) q = by decl.eta refl (flagged decl.params es) (slice_get (cons_of g d) 0) refl
    where
      by : (b : Bool) → decl.eta ≡ b → (o : Option (List Term)) (c : Option ℕ) → slice_get (cons_of g d) 0 ≡ c → For x (ARecordSplit k) (cond b (plan_or (option_and_then (λ us. option_map (λ c. Opens k d c decl us) c) o)) (Fails V.CannotSplit))
      by true e None c i = tt
      by true e (Some us) None i = tt
      by true e (Some us) (Some c) i = (refl, record { is_decl = q.0; eta = e; place = con-place g d c i; first = i; inside = q.1 })
      by false e o c i = tt

  no_sort : {s : Solutions} {n i d : ℕ} {es : List Elim} → Heads g s (Sort i) [] (Form (Fam d) es) n → ⊥
  no_sort h = elim h [ ]

  known : (s : Solutions) (fuel : ℕ) (x : Node) (k : ℕ) (b : Bounded) → HeadOf g s (entry_type x.context k) fuel b → Known x k (fam_head g b)
  known s fuel x k Out h = tt
  known s fuel x k (Within (Blocked m a es) n) h = tt
  known s fuel x k (Within (Form (Pi b y a t) es) n) h = tt
  known s fuel x k (Within (Form (Var i) es) n) h = tt
  known s fuel x k (Within (Form (Sort i) es) n) h = tt
  known s fuel x k (Within (Form (Lam b y a t) es) n) h = tt
  known s fuel x k (Within (Form (App b t u) es) n) h = tt
  known s fuel x k (Within (Form (Def i) es) n) h = tt
  known s fuel x k (Within (Form (Con i ps) es) n) h = tt
  known s fuel x k (Within (Form (Proj i t) es) n) h = tt
  known s fuel x k (Within (Form (Meta i ts) es) n) h = tt
  known s fuel x k (Within (Form (Fam d) es) n) h = by (fam_decl g d) refl
    where
      inside : (k < length x.context) ⊎ (length x.context ≤ k) → k < length x.context
      inside (inl l) = l
      inside (inr l) =
          let e : entry_type x.context k ≡ Sort 0 = let m = length-map x.context (λ e. e.ty) in get_or_past (map (λ e. e.ty) x.context) k (Sort 0) (omega (arith, l, m)) in
          absurd (no_sort (transport (λ t. Heads g s t [] (Form (Fam d) es) n) e h.0))

      below : (i k : ℕ) → (i < k) ⊎ (k ≤ i)
      below i k = grind arith

      by : (o : Option (FamDecl Term)) → fam_decl g d ≡ o → Known x k (fam_with d es o)
      by None e = tt
      by (Some decl) e = (e, inside (below k (length x.context)))

  module _ (s : Solutions) (fuel : ℕ) (U : Unifier) (f : ℕ) (qs : List Clause) where
    pub plan_for : {n : Node} {a : Asked} {p : Plan} → Planned g s fuel U f qs n a p → For n a p
    plan_for V.no_fuel = tt
    plan_for V.no_clause = (refl, refl)
    plan_for V.not_one_kind = tt
    plan_for V.no_variable = tt
    plan_for (V.right {q = q} {σ = σ} {t = t} e) = record { clause = q; bound = σ; right = t; asked = refl; is_right = e; is = refl }
    plan_for {n} (V.argument b h) = for_argument n b
    plan_for {n} (V.projection b h) = for_projection n (fam_head g b) (declared b)
    plan_for {n} (V.split {k = k} b h) = for_split n (ASplit k) (Splits k) (λ d ps is. refl) (fam_head g b)
    plan_for {n} (V.record_split {k = k} b h) = for_record n k (fam_head g b) (known s fuel n k b h)
    plan_for {n} (V.absurd_split {k = k} b h) = for_split n (AnAbsurd k) (Rejects k) (λ d ps is. tt) (fam_head g b)
