-- A constructor that is put for a variable keeps the left side so far in scope, where the branch is in scope.
use Rattle.std.proofs.Common.{◌≡◌, ◌+◌, ◌-◌, ◌<◌, ◌∙◌, refl, sym, ap, subst, arith}
use Rattle.std.proofs.lemmas.List.{length-append, length-take-le}
use Rattle.std.proofs.lemmas.Option.{slice_get_within}
use Rattle.std.specs.Prelude.{ℕ, Bool, true, false, eqb, cond, List, [], ◌∷◌, ◌++◌, length, map, drop, slice_get, Option, Some, None, option_map, option_and_then, zero, suc}
use Rattle.std.specs.List.{AllByRecursion}
use Rattle.core_rules.specs.Term.{Term}
use Rattle.core_rules.specs.Substitution.{value_at, under}
use Rattle.core_rules.specs.Signature.{Telescope, Context, onto, Branch, Signature, FamDecl, con_counts, places, fam_decl, ConPat, CorePats}
use Rattle.core_rules.specs.Elimination.{Elim, Arg, Field}
use Rattle.core_rules.specs.InScope.{TelescopeInScope, ConInScope, SignatureInScope, SolutionsInScope, con_params}
use Rattle.core_rules.specs.ScopeLaws.{ElimInScope, AnswerInScope, ContextInScope, EquationInScope, SplittingInScope}
use Rattle.core_rules.specs.Heads.{Solutions}
use Rattle.core_rules.specs.Unification.{Equation, Solution, whole_types}
use Rattle.core_rules.specs.UnifierAnswers.{Unifier, UnifiedBy}
use Rattle.core_rules.specs.TypedTree.{con_context, with_con, index_equations}
use Rattle.core_rules.proofs.Scope.Changed.{Each, under-in_scope, each_at}
use Rattle.core_rules.proofs.Scope.Declared.{all_got, all_append, all_taken, constructor-in_scope}
use Rattle.core_rules.proofs.Scope.Opened.{context-in_scope, with-in_scope, equations-in_scope}
use Rattle.core_rules.proofs.Scope.Unified.{begin-in_scope}
use Rattle.core_rules.proofs.Typing.Scoped.{length-places, length-onto}
use Rattle.core_rules.proofs.Trees.Scoped.{length-con_context}
use Rattle.cover_rules.specs.LeftSide.{place_of}
use Rattle.match_rules.specs.Covering.{elim_map}
use Rattle.lhs_rules.specs.Spots.{Spot, AtVar, AtValue, AtCon, Taken, Left, raised, own_types, index_of, spot_at, spot_or, kept_spot, branch_spot, branch_spots, split_spot, split_elim, moved}
use Rattle.lhs_rules.specs.Families as families
use Rattle.lhs_rules.specs.Rules.{Slot, slot_entries, split_at}
use Rattle.lhs_rules.proofs.Steps.{PutIs, put_left}
use Rattle.lhs_rules.proofs.Families.{at_con_is}
use Rattle.lhs_rules.proofs.Kept.{AllShapes}
use Rattle.lhs_rules.proofs.Scoped.Lefts.{In, at_same, SketchIn, sketches_in, SpotIn, TakenIn, LeftIn, raised-in, own_type-in, arguments-in, head-in}

placed_later : (o : Option ℕ) (j : ℕ) → option_map suc o ≡ Some j → (m : ℕ) × (o ≡ Some m) × (j ≡ suc m)
placed_later None j e = absurd cc
placed_later (Some m) j e = (m, refl, cc)

pub placed_below : (i j : ℕ) (ks : List ℕ) → place_of i ks ≡ Some j → j < length ks
placed_below i j [] e = absurd cc
placed_below i j (k ∷ ks) e = by_test (eqb i k) e (λ m p. placed_below i m ks p)
  where
    by_test : (t : Bool) → cond t (Some 0) (option_map suc (place_of i ks)) ≡ Some j → ((m : ℕ) → place_of i ks ≡ Some m → m < length ks) → j < suc (length ks)
    by_test true e r = let p : 0 ≡ j = cc in omega (arith, p)
    by_test false e r = let x = placed_later (place_of i ks) j e in let l = r x.0 x.1 in let p = x.2 in omega (arith, l, p)

-- what is asked of the branches of a unifier
module _ (g : Signature Term) (M : ℕ → ℕ → Type 0) where
  pub record BranchIn (b : Branch Term) : Type 0 where
    pub context : ContextInScope g M (onto b.context [])
    pub values : Each g M (length b.context) b.values
    pub as_many : length b.keep ≡ length b.context

  abbrev pub BranchesIn : Unifier → Type 0
  BranchesIn U = (c : Context Term) (es : List Equation) (ss : List Solution) (b : Branch Term) → ContextInScope g M c → AllByRecursion (EquationInScope g M (length c)) es → U c es (UnifiedBy ss b) → BranchIn b

  -- a branch in scope, of the constructor's context d
  module _ (d : Context Term) (b : Branch Term) (h : BranchIn b) (c : ContextInScope g M d) where
    abbrev size : ℕ
    size = length b.context

    kept-in : (k : ℕ) (o : Option ℕ) → place_of k b.keep ≡ o → SpotIn g M size (kept_spot d b k o)
    kept-in k (Some j) e = let l = placed_below k j b.keep e in let m = h.as_many in omega (arith, l, m)
    kept-in k None e = (
      omega arith,
      each_at g M size b.values k h.values,
      under-in_scope g M size (length d) b.values (value_at (whole_types 0 d) k) h.values (each_at g M (length d) (whole_types 0 d) k (begin-in_scope g M d [] c tt).0),
    )

    pub branch_spot-in : (i : ℕ) → SpotIn g M size (branch_spot d b i)
    branch_spot-in i = kept-in (index_of d i) (place_of (index_of d i) b.keep) refl

    pub branch_spots-in : (i n : ℕ) → AllByRecursion (SpotIn g M size) (branch_spots d b i n)
    branch_spots-in i zero = tt
    branch_spots-in i (suc n) = (branch_spot-in i, branch_spots-in (i + 1) n)

    -- u brings terms of the context e into the branch
    module _ (e : Context Term) (u : Term → Term) (brings : (t : Term) → In g M (length e) t → In g M size (u t)) where
      split_spot-in : (k m : ℕ) (s : Spot) → SpotIn g M (length e) s → SpotIn g M size (split_spot e k m d b u s)
      split_spot-in k m (AtVar i) h = by_test (eqb i k)
        where
          by_test : (t : Bool) → SpotIn g M size (cond t AtCon (branch_spot d b (moved k m i)))
          by_test true = tt
          by_test false = branch_spot-in (moved k m i)
      split_spot-in k m (AtValue v) h = (omega arith, brings (raised e v.outer v.value) (raised-in g M e v.outer v.value h.0 h.1), brings (raised e v.outer v.ty) (raised-in g M e v.outer v.ty h.0 h.2))
      split_spot-in k m AtCon h = tt

      pub split_spots-in : (k m : ℕ) (ss : List Spot) → AllByRecursion (SpotIn g M (length e)) ss → AllByRecursion (SpotIn g M size) (map (split_spot e k m d b u) ss)
      split_spots-in k m [] h = tt
      split_spots-in k m (s ∷ ss) h = (split_spot-in k m s h.0, split_spots-in k m ss h.1)

      split_elim-in : (x : Taken) → TakenIn g M (length e) x → TakenIn g M size (split_elim e b u x)
      split_elim-in x h = (omega arith, by_elim x.it h.1)
        where
          by_elim : (y : Elim) → ElimInScope g M x.outer y → ElimInScope g M size (elim_map (λ t. u (raised e x.outer t)) y)
          by_elim (Arg c t) k = brings (raised e x.outer t) (raised-in g M e x.outer t h.0 k)
          by_elim (Field f) k = k

      pub split_elims-in : (xs : List Taken) → AllByRecursion (TakenIn g M (length e)) xs → AllByRecursion (TakenIn g M size) (map (split_elim e b u) xs)
      split_elims-in [] h = tt
      split_elims-in (x ∷ xs) h = (split_elim-in x h.0, split_elims-in xs h.1)

  -- ---- what a variable's spot is

  pub spot-stands : (l : Left) (j i : ℕ) → spot_at l j ≡ AtVar i → slice_get l.spots j ≡ Some (AtVar i)
  spot-stands l j i e = by_spot (slice_get l.spots j) e
    where
      by_spot : (o : Option Spot) → spot_or o ≡ AtVar i → o ≡ Some (AtVar i)
      by_spot None e = absurd cc
      by_spot (Some s) e = ap Some e

  pub variable-below : (l : Left) (j i : ℕ) → LeftIn g M l → spot_at l j ≡ AtVar i → i < length l.context
  variable-below l j i h e = all_got (SpotIn g M (length l.context)) l.spots j (AtVar i) h.spots (spot-stands l j i e)

  -- ---- the arguments under the names of their patterns

  pub entries-in : (n : ℕ) (qs : List Slot) (es : Telescope Term) → TelescopeInScope g M n es → TelescopeInScope g M n (slot_entries qs es)
  entries-in n [] es h = h
  entries-in n (q ∷ qs) [] h = tt
  entries-in n (q ∷ qs) (e ∷ es) h = (h.0, entries-in (n + 1) qs es h.1)

  pub entries-length : (qs : List Slot) (es : Telescope Term) → length (slot_entries qs es) ≡ length es
  entries-length [] es = refl
  entries-length (q ∷ qs) [] = refl
  entries-length (q ∷ qs) (e ∷ es) = ap suc (entries-length qs es)

  all_dropped : {X : Type 0} (P : X → Type 0) (n : ℕ) (xs : List X) → AllByRecursion P xs → AllByRecursion P (drop n xs)
  all_dropped P zero xs h = h
  all_dropped P (suc n) [] h = tt
  all_dropped P (suc n) (x ∷ xs) h = all_dropped P n xs h.1

  module _ (s : Solutions) (fuel : ℕ) (U : Unifier) (sig : SignatureInScope g M) (sol : SolutionsInScope g M s) (branches : BranchesIn U) (f : ℕ) where
    -- the split of a variable, with the constructor that is put for it
    pub record SplitIn (k i : ℕ) (l : Left) (a : families.AtCon) : Type 0 where
      pub split : SplittingInScope g M (split_at f l i a.at)
      pub params : con_params g k ≡ Some (length a.at.params)
      pub con : ConInScope g M (length a.at.params) a.con

    pub split-in : (k i : ℕ) (l : Left) (a : families.AtCon) (qs : List Slot) (b : Branch Term) → LeftIn g M l → PutIs g s fuel U f k i l a qs b → SplitIn k i l a
    split-in k i l a qs b h p =
        let n = length l.context in
        let x = at_con_is g k p.head a p.at in
        let y = x.family in
        let below : i < n = variable-below l p.place i h p.spot in
        let index : index_of l.context i < n = omega (arith, below) in
        let own = own_type-in g M l.context (index_of l.context i) h.context index in
        let w = subst (AnswerInScope g M (n - (index_of l.context i + 1))) y.head (head-in g M s fuel U sig sol (n - (index_of l.context i + 1)) (value_at (own_types l.context) (index_of l.context i)) p.head own p.shown) in
        let us = arguments-in g M (n - (index_of l.context i + 1)) (a.at.decl.params ++ a.at.decl.indices) y.elims y.all y.arguments w.1 in
        let as_many : length a.at.params ≡ length a.at.decl.params =
        ap length y.params ∙ length-take-le (length a.at.decl.params) y.all (let e = us.0 in let m = length-append a.at.decl.params a.at.decl.indices in omega (arith, e, m)) in
        record {
          split = record {
            context = h.context;
            var = index;
            params = subst (Each g M (n - (index_of l.context i + 1))) (sym y.params) (all_taken (In g M (n - (index_of l.context i + 1))) (length a.at.decl.params) y.all us.1);
            indices = subst (Each g M (n - (index_of l.context i + 1))) (sym y.indices) (all_dropped (In g M (n - (index_of l.context i + 1))) (length a.at.decl.params) y.all us.1);
          };
          params = ap (option_and_then (λ p. option_map (λ (d : FamDecl Term). length d.params) (fam_decl g p.0))) x.place ∙ (ap (option_map (λ (d : FamDecl Term). length d.params)) y.is_decl ∙ ap Some (sym as_many));
          con = subst (λ m. ConInScope g M m a.con) (sym as_many) (constructor-in_scope g M sig a.at.fam a.at.decl x.number a.con y.is_decl x.is_con);
        }

    pub put-in : (k i : ℕ) (l : Left) (a : families.AtCon) (qs : List Slot) (b : Branch Term) → LeftIn g M l → PutIs g s fuel U f k i l a qs b → LeftIn g M (put_left g s fuel U f k i l a qs b)
    put-in k i l a qs b h p =
        let x = split-in k i l a qs b h p in
        let z = split_at f l i a.at in
        let d = con_context z k (slot_entries qs a.con.args) in
        let c : ContextInScope g M d = context-in_scope g M z k x.params x.split (slot_entries qs a.con.args) (entries-in (length a.at.params) qs a.con.args x.con.args) in
        let same : length (con_context z k a.con.args) ≡ length d = length-con_context z k a.con.args x.split.var ∙ (let e = entries-length qs a.con.args in let m = length-con_context z k (slot_entries qs a.con.args) x.split.var in omega (arith, e, m)) in
        let es : AllByRecursion (EquationInScope g M (length d)) (index_equations z a.con) = subst (λ n. AllByRecursion (EquationInScope g M n) (index_equations z a.con)) same (equations-in_scope g M z k x.params x.split a.con x.con) in
        let y = branches d (index_equations z a.con) p.solutions b c es p.unified in
        let u = λ (t : Term). under b.values (with_con z k a.con.args t) in
        let brings : (t : Term) → In g M (length l.context) t → In g M (length b.context) (u t) =
        λ t h. under-in_scope g M (length b.context) (length (con_context z k a.con.args)) b.values (with_con z k a.con.args t) y.values (with-in_scope g M z k x.params x.split a.con.args t h) in
        let n : length b.context ≡ length (onto b.context []) = sym (length-onto b.context [] ∙ omega arith) in
        record {
          context = y.context;
          spine = subst (λ n. AllByRecursion (TakenIn g M n) (map (split_elim l.context b u) l.spine)) n (split_elims-in d b y c l.context u brings l.spine h.spine);
          spots = subst (λ n. AllByRecursion (SpotIn g M n) (map (split_spot l.context i (length a.con.args) d b u) l.spots ++ branch_spots d b i (length a.con.args))) n
              (all_append (SpotIn g M (length b.context)) (map (split_spot l.context i (length a.con.args) d b u) l.spots) (branch_spots d b i (length a.con.args))
              (split_spots-in d b y c l.context u brings i (length a.con.args) l.spots h.spots) (branch_spots-in d b y c i (length a.con.args)));
          pats = h.pats;
          ty = at_same g M (length b.context) (length (onto b.context [])) (u l.ty) n (brings l.ty h.ty);
        }

    pub con_shape-in : (k i : ℕ) (l : Left) (a : families.AtCon) (qs : List Slot) (b : Branch Term) (ps : CorePats ℕ) → PutIs g s fuel U f k i l a qs b → AllShapes (SketchIn g M) ps → SketchIn g M (ConPat k ps)
    con_shape-in k i l a qs b ps p h =
        let x = at_con_is g k p.head a p.at in
        (rw length-places at (slice_get_within (places 0 (con_counts g)) k (a.at.fam, x.number) x.place), sketches_in g M ps h)
