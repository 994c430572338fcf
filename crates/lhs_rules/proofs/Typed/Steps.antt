-- Each step of a left side is one that a typed tree asks for.
use Rattle.std.proofs.Common.{◌≡◌, ◌+◌, ◌-◌, ◌<◌, ◌≤◌, ◌∙◌, refl, sym, ap, ap₂, subst, arith}
use Rattle.std.proofs.lemmas.List.{map-append}
use Rattle.std.specs.Prelude.{ℕ, Bool, true, false, eqb, cond, List, [], ◌∷◌, ◌++◌, length, map, slice_get, Option, Some, None, zero, suc}
use Rattle.std.specs.List.{AllByRecursion}
use Rattle.core_rules.specs.declared.Flag.{Flag}
use Rattle.core_rules.specs.Term.{Term, Var, Pi, Def, Fam, App, Proj}
use Rattle.core_rules.specs.Substitution.{shift, value_at, under, replace}
use Rattle.core_rules.specs.Signature.{Entry, Telescope, Context, onto, Branch, Signature, Origin}
use Rattle.core_rules.specs.Elimination.{Elim, Arg, Field, elims, args}
use Rattle.core_rules.specs.Conversion.{Conv}
use Rattle.core_rules.specs.InScope.{any_meta}
use Rattle.core_rules.specs.Typing.{entry, field_env}
use Rattle.core_rules.specs.Heads.{Form}
use Rattle.core_rules.specs.BoundedLaws.{no_solutions}
use Rattle.core_rules.specs.TreeLaws.{IsSound}
use Rattle.core_rules.specs.UnifierAnswers.{Unifier, Answers, answers, IsUnifier}
use Rattle.core_rules.specs.TypedTree.{con_context, with_con, into, new_con, index_equations}
use Rattle.core_rules.proofs.Heads.FullSolutions.{nothing_to_replace}
use Rattle.core_rules.proofs.Trees.Sound.{sound-heads}
use Rattle.core_rules.proofs.Typing.Scoped.{length-onto}
use Rattle.core_rules.proofs.Scope.Declared.{all_got, all_append}
use Rattle.kernel_rules.proofs.Sound.{arguments-are}
use Rattle.need_rules.specs.Needs.{OwnField, own_field}
use Rattle.cover_rules.specs.LeftSide.{place_of}
use Rattle.lhs_rules.specs.Spots.{Spot, AtVar, AtValue, AtCon, Taken, Left, raised_elim, left_term, own_types, index_of, name_by, taken, with_pat, projected, kept_spot, branch_spot, branch_spots, split_spot, split_elim, moved}
use Rattle.lhs_rules.specs.Families as families
use Rattle.lhs_rules.specs.Rules.{Slot, slot_entries, split_at, field_type}
use Rattle.lhs_rules.specs.Reached.{nameless_entries, HasForm, ConPut, Reached, argument, projection, constructor}
use Rattle.lhs_rules.proofs.Steps.{HeadIs, PutIs, put_left}
use Rattle.lhs_rules.proofs.Families.{at_con_is, own_field_is}
use Rattle.lhs_rules.proofs.Scoped.Puts.{placed_below, spot-stands}
use Rattle.lhs_rules.proofs.Typed.Terms.{elims-append, args-split, lengths-split, Outer, term_raised, term_put}

-- in a context of n entries a spot that is a variable is one of them
abbrev pub SpotBelow : ℕ → Spot → Type 0
SpotBelow n (AtVar i) = i < n
SpotBelow n (AtValue v) = Unit {0}
SpotBelow n AtCon = Unit {0}

spots-more : (n : ℕ) (ss : List Spot) → AllByRecursion (SpotBelow n) ss → AllByRecursion (SpotBelow (suc n)) ss
spots-more n [] h = tt
spots-more n (AtVar i ∷ ss) h = (let l = h.0 in omega (arith, l), spots-more n ss h.1)
spots-more n (AtValue v ∷ ss) h = (tt, spots-more n ss h.1)
spots-more n (AtCon ∷ ss) h = (tt, spots-more n ss h.1)

spine-more : (n : ℕ) (es : List Taken) → AllByRecursion (Outer n) es → AllByRecursion (Outer (suc n)) es
spine-more n [] h = tt
spine-more n (e ∷ es) h = ((let l = h.0 in omega (arith, l)), spine-more n es h.1)

-- a branch has a place for each variable that it keeps
module _ (d : Context Term) (b : Branch Term) (as_many : length b.keep ≡ length b.context) where
  kept-below : (k : ℕ) (o : Option ℕ) → place_of k b.keep ≡ o → SpotBelow (length b.context) (kept_spot d b k o)
  kept-below k None e = tt
  kept-below k (Some j) e = let l = placed_below k j b.keep e in omega (arith, l, as_many)

  spot-below : (i : ℕ) → SpotBelow (length b.context) (branch_spot d b i)
  spot-below i = kept-below (index_of d i) (place_of (index_of d i) b.keep) refl

  new-below : (i n : ℕ) → AllByRecursion (SpotBelow (length b.context)) (branch_spots d b i n)
  new-below i zero = tt
  new-below i (suc n) = (spot-below i, new-below (i + 1) n)

  split-below : (c : Context Term) (u : Term → Term) (k m : ℕ) (ss : List Spot) → AllByRecursion (SpotBelow (length b.context)) (map (split_spot c k m d b u) ss)
  split-below c u k m [] = tt
  split-below c u k m (AtValue v ∷ ss) = (tt, split-below c u k m ss)
  split-below c u k m (AtCon ∷ ss) = (tt, split-below c u k m ss)
  split-below c u k m (AtVar i ∷ ss) = (by_test (eqb i k), split-below c u k m ss)
    where
      by_test : (t : Bool) → SpotBelow (length b.context) (cond t AtCon (branch_spot d b (moved k m i)))
      by_test true = tt
      by_test false = spot-below (moved k m i)

-- the entry of a variable
own-entry : (c : Context Term) (k : ℕ) → k < length c → (e : Entry Term) × (slice_get c k ≡ Some e) × (value_at (own_types c) k ≡ e.ty)
own-entry [] k l = absurd (omega (arith, l))
own-entry (e ∷ c) zero l = (e, refl, refl)
own-entry (e ∷ c) (suc k) l = own-entry c k (omega (arith, l))

-- arguments under other names, each with its slot
named-same : (qs : List Slot) (es : Telescope Term) → nameless_entries (slot_entries qs es) ≡ nameless_entries es
named-same [] es = refl
named-same (q ∷ qs) [] = refl
named-same (q ∷ qs) (e ∷ es) = ap (λ l. record e { name = 0 } ∷ l) (named-same qs es)

module _ (g : Signature Term) (k : IsSound g) (fuel : ℕ) (u : Answers) (f : ℕ) (a : Term) where
  abbrev U : Unifier
  U = answers u

  pub form-converts : (t h : Term) (es : List Elim) → HasForm g u t h es → Conv g t (elims h es)
  form-converts t h es x =
      subst (λ t. Conv g t (elims h es)) (nothing_to_replace.1 t)
      (subst (Conv g (replace no_solutions t)) (nothing_to_replace.1 (elims h es)) (sound-heads g k no_solutions no_solutions t [] (Form h es) x.steps nothing_to_replace.0 x.heads))

  form-of : (t h : Term) (es : List Elim) → HeadIs g no_solutions fuel U t (Form h es) → HasForm g u t h es
  form-of t h es x = record { steps = x.steps; heads = x.heads }

  pub record Grown (l : Left) : Type 0 where
    pub spine : AllByRecursion (Outer (length l.context)) l.spine
    pub spots : AllByRecursion (SpotBelow (length l.context)) l.spots
    pub reached : Reached g u f a l.context (left_term f l) l.ty

  pub with_pat-grown : (l : Left) (s : _) (o : Origin) (b : _) → Grown l → Grown (with_pat l s o b)
  with_pat-grown l s o b h = record { spine = h.spine; spots = h.spots; reached = h.reached }

  pub taken-grown : (l : Left) (b : Flag) (x : ℕ) (s t : Term) (o : Origin) → Grown l → HeadIs g no_solutions fuel U l.ty (Form (Pi b x s t) []) → Grown (taken l b x s t o)
  taken-grown l b x s t o h i =
      let n = length l.context in
      let e = entry b (name_by o x) s in
      let new : Taken = record { it = Arg b (Var 0); outer = n + 1 } in
      let own : raised_elim (e ∷ l.context) new ≡ Arg b (Var 0) = let p : suc n - (n + 1) ≡ 0 = omega arith in ap (λ m. Arg b (shift (Var 0) 0 m)) p in
      let is : left_term f (taken l b x s t o) ≡ App b (shift (left_term f l) 0 1) (Var 0) =
      ap (elims (Def f)) (map-append (raised_elim (e ∷ l.context)) l.spine (new ∷ []) ∙ ap (λ y. map (raised_elim (e ∷ l.context)) l.spine ++ y ∷ []) own)
      ∙ (elims-append (Def f) (map (raised_elim (e ∷ l.context)) l.spine) (Arg b (Var 0) ∷ []) ∙ ap (λ v. App b v (Var 0)) (term_raised f l.context e l.spine h.spine)) in
      record {
        spine = all_append (Outer (suc n)) l.spine (new ∷ []) (spine-more n l.spine h.spine) (omega arith, tt);
        spots = all_append (SpotBelow (suc n)) l.spots (AtVar n ∷ []) (spots-more n l.spots h.spots) (omega arith, tt);
        reached = subst (λ v. Reached g u f a (e ∷ l.context) v t) (sym is) (argument b x (name_by o x) s t h.reached (form-of l.ty (Pi b x s t) [] i));
      }

  pub projected-grown : (l : Left) (h d : ℕ) (es : List Elim) (is : OwnField) → Grown l → HeadIs g no_solutions fuel U l.ty (Form (Fam d) es) → own_field g d es h ≡ Some is → Grown (projected l is.field (field_type g f l is))
  projected-grown l h d es is i w e =
      let n = length l.context in
      let x = own_field_is g d es h is e in
      let new : Taken = record { it = Field h; outer = n } in
      let fit = arguments-are x.field.decl.params es x.params (sym x.arguments) in
      let shows : HasForm g u l.ty (Fam x.field.fam) (args x.field.decl.params x.params) = rw (x.same, ← fit.is) (form-of l.ty (Fam d) es w) in
      let term : Proj h (left_term f l) ≡ left_term f (projected l h (field_type g f l is)) =
      sym (ap (elims (Def f)) (map-append (raised_elim l.context) l.spine (new ∷ [])) ∙ elims-append (Def f) (map (raised_elim l.context) l.spine) (Field h ∷ [])) in
      subst (λ (is : OwnField). Grown (projected l is.field (field_type g f l is))) (sym x.are)
      (record {
        spine = all_append (Outer n) l.spine (new ∷ []) i.spine (omega arith, tt);
        spots = i.spots;
        reached = subst (λ v. Reached g u f a l.context v (under (field_env g h x.field x.params (left_term f l)) x.field.entry.ty)) term (projection h x.field x.params i.reached fit.as_many shows);
      })

  module _ (unifier : IsUnifier g U) where
    -- the constructor that is put, as a typed tree asks for it at a split
    con-put : (c i : ℕ) (l : Left) (x : families.AtCon) (qs : List Slot) (b : Branch Term) → Grown l → PutIs g no_solutions fuel U f c i l x qs b → ConPut g u l.context (left_term f l) l.ty
    con-put c i l x qs b h p =
        let n = length l.context in
        let y = at_con_is g c p.head x p.at in
        let z = y.family in
        let below : i < n = all_got (SpotBelow n) l.spots p.place (AtVar i) h.spots (spot-stands g any_meta l p.place i p.spot) in
        let e = own-entry l.context (index_of l.context i) (omega (arith, below)) in
        let fit = arguments-are (x.at.decl.params ++ x.at.decl.indices) z.elims z.all (sym z.arguments) in
        let m = lengths-split x.at.decl.params x.at.decl.indices z.all fit.as_many in
        let all = args x.at.decl.params x.at.params ++ args x.at.decl.indices x.at.indices in
        let same : z.elims ≡ all = fit.is ∙ (args-split x.at.decl.params x.at.decl.indices z.all fit.as_many ∙ ap₂ (λ ps is. args x.at.decl.params ps ++ args x.at.decl.indices is) (sym z.params) (sym z.indices)) in
        let own = value_at (own_types l.context) (index_of l.context i) in
        let head : HeadIs g no_solutions fuel U own (Form (Fam x.at.fam) all) = subst (HeadIs g no_solutions fuel U own) (z.head ∙ ap (Form (Fam x.at.fam)) same) p.shown in
        let shows : HasForm g u e.0.ty (Fam x.at.fam) all = subst (λ t. HasForm g u t (Fam x.at.fam) all) e.2 (form-of own (Fam x.at.fam) all head) in
        record {
          var = index_of l.context i;
          fam = x.at.fam;
          is = record {
            entry = e.0;
            decl = x.at.decl;
            params = x.at.params;
            indices = x.at.indices;
            stands = e.1;
            is_decl = z.is_decl;
            as_many = ap length z.params ∙ m.0;
            as_many_indices = ap length z.indices ∙ m.1;
            is = form-converts e.0.ty (Fam x.at.fam) all shows;
          };
          shows = shows;
          inductive = y.inductive;
          con_id = c;
          number = y.number;
          con = x.con;
          place = y.place;
          is_con = y.is_con;
          entries = slot_entries qs x.con.args;
          same = named-same qs x.con.args;
          solutions = p.solutions;
          branch = b;
          solved = p.unified;
        }

    pub put-grown : (c i : ℕ) (l : Left) (x : families.AtCon) (qs : List Slot) (b : Branch Term) → Grown l → PutIs g no_solutions fuel U f c i l x qs b → Grown (put_left g no_solutions fuel U f c i l x qs b)
    unfolding con-put
    put-grown c i l x qs b h p =
        let z = split_at f l i x.at in
        let d = con_context z c (slot_entries qs x.con.args) in
        let n : length (onto b.context []) ≡ length b.context = length-onto b.context [] ∙ omega arith in
        let as_many : length b.keep ≡ length b.context = (unifier.unified d (index_equations z x.con) p.solutions b p.unified).joins.as_many ∙ n in
        let brings = λ (t : Term). under b.values (with_con z c x.con.args t) in
        let spots = map (split_spot l.context i (length x.con.args) d b brings) l.spots ++ branch_spots d b i (length x.con.args) in
        record {
          spine = all-put (length (onto b.context [])) l.spine (omega (arith, n));
          spots = subst (λ n. AllByRecursion (SpotBelow n) spots) (sym n)
              (all_append (SpotBelow (length b.context)) (map (split_spot l.context i (length x.con.args) d b brings) l.spots) (branch_spots d b i (length x.con.args))
              (split-below d b as_many l.context brings i (length x.con.args) l.spots) (new-below d b as_many i (length x.con.args)));
          reached = subst (λ v. Reached g u f a (onto b.context []) v (brings l.ty))
              (sym (term_put b.values (into (index_of l.context i) (length l.context) (length x.con.args) (new_con c x.at.params x.con.args)) f l.context (onto b.context []) (length b.context) l.spine n))
              (constructor h.reached (con-put c i l x qs b h p));
        }
      where
        all-put : (n : ℕ) (es : List Taken) → length b.context ≤ n → AllByRecursion (Outer n) (map (split_elim l.context b (λ t. under b.values (with_con (split_at f l i x.at) c x.con.args t))) es)
        all-put n [] h = tt
        all-put n (e ∷ es) h = (h, all-put n es h)
