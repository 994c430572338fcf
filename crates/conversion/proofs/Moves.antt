-- What one turn of the loop does to the pairs that wait.
use Rattle.std.specs.Prelude.{◌≡◌, ◌≢◌, ◌⊎◌, ℕ, ◌<◌, ◌≤◌, ◌^◌, List, [], ◌∷◌, ◌++◌, length, map, take, refl, Some, suc}
use Rattle.std.specs.List.{AllByRecursion}
use Rattle.std.proofs.Common.{ap, ap₂, sym, ◌∙◌, subst, arith, subst₂, inl, inr, ⊎_elim, length-append, length-take-le}
use Rattle.std.proofs.Math.Seq.{take-length}
use Rattle.std.proofs.lemmas.Grind.{common_steps}
use Rattle.std.proofs.lemmas.List.{map-append}
use Rattle.el_base.proofs.Throughout.{all-append, all-parts, all-weaker, all-map, map-same}
use Rattle.core_rules.specs.Term.{Term}
use Rattle.core_rules.specs.Signature.{Signature}
use Rattle.core_rules.specs.Heads.{Solutions, Bounded, HeadOf}
use Rattle.core_rules.specs.Bounded as B
use Rattle.core_rules.specs.Bounded.{Pair, below, InOrder, Decided, decide, AreSame, ConvOf}
use Rattle.core_rules.proofs.Heads.OneVerdict.{conv_of_deeper}
use Rattle.term_pool.specs.Pool.{Pool, tree, Extends}
use Rattle.term_pool.specs.Growth.{Extends-length, Extends-tree}
use Rattle.conversion.specs.declared.arguments.Part.{Part}
use Rattle.conversion.specs.declared.outcome.Refusal.{Refusal}
use Rattle.conversion.specs.declared.outcome.Refusal.TheVariants.{Differ, OutOfFuel, WaitsFor}
use Rattle.conversion.specs.declared.conv.Conv.{Conv}
use Rattle.conversion.specs.declared.outcome.Outcome.TheVariants.{Refused}
use Rattle.conversion.specs.declared.pending.Work.{Work}
use Rattle.conversion.specs.Conv.{IsVerdict}
use Rattle.conversion.specs.Part.{names, part_in, PartBelow}
use Rattle.conversion.specs.Outcome.{refusal, HaveOutcome}
use Rattle.conversion.specs.Table.{Depths, yes_at, Puts}
use Rattle.conversion.specs.Pending.{work_of, Item, item, items, Ordered, IsWork, turns, IsYes, InTurn, Follows, IsKept, Going, Moves, Decides}
use Rattle.conversion.proofs.Verdicts.{below_below, below_not_yes, decides}
use Rattle.conversion.proofs.Weights.{turns-pos, weigh_append, weigh_parts, fewer}

abbrev child : ℕ → List ℕ → B.Part → Item
child d path (Pair xs t u) = record { depth = d; path = path ++ xs; left = t; right = u }

all_both : {A : Type 0} (P Q : A → Type 0) (xs : List A) → AllByRecursion P xs → AllByRecursion Q xs → AllByRecursion (λ x. P x × Q x) xs
all_both P Q [] h k = tt
all_both P Q (x ∷ xs) h k = ((h.0, k.0), all_both P Q xs h.1 k.1)

-- ---- the pool and the path
item_grown : {p q : Pool} (path : List ℕ) (n : ℕ) (w : Work) → Extends p q → IsWork p n w → item q path w ≡ item p path w
item_grown {p} {q} path n w g h = ap₂ (λ t u. record { depth = w.depth; path = take w.under path ++ names w.binds; left = t; right = u }) (Extends-tree w.left g h.0) (Extends-tree w.right g h.1)

items_grown : {p q : Pool} (path : List ℕ) (n : ℕ) (ws : List Work) → Extends p q → AllByRecursion (IsWork p n) ws → items q path ws ≡ items p path ws
items_grown {p} {q} path n ws g h = map-same (IsWork p n) (item q path) (item p path) (λ w k. item_grown path n w g k) ws h

take_under : (k n : ℕ) (xs ys : List ℕ) → k ≤ n → n ≤ length xs → take k (take n xs ++ ys) ≡ take k xs
take_under k n xs ys h l = grind (arith, common_steps)

-- the path becomes that of the first pair: the others stand under the same names as before
items_entered : (p : Pool) (path to : List ℕ) (w : Work) (ws : List Work) → w.under ≤ length path → to ≡ take w.under path ++ names w.binds → AllByRecursion (λ v. (w.depth ≤ v.depth) × (v.under ≤ w.under)) ws → items p to ws ≡ items p path ws
items_entered p path to w ws l e h =
    map-same (λ v. (w.depth ≤ v.depth) × (v.under ≤ w.under)) (item p to) (item p path)
    (λ v k. ap (λ xs. record { depth = v.depth; path = xs ++ names v.binds; left = tree p v.left; right = tree p v.right }) (ap (take v.under) e ∙ take_under v.under w.under path (names w.binds) k.1 l)) ws h

parts_items : (p : Pool) (path : List ℕ) (d : ℕ) (ps : List Part) → items p path (map (work_of (length path) d) ps) ≡ map (child d path) (map (part_in (tree p)) ps)
parts_items p path d [] = refl
parts_items p path d (x ∷ ps) = ap₂ (λ y ys. y ∷ ys) (ap (λ xs. record { depth = d; path = xs ++ names x.binds; left = tree p x.left; right = tree p x.right }) (take-length path)) (parts_items p path d ps)

ordered_parts : (n d : ℕ) (ps : List Part) (ws : List Work) → AllByRecursion (λ v. (d ≤ v.depth) × (v.under ≤ n)) ws → Ordered ws → Ordered (map (work_of n d) ps ++ ws)
ordered_parts n d [] ws h k = k
ordered_parts n d (x ∷ ps) ws h k = (
  all-append (λ v. (d ≤ v.depth) × (v.under ≤ n)) (map (work_of n d) ps) ws (all-map (λ y. Unit {0}) (λ v. (d ≤ v.depth) × (v.under ≤ n)) (work_of n d) (λ y z. (omega arith, omega arith)) ps (every ps)) h,
  ordered_parts n d ps ws h k,
)
  where
    every : (ps : List Part) → AllByRecursion (λ y. Unit {0}) ps
    every [] = tt
    every (y ∷ ps) = (tt, every ps)

-- ---- verdicts

module _ (g : Signature Term) (s : Solutions) (fuel : ℕ) where
  -- the verdict of parts before other pairs
  parts_in_turn : (d : ℕ) (path : List ℕ) (ps : List B.Part) (is : List Item) (q : B.Verdict) → InTurn g s fuel (map (child d path) ps ++ is) q
      → (InOrder (ConvOf g s fuel d) ps B.Yes × InTurn g s fuel is q) ⊎ ((v : B.Verdict) × InOrder (ConvOf g s fuel d) ps v × (v ≢ B.Yes) × (q ≡ below path v))
  parts_in_turn d path [] is q h = inl (refl, h)
  parts_in_turn d path (Pair xs t u ∷ ps) is q (inl h) = more (parts_in_turn d path ps is q h.1)
    where
      more : (InOrder (ConvOf g s fuel d) ps B.Yes × InTurn g s fuel is q) ⊎ ((v : B.Verdict) × InOrder (ConvOf g s fuel d) ps v × (v ≢ B.Yes) × (q ≡ below path v))
          → (InOrder (ConvOf g s fuel d) (Pair xs t u ∷ ps) B.Yes × InTurn g s fuel is q) ⊎ ((v : B.Verdict) × InOrder (ConvOf g s fuel d) (Pair xs t u ∷ ps) v × (v ≢ B.Yes) × (q ≡ below path v))
      more (inl k) = inl (inl (h.0, k.0), k.1)
      more (inr k) = inr (k.0, inl (h.0, k.1), k.2, k.3)
  parts_in_turn d path (Pair xs t u ∷ ps) is q (inr h) = inr (below xs h.0, inr (h.0, h.1, h.2, refl), below_not_yes xs h.0 h.2, h.3 ∙ sym (below_below path xs h.0))

  parts_yes : (d e : ℕ) (path : List ℕ) (ps : List B.Part) → d < e → AllByRecursion (λ i. i.depth < e → IsYes g s fuel i) (map (child d path) ps) → InOrder (ConvOf g s fuel d) ps B.Yes
  parts_yes d e path [] l h = refl
  parts_yes d e path (Pair xs t u ∷ ps) l h = inl (h.0 l, parts_yes d e path ps l h.1)

  -- the verdicts of the parts ps, at the depth d, are those of the pair i
  record IsOpened (i : Item) (d : ℕ) (ps : List B.Part) : Type 0 where
    deeper : d < i.depth
    by : (v : B.Verdict) → InOrder (ConvOf g s fuel d) ps v → ConvOf g s fuel i.depth i.left i.right v

  opened_leads : (i : Item) (d : ℕ) (ps : List B.Part) (is : List Item) (q : B.Verdict) → IsOpened i d ps → InTurn g s fuel (map (child d i.path) ps ++ is) q → InTurn g s fuel (i ∷ is) q
  opened_leads i d ps is q o h = by_parts (parts_in_turn d i.path ps is q h)
    where
      by_parts : (InOrder (ConvOf g s fuel d) ps B.Yes × InTurn g s fuel is q) ⊎ ((v : B.Verdict) × InOrder (ConvOf g s fuel d) ps v × (v ≢ B.Yes) × (q ≡ below i.path v)) → InTurn g s fuel (i ∷ is) q
      by_parts (inl k) = inl (o.by B.Yes k.0, k.1)
      by_parts (inr k) = inr (k.0, o.by k.0 k.1, k.2, k.3)

  -- what followed from the pair follows from its parts
  opened_follows : (i : Item) (d : ℕ) (ps : List B.Part) (is : List Item) (e : ℕ) (t u : Term) → IsOpened i d ps → Follows g s fuel (i ∷ is) e t u → Follows g s fuel (map (child d i.path) ps ++ is) e t u
  opened_follows i d ps is e t u o f = record {
    by = λ all. let k = all-parts (λ i. i.depth < e → IsYes g s fuel i) (map (child d i.path) ps) is all in
        f.by ((λ l. o.by B.Yes (parts_yes d e i.path ps (omega (arith, l, o.deeper)) k.0)), k.1);
  }

  opened_new : (i : Item) (d : ℕ) (ps : List B.Part) (is : List Item) → IsOpened i d ps → Follows g s fuel (map (child d i.path) ps ++ is) i.depth i.left i.right
  opened_new i d ps is o = record {
    by = λ all. o.by B.Yes (parts_yes d i.depth i.path ps o.deeper (all-parts (λ j. j.depth < i.depth → IsYes g s fuel j) (map (child d i.path) ps) is all).0);
  }

  -- the head forms of t and u ask for these parts
  pub record HaveParts (t u : Term) (p : Pool) (ps : List Part) : Type 0 where
    pub left : Bounded
    pub right : Bounded
    pub is_left : HeadOf g s t fuel left
    pub is_right : HeadOf g s u fuel right
    pub is : decide g left right ≡ B.Parts (map (part_in (tree p)) ps)
    pub stands : AllByRecursion (PartBelow (length p.trees)) ps

  is_opened : (i : Item) (d : ℕ) (p : Pool) (ps : List Part) → i.depth ≡ suc d → (AreSame s i.left i.right → ⊥) → HaveParts i.left i.right p ps → IsOpened i d (map (part_in (tree p)) ps)
  is_opened i d p ps e n h = record {
    deeper = omega arith;
    by = λ v k. subst (λ j. ConvOf g s fuel j i.left i.right v) (sym e)
        (inr (n, record { left = h.left; right = h.right; is_left = h.is_left; is_right = h.is_right; decided = subst (λ D. Decided (ConvOf g s fuel d) D v) (sym h.is) k }));
  }

  -- a pair that is the first of those that wait, and was yes at no greater depth
  pub kept_yes : (p : Pool) (path : List ℕ) (m : Depths) (w : Work) (ws : List Work) (e : ℕ) → Going g s fuel p path m (w ∷ ws) → yes_at m w.left w.right ≡ Some e → e ≤ w.depth → IsYes g s fuel (item p path w)
  kept_yes p path m w ws e h k l =
      let f = (h.kept w.left w.right e k).follows in
      let rest : AllByRecursion (λ v. v.depth < e → IsYes g s fuel (item p path v)) ws = all-weaker (λ v. (w.depth ≤ v.depth) × (v.under ≤ w.under)) (λ v. v.depth < e → IsYes g s fuel (item p path v)) (λ v a b. absurd (omega (arith, a.0, b, l))) ws h.ordered.0 in
      conv_of_deeper g s fuel e w.depth (tree p w.left) (tree p w.right) B.Yes l (λ x. cc)
      (f.by ((λ b. absurd (omega (arith, b, l))), all-map (λ v. v.depth < e → IsYes g s fuel (item p path v)) (λ i. i.depth < e → IsYes g s fuel i) (item p path) (λ v k. k) ws rest))

  pub same_yes : (p : Pool) (path : List ℕ) (w : Work) (d : ℕ) → w.depth ≡ suc d → AreSame s (tree p w.left) (tree p w.right) → IsYes g s fuel (item p path w)
  same_yes p path w d e a = subst (λ j. ConvOf g s fuel j (tree p w.left) (tree p w.right) B.Yes) (sym e) (inl (a, refl))

  refusal_not_yes : (p : Pool) (r : Refusal) → refusal p r ≢ B.Yes
  refusal_not_yes p (Differ t u) e = cc
  refusal_not_yes p OutOfFuel e = cc
  refusal_not_yes p (WaitsFor m) e = cc

  pub refused_in_turn : (p q : Pool) (path to : List ℕ) (w : Work) (is : List Item) (d : ℕ) (r : Refusal) (c : Conv) → to ≡ take w.under path ++ names w.binds → w.depth ≡ suc d → (AreSame s (tree p w.left) (tree p w.right) → ⊥)
      → HaveOutcome g s fuel (tree p w.left) (tree p w.right) q (Refused r) → Decides r to c → IsVerdict (InTurn g s fuel (item p path w ∷ is)) q c
  refused_in_turn p q path to w is d r c e k n h x = decides (InTurn g s fuel (item p path w ∷ is)) q to r c x h.stands (inr (
    refusal q r,
    subst (λ j. ConvOf g s fuel j (tree p w.left) (tree p w.right) (refusal q r)) (sym k)
        (inr (n, record { left = h.left; right = h.right; is_left = h.is_left; is_right = h.is_right; decided = subst (λ D. Decided (ConvOf g s fuel d) D (refusal q r)) (sym h.is) refl })),
    refusal_not_yes q r,
    ap (λ xs. below xs (refusal q r)) e,
  ))

  module _ (p q : Pool) (path to : List ℕ) (m : Depths) (w : Work) (ws : List Work) (h : Going g s fuel p path m (w ∷ ws)) (x : Extends p q) (e : to ≡ take w.under path ++ names w.binds) where
    longer : w.under ≤ length to
    longer = let l = h.within.0.2 in omega (arith, ap length e, length-append (take w.under path) (names w.binds), length-take-le w.under path l)

    rest_both : AllByRecursion (λ v. IsWork p (length path) v × ((w.depth ≤ v.depth) × (v.under ≤ w.under))) ws
    rest_both = all_both (IsWork p (length path)) (λ v. (w.depth ≤ v.depth) × (v.under ≤ w.under)) ws h.within.1 h.ordered.0

    rest_same : items q to ws ≡ items p path ws
    rest_same =
        items_grown to (length to) ws x (all-weaker (λ v. IsWork p (length path) v × ((w.depth ≤ v.depth) × (v.under ≤ w.under))) (IsWork p (length to)) (λ v k. (k.0.0, k.0.1, omega (arith, k.1.1, longer))) ws rest_both)
        ∙ items_entered p path to w ws h.within.0.2 e h.ordered.0

    rest_within : AllByRecursion (IsWork q (length to)) ws
    rest_within = all-weaker (λ v. IsWork p (length path) v × ((w.depth ≤ v.depth) × (v.under ≤ w.under))) (IsWork q (length to)) (λ v k. (omega (arith, k.0.0, Extends-length x), omega (arith, k.0.1, Extends-length x), omega (arith, k.1.1, longer))) ws rest_both

    -- what is kept, as the pool grows and with other pairs that wait
    kept_stays : (vs : List Work) → ((d : ℕ) (t u : Term) → Follows g s fuel (item p path w ∷ items p path ws) d t u → Follows g s fuel (items q to vs) d t u) → (i j d : ℕ) → yes_at m i j ≡ Some d → IsKept g s fuel q (items q to vs) i j d
    kept_stays vs f i j d k =
        let old = h.kept i j d k in
        record {
          left = omega (arith, old.left, Extends-length x);
          right = omega (arith, old.right, Extends-length x);
          follows = f d (tree q i) (tree q j) (subst₂ (Follows g s fuel (item p path w ∷ items p path ws) d) (sym (Extends-tree i x old.left)) (sym (Extends-tree j x old.right)) old.follows);
        }

    pub moved_yes : IsYes g s fuel (item p path w) → Moves g s fuel p path (w ∷ ws) q to m ws
    moved_yes y = record {
      going = record {
        within = rest_within;
        ordered = h.ordered.1;
        kept = kept_stays ws (λ d t u f. record { by = λ all. f.by ((λ l. y), subst (AllByRecursion (λ i. i.depth < d → IsYes g s fuel i)) rest_same all) });
      };
      leads = λ v k. inl (y, subst (λ is. InTurn g s fuel is v) rest_same k);
      less = omega (arith, turns-pos w.depth);
    }

    pub moved_parts : (n : Depths) (d : ℕ) (ps : List Part) → w.depth ≡ suc d → (AreSame s (tree p w.left) (tree p w.right) → ⊥) → HaveParts (tree p w.left) (tree p w.right) q ps → Puts m w.left w.right w.depth n → length ps < 2 ^ 64
        → Moves g s fuel p path (w ∷ ws) q to n (map (work_of (length to) d) ps ++ ws)
    moved_parts n d ps k same o put few =
        let i = item p path w in
        let vs = map (work_of (length to) d) ps in
        let opened = is_opened i d q ps k same o in
        let all : items q to (vs ++ ws) ≡ map (child d i.path) (map (part_in (tree q)) ps) ++ items p path ws =
        map-append (item q to) vs ws ∙ ap₂ ◌++◌ (parts_items q to d ps ∙ ap (λ xs. map (child d xs) (map (part_in (tree q)) ps)) e) rest_same in
        let new : IsKept g s fuel q (items q to (vs ++ ws)) w.left w.right w.depth = record {
          left = omega (arith, h.within.0.0, Extends-length x);
          right = omega (arith, h.within.0.1, Extends-length x);
          follows = subst₂ (Follows g s fuel (items q to (vs ++ ws)) w.depth) (sym (Extends-tree w.left x h.within.0.0)) (sym (Extends-tree w.right x h.within.0.1))
              (subst (λ is. Follows g s fuel is w.depth i.left i.right) (sym all) (opened_new i d (map (part_in (tree q)) ps) (items p path ws) opened));
        } in
        record {
          going = record {
            within = all-append (IsWork q (length to)) vs ws (all-map (PartBelow (length q.trees)) (IsWork q (length to)) (work_of (length to) d) (λ y z. (z.0, z.1, omega arith)) ps o.stands) rest_within;
            ordered = ordered_parts (length to) d ps ws (all-weaker (λ v. (w.depth ≤ v.depth) × (v.under ≤ w.under)) (λ v. (d ≤ v.depth) × (v.under ≤ length to)) (λ v z. (omega (arith, z.0, k), omega (arith, z.1, longer))) ws h.ordered.0) h.ordered.1;
            kept = λ a b c y. ⊎_elim
                (λ z. kept_stays (vs ++ ws) (λ l t u f. subst (λ is. Follows g s fuel is l t u) (sym all) (opened_follows i d (map (part_in (tree q)) ps) (items p path ws) l t u opened f)) a b c (sym z ∙ y))
                (λ z. let f : w.depth ≡ c = cc (z.2, y) in
                subst (λ a. IsKept g s fuel q (items q to (vs ++ ws)) a b c) (sym z.0)
                (subst (λ b. IsKept g s fuel q (items q to (vs ++ ws)) w.left b c) (sym z.1)
                (subst (λ c. IsKept g s fuel q (items q to (vs ++ ws)) w.left w.right c) f new)))
                (put.elsewhere a b);
          };
          leads = λ v y. opened_leads i d (map (part_in (tree q)) ps) (items p path ws) v opened (subst (λ is. InTurn g s fuel is v) all y);
          less = omega (arith, weigh_append vs ws, weigh_parts (length to) d ps, fewer (length ps) d few, ap turns k);
        }
