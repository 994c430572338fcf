-- What keeping one more node leaves of a pool: the nodes, and what is known of each.
use Rattle.std.specs.Prelude.{◌≡◌, ◌⊎◌, ℕ, ◌+◌, ◌<◌, ◌^◌, List, [], ◌∷◌, ◌++◌, length, get_or, take, Some, None, Option}
use Rattle.std.specs.Option.{unwrap_or}
use Rattle.std.proofs.Common.{sym, ap, ◌∙◌, subst, inl, inr, ⊎_elim, arith, length-append, length-take, get_or-take}
use Rattle.std.proofs.Math.Seq.{take-append_seam, take-length, get_or-append_seam}
use Rattle.std.proofs.lemmas.List.{get_or_append_left, get_or_default}
use Rattle.std.proofs.lemmas.Bool.{cases_order}
use Rattle.indexmap.specs.IndexSet.{insert_key}
use Rattle.core_rules.specs.Term.{Term, Sort, nameless}
use Rattle.term_pool.specs.declared.node.Node.{Node}
use Rattle.term_pool.specs.declared.measures.Measures.{Measures}
use Rattle.term_pool.specs.declared.measures.Known.{Known}
use Rattle.term_pool.specs.Measures.{IsMeasured, nothing_known}
use Rattle.term_pool.specs.Pool.{Pool, tree, tree_of, node_tree, Below, AllFollow, AreKnown, ArePool, ClassOf, IsKnown, Extends, trees_after, seen}
use Rattle.term_pool.specs.Growth.{Extends-tree}
use Rattle.term_pool.proofs.Trees.{length-trees, trees_after-push}
use Rattle.term_pool.proofs.Seen.{cut_trees, pushed, pushed-Extends}
use Rattle.term_pool.proofs.Once.{grown, node_eq}

last-longer : {A : Type 0} (xs ys : List A) (x : A) → ys ≡ xs ++ x ∷ [] → length ys ≡ length xs + 1
last-longer xs ys x e = ap length e ∙ length-append xs (x ∷ [])

module _ (ns ms : List Node) (n : Node) (e : ms ≡ insert_key node_eq ns n) where
  pub nodes-old : length ms ≡ length ns → ms ≡ ns
  nodes-old l = ⊎_elim (λ h. h) (λ h. absurd (omega (arith, last-longer ns ms n h))) (grown ns ms n e)

  pub nodes-new : length ms ≡ length ns + 1 → ms ≡ ns ++ n ∷ []
  nodes-new l = ⊎_elim (λ h. absurd (omega (arith, ap length h))) (λ h. h) (grown ns ms n e)

  pub nodes-cut : (k : ℕ) → k ≡ length ns → take k ms ≡ ns
  nodes-cut k l = ap (λ i. take i ms) l ∙ ⊎_elim (λ h. ap (take (length ns)) h ∙ take-length ns) (λ h. ap (take (length ns)) h ∙ take-append_seam ns (n ∷ [])) (grown ns ms n e)

IsKnown-stays : (p q : Pool) (i : ℕ) (k : Known) → Extends p q → i < length p.trees → IsKnown p.trees i k → IsKnown q.trees i k
IsKnown-stays p q i k g l h = record {
  measured = subst (λ t. IsMeasured t k.measures) (sym (Extends-tree i g l)) h.measured;
  within = h.within;
  class = Extends-tree k.class g (omega (arith, h.within)) ∙ (h.class ∙ ap nameless (sym (Extends-tree i g l)));
}

-- the new node is known
last-known : (ns : List Node) (n : Node) (m : Measures) (c : Option ℕ) (i : ℕ) → i ≡ length ns → IsMeasured (node_tree (tree (seen ns)) n) m → ClassOf (seen ns) (node_tree (tree (seen ns)) n) c
    → IsKnown (trees_after [] (ns ++ n ∷ [])) (length ns) (record { measures = m; class = unwrap_or c i })
last-known ns n m c i e h k =
    let us = trees_after [] ns in
    let v = node_tree (tree_of us) n in
    let more : trees_after [] (ns ++ n ∷ []) ≡ us ++ v ∷ [] = trees_after-push [] ns n in
    let here : tree_of (trees_after [] (ns ++ n ∷ [])) (length ns) ≡ v = ap (λ ts. tree_of ts (length ns)) more ∙ (ap (λ j. tree_of (us ++ v ∷ []) j) (sym (length-trees ns)) ∙ get_or-append_seam us v [] (Sort 0)) in
    by_class c k here
  where
    by_class : (c : Option ℕ) → ClassOf (seen ns) (node_tree (tree (seen ns)) n) c → tree_of (trees_after [] (ns ++ n ∷ [])) (length ns) ≡ node_tree (tree (seen ns)) n
        → IsKnown (trees_after [] (ns ++ n ∷ [])) (length ns) (record { measures = m; class = unwrap_or c i })
    by_class None k here = record {
      measured = subst (λ t. IsMeasured t m) (sym here) h;
      within = omega (arith, e);
      class = ap (tree_of (trees_after [] (ns ++ n ∷ []))) e ∙ (here ∙ (sym k ∙ ap nameless (sym here)));
    }
    by_class (Some j) k here = record {
      measured = subst (λ t. IsMeasured t m) (sym here) h;
      within = omega (arith, k.within, length-trees ns);
      class = Extends-tree j (pushed-Extends ns n) k.within ∙ (k.is ∙ ap nameless (sym here));
    }

pub pool-new : (ns ms : List Node) (ks ls : List Known) (n : Node) (m : Measures) (c : Option ℕ) (i : ℕ) → ArePool ns ks → length ns < 2 ^ 27 → ms ≡ ns ++ n ∷ [] → i ≡ length ns
    → ls ≡ ks ++ (record { measures = m; class = unwrap_or c i }) ∷ []
    → Below (tree (seen ns)) (length (seen ns).trees) n → IsMeasured (node_tree (tree (seen ns)) n) m → ClassOf (seen ns) (node_tree (tree (seen ns)) n) c
    → ArePool ms ls
pool-new ns ms ks ls n m c i h few e j d b x y =
    let k : Known = record { measures = m; class = unwrap_or c i } in
    subst (λ xs. ArePool xs ls) (sym e) (subst (ArePool (ns ++ n ∷ [])) (sym d) (record {
      follow = pushed ns n h.follow b;
      few = omega (arith, length-append ns (n ∷ []));
      count = length-append ks (k ∷ []) ∙ (ap (λ j. j + 1) h.count ∙ sym (length-append ns (n ∷ [])));
      known = record { at = λ t l. by_order t k (last-known ns n m c i j x y) l (cases_order t (length ks)) };
    }))
  where
    by_order : (t : ℕ) (k : Known) → IsKnown (trees_after [] (ns ++ n ∷ [])) (length ns) k → t < length (ks ++ k ∷ []) → (t ≡ length ks) ⊎ ((t < length ks) ⊎ (length ks < t)) → IsKnown (trees_after [] (ns ++ n ∷ [])) t (get_or (ks ++ k ∷ []) t nothing_known)
    by_order t k z l (inl o) =
        subst (λ t. IsKnown (trees_after [] (ns ++ n ∷ [])) t (get_or (ks ++ k ∷ []) t nothing_known)) (sym o)
        (subst (IsKnown (trees_after [] (ns ++ n ∷ [])) (length ks)) (sym (get_or-append_seam ks k [] nothing_known))
        (subst (λ t. IsKnown (trees_after [] (ns ++ n ∷ [])) t k) (sym h.count) z))
    by_order t k z l (inr (inl o)) =
        subst (IsKnown (trees_after [] (ns ++ n ∷ [])) t) (sym (get_or_append_left ks (k ∷ []) nothing_known t o))
        (IsKnown-stays (seen ns) (seen (ns ++ n ∷ [])) t (get_or ks t nothing_known) (pushed-Extends ns n) (omega (arith, length-trees ns, h.count)) (h.known.at t o))
    by_order t k z l (inr (inr o)) = absurd (omega (arith, length-append ks (k ∷ [])))

-- what is known of the node at a number
pub known-at : (ns : List Node) (ks : List Known) (p : Pool) (t i : ℕ) (k : Known) → seen ns ≡ p → ArePool ns ks → t < length p.trees → i ≡ t → k ≡ get_or ks i k → IsKnown p.trees t k
known-at ns ks p t i k e h l j m =
    subst (λ q. t < length q.trees → IsKnown q.trees t k) e
    (λ l. let within : i < length ks = omega (arith, length-trees ns, h.count) in
    subst (λ t. IsKnown (trees_after [] ns) t k) j (subst (IsKnown (trees_after [] ns) i) (sym (m ∙ any ks i k nothing_known within)) (h.known.at i within))) l
  where
    any : (xs : List Known) (i : ℕ) (a b : Known) → i < length xs → get_or xs i a ≡ get_or xs i b
    any xs i a b l = get_or_default xs i a b l

take_known : (us vs : List Term) (n : ℕ) (ks : List Known) → ((i : ℕ) → i < n → tree_of vs i ≡ tree_of us i) → AreKnown us ks → AreKnown vs (take n ks)
take_known us vs n ks same h = record { at = λ i l. at i l }
  where
    at : (i : ℕ) → i < length (take n ks) → IsKnown vs i (get_or (take n ks) i nothing_known)
    at i l =
        let few : i < n = omega (arith, length-take n ks) in
        let k = h.at i (omega (arith, length-take n ks)) in
        subst (IsKnown vs i) (sym (get_or-take n ks i nothing_known few)) (record {
          measured = subst (λ t. IsMeasured t (get_or ks i nothing_known).measures) (sym (same i few)) k.measured;
          within = k.within;
          class = same (get_or ks i nothing_known).class (omega (arith, k.within)) ∙ (k.class ∙ ap nameless (sym (same i few)));
        })

pub pool-cut : (ns ms : List Node) (ks ls : List Known) (n : ℕ) → ArePool ns ks → ms ≡ take n ns → ls ≡ take n ks → AllFollow [] ms → ArePool ms ls
pool-cut ns ms ks ls n h e d f = record {
  follow = f;
  few = omega (arith, h.few, ap length e, length-take n ns);
  count = omega (arith, h.count, ap length e, length-take n ns, ap length d, length-take n ks);
  known = subst (AreKnown (trees_after [] ms)) (sym d) (take_known (trees_after [] ns) (trees_after [] ms) n ks same h.known);
}
  where
    same : (i : ℕ) → i < n → tree_of (trees_after [] ms) i ≡ tree_of (trees_after [] ns) i
    same i l = ap (λ ts. tree_of ts i) ((ap (trees_after []) e) ∙ cut_trees n ns) ∙ get_or-take n (trees_after [] ns) i (Sort 0) l
