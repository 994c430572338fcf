-- What the methods of a pool do, of its nodes.
use Rattle.std.specs.Prelude.{◌≡◌, ◌⊎◌, ℕ, ◌<◌, ◌≤◌, List, [], ◌∷◌, ◌++◌, length, get_or, take, drop}
use Rattle.std.proofs.Common.{inl, inr, sym, ap, ◌∙◌, arith, subst, take-append-drop, length-take-le, take_all}
use Rattle.std.proofs.Math.Seq.{take-append_seam}
use Rattle.term_pool.specs.declared.node.Node.{Node}
use Rattle.term_pool.specs.Pool.{Pool, Below, tree_of, IsAt, trees_after, AllFollow, Extends, seen, cut_to}
use Rattle.term_pool.proofs.Trees.{is_at, length-trees, trees_after-push, AllFollow-push, AllFollow-first, trees-first}

-- the node at a number
pub seen-at : (ks : List Node) (p : Pool) (t i : ℕ) (k : Node) → seen ks ≡ p → AllFollow [] ks → t < length p.trees → i ≡ t → k ≡ get_or ks i k → IsAt p.trees t k
seen-at ks p t i k e h l j m =
    subst (λ q. t < length q.trees → IsAt q.trees t k) e
    (λ l. let l' : t < length ks = omega (arith, length-trees ks) in
    subst (λ x. IsAt (trees_after [] ks) t x) (sym m) (rw j (is_at ks t k h l'))) l

pub seen-length : (ks : List Node) (p : Pool) → seen ks ≡ p → length p.trees ≡ length ks
seen-length ks p e = subst (λ q. length q.trees ≡ length ks) e (length-trees ks)

pub pushed : (ks : List Node) (k : Node) → AllFollow [] ks → Below (tree_of (trees_after [] ks)) (length (trees_after [] ks)) k → AllFollow [] (ks ++ k ∷ [])
pushed ks k h m = AllFollow-push [] ks k h m

pub pushed-Extends : (ks : List Node) (k : Node) → Extends (seen ks) (seen (ks ++ k ∷ []))
pushed-Extends ks k = record { trees = rw (trees_after-push [] ks k) (take-append_seam (trees_after [] ks) _) }

cut_by : (n : ℕ) (ks : List Node) → (n ≤ length ks) ⊎ (length ks ≤ n) → trees_after [] (take n ks) ≡ take n (trees_after [] ks)
cut_by n ks (inl l) =
    sym (subst (λ xs. take n (trees_after [] xs) ≡ trees_after [] (take n ks)) (take-append-drop n ks)
    (subst (λ j. take j (trees_after [] (take n ks ++ drop n ks)) ≡ trees_after [] (take n ks)) (length-take-le n ks l) (trees-first (take n ks) (drop n ks))))
cut_by n ks (inr l) = ap (trees_after []) (take_all n ks l) ∙ sym (take_all n (trees_after [] ks) (omega (arith, length-trees ks)))

two : (n m : ℕ) → (n ≤ m) ⊎ (m ≤ n)
two n m = grind arith

pub cut_trees : (n : ℕ) (ks : List Node) → trees_after [] (take n ks) ≡ take n (trees_after [] ks)
cut_trees n ks = cut_by n ks (two n (length ks))

pub seen-cut : (ks ks' : List Node) (p : Pool) (n : ℕ) → seen ks ≡ p → AllFollow [] ks → ks' ≡ take n ks → AllFollow [] ks' × (seen ks' ≡ cut_to n p)
seen-cut ks ks' p n e h c =
    subst (λ q. AllFollow [] ks' × (seen ks' ≡ cut_to n q)) e
    (subst (λ xs. AllFollow [] xs × (seen xs ≡ cut_to n (seen ks))) (sym c) (
      AllFollow-first [] (take n ks) (drop n ks) (rw (take-append-drop n ks) h),
      ap (λ ts. record { trees = ts }) (cut_trees n ks),
    ))
