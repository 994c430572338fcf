-- One move of a call at a node of its tree, and of a term by what its spine has.
use Rattle.std.specs.Prelude.{◌≡◌, ℕ, true, false, eqb, cond, ◌+◌, List, [], ◌∷◌, length, reverse, drop, slice_get, Option, Some, None, option_map, refl}
use Rattle.std.proofs.Common.{sym, ap, ap₂, ◌∙◌, subst}
use Rattle.core_rules.specs.Term.{Term, App}
use Rattle.core_rules.specs.Signature.{Tree, Cosplit, Branch, CoBranches, NoField, OnField, co_branch, ConBranches, NoCon, Refuted, Goes, con_branch, Signature}
use Rattle.core_rules.specs.Mapped.{tree_map, co_branches_map, AllTree, AllCoBranches, AllConBranches}
use Rattle.core_rules.specs.Elimination.{Elim, Field}
use Rattle.core_rules.specs.Heads.{Solutions, Form}
use Rattle.core_rules.specs.BoundedLaws.{next_node, at_field}
use Rattle.core_rules.proofs.Heads.OneAnswer.{one_some}
use Rattle.core_rules.proofs.Heads.Mapped.{co_branch-map}
use Rattle.weak_head.specs.declared.elim.Elim as E
use Rattle.weak_head.specs.declared.elim.Elim.TheVariants as V
use Rattle.core_rules.specs.Elimination.{elim_by}
use Rattle.term_pool.specs.Pool.{Pool, Extends, tree, node_tree}
use Rattle.term_pool.specs.Growth.{Extends-tree}
use Rattle.weak_head.specs.Answers.{elim_node}
use Rattle.weak_head.specs.Elims.{elim_in, spine_in, Below}
use Rattle.weak_head.specs.Pending.{AtTerm, AtTree, AtAnswer, Frame, Run, On, by_node, move}
use Rattle.weak_head.proofs.Spines.{elim_at, drop_next, drop_end}
use Rattle.weak_head.proofs.Moves.{term_as}

module _ (f : ℕ → Term) (xs : List E.Elim) (n : ℕ) where
  pub left_none : None ≡ slice_get (reverse xs) n → drop n (spine_in f xs) ≡ []
  left_none e = drop_end (spine_in f xs) n (elim_at f xs n None e)

  pub left_some : (x : E.Elim) → Some x ≡ slice_get (reverse xs) n → drop n (spine_in f xs) ≡ elim_in f x ∷ drop (n + 1) (spine_in f xs)
  left_some x e = drop_next (spine_in f xs) n (elim_in f x) (elim_at f xs n (Some x) e)

module _ (g : Signature Term) (s : Solutions) (fs : List Frame) where
  pub form_as : {h t : Term} {es ds : List Elim} → h ≡ t → es ≡ ds → On (AtAnswer (Form t ds)) fs ≡ move g s (AtTerm t ds) fs → On (AtAnswer (Form h es)) fs ≡ move g s (AtTerm h es) fs
  form_as {h} {t} {es} {ds} e d x = term_as g s fs e d (ap₂ (λ t es. On (AtAnswer (Form t es)) fs) e d ∙ x)

  module _ (h : Term) (all : List Elim) (r : List Term) where
    pub node_as : (T : Tree Term) {es ds : List Elim} {x : Run} → es ≡ ds → x ≡ by_node h all r ds fs (next_node g T r ds) → x ≡ by_node h all r es fs (next_node g T r es)
    node_as T e x = x ∙ ap (λ es. by_node h all r es fs (next_node g T r es)) (sym e)

    pub cosplit_no : (bs : CoBranches Term) (k : ℕ) (es : List Elim) → co_branch bs k ≡ None → On (AtAnswer (Form h all)) fs ≡ by_node h all r (Field k ∷ es) fs (next_node g (Cosplit bs) r (Field k ∷ es))
    cosplit_no bs k es e = ap (λ o. by_node h all r (Field k ∷ es) fs (at_field o r es)) (sym e)

    pub cosplit_yes : (bs : CoBranches Term) (k : ℕ) (es : List Elim) (T : Tree Term) → co_branch bs k ≡ Some T → On (AtTree h all T r es) fs ≡ by_node h all r (Field k ∷ es) fs (next_node g (Cosplit bs) r (Field k ∷ es))
    cosplit_yes bs k es T e = ap (λ o. by_node h all r (Field k ∷ es) fs (at_field o r es)) (sym e)

pub co_none : (f : ℕ → Term) (bs : CoBranches ℕ) (k : ℕ) → co_branch bs k ≡ None → co_branch (co_branches_map f bs) k ≡ None
co_none f bs k e = co_branch-map f bs k ∙ ap (option_map (tree_map f)) e

pub co_some : (f : ℕ → Term) (bs : CoBranches ℕ) (k : ℕ) (T : Tree ℕ) → co_branch bs k ≡ Some T → co_branch (co_branches_map f bs) k ≡ Some (tree_map f T)
co_some f bs k T e = co_branch-map f bs k ∙ ap (option_map (tree_map f)) e

pub co_stands : (P : ℕ → Type 0) (bs : CoBranches ℕ) (k : ℕ) (T : Tree ℕ) → co_branch bs k ≡ Some T → AllCoBranches P bs → AllTree P T
co_stands P NoField k T e h = absurd cc
co_stands P (OnField n U bs) k T e h =
    (elim (eqb n k) as (λ o. cond o (Some U) (co_branch bs k) ≡ Some T → AllTree P T) [ true ↦ λ e. subst (AllTree P) (one_some e) h.0 | false ↦ λ e. co_stands P bs k T e h.1 ]) e

-- the branch of a constructor stands in the pool
pub con_stands : (P : ℕ → Type 0) (bs : ConBranches ℕ) (k : ℕ) (b : Branch ℕ) (T : Tree ℕ) → con_branch bs k ≡ Some (b, T) → AllConBranches P bs → AllTree P T
con_stands P NoCon k b T e h = absurd cc
con_stands P (Refuted n bs) k b T e h =
    (elim (eqb n k) as (λ o. ◌≡◌ {A = Option (Branch ℕ × Tree ℕ)} (cond o None (con_branch bs k)) (Some (b, T)) → AllTree P T) [ true ↦ λ e. absurd cc | false ↦ λ e. con_stands P bs k b T e h ]) e
con_stands P (Goes n c U bs) k b T e h =
    (elim (eqb n k) as (λ o. ◌≡◌ {A = Option (Branch ℕ × Tree ℕ)} (cond o (Some (c, U)) (con_branch bs k)) (Some (b, T)) → AllTree P T) [ true ↦ λ e. subst (AllTree P) (ap (λ p. p.1) (one_some e)) h.1 | false ↦ λ e. con_stands P bs k b T e h.2 ]) e

-- an elimination more, in a pool that has grown
pub over_tree : {p q : Pool} → Extends p q → (t : ℕ) (e : E.Elim) → Below (length p.trees) e → node_tree (tree q) (elim_node t e) ≡ elim_by (tree q t) (elim_in (tree p) e)
over_tree {p} {q} g t (V.Arg b u) h = ap (App b (tree q t)) (Extends-tree u g h)
over_tree {p} {q} g t (V.Field k) h = refl
