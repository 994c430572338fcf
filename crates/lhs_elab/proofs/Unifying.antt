-- What the unifier answers, to a left side.
use Rattle.std.proofs.Common.{◌≡◌, ℕ, zero, suc, List, [], ◌∷◌, length, map, refl, ap, subst, ◌∙◌, arith}
use Rattle.std.specs.Prelude.{reverse}
use Rattle.std.proofs.lemmas.List.{length-map, length-reverse}
use Rattle.core_rules.specs.Term.{Term}
use Rattle.core_rules.specs.Signature.{Branch, Context, Entry}
use Rattle.core_rules.specs.Mapped.{branch_map, entry_map, telescope_map}
use Rattle.core_rules.specs.Unification.{Solution}
use Rattle.unify_rules.specs.Joined.{entries_of, keep_of, values_from}
use Rattle.unify_rules.specs.Unifier.{Outcome}
use Rattle.term_pool.specs.Pool.{Pool, tree}
use Rattle.core_rules.specs.Unification.{Equation}
use Rattle.core_rules.specs.UnifierAnswers.{UnifiedBy, NeverUnified, StuckAt, NoFuel, NoDepth}
use Rattle.kernel_rules.specs.Outcome.{Gives, Refuses}
use Rattle.el_outside.specs.declared.place.Pos.{Pos}
use Rattle.lhs_rules.specs.Refusals.{Impossible, NotAbsurd, UnifyStuck, at}
use Rattle.lhs_rules.specs.Refusals as refusal
use Rattle.lhs_rules.specs.Rules.{refuted, unified}
use Rattle.lhs_elab.specs.Elaborator.{Over, Comes}
use Rattle.index_unify.specs.declared.unified.Reason.{Reason}
use Rattle.index_unify.specs.Unified.{IsAnswered, IsUnified, IsSolved, context_in}
use Rattle.index_unify.specs.declared.unified.Unified as N
use Rattle.index_unify.specs.declared.unified.Unified.TheVariants.{Solved, Refuted, Stuck, OutOfFuel, OutOfDepth, NoMemory}
use Rattle.lhs_elab.specs.Asked.{UnifiedBelow, Unifies}
use Rattle.lhs_elab.specs.Branches.{IsBranch}
use Rattle.lhs_elab.proofs.Contexts.{context-length}

entries-count : (c : Context Term) (ts : List Term) (ks : List ℕ) → length (entries_of c ts ks) ≡ length ks
entries-count c ts [] = refl
entries-count c ts (k ∷ ks) = ap suc (entries-count c ts ks)

values-count : (ss : List Solution) (ks : List ℕ) (k n : ℕ) → length (values_from ss ks k n) ≡ n
values-count ss ks k zero = refl
values-count ss ks k (suc n) = ap suc (values-count ss ks (suc k) n)

solved-branch : (V : Outcome → Type 0) (p : Pool) (c : Context Term) (b : Branch ℕ) → IsSolved V p c b → IsBranch (length p.trees) (length c) b
solved-branch V p c b h =
    let ks = keep_of (length c) h.types h.solutions in
    let k : b.keep ≡ ks = ap (λ (d : Branch Term). d.keep) h.branch in
    let kept : length b.keep ≡ length ks = ap (λ (js : List ℕ). length js) k in
    let context : length (telescope_map (tree p) b.context) ≡ length (reverse (entries_of c h.types ks)) = ap (λ (d : Branch Term). length d.context) h.branch in
    let values : length (map (tree p) b.values) ≡ length (values_from h.solutions ks 0 (length c)) = ap (λ (d : Branch Term). length d.values) h.branch in
    record {
      context = h.stands.context;
      values = h.stands.values;
      keep = omega (arith, kept, context, length-map b.context (entry_map (tree p)), length-reverse (entries_of c h.types ks), entries-count c h.types ks);
      count = omega (arith, values, length-map b.values (tree p), values-count h.solutions ks 0 (length c));
    }

pub unified-below : (p q : Pool) (es : List (Entry ℕ)) (h : Term → Term) (V : Outcome → Type 0) (u : N.Unified) → IsUnified V q (telescope_map h (context_in p es)) u → UnifiedBelow (length q.trees) (length es) u
unified-below p q es h V (Solved b) k =
    let n : length (telescope_map h (context_in p es)) ≡ length es = length-map (context_in p es) (entry_map h) ∙ context-length p es in
    subst (λ (m : ℕ). IsBranch (length q.trees) m b) n (solved-branch V q (telescope_map h (context_in p es)) b k)
unified-below p q es h V (Refuted r) k = tt
unified-below p q es h V (Stuck t u) k = (k.left, k.right)
unified-below p q es h V OutOfFuel k = tt
unified-below p q es h V OutOfDepth k = tt
unified-below p q es h V NoMemory k = tt

-- ---- what it is to a left side

module _ (o : Over) (pos : Pos) (d : Context Term) (es : List Equation) (p : Pool) where
  pub gives-branch : (u : N.Unified) (b : Branch ℕ) → u ≡ Solved b → IsAnswered (Unifies o d es) p u → Comes o (unified pos d es) (Gives (branch_map (tree p) b))
  gives-branch u b e h = let k : IsAnswered (Unifies o d es) p (Solved b) = subst (λ (v : N.Unified). IsAnswered (Unifies o d es) p v) e h in (UnifiedBy k.0 (branch_map (tree p) b), k.1, refl)

  pub is-impossible : (u : N.Unified) (r : Reason) → u ≡ Refuted r → IsAnswered (Unifies o d es) p u → Comes o (unified pos d es) (Refuses (at pos Impossible))
  is-impossible u r e h = let k : IsAnswered (Unifies o d es) p (Refuted r) = subst (λ (v : N.Unified). IsAnswered (Unifies o d es) p v) e h in (NeverUnified, k, refl)

  pub is-stuck : (u : N.Unified) (t v : ℕ) → u ≡ Stuck t v → IsAnswered (Unifies o d es) p u → Comes o (unified pos d es) (Refuses (at pos (UnifyStuck d (tree p t) (tree p v))))
  is-stuck u t v e h = let k : IsAnswered (Unifies o d es) p (Stuck t v) = subst (λ (w : N.Unified). IsAnswered (Unifies o d es) p w) e h in (StuckAt (tree p t) (tree p v), k, refl)

  pub no-fuel : (u : N.Unified) → u ≡ OutOfFuel → IsAnswered (Unifies o d es) p u → Comes o (unified pos d es) (Refuses (at pos refusal.OutOfFuel))
  no-fuel u e h = let k : IsAnswered (Unifies o d es) p OutOfFuel = subst (λ (w : N.Unified). IsAnswered (Unifies o d es) p w) e h in (NoFuel, k, refl)

  pub no-depth : (u : N.Unified) → u ≡ OutOfDepth → IsAnswered (Unifies o d es) p u → Comes o (unified pos d es) (Refuses (at pos refusal.OutOfDepth))
  no-depth u e h = let k : IsAnswered (Unifies o d es) p OutOfDepth = subst (λ (w : N.Unified). IsAnswered (Unifies o d es) p w) e h in (NoDepth, k, refl)

  pub not-refuted : (u : N.Unified) (b : Branch ℕ) → u ≡ Solved b → IsAnswered (Unifies o d es) p u → Comes o (refuted pos d es) (Refuses (at pos NotAbsurd))
  not-refuted u b e h = let k : IsAnswered (Unifies o d es) p (Solved b) = subst (λ (v : N.Unified). IsAnswered (Unifies o d es) p v) e h in (UnifiedBy k.0 (branch_map (tree p) b), k.1, refl)

  pub is-refuted : (u : N.Unified) (r : Reason) → u ≡ Refuted r → IsAnswered (Unifies o d es) p u → Comes o (refuted pos d es) (Gives tt)
  is-refuted u r e h = let k : IsAnswered (Unifies o d es) p (Refuted r) = subst (λ (v : N.Unified). IsAnswered (Unifies o d es) p v) e h in (NeverUnified, k, refl)

  pub refuted-stuck : (u : N.Unified) (t v : ℕ) → u ≡ Stuck t v → IsAnswered (Unifies o d es) p u → Comes o (refuted pos d es) (Refuses (at pos (UnifyStuck d (tree p t) (tree p v))))
  refuted-stuck u t v e h = let k : IsAnswered (Unifies o d es) p (Stuck t v) = subst (λ (w : N.Unified). IsAnswered (Unifies o d es) p w) e h in (StuckAt (tree p t) (tree p v), k, refl)

  pub refuted-no_fuel : (u : N.Unified) → u ≡ OutOfFuel → IsAnswered (Unifies o d es) p u → Comes o (refuted pos d es) (Refuses (at pos refusal.OutOfFuel))
  refuted-no_fuel u e h = let k : IsAnswered (Unifies o d es) p OutOfFuel = subst (λ (w : N.Unified). IsAnswered (Unifies o d es) p w) e h in (NoFuel, k, refl)

  pub refuted-no_depth : (u : N.Unified) → u ≡ OutOfDepth → IsAnswered (Unifies o d es) p u → Comes o (refuted pos d es) (Refuses (at pos refusal.OutOfDepth))
  refuted-no_depth u e h = let k : IsAnswered (Unifies o d es) p OutOfDepth = subst (λ (w : N.Unified). IsAnswered (Unifies o d es) p w) e h in (NoDepth, k, refl)
