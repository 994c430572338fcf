-- The types of entries, read one after the other.
use Rattle.std.proofs.Common.{◌≡◌, ◌<◌, ℕ, ◌+◌, List, [], ◌∷◌, ◌++◌, length, refl, subst, sym, arith}
use Rattle.core_rules.specs.Term.{Term}
use Rattle.core_rules.specs.Signature.{Entry, Context, Signature}
use Rattle.core_rules.specs.Mapped.{AllEntries, entry_map, telescope_map}
use Rattle.core_rules.specs.InScope.{InScope, TelescopeInScope, any_meta}
use Rattle.el_base.proofs.Throughout.{all-push}
use Rattle.kernel_rules.specs.Outcome.{Outcome, Gives, Refuses, goes_on, stops}
use Rattle.kernel_rules.specs.Refusals.{Refusal}
use Rattle.kernel_rules.specs.TermReading.{IsTypeOf}
use Rattle.kernel_rules.specs.FamilyReading.{LevelsOf}
use Rattle.tree_kernel.specs.declared.reader.Reader.{Reader}
use Rattle.tree_kernel.specs.Jobs.{context_by}
use Rattle.core_kernel.proofs.Contexts.{context_in-extends}
use Rattle.tree_kernel.proofs.Reading.{signature_kept, term_kept}
use Rattle.tree_kernel.specs.Reader.{IsReady, Grows, signature_of, term_of, fuel_of, depth_of}
use Rattle.tree_kernel.proofs.Openings.{context-last}

-- what the entries that are left come to in a context is what all come to
pub record LevelsLeft (x : Reader) (all context left : List (Entry ℕ)) : Type 0 where
  pub context_below : AllEntries (λ i. i < length x.pool.now.trees) context
  pub below : AllEntries (λ i. i < length x.pool.now.trees) left
  pub scope : TelescopeInScope (signature_of x) any_meta (length context) (telescope_map (term_of x) left)
  pub gives : (ns : List ℕ) → LevelsOf (signature_of x) (fuel_of x) (depth_of x) (context_by (term_of x) context) (telescope_map (term_of x) left) (Gives ns)
      → (ms : List ℕ) × LevelsOf (signature_of x) (fuel_of x) (depth_of x) [] (telescope_map (term_of x) all) (Gives ms)
  pub refuses : (e : Refusal) → LevelsOf (signature_of x) (fuel_of x) (depth_of x) (context_by (term_of x) context) (telescope_map (term_of x) left) (Refuses e)
      → LevelsOf (signature_of x) (fuel_of x) (depth_of x) [] (telescope_map (term_of x) all) (Refuses e)

pub levels-first : (x : Reader) (all context : List (Entry ℕ)) → context ≡ [] → AllEntries (λ i. i < length x.pool.now.trees) all
    → TelescopeInScope (signature_of x) any_meta 0 (telescope_map (term_of x) all) → LevelsLeft x all context all
levels-first x all context e h s = subst (λ (c : List (Entry ℕ)). LevelsLeft x all c all) (sym e)
    (record { context_below = tt; below = h; scope = s; gives = λ ns k. (ns, k); refuses = λ r k. k })

module _ (x : Reader) (all context left more : List (Entry ℕ)) (e : Entry ℕ) (h : LevelsLeft x all context left) (l : left ≡ e ∷ more) where
  at : LevelsLeft x all context (e ∷ more)
  at = subst (λ (es : List (Entry ℕ)). LevelsLeft x all context es) l h

  pub level-within : e.ty < length x.pool.now.trees
  level-within = at.below.0

  pub level-scope : InScope (signature_of x) any_meta (length context) (term_of x e.ty)
  level-scope = at.scope.0

  pub level-refused : (r : Refusal) → IsTypeOf (signature_of x) (fuel_of x) (depth_of x) (context_by (term_of x) context) (term_of x e.ty) (Refuses r)
      → LevelsOf (signature_of x) (fuel_of x) (depth_of x) [] (telescope_map (term_of x) all) (Refuses r)
  level-refused r k = at.refuses r (stops r k refl)

  pub level-next : (n : ℕ) (new : List (Entry ℕ)) → IsTypeOf (signature_of x) (fuel_of x) (depth_of x) (context_by (term_of x) context) (term_of x e.ty)
      (Gives n) → new ≡ context ++ e ∷ [] → LevelsLeft x all new more
  level-next n new k m =
      let f : ℕ → Term = term_of x in
      let c : context_by f (context ++ e ∷ []) ≡ entry_map f e ∷ context_by f context = context-last f context e in
      subst (λ (c : List (Entry ℕ)). LevelsLeft x all c more) (sym m) (record {
        context_below = all-push (λ (z : Entry ℕ). z.ty < length x.pool.now.trees) context e at.context_below at.below.0;
        below = at.below.1;
        scope = let q : length context + 1 ≡ length (context ++ e ∷ []) =
            count context in subst (λ (n : ℕ). TelescopeInScope (signature_of x) any_meta n (telescope_map f more)) q at.scope.1;
        gives = λ ns d. at.gives (n ∷ ns) (goes_on n k
            (goes_on ns (subst (λ (d : Context Term). LevelsOf (signature_of x) (fuel_of x) (depth_of x) d (telescope_map f more) (Gives ns)) c d) refl));
        refuses = λ r d. at.refuses r (goes_on n k
            (stops r (subst (λ (d : Context Term). LevelsOf (signature_of x) (fuel_of x) (depth_of x) d (telescope_map f more) (Refuses r)) c d) refl));
      })
    where
      count : (es : List (Entry ℕ)) → length es + 1 ≡ length (es ++ e ∷ [])
      count [] = omega arith
      count (y ∷ es) = let a = count es in omega (arith, a)

pub levels-all : (x : Reader) (all context left : List (Entry ℕ)) → LevelsLeft x all context left → left ≡ [] → (ns : List ℕ)
    × LevelsOf (signature_of x) (fuel_of x) (depth_of x) [] (telescope_map (term_of x) all) (Gives ns)
levels-all x all context left h l = (subst (λ (es : List (Entry ℕ)). LevelsLeft x all context es) l h).gives [] refl

-- what is said of a reader that went on, said of the one before it
pub level-here : (x y : Reader) → IsReady x → Grows x y → (context : List (Entry ℕ)) (t : ℕ) → AllEntries (λ i. i < length x.pool.now.trees) context
    → t < length x.pool.now.trees → (o : Outcome Refusal ℕ)
    → IsTypeOf (signature_of y) (fuel_of x) (depth_of x) (context_by (term_of y) context) (term_of y t) o
    → IsTypeOf (signature_of x) (fuel_of x) (depth_of x) (context_by (term_of x) context) (term_of x t) o
level-here x y r g context t a l o h =
    subst (λ (u : Term). IsTypeOf (signature_of x) (fuel_of x) (depth_of x) (context_by (term_of x) context) u o) (term_kept r g t l)
    (subst (λ (c : Context Term). IsTypeOf (signature_of x) (fuel_of x) (depth_of x) c (term_of y t) o)
    (context_in-extends x.pool.now y.pool.now context g.extends a)
    (subst (λ (k : Signature Term). IsTypeOf k (fuel_of x) (depth_of x) (context_by (term_of y) context) (term_of y t) o) (signature_kept r g) h))

pub scope-here : (x y : Reader) → IsReady x → Grows x y → (n t : ℕ) → t < length x.pool.now.trees → InScope (signature_of x) any_meta n (term_of x t)
    → InScope (signature_of y) any_meta n (term_of y t)
scope-here x y r g n t l h = subst (λ (u : Term). InScope (signature_of y) any_meta n u) (sym (term_kept r g t l))
    (subst (λ (k : Signature Term). InScope k any_meta n (term_of x t)) (sym (signature_kept r g)) h)
