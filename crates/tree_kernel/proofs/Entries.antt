-- Entries of a telescope and of a context that are put under environments one after the other.
use Rattle.std.proofs.Common.{◌≡◌, ◌<◌, ℕ, suc, ◌+◌, List, [], ◌∷◌, ◌++◌, length, map, append_assoc, refl, sym, ap, ap₂, subst, ◌∙◌, arith}
use Rattle.std.proofs.lemmas.List.{map-append}
use Rattle.el_base.proofs.Throughout.{all-push}
use Rattle.core_rules.specs.Term.{Term}
use Rattle.core_rules.specs.Substitution.{shift, under}
use Rattle.core_rules.specs.Signature.{Entry, Telescope}
use Rattle.core_rules.specs.Mapped.{AllEntries, entry_map, telescope_map}
use Rattle.core_rules.specs.TypedTree.{vars, entries_under}
use Rattle.term_pool.specs.Pool.{Pool, Extends, StandsFor, tree}
use Rattle.term_pool.specs.Growth.{Extends-tree}
use Rattle.declared_types.proofs.Grown.{entries-weaker, telescope-stays}
use Rattle.tree_kernel.specs.Stand.{StandEntries}

pub entries-more : (p q : Pool) (es : List (Entry ℕ)) (ts : Telescope Term) → Extends p q → StandEntries p es ts → StandEntries q es ts
entries-more p q es ts e s = record { below = entries-weaker p q es e s.below; is = telescope-stays p q es e s.below ∙ s.is }

-- an entry with another type
pub entries-push : (p : Pool) (es new : List (Entry ℕ)) (e x : Entry ℕ) (i : ℕ) (ts : Telescope Term) (t : Term) → new ≡ es ++ x ∷ []
    → x ≡ record { name = e.name; flag = e.flag; ty = i } → StandEntries p es ts → StandsFor p i t
    → StandEntries p new (ts ++ record { name = e.name; flag = e.flag; ty = t } ∷ [])
entries-push p es new e x i ts t n d s h =
    let y : Entry ℕ = record { name = e.name; flag = e.flag; ty = i } in
    let m : new ≡ es ++ y ∷ [] = n ∙ ap (λ (z : Entry ℕ). es ++ z ∷ []) d in
    subst (λ (xs : List (Entry ℕ)). StandEntries p xs (ts ++ record { name = e.name; flag = e.flag; ty = t } ∷ [])) (sym m) (record {
      below = all-push (λ (z : Entry ℕ). z.ty < length p.trees) es y s.below h.within;
      is = map-append (entry_map (tree p)) es (y ∷ []) ∙ ap₂ (λ (us : Telescope Term) (u : Term). us ++ record { name = e.name; flag = e.flag; ty = u } ∷ [])
          s.is h.is;
    })

-- of all the entries these are left, and the others are made, under the terms
pub record Enters (p q : Pool) (params : List ℕ) (all left made : List (Entry ℕ)) (count : ℕ) : Type 0 where
  pub below : AllEntries (λ i. i < length p.trees) left
  pub terms : Telescope Term
  pub stand : StandEntries q made terms
  pub is : terms ++ entries_under (map (tree p) params) count (telescope_map (tree p) left) ≡ entries_under (map (tree p) params) 0 (telescope_map (tree p) all)

pub enters-first : (p : Pool) (params : List ℕ) (all made : List (Entry ℕ)) → AllEntries (λ i. i < length p.trees) all → made ≡ []
    → Enters p p params all all made 0
enters-first p params all made h e = record {
  below = h;
  terms = [];
  stand = subst (λ (es : List (Entry ℕ)). StandEntries p es []) (sym e) (record { below = tt; is = refl });
  is = refl;
}

pub enters-next : (p q r : Pool) (params : List ℕ) (all left more made new : List (Entry ℕ)) (count next i : ℕ) (e x : Entry ℕ)
    → Enters p q params all left made count → Extends p q → Extends q r → left ≡ e ∷ more → next ≡ count + 1
    → new ≡ made ++ x ∷ [] → x ≡ record { name = e.name; flag = e.flag; ty = i }
    → StandsFor r i (under (vars 0 count ++ map (λ t. shift t 0 count) (map (tree p) params)) (tree q e.ty)) → Enters p r params all more new next
enters-next p q r params all left more made new count next i e x h j k l m n d s =
    let b : AllEntries (λ i. i < length p.trees) (e ∷ more) = subst (AllEntries (λ i. i < length p.trees)) l h.below in
    let ps : List Term = map (tree p) params in
    let env : List Term = vars 0 count ++ map (λ t. shift t 0 count) ps in
    let t : Term = under env (tree p e.ty) in
    let s' : StandsFor r i t = subst (λ (w : Term). StandsFor r i (under env w)) (Extends-tree e.ty j b.0) s in
    let y : Entry Term = record { name = e.name; flag = e.flag; ty = t } in
    let c : next ≡ suc count = omega (arith, m) in
    record {
      below = b.1;
      terms = h.terms ++ y ∷ [];
      stand = entries-push r made new e x i h.terms t n d (entries-more q r made h.terms k h.stand) s';
      is = ap (λ (n : ℕ). (h.terms ++ y ∷ []) ++ entries_under ps n (telescope_map (tree p) more)) c
          ∙ (append_assoc h.terms (y ∷ []) (entries_under ps (suc count) (telescope_map (tree p) more))
          ∙ (ap (λ (es : List (Entry ℕ)). h.terms ++ entries_under ps count (telescope_map (tree p) es)) (sym l) ∙ h.is));
    }

append-none : (ts : Telescope Term) → ts ++ [] ≡ ts
append-none [] = refl
append-none (t ∷ ts) = ap (λ (us : Telescope Term). t ∷ us) (append-none ts)

pub enters-all : (p q : Pool) (params : List ℕ) (all left made : List (Entry ℕ)) (count : ℕ) → left ≡ [] → Enters p q params all left made count
    → StandEntries q made (entries_under (map (tree p) params) 0 (telescope_map (tree p) all))
enters-all p q params all left made count e h =
    let a : h.terms ++ entries_under (map (tree p) params) count (telescope_map (tree p) left) ≡ h.terms =
    ap (λ (es : List (Entry ℕ)). h.terms ++ entries_under (map (tree p) params) count (telescope_map (tree p) es)) e ∙ append-none h.terms in
    subst (StandEntries q made) (sym a ∙ h.is) h.stand
