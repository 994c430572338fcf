-- The context of a constructor, made entry by entry from the outside.
use Rattle.std.proofs.Common.{◌≡◌, ◌<◌, ◌≤◌, ℕ, zero, suc, ◌+◌, ◌-◌, List, [], ◌∷◌, ◌++◌, length, take, refl, sym, ap, ap₂, subst, ◌∙◌, arith}
use Rattle.std.specs.Prelude.{slice_get, Some}
use Rattle.std.proofs.lemmas.List.{map-append, length-map, length-take-le}
use Rattle.el_base.proofs.Lists.{take_next}
use Rattle.el_base.proofs.Throughout.{all-append}
use Rattle.core_rules.specs.Term.{Term}
use Rattle.core_rules.specs.Substitution.{shift, under}
use Rattle.core_rules.specs.Signature.{Entry, Telescope, Context, onto}
use Rattle.core_rules.specs.Mapped.{AllEntries, entry_map, telescope_map}
use Rattle.core_rules.specs.TypedTree.{vars, into, opened}
use Rattle.core_rules.proofs.Typing.Scoped.{length-onto}
use Rattle.term_pool.specs.Pool.{Pool, Extends, StandsFor, tree}
use Rattle.tree_kernel.specs.Jobs.{context_by}
use Rattle.tree_kernel.specs.Stand.{StandEntries}
use Rattle.tree_kernel.proofs.Entries.{entries-more, entries-push}
use Rattle.tree_kernel.proofs.Parts.{each-take}

onto-append : (xs ys : Telescope Term) (c : Context Term) → onto (xs ++ ys) c ≡ onto ys (onto xs c)
onto-append [] ys c = refl
onto-append (x ∷ xs) ys c = onto-append xs ys (x ∷ c)

pub context-last : (f : ℕ → Term) (es : List (Entry ℕ)) (e : Entry ℕ) → context_by f (es ++ e ∷ []) ≡ entry_map f e ∷ context_by f es
context-last f es e = ap (λ (xs : Telescope Term). onto xs []) (map-append (entry_map f) es (e ∷ [])) ∙ onto-append (telescope_map f es) (entry_map f e ∷ []) []

pub context-length : (f : ℕ → Term) (es : List (Entry ℕ)) → length (context_by f es) ≡ length es
context-length f es = let a = length-onto (telescope_map f es) [] in let b = length-map es (entry_map f) in omega (arith, a, b)

-- an item at each place
pub got : {X : Type 0} (xs : List X) (i : ℕ) → i < length xs → (x : X) × (slice_get xs i ≡ Some x)
got [] i l = absurd (omega (arith, l))
got (x ∷ xs) zero l = (x, refl)
got (x ∷ xs) (suc i) l = got xs i (omega (arith, l))

-- with the innermost `at` entries of so many made
pub record Opens (p q : Pool) (ctx entries : List (Entry ℕ)) (u before at : ℕ) (made : List (Entry ℕ)) : Type 0 where
  pub terms : Telescope Term
  pub stand : StandEntries q made terms
  pub is : onto terms [] ≡ opened at (tree p u) (telescope_map (tree p) entries) (context_by (tree p) (take (before + 1 + at) ctx))

pub opens-first : (p : Pool) (ctx entries made : List (Entry ℕ)) (u before : ℕ) → before < length ctx → AllEntries (λ i. i < length p.trees) ctx
    → AllEntries (λ i. i < length p.trees) entries → made ≡ take before ctx ++ entries → Opens p p ctx entries u before 0 made
opens-first p ctx entries made u before l a b e =
    let f : ℕ → Term = tree p in
    let x = got ctx before l in
    let n : before + 1 + 0 ≡ before + 1 = omega arith in
    let c : context_by f (take (before + 1 + 0) ctx) ≡ entry_map f x.0 ∷ context_by f (take before ctx) =
    ap (λ (k : ℕ). context_by f (take k ctx)) n ∙ (ap (context_by f) (take_next ctx before x.0 x.1) ∙ context-last f (take before ctx) x.0) in
    record {
      terms = telescope_map f (take before ctx) ++ telescope_map f entries;
      stand = subst (λ (es : List (Entry ℕ)). StandEntries p es (telescope_map f (take before ctx) ++ telescope_map f entries)) (sym e) (record {
        below = all-append (λ (z : Entry ℕ). z.ty < length p.trees) (take before ctx) entries (each-take (λ (z : Entry ℕ). z.ty < length p.trees) before ctx a)
            b;
        is = map-append (entry_map f) (take before ctx) entries;
      });
      is = onto-append (telescope_map f (take before ctx)) (telescope_map f entries) [] ∙ ap (opened 0 (tree p u) (telescope_map f entries)) (sym c);
    }

pub opens-next : (p q r : Pool) (ctx entries made new : List (Entry ℕ)) (u before at i : ℕ) (e x : Entry ℕ) → Opens p q ctx entries u before at made
    → Extends q r → slice_get ctx (before + 1 + at) ≡ Some e → before + 1 + at ≤ length ctx
    → new ≡ made ++ x ∷ [] → x ≡ record { name = e.name; flag = e.flag; ty = i }
    → StandsFor r i (under (vars 0 at ++ shift (tree p u) 0 at ∷ vars (at + length entries) before) (tree p e.ty))
    → Opens p r ctx entries u before (at + 1) new
opens-next p q r ctx entries made new u before at i e x h k g w m d s =
    let f : ℕ → Term = tree p in
    let es : Telescope Term = telescope_map f entries in
    let old : List (Entry ℕ) = take (before + 1 + at) ctx in
    let c : Context Term = context_by f old in
    let t : Term = under (vars 0 at ++ shift (f u) 0 at ∷ vars (at + length entries) before) (f e.ty) in
    let y : Entry Term = record { name = e.name; flag = e.flag; ty = t } in
    let n : length c ≡ before + 1 + at = context-length f old ∙ length-take-le (before + 1 + at) ctx w in
    let o : length es ≡ length entries = length-map entries (entry_map f) in
    let z : before + 1 + at - (at + 1) ≡ before = omega arith in
    let v : into at (length c) (length es) (f u) ≡ vars 0 at ++ shift (f u) 0 at ∷ vars (at + length entries) before =
    ap₂ (λ (a b : ℕ). into at a b (f u)) n o ∙ ap (λ (k : ℕ). vars 0 at ++ shift (f u) 0 at ∷ vars (at + length entries) k) z in
    let a1 : before + 1 + (at + 1) ≡ before + 1 + at + 1 = omega arith in
    let a2 : at + 1 ≡ suc at = omega arith in
    let whole : context_by f (take (before + 1 + (at + 1)) ctx) ≡ entry_map f e ∷ c =
    ap (λ (k : ℕ). context_by f (take k ctx)) a1 ∙ (ap (context_by f) (take_next ctx (before + 1 + at) e g) ∙ context-last f old e) in
    let there : opened (at + 1) (f u) es (context_by f (take (before + 1 + (at + 1)) ctx)) ≡ y ∷ opened at (f u) es c =
    ap₂ (λ (k : ℕ) (d : Context Term). opened k (f u) es d) a2 whole
    ∙ ap (λ (env : List Term). record { name = e.name; flag = e.flag; ty = under env (f e.ty) } ∷ opened at (f u) es c) v in
    record {
      terms = h.terms ++ y ∷ [];
      stand = entries-push r made new e x i h.terms t m d (entries-more q r made h.terms k h.stand) s;
      is = onto-append h.terms (y ∷ []) [] ∙ (ap (λ (d : Context Term). y ∷ d) h.is ∙ sym there);
    }

pub opens-all : (p q : Pool) (ctx entries made : List (Entry ℕ)) (u before at : ℕ) → take (before + 1 + at) ctx ≡ ctx → Opens p q ctx entries u before at made
    → context_by (tree q) made ≡ opened at (tree p u) (telescope_map (tree p) entries) (context_by (tree p) ctx)
opens-all p q ctx entries made u before at e h =
    ap (λ (xs : Telescope Term). onto xs []) h.stand.is
    ∙ (h.is ∙ ap (λ (es : List (Entry ℕ)). opened at (tree p u) (telescope_map (tree p) entries) (context_by (tree p) es)) e)
