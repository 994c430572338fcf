-- A head at the arguments of a telescope, one after the other.
use Rattle.std.proofs.Common.{◌≡◌, ◌<◌, ℕ, ◌+◌, suc, List, [], ◌∷◌, ◌++◌, length, map, refl, sym, ap, subst, ◌∙◌}
use Rattle.std.specs.List.{AllByRecursion}
use Rattle.std.proofs.lemmas.List.{length-map}
use Rattle.core_rules.specs.Term.{Term, Var, App, Fam}
use Rattle.core_rules.specs.Signature.{Entry}
use Rattle.core_rules.specs.Mapped.{entry_map, telescope_map}
use Rattle.core_rules.specs.Elimination.{Elim, Arg, elims, args, vars_from}
use Rattle.term_pool.specs.Pool.{Pool, Extends, tree}
use Rattle.term_pool.specs.Placed.{items-stay}

module _ (f : ℕ → Term) where
  pub variables_next : (left more : List (Entry ℕ)) (e : Entry ℕ) (k : ℕ) (h i w : Term) → left ≡ e ∷ more → i ≡ App e.flag h (Var (k + length more))
      → elims h (args (telescope_map f left) (vars_from k (length left))) ≡ w → elims i (args (telescope_map f more) (vars_from k (length more))) ≡ w
  variables_next left more e k h i w a b c =
      let s : elims h (args (telescope_map f (e ∷ more)) (vars_from k (suc (length more)))) ≡ w = subst (λ (l : List (Entry ℕ)). elims h (args (telescope_map f l) (vars_from k (length l))) ≡ w) a c in
      subst (λ t. elims t (args (telescope_map f more) (vars_from k (length more))) ≡ w) (sym b) s

  pub variables_end : (left : List (Entry ℕ)) (k n : ℕ) (h w : Term) → left ≡ [] → elims h (args (telescope_map f left) (vars_from k n)) ≡ w → h ≡ w
  variables_end left k n h w a c = subst (λ (l : List (Entry ℕ)). elims h (args (telescope_map f l) (vars_from k n)) ≡ w) a c

  pub terms_next : (left more : List (Entry ℕ)) (e : Entry ℕ) (given others : List Term) (u h i w : Term) → left ≡ e ∷ more → given ≡ u ∷ others → i ≡ App e.flag h u
      → elims h (args (telescope_map f left) given) ≡ w → elims i (args (telescope_map f more) others) ≡ w
  terms_next left more e given others u h i w a b d c =
      let s : elims h (args (telescope_map f (e ∷ more)) given) ≡ w = subst (λ (l : List (Entry ℕ)). elims h (args (telescope_map f l) given) ≡ w) a c in
      let t : elims h (args (telescope_map f (e ∷ more)) (u ∷ others)) ≡ w = subst (λ us. elims h (args (telescope_map f (e ∷ more)) us) ≡ w) b s in
      subst (λ v. elims v (args (telescope_map f more) others) ≡ w) (sym d) t

  pub terms_end : (left : List (Entry ℕ)) (given : List Term) (h w : Term) → left ≡ [] → elims h (args (telescope_map f left) given) ≡ w → h ≡ w
  terms_end left given h w a c = subst (λ (l : List (Entry ℕ)). elims h (args (telescope_map f l) given) ≡ w) a c

  pub no_terms : (left more : List (Entry ℕ)) (e : Entry ℕ) (given : List Term) (h w : Term) → left ≡ e ∷ more → given ≡ [] → elims h (args (telescope_map f left) given) ≡ w → h ≡ w
  no_terms left more e given h w a b c =
      let s : elims h (args (telescope_map f (e ∷ more)) given) ≡ w = subst (λ (l : List (Entry ℕ)). elims h (args (telescope_map f l) given) ≡ w) a c in
      subst (λ us. elims h (args (telescope_map f (e ∷ more)) us) ≡ w) b s

pub elims-append : (h : Term) (es ds : List Elim) → elims h (es ++ ds) ≡ elims (elims h es) ds
elims-append h [] ds = refl
elims-append h (e ∷ es) ds = elims-append _ es ds

-- the flags of entries alone are looked at
pub args-flags : (f k : ℕ → Term) (es : List (Entry ℕ)) (ts : List Term) → args (telescope_map f es) ts ≡ args (telescope_map k es) ts
args-flags f k [] ts = refl
args-flags f k (e ∷ es) [] = refl
args-flags f k (e ∷ es) (t ∷ ts) = ap (λ xs. Arg e.flag t ∷ xs) (args-flags f k es ts)

-- the end of a constructor, put together: the family at its parameters, and then at the indices
pub con_end-is : (p q r : Pool) (ps xs : List (Entry ℕ)) (ids : List ℕ) (n fam head params : ℕ) → tree q head ≡ Fam fam → tree r params ≡ elims (tree q head) (args (telescope_map (tree q) ps) (vars_from n (length ps)))
    → Extends p r → AllByRecursion (λ i. i < length p.trees) ids
    → elims (tree r params) (args (telescope_map (tree r) xs) (map (tree r) ids)) ≡ elims (Fam fam) (args (telescope_map (tree p) ps) (vars_from n (length (telescope_map (tree p) ps))) ++ args (telescope_map (tree p) xs) (map (tree p) ids))
con_end-is p q r ps xs ids n fam head params h k e all =
    let m : length (telescope_map (tree p) ps) ≡ length ps = length-map ps (entry_map (tree p)) in
    let a : args (telescope_map (tree q) ps) (vars_from n (length ps)) ≡ args (telescope_map (tree p) ps) (vars_from n (length (telescope_map (tree p) ps))) =
    args-flags (tree q) (tree p) ps (vars_from n (length ps)) ∙ ap (λ i. args (telescope_map (tree p) ps) (vars_from n i)) (sym m) in
    let b : args (telescope_map (tree r) xs) (map (tree r) ids) ≡ args (telescope_map (tree p) xs) (map (tree p) ids) =
    ap (args (telescope_map (tree r) xs)) (items-stay p r ids e all) ∙ args-flags (tree r) (tree p) xs (map (tree p) ids) in
    ap (λ t. elims t (args (telescope_map (tree r) xs) (map (tree r) ids))) (k ∙ (ap (λ t. elims t (args (telescope_map (tree q) ps) (vars_from n (length ps)))) h ∙ ap (elims (Fam fam)) a))
    ∙ (ap (elims (elims (Fam fam) (args (telescope_map (tree p) ps) (vars_from n (length (telescope_map (tree p) ps)))))) b
    ∙ sym (elims-append (Fam fam) (args (telescope_map (tree p) ps) (vars_from n (length (telescope_map (tree p) ps)))) (args (telescope_map (tree p) xs) (map (tree p) ids))))
