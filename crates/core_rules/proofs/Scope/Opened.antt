-- The context of a constructor at a split, its index equations, and terms of the split there are in scope.
use Rattle.std.specs.Prelude.{◌≡◌, ℕ, ◌+◌, ◌-◌, ◌<◌, ◌≤◌, List, [], ◌∷◌, ◌++◌, length, map, reverse, Some, refl, zero, suc}
use Rattle.std.specs.List.{AllByRecursion}
use Rattle.std.proofs.Common.{ap, sym, ◌∙◌, subst as transport, arith}
use Rattle.std.proofs.lemmas.List.{length-map}
use Rattle.core_rules.specs.Term.{Term, Con, to_list, from_list}
use Rattle.core_rules.specs.Substitution.{shift, under}
use Rattle.core_rules.specs.Signature.{Signature, Telescope, Context, onto, ConDecl}
use Rattle.core_rules.specs.Elimination.{args, vars_from}
use Rattle.core_rules.specs.InScope.{InScope, AllInScope, TelescopeInScope, ConInScope, con_params}
use Rattle.core_rules.specs.TypedTree.{vars, into, entries_under, new_con, opened, Splitting, new_entries, con_context, with_con, equations, index_equations}
use Rattle.core_rules.specs.ScopeLaws.{ContextInScope, EquationInScope, SplittingInScope, ConstructorSplitInScope}
use Rattle.core_rules.proofs.Trees.Scoped.{length-entries_under, length-opened, length-con_context}
use Rattle.core_rules.proofs.Scope.Changed.{Each, shift-in_scope, under-in_scope, each-reverse}
use Rattle.core_rules.proofs.Scope.Declared.{all_append, elims-in_scope, args-in_scope, vars-in_scope}

module _ (g : Signature Term) (M : ℕ → ℕ → Type 0) where
  moved : (m n : ℕ) (t : Term) → m ≡ n → InScope g M m t → InScope g M n t
  moved m n t e h = transport (λ n. InScope g M n t) e h

  -- variables in a row
  row : (k m n : ℕ) → k + m ≤ n → Each g M n (vars k m)
  row k zero n h = tt
  row k (suc m) n h = (omega (arith, h), row (k + 1) m n (omega (arith, h)))

  each_shifted : (n by : ℕ) (ts : List Term) → Each g M n ts → Each g M (n + by) (map (λ t. shift t 0 by) ts)
  each_shifted n by [] h = tt
  each_shifted n by (t ∷ ts) h = (shift-in_scope g M n 0 by t h.0, each_shifted n by ts h.1)

  all_from : (n : ℕ) (ts : List Term) → Each g M n ts → AllInScope g M n (from_list ts)
  all_from n [] h = tt
  all_from n (t ∷ ts) h = (h.0, all_from n ts h.1)

  length-from : (ts : List Term) → length (to_list (from_list ts)) ≡ length ts
  length-from [] = refl
  length-from (t ∷ ts) = ap suc (length-from ts)

  -- under parameters and i new variables
  env_each : (n i : ℕ) (r : List Term) → Each g M n r → Each g M (n + i) (vars 0 i ++ map (λ t. shift t 0 i) r)
  env_each n i r h = all_append (InScope g M (n + i)) (vars 0 i) (map (λ t. shift t 0 i) r) (row 0 i (n + i) (omega arith)) (each_shifted n i r h)

  entries-in_scope : (n k i : ℕ) (r : List Term) (es : Telescope Term) → Each g M n r → TelescopeInScope g M k es → TelescopeInScope g M (n + i) (entries_under r i es)
  entries-in_scope n k i r [] h s = tt
  entries-in_scope n k i r (e ∷ es) h s =
      let p : n + suc i ≡ n + i + 1 = omega arith in
      (under-in_scope g M (n + i) k (vars 0 i ++ map (λ t. shift t 0 i) r) e.ty (env_each n i r h) s.0, transport (λ m. TelescopeInScope g M m (entries_under r (suc i) es)) p (entries-in_scope n (k + 1) (suc i) r es h s.1))

  onto-in_scope : (n : ℕ) (es : Telescope Term) (c : Context Term) → n ≡ length c → TelescopeInScope g M n es → ContextInScope g M c → ContextInScope g M (onto es c)
  onto-in_scope n [] c p h s = s
  onto-in_scope n (e ∷ es) c p h s = onto-in_scope (n + 1) es (e ∷ c) (omega (arith, p)) h.1 (moved n (length c) e.ty p h.0, s)

  -- constructor k at parameters, on new variables
  new-in_scope : (n k : ℕ) (ps : List Term) (es : Telescope Term) → con_params g k ≡ Some (length ps) → Each g M n ps → InScope g M (n + length es) (new_con k ps es)
  new-in_scope n k ps es e h =
      let ts : List Term = map (λ t. shift t 0 (length es)) ps in
      let l : length (to_list (from_list ts)) ≡ length ps = length-from ts ∙ length-map ps (λ t. shift t 0 (length es)) in
      elims-in_scope g M (n + length es) (Con k (from_list ts)) (args es (vars_from 0 (length es))) (e ∙ ap Some (sym l), all_from (n + length es) ts (each_shifted n (length es) ps h))
      (args-in_scope g M (n + length es) es (vars_from 0 (length es)) (vars-in_scope g M 0 (length es) (n + length es) (omega arith)))

  -- where m new variables stand in the place of variable k of n
  into-in_scope : (k n m total : ℕ) (u : Term) → k < n → total ≡ n + m - 1 → InScope g M (n - (k + 1) + m) u → Each g M total (into k n m u)
  into-in_scope k n m total u l e h =
      let p : n - (k + 1) + m + k ≡ total = omega (arith, e, l) in
      all_append (InScope g M total) (vars 0 k) (shift u 0 k ∷ vars (k + m) (n - (k + 1))) (row 0 k total (omega (arith, e, l)))
      (moved (n - (k + 1) + m + k) total (shift u 0 k) p (shift-in_scope g M (n - (k + 1) + m) 0 k u h), row (k + m) (n - (k + 1)) total (omega (arith, e, l)))

  opened-in_scope : (k : ℕ) (u : Term) (es : Telescope Term) (c : Context Term) → k < length c → InScope g M (length c - (k + 1) + length es) u → TelescopeInScope g M (length c - (k + 1)) es → ContextInScope g M c → ContextInScope g M (opened k u es c)
  opened-in_scope k u es [] l h s d = tt
  opened-in_scope zero u es (e ∷ c) l h s d = let p : length (e ∷ c) - (0 + 1) ≡ length c = omega arith in onto-in_scope (length (e ∷ c) - (0 + 1)) es c p s d.1
  opened-in_scope (suc k) u es (e ∷ c) l h s d =
      let b : k < length c = omega (arith, l) in
      let p : length (e ∷ c) - (suc k + 1) ≡ length c - (k + 1) = omega arith in
      let q : length (e ∷ c) - (suc k + 1) + length es ≡ length c - (k + 1) + length es = omega arith in
      let h' : InScope g M (length c - (k + 1) + length es) u = moved (length (e ∷ c) - (suc k + 1) + length es) (length c - (k + 1) + length es) u q h in (
        under-in_scope g M (length (opened k u es c)) (length c) (into k (length c) (length es) u) e.ty (into-in_scope k (length c) (length es) (length (opened k u es c)) u b (length-opened k u es c b) h') d.0,
        opened-in_scope k u es c b h' (transport (λ n. TelescopeInScope g M n es) p s) d.1,
      )

  module _ (s : Splitting) (k : ℕ) (e : con_params g k ≡ Some (length s.params)) (i : SplittingInScope g M s) where
    -- the entries before the variable of the split
    abbrev before : ℕ
    before = length s.context - (s.var + 1)

    constructor : (es : Telescope Term) → InScope g M (before + length es) (new_con k s.params es)
    constructor es = new-in_scope before k s.params es e i.params

    pub context-in_scope : (es : Telescope Term) → TelescopeInScope g M (length s.params) es → ContextInScope g M (con_context s k es)
    context-in_scope es h =
        let l = length-entries_under (reverse s.params) 0 es in
        let n : TelescopeInScope g M (before + 0) (new_entries s es) = entries-in_scope before (length s.params) 0 (reverse s.params) es (each-reverse g M before s.params i.params) h in
        let p : before + 0 ≡ before = omega arith in
        opened-in_scope s.var (new_con k s.params es) (new_entries s es) s.context i.var
        (moved (before + length es) (before + length (new_entries s es)) (new_con k s.params es) (ap (λ n. before + n) (sym l)) (constructor es))
        (transport (λ n. TelescopeInScope g M n (new_entries s es)) p n) i.context

    pub with-in_scope : (es : Telescope Term) (t : Term) → InScope g M (length s.context) t → InScope g M (length (con_context s k es)) (with_con s k es t)
    with-in_scope es t h =
        under-in_scope g M (length (con_context s k es)) (length s.context) (into s.var (length s.context) (length es) (new_con k s.params es)) t
        (into-in_scope s.var (length s.context) (length es) (length (con_context s k es)) (new_con k s.params es) i.var (length-con_context s k es i.var) (constructor es)) h

    lefts : (n by : ℕ) (r : List Term) (total : ℕ) (ts : List Term) (m : ℕ) → Each g M n r → n + by ≡ total → Each g M m ts → Each g M total (map (λ t. shift (under r t) 0 by) ts)
    lefts n by r total [] m h p a = tt
    lefts n by r total (t ∷ ts) m h p a = (moved (n + by) total (shift (under r t) 0 by) p (shift-in_scope g M n 0 by (under r t) (under-in_scope g M n m r t h a.0)), lefts n by r total ts m h p a.1)

    rights : (n by total : ℕ) (ts : List Term) → n + by ≡ total → Each g M n ts → Each g M total (map (λ t. shift t 0 by) ts)
    rights n by total [] p a = tt
    rights n by total (t ∷ ts) p a = (moved (n + by) total (shift t 0 by) p (shift-in_scope g M n 0 by t a.0), rights n by total ts p a.1)

    paired : (n : ℕ) (ts us : List Term) → Each g M n ts → Each g M n us → AllByRecursion (EquationInScope g M n) (equations ts us)
    paired n [] us h l = tt
    paired n (t ∷ ts) [] h l = tt
    paired n (t ∷ ts) (u ∷ us) h l = ((h.0, l.0), paired n ts us h.1 l.1)

    pub equations-in_scope : (con : ConDecl Term) → ConInScope g M (length s.params) con → AllByRecursion (EquationInScope g M (length (con_context s k con.args))) (index_equations s con)
    equations-in_scope con h =
        let m : ℕ = length con.args in
        let total : ℕ = length (con_context s k con.args) in
        let c = length-con_context s k con.args i.var in
        let v = i.var in
        let r : List Term = vars 0 m ++ map (λ p. shift p 0 m) (reverse s.params) in
        paired total (map (λ t. shift (under r t) 0 s.var) con.indices) (map (λ t. shift t 0 (s.var + m)) s.indices)
        (lefts (before + m) s.var r total con.indices (length s.params + m) (env_each before m (reverse s.params) (each-reverse g M before s.params i.params)) (omega (arith, c, v)) h.indices)
        (rights before (s.var + m) total s.indices (omega (arith, c, v)) i.indices)

pub split-in_scope : (g : Signature Term) (M : ℕ → ℕ → Type 0) (s : Splitting) (k : ℕ) (con : ConDecl Term) → con_params g k ≡ Some (length s.params) → ConInScope g M (length s.params) con → SplittingInScope g M s → ConstructorSplitInScope g M s k con
split-in_scope g M s k con e h i = record { context = context-in_scope g M s k e i con.args h.args; equations = equations-in_scope g M s k e i con h }
