-- Entries around a term, and what a whole comes to by what stands inside its entries.
use Rattle.std.proofs.Common.{◌≡◌, ◌<◌, ℕ, zero, suc, max, List, [], ◌∷◌, ◌++◌, length, drop, refl, sym, ap, ◌∙◌, arith}
use Rattle.std.specs.Prelude.{slice_get, Some}
use Rattle.std.proofs.lemmas.List.{map-append}
use Rattle.el_base.proofs.Throughout.{all-weaker, map-same}
use Rattle.core_rules.specs.Term.{Term}
use Rattle.core_rules.specs.Signature.{Entry, Telescope}
use Rattle.core_rules.specs.Mapped.{AllEntries, entry_map, telescope_map}
use Rattle.term_pool.specs.Pool.{Pool, Extends, tree, node_tree}
use Rattle.term_pool.specs.Growth.{Extends-length, Extends-tree}
use Rattle.kernel_rules.specs.Outcome.{Outcome, Gives, Refuses}
use Rattle.written_rules.specs.Refusals.{Refusal}
use Rattle.elab_machine.specs.declared.binders.Binding.{Binding}
use Rattle.elab_machine.specs.declared.binders.Binding.TheVariants.{Lambda, Function}
use Rattle.elab_machine.specs.Binders.{binder, bound, in_lambdas, in_functions, node_of}

pub entries-weaker : (p q : Pool) (es : List (Entry ℕ)) → Extends p q → AllEntries (λ t. t < length p.trees) es → AllEntries (λ t. t < length q.trees) es
entries-weaker p q es e a = all-weaker _ _ (λ (x : Entry ℕ) (l : x.ty < length p.trees). omega (arith, Extends-length e, l)) es a

pub telescope-stays : (p q : Pool) (es : List (Entry ℕ)) → Extends p q → AllEntries (λ t. t < length p.trees) es → telescope_map (tree q) es ≡ telescope_map (tree p) es
telescope-stays p q es e a =
    map-same (λ (x : Entry ℕ). x.ty < length p.trees) (entry_map (tree q)) (entry_map (tree p)) (λ (x : Entry ℕ) (l : x.ty < length p.trees). ap (λ (t : Term). record { name = x.name; flag = x.flag; ty = t }) (Extends-tree x.ty e l)) es a

-- ---- around the last entries

pub none_around : (b : Binding) (f : ℕ → Term) (es : List (Entry ℕ)) (t : Term) → t ≡ bound b (telescope_map f (drop (length es) es)) t
none_around b f [] t = refl
none_around b f (e ∷ es) t = none_around b f es t

pub one_around : (b : Binding) (f : ℕ → Term) (es : List (Entry ℕ)) (i : ℕ) (e : Entry ℕ) (t : Term) → slice_get es i ≡ Some e → binder b (entry_map f e) (bound b (telescope_map f (drop (suc i) es)) t) ≡ bound b (telescope_map f (drop i es)) t
one_around b f [] i e t s = absurd cc
one_around b f (x ∷ es) zero e t s = let same : e ≡ x = cc s in ap (λ (y : Entry ℕ). binder b (entry_map f y) (bound b (telescope_map f es) t)) same
one_around b f (x ∷ es) (suc i) e t s = one_around b f es i e t s

pub entry_within : (n : ℕ) (es : List (Entry ℕ)) (i : ℕ) (e : Entry ℕ) → AllEntries (λ t. t < n) es → slice_get es i ≡ Some e → e.ty < n
entry_within n [] i e a s = absurd cc
entry_within n (x ∷ es) zero e a s = let same : x.ty ≡ e.ty = cc s in omega (arith, a.0, same)
entry_within n (x ∷ es) (suc i) e a s = entry_within n es i e a.1 s

pub node_around : (b : Binding) (f : ℕ → Term) (e : Entry ℕ) (t : ℕ) → node_tree f (node_of b e t) ≡ binder b (entry_map f e) (f t)
node_around Lambda f e t = refl
node_around Function f e t = refl

-- ---- one telescope inside another

pub bound-append : (b : Binding) (es fs : Telescope Term) (t : Term) → bound b (es ++ fs) t ≡ bound b es (bound b fs t)
bound-append b [] fs t = refl
bound-append b (e ∷ es) fs t = ap (binder b e) (bound-append b es fs t)

pub lambdas-append : (es fs : Telescope Term) (r : Outcome Refusal Term) → in_lambdas es (in_lambdas fs r) ≡ in_lambdas (es ++ fs) r
lambdas-append es fs (Gives t) = ap Gives (sym (bound-append Lambda es fs t))
lambdas-append es fs (Refuses e) = refl

max-twice : (m n k : ℕ) → max m (max n k) ≡ max (max m n) k
max-twice m n k = omega arith

pub functions-append : (es fs : Telescope Term) (m n : ℕ) (r : Outcome Refusal (Term × ℕ)) → in_functions es m (in_functions fs n r) ≡ in_functions (es ++ fs) (max m n) r
functions-append es fs m n (Gives c) = let a = sym (bound-append Function es fs c.0) in let b = max-twice m n c.1 in cc (a, b)
functions-append es fs m n (Refuses e) = refl

pub no_lambdas : (r : Outcome Refusal Term) → r ≡ in_lambdas [] r
no_lambdas (Gives t) = refl
no_lambdas (Refuses e) = refl

pub no_functions : (r : Outcome Refusal (Term × ℕ)) → r ≡ in_functions [] 0 r
no_functions (Gives c) = let a : c.1 ≡ max 0 c.1 = omega arith in ap (λ n. Gives (c.0, n)) a
no_functions (Refuses e) = refl

-- the trees of entries and of one more, over a later pool
pub telescope-push : (p q : Pool) (es new : List (Entry ℕ)) (e : Entry ℕ) → Extends p q → AllEntries (λ t. t < length p.trees) es → e.ty < length p.trees → new ≡ es ++ e ∷ []
    → telescope_map (tree q) new ≡ telescope_map (tree p) es ++ record { name = e.name; flag = e.flag; ty = tree p e.ty } ∷ []
telescope-push p q es new e h a l is =
    let same : tree q e.ty ≡ tree p e.ty = Extends-tree e.ty h l in
    ap (telescope_map (tree q)) is ∙ (map-append (entry_map (tree q)) es (e ∷ []) ∙ (ap (λ xs. xs ++ entry_map (tree q) e ∷ []) (telescope-stays p q es h a)
    ∙ ap (λ (t : Term). telescope_map (tree p) es ++ record { name = e.name; flag = e.flag; ty = t } ∷ []) same))
