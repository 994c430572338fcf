-- A checker with one entry more in its context.
use Rattle.std.proofs.Common.{◌≡◌, ◌<◌, ℕ, ◌+◌, List, [], ◌∷◌, ◌++◌, append_assoc, length, refl, sym, ap, subst, ◌∙◌, arith}
use Rattle.std.proofs.lemmas.List.{append-nil, length-append, map-append}
use Rattle.el_base.proofs.Throughout.{all-push}
use Rattle.core_rules.specs.Term.{Term}
use Rattle.core_rules.specs.Signature.{Entry, Context, Signature, onto}
use Rattle.core_rules.specs.Mapped.{AllEntries, entry_map, telescope_map}
use Rattle.core_rules.specs.InScope.{InScope, TelescopeInScope, any_meta}
use Rattle.term_pool.specs.Pool.{Pool, tree}
use Rattle.term_pool.specs.Growth.{Extends-length, Extends-tree}
use Rattle.core_terms.specs.Signature.{signature_in}
use Rattle.core_terms.proofs.SignatureGrowth.{signature_in-extends, Stands-extends}
use Rattle.kernel_rules.specs.Outcome.{Outcome, Gives, Refuses}
use Rattle.kernel_rules.specs.Refusals.{Refusal}
use Rattle.core_kernel.specs.declared.checker.Checker.{Checker}
use Rattle.core_kernel.specs.declared.error.KernelError.{KernelError}
use Rattle.core_kernel.specs.Answers.{RefusedBy}
use Rattle.core_kernel.specs.Checker.{context_in, IsReady, IsTerm, Grows, Over, over, term_of, signature_of, context_of, entry_of, with_entry, HasLevel}
use Rattle.core_kernel.specs.Family.{Levels}
use Rattle.core_kernel.proofs.Contexts.{context_in-extends, context_in-push}
use Rattle.declared_types.proofs.Grown.{entries-weaker}
use Rattle.core_kernel.proofs.Checking.{refused-weaker}
use Rattle.core_kernel.proofs.Levels.{prefixed, prefixed-none, prefixed-one, levels-next, levels-refused}

module _ {y z : Checker} (r : IsReady y) (e : Entry ℕ) (l : e.ty < length y.pool.now.trees) (g : Grows y z) (s : z.signature.now ≡ y.signature.now) (m : z.limits ≡ y.limits) (c : z.context.now.items ≡ y.context.now.items ++ e ∷ []) where
  pub signature_entered : signature_of z ≡ signature_of y
  signature_entered = ap (signature_in z.pool.now) s ∙ signature_in-extends y.pool.now z.pool.now y.signature.now g.extends r.signature

  same_entry : entry_of z e ≡ entry_of y e
  same_entry = let t : tree z.pool.now e.ty ≡ tree y.pool.now e.ty = Extends-tree e.ty g.extends l in ap (λ (a : Term). record { name = e.name; flag = e.flag; ty = a }) t

  context_entered : context_of z ≡ entry_of y e ∷ context_of y
  context_entered =
      ap (context_in z.pool.now) c ∙ (context_in-push z.pool.now y.context.now.items e
      ∙ (ap (λ (w : Entry Term). w ∷ context_in z.pool.now y.context.now.items) same_entry ∙ ap (λ (d : Context Term). entry_of y e ∷ d) (context_in-extends y.pool.now z.pool.now y.context.now.items g.extends r.context)))

  pub over_entered : over z ≡ with_entry (over y) (entry_of y e)
  over_entered =
      let f : z.limits.fuel ≡ y.limits.fuel = ap (λ w. w.fuel) m in
      let d : z.limits.depth ≡ y.limits.depth = ap (λ w. w.depth) m in
      let a : signature_of z ≡ signature_of y = signature_entered in
      let b : context_of z ≡ entry_of y e ∷ context_of y = context_entered in
      cc (a, b, f, d)

  pub ready_entered : IsReady z
  ready_entered =
      let n = Extends-length g.extends in
      record {
        signature = rw s (Stands-extends y.pool.now z.pool.now y.signature.now g.extends r.signature);
        context = rw c (all-push (λ (x : Entry ℕ). x.ty < length z.pool.now.trees) y.context.now.items e (entries-weaker y.pool.now z.pool.now y.context.now.items g.extends r.context) (omega (arith, l, n)));
      }

  -- the levels of the entries after e, after those of the entries before it
  pub reading_entered : (x : Checker) (W : Outcome Refusal (List ℕ) → Type 0) (more : List (Entry ℕ)) (ls : List ℕ) (n : ℕ) → term_of y e.ty ≡ term_of x e.ty → HasLevel (over y) (term_of y e.ty) (Gives n)
      → ((o : Outcome Refusal (List ℕ)) → Levels (over y) (telescope_map (term_of x) (e ∷ more)) o → W (prefixed ls o))
      → (o : Outcome Refusal (List ℕ)) → Levels (over z) (telescope_map (term_of x) more) o → W (prefixed (ls ++ n ∷ []) o)
  reading_entered x W more ls n t h k o v =
      let E : Entry Term = entry_map (term_of x) e in
      let a : entry_of y e ≡ E = ap (λ (a : Term). record { name = e.name; flag = e.flag; ty = a }) t in
      let v1 : Levels (with_entry (over y) (entry_of y e)) (telescope_map (term_of x) more) o = subst (λ (w : Over). Levels w (telescope_map (term_of x) more) o) over_entered v in
      let v2 : Levels (with_entry (over y) E) (telescope_map (term_of x) more) o = subst (λ (w : Entry Term). Levels (with_entry (over y) w) (telescope_map (term_of x) more) o) a v1 in
      let h1 : HasLevel (over y) (term_of x e.ty) (Gives n) = subst (λ (w : Term). HasLevel (over y) w (Gives n)) t h in
      subst W (prefixed-one ls n o) (k (prefixed (n ∷ []) o) (levels-next (signature_of y) y.limits.fuel y.limits.depth (context_of y) E (telescope_map (term_of x) more) n o h1 v2))

-- ---- the entries of a telescope

pub signature_grown : {x y : Checker} → IsReady x → Grows x y → y.signature.now ≡ x.signature.now → signature_of y ≡ signature_of x
signature_grown {x} {y} r g s = ap (signature_in y.pool.now) s ∙ signature_in-extends x.pool.now y.pool.now x.signature.now g.extends r.signature

-- y is the checker before the entry e, the first of those that are left
module _ {x y : Checker} (r : IsReady x) (g : Grows x y) (s : y.signature.now ≡ x.signature.now) (left more : List (Entry ℕ)) (e : Entry ℕ) (first : left ≡ e ∷ more) (all : AllEntries (λ t. t < length x.pool.now.trees) left) where
  all_first : AllEntries (λ t. t < length x.pool.now.trees) (e ∷ more)
  all_first = subst (λ (es : List (Entry ℕ)). AllEntries (λ t. t < length x.pool.now.trees) es) first all

  pub entry_more : AllEntries (λ t. t < length x.pool.now.trees) more
  entry_more = all_first.1

  pub entry_within : e.ty < length y.pool.now.trees
  entry_within = let l = all_first.0 in let n = Extends-length g.extends in omega (arith, l, n)

  pub entry_kept : term_of y e.ty ≡ term_of x e.ty
  entry_kept = Extends-tree e.ty g.extends all_first.0

  module _ (scope : TelescopeInScope (signature_of x) any_meta (length y.context.now.items) (telescope_map (term_of x) left)) where
    scope_first : TelescopeInScope (signature_of x) any_meta (length y.context.now.items) (telescope_map (term_of x) (e ∷ more))
    scope_first = subst (λ (es : List (Entry ℕ)). TelescopeInScope (signature_of x) any_meta (length y.context.now.items) (telescope_map (term_of x) es)) first scope

    pub entry_term : IsTerm y e.ty
    entry_term = record {
      within = entry_within;
      scope = subst (λ (c : Signature Term). InScope c any_meta (length y.context.now.items) (term_of y e.ty)) (sym (signature_grown r g s))
          (subst (λ t. InScope (signature_of x) any_meta (length y.context.now.items) t) (sym entry_kept) scope_first.0);
    }

    pub entry_scope : (zs : List (Entry ℕ)) → zs ≡ y.context.now.items ++ e ∷ [] → TelescopeInScope (signature_of x) any_meta (length zs) (telescope_map (term_of x) more)
    entry_scope zs c =
        let n : length y.context.now.items + 1 ≡ length zs = sym (ap length c ∙ length-append y.context.now.items (e ∷ [])) in
        subst (λ (k : ℕ). TelescopeInScope (signature_of x) any_meta k (telescope_map (term_of x) more)) n scope_first.1

  pub entry_refused : (W : Outcome Refusal (List ℕ) → Type 0) (ls : List ℕ) → ((o : Outcome Refusal (List ℕ)) → Levels (over y) (telescope_map (term_of x) left) o → W (prefixed ls o))
      → (p : Pool) (d : KernelError) → RefusedBy p (λ q. HasLevel (over y) (term_of y e.ty) (Refuses q)) d → RefusedBy p (λ q. W (Refuses q)) d
  entry_refused W ls k p d h = refused-weaker p (λ q. HasLevel (over y) (term_of y e.ty) (Refuses q)) (λ q. W (Refuses q)) (λ q v. k (Refuses q) (refused q v)) d h
    where
      refused : (q : Refusal) → HasLevel (over y) (term_of y e.ty) (Refuses q) → Levels (over y) (telescope_map (term_of x) left) (Refuses q)
      refused q v =
          subst (λ (es : List (Entry ℕ)). Levels (over y) (telescope_map (term_of x) es) (Refuses q)) (sym first)
          (levels-refused (signature_of y) y.limits.fuel y.limits.depth (context_of y) (entry_map (term_of x) e) (telescope_map (term_of x) more) q (subst (λ t. HasLevel (over y) t (Refuses q)) entry_kept v))

  pub entry_next : (ys zs target : List (Entry ℕ)) → zs ≡ ys ++ e ∷ [] → ys ++ left ≡ target → zs ++ more ≡ target
  entry_next ys zs target c h = ap (λ (bs : List (Entry ℕ)). bs ++ more) c ∙ (append_assoc ys (e ∷ []) more ∙ (ap (λ (es : List (Entry ℕ)). ys ++ es) (sym first) ∙ h))

-- after the last entry
pub entered_all : (ys left target : List (Entry ℕ)) → left ≡ [] → ys ++ left ≡ target → ys ≡ target
entered_all ys left target e h = sym (append-nil ys) ∙ (ap (λ (es : List (Entry ℕ)). ys ++ es) (sym e) ∙ h)

pub levels_done : (o : Over) (f : ℕ → Term) (W : Outcome Refusal (List ℕ) → Type 0) (left : List (Entry ℕ)) (ls : List ℕ) → left ≡ [] → ((r : Outcome Refusal (List ℕ)) → Levels o (telescope_map f left) r → W (prefixed ls r)) → W (Gives ls)
levels_done o f W left ls e k =
    let base : Levels o [] (Gives []) = refl in
    subst W (prefixed-none ls) (k (Gives []) (subst (λ (es : List (Entry ℕ)). Levels o (telescope_map f es) (Gives [])) (sym e) base))

onto-append : (xs ys c : List (Entry Term)) → onto (xs ++ ys) c ≡ onto ys (onto xs c)
onto-append [] ys c = refl
onto-append (x ∷ xs) ys c = onto-append xs ys (x ∷ c)

pub context_in-append : (p : Pool) (es ds : List (Entry ℕ)) → context_in p (es ++ ds) ≡ onto (telescope_map (tree p) ds) (context_in p es)
context_in-append p es ds = ap (λ (xs : List (Entry Term)). onto xs []) (map-append (entry_map (tree p)) es ds) ∙ onto-append (telescope_map (tree p) es) (telescope_map (tree p) ds) []
