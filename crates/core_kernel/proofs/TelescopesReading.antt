-- The parameters and the indices of a family, read one after the other from no entry on.
use Rattle.std.proofs.Common.{◌≡◌, ◌<◌, ◌++◌, ℕ, List, [], length, sym, ap, subst, ◌∙◌, refl}
use Rattle.std.proofs.lemmas.List.{length-map}
use Rattle.core_rules.specs.Term.{Term}
use Rattle.core_rules.specs.InScope.{FamilyInScope, TelescopeInScope, any_meta}
use Rattle.core_rules.specs.Mapped.{AllFamily, entry_map, fam_map, telescope_map}
use Rattle.core_rules.specs.Signature.{Context, Entry, FamDecl, Signature, onto}
use Rattle.term_pool.specs.Pool.{Pool}
use Rattle.kernel_rules.specs.Outcome.{Gives, Outcome, Refuses, Then, goes_on}
use Rattle.kernel_rules.specs.Refusals.{Refusal}
use Rattle.kernel_rules.specs.FamilyReading.{LevelsOf}
use Rattle.core_kernel.specs.declared.checker.Checker.{Checker}
use Rattle.core_kernel.specs.declared.error.KernelError.{KernelError}
use Rattle.core_kernel.specs.Answers.{RefusedBy}
use Rattle.core_kernel.specs.Checker.{Grows, IsReady, Over, context_in, context_of, over, signature_of, term_of}
use Rattle.core_kernel.specs.Family.{Enters, IsDone, Levels, TelescopesOf}
use Rattle.core_kernel.proofs.Checking.{refused-weaker, refused_first, refused_after}
use Rattle.core_kernel.proofs.ConReading.{over_inside}
use Rattle.declared_types.proofs.Grown.{telescope-stays}
use Rattle.core_kernel.proofs.Entering.{signature_grown}

-- x is the checker before any entry
module _ (x : Checker) (d : FamDecl ℕ) (empty : x.context.now.items ≡ []) where
  abbrev Reads : Outcome Refusal (Unit {0}) → Type 0
  Reads = TelescopesOf (signature_of x) x.limits.fuel x.limits.depth (fam_map (term_of x) d)

  abbrev Params : Outcome Refusal (List ℕ) → Type 0
  Params = LevelsOf (signature_of x) x.limits.fuel x.limits.depth [] (telescope_map (term_of x) d.params)

  abbrev Indices : Outcome Refusal (List ℕ) → Type 0
  Indices = LevelsOf (signature_of x) x.limits.fuel x.limits.depth (onto (telescope_map (term_of x) d.params) []) (telescope_map (term_of x) d.indices)

  no_entry : context_of x ≡ []
  no_entry = ap (context_in x.pool.now) empty

  params_here : (o : Outcome Refusal (List ℕ)) → Levels (over x) (telescope_map (term_of x) d.params) o → Params o
  params_here o h = subst (λ (c : Context Term). LevelsOf (signature_of x) x.limits.fuel x.limits.depth c (telescope_map (term_of x) d.params) o) no_entry h

  pub params_refused : (p : Pool) (e : KernelError) → RefusedBy p (λ r. Levels (over x) (telescope_map (term_of x) d.params) (Refuses r)) e → RefusedBy p (λ r. Reads (Refuses r)) e
  params_refused p e h =
      refused_first p Params (λ ns. Then Indices (λ ms. IsDone)) e
      (refused-weaker p (λ r. Levels (over x) (telescope_map (term_of x) d.params) (Refuses r)) (λ r. Params (Refuses r)) (λ r v. params_here (Refuses r) v) e h)

  -- y is the checker after the parameters
  module _ {y : Checker} (r : IsReady x) (g : Grows x y) (n : Enters x y d.params) (within : AllFamily (λ t. t < length x.pool.now.trees) d) where
    pub indices_scope : FamilyInScope (signature_of x) any_meta (fam_map (term_of x) d) → TelescopeInScope (signature_of y) any_meta (length y.context.now.items) (telescope_map (term_of y) d.indices)
    indices_scope scope =
        let k : y.context.now.items ≡ d.params = n.context ∙ ap (λ (es : List (Entry ℕ)). es ++ d.params) empty in
        let m : length (telescope_map (term_of x) d.params) ≡ length y.context.now.items = length-map d.params (entry_map (term_of x)) ∙ sym (ap length k) in
        subst (λ (s : Signature Term). TelescopeInScope s any_meta (length y.context.now.items) (telescope_map (term_of y) d.indices)) (sym (signature_grown r g n.signature))
        (subst (λ (es : List (Entry Term)). TelescopeInScope (signature_of x) any_meta (length y.context.now.items) es) (sym (telescope-stays x.pool.now y.pool.now d.indices g.extends within.indices))
        (subst (λ (i : ℕ). TelescopeInScope (signature_of x) any_meta i (telescope_map (term_of x) d.indices)) m scope.indices))

    indices_here : (o : Outcome Refusal (List ℕ)) → Levels (over y) (telescope_map (term_of y) d.indices) o → Indices o
    indices_here o h =
        subst (λ (c : Context Term). LevelsOf (signature_of x) x.limits.fuel x.limits.depth (onto (telescope_map (term_of x) d.params) c) (telescope_map (term_of x) d.indices) o) no_entry
        (subst (λ (w : Over). Levels w (telescope_map (term_of x) d.indices) o) (over_inside r g d.params n within.params)
        (subst (λ (es : List (Entry Term)). Levels (over y) es o) (telescope-stays x.pool.now y.pool.now d.indices g.extends within.indices) h))

    module _ (ns : List ℕ) (read : Levels (over x) (telescope_map (term_of x) d.params) (Gives ns)) where
      pub indices_refused : (p : Pool) (e : KernelError) → RefusedBy p (λ r. Levels (over y) (telescope_map (term_of y) d.indices) (Refuses r)) e → RefusedBy p (λ r. Reads (Refuses r)) e
      indices_refused p e h =
          refused_after p Params (λ ns. Then Indices (λ ms. IsDone)) ns (params_here (Gives ns) read) e
          (refused_first p Indices (λ ms. IsDone) e
          (refused-weaker p (λ r. Levels (over y) (telescope_map (term_of y) d.indices) (Refuses r)) (λ r. Indices (Refuses r)) (λ r v. indices_here (Refuses r) v) e h))

      pub telescopes_read : (ms : List ℕ) → Levels (over y) (telescope_map (term_of y) d.indices) (Gives ms) → Reads (Gives tt)
      telescopes_read ms h = goes_on ns (params_here (Gives ns) read) (goes_on ms (indices_here (Gives ms) h) refl)
