-- A constructor that is read in the context of its family's parameters.
use Rattle.std.proofs.Common.{eq-eqb, ◌≡◌, ◌<◌, ◌+◌, ◌++◌, ℕ, true, false, List, [], length, sym, ap, subst, ◌∙◌, arith}
use Rattle.std.specs.Prelude.{eqb, Err}
use Rattle.std.proofs.lemmas.Grind.{common_steps}
use Rattle.std.proofs.lemmas.List.{length-append, length-map}
use Rattle.el_base.proofs.Throughout.{all-append}
use Rattle.core_rules.specs.Term.{Term}
use Rattle.core_rules.specs.Elimination.{con_end}
use Rattle.core_rules.specs.InScope.{ConInScope, InScope, any_meta}
use Rattle.core_rules.specs.Mapped.{AllCon, AllEntries, AllFamily, con_map, entry_map, fam_map, telescope_map}
use Rattle.core_rules.specs.Signature.{ConDecl, Context, Entry, FamDecl, Signature, fams, onto}
use Rattle.term_pool.specs.Pool.{Extends, Pool, tree}
use Rattle.term_pool.specs.Growth.{Extends-trans}
use Rattle.core_terms.proofs.SignatureGrowth.{Stands-extends}
use Rattle.kernel_rules.specs.Outcome.{Gives, Outcome, Refuses}
use Rattle.kernel_rules.specs.Refusals.{ConShape, DeclRefusal, OfKernel, Refusal, TooBig}
use Rattle.kernel_rules.specs.TermReading.{IsTypeOf}
use Rattle.kernel_rules.specs.FamilyReading.{LevelsOf, none_above}
use Rattle.kernel_rules.proofs.DeclOutcome.{con_end-in}
use Rattle.core_kernel.specs.declared.checker.Checker.{Checker}
use Rattle.core_kernel.specs.declared.error.KernelError.{KernelError}
use Rattle.core_kernel.specs.Answers.{AnswersFamily, RefusedBy, in_family}
use Rattle.core_kernel.specs.Checker.{Grows, HasLevel, IsReady, IsTerm, Over, context_in, context_of, over, signature_of, term_of}
use Rattle.core_kernel.specs.Family.{Enters, Levels, ReadsCon}
use Rattle.core_kernel.proofs.Checking.{refused-weaker}
use Rattle.core_kernel.proofs.Contexts.{context_in-extends}
use Rattle.declared_types.proofs.Grown.{con-stays, entries-weaker, fam-stays, length-fams_in, telescope-stays}
use Rattle.core_kernel.proofs.Entering.{context_in-append, signature_grown}
use Rattle.core_kernel.proofs.Families.{refused_term}
use Rattle.core_kernel.proofs.Levels.{con-args, con-big, con-end, con-good, con-shape}

-- a checker whose innermost entries are new
module _ {x z : Checker} (r : IsReady x) (g : Grows x z) (es : List (Entry ℕ)) (n : Enters x z es) (all : AllEntries (λ t. t < length x.pool.now.trees) es) where
  pub over_inside : over z ≡ record { signature = signature_of x; context = onto (telescope_map (term_of x) es) (context_of x); fuel = x.limits.fuel; depth = x.limits.depth }
  over_inside =
      let s : signature_of z ≡ signature_of x = signature_grown r g n.signature in
      let c : context_of z ≡ onto (telescope_map (term_of x) es) (context_of x) =
      ap (context_in z.pool.now) n.context ∙ (context_in-append z.pool.now x.context.now.items es
      ∙ (ap (λ (ts : List (Entry Term)). onto ts (context_in z.pool.now x.context.now.items)) (telescope-stays x.pool.now z.pool.now es g.extends all)
      ∙ ap (λ (c : Context Term). onto (telescope_map (term_of x) es) c) (context_in-extends x.pool.now z.pool.now x.context.now.items g.extends r.context))) in
      let f : z.limits.fuel ≡ x.limits.fuel = ap (λ l. l.fuel) n.limits in
      let d : z.limits.depth ≡ x.limits.depth = ap (λ l. l.depth) n.limits in
      cc (s, c, f, d)

  pub ready_inside : IsReady z
  ready_inside = record {
    signature = rw n.signature (Stands-extends x.pool.now z.pool.now x.signature.now g.extends r.signature);
    context = rw n.context (all-append (λ (e : Entry ℕ). e.ty < length z.pool.now.trees) x.context.now.items es (entries-weaker x.pool.now z.pool.now x.context.now.items g.extends r.context) (entries-weaker x.pool.now z.pool.now es g.extends all));
  }

-- counts that are compared in code
pub counts_same : (m n i j : ℕ) → i ≡ m → j ≡ n → i ≡ j → eqb m n ≡ true
counts_same m n i j a b e = let h : m ≡ n = sym a ∙ (e ∙ b) in eq-eqb m n h

pub counts_differ : (m n i j : ℕ) → i ≡ m → j ≡ n → (i ≡ j → ⊥) → eqb m n ≡ false
counts_differ m n i j a b e = let h : m ≡ n → ⊥ = λ s. e (a ∙ (s ∙ sym b)) in grind (arith, common_steps)

-- w over a later pool
abbrev pub over_pool : Checker → Pool → Checker
over_pool w q = record { pool = record { ref_ptr = w.pool.ref_ptr; ghost_name = w.pool.ghost_name; now = q }; signature = w.signature; context = w.context; limits = w.limits; alloc = w.alloc }

pub grown_on : (x w : Checker) (q : Pool) → Grows x w → Extends w.pool.now q → Grows x (over_pool w q)
grown_on x w q g e = record { same_reference = g.same_reference; extends = Extends-trans g.extends e }

pub entered_on : (x w : Checker) (q : Pool) (ys es : List (Entry ℕ)) → ys ≡ es → Enters x w ys → Enters x (over_pool w q) es
entered_on x w q ys es same n = record { signature = n.signature; context = n.context ∙ ap (λ (zs : List (Entry ℕ)). x.context.now.items ++ zs) same; limits = n.limits }

-- the end of a constructor, put together over a later pool
pub end_stays : (p q : Pool) (fam : ℕ) (d : FamDecl ℕ) (k : ConDecl ℕ) (t : Term) → Extends p q → AllFamily (λ i. i < length p.trees) d → AllCon (λ i. i < length p.trees) k
    → t ≡ con_end fam (fam_map (tree q) d) (con_map (tree q) k) → t ≡ con_end fam (fam_map (tree p) d) (con_map (tree p) k)
end_stays p q fam d k t e a b h = h ∙ (ap (λ (D : FamDecl Term). con_end fam D (con_map (tree q) k)) (fam-stays p q e d a) ∙ ap (con_end fam (fam_map (tree p) d)) (con-stays p q e k b))

module _ (x : Checker) (fam : ℕ) (fd : FamDecl ℕ) (k : ConDecl ℕ) (params : x.context.now.items ≡ fd.params) where
  abbrev Reads : Outcome DeclRefusal (Unit {0}) → Type 0
  Reads = ReadsCon (over x) fam (fam_map (term_of x) fd) (con_map (term_of x) k)

  params_are : context_of x ≡ onto (fam_map (term_of x) fd).params []
  params_are = ap (context_in x.pool.now) params

  levels_here : (r : Outcome Refusal (List ℕ)) → Levels (over x) (telescope_map (term_of x) k.args) r → LevelsOf (signature_of x) x.limits.fuel x.limits.depth (onto (fam_map (term_of x) fd).params []) (con_map (term_of x) k).args r
  levels_here r h = subst (λ (c : Context Term). LevelsOf (signature_of x) x.limits.fuel x.limits.depth c (telescope_map (term_of x) k.args) r) params_are h

  pub con_args_refused : (p : Pool) (e : KernelError) → RefusedBy p (λ r. Levels (over x) (telescope_map (term_of x) k.args) (Refuses r)) e → AnswersFamily p Reads (Err (in_family e))
  con_args_refused p e h =
      refused_term p Reads e
      (refused-weaker p (λ r. Levels (over x) (telescope_map (term_of x) k.args) (Refuses r)) (λ r. Reads (Refuses (OfKernel r)))
      (λ r v. con-args (signature_of x) x.limits.fuel x.limits.depth fam (fam_map (term_of x) fd) (con_map (term_of x) k) r (levels_here (Refuses r) v)) e h)

  same_counts : eqb (length (con_map (term_of x) k).indices) (length (fam_map (term_of x) fd).indices) ≡ eqb (length k.indices) (length fd.indices)
  same_counts =
      let a : length (con_map (term_of x) k).indices ≡ length k.indices = length-map k.indices (term_of x) in
      let b : length (fam_map (term_of x) fd).indices ≡ length fd.indices = length-map fd.indices (entry_map (term_of x)) in
      cc (a, b)

  module _ (ns : List ℕ) (h : Levels (over x) (telescope_map (term_of x) k.args) (Gives ns)) where
    pub con_shape_refused : eqb (length k.indices) (length fd.indices) ≡ false → Reads (Refuses ConShape)
    con_shape_refused e = con-shape (signature_of x) x.limits.fuel x.limits.depth fam (fam_map (term_of x) fd) (con_map (term_of x) k) ns (levels_here (Gives ns) h) (same_counts ∙ e)

    -- z is the checker at which the end is read, t is the end
    module _ (e : eqb (length k.indices) (length fd.indices) ≡ true) {z : Checker} (r : IsReady x) (g : Grows x z) (n : Enters x z k.args) (all : AllEntries (λ t. t < length x.pool.now.trees) k.args) (t : ℕ) (is : term_of z t ≡ con_end fam (fam_map (term_of x) fd) (con_map (term_of x) k)) where
      end_here : (o : Outcome Refusal ℕ) → HasLevel (over z) (term_of z t) o → IsTypeOf (signature_of x) x.limits.fuel x.limits.depth (onto (con_map (term_of x) k).args (onto (fam_map (term_of x) fd).params [])) (con_end fam (fam_map (term_of x) fd) (con_map (term_of x) k)) o
      end_here o v =
          subst (λ (w : Term). IsTypeOf (signature_of x) x.limits.fuel x.limits.depth (onto (telescope_map (term_of x) k.args) (onto (fam_map (term_of x) fd).params [])) w o) is
          (subst (λ (c : Context Term). IsTypeOf (signature_of x) x.limits.fuel x.limits.depth (onto (telescope_map (term_of x) k.args) c) (term_of z t) o) params_are
          (subst (λ (w : Over). HasLevel w (term_of z t) o) (over_inside r g k.args n all) v))

      pub con_end_refused : (p : Pool) (d : KernelError) → RefusedBy p (λ q. HasLevel (over z) (term_of z t) (Refuses q)) d → AnswersFamily p Reads (Err (in_family d))
      con_end_refused p d v =
          refused_term p Reads d
          (refused-weaker p (λ q. HasLevel (over z) (term_of z t) (Refuses q)) (λ q. Reads (Refuses (OfKernel q)))
          (λ q w. con-end (signature_of x) x.limits.fuel x.limits.depth fam (fam_map (term_of x) fd) (con_map (term_of x) k) ns (levels_here (Gives ns) h) (same_counts ∙ e) q (end_here (Refuses q) w)) d v)

      module _ (m : ℕ) (v : HasLevel (over z) (term_of z t) (Gives m)) where
        pub con_too_big : none_above fd.level ns ≡ false → Reads (Refuses TooBig)
        con_too_big b = con-big (signature_of x) x.limits.fuel x.limits.depth fam (fam_map (term_of x) fd) (con_map (term_of x) k) ns (levels_here (Gives ns) h) (same_counts ∙ e) m (end_here (Gives m) v) b

        pub con_is_good : none_above fd.level ns ≡ true → Reads (Gives tt)
        con_is_good b = con-good (signature_of x) x.limits.fuel x.limits.depth fam (fam_map (term_of x) fd) (con_map (term_of x) k) ns (levels_here (Gives ns) h) (same_counts ∙ e) m (end_here (Gives m) v) b

  -- the end is in scope under the arguments
  module _ {z : Checker} (r : IsReady x) (g : Grows x z) (n : Enters x z k.args) (t : ℕ) (is : term_of z t ≡ con_end fam (fam_map (term_of x) fd) (con_map (term_of x) k)) where
    pub end_term : t < length z.pool.now.trees → fam < length (fams x.signature.now) → ConInScope (signature_of x) any_meta (length x.context.now.items) (con_map (term_of x) k) → IsTerm z t
    end_term within b scope =
        let D : FamDecl Term = fam_map (term_of x) fd in
        let K : ConDecl Term = con_map (term_of x) k in
        let p : length x.context.now.items ≡ length D.params = ap length params ∙ sym (length-map fd.params (entry_map (term_of x))) in
        let a : length K.args ≡ length k.args = length-map k.args (entry_map (term_of x)) in
        let f : fam < length (fams (signature_of x)) = let l = length-fams_in x.pool.now x.signature.now in omega (arith, b, l) in
        let s : ConInScope (signature_of x) any_meta (length D.params) K = subst (λ (m : ℕ). ConInScope (signature_of x) any_meta m K) p scope in
        let c : length z.context.now.items ≡ length x.context.now.items + length k.args = ap length n.context ∙ length-append x.context.now.items k.args in
        let m : length D.params + length K.args ≡ length z.context.now.items = omega (arith, p, a, c) in
        let i : InScope (signature_of x) any_meta (length D.params + length K.args) (con_end fam D K) = con_end-in (signature_of x) fam D K f s in
        record {
          within = within;
          scope = subst (λ (s : Signature Term). InScope s any_meta (length z.context.now.items) (term_of z t)) (sym (signature_grown r g n.signature))
              (subst (λ (w : Term). InScope (signature_of x) any_meta (length z.context.now.items) w) (sym is)
              (subst (λ (j : ℕ). InScope (signature_of x) any_meta j (con_end fam D K)) m i));
        }
