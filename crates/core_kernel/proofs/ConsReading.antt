-- The constructors of a family, one after the other.
use Rattle.std.proofs.Common.{◌≡◌, ◌<◌, ℕ, List, [], ◌∷◌, length, map, refl, sym, ap, subst}
use Rattle.std.specs.Prelude.{Err}
use Rattle.std.specs.List.{AllByRecursion}
use Rattle.core_rules.specs.Term.{Term}
use Rattle.core_rules.specs.InScope.{ConInScope, any_meta}
use Rattle.core_rules.specs.Mapped.{AllCon, AllFamily, con_map, fam_map}
use Rattle.core_rules.specs.Signature.{ConDecl, FamDecl, Signature}
use Rattle.term_pool.specs.Pool.{Pool}
use Rattle.kernel_rules.specs.Outcome.{Gives, Outcome, Refuses, goes_on, stops}
use Rattle.kernel_rules.specs.Refusals.{DeclRefusal}
use Rattle.core_kernel.specs.declared.checker.Checker.{Checker}
use Rattle.core_kernel.specs.declared.error.FamilyError.{FamilyError}
use Rattle.core_kernel.specs.Answers.{AnswersFamily}
use Rattle.core_kernel.specs.Checker.{Grows, IsReady, Keeps, Over, over, signature_of, term_of}
use Rattle.core_kernel.specs.Family.{ReadsCon, ReadsCons}
use Rattle.core_kernel.proofs.Checking.{here, signature_kept}
use Rattle.declared_types.proofs.Grown.{con-stays, con-within, fam-stays, fam-within}
use Rattle.core_kernel.proofs.Families.{refused_part}

-- y is the checker before con, the first of the constructors that are left
module _ {x y : Checker} (r : IsReady x) (g : Grows x y) (k : Keeps x y) (fam : ℕ) (fd : FamDecl ℕ) (within : AllFamily (λ t. t < length x.pool.now.trees) fd) (left more : List (ConDecl ℕ)) (con : ConDecl ℕ) (first : left ≡ con ∷ more)
    (all : AllByRecursion (AllCon (λ t. t < length x.pool.now.trees)) left) where
  all_first : AllByRecursion (AllCon (λ t. t < length x.pool.now.trees)) (con ∷ more)
  all_first = subst (λ (ks : List (ConDecl ℕ)). AllByRecursion (AllCon (λ t. t < length x.pool.now.trees)) ks) first all

  pub cons_more : AllByRecursion (AllCon (λ t. t < length x.pool.now.trees)) more
  cons_more = all_first.1

  pub con_below : AllCon (λ t. t < length y.pool.now.trees) con
  con_below = con-within x.pool.now y.pool.now g.extends con all_first.0

  pub decl_below : AllFamily (λ t. t < length y.pool.now.trees) fd
  decl_below = fam-within x.pool.now y.pool.now g.extends fd within

  con_same : con_map (term_of y) con ≡ con_map (term_of x) con
  con_same = con-stays x.pool.now y.pool.now g.extends con all_first.0

  module _ (scope : AllByRecursion (λ (c : ConDecl ℕ). ConInScope (signature_of x) any_meta (length x.context.now.items) (con_map (term_of x) c)) left) where
    scope_first : AllByRecursion (λ (c : ConDecl ℕ). ConInScope (signature_of x) any_meta (length x.context.now.items) (con_map (term_of x) c)) (con ∷ more)
    scope_first = subst (λ (ks : List (ConDecl ℕ)). AllByRecursion (λ (c : ConDecl ℕ). ConInScope (signature_of x) any_meta (length x.context.now.items) (con_map (term_of x) c)) ks) first scope

    pub con_scope : ConInScope (signature_of y) any_meta (length y.context.now.items) (con_map (term_of y) con)
    con_scope =
        subst (λ (s : Signature Term). ConInScope s any_meta (length y.context.now.items) (con_map (term_of y) con)) (sym (signature_kept r g k))
        (subst (λ (n : ℕ). ConInScope (signature_of x) any_meta n (con_map (term_of y) con)) (sym (ap length k.context))
        (subst (λ (c : ConDecl Term). ConInScope (signature_of x) any_meta (length x.context.now.items) c) (sym con_same) scope_first.0))

    pub cons_scope : AllByRecursion (λ (c : ConDecl ℕ). ConInScope (signature_of x) any_meta (length x.context.now.items) (con_map (term_of x) c)) more
    cons_scope = scope_first.1

  con_here : (o : Outcome DeclRefusal (Unit {0})) → ReadsCon (over y) fam (fam_map (term_of y) fd) (con_map (term_of y) con) o → ReadsCon (over x) fam (fam_map (term_of x) fd) (con_map (term_of x) con) o
  con_here o h =
      here r g k (λ (w : Over) (q : Outcome DeclRefusal (Unit {0})). ReadsCon w fam (fam_map (term_of x) fd) (con_map (term_of x) con) q) o
      (subst (λ (d : FamDecl Term). ReadsCon (over y) fam d (con_map (term_of x) con) o) (fam-stays x.pool.now y.pool.now g.extends fd within)
      (subst (λ (c : ConDecl Term). ReadsCon (over y) fam (fam_map (term_of y) fd) c o) con_same h))

  cons_left : (o : Outcome DeclRefusal (Unit {0})) → ReadsCons (over x) fam (fam_map (term_of x) fd) (map (con_map (term_of x)) (con ∷ more)) o → ReadsCons (over x) fam (fam_map (term_of x) fd) (map (con_map (term_of x)) left) o
  cons_left o h = subst (λ (ks : List (ConDecl ℕ)). ReadsCons (over x) fam (fam_map (term_of x) fd) (map (con_map (term_of x)) ks) o) (sym first) h

  pub cons_goes_on : (o : Outcome DeclRefusal (Unit {0})) → ReadsCon (over y) fam (fam_map (term_of y) fd) (con_map (term_of y) con) (Gives tt)
      → ReadsCons (over x) fam (fam_map (term_of x) fd) (map (con_map (term_of x)) more) o → ReadsCons (over x) fam (fam_map (term_of x) fd) (map (con_map (term_of x)) left) o
  cons_goes_on o h q = cons_left o (goes_on tt (con_here (Gives tt) h) q)

  pub cons_stops : (p : Pool) (L : Outcome DeclRefusal (Unit {0}) → Type 0) → ((o : Outcome DeclRefusal (Unit {0})) → ReadsCons (over x) fam (fam_map (term_of x) fd) (map (con_map (term_of x)) left) o → L o)
      → (e : FamilyError) → AnswersFamily p (ReadsCon (over y) fam (fam_map (term_of y) fd) (con_map (term_of y) con)) (Err e) → AnswersFamily p L (Err e)
  cons_stops p L w e h =
      refused_part p (ReadsCon (over y) fam (fam_map (term_of y) fd) (con_map (term_of y) con)) L (λ q v. w (Refuses q) (cons_left (Refuses q) (stops q (con_here (Refuses q) v) refl))) e h

pub cons_done : (o : Over) (fam : ℕ) (d : FamDecl Term) (f : ℕ → Term) (left : List (ConDecl ℕ)) → left ≡ [] → ReadsCons o fam d (map (con_map f) left) (Gives tt)
cons_done o fam d f left e =
    let base : ReadsCons o fam d [] (Gives tt) = refl in
    subst (λ (ks : List (ConDecl ℕ)). ReadsCons o fam d (map (con_map f) ks) (Gives tt)) (sym e) base
