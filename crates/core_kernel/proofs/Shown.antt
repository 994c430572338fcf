-- The record that a type shows, by the head form that code has found.
use Rattle.std.proofs.Common.{◌≡◌, ◌<◌, ℕ, List, length, map, refl, sym, ap, subst, ◌∙◌}
use Rattle.std.specs.List.{AllByRecursion}
use Rattle.std.specs.Prelude.{cond, eqb, Option, Some, None, Result, Ok, Err, IfOk, IfSome}
use Rattle.std.specs.declared.vec.Vec.{Vec}
use Rattle.core_rules.specs.Term.{Term, Var, Sort, Pi, Lam, App, Def, Fam, Con, Proj, Meta}
use Rattle.core_rules.specs.Signature.{FamDecl, Signature, Telescope, fam_decl}
use Rattle.core_rules.specs.Mapped.{fam_map}
use Rattle.core_rules.specs.Elimination.{Elim, elims}
use Rattle.core_rules.specs.Heads.{Within, Out, HeadOf}
use Rattle.core_rules.specs.BoundedLaws.{no_solutions}
use Rattle.term_pool.specs.Pool.{Pool, Extends, tree}
use Rattle.core_terms.specs.Signature.{Stands, signature_in}
use Rattle.core_kernel.specs.Record.{params_or}
use Rattle.declared_types.proofs.Grown.{fam_within, telescope-stays}
use Rattle.declared_types.proofs.Fields.{decl_is}
use Rattle.weak_head.specs.Elims.{AllBelow, spine_in}
use Rattle.weak_head.specs.States.{AppliedBelow, answer_in}
use Rattle.weak_head.specs.Answers.{IsReduced}
use Rattle.weak_head.specs.declared.answer.Reduced as R
use Rattle.weak_head.specs.declared.answer.Reduced.TheVariants as RV
use Rattle.weak_head.specs.declared.elim.Elim as E
use Rattle.weak_head.specs.declared.state.Applied as A
use Rattle.kernel_rules.specs.Outcome.{Outcome, Gives, Refuses, goes_on, stops}
use Rattle.kernel_rules.specs.Refusals.{Refusal, MetaLeft, NotARecord, OutOfFuel}
use Rattle.kernel_rules.specs.TermReading.{ShowsRecord, record_params, some_params, arguments_for}

-- only the parameters of the declaration are looked at
pub record-same : (k : ℕ) (d e : FamDecl Term) (h : Term) (es : List Elim) → d.params ≡ e.params → record_params k d h es ≡ record_params k e h es
record-same k d e (Fam i) es s = ap (λ (ps : Telescope Term). some_params (elims (Fam i) es) (cond (eqb i k) (arguments_for ps es) None)) s
record-same k d e (Var i) es s = refl
record-same k d e (Sort n) es s = refl
record-same k d e (Pi b x a t) es s = refl
record-same k d e (Lam b x a t) es s = refl
record-same k d e (App b t u) es s = refl
record-same k d e (Def f) es s = refl
record-same k d e (Con c ts) es s = refl
record-same k d e (Proj f t) es s = refl
record-same k d e (Meta m ts) es s = refl

module _ (g : Signature Term) (fuel depth : ℕ) (a : Term) (p : Pool) where
  pub none_found : (v : R.Reduced) → ((m : Option ℕ) (t : A.Applied) (n : ℕ) → v ≡ RV.Found m t n → ⊥) → IsReduced g no_solutions a fuel p v → HeadOf g no_solutions a fuel Out
  none_found (RV.Found m t n) h r = absurd (h m t n refl)
  none_found RV.OutOfFuel h r = r

  pub found-as : (v : R.Reduced) (m : Option ℕ) (t : A.Applied) (n : ℕ) → v ≡ RV.Found m t n → IsReduced g no_solutions a fuel p v → AppliedBelow (length p.trees) t × HeadOf g no_solutions a fuel (Within (answer_in (tree p) m t) n)
  found-as v m t n e r = subst (λ (w : R.Reduced). IsReduced g no_solutions a fuel p w) e r

  module _ (k : ℕ) (d : FamDecl Term) where
    pub shows-out : HeadOf g no_solutions a fuel Out → ShowsRecord g fuel depth k d a (Refuses OutOfFuel)
    shows-out h = stops OutOfFuel (Out, h, refl) refl

    pub shows-waits : (m n : ℕ) (t : A.Applied) → HeadOf g no_solutions a fuel (Within (answer_in (tree p) (Some m) t) n) → ShowsRecord g fuel depth k d a (Refuses (MetaLeft m))
    shows-waits m n t h = stops (MetaLeft m) (Within (answer_in (tree p) (Some m) t) n, h, refl) refl

    pub shows-form : (n : ℕ) (t : A.Applied) (r : Outcome Refusal (List Term)) → HeadOf g no_solutions a fuel (Within (answer_in (tree p) None t) n)
        → r ≡ record_params k d (tree p t.head) (spine_in (tree p) t.spine.items) → ShowsRecord g fuel depth k d a r
    shows-form n t r h e = goes_on (tree p t.head, spine_in (tree p) t.spine.items) (Within (answer_in (tree p) None t) n, h, refl) e

-- nothing is waited for
pub no_meta : (o : Option ℕ) → ((m : ℕ) → o ≡ Some m → ⊥) → o ≡ None
no_meta None h = refl
no_meta (Some m) h = absurd (h m refl)

-- the declaration over the pool it is read over, and over a later one
pub params_same : (p q : Pool) (g : Signature ℕ) (k : ℕ) (x : FamDecl ℕ) (d : FamDecl Term) (h : Term) (es : List Elim) → Stands p g → Extends p q → fam_decl g k ≡ Some x → fam_decl (signature_in p g) k ≡ Some d
    → record_params k (fam_map (tree q) x) h es ≡ record_params k d h es
params_same p q g k x d h es stands e is named =
    let a : (fam_map (tree q) x).params ≡ (fam_map (tree p) x).params = telescope-stays p q x.params e (fam_within p g k x stands is).params in
    let b : d ≡ fam_map (tree p) x = decl_is p g k x d is named in
    record-same k (fam_map (tree q) x) d h es (a ∙ ap (λ (w : FamDecl Term). w.params) (sym b))

module _ {G : Type 0} (f : ℕ → Term) (a : A.Applied) where
  pub no_params : (o : Option (Vec ℕ G)) → ((v : Vec ℕ G) → o ≡ Some v → ⊥) → params_or f a o ≡ Refuses (NotARecord (elims (f a.head) (spine_in f a.spine.items)))
  no_params None n = refl
  no_params (Some v) n = absurd (n v refl)

  pub its_params : (o : Option (Vec ℕ G)) (v : Vec ℕ G) → o ≡ Some v → params_or f a o ≡ Gives (map f v.items)
  its_params o v e = ap (λ (w : Option (Vec ℕ G)). params_or f a w) e

-- the ids of arguments stand in the pool
pub params-below : {G X : Type 0} (n : ℕ) (xs : List E.Elim) (r : Result (Option (Vec ℕ G)) X) → AllBelow n xs → IfOk r (λ o. IfSome o (λ v. (m : ℕ) → AllBelow m xs → AllByRecursion (λ t. t < m) v.items))
    → IfOk r (λ o. IfSome o (λ v. AllByRecursion (λ t. t < n) v.items))
params-below n xs (Ok None) a h = tt
params-below n xs (Ok (Some v)) a h = h n a
params-below n xs (Err e) a h = tt
