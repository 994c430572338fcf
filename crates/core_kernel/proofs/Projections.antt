-- What the record of a projection's term is to the family that code looks up.
use Rattle.std.proofs.Common.{◌≡◌, ℕ, List, sym, subst}
use Rattle.std.specs.Prelude.{Some}
use Rattle.core_rules.specs.Term.{Term}
use Rattle.core_rules.specs.Signature.{Signature, fam_decl, field_place}
use Rattle.core_rules.specs.Typing.{IsField}
use Rattle.term_pool.specs.Pool.{Pool}
use Rattle.kernel_rules.specs.Outcome.{Gives, Refuses}
use Rattle.core_kernel.specs.declared.checker.Checker.{Checker}
use Rattle.core_kernel.specs.declared.error.KernelError.{KernelError}
use Rattle.core_kernel.specs.Answers.{RefusedBy}
use Rattle.core_kernel.specs.Checker.{Over, Grows, IsReady, Keeps, ShowsParams, over, signature_of}
use Rattle.core_kernel.proofs.Checking.{here, signature_kept}
use Rattle.declared_types.proofs.Fields.{field_place_fam}

-- y is the checker after the term's type is inferred
module _ {x y : Checker} (r : IsReady x) (g : Grows x y) (k : Keeps x y) (field fam at : ℕ) (place : field_place x.signature.now field ≡ Some (fam, at)) (is : IsField (signature_of x) field) where
  same_fam : is.fam ≡ fam
  same_fam = field_place_fam x.pool.now x.signature.now field fam at place is

  pub named_after : fam_decl (signature_of y) fam ≡ Some is.decl
  named_after = subst (λ (s : Signature Term). fam_decl s fam ≡ Some is.decl) (sym (signature_kept r g k)) (subst (λ d. fam_decl (signature_of x) d ≡ Some is.decl) same_fam is.is_decl)

  module _ (a : Term) where
    pub no_record : (p : Pool) (e : KernelError) → RefusedBy p (λ q. ShowsParams (over y) fam is.decl a (Refuses q)) e → RefusedBy p (λ q. ShowsParams (over x) is.fam is.decl a (Refuses q)) e
    no_record p e h =
        subst (λ d. RefusedBy p (λ q. ShowsParams (over x) d is.decl a (Refuses q)) e) (sym same_fam)
        (here r g k (λ (o : Over) (d : KernelError). RefusedBy p (λ q. ShowsParams o fam is.decl a (Refuses q)) d) e h)

    pub record_shown : (ps : List Term) → ShowsParams (over y) fam is.decl a (Gives ps) → ShowsParams (over x) is.fam is.decl a (Gives ps)
    record_shown ps h =
        subst (λ d. ShowsParams (over x) d is.decl a (Gives ps)) (sym same_fam)
        (here r g k (λ (o : Over) (us : List Term). ShowsParams o fam is.decl a (Gives us)) ps h)
