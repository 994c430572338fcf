-- What the calls of a checker leave of it, and what their answers say together.
use Rattle.std.proofs.Common.{max, ◌≡◌, ◌<◌, ℕ, List, [], ◌∷◌, ◌++◌, length, refl, ap, subst, ◌∙◌, arith}
use Rattle.std.specs.Prelude.{Result, Ok, Err}
use Rattle.core_rules.specs.declared.Flag.{Flag}
use Rattle.core_rules.specs.Term.{Term, Terms, Sort, Pi, Lam, App, Con, Proj, env_of}
use Rattle.core_rules.specs.Substitution.{subst as put, under}
use Rattle.core_rules.specs.Signature.{Entry}
use Rattle.core_rules.specs.Elimination.{con_type}
use Rattle.core_rules.specs.Typing.{IsCon, IsField, field_env}
use Rattle.kernel_rules.specs.TermReading.{FitsOf}
use Rattle.term_pool.specs.Pool.{Pool}
use Rattle.term_pool.specs.Growth.{Extends-refl, Extends-length, Extends-tree, Extends-trans}
use Rattle.core_terms.specs.Signature.{signature_in}
use Rattle.core_terms.proofs.SignatureGrowth.{signature_in-extends, Stands-extends}
use Rattle.core_kernel.specs.declared.checker.Checker.{Checker}
use Rattle.core_kernel.specs.declared.error.KernelError.{KernelError}
use Rattle.core_kernel.specs.declared.error.KernelError.TheVariants as E
use Rattle.kernel_rules.specs.Outcome.{Outcome, Gives, Refuses, Then, goes_on, stops}
use Rattle.kernel_rules.specs.Refusals.{Refusal}
use Rattle.core_kernel.specs.Answers.{RefusedBy, Answers}
use Rattle.core_kernel.specs.Checker.{ShowsParams, context_in, IsReady, IsTerm, IsBody, Grows, Keeps, Over, over, term_of, signature_of, context_of, Infers, HasLevel, Checks, ShowsParts, with_entry, entry_of}
use Rattle.core_kernel.proofs.Contexts.{context_in-extends, context_in-push}
use Rattle.declared_types.proofs.Grown.{entries-weaker}

pub Grows-refl : (x : Checker) → Grows x x
Grows-refl x = record { same_reference = refl; extends = Extends-refl x.pool.now }

pub Keeps-refl : (x : Checker) → Keeps x x
Keeps-refl x = record { signature = refl; context = refl; limits = refl }

pub Grows-trans : {x y z : Checker} → Grows x y → Grows y z → Grows x z
Grows-trans h k = record { same_reference = k.same_reference ∙ h.same_reference; extends = Extends-trans h.extends k.extends }

pub Keeps-trans : {x y z : Checker} → Keeps x y → Keeps y z → Keeps x z
Keeps-trans h k = record { signature = k.signature ∙ h.signature; context = k.context ∙ h.context; limits = k.limits ∙ h.limits }

-- after a call
module _ {x y : Checker} (r : IsReady x) (g : Grows x y) (k : Keeps x y) where
  pub ready_kept : IsReady y
  ready_kept = record {
    signature = rw k.signature (Stands-extends x.pool.now y.pool.now x.signature.now g.extends r.signature);
    context = rw k.context (entries-weaker x.pool.now y.pool.now x.context.now.items g.extends r.context);
  }

  pub signature_kept : signature_of y ≡ signature_of x
  signature_kept = ap (signature_in y.pool.now) k.signature ∙ signature_in-extends x.pool.now y.pool.now x.signature.now g.extends r.signature

  pub over_kept : over y ≡ over x
  over_kept =
      let c : context_of y ≡ context_of x = ap (context_in y.pool.now) k.context ∙ context_in-extends x.pool.now y.pool.now x.context.now.items g.extends r.context in
      let f : y.limits.fuel ≡ x.limits.fuel = ap (λ l. l.fuel) k.limits in
      let d : y.limits.depth ≡ x.limits.depth = ap (λ l. l.depth) k.limits in
      cc (signature_kept, c, f, d)

  pub within_kept : (t : ℕ) → t < length x.pool.now.trees → t < length y.pool.now.trees
  within_kept t l = omega (arith, l, Extends-length g.extends)

  pub term_kept : (t : ℕ) → t < length x.pool.now.trees → term_of y t ≡ term_of x t
  term_kept t l = Extends-tree t g.extends l

  pub is_body_kept : (t : ℕ) → IsBody x t → IsBody y t
  is_body_kept t i = record { within = within_kept t i.within; scope = rw (signature_kept, term_kept t i.within, k.context) i.scope }

  pub is_term_kept : (t : ℕ) → IsTerm x t → IsTerm y t
  is_term_kept t i = record { within = within_kept t i.within; scope = rw (signature_kept, term_kept t i.within, k.context) i.scope }

-- ---- answers

pub refused-weaker : (p : Pool) (K L : Refusal → Type 0) → ((r : Refusal) → K r → L r) → (e : KernelError) → RefusedBy p K e → RefusedBy p L e
refused-weaker p K L w (E.Mismatch a b) h = (h.0, h.1, w _ h.2)
refused-weaker p K L w (E.NotAFunction a) h = (h.0, w _ h.1)
refused-weaker p K L w (E.NotARecord a) h = (h.0, w _ h.1)
refused-weaker p K L w (E.NotAType a) h = (h.0, w _ h.1)
refused-weaker p K L w E.LevelTooLarge h = w _ h
refused-weaker p K L w (E.MetaLeft m) h = w _ h
refused-weaker p K L w E.OutOfFuel h = w _ h
refused-weaker p K L w E.OutOfDepth h = w _ h
refused-weaker p K L w E.NoMemory h = tt

module _ {A B : Type 0} (p : Pool) (P : Outcome Refusal A → Type 0) (Q : A → Outcome Refusal B → Type 0) where
  -- the first refusal counts
  pub refused_first : (e : KernelError) → RefusedBy p (λ r. P (Refuses r)) e → RefusedBy p (λ r. Then P Q (Refuses r)) e
  refused_first e h = refused-weaker p (λ r. P (Refuses r)) (λ r. Then P Q (Refuses r)) (λ r k. stops r k refl) e h

  pub refused_after : (a : A) → P (Gives a) → (e : KernelError) → RefusedBy p (λ r. Q a (Refuses r)) e → RefusedBy p (λ r. Then P Q (Refuses r)) e
  refused_after a k e h = refused-weaker p (λ r. Q a (Refuses r)) (λ r. Then P Q (Refuses r)) (λ r q. goes_on a k q) e h

  pub answers_after : (a : A) → P (Gives a) → (o : Result B KernelError) → Answers p (Q a) o → Answers p (Then P Q) o
  answers_after a k (Ok b) h = goes_on a k h
  answers_after a k (Err e) h = refused_after a k e h

-- ---- what is said of one checker, said of the one before it

module _ {x y : Checker} (r : IsReady x) (g : Grows x y) (k : Keeps x y) where
  pub here : {A : Type 0} (K : Over → A → Type 0) (a : A) → K (over y) a → K (over x) a
  here K a h = subst (λ o. K o a) (over_kept r g k) h

  pub here_for : {A : Type 0} (K : Over → Term → A → Type 0) (t : ℕ) (a : A) → t < length x.pool.now.trees → K (over y) (term_of y t) a → K (over x) (term_of x t) a
  here_for K t a l h = subst (λ u. K (over x) u a) (term_kept r g k t l) (here (λ o. K o (term_of y t)) a h)

-- under one entry more
module _ {x y : Checker} (r : IsReady x) (g : Grows x y) (k : Keeps x y) where
  pub here_under : {A : Type 0} (K : Over → Term → A → Type 0) (b : Flag) (n s t : ℕ) (a : A) → s < length x.pool.now.trees → t < length x.pool.now.trees
      → K (with_entry (over y) (record { name = n; flag = b; ty = term_of y s })) (term_of y t) a → K (with_entry (over x) (record { name = n; flag = b; ty = term_of x s })) (term_of x t) a
  here_under K b n s t a l m h =
      here_for r g k (λ o u d. K (with_entry o (record { name = n; flag = b; ty = term_of x s })) u d) t a m
      (subst (λ v. K (with_entry (over y) (record { name = n; flag = b; ty = v })) (term_of y t) a) (term_kept r g k s l) h)

-- ---- one entry more

pub under_entry : {A : Type 0} (K : Over → A → Type 0) (x : Checker) (es : List (Entry ℕ)) (e : Entry ℕ) (a : A) → es ≡ x.context.now.items ++ e ∷ []
    → K (record { signature = signature_of x; context = context_in x.pool.now es; fuel = x.limits.fuel; depth = x.limits.depth }) a → K (with_entry (over x) (entry_of x e)) a
under_entry K x es e a is h =
    let c : context_in x.pool.now es ≡ entry_of x e ∷ context_of x = ap (context_in x.pool.now) is ∙ context_in-push x.pool.now x.context.now.items e in
    subst (λ d. K (record { signature = signature_of x; context = d; fuel = x.limits.fuel; depth = x.limits.depth }) a) c h

-- ---- applications

module _ (o : Over) (b : Flag) (t u : Term) where
  abbrev after_parts : Term × Term → Outcome Refusal Term → Type 0
  after_parts w = Then (Checks o u w.0) (λ z q. q ≡ Gives (put w.1 0 u))

  abbrev after_function : Term → Outcome Refusal Term → Type 0
  after_function a = Then (ShowsParts o b a) after_parts

  pub app-no_function : (p : Pool) (e : KernelError) → RefusedBy p (λ r. Infers o t (Refuses r)) e → RefusedBy p (λ r. Infers o (App b t u) (Refuses r)) e
  app-no_function p e h = refused_first p (Infers o t) after_function e h

  module _ (a : Term) (f : Infers o t (Gives a)) where
    pub app-no_parts : (p : Pool) (e : KernelError) → RefusedBy p (λ r. ShowsParts o b a (Refuses r)) e → RefusedBy p (λ r. Infers o (App b t u) (Refuses r)) e
    app-no_parts p e h = refused_after p (Infers o t) after_function a f e (refused_first p (ShowsParts o b a) after_parts e h)

    module _ (w : Term × Term) (s : ShowsParts o b a (Gives w)) where
      pub app-no_check : (p : Pool) (e : KernelError) → RefusedBy p (λ r. Checks o u w.0 (Refuses r)) e → RefusedBy p (λ r. Infers o (App b t u) (Refuses r)) e
      app-no_check p e h = refused_after p (Infers o t) after_function a f e (refused_after p (ShowsParts o b a) after_parts w s e (refused_first p (Checks o u w.0) (λ z q. q ≡ Gives (put w.1 0 u)) e h))

      pub app-gives : Checks o u w.0 (Gives tt) → (r : Term) → r ≡ put w.1 0 u → Infers o (App b t u) (Gives r)
      app-gives h r e = goes_on a f (goes_on w s (goes_on tt h (ap Gives e)))

-- ---- function types

module _ (o : Over) (e : Entry Term) (t : Term) (m : ℕ) (f : HasLevel o e.ty (Gives m)) where
  abbrev after_level : ℕ → Outcome Refusal Term → Type 0
  after_level m = Then (HasLevel (with_entry o e) t) (λ n q. q ≡ Gives (Sort (max m n)))

  pub pi-no_codomain : (p : Pool) (d : KernelError) → RefusedBy p (λ r. HasLevel (with_entry o e) t (Refuses r)) d → RefusedBy p (λ r. Infers o (Pi e.flag e.name e.ty t) (Refuses r)) d
  pi-no_codomain p d h = refused_after p (HasLevel o e.ty) after_level m f d (refused_first p (HasLevel (with_entry o e) t) (λ n q. q ≡ Gives (Sort (max m n))) d h)

  pub pi-gives : (n : ℕ) → HasLevel (with_entry o e) t (Gives n) → (r : Term) → r ≡ Sort (max m n) → Infers o (Pi e.flag e.name e.ty t) (Gives r)
  pi-gives n h r e = goes_on m f (goes_on n h (ap Gives e))

-- ---- lambdas

module _ (o : Over) (e : Entry Term) (t : Term) (m : ℕ) (f : HasLevel o e.ty (Gives m)) where
  abbrev after_domain : ℕ → Outcome Refusal Term → Type 0
  after_domain m = Then (Infers (with_entry o e) t) (λ u q. q ≡ Gives (Pi e.flag e.name e.ty u))

  pub lam-no_body : (p : Pool) (d : KernelError) → RefusedBy p (λ r. Infers (with_entry o e) t (Refuses r)) d → RefusedBy p (λ r. Infers o (Lam e.flag e.name e.ty t) (Refuses r)) d
  lam-no_body p d h = refused_after p (HasLevel o e.ty) after_domain m f d (refused_first p (Infers (with_entry o e) t) (λ u q. q ≡ Gives (Pi e.flag e.name e.ty u)) d h)

  pub lam-gives : (u : Term) → Infers (with_entry o e) t (Gives u) → (r : Term) → r ≡ Pi e.flag e.name e.ty u → Infers o (Lam e.flag e.name e.ty t) (Gives r)
  lam-gives u h r e = goes_on m f (goes_on u h (ap Gives e))

-- ---- a domain that is refused

module _ (o : Over) (e : Entry Term) (t : Term) where
  pub pi-no_domain : (p : Pool) (d : KernelError) → RefusedBy p (λ r. HasLevel o e.ty (Refuses r)) d → RefusedBy p (λ r. Infers o (Pi e.flag e.name e.ty t) (Refuses r)) d
  pi-no_domain p d h = refused_first p (HasLevel o e.ty) (λ m. Then (HasLevel (with_entry o e) t) (λ n q. q ≡ Gives (Sort (max m n)))) d h

  pub lam-no_domain : (p : Pool) (d : KernelError) → RefusedBy p (λ r. HasLevel o e.ty (Refuses r)) d → RefusedBy p (λ r. Infers o (Lam e.flag e.name e.ty t) (Refuses r)) d
  lam-no_domain p d h = refused_first p (HasLevel o e.ty) (λ m. Then (Infers (with_entry o e) t) (λ u q. q ≡ Gives (Pi e.flag e.name e.ty u))) d h

-- ---- constructors

module _ (o : Over) (k : ℕ) (ps : Terms) (is : IsCon o.signature k) where
  abbrev pub ConFits : Outcome Refusal (Unit {0}) → Type 0
  ConFits = FitsOf o.signature o.fuel o.depth o.context ps is.decl.params []

  pub con-no_fit : (p : Pool) (e : KernelError) → RefusedBy p (λ r. ConFits (Refuses r)) e → RefusedBy p (λ r. Infers o (Con k ps) (Refuses r)) e
  con-no_fit p e h = refused-weaker p (λ r. ConFits (Refuses r)) (λ r. Infers o (Con k ps) (Refuses r)) (λ r x. (is, stops r x refl)) e h

  pub con-gives : ConFits (Gives tt) → (r : Term) → r ≡ under (env_of ps) (con_type is.fam is.decl is.con) → Infers o (Con k ps) (Gives r)
  con-gives h r e = (is, goes_on tt h (ap Gives e))

-- where the terms and the entries are given in another form
module _ (o : Over) (k : ℕ) (ps us : Terms) (es : List (Entry Term)) (is : IsCon o.signature k) (a : us ≡ ps) (b : es ≡ is.decl.params) where
  abbrev GivenFits : Outcome Refusal (Unit {0}) → Type 0
  GivenFits = FitsOf o.signature o.fuel o.depth o.context us es []

  fits_for : (r : Outcome Refusal (Unit {0})) → GivenFits r → ConFits o k ps is r
  fits_for r h =
      subst (λ (ts : Terms). FitsOf o.signature o.fuel o.depth o.context ts is.decl.params [] r) a
      (subst (λ (xs : List (Entry Term)). FitsOf o.signature o.fuel o.depth o.context us xs [] r) b h)

  pub given-no_fit : (p : Pool) (e : KernelError) → RefusedBy p (λ r. GivenFits (Refuses r)) e → RefusedBy p (λ r. Infers o (Con k ps) (Refuses r)) e
  given-no_fit p e h = con-no_fit o k ps is p e (refused-weaker p (λ r. GivenFits (Refuses r)) (λ r. ConFits o k ps is (Refuses r)) (λ r x. fits_for (Refuses r) x) e h)

  pub given-gives : GivenFits (Gives tt) → (r : Term) → r ≡ under (env_of ps) (con_type is.fam is.decl is.con) → Infers o (Con k ps) (Gives r)
  given-gives h r e = con-gives o k ps is (fits_for (Gives tt) h) r e

-- ---- projections

module _ (o : Over) (f : ℕ) (t : Term) (is : IsField o.signature f) where
  pub proj-no_value : (p : Pool) (e : KernelError) → RefusedBy p (λ r. Infers o t (Refuses r)) e → RefusedBy p (λ r. Infers o (Proj f t) (Refuses r)) e
  proj-no_value p e h = refused-weaker p (λ r. Infers o t (Refuses r)) (λ r. Infers o (Proj f t) (Refuses r)) (λ r x. (is, stops r x refl)) e h

  module _ (a : Term) (h : Infers o t (Gives a)) where
    pub proj-no_record : (p : Pool) (e : KernelError) → RefusedBy p (λ r. ShowsParams o is.fam is.decl a (Refuses r)) e → RefusedBy p (λ r. Infers o (Proj f t) (Refuses r)) e
    proj-no_record p e s = refused-weaker p (λ r. ShowsParams o is.fam is.decl a (Refuses r)) (λ r. Infers o (Proj f t) (Refuses r)) (λ r x. (is, goes_on a h (stops r x refl))) e s

    pub proj-gives : (ps : List Term) → ShowsParams o is.fam is.decl a (Gives ps) → (r : Term) → r ≡ under (field_env o.signature f is ps t) is.entry.ty → Infers o (Proj f t) (Gives r)
    proj-gives ps s r e = (is, goes_on a h (goes_on ps s (ap Gives e)))
