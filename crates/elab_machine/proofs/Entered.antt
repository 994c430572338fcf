-- Binders of lambdas and of function types that are entered one after the other, and groups of names whose type is read first.
use Rattle.std.proofs.Common.{◌≡◌, ◌<◌, ◌==◌, ℕ, max, false, List, [], ◌∷◌, ◌++◌, length, refl, sym, ap, subst, ◌∙◌, arith}
use Rattle.std.proofs.lemmas.List.{map-append}
use Rattle.el_base.proofs.Throughout.{all-append}
use Rattle.core_rules.specs.declared.Flag.{Flag}
use Rattle.core_rules.specs.Term.{Term, Pi}
use Rattle.core_rules.specs.Substitution.{shift}
use Rattle.core_rules.specs.Signature.{Entry, Telescope}
use Rattle.core_rules.specs.Mapped.{AllEntries, entry_map, telescope_map}
use Rattle.term_pool.specs.Pool.{Pool, Extends, tree}
use Rattle.term_pool.specs.Growth.{Extends-length, Extends-tree}
use Rattle.kernel_rules.specs.Outcome.{Outcome, Gives, Refuses}
use Rattle.el_outside.specs.declared.place.Pos.{Pos}
use Rattle.resolved_tree.specs.declared.resolved.ResolvedExpr.{ResolvedExpr}
use Rattle.resolved_tree.specs.declared.resolved.ResolvedName.{ResolvedName}
use Rattle.resolved_tree.specs.declared.resolved.ResolvedBinder.{ResolvedBinder}
use Rattle.written_rules.specs.Refusals.{Refusal}
use Rattle.written_rules.specs.Asking.{Reads, ◌>>=◌, gives}
use Rattle.written_rules.specs.Rules.{Values, Checks, Types, BinderMeaning, Typed, Untyped, binding, known, function_wanted, agrees, typed_lambda, lambda, grouped, function_type}
use Rattle.written_rules.specs.Expressions.{ids, expr_meaning, binder_meaning}
use Rattle.elab_machine.specs.declared.writer.Writer.{Writer}
use Rattle.elab_machine.specs.declared.error.WrittenError.{WrittenError}
use Rattle.elab_machine.specs.declared.binders.Lambdas as L
use Rattle.elab_machine.specs.declared.binders.Domains as D
use Rattle.elab_machine.specs.declared.binders.Typed as T
use Rattle.elab_machine.specs.Answers.{RefusedBy}
use Rattle.elab_machine.specs.Binders.{AreLambdas, AreDomains, in_lambdas, in_functions, binders_in}
use Rattle.elab_machine.specs.Writer.{IsReady, Grows, Keeps, Enters, IsEntered, Over, Read, over, term_of, values_of, signature_of}
use Rattle.elab_machine.proofs.Kept.{Grows-trans, Keeps-trans, ready_kept, over_same, over_kept, values_kept, term_kept}
use Rattle.elab_machine.proofs.Reading.{refused-weaker, refused-first, read-next}
use Rattle.elab_machine.proofs.Around.{entries-weaker, telescope-stays, lambdas-append, functions-append}
use Rattle.elab_machine.proofs.Entering.{Enters-trans, kept_enters, typed-further, typed-no_type, typed-other, typed-next}
use Rattle.elab_machine.proofs.Steps.{Readings, LambdaReadings}

-- ---- entries of one binder after those of the binders before it

pub telescope-join : (p q : Pool) (es fs new : List (Entry ℕ)) → Extends p q → AllEntries (λ t. t < length p.trees) es → new ≡ es ++ fs
    → telescope_map (tree q) new ≡ telescope_map (tree p) es ++ telescope_map (tree q) fs
telescope-join p q es fs new h a is =
    ap (telescope_map (tree q)) is ∙ (map-append (entry_map (tree q)) es fs ∙ ap (λ (xs : Telescope Term). xs ++ telescope_map (tree q) fs) (telescope-stays p q es h a))

pub entries-join : (p q : Pool) (es fs new : List (Entry ℕ)) → Extends p q → AllEntries (λ t. t < length p.trees) es → AllEntries (λ t. t < length q.trees) fs → new ≡ es ++ fs
    → AllEntries (λ t. t < length q.trees) new
entries-join p q es fs new h a b is =
    subst (λ (xs : List (Entry ℕ)). AllEntries (λ t. t < length q.trees) xs) (sym is) (all-append (λ (e : Entry ℕ). e.ty < length q.trees) es fs (entries-weaker p q es h a) b)

-- ---- one binder more

pub lambda-one : (p : Pos) (m : BinderMeaning) (bs : List BinderMeaning) (e : Checks) → ◌≡◌ {A = Checks} (lambda p (m ∷ []) (lambda p bs e)) (lambda p (m ∷ bs) e)
lambda-one p (Typed f xs a) bs e = refl
lambda-one p (Untyped q f x) bs e = refl

pub function-one : (m : BinderMeaning) (bs : List BinderMeaning) (e : Types) → ◌≡◌ {A = Types} (function_type (m ∷ []) (function_type bs e)) (function_type (m ∷ bs) e)
function-one (Typed f xs a) bs e = refl
function-one (Untyped q f x) bs e = refl

-- y is the writer before the binder b
module _ {x y : Writer} (rx : IsReady x) (gx : Grows x y) (ex : Enters x y) (left more : List ResolvedBinder) (b : ResolvedBinder) (first : left ≡ b ∷ more) (entries : List (Entry ℕ)) where
  over_x : over y ≡ over x
  over_x = over_same rx gx ex.signature ex.limits

  abbrev B : BinderMeaning
  B = binder_meaning (signature_of x) b

  -- of a function type
  module _ (W : Types → Types) (level : ℕ) (reading : Readings (over x) W (values_of x) (telescope_map (term_of y) entries) level (function_type (binders_in x left)) (values_of y)) where
    domains-after : (e : Types) (r : Outcome Refusal (Term × ℕ)) → Read (over x) (function_type (B ∷ []) (function_type (binders_in x more) e) (values_of y)) r → Read (over x) (W e (values_of x)) (in_functions (telescope_map (term_of y) entries) level r)
    domains-after e r k =
        reading e r (subst (λ (bs : List ResolvedBinder). Read (over x) (function_type (binders_in x bs) e (values_of y)) r) (sym first)
        (subst (λ (V : Types). Read (over x) (V (values_of y)) r) (function-one B (binders_in x more) e) k))

    pub domains-refused : (q : Pool) (d : WrittenError) → ((k : Types) → RefusedBy q (λ r. Read (over y) (function_type (binder_meaning (signature_of y) b ∷ []) k (values_of y)) (Refuses r)) d)
        → (k : Types) → RefusedBy q (λ r. Read (over x) (W k (values_of x)) (Refuses r)) d
    domains-refused q d h k =
        let V : Types = function_type (binders_in x more) k in
        refused-weaker q (λ r. Read (over x) (function_type (B ∷ []) V (values_of y)) (Refuses r)) (λ r. Read (over x) (W k (values_of x)) (Refuses r)) (λ r j. domains-after k (Refuses r) j) d
        (subst (λ (o : Over). RefusedBy q (λ r. Read o (function_type (binder_meaning o.signature b ∷ []) V (values_of y)) (Refuses r)) d) over_x (h V))

    module _ {z : Writer} (gz : Grows y z) (within : AllEntries (λ t. t < length y.pool.now.trees) entries) (w : D.Domains) (h : AreDomains y z (function_type (binder_meaning (signature_of y) b ∷ [])) w)
        (new : List (Entry ℕ)) (joined : new ≡ entries ++ w.entries.items) where
      pub domains-next : Readings (over x) W (values_of x) (telescope_map (term_of z) new) (max level w.level) (function_type (binders_in x more)) (values_of z)
      domains-next e r k =
          let V : Types = function_type (binders_in x more) e in
          let es : Telescope Term = telescope_map (term_of y) entries in
          let fs : Telescope Term = telescope_map (term_of z) w.entries.items in
          let k1 : Read (over y) (V (values_of z)) r = subst (λ (o : Over). Read o (V (values_of z)) r) (sym over_x) k in
          let s : Read (over x) (function_type (B ∷ []) V (values_of y)) (in_functions fs w.level r) =
          subst (λ (o : Over). Read o (function_type (binder_meaning o.signature b ∷ []) V (values_of y)) (in_functions fs w.level r)) over_x (h.reading V r k1) in
          subst (λ (q : Outcome Refusal (Term × ℕ)). Read (over x) (W e (values_of x)) q)
          (functions-append es fs level w.level r ∙ ap (λ (ts : Telescope Term). in_functions ts (max level w.level) r) (sym (telescope-join y.pool.now z.pool.now entries w.entries.items new gz.extends within joined)))
          (domains-after e (in_functions fs w.level r) s)

  -- of a lambda at the type a
  module _ (p : Pos) (W : Checks → Checks) (a : Term) (wanted : ℕ)
      (reading : LambdaReadings (over x) W (values_of x) a (telescope_map (term_of y) entries) (lambda p (binders_in x left)) (values_of y) (term_of y wanted)) where
    lambdas-after : (e : Checks) (r : Outcome Refusal Term) → Read (over x) (lambda p (B ∷ []) (lambda p (binders_in x more) e) (values_of y) (term_of y wanted)) r → Read (over x) (W e (values_of x) a) (in_lambdas (telescope_map (term_of y) entries) r)
    lambdas-after e r k =
        reading e r (subst (λ (bs : List ResolvedBinder). Read (over x) (lambda p (binders_in x bs) e (values_of y) (term_of y wanted)) r) (sym first)
        (subst (λ (V : Checks). Read (over x) (V (values_of y) (term_of y wanted)) r) (lambda-one p B (binders_in x more) e) k))

    pub lambdas-refused : (q : Pool) (d : WrittenError) → ((k : Checks) → RefusedBy q (λ r. Read (over y) (lambda p (binder_meaning (signature_of y) b ∷ []) k (values_of y) (term_of y wanted)) (Refuses r)) d)
        → (k : Checks) → RefusedBy q (λ r. Read (over x) (W k (values_of x) a) (Refuses r)) d
    lambdas-refused q d h k =
        let V : Checks = lambda p (binders_in x more) k in
        refused-weaker q (λ r. Read (over x) (lambda p (B ∷ []) V (values_of y) (term_of y wanted)) (Refuses r)) (λ r. Read (over x) (W k (values_of x) a) (Refuses r)) (λ r j. lambdas-after k (Refuses r) j) d
        (subst (λ (o : Over). RefusedBy q (λ r. Read o (lambda p (binder_meaning o.signature b ∷ []) V (values_of y) (term_of y wanted)) (Refuses r)) d) over_x (h V))

    module _ {z : Writer} (gz : Grows y z) (within : AllEntries (λ t. t < length y.pool.now.trees) entries) (w : L.Lambdas) (h : AreLambdas y z (lambda p (binder_meaning (signature_of y) b ∷ [])) (term_of y wanted) w)
        (new : List (Entry ℕ)) (joined : new ≡ entries ++ w.entries.items) where
      pub lambdas-next : LambdaReadings (over x) W (values_of x) a (telescope_map (term_of z) new) (lambda p (binders_in x more)) (values_of z) (term_of z w.wanted)
      lambdas-next e r k =
          let V : Checks = lambda p (binders_in x more) e in
          let es : Telescope Term = telescope_map (term_of y) entries in
          let fs : Telescope Term = telescope_map (term_of z) w.entries.items in
          let k1 : Read (over y) (V (values_of z) (term_of z w.wanted)) r = subst (λ (o : Over). Read o (V (values_of z) (term_of z w.wanted)) r) (sym over_x) k in
          let s : Read (over x) (lambda p (B ∷ []) V (values_of y) (term_of y wanted)) (in_lambdas fs r) =
          subst (λ (o : Over). Read o (lambda p (binder_meaning o.signature b ∷ []) V (values_of y) (term_of y wanted)) (in_lambdas fs r)) over_x (h.reading V r k1) in
          subst (λ (q : Outcome Refusal Term). Read (over x) (W e (values_of x) a) q)
          (lambdas-append es fs r ∙ ap (λ (ts : Telescope Term). in_lambdas ts r) (sym (telescope-join y.pool.now z.pool.now entries w.entries.items new gz.extends within joined)))
          (lambdas-after e (in_lambdas fs r) s)

-- ---- the domains of a group

-- what comes after its type
abbrev pub group_after : Flag → ℕ → List ℕ → Types → Values → Term × ℕ → Reads (Term × ℕ)
group_after f x xs e vs t = grouped f xs (known (shift t.0 0 1) t.1) e (binding x t.0 vs) >>= (λ c. gives (Pi f x t.0 c.0, max t.1 c.1))

module _ (o : Over) (f : Flag) (A : Types) (vs : Values) where
  pub group-refused : (names : List ResolvedName) → (length names == 0) ≡ false → (k : Types) (q : Pool) (d : WrittenError) → RefusedBy q (λ r. Read o (A vs) (Refuses r)) d
      → RefusedBy q (λ r. Read o (grouped f (ids names) A k vs) (Refuses r)) d
  group-refused [] n k q d h = absurd cc
  group-refused (x ∷ xs) n k q d h = refused-first o (A vs) (group_after f x.id (ids xs) k vs) q d h

  -- over a type that is known, and over the expression that it was read from
  pub group-known : (names : List ResolvedName) → (length names == 0) ≡ false → (a : Term) (n : ℕ) → Read o (A vs) (Gives (a, n)) → (k : Types) (r : Outcome Refusal (Term × ℕ)) → Read o (grouped f (ids names) (known a n) k vs) r
      → Read o (grouped f (ids names) A k vs) r
  group-known [] e a n s k r h = absurd cc
  group-known (x ∷ xs) e a n s k r h = read-next o (A vs) (group_after f x.id (ids xs) k vs) (a, n) r s h

-- z is the writer after the type
pub group-entered : {x z y : Writer} (rx : IsReady x) (gz : Grows x z) (kz : Keeps x z) (f : Flag) (names : List ResolvedName) → (length names == 0) ≡ false → (A : Types) (t : T.Typed) → Read (over x) (A (values_of x)) (Gives (term_of z t.term, t.level))
    → (w : D.Domains) → AreDomains z y (grouped f (ids names) (known (term_of z t.term) t.level)) w → AreDomains x y (grouped f (ids names) A) w
group-entered {x} {z} {y} rx gz kz f names n A t s w h = record {
  enters = kept_enters kz h.enters;
  within = h.within;
  reading = λ e r k.
      let K : Types = known (term_of z t.term) t.level in
      let q = in_functions (telescope_map (term_of y) w.entries.items) w.level r in
      group-known (over x) f A (values_of x) names n (term_of z t.term) t.level s e q
      (subst (λ (vs : Values). Read (over x) (grouped f (ids names) K e vs) q) (values_kept rx gz kz)
      (subst (λ (o : Over). Read o (grouped f (ids names) K e (values_of z)) q) (over_kept rx gz kz) (h.reading e r (subst (λ (o : Over). Read o (e (values_of y)) r) (sym (over_kept rx gz kz)) k))));
}

-- ---- the lambdas of a group

-- q is the writer after the parts of the type at which its first lambda is checked
module _ {x q : Writer} (rx : IsReady x) (gq : Grows x q) (kq : Keeps x q) (p : Pos) (f : Flag) (names more : List ResolvedName) (name : ResolvedName) (first : names ≡ name ∷ more) (ty : ResolvedExpr) (wanted dom cod : ℕ)
    (parts : Read (over x) (function_wanted p f (term_of x wanted)) (Gives (term_of q dom, term_of q cod))) where
  abbrev A : Types
  A = (expr_meaning (signature_of x) ty).types

  abbrev w : Term × Term
  w = (term_of q dom, term_of q cod)

  refused-whole : (k : Checks) (l : Pool) (d : WrittenError) → RefusedBy l (λ r. Read (over x) (typed_lambda p f (name.id ∷ ids more) A k (values_of x) (term_of x wanted)) (Refuses r)) d
      → RefusedBy l (λ r. Read (over x) (typed_lambda p f (ids names) A k (values_of x) (term_of x wanted)) (Refuses r)) d
  refused-whole k l d h = subst (λ (xs : List ResolvedName). RefusedBy l (λ r. Read (over x) (typed_lambda p f (ids xs) A k (values_of x) (term_of x wanted)) (Refuses r)) d) (sym first) h

  pub group-no_type : (k : Checks) (l : Pool) (d : WrittenError) → RefusedBy l (λ r. Read (over q) ((expr_meaning (signature_of q) ty).types (values_of q)) (Refuses r)) d
      → RefusedBy l (λ r. Read (over x) (typed_lambda p f (ids names) A k (values_of x) (term_of x wanted)) (Refuses r)) d
  group-no_type k l d h =
      refused-whole k l d (typed-no_type (over x) f name.id (ids more) (term_of x wanted) 0 (values_of x) p (term_of x wanted) A w parts k l d
      (subst (λ (vs : Values). RefusedBy l (λ r. Read (over x) (A vs) (Refuses r)) d) (values_kept rx gq kq)
      (subst (λ (o : Over). RefusedBy l (λ r. Read o ((expr_meaning o.signature ty).types (values_of q)) (Refuses r)) d) (over_kept rx gq kq) h)))

  -- s is the writer after the type
  module _ {s : Writer} (gs : Grows q s) (ks : Keeps q s) (t : T.Typed) (dom_in : dom < length q.pool.now.trees)
      (found : Read (over q) ((expr_meaning (signature_of q) ty).types (values_of q)) (Gives (term_of s t.term, t.level))) where
    found_x : Read (over x) (A (values_of x)) (Gives (term_of s t.term, t.level))
    found_x =
        subst (λ (vs : Values). Read (over x) (A vs) (Gives (term_of s t.term, t.level))) (values_kept rx gq kq)
        (subst (λ (o : Over). Read o ((expr_meaning o.signature ty).types (values_of q)) (Gives (term_of s t.term, t.level))) (over_kept rx gq kq) found)

    over_s : over s ≡ over x
    over_s = over_kept rx (Grows-trans gq gs) (Keeps-trans kq ks)

    same_dom : term_of s dom ≡ term_of q dom
    same_dom = term_kept (ready_kept rx gq kq) gs ks dom dom_in

    pub group-other : (k : Checks) (l : Pool) (d : WrittenError) → RefusedBy l (λ r. Read (over s) (agrees p (term_of s t.term) (term_of s dom)) (Refuses r)) d
        → RefusedBy l (λ r. Read (over x) (typed_lambda p f (ids names) A k (values_of x) (term_of x wanted)) (Refuses r)) d
    group-other k l d h =
        refused-whole k l d (typed-other (over x) f name.id (ids more) (term_of s t.term) t.level (values_of x) p (term_of x wanted) A w parts found_x k l d
        (subst (λ (u : Term). RefusedBy l (λ r. Read (over x) (agrees p (term_of s t.term) u) (Refuses r)) d) same_dom
        (subst (λ (o : Over). RefusedBy l (λ r. Read o (agrees p (term_of s t.term) (term_of s dom)) (Refuses r)) d) over_s h)))

    -- z is the writer after the first name
    module _ {z : Writer} (gz : Grows s z) (inner : ℕ) (i : IsEntered s z name.id t.term more inner) (agreed : Read (over s) (agrees p (term_of s t.term) (term_of s dom)) (Gives tt)) (cod_in : cod < length q.pool.now.trees) where
      ez : Enters x z
      ez = kept_enters (Keeps-trans kq ks) i.enters

      over_z : over z ≡ over x
      over_z = over_same rx (Grows-trans (Grows-trans gq gs) gz) ez.signature ez.limits

      agreed_x : Read (over x) (agrees p (term_of s t.term) (term_of q dom)) (Gives tt)
      agreed_x =
          subst (λ (u : Term). Read (over x) (agrees p (term_of s t.term) u) (Gives tt)) same_dom
          (subst (λ (o : Over). Read o (agrees p (term_of s t.term) (term_of s dom)) (Gives tt)) over_s agreed)

      same_values : values_of z ≡ binding name.id (term_of s t.term) (values_of x)
      same_values = i.values ∙ ap (binding name.id (term_of s t.term)) (values_kept rx (Grows-trans gq gs) (Keeps-trans kq ks))

      same_cod : term_of z cod ≡ term_of q cod
      same_cod = Extends-tree cod (Grows-trans gs gz).extends cod_in

      abbrev pub this : Entry Term
      this = record { name = name.id; flag = f; ty = term_of s t.term }

      abbrev rest : Checks → Checks
      rest = typed_lambda p f (ids more) (known (term_of z inner) t.level)

      after_one : (e : Checks) (r : Outcome Refusal Term) → Read (over z) (rest e (values_of z) (term_of z cod)) r
          → Read (over x) (typed_lambda p f (ids names) A e (values_of x) (term_of x wanted)) (in_lambdas (this ∷ []) r)
      after_one e r k =
          let a : Term = term_of s t.term in
          let k0 : Read (over x) (rest e (values_of z) (term_of z cod)) r = subst (λ (o : Over). Read o (rest e (values_of z) (term_of z cod)) r) over_z k in
          let k1 : Read (over x) (typed_lambda p f (ids more) (known (shift a 0 1) t.level) e (values_of z) (term_of z cod)) r =
          typed-further (over x) f more a (term_of z inner) t.level (values_of z) i.ty p e (term_of z cod) r k0 in
          let k2 = subst (λ (vs : Values). Read (over x) (typed_lambda p f (ids more) (known (shift a 0 1) t.level) e vs (term_of z cod)) r) same_values k1 in
          let k3 = subst (λ (u : Term). Read (over x) (typed_lambda p f (ids more) (known (shift a 0 1) t.level) e (binding name.id a (values_of x)) u) r) same_cod k2 in
          subst (λ (xs : List ResolvedName). Read (over x) (typed_lambda p f (ids xs) A e (values_of x) (term_of x wanted)) (in_lambdas (this ∷ []) r)) (sym first)
          (typed-next (over x) f name.id (ids more) a t.level (values_of x) p (term_of x wanted) A w parts found_x agreed_x e r k3)

      pub group-later_refused : (l : Pool) (d : WrittenError) → ((k : Checks) → RefusedBy l (λ r. Read (over z) (rest k (values_of z) (term_of z cod)) (Refuses r)) d)
          → (k : Checks) → RefusedBy l (λ r. Read (over x) (typed_lambda p f (ids names) A k (values_of x) (term_of x wanted)) (Refuses r)) d
      group-later_refused l d h k =
          refused-weaker l (λ r. Read (over z) (rest k (values_of z) (term_of z cod)) (Refuses r)) (λ r. Read (over x) (typed_lambda p f (ids names) A k (values_of x) (term_of x wanted)) (Refuses r)) (λ r j. after_one k (Refuses r) j) d (h k)

      -- y is the writer after the later names
      module _ {y : Writer} (gy : Grows z y) (v : L.Lambdas) (h : AreLambdas z y rest (term_of z cod) v) where
        pub group-enters : Enters x y
        group-enters = Enters-trans ez h.enters

        module _ (new : List (Entry ℕ)) (is : new ≡ record { name = name.id; flag = f; ty = t.term } ∷ v.entries.items) (low : t.term < length s.pool.now.trees) where
          pub group-within : AllEntries (λ t. t < length y.pool.now.trees) new
          group-within =
              subst (λ (es : List (Entry ℕ)). AllEntries (λ t. t < length y.pool.now.trees) es) (sym is) (omega (arith, Extends-length (Grows-trans gz gy).extends, low), h.within)

          pub group-next : (e : Checks) (r : Outcome Refusal Term) → Read (over x) (e (values_of y) (term_of y v.wanted)) r
              → Read (over x) (typed_lambda p f (ids names) A e (values_of x) (term_of x wanted)) (in_lambdas (telescope_map (term_of y) new) r)
          group-next e r k =
              let fs : Telescope Term = telescope_map (term_of y) v.entries.items in
              let es : telescope_map (term_of y) new ≡ this ∷ fs =
              ap (telescope_map (term_of y)) is ∙ ap (λ (u : Term). record { name = name.id; flag = f; ty = u } ∷ fs) (Extends-tree t.term (Grows-trans gz gy).extends low) in
              let k0 : Read (over z) (e (values_of y) (term_of y v.wanted)) r = subst (λ (o : Over). Read o (e (values_of y) (term_of y v.wanted)) r) (sym over_z) k in
              subst (λ (d : Outcome Refusal Term). Read (over x) (typed_lambda p f (ids names) A e (values_of x) (term_of x wanted)) d)
              (lambdas-append (this ∷ []) fs r ∙ ap (λ (ts : Telescope Term). in_lambdas ts r) (sym es)) (after_one e (in_lambdas fs r) (h.reading e r k0))
