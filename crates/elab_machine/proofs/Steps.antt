-- One name more of a group, as a writer enters it.
use Rattle.std.proofs.Common.{◌≡◌, ◌<◌, ℕ, max, List, [], ◌∷◌, ◌++◌, length, refl, sym, ap, subst, ◌∙◌}
use Rattle.core_rules.specs.declared.Flag.{Flag}
use Rattle.core_rules.specs.Term.{Term}
use Rattle.core_rules.specs.Substitution.{shift}
use Rattle.core_rules.specs.Signature.{Entry, Telescope}
use Rattle.core_rules.specs.Mapped.{AllEntries, telescope_map}
use Rattle.term_pool.specs.Pool.{Pool}
use Rattle.term_pool.specs.Growth.{Extends-tree}
use Rattle.kernel_rules.specs.Outcome.{Outcome, Gives, Refuses}
use Rattle.el_outside.specs.declared.place.Pos.{Pos}
use Rattle.resolved_tree.specs.declared.resolved.ResolvedName.{ResolvedName}
use Rattle.written_rules.specs.Refusals.{Refusal}
use Rattle.written_rules.specs.Rules.{Values, Checks, Types, binding, known, function_wanted, agrees, typed_lambda, grouped}
use Rattle.written_rules.specs.Expressions.{ids}
use Rattle.elab_machine.specs.declared.writer.Writer.{Writer}
use Rattle.elab_machine.specs.declared.error.WrittenError.{WrittenError}
use Rattle.elab_machine.specs.Answers.{RefusedBy}
use Rattle.elab_machine.specs.Binders.{in_lambdas, in_functions}
use Rattle.elab_machine.specs.Writer.{IsReady, Grows, Keeps, Enters, IsEntered, Over, Read, over, term_of, values_of}
use Rattle.elab_machine.proofs.Kept.{over_same, over_kept, term_kept, Grows-trans}
use Rattle.elab_machine.proofs.Reading.{refused-weaker}
use Rattle.elab_machine.proofs.Around.{lambdas-append, functions-append, telescope-push}
use Rattle.elab_machine.proofs.Entering.{entered_before, grouped-further, typed-further, grouped-next, typed-next, typed-no_function, typed-other}

-- what the whole comes to, by what is left
abbrev pub Readings : Over → (Types → Types) → Values → Telescope Term → ℕ → (Types → Types) → Values → Type 0
Readings o W vs es n V us = (e : Types) (r : Outcome Refusal (Term × ℕ)) → Read o (V e us) r → Read o (W e vs) (in_functions es n r)

module _ {y z : Writer} (g : Grows y z) (o : Over) (W : Types → Types) (vs : Values) (f : Flag) (n level : ℕ) (entries new : List (Entry ℕ)) (within : AllEntries (λ t. t < length y.pool.now.trees) entries)
    (left more : List ResolvedName) (name : ResolvedName) (first : left ≡ name ∷ more) (ty next : ℕ) (low : ty < length y.pool.now.trees) (h : IsEntered y z name.id ty more next) where
  abbrev pub this : Entry ℕ
  this = record { name = name.id; flag = f; ty = ty }

  pub names-next : new ≡ entries ++ this ∷ [] → Readings o W vs (telescope_map (term_of y) entries) level (grouped f (ids left) (known (term_of y ty) n)) (values_of y)
      → Readings o W vs (telescope_map (term_of z) new) (max level n) (grouped f (ids more) (known (term_of z next) n)) (values_of z)
  names-next pushed reading e r k =
      let a : Term = term_of y ty in
      let k1 : Read o (grouped f (ids more) (known (shift a 0 1) n) e (values_of z)) r = grouped-further o f more a (term_of z next) n (values_of z) h.ty e r k in
      let k2 : Read o (grouped f (ids more) (known (shift a 0 1) n) e (binding name.id a (values_of y))) r = subst (λ (us : Values). Read o (grouped f (ids more) (known (shift a 0 1) n) e us) r) h.values k1 in
      let one : Telescope Term = record { name = name.id; flag = f; ty = a } ∷ [] in
      let s : Read o (grouped f (name.id ∷ ids more) (known a n) e (values_of y)) (in_functions one n r) = grouped-next o f name.id (ids more) a n (values_of y) e (known a n) refl r k2 in
      let t : Read o (grouped f (ids left) (known a n) e (values_of y)) (in_functions one n r) = subst (λ (xs : List ResolvedName). Read o (grouped f (ids xs) (known a n) e (values_of y)) (in_functions one n r)) (sym first) s in
      let es : Telescope Term = telescope_map (term_of y) entries in
      subst (λ (q : Outcome Refusal (Term × ℕ)). Read o (W e vs) q) (functions-append es one level n r ∙ ap (λ (fs : Telescope Term). in_functions fs (max level n) r) (sym (telescope-push y.pool.now z.pool.now entries new this g.extends within low pushed)))
      (reading e (in_functions one n r) t)

abbrev pub LambdaReadings : Over → (Checks → Checks) → Values → Term → Telescope Term → (Checks → Checks) → Values → Term → Type 0
LambdaReadings o W vs b es V us d = (e : Checks) (r : Outcome Refusal Term) → Read o (V e us d) r → Read o (W e vs b) (in_lambdas es r)

-- what is refused in what is left is refused in the whole
pub left-refused : (o : Over) (W : Checks → Checks) (vs : Values) (b : Term) (es : Telescope Term) (V : Checks → Checks) (us : Values) (d : Term) → LambdaReadings o W vs b es V us d
    → (k : Checks) (q : Pool) (e : WrittenError) → RefusedBy q (λ r. Read o (V k us d) (Refuses r)) e → RefusedBy q (λ r. Read o (W k vs b) (Refuses r)) e
left-refused o W vs b es V us d reading k q e h = refused-weaker q (λ r. Read o (V k us d) (Refuses r)) (λ r. Read o (W k vs b) (Refuses r)) (λ r j. reading k (Refuses r) j) e h

-- y is the writer before a name, q after the parts of the type at which its lambda is checked
module _ {x y q : Writer} (rx : IsReady x) (gx : Grows x y) (ex : Enters x y) (gq : Grows y q) (kq : Keeps y q) (p : Pos) (f : Flag) (n : ℕ) (left more : List ResolvedName) (name : ResolvedName) (first : left ≡ name ∷ more)
    (W : Checks → Checks) (b : Term) (entries : List (Entry ℕ)) (ty wanted : ℕ)
    (reading : LambdaReadings (over x) W (values_of x) b (telescope_map (term_of y) entries) (typed_lambda p f (ids left) (known (term_of y ty) n)) (values_of y) (term_of y wanted)) where
  over_x : over y ≡ over x
  over_x = over_same rx gx ex.signature ex.limits

  after : LambdaReadings (over x) W (values_of x) b (telescope_map (term_of y) entries) (typed_lambda p f (name.id ∷ ids more) (known (term_of y ty) n)) (values_of y) (term_of y wanted)
  after = subst (λ (xs : List ResolvedName). LambdaReadings (over x) W (values_of x) b (telescope_map (term_of y) entries) (typed_lambda p f (ids xs) (known (term_of y ty) n)) (values_of y) (term_of y wanted)) first reading

  pub names-no_function : (k : Checks) (e : WrittenError) → RefusedBy q.pool.now (λ r. Read (over y) (function_wanted p f (term_of y wanted)) (Refuses r)) e → RefusedBy q.pool.now (λ r. Read (over x) (W k (values_of x) b) (Refuses r)) e
  names-no_function k e h =
      left-refused (over x) W (values_of x) b (telescope_map (term_of y) entries) (typed_lambda p f (name.id ∷ ids more) (known (term_of y ty) n)) (values_of y) (term_of y wanted) after k q.pool.now e
      (typed-no_function (over x) f name.id (ids more) (term_of y ty) n (values_of y) p (term_of y wanted) (known (term_of y ty) n) k q.pool.now e
      (subst (λ (o : Over). RefusedBy q.pool.now (λ r. Read o (function_wanted p f (term_of y wanted)) (Refuses r)) e) over_x h))

  module _ (dom cod : ℕ) (low : ty < length y.pool.now.trees) (parts : Read (over y) (function_wanted p f (term_of y wanted)) (Gives (term_of q dom, term_of q cod))) where
    abbrev w : Term × Term
    w = (term_of q dom, term_of q cod)

    over_q : over q ≡ over x
    over_q = over_kept ex.ready gq kq ∙ over_x

    parts_x : Read (over x) (function_wanted p f (term_of y wanted)) (Gives w)
    parts_x = subst (λ (o : Over). Read o (function_wanted p f (term_of y wanted)) (Gives w)) over_x parts

    same : term_of q ty ≡ term_of y ty
    same = term_kept ex.ready gq kq ty low

    pub names-other : (s : Pool) (k : Checks) (e : WrittenError) → RefusedBy s (λ r. Read (over q) (agrees p (term_of q ty) (term_of q dom)) (Refuses r)) e → RefusedBy s (λ r. Read (over x) (W k (values_of x) b) (Refuses r)) e
    names-other s k e h =
        left-refused (over x) W (values_of x) b (telescope_map (term_of y) entries) (typed_lambda p f (name.id ∷ ids more) (known (term_of y ty) n)) (values_of y) (term_of y wanted) after k s e
        (typed-other (over x) f name.id (ids more) (term_of y ty) n (values_of y) p (term_of y wanted) (known (term_of y ty) n) w parts_x refl k s e
        (subst (λ (t : Term). RefusedBy s (λ r. Read (over x) (agrees p t (term_of q dom)) (Refuses r)) e) same
        (subst (λ (o : Over). RefusedBy s (λ r. Read o (agrees p (term_of q ty) (term_of q dom)) (Refuses r)) e) over_q h)))

    module _ {z : Writer} (gz : Grows q z) (next : ℕ) (h : IsEntered q z name.id ty more next) (agreed : Read (over q) (agrees p (term_of q ty) (term_of q dom)) (Gives tt)) (new : List (Entry ℕ))
        (within : AllEntries (λ t. t < length y.pool.now.trees) entries) (pushed : new ≡ entries ++ record { name = name.id; flag = f; ty = ty } ∷ []) (in_q : cod < length q.pool.now.trees) where
      pub typed_names-next : LambdaReadings (over x) W (values_of x) b (telescope_map (term_of z) new) (typed_lambda p f (ids more) (known (term_of z next) n)) (values_of z) (term_of z cod)
      typed_names-next e r k =
          let a : Term = term_of y ty in
          let j : IsEntered y z name.id ty more next = entered_before ex.ready gq kq name.id ty more next low h in
          let one : Telescope Term = record { name = name.id; flag = f; ty = a } ∷ [] in
          let es : Telescope Term = telescope_map (term_of y) entries in
          let g : Grows y z = Grows-trans gq gz in
          let k1 : Read (over x) (typed_lambda p f (ids more) (known (shift a 0 1) n) e (values_of z) (term_of z cod)) r = typed-further (over x) f more a (term_of z next) n (values_of z) j.ty p e (term_of z cod) r k in
          let k2 : Read (over x) (typed_lambda p f (ids more) (known (shift a 0 1) n) e (binding name.id a (values_of y)) (term_of z cod)) r = subst (λ (us : Values). Read (over x) (typed_lambda p f (ids more) (known (shift a 0 1) n) e us (term_of z cod)) r) j.values k1 in
          let k3 : Read (over x) (typed_lambda p f (ids more) (known (shift a 0 1) n) e (binding name.id a (values_of y)) w.1) r = subst (λ (t : Term). Read (over x) (typed_lambda p f (ids more) (known (shift a 0 1) n) e (binding name.id a (values_of y)) t) r) (Extends-tree cod gz.extends in_q) k2 in
          let agreed_x : Read (over x) (agrees p a w.0) (Gives tt) = subst (λ (t : Term). Read (over x) (agrees p t (term_of q dom)) (Gives tt)) same (subst (λ (o : Over). Read o (agrees p (term_of q ty) (term_of q dom)) (Gives tt)) over_q agreed) in
          subst (λ (d : Outcome Refusal Term). Read (over x) (W e (values_of x) b) d)
          (lambdas-append es one r ∙ ap (λ (fs : Telescope Term). in_lambdas fs r) (sym (telescope-push y.pool.now z.pool.now entries new (record { name = name.id; flag = f; ty = ty }) g.extends within low pushed)))
          (after e (in_lambdas one r) (typed-next (over x) f name.id (ids more) a n (values_of y) p (term_of y wanted) (known a n) w parts_x refl agreed_x e r k3))
