-- The types that the rules of typing give are in scope.
use Rattle.std.specs.Prelude.{◌≡◌, ℕ, ◌+◌, ◌<◌, ◌≤◌, List, [], ◌∷◌, ◌++◌, length, map, sum, take, slice_get, Option, Some, None, option_and_then, refl, zero, suc}
use Rattle.std.specs.List.{AllByRecursion}
use Rattle.std.proofs.Common.{ap, ◌∙◌, subst as transport, arith}
use Rattle.std.proofs.lemmas.Option.{slice_get_within}
use Rattle.core_rules.specs.Term.{Term, Terms, App, Fam, Proj, env_of}
use Rattle.core_rules.specs.Substitution.{shift, under}
use Rattle.core_rules.specs.Signature.{Signature, Entry, Context, Telescope, FamDecl, ConDecl, Decl, Family, without_cons, defs, fams, decl_type, def_type, fam_decl, places, field_counts, fields_of}
use Rattle.core_rules.specs.Elimination.{Elim, Arg, Field, elims, args, vars_from, projections, fam_type, con_type}
use Rattle.core_rules.specs.Typing as T
use Rattle.core_rules.specs.Typing.{IsCon, IsField, WellFormed, field_env}
use Rattle.core_rules.specs.InScope.{InScope, TelescopeInScope, ConInScope, SignatureInScope, any_meta}
use Rattle.core_rules.specs.ScopeLaws.{ElimInScope, ContextInScope}
use Rattle.core_rules.proofs.Substitution.Lifted.{shift_twice}
use Rattle.core_rules.proofs.Signature.Places.{def_stands, fam_stands, field-place}
use Rattle.core_rules.proofs.Typing.Closed.{scoped_type, pi_over-in_scope, family-in_scope}
use Rattle.core_rules.proofs.Typing.Scoped.{length-places, typing-in_scope, all_of}
use Rattle.core_rules.proofs.Scope.Known.{KnowsIds, knows_taken, knows_constructors, in_scope-known, telescope-known}
use Rattle.core_rules.proofs.Scope.Changed.{Each, shift-in_scope, under-in_scope, each-reverse}

pub all_got : {X : Type 0} (P : X → Type 0) (xs : List X) (i : ℕ) (x : X) → AllByRecursion P xs → slice_get xs i ≡ Some x → P x
all_got P [] i x h e = absurd cc
all_got P (y ∷ xs) zero x h e = transport P (same e) h.0
  where
    same : Some y ≡ Some x → y ≡ x
    same e = cc e
all_got P (y ∷ xs) (suc i) x h e = all_got P xs i x h.1 e

pub all_append : {X : Type 0} (P : X → Type 0) (xs ys : List X) → AllByRecursion P xs → AllByRecursion P ys → AllByRecursion P (xs ++ ys)
all_append P [] ys h k = k
all_append P (x ∷ xs) ys h k = (h.0, all_append P xs ys h.1 k)

pub all_taken : {X : Type 0} (P : X → Type 0) (n : ℕ) (xs : List X) → AllByRecursion P xs → AllByRecursion P (take n xs)
all_taken P zero xs h = tt
all_taken P (suc n) [] h = tt
all_taken P (suc n) (x ∷ xs) h = (h.0, all_taken P n xs h.1)

module _ (g : Signature Term) (M : ℕ → ℕ → Type 0) where
  pub elims-in_scope : (n : ℕ) (t : Term) (es : List Elim) → InScope g M n t → AllByRecursion (ElimInScope g M n) es → InScope g M n (elims t es)
  elims-in_scope n t [] h k = h
  elims-in_scope n t (Arg b u ∷ es) h k = elims-in_scope n (App b t u) es (h, k.0) k.1
  elims-in_scope n t (Field f ∷ es) h k = elims-in_scope n (Proj f t) es (k.0, h) k.1

  pub args-in_scope : (n : ℕ) (es : Telescope Term) (ts : List Term) → Each g M n ts → AllByRecursion (ElimInScope g M n) (args es ts)
  args-in_scope n [] ts h = tt
  args-in_scope n (e ∷ es) [] h = tt
  args-in_scope n (e ∷ es) (t ∷ ts) h = (h.0, args-in_scope n es ts h.1)

  pub vars-in_scope : (k m n : ℕ) → k + m ≤ n → Each g M n (vars_from k m)
  vars-in_scope k zero n h = tt
  vars-in_scope k (suc m) n h = (omega (arith, h), vars-in_scope k m n (omega (arith, h)))

  entry-in_scope : (n i : ℕ) (es : Telescope Term) (e : Entry Term) → TelescopeInScope g M n es → slice_get es i ≡ Some e → InScope g M (n + i) e.ty
  entry-in_scope n i [] e h k = absurd cc
  entry-in_scope n zero (x ∷ es) e h k = let p : n ≡ n + 0 = omega arith in transport (λ m. InScope g M m e.ty) p (transport (λ x. InScope g M n x.ty) (same k) h.0)
    where
      same : Some x ≡ Some e → x ≡ e
      same k = cc k
  entry-in_scope n (suc i) (x ∷ es) e h k = let p : n + 1 + i ≡ n + suc i = omega arith in transport (λ m. InScope g M m e.ty) p (entry-in_scope (n + 1) i es e h.1 k)

  pub variable-in_scope : (c : Context Term) (i : ℕ) (e : Entry Term) → ContextInScope g M c → slice_get c i ≡ Some e → InScope g M (length c) (shift e.ty 0 (i + 1))
  variable-in_scope [] i e h k = absurd cc
  variable-in_scope (x ∷ c) zero e h k =
      let p : length c + (0 + 1) ≡ suc (length c) = omega arith in
      transport (λ n. InScope g M n (shift e.ty 0 (0 + 1))) p (shift-in_scope g M (length c) 0 (0 + 1) e.ty (transport (λ x. InScope g M (length c) x.ty) (same k) h.0))
    where
      same : Some x ≡ Some e → x ≡ e
      same k = cc k
  variable-in_scope (x ∷ c) (suc i) e h k =
      let s : InScope g M (length c + 1) (shift (shift e.ty 0 (i + 1)) 0 1) = shift-in_scope g M (length c) 0 1 (shift e.ty 0 (i + 1)) (variable-in_scope c i e h.1 k) in
      let p : length c + 1 ≡ suc (length c) = omega arith in
      let q : i + 1 + 1 ≡ suc i + 1 = omega arith in
      transport (λ n. InScope g M n (shift e.ty 0 (suc i + 1))) p (transport (λ t. InScope g M (length c + 1) t) (shift_twice e.ty (i + 1) 1 ∙ ap (shift e.ty 0) q) s)

  field_below : (k : ℕ) (p : ℕ × ℕ) → Rattle.core_rules.specs.Signature.field_place g k ≡ Some p → k < sum (field_counts g)
  field_below k p e = rw length-places at (slice_get_within (places 0 (field_counts g)) k p e)

  each_projected : (n : ℕ) (t : Term) (fs : List ℕ) → InScope g M n t → AllByRecursion (λ f. f < sum (field_counts g)) fs → Each g M n (map (λ f. Proj f t) fs)
  each_projected n t [] h k = tt
  each_projected n t (f ∷ fs) h k = ((k.0, h), each_projected n t fs h k.1)

  pub projections-in_scope : (n d : ℕ) (t : Term) → InScope g M n t → Each g M n (projections g d t)
  projections-in_scope n d t h = each_projected n t (fields_of g d) h
      (all_of (λ f. f < sum (field_counts g)) (fields_of g d) (λ i f e. field_below f (d, i) (field-place g d i f (slice_get_within (fields_of g d) i f e) e)))

  module _ (s : SignatureInScope g M) where
    pub declared-in_scope : (f : ℕ) (a : Term) → def_type g f ≡ Some a → InScope g M 0 a
    declared-in_scope f a e = by_decl (slice_get (defs g) f) refl e
      where
        by_decl : (o : Option (Decl Term)) → slice_get (defs g) f ≡ o → option_and_then decl_type o ≡ Some a → InScope g M 0 a
        by_decl None h e = absurd cc
        by_decl (Some d) h e =
            let p = def_stands g f d h in
            in_scope-known (take p.place g) g M (knows_taken g p.place) 0 a (scoped_type M (take p.place g) d a e (s p.place d p.is))

    pub fam_type-in_scope : (d : ℕ) (decl : FamDecl Term) → fam_decl g d ≡ Some decl → InScope g M 0 (fam_type decl)
    fam_type-in_scope d decl e =
        let p = fam_stands g d decl e in
        in_scope-known (take p.place g) g M (knows_taken g p.place) 0 (fam_type decl) (family-in_scope (take p.place g) M decl (s p.place (Family decl) p.is))

    -- a constructor where its family is known
    pub constructor-in_scope : (d : ℕ) (decl : FamDecl Term) (i : ℕ) (con : ConDecl Term) → fam_decl g d ≡ Some decl → slice_get decl.cons i ≡ Some con → ConInScope g M (length decl.params) con
    constructor-in_scope d decl i con e h =
        let p = fam_stands g d decl e in
        let k = knows_constructors g p.place decl p.is in
        let early = take p.place g ++ Family (without_cons decl) ∷ [] in
        let c = all_got (ConInScope early M (length decl.params)) decl.cons i con (s p.place (Family decl) p.is).cons h in
        record {
          args = telescope-known early g M k (length decl.params) con.args c.args;
          indices = known_each early k (length decl.params + length con.args) con.indices c.indices;
        }
      where
        known_each : (early : Signature Term) (k : KnowsIds early g) (n : ℕ) (ts : List Term) → AllByRecursion (InScope early M n) ts → AllByRecursion (InScope g M n) ts
        known_each early k n ts h = all_of (InScope g M n) ts (λ i t e. in_scope-known early g M k n t (all_got (InScope early M n) ts i t h e))

    pub fields-in_scope : (d : ℕ) (decl : FamDecl Term) → fam_decl g d ≡ Some decl → TelescopeInScope g M (length decl.params) decl.fields
    fields-in_scope d decl e =
        let p = fam_stands g d decl e in
        telescope-known (take p.place g ++ Family (without_cons decl) ∷ []) g M (knows_constructors g p.place decl p.is) (length decl.params) decl.fields (s p.place (Family decl) p.is).fields

    pub con_type-in_scope : (k : ℕ) (is : IsCon g k) → InScope g M (length is.decl.params) (con_type is.fam is.decl is.con)
    con_type-in_scope k is =
        let c = constructor-in_scope is.fam is.decl is.at is.con is.is_decl is.is_con in
        let m : ℕ = length is.decl.params + length is.con.args in
        pi_over-in_scope g M (length is.decl.params) is.con.args (elims (Fam is.fam) (args is.decl.params (vars_from (length is.con.args) (length is.decl.params)) ++ args is.decl.indices is.con.indices)) c.args
        (elims-in_scope m (Fam is.fam) (args is.decl.params (vars_from (length is.con.args) (length is.decl.params)) ++ args is.decl.indices is.con.indices)
        (slice_get_within (fams g) is.fam is.decl is.is_decl)
        (all_append (ElimInScope g M m) (args is.decl.params (vars_from (length is.con.args) (length is.decl.params))) (args is.decl.indices is.con.indices)
        (args-in_scope m is.decl.params (vars_from (length is.con.args) (length is.decl.params)) (vars-in_scope (length is.con.args) (length is.decl.params) m (omega arith)))
        (args-in_scope m is.decl.indices is.con.indices c.indices)))

    pub constructed-in_scope : (k n : ℕ) (ps : Terms) (is : IsCon g k) → Each g M n (env_of ps) → InScope g M n (under (env_of ps) (con_type is.fam is.decl is.con))
    constructed-in_scope k n ps is h = under-in_scope g M n (length is.decl.params) (env_of ps) (con_type is.fam is.decl is.con) h (con_type-in_scope k is)

    pub projected-in_scope : (f n : ℕ) (ps : List Term) (t : Term) (is : IsField g f) → Each g M n ps → InScope g M n t → InScope g M n (under (field_env g f is ps t) is.entry.ty)
    projected-in_scope f n ps t is h k =
        under-in_scope g M n (length is.decl.params + is.at) (field_env g f is ps t) is.entry.ty
        (each-reverse g M n (ps ++ take is.at (projections g is.fam t))
        (all_append (InScope g M n) ps (take is.at (projections g is.fam t)) h (all_taken (InScope g M n) is.at (projections g is.fam t) (projections-in_scope n is.fam t k))))
        (entry-in_scope (length is.decl.params) is.at is.decl.fields is.entry (fields-in_scope is.fam is.decl is.is_decl) is.is_entry)

pub formed-in_scope : (g : Signature Term) (c : Context Term) → WellFormed g c → ContextInScope g any_meta c
formed-in_scope g c T.empty = tt
formed-in_scope g c' (T.extended {c = c} {e = e} w h) = (typing-in_scope g h.holds, formed-in_scope g c w)
