-- Lambdas, function types and record values that are accepted are in scope.
use Rattle.std.proofs.Common.{◌≡◌, ◌+◌, ℕ, Bool, true, false, List, [], ◌∷◌, refl, sym, ◌∙◌, ap, subst, length}
use Rattle.std.specs.Prelude.{cond, eqb, max, slice_get, reverse, Option, Some, None, option_map, option_and_then}
use Rattle.std.specs.List.{AllByRecursion}
use Rattle.core_rules.specs.declared.Flag.{Flag}
use Rattle.core_rules.specs.Term.{Term, Var, Sort, Pi, Lam, App, Def, Fam, Con, Proj, Meta, from_list}
use Rattle.core_rules.specs.Substitution.{shift, under}
use Rattle.core_rules.specs.Signature.{Telescope, Signature, fam_decl, cons_of}
use Rattle.core_rules.specs.Elimination.{Elim, elims, args}
use Rattle.core_rules.specs.InScope.{TelescopeInScope, SignatureInScope, any_meta}
use Rattle.core_rules.specs.ScopeLaws.{ElimInScope, AnswerInScope}
use Rattle.core_rules.specs.Heads.{Answer, Form, Blocked}
use Rattle.core_rules.proofs.Scope.Changed.{shift-in_scope, under-in_scope, each-reverse}
use Rattle.core_rules.proofs.Scope.Declared.{elims-in_scope, args-in_scope, fields-in_scope}
use Rattle.core_rules.proofs.Trees.Scoped.{con_place_of}
use Rattle.kernel_rules.specs.Outcome.{Gives}
use Rattle.kernel_rules.specs.TermReading.{arguments_for}
use Rattle.kernel_rules.proofs.Outcome.{one_gives}
use Rattle.el_outside.specs.declared.place.Pos.{Pos}
use Rattle.written_rules.specs.Asking.{Is, Comes, ◌>>=◌, gives}
use Rattle.written_rules.specs.Rules.{Values, Checks, Types, binding, wanted, function_wanted, agrees, known, BinderMeaning, Typed, Untyped, typed_lambda, lambda, grouped, function_type, type_checked, ValueMeaning, AtRecord, record_at, record_or, record_shown, value_of, field_checked, fields_checked, record_value, names_checked, record_checked}
use Rattle.written_rules.specs.Laws.{ValuesInScope}
use Rattle.written_rules.proofs.Comes.{comes_gives}
use Rattle.written_rules.proofs.ScopedHeads.{GoodChecks, GoodTypes, binding-in_scope, wanted-in_scope, function-in_scope}
use Rattle.written_rules.proofs.ScopedSpines.{In, EachIn, then_some, mapped_some, tested_some, arguments_each, con-in_scope}

module _ (g : Signature Term) (sig : SignatureInScope g any_meta) (fuel depth : ℕ) where
  -- ---- binders

  -- a known type that is in scope in a context of n entries is read alone there
  abbrev pub GoodBinder : BinderMeaning → Type 0
  GoodBinder (Typed f xs a) = GoodTypes g fuel depth a
  GoodBinder (Untyped q f x) = Unit {0}

  abbrev pub GoodBinders : List BinderMeaning → Type 0
  GoodBinders bs = AllByRecursion GoodBinder bs

  -- as `GoodTypes`, for a context of n entries alone
  abbrev GoodTypesIn : ℕ → Types → Type 0
  GoodTypesIn n a = (vs : Values) (q : Term × ℕ) → ValuesInScope g n vs → Comes g fuel depth (a vs) (Gives q) → In g n q.0

  known-in_scope : (n : ℕ) (a : Term) (l : ℕ) → In g n a → GoodTypesIn (n + 1) (known (shift a 0 1) l)
  known-in_scope n a l h vs q v c = subst (λ (q : Term × ℕ). In g (n + 1) q.0) (sym (one_gives c)) (shift-in_scope g any_meta n 0 1 a h)

  typed_lambda-in_scope : (p : Pos) (f : Flag) (xs : List ℕ) (a : Types) (e : Checks) → GoodChecks g fuel depth e
      → (n : ℕ) → GoodTypesIn n a → (vs : Values) (b t : Term) → ValuesInScope g n vs → In g n b → Comes g fuel depth (typed_lambda p f xs a e vs b) (Gives t) → In g n t
  typed_lambda-in_scope p f [] a e k n j vs b t v h c = k n vs b t v h c
  typed_lambda-in_scope p f (x ∷ xs) a e k n j vs b t v h c =
      let o = comes_gives g fuel depth (function_wanted p f b) (λ w. a vs >>= (λ t. agrees p t.0 w.0 >>= (λ o. typed_lambda p f xs (known (shift t.0 0 1) t.1) e (binding x t.0 vs) w.1 >>= (λ u. gives (Lam f x t.0 u))))) t c in
      let d = comes_gives g fuel depth (a vs) (λ t. agrees p t.0 o.0.0 >>= (λ i. typed_lambda p f xs (known (shift t.0 0 1) t.1) e (binding x t.0 vs) o.0.1 >>= (λ u. gives (Lam f x t.0 u)))) t o.2 in
      let i = comes_gives g fuel depth (agrees p d.0.0 o.0.0) (λ i. typed_lambda p f xs (known (shift d.0.0 0 1) d.0.1) e (binding x d.0.0 vs) o.0.1 >>= (λ u. gives (Lam f x d.0.0 u))) t d.2 in
      let l = comes_gives g fuel depth (typed_lambda p f xs (known (shift d.0.0 0 1) d.0.1) e (binding x d.0.0 vs) o.0.1) (λ u. gives (Lam f x d.0.0 u)) t i.2 in
      let parts = function-in_scope g fuel depth sig n p f b o.0 h o.1 in
      let dom = j vs d.0 v d.1 in
      let body = typed_lambda-in_scope p f xs (known (shift d.0.0 0 1) d.0.1) e k (n + 1) (known-in_scope n d.0.0 d.0.1 dom) (binding x d.0.0 vs) o.0.1 l.0 (binding-in_scope g fuel depth n x d.0.0 vs dom v) parts.1 l.1 in
      subst (In g n) (sym (one_gives l.2)) (dom, body)

  pub lambda-in_scope : (p : Pos) (bs : List BinderMeaning) (e : Checks) → GoodBinders bs → GoodChecks g fuel depth e → GoodChecks g fuel depth (lambda p bs e)
  lambda-in_scope p [] e k j = j
  lambda-in_scope p (Typed f xs a ∷ bs) e k j = λ n vs b t v h c. typed_lambda-in_scope p f xs a (lambda p bs e) (lambda-in_scope p bs e k.1 j) n (λ vs q v c. k.0 n vs q v c) vs b t v h c
  lambda-in_scope p (Untyped q f x ∷ bs) e k j = λ n vs b t v h c.
      let o = comes_gives g fuel depth (function_wanted p f b) (λ w. lambda p bs e (binding x w.0 vs) w.1 >>= (λ u. gives (Lam f x w.0 u))) t c in
      let l = comes_gives g fuel depth (lambda p bs e (binding x o.0.0 vs) o.0.1) (λ u. gives (Lam f x o.0.0 u)) t o.2 in
      let parts = function-in_scope g fuel depth sig n p f b o.0 h o.1 in
      subst (In g n) (sym (one_gives l.2)) (parts.0, lambda-in_scope p bs e k.1 j (n + 1) (binding x o.0.0 vs) o.0.1 l.0 (binding-in_scope g fuel depth n x o.0.0 vs parts.0 v) parts.1 l.1)

  pub grouped-in_scope : (f : Flag) (xs : List ℕ) (a e : Types) → GoodTypes g fuel depth e → (n : ℕ) → GoodTypesIn n a → (vs : Values) (q : Term × ℕ) → ValuesInScope g n vs → Comes g fuel depth (grouped f xs a e vs) (Gives q) → In g n q.0
  grouped-in_scope f [] a e k n j vs q v c = k n vs q v c
  grouped-in_scope f (x ∷ xs) a e k n j vs q v c =
      let o = comes_gives g fuel depth (a vs) (λ t. grouped f xs (known (shift t.0 0 1) t.1) e (binding x t.0 vs) >>= (λ c. gives (Pi f x t.0 c.0, max t.1 c.1))) q c in
      let l = comes_gives g fuel depth (grouped f xs (known (shift o.0.0 0 1) o.0.1) e (binding x o.0.0 vs)) (λ (c : Term × ℕ). gives (Pi f x o.0.0 c.0, max o.0.1 c.1)) q o.2 in
      let dom = j vs o.0 v o.1 in
      let cod = grouped-in_scope f xs (known (shift o.0.0 0 1) o.0.1) e k (n + 1) (known-in_scope n o.0.0 o.0.1 dom) (binding x o.0.0 vs) l.0 (binding-in_scope g fuel depth n x o.0.0 vs dom v) l.1 in
      subst (λ (q : Term × ℕ). In g n q.0) (sym (one_gives l.2)) (dom, cod)

  pub function_type-in_scope : (bs : List BinderMeaning) (e : Types) → GoodBinders bs → GoodTypes g fuel depth e → GoodTypes g fuel depth (function_type bs e)
  function_type-in_scope [] e k j = j
  function_type-in_scope (Typed f xs a ∷ bs) e k j = λ n vs q v c. grouped-in_scope f xs a (function_type bs e) (function_type-in_scope bs e k.1 j) n (λ vs q v c. k.0 n vs q v c) vs q v c
  function_type-in_scope (Untyped p f x ∷ bs) e k j = λ n vs q v c. absurd cc

  pub type_checked-in_scope : (p : Pos) (e : Types) → GoodTypes g fuel depth e → GoodChecks g fuel depth (type_checked p e)
  type_checked-in_scope p e k n vs b t v h c =
      let o = comes_gives g fuel depth (wanted p b) (λ w. e vs >>= (λ t. agrees p (Sort t.1) b >>= (λ o. gives t.0))) t c in
      let d = comes_gives g fuel depth (e vs) (λ (t : Term × ℕ). agrees p (Sort t.1) b >>= (λ o. gives t.0)) t o.2 in
      let l = comes_gives g fuel depth (agrees p (Sort d.0.1) b) (λ o. gives d.0.0) t d.2 in
      subst (In g n) (sym (one_gives l.2)) (k n vs d.0 v d.1)

  -- ---- record values

  abbrev pub GoodValues : List ValueMeaning → Type 0
  GoodValues ms = AllByRecursion (λ (m : ValueMeaning). GoodChecks g fuel depth m.checks) ms

  field-in_scope : (p : Pos) (x : ℕ) (ms : List ValueMeaning) → GoodValues ms → GoodChecks g fuel depth (field_checked p (value_of x ms))
  field-in_scope p x [] k = λ n vs b t v h c. absurd cc
  field-in_scope p x (m ∷ ms) k = either_good (eqb m.name x) k.0 (field-in_scope p x ms k.1)
    where
      either_good : (w : Bool) → GoodChecks g fuel depth m.checks → GoodChecks g fuel depth (field_checked p (value_of x ms)) → GoodChecks g fuel depth (field_checked p (cond w (Some m.checks) (value_of x ms)))
      either_good true h i = h
      either_good false h i = i

  -- the types stand under as many entries as the environment has items
  fields-checked : (p : Pos) (n : ℕ) (vs : Values) (ms : List ValueMeaning) (es : Telescope Term) (m : ℕ) (r us : List Term) → ValuesInScope g n vs → GoodValues ms → TelescopeInScope g any_meta m es → EachIn g n r
      → Comes g fuel depth (fields_checked p vs ms es r) (Gives us) → EachIn g n us
  fields-checked p n vs ms [] m r us v k s h c = subst (EachIn g n) (sym (one_gives c)) tt
  fields-checked p n vs ms (e ∷ es) m r us v k s h c =
      let o = comes_gives g fuel depth (field_checked p (value_of e.name ms) vs (under r e.ty)) (λ u. fields_checked p vs ms es (u ∷ r) >>= (λ us. gives (u ∷ us))) us c in
      let l = comes_gives g fuel depth (fields_checked p vs ms es (o.0 ∷ r)) (λ us. gives (o.0 ∷ us)) us o.2 in
      let u = field-in_scope p e.name ms k n vs (under r e.ty) o.0 v (under-in_scope g any_meta n m r e.ty h s.0) o.1 in
      subst (EachIn g n) (sym (one_gives l.2)) (u, fields-checked p n vs ms es (m + 1) (o.0 ∷ r) l.0 v k s.1 (u, h) l.1)

  record RecordIn (n : ℕ) (d : AtRecord) : Type 0 where
    params : EachIn g n d.params
    con : In g n (Con d.con (from_list d.params))
    under : ℕ
    fields : TelescopeInScope g any_meta under d.fields

  record_at-in_scope : (n d : ℕ) (es : List Elim) (o : AtRecord) → AllByRecursion (ElimInScope g any_meta n) es → record_at g d es ≡ Some o → RecordIn n o
  record_at-in_scope n d es o h e =
      let a = then_some (fam_decl g d) (λ decl. option_and_then (λ k. cond decl.is_record (option_map (λ ps. record { con = k; params = ps; fields = decl.fields }) (arguments_for decl.params es)) None) (slice_get (cons_of g d) 0)) o e in
      let b = then_some (slice_get (cons_of g d) 0) (λ k. cond a.0.is_record (option_map (λ ps. record { con = k; params = ps; fields = a.0.fields }) (arguments_for a.0.params es)) None) o a.2 in
      let k = mapped_some (arguments_for a.0.params es) (λ (ps : List Term). record { con = b.0; params = ps; fields = a.0.fields }) o (tested_some a.0.is_record (option_map (λ ps. record { con = b.0; params = ps; fields = a.0.fields }) (arguments_for a.0.params es)) o b.2) in
      let ps = arguments_each g n a.0.params es k.0 k.1 h in
      subst (RecordIn n) k.2 (record {
        params = ps.1;
        con = con-in_scope g n b.0 (d, 0) a.0 k.0 (con_place_of g d 0 b.0 b.1) a.1 ps.0 ps.1;
        under = length a.0.params;
        fields = fields-in_scope g any_meta sig d a.0 a.1;
      })

  shown_record : (p : Pos) (n d : ℕ) (es : List Elim) (t : Term) (w : Option AtRecord) (o : AtRecord) → record_at g d es ≡ w → AllByRecursion (ElimInScope g any_meta n) es → Gives o ≡ record_or p t w → RecordIn n o
  shown_record p n d es t None o e h c = absurd cc
  shown_record p n d es t (Some r) o e h c = record_at-in_scope n d es o h (e ∙ ap Some (sym (one_gives c)))

  record-in_scope : (p : Pos) (n : ℕ) (w : Answer) (o : AtRecord) → AnswerInScope g any_meta n w → Gives o ≡ record_shown g p w → RecordIn n o
  record-in_scope p n (Form (Fam d) es) o h e = shown_record p n d es (elims (Fam d) es) (record_at g d es) o refl h.1 e
  record-in_scope p n (Form (Var i) es) o h e = absurd cc
  record-in_scope p n (Form (Sort i) es) o h e = absurd cc
  record-in_scope p n (Form (Pi c x a b) es) o h e = absurd cc
  record-in_scope p n (Form (Lam c x a b) es) o h e = absurd cc
  record-in_scope p n (Form (App c a b) es) o h e = absurd cc
  record-in_scope p n (Form (Def i) es) o h e = absurd cc
  record-in_scope p n (Form (Con i ts) es) o h e = absurd cc
  record-in_scope p n (Form (Proj i a) es) o h e = absurd cc
  record-in_scope p n (Form (Meta i ts) es) o h e = absurd cc
  record-in_scope p n (Blocked m a es) o h e = absurd cc

  pub record_checked-in_scope : (p : Pos) (ms : List ValueMeaning) → GoodValues ms → GoodChecks g fuel depth (record_checked g p ms)
  record_checked-in_scope p ms k n vs b t v h c =
      let a = comes_gives g fuel depth (wanted p b) (λ w. Is (record_shown g p w) >>= (λ d. Is (names_checked p d ms) >>= (λ o. fields_checked p vs ms d.fields (reverse d.params) >>= (λ us. gives (record_value d us))))) t c in
      let d = comes_gives g fuel depth (Is (record_shown g p a.0)) (λ d. Is (names_checked p d ms) >>= (λ o. fields_checked p vs ms d.fields (reverse d.params) >>= (λ us. gives (record_value d us)))) t a.2 in
      let i = comes_gives g fuel depth (Is (names_checked p d.0 ms)) (λ o. fields_checked p vs ms d.0.fields (reverse d.0.params) >>= (λ us. gives (record_value d.0 us))) t d.2 in
      let l = comes_gives g fuel depth (fields_checked p vs ms d.0.fields (reverse d.0.params)) (λ us. gives (record_value d.0 us)) t i.2 in
      let r = record-in_scope p n a.0 d.0 (wanted-in_scope g fuel depth sig n p b a.0 h a.1) d.1 in
      let us = fields-checked p n vs ms d.0.fields r.under (reverse d.0.params) l.0 v k r.fields (each-reverse g any_meta n d.0.params r.params) l.1 in
      subst (In g n) (sym (one_gives l.2)) (elims-in_scope g any_meta n (Con d.0.con (from_list d.0.params)) (args d.0.fields l.0) r.con (args-in_scope g any_meta n d.0.fields l.0 us))
