-- The family of a declaration that is accepted is in scope, and has its shape.
use Rattle.std.proofs.Common.{◌≡◌, ◌+◌, ◌∙◌, ℕ, List, [], ◌∷◌, length, map, refl, sym, ap, subst, arith, ⊎_elim}
use Rattle.std.proofs.lemmas.List.{take-append-le, take_all}
use Rattle.std.specs.Prelude.{Bool, true, false, ◌<◌, ◌≤◌, ◌++◌, ◌⊎◌, take, eqb, Option, Some, None, suc, zero}
use Rattle.std.specs.List.{AllByRecursion}
use Rattle.core_rules.specs.declared.Flag.{Flag}
use Rattle.core_rules.specs.declared.Flag.TheVariants.{Explicit}
use Rattle.core_rules.specs.Term.{Term, Var, Sort, Pi, Lam, App, Def, Fam, Con, Proj, Meta}
use Rattle.core_rules.specs.Substitution.{shift}
use Rattle.core_rules.specs.Signature.{Signature, Telescope, FamDecl, ConDecl, Family, fams}
use Rattle.core_rules.specs.InScope.{TelescopeInScope, ConInScope, DeclInScope, FamilyInScope, SignatureInScope, HasShape, any_meta}
use Rattle.core_rules.specs.Heads.{Answer, Form, Blocked}
use Rattle.core_rules.proofs.Scope.Changed.{shift-in_scope}
use Rattle.core_rules.proofs.Scope.Declared.{all_append}
use Rattle.core_rules.proofs.Scope.Known.{knows_append, telescope-known}
use Rattle.core_rules.proofs.Signature.Growth.{get_before, get_last}
use Rattle.kernel_rules.specs.Outcome.{Outcome, Gives}
use Rattle.kernel_rules.specs.TermReading.{arguments_for}
use Rattle.kernel_rules.proofs.Outcome.{one_gives, then-gives}
use Rattle.el_outside.specs.declared.place.Pos.{Pos}
use Rattle.resolved_tree.specs.declared.resolved.ResolvedExpr.{ResolvedExpr}
use Rattle.resolved_tree.specs.declared.resolved.ResolvedArg.{ResolvedArg}
use Rattle.resolved_tree.specs.declared.resolved.ResolvedBinder.{ResolvedBinder, out-ResolvedBinder, map-ResolvedBinder}
use Rattle.resolved_tree.specs.declared.resolved.ResolvedValue.{ResolvedValue}
use Rattle.resolved_tree.specs.declared.resolved.ResolvedArg.TheOpen.{ResolvedBinder-F}
use Rattle.resolved_tree.specs.declared.resolved.ResolvedSignature.{ResolvedSignature}
use Rattle.resolved_tree.specs.declared.resolved.ResolvedItem.{ResolvedItem}
use Rattle.resolved_tree.specs.declared.resolved.Resolved.{Resolved}
use Rattle.resolved_tree.specs.declared.resolved.Resolved.TheVariants as decl
use Rattle.written_rules.specs.Asking.{Asking, Is, Comes}
use Rattle.written_rules.specs.Rules.{Values, BinderMeaning, Typed, Untyped, ArgMeaning, ValueMeaning, binding, shows}
use Rattle.written_rules.specs.Expressions.{ExprMeaning, binder_step, expr_meaning, arg_meaning, binder_meaning, value_meaning}
use Rattle.written_rules.specs.Laws.{ValuesInScope}
use Rattle.written_rules.proofs.Forms.{binder_out}
use Rattle.written_rules.proofs.ScopedForms.{expr_good}
use Rattle.written_rules.proofs.ScopedHeads.{GoodTypes, AnswerIn, binding-in_scope, shown-in_scope}
use Rattle.written_rules.proofs.ScopedRules.{GoodBinder, GoodBinders}
use Rattle.written_rules.proofs.ScopedSpines.{In, EachIn, arguments_each, tested_some}
use Rattle.data_rules.specs.Refusals.{Refusal, Kind, BadSort, ConShape, elab}
use Rattle.data_rules.specs.Reading.{Reads, after, ◌>>=◌, gives, refused}
use Rattle.data_rules.specs.Shapes.{Shown, behind, by_head, telescope, most_shown, level_or, own_arguments, arguments_or, is_variable, own_params, level_fits}
use Rattle.data_rules.specs.Rules.{group, inside, params, known_family, indexed, heading, LineMeaning, con_named, own_indices, con_line, con_lines, field_line, field_lines}
use Rattle.data_rules.specs.Families.{data_of, data_read, has_eta, is_coinductive, lines_of, record_of, record_read, line_meaning, WrittenFamilyOf}
use Rattle.data_rules.proofs.Comes.{comes_then}

module _ (g : Signature Term) (fuel depth : ℕ) where
  -- what gives something at the end gave something before
  pub after-gives : {E F A B : Type 0} (f : E → F) (m : Asking (Outcome E A)) (k : A → Asking (Outcome F B)) (b : B)
      → Comes g fuel depth (after f m k) (Gives b) → (a : A) × Comes g fuel depth m (Gives a) × Comes g fuel depth (k a) (Gives b)
  after-gives f m k b x = then-gives (comes_then g fuel depth f m k (Gives b) x)

-- the one of two equal outcomes gives what the other gives
gave : {A : Type 0} (x y : A) → ◌≡◌ {A = Outcome Refusal A} (Gives x) (Gives y) → y ≡ x
gave x y e = sym (one_gives {x = x} {y = y} e)

-- ---- telescopes

module _ (g : Signature Term) where
  abbrev pub Entries : ℕ → Telescope Term → Type 0
  Entries n es = TelescopeInScope g any_meta n es

  group-in_scope : (f : Flag) (xs : List ℕ) (n : ℕ) (a : Term) → In g n a → Entries n (group f xs a)
  group-in_scope f [] n a h = tt
  group-in_scope f (x ∷ xs) n a h = (h, group-in_scope f xs (n + 1) (shift a 0 1) (shift-in_scope g any_meta n 0 1 a h))

  joined-in_scope : (n : ℕ) (es fs : Telescope Term) → Entries n es → Entries (n + length es) fs → Entries n (es ++ fs)
  joined-in_scope n [] fs h k = let p : n + 0 ≡ n = omega arith in subst (λ m. Entries m fs) p k
  joined-in_scope n (e ∷ es) fs h k = let p : n + suc (length es) ≡ n + 1 + length es = omega arith in (h.0, joined-in_scope (n + 1) es fs h.1 (subst (λ m. Entries m fs) p k))

  inside-in_scope : (fuel depth n : ℕ) (es : Telescope Term) (vs : Values) → Entries n es → ValuesInScope g n vs → ValuesInScope g (n + length es) (inside es vs)
  inside-in_scope fuel depth n [] vs h v = let p : n ≡ n + 0 = omega arith in subst (λ m. ValuesInScope g m vs) p v
  inside-in_scope fuel depth n (e ∷ es) vs h v =
      let p : n + 1 + length es ≡ n + suc (length es) = omega arith in
      subst (λ m. ValuesInScope g m (inside (e ∷ es) vs)) p (inside-in_scope fuel depth (n + 1) es (binding e.name e.ty vs) h.1 (binding-in_scope g fuel depth n e.name e.ty vs h.0 v))

-- ---- what is read over a signature in scope

module _ (g : Signature Term) (sig : SignatureInScope g any_meta) (fuel depth : ℕ) where
  -- a reading of a declaration, and with what it gives another
  then_gives : {A B : Type 0} (m : Reads A) (k : A → Reads B) (b : B) → Comes g fuel depth (m >>= k) (Gives b) → (a : A) × Comes g fuel depth m (Gives a) × Comes g fuel depth (k a) (Gives b)
  then_gives m k b c = after-gives g fuel depth (λ (e : Refusal). e) m k b c

  binder-good : (b : ResolvedBinder) → GoodBinder g sig fuel depth (binder_meaning g b)
  binder-good b = subst (GoodBinder g sig fuel depth) (sym (binder_out g b)) (by_form (out-ResolvedBinder b))
    where
      by_form : (l : ResolvedBinder-F ResolvedArg ResolvedBinder ResolvedExpr ResolvedValue)
          → GoodBinder g sig fuel depth (binder_step (map-ResolvedBinder ResolvedArg ResolvedBinder ResolvedExpr ResolvedValue ArgMeaning BinderMeaning ExprMeaning ValueMeaning (arg_meaning g) (binder_meaning g) (expr_meaning g) (value_meaning g) l))
      by_form (ResolvedBinder-F.Explicit p xs a) = (expr_good g sig fuel depth a).1
      by_form (ResolvedBinder-F.«ResolvedBinder::Implicit» p xs a) = (expr_good g sig fuel depth a).1
      by_form (ResolvedBinder-F.Name x) = tt
      by_form (ResolvedBinder-F.Braced p x) = tt
      by_form (ResolvedBinder-F.«ResolvedBinder::Underscore» p) = tt

  binders-good : (bs : List ResolvedBinder) → GoodBinders g sig fuel depth (map (binder_meaning g) bs)
  binders-good [] = tt
  binders-good (b ∷ bs) = (binder-good b, binders-good bs)

  params-in_scope : (bs : List BinderMeaning) (n : ℕ) (vs : Values) (es : Telescope Term) → GoodBinders g sig fuel depth bs → ValuesInScope g n vs
      → Comes g fuel depth (params bs vs) (Gives es) → Entries g n es
  params-in_scope [] n vs es k v c = subst (Entries g n) (sym (one_gives c)) tt
  params-in_scope (Typed f xs a ∷ bs) n vs es k v c =
      let o = after-gives g fuel depth elab (a vs) (λ (t : Term × ℕ). params bs (inside (group f xs t.0) vs) >>= (λ es. gives (group f xs t.0 ++ es))) es c in
      let first = group f xs o.0.0 in
      let l = then_gives (params bs (inside first vs)) (λ es. gives (first ++ es)) es o.2 in
      let h = group-in_scope g f xs n o.0.0 (k.0 n vs o.0 v o.1) in
      let rest = params-in_scope bs (n + length first) (inside first vs) l.0 k.1 (inside-in_scope g fuel depth n first vs h v) l.1 in
      subst (Entries g n) (gave es (first ++ l.0) l.2) (joined-in_scope g n first l.0 h rest)
  params-in_scope (Untyped q f x ∷ bs) n vs es k v c = absurd cc

  -- ---- function types by their head forms

  -- in a context of n entries, and so many function types at most
  record ShownIn (n room : ℕ) (s : Shown) : Type 0 where
    entries : Entries g n s.entries
    end : AnswerIn g fuel depth (n + length s.entries) s.end
    short : length s.entries ≤ room

  ended : (n room : ℕ) (w : Answer) (s : Shown) → AnswerIn g fuel depth n w → ◌≡◌ {A = Outcome Refusal Shown} (Gives s) (Gives (record { entries = []; end = w })) → ShownIn n room s
  ended n room w s h c =
      let p : n ≡ n + 0 = omega arith in
      subst (ShownIn n room) (sym (one_gives c)) (record { entries = tt; end = subst (λ m. AnswerIn g fuel depth m w) p h; short = omega arith })

  by_head-in_scope : (n room : ℕ) (w : Answer) (below : Term → Reads Shown) (s : Shown) → AnswerIn g fuel depth n w
      → ((t : Term) (r : Shown) → In g (n + 1) t → Comes g fuel depth (below t) (Gives r) → (most : ℕ) × ShownIn (n + 1) most r × (most < room))
      → Comes g fuel depth (by_head w below) (Gives s) → ShownIn n room s
  by_head-in_scope n room (Form (Pi b x a t) []) below s h k c =
      let o = then_gives (below t) (λ r. gives (behind b x a r)) s c in
      let r = k t o.0 h.0.1 o.1 in
      let p : n + 1 + length o.0.entries ≡ n + suc (length o.0.entries) = omega arith in
      let i = r.1.short in
      let j = r.2 in
      subst (ShownIn n room) (gave s (behind b x a o.0) o.2) (record { entries = (h.0.0, r.1.entries); end = subst (λ m. AnswerIn g fuel depth m o.0.end) p r.1.end; short = omega (arith, i, j) })
  by_head-in_scope n room (Form (Pi b x a t) (e ∷ es)) below s h k c = ended n room (Form (Pi b x a t) (e ∷ es)) s h c
  by_head-in_scope n room (Form (Var i) es) below s h k c = ended n room (Form (Var i) es) s h c
  by_head-in_scope n room (Form (Sort l) es) below s h k c = ended n room (Form (Sort l) es) s h c
  by_head-in_scope n room (Form (Lam b x a t) es) below s h k c = ended n room (Form (Lam b x a t) es) s h c
  by_head-in_scope n room (Form (App b t u) es) below s h k c = ended n room (Form (App b t u) es) s h c
  by_head-in_scope n room (Form (Def f) es) below s h k c = ended n room (Form (Def f) es) s h c
  by_head-in_scope n room (Form (Fam d) es) below s h k c = ended n room (Form (Fam d) es) s h c
  by_head-in_scope n room (Form (Con i ts) es) below s h k c = ended n room (Form (Con i ts) es) s h c
  by_head-in_scope n room (Form (Proj f t) es) below s h k c = ended n room (Form (Proj f t) es) s h c
  by_head-in_scope n room (Form (Meta m ts) es) below s h k c = ended n room (Form (Meta m ts) es) s h c
  by_head-in_scope n room (Blocked m t es) below s h k c = ended n room (Blocked m t es) s h c

  telescope-in_scope : (p : Pos) (k : Kind) (room n : ℕ) (a : Term) (s : Shown) → In g n a → Comes g fuel depth (telescope p k room a) (Gives s) → ShownIn n room s
  unfolding telescope
  telescope-in_scope p k zero n a s h c =
      let o = after-gives g fuel depth elab (shows p a) (λ w. by_head w (λ t. refused p k)) s c in
      by_head-in_scope n zero o.0 (λ t. refused p k) s (shown-in_scope g fuel depth sig n p a o.0 h o.1) (λ t r i d. absurd cc) o.2
  telescope-in_scope p k (suc room) n a s h c =
      let o = after-gives g fuel depth elab (shows p a) (λ w. by_head w (telescope p k room)) s c in
      by_head-in_scope n (suc room) o.0 (telescope p k room) s (shown-in_scope g fuel depth sig n p a o.0 h o.1)
      (λ t r i d. (room, telescope-in_scope p k room (n + 1) t r i d, omega arith)) o.2

  -- ---- the heading

  record KnownIn (x room : ℕ) (d : FamDecl Term) : Type 0 where
    params : Telescope Term
    indices : Telescope Term
    level : ℕ
    same : known_family x params indices level ≡ d
    params_in : Entries g 0 params
    indices_in : Entries g (length params) indices
    short : length indices ≤ room

  heading-in_scope : (x room : ℕ) (bs : List BinderMeaning) (m : ExprMeaning) (d : FamDecl Term) → GoodBinders g sig fuel depth bs → GoodTypes g fuel depth m.types
      → Comes g fuel depth (heading x room bs m) (Gives d) → KnownIn x room d
  heading-in_scope x room bs m d k j c =
      let a = then_gives (params bs []) (indexed x room m) d c in
      let ps = a.0 in
      let h = params-in_scope bs 0 [] ps k tt a.1 in
      let o = after-gives g fuel depth elab (m.types (inside ps [])) (λ t. telescope m.pos BadSort room t.0 >>= (λ s. Is (level_or m.pos s.end) >>= (λ l. gives (known_family x ps s.entries l)))) d a.2 in
      let s = then_gives (telescope m.pos BadSort room o.0.0) (λ s. Is (level_or m.pos s.end) >>= (λ l. gives (known_family x ps s.entries l))) d o.2 in
      let l = then_gives (Is (level_or m.pos s.0.end)) (λ l. gives (known_family x ps s.0.entries l)) d s.2 in
      let p : 0 + length ps ≡ length ps = omega arith in
      let v = subst (λ n. ValuesInScope g n (inside ps [])) p (inside-in_scope g fuel depth 0 ps [] h tt) in
      let i = telescope-in_scope m.pos BadSort room (length ps) o.0.0 s.0 (j (length ps) (inside ps []) o.0 v o.1) s.1 in
      record { params = ps; indices = s.0.entries; level = l.0; same = gave d (known_family x ps s.0.entries l.0) l.2; params_in = h; indices_in = i.entries; short = i.short }

  -- ---- constructors

  own_arguments-in_scope : (n d : ℕ) (decl : FamDecl Term) (w : Answer) (us : List Term) → AnswerIn g fuel depth n w → own_arguments d decl w ≡ Some us → EachIn g n us
  own_arguments-in_scope n d decl (Form (Fam k) es) us h e =
      (arguments_each g n (decl.params ++ decl.indices) es us (tested_some (eqb k d) (arguments_for (decl.params ++ decl.indices) es) us e) h.1).1
  own_arguments-in_scope n d decl (Form (Var i) es) us h e = absurd cc
  own_arguments-in_scope n d decl (Form (Sort l) es) us h e = absurd cc
  own_arguments-in_scope n d decl (Form (Pi b x a t) es) us h e = absurd cc
  own_arguments-in_scope n d decl (Form (Lam b x a t) es) us h e = absurd cc
  own_arguments-in_scope n d decl (Form (App b t u) es) us h e = absurd cc
  own_arguments-in_scope n d decl (Form (Def f) es) us h e = absurd cc
  own_arguments-in_scope n d decl (Form (Con i ts) es) us h e = absurd cc
  own_arguments-in_scope n d decl (Form (Proj f t) es) us h e = absurd cc
  own_arguments-in_scope n d decl (Form (Meta m ts) es) us h e = absurd cc
  own_arguments-in_scope n d decl (Blocked m t es) us h e = absurd cc

  some_arguments : (p : Pos) (o : Option (List Term)) (us : List Term) → Gives us ≡ arguments_or p o → o ≡ Some us
  some_arguments p None us e = absurd cc
  some_arguments p (Some vs) us e = ap Some (sym (one_gives e))

  own_params-in_scope : (p : Pos) (k n m : ℕ) (us vs : List Term) → EachIn g m us → Comes g fuel depth (own_params p k n us) (Gives vs) → EachIn g m vs
  own_params-in_scope p k zero m us vs h c = subst (EachIn g m) (sym (one_gives c)) h
  own_params-in_scope p k (suc n) m [] vs h c = absurd cc
  own_params-in_scope p k (suc n) m (u ∷ us) vs h c =
      let o = after-gives g fuel depth elab (shows p u) (λ w. Is (is_variable p (k + n) w) >>= (λ o. own_params p k n us)) vs c in
      let l = then_gives (Is (is_variable p (k + n) o.0)) (λ o. own_params p k n us) vs o.2 in
      own_params-in_scope p k n m us vs h.1 l.2

  own_indices-in_scope : (p : Pos) (n m room : ℕ) (d : FamDecl Term) (s : Shown) (us : List Term) → ShownIn m room s → Comes g fuel depth (own_indices p n d s) (Gives us) → EachIn g (m + length s.entries) us
  own_indices-in_scope p n m room d s us h c =
      let a = then_gives (Is (arguments_or p (own_arguments n d s.end))) (own_params p (length s.entries) (length d.params)) us c in
      own_params-in_scope p (length s.entries) (length d.params) (m + length s.entries) a.0 us
      (own_arguments-in_scope (m + length s.entries) n d s.end a.0 h.end (some_arguments p (own_arguments n d s.end) a.0 a.1)) a.2

  abbrev ConsIn : ℕ → List (ConDecl Term) → Type 0
  ConsIn n ks = AllByRecursion (ConInScope g any_meta n) ks

  named-in_scope : (n : ℕ) (es : Telescope Term) (us : List Term) (xs : List ℕ) → Entries g n es → EachIn g (n + length es) us → ConsIn n (map (con_named es us) xs)
  named-in_scope n es us [] h k = tt
  named-in_scope n es us (x ∷ xs) h k = (record { args = h; indices = k }, named-in_scope n es us xs h k)

  abbrev GoodLines : List LineMeaning → Type 0
  GoodLines ms = AllByRecursion (λ (m : LineMeaning). GoodTypes g fuel depth m.types) ms

  lines-good : (ss : List ResolvedSignature) → GoodLines (map (line_meaning g) ss)
  lines-good [] = tt
  lines-good (s ∷ ss) = ((expr_good g sig fuel depth s.ty).1, lines-good ss)

  con_line-in_scope : (n : ℕ) (d : FamDecl Term) (m : LineMeaning) (ks : List (ConDecl Term)) → GoodTypes g fuel depth m.types → ValuesInScope g (length d.params) (inside d.params [])
      → Comes g fuel depth (con_line n d m) (Gives ks) → ConsIn (length d.params) ks
  con_line-in_scope n d m ks k v c =
      let o = after-gives g fuel depth elab (m.types (inside d.params [])) (λ t. telescope m.pos ConShape most_shown t.0 >>= (λ s. own_indices m.pos n d s >>= (λ us. Is (level_fits m.pos d.level t.1) >>= (λ o. gives (map (con_named s.entries us) m.names))))) ks c in
      let s = then_gives (telescope m.pos ConShape most_shown o.0.0) (λ s. own_indices m.pos n d s >>= (λ us. Is (level_fits m.pos d.level o.0.1) >>= (λ o. gives (map (con_named s.entries us) m.names)))) ks o.2 in
      let us = then_gives (own_indices m.pos n d s.0) (λ us. Is (level_fits m.pos d.level o.0.1) >>= (λ o. gives (map (con_named s.0.entries us) m.names))) ks s.2 in
      let l = then_gives (Is (level_fits m.pos d.level o.0.1)) (λ o. gives (map (con_named s.0.entries us.0) m.names)) ks us.2 in
      let h = telescope-in_scope m.pos ConShape most_shown (length d.params) o.0.0 s.0 (k (length d.params) (inside d.params []) o.0 v o.1) s.1 in
      subst (ConsIn (length d.params)) {x = map (con_named s.0.entries us.0) m.names} (gave ks (map (con_named s.0.entries us.0) m.names) l.2) (named-in_scope (length d.params) s.0.entries us.0 m.names h.entries (own_indices-in_scope m.pos n (length d.params) most_shown d s.0 us.0 h us.1))

  con_lines-in_scope : (n : ℕ) (d : FamDecl Term) (ms : List LineMeaning) (ks : List (ConDecl Term)) → GoodLines ms → ValuesInScope g (length d.params) (inside d.params [])
      → Comes g fuel depth (con_lines n d ms) (Gives ks) → ConsIn (length d.params) ks
  con_lines-in_scope n d [] ks k v c = subst (ConsIn (length d.params)) (sym (one_gives c)) tt
  con_lines-in_scope n d (m ∷ ms) ks k v c =
      let o = then_gives (con_line n d m) (λ ks. con_lines n d ms >>= (λ ls. gives (ks ++ ls))) ks c in
      let l = then_gives (con_lines n d ms) (λ ls. gives (o.0 ++ ls)) ks o.2 in
      subst (ConsIn (length d.params)) (gave ks (o.0 ++ l.0) l.2)
      (all_append (ConInScope g any_meta (length d.params)) o.0 l.0 (con_line-in_scope n d m o.0 k.0 v o.1) (con_lines-in_scope n d ms l.0 k.1 v l.1))

  -- ---- fields

  field_line-in_scope : (l n : ℕ) (vs : Values) (m : LineMeaning) (es : Telescope Term) → GoodTypes g fuel depth m.types → ValuesInScope g n vs
      → Comes g fuel depth (field_line l vs m) (Gives es) → Entries g n es
  field_line-in_scope l n vs m es k v c =
      let o = after-gives g fuel depth elab (m.types vs) (λ t. Is (level_fits m.pos l t.1) >>= (λ o. gives (group Explicit m.names t.0))) es c in
      let f = then_gives (Is (level_fits m.pos l o.0.1)) (λ i. gives (group Explicit m.names o.0.0)) es o.2 in
      subst (Entries g n) (gave es (group Explicit m.names o.0.0) f.2) (group-in_scope g Explicit m.names n o.0.0 (k n vs o.0 v o.1))

  field_lines-in_scope : (l n : ℕ) (vs : Values) (ms : List LineMeaning) (es : Telescope Term) → GoodLines ms → ValuesInScope g n vs
      → Comes g fuel depth (field_lines l vs ms) (Gives es) → Entries g n es
  field_lines-in_scope l n vs [] es k v c = subst (Entries g n) (sym (one_gives c)) tt
  field_lines-in_scope l n vs (m ∷ ms) es k v c =
      let o = then_gives (field_line l vs m) (λ es. field_lines l (inside es vs) ms >>= (λ fs. gives (es ++ fs))) es c in
      let f = then_gives (field_lines l (inside o.0 vs) ms) (λ fs. gives (o.0 ++ fs)) es o.2 in
      let h = field_line-in_scope l n vs m o.0 k.0 v o.1 in
      subst (Entries g n) (gave es (o.0 ++ f.0) f.2)
      (joined-in_scope g n o.0 f.0 h (field_lines-in_scope l (n + length o.0) (inside o.0 vs) ms f.0 k.1 (inside-in_scope g fuel depth n o.0 vs h v) f.1))

-- ---- signatures

two : (i k : ℕ) → (i < k) ⊎ (k ≤ i)
two i k = grind arith

-- a signature in scope with a family in scope
extended : (g : Signature Term) (d : FamDecl Term) → SignatureInScope g any_meta → FamilyInScope g any_meta d → SignatureInScope (g ++ Family d ∷ []) any_meta
extended g d sig h i e s = ⊎_elim
    (λ b. rw (take-append-le i g (Family d ∷ []) (omega (arith, b))) (sig i e (sym (get_before g (Family d ∷ []) i b) ∙ s)))
    (λ b. let p = get_last g (Family d) e i b s in
    let q : take i (g ++ Family d ∷ []) ≡ g = take-append-le i g (Family d ∷ []) (omega (arith, p.1)) ∙ take_all i g (omega (arith, p.1)) in
    rw q (subst (DeclInScope g any_meta) p.0 h)) (two i (length g))

-- ---- shapes

data-shape : (d : FamDecl Term) → d.is_record ≡ false → d.fields ≡ [] → d.eta ≡ false → d.coinductive ≡ false → HasShape d
data-shape d e f i c = record { of_data = λ w. record { fields = f; eta = i; coinductive = c }; of_record = λ w. let never : true ≡ false = sym w ∙ e in absurd (cc never) }

some_field : (n : ℕ) (c : Bool) (fs : Telescope Term) → has_eta n c fs ≡ true → 0 < length fs
some_field n c [] e = absurd (cc e)
some_field n c (f ∷ fs) e = omega arith

not_coinductive : (n : ℕ) (c : Bool) (fs : Telescope Term) → has_eta n c fs ≡ true → c ≡ false
not_coinductive n c [] e = absurd (cc e)
not_coinductive n true (f ∷ fs) e = absurd (cc e)
not_coinductive n false (f ∷ fs) e = refl

none_shown : (es : Telescope Term) → length es ≤ 0 → es ≡ []
none_shown [] h = refl
none_shown (e ∷ es) h = absurd (omega (arith, h))

-- ---- declarations

-- where the heading gives a family of these parameters, indices and level
module _ (g : Signature Term) (x : ℕ) (ps is : Telescope Term) (l : ℕ) where
  abbrev known : FamDecl Term
  known = known_family x ps is l

  abbrev over : Signature Term
  over = g ++ Family known ∷ []

  module _ (sig : SignatureInScope g any_meta) (h : Entries g 0 ps) (i : Entries g (length ps) is) (fuel depth : ℕ) where
    over-in_scope : SignatureInScope over any_meta
    over-in_scope = extended g known sig (record { shape = data-shape known refl refl refl refl; params = h; indices = i; cons = tt; fields = tt })

    params-values : ValuesInScope over (length ps) (inside ps [])
    params-values =
        let p : 0 + length ps ≡ length ps = omega arith in
        subst (λ n. ValuesInScope over n (inside ps [])) p (inside-in_scope over fuel depth 0 ps [] (telescope-known g over any_meta (knows_append g (Family known ∷ [])) 0 ps h) tt)

    data-accepted : (n : ℕ) (ss : List ResolvedSignature) (d : FamDecl Term) → Comes over fuel depth (data_read n known (map (line_meaning over) ss)) (Gives d) → FamilyInScope g any_meta d
    data-accepted n ss d c =
        let o = after-gives over fuel depth (λ (e : Refusal). e) (con_lines n known (map (line_meaning over) ss)) (λ ks. gives (data_of known ks)) d c in
        let k = con_lines-in_scope over over-in_scope fuel depth n known (map (line_meaning over) ss) o.0 (lines-good over over-in_scope fuel depth ss) params-values o.1 in
        subst (FamilyInScope g any_meta) (gave d (data_of known o.0) o.2)
        (record { shape = data-shape (data_of known o.0) refl refl refl refl; params = h; indices = i; cons = k; fields = tt })

    record-accepted : (n : ℕ) (items : List ResolvedItem) (d : FamDecl Term) → is ≡ []
        → Comes over fuel depth (record_read n known items (map (line_meaning over) (lines_of items))) (Gives d) → FamilyInScope g any_meta d
    record-accepted n items d e c =
        let o = after-gives over fuel depth (λ (e : Refusal). e) (field_lines l (inside ps []) (map (line_meaning over) (lines_of items))) (λ fs. gives (record_of n known items fs)) d c in
        let k = field_lines-in_scope over over-in_scope fuel depth l (length ps) (inside ps []) (map (line_meaning over) (lines_of items)) o.0
        (lines-good over over-in_scope fuel depth (lines_of items)) params-values o.1 in
        subst (FamilyInScope g any_meta) (gave d (record_of n known items o.0) o.2) (record {
          shape = record {
            of_data = λ w. absurd (cc w);
            of_record = λ w. record {
              indices = e;
              con = _;
              cons = refl;
              args = refl;
              some_field = some_field n (is_coinductive items) o.0;
              inductive = not_coinductive n (is_coinductive items) o.0;
            };
          };
          params = h;
          indices = i;
          cons = (record { args = k; indices = tt }, tt);
          fields = k;
        })

module _ (g : Signature Term) (sig : SignatureInScope g any_meta) (fuel depth : ℕ) where
  pub family-accepted : (e : Resolved) (d : FamDecl Term) → WrittenFamilyOf g fuel depth e (Gives d) → FamilyInScope g any_meta d
  family-accepted (decl.«Data» p x bs e ss) d c =
      let o = then-gives c in
      let k = heading-in_scope g sig fuel depth x.id most_shown (map (binder_meaning g) bs) (expr_meaning g e) o.0 (binders-good g sig fuel depth bs) (expr_good g sig fuel depth e).1 o.1 in
      data-accepted g x.id k.params k.indices k.level sig k.params_in k.indices_in fuel depth (length (fams g)) ss d
      (subst (λ k. Comes (g ++ Family k ∷ []) fuel depth (data_read (length (fams g)) k (map (line_meaning (g ++ Family k ∷ [])) ss)) (Gives d)) (sym k.same) o.2)
  family-accepted (decl.Record p x bs e items) d c =
      let o = then-gives c in
      let k = heading-in_scope g sig fuel depth x.id 0 (map (binder_meaning g) bs) (expr_meaning g e) o.0 (binders-good g sig fuel depth bs) (expr_good g sig fuel depth e).1 o.1 in
      record-accepted g x.id k.params k.indices k.level sig k.params_in k.indices_in fuel depth (length (fams g)) items d (none_shown k.indices k.short)
      (subst (λ k. Comes (g ++ Family k ∷ []) fuel depth (record_read (length (fams g)) k items (map (line_meaning (g ++ Family k ∷ [])) (lines_of items))) (Gives d)) (sym k.same) o.2)
  family-accepted (decl.Postulate p ss) d c = absurd c
  family-accepted (decl.Function p s qs) d c = absurd c
  family-accepted (decl.Open p n b) d c = absurd c
