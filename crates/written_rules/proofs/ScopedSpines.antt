-- What a name stands for and what its arguments make is in scope.
use Rattle.std.proofs.Common.{◌≡◌, ◌<◌, ◌≤◌, ◌+◌, ℕ, Bool, true, false, List, [], ◌∷◌, refl, sym, ◌∙◌, ap, subst, arith, length}
use Rattle.std.proofs.lemmas.Option.{slice_get_within}
use Rattle.std.specs.Prelude.{cond, eqb, sum, take, reverse, slice_get, Option, Some, None, option_map, option_and_then}
use Rattle.std.specs.List.{AllByRecursion}
use Rattle.core_rules.specs.declared.Flag.{Flag}
use Rattle.core_rules.specs.declared.Flag.TheVariants.{Explicit, Implicit}
use Rattle.core_rules.specs.Term.{Term, Terms, Var, Sort, Pi, Lam, App, Def, Fam, Con, Proj, Meta, End, And, to_list, from_list}
use Rattle.core_rules.specs.Signature.{Telescope, Signature, Solved, FamDecl, defs, fams, def_decl, decl_type, def_type, fam_decl, con_place, con_decl, field_place, field_counts, places}
use Rattle.core_rules.specs.Elimination.{Elim, elims, args, fam_type, con_type}
use Rattle.core_rules.specs.Typing.{IsCon, IsField}
use Rattle.core_rules.specs.InScope.{InScope, AllInScope, SignatureInScope, any_meta}
use Rattle.core_rules.specs.ScopeLaws.{ElimInScope, AnswerInScope}
use Rattle.core_rules.specs.Heads.{Answer, Form, Blocked}
use Rattle.core_rules.proofs.Scope.Changed.{subst-in_scope, under-in_scope, each-reverse}
use Rattle.core_rules.proofs.Scope.Declared.{all_got, all_taken, declared-in_scope, fam_type-in_scope, con_type-in_scope, projected-in_scope}
use Rattle.core_rules.proofs.Typing.Scoped.{length-places}
use Rattle.kernel_rules.specs.Outcome.{Gives}
use Rattle.kernel_rules.specs.TermReading.{arguments_for}
use Rattle.kernel_rules.proofs.Outcome.{one_gives}
use Rattle.kernel_rules.proofs.Sound.{arguments-are}
use Rattle.el_outside.specs.declared.place.Pos.{Pos}
use Rattle.written_rules.specs.Asking.{Is, Comes, ◌>>=◌, gives}
use Rattle.need_rules.specs.Needs.{Next, Plain, Braces, Named, Need, Given, Insert, OwnField, own_field, project, misplaced, need}
use Rattle.need_rules.specs.Needs as needs
use Rattle.written_rules.specs.Rules.{Values, Checks, Found, Name, VariableName, DefName, FamilyName, ConName, ArgMeaning, params_of, con_found, con_start, start, started, applied, projected, one_argument, spine, against, as_type, shows, uninserted, sort_shown, wanted, agrees, name_checked, name_typed}
use Rattle.written_rules.specs.Laws.{ValuesInScope}
use Rattle.written_rules.proofs.Comes.{comes_gives}
use Rattle.written_rules.proofs.ScopedHeads.{GoodChecks, shown-in_scope, wanted-in_scope}

-- ---- options and lists

pub then_some : {A B : Type 0} (o : Option A) (k : A → Option B) (y : B) → option_and_then k o ≡ Some y → (x : A) × (o ≡ Some x) × (k x ≡ Some y)
then_some None k y e = absurd cc
then_some (Some x) k y e = (x, refl, e)

pub mapped_some : {A B : Type 0} (o : Option A) (f : A → B) (y : B) → option_map f o ≡ Some y → (x : A) × (o ≡ Some x) × (f x ≡ y)
mapped_some None f y e = absurd cc
mapped_some (Some x) f y e = (x, refl, cc e)

pub tested_some : {A : Type 0} (b : Bool) (o : Option A) (x : A) → cond b o None ≡ Some x → o ≡ Some x
tested_some true o x e = e
tested_some false o x e = absurd cc

pub listed : (ts : List Term) → to_list (from_list ts) ≡ ts
listed [] = refl
listed (t ∷ ts) = ap (λ us. t ∷ us) (listed ts)

module _ (g : Signature Term) where
  abbrev pub In : ℕ → Term → Type 0
  In n t = InScope g any_meta n t

  abbrev pub EachIn : ℕ → List Term → Type 0
  EachIn n ts = AllByRecursion (In n) ts

  pub all_listed : (n : ℕ) (ts : List Term) → EachIn n ts → AllInScope g any_meta n (from_list ts)
  all_listed n [] h = tt
  all_listed n (t ∷ ts) h = (h.0, all_listed n ts h.1)

  mutual
    wider : (n m : ℕ) (t : Term) → n ≤ m → In n t → In m t
    wider n m (Var i) l h = omega (arith, l, h)
    wider n m (Sort i) l h = tt
    wider n m (Pi b x a t) l h = (wider n m a l h.0, wider (n + 1) (m + 1) t (omega (arith, l)) h.1)
    wider n m (Lam b x a t) l h = (wider n m a l h.0, wider (n + 1) (m + 1) t (omega (arith, l)) h.1)
    wider n m (App b t u) l h = (wider n m t l h.0, wider n m u l h.1)
    wider n m (Def f) l h = h
    wider n m (Fam d) l h = h
    wider n m (Con k ts) l h = (h.0, wider_all n m ts l h.1)
    wider n m (Proj f t) l h = (h.0, wider n m t l h.1)
    wider n m (Meta i ts) l h = (tt, wider_all n m ts l h.1)

    wider_all : (n m : ℕ) (ts : Terms) → n ≤ m → AllInScope g any_meta n ts → AllInScope g any_meta m ts
    wider_all n m End l h = tt
    wider_all n m (And t ts) l h = (wider n m t l h.0, wider_all n m ts l h.1)

  closed-in_scope : (n : ℕ) (t : Term) → In 0 t → In n t
  closed-in_scope n t h = wider 0 n t (omega arith) h

  -- the arguments of a spine in scope
  args_each : (n : ℕ) (c : Telescope Term) (us : List Term) → length us ≡ length c → AllByRecursion (ElimInScope g any_meta n) (args c us) → EachIn n us
  args_each n [] [] e h = tt
  args_each n [] (u ∷ us) e h = absurd (omega (arith, e))
  args_each n (x ∷ c) [] e h = absurd (omega (arith, e))
  args_each n (x ∷ c) (u ∷ us) e h = (h.0, args_each n c us (omega (arith, e)) h.1)

  pub arguments_each : (n : ℕ) (c : Telescope Term) (es : List Elim) (us : List Term) → arguments_for c es ≡ Some us → AllByRecursion (ElimInScope g any_meta n) es → (length us ≡ length c) × EachIn n us
  arguments_each n c es us e h =
      let f = arguments-are c es us (sym e) in
      (f.as_many, args_each n c us f.as_many (subst (AllByRecursion (ElimInScope g any_meta n)) f.is h))

  pub record FoundIn (n : ℕ) (s : Found) : Type 0 where
    pub term : In n s.term
    pub ty : In n s.ty

  abbrev pub WantedIn : ℕ → Option Answer → Type 0
  WantedIn n None = Unit {0}
  WantedIn n (Some w) = AnswerInScope g any_meta n w

  -- ---- names

  params-in_scope : (n d : ℕ) (decl : FamDecl Term) (es : Telescope Term) (w : Option Answer) (ps : List Term) → es ≡ decl.params → WantedIn n w → params_of d decl es w ≡ Some ps → (length ps ≡ length decl.params) × EachIn n ps
  params-in_scope n d decl [] w ps e h o = let same : ps ≡ [] = cc o in rw same (ap length e, tt)
  params-in_scope n d decl (x ∷ es) (Some (Form (Fam k) ds)) ps e h o =
      arguments_each n decl.params (take (length decl.params) ds) ps (tested_some (eqb k d) (arguments_for decl.params (take (length decl.params) ds)) ps o) (all_taken (ElimInScope g any_meta n) (length decl.params) ds h.1)
  params-in_scope n d decl (x ∷ es) None ps e h o = absurd cc
  params-in_scope n d decl (x ∷ es) (Some (Form (Var i) ds)) ps e h o = absurd cc
  params-in_scope n d decl (x ∷ es) (Some (Form (Sort i) ds)) ps e h o = absurd cc
  params-in_scope n d decl (x ∷ es) (Some (Form (Pi c y a b) ds)) ps e h o = absurd cc
  params-in_scope n d decl (x ∷ es) (Some (Form (Lam c y a b) ds)) ps e h o = absurd cc
  params-in_scope n d decl (x ∷ es) (Some (Form (App c a b) ds)) ps e h o = absurd cc
  params-in_scope n d decl (x ∷ es) (Some (Form (Def i) ds)) ps e h o = absurd cc
  params-in_scope n d decl (x ∷ es) (Some (Form (Con i ts) ds)) ps e h o = absurd cc
  params-in_scope n d decl (x ∷ es) (Some (Form (Proj i a) ds)) ps e h o = absurd cc
  params-in_scope n d decl (x ∷ es) (Some (Form (Meta i ts) ds)) ps e h o = absurd cc
  params-in_scope n d decl (x ∷ es) (Some (Blocked m a ds)) ps e h o = absurd cc

  -- constructor k at as many parameters as its family has
  pub con-in_scope : (n k : ℕ) (p : ℕ × ℕ) (decl : FamDecl Term) (ps : List Term) → con_place g k ≡ Some p → fam_decl g p.0 ≡ Some decl → length ps ≡ length decl.params → EachIn n ps → In n (Con k (from_list ps))
  con-in_scope n k p decl ps place is long each =
      (ap (option_and_then (λ p. option_map (λ d. length d.params) (fam_decl g p.0))) place ∙ ap (option_map (λ d. length d.params)) is ∙ ap Some (sym long ∙ ap length (sym (listed ps))), all_listed n ps each)

  module _ (sig : SignatureInScope g any_meta) where
    con_start-in_scope : (n k : ℕ) (w : Option Answer) (s : Found) → WantedIn n w → con_start g k w ≡ Some s → FoundIn n s
    con_start-in_scope n k w s h e =
        let a = then_some (con_place g k) (λ p. option_and_then (λ decl. option_and_then (λ con. option_map (con_found k p.0 decl con) (params_of p.0 decl decl.params w)) (con_decl g k)) (fam_decl g p.0)) s e in
        let b = then_some (fam_decl g a.0.0) (λ decl. option_and_then (λ con. option_map (con_found k a.0.0 decl con) (params_of a.0.0 decl decl.params w)) (con_decl g k)) s a.2 in
        let c = then_some (con_decl g k) (λ con. option_map (con_found k a.0.0 b.0 con) (params_of a.0.0 b.0 b.0.params w)) s b.2 in
        let d = mapped_some (params_of a.0.0 b.0 b.0.params w) (con_found k a.0.0 b.0 c.0) s c.2 in
        let ps = params-in_scope n a.0.0 b.0 b.0.params w d.0 refl h d.1 in
        let at = ap (option_and_then (λ p. option_and_then (λ (d : FamDecl Term). slice_get d.cons p.1) (fam_decl g p.0))) a.1 ∙ ap (option_and_then (λ (d : FamDecl Term). slice_get d.cons a.0.1)) b.1 in
        let is : IsCon g k = record { fam = a.0.0; at = a.0.1; decl = b.0; con = c.0; place = a.1; is_decl = b.1; is_con = sym at ∙ c.1 } in
        subst (FoundIn n) d.2
        (record {
          term = con-in_scope n k a.0 b.0 d.0 a.1 b.1 ps.0 ps.1;
          ty = under-in_scope g any_meta n (length b.0.params) (reverse d.0) (con_type a.0.0 b.0 c.0) (each-reverse g any_meta n d.0 ps.1) (con_type-in_scope g any_meta sig k is);
        })

    start-in_scope : (n : ℕ) (vs : Values) (w : Option Answer) (x : Name) (s : Found) → ValuesInScope g n vs → WantedIn n w → start g vs w x ≡ Some s → FoundIn n s
    start-in_scope n vs w (VariableName i) s v h e =
        let a = mapped_some (slice_get vs i) (λ (v : Solved Term). record { term = v.value; ty = v.ty }) s e in
        let k = all_got (λ (v : Solved Term). In n v.value × In n v.ty) vs i a.0 v a.1 in
        subst (FoundIn n) a.2 (record { term = k.0; ty = k.1 })
    start-in_scope n vs w (DefName f) s v h e =
        let a = mapped_some (def_type g f) (λ (a : Term). record { term = Def f; ty = a }) s e in
        let b = then_some (def_decl g f) decl_type a.0 a.1 in
        subst (FoundIn n) a.2 (record { term = slice_get_within (defs g) f b.0 b.1; ty = closed-in_scope n a.0 (declared-in_scope g any_meta sig f a.0 a.1) })
    start-in_scope n vs w (FamilyName d) s v h e =
        let a = mapped_some (fam_decl g d) (λ (decl : FamDecl Term). record { term = Fam d; ty = fam_type decl }) s e in
        subst (FoundIn n) a.2 (record { term = slice_get_within (fams g) d a.0 a.1; ty = closed-in_scope n (fam_type a.0) (fam_type-in_scope g any_meta sig d a.0 a.1) })
    start-in_scope n vs w (ConName k) s v h e = con_start-in_scope n k w s h e

    -- ---- arguments

    module _ (fuel depth : ℕ) where
      abbrev pub GoodNext : Next Checks → Type 0
      GoodNext (Plain m) = GoodChecks g fuel depth m
      GoodNext (Braces m) = GoodChecks g fuel depth m
      GoodNext (Named x m) = GoodChecks g fuel depth m
      GoodNext (needs.Field f) = Unit {0}

      module _ (p q r : Pos) (n : ℕ) (vs : Values) (v : ValuesInScope g n vs) (s : Found) (i : FoundIn n s) where
        abbrev at_argument : Next Checks → Need Checks → Found → Type 0
        at_argument y d o = Comes g fuel depth (one_argument g p q vs s (record { pos = r; next = y }) d) (Gives o)

        applied-in_scope : (f : Flag) (m : Checks) (a b : Term) (o : Found) → GoodChecks g fuel depth m → In n a → In (n + 1) b → Comes g fuel depth (m vs a >>= (λ u. gives (applied f s u b))) (Gives o) → FoundIn n o
        applied-in_scope f m a b o k h j c =
            let x = comes_gives g fuel depth (m vs a) (λ u. gives (applied f s u b)) o c in
            let u = k n vs a x.0 v h x.1 in
            let same : applied f s x.0 b ≡ o = sym (one_gives x.2) in
            subst (FoundIn n) same (record { term = (i.term, u); ty = subst-in_scope g any_meta n 0 b x.0 (omega arith) j u })

        no_misplaced : (t : Term) (y : Next Checks) (o : Found) → at_argument y (misplaced t y) o → ⊥
        no_misplaced t (Plain m) o c = cc
        no_misplaced t (Braces m) o c = cc
        no_misplaced t (Named x m) o c = cc
        no_misplaced t (needs.Field f) o c = cc

        -- by whether the name is the binder's
        named-in_scope : (w : Bool) (x : ℕ) (m : Checks) (a b : Term) (o : Found) → GoodChecks g fuel depth m → In n a → In (n + 1) b → at_argument (Named x m) (cond w (Given m a b) (Insert a b)) o → FoundIn n o
        named-in_scope true x m a b o k h j c = applied-in_scope Implicit m a b o k h j c
        named-in_scope false x m a b o k h j c = absurd cc

        field_of-in_scope : (d f : ℕ) (es : List Elim) (is : OwnField) → AllByRecursion (ElimInScope g any_meta n) es → own_field g d es f ≡ Some is → FoundIn n (projected g s is)
        field_of-in_scope d f es is h e =
            let a = then_some (field_place g f) (λ p. option_and_then (λ decl. option_and_then (λ e. cond (eqb p.0 d) (option_map (λ ps. record { field = f; fam = p.0; at = p.1; params = ps; ty = e.ty }) (arguments_for decl.params es)) None) (slice_get decl.fields p.1)) (fam_decl g p.0)) is e in
            let b = then_some (fam_decl g a.0.0) (λ decl. option_and_then (λ e. cond (eqb a.0.0 d) (option_map (λ ps. record { field = f; fam = a.0.0; at = a.0.1; params = ps; ty = e.ty }) (arguments_for decl.params es)) None) (slice_get decl.fields a.0.1)) is a.2 in
            let c = then_some (slice_get b.0.fields a.0.1) (λ e. cond (eqb a.0.0 d) (option_map (λ ps. record { field = f; fam = a.0.0; at = a.0.1; params = ps; ty = e.ty }) (arguments_for b.0.params es)) None) is b.2 in
            let k = mapped_some (arguments_for b.0.params es) (λ (ps : List Term). record { field = f; fam = a.0.0; at = a.0.1; params = ps; ty = c.0.ty }) is (tested_some (eqb a.0.0 d) (option_map (λ ps. record { field = f; fam = a.0.0; at = a.0.1; params = ps; ty = c.0.ty }) (arguments_for b.0.params es)) is c.2) in
            let ps = arguments_each n b.0.params es k.0 k.1 h in
            let field : IsField g f = record { fam = a.0.0; at = a.0.1; decl = b.0; entry = c.0; place = a.1; is_decl = b.1; is_entry = c.1 } in
            let below : f < sum (field_counts g) = let l = slice_get_within (places 0 (field_counts g)) f a.0 a.1 in let m = length-places 0 (field_counts g) in omega (arith, l, m) in
            subst (λ is. FoundIn n (projected g s is)) k.2 (record { term = (below, i.term); ty = projected-in_scope g any_meta sig f n k.0 s.term field ps.1 i.term })

        project-in_scope : (f d : ℕ) (es : List Elim) (t : Term) (w : Option OwnField) (o : Found) → own_field g d es f ≡ w → AllByRecursion (ElimInScope g any_meta n) es → at_argument (needs.Field f) (project t w) o → FoundIn n o
        project-in_scope f d es t None o e h c = absurd cc
        project-in_scope f d es t (Some is) o e h c = subst (FoundIn n) (sym (one_gives c)) (field_of-in_scope d f es is h e)

        pub argument-in_scope : (w : Answer) (y : Next Checks) (o : Found) → AnswerInScope g any_meta n w → GoodNext y → at_argument y (need g w y) o → FoundIn n o
        argument-in_scope (Form (Pi Explicit x a b) []) (Plain m) o h k c = applied-in_scope Explicit m a b o k h.0.0 h.0.1 c
        argument-in_scope (Form (Pi Explicit x a b) []) (Braces m) o h k c = absurd cc
        argument-in_scope (Form (Pi Explicit x a b) []) (Named z m) o h k c = absurd cc
        argument-in_scope (Form (Pi Explicit x a b) []) (needs.Field f) o h k c = absurd cc
        argument-in_scope (Form (Pi Implicit x a b) []) (Plain m) o h k c = absurd cc
        argument-in_scope (Form (Pi Implicit x a b) []) (Braces m) o h k c = applied-in_scope Implicit m a b o k h.0.0 h.0.1 c
        argument-in_scope (Form (Pi Implicit x a b) []) (Named z m) o h k c = named-in_scope (eqb z x) z m a b o k h.0.0 h.0.1 c
        argument-in_scope (Form (Pi Implicit x a b) []) (needs.Field f) o h k c = absurd cc
        argument-in_scope (Form (Pi Explicit x a b) (d ∷ es)) y o h k c = absurd (no_misplaced (elims (Pi Explicit x a b) (d ∷ es)) y o c)
        argument-in_scope (Form (Pi Implicit x a b) (d ∷ es)) y o h k c = absurd (no_misplaced (elims (Pi Implicit x a b) (d ∷ es)) y o c)
        argument-in_scope (Form (Fam d) es) (Plain m) o h k c = absurd cc
        argument-in_scope (Form (Fam d) es) (Braces m) o h k c = absurd cc
        argument-in_scope (Form (Fam d) es) (Named z m) o h k c = absurd cc
        argument-in_scope (Form (Fam d) es) (needs.Field f) o h k c = project-in_scope f d es (elims (Fam d) es) (own_field g d es f) o refl h.1 c
        argument-in_scope (Form (Var j) es) y o h k c = absurd (no_misplaced (elims (Var j) es) y o c)
        argument-in_scope (Form (Sort j) es) y o h k c = absurd (no_misplaced (elims (Sort j) es) y o c)
        argument-in_scope (Form (Lam f x a b) es) y o h k c = absurd (no_misplaced (elims (Lam f x a b) es) y o c)
        argument-in_scope (Form (App f a b) es) y o h k c = absurd (no_misplaced (elims (App f a b) es) y o c)
        argument-in_scope (Form (Def j) es) y o h k c = absurd (no_misplaced (elims (Def j) es) y o c)
        argument-in_scope (Form (Con j ts) es) y o h k c = absurd (no_misplaced (elims (Con j ts) es) y o c)
        argument-in_scope (Form (Proj j a) es) y o h k c = absurd (no_misplaced (elims (Proj j a) es) y o c)
        argument-in_scope (Form (Meta j ts) es) y o h k c = absurd (no_misplaced (elims (Meta j ts) es) y o c)
        argument-in_scope (Blocked m a es) y o h k c = absurd cc

      -- ---- spines

      abbrev pub GoodArgs : List ArgMeaning → Type 0
      GoodArgs xs = AllByRecursion (λ (x : ArgMeaning). GoodNext x.next) xs

      module _ (p q : Pos) (n : ℕ) (vs : Values) (v : ValuesInScope g n vs) where
        spine-in_scope : (xs : List ArgMeaning) (s o : Found) → GoodArgs xs → FoundIn n s → Comes g fuel depth (spine g p q vs xs s) (Gives o) → FoundIn n o
        spine-in_scope [] s o k i c = subst (FoundIn n) (sym (one_gives c)) i
        spine-in_scope (x ∷ xs) s o k i c =
            let a = comes_gives g fuel depth (shows p s.ty) (λ w. one_argument g p q vs s x (need g w x.next) >>= spine g p q vs xs) o c in
            let b = comes_gives g fuel depth (one_argument g p q vs s x (need g a.0 x.next)) (spine g p q vs xs) o a.2 in
            let w = shown-in_scope g fuel depth sig n p s.ty a.0 i.ty a.1 in
            spine-in_scope xs b.0 o k.1 (argument-in_scope p q x.pos n vs v s i a.0 x.next b.0 w k.0 b.1) b.2

        started-in_scope : (w : Option Answer) (x : Name) (s : Found) (o : Option Found) → start g vs w x ≡ o → WantedIn n w → Comes g fuel depth (started q o) (Gives s) → FoundIn n s
        started-in_scope w x s None e h c = absurd cc
        started-in_scope w x s (Some t) e h c = start-in_scope n vs w x s v h (e ∙ ap Some (sym (one_gives c)))

        pub checked_spine-in_scope : (x : Name) (xs : List ArgMeaning) (a t : Term) → GoodArgs xs → In n a → Comes g fuel depth (name_checked g p q x xs vs a) (Gives t) → In n t
        checked_spine-in_scope x xs a t k h c =
            let b = comes_gives g fuel depth (wanted p a) (λ w. started q (start g vs (Some w) x) >>= (λ s. spine g p q vs xs s >>= against p q a)) t c in
            let d = comes_gives g fuel depth (started q (start g vs (Some b.0) x)) (λ s. spine g p q vs xs s >>= against p q a) t b.2 in
            let e = comes_gives g fuel depth (spine g p q vs xs d.0) (against p q a) t d.2 in
            let s = started-in_scope (Some b.0) x d.0 (start g vs (Some b.0) x) refl (wanted-in_scope g fuel depth sig n p a b.0 h b.1) d.1 in
            let o = spine-in_scope xs d.0 e.0 k s e.1 in
            let f = comes_gives g fuel depth (shows p e.0.ty) (λ w. Is (uninserted q w) >>= (λ v. agrees p e.0.ty a >>= (λ o. gives e.0.term))) t e.2 in
            let l = comes_gives g fuel depth (Is (uninserted q f.0)) (λ v. agrees p e.0.ty a >>= (λ o. gives e.0.term)) t f.2 in
            let m = comes_gives g fuel depth (agrees p e.0.ty a) (λ o. gives e.0.term) t l.2 in
            subst (In n) (sym (one_gives m.2)) o.term

        pub typed_spine-in_scope : (x : Name) (xs : List ArgMeaning) (t : Term × ℕ) → GoodArgs xs → Comes g fuel depth (name_typed g p q x xs vs) (Gives t) → In n t.0
        typed_spine-in_scope x xs t k c =
            let d = comes_gives g fuel depth (started q (start g vs None x)) (λ s. spine g p q vs xs s >>= as_type p q) t c in
            let e = comes_gives g fuel depth (spine g p q vs xs d.0) (as_type p q) t d.2 in
            let s = started-in_scope None x d.0 (start g vs None x) refl tt d.1 in
            let o = spine-in_scope xs d.0 e.0 k s e.1 in
            let f = comes_gives g fuel depth (shows p e.0.ty) (λ w. Is (uninserted q w) >>= (λ v. Is (sort_shown p v) >>= (λ n. gives (e.0.term, n)))) t e.2 in
            let l = comes_gives g fuel depth (Is (uninserted q f.0)) (λ v. Is (sort_shown p v) >>= (λ n. gives (e.0.term, n))) t f.2 in
            let m = comes_gives g fuel depth (Is (sort_shown p l.0)) (λ n. gives (e.0.term, n)) t l.2 in
            subst (λ (t : Term × ℕ). In n t.0) (sym (one_gives m.2)) o.term
