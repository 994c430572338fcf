-- A term whose ids are those of a signature and whose variables are below a number is in scope; so are telescopes, constructors and
-- families of such terms.
use Rattle.std.specs.Prelude.{◌≡◌, ℕ, ◌+◌, ◌<◌, ◌≤◌, Bool, true, Result, Ok, Err, IfOk, IsTrue, List, [], ◌∷◌, ◌++◌, length, map, sum, slice_get, Option, Some, None, option_map, option_and_then, zero, suc, refl}
use Rattle.std.specs.List.{AllByRecursion}
use Rattle.std.proofs.Common.{sym, ap, ◌∙◌, subst, ⊎_elim, arith}
use Rattle.std.proofs.lemmas.Option.{same_Some}
use Rattle.el_base.proofs.Lists.{get_either}
use Rattle.std.proofs.lemmas.List.{length-map, length-append}
use Rattle.core_rules.specs.Term.{Term, Terms, Var, Sort, Pi, Lam, App, Def, Fam, Con, Proj, Meta, End, And, to_list, from_list}
use Rattle.core_rules.specs.Signature.{Telescope, ConDecl, FamDecl, Postulate, Family, Open, Function, Signature, without_cons, defs, fams, fam_decl, con_place}
use Rattle.core_rules.specs.Mapped.{entry_map, telescope_map, con_map, fam_map, signature_map}
use Rattle.core_rules.specs.InScope.{InScope, AllInScope, TelescopeInScope, ConInScope, FamilyInScope, IsDataShape, IsRecordShape, HasShape, any_meta, con_params}
use Rattle.core_rules.proofs.Heads.Mapped.{fam_decl-map, con_place-map, field_counts-map}
use Rattle.core_rules.proofs.Signature.Known.{fams-append}
use Rattle.core_rules.proofs.Scope.Known.{KnowsIds, knows_append}
use Rattle.term_pool.specs.Pool.{Pool, tree}
use Rattle.term_pool.specs.Reach.{reach, reach_all}
use Rattle.term_pool.specs.Lists.{items}
use Rattle.core_terms.specs.Signature.{signature_in}
use Rattle.core_terms.proofs.SignatureGrowth.{defs-map}
use Rattle.core_terms.proofs.Instances.{to_from}
use Rattle.case_terms.specs.declared.ids.Ids.{Ids}
use Rattle.case_terms.specs.Known.{IdsIn, AllIdsIn, IsOver, HasIds, AreMarked, IsTermUnder, AreTypesUnder, IsConUnder}

-- the items of a list with known ids
module _ {A : Type 0} (g : Signature A) (n : ℕ) where
  pub ids_of_items : (t : Term) → IdsIn g n t → AllIdsIn g n (items t)
  ids_of_items (App b t u) h = (h.0, ids_of_items u h.1)
  ids_of_items (Var i) h = tt
  ids_of_items (Sort l) h = tt
  ids_of_items (Pi b x a t) h = tt
  ids_of_items (Lam b x a t) h = tt
  ids_of_items (Def f) h = tt
  ids_of_items (Fam d) h = tt
  ids_of_items (Con k ts) h = tt
  ids_of_items (Proj f t) h = tt
  ids_of_items (Meta m ts) h = tt

-- the parameters of a constructor by its family
pub params_by : (g : Signature ℕ) (k d i : ℕ) (f : FamDecl ℕ) (n : ℕ) → con_place g k ≡ Some (d, i) → fam_decl g d ≡ Some f → length f.params ≡ n → con_params g k ≡ Some n
params_by g k d i f n e h l = rw (e, h) (ap Some l)

-- as many items as ids
pub items_count : (f : ℕ → Term) (ids : List ℕ) (ts : Terms) → from_list (map f ids) ≡ ts → length (to_list ts) ≡ length ids
items_count f ids ts e = ap (λ ts. length (to_list ts)) (sym e) ∙ (ap length (to_from (map f ids)) ∙ length-map ids f)

-- a constructor and a metavariable by the list of their terms
module _ (x : Ids) (t a : ℕ) (m : HasIds x (tree x.pool.now a)) where
  pub known_con : {E : Type 0} (k : ℕ) (r : Result Bool E) → tree x.pool.now t ≡ Con k (items (tree x.pool.now a))
      → IfOk r (λ b. IsTrue b → con_params x.sig.now k ≡ Some (length (to_list (items (tree x.pool.now a))))) → IfOk r (λ b. IsTrue b → HasIds x (tree x.pool.now t))
  known_con k (Ok b) e h = λ w. subst (HasIds x) (sym e) (h w, ids_of_items x.sig.now x.fams (tree x.pool.now a) m)
  known_con k (Err b) e h = tt

  pub known_meta : (j : ℕ) → tree x.pool.now t ≡ Meta j (items (tree x.pool.now a)) → HasIds x (tree x.pool.now t)
  known_meta j e = subst (HasIds x) (sym e) (ids_of_items x.sig.now x.fams (tree x.pool.now a) m)

-- one mark more
pub marked-push : (x y : Ids) (b : Bool) → y.pool.now ≡ x.pool.now → y.sig.now ≡ x.sig.now → y.fams ≡ x.fams → y.marks.items ≡ x.marks.items ++ b ∷ []
    → AreMarked x → (b ≡ true → HasIds x (tree x.pool.now (length x.marks.items))) → AreMarked y
marked-push x y b p s n m h k = record { at = at }
  where
    old : (i : ℕ) → HasIds x (tree x.pool.now i) → HasIds y (tree y.pool.now i)
    old i d = rw (p, s, n) d

    at : (i : ℕ) → slice_get y.marks.items i ≡ Some true → HasIds y (tree y.pool.now i)
    at i e = ⊎_elim (λ w. old i (h.at i w)) (λ w. last i w) (get_either x.marks.items (b ∷ []) i true (ap (λ xs. slice_get xs i) (sym m) ∙ e))
      where
        last : (i : ℕ) → ((j : ℕ) × (i ≡ length x.marks.items + j) × (slice_get (b ∷ []) j ≡ Some true)) → HasIds y (tree y.pool.now i)
        last i w = by w.0 w.1 w.2
          where
            by : (j : ℕ) → i ≡ length x.marks.items + j → slice_get (b ∷ []) j ≡ Some true → HasIds y (tree y.pool.now i)
            by zero e u = old i (subst (λ k. HasIds x (tree x.pool.now k)) (omega (arith, e)) (k (same_Some b true u)))
            by (suc j) e u = absurd cc

-- the ids of a signature name as much when a function is applied to each of its terms
module _ {A B : Type 0} (f : A → B) where
  pub fam_count : (g : Signature A) → length (fams (signature_map f g)) ≡ length (fams g)
  fam_count [] = refl
  fam_count (Postulate x a ∷ g) = fam_count g
  fam_count (Family d ∷ g) = ap suc (fam_count g)
  fam_count (Open x a ∷ g) = fam_count g
  fam_count (Function x a qs T ∷ g) = fam_count g

  def_count : (g : Signature A) → length (defs (signature_map f g)) ≡ length (defs g)
  def_count g = ap length (defs-map f g) ∙ length-map (defs g) _

  param_counts : (o : Option (FamDecl A)) → option_map (λ d. length d.params) (option_map (fam_map f) o) ≡ option_map (λ d. length d.params) o
  param_counts None = refl
  param_counts (Some d) = ap Some (length-map d.params (entry_map f))

  params_at : (g : Signature A) (o : Option (ℕ × ℕ)) → option_and_then (λ p. option_map (λ d. length d.params) (fam_decl (signature_map f g) p.0)) o
      ≡ option_and_then (λ p. option_map (λ d. length d.params) (fam_decl g p.0)) o
  params_at g None = refl
  params_at g (Some p) = ap (option_map (λ d. length d.params)) (fam_decl-map f g p.0) ∙ param_counts (fam_decl g p.0)

  con_params-map : (g : Signature A) (k : ℕ) → con_params (signature_map f g) k ≡ con_params g k
  con_params-map g k =
      ap (option_and_then (λ p. option_map (λ d. length d.params) (fam_decl (signature_map f g) p.0))) (con_place-map f g k)
      ∙ params_at g (con_place g k)

  -- a family keeps its shape
  data_map : (d : FamDecl A) → IsDataShape d → IsDataShape (fam_map f d)
  data_map d s = record { fields = ap (map (entry_map f)) s.fields; eta = s.eta; coinductive = s.coinductive }

  record_map : (d : FamDecl A) → IsRecordShape d → IsRecordShape (fam_map f d)
  record_map d s = record {
    indices = ap (map (entry_map f)) s.indices;
    con = con_map f s.con;
    cons = ap (map (con_map f)) s.cons;
    args = ap (map (entry_map f)) s.args;
    some_field = λ e. subst (λ n. 0 < n) (sym (length-map d.fields (entry_map f))) (s.some_field e);
    inductive = s.inductive;
  }

  shape_map : (d : FamDecl A) → HasShape d → HasShape (fam_map f d)
  shape_map d s = record { of_data = λ e. data_map d (s.of_data e); of_record = λ e. record_map d (s.of_record e) }

-- h has the ids of the signature of x, and so many families
module _ (x : Ids) (h : Signature Term) (k : KnowsIds (signature_in x.pool.now x.sig.now) h) (n : x.fams ≤ length (fams h)) where
  mutual
    pub in_scope : (m : ℕ) (t : Term) → IdsIn x.sig.now x.fams t → reach t ≤ m → InScope h any_meta m t
    in_scope m (Var i) s l = omega (arith, l)
    in_scope m (Sort i) s l = tt
    in_scope m (Pi b y a t) s l = (in_scope m a s.0 (omega (arith, l)), in_scope (m + 1) t s.1 (omega (arith, l)))
    in_scope m (Lam b y a t) s l = (in_scope m a s.0 (omega (arith, l)), in_scope (m + 1) t s.1 (omega (arith, l)))
    in_scope m (App b t u) s l = (in_scope m t s.0 (omega (arith, l)), in_scope m u s.1 (omega (arith, l)))
    in_scope m (Def f) s l = let a = k.functions in let b = def_count (tree x.pool.now) x.sig.now in omega (arith, a, b, s)
    in_scope m (Fam d) s l = omega (arith, n, s)
    in_scope m (Con c ts) s l = (k.params c (length (to_list ts)) (con_params-map (tree x.pool.now) x.sig.now c ∙ s.0), all_in_scope m ts s.1 l)
    in_scope m (Proj f t) s l =
        let a = k.fields in let b = ap sum (field_counts-map (tree x.pool.now) x.sig.now) in let c = s.0 in
        (omega (arith, a, b, c), in_scope m t s.1 l)
    in_scope m (Meta j ts) s l = (tt, all_in_scope m ts s l)

    all_in_scope : (m : ℕ) (ts : Terms) → AllIdsIn x.sig.now x.fams ts → reach_all ts ≤ m → AllInScope h any_meta m ts
    all_in_scope m End s l = tt
    all_in_scope m (And t ts) s l = (in_scope m t s.0 (omega (arith, l)), all_in_scope m ts s.1 (omega (arith, l)))

  pub types_in_scope : (m : ℕ) (es : Telescope ℕ) → AreTypesUnder x m es → TelescopeInScope h any_meta m (telescope_map (tree x.pool.now) es)
  types_in_scope m [] s = tt
  types_in_scope m (e ∷ es) s = (in_scope m (tree x.pool.now e.ty) s.0.ids s.0.reach, types_in_scope (m + 1) es s.1)

  pub terms_in_scope : (m : ℕ) (ts : List ℕ) → AllByRecursion (IsTermUnder x m) ts → AllByRecursion (λ t. InScope h any_meta m t) (map (tree x.pool.now) ts)
  terms_in_scope m [] s = tt
  terms_in_scope m (t ∷ ts) s = (in_scope m (tree x.pool.now t) s.0.ids s.0.reach, terms_in_scope m ts s.1)

  con_in_scope : (m : ℕ) (c : ConDecl ℕ) → IsConUnder x m c → ConInScope h any_meta m (con_map (tree x.pool.now) c)
  con_in_scope m c s = record {
    args = types_in_scope m c.args s.args;
    indices = subst (λ j. AllByRecursion (λ t. InScope h any_meta (m + j) t) (map (tree x.pool.now) c.indices))
        (sym (length-map c.args (entry_map (tree x.pool.now)))) (terms_in_scope (m + length c.args) c.indices s.indices);
  }

  cons_in_scope : (m : ℕ) (cs : List (ConDecl ℕ)) → AllByRecursion (IsConUnder x m) cs → AllByRecursion (ConInScope h any_meta m) (map (con_map (tree x.pool.now)) cs)
  cons_in_scope m [] s = tt
  cons_in_scope m (c ∷ cs) s = (con_in_scope m c s.0, cons_in_scope m cs s.1)

pub knows_self : (g : Signature Term) → KnowsIds g g
knows_self g = record { functions = omega arith; families = omega arith; fields = omega arith; params = λ k n e. e }

module _ (p : Pool) (g : Signature ℕ) (n : ℕ) (h : Signature Term) (k : KnowsIds (signature_in p g) h) (l : n ≤ length (fams h)) (x : Ids) (o : IsOver p g n x) where
  knows : KnowsIds (signature_in x.pool.now x.sig.now) h
  knows = subst (λ q. KnowsIds (signature_in q x.sig.now) h) (sym o.pool) (subst (λ j. KnowsIds (signature_in p j) h) (sym o.signature) k)

  few : x.fams ≤ length (fams h)
  few = let e = o.families in omega (arith, e, l)

  term_over : (m i : ℕ) → IsTermUnder x m i → InScope h any_meta m (tree p i)
  term_over m i s = subst (λ q. InScope h any_meta m (tree q i)) o.pool (in_scope x h knows few m (tree x.pool.now i) s.ids s.reach)

  types_over : (m : ℕ) (es : Telescope ℕ) → AreTypesUnder x m es → TelescopeInScope h any_meta m (telescope_map (tree p) es)
  types_over m es s = subst (λ q. TelescopeInScope h any_meta m (telescope_map (tree q) es)) o.pool (types_in_scope x h knows few m es s)

  cons_over : (m : ℕ) (cs : List (ConDecl ℕ)) → AllByRecursion (IsConUnder x m) cs → AllByRecursion (ConInScope h any_meta m) (map (con_map (tree p)) cs)
  cons_over m cs s = subst (λ q. AllByRecursion (ConInScope h any_meta m) (map (con_map (tree q)) cs)) o.pool (cons_in_scope x h knows few m cs s)

module _ (p : Pool) (g : Signature ℕ) where
  pub known_in_scope : (x : Ids) (m i : ℕ) → IsOver p g (length (fams g)) x → IsTermUnder x m i → (i < length p.trees) × InScope (signature_in p g) any_meta m (tree p i)
  known_in_scope x m i o s =
      let l = fam_count (tree p) g in (
        subst (λ q. i < length q.trees) o.pool s.within,
        term_over p g (length (fams g)) (signature_in p g) (knows_self (signature_in p g)) (omega (arith, l)) x o m i s,
      )

  -- with the next family, of which neither constructors nor fields are known
  abbrev with_next : FamDecl ℕ → Signature Term
  with_next d = signature_in p g ++ Family (without_cons (fam_map (tree p) d)) ∷ []

  next_counts : (d : FamDecl ℕ) → length (fams g) + 1 ≤ length (fams (with_next d))
  next_counts d =
      let a = ap length (fams-append (signature_in p g) (Family (without_cons (fam_map (tree p) d)) ∷ [])) in
      let b = length-append (fams (signature_in p g)) (without_cons (fam_map (tree p) d) ∷ []) in
      let c = fam_count (tree p) g in
      omega (arith, a, b, c)

  pub family_in_scope : (d : FamDecl ℕ) (x y : Ids) → IsOver p g (length (fams g)) x → IsOver p g (length (fams g) + 1) y → HasShape d
      → AreTypesUnder x 0 d.params → AreTypesUnder x (length d.params) d.indices → AllByRecursion (IsConUnder y (length d.params)) d.cons
      → AreTypesUnder y (length d.params) d.fields → FamilyInScope (signature_in p g) any_meta (fam_map (tree p) d)
  family_in_scope d x y a b s ps is cs fs =
      let l = fam_count (tree p) g in
      let e = sym (length-map d.params (entry_map (tree p))) in
      let k = knows_append (signature_in p g) (Family (without_cons (fam_map (tree p) d)) ∷ []) in
      record {
        shape = shape_map (tree p) d s;
        params = types_over p g (length (fams g)) (signature_in p g) (knows_self (signature_in p g)) (omega (arith, l)) x a 0 d.params ps;
        indices = subst (λ m. TelescopeInScope (signature_in p g) any_meta m (telescope_map (tree p) d.indices)) e
            (types_over p g (length (fams g)) (signature_in p g) (knows_self (signature_in p g)) (omega (arith, l)) x a (length d.params) d.indices is);
        cons = subst (λ m. AllByRecursion (ConInScope (with_next d) any_meta m) (map (con_map (tree p)) d.cons)) e
            (cons_over p g (length (fams g) + 1) (with_next d) k (next_counts d) y b (length d.params) d.cons cs);
        fields = subst (λ m. TelescopeInScope (with_next d) any_meta m (telescope_map (tree p) d.fields)) e
            (types_over p g (length (fams g) + 1) (with_next d) k (next_counts d) y b (length d.params) d.fields fs);
      }
