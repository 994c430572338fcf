-- The declarations of a signature, of those of each kind, as one is put to the end, taken from there or closed.
use Rattle.std.specs.Prelude.{◌≡◌, ◌⊎◌, ℕ, ◌+◌, ◌-◌, ◌<◌, ◌≤◌, List, [], ◌∷◌, ◌++◌, length, map, sum, take, get_or, slice_get, slice_set, Some, zero, suc, refl}
use Rattle.std.specs.List.{AllByRecursion}
use Rattle.std.proofs.Common.{ap, ap₂, sym, ◌∙◌, arith, subst, inl, inr, length-append, append_assoc, append-nil}
use Rattle.std.proofs.Math.Seq.{take-append_seam, get_or-append_seam}
use Rattle.std.proofs.lemmas.Option.{slice_get_within}
use Rattle.std.proofs.lemmas.List.Sums.{sum_by-cons}
use Rattle.el_base.proofs.Lists.{get_either, get_last, get_left}
use Rattle.el_base.proofs.Throughout.{all-append, all-parts}
use Rattle.std.proofs.lemmas.List.{map-append, length-map, take-append-le, get_or_append_left}
use Rattle.core_rules.specs.Signature.{Signature, Family, Open, Function, CoreClause, Tree, FamDecl, defs, fams, def_decl, fam_decl, con_counts, field_counts, con_place, field_place, cons_of, fields_of, numbers, places, ids_of}
use Rattle.core_terms.specs.declared.signature.Kind.{Kind}
use Rattle.core_terms.specs.declared.signature.Kind.TheVariants as K
use Rattle.core_terms.specs.declared.signature.DefEntry.{DefEntry}
use Rattle.core_terms.specs.declared.signature.DefState.{DefState}
use Rattle.core_terms.specs.declared.signature.DefState.TheVariants as S
use Rattle.core_terms.specs.declared.signature.FamEntry.{FamEntry}
use Rattle.core_terms.specs.Signature.{entry_decl, state_decl, fam_of, places_of, closed_at, closed_entry}
use Rattle.core_terms.specs.Woven.{woven, def_count, fam_count, con_sizes, field_sizes, IsFam, HasIds, AreDeclared}

-- ---- what is declared

defs-state : (x a : ℕ) (s : DefState) (g : Signature ℕ) → defs (state_decl x a s ∷ g) ≡ state_decl x a s ∷ defs g
defs-state x a S.Postulate g = refl
defs-state x a S.Open g = refl
defs-state x a (S.Closed qs T) g = refl

fams-state : (x a : ℕ) (s : DefState) (g : Signature ℕ) → fams (state_decl x a s ∷ g) ≡ fams g
fams-state x a S.Postulate g = refl
fams-state x a S.Open g = refl
fams-state x a (S.Closed qs T) g = refl

pub defs_woven : (ks : List Kind) (ds : List DefEntry) (fs : List FamEntry) → def_count ks ≡ length ds → fam_count ks ≡ length fs → defs (woven ks ds fs) ≡ map entry_decl ds
defs_woven [] [] fs h k = refl
defs_woven [] (d ∷ ds) fs h k = absurd (omega arith)
defs_woven (K.Def ∷ ks) [] fs h k = absurd (omega arith)
defs_woven (K.Def ∷ ks) (d ∷ ds) fs h k = defs-state d.name d.ty d.state (woven ks ds fs) ∙ ap (λ g. entry_decl d ∷ g) (defs_woven ks ds fs (omega arith) k)
defs_woven (K.Fam ∷ ks) ds [] h k = absurd (omega arith)
defs_woven (K.Fam ∷ ks) ds (f ∷ fs) h k = defs_woven ks ds fs h (omega arith)

pub fams_woven : (ks : List Kind) (ds : List DefEntry) (fs : List FamEntry) → def_count ks ≡ length ds → fam_count ks ≡ length fs → fams (woven ks ds fs) ≡ map (λ f. fam_of f.decl) fs
fams_woven [] ds [] h k = refl
fams_woven [] ds (f ∷ fs) h k = absurd (omega arith)
fams_woven (K.Def ∷ ks) [] fs h k = absurd (omega arith)
fams_woven (K.Def ∷ ks) (d ∷ ds) fs h k = fams-state d.name d.ty d.state (woven ks ds fs) ∙ fams_woven ks ds fs (omega arith) k
fams_woven (K.Fam ∷ ks) ds [] h k = absurd (omega arith)
fams_woven (K.Fam ∷ ks) ds (f ∷ fs) h k = ap (λ g. fam_of f.decl ∷ g) (fams_woven ks ds fs h (omega arith))

pub length_woven : (ks : List Kind) (ds : List DefEntry) (fs : List FamEntry) → def_count ks ≡ length ds → fam_count ks ≡ length fs → length (woven ks ds fs) ≡ length ks
length_woven [] ds fs h k = refl
length_woven (K.Def ∷ ks) [] fs h k = absurd (omega arith)
length_woven (K.Def ∷ ks) (d ∷ ds) fs h k = ap suc (length_woven ks ds fs (omega arith) k)
length_woven (K.Fam ∷ ks) ds [] h k = absurd (omega arith)
length_woven (K.Fam ∷ ks) ds (f ∷ fs) h k = ap suc (length_woven ks ds fs h (omega arith))

-- ---- one more

pub woven-def : (ks : List Kind) (ds : List DefEntry) (fs : List FamEntry) (d : DefEntry) → def_count ks ≡ length ds → fam_count ks ≡ length fs → woven (ks ++ K.Def ∷ []) (ds ++ d ∷ []) fs ≡ woven ks ds fs ++ entry_decl d ∷ []
woven-def [] [] fs d h k = refl
woven-def [] (e ∷ ds) fs d h k = absurd (omega arith)
woven-def (K.Def ∷ ks) [] fs d h k = absurd (omega arith)
woven-def (K.Def ∷ ks) (e ∷ ds) fs d h k = ap (λ g. entry_decl e ∷ g) (woven-def ks ds fs d (omega arith) k)
woven-def (K.Fam ∷ ks) ds [] d h k = absurd (omega arith)
woven-def (K.Fam ∷ ks) ds (f ∷ fs) d h k = ap (λ g. Family (fam_of f.decl) ∷ g) (woven-def ks ds fs d h (omega arith))

pub woven-fam : (ks : List Kind) (ds : List DefEntry) (fs : List FamEntry) (f : FamEntry) → def_count ks ≡ length ds → fam_count ks ≡ length fs → woven (ks ++ K.Fam ∷ []) ds (fs ++ f ∷ []) ≡ woven ks ds fs ++ Family (fam_of f.decl) ∷ []
woven-fam [] ds [] f h k = refl
woven-fam [] ds (e ∷ fs) f h k = absurd (omega arith)
woven-fam (K.Def ∷ ks) [] fs f h k = absurd (omega arith)
woven-fam (K.Def ∷ ks) (e ∷ ds) fs f h k = ap (λ g. entry_decl e ∷ g) (woven-fam ks ds fs f (omega arith) k)
woven-fam (K.Fam ∷ ks) ds [] f h k = absurd (omega arith)
woven-fam (K.Fam ∷ ks) ds (e ∷ fs) f h k = ap (λ g. Family (fam_of e.decl) ∷ g) (woven-fam ks ds fs f h (omega arith))

def_count-def : (ks : List Kind) → def_count (ks ++ K.Def ∷ []) ≡ def_count ks + 1
def_count-def [] = refl
def_count-def (K.Def ∷ ks) = omega (arith, def_count-def ks)
def_count-def (K.Fam ∷ ks) = def_count-def ks

def_count-fam : (ks : List Kind) → def_count (ks ++ K.Fam ∷ []) ≡ def_count ks
def_count-fam [] = refl
def_count-fam (K.Def ∷ ks) = omega (arith, def_count-fam ks)
def_count-fam (K.Fam ∷ ks) = def_count-fam ks

fam_count-def : (ks : List Kind) → fam_count (ks ++ K.Def ∷ []) ≡ fam_count ks
fam_count-def [] = refl
fam_count-def (K.Def ∷ ks) = fam_count-def ks
fam_count-def (K.Fam ∷ ks) = omega (arith, fam_count-def ks)

fam_count-fam : (ks : List Kind) → fam_count (ks ++ K.Fam ∷ []) ≡ fam_count ks + 1
fam_count-fam [] = refl
fam_count-fam (K.Def ∷ ks) = fam_count-fam ks
fam_count-fam (K.Fam ∷ ks) = omega (arith, fam_count-fam ks)

pub declared-def : (ks : List Kind) (ds : List DefEntry) (fs : List FamEntry) (cs es : List (ℕ × ℕ)) (d : DefEntry) → AreDeclared ks ds fs cs es → length ds < 4294967295 → AreDeclared (ks ++ K.Def ∷ []) (ds ++ d ∷ []) fs cs es
declared-def ks ds fs cs es d h l = record {
  def_count = omega (arith, h.def_count, def_count-def ks, length-append ds (d ∷ []));
  fam_count = fam_count-def ks ∙ h.fam_count;
  few_defs = omega (arith, length-append ds (d ∷ []));
  few_fams = h.few_fams;
  few_cons = h.few_cons;
  few_fields = h.few_fields;
  families = h.families;
  con_places = h.con_places;
  field_places = h.field_places;
  ids = h.ids;
}

pub declared-def-back : (ks : List Kind) (ds : List DefEntry) (fs : List FamEntry) (cs es : List (ℕ × ℕ)) (d : DefEntry) → AreDeclared (ks ++ K.Def ∷ []) (ds ++ d ∷ []) fs cs es → AreDeclared ks ds fs cs es
declared-def-back ks ds fs cs es d h = record {
  def_count = omega (arith, h.def_count, def_count-def ks, length-append ds (d ∷ []));
  fam_count = sym (fam_count-def ks) ∙ h.fam_count;
  few_defs = omega (arith, h.few_defs, length-append ds (d ∷ []));
  few_fams = h.few_fams;
  few_cons = h.few_cons;
  few_fields = h.few_fields;
  families = h.families;
  con_places = h.con_places;
  field_places = h.field_places;
  ids = h.ids;
}

-- ---- closing

closed_here : (x a y b : ℕ) (s : DefState) (g : Signature ℕ) (qs : List (CoreClause ℕ)) (T : Tree ℕ) → state_decl x a s ≡ Open y b → closed_at (state_decl x a s ∷ g) zero qs T ≡ Function x a qs T ∷ g
closed_here x a y b S.Open g qs T e = refl
closed_here x a y b S.Postulate g qs T e = absurd cc
closed_here x a y b (S.Closed rs U) g qs T e = absurd cc

closed_later : (x a i : ℕ) (s : DefState) (g : Signature ℕ) (qs : List (CoreClause ℕ)) (T : Tree ℕ) → closed_at (state_decl x a s ∷ g) (suc i) qs T ≡ state_decl x a s ∷ closed_at g i qs T
closed_later x a i S.Open g qs T = refl
closed_later x a i S.Postulate g qs T = refl
closed_later x a i (S.Closed rs U) g qs T = refl

pub closed_woven : (ks : List Kind) (ds : List DefEntry) (fs : List FamEntry) (i y b : ℕ) (e : DefEntry) (qs : List (CoreClause ℕ)) (T : Tree ℕ) → def_count ks ≡ length ds → fam_count ks ≡ length fs → i < length ds
    → e ≡ get_or ds i e → entry_decl e ≡ Open y b → woven ks (slice_set ds i (closed_entry e qs T)) fs ≡ closed_at (woven ks ds fs) i qs T
closed_woven [] [] fs i y b e qs T h k l m o = absurd (omega arith)
closed_woven [] (d ∷ ds) fs i y b e qs T h k l m o = absurd (omega arith)
closed_woven (K.Def ∷ ks) [] fs i y b e qs T h k l m o = absurd (omega arith)
closed_woven (K.Def ∷ ks) (d ∷ ds) fs zero y b e qs T h k l m o =
    ap (λ (x : DefEntry). Function x.name x.ty qs T ∷ woven ks ds fs) m
    ∙ sym (closed_here d.name d.ty y b d.state (woven ks ds fs) qs T (ap entry_decl (sym m) ∙ o))
closed_woven (K.Def ∷ ks) (d ∷ ds) fs (suc i) y b e qs T h k l m o =
    ap (λ g. entry_decl d ∷ g) (closed_woven ks ds fs i y b e qs T (omega arith) k (omega arith) m o) ∙ sym (closed_later d.name d.ty i d.state (woven ks ds fs) qs T)
closed_woven (K.Fam ∷ ks) ds [] i y b e qs T h k l m o = absurd (omega arith)
closed_woven (K.Fam ∷ ks) ds (f ∷ fs) i y b e qs T h k l m o = ap (λ g. Family (fam_of f.decl) ∷ g) (closed_woven ks ds fs i y b e qs T h (omega arith) l m o)

length-slice_set : {A : Type 0} (xs : List A) (i : ℕ) (x : A) → length (slice_set xs i x) ≡ length xs
length-slice_set [] i x = refl
length-slice_set (y ∷ xs) zero x = refl
length-slice_set (y ∷ xs) (suc i) x = ap suc (length-slice_set xs i x)

pub declared-closed : (ks : List Kind) (ds : List DefEntry) (fs : List FamEntry) (cs es : List (ℕ × ℕ)) (i : ℕ) (d : DefEntry) → AreDeclared ks ds fs cs es → AreDeclared ks (slice_set ds i d) fs cs es
declared-closed ks ds fs cs es i d h = record {
  def_count = h.def_count ∙ sym (length-slice_set ds i d);
  fam_count = h.fam_count;
  few_defs = omega (arith, h.few_defs, length-slice_set ds i d);
  few_fams = h.few_fams;
  few_cons = h.few_cons;
  few_fields = h.few_fields;
  families = h.families;
  con_places = h.con_places;
  field_places = h.field_places;
  ids = h.ids;
}

-- ---- what stands at a number

at-map : {A B : Type 0} (f : A → B) (xs : List A) (i : ℕ) (x : A) → i < length xs → x ≡ get_or xs i x → slice_get (map f xs) i ≡ Some (f x)
at-map f [] i x l h = absurd (omega arith)
at-map f (y ∷ xs) zero x l h = ap (λ z. Some (f z)) (sym h)
at-map f (y ∷ xs) (suc i) x l h = at-map f xs i x (omega arith) h

at-all : {A : Type 0} (P : A → Type 0) (xs : List A) (i : ℕ) (x : A) → AllByRecursion P xs → i < length xs → x ≡ get_or xs i x → P x
at-all P [] i x h l e = absurd (omega arith)
at-all P (y ∷ xs) zero x h l e = subst P (sym e) h.0
at-all P (y ∷ xs) (suc i) x h l e = at-all P xs i x h.1 (omega arith) e

pub at-get : {A : Type 0} (xs : List A) (i : ℕ) (x : A) → i < length xs → x ≡ get_or xs i x → slice_get xs i ≡ Some x
at-get [] i x l h = absurd (omega arith)
at-get (y ∷ xs) zero x l h = ap Some (sym h)
at-get (y ∷ xs) (suc i) x l h = at-get xs i x (omega arith) h

con_sizes_fams : (fs : List FamEntry) → map (λ (d : FamDecl ℕ). length d.cons) (map (λ (f : FamEntry). fam_of f.decl) fs) ≡ con_sizes fs
con_sizes_fams [] = refl
con_sizes_fams (f ∷ fs) = ap (λ ns. length (fam_of f.decl).cons ∷ ns) (con_sizes_fams fs)

field_sizes_fams : (fs : List FamEntry) → map (λ (d : FamDecl ℕ). length d.fields) (map (λ (f : FamEntry). fam_of f.decl) fs) ≡ field_sizes fs
field_sizes_fams [] = refl
field_sizes_fams (f ∷ fs) = ap (λ ns. length (fam_of f.decl).fields ∷ ns) (field_sizes_fams fs)

length_numbers : (k n : ℕ) → length (numbers k n) ≡ n
length_numbers k zero = refl
length_numbers k (suc n) = ap suc (length_numbers (k + 1) n)

length-place : (k n : ℕ) → length (places_of k n) ≡ n
length-place k n = let f : ℕ → ℕ × ℕ = λ i. (k, i) in length-map (numbers 0 n) f ∙ length_numbers 0 n

sum_cons : (n : ℕ) (ns : List ℕ) → sum (n ∷ ns) ≡ n + sum ns
sum_cons n ns = sum_by-cons (λ i. i) n ns

length_places : (k : ℕ) (ns : List ℕ) → length (places k ns) ≡ sum ns
length_places k [] = refl
length_places k (n ∷ ns) =
    length-append (places_of k n) (places (k + 1) ns) ∙ (ap₂ (λ i j. i + j) (length-place k n) (length_places (k + 1) ns) ∙ sym (sum_cons n ns))

module _ (ks : List Kind) (ds : List DefEntry) (fs : List FamEntry) (cs es : List (ℕ × ℕ)) (g : Signature ℕ) (v : woven ks ds fs ≡ g) (h : AreDeclared ks ds fs cs es) where
  defs-are : defs g ≡ map entry_decl ds
  defs-are = ap defs (sym v) ∙ defs_woven ks ds fs h.def_count h.fam_count

  fams-are : fams g ≡ map (λ f. fam_of f.decl) fs
  fams-are = ap fams (sym v) ∙ fams_woven ks ds fs h.def_count h.fam_count

  pub length-defs : length (defs g) ≡ length ds
  length-defs = ap length defs-are ∙ length-map ds entry_decl

  pub length-fams : length (fams g) ≡ length fs
  length-fams = ap length fams-are ∙ length-map fs (λ f. fam_of f.decl)

  pub length-all : length g ≡ length ks
  length-all = ap length (sym v) ∙ length_woven ks ds fs h.def_count h.fam_count

  pub def-at : (d n : ℕ) (e : DefEntry) → n ≡ d → d < length (defs g) → e ≡ get_or ds n e → def_decl g d ≡ Some (entry_decl e)
  def-at d n e m l k = ap (λ xs. slice_get xs d) defs-are ∙ (ap (slice_get (map entry_decl ds)) (sym m) ∙ at-map entry_decl ds n e (omega (arith, length-defs)) k)

  pub fam-at : (d n : ℕ) (e : FamEntry) → n ≡ d → d < length (fams g) → e ≡ get_or fs n e → fam_decl g d ≡ Some (fam_of e.decl)
  fam-at d n e m l k =
      ap (λ xs. slice_get xs d) fams-are ∙ (ap (slice_get (map (λ (f : FamEntry). fam_of f.decl) fs)) (sym m) ∙ at-map (λ (f : FamEntry). fam_of f.decl) fs n e (omega (arith, length-fams)) k)

  pub fam-is : (d n : ℕ) (e : FamEntry) → n ≡ d → d < length (fams g) → e ≡ get_or fs n e → IsFam e
  fam-is d n e m l k = at-all IsFam fs n e h.families (omega (arith, length-fams)) k

  cons-are : con_counts g ≡ con_sizes fs
  cons-are = ap (map (λ (d : FamDecl ℕ). length d.cons)) fams-are ∙ con_sizes_fams fs

  fields-are : field_counts g ≡ field_sizes fs
  fields-are = ap (map (λ (d : FamDecl ℕ). length d.fields)) fams-are ∙ field_sizes_fams fs

  pub fam-cons : (d n : ℕ) (e : FamEntry) → n ≡ d → d < length (fams g) → e ≡ get_or fs n e → e.cons ≡ cons_of g d
  fam-cons d n e m l k = (h.ids n e (at-get fs n e (omega (arith, length-fams)) k)).cons ∙ (ap (ids_of (con_sizes fs)) m ∙ ap (λ ns. ids_of ns d) (sym cons-are))

  pub fam-fields : (d n : ℕ) (e : FamEntry) → n ≡ d → d < length (fams g) → e ≡ get_or fs n e → e.fields ≡ fields_of g d
  fam-fields d n e m l k = (h.ids n e (at-get fs n e (omega (arith, length-fams)) k)).fields ∙ (ap (ids_of (field_sizes fs)) m ∙ ap (λ ns. ids_of ns d) (sym fields-are))

  pub length-cons : length cs ≡ sum (con_counts g)
  length-cons = ap length h.con_places ∙ (length_places 0 (con_sizes fs) ∙ ap sum (sym cons-are))

  pub length-fields : length es ≡ sum (field_counts g)
  length-fields = ap length h.field_places ∙ (length_places 0 (field_sizes fs) ∙ ap sum (sym fields-are))

  pub con-at : (c n : ℕ) (p : ℕ × ℕ) → n ≡ c → c < sum (con_counts g) → p ≡ get_or cs n p → con_place g c ≡ Some (p.0, p.1)
  con-at c n p m l k = ap (λ ns. slice_get (places 0 ns) c) cons-are ∙ (ap (λ xs. slice_get xs c) (sym h.con_places) ∙ (ap (slice_get cs) (sym m) ∙ at-get cs n p (omega (arith, length-cons)) k))

  pub field-at : (c n : ℕ) (p : ℕ × ℕ) → n ≡ c → c < sum (field_counts g) → p ≡ get_or es n p → field_place g c ≡ Some (p.0, p.1)
  field-at c n p m l k = ap (λ ns. slice_get (places 0 ns) c) fields-are ∙ (ap (λ xs. slice_get xs c) (sym h.field_places) ∙ (ap (slice_get es) (sym m) ∙ at-get es n p (omega (arith, length-fields)) k))

-- ---- one more family

numbers-last : (k n : ℕ) → numbers k (suc n) ≡ numbers k n ++ (k + n) ∷ []
numbers-last k zero = ap (λ j. j ∷ []) (omega arith)
numbers-last k (suc n) =
    let e : k + 1 + n ≡ k + suc n = omega arith in
    ap (λ xs. k ∷ xs) (numbers-last (k + 1) n ∙ ap (λ j. numbers (k + 1) n ++ j ∷ []) e)

pub numbers-next : (k n : ℕ) → numbers k (n + 1) ≡ numbers k n ++ (k + n) ∷ []
numbers-next k n = let e : n + 1 ≡ suc n = omega arith in ap (numbers k) e ∙ numbers-last k n

pub places-next : (d n : ℕ) → places_of d (n + 1) ≡ places_of d n ++ (d, n) ∷ []
places-next d n =
    let f : ℕ → ℕ × ℕ = λ i. (d, i) in
    let e : 0 + n ≡ n = omega arith in
    ap (map f) (numbers-next 0 n) ∙ (map-append f (numbers 0 n) ((0 + n) ∷ []) ∙ ap (λ j. places_of d n ++ f j ∷ []) e)

places-last : (k : ℕ) (ns : List ℕ) (n : ℕ) → places k (ns ++ n ∷ []) ≡ places k ns ++ places_of (k + length ns) n
places-last k [] n = let e : k ≡ k + 0 = omega arith in append-nil (places_of k n) ∙ ap (λ j. places_of j n) e
places-last k (x ∷ ns) n =
    let e : k + 1 + length ns ≡ k + suc (length ns) = omega arith in
    ap (λ xs. places_of k x ++ xs) (places-last (k + 1) ns n ∙ ap (λ j. places (k + 1) ns ++ places_of j n) e) ∙ sym (append_assoc (places_of k x) (places (k + 1) ns) (places_of (k + suc (length ns)) n))

ids-front : (ns : List ℕ) (n d : ℕ) → d < length ns → ids_of (ns ++ n ∷ []) d ≡ ids_of ns d
ids-front ns n d l = ap₂ numbers (ap sum (take-append-le d ns (n ∷ []) (omega arith))) (get_or_append_left ns (n ∷ []) 0 d l)

ids-last : (ns : List ℕ) (n : ℕ) → ids_of (ns ++ n ∷ []) (length ns) ≡ numbers (sum ns) n
ids-last ns n = ap₂ numbers (ap sum (take-append_seam ns (n ∷ []))) (get_or-append_seam ns n [] 0)

module _ (fs : List FamEntry) (e : FamEntry) where
  con_sizes-last : con_sizes (fs ++ e ∷ []) ≡ con_sizes fs ++ length (fam_of e.decl).cons ∷ []
  con_sizes-last = let f : FamEntry → ℕ = λ f. length (fam_of f.decl).cons in map-append f fs (e ∷ [])

  field_sizes-last : field_sizes (fs ++ e ∷ []) ≡ field_sizes fs ++ length (fam_of e.decl).fields ∷ []
  field_sizes-last = let f : FamEntry → ℕ = λ f. length (fam_of f.decl).fields in map-append f fs (e ∷ [])

  length-con_sizes : length (con_sizes fs) ≡ length fs
  length-con_sizes = let f : FamEntry → ℕ = λ f. length (fam_of f.decl).cons in length-map fs f

  length-field_sizes : length (field_sizes fs) ≡ length fs
  length-field_sizes = let f : FamEntry → ℕ = λ f. length (fam_of f.decl).fields in length-map fs f

  front_ids : (d : ℕ) (f : FamEntry) → d < length fs → HasIds fs d f → HasIds (fs ++ e ∷ []) d f
  front_ids d f l h = record {
    cons = h.cons ∙ (sym (ids-front (con_sizes fs) _ d (omega (arith, length-con_sizes))) ∙ ap (λ ns. ids_of ns d) (sym con_sizes-last));
    fields = h.fields ∙ (sym (ids-front (field_sizes fs) _ d (omega (arith, length-field_sizes))) ∙ ap (λ ns. ids_of ns d) (sym field_sizes-last));
  }

  front_ids-back : (d : ℕ) (f : FamEntry) → d < length fs → HasIds (fs ++ e ∷ []) d f → HasIds fs d f
  front_ids-back d f l h = record {
    cons = h.cons ∙ (ap (λ ns. ids_of ns d) con_sizes-last ∙ ids-front (con_sizes fs) _ d (omega (arith, length-con_sizes)));
    fields = h.fields ∙ (ap (λ ns. ids_of ns d) field_sizes-last ∙ ids-front (field_sizes fs) _ d (omega (arith, length-field_sizes)));
  }

  cons_last : ids_of (con_sizes (fs ++ e ∷ [])) (length fs) ≡ numbers (sum (con_sizes fs)) (length (fam_of e.decl).cons)
  cons_last = ap (λ ns. ids_of ns (length fs)) con_sizes-last ∙ (ap (ids_of (con_sizes fs ++ length (fam_of e.decl).cons ∷ [])) (sym length-con_sizes) ∙ ids-last (con_sizes fs) (length (fam_of e.decl).cons))

  fields_last : ids_of (field_sizes (fs ++ e ∷ [])) (length fs) ≡ numbers (sum (field_sizes fs)) (length (fam_of e.decl).fields)
  fields_last = ap (λ ns. ids_of ns (length fs)) field_sizes-last ∙ (ap (ids_of (field_sizes fs ++ length (fam_of e.decl).fields ∷ [])) (sym length-field_sizes) ∙ ids-last (field_sizes fs) (length (fam_of e.decl).fields))

  con_places-last : places 0 (con_sizes (fs ++ e ∷ [])) ≡ places 0 (con_sizes fs) ++ places_of (length fs) (length (fam_of e.decl).cons)
  con_places-last =
      let z : 0 + length (con_sizes fs) ≡ length fs = omega (arith, length-con_sizes) in
      ap (places 0) con_sizes-last ∙ (places-last 0 (con_sizes fs) (length (fam_of e.decl).cons) ∙ ap (λ j. places 0 (con_sizes fs) ++ places_of j (length (fam_of e.decl).cons)) z)

  field_places-last : places 0 (field_sizes (fs ++ e ∷ [])) ≡ places 0 (field_sizes fs) ++ places_of (length fs) (length (fam_of e.decl).fields)
  field_places-last =
      let z : 0 + length (field_sizes fs) ≡ length fs = omega (arith, length-field_sizes) in
      ap (places 0) field_sizes-last ∙ (places-last 0 (field_sizes fs) (length (fam_of e.decl).fields) ∙ ap (λ j. places 0 (field_sizes fs) ++ places_of j (length (fam_of e.decl).fields)) z)

module _ (ks : List Kind) (ds : List DefEntry) (fs : List FamEntry) (cs es : List (ℕ × ℕ)) (e : FamEntry) where
  pub declared-fam : (n m i j f : ℕ) (cs' es' : List (ℕ × ℕ)) → AreDeclared ks ds fs cs es → IsFam e → n ≡ length (fam_of e.decl).cons → m ≡ length (fam_of e.decl).fields
      → i ≡ length cs → j ≡ length es → f ≡ length fs → e.cons ≡ numbers i n → e.fields ≡ numbers j m → cs' ≡ cs ++ places_of f n → es' ≡ es ++ places_of f m
      → f < 4294967295 → n ≤ 4294967295 - i → m ≤ 4294967295 - j → AreDeclared (ks ++ K.Fam ∷ []) ds (fs ++ e ∷ []) cs' es'
  declared-fam n m i j f cs' es' h is en em ei ej ef ec ee ec' ee' lf ln lm = record {
    def_count = def_count-fam ks ∙ h.def_count;
    fam_count = omega (arith, h.fam_count, fam_count-fam ks, length-append fs (e ∷ []));
    few_defs = h.few_defs;
    few_fams = omega (arith, length-append fs (e ∷ []));
    few_cons = omega (arith, h.few_cons, ap length ec', length-append cs (places_of f n), length-place f n);
    few_fields = omega (arith, h.few_fields, ap length ee', length-append es (places_of f m), length-place f m);
    families = all-append IsFam fs (e ∷ []) h.families (is, tt);
    con_places = ec' ∙ (ap₂ (λ xs ys. xs ++ ys) h.con_places (ap₂ places_of ef en) ∙ sym (con_places-last fs e));
    field_places = ee' ∙ (ap₂ (λ xs ys. xs ++ ys) h.field_places (ap₂ places_of ef em) ∙ sym (field_places-last fs e));
    ids = λ d x q. by_place d x (get_either fs (e ∷ []) d x q) q;
  }
    where
      last : HasIds (fs ++ e ∷ []) (length fs) e
      last = record {
        cons = ec ∙ (ap₂ numbers (ei ∙ (ap length h.con_places ∙ length_places 0 (con_sizes fs))) en ∙ sym (cons_last fs e));
        fields = ee ∙ (ap₂ numbers (ej ∙ (ap length h.field_places ∙ length_places 0 (field_sizes fs))) em ∙ sym (fields_last fs e));
      }

      by_place : (d : ℕ) (x : FamEntry) → (slice_get fs d ≡ Some x) ⊎ ((k : ℕ) × (d ≡ length fs + k) × (slice_get (e ∷ []) k ≡ Some x)) → slice_get (fs ++ e ∷ []) d ≡ Some x → HasIds (fs ++ e ∷ []) d x
      by_place d x (inl y) q = front_ids fs e d x (slice_get_within fs d x y) (h.ids d x y)
      by_place d x (inr y) q =
          let z = get_last fs e x d (omega (arith, y.1)) q in
          subst (λ d. HasIds (fs ++ e ∷ []) d x) (sym z.1) (subst (HasIds (fs ++ e ∷ []) (length fs)) z.0 last)

  module _ (h : AreDeclared (ks ++ K.Fam ∷ []) ds (fs ++ e ∷ []) cs es) where
    last_ids : HasIds (fs ++ e ∷ []) (length fs) e
    last_ids = h.ids (length fs) e (at-get (fs ++ e ∷ []) (length fs) e (omega (arith, length-append fs (e ∷ []))) (sym (get_or-append_seam fs e [] e)))

    con_count : length e.cons ≡ length (fam_of e.decl).cons
    con_count = ap length (last_ids.cons ∙ cons_last fs e) ∙ length_numbers (sum (con_sizes fs)) (length (fam_of e.decl).cons)

    field_count : length e.fields ≡ length (fam_of e.decl).fields
    field_count = ap length (last_ids.fields ∙ fields_last fs e) ∙ length_numbers (sum (field_sizes fs)) (length (fam_of e.decl).fields)

    cons_split : cs ≡ places 0 (con_sizes fs) ++ places_of (length fs) (length (fam_of e.decl).cons)
    cons_split = h.con_places ∙ con_places-last fs e

    fields_split : es ≡ places 0 (field_sizes fs) ++ places_of (length fs) (length (fam_of e.decl).fields)
    fields_split = h.field_places ∙ field_places-last fs e

    cons_length : length cs ≡ length (places 0 (con_sizes fs)) + length e.cons
    cons_length = omega (arith, ap length cons_split, length-append (places 0 (con_sizes fs)) (places_of (length fs) (length (fam_of e.decl).cons)), length-place (length fs) (length (fam_of e.decl).cons), con_count)

    fields_length : length es ≡ length (places 0 (field_sizes fs)) + length e.fields
    fields_length = omega (arith, ap length fields_split, length-append (places 0 (field_sizes fs)) (places_of (length fs) (length (fam_of e.decl).fields)), length-place (length fs) (length (fam_of e.decl).fields), field_count)

    pub cons_fit : length e.cons ≤ length cs
    cons_fit = omega (arith, cons_length)

    pub fields_fit : length e.fields ≤ length es
    fields_fit = omega (arith, fields_length)

    pub declared-fam-back : (i j : ℕ) (cs' es' : List (ℕ × ℕ)) → i ≡ length cs - length e.cons → j ≡ length es - length e.fields → cs' ≡ take i cs → es' ≡ take j es → AreDeclared ks ds fs cs' es'
    declared-fam-back i j cs' es' ei ej ec ee =
        let ki : i ≡ length (places 0 (con_sizes fs)) = omega (arith, cons_length) in
        let kj : j ≡ length (places 0 (field_sizes fs)) = omega (arith, fields_length) in
        let cons : cs' ≡ places 0 (con_sizes fs) = ec ∙ (ap₂ take ki cons_split ∙ take-append_seam (places 0 (con_sizes fs)) _) in
        let fields : es' ≡ places 0 (field_sizes fs) = ee ∙ (ap₂ take kj fields_split ∙ take-append_seam (places 0 (field_sizes fs)) _) in
        record {
          def_count = sym (def_count-fam ks) ∙ h.def_count;
          fam_count = omega (arith, h.fam_count, fam_count-fam ks, length-append fs (e ∷ []));
          few_defs = h.few_defs;
          few_fams = omega (arith, h.few_fams, length-append fs (e ∷ []));
          few_cons = omega (arith, h.few_cons, ap length cons, cons_length);
          few_fields = omega (arith, h.few_fields, ap length fields, fields_length);
          families = (all-parts IsFam fs (e ∷ []) h.families).0;
          con_places = cons;
          field_places = fields;
          ids = λ d x q. front_ids-back fs e d x (slice_get_within fs d x q) (h.ids d x (get_left fs (e ∷ []) d x q));
        }

-- ---- without the last

pub front-def : (ks js : List Kind) (ds bs : List DefEntry) (fs : List FamEntry) (d : DefEntry) → def_count ks ≡ length ds → fam_count ks ≡ length fs → js ≡ ks ++ K.Def ∷ [] → bs ≡ ds ++ d ∷ []
    → woven ks ds fs ≡ take (length js - 1) (woven js bs fs)
front-def ks js ds bs fs d h k e b =
    let n : length js - 1 ≡ length (woven ks ds fs) = omega (arith, ap length e, length-append ks (K.Def ∷ []), length_woven ks ds fs h k) in
    sym (ap₂ take n (ap₂ (λ xs ys. woven xs ys fs) e b ∙ woven-def ks ds fs d h k) ∙ take-append_seam (woven ks ds fs) _)

pub front-fam : (ks js : List Kind) (ds : List DefEntry) (fs gs : List FamEntry) (f : FamEntry) → def_count ks ≡ length ds → fam_count ks ≡ length fs → js ≡ ks ++ K.Fam ∷ [] → gs ≡ fs ++ f ∷ []
    → woven ks ds fs ≡ take (length js - 1) (woven js ds gs)
front-fam ks js ds fs gs f h k e b =
    let n : length js - 1 ≡ length (woven ks ds fs) = omega (arith, ap length e, length-append ks (K.Fam ∷ []), length_woven ks ds fs h k) in
    sym (ap₂ take n (ap₂ (λ xs ys. woven xs ds ys) e b ∙ woven-fam ks ds fs f h k) ∙ take-append_seam (woven ks ds fs) _)

-- what was put after a list goes again
pub cut_back : (xs ys zs ws : List (ℕ × ℕ)) (n : ℕ) → ys ≡ xs ++ zs → n ≡ length xs → ws ≡ take n ys → ws ≡ xs
cut_back xs ys zs ws n e l k = k ∙ (ap₂ take l e ∙ take-append_seam xs zs)

pub declared-same : (ks js : List Kind) (ds : List DefEntry) (fs gs : List FamEntry) (cs cs' es es' : List (ℕ × ℕ)) → AreDeclared ks ds fs cs es → js ≡ ks → gs ≡ fs → cs' ≡ cs → es' ≡ es → AreDeclared js ds gs cs' es'
declared-same ks js ds fs gs cs cs' es es' h a b c d =
    subst (λ x. AreDeclared x ds gs cs' es') (sym a) (subst (λ x. AreDeclared ks ds x cs' es') (sym b) (subst (λ x. AreDeclared ks ds fs x es') (sym c) (subst (AreDeclared ks ds fs cs) (sym d) h)))

pub some-def : (ks js : List Kind) (ds : List DefEntry) → js ≡ ks ++ K.Def ∷ [] → def_count js ≡ length ds → 0 < length ds
some-def ks js ds e h = omega (arith, ap def_count e, def_count-def ks)

pub some-fam : (ks js : List Kind) (fs : List FamEntry) → js ≡ ks ++ K.Fam ∷ [] → fam_count js ≡ length fs → 0 < length fs
some-fam ks js fs e h = omega (arith, ap fam_count e, fam_count-fam ks)
