-- A typed term is in scope, and so is a good family.
use Rattle.std.specs.Prelude.{◌≡◌, ℕ, ◌+◌, ◌<◌, List, [], ◌∷◌, ◌++◌, length, map, sum, slice_get, Some, refl, suc}
use Rattle.std.specs.List.{AllByRecursion}
use Rattle.std.proofs.Common.{ap, sym, ◌∙◌, arith, zero-add, add-zero}
use Rattle.std.proofs.lemmas.Grind.{common_steps}
use Rattle.std.proofs.lemmas.Option.{slice_get_within}
use Rattle.std.proofs.lemmas.List.{length-map, length-append, length-reverse}
use mathlib.Core.List.{reverse_aux}
use Rattle.core_rules.specs.Term.{Term, Terms, App, Fam, Proj, End, And, to_list}
use Rattle.core_rules.specs.Signature.{Signature, Context, Telescope, onto, FamDecl, ConDecl, Family, without_cons, defs, fams, def_type, decl_type, field_counts, places, numbers}
use Rattle.core_rules.specs.Elimination.{Elim, Arg, Field, elims, args, pi_over, vars_from, con_type}
use Rattle.core_rules.specs.Typing as T
use Rattle.core_rules.specs.Derivable as D
use Rattle.core_rules.specs.Derivable.{IsWithin, GoodCon, GoodFamily}
use Rattle.core_rules.specs.Typing.{Typing, Fits, WellFormed, IsCon, IsField}
use Rattle.core_rules.specs.InScope.{InScope, AllInScope, TelescopeInScope, ConInScope, FamilyInScope, con_params, any_meta}
use Rattle.core_rules.proofs.Signature.Places.{length-numbers}
use Rattle.core_rules.proofs.Run.Records.{goes_on}

pub length-places : (b : ℕ) (ns : List ℕ) → length (places b ns) ≡ sum ns
length-places b [] = refl
length-places b (n ∷ ns) =
    let here : List (ℕ × ℕ) = map (λ i. (b, i)) (numbers 0 n) in
    let p : length here ≡ n = length-map (numbers 0 n) (λ i. (b, i)) ∙ length-numbers 0 n in
    let h : length (places (b + 1) ns) ≡ sum ns = length-places (b + 1) ns in
    let q : sum (n ∷ ns) ≡ n + sum ns = grind (arith, common_steps) in
    length-append here (places (b + 1) ns) ∙ ((λ i. p i + h i) ∙ sym q)

pub length-onto : (es c : Context Term) → length (onto es c) ≡ length es + length c
length-onto [] c = sym (zero-add (length c))
length-onto (e ∷ es) c = length-onto es (e ∷ c) ∙ omega arith

pub fits-length : {g : Signature Term} {c es : Context Term} {r : List Term} → Fits g c r es → length r ≡ length es
fits-length T.none = refl
fits-length (T.more h k) = ap suc (fits-length h)

module _ (P : Term → Type 0) where
  pub all-reversed : (xs ys : List Term) → AllByRecursion P (reverse_aux xs ys) → AllByRecursion P xs × AllByRecursion P ys
  all-reversed [] ys h = (tt, h)
  all-reversed (x ∷ xs) ys h = let k = all-reversed xs (x ∷ ys) h in ((k.1.0, k.0), k.1.1)

module _ (g : Signature Term) where
  all_in_scope : (n : ℕ) (ts : Terms) → AllByRecursion (InScope g any_meta n) (to_list ts) → AllInScope g any_meta n ts
  all_in_scope n End h = tt
  all_in_scope n (And t ts) h = (h.0, all_in_scope n ts h.1)

  def_below : (f : ℕ) (a : Term) → def_type g f ≡ Some a → f < length (defs g)
  def_below f a e = let v = goes_on decl_type (slice_get (defs g) f) a e in slice_get_within (defs g) f v.value v.is

  field_below : (f : ℕ) (is : IsField g f) → f < sum (field_counts g)
  field_below f is = rw length-places at (slice_get_within (places 0 (field_counts g)) f (is.fam, is.at) is.place)

  params_of : (k : ℕ) (is : IsCon g k) → con_params g k ≡ Some (length is.decl.params)
  params_of k is = rw (is.place, is.is_decl) refl

  next : (n : ℕ) (t : Term) → InScope g any_meta (suc n) t → InScope g any_meta (n + 1) t
  next n t h = let p : suc n ≡ n + 1 = omega arith in rw p at h

  mutual
    pub typing-in_scope : {c : Context Term} {t a : Term} → Typing g c t a → InScope g any_meta (length c) t
    typing-in_scope {c = c} (T.var {i = i} {e = e} h) = slice_get_within c i e h
    typing-in_scope T.sort = tt
    typing-in_scope {c = c} (T.pi {s = s} {t = t} h k) = (typing-in_scope h, next (length c) t (typing-in_scope k))
    typing-in_scope {c = c} (T.lam {s = s} {t = t} h k) = (typing-in_scope h, next (length c) t (typing-in_scope k))
    typing-in_scope (T.app h k) = (typing-in_scope h, typing-in_scope k)
    typing-in_scope (T.def {f = f} {a = a} h) = def_below f a h
    typing-in_scope (T.fam {d = d} {decl = decl} h) = slice_get_within (fams g) d decl h
    typing-in_scope {c = c} (T.con {k = k} {ps = ps} is h) =
        let n : length (to_list ps) ≡ length is.decl.params = sym (length-reverse (to_list ps)) ∙ (fits-length h ∙ (length-onto is.decl.params [] ∙ omega arith)) in
        (rw n (params_of k is), all_in_scope (length c) ps (all-reversed (InScope g any_meta (length c)) (to_list ps) [] (fits-in_scope h)).0)
    typing-in_scope (T.proj {f = f} is ps e h) = (field_below f is, typing-in_scope h)
    typing-in_scope (T.convert h k) = typing-in_scope h

    pub fits-in_scope : {c es : Context Term} {r : List Term} → Fits g c r es → AllByRecursion (InScope g any_meta (length c)) r
    fits-in_scope T.none = tt
    fits-in_scope (T.more h k) = (typing-in_scope k, fits-in_scope h)

  -- the telescope and the end of a function type
  pi_over-parts : (n : ℕ) (es : Telescope Term) (t : Term) → InScope g any_meta n (pi_over es t) → TelescopeInScope g any_meta n es × InScope g any_meta (n + length es) t
  pi_over-parts n [] t h = (tt, rw add-zero h)
  pi_over-parts n (e ∷ es) t h =
      let k = pi_over-parts (n + 1) es t h.1 in
      let p : n + 1 + length es ≡ n + suc (length es) = omega arith in
      ((h.0, k.0), rw p at k.1)

  abbrev IsElimInScope : ℕ → Elim → Type 0
  IsElimInScope n (Arg b u) = InScope g any_meta n u
  IsElimInScope n (Field f) = Unit {0}

  elims-parts : (n : ℕ) (t : Term) (es : List Elim) → InScope g any_meta n (elims t es) → InScope g any_meta n t × AllByRecursion (IsElimInScope n) es
  elims-parts n t [] h = (h, tt)
  elims-parts n t (Arg b u ∷ es) h = let k = elims-parts n (App b t u) es h in (k.0.0, (k.0.1, k.1))
  elims-parts n t (Field f ∷ es) h = let k = elims-parts n (Proj f t) es h in (k.0.1, (tt, k.1))

  args-parts : (n : ℕ) (es : Telescope Term) (ts : List Term) → length ts ≡ length es → AllByRecursion (IsElimInScope n) (args es ts) → AllByRecursion (InScope g any_meta n) ts
  args-parts n es [] e h = tt
  args-parts n [] (t ∷ ts) e h = absurd (omega (arith, e))
  args-parts n (x ∷ es) (t ∷ ts) e h = (h.0, args-parts n es ts (omega (arith, e)) h.1)

  append-parts : (P : Elim → Type 0) (es hs : List Elim) → AllByRecursion P (es ++ hs) → AllByRecursion P hs
  append-parts P [] hs h = h
  append-parts P (e ∷ es) hs h = append-parts P es hs h.1

  -- the entries of a well formed context
  pub well_formed-in_scope : (es c : Context Term) → WellFormed g (onto es c) → TelescopeInScope g any_meta (length c) es × WellFormed g c
  well_formed-in_scope [] c h = (tt, h)
  well_formed-in_scope (e ∷ es) c h = let k = well_formed-in_scope es (e ∷ c) h in entry_first k.1 k.0
    where
      entry_first : WellFormed g (e ∷ c) → TelescopeInScope g any_meta (length (e ∷ c)) es → TelescopeInScope g any_meta (length c) (e ∷ es) × WellFormed g c
      entry_first (T.extended w s) k = let p : suc (length c) ≡ length c + 1 = omega arith in ((typing-in_scope s.holds, rw p at k), w)

  pub within-in_scope : {level : ℕ} {c : Context Term} {es : Telescope Term} → IsWithin g level c es → TelescopeInScope g any_meta (length c) es
  within-in_scope D.none = tt
  within-in_scope {c = c} (D.more h k w) = let p : suc (length c) ≡ length c + 1 = omega arith in (typing-in_scope h, rw p at (within-in_scope w))

  pub con-in_scope : (n : ℕ) (d : FamDecl Term) (k : ConDecl Term) → GoodCon g n d k → ConInScope g any_meta (length d.params) k
  con-in_scope n d k h =
      let c : length (onto d.params []) ≡ length d.params = length-onto d.params [] ∙ omega arith in
      let t : InScope g any_meta (length d.params) (con_type n d k) = rw c at (typing-in_scope h.sorted.holds) in
      let p = pi_over-parts (length d.params) k.args (elims (Fam n) (args d.params (vars_from (length k.args) (length d.params)) ++ args d.indices k.indices)) t in
      let e = elims-parts (length d.params + length k.args) (Fam n) (args d.params (vars_from (length k.args) (length d.params)) ++ args d.indices k.indices) p.1 in
      record {
        args = p.0;
        indices = args-parts (length d.params + length k.args) d.indices k.indices h.as_many
            (append-parts (IsElimInScope (length d.params + length k.args)) (args d.params (vars_from (length k.args) (length d.params))) (args d.indices k.indices) e.1);
      }

-- what holds at each place holds of each item
pub all_of : {X : Type 0} (P : X → Type 0) (xs : List X) → ((i : ℕ) (x : X) → slice_get xs i ≡ Some x → P x) → AllByRecursion P xs
all_of P [] h = tt
all_of P (x ∷ xs) h = (h 0 x refl, all_of P xs (λ i. h (suc i)))

pub family-in_scope : (g : Signature Term) (d : FamDecl Term) → GoodFamily g d → FamilyInScope g any_meta d
family-in_scope g d h =
    let known : Signature Term = g ++ Family (without_cons d) ∷ [] in
    let c : length (onto d.params []) ≡ length d.params = length-onto d.params [] ∙ omega arith in
    let w = well_formed-in_scope g d.indices (onto d.params []) h.context in
    record {
      shape = h.shape;
      params = (well_formed-in_scope g d.params [] w.1).0;
      indices = rw c at w.0;
      cons = all_of (ConInScope known any_meta (length d.params)) d.cons (λ i k e. con-in_scope known (length (fams g)) d k (h.cons i k e));
      fields = rw c at (within-in_scope known h.fields);
    }
