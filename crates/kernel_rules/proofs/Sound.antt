-- What is accepted is typed.
use Rattle.std.proofs.Common.{◌≡◌, refl, sym, ◌∙◌, ap, subst, ltb, arith}
use Rattle.std.proofs.lemmas.Bool.Decides.{nat_tests}
use Rattle.std.specs.Prelude.{ℕ, ◌+◌, Bool, true, false, cond, List, [], ◌∷◌, Option, Some, None, option_map, length, eqb}
use mathlib.Core.List.{reverse_aux}
use Rattle.core_rules.specs.declared.Flag.{Flag}
use Rattle.core_rules.specs.declared.Flag.TheVariants.{Explicit, Implicit}
use Rattle.core_rules.specs.Term.{Term, Terms, Var, Sort, Pi, Lam, App, Def, Fam, Con, Proj, Meta, End, And, to_list}
use Rattle.core_rules.specs.Substitution.{under, replace}
use Rattle.core_rules.specs.Signature.{Entry, Telescope, Context, Signature, FamDecl, onto}
use Rattle.core_rules.specs.Elimination.{Elim, Arg, Field, elims, args}
use Rattle.core_rules.specs.Conversion.{Conv}
use Rattle.core_rules.specs.Typing.{Typing, Fits, none, more, var, sort, pi, lam, app, def, fam, con, proj, convert, entry}
use Rattle.core_rules.specs.Heads.{Form, Blocked, Bounded, Within, Out, Heads, HeadOf}
use Rattle.core_rules.specs.Bounded.{Verdict, Yes, No, WaitsFor, same_flag, ConvOf}
use Rattle.core_rules.specs.Bounded as q
use Rattle.core_rules.specs.BoundedLaws.{no_solutions}
use Rattle.core_rules.proofs.Heads.FullSolutions.{nothing_to_replace}
use Rattle.core_rules.proofs.Trees.Sound.{sound-heads, sound-plain_yes}
use Rattle.kernel_rules.specs.Outcome.{Outcome, Gives, Refuses}
use Rattle.kernel_rules.specs.TermReading.{arguments_for, form_shown, spine_shown, sort_level, function_parts, record_params, some_params, agreement, ShowsSort, ShowsFunction, IsTypeBy, ChecksBy, InferOf, FitsOf}
use Rattle.kernel_rules.specs.Refusals.{Refusal, LevelTooLarge}
use Rattle.core_rules.specs.TreeLaws.{IsSound}
use Rattle.kernel_rules.proofs.Outcome.{one_gives, then-gives}

-- a head form that gives a level is that sort
sort-shown : (t : Term) (n : ℕ) → Gives n ≡ sort_level t → t ≡ Sort n
sort-shown (Sort m) n e = ap Sort (sym (one_gives e))
sort-shown (Var i) n e = cc
sort-shown (Pi b x a t) n e = cc
sort-shown (Lam b x a t) n e = cc
sort-shown (App b t u) n e = cc
sort-shown (Def f) n e = cc
sort-shown (Fam d) n e = cc
sort-shown (Con k ps) n e = cc
sort-shown (Proj f t) n e = cc
sort-shown (Meta m ts) n e = cc

-- one that gives a domain and a codomain is the function type between them, by some name
flagged : (b c : Flag) (x : ℕ) (s t : Term) (p : Term × Term) → Gives p ≡ function_parts b (Pi c x s t) → (y : ℕ) × (Pi c x s t ≡ Pi b y p.0 p.1)
flagged Explicit Explicit x s t p e = let same = one_gives e in (x, ap (λ (z : Term × Term). Pi Explicit x z.0 z.1) (sym same))
flagged Implicit Implicit x s t p e = let same = one_gives e in (x, ap (λ (z : Term × Term). Pi Implicit x z.0 z.1) (sym same))
flagged Explicit Implicit x s t p e = cc
flagged Implicit Explicit x s t p e = cc

function-shown : (b : Flag) (t : Term) (p : Term × Term) → Gives p ≡ function_parts b t → (y : ℕ) × (t ≡ Pi b y p.0 p.1)
function-shown b (Pi c x s t) p e = flagged b c x s t p e
function-shown b (Var i) p e = cc
function-shown b (Sort n) p e = cc
function-shown b (Lam c x a t) p e = cc
function-shown b (App c t u) p e = cc
function-shown b (Def f) p e = cc
function-shown b (Fam d) p e = cc
function-shown b (Con k ps) p e = cc
function-shown b (Proj f t) p e = cc
function-shown b (Meta m ts) p e = cc

pub record Fitting (c : Telescope Term) (es : List Elim) (us : List Term) : Type 0 where
  pub is : es ≡ args c us
  pub as_many : length us ≡ length c

fit-more : (x : Entry Term) (b : Flag) (u : Term) (c : Telescope Term) (es : List Elim) (f : Flag) (o : Option (List Term)) (us : List Term) → x.flag ≡ f
    → ((ws : List Term) → Some ws ≡ o → Fitting c es ws) → Some us ≡ cond (same_flag f b) (option_map (λ ws. u ∷ ws) o) None → Fitting (x ∷ c) (Arg b u ∷ es) us
fit-more x Explicit u c es Explicit (Some ws) us g k e = let m = k ws refl in let same : us ≡ u ∷ ws = cc in rw same (record { is = cc (m.is, g); as_many = cc m.as_many })
fit-more x Implicit u c es Implicit (Some ws) us g k e = let m = k ws refl in let same : us ≡ u ∷ ws = cc in rw same (record { is = cc (m.is, g); as_many = cc m.as_many })
fit-more x Explicit u c es Implicit o us g k e = cc
fit-more x Implicit u c es Explicit o us g k e = cc
fit-more x Explicit u c es Explicit None us g k e = cc
fit-more x Implicit u c es Implicit None us g k e = cc

pub arguments-are : (c : Telescope Term) (es : List Elim) (us : List Term) → Some us ≡ arguments_for c es → Fitting c es us
arguments-are [] [] us e = let same : us ≡ [] = cc in rw same (record { is = refl; as_many = refl })
arguments-are [] (d ∷ es) us e = cc
arguments-are (x ∷ c) [] us e = cc
arguments-are (x ∷ c) (Field f ∷ es) us e = cc
arguments-are (x ∷ c) (Arg b u ∷ es) us e = fit-more x b u c es x.flag (arguments_for c es) us refl (arguments-are c es) e

-- one that gives parameters is that record at them
record IsRecordAt (d : ℕ) (decl : FamDecl Term) (t : Term) (us : List Term) : Type 0 where
  is : t ≡ elims (Fam d) (args decl.params us)
  as_many : length us ≡ length decl.params

some-params : (d k : ℕ) (decl : FamDecl Term) (es : List Elim) (w : Bool) (us : List Term) → eqb k d ≡ w → Gives us ≡ some_params (elims (Fam k) es) (cond w (arguments_for decl.params es) None) → IsRecordAt d decl (elims (Fam k) es) us
some-params d k decl es false us f e = cc
some-params d k decl es true us f e =
    let same : k ≡ d = grind (arith, nat_tests) in
    some-fitting same (arguments_for decl.params es) refl e
  where
    some-fitting : k ≡ d → (o : Option (List Term)) → arguments_for decl.params es ≡ o → Gives us ≡ some_params (elims (Fam k) es) o → IsRecordAt d decl (elims (Fam k) es) us
    some-fitting same None h e = cc
    some-fitting same (Some ws) h e = let fit = arguments-are decl.params es us (ap Some (one_gives e) ∙ sym h) in
        record { is = ap (λ i. elims (Fam i) es) same ∙ ap (elims (Fam d)) fit.is; as_many = fit.as_many }

record-shown : (d : ℕ) (decl : FamDecl Term) (h : Term) (es : List Elim) (us : List Term) → Gives us ≡ record_params d decl h es → IsRecordAt d decl (elims h es) us
record-shown d decl (Fam k) es us e = some-params d k decl es (eqb k d) us refl e
record-shown d decl (Pi c x s t) es p e = cc
record-shown d decl (Var i) es p e = cc
record-shown d decl (Sort n) es p e = cc
record-shown d decl (Lam c x a t) es p e = cc
record-shown d decl (App c t u) es p e = cc
record-shown d decl (Def f) es p e = cc
record-shown d decl (Con k ps) es p e = cc
record-shown d decl (Proj f t) es p e = cc
record-shown d decl (Meta m ts) es p e = cc

module _ (g : Signature Term) (fuel depth : ℕ) (k : IsSound g) where
  head-converts : (a h : Term) (es : List Elim) (n : ℕ) → Heads g no_solutions a [] (Form h es) n → Conv g a (elims h es)
  head-converts a h es n d = subst (λ t. Conv g t (elims h es)) (nothing_to_replace.1 a)
      (subst (Conv g (replace no_solutions a)) (nothing_to_replace.1 (elims h es)) (sound-heads g k no_solutions no_solutions a [] (Form h es) n nothing_to_replace.0 d))

  pub form-converts : (a : Term) (b : Bounded) (t : Term) → HeadOf g no_solutions a fuel b → Gives t ≡ form_shown b → Conv g a t
  form-converts a (Within (Form h es) n) t d e = subst (Conv g a) (sym (one_gives e)) (head-converts a h es n d.0)
  form-converts a (Within (Blocked m h es) n) t d e = cc
  form-converts a Out t d e = cc

  pub spine-converts : (a : Term) (b : Bounded) (p : Term × List Elim) → HeadOf g no_solutions a fuel b → Gives p ≡ spine_shown b → Conv g a (elims p.0 p.1)
  spine-converts a (Within (Form h es) n) p d e = subst (λ (w : Term × List Elim). Conv g a (elims w.0 w.1)) (sym (one_gives e)) (head-converts a h es n d.0)
  spine-converts a (Within (Blocked m h es) n) p d e = cc
  spine-converts a Out p d e = cc

  agrees-converts : (a b : Term) (v : Verdict) → ConvOf g no_solutions fuel depth a b v → Gives tt ≡ agreement a b v → Conv g a b
  agrees-converts a b Yes d e = sound-plain_yes g k fuel depth a b d
  agrees-converts a b (No t u xs) d e = cc
  agrees-converts a b q.OutOfFuel d e = cc
  agrees-converts a b q.OutOfDepth d e = cc
  agrees-converts a b (WaitsFor m) d e = cc

  sort-converts : (a : Term) (n : ℕ) → ShowsSort g fuel depth a (Gives n) → Conv g a (Sort n)
  sort-converts a n h =
      let h1 = then-gives h in
      subst (Conv g a) (sort-shown h1.0 n h1.2) (form-converts a h1.1.0 h1.0 h1.1.1 h1.1.2)

  -- the function type by its name
  function-converts : (b : Flag) (a : Term) (p : Term × Term) → ShowsFunction g fuel depth b a (Gives p) → (x : ℕ) × Conv g a (Pi b x p.0 p.1)
  function-converts b a p h =
      let h1 = then-gives h in
      let shown = function-shown b h1.0 p h1.2 in
      (shown.0, subst (Conv g a) shown.1 (form-converts a h1.1.0 h1.0 h1.1.1 h1.1.2))

  -- where what I gives is a type of t
  module _ (c : Context Term) (t : Term) (I : Outcome Refusal Term → Type 0) (typed : (a : Term) → I (Gives a) → Typing g c t a) where
    pub by-type : (n : ℕ) → IsTypeBy g fuel depth I (Gives n) → Typing g c t (Sort n)
    by-type n h = let h1 = then-gives h in convert (typed h1.0 h1.1) (sort-converts h1.0 n h1.2)

    pub by-check : (b : Term) → ChecksBy g fuel depth I b (Gives tt) → Typing g c t b
    by-check b h = let h1 = then-gives h in convert (typed h1.0 h1.1) (agrees-converts h1.0 b h1.2.0 h1.2.1 h1.2.2)

  sort-typed : (c : Context Term) (n : ℕ) (w : Bool) (a : Term) → Gives a ≡ cond w (Refuses LevelTooLarge) (Gives (Sort (n + 1))) → Typing g c (Sort n) a
  sort-typed c n true a e = cc
  sort-typed c n false a e = subst (Typing g c (Sort n)) (sym (one_gives e)) sort

  mutual
    pub infer_typed : (c : Context Term) (t a : Term) → InferOf g fuel depth c t (Gives a) → Typing g c t a
    infer_typed c (Var i) a h = subst (Typing g c (Var i)) (sym (one_gives h.2)) (var h.1)
    infer_typed c (Sort n) a h = sort-typed c n (ltb 1000000 n) a h
    infer_typed c (Pi b x s t) a h =
        let h1 = then-gives h in
        let h2 = then-gives h1.2 in
        subst (Typing g c (Pi b x s t)) (sym (one_gives h2.2))
        (pi (by-type c s (InferOf g fuel depth c s) (infer_typed c s) h1.0 h1.1) (by-type (entry b x s ∷ c) t (InferOf g fuel depth (entry b x s ∷ c) t) (infer_typed (entry b x s ∷ c) t) h2.0 h2.1))
    infer_typed c (Lam b x s t) a h =
        let h1 = then-gives h in
        let h2 = then-gives h1.2 in
        subst (Typing g c (Lam b x s t)) (sym (one_gives h2.2)) (lam (by-type c s (InferOf g fuel depth c s) (infer_typed c s) h1.0 h1.1) (infer_typed (entry b x s ∷ c) t h2.0 h2.1))
    infer_typed c (App b t u) a h =
        let h1 = then-gives h in
        let h2 = then-gives h1.2 in
        let h3 = then-gives h2.2 in
        let function = function-converts b h1.0 h2.0 h2.1 in
        subst (Typing g c (App b t u)) (sym (one_gives h3.2))
        (app {x = function.0} (convert (infer_typed c t h1.0 h1.1) function.1) (by-check c u (InferOf g fuel depth c u) (infer_typed c u) h2.0.0 h3.1))
    infer_typed c (Def f) a h = subst (Typing g c (Def f)) (sym (one_gives h.2)) (def h.1)
    infer_typed c (Fam d) a h = subst (Typing g c (Fam d)) (sym (one_gives h.2)) (fam h.1)
    infer_typed c (Con k ps) a h =
        let is = h.0 in
        let h1 = then-gives h.1 in
        subst (Typing g c (Con k ps)) (sym (one_gives h1.2)) (con is (fits_typed c ps is.decl.params [] [] none h1.1))
    infer_typed c (Proj f t) a h =
        let is = h.0 in
        let h1 = then-gives h.1 in
        let h2 = then-gives h1.2 in
        let h3 = then-gives h2.1 in
        let shown = record-shown is.fam is.decl h3.0.0 h3.0.1 h2.0 h3.2 in
        subst (Typing g c (Proj f t)) (sym (one_gives h2.2))
        (proj is h2.0 shown.as_many (convert (infer_typed c t h1.0 h1.1) (subst (Conv g h1.0) shown.is (spine-converts h1.0 h3.1.0 h3.0 h3.1.1 h3.1.2))))
    infer_typed c (Meta m ts) a h = cc

    fits_typed : (c : Context Term) (ts : Terms) (es : Telescope Term) (e : List Term) (base : Context Term) → Fits g c e base → FitsOf g fuel depth c ts es e (Gives tt) → Fits g c (reverse_aux (to_list ts) e) (onto es base)
    fits_typed c End [] e base f h = f
    fits_typed c End (z ∷ es) e base f h = absurd h
    fits_typed c (And t ts) [] e base f h = absurd h
    fits_typed c (And t ts) (z ∷ es) e base f h =
        let h1 = then-gives h in
        fits_typed c ts es (t ∷ e) (z ∷ base) (more f (by-check c t (InferOf g fuel depth c t) (infer_typed c t) (under e z.ty) h1.1)) h1.2
