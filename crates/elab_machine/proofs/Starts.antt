-- What names stand for, by what code looks up of them.
use Rattle.std.proofs.Common.{◌≡◌, ◌<◌, ◌≤◌, ◌-◌, ◌+◌, ℕ, List, [], ◌∷◌, ◌++◌, length, map, drop, take, refl, sym, ap, subst, ◌∙◌, arith, ⊎_elim}
use Rattle.std.specs.Prelude.{cond, reverse, slice_get, Option, Some, None, option_map}
use Rattle.std.specs.List.{AllByRecursion}
use Rattle.el_base.proofs.Throughout.{all-append, all-parts, all-at}
use Rattle.std.proofs.lemmas.List.{length-map, take-map, reverse-append, take-append-drop, take-append-le, take_all, length-reverse, length-drop}
use Rattle.std.proofs.lemmas.Bool.{cases_lt}
use Rattle.std.proofs.lemmas.Option.{slice_get-map, slice_get_past}
use Rattle.core_rules.specs.Term.{Term, Fam}
use Rattle.core_rules.specs.Signature.{Entry, FamDecl, Signature, defs, def_type, fams, fam_decl, con_counts, con_place, numbers, places}
use Rattle.core_rules.specs.Mapped.{entry_map, fam_map, telescope_map}
use Rattle.core_rules.specs.Heads.{Answer, Form}
use Rattle.core_rules.specs.Typing.{IsCon}
use Rattle.core_rules.proofs.Heads.Sound.{eqb_same}
use Rattle.core_rules.proofs.Heads.Mapped.{con_place-map}
use Rattle.core_rules.proofs.Scope.Named.{is_con_at}
use Rattle.core_terms.specs.Signature.{signature_in, con_total}
use Rattle.core_terms.proofs.SignatureGrowth.{def_type-map}
use Rattle.term_pool.specs.Pool.{Pool, tree}
use Rattle.weak_head.specs.Elims.{elim_in, spine_in, Below, AllBelow}
use Rattle.weak_head.specs.declared.elim.Elim as E
use Rattle.kernel_rules.specs.TermReading.{arguments_for}
use Rattle.weak_head.proofs.Lookups.{no_con}
use Rattle.declared_types.proofs.Grown.{fam_in}
use Rattle.declared_types.proofs.Named.{con_fam, con_family}
use Rattle.written_rules.specs.Rules.{con_found, con_start, params_of}
use Rattle.elab_machine.specs.declared.values.Value.{Value}
use Rattle.elab_machine.specs.Writer.{value_in, values_in}

-- the last n items, reversed
pub take_reverse : {X : Type 0} (n : ℕ) (xs : List X) → reverse (drop (length xs - n) xs) ≡ take n (reverse xs)
take_reverse {X} n xs = ⊎_elim
    (λ (h : n < length xs).
    let m = length xs - n in
    let a = reverse (drop m xs) in
    let e : reverse xs ≡ a ++ reverse (take m xs) = ap reverse (sym (take-append-drop m xs)) ∙ reverse-append (take m xs) (drop m xs) in
    let l : length a ≡ n = omega (arith, length-reverse (drop m xs), length-drop m xs) in
    sym (ap (take n) e ∙ (take-append-le n a (reverse (take m xs)) (omega (arith, l)) ∙ take_all n a (omega (arith, l)))))
    (λ (h : length xs ≤ n).
    let z : length xs - n ≡ 0 = omega arith in
    ap (λ k. reverse (drop k xs)) z ∙ sym (take_all n (reverse xs) (omega (arith, length-reverse xs))))
    (cases_lt n (length xs))

-- ---- parameters that a head form shows

pub dropped-below : (n m : ℕ) (xs ys : List E.Elim) → ys ≡ drop m xs → AllBelow n xs → AllBelow n ys
dropped-below n m xs ys e a = subst (AllBelow n) (sym e) (all-parts (Below n) (take m xs) (drop m xs) (subst (AllBelow n) (sym (take-append-drop m xs)) a)).1

-- the first n eliminations
pub first_elims : (f : ℕ → Term) (n : ℕ) (xs ys : List E.Elim) → ys ≡ drop (length xs - n) xs → spine_in f ys ≡ take n (spine_in f xs)
first_elims f n xs ys e = ap (spine_in f) e ∙ ap (map (elim_in f)) (take_reverse n xs) ∙ sym (take-map (elim_in f) n (reverse xs))

module _ (f : ℕ → Term) (d : ℕ) (x : FamDecl ℕ) where
  pub params_in : (es : List (Entry ℕ)) (xs ys : List E.Elim) → es ≡ x.params → 0 < length es → ys ≡ drop (length xs - length es) xs
      → arguments_for (telescope_map f es) (spine_in f ys) ≡ params_of d (fam_map f x) (telescope_map f x.params) (Some (Form (Fam d) (spine_in f xs)))
  params_in es xs ys e l s = of es e l (first_elims f (length es) xs ys s)
    where
      of : (es : List (Entry ℕ)) → es ≡ x.params → 0 < length es → spine_in f ys ≡ take (length es) (spine_in f xs)
          → arguments_for (telescope_map f es) (spine_in f ys) ≡ params_of d (fam_map f x) (telescope_map f x.params) (Some (Form (Fam d) (spine_in f xs)))
      of [] e l s = absurd (omega arith)
      of (c ∷ es) e l s =
          let ds = spine_in f xs in
          let all : List (Entry ℕ) = c ∷ es in
          let some : arguments_for (telescope_map f all) (spine_in f ys) ≡ arguments_for (telescope_map f x.params) (take (length (telescope_map f x.params)) ds) =
          ap (arguments_for (telescope_map f all)) (s ∙ ap (λ n. take n ds) (sym (length-map all (entry_map f)))) ∙ ap (λ (ps : List (Entry ℕ)). arguments_for (telescope_map f ps) (take (length (telescope_map f ps)) ds)) e in
          let own : arguments_for (telescope_map f all) (spine_in f ys) ≡ params_of d (fam_map f x) (telescope_map f all) (Some (Form (Fam d) ds)) =
          some ∙ sym (ap (λ b. cond b (arguments_for (telescope_map f x.params) (take (length (telescope_map f x.params)) ds)) None) (eqb_same d)) in
          subst (λ (ps : List (Entry ℕ)). arguments_for (telescope_map f all) (spine_in f ys) ≡ params_of d (fam_map f x) (telescope_map f ps) (Some (Form (Fam d) ds))) e own

-- ---- names

-- a source variable
pub value-at : (p : Pool) (n i : ℕ) (vs : List Value) (o : Option Value) → o ≡ slice_get (reverse vs) i → slice_get (values_in p n vs) i ≡ option_map (value_in p n) o
value-at p n i vs o e = slice_get-map (value_in p n) (reverse vs) i ∙ ap (option_map (value_in p n)) (sym e)

-- a constructor at the parameters of its family
pub con_start-is : (g : Signature Term) (k : ℕ) (is : IsCon g k) (w : Option Answer) → con_start g k w ≡ option_map (con_found k is.fam is.decl is.con) (params_of is.fam is.decl is.decl.params w)
con_start-is g k is w = rw (is.place, is.is_decl, is.is_con) refl

-- a constructor is one of a family
places_below : (n b : ℕ) (ns : List ℕ) → b + length ns ≤ n → AllByRecursion (λ (p : ℕ × ℕ). p.0 < n) (places b ns)
places_below n b [] l = tt
places_below n b (m ∷ ns) l = all-append (λ (p : ℕ × ℕ). p.0 < n) (map (λ i. (b, i)) (numbers 0 m)) (places (b + 1) ns) (here (numbers 0 m)) (places_below n (b + 1) ns (omega (arith, l)))
  where
    here : (is : List ℕ) → AllByRecursion (λ (p : ℕ × ℕ). p.0 < n) (map (λ i. (b, i)) is)
    here [] = tt
    here (i ∷ is) = (omega (arith, l), here is)

pub fam_of_con : (g : Signature ℕ) (k a b : ℕ) → con_place g k ≡ Some (a, b) → a < length (fams g)
fam_of_con g k a b h =
    let n = length-map (fams g) (λ d. length d.cons) in
    all-at (λ (p : ℕ × ℕ). p.0 < length (fams g)) (places 0 (con_counts g)) k (a, b) (places_below (length (fams g)) 0 (con_counts g) (omega (arith, n))) h

module _ (p : Pool) (g : Signature ℕ) where
  pub no_def : (f : ℕ) → length (defs g) ≤ f → def_type (signature_in p g) f ≡ None
  no_def f l = def_type-map (tree p) g f ∙ rw (slice_get_past (defs g) f l) refl

  pub no_start : (k : ℕ) (w : Option Answer) → con_total g ≤ k → con_start (signature_in p g) k w ≡ None
  no_start k w l = rw (con_place-map (tree p) g k, no_con g k l) refl

  module _ (k a b : ℕ) (x : FamDecl ℕ) (place : con_place g k ≡ Some (a, b)) (h : fam_decl g a ≡ Some x) where
    pub con_named : IsCon (signature_in p g) k
    con_named =
        let at : con_place (signature_in p g) k ≡ Some (a, b) = con_place-map (tree p) g k ∙ place in
        let decl : fam_decl (signature_in p g) a ≡ Some (fam_map (tree p) x) = fam_in p g a x h in
        (is_con_at (signature_in p g) k (length (fam_map (tree p) x).params) (rw (at, decl) refl)).0

    pub starts_at : (w : Option Answer) → con_start (signature_in p g) k w ≡ option_map (con_found k con_named.fam con_named.decl con_named.con) (params_of a (fam_map (tree p) x) (telescope_map (tree p) x.params) w)
    starts_at w =
        let is = con_named in
        con_start-is (signature_in p g) k is w
        ∙ ap (option_map (con_found k is.fam is.decl is.con)) (ap (λ d. params_of d is.decl is.decl.params w) (con_fam p g k a b x place h is) ∙ ap (λ (d : FamDecl Term). params_of a d d.params w) (con_family p g k a b x place h is))
